-- The data of a reply: to a record at once, with the properties after it, and to a confirmed update (01).
use Rattle.std.specs.Prelude.{ℕ, ◌+◌, List, ◌∷◌, ◌++◌, length}
use Rattle.devices.specs.declared.row.Row.{Row}
use Rattle.devices.specs.declared.field.Field.{Field}
use Rattle.devices.specs.Field.{setting}
use Rattle.devices.specs.Table.{row_at}
use Rattle.trpc.specs.Bytes.{byte_at, bytes_of, pad}
use Rattle.trpc.specs.Services.{response_update, service_of_reply}
use Rattle.trpc.specs.Methods.{entry_of}
use Rattle.trpc.specs.Properties.{after_record}
use Rattle.trpc.specs.Payload.{setting_payload, gateway_payload, device_payload}
use Rattle.trpc.specs.declared.payload.Payload.{Payload}
use Rattle.trpc.specs.declared.properties.Properties.{Properties}
use Rattle.trpc.specs.declared.methods.Entry.{Entry}
use Rattle.trpc.specs.declared.methods.GatewayMethod.{GatewayMethod}
use Rattle.trpc.specs.declared.methods.DeviceMethod.{DeviceMethod}
use Rattle.trpc.specs.declared.judging.Subject.{Subject}
use Rattle.trpc.specs.declared.judging.Subject.TheVariants.{Own, Device}
use Rattle.trpc.specs.declared.replies.Reply.{Reply}
use Rattle.trpc.specs.declared.replies.Responded.{Responded}

-- (01) a record: service, method, payload
abbrev pub record_of : ℕ → ℕ → List ℕ → List ℕ
record_of service id payload = service ∷ (bytes_of 4 id ++ payload)

-- ---- at once

-- (01) the properties after a record, and the data of its reply
pub record Response : Type 0 where
  pub properties : Properties
  pub content : List ℕ

-- (ours) these properties, and a reply of this data
abbrev pub response : Properties → List ℕ → Response
response g l = record { properties = g; content = l }

-- (01) the same method, with the service that answers the record's
abbrev pub answer : List ℕ → Entry → List ℕ → List ℕ
answer c e payload = record_of (service_of_reply (byte_at c 0)) e.id payload

-- (01) of a method of the gateway: by the properties after the record
unfoldable pub respond_gateway : List ℕ → Entry → GatewayMethod → Properties → Response
respond_gateway c e m g = response (after_record g e.update c) (answer c e (gateway_payload (after_record g e.update c) m c))

-- (01) of a method of a device: by its row; the properties stay
unfoldable pub respond_device : List ℕ → Entry → DeviceMethod → Properties → Row → Response
respond_device c e m g r = response g (answer c e (device_payload r m c))

-- (01) the reply to a record that passed the checks, by the entry and the subject that they found
unfoldable pub respond : List ℕ → Entry → Subject → Properties → List Row → Response
respond c e (Own m) g t = respond_gateway c e m g
respond c e (Device m i) g t = respond_device c e m g (row_at t i)

-- ---- to a confirmed update

-- (01, "Turn") the Response:Update of a field with the value that the device accepted
unfoldable pub confirm : Field → ℕ → List ℕ
confirm f v = record_of response_update (entry_of (setting f)).id (setting_payload f.address (setting f) v)

-- ---- as the structs have them: twelve places, with zeros after the data

-- (ours) the data of a reply, and how many bytes they are
abbrev pub reply_of : List ℕ → Reply
reply_of l = record { len = length l; bytes = pad 12 l }

-- (ours) a record in the struct of a reply, by the struct of its payload
abbrev pub encode : ℕ → ℕ → Payload → Reply
encode service id payload = record { len = payload.len + 5; bytes = service ∷ (bytes_of 4 id ++ payload.bytes) }

-- (ours) the properties after a record, and its reply
abbrev pub responded : Response → Responded
responded x = record { properties = x.properties; reply = reply_of x.content }
