-- The services of a record: its first byte (000's table of services). 2 is Report, which this build neither takes nor sends (01).
use Rattle.std.specs.Prelude.{ℕ, Bool, ◌||◌, cond, eqb}

-- (000) Update: a value is to be changed
abbrev pub update : ℕ
update = 0

-- (000) Request: a value is to be read
abbrev pub request : ℕ
request = 1

-- (000) Response:Update: the answer to an Update, with the value accepted
abbrev pub response_update : ℕ
response_update = 3

-- (000) Response:Request: the answer to a Request
abbrev pub response_request : ℕ
response_request = 4

-- (000) the service is Update
abbrev pub is_update : ℕ → Bool
is_update s = eqb s update

-- (01, 9) what a record may bring
unfoldable pub accepted : ℕ → Bool
accepted s = eqb s update || eqb s request

-- (01) a reply carries Response:Update to an Update, and Response:Request to a Request
unfoldable pub service_of_reply : ℕ → ℕ
service_of_reply s = cond (is_update s) response_update response_request
