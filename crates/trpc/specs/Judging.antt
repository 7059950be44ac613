-- The judgement of a complete frame: the checks 7 to 14, then steps 1 and 2 of an Update that is queued (01, "From frame to answer").
-- It depends on the frame's type and content and on the rows of the table, and on nothing else.
use Rattle.std.specs.Prelude.{ℕ, ◌+◌, ◌-◌, List, [], ◌∷◌, ◌≡◌, Bool, true, false, not, cond, eqb, ltb, length, take, Option, Some, None, is_none, Result, Ok, Err}
use Rattle.std.specs.List as list
use Rattle.lists.specs.Filter.{All}
use Rattle.devices.specs.declared.row.Row.{Row}
use Rattle.devices.specs.declared.field.Setting.{Setting}
use Rattle.devices.specs.declared.field.Setting.TheVariants.{Mode, Cool, Slab, Fan}
use Rattle.devices.specs.Field.{field_of}
use Rattle.devices.specs.Row.{state_for, settable}
use Rattle.devices.specs.Table.{find, row_at}
use Rattle.trpc.specs.Bytes.{byte_at, word_at, long_at}
use Rattle.trpc.specs.Services.{is_update, accepted}
use Rattle.trpc.specs.Methods.{entry_with, used_with, too_high}
use Rattle.trpc.specs.declared.methods.Entry.{Entry}
use Rattle.trpc.specs.declared.methods.Method.{Method}
use Rattle.trpc.specs.declared.methods.Method.TheVariants.{OfGateway, OfDevice}
use Rattle.trpc.specs.declared.methods.DeviceMethod.{DeviceMethod}
use Rattle.trpc.specs.declared.methods.DeviceMethod.TheVariants.{DeviceAttributes, ModeSetting, CoolSetpoint, SlabSetpoint, FanPercent, SetbackEvents, DeviceVersion}
use Rattle.trpc.specs.declared.judging.FrameError.{FrameError}
use Rattle.trpc.specs.declared.judging.FrameError.TheVariants.{WrongType, TooShort, WrongService, UnknownMethod, ServiceNotUsed, WrongWidth, UnknownAddress, StateTooHigh}
use Rattle.trpc.specs.declared.judging.Subject.{Subject}
use Rattle.trpc.specs.declared.judging.Subject.TheVariants.{Own, Device}
use Rattle.trpc.specs.declared.judging.Judged.{Judged}
use Rattle.trpc.specs.declared.judging.Judged.TheVariants.{Asks, Answers}

-- (01) the type of a frame that holds a record
abbrev pub record_type : ℕ
record_type = 6

-- (01) the numbers of the refusals
abbrev pub number_of : FrameError → ℕ
number_of WrongType = 7
number_of TooShort = 8
number_of WrongService = 9
number_of UnknownMethod = 10
number_of ServiceNotUsed = 11
number_of WrongWidth = 12
number_of UnknownAddress = 13
number_of StateTooHigh = 14

-- ---- what a content names

-- (01) the entry of its method; all four bytes of the number count
abbrev pub entry_in : List ℕ → Option Entry
entry_in c = entry_with (long_at c 1)

-- (01) the device with a row at the place found, if there is one
abbrev pub device_at : DeviceMethod → Option ℕ → Option Subject
device_at m (Some i) = Some (Device m i)
device_at m None = None

-- (01) whom it is for: a device by the address in front of its fields; the methods of the gateway have no address
abbrev pub subject_in : List ℕ → List Row → Method → Option Subject
subject_in c t (OfGateway m) = Some (Own m)
subject_in c t (OfDevice m) = device_at m (find t (word_at c 5))

-- ---- the checks, each by itself (01, "Numbers of refusal")

-- (01, 14) state above 7, of the byte as sent
abbrev pub state_too_high : List ℕ → Method → Bool
state_too_high c (OfGateway m) = false
state_too_high c (OfDevice m) = too_high m (byte_at c 7)

-- (ours) 11 to 14 go by the entry of the method, and refuse nothing where the method is not listed: that is 10
abbrev pub by_entry : (Entry → Bool) → Option Entry → Bool
by_entry p None = false
by_entry p (Some e) = p e

-- (01) what each refuses: type not 6; under 5 data bytes; service not 0 or 1; method not listed; service not used with it; field
-- bytes differ from the list; address not in the table; state above 7
unfoldable pub breaks : ℕ → List ℕ → List Row → FrameError → Bool
breaks ptype c t WrongType = not (eqb ptype record_type)
breaks ptype c t TooShort = ltb (length c) 5
breaks ptype c t WrongService = not (accepted (byte_at c 0))
breaks ptype c t UnknownMethod = is_none (entry_in c)
breaks ptype c t ServiceNotUsed = by_entry (λ e. not (used_with e (byte_at c 0))) (entry_in c)
breaks ptype c t WrongWidth = by_entry (λ e. not (eqb (length c) (e.width + 5))) (entry_in c)
breaks ptype c t UnknownAddress = by_entry (λ e. is_none (subject_in c t e.method)) (entry_in c)
breaks ptype c t StateTooHigh = by_entry (λ e. state_too_high c e.method) (entry_in c)

-- (01) the checks of the subject, in their order: 13, 14
abbrev pub subject_checks : List FrameError
subject_checks = UnknownAddress ∷ StateTooHigh ∷ []

-- (01) those that go by the entry of the method: 11 to 14
abbrev pub entry_checks : List FrameError
entry_checks = ServiceNotUsed ∷ WrongWidth ∷ subject_checks

-- (01) those of a record of five bytes or more: 9 to 14
abbrev pub record_checks : List FrameError
record_checks = WrongService ∷ UnknownMethod ∷ entry_checks

-- (01) all eight in their order: 7 to 14
abbrev pub checks : List FrameError
checks = WrongType ∷ TooShort ∷ record_checks

-- ---- steps 1 and 2

-- (01) mask bit missing, or value not settable (ours): answered at once; else the update is to be queued
unfoldable pub asks : (answer : Judged) → Row → Setting → ℕ → Judged
asks answer r x v = cond (settable r x v) (Asks (field_of r.address x) v) answer

-- (01) an Update to a device, by its method; the queue carries the state that state 7 stood for
unfoldable pub asked : (answer : Judged) → Row → DeviceMethod → List ℕ → Judged
asked answer r DeviceAttributes c = answer
asked answer r ModeSetting c = asks answer r Mode (byte_at c 7)
asked answer r CoolSetpoint c = asks answer r (Cool (state_for r (byte_at c 7))) (byte_at c 8)
asked answer r SlabSetpoint c = asks answer r (Slab (state_for r (byte_at c 7))) (byte_at c 8)
asked answer r FanPercent c = asks answer r (Fan (state_for r (byte_at c 7))) (byte_at c 8)
asked answer r SetbackEvents c = answer
asked answer r DeviceVersion c = answer

-- (01) an Update to a device goes by steps 1 and 2, and a Request is answered
unfoldable pub device_steps : (answer : Judged) → Row → DeviceMethod → List ℕ → Judged
device_steps answer r m c = cond (is_update (byte_at c 0)) (asked answer r m c) answer

-- (01) 14, then the steps
unfoldable pub judge_device : (answer : Judged) → Row → DeviceMethod → List ℕ → Result Judged FrameError
judge_device answer r m c = cond (too_high m (byte_at c 7)) (Err StateTooHigh) (Ok (device_steps answer r m c))

-- (01) the steps of a record, by its subject: what is for the gateway itself is answered; with no subject it is 13 (ours: `breaks`
-- refuses it before)
unfoldable pub subject_steps : Entry → Option Subject → List ℕ → List Row → Result Judged FrameError
subject_steps e None c t = Err UnknownAddress
subject_steps e (Some (Own m)) c t = Ok (Answers e (Own m))
subject_steps e (Some (Device m i)) c t = Ok (device_steps (Answers e (Device m i)) (row_at t i) m c)

-- (01) the steps of a record, by the entry of its method; with no entry it is 10 (ours: `breaks` refuses it before)
unfoldable pub steps : Option Entry → List ℕ → List Row → Result Judged FrameError
steps None c t = Err UnknownMethod
steps (Some e) c t = subject_steps e (subject_in c t e.method) c t

-- ---- the judgement

-- (01) refused by the check that is broken, if one is
abbrev pub refused_or : {A : Type 0} → Option FrameError → Result A FrameError → Result A FrameError
refused_or None j = j
refused_or (Some x) j = Err x

-- (01) the first of these checks that the frame breaks, else the steps
unfoldable pub judge_from : List FrameError → ℕ → List ℕ → List Row → Result Judged FrameError
judge_from l ptype c t = refused_or (list.find (breaks ptype c t) l) (steps (entry_in c) c t)

-- (01) the judgement of a frame's type, its content and the rows: the checks 7 to 14 in their order, then the steps
unfoldable pub judge : ℕ → List ℕ → List Row → Result Judged FrameError
judge ptype c t = judge_from checks ptype c t

-- (01) the number of a judgement; an update that is asked for and a reply have none
abbrev pub refusal_of : Result Judged FrameError → Option ℕ
refusal_of (Err x) = Some (number_of x)
refusal_of (Ok j) = None

-- ---- in words: which check refuses, and what an answer at once goes by (proved in proofs/Checks.antt)

module _ (ptype : ℕ) (c : List ℕ) (t : List Row) where
  -- (01) the frame passes each of these checks
  abbrev pub Passes : List FrameError → Type 0
  Passes l = All (λ x. breaks ptype c t x ≡ false) l

  -- (01) the frame passes the checks before x, and breaks x
  pub record FirstBroken (x : FrameError) : Type 0 where
    pub passed : Passes (take (number_of x - 7) checks)
    pub broken : breaks ptype c t x ≡ true

-- (01) the content names this entry, by its method, and this subject, by its address
pub record Names (c : List ℕ) (t : List Row) (e : Entry) (s : Subject) : Type 0 where
  pub entry : entry_in c ≡ Some e
  pub subject : subject_in c t e.method ≡ Some s
