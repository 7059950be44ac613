-- What a record leaves as it was: only an Update, and only of ReportingEnable or DateTime, changes the properties; and the stored date
-- is valid or NA after every record, where it was before. Assumes nothing.
use mathlib.Core.Path.{◌≡◌, refl, sym, ap, ◌∙◌, subst}
use mathlib.Core.Logic.{◌≢◌}
use mathlib.Core.Bool.{Bool, true, false, ◌||◌, cond}
use mathlib.Core.List.{List}
use Prim.Native.Nat.{ℕ}
use lib.Dec.{eqb}
use Rattle.std.specs.Prelude.{Some, Ok}
use borrow.Author.Tests.{ne_eqb}
use Rattle.lists.specs.Filter.{every}
use Rattle.lists.proofs.Clash.{clash}
use Rattle.lists.proofs.Members.{mem_every}
use Rattle.devices.specs.declared.row.Row.{Row}
use Rattle.dates.specs.Date.{valid_or, ValidOrNA}
use Rattle.dates.proofs.Dates.{valid_or_right}
use Rattle.trpc.specs.Bytes.{byte_at, long_at}
use Rattle.trpc.specs.Services.{is_update, service_of_reply}
use Rattle.trpc.specs.Methods.{methods, date_time, entry_with}
use Rattle.trpc.specs.Date.{date_in}
use Rattle.trpc.specs.Properties.{with_reporting, with_date, updated, after_record}
use Rattle.trpc.specs.Judging.{entry_in, subject_in, judge}
use Rattle.trpc.specs.Payload.{gateway_payload}
use Rattle.trpc.specs.Replies.{respond_gateway, respond_device, respond}
use Rattle.trpc.specs.DateAnswers.{DateAnswered}
use Rattle.trpc.specs.declared.properties.Properties.{Properties}
use Rattle.trpc.specs.declared.methods.Entry.{Entry}
use Rattle.trpc.specs.declared.methods.GatewayMethod.TheVariants.{DateTime}
use Rattle.trpc.specs.declared.methods.OnUpdate.{OnUpdate}
use Rattle.trpc.specs.declared.methods.OnUpdate.TheVariants.{NotUsed, RepliesCurrent, SetsReporting, SetsDate, Queues}
use Rattle.trpc.specs.declared.judging.Subject.{Subject}
use Rattle.trpc.specs.declared.judging.Subject.TheVariants.{Own, Device}
use Rattle.trpc.specs.declared.judging.Judged.TheVariants.{Answers}
use Rattle.trpc.proofs.Listed.{entry_member, entry_id}
use Rattle.trpc.proofs.Checks.{answers_tells}
use Rattle.trpc.proofs.Finds.{some_is}

-- ---- the Updates that change no property

abbrev keeps : OnUpdate → Bool
keeps NotUsed = true
keeps RepliesCurrent = true
keeps SetsReporting = false
keeps SetsDate = false
keeps Queues = true

keeps_same : (g : Properties) (u : OnUpdate) (c : List ℕ) → keeps u ≡ true → updated g u c ≡ g
unfolding updated
keeps_same g NotUsed c h = refl
keeps_same g RepliesCurrent c h = refl
keeps_same g SetsReporting c h = clash cc
keeps_same g SetsDate c h = clash cc
keeps_same g Queues c h = refl

-- those of every method but ReportingEnable and DateTime
abbrev keeps_or_sets : Entry → Bool
keeps_or_sets e = keeps e.update || (eqb e.id 0x10F || eqb e.id 0x1A7)

two_set : every keeps_or_sets methods ≡ true
unfolding methods
two_set = refl

or_first : (a b c : Bool) → (a || (b || c)) ≡ true → b ≡ false → c ≡ false → a ≡ true
or_first true b c h p q = refl
or_first false b c h p q = rw (p, q) at h

entry_keeps : (id : ℕ) (e : Entry) → entry_with id ≡ Some e → e.id ≢ 0x10F → e.id ≢ 0x1A7 → keeps e.update ≡ true
entry_keeps id e l a b =
    or_first (keeps e.update) (eqb e.id 0x10F) (eqb e.id 0x1A7) (mem_every keeps_or_sets two_set (entry_member id e l)) (ne_eqb e.id 0x10F a) (ne_eqb e.id 0x1A7 b)

either : (b : Bool) (x y : Properties) → x ≡ y → cond b x y ≡ y
either true x y h = h
either false x y h = refl

-- ---- the properties after a record

module _ (c : List ℕ) (e : Entry) (g : Properties) (t : List Row) where
  kept : (s : Subject) → after_record g e.update c ≡ g → (respond c e s g t).properties ≡ g
  unfolding respond respond_gateway respond_device
  kept (Own m) h = h
  kept (Device m i) h = refl

  -- what is no Update changes nothing
  pub request_keeps : (s : Subject) → is_update (byte_at c 0) ≡ false → (respond c e s g t).properties ≡ g
  unfolding after_record
  request_keeps s h = kept s (rw h)

  pub other_keeps : (s : Subject) → entry_in c ≡ Some e → long_at c 1 ≢ 0x10F → long_at c 1 ≢ 0x1A7 → (respond c e s g t).properties ≡ g
  unfolding after_record
  other_keeps s l a b =
      let id = entry_id (long_at c 1) e l in
      kept s
      (either (is_update (byte_at c 0)) (updated g e.update c) g
      (keeps_same g e.update c (entry_keeps (long_at c 1) e l (λ h. a (sym id ∙ h)) (λ h. b (sym id ∙ h)))))

-- ---- the date

-- an Update of DateTime that is answered at once: its entry and its subject are those of DateTime
pub date_answered : (ptype : ℕ) (c : List ℕ) (t : List Row) (e : Entry) (s : Subject) (g : Properties) → judge ptype c t ≡ Ok (Answers e s) → long_at c 1 ≡ 0x1A7
    → is_update (byte_at c 0) ≡ true → DateAnswered c g (respond c e s g t)
unfolding methods entry_with respond respond_gateway after_record updated with_date gateway_payload valid_or service_of_reply
date_answered ptype c t e s g h m u =
    let n = answers_tells c t e s ptype h in
    let entry : date_time ≡ e = some_is date_time e (ap entry_with (sym m) ∙ n.entry) in
    let subject : Own DateTime ≡ s = some_is (Own DateTime) s (ap (λ (x : Entry). subject_in c t x.method) entry ∙ n.subject) in
    let answered : DateAnswered c g (respond c date_time (Own DateTime) g t) = record { good = λ v. rw (u, v); impossible = λ v. rw (u, v) } in
    subst (λ (x : Entry). DateAnswered c g (respond c x s g t)) entry
    (subst (λ (y : Subject). DateAnswered c g (respond c date_time y g t)) subject answered)

updated_dated : (g : Properties) (u : OnUpdate) (c : List ℕ) → ValidOrNA g.date → ValidOrNA (updated g u c).date
unfolding updated with_reporting with_date
updated_dated g NotUsed c k = k
updated_dated g RepliesCurrent c k = k
updated_dated g SetsReporting c k = k
updated_dated g SetsDate c k = valid_or_right (date_in c) g.date k
updated_dated g Queues c k = k

-- a record leaves the stored date valid or NA
pub respond_dated : (c : List ℕ) (e : Entry) (s : Subject) (g : Properties) (t : List Row) → ValidOrNA g.date → ValidOrNA (respond c e s g t).properties.date
unfolding respond respond_gateway respond_device after_record
respond_dated c e (Own m) g t k = go (is_update (byte_at c 0))
  where
    go : (b : Bool) → ValidOrNA (cond b (updated g e.update c) g).date
    go true = updated_dated g e.update c k
    go false = k
respond_dated c e (Device m i) g t k = k
