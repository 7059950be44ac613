-- A gateway that could be handed over can be again, after any list of calls that can be made, once none waits; so can one that a
-- list of calls left, from every start. Assumes nothing.
use mathlib.Core.Path.{◌≡◌, refl, sym, ◌∙◌, subst}
use mathlib.Core.Bool.{Bool, true, false, ◌&&◌}
use mathlib.Core.List.{List, [], ◌∷◌, ◌++◌, map, append-nil, append_assoc}
use Prim.Native.Nat.{ℕ, ◌<◌}
use native.Mathlib.Omega.{arith}
use lib.Dec.{leb}
use borrow.Author.Tests.{leb-true, ne_eqb}
use Rattle.lists.specs.Filter.{any, All}
use Rattle.lists.proofs.Filters.{and_left, and_right, map-append}
use Rattle.devices.specs.declared.row.Row.{Row}
use Rattle.devices.specs.Table.{addressed}
use Rattle.dates.specs.declared.date.Date.{Date}
use Rattle.dates.specs.Date.{is_between, day_valid, valid, no_date, valid_or, ValidOrNA}
use Rattle.dates.specs.Date.ValidOrNA.{is_valid, is_na}
use Rattle.dates.proofs.Dates.{valid_or_same, valid_or_other}
use Rattle.gateway.specs.declared.gateway.Gateway.{Gateway}
use Rattle.gateway.specs.State.{State}
use Rattle.gateway.specs.View.{view}
use Rattle.ledger.specs.Call.{Call, gateway_after}
use Rattle.ledger.specs.Demand3.{Distinct}
use Rattle.ledger.specs.Start.{Start, gateway_of, rows_at}
use Rattle.ledger.specs.Possible.{Possible, PossibleStart}
use Rattle.transfer.specs.Ready.{OwnAddresses, Ready}
use Rattle.ledger.proofs.Invariants.{all_any, calls_keep}
use Rattle.ledger.proofs.Ruled.{Ruled, ruled_right, right_ruled, distinct_append, address_new, ruled_kept}
use Rattle.ledger.proofs.Dated.{Dated, dated_kept}
use Rattle.ledger.proofs.Fitting.{Fitting, fitting_kept}
use Rattle.ledger.proofs.Readers.{fresh_fitting, read_fitting}
use Rattle.ledger.proofs.Theorem.{begins}

-- ---- addresses

abbrev addresses : List Row → List ℕ
addresses l = map (λ r. r.address) l

-- what holds of all addresses holds of that of the row between
all_middle : (P : ℕ → Type 0) (k : List Row) (r : Row) (l : List Row) → All P (addresses (k ++ (r ∷ l))) → P r.address
all_middle P [] r l h = h.0
all_middle P (x ∷ k) r l h = all_middle P k r l h.1

apart : (k : List Row) (r : Row) (l : List Row) → Distinct (addresses (k ++ (r ∷ l))) → any (addressed r.address) k ≡ false
apart [] r l d = refl
apart (x ∷ k) r l d =
    rw (ne_eqb x.address r.address (all_middle (λ y. x.address ≡ y → ⊥) k r l d.0)) (apart k r l d.1)

own_addresses : (k l : List Row) → Distinct (addresses (k ++ l)) → OwnAddresses k l
own_addresses k [] d = tt
own_addresses k (r ∷ l) d =
    (apart k r l d, own_addresses (k ++ (r ∷ [])) l (subst (λ (m : List Row). Distinct (addresses m)) (sym (append_assoc k (r ∷ []) l)) d))

addresses_once : (k l : List Row) → Distinct (addresses k) → OwnAddresses k l → Distinct (addresses (k ++ l))
addresses_once k [] d o = rw (append-nil k) d
addresses_once k (r ∷ l) d o =
    subst (λ (m : List Row). Distinct (addresses m)) (append_assoc k (r ∷ []) l)
    (addresses_once (k ++ (r ∷ [])) l
    (rw (map-append (λ (x : Row). x.address) k (r ∷ [])) (distinct_append (addresses k) r.address d (address_new k r.address o.0)))
    o.1)

-- ---- the date

year_fits : (d : Date) → ValidOrNA d → d.year < 65536
unfolding valid day_valid is_between no_date
year_fits d (is_valid v) =
    let day = and_left (is_between 2000 d.year 2255 && _) _ v in
    let year = and_left (is_between 2000 d.year 2255) _ day in
    let high = leb-true d.year 2255 (and_right (leb 2000 d.year) (leb d.year 2255) year) in
    omega (arith, high)
year_fits d (is_na e) = rw e (omega arith)

settled_right : (d : Date) → valid_or d no_date ≡ d → ValidOrNA d
settled_right d e = go (valid d) refl
  where
    go : (t : Bool) → valid d ≡ t → ValidOrNA d
    go true v = is_valid v
    go false v = is_na (sym e ∙ valid_or_other d no_date v)

-- ---- ready, by what each call keeps

record Kept (g : State) : Type 0 where
  ruled : Ruled g.table
  dated : Dated g
  fitting : Fitting g

of_ready : (g : State) → Ready g → Kept g
of_ready g k =
    record {
      ruled =
          right_ruled g.table
          (record { rules = k.rules; once = addresses_once [] g.table tt k.own_addresses; few = k.few });
      dated = settled_right g.properties.date k.values.settled;
      fitting = record { numbers = (k.values.error, (k.values.firmware, (k.values.protocol, tt))); rows = k.fits };
    }

is_ready : (g : State) → g.queue ≡ [] → Kept g → Ready g
is_ready g e k =
    let right = ruled_right g.table k.ruled in
    record {
      none_waits = e;
      values =
          record {
            error = k.fitting.numbers.0;
            firmware = k.fitting.numbers.1.0;
            protocol = k.fitting.numbers.1.1.0;
            year = year_fits g.properties.date k.dated;
            settled = valid_or_same g.properties.date k.dated;
          };
      fits = k.fitting.rows;
      rules = right.rules;
      own_addresses = own_addresses [] g.table right.once;
      few = right.few;
    }

-- ---- a list of calls

pub ready_again : (g : Gateway) (cs : List Call) → Ready (view g) → All Possible cs → (view (gateway_after g cs)).queue ≡ [] → Ready (view (gateway_after g cs))
ready_again g cs r p e =
    let k = of_ready (view g) r in
    is_ready (view (gateway_after g cs)) e
    (record {
      ruled = calls_keep _ ruled_kept g cs (all_any cs) k.ruled;
      dated = calls_keep Dated dated_kept g cs (all_any cs) k.dated;
      fitting = calls_keep Fitting fitting_kept g cs p k.fitting;
    })

start_fitting : (s : Start) → PossibleStart s → Fitting (view (gateway_of s))
start_fitting (Start.fresh w p) k = fresh_fitting w p k.0 k.1
start_fitting (Start.read w p n bytes) k = read_fitting w p k.0 k.1 n bytes

start_ready : (s : Start) → PossibleStart s → Ready (view (gateway_of s))
start_ready s p =
    let b = begins s in
    is_ready (view (gateway_of s)) b.none_waits
    (record { ruled = subst Ruled (sym b.table) (right_ruled (rows_at s) b.rows_right); dated = b.date; fitting = start_fitting s p })

-- from every start: also a gateway that was read can be handed over once more
pub ready : (s : Start) (cs : List Call) → PossibleStart s → All Possible cs → (view (gateway_after (gateway_of s) cs)).queue ≡ []
    → Ready (view (gateway_after (gateway_of s) cs))
ready s cs p = ready_again (gateway_of s) cs (start_ready s p)
