-- `interpreter::keeping::Kept::gather` meets its contract: a bad word, no room, or the bytes are put.
use Rattle.std.proofs.Common.{ℕ, replicate, ◌+◌, ◌-◌, refl, sym, ◌∙◌, length, rules, arith}
use lib.ListN.{length-replicate}
use Rattle.script.specs.Place.{place}
use Rattle.interpreter.specs.Limits.{longest}
use Rattle.interpreter.proofs.Lent.{bytes_bad, bytes_read}
use Rattle.interpreter.proofs.Gatherings.{gather_bad, gather_full, gather_put}
use Rattle.interpreter.proofs.keeping.Kept.gather.Goals as goal

pub returns-in_default : goal.returns-in_default
returns-in_default c =
    let words = c.args.words in
    let none = bytes_bad (replicate longest 0) (length-replicate {A = ℕ} longest 0) words.line.now (place words) (sym c.read_bytes.ensures.count ∙ c.in_default.is) in
    gather_bad c.args.self.now words.line.now (place words) none c.trim.ensures.store c.trim.ensures.count (search rules)

pub returns-then-store-at : goal.returns-then-store-at
returns-then-store-at c =
    let words = c.args.words in
    let bytes = bytes_read (replicate longest 0) (length-replicate {A = ℕ} longest 0) words.line.now (place words) (sym c.read_bytes.ensures.count ∙ c.in-Ok.is) c.read_bytes.ensures.bytes c.take-listed.ensures in
    gather_full c.args.self.now words.line.now (place words) bytes.0 bytes.1 (rw (c.trim.ensures.store, c.trim.ensures.count) at c.if-store-at.true) c.trim.ensures.store c.trim.ensures.count refl

pub returns : goal.returns
returns c =
    let words = c.args.words in
    let bytes = bytes_read (replicate longest 0) (length-replicate {A = ℕ} longest 0) words.line.now (place words) (sym c.read_bytes.ensures.count ∙ c.in-Ok.is) c.read_bytes.ensures.bytes c.take-listed.ensures in
    gather_put c.args.self.now words.line.now (place words) bytes.0 bytes.1 (rw (c.trim.ensures.store, c.trim.ensures.count) at c.if-store-at.false) (rw c.trim.ensures.store) c.trim.new.self.count (c.trim.new.self.count + length c.take-listed.result.now - c.trim.new.self.count) c.trim.ensures.count (omega arith) (rw (c.trim.ensures.store, c.copy_from_slice.ensures.after)) refl refl
