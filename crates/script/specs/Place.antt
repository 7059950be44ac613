-- How far the reading of a line is (ours: docs/REPLAY.md), and what a reader hands back.
use Rattle.std.specs.Prelude.{ℕ, ◌≡◌, Bool, true, List}
use Rattle.script.specs.declared.cursor.Cursor.{Cursor}

-- (ours) the place after the last word read, and whether every word so far was good
pub record Place : Type 0 where
  pub at : ℕ
  pub good : Bool

-- (ours) what was read, and the place after it
pub record Read (A : Type 0) : Type 0 where
  pub value : A
  pub next : Place

-- (ours) the place at which reading begins
abbrev pub start : Place
start = record { at = 0; good = true }

-- (ours) how far a cursor is
abbrev pub place : Cursor → Place
place c = record { at = c.at; good = c.good }

-- (ours) the cursor at another place of its line
abbrev pub moved : Cursor → Place → Cursor
moved c p = record { line = c.line; at = p.at; good = p.good }

-- (ours) a reader: what it reads at a place of a line
abbrev pub Reader : Type 0 → Type 0
Reader A = List ℕ → Place → Read A

-- (ours) the code reads as this reader does at the cursor's place: it hands back the value, and the cursor goes on to the place after it
abbrev pub Reads : {A : Type 0} → Reader A → (before after : Cursor) → A → Type 0
Reads reader before after value =
    let read = reader before.line.now (place before) in (value ≡ read.value) × (after ≡ moved before read.next)
