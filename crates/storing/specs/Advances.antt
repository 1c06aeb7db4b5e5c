-- What an expression that advances or rests asks for, and what it leaves.
use Rattle.std.specs.Prelude.{ℕ, ◌*◌, ◌≤◌, ◌<◌, ◌≡◌, Bool, true, false, List, length, get_or}
use Rattle.std.proofs.lemmas.List.Edits.{sets}
use Rattle.wires.specs.Sets.{member}
use Rattle.sheet.specs.Expressions.{cell_forms}
use Rattle.sheet.specs.Memory.{memory_bytes, start_memory}
use Rattle.sheet_walk.specs.Skips.{Readable}
use Rattle.sheet_walk.specs.declared.Place.{Place}
use Rattle.kernel.specs.Instant.{Environment, resting}
use Rattle.leaves.specs.declared.Valued.{Valued}
use Rattle.expression.specs.Places.{CellsStand, Placement, Gives, stored_bytes}
use Rattle.storing.specs.declared.advance.Fixed.{Fixed}

-- an expression that stands somewhere under wires that are all known, and whose cells are among those of the instant, so that an arm
-- keeps as many as it has, and have room in the memory
pub record Ready (sheet memory words : List ℕ) (level asked : ℕ) (here : Place) : Type 0 where
  pub bits : ℕ
  pub place : Placement sheet memory words bits level asked here.at here.cell
  pub full : (w : ℕ) → w < length place.wires → member bits w ≡ true
  pub within : place.count ≤ length place.now.memory
  pub room : 5 * place.count ≤ length memory

-- it stands so over what is lent as one
abbrev pub ReadyUnder : Fixed → (memory : List ℕ) → (level asked : ℕ) → Place → Type 0
ReadyUnder fixed memory level asked here = Ready fixed.sheet.now memory fixed.words.now level asked here

-- its kind byte
abbrev pub kind_under : Fixed → Place → ℕ
kind_under fixed here = get_or fixed.sheet.now here.at 0

-- its value is known, and its cells are stored in place
pub record Advances {sheet memory words : List ℕ} {level asked : ℕ} {here : Place}
    (p : Ready sheet memory words level asked here) (fresh : Bool) (r : Valued) (after : List ℕ) : Type 0 where
  pub answer : Gives p.place fresh r.word r.end.at r.end.cell
  pub holds : after ≡ sets memory (5 * here.cell) (stored_bytes p.place fresh)

-- an expression whose cells have room in so many bytes
pub record Room (sheet : List ℕ) (size : ℕ) (here : Place) : Type 0 where
  pub place : Readable sheet here.at here.cell
  pub fits : 5 * place.count ≤ size

-- its cells are put as they are at the start
pub record Restarts {sheet : List ℕ} {at cell : ℕ} (p : Readable sheet at cell) (memory : List ℕ) (r : Place) (after : List ℕ)
    : Type 0 where
  pub answer : r ≡ record { at = p.next; cell = p.count }
  pub holds : after ≡ sets memory (5 * cell) (memory_bytes (start_memory (cell_forms p.tree)))

-- an arm that does not advance, in the same way
pub record Arm (sheet memory : List ℕ) (here : Place) : Type 0 where
  pub place : Readable sheet here.at here.cell
  pub now : Environment
  pub cells : CellsStand memory now.memory here.cell (cell_forms place.tree)
  pub within : place.count ≤ length now.memory
  pub room : 5 * place.count ≤ length memory

pub record Rests {sheet memory : List ℕ} {here : Place} (p : Arm sheet memory here) (fresh : Bool) (r : Place) (after : List ℕ)
    : Type 0 where
  pub answer : r ≡ record { at = p.place.next; cell = p.place.count }
  pub holds : after ≡ sets memory (5 * here.cell) (memory_bytes (resting p.now fresh p.place.tree here.cell))

-- the arm rests where the test holds; where it fails, nothing was done
pub record RestsIf (test : Bool) (sheet memory : List ℕ) (here : Place) (fresh : Bool) (r : Place) (after : List ℕ) : Type 0 where
  pub rests : test ≡ true → (p : Arm sheet memory here) → Rests p fresh r after
  pub stays : test ≡ false → r ≡ here
  pub keeps : test ≡ false → after ≡ memory
