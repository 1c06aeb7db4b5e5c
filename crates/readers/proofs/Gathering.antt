-- How the readers of each wire are gathered, and those of a set of wires: wire after wire of those that are left.
use Prim.Native.Nat.{ℕ, zero, suc, ◌<◌}
use mathlib.Core.Path.{◌≡◌, refl}
use mathlib.Core.Bool.{true, false, ◌&&◌, ◌||◌}
use mathlib.Core.List.{List}
use native.Mathlib.Omega.{arith}
use lib.Dec.{eqb}
use lib.ListN.{length, get_or, replicate}
use borrow.Author.Tests.{le-ltb}
use Rattle.wires.specs.Sets.{member}
use Rattle.wires.specs.Laws.{none_in}
use Rattle.readers.specs.Readers.{Readers, ReadsOne, Reading}

-- of the wires that one wire reads, those of `left` have not got it as a reader yet
pub record Adding (read wire left : ℕ) (start readers : List ℕ) : Type 0 where
  pub size : length readers ≡ length start
  pub remain : (v : ℕ) → member left v ≡ true → (member read v ≡ true) × (get_or readers v 0 ≡ get_or start v 0)
  pub done : (v x : ℕ) → v < 64 → member left v ≡ false
      → member (get_or readers v 0) x ≡ (member (get_or start v 0) x || (eqb x wire && member read v))

-- The readers among the first n wires, from a table of zeros.
pub zero-at : (n v : ℕ) → ◌≡◌ {A = ℕ} (get_or (replicate n 0) v 0) 0
zero-at zero v = refl
zero-at (suc n) zero = refl
zero-at (suc n) (suc v) = zero-at n v

pub none-gathered : {reads readers : List ℕ} → ((v : ℕ) → get_or readers v 0 ≡ 0) → Readers reads 0 readers
none-gathered empty = record { each = λ v x l. rw (empty v, none_in x, le-ltb x 0 (omega arith)) }

-- The readers of a set: those of the wires in `left` are not collected yet.
pub record Collected (readers : List ℕ) (read left bits : ℕ) : Type 0 where
  pub remain : (v : ℕ) → member left v ≡ true → member read v ≡ true
  pub all : (x : ℕ) (r : ReadsOne readers read x) → member left r.v ≡ false → member bits x ≡ true
  pub only : (x : ℕ) → member bits x ≡ true → ReadsOne readers read x

pub all_collected : {readers : List ℕ} {read left bits : ℕ} → Collected readers read left bits → ((v : ℕ) → member left v ≡ false)
    → Reading readers read bits
all_collected c none = record { all = λ x r. c.all x r (none r.v); only = c.only }
