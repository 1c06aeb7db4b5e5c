-- What the bytes of a leaf show: its body, by the table of kinds, and the wire that it names.
use Prim.Native.Nat.{ℕ, ◌+◌, ◌≤◌, ◌<◌}
use mathlib.Core.Path.{◌≡◌, refl}
use mathlib.Core.List.{List}
use native.Mathlib.Omega.{arith}
use lib.ListN.{length, get_or}
use Rattle.sheet.specs.Kinds.{body_of}
use Rattle.sheet.specs.Readings.{body_at}
use Rattle.sheet.specs.Laws.Readings.{kinds-between, ◌▸◌, end}
use Rattle.leaves.specs.Leaves.{Leaf}

-- the body of a leaf: one byte, but of a number's constant four
abbrev LeafBody : ℕ → Type 0
LeafBody k = (1 ≤ body_of k) × ((k ≡ 1 → ⊥) → 1 ≡ body_of k)

leaf-row : (k : ℕ) → k < 4 → LeafBody k
leaf-row k below = kinds-between LeafBody {low = 0} (one ▸ (omega arith, λ n. absurd (n refl)) ▸ one ▸ one ▸ end) k (omega arith) (omega arith)
  where
    one : {n : ℕ} → (1 ≤ 1) × ((n ≡ 1 → ⊥) → ◌≡◌ {A = ℕ} 1 1)
    one = (omega arith, λ n. refl)

pub leaf-sized : (k : ℕ) → k < 4 → 1 ≤ body_of k
leaf-sized k below = (leaf-row k below).0

pub leaf-body : (k : ℕ) → k < 4 → (k ≡ 1 → ⊥) → 1 ≡ body_of k
leaf-body k below = (leaf-row k below).1

module _ {s : List ℕ} {at : ℕ} (l : Leaf s at) where
  abbrev kind : ℕ
  kind = get_or s at 0

  pub two_bytes : at + 2 ≤ length s
  two_bytes = omega (arith, l.whole.ends, leaf-sized kind l.kind)

  pub byte-body : (kind ≡ 1 → ⊥) → body_at s at ≡ get_or s (at + 1) 0
  byte-body other = rw (← leaf-body kind l.kind other)

  pub wire-byte : kind ≡ 2 → get_or s (at + 1) 0 < 64
  wire-byte is = rw is at (l.wire is)
