-- What the checks of a length and then of each part come to.
use Prim.Native.Nat.{ℕ, ◌≤◌, ◌<◌}
use Rattle.std.specs.Prelude.{Ok}
use mathlib.Core.Path.{◌≡◌}
use mathlib.Core.Bool.{Bool}
use borrow.Author.Tests.{eq-eqb, ne_eqb, lt-ltb, le-ltb}
use Rattle.sheet.specs.Outcomes.{Outcome, result, refused_at, done_of, lowest, unless_length, unless_any}
use Rattle.sheet.specs.declared.Refusal.{Refusal}

-- a length, then the lowest place that passes a test
module _ {A : Type 0} (unfit wrong : Refusal) (n must bound : ℕ) (test : ℕ → Bool) (a : A) where
  abbrev whole : Outcome A
  whole = unless_length unfit n must (unless_any wrong test bound (result a))

  pub length-off : (n ≡ must → ⊥) → refused_at unfit 0 ≡ done_of whole
  length-off off = rw (ne_eqb n must off)

  module _ (place : ℕ) (fits : n ≡ must) (found : place ≡ lowest test bound) where
    pub place_wrong : place < bound → refused_at wrong place ≡ done_of whole
    place_wrong l = rw (eq-eqb n must fits, ← found, lt-ltb place bound l)

    pub none_wrong : bound ≤ place → Ok tt ≡ done_of whole
    none_wrong l = rw (eq-eqb n must fits, ← found, le-ltb place bound l)
