-- Marks of sheets as a set, and what becomes of them where a sheet's mark is cleared.
use Rattle.std.specs.Prelude.{ℕ, ◌≡◌, Bool, not, ◌&&◌, eqb, ltb}
use Rattle.std.proofs.Common.{ap, ◌∙◌}
use Rattle.std.proofs.Math.Bool.{and_assoc}
use Rattle.wires.specs.Sets.{member}

-- the set whose bits these are has just those of n sheets that pass a test
pub record MarksJust (bits n : ℕ) (test : ℕ → Bool) : Type 0 where
  pub each : (k : ℕ) → member bits k ≡ (ltb k n && test k)

-- without a sheet it has those of the others that pass
pub one-cleared : {bits less n : ℕ} {test : ℕ → Bool} (sheet : ℕ) → MarksJust bits n test
    → ((k : ℕ) → member less k ≡ (member bits k && not (eqb k sheet))) → MarksJust less n (λ k. test k && not (eqb k sheet))
one-cleared {n} {test} sheet just taken =
    record {
      each = λ k. taken k ∙ ap (λ b. b && not (eqb k sheet)) (just.each k) ∙ and_assoc (ltb k n) (test k) (not (eqb k sheet));
    }
