-- Which wires are due in a round, so that the others can be passed over.
use Rattle.std.specs.Prelude.{ℕ, ◌<◌, ◌≡◌, true, false, List, ltb}
use Rattle.std.proofs.Common.{sym, ◌∙◌, true≢false, ltb-true, lt-ltb}
use Rattle.wires.specs.Sets.{member}
use Rattle.kernel.specs.Order.{value_at}
use Rattle.kernel.specs.declared.Value.{Value}
use Rattle.kernel.specs.declared.Value.TheVariants.{Unknown}

-- which of n wires are due in a round that works the values `worked` out: one that is neither known, in the set `bits`, nor due would stay
-- unknown
pub record DueIn (n bits due : ℕ) (worked : List Value) : Type 0 where
  pub within : (w : ℕ) → member due w ≡ true → w < n
  pub rests : (w : ℕ) → w < n → member bits w ≡ false → member due w ≡ false → value_at worked w ≡ Unknown

-- where every wire is due nothing is asked of the values
pub every-due : {n bits due : ℕ} {worked : List Value} → ((w : ℕ) → member due w ≡ ltb w n) → DueIn n bits due worked
every-due {n} all =
    record {
      within = λ w e. ltb-true w n (sym (all w) ∙ e);
      rests = λ w l u e. absurd (true≢false (sym (all w ∙ lt-ltb w n l) ∙ e));
    }
