-- Which expressions run inside one that runs, and under which freshness: all operands, but of a present, a reset or a machine only the condition
-- that is asked and the body that runs.
use Rattle.std.specs.Prelude.{ℕ, suc, ◌+◌, ◌≡◌, Bool, true, false, ◌||◌, length}
use Rattle.sheet.specs.Data.{ValueType}
use Rattle.sheet.specs.Expressions.{Expression, unary, binary, conditional, switch, pre, fby, kept}
use Rattle.sheet.specs.Expressions.{Unary, Binary, Switch, Alternatives, only, either, switch_forms, cell_count, count_in}
use Rattle.sheet.specs.declared.Datum.{Datum}
use Rattle.kernel.specs.Values.{is_true}
use Rattle.kernel.specs.Instant.{Environment, state_of, second_runs, makes_fresh, value_in}

-- whether the condition holds that a switch asks
abbrev pub condition_holds : Environment → (fresh : Bool) → Switch → Alternatives → (k : ℕ) → Bool
condition_holds now fresh o cs k = is_true (value_in now (state_of now fresh o k) fresh cs (k + length (switch_forms o)))

-- Expression x, with cells from number j on and fresh or not, runs inside another.
module _ (now : Environment) (anew : Bool) (x : Expression) (j : ℕ) where
  mutual
    pub data RunsIn : (fresh : Bool) → Expression → (k : ℕ) → Type 0 where
      itself : {fresh : Bool} {e : Expression} {k : ℕ} → fresh ≡ anew → e ≡ x → k ≡ j → RunsIn fresh e k
      in_unary : {fresh : Bool} {o : Unary} {a : Expression} {k : ℕ} → RunsIn fresh a k → RunsIn fresh (unary o a) k
      in_left : {fresh : Bool} {o : Binary} {a b : Expression} {k : ℕ} → RunsIn fresh a k → RunsIn fresh (binary o a b) k
      in_right : {fresh : Bool} {o : Binary} {a b : Expression} {k : ℕ} → RunsIn fresh b (k + cell_count a) → RunsIn fresh (binary o a b) k
      in_condition : {fresh : Bool} {c a b : Expression} {k : ℕ} → RunsIn fresh c k → RunsIn fresh (conditional c a b) k
      in_then : {fresh : Bool} {c a b : Expression} {k : ℕ} → RunsIn fresh a (k + cell_count c) → RunsIn fresh (conditional c a b) k
      in_else : {fresh : Bool} {c a b : Expression} {k : ℕ} → RunsIn fresh b (k + cell_count c + cell_count a)
          → RunsIn fresh (conditional c a b) k
      in_asked : {fresh : Bool} {o : Switch} {cs bs : Alternatives} {k : ℕ}
          → RunsAmong (state_of now fresh o k) fresh cs (k + length (switch_forms o)) → RunsIn fresh (switch o cs bs) k
      in_body : {fresh : Bool} {o : Switch} {cs bs : Alternatives} {k : ℕ}
          → RunsAmong (second_runs o (state_of now fresh o k) (condition_holds now fresh o cs k))
          (makes_fresh o (condition_holds now fresh o cs k) || fresh) bs (k + length (switch_forms o) + count_in cs)
          → RunsIn fresh (switch o cs bs) k
      in_pre : {fresh : Bool} {d : Datum} {a : Expression} {k : ℕ} → RunsIn fresh a (suc k) → RunsIn fresh (pre d a) k
      in_fby-left : {fresh : Bool} {t : ValueType} {a b : Expression} {k : ℕ} → RunsIn fresh a (suc k) → RunsIn fresh (fby t a b) k
      in_fby-right : {fresh : Bool} {t : ValueType} {a b : Expression} {k : ℕ} → RunsIn fresh b (suc k + cell_count a)
          → RunsIn fresh (fby t a b) k
      in_kept : {fresh : Bool} {t : ValueType} {a : Expression} {k : ℕ} → RunsIn fresh a (suc k) → RunsIn fresh (kept t a) k

    -- inside the one of the alternatives that is asked or runs
    pub data RunsAmong : (second fresh : Bool) → Alternatives → (k : ℕ) → Type 0 where
      in_only : {second fresh : Bool} {a : Expression} {k : ℕ} → RunsIn fresh a k → RunsAmong second fresh (only a) k
      in_first : {fresh : Bool} {a b : Expression} {k : ℕ} → RunsIn fresh a k → RunsAmong false fresh (either a b) k
      in_second : {fresh : Bool} {a b : Expression} {k : ℕ} → RunsIn fresh b (k + cell_count a) → RunsAmong true fresh (either a b) k
