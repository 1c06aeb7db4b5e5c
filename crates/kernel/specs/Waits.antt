-- Document 02, K5 and K8: from which wires a value is worked out, which unknown wire waits for which, and the wire that really loops.
use Rattle.std.specs.Prelude.{ℕ, suc, ◌+◌, ◌≡◌, Bool, true, false, ◌||◌, ◌&&◌, cond, List, [], ◌∷◌, ◌++◌, length}
use Rattle.sheet.specs.Lists.{among}
use Rattle.sheet.specs.Expressions.{Expression, constant, wire, input, last, unary, binary, conditional, switch, pre, fby, kept}
use Rattle.sheet.specs.Expressions.{Alternatives, only, either, switch_forms, cell_count, count_in}
use Rattle.sheet.specs.Sheets.{expression_at, cells_before}
use Rattle.sheet.specs.declared.Datum.{Datum}
use Rattle.sheet.specs.declared.Cell.{Cell}
use Rattle.sheet.specs.declared.Cell.TheVariants.{NotStarted, Started}
use Rattle.closure.specs.Closures.{Closure, lowest_loop}
use Rattle.kernel.specs.Values.{truth, is_unknown}
use Rattle.kernel.specs.Order.{value_at}
use Rattle.kernel.specs.Instant.{Environment, cell_at, state_of, second_runs, makes_fresh, value_in}
use Rattle.kernel.specs.declared.Value.{Value}
use Rattle.kernel.specs.declared.Value.TheVariants.{Unknown, Known}

-- what goes by the datum of a condition: nothing before it is known
abbrev pub once_known : Value → (Datum → List ℕ) → List ℕ
once_known Unknown f = []
once_known (Known d) f = f d

-- an fby's left side counts only where it sees its cell not started
abbrev pub left_awaited : List ℕ → Cell → List ℕ
left_awaited left NotStarted = left
left_awaited left (Started d) = []

-- the wires from which the value of an expression is worked out; fresh and the numbers of cells are those of the value
module _ (now : Environment) where
  unfoldable mutual
    pub wires_awaited : Bool → Expression → ℕ → List ℕ
    wires_awaited fresh (constant d) k = []
    wires_awaited fresh (wire w) k = w ∷ []
    wires_awaited fresh (input i) k = []
    wires_awaited fresh (last w) k = []
    wires_awaited fresh (unary o a) k = wires_awaited fresh a k
    wires_awaited fresh (binary o a b) k = wires_awaited fresh a k ++ wires_awaited fresh b (k + cell_count a)
    wires_awaited fresh (conditional c a b) k =
        wires_awaited fresh c k ++ (wires_awaited fresh a (k + cell_count c) ++ wires_awaited fresh b (k + cell_count c + cell_count a))
    -- the condition that is asked, and once it is known the body that runs
    wires_awaited fresh (switch o cs bs) k =
        let state = state_of now fresh o k in
        let first = k + length (switch_forms o) in
        awaited_in state fresh cs first
        ++ once_known (value_in now state fresh cs first) (λ t.
        awaited_in (second_runs o state (truth t)) (makes_fresh o (truth t) || fresh) bs (first + count_in cs))
    wires_awaited fresh (pre d a) k = []
    wires_awaited fresh (fby t a b) k = left_awaited (wires_awaited fresh a (suc k)) (cond fresh NotStarted (cell_at now.memory k))
    wires_awaited fresh (kept t a) k = wires_awaited fresh a (suc k)

    pub awaited_in : (second : Bool) → Bool → Alternatives → ℕ → List ℕ
    awaited_in second fresh (only a) k = wires_awaited fresh a k
    awaited_in second fresh (either a b) k = cond second (wires_awaited fresh b (k + cell_count a)) (wires_awaited fresh a k)

-- The expressions of an instant in wire order; `now` has the finished values of the wires.
module _ (now : Environment) (es : List Expression) where
  -- those from which the value of wire v is worked out
  abbrev pub awaited_at : ℕ → List ℕ
  awaited_at v = wires_awaited now false (expression_at es v) (cells_before es v)

  abbrev pub WorkedOutFrom : ℕ → ℕ → Type 0
  WorkedOutFrom v w = among w (awaited_at v) ≡ true

  -- an unknown wire waits for an unknown wire when its value is worked out from it
  pub record WaitsFor (v w : ℕ) : Type 0 where
    pub waiting : value_at now.wires v ≡ Unknown
    pub awaited : value_at now.wires w ≡ Unknown
    pub counts : WorkedOutFrom v w

  -- directly or through others
  abbrev pub WaitsOn : ℕ → ℕ → Type 0
  WaitsOn = Closure WaitsFor

  -- the test of waiting
  unfoldable pub waits_for : ℕ → ℕ → Bool
  waits_for v w = is_unknown (value_at now.wires v) && (is_unknown (value_at now.wires w) && among w (awaited_at v))

  -- the lowest wire that waits for itself, directly or through others; the count of the wires where none does
  unfoldable pub lowest_waiting : ℕ
  lowest_waiting = lowest_loop waits_for (length es)
