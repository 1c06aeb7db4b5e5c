-- An expression is known where the wires that it reads within the instant are.
use Rattle.std.specs.Prelude.{ℕ, suc, ◌+◌, Bool, ◌||◌, cond, ◌++◌, length}
use Rattle.kernel.specs.Values.{truth, when_known, IsKnown, known}
use Rattle.kernel.specs.Order.{value_at}
use Rattle.sheet.specs.Lists.{Every}
use Rattle.sheet.specs.Expressions.{Expression, constant, wire, input, last, unary, binary, conditional, switch, pre, fby, kept}
use Rattle.sheet.specs.Expressions.{Alternatives, only, either, switch_forms, cell_count, count_in}
use Rattle.sheet.specs.declared.Cell.{Cell}
use Rattle.sheet.specs.declared.Cell.TheVariants.{NotStarted, Started}
use Rattle.sheet.specs.Reads.{wires_read, wires_in}
use Rattle.kernel.specs.Instant.{Environment, cell_at, known_or, state_of, second_runs, makes_fresh, value, value_in}
use Rattle.sheet.specs.Laws.Lists.{only as the-only, every_append}
use Rattle.kernel.proofs.Laws.Switches.{picked}
use Rattle.sheet.specs.declared.Datum.{Datum}
use Rattle.kernel.specs.declared.Value.{Value}

strict-known : {v : Value} {f : Datum → Value} → IsKnown v → ((d : Datum) → IsKnown (f d)) → IsKnown (when_known v f)
strict-known (known {d}) h = h d

cell-known : (c : Cell) {v : Value} → IsKnown v → IsKnown (known_or v c)
cell-known NotStarted k = k
cell-known (Started d) k = known

module _ (now : Environment) where
  mutual
    unfolding value wires_read

    pub value-known : (e : Expression) (fresh : Bool) (k : ℕ) → Every (λ w. IsKnown (value_at now.wires w)) (wires_read e)
        → IsKnown (value now fresh e k)
    value-known (constant d) fresh k h = known
    value-known (wire w) fresh k h = the-only h
    value-known (input i) fresh k h = known
    value-known (last w) fresh k h = known
    value-known (unary o a) fresh k h = strict-known (value-known a fresh k h) (λ x. known)
    value-known (binary o a b) fresh k h =
        let (p, q) = every_append (wires_read a) (wires_read b) h in
        strict-known (value-known a fresh k p) (λ x. strict-known (value-known b fresh (k + cell_count a) q) (λ y. known))
    value-known (conditional c a b) fresh k h =
        let (p, rest) = every_append (wires_read c) (wires_read a ++ wires_read b) h in
        let (q, r) = every_append (wires_read a) (wires_read b) rest in
        strict-known (value-known c fresh k p) (λ t.
        strict-known (value-known a fresh (k + cell_count c) q) (λ x.
        strict-known (value-known b fresh (k + cell_count c + cell_count a) r) (λ y. known)))
    value-known (switch o cs bs) fresh k h =
        let (p, q) = every_append (wires_in cs) (wires_in bs) h in
        let state = state_of now fresh o k in
        let first = k + length (switch_forms o) in
        strict-known (known_in cs state fresh first p) (λ x.
        known_in bs (second_runs o state (truth x)) (makes_fresh o (truth x) || fresh) (first + count_in cs) q)
    value-known (pre d a) fresh k h = known
    value-known (fby t a b) fresh k h = cell-known (cond fresh NotStarted (cell_at now.memory k)) (value-known a fresh (suc k) h)
    value-known (kept t a) fresh k h = value-known a fresh (suc k) h

    known_in : (xs : Alternatives) (second fresh : Bool) (k : ℕ) → Every (λ w. IsKnown (value_at now.wires w)) (wires_in xs)
        → IsKnown (value_in now second fresh xs k)
    known_in (only a) second fresh k h = value-known a fresh k h
    known_in (either a b) second fresh k h =
        let (p, q) = every_append (wires_read a) (wires_read b) h in
        picked IsKnown second (value-known a fresh k p) (value-known b fresh (k + cell_count a) q)
