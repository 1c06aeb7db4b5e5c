-- Document 02, K2: add, subtract and negate stop at the ends. What one of them gives is the nearest number of 32 bits to the exact result
-- of its operands' numbers: wherever the expression stands, and of every wire in an accepted instant, from the answer of the call.
use Rattle.std.specs.Prelude.{Ok, ℕ, suc, ◌+◌, ◌<◌, ◌≡◌, refl, Bool, false, List, ◌++◌, ℤ, neg_ℤ, ◌+ℤ◌, ◌-ℤ◌, length}
use Rattle.numbers.proofs.Laws.Nearest.{Nearest, settled-nearest}
use Rattle.sheet.specs.Data.{ValueType, number}
use Rattle.sheet.specs.Expressions.{Expression, unary, binary, kept, negative, sum, difference, cell_forms, cell_count}
use Rattle.sheet.specs.Sheets.{expression_at, cells_before}
use Rattle.sheet.specs.Typing.{HasType, ValidRow}
use Rattle.sheet.specs.declared.Datum.TheVariants.{Boolean, Number}
use Rattle.kernel.specs.Values.{Has, has}
use Rattle.kernel.specs.Order.{value_at}
use Rattle.kernel.specs.Instant.{Environment, value}
use Rattle.kernel.specs.Calls.{rounds_call}
use Rattle.kernel.proofs.Laws.Typing.{OnWires, ValidFrom, parts, has_inherited, value-typed}
use Rattle.kernel.proofs.Laws.Accepted.{solved, equations, final, final-typed, equation_typed, wire-holds}
use Rattle.kernel.specs.declared.Value.{Value}
use Rattle.kernel.specs.declared.Value.TheVariants.{Known}

-- the expressions that the request speaks of, also as those of a kept wire
pub data Sums : Expression → Type 0 where
  adds : {e f : Expression} → Sums (binary sum e f)
  subtracts : {e f : Expression} → Sums (binary difference e f)
  negates : {e : Expression} → Sums (unary negative e)
  keeps : {t : ValueType} {e : Expression} → Sums e → Sums (kept t e)

-- two operands have the numbers a and b; the first one's cells are those from number k on, the second one's come behind them
pub record Operands (now : Environment) (fresh : Bool) (k : ℕ) (e f : Expression) (a b : ℤ) : Type 0 where
  pub left : value now fresh e k ≡ Known (Number a)
  pub right : value now fresh f (k + cell_count e) ≡ Known (Number b)

-- z is the exact result of such an expression
pub data Exact (now : Environment) (fresh : Bool) : ℕ → Expression → ℤ → Type 0 where
  added : {k : ℕ} {e f : Expression} {a b : ℤ} → Operands now fresh k e f a b → Exact now fresh k (binary sum e f) (a +ℤ b)
  subtracted : {k : ℕ} {e f : Expression} {a b : ℤ} → Operands now fresh k e f a b → Exact now fresh k (binary difference e f) (a -ℤ b)
  negated : {k : ℕ} {e : Expression} {a : ℤ} → value now fresh e k ≡ Known (Number a) → Exact now fresh k (unary negative e) (neg_ℤ a)
  kept-exact : {k : ℕ} {t : ValueType} {e : Expression} {z : ℤ} → Exact now fresh (suc k) e z → Exact now fresh k (kept t e) z

-- the value is a number, the nearest of 32 bits to z
pub data Stops (z : ℤ) : Value → Type 0 where
  stops : {y : ℤ} → Nearest z y → Stops z (Known (Number y))

pub exact-stops : {now : Environment} {fresh : Bool} {k : ℕ} {e : Expression} {z : ℤ} → Exact now fresh k e z
    → Stops z (value now fresh e k)
unfolding value
exact-stops (added {a = a} {b = b} o) = rw (o.left, o.right) (stops (settled-nearest (a +ℤ b)))
exact-stops (subtracted {a = a} {b = b} o) = rw (o.left, o.right) (stops (settled-nearest (a -ℤ b)))
exact-stops (negated {a = a} p) = rw p (stops (settled-nearest (neg_ℤ a)))
exact-stops (kept-exact x) = exact-stops x

-- There is an exact result where the wires have values of their types and the cells are valid.
a-number : {v : Value} → Has number v → (a : ℤ) × (v ≡ Known (Number a))
a-number (has {d = Boolean b} e) = absurd e
a-number (has {d = Number a} e) = (a, refl)

module _ (input_types wire_types : List ValueType) (now : Environment)
    (on_inputs : ValidRow input_types now.inputs) (on_lasts : ValidRow wire_types now.lasts)
    (on_wires : OnWires Has wire_types now.wires) where
  number_of : (e : Expression) (fresh : Bool) (k : ℕ) → HasType input_types wire_types number e
      → ValidFrom now.memory (cell_forms e) k → (a : ℤ) × (value now fresh e k ≡ Known (Number a))
  number_of e fresh k typed cells =
      a-number (value-typed Has has_inherited input_types wire_types now on_inputs on_lasts on_wires number e fresh k typed cells)

  numbers_of_lem : (e f : Expression) (fresh : Bool) (k : ℕ) → HasType input_types wire_types number e → HasType input_types wire_types number f
      → ValidFrom now.memory (cell_forms e ++ cell_forms f) k → (a : ℤ) × (b : ℤ) × Operands now fresh k e f a b
  numbers_of_lem e f fresh k left right cells =
      let (before, behind) = parts now.memory e (cell_forms f) k cells in
      let (a, p) = number_of e fresh k left before in
      let (b, q) = number_of f fresh (k + cell_count e) right behind in
      (a, b, record { left = p; right = q })

  exact-of : {e : Expression} → Sums e → (fresh : Bool) (k : ℕ) (t : ValueType) → HasType input_types wire_types t e
      → ValidFrom now.memory (cell_forms e) k → (z : ℤ) × Exact now fresh k e z
  unfolding HasType cell_forms ValidFrom
  exact-of (adds {e} {f}) fresh k t typed cells =
      let (a, b, o) = numbers_of_lem e f fresh k typed.1 typed.2 cells in (a +ℤ b, added o)
  exact-of (subtracts {e} {f}) fresh k t typed cells =
      let (a, b, o) = numbers_of_lem e f fresh k typed.1 typed.2 cells in (a -ℤ b, subtracted o)
  exact-of (negates {e}) fresh k t typed cells = let (a, p) = number_of e fresh k typed.1 cells in (neg_ℤ a, negated p)
  exact-of (keeps sums) fresh k t typed cells =
      let (z, exact) = exact-of sums fresh (suc k) t typed.1 cells.2 in (z, kept-exact exact)

module _ (s memory input output : List ℕ) {r : ℕ} (accepted : (rounds_call s memory input output).answer ≡ Ok r) where
  -- each wire that adds, subtracts or negates has an exact result, and its value is the nearest number
  pub wire-stops : (w : ℕ) → w < length (equations s memory input output accepted) → Sums (expression_at (equations s memory input output accepted) w)
      → (z : ℤ)
      × Exact (final s memory input output accepted) false (cells_before (equations s memory input output accepted) w)
      (expression_at (equations s memory input output accepted) w) z
      × Stops z (value_at (solved s memory input output accepted).values w)
  wire-stops w l sums =
      let sheet = (solved s memory input output accepted).given.sheet in
      let types = final-typed s memory input output accepted in
      let ((t, typed), cells) = equation_typed s memory input output accepted w l in
      let (z, exact) = exact-of sheet.input_types sheet.wire_types (final s memory input output accepted)
      types.inputs types.lasts types.wires sums false (cells_before sheet.expressions w) t typed cells in
      (z, exact, rw (wire-holds s memory input output accepted w l) (exact-stops exact))
