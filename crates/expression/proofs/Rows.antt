-- What the table of kinds says of the kinds that the code takes together.
use Prim.Native.Nat.{ℕ, ◌≤◌, ◌<◌}
use mathlib.Core.Path.{◌≡◌, refl, sym, ap}
use mathlib.Core.List.{List, [], ◌∷◌}
use native.Mathlib.Omega.{arith}
use lib.ListN.{length, get_or, take}
use Rattle.sheet.specs.Data.{ValueType, boolean, number, type_of_byte, type_of, datum_of}
use Rattle.sheet.specs.Expressions.{constant, unary, binary, pre}
use Rattle.sheet.specs.Expressions.{CellForm, pre_cell, fby_cell}
use Rattle.sheet.specs.Kinds.{Meaning, operand, body_of, cells_of, count_of, own_forms, operands_of, found_of, meaning_of}
use Rattle.sheet.specs.Typing.{unary_type, operand_type, result_type}
use Rattle.sheet.specs.Laws.Readings.{kinds-between, ◌▸◌, end}
use Rattle.kernel.specs.Operations.{unary_of, binary_of}

-- the row of kind k, without the types
abbrev pub row_of : ℕ → ℕ × ℕ × ℕ × Meaning
row_of k = (body_of k, cells_of k, count_of k, meaning_of k)

abbrev pub UnaryRow : ℕ → Type 0
UnaryRow k = row_of k ≡ (0, 0, 1, λ t b es. unary (unary_of k) (operand es 0))

pub unary-row : (k : ℕ) → 4 ≤ k → k < 6 → UnaryRow k
unfolding meaning_of
unary-row = kinds-between UnaryRow (refl ▸ refl ▸ end)

abbrev pub BinaryRow : ℕ → Type 0
BinaryRow k = row_of k ≡ (0, 0, 2, λ t b es. binary (binary_of k) (operand es 0) (operand es 1))

pub binary-row : (k : ℕ) → 6 ≤ k → k < 12 → BinaryRow k
unfolding meaning_of
binary-row = kinds-between BinaryRow (refl ▸ refl ▸ refl ▸ refl ▸ refl ▸ refl ▸ end)

-- an operation has the type that is asked of it
abbrev pub UnaryTyped : ℕ → Type 0
UnaryTyped k = (inputs wires : List ℕ) (t n : ℕ) → found_of inputs wires t k n ≡ t → type_of_byte t ≡ unary_type (unary_of k)

pub unary-typed : (k : ℕ) → 4 ≤ k → k < 6 → UnaryTyped k
unary-typed = kinds-between UnaryTyped (typed ▸ typed ▸ end)
  where
    typed : {u : ℕ} (inputs wires : List ℕ) (t n : ℕ) → u ≡ t → type_of_byte t ≡ type_of_byte u
    typed inputs wires t n e = ap type_of_byte (sym e)

-- and so has its operand
abbrev pub UnaryOperand : ℕ → Type 0
UnaryOperand k = (t x : ℕ) → operands_of k t ≡ x ∷ [] → type_of_byte x ≡ unary_type (unary_of k)

pub unary-operand : (k : ℕ) → 4 ≤ k → k < 6 → UnaryOperand k
unfolding operands_of
unary-operand = kinds-between UnaryOperand (first ▸ first ▸ end)
  where
    first : {u : ℕ} (t x : ℕ) → u ∷ [] ≡ x ∷ [] → type_of_byte x ≡ type_of_byte u
    first t x e = ap (λ xs. type_of_byte (get_or xs 0 0)) (sym e)

abbrev pub BinaryTyped : ℕ → Type 0
BinaryTyped k = (inputs wires : List ℕ) (t n : ℕ) → found_of inputs wires t k n ≡ t → type_of_byte t ≡ result_type (binary_of k)

pub binary-typed : (k : ℕ) → 6 ≤ k → k < 12 → BinaryTyped k
binary-typed = kinds-between BinaryTyped (typed ▸ typed ▸ typed ▸ typed ▸ typed ▸ typed ▸ end)
  where
    typed : {u : ℕ} (inputs wires : List ℕ) (t n : ℕ) → u ≡ t → type_of_byte t ≡ type_of_byte u
    typed inputs wires t n e = ap type_of_byte (sym e)

abbrev pub BinaryOperands : ℕ → Type 0
BinaryOperands k = (t x y : ℕ) → operands_of k t ≡ x ∷ y ∷ []
    → (type_of_byte x ≡ operand_type (binary_of k)) × (type_of_byte y ≡ operand_type (binary_of k))

pub binary-operands : (k : ℕ) → 6 ≤ k → k < 12 → BinaryOperands k
unfolding operands_of
binary-operands = kinds-between BinaryOperands (both ▸ both ▸ both ▸ both ▸ both ▸ both ▸ end)
  where
    both : {u v : ℕ} (t x y : ℕ) → u ∷ v ∷ [] ≡ x ∷ y ∷ [] → (type_of_byte x ≡ type_of_byte u) × (type_of_byte y ≡ type_of_byte v)
    both t x y e = (ap (λ xs. type_of_byte (get_or xs 0 0)) (sym e), ap (λ xs. type_of_byte (get_or xs 1 0)) (sym e))

-- a pre has the type of its operand
pub record PreRow (k : ℕ) : Type 0 where
  pub row : row_of k ≡ (body_of k, 1, 1, λ t b es. pre (datum_of t b) (operand es 0))
  pub types : (inputs wires : List ℕ) (t n : ℕ) → found_of inputs wires t k n ≡ t → operands_of k t ≡ t ∷ []

pub pre-row : (k : ℕ) → 15 ≤ k → k < 17 → PreRow k
unfolding meaning_of operands_of
pre-row = kinds-between PreRow (
    record { row = refl; types = λ is ws t n e. ap (λ u. u ∷ []) e }
    ▸ record { row = refl; types = λ is ws t n e. ap (λ u. u ∷ []) e }
    ▸ end)

abbrev pub ConstantRow : ℕ → Type 0
ConstantRow k = row_of k ≡ (body_of k, 0, 0, λ t b es. constant (datum_of t b))

pub constant-row : (k : ℕ) → k < 2 → ConstantRow k
unfolding meaning_of
constant-row k below = kinds-between ConstantRow {low = 0} (refl ▸ refl ▸ end) k (omega arith) (omega arith)

-- the form of the cell that a kind owns
pub record CellRow (type : ValueType) (body k : ℕ) : Type 0 where
  pub form : CellForm
  pub owns : own_forms k type body ≡ form ∷ []
  pub typed : form.type ≡ type

datum-typed : (type : ValueType) (body : ℕ) → type_of (datum_of type body) ≡ type
datum-typed boolean body = refl
datum-typed number body = refl

pub cell_row : (type : ValueType) (body k : ℕ) → 15 ≤ k → k < 18 → CellRow type body k
cell_row type body = kinds-between (CellRow type body) (
    record { form = pre_cell (datum_of type body); owns = refl; typed = datum-typed type body }
    ▸ record { form = pre_cell (datum_of type body); owns = refl; typed = datum-typed type body }
    ▸ record { form = fby_cell type; owns = refl; typed = refl }
    ▸ end)

-- the types that the code has for the operands, of which the first are the table's
pub no-type : (ts : List ℕ) → length ts ≡ 0 → ts ≡ []
no-type [] e = refl
no-type (t ∷ ts) e = absurd (omega arith)

pub one_type : (xs ts : List ℕ) → take 1 xs ≡ ts → length ts ≡ 1 → ts ≡ get_or xs 0 0 ∷ []
one_type [] ts e n = absurd (omega (arith, ap length e))
one_type (x ∷ xs) ts e n = sym e

pub two-types : (xs ts : List ℕ) → take 2 xs ≡ ts → length ts ≡ 2 → ts ≡ get_or xs 0 0 ∷ get_or xs 1 0 ∷ []
two-types [] ts e n = absurd (omega (arith, ap length e))
two-types (x ∷ []) ts e n = absurd (omega (arith, ap length e))
two-types (x ∷ y ∷ xs) ts e n = sym e
