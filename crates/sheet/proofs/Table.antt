-- What holds of the rows of the table of kinds, by tests that antt computes.
use Prim.Native.Nat.{ℕ, zero, suc, ◌%◌, ◌≤◌, ◌<◌}
use native.Mathlib.Omega.{arith}
use mathlib.Core.Bool.{Bool, true, ◌&&◌}
use mathlib.Core.Path.{◌≡◌, refl}
use mathlib.Core.List.{[], ◌∷◌}
use lib.ListN.{get_or, take}
use lib.Dec.{leb, eqb}
use borrow.Author.Count.{below_more}
use borrow.Author.Tests.{eqb-true, leb-true}
use Rattle.sheet.specs.Kinds.{kind_count, cells_of, count_of, operands_of, digit_of, operand_type_in}
use Rattle.sheet.specs.KindBytes.{byte_of}
use Rattle.sheet.specs.declared.kinds.Kind.{Kind}
use Rattle.sheet.specs.declared.kinds.Kind.TheVariants.{BooleanConstant, NumberConstant, Wire, Input, Not, Negate, And, Or, Add, Subtract}
use Rattle.sheet.specs.declared.kinds.Kind.TheVariants.{Less, Equal, Conditional, Present, Reset, BooleanPre, NumberPre, Fby, Last, Machine}
use Rattle.sheet.specs.Laws.Lists.{both}
use Rattle.sheet.specs.Laws.Readings.{kinds-between, ◌▸◌, end}

-- the test passes at every number below n
unfoldable pub passes : (ℕ → Bool) → ℕ → Bool
passes test zero = true
passes test (suc n) = test n && passes test n

pub passes_at : (test : ℕ → Bool) (n : ℕ) → passes test n ≡ true → (k : ℕ) → k < n → test k ≡ true
unfolding passes
passes_at test zero e k l = absurd (omega arith)
passes_at test (suc n) e k l =
    let (last, rest) = both (test n) (passes test n) e in
    below_more (λ k. test k ≡ true) n (passes_at test n rest) last k (omega arith)

-- a number whose octal digits are a column of the table
abbrev pub is_column : ℕ → (ℕ → ℕ) → Bool
is_column column f = passes (λ k. eqb (digit_of column k) (f k)) kind_count

-- the byte of a kind is that of one of the rows
pub byte_few : (kind : Kind) → byte_of kind < kind_count
byte_few BooleanConstant = omega arith
byte_few NumberConstant = omega arith
byte_few Wire = omega arith
byte_few Input = omega arith
byte_few Not = omega arith
byte_few Negate = omega arith
byte_few And = omega arith
byte_few Or = omega arith
byte_few Add = omega arith
byte_few Subtract = omega arith
byte_few Less = omega arith
byte_few Equal = omega arith
byte_few Conditional = omega arith
byte_few Present = omega arith
byte_few Reset = omega arith
byte_few BooleanPre = omega arith
byte_few NumberPre = omega arith
byte_few Fby = omega arith
byte_few Last = omega arith
byte_few Machine = omega arith

pub column_is : (column : ℕ) (f : ℕ → ℕ) → is_column column f ≡ true → (kind : Kind) → digit_of column (byte_of kind) ≡ f (byte_of kind)
column_is column f e kind = eqb-true _ _ (passes_at (λ k. eqb (digit_of column k) (f k)) kind_count e (byte_of kind) (byte_few kind))

-- a row has no more than four operands and one cell
pub row-bounds : (k : ℕ) → k < kind_count → (count_of k ≤ 4) × (cells_of k ≤ 1)
unfolding passes
row-bounds k l =
    let (operands, cells) = both _ _ (passes_at (λ k. leb (count_of k) 4 && leb (cells_of k) 1) kind_count refl k l) in
    (leb-true _ _ operands, leb-true _ _ cells)

-- a number whose octal digits hold the types asked of the operands where `asked` is asked of the whole
module _ (column asked : ℕ) where
  abbrev is_asked : ℕ → ℕ → Bool
  is_asked k i = eqb (operand_type_in (digit_of column k) i) (get_or (operands_of k asked) i 0)

  abbrev pub are_asked : Bool
  are_asked = passes (λ k. passes (is_asked k) (count_of k)) kind_count

  pub asked-are : are_asked ≡ true → (k : ℕ) → k < kind_count
      → (i : ℕ) → i < count_of k → operand_type_in (digit_of column k) i ≡ get_or (operands_of k asked) i 0
  asked-are e k l i within =
      eqb-true _ _ (passes_at (is_asked k) (count_of k) (passes_at (λ k. passes (is_asked k) (count_of k)) kind_count e k l) i within)

-- the type of every operand of an operation, which is that of its first where a number is asked of the whole
abbrev operation_type : ℕ → ℕ
operation_type k = digit_of 0o40310266333300100000 k % 2

pub operation_operands : (t k : ℕ) → 4 ≤ k → k < 12 → take (count_of k) (operation_type k ∷ operation_type k ∷ []) ≡ operands_of k t
unfolding operands_of
operation_operands t = kinds-between (λ k. take (count_of k) (operation_type k ∷ operation_type k ∷ []) ≡ operands_of k t)
    (refl ▸ refl ▸ refl ▸ refl ▸ refl ▸ refl ▸ refl ▸ refl ▸ end)
