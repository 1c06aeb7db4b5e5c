-- Types: of expressions, as they are asked from the outside in; of inputs; and of what the cells hold, which makes a memory valid.
use Rattle.std.specs.Prelude.{◌≡◌, List, [], ◌∷◌}
use Rattle.std.proofs.Math.Option.{some}
use Rattle.std.proofs.Math.ListN.{get_elem?}
use Rattle.sheet.specs.Data.{ValueType, boolean, number, IsOf}
use Rattle.sheet.specs.Expressions.{Expression, constant, wire, input, last, unary, binary, conditional, switch, pre, fby, kept}
use Rattle.sheet.specs.Expressions.{Alternatives, only, either, CellForm}
use Rattle.sheet.specs.Expressions.{Unary, negation, negative}
use Rattle.sheet.specs.Expressions.{Binary, conjunction, disjunction, sum, difference, lessThan, equality}
use Rattle.sheet.specs.Sheets.{Sheet, sheet_forms}
use Rattle.sheet.specs.declared.Datum.{Datum}
use Rattle.sheet.specs.declared.Cell.{Cell}
use Rattle.sheet.specs.declared.Cell.TheVariants.{NotStarted, Started}

-- two lists of one length, and R holds of every two that stand at the same place
infixr 5 ◌then◌
pub data Pairwise {A B : Type 0} (R : A → B → Type 0) : List A → List B → Type 0 where
  done : Pairwise R [] []
  ◌then◌ : {x : A} {y : B} {xs : List A} {ys : List B} → R x y → Pairwise R xs ys → Pairwise R (x ∷ xs) (y ∷ ys)

-- the type of the operand and of the whole
abbrev pub unary_type : Unary → ValueType
unary_type negation = boolean
unary_type negative = number

abbrev pub operand_type : Binary → ValueType
operand_type conjunction = boolean
operand_type disjunction = boolean
operand_type sum = number
operand_type difference = number
operand_type lessThan = number
operand_type equality = number

abbrev pub result_type : Binary → ValueType
result_type conjunction = boolean
result_type disjunction = boolean
result_type sum = number
result_type difference = number
result_type lessThan = boolean
result_type equality = boolean

module _ (input_types wire_types : List ValueType) where
  unfoldable mutual
    pub HasType : ValueType → Expression → Type 0
    HasType t (constant d) = IsOf t d
    HasType t (wire w) = get_elem? wire_types w ≡ some t
    HasType t (input i) = get_elem? input_types i ≡ some t
    HasType t (last w) = get_elem? wire_types w ≡ some t
    HasType t (unary o a) = (unary_type o ≡ t) × HasType (unary_type o) a
    HasType t (binary o a b) = (result_type o ≡ t) × HasType (operand_type o) a × HasType (operand_type o) b
    HasType t (conditional c a b) = HasType boolean c × HasType t a × HasType t b
    HasType t (switch o cs bs) = AlternativesHaveType boolean cs × AlternativesHaveType t bs
    HasType t (pre d a) = IsOf t d × HasType t a
    HasType t (fby u a b) = (u ≡ t) × HasType t a × HasType t b
    HasType t (kept u a) = (u ≡ t) × HasType t a

    pub AlternativesHaveType : ValueType → Alternatives → Type 0
    AlternativesHaveType t (only a) = HasType t a
    AlternativesHaveType t (either a b) = HasType t a × HasType t b

  -- each expression has its type
  abbrev pub HaveTypes : List ValueType → List Expression → Type 0
  HaveTypes = Pairwise HasType

-- each expression has the type of its wire
abbrev pub WellTyped : Sheet → Type 0
WellTyped sheet = HaveTypes sheet.input_types sheet.wire_types sheet.wire_types sheet.expressions

-- not started only where it is so at the start, or started with a datum of the type
abbrev pub ValidCell : CellForm → Cell → Type 0
ValidCell form NotStarted = form.start ≡ NotStarted
ValidCell form (Started d) = IsOf form.type d

abbrev pub ValidCells : List CellForm → List Cell → Type 0
ValidCells = Pairwise ValidCell

abbrev pub ValidMemory : Sheet → List Cell → Type 0
ValidMemory sheet = ValidCells (sheet_forms sheet)

-- one datum of each type
abbrev pub ValidRow : List ValueType → List Datum → Type 0
ValidRow = Pairwise IsOf

abbrev pub ValidInputs : Sheet → List Datum → Type 0
ValidInputs sheet = ValidRow sheet.input_types
