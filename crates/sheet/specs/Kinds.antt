-- The table of kinds, those of document 01 and document 02's kinds 18 and 19, a row to a kind: bytes of body, the cell owned, types of the
-- operands, own type, and the tree.
use Rattle.std.specs.Prelude.{ℕ, ◌*◌, ◌/◌, ◌%◌, ◌^◌, ◌≡◌, refl, Bool, false, not, ◌||◌, cond, List, [], ◌∷◌, map, length, get_or, eqb, ltb}
use Rattle.sheet.specs.Data.{ValueType, plain_byte, is_kept, datum_of}
use Rattle.sheet.specs.Expressions.{Expression, constant, wire, input, last, unary, binary, conditional, pre, fby}
use Rattle.sheet.specs.Expressions.{present_of, reset_of, machine_of, CellForm, pre_cell, fby_cell, state_cell, negation, negative}
use Rattle.sheet.specs.Expressions.{conjunction, disjunction, sum, difference, lessThan, equality}
use Rattle.sheet.specs.declared.Datum.TheVariants.{Boolean}

-- In the table a type is its type byte; or, above every type byte, the type asked, the named wire's, the named input's or that of the named
-- wire, which is kept.
abbrev pub boolean : ℕ
boolean = 0

abbrev pub number : ℕ
number = 1

abbrev pub asked : ℕ
asked = 4

abbrev pub named-wire : ℕ
named-wire = 5

abbrev pub named-input : ℕ
named-input = 6

abbrev pub named-kept : ℕ
named-kept = 7

-- the cell that an expression owns besides those of its operands: none, one that starts with the constant in its body, one that is not
-- started at first, or a machine's state
pub data Owned : Type 0 where
  no_cell pre-cell fby-cell state-cell : Owned

-- what an expression means: its tree, from its type, the number in its body and the trees of its operands
abbrev pub Meaning : Type 0
Meaning = ValueType → ℕ → List Expression → Expression

abbrev pub operand : List Expression → ℕ → Expression
operand os i = get_or os i (constant (Boolean false))

abbrev constant_of : Meaning
constant_of t body os = constant (datum_of t body)

abbrev names : (ℕ → Expression) → Meaning
names f t body os = f body

abbrev of_one : (Expression → Expression) → Meaning
of_one f t body os = f (operand os 0)

abbrev of_two : (Expression → Expression → Expression) → Meaning
of_two f t body os = f (operand os 0) (operand os 1)

abbrev of_three : (Expression → Expression → Expression → Expression) → Meaning
of_three f t body os = f (operand os 0) (operand os 1) (operand os 2)

abbrev of_four : (Expression → Expression → Expression → Expression → Expression) → Meaning
of_four f t body os = f (operand os 0) (operand os 1) (operand os 2) (operand os 3)

abbrev pre-of : Meaning
pre-of t body os = pre (datum_of t body) (operand os 0)

abbrev fby-of : Meaning
fby-of t body os = fby t (operand os 0) (operand os 1)

pub data Kind : Type 0 where
  kind : (body : ℕ) (owned : Owned) (operands : List ℕ) (type : ℕ) (meaning : Meaning) → Kind

abbrev pub kinds : List Kind
kinds =
    kind 1 no_cell [] boolean constant_of  -- 0 constant
    ∷ kind 4 no_cell [] number constant_of  -- 1 constant
    ∷ kind 1 no_cell [] named-wire (names wire)  -- 2 wire
    ∷ kind 1 no_cell [] named-input (names input)  -- 3 input
    ∷ kind 0 no_cell (boolean ∷ []) boolean (of_one (unary negation))  -- 4 not
    ∷ kind 0 no_cell (number ∷ []) number (of_one (unary negative))  -- 5 negate
    ∷ kind 0 no_cell (boolean ∷ boolean ∷ []) boolean (of_two (binary conjunction))  -- 6 and
    ∷ kind 0 no_cell (boolean ∷ boolean ∷ []) boolean (of_two (binary disjunction))  -- 7 or
    ∷ kind 0 no_cell (number ∷ number ∷ []) number (of_two (binary sum))  -- 8 add
    ∷ kind 0 no_cell (number ∷ number ∷ []) number (of_two (binary difference))  -- 9 subtract
    ∷ kind 0 no_cell (number ∷ number ∷ []) boolean (of_two (binary lessThan))  -- 10 less than
    ∷ kind 0 no_cell (number ∷ number ∷ []) boolean (of_two (binary equality))  -- 11 equal
    ∷ kind 0 no_cell (boolean ∷ asked ∷ asked ∷ []) asked (of_three conditional)  -- 12 if
    ∷ kind 0 no_cell (boolean ∷ asked ∷ asked ∷ []) asked (of_three present_of)  -- 13 present
    ∷ kind 0 no_cell (boolean ∷ asked ∷ []) asked (of_two reset_of)  -- 14 reset
    ∷ kind 1 pre-cell (boolean ∷ []) boolean pre-of  -- 15 pre
    ∷ kind 4 pre-cell (number ∷ []) number pre-of  -- 16 pre
    ∷ kind 0 fby-cell (asked ∷ asked ∷ []) asked fby-of  -- 17 fby
    ∷ kind 1 no_cell [] named-kept (names last)  -- 18 last
    ∷ kind 0 state-cell (boolean ∷ boolean ∷ asked ∷ asked ∷ []) asked (of_four machine_of)  -- 19 machine
    ∷ []

-- how many kinds there are
abbrev pub kind_count : ℕ
kind_count = 20

kinds-counted : length kinds ≡ kind_count
kinds-counted = refl

abbrev pub body : Kind → ℕ
body (kind b c os t m) = b

abbrev pub owned : Kind → Owned
owned (kind b c os t m) = c

abbrev pub operands : Kind → List ℕ
operands (kind b c os t m) = os

abbrev pub type : Kind → ℕ
type (kind b c os t m) = t

abbrev pub meaning : Kind → Meaning
meaning (kind b c os t m) = m

-- The columns, each by the kind's number.
abbrev pub body_of : ℕ → ℕ
body_of k = get_or (map body kinds) k 0

abbrev pub owned_of : ℕ → Owned
owned_of k = get_or (map owned kinds) k no_cell

abbrev pub count_of : ℕ → ℕ
count_of k = get_or (map (λ r. length (operands r)) kinds) k 0

abbrev pub cells : Owned → ℕ
cells no_cell = 0
cells pre-cell = 1
cells fby-cell = 1
cells state-cell = 1

-- how many cells an expression of kind k owns itself
abbrev pub cells_of : ℕ → ℕ
cells_of k = cells (owned_of k)

abbrev read_count : Owned → ℕ → ℕ
read_count no_cell n = n
read_count pre-cell n = 0
read_count fby-cell n = 1
read_count state-cell n = n

-- how many of the operands, from the first on, are read within the instant: a pre reads none, an fby its left side, and any other kind all
abbrev pub read_count_of : ℕ → ℕ
read_count_of k = read_count (owned_of k) (count_of k)

abbrev owned_forms : Owned → ValueType → ℕ → List CellForm
owned_forms no_cell type body = []
owned_forms pre-cell type body = pre_cell (datum_of type body) ∷ []
owned_forms fby-cell type body = fby_cell type ∷ []
owned_forms state-cell type body = state_cell ∷ []

-- the form of the cell that an expression of kind k owns itself, by its type and the number in its body
abbrev pub own_forms : (k : ℕ) → ValueType → (body : ℕ) → List CellForm
own_forms k = owned_forms (owned_of k)

abbrev pub own_type_of : ℕ → ℕ
own_type_of k = get_or (map type kinds) k 0

unfoldable pub meaning_of : ℕ → Meaning
meaning_of k = get_or (map meaning kinds) k constant_of

-- a type of the table where the type t is asked
abbrev pub typed : ℕ → ℕ → ℕ
typed t u = cond (eqb u asked) t u

-- the types asked of the operands of kind k where t is asked of the whole
unfoldable pub operands_of : ℕ → ℕ → List ℕ
operands_of k t = map (typed t) (get_or (map operands kinds) k [])

-- whether kind k names a wire
abbrev pub names_wire : ℕ → Bool
names_wire k = eqb (own_type_of k) named-wire || eqb (own_type_of k) named-kept

-- what a body of one byte stays below: the wires or the inputs, of which it names one, or the two Booleans
abbrev pub limit_of : List ℕ → List ℕ → ℕ → ℕ
limit_of inputs wires k = cond (names_wire k) (length wires) (cond (eqb (own_type_of k) named-input) (length inputs) 2)

-- it names a wire that is not kept, and may only name a kept one
abbrev pub names_unkept : List ℕ → ℕ → ℕ → Bool
names_unkept wires k n = cond (eqb (own_type_of k) named-kept) (not (is_kept (get_or wires n 0))) false

-- the type of an expression of kind k that names n, where t is asked
abbrev pub found_of : List ℕ → List ℕ → ℕ → ℕ → ℕ → ℕ
found_of inputs wires t k n =
    cond (names_wire k) (plain_byte (get_or wires n 0)) (cond (eqb (own_type_of k) named-input) (get_or inputs n 0) (typed t (own_type_of k)))

-- the type of operand i among the types that the code holds as one number: a bit to the first, one to the second, one to all later ones
abbrev pub operand_type_in : (types i : ℕ) → ℕ
operand_type_in types i = types / 2 ^ cond (ltb i 2) i 2 % 2

-- the octal digit at place k of a number: how the code holds a column of the table
abbrev pub digit_of : ℕ → ℕ → ℕ
digit_of column k = column / 2 ^ (3 * k) % 8
