-- Two sheets with what their bytes say: document 01's quarter sheet, and one in which every kind occurs; and bytes that misuse kept wires or
-- machines.
use Rattle.std.specs.Prelude.{ℕ, true, false, List, [], ◌∷◌, ◌++◌, replicate, pos}
use Rattle.sheet.specs.Data.{boolean, number}
use Rattle.sheet.specs.Expressions.{Expression, constant, wire, input, last, unary, binary, conditional, pre, fby, kept}
use Rattle.sheet.specs.Expressions.{present_of, reset_of, machine_of, negation, negative}
use Rattle.sheet.specs.Expressions.{conjunction, disjunction, sum, difference, lessThan, equality}
use Rattle.sheet.specs.Sheets.{Sheet}
use Rattle.sheet.specs.declared.Datum.TheVariants.{Boolean, Number}

abbrev natural : ℕ → Expression
natural n = constant (Number (pos n))

abbrev pub quarter_bytes : List ℕ
quarter_bytes =
    2 ∷ 0 ∷ 0 ∷ 2 ∷ 1 ∷ 1 ∷ 2 ∷ 0 ∷ 1
    ∷ 14 ∷ 3 ∷ 1 ∷ 8 ∷ 16 ∷ 0 ∷ 0 ∷ 0 ∷ 0 ∷ 2 ∷ 0 ∷ 12 ∷ 3 ∷ 0 ∷ 1 ∷ 1 ∷ 0 ∷ 0 ∷ 0 ∷ 1 ∷ 0 ∷ 0 ∷ 0 ∷ 0
    ∷ 16 ∷ 0 ∷ 0 ∷ 0 ∷ 0 ∷ 2 ∷ 0 ∷ []

abbrev pub quarter_sheet : Sheet
quarter_sheet = record {
  input_types = boolean ∷ boolean ∷ [];
  wire_types = number ∷ number ∷ [];
  outputs = 0 ∷ 1 ∷ [];
  expressions =
      reset_of (input 1) (binary sum (pre (Number (pos 0)) (wire 0)) (conditional (input 0) (natural 1) (natural 0)))
      ∷ pre (Number (pos 0)) (wire 0)
      ∷ [];
}

abbrev pub every_kind_bytes : List ℕ
every_kind_bytes =
    1 ∷ 1 ∷ 2 ∷ 0 ∷ 3 ∷ 1 ∷ 0
    ∷ 6 ∷ 4 ∷ 0 ∷ 1 ∷ 7 ∷ 10 ∷ 1 ∷ 1 ∷ 0 ∷ 0 ∷ 0 ∷ 5 ∷ 1 ∷ 2 ∷ 0 ∷ 0 ∷ 0 ∷ 11 ∷ 2 ∷ 1 ∷ 3 ∷ 0
    ∷ 13 ∷ 15 ∷ 1 ∷ 2 ∷ 0 ∷ 17 ∷ 8 ∷ 18 ∷ 1 ∷ 3 ∷ 0 ∷ 9 ∷ 2 ∷ 1 ∷ 1 ∷ 3 ∷ 0 ∷ 0 ∷ 0
    ∷ 14 ∷ 0 ∷ 0 ∷ 12 ∷ 2 ∷ 0 ∷ 16 ∷ 7 ∷ 0 ∷ 0 ∷ 0 ∷ 2 ∷ 1
    ∷ 19 ∷ 2 ∷ 0 ∷ 0 ∷ 1 ∷ 3 ∷ 0 ∷ 1 ∷ 4 ∷ 0 ∷ 0 ∷ 0 ∷ []

abbrev pub every_kind_sheet : Sheet
every_kind_sheet = record {
  input_types = number ∷ [];
  wire_types = boolean ∷ number ∷ [];
  outputs = 0 ∷ [];
  expressions =
      binary conjunction (unary negation (constant (Boolean true)))
      (binary disjunction (binary lessThan (natural 1) (unary negative (natural 2))) (binary equality (wire 1) (input 0)))
      ∷ kept number (present_of (pre (Boolean true) (wire 0))
      (fby number (binary sum (last 1) (input 0)) (binary difference (wire 1) (natural 3)))
      (reset_of (constant (Boolean false)) (conditional (wire 0) (pre (Number (pos 7)) (wire 1))
      (machine_of (wire 0) (constant (Boolean true)) (input 0) (natural 4)))))
      ∷ [];
}

-- wire type byte 4; input type byte 2; kind 20; kind 18 of a wire that is not kept, and of one that is not there; of the other type; cut; a pre
-- in wire 0, behind the cells of 64 kept wires; a machine there; a machine that asks a number, whose first body is a Boolean; without its last
-- operand
abbrev pub misused_bytes : List (List ℕ)
misused_bytes =
    (0 ∷ 1 ∷ 4 ∷ 1 ∷ 0 ∷ 0 ∷ 0 ∷ [])
    ∷ (1 ∷ 2 ∷ 1 ∷ 0 ∷ 1 ∷ 0 ∷ 0 ∷ 0 ∷ [])
    ∷ (0 ∷ 1 ∷ 3 ∷ 1 ∷ 0 ∷ 20 ∷ 0 ∷ [])
    ∷ (0 ∷ 1 ∷ 1 ∷ 1 ∷ 0 ∷ 18 ∷ 0 ∷ [])
    ∷ (0 ∷ 1 ∷ 3 ∷ 1 ∷ 0 ∷ 18 ∷ 1 ∷ [])
    ∷ (0 ∷ 2 ∷ 1 ∷ 2 ∷ 1 ∷ 0 ∷ 18 ∷ 1 ∷ [])
    ∷ (0 ∷ 1 ∷ 3 ∷ 1 ∷ 0 ∷ 18 ∷ [])
    ∷ (0 ∷ 64 ∷ (replicate 64 2 ++ (1 ∷ 0 ∷ 15 ∷ 0 ∷ 0 ∷ 0 ∷ [])))
    ∷ (0 ∷ 64 ∷ (replicate 64 2 ++ (1 ∷ 0 ∷ 19 ∷ 0 ∷ 0 ∷ 0 ∷ 0 ∷ 0 ∷ 0 ∷ 0 ∷ 0 ∷ [])))
    ∷ (0 ∷ 1 ∷ 1 ∷ 1 ∷ 0 ∷ 19 ∷ 0 ∷ 0 ∷ 0 ∷ 0 ∷ 0 ∷ 0 ∷ [])
    ∷ (0 ∷ 1 ∷ 0 ∷ 1 ∷ 0 ∷ 19 ∷ 0 ∷ 0 ∷ 0 ∷ 0 ∷ 0 ∷ 0 ∷ [])
    ∷ []
