-- Two sheets into one (document 02, K10), as trees: inputs, wires and outputs of the first, then those of the second, with numbers shifted.
use Rattle.std.specs.Prelude.{ℕ, ◌+◌, List, ◌++◌, map, length}
use Rattle.sheet.specs.Expressions.{Expression, constant, wire, input, last, unary, binary, conditional, switch, pre, fby, kept}
use Rattle.sheet.specs.Expressions.{Alternatives, only, either}
use Rattle.sheet.specs.Sheets.{Sheet}

-- every wire number, also one that kind 18 names, is raised by `wires`, and every input number by `inputs`
module _ (wires inputs : ℕ) where
  unfoldable mutual
    pub shifted : Expression → Expression
    shifted (constant d) = constant d
    shifted (wire w) = wire (wires + w)
    shifted (input i) = input (inputs + i)
    shifted (last w) = last (wires + w)
    shifted (unary o a) = unary o (shifted a)
    shifted (binary o a b) = binary o (shifted a) (shifted b)
    shifted (conditional c a b) = conditional (shifted c) (shifted a) (shifted b)
    shifted (switch o cs bs) = switch o (shifted_in cs) (shifted_in bs)
    shifted (pre d a) = pre d (shifted a)
    shifted (fby t a b) = fby t (shifted a) (shifted b)
    shifted (kept t a) = kept t (shifted a)

    pub shifted_in : Alternatives → Alternatives
    shifted_in (only a) = only (shifted a)
    shifted_in (either a b) = either (shifted a) (shifted b)

-- wire numbers, as outputs and schedules have them, raised
abbrev pub shifted_numbers : (wires : ℕ) → List ℕ → List ℕ
shifted_numbers wires = map (λ w. wires + w)

-- a schedule of a sheet with so many wires, and then one of the second
abbrev pub joined_list : (wires : ℕ) → (list other : List ℕ) → List ℕ
joined_list wires list other = list ++ shifted_numbers wires other

abbrev pub joined : (first second : Sheet) → Sheet
joined first second =
    let wires = length first.wire_types in
    let inputs = length first.input_types in
    record {
      input_types = first.input_types ++ second.input_types;
      wire_types = first.wire_types ++ second.wire_types;
      outputs = first.outputs ++ shifted_numbers wires second.outputs;
      expressions = first.expressions ++ map (shifted wires inputs) second.expressions;
    }
