-- What an expression reads within the instant: the wires and the inputs that it names, in any operand of a switch, but not anywhere under a
-- pre's operand or an fby's right operand. Kind 18 reads nothing: it gives a cell.
use Rattle.std.specs.Prelude.{ℕ, cond, List, [], ◌∷◌, ◌++◌, eqb}
use Rattle.sheet.specs.Expressions.{Expression, constant, wire, input, last, unary, binary, conditional, switch, pre, fby, kept}
use Rattle.sheet.specs.Expressions.{Alternatives, only, either}

unfoldable mutual
  pub wires_read : Expression → List ℕ
  wires_read (constant d) = []
  wires_read (wire w) = w ∷ []
  wires_read (input i) = []
  wires_read (last w) = []
  wires_read (unary o a) = wires_read a
  wires_read (binary o a b) = wires_read a ++ wires_read b
  wires_read (conditional c a b) = wires_read c ++ (wires_read a ++ wires_read b)
  wires_read (switch o cs bs) = wires_in cs ++ wires_in bs
  wires_read (pre d a) = []
  wires_read (fby t a b) = wires_read a
  wires_read (kept t a) = wires_read a

  pub wires_in : Alternatives → List ℕ
  wires_in (only a) = wires_read a
  wires_in (either a b) = wires_read a ++ wires_read b

-- what several expressions read, one after the other
unfoldable pub all_read : List Expression → List ℕ
all_read [] = []
all_read (e ∷ es) = wires_read e ++ all_read es

-- the wire that an expression of kind k itself names, by the number in its body
abbrev pub wires_named : ℕ → ℕ → List ℕ
wires_named k body = cond (eqb k 2) (body ∷ []) []

unfoldable mutual
  pub inputs_read : Expression → List ℕ
  inputs_read (constant d) = []
  inputs_read (wire w) = []
  inputs_read (input i) = i ∷ []
  inputs_read (last w) = []
  inputs_read (unary o a) = inputs_read a
  inputs_read (binary o a b) = inputs_read a ++ inputs_read b
  inputs_read (conditional c a b) = inputs_read c ++ (inputs_read a ++ inputs_read b)
  inputs_read (switch o cs bs) = inputs_in cs ++ inputs_in bs
  inputs_read (pre d a) = []
  inputs_read (fby t a b) = inputs_read a
  inputs_read (kept t a) = inputs_read a

  pub inputs_in : Alternatives → List ℕ
  inputs_in (only a) = inputs_read a
  inputs_in (either a b) = inputs_read a ++ inputs_read b
