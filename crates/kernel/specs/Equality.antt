-- Tests of equality: on data, on values, on the values of all wires.
use Rattle.std.specs.Prelude.{Bool, true, false, ◌&&◌, List, [], ◌∷◌}
use Rattle.std.specs.Bool.{beq}
use Rattle.numbers.specs.Numbers.{equals}
use Rattle.sheet.specs.declared.Datum.{Datum}
use Rattle.sheet.specs.declared.Datum.TheVariants.{Boolean, Number}
use Rattle.kernel.specs.declared.Value.{Value}
use Rattle.kernel.specs.declared.Value.TheVariants.{Unknown, Known}

unfoldable pub same_datum : Datum → Datum → Bool
same_datum (Boolean a) (Boolean b) = beq a b
same_datum (Boolean a) (Number z) = false
same_datum (Number z) (Boolean b) = false
same_datum (Number y) (Number z) = equals y z

unfoldable pub same_value : Value → Value → Bool
same_value Unknown Unknown = true
same_value Unknown (Known e) = false
same_value (Known d) Unknown = false
same_value (Known d) (Known e) = same_datum d e

unfoldable pub same_values : List Value → List Value → Bool
same_values [] [] = true
same_values [] (v ∷ vs) = false
same_values (v ∷ vs) [] = false
same_values (v ∷ vs) (w ∷ ws) = same_value v w && same_values vs ws
