-- `operand_types` meets its contract: its two numbers have for digits the types asked, a Boolean or a number of the whole.
use mathlib.Core.Path.{◌≡◌, refl}
use native.Mathlib.Omega.{arith}
use Rattle.sheet.specs.Kinds.{operands_of}
use Rattle.sheet.specs.KindBytes.{byte_of}
use Rattle.sheet.proofs.Table.{passes, byte_few, asked-are}
use Rattle.sheet.proofs.kinds.Kind.operand_types.Goals as goal

pub returns-then-asked-eq0 : goal.returns-then-asked-eq0
unfolding passes operands_of
returns-then-asked-eq0 c i within =
    rw (c.digit.ensures, c.if-asked-eq0.true) (asked-are _ 0 refl (byte_of c.args.self) (byte_few c.args.self) i within)

pub returns-else-asked-eq0 : goal.returns-else-asked-eq0
unfolding passes operands_of
returns-else-asked-eq0 c i within =
    let number : c.args.asked ≡ 1 = omega (arith, c.requires, c.if-asked-eq0.false) in
    rw (c.digit-else-asked-eq0.ensures, number) (asked-are _ 1 refl (byte_of c.args.self) (byte_few c.args.self) i within)
