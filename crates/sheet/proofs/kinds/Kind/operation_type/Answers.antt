-- `operation_type` meets its contract, which is a law of the table's rows.
use Rattle.sheet.specs.KindBytes.{byte_of}
use Rattle.sheet.proofs.Table.{operation_operands}
use Rattle.sheet.proofs.kinds.Kind.operation_type.Goals as goal

pub returns : goal.returns
returns c asked = rw c.digit.ensures (operation_operands asked (byte_of c.args.self) c.requires.0 c.requires.1)
