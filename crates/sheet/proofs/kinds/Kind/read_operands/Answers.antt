-- `read_operands` meets its contract: its number has the table's column for digits. Assumes nothing.
use mathlib.Core.Path.{refl, ◌∙◌}
use Rattle.sheet.specs.Kinds.{read_count_of}
use Rattle.sheet.proofs.Table.{passes, column_is}
use Rattle.sheet.proofs.kinds.Kind.read_operands.Goals as goal

pub returns : goal.returns
unfolding passes
returns c = c.digit.ensures ∙ column_is _ read_count_of refl c.args.self
