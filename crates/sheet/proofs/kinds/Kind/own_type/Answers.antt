-- `own_type` meets its contract: its number has the table's column for digits. Assumes nothing.
use mathlib.Core.Path.{refl, ◌∙◌}
use Rattle.sheet.specs.Kinds.{own_type_of}
use Rattle.sheet.proofs.Table.{passes, column_is}
use Rattle.sheet.proofs.kinds.Kind.own_type.Goals as goal

pub returns : goal.returns
unfolding passes
returns c = c.digit.ensures ∙ column_is _ own_type_of refl c.args.self
