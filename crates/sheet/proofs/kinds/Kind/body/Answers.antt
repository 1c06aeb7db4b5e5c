-- `body` meets its contract: its number has the table's column for digits. Assumes nothing.
use mathlib.Core.Path.{refl, ◌∙◌}
use Rattle.sheet.specs.Kinds.{body_of}
use Rattle.sheet.proofs.Table.{passes, column_is}
use Rattle.sheet.proofs.kinds.Kind.body.Goals as goal

pub returns : goal.returns
unfolding passes
returns c = c.digit.ensures ∙ column_is _ body_of refl c.args.self
