-- `short_line` puts the word and the newline at the start.
use native.Mathlib.Omega.{arith}
use borrow.Author.Rules.{rules}
use Rattle.lines.specs.Lines.{short_line}
use Rattle.lines.proofs.Holding.{held}
use Rattle.lines.proofs.short_line.Goals as goal

pub returns : goal.returns
unfolding short_line
returns c =
    let new = c.new-text.ensures in
    held new.untouched new.size c.put.ensures.puts (omega arith) (search rules)
