-- `left_line` puts the word, the number and the newline, one after another.
use native.Mathlib.Omega.{arith}
use borrow.Author.Rules.{rules}
use Rattle.lines.specs.Lines.{left_line}
use Rattle.text.proofs.Putting.{then}
use Rattle.lines.proofs.Holding.{held}
use Rattle.lines.proofs.left_line.Goals as goal

pub returns : goal.returns
unfolding left_line
returns c =
    let new = c.new-text.ensures in
    held new.untouched new.size (then (then c.put.ensures.puts c.put_spaced.ensures.puts) c.put_byte.ensures.puts) (omega arith) (search rules)
