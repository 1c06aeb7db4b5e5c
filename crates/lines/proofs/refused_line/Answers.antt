-- `refused_line` puts the word, the numbers and the newline, one after another.
use native.Mathlib.Omega.{arith}
use borrow.Author.Rules.{rules}
use Rattle.lines.specs.Lines.{refused_line}
use Rattle.text.proofs.Putting.{then}
use Rattle.lines.proofs.Holding.{held}
use Rattle.lines.proofs.refused_line.Goals as goal

pub returns : goal.returns
unfolding refused_line
returns c =
    let new = c.new-text.ensures in
    let two = then (then c.put.ensures.puts c.put_spaced.ensures.puts) c.put_spaced-2.ensures.puts in
    held new.untouched new.size (then two c.put_byte.ensures.puts) (omega arith) (search rules)
