-- `row_line` puts the instant's number, the outputs and the newline, one after another.
use native.Mathlib.Omega.{arith}
use borrow.Author.Rules.{rules}
use Rattle.lines.specs.Lines.{row_line}
use Rattle.text.proofs.Putting.{then}
use Rattle.lines.proofs.Holding.{held}
use Rattle.lines.proofs.row_line.Goals as goal

pub returns : goal.returns
unfolding row_line
returns c =
    let new = c.new-text.ensures in
    held new.untouched new.size (then (then c.put_digits.ensures.puts c.put_numbers.ensures.puts) c.put_byte.ensures.puts) (omega arith) (search rules)
