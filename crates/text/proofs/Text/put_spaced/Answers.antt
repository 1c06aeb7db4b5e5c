-- `put_spaced` puts a space and the digits.
use Rattle.text.specs.Pieces.{spaced}
use Rattle.text.proofs.Putting.{then}
use Rattle.text.proofs.Text.put_spaced.Goals as goal

pub returns-clause-puts : goal.returns-clause-puts
unfolding spaced
returns-clause-puts c = then c.put_byte.ensures.puts c.put_digits.ensures.puts
