-- The measure is the row's length.
use lib.ListN.{length}
use Rattle.text.proofs.Text.+put_numbers.Given as goal

abbrev pub decreases-put_numbers : goal.decreases-put_numbers
decreases-put_numbers l = length l.output.now
