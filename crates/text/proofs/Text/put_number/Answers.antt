-- `put_number` puts the number: after a sign where it is below zero, and with the digits of its magnitude.
use mir.Facts.{to_z-of_z}
use Rattle.text.proofs.Putting.{then}
use Rattle.text.proofs.Spelling.{below, above}
use Rattle.text.proofs.Text.put_number.Goals as goal

pub returns-then-z-lt0-clause-puts : goal.returns-then-z-lt0-clause-puts
returns-then-z-lt0-clause-puts c =
    let put = then c.put_byte.ensures.puts c.put_digits.ensures.puts in
    rw (below _ c.ranges.z c.if-z-lt0.true, ← to_z-of_z c.ranges.z, ← c.unsigned_abs.ensures.value) put

pub returns-clause-puts : goal.returns-clause-puts
returns-clause-puts c =
    rw (above _ c.ranges.z c.if-z-lt0.false, ← to_z-of_z c.ranges.z, ← c.unsigned_abs-2.ensures.value) c.put_digits-2.ensures.puts
