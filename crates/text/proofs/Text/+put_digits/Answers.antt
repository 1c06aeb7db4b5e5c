-- `put_digits` puts the digits: of a number below ten the one, of a larger one those of its tenth part and then the last.
-- The measure is the number.
use Prim.Native.Nat.{◌/◌}
use native.Mathlib.Omega.{arith}
use Rattle.text.proofs.Laws.{digits-below}
use Rattle.text.proofs.Spelling.{only, last}
use Rattle.text.proofs.Text.+put_digits.Goals as goal

pub returns-then-n-lt10-clause-puts : goal.returns-then-n-lt10-clause-puts
returns-then-n-lt10-clause-puts t c = (only c.args.n (omega arith) c.put_byte.ensures.puts).0

pub put_byte-requires-2 : goal.put_byte-requires-2
put_byte-requires-2 t c =
    let n = c.args.n in
    let tenth = c.put_digits.ensures.puts in
    omega (arith, digits-below 8 (n / 10) (omega arith), tenth.passed)

pub returns-clause-puts : goal.returns-clause-puts
returns-clause-puts t c = (last c.args.n (omega arith) (omega arith) c.put_digits.ensures.puts c.put_byte-2.ensures.puts).0

pub returns-clause-upper_bound : goal.returns-clause-upper_bound
returns-clause-upper_bound t c = (last c.args.n (omega arith) (omega arith) c.put_digits.ensures.puts c.put_byte-2.ensures.puts).1
