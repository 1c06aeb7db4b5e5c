-- `put_numbers` puts the numbers of the row: the first one, and then those of what is left of the row. The measure is the row's length.
use mathlib.Core.Path.{refl, ap, ◌∙◌}
use native.Mathlib.Omega.{arith}
use mir.Syntax.{w32}
use mir.Val.{to_z}
use mir.Facts.{to_z-of_z}
use borrow.Author.Rules.{sfits_of}
use Prim.Native.Nat.{◌-◌}
use lib.ListN.{length, drop, length-drop}
use lib.Seq.{length-take-le}
use Rattle.text.proofs.Spelling.{none_left, row}
use Rattle.text.proofs.Text.+put_numbers.Goals as goal

pub returns-then-output-lt4-clause-puts : goal.returns-then-output-lt4-clause-puts
returns-then-output-lt4-clause-puts t c =
    rw (none_left c.args.output.now (omega arith)) (record { placed = refl; passed = omega arith })

pub put_numbers-requires : goal.put_numbers-requires
put_numbers-requires t c =
    let s = c.args.output.now in
    let rest = length-drop 4 s in
    let short = length-take-le (length s - 4) (drop 4 s) (omega (arith, rest)) in (
      omega (arith, short, rest),
      omega (arith, short, rest, c.put_byte.ensures.puts.passed, c.put_number.ensures.upper_bound),
    )

pub returns-clause-puts : goal.returns-clause-puts
returns-clause-puts t c =
    let bits = c.of_bits in
    let z = to_z-of_z (sfits_of {w = w32} bits.type_inv) ∙ bits.ensures ∙ ap (to_z w32) c.word_at.ensures in
    row c.args.output.now z (omega arith) c.put_byte.ensures.puts c.put_number.ensures.puts c.put_numbers.ensures.puts
