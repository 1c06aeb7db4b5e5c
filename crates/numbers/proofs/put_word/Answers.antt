-- `put_word` stores the four bytes of a word and nothing else.
use Prim.Native.Nat.{◌+◌, ◌/◌, ◌%◌}
use mathlib.Core.Path.{◌≡◌, refl, ◌∙◌}
use native.Mathlib.Omega.{arith}
use Rattle.numbers.specs.Words.{word_bytes}
use Rattle.numbers.specs.Laws.{spliced}
use Rattle.numbers.proofs.put_word.Goals as goal

pub returns : goal.returns
returns c =
    let word = c.args.word in
    let last : word / 16777216 % 256 ≡ word / 16777216 = omega (arith, c.ranges.word.fits) in
    let bytes : c.to_le_bytes.result ≡ word_bytes word = c.to_le_bytes.ensures ∙ rw last in
    spliced c.args.bytes.now c.args.at (c.args.at + 4) c.requires (c.copy_from_slice.ensures.after ∙ bytes) refl
