-- The operations on words: each word stands for a datum of the operands' type, and the result is the word of what comes out.
use Rattle.std.specs.Prelude.{ℕ}
use Rattle.sheet.specs.Data.{datum_of, word_of}
use Rattle.sheet.specs.Expressions.{Unary, Binary}
use Rattle.sheet.specs.Typing.{unary_type, operand_type}
use Rattle.kernel.specs.Operations.{apply_unary, apply_binary}

abbrev pub unary_word : Unary → ℕ → ℕ
unary_word o v = word_of (apply_unary o (datum_of (unary_type o) v))

abbrev pub binary_word : Binary → ℕ → ℕ → ℕ
binary_word o v w = word_of (apply_binary o (datum_of (operand_type o) v) (datum_of (operand_type o) w))
