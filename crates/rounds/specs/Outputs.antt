-- The output row from the words of the wires, and that it is the row of the values which the words hold.
use Rattle.std.specs.Prelude.{ℕ, suc, ◌*◌, ◌<◌, ◌≡◌, refl, Bool, List, [], ◌∷◌, ◌++◌, map, length, get_or}
use Rattle.std.proofs.Common.{arith}
use Rattle.numbers.specs.Words.{word_bytes}
use Rattle.sheet.specs.Data.{word_of}
use Rattle.sheet.specs.Rows.{row_bytes}
use Rattle.sheet.specs.Sheets.{Sheet}
use Rattle.kernel.specs.Values.{datum_in, IsKnown, known}
use Rattle.kernel.specs.Order.{value_at}
use Rattle.kernel.specs.Systems.{Full}
use Rattle.kernel.specs.Instants.{output_row}
use Rattle.kernel.specs.declared.Value.{Value}
use Rattle.rounds.specs.Running.{Held, held, unheld, Holds}

-- each output is a wire below n
unfoldable pub Below : ℕ → List ℕ → Type 0
Below n outputs = (i : ℕ) → i < length outputs → get_or outputs i 0 < n

-- the bytes of the outputs' words, one after the other
unfoldable pub words_of : List ℕ → List ℕ → List ℕ
words_of [] words = []
words_of (w ∷ ws) words = word_bytes (get_or words w 0) ++ words_of ws words

pub words-length : (outputs words : List ℕ) → length (words_of outputs words) ≡ 4 * length outputs
unfolding words_of
words-length [] words = refl
words-length (w ∷ ws) words = omega (arith, words-length ws words)

word_held : {b : Bool} {word : ℕ} {v : Value} → Held b word v → IsKnown v → word ≡ word_of (datum_in v)
word_held (held e) known = e
word_held unheld h = elim h [ ]

row-of-words : {n bits : ℕ} {row words : List ℕ} {values : List Value} → Holds n row bits words values → Full n values → (outputs : List ℕ)
    → Below n outputs → words_of outputs words ≡ row_bytes (map (λ w. datum_in (value_at values w)) outputs)
unfolding Below words_of row_bytes Full
row-of-words h full [] l = refl
row-of-words h full (w ∷ ws) l =
    rw (
      word_held (h.each w (l 0 (omega arith))) (full w (l 0 (omega arith))),
      row-of-words h full ws (λ i m. l (suc i) (omega arith)),
    )

-- where no value is unknown, the words make the output row
pub output_words : {n bits : ℕ} {row words : List ℕ} {values : List Value} → Holds n row bits words values → Full n values → (sheet : Sheet)
    → Below n sheet.outputs → words_of sheet.outputs words ≡ row_bytes (output_row sheet values)
unfolding output_row
output_words h full sheet l = row-of-words h full sheet.outputs l
