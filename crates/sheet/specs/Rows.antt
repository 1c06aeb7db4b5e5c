-- Rows as bytes, 4 to an entry: the input row (14 and 15) and the output row (16).
use Rattle.std.specs.Prelude.{ℕ, suc, ◌*◌, Bool, not, List, [], ◌∷◌, ◌++◌, length, get_or}
use Rattle.numbers.specs.Words.{word_at, word_bytes}
use Rattle.sheet.specs.Data.{ValueType, number, stands_for, datum_of, word_of}
use Rattle.sheet.specs.Outcomes.{Outcome, result, unless_length, unless_any}
use Rattle.sheet.specs.declared.Datum.{Datum}
use Rattle.sheet.specs.declared.Refusal.TheVariants.{InputLength, InputContent}

unfoldable pub row_bytes : List Datum → List ℕ
row_bytes [] = []
row_bytes (d ∷ ds) = word_bytes (word_of d) ++ row_bytes ds

abbrev pub entry_at : List ℕ → ℕ → ℕ
entry_at row i = word_at row (4 * i)

module _ (types : List ValueType) where
  abbrev type_at : ℕ → ValueType
  type_at i = get_or types i number

  -- a Boolean input with a value other than 0 or 1
  unfoldable pub wrong_at : List ℕ → ℕ → Bool
  wrong_at row i = not (stands_for (type_at i) (entry_at row i))

-- the data of these types, from entry i on
unfoldable pub data_from : List ℕ → ℕ → List ValueType → List Datum
data_from row i [] = []
data_from row i (t ∷ ts) = datum_of t (entry_at row i) ∷ data_from row (suc i) ts

-- the data of an input row, or 14 or 15
unfoldable pub inputs_of : List ValueType → List ℕ → Outcome (List Datum)
inputs_of types row =
    unless_length InputLength (length row) (4 * length types)
    (unless_any InputContent (wrong_at types row) (length types)
    (result (data_from row 0 types)))
