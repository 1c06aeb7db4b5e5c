-- What a function that puts a piece of text leaves in the buffer that it was lent.
use Rattle.std.specs.Prelude.{ℕ, ◌+◌, ◌≡◌, List, length}
use Rattle.std.proofs.lemmas.List.Edits.{sets}

-- the text was put at a place of the buffer, nothing else was changed, and `next` is the place past it
pub record Puts (before : List ℕ) (at : ℕ) (text after : List ℕ) (next : ℕ) : Type 0 where
  pub placed : after ≡ sets before at text
  pub passed : next ≡ at + length text
