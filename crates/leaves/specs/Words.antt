-- The words of an instant's inputs and of its kept wires' cells, which stand behind those of its wires, and what a place sees of its cell.
use Rattle.std.specs.Prelude.{ℕ, ◌+◌, ◌-◌, ◌*◌, ◌≤◌, ◌<◌, ◌≡◌, Bool, true, false, not, cond, List, eqb, length, get_or, drop}
use Rattle.sheet.specs.Data.{is_kept}
use Rattle.sheet.specs.Readings.{body_at}
use Rattle.sheet.specs.Memory.{mark_at, cell_word_at}
use Rattle.sheet.specs.Rows.{entry_at}

-- the words of an instant: those of the wires, by their numbers, and from here on those of the inputs
abbrev pub first_input : ℕ
first_input = 64

-- and from here on, by the numbers of the wires, those that the cells of kept wires hold
abbrev pub first_last : ℕ
first_last = 80

abbrev pub word_count : ℕ
word_count = 144

-- the words behind those of the wires, which no round changes
abbrev pub fixed_words : List ℕ → List ℕ
fixed_words words = drop first_input words

-- each entry of an input row is among them
unfoldable pub InputsPut : (input words : List ℕ) → Type 0
InputsPut input words = (i : ℕ) → 4 * i + 4 ≤ length input → get_or words (first_input + i) 0 ≡ entry_at input i

-- the wires with these type bytes and first cells; a kept wire's own cell is the one before
module _ (types firsts memory : List ℕ) where
  -- the cell of each kept wire is one of the memory
  pub record KeptCell (w : ℕ) : Type 0 where
    pub some : 1 ≤ get_or firsts w 0
    pub fits : 5 * get_or firsts w 0 ≤ length memory

  unfoldable pub KeptCells : Type 0
  KeptCells = (w : ℕ) → w < length types → is_kept (get_or types w 0) ≡ true → KeptCell w

  -- and its word is among those of the instant
  unfoldable pub LastsPut : (words : List ℕ) → Type 0
  LastsPut words = (w : ℕ) → w < length types → is_kept (get_or types w 0) ≡ true
      → get_or words (first_last + w) 0 ≡ cell_word_at memory (get_or firsts w 0 - 1)

-- the place sees its cell as started: the cell is so, and the place is not fresh
abbrev pub is_seen : Bool → List ℕ → ℕ → Bool
is_seen fresh memory k = cond fresh false (not (eqb (mark_at memory k) 0))

-- the word that a pre yields: that of its cell where it sees it started, and else that of its constant
abbrev pub pre_word : (sheet memory : List ℕ) (at cell : ℕ) → Bool → ℕ
pre_word sheet memory at cell fresh = cond (is_seen fresh memory cell) (cell_word_at memory cell) (body_at sheet at)

-- state 1 is the current one, which the cell of a machine has where it sees it started
abbrev pub is_second_state : Bool → (memory : List ℕ) → (cell : ℕ) → Bool
is_second_state fresh memory cell = cond (is_seen fresh memory cell) (eqb (cell_word_at memory cell) 1) false
