-- What a leaf stands for, a constant, a wire or an input: whether its value is known, and its word; and the word of kind 18.
use Rattle.std.specs.Prelude.{ℕ, ◌+◌, ◌<◌, ◌≡◌, Bool, true, cond, List, Result, Ok, Err, eqb, get_or}
use Rattle.wires.specs.Sets.{member}
use Rattle.sheet.specs.Kinds.{body_of}
use Rattle.sheet.specs.Readings.{body_at, Whole}
use Rattle.leaves.specs.Words.{first_input, first_last}
use Rattle.sheet_walk.specs.declared.Place.{Place}
use Rattle.leaves.specs.declared.Valued.{Valued}

-- a leaf stands at the place; a wire that it names is one of 64, and an input one of 16
pub record Leaf (sheet : List ℕ) (at : ℕ) : Type 0 where
  pub whole : Whole sheet at
  pub kind : get_or sheet at 0 < 4
  pub wire : get_or sheet at 0 ≡ 2 → body_at sheet at < 64
  pub entry : get_or sheet at 0 ≡ 3 → body_at sheet at < 16

-- kind 18 stands at the place; the wire that it names is one of 64
pub record Last (sheet : List ℕ) (at : ℕ) : Type 0 where
  pub whole : Whole sheet at
  pub kind : get_or sheet at 0 ≡ 18
  pub wire : body_at sheet at < 64

-- of a wire by the set of known wires, and else known
abbrev pub known_by : (bits kind named : ℕ) → Bool
known_by bits kind named = cond (eqb kind 2) (member bits named) true

module _ (sheet words : List ℕ) where
  -- the word of the wire or of the input that it names, or its constant
  abbrev pub leaf_word : ℕ → ℕ
  leaf_word at =
      cond (eqb (get_or sheet at 0) 2) (get_or words (body_at sheet at) 0)
      (cond (eqb (get_or sheet at 0) 3) (get_or words (first_input + body_at sheet at) 0)
      (body_at sheet at))

  -- its value where it is known, and as it is by the set of known wires
  abbrev pub leaf_known : Place → Valued
  leaf_known here = record {
    word = leaf_word here.at;
    end = record { at = here.at + 1 + body_of (get_or sheet here.at 0); cell = here.cell };
  }

  abbrev pub leaf_valued : (bits : ℕ) → Place → Result Valued Valued
  leaf_valued bits here =
      cond (known_by bits (get_or sheet here.at 0) (body_at sheet here.at)) (Ok (leaf_known here)) (Err (leaf_known here))

  -- the word of the cell of the kept wire that kind 18 names, which is always known
  abbrev pub last_word : ℕ → ℕ
  last_word at = get_or words (first_last + body_at sheet at) 0

  abbrev pub last_valued : Place → Valued
  last_valued here = record { word = last_word here.at; end = record { at = here.at + 2; cell = here.cell } }
