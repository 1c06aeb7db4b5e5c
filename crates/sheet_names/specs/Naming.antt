-- What the check of expressions looks up: what the bodies of kinds 0 to 3 may name, by the kind, so that 7 and 9 are told without a branch
-- for each kind; which wires are kept, for kind 18; and how many kept wires are still ahead.
use Rattle.std.specs.Prelude.{ℕ, ◌/◌, ◌%◌, ◌^◌, ◌≤◌, ◌<◌, ◌≡◌, Bool, ◌&&◌, cond, List, eqb, ltb, leb, length, get_or}
use Rattle.wires.specs.Sets.{member}
use Rattle.sheet.specs.Data.{plain_byte, is_kept}
use Rattle.sheet.specs.Kinds.{body_of, limit_of, found_of}
use Rattle.sheet.specs.Sheets.{kept_count}
use Rattle.sheet_names.specs.declared.Names.{Names}

-- the number that an expression of kind k names where `byte` follows its kind byte: that byte where it is the whole body
abbrev pub name_in : (k byte : ℕ) → ℕ
name_in k byte = cond (eqb (body_of k) 1) byte 0

-- what a name of kind k stays below
abbrev pub limit_in : (names : Names) → ℕ → ℕ
limit_in names k = get_or names.limits k 0

-- the type byte of what is named: a bit to each name, of which there are at most 64
abbrev pub type_in : (names : Names) → (k byte : ℕ) → ℕ
type_in names k byte = get_or names.numbers k 0 / 2 ^ (byte % 64) % 2

-- whether the wire that a byte names is kept: one of at most 64
abbrev pub kept_in : (names : Names) → (byte : ℕ) → Bool
kept_in names byte = ltb byte 64 && member names.kept.bits byte

-- how many kept wires come behind the one whose expression is checked: their cells are counted, but have higher numbers
abbrev pub ahead_in : (names : Names) → ℕ
ahead_in names = names.ahead

-- of names with these type bytes: the set of those that stand for a number, the set of those that are kept, and how many are
pub record Sorted (types : List ℕ) (numberBits keptBits count : ℕ) : Type 0 where
  pub numbers : (i : ℕ) → member numberBits i ≡ eqb (plain_byte (get_or types i 0)) 1
  pub kept : (i : ℕ) → member keptBits i ≡ is_kept (get_or types i 0)
  pub counted : count ≡ kept_count types

-- the names give 7 and 9 of the leaves of a sheet with inputs and wires of these types
pub record Naming (inputs wires : List ℕ) (names : Names) : Type 0 where
  pub few : length wires ≤ 64
  pub limits : (k byte : ℕ) → k < 4 → byte < 256 → leb (limit_in names k) byte ≡ leb (limit_of inputs wires k) (name_in k byte)
  pub types : (k byte t : ℕ) → k < 4 → byte < 256 → name_in k byte < limit_of inputs wires k → t < 2
      → eqb (type_in names k byte) t ≡ eqb (found_of inputs wires t k (name_in k byte)) t
  pub keeps : (byte : ℕ) → byte < 256 → kept_in names byte ≡ is_kept (get_or wires byte 0)
