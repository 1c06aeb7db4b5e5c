-- Types and data: what inputs, constants, cells and known wires hold, and the 32 bits that stand for it in rows and cells.
use Rattle.std.specs.Prelude.{ℕ, ◌%◌, Bool, true, cond, eqb, ltb, leb}
use Rattle.std.specs.Int.{w32}
use Rattle.std.proofs.Common.{to_z, of_z, SFits}
use Rattle.sheet.specs.declared.Datum.{Datum}
use Rattle.sheet.specs.declared.Datum.TheVariants.{Boolean, Number}

pub data ValueType : Type 0 where
  boolean number : ValueType

-- type byte 0 is Boolean, 1 is number
abbrev pub type_of_byte : ℕ → ValueType
type_of_byte b = cond (eqb b 0) boolean number

-- A wire's type byte (document 02, K7): the byte of its type, and 2 more where the wire is kept.
abbrev pub plain_byte : ℕ → ℕ
plain_byte b = b % 2

abbrev pub is_kept : ℕ → Bool
is_kept b = leb 2 b

abbrev pub wire_type : ℕ → ValueType
wire_type b = type_of_byte (plain_byte b)

abbrev pub type_of : Datum → ValueType
type_of (Boolean b) = boolean
type_of (Number z) = number

-- a datum of the type: a number is one of 32 bits
abbrev pub IsOf : ValueType → Datum → Type 0
IsOf boolean (Boolean b) = Unit {0}
IsOf boolean (Number z) = ⊥
IsOf number (Boolean b) = ⊥
IsOf number (Number z) = SFits w32 z

-- a word that stands for a datum of the type: of a Boolean 0 or 1
abbrev pub stands_for : ValueType → ℕ → Bool
stands_for boolean word = ltb word 2
stands_for number word = true

-- the datum that a word stands for, a number in two's complement
abbrev pub datum_of : ValueType → ℕ → Datum
datum_of boolean word = Boolean (eqb word 1)
datum_of number word = Number (to_z w32 word)

abbrev pub word_of : Datum → ℕ
word_of (Boolean b) = cond b 1 0
word_of (Number z) = of_z w32 z
