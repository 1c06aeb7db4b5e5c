-- Values: unknown, or known and then a Boolean or a number. Strictness is defined here and nowhere else.
use Rattle.std.specs.Prelude.{Bool, true, false, ℤ, pos}
use Rattle.sheet.specs.Data.{ValueType, IsOf}
use Rattle.sheet.specs.declared.Datum.{Datum}
use Rattle.sheet.specs.declared.Datum.TheVariants.{Boolean, Number}
use Rattle.kernel.specs.declared.Value.{Value}
use Rattle.kernel.specs.declared.Value.TheVariants.{Unknown, Known}

-- a datum of the other type counts as false, and as 0
abbrev pub truth : Datum → Bool
truth (Boolean b) = b
truth (Number z) = false

abbrev pub amount : Datum → ℤ
amount (Boolean b) = pos 0
amount (Number z) = z

-- strict: unknown where v is, and otherwise what f makes of its datum
abbrev pub when_known : Value → (Datum → Value) → Value
when_known Unknown f = Unknown
when_known (Known d) f = f d

abbrev pub is_unknown : Value → Bool
is_unknown Unknown = true
is_unknown (Known d) = false

-- a condition that holds; an unknown one does not
abbrev pub is_true : Value → Bool
is_true Unknown = false
is_true (Known d) = truth d

-- the datum of a known value
abbrev pub datum_in : Value → Datum
datum_in Unknown = Boolean false
datum_in (Known d) = d

pub data IsKnown : Value → Type 0 where
  known : {d : Datum} → IsKnown (Known d)

-- known, and of the type
pub data Has (t : ValueType) : Value → Type 0 where
  has : {d : Datum} → IsOf t d → Has t (Known d)

-- unknown, or of the type
pub data Fits (t : ValueType) : Value → Type 0 where
  unknown-fits : Fits t Unknown
  known-fits : {d : Datum} → IsOf t d → Fits t (Known d)
