-- How the code's steps go into the reading of a header's section.
use Prim.Native.Nat.{ℕ, zero, suc, ◌+◌, ◌-◌, ◌<◌}
use mathlib.Core.Path.{◌≡◌}
use mathlib.Core.Bool.{Bool, cond}
use mathlib.Core.List.{List}
use native.Mathlib.Numerals.{sub-one}
use native.Mathlib.Omega.{arith}
use Rattle.sheet.specs.Headers.{field_of, bytes_of}
use Rattle.sheet.specs.declared.Refusal.{Refusal}
use Rattle.sheet.specs.Outcomes.{refused_at}
use Rattle.sheet.specs.Readings.{got_at}

module _ (s : List ℕ) (limit : ℕ) (rising : Bool) (wrong : Refusal) (count : ℕ) where
  -- one byte more
  pub byte_good : (left at low : ℕ) {n b : ℕ} → 0 < left → field_of s at low limit wrong ≡ got_at n b
      → bytes_of s (left - 1) n (cond rising (b + 1) 0) limit rising wrong count ≡ bytes_of s left at low limit rising wrong count
  unfolding bytes_of
  byte_good zero at low more e = absurd (omega arith)
  byte_good (suc left) at low more e = rw (sub-one, e)

  pub byte-refused : (left at low : ℕ) {why : Refusal} {place : ℕ} → 0 < left → field_of s at low limit wrong ≡ refused_at why place
      → refused_at why place ≡ bytes_of s left at low limit rising wrong count
  unfolding bytes_of
  byte-refused zero at low more e = absurd (omega arith)
  byte-refused (suc left) at low more e = rw e
