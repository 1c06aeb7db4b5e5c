-- The header's three sections: a count in its range, then so many bytes, each in its range.
use Rattle.std.specs.Prelude.{ℕ, zero, suc, ◌+◌, Bool, cond, List, length, get_or, ltb, leb}
use Rattle.sheet.specs.Readings.{on_read}
use Rattle.sheet.specs.declared.Refusal.{Refusal}
use Rattle.sheet.specs.declared.Refusal.TheVariants.{Cut, CountRange}
use Rattle.sheet.specs.Outcomes.{refused_at}
use Rattle.sheet.specs.Readings.{got_at}
use Rattle.sheet.specs.declared.Got.{Got}
use Rattle.sheet.specs.declared.Refused.{Refused}
use Rattle.std.specs.Prelude.{Result}

module _ (s : List ℕ) where
  -- one byte, from `low` on and below `limit`
  unfoldable pub field_of : (at low limit : ℕ) → Refusal → Result Got Refused
  field_of at low limit wrong =
      cond (leb (length s) at) (refused_at Cut (length s))
      (cond (ltb (get_or s at 0) low) (refused_at wrong at)
      (cond (leb limit (get_or s at 0)) (refused_at wrong at)
      (got_at (at + 1) (get_or s at 0))))

  -- n more of `count` bytes below `limit`; where they rise, each is above the one before
  unfoldable pub bytes_of : (n at low limit : ℕ) → Bool → Refusal → (count : ℕ) → Result Got Refused
  bytes_of zero at low limit rising wrong count = got_at at count
  bytes_of (suc n) at low limit rising wrong count =
      on_read (field_of at low limit wrong) refused_at (λ next b. bytes_of n next (cond rising (b + 1) 0) limit rising wrong count)

  -- a count from `fewest` on and below `excess`, then so many bytes
  unfoldable pub section_of : (at fewest excess limit : ℕ) → Bool → Refusal → Result Got Refused
  section_of at fewest excess limit rising wrong =
      on_read (field_of at fewest excess CountRange) refused_at (λ next n. bytes_of n next 0 limit rising wrong n)
