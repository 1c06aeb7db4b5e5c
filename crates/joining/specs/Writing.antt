-- What the functions that write the joined sheet ask of the lent buffer and of bytes, and what they leave in the buffer.
use Rattle.std.specs.Prelude.{ℕ, ◌+◌, ◌≤◌, ◌<◌, ◌≡◌, false, List, ◌++◌, ◌⊎◌, length, get_or, take}
use Rattle.sheet.specs.Lists.{Every}
use Rattle.join.specs.Bytes.{section}
use Rattle.join.specs.Calls.{is_above}
use Rattle.sheet.specs.declared.Counts.{Counts}
use Rattle.joining.specs.Counting.{Passes}

-- both sheets pass, no joined count or length is above its limit, and the room is the joined length: the two headers have six counts, the
-- joined one has three
pub record Joinable (s t : List ℕ) (room : ℕ) : Type 0 where
  pub first : Counts
  pub second : Counts
  pub first_passes : Passes s first
  pub second-passes : Passes t second
  pub limited : is_above first second room ≡ false
  pub sized : room + 3 ≡ length s + length t

-- the bytes begin with a count, and so many are behind it
abbrev pub HasSection : (bytes : List ℕ) → Type 0
HasSection bytes = get_or bytes 0 0 < length bytes

-- each of the bytes stays one byte when it is raised
abbrev pub CanRise : (raise : ℕ) (bytes : List ℕ) → Type 0
CanRise raise bytes = (raise ≡ 0) ⊎ Every (λ b. raise + b < 256) bytes

-- both begin with a section, and the two joined have room from the place on
pub record BothBegin (first second : List ℕ) (at raise room : ℕ) : Type 0 where
  pub one : HasSection first
  pub other : HasSection second
  pub few : get_or first 0 0 + get_or second 0 0 < 256
  pub rises : CanRise raise (section second)
  pub fits : at + 1 + length (section first) + length (section second) ≤ room

-- what stood before the place is left, and these bytes stand from there on
pub record Puts (before : List ℕ) (at : ℕ) (bytes after : List ℕ) : Type 0 where
  pub begins : take (at + length bytes) after ≡ take at before ++ bytes
