-- What a function that puts a line leaves in the buffer that it was lent.
use Rattle.std.specs.Prelude.{ℕ, ◌≤◌, ◌≡◌, List, length, take, drop}

-- the line was put at the start of the buffer: it is the first `size` bytes, and those behind it stay as they were
pub record Holds (before line after : List ℕ) (size : ℕ) : Type 0 where
  pub held : take size after ≡ line
  pub behind : drop size after ≡ drop size before
  pub within : size ≤ length after
