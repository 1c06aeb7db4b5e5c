-- The sets of the wires that each wire reads, turned round, and the wires that read one of a set.
use Rattle.std.specs.Prelude.{ℕ, ◌<◌, ◌≡◌, true, ◌&&◌, ◌||◌, List, eqb, ltb, length, get_or}
use Rattle.wires.specs.Sets.{member}

-- entry v is the set of the wires that read wire v: one wire more, which reads those of the set `read`
pub record AddsReader (read wire : ℕ) (before after : List ℕ) : Type 0 where
  pub size : length after ≡ length before
  pub each : (v x : ℕ) → v < 64 → member (get_or after v 0) x ≡ (member (get_or before v 0) x || (eqb x wire && member read v))

-- all of the first n wires, entry x of `reads` being the set of the wires that wire x reads
pub record Readers (reads : List ℕ) (n : ℕ) (readers : List ℕ) : Type 0 where
  pub each : (v x : ℕ) → v < 64 → member (get_or readers v 0) x ≡ (ltb x n && member (get_or reads x 0) v)

-- wire x reads wire v, which is in the set `read`
pub record ReadsOne (readers : List ℕ) (read x : ℕ) : Type 0 where
  pub v : ℕ
  pub below : v < 64
  pub among : member read v ≡ true
  pub reads : member (get_or readers v 0) x ≡ true

-- the set holds just the wires that read one of `read`
pub record Reading (readers : List ℕ) (read bits : ℕ) : Type 0 where
  pub all : (x : ℕ) → ReadsOne readers read x → member bits x ≡ true
  pub only : (x : ℕ) → member bits x ≡ true → ReadsOne readers read x
