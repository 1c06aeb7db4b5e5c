-- What is promised of an instant of the whole, beside those of the two sheets.
use Rattle.std.specs.Prelude.{Ok, ◌≡◌, ℕ, max, ◌++◌}
use Rattle.kernel.specs.Calls.{InstantCall}
use Rattle.kernel.specs.Answers.{InRounds, Scheduled}

-- an answer, and memory and rows of both joined
abbrev pub both_leave : {A B : Type 0} → A → (first second : InstantCall B) → InstantCall A
both_leave answer first second =
    record { answer = answer; memory = first.memory ++ second.memory; output = first.output ++ second.output }

-- in rounds it is accepted exactly if both are; then memory and rows are the two joined, and its rounds are the larger count
pub record RoundsJoined (whole first second : InstantCall InRounds) : Type 0 where
  pub both : {one other : ℕ} → first.answer ≡ Ok one → second.answer ≡ Ok other
      → whole ≡ both_leave (Ok (max one other)) first second
  pub parts : {count : ℕ} → whole.answer ≡ Ok count
      → (one : ℕ) × (other : ℕ) × (first.answer ≡ Ok one) × (second.answer ≡ Ok other)

-- and so it is along a joined schedule
pub record ScheduledJoined (whole first second : InstantCall Scheduled) : Type 0 where
  pub both : first.answer ≡ Ok tt → second.answer ≡ Ok tt → whole ≡ both_leave (Ok tt) first second
  pub parts : whole.answer ≡ Ok tt → (first.answer ≡ Ok tt) × (second.answer ≡ Ok tt)
