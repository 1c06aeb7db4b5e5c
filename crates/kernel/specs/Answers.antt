-- What the two instants answer: a refusal with its place, or the rounds of the instant in rounds; the scheduled instant makes none.
use Rattle.std.specs.Prelude.{ℕ, Result}
use Rattle.sheet.specs.declared.Refused.{Refused}

abbrev pub InRounds : Type 0
InRounds = Result ℕ Refused

abbrev pub Scheduled : Type 0
Scheduled = Result (Unit {0}) Refused
