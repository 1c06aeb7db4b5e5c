-- What the answer of the checks tells of their outcome.
use Rattle.std.specs.Prelude.{ℕ, ◌<◌, ◌≡◌, refl, List, Ok, Err, length}
use Rattle.sheet.specs.Outcomes.{Outcome, refusal, result}
use Rattle.sheet.specs.Sheets.{Sheet}
use Rattle.sheet.specs.declared.Refused.{Refused}
use Rattle.board_check.specs.Found.{Between, Finds, refuses, finds}
use Rattle.board_check.specs.declared.Span.{Span}

module _ {board : List ℕ} {wanted : ℕ} where
  pub found-refused : {o : Outcome (List Sheet)} {refused : Refused} → Finds board wanted o (Err refused) → o ≡ refusal refused.why refused.place
  found-refused refuses = refl

  pub found_passed : {o : Outcome (List Sheet)} {span : Span} → Finds board wanted o (Ok span)
      → (sheets : List Sheet) × (o ≡ result sheets) × (wanted < length sheets → Between board sheets wanted span)
  found_passed (finds {sheets} located) = (sheets, refl, located)
