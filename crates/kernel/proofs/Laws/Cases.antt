-- What holds of single worked cases: the scheduled instant is refused on every list for the sheet of case L, and a round over false values keeps
-- them.
use Rattle.sheet.specs.Outcomes.{refused_at, Outcome, refusal, result, followed_by, lowest}
use Rattle.std.specs.Prelude.{◌≡◌, refl, ℕ, zero, suc, true, List, [], ◌∷◌, pos}
use Rattle.std.proofs.Common.{sym, ap, ◌∙◌, arith}
use Rattle.numbers.specs.Numbers.{settled, equals}
use Rattle.sheet.specs.Data.{boolean, number}
use Rattle.sheet.specs.Expressions.{Expression, constant, wire, input, unary, binary, conditional, present_of, cell_count, negative, sum}
use Rattle.sheet.specs.Kinds.{meaning_of, operands_of}
use Rattle.sheet.specs.Readings.{read_each, names_of, body_from, own_of, read_expression}
use Rattle.sheet.specs.Headers.{field_of, bytes_of, section_of}
use Rattle.sheet.specs.Sheets.{Sheet, kept_count, read_wires, outputs_from, wires_from, read_sheet, sheet_of}
use Rattle.sheet.specs.Laws.Outcomes.{same-result}
use Rattle.sheet.specs.declared.Datum.TheVariants.{Boolean, Number}
use Rattle.sheet.specs.declared.Refusal.{Refusal}
use Rattle.kernel.specs.Order.{value_at}
use Rattle.kernel.specs.Equality.{same_datum, same_value, same_values}
use Rattle.sheet.specs.Reads.{wires_read}
use Rattle.kernel.specs.Instant.{value}
use Rattle.kernel.specs.Systems as System
use Rattle.kernel.specs.Systems.{Full}
use Rattle.kernel.specs.Instants.{reads_at, values, round, finished}
use Rattle.kernel.specs.Schedules.{entry_at, too_early, schedule_of, pass}
use Rattle.kernel.specs.Calls.{Given, given_of, accepted_of, scheduled, scheduled_answer, scheduled_call}
use Rattle.kernel.specs.Cases.{crossed_sheet}
use Rattle.kernel.proofs.Laws.Order.{not_known}
use Rattle.kernel.proofs.Laws.Given.{given_by}
use Rattle.kernel.proofs.Laws.Schedules.{Passed, schedule_passed, pass-full-of, pass-finished}
use Rattle.kernel.specs.declared.Value.{Value}
use Rattle.kernel.specs.declared.Value.TheVariants.{Unknown, Known}
use Rattle.kernel.specs.Answers.{Scheduled}

-- Case L: no list passes. Passing goes by reads alone. With `if` for `present` the sheet has the same reads, so that a list
-- that passes would make all its wires known; yet they stay unknown.
abbrev crossed : (Expression → Expression → Expression → Expression) → Sheet
crossed choice = record {
  input_types = boolean ∷ number ∷ [];
  wire_types = number ∷ number ∷ number ∷ number ∷ number ∷ [];
  outputs = 4 ∷ [];
  expressions =
      choice (input 0) (input 1) (wire 3)
      ∷ choice (input 0) (wire 2) (input 1)
      ∷ binary sum (wire 0) (constant (Number (pos 1)))
      ∷ unary negative (wire 1)
      ∷ choice (input 0) (wire 3) (wire 2)
      ∷ [];
}

crossed-read : sheet_of (crossed_sheet 13) ≡ result (crossed present_of)
unfolding meaning_of operands_of read_each names_of body_from own_of read_expression field_of bytes_of section_of
    kept_count read_wires outputs_from wires_from read_sheet sheet_of
crossed-read = refl

crossed-reads : (w : ℕ) → reads_at (crossed present_of).expressions w ≡ reads_at (crossed conditional).expressions w
unfolding reads_at wires_read
crossed-reads zero = refl
crossed-reads (suc zero) = refl
crossed-reads (suc (suc zero)) = refl
crossed-reads (suc (suc (suc zero))) = refl
crossed-reads (suc (suc (suc (suc zero)))) = refl
crossed-reads (suc (suc (suc (suc (suc w))))) = refl

crossed-unknown : value_at (finished (crossed conditional) (Boolean true ∷ Number (pos 5) ∷ []) []) 0 ≡ Unknown
unfolding settled equals lowest same_datum same_value same_values cell_count value
    System.after System.unchanged System.rounds System.finished values round finished
crossed-unknown = refl

crossed-no_schedule : (list : List ℕ) → Passed (crossed present_of) list → ⊥
unfolding Full too_early
crossed-no_schedule list here =
    let there : Passed (crossed conditional) list = record {
      counted = here.counted;
      new = here.new;
      ordered = λ p l. rw (crossed-reads (entry_at list p)) at (here.ordered p l);
    } in
    let inputs = Boolean true ∷ Number (pos 5) ∷ [] in
    let values = pass-finished (crossed conditional) inputs [] list there in
    let known = pass-full-of (crossed conditional) inputs [] list there 0 (omega arith) in
    not_known known (ap (λ (xs : List Value). value_at xs 0) values ∙ crossed-unknown)

-- whatever list the scheduled instant is given, and on whatever buffers, it is refused
pub record IsRefused (answer : Scheduled) : Type 0 where
  pub why : Refusal
  pub place : ℕ
  pub refused : answer ≡ refused_at why place

pub crossed-refused : (memory row output list : List ℕ) → IsRefused (scheduled_call (crossed_sheet 13) memory row output list).answer
unfolding scheduled_call scheduled
crossed-refused memory row output list = go (given_of (crossed_sheet 13) memory row output) refl
  where
    along : (given : Given) → given.sheet ≡ crossed present_of → (x : Outcome (List ℕ)) → schedule_of given.sheet list ≡ x
        → IsRefused (scheduled_answer (followed_by x (λ order. accepted_of given 0 (pass given.sheet given.inputs given.memory order))))
    along given same (refusal why place) e = record { why = why; place = place; refused = refl }
    along given same (result order) e =
        absurd (crossed-no_schedule list (rw same at (schedule_passed given.sheet list order e).1))

    go : (x : Outcome Given) → given_of (crossed_sheet 13) memory row output ≡ x
        → IsRefused (scheduled_answer (followed_by x (λ given. scheduled given list)))
    go (refusal why place) e = record { why = why; place = place; refused = refl }
    go (result given) e =
        along given (same-result (sym (given_by (crossed_sheet 13) memory row output given e).sheet ∙ crossed-read))
        (schedule_of given.sheet list) refl

-- K4's round over false values: wire 0 is wire 1, wire 1 is 5 and wire 2 is wire 2; wire 0 is given as 7, and comes back as 7
abbrev copied : Sheet
copied = record {
  input_types = [];
  wire_types = number ∷ number ∷ number ∷ [];
  outputs = 0 ∷ [];
  expressions = wire 1 ∷ constant (Number (pos 5)) ∷ wire 2 ∷ [];
}

abbrev falsely : List Value
falsely = Known (Number (pos 7)) ∷ Unknown ∷ Unknown ∷ []

pub false-kept : System.round_over (round copied [] []) falsely ≡ Known (Number (pos 7)) ∷ Known (Number (pos 5)) ∷ Unknown ∷ []
unfolding System.round_over System.renewed round values value cell_count
false-kept = refl
