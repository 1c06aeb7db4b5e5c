-- The numbers with which the checks of the two instants refuse, at places of at most 4,096: 1 to 16 before the values are worked out,
-- and 1 to 19 along a schedule, where no wire stays unknown.
use Rattle.std.specs.Prelude.{ℕ, ◌*◌, ◌≤◌, ◌≡◌, List}
use Rattle.std.proofs.Common.{subst, arith}
use Rattle.std.proofs.Math.ListN.{length}
use Rattle.sheet.specs.Outcomes.{result, followed_by}
use Rattle.sheet.specs.Sheets.{sheet_forms, sheet_of}
use Rattle.sheet.specs.Memory.{memory_of}
use Rattle.sheet.specs.Rows.{inputs_of}
use Rattle.sheet.specs.Laws.Refusals.{OutcomeWithin, result-within, sheet-of-within, memory_within_lem, inputs-within}
use Rattle.sheet.specs.Laws.Refusals.{followed-within, length-within, any-within, wider}
use Rattle.sheet.proofs.Laws.Typing.{passed_check}
use Rattle.sheet.specs.declared.Refusal.TheVariants.{OutputLength, ScheduleLength, ScheduleEntry, ScheduleOrder}
use Rattle.kernel.specs.Instants.{wire_count, reads_at}
use Rattle.kernel.specs.Schedules.{not_new, too_early, schedule_of, pass}
use Rattle.kernel.specs.Calls.{Given, given_of, accepted_of, scheduled}
use Rattle.kernel.proofs.Laws.Given.{given_by}
use Rattle.kernel.proofs.Laws.Demands.{accepts-full}
use Rattle.kernel.proofs.Laws.Schedules.{Passed, schedule_passed, pass-full-of}

module _ (s memory input output : List ℕ) where
  pub given-within : OutcomeWithin 16 (given_of s memory input output)
  unfolding given_of
  given-within =
      followed-within 16 (sheet_of s) _ (wider 16 11 (omega arith) (sheet_of s) (sheet-of-within s)) (λ sheet e.
      let passed = passed_check s e in
      let few : length (sheet_forms sheet) ≤ 64 = omega (arith, passed.counted, passed.few-cells) in
      followed-within 16 (memory_of (sheet_forms sheet) memory) _
      (wider 16 13 (omega arith) (memory_of (sheet_forms sheet) memory) (memory_within_lem (sheet_forms sheet) memory few)) (λ cells f.
      followed-within 16 (inputs_of sheet.input_types input) _
      (wider 16 15 (omega arith) (inputs_of sheet.input_types input) (inputs-within sheet.input_types input passed.few-inputs)) (λ inputs g.
      length-within 16 OutputLength (length output) (4 * length sheet.outputs) _ (omega arith) result-within)))

  pub few-wires : (given : Given) → given_of s memory input output ≡ result given → wire_count given.sheet ≤ 64
  few-wires given e = (passed_check s (given_by s memory input output given e).sheet).few-wires

  module _ (list : List ℕ) (given : Given) where
    schedule_within : wire_count given.sheet ≤ 64 → OutcomeWithin 19 (schedule_of given.sheet list)
    unfolding schedule_of
    schedule_within few =
        let n = wire_count given.sheet in
        length-within 19 ScheduleLength (length list) n _ (omega arith)
        (any-within 19 ScheduleEntry (not_new list n) n _ (omega arith) (omega arith)
        (any-within 19 ScheduleOrder (too_early list (reads_at given.sheet.expressions)) n _ (omega arith) (omega arith) result-within))

    -- where the list passes, no wire stays unknown
    pass-within : (order : List ℕ) → schedule_of given.sheet list ≡ result order
        → OutcomeWithin 19 (accepted_of given 0 (pass given.sheet given.inputs given.memory order))
    pass-within order e =
        let (same, passed) = schedule_passed given.sheet list order e in
        let full = pass-full-of given.sheet given.inputs given.memory order (subst (Passed given.sheet) same passed) in
        rw (accepts-full given 0 (pass given.sheet given.inputs given.memory order) full) result-within

  pub scheduled-within : (list : List ℕ) → OutcomeWithin 19 (followed_by (given_of s memory input output) (λ given. scheduled given list))
  unfolding scheduled
  scheduled-within list =
      followed-within 19 (given_of s memory input output) _ (wider 19 16 (omega arith) (given_of s memory input output) given-within) (λ given e.
      followed-within 19 (schedule_of given.sheet list) _ (schedule_within list given (few-wires given e)) (pass-within list given))
