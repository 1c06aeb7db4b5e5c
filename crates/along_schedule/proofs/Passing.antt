-- What the list of granted buffers comes to: it is refused, or the pass along it comes to the finished values, which the call leaves.
use Rattle.std.specs.Prelude.{Result, Ok, Err}
use Rattle.sheet.specs.Outcomes.{Outcome, refusal, result, done_of, followed_by}
use Prim.Native.Nat.{ℕ}
use mathlib.Core.Path.{◌≡◌, refl, sym, ◌∙◌}
use mathlib.Core.List.{List}
use native.Mathlib.Omega.{arith}
use lib.ListN.{length}
use Rattle.sheet.specs.Laws.Lists.{never}
use Rattle.sheet.specs.Laws.Outcomes.{refused-parts}
use Rattle.sheet.specs.Sheets.{Sheet}
use Rattle.sheet.specs.declared.Refused.{Refused}
use Rattle.sheet_expressions.specs.Map.{EachHoldsJust}
use Rattle.kernel.specs.Instants.{reads_at}
use Rattle.kernel.specs.Schedules.{schedule_of, IsSchedule, pass}
use Rattle.kernel.specs.Calls.{given_of, scheduled, scheduled_call, Leaves}
use Rattle.kernel.proofs.Laws.Schedules.{schedule_passed, passed_schedule}
use Rattle.kernel.proofs.Laws.Demands.{gives_of, given_finished, scheduled-accepted}
use Rattle.leaves.specs.Words.{fixed_words}
use Rattle.rounds.specs.Running.{Holds}
use Rattle.rounds.specs.Outputs.{words_of}
use Rattle.rounds.specs.Settled.{stored_of}
use Rattle.pass.specs.Along.{Along}
use Rattle.given.specs.Grants.{Granted}
use Rattle.given.specs.Laws.Finished.{given, HoldsFinished, FullFinished, settled, row_written}

-- a refusal 1 to 16 is that of the call, and nothing is written
pub given-refused : (s memory input output list : List ℕ) {r : Refused} → given_of s memory input output ≡ refusal r.why r.place
    → Leaves (scheduled_call s memory input output list) (Err r) memory output
unfolding scheduled_call
given-refused s memory input output list e = record { answers = rw e; stores = rw e; writes = rw e }

module _ {s memory input output places firsts reads start types outputs : List ℕ}
    (g : Granted s memory input output places firsts reads start types outputs) where
  -- what the checks of a list answer, once the reads of each wire are known
  module _ (list : List ℕ) {checked : Result (Unit {0}) Refused}
      (checks : (sheet : Sheet) → length sheet.expressions ≡ length types → EachHoldsJust reads (length types) (reads_at sheet.expressions)
      → checked ≡ done_of (schedule_of sheet list)) where
    is_checked : checked ≡ done_of (schedule_of (given g).sheet list)
    is_checked = checks (given g).sheet (omega (arith, g.wired)) (λ w m. g.reading w m)

    pub order-refused : {r : Refused} → checked ≡ Err r → Leaves (scheduled_call s memory input output list) (Err r) memory output
    unfolding scheduled_call scheduled
    order-refused {r} e =
        let q : followed_by (given_of s memory input output) (λ g. scheduled g list) ≡ refusal r.why r.place =
        rw g.passes (go _ refl (sym is_checked ∙ e)) in
        record { answers = rw q; stores = rw q; writes = rw q }
      where
        go : (o : Outcome (List ℕ)) → schedule_of (given g).sheet list ≡ o → done_of o ≡ Err r
            → scheduled (given g) list ≡ refusal r.why r.place
        go (refusal w p) q e = let (why-is, place_is) = refused-parts e in rw (q, why-is, place_is)
        go (result order) q e = never (cc)

    pub order-passed : {u : Unit {0}} → checked ≡ Ok u → IsSchedule (given g).sheet list
    order-passed {u} e = go (schedule_of (given g).sheet list) refl (sym is_checked ∙ e)
      where
        go : (o : Outcome (List ℕ)) → schedule_of (given g).sheet list ≡ o → done_of o ≡ Ok u → IsSchedule (given g).sheet list
        go (refusal w p) q e = never (cc)
        go (result order) q e = passed_schedule (given g).sheet list (schedule_passed (given g).sheet list order q).1

  module _ {list : List ℕ} (schedule : IsSchedule (given g).sheet list) where
    abbrev pub along : Along s memory types places firsts list start
    along = record {
      running = g.running;
      wires = λ p m. rw g.wired at (schedule.wires p m);
      once = schedule.once;
      room = omega (arith, g.running.few, g.room);
    }

    -- no wire is unknown after the pass
    pub pass-full : FullFinished g
    pass-full = rw g.wired at (scheduled-accepted (given g) list schedule).1

    module _ {bits : ℕ} {words : List ℕ} where
      pub pass-holds : Holds (length types) (fixed_words start) bits words (pass (given g).sheet (given g).inputs (given g).memory list)
          → HoldsFinished g bits words
      pass-holds h = rw (scheduled-accepted (given g) list schedule).0 at h

      pub scheduled-accepts : {u : Unit {0}} (h : HoldsFinished g bits words) {new row : List ℕ} → new ≡ stored_of (settled g h pass-full)
          → row ≡ words_of outputs words → Leaves (scheduled_call s memory input output list) (Ok u) new row
      unfolding scheduled_call
      scheduled-accepts h stores writes =
          let accepted = (scheduled-accepted (given g) list schedule).2 in
          let e : followed_by (given_of s memory input output) (λ g. scheduled g list)
          ≡ result (gives_of (given g) 0 (given_finished (given g))) =
          rw g.passes accepted in
          record { answers = rw e; stores = rw e stores; writes = rw e (writes ∙ row_written g h pass-full) }
