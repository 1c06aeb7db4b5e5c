-- The two calls side by side, from what each of them leaves, and demand 3 of them.
use Rattle.std.specs.Prelude.{Option}
use Prim.Native.Nat.{ℕ}
use mathlib.Core.Path.{◌≡◌, sym, ◌∙◌}
use mathlib.Core.List.{List}
use Rattle.sheet.specs.Outcomes.{result, followed_by}
use Rattle.kernel.specs.Calls.{InstantCall, given_of, in_rounds, rounds_call, scheduled_call, Leaves}
use Rattle.kernel.proofs.Laws.Demands.{gives_of, given_finished, given_rounds, demand2, demand3}
use Rattle.kernel.specs.Answers.{InRounds, Scheduled}
use Rattle.agreement.specs.Agreement.{both_answers, Beside, BothGiven, Agreed}

-- the two calls side by side, by what each leaves
pub beside : {first : InstantCall InRounds} {second : InstantCall Scheduled} {x : InRounds} {y : Scheduled} {answer : Option ℕ}
    {memory output copy other : List ℕ} → Leaves first x memory output → Leaves second y copy other → answer ≡ both_answers x y
    → Beside first second answer memory output copy other
beside l m e = record { answers = rw (l.answers, m.answers) at e; in_rounds = (l.stores, l.writes); along = (m.stores, m.writes) }

pub agreed : {s memory input output copy other list : List ℕ} {answer : Option ℕ} {new row newCopy new_row : List ℕ}
    → Beside (rounds_call s memory input output) (scheduled_call s copy input other list) answer new row newCopy new_row
    → (g : BothGiven s memory input output copy other list) → Agreed g.given answer new row newCopy new_row
unfolding rounds_call
agreed {s} {memory} {input} {output} {copy} {other} {list} b g =
    let three = demand3 s memory input output other list g.given g.second g.passes (rw g.copied at g.other_passes)
    g.schedule in
    let e : followed_by (given_of s memory input output) in_rounds
    ≡ result (gives_of g.given (given_rounds g.given) (given_finished g.given)) =
    rw g.passes ((demand2 g.given).accepted three.full) in
    record {
      both = rw (g.copied, three.in_rounds_accepted, three.scheduled_accepted) at b.answers;
      few = three.few;
      memories = rw g.copied at b.along.0 ∙ sym three.same_memory ∙ sym b.in_rounds.0;
      outputs = rw g.copied at b.along.1 ∙ sym three.same_output ∙ sym b.in_rounds.1;
      stores = rw e at b.in_rounds.0;
      writes = rw e at b.in_rounds.1;
    }
