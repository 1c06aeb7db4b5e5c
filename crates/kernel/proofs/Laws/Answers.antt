-- What the answers of the two instants say, on any bytes: demand 2 as the order has it, from the answer of the call; the numbers that
-- each call refuses with; and that the scheduled instant never answers 20.
use Rattle.std.specs.Prelude.{Ok, Err, ◌≡◌, ◌⊎◌, ◌↔◌, ℕ, suc, ◌≤◌, ◌<◌, List}
use Rattle.sheet.specs.Outcomes.{refused_at, Outcome, refusal, result, followed_by, number_of}
use Rattle.std.proofs.Math.Path.{refl}
use Rattle.std.proofs.Common.{sym, ap, subst, ◌∙◌, inl, inr, arith}
use Rattle.sheet.specs.Memory.{memory_bytes}
use Rattle.sheet.specs.Rows.{row_bytes}
use Rattle.sheet.specs.Laws.Outcomes.{refused-parts, same-result}
use Rattle.sheet.specs.Laws.Refusals.{Within, OutcomeWithin, refusal-within, result-within}
use Rattle.sheet.proofs.Laws.Typing.{checked_well_typed}
use Rattle.sheet.specs.declared.Refusal.{Refusal}
use Rattle.sheet.specs.declared.Refusal.TheVariants.{StaysUnknown}
use Rattle.closure.specs.Closures.{Closure, LowestLoop}
use Rattle.kernel.specs.Order.{value_at}
use Rattle.kernel.specs.Systems as System
use Rattle.kernel.specs.Systems.{Full, Solution, LeastSolution, after}
use Rattle.kernel.specs.Instants.{wire_count, rounds, finished, next_memory, output_row}
use Rattle.kernel.specs.Waits.{WorkedOutFrom, WaitsFor, WaitsOn}
use Rattle.kernel.specs.Calls.{Given, given_of, place_of_loop, Accepted, in_rounds, rounds_answer, scheduled_answer}
use Rattle.kernel.specs.Calls.{rounds_call, scheduled_call, Packable}
use Rattle.sheet.specs.Laws.Lists.{never}
use Rattle.kernel.proofs.Laws.Rounds.{FirstUnchanged, rounds_first, least-same}
use Rattle.kernel.proofs.Laws.Instants.{round_monotone}
use Rattle.kernel.proofs.Laws.Given.{given_by}
use Rattle.kernel.proofs.Laws.Waiting.{WaitingAt, some-waits_finally, loop-unknown, loop-waits}
use Rattle.kernel.proofs.Laws.Demands.{gives_of, SomeUnknown, full-or-unknown, given_under, given_round, given_finished, given_rounds}
use Rattle.kernel.proofs.Laws.Demands.{demand2, least-finished}
use Rattle.kernel.proofs.Laws.Refusals.{given-within, few-wires, scheduled-within}
use Rattle.kernel.specs.declared.Value.{Value}
use Rattle.kernel.specs.declared.Value.TheVariants.{Unknown}
use Rattle.kernel.specs.Answers.{InRounds}

module _ (s memory input output : List ℕ) where
  -- an instant in rounds that is accepted with r rounds: 1 to 16 are passed, the least solution leaves no wire unknown, so that there is
  -- no other; memory and output row are those of this solution, and the r-th round is the first that changes nothing
  pub record AcceptedAfter (r : ℕ) : Type 0 where
    pub given : Given
    pub passes : given_of s memory input output ≡ result given
    pub values : List Value
    pub least : LeastSolution (given_round given) values
    pub full : Full (wire_count given.sheet) values
    pub only : (others : List Value) → Solution (given_round given) others → others ≡ values
    pub stores : (rounds_call s memory input output).memory
        ≡ memory_bytes (next_memory given.sheet given.inputs given.memory values)
    pub writes : (rounds_call s memory input output).output ≡ row_bytes (output_row given.sheet values)
    pub first : FirstUnchanged (wire_count given.sheet) (given_round given) r
    pub reaches : after (wire_count given.sheet) (given_round given) r ≡ values
    pub few : r ≤ suc (wire_count given.sheet)

  -- an instant in rounds that is refused 20 at p: 1 to 16 are passed, the least solution leaves p unknown, and p is the lowest wire that
  -- waits for itself under it, directly or through others; a wire that is so worked out from itself is unknown, and waits for itself
  pub record UnknownAt (p : ℕ) : Type 0 where
    pub given : Given
    pub passes : given_of s memory input output ≡ result given
    pub values : List Value
    pub least : LeastSolution (given_round given) values
    pub unknown : value_at values p ≡ Unknown
    pub lowest : LowestLoop (WaitsFor (given_under given values) given.sheet.expressions) (wire_count given.sheet) p
    pub loop_unknown : (w : ℕ) → Closure (WorkedOutFrom (given_under given values) given.sheet.expressions) w w
        → value_at values w ≡ Unknown
    pub loop_waits : (w : ℕ) → Closure (WorkedOutFrom (given_under given values) given.sheet.expressions) w w
        → WaitsOn (given_under given values) given.sheet.expressions w w

  -- an instant in rounds that is refused otherwise: with the first of the refusals 1 to 16
  pub record RefusedBefore (why : Refusal) (p : ℕ) : Type 0 where
    pub number : number_of why ≤ 16
    pub refused : given_of s memory input output ≡ refusal why p

  pub record Demand2Answered : Type 0 where
    pub accepted : (r : ℕ) → (rounds_call s memory input output).answer ≡ Ok r → AcceptedAfter r
    pub unknown : (p : ℕ) → (rounds_call s memory input output).answer ≡ refused_at StaysUnknown p → UnknownAt p
    pub refused : (why : Refusal) (p : ℕ) → (rounds_call s memory input output).answer ≡ refused_at why p
        → (why ≡ StaysUnknown) ⊎ RefusedBefore why p

  -- the three ways in which the instant in rounds comes to its outcome
  data Comes : Outcome Accepted → Type 0 where
    before : {why : Refusal} {p : ℕ} → given_of s memory input output ≡ refusal why p → Comes (refusal why p)
    left : (given : Given) → given_of s memory input output ≡ result given → SomeUnknown (wire_count given.sheet) (given_finished given)
        → Comes (refusal StaysUnknown (place_of_loop given (given_finished given)))
    solved : (given : Given) → given_of s memory input output ≡ result given → Full (wire_count given.sheet) (given_finished given)
        → Comes (result (gives_of given (given_rounds given) (given_finished given)))

  comes : Comes (followed_by (given_of s memory input output) in_rounds)
  unfolding in_rounds
  comes = go (given_of s memory input output) refl
    where
      go : (x : Outcome Given) → given_of s memory input output ≡ x → Comes (followed_by x in_rounds)
      go (refusal why p) e = before e
      go (result given) e = by (full-or-unknown (wire_count given.sheet) (given_finished given))
        where
          by : Full (wire_count given.sheet) (given_finished given) ⊎ SomeUnknown (wire_count given.sheet) (given_finished given)
              → Comes (in_rounds given)
          by (inl full) = rw ((demand2 given).accepted full) (solved given e full)
          by (inr at) = rw ((demand2 given).refused at.wire at.in_range at.unknown) (left given e at)

  -- the place of 20 is the lowest wire that waits for itself
  waiting-at : (given : Given) → given_of s memory input output ≡ result given → SomeUnknown (wire_count given.sheet) (given_finished given)
      → WaitingAt (given_under given (given_finished given)) given.sheet.expressions (place_of_loop given (given_finished given))
  unfolding place_of_loop
  waiting-at given e at =
      let typed = checked_well_typed s given.sheet (given_by s memory input output given e).sheet in
      some-waits_finally given.sheet given.inputs given.memory typed at.wire at.in_range at.unknown

  pub demand2_answered : Demand2Answered
  unfolding rounds_call rounds finished System.finished
  demand2_answered = record { accepted = λ r. accepted r _ refl comes; unknown = λ p. unknown p _ refl comes; refused = λ why p. refused why p _ comes }
    where
      accepted : (r : ℕ) (x : Outcome Accepted) → followed_by (given_of s memory input output) in_rounds ≡ x → Comes x
          → rounds_answer x ≡ Ok r → AcceptedAfter r
      accepted r _ q (before e) a = never (cc)
      accepted r _ q (left given e at) a = never (cc)
      accepted r _ q (solved given e full) a =
          let counted : given_rounds given ≡ r = cc in
          let n = wire_count given.sheet in
          let first = rounds_first n (given_round given) (round_monotone given.sheet given.inputs given.memory) in
          record {
            given = given;
            passes = e;
            values = given_finished given;
            least = least-finished given;
            full = full;
            only = (demand2 given).only full;
            stores = rw q;
            writes = rw q;
            first = rw counted at first;
            reaches = rw (← counted);
            few = rw counted at (demand2 given).few;
          }

      unknown : (p : ℕ) (x : Outcome Accepted) → followed_by (given_of s memory input output) in_rounds ≡ x → Comes x
          → rounds_answer x ≡ refused_at StaysUnknown p → UnknownAt p
      unknown p _ q (before {why = why} {p = place} e) a =
          let why-is = (refused-parts a).0 in
          absurd (beyond (rw (e, why-is) at (given-within s memory input output)))
        where
          beyond : OutcomeWithin {A = Given} 16 (refusal StaysUnknown place) → ⊥
          beyond (refusal-within w) = omega (arith, w.number)
      unknown p _ q (left given e at) a =
          let place_is = (refused-parts a).1 in
          let there = waiting-at given e at in
          record {
            given = given;
            passes = e;
            values = given_finished given;
            least = least-finished given;
            unknown = rw place_is at there.unknown;
            lowest = rw place_is at there.lowest;
            loop_unknown = loop-unknown given.sheet given.inputs given.memory;
            loop_waits = loop-waits given.sheet given.inputs given.memory;
          }
      unknown p _ q (solved given e full) a = never (cc)

      refused : (why : Refusal) (p : ℕ) (x : Outcome Accepted) → Comes x → rounds_answer x ≡ refused_at why p
          → (why ≡ StaysUnknown) ⊎ RefusedBefore why p
      refused why p _ (before {why = found} {p = place} e) a =
          let (why-is, place_is) = refused-parts a in
          inr (record { number = within (rw (e, why-is) at (given-within s memory input output)); refused = rw (e, why-is, place_is) })
        where
          within : OutcomeWithin {A = Given} 16 (refusal why place) → number_of why ≤ 16
          within (refusal-within w) = w.number
      refused why p _ (left given e at) a = inl (sym (refused-parts a).0)
      refused why p _ (solved given e full) a = never (cc)

  -- where 1 to 16 are passed, 20 comes exactly if the least solution leaves a wire unknown
  pub unknown-exactly : (given : Given) → given_of s memory input output ≡ result given
      → (values : List Value) → LeastSolution (given_round given) values
      → ((p : ℕ) × ((rounds_call s memory input output).answer ≡ refused_at StaysUnknown p))
      ↔ SomeUnknown (wire_count given.sheet) values
  unfolding rounds_call finished
  unknown-exactly given passes values least = (forth, back)
    where
      monotone : System.Monotone (wire_count given.sheet) (given_round given)
      monotone = round_monotone given.sheet given.inputs given.memory

      is-finished : values ≡ given_finished given
      is-finished = least-same (wire_count given.sheet) (given_round given) monotone least

      forth : ((p : ℕ) × ((rounds_call s memory input output).answer ≡ refused_at StaysUnknown p))
          → SomeUnknown (wire_count given.sheet) values
      forth (p, a) =
          let u = demand2_answered.unknown p a in
          let same : u.given ≡ given = same-result (sym u.passes ∙ passes) in
          let there = least-same _ (given_round given) monotone (subst (λ g. LeastSolution (given_round g) u.values) same u.least) in
          let inside : p < wire_count given.sheet = subst (λ (g : Given). p < wire_count g.sheet) same u.lowest.in_range in
          record {
            wire = p;
            in_range = inside;
            unknown = ap (λ (xs : List Value). value_at xs p) (is-finished ∙ sym there) ∙ u.unknown;
          }

      back : SomeUnknown (wire_count given.sheet) values
          → (p : ℕ) × ((rounds_call s memory input output).answer ≡ refused_at StaysUnknown p)
      back some =
          let unknown : value_at (given_finished given) some.wire ≡ Unknown =
          ap (λ (xs : List Value). value_at xs some.wire) (sym is-finished) ∙ some.unknown in
          (place_of_loop given (given_finished given), rw (passes, (demand2 given).refused some.wire some.in_range unknown))

  -- so where it does, the call names the lowest wire that waits for itself: one always exists
  pub loop-named : (given : Given) → given_of s memory input output ≡ result given
      → (values : List Value) → LeastSolution (given_round given) values → SomeUnknown (wire_count given.sheet) values
      → (p : ℕ) × ((rounds_call s memory input output).answer ≡ refused_at StaysUnknown p) × UnknownAt p
  loop-named given passes values least some =
      let (p, a) = (unknown-exactly given passes values least).1 some in (p, a, demand2_answered.unknown p a)

  -- the instant in rounds refuses with 1 to 16 and 20
  pub rounds_refusals : {why : Refusal} {place : ℕ} → (rounds_call s memory input output).answer ≡ refused_at why place
      → ((number_of why ≤ 16) ⊎ (why ≡ StaysUnknown)) × (place ≤ 4096)
  unfolding rounds_call
  rounds_refusals {why} {place} a = go _ comes a
    where
      ranged : {x : Outcome Given} → OutcomeWithin 16 x → x ≡ refusal why place → Within 16 4096 why place
      ranged (refusal-within {why = found} {place = at} w) e =
          let why-is : found ≡ why = cc in let place_is : at ≡ place = cc in rw (why-is, place_is) at w
      ranged result-within e = never (cc)

      go : (x : Outcome Accepted) → Comes x → rounds_answer x ≡ refused_at why place
          → ((number_of why ≤ 16) ⊎ (why ≡ StaysUnknown)) × (place ≤ 4096)
      go _ (before {why = found} {p = at} e) a =
          let (why-is, place_is) = refused-parts a in
          let w = ranged (given-within s memory input output) (rw (why-is, place_is) at e) in
          (inl w.number, w.bounded)
      go _ (left given e at) a =
          let (why-is, place_is) = refused-parts a in
          (inr (sym why-is), omega (arith, (waiting-at given e at).lowest.in_range, few-wires s memory input output given e))
      go _ (solved given e full) a = never (cc)

  -- an accepted instant in rounds reports at most 65
  pub rounds_few : {r : ℕ} → (rounds_call s memory input output).answer ≡ Ok r → r ≤ 65
  rounds_few {r} a =
      let accepted = demand2_answered.accepted r a in
      omega (arith, accepted.few, few-wires s memory input output accepted.given accepted.passes)

  -- so its answer can be packed
  pub rounds_packable : Packable (rounds_call s memory input output).answer
  rounds_packable = go (rounds_call s memory input output).answer refl
    where
      go : (answer : InRounds) → (rounds_call s memory input output).answer ≡ answer → Packable answer
      go (Err refused) e = let within = (rounds_refusals e).1 in omega arith
      go (Ok rounds) e = let few = rounds_few e in omega arith

  module _ (list : List ℕ) where
    -- the scheduled instant refuses with 1 to 19
    pub scheduled-refusals : {why : Refusal} {place : ℕ} → (scheduled_call s memory input output list).answer ≡ refused_at why place
        → Within 19 4096 why place
    unfolding scheduled_call
    scheduled-refusals {why} {place} a = go (scheduled-within s memory input output list) a
      where
        go : {x : Outcome Accepted} → OutcomeWithin 19 x → scheduled_answer x ≡ refused_at why place → Within 19 4096 why place
        go (refusal-within {why = found} {place = at} w) e =
            let (why-is, place_is) = refused-parts e in rw (why-is, place_is) at w
        go result-within e = never (cc)

    -- so it never answers 20, whatever the buffers and the list
    pub scheduled-never-unknown : (place : ℕ) → (scheduled_call s memory input output list).answer ≡ refused_at StaysUnknown place → ⊥
    scheduled-never-unknown place a = omega (arith, (scheduled-refusals a).number)
