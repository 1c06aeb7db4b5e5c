-- Demands 2 and 3 of the order, for the outcomes of the calls: accepted just where the least solution is full, refused 20 just where
-- it is not; and along any schedule the same answer, outputs and next memory as in rounds, whatever the output rows held.
use Rattle.std.specs.Prelude.{Ok, ◌≡◌, refl, false, List, ◌⊎◌, ltb}
use Rattle.std.proofs.Math.Path.{subst}
use Prim.Native.Nat.{ℕ, suc, ◌≤◌, ◌<◌}
use Rattle.std.proofs.Math.Bool.{Bool, true}
use Rattle.std.proofs.Common.{inl, inr, lt-ltb, ltb-true}
use Rattle.sheet.specs.Outcomes.{refusal, result, followed_by, lowest}
use Rattle.sheet.specs.Memory.{memory_bytes}
use Rattle.sheet.specs.Rows.{row_bytes}
use Rattle.sheet.specs.Laws.Lowest.{lowest-below, lowest-found, lowest-none, none-lowest}
use Rattle.sheet.specs.declared.Refusal.TheVariants.{StaysUnknown}
use Rattle.kernel.specs.Values.{is_unknown, IsKnown, known}
use Rattle.kernel.specs.Order.{◌⊑*◌, value_at}
use Rattle.kernel.specs.Systems.{Full, Solution, LeastSolution}
use Rattle.kernel.specs.Instant.{Environment}
use Rattle.kernel.specs.Instants.{wire_count, under, round, rounds, finished, next_memory, output_row}
use Rattle.kernel.specs.Schedules.{IsSchedule, pass}
use Rattle.kernel.specs.Calls.{Given, given_of, any_unknown, place_of_loop, Accepted, accepted_of, in_rounds, scheduled, rounds_call, scheduled_call}
use Rattle.sheet.specs.Laws.Lists.{never}
use Rattle.kernel.proofs.Laws.Order.{known-not, unknown-is}
use Rattle.kernel.proofs.Laws.Given.{given-same}
use Rattle.kernel.proofs.Laws.Solutions.{finished_solution, finished-least, only_solution, rounds_bound}
use Rattle.kernel.proofs.Laws.Schedules.{schedule_passes, passes_schedule, pass-full-of, pass-finished}
use Rattle.kernel.specs.declared.Value.{Value}
use Rattle.kernel.specs.declared.Value.TheVariants.{Unknown, Known}

not-unknown : (v : Value) → is_unknown v ≡ false → IsKnown v
not-unknown Unknown e = never (cc)
not-unknown (Known d) e = known

-- what an instant that leaves no wire unknown gives
abbrev pub gives_of : Given → ℕ → List Value → Accepted
gives_of given rounds wires =
    record {
      rounds = rounds;
      memory = memory_bytes (next_memory given.sheet given.inputs given.memory wires);
      output = row_bytes (output_row given.sheet wires);
    }

module _ (given : Given) (count : ℕ) (wires : List Value) where
  pub accepts-full : Full (wire_count given.sheet) wires → accepted_of given count wires ≡ result (gives_of given count wires)
  unfolding accepted_of any_unknown Full
  accepts-full full =
      rw (none-lowest (λ w. is_unknown (value_at wires w)) (wire_count given.sheet) (λ w l. known-not (full w l)))

  pub refuses-unknown : (w : ℕ) → w < wire_count given.sheet → value_at wires w ≡ Unknown
      → accepted_of given count wires ≡ refusal StaysUnknown (place_of_loop given wires)
  unfolding accepted_of any_unknown
  refuses-unknown w l e =
      let n = wire_count given.sheet in
      let test : ℕ → Bool = λ x. is_unknown (value_at wires x) in
      let found : test w ≡ true = rw e in
      rw (lt-ltb (lowest test n) n (lowest-below test n w l found))

-- a wire that is unknown
pub record SomeUnknown (n : ℕ) (values : List Value) : Type 0 where
  pub wire : ℕ
  pub in_range : wire < n
  pub unknown : value_at values wire ≡ Unknown

pub full-or-unknown : (n : ℕ) (values : List Value) → Full n values ⊎ SomeUnknown n values
unfolding Full
full-or-unknown n values = go (ltb (lowest test n) n) refl
  where
    test : ℕ → Bool
    test w = is_unknown (value_at values w)

    go : (t : Bool) → ltb (lowest test n) n ≡ t → Full n values ⊎ SomeUnknown n values
    go true e =
        let below = ltb-true (lowest test n) n e in
        inr (record { wire = lowest test n; in_range = below; unknown = unknown-is _ (lowest-found test n below) })
    go false e = inl (λ w l. not-unknown (value_at values w) (lowest-none test n e w l))

-- Demand 2.
module _ (given : Given) where
  abbrev pub given_round : List Value → List Value
  given_round = round given.sheet given.inputs given.memory

  abbrev pub given_under : List Value → Environment
  given_under = under given.sheet given.inputs given.memory

  abbrev pub given_finished : List Value
  given_finished = finished given.sheet given.inputs given.memory

  abbrev pub given_rounds : ℕ
  given_rounds = rounds given.sheet given.inputs given.memory

  pub record Demand2 : Type 0 where
    pub solution : Solution given_round given_finished
    pub least : (s : List Value) → Solution given_round s → given_finished ⊑* s
    pub only : Full (wire_count given.sheet) given_finished → (s : List Value) → Solution given_round s → s ≡ given_finished
    pub accepted : Full (wire_count given.sheet) given_finished → in_rounds given ≡ result (gives_of given given_rounds given_finished)
    pub refused : (w : ℕ) → w < wire_count given.sheet → value_at given_finished w ≡ Unknown
        → in_rounds given ≡ refusal StaysUnknown (place_of_loop given given_finished)
    pub few : given_rounds ≤ suc (wire_count given.sheet)

  pub demand2 : Demand2
  unfolding in_rounds
  demand2 =
      record {
        solution = finished_solution given.sheet given.inputs given.memory;
        least = finished-least given.sheet given.inputs given.memory;
        only = only_solution given.sheet given.inputs given.memory;
        accepted = accepts-full given given_rounds given_finished;
        refused = refuses-unknown given given_rounds given_finished;
        few = rounds_bound given.sheet given.inputs given.memory;
      }

  pub least-finished : LeastSolution given_round given_finished
  least-finished = record { solves = demand2.solution; least = demand2.least }

  -- along a schedule 20 never occurs
  pub scheduled-accepted : (list : List ℕ) → IsSchedule given.sheet list
      → (pass given.sheet given.inputs given.memory list ≡ given_finished)
      × Full (wire_count given.sheet) given_finished
      × (scheduled given list ≡ result (gives_of given 0 given_finished))
  unfolding scheduled
  scheduled-accepted list schedule =
      let passed = schedule_passes given.sheet list schedule in
      let values = pass-finished given.sheet given.inputs given.memory list passed in
      let full = subst (Full (wire_count given.sheet)) values
      (pass-full-of given.sheet given.inputs given.memory list passed) in
      (values, full, rw (passes_schedule given.sheet list passed, values) (accepts-full given 0 given_finished full))

-- Demand 3: the two calls on copies of one memory, each with its own output row.
pub record Demand3 (s memory input output other list : List ℕ) (given : Given) : Type 0 where
  pub values : pass given.sheet given.inputs given.memory list ≡ given_finished given
  pub least : LeastSolution (given_round given) (given_finished given)
  pub full : Full (wire_count given.sheet) (given_finished given)
  pub in_rounds_accepted : (rounds_call s memory input output).answer ≡ Ok (given_rounds given)
  pub scheduled_accepted : (scheduled_call s memory input other list).answer ≡ Ok tt
  pub same_memory : (rounds_call s memory input output).memory ≡ (scheduled_call s memory input other list).memory
  pub same_output : (rounds_call s memory input output).output ≡ (scheduled_call s memory input other list).output
  pub few : given_rounds given ≤ suc (wire_count given.sheet)

module _ (s memory input output other list : List ℕ) (given second : Given)
    (passes : given_of s memory input output ≡ result given) (other_passes : given_of s memory input other ≡ result second)
    (schedule : IsSchedule given.sheet list) where
  pub demand3 : Demand3 s memory input output other list given
  unfolding rounds_call scheduled_call
  demand3 =
      let (values, full, along) = scheduled-accepted given list schedule in
      let two = demand2 given in
      let in_turn : followed_by (given_of s memory input output) in_rounds ≡ result (gives_of given (given_rounds given) (given_finished given)) =
      rw passes (two.accepted full) in
      let same = given-same s memory input output other given second passes other_passes in
      let second : followed_by (given_of s memory input other) (λ g. scheduled g list) ≡ result (gives_of given 0 (given_finished given)) =
      rw (other_passes, ← same) along in
      record {
        values = values;
        least = least-finished given;
        full = full;
        in_rounds_accepted = rw in_turn;
        scheduled_accepted = rw second;
        same_memory = rw (in_turn, second);
        same_output = rw (in_turn, second);
        few = two.few;
      }
