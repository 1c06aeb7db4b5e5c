-- What the rounds of granted buffers show: the answer and the row of the call, whether all wires are known or not.
use Prim.Native.Nat.{ℕ, ◌≤◌}
use mathlib.Core.Path.{◌≡◌, refl, sym, subst, ◌∙◌}
use mathlib.Core.List.{List}
use mathlib.Core.Logic.{◌⊎◌, inl, inr}
use lib.ListN.{length}
use Rattle.wires.specs.Sets.{member, tally}
use Rattle.wires.specs.Laws.{tally-beyond, tally-full, all-full}
use Rattle.sheet.specs.Outcomes.{refusal, result, refused_at, followed_by}
use Rattle.sheet.specs.Laws.Lists.{never}
use Rattle.std.specs.Prelude.{Ok, Err}
use Rattle.sheet.specs.declared.Refused.{Refused}
use Rattle.sheet.specs.declared.Refusal.TheVariants.{StaysUnknown}
use Rattle.kernel.specs.Systems.{Full}
use Rattle.kernel.specs.Instants.{wire_count}
use Rattle.kernel.specs.Calls.{given_of, place_of_loop, in_rounds, rounds_call}
use Rattle.kernel.proofs.Laws.Demands.{gives_of, SomeUnknown, full-or-unknown, given_finished, given_rounds, demand2}
use Rattle.kernel.specs.declared.Value.{Value}
use Rattle.leaves.specs.Words.{fixed_words}
use Rattle.rounds.specs.Running.{Holds, RunningUnder}
use Rattle.rounds.specs.Outputs.{words_of}
use Rattle.rounds.proofs.Rounding.{held-known, known-held}
use Rattle.given.specs.Grants.{Granted}
use Rattle.given.specs.Laws.Finished.{given, HoldsFinished, under-finished, settled, row_written}
use Rattle.in_rounds.specs.Showing.{Prepares}
use Rattle.in_rounds.specs.declared.Shown.{Shown}

-- Whether all wires are known, by the count of the set.
module _ {n bits : ℕ} {row words : List ℕ} {values : List Value} (h : Holds n row bits words values) (few : n ≤ 64) where
  same-tally : tally (member bits) 64 ≡ tally (member bits) n
  same-tally = tally-beyond (member bits) n 64 few h.beyond

  pub all_known : tally (member bits) 64 ≡ n → Full n values
  unfolding Full
  all_known e w l = held-known (tally-full (member bits) n (sym same-tally ∙ e) w l) (h.each w l)

  pub known-counted : Full n values → tally (member bits) 64 ≡ n
  unfolding Full
  known-counted full = same-tally ∙ all-full (member bits) n (λ w l. known-held (full w l) (h.each w l))

-- a refusal is that of the call, and nothing is written
given-refused_lem : (s memory input output places firsts words : List ℕ) {r : Refused}
    → followed_by (given_of s memory input output) in_rounds ≡ refusal r.why r.place
    → Prepares (rounds_call s memory input output) s memory places firsts words (Err r) output
unfolding rounds_call
given-refused_lem s memory input output places firsts words e =
    record { shows = record { answers = rw e; writes = rw e }; refused = λ h. rw e; accepted = λ h. never (cc) }

pub given-refused : (s memory input output places firsts words : List ℕ) {r : Refused} → given_of s memory input output ≡ refusal r.why r.place
    → Prepares (rounds_call s memory input output) s memory places firsts words (Err r) output
given-refused s memory input output places firsts words e = given-refused_lem s memory input output places firsts words (rw e)

module _ {s memory input output places firsts reads start types outputs : List ℕ}
    (g : Granted s memory input output places firsts reads start types outputs)
    {bits : ℕ} {words : List ℕ} (h : HoldsFinished g bits words) where
  -- the finished values, for the wire that loops; the inputs' words stand as they did at the start
  abbrev Under : List ℕ → Type 0
  Under row = RunningUnder s memory row types places firsts bits words

  pub loop-asked : Under (fixed_words words)
  loop-asked = subst Under (sym h.fixed) (under-finished g h)

  pub unknown-shown : (tally (member bits) 64 ≡ length types → ⊥) → {place : ℕ}
      → ((u : Under (fixed_words words)) → place ≡ place_of_loop u.running.given u.values)
      → Prepares (rounds_call s memory input output) s memory places firsts words (refused_at StaysUnknown place) output
  unknown-shown differ {place} answers = go (full-or-unknown n (given_finished (given g)))
    where
      named : place ≡ place_of_loop (given g) (given_finished (given g))
      named =
          subst (λ (row : List ℕ). (u : Under row) → place ≡ place_of_loop u.running.given u.values) h.fixed answers
          (under-finished g h)

      n : ℕ
      n = wire_count (given g).sheet

      go : Full n (given_finished (given g)) ⊎ SomeUnknown n (given_finished (given g))
          → Prepares (rounds_call s memory input output) s memory places firsts words (refused_at StaysUnknown place) output
      go (inl all) = absurd (differ (known-counted h g.running.few (rw g.wired at all)))
      go (inr at) =
          given-refused_lem s memory input output places firsts words
          (rw (g.passes, named) ((demand2 (given g)).refused at.wire at.in_range at.unknown))

  pub finished-shown : tally (member bits) 64 ≡ length types → {shown : Shown} → shown.rounds ≡ given_rounds (given g)
      → types ≡ shown.types.now → {row : List ℕ} → row ≡ words_of outputs words
      → Prepares (rounds_call s memory input output) s memory places firsts words (Ok shown) row
  unfolding rounds_call
  finished-shown all {shown} made are writes =
      let known = all_known h g.running.few all in
      let e : followed_by (given_of s memory input output) in_rounds
      ≡ result (gives_of (given g) (given_rounds (given g)) (given_finished (given g))) =
      rw g.passes ((demand2 (given g)).accepted (rw g.wired known)) in
      record {
        shows = record { answers = rw (e, made); writes = rw e (writes ∙ row_written g h known) };
        refused = λ q. never (cc);
        accepted = λ {shown = other} q. let is : shown ≡ other = cc in
            rw (← is, ← are, e) (record { settled = settled g h known; stores = refl });
      }
