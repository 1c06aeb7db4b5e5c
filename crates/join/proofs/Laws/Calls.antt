-- What the call that joins two sheets promises, from its answer: refused, it says why and writes nothing; else the buffer has a sheet that passes the
-- check with the sums of the counts, starts with the two memories joined, and has the instants of both.
use Rattle.std.specs.Prelude.{◌≡◌, ℕ, ◌+◌, ◌*◌, ◌<◌, Bool, ◌||◌, ◌↔◌, Ok, Err, eqb}
use Rattle.std.proofs.Math.Path.{refl}
use Rattle.std.proofs.Common.{sym, ap, subst, ◌∙◌, arith}
use Rattle.std.proofs.Math.Bool.{true, false}
use mathlib.Core.List.{List, ◌++◌, map-append}
use Rattle.std.proofs.Math.ListN.{length, length-append}
use Rattle.std.proofs.lemmas.List.{length-map}
use borrow.Author.Tests.{eqb-true, eqb-false, eq-eqb, ltb-true}
use Rattle.sheet.specs.Outcomes.{Outcome, refusal, result}
use Rattle.sheet.specs.Sheets.{Sheet, sheet_forms, sheet_of, check_of}
use Rattle.sheet.specs.Memory.{memory_bytes, start_memory, start_outcome, start_call}
use Rattle.sheet.proofs.Laws.Checked.{refused-checked, passed-checked}
use Rattle.sheet.specs.Laws.Lists.{never}
use Rattle.sheet.specs.Laws.Outcomes.{same-result}
use Rattle.sheet.specs.Laws.Refusals.{check_refusals}
use Rattle.sheet.proofs.Laws.Typing.{passed_check}
use Rattle.sheet.specs.declared.Refused.{Refused}
use Rattle.sheet.specs.declared.Refusal.{Refusal}
use Rattle.sheet.specs.declared.Refusal.TheVariants.{OutputLength, JoinedLimit}
use Rattle.kernel.specs.Schedules.{schedule_of}
use Rattle.kernel.specs.Calls.{rounds_call, scheduled_call}
use Rattle.join.specs.Joined.{shifted_numbers, joined_list, joined}
use Rattle.join.specs.Bytes.{joined_bytes}
use Rattle.join.specs.Calls.{passed_with, is_above, Joining, refused_both, join_answer, JoinCall, join_call, PackableJoining}
use Rattle.sheet.specs.declared.Counts.{Counts}
use Rattle.join.specs.declared.NotJoined.TheVariants.{First, Second, Joined}
use Rattle.join.proofs.Laws.Buffers.{memory_bytes-joined}
use Rattle.join.proofs.Laws.Bytes.{joined_length, joined-read}
use Rattle.join.proofs.Laws.Instants.{forms_joined}
use Rattle.join.proofs.Laws.Limits.{counts_of, Limited, limited}
use Rattle.join.specs.Runs.{RoundsJoined, ScheduledJoined}
use Rattle.join.proofs.Laws.Runs.{in_rounds_lem, along_schedule_lem}
use Rattle.join.proofs.Laws.Schedules.{passes-joined, passes-parts}
use Rattle.sheet.specs.Outcomes.{refused_at}
use Rattle.std.specs.Prelude.{Ok}

-- What is promised.

abbrev pub sum_of : Counts → Counts → Counts
sum_of one other =
    record {
      inputs = one.inputs + other.inputs;
      wires = one.wires + other.wires;
      outputs = one.outputs + other.outputs;
      cells = one.cells + other.cells;
    }

-- memory and rows have the lengths that a sheet with these counts asks
pub record Asks (counts : Counts) (memory input output : List ℕ) : Type 0 where
  pub of_memory : length memory ≡ 5 * counts.cells
  pub of_input : length input ≡ 4 * counts.inputs
  pub of_output : length output ≡ 4 * counts.outputs

-- Bytes that are the joined sheet of two that pass with these counts.
pub record JoinedSheet (s t bytes : List ℕ) (first second : Counts) : Type 0 where
  -- they read as the trees of both, joined, and pass the check with the sums of the counts
  pub reads : (one other : Sheet) → sheet_of s ≡ result one → sheet_of t ≡ result other → sheet_of bytes ≡ result (joined one other)
  pub passes : check_of bytes ≡ passed_with (sum_of first second)
  -- the starting memory is the two joined
  pub starts : (memory other : List ℕ) → length memory ≡ 5 * first.cells → length other ≡ 5 * second.cells
      → start_call bytes (memory ++ other)
      ≡ record { answer = Ok tt; memory = (start_call s memory).memory ++ (start_call t other).memory }
  -- joined schedules pass 17 to 19 exactly if both do
  pub schedules : (one other : Sheet) → sheet_of s ≡ result one → sheet_of t ≡ result other
      → (list₁ list₂ : List ℕ) → length list₁ ≡ first.wires → length list₂ ≡ second.wires
      → (schedule_of (joined one other) (joined_list first.wires list₁ list₂) ≡ result (joined_list first.wires list₁ list₂))
      ↔ ((schedule_of one list₁ ≡ result list₁) × (schedule_of other list₂ ≡ result list₂))
  -- instants are accepted exactly if both are, and leave what both leave
  pub in_rounds : (memory₁ memory₂ input₁ input₂ output₁ output₂ : List ℕ)
      → Asks first memory₁ input₁ output₁ → Asks second memory₂ input₂ output₂
      → RoundsJoined (rounds_call bytes (memory₁ ++ memory₂) (input₁ ++ input₂) (output₁ ++ output₂))
      (rounds_call s memory₁ input₁ output₁) (rounds_call t memory₂ input₂ output₂)
  pub along_schedule : (memory₁ memory₂ input₁ input₂ output₁ output₂ list₁ list₂ : List ℕ)
      → Asks first memory₁ input₁ output₁ → Asks second memory₂ input₂ output₂
      → length list₁ ≡ first.wires → length list₂ ≡ second.wires
      → ScheduledJoined
      (scheduled_call bytes (memory₁ ++ memory₂) (input₁ ++ input₂) (output₁ ++ output₂) (joined_list first.wires list₁ list₂))
      (scheduled_call s memory₁ input₁ output₁ list₁) (scheduled_call t memory₂ input₂ output₂ list₂)

-- 23: a joined count or the joined length, which is the sum of both less 3, is above its limit
pub data AboveLimit (first second : Counts) (s t : List ℕ) : Type 0 where
  inputs : 16 < first.inputs + second.inputs → AboveLimit first second s t
  wires : 64 < first.wires + second.wires → AboveLimit first second s t
  outputs : 16 < first.outputs + second.outputs → AboveLimit first second s t
  cells : 64 < first.cells + second.cells → AboveLimit first second s t
  bytes : 4096 + 3 < length s + length t → AboveLimit first second s t

-- both sheets pass the check
pub record BothPass (s t : List ℕ) : Type 0 where
  pub first : Counts
  pub second : Counts
  pub passes_first : check_of s ≡ passed_with first
  pub passes_second : check_of t ≡ passed_with second

module _ (s t buffer : List ℕ) where
  -- refused with 23, or with 16 behind it, at 0
  pub data RefusedBoth (both : BothPass s t) : Refusal → Type 0 where
    above : AboveLimit both.first both.second s t → RefusedBoth both JoinedLimit
    other_length : (AboveLimit both.first both.second s t → ⊥) → (length buffer + 3 ≡ length s + length t → ⊥)
        → RefusedBoth both OutputLength

  pub record JoinAnswered (now : JoinCall) : Type 0 where
    pub first_refused : {refused : Refused} → now.answer ≡ Err (First refused)
        → (check_of s ≡ Err refused) × (now.joined ≡ buffer)
    pub second_refused : {refused : Refused} → now.answer ≡ Err (Second refused)
        → ((counts : Counts) × (check_of s ≡ passed_with counts)) × (check_of t ≡ Err refused) × (now.joined ≡ buffer)
    pub refused : {refused : Refused} → now.answer ≡ Err (Joined refused)
        → (refused.place ≡ 0) × ((both : BothPass s t) × RefusedBoth both refused.why) × (now.joined ≡ buffer)
    pub done : now.answer ≡ Ok tt
        → (both : BothPass s t) × (length buffer + 3 ≡ length s + length t) × JoinedSheet s t now.joined both.first both.second

-- That it is so.

-- a test that joins five passes where one of them does
one_of : {A : Type 0} (a b c d e : Bool) → (a || b || c || d || e) ≡ true
    → (a ≡ true → A) → (b ≡ true → A) → (c ≡ true → A) → (d ≡ true → A) → (e ≡ true → A) → A
one_of true b c d e h first second third fourth fifth = first refl
one_of false true c d e h first second third fourth fifth = second refl
one_of false false true d e h first second third fourth fifth = third refl
one_of false false false true e h first second third fourth fifth = fourth refl
one_of false false false false e h first second third fourth fifth = fifth h

module _ (s t : List ℕ) (first second : Sheet) (read₁ : sheet_of s ≡ result first) (read₂ : sheet_of t ≡ result second) where
  abbrev both : Sheet
  both = joined first second

  counts-joined : counts_of both ≡ sum_of (counts_of first) (counts_of second)
  counts-joined =
      rw (
        length-append first.input_types second.input_types,
        length-append first.wire_types second.wire_types,
        length-append first.outputs (shifted_numbers (length first.wire_types) second.outputs),
        length-map second.outputs (λ w. length first.wire_types + w),
        forms_joined first second,
        length-append (sheet_forms first) (sheet_forms second),
      )

  start-bytes : memory_bytes (start_memory (sheet_forms both)) ≡ memory_bytes (start_memory (sheet_forms first)) ++ memory_bytes (start_memory (sheet_forms second))
  unfolding start_memory
  start-bytes = rw (forms_joined first second) (simp map-append (memory_bytes-joined (start_memory (sheet_forms first)) (start_memory (sheet_forms second))))

  module _ (few : Limited (counts_of first) (counts_of second) (length (joined_bytes s t))) where
    abbrev written : List ℕ
    written = joined_bytes s t

    read : sheet_of written ≡ result both
    read = joined-read s t first second read₁ read₂ few

    starts-joined : (memory other : List ℕ) → length memory ≡ 5 * length (sheet_forms first) → length other ≡ 5 * length (sheet_forms second)
        → start_call written (memory ++ other)
        ≡ record { answer = Ok tt; memory = (start_call s memory).memory ++ (start_call t other).memory }
    unfolding start_call start_outcome
    starts-joined memory other sized₁ sized₂ =
        let sized : length (memory ++ other) ≡ 5 * length (sheet_forms both) =
        rw (length-append memory other, forms_joined first second, length-append (sheet_forms first) (sheet_forms second)) (omega arith) in
        rw (read, eq-eqb (length (memory ++ other)) (5 * length (sheet_forms both)) sized)
        (rw (read₁, read₂, eq-eqb (length memory) (5 * length (sheet_forms first)) sized₁, eq-eqb (length other) (5 * length (sheet_forms second)) sized₂)
        (rw start-bytes))

    joined-sheet : JoinedSheet s t written (counts_of first) (counts_of second)
    joined-sheet =
        let typed₁ = (passed_check s read₁).well_typed_lem in
        let same₁ = (passed_check s read₁).same_length in
        let same₂ = (passed_check t read₂).same_length in
        record {
          reads = λ one other p q. rw (same-result (sym p ∙ read₁), same-result (sym q ∙ read₂)) read;
          passes = passed-checked written read ∙ ap passed_with counts-joined;
          starts = starts-joined;
          schedules = λ one other p q list₁ list₂ sized₁ sized₂.
              rw (same-result (sym p ∙ read₁), same-result (sym q ∙ read₂)) (
                (λ e. passes-parts first second typed₁ list₁ list₂ (sized₁ ∙ same₁) (sized₂ ∙ same₂) e),
                (λ (e, f). passes-joined first second typed₁ list₁ list₂ (sized₁ ∙ same₁) (sized₂ ∙ same₂) e f),
              );
          in_rounds = λ m₁ m₂ i₁ i₂ o₁ o₂ a b. in_rounds_lem s t written first second read₁ read₂ read m₁ m₂ i₁ i₂ o₁ o₂
              a.of_memory b.of_memory a.of_input b.of_input a.of_output b.of_output;
          along_schedule = λ m₁ m₂ i₁ i₂ o₁ o₂ list₁ list₂ a b sized₁ sized₂.
              along_schedule_lem s t written first second read₁ read₂ read m₁ m₂ i₁ i₂ o₁ o₂
              a.of_memory b.of_memory a.of_input b.of_input a.of_output b.of_output list₁ list₂ (sized₁ ∙ same₁) (sized₂ ∙ same₂);
        }

  -- the test of the limits
  long : length (joined_bytes s t) + 3 ≡ length s + length t
  long = joined_length s t (passed_check s read₁).read (passed_check t read₂).read

  above_limit : is_above (counts_of first) (counts_of second) (length (joined_bytes s t)) ≡ true → AboveLimit (counts_of first) (counts_of second) s t
  above_limit e =
      one_of _ _ _ _ _ e (λ f. inputs (ltb-true _ _ f)) (λ f. wires (ltb-true _ _ f)) (λ f. outputs (ltb-true _ _ f))
      (λ f. cells (ltb-true _ _ f)) (λ f. bytes (omega (arith, long, ltb-true 4096 (length (joined_bytes s t)) f)))

  not-above : Limited (counts_of first) (counts_of second) (length (joined_bytes s t)) → AboveLimit (counts_of first) (counts_of second) s t → ⊥
  not-above l (inputs a) = omega (arith, l.of_inputs)
  not-above l (wires a) = omega (arith, l.of_wires)
  not-above l (outputs a) = omega (arith, l.of_outputs)
  not-above l (cells a) = omega (arith, l.of_cells)
  not-above l (bytes a) = omega (arith, l.of_bytes, long)

-- The call, from its answer.
module _ (s t buffer : List ℕ) where
  abbrev Answers : (answer : Joining) → (left : List ℕ) → Type 0
  Answers answer left = JoinAnswered s t buffer (record { answer = answer; joined = left })

  first-refused : (refused : Refused) → sheet_of s ≡ refusal refused.why refused.place → Answers (Err (First refused)) buffer
  first-refused refused p =
      record {
        first_refused = λ {refused = other} e. let same : refused ≡ other = cc in (rw same at (refused-checked s p), refl);
        second_refused = λ e. never (cc);
        refused = λ e. never (cc);
        done = λ e. never (cc);
      }

  module _ (first : Sheet) (p : sheet_of s ≡ result first) where
    second-refused : (refused : Refused) → sheet_of t ≡ refusal refused.why refused.place → Answers (Err (Second refused)) buffer
    second-refused refused q =
        record {
          first_refused = λ e. never (cc);
          second_refused = λ {refused = other} e.
              let same : refused ≡ other = cc in
              ((counts_of first, passed-checked s p), rw same at (refused-checked t q), refl);
          refused = λ e. never (cc);
          done = λ e. never (cc);
        }

    module _ (second : Sheet) (q : sheet_of t ≡ result second) where
      abbrev pass : BothPass s t
      pass =
          record {
            first = counts_of first;
            second = counts_of second;
            passes_first = passed-checked s p;
            passes_second = passed-checked t q;
          }

      both-refused : (why : Refusal) → RefusedBoth s t buffer pass why → Answers (refused_both why) buffer
      both-refused why because =
          record {
            first_refused = λ e. never (cc);
            second_refused = λ e. never (cc);
            refused = λ {refused = other} e.
                let same : record { why = why; place = 0 } ≡ other = cc in (
                  ap (λ (r : Refused). r.place) (sym same),
                  (pass, subst (RefusedBoth s t buffer pass) (ap (λ (r : Refused). r.why) same) because),
                  refl,
                );
            done = λ e. never (cc);
          }

      both-joined : Limited (counts_of first) (counts_of second) (length (joined_bytes s t))
          → length buffer ≡ length (joined_bytes s t) → Answers (Ok tt) (joined_bytes s t)
      both-joined few sized =
          record {
            first_refused = λ e. never (cc);
            second_refused = λ e. never (cc);
            refused = λ e. never (cc);
            done = λ e. (pass, omega (arith, long s t first second p q), joined-sheet s t first second p q few);
          }

      behind_checks : (above : Bool) → is_above (counts_of first) (counts_of second) (length (joined_bytes s t)) ≡ above
          → (fits : Bool) → eqb (length buffer) (length (joined_bytes s t)) ≡ fits
          → JoinAnswered s t buffer (join_call s t buffer)
      unfolding join_call join_answer
      behind_checks true e fits f = rw (passed-checked s p, passed-checked t q, e) (both-refused JoinedLimit (above (above_limit s t first second p q e)))
      behind_checks false e false f =
          let apart = eqb-false (length buffer) (length (joined_bytes s t)) f in
          rw (passed-checked s p, passed-checked t q, e, f)
          (both-refused OutputLength (other_length (not-above s t first second p q (limited _ _ _ e))
          (λ same. apart (omega (arith, long s t first second p q)))))
      behind_checks false e true f =
          rw (passed-checked s p, passed-checked t q, e, f)
          (both-joined (limited _ _ _ e) (eqb-true (length buffer) (length (joined_bytes s t)) f))

  pub join-answered : JoinAnswered s t buffer (join_call s t buffer)
  unfolding join_call join_answer
  join-answered = go (sheet_of s) refl (sheet_of t) refl
    where
      go : (x : Outcome Sheet) → sheet_of s ≡ x → (y : Outcome Sheet) → sheet_of t ≡ y → JoinAnswered s t buffer (join_call s t buffer)
      go (refusal why place) p y q = rw (refused-checked s p) (first-refused (record { why = why; place = place }) p)
      go (result first) p (refusal why place) q = rw (passed-checked s p, refused-checked t q) (second-refused first p (record { why = why; place = place }) q)
      go (result first) p (result second) q =
          behind_checks first p second q (is_above (counts_of first) (counts_of second) (length (joined_bytes s t))) refl
          (eqb (length buffer) (length (joined_bytes s t))) refl

  -- 1 to 11 have their places in a sheet, or at its end, and 23 and 16 are at 0: the answer can be packed
  pub join_packable : PackableJoining (join_call s t buffer).answer
  join_packable = go (join_call s t buffer).answer refl
    where
      go : (answer : Joining) → (join_call s t buffer).answer ≡ answer → PackableJoining answer
      go (Err (First refused)) e = omega (arith, (check_refusals s (join-answered.first_refused e).0).bounded)
      go (Err (Second refused)) e = omega (arith, (check_refusals t (join-answered.second_refused e).1).bounded)
      go (Err (Joined refused)) e = omega (arith, (join-answered.refused e).0)
      go (Ok done) e = tt
