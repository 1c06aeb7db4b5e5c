-- A machine's operands stand in two pairs, its conditions and its bodies, of each of which one advances and the other rests: first the pairs,
-- then what a machine stores by the steps of the code.
use Prim.Native.Nat.{ℕ, ◌+◌, ◌-◌, ◌*◌, ◌≤◌}
use mathlib.Core.Path.{◌≡◌, refl, sym, ap, ◌∙◌}
use mathlib.Core.Bool.{Bool, true, false, not, ◌||◌, beq, cond}
use mathlib.Core.List.{List, [], ◌∷◌, ◌++◌, append_assoc}
use native.Mathlib.Numerals.{add-one}
use native.Mathlib.Omega.{arith}
use lib.Dec.{eqb}
use lib.ListN.{get_or}
use lib.Seq.{sets}
use Rattle.sheet.specs.Data.{boolean, type_of_byte, datum_of}
use Rattle.sheet.specs.Expressions.{machine_of}
use Rattle.sheet.specs.Memory.{cell_bytes, memory_bytes}
use Rattle.sheet.specs.Laws.Lists.{never}
use Rattle.sheet.specs.declared.Datum.TheVariants.{Boolean}
use Rattle.sheet.specs.declared.Cell.{Cell}
use Rattle.sheet.specs.declared.Cell.TheVariants.{Started}
use Rattle.sheet_walk.specs.declared.Place.{Place}
use Rattle.kernel.specs.Values.{truth, is_true}
use Rattle.kernel.specs.Instant.{held, stored}
use Rattle.kernel.proofs.Laws.Switches.{machine-stored as machine-equation}
use Rattle.kernel.specs.declared.Value.{Value}
use Rattle.kernel.specs.declared.Value.TheVariants.{Known}
use Rattle.leaves.specs.Words.{is_second_state}
use Rattle.leaves.specs.declared.Valued.{Valued}
use Rattle.expression.proofs.Views.{Operand, operand-counted, Four, machine-view}
use Rattle.expression.proofs.Values.{operand_value, Ended, by-walk}
use Rattle.expression.proofs.Machines.{entered, state-read, machine-gives}
use Rattle.storing.specs.Advances.{Ready, Advances, Arm, RestsIf}
use Rattle.storing.proofs.Steps.{Steps, operand_stored, operand_resting, Reached, Behind, Stepped, unmoved, ready, arm, advanced, rested}
use Rattle.storing.proofs.Steps.{at-place, behind-advanced, behind-rested, put_first}
use Rattle.storing.proofs.Advancing.{inner_place}

module _ {sheet memory words : List ℕ} {level asked : ℕ} {here : Place} (p : Ready sheet memory words level asked here) where
  abbrev at : ℕ
  at = here.at

  abbrev cell : ℕ
  cell = here.cell

  -- Two operands one behind the other, of which the second advances where the test holds and else the first, under a freshness; the other rests,
  -- under that of the whole.
  module _ (first : ℕ) (cs : List Cell) {t a k : ℕ} (one : Operand p.place t a k)
      (two : Operand p.place t one.next one.count) (inside : two.count ≤ p.place.count) (whole : Bool) where
    abbrev pub pair_stored : (test fresh : Bool) → List Cell
    pair_stored test fresh =
        cond test (operand_resting p whole one ++ operand_stored p fresh two) (operand_stored p fresh one ++ operand_resting p whole two)

    -- the one that advances is next, behind the first if that rests
    pub data Turn (m : List ℕ) (there : Place) : Bool → Type 0 where
      of-first : Behind p first cs m one there → Turn m there false
      of-second : Behind p first (cs ++ operand_resting p whole one) m two there → Turn m there true

    pub turn : (test : Bool) {m m' : List ℕ} {there r : Place} → Behind p first cs m one there
        → RestsIf test sheet m there whole r m' → Turn m' r test
    turn true b h = of-second (behind-rested p one two inside (rested p one b (h.rests refl)))
    turn false b h = of-first (record {
      reached = record { counted = b.reached.counted; holds = h.keeps refl ∙ b.reached.holds };
      inside = b.inside;
      place = h.stays refl ∙ b.place;
    })

    pub turn-ready : {test : Bool} {m : List ℕ} {there : Place} → Turn m there test → Ready sheet m words (level - 1) t there
    turn-ready (of-first b) = ready p one b
    turn-ready (of-second b) = ready p two b

    -- it advanced
    pub data Taken (fresh : Bool) (v : Valued) (m : List ℕ) : Bool → Type 0 where
      by_first : Stepped p first cs one fresh v m → Taken fresh v m false
      by-second : Stepped p first (cs ++ operand_resting p whole one) two fresh v m → Taken fresh v m true

    pub taken : {test fresh : Bool} {m m' : List ℕ} {there : Place} {v : Valued} → Turn m there test → Steps p m t there fresh v m'
        → Taken fresh v m' test
    taken (of-first b) h = by_first (advanced p one b h)
    taken (of-second b) h = by-second (advanced p two b h)

    pub resting-second : {test fresh : Bool} {m : List ℕ} {v : Valued} → Taken fresh v m test → not test ≡ true
        → Arm sheet m v.end
    resting-second (by_first s) e = arm p two (behind-advanced p one two inside s)
    resting-second (by-second s) e = never (cc)

    -- and both are done
    pub record Done (test fresh : Bool) (v : Valued) (e : Place) (m : List ℕ) : Type 0 where
      pub value : cond test (operand_value p.place fresh two) (operand_value p.place fresh one)
          ≡ Known (datum_of (type_of_byte t) v.word)
      pub ended : Ended p.place two e.at e.cell
      pub reached : Reached p first two.count (cs ++ pair_stored test fresh) m

    pub done : {test fresh : Bool} {m m' : List ℕ} {v : Valued} {e : Place} → Taken fresh v m test
        → RestsIf (not test) sheet m v.end whole e m' → Done test fresh v e m'
    done (by_first s) h =
        let r = rested p two (behind-advanced p one two inside s) (h.rests refl) in
        record { value = s.answer.value; ended = by-walk p.place two r.answer; reached = rw append_assoc at r.reached }
    done (by-second s) h = record {
      value = s.answer.value;
      ended = record {
        next = ap (λ x. x.at) (h.stays refl) ∙ s.answer.next;
        count = ap (λ x. x.cell) (h.stays refl) ∙ s.answer.count;
      };
      reached = rw append_assoc at (rw (← (h.keeps refl)) at s.reached);
    }

  -- What a machine stores, by the state that its cell has and the word of the condition that is asked.
  module _ (fresh : Bool) (of : get_or sheet at 0 ≡ 19) {state : Bool} (is : state ≡ is_second_state fresh memory cell) where
    abbrev shown : Four p.place 0 0 asked asked (at + 1) (cell + 1) machine_of
    shown = machine-view p.place of

    conditions_inside : shown.second.count ≤ p.place.count
    conditions_inside =
        omega (arith, shown.ends.count, operand-counted p.place shown.third, operand-counted p.place shown.fourth)

    bodies-inside : shown.fourth.count ≤ p.place.count
    bodies-inside = omega (arith, shown.ends.count)

    begins : Behind p (cell + 1) [] memory shown.first (inner_place p fresh)
    begins = record {
      reached = unmoved p;
      inside = omega (arith, conditions_inside, operand-counted p.place shown.second);
      place = refl;
    }

    pub first_condition_lem : Arm sheet memory (inner_place p fresh)
    first_condition_lem = arm p shown.first begins

    abbrev conditions_stored : List Cell
    conditions_stored = pair_stored (cell + 1) [] shown.first shown.second conditions_inside fresh state fresh

    abbrev run : (word : ℕ) → Bool
    run word = not (beq state (eqb word 1))

    abbrev bodies_stored : (second anew : Bool) → List Cell
    bodies_stored second anew = pair_stored (cell + 1) conditions_stored shown.third shown.fourth bodies-inside fresh second anew

    abbrev condition_value : Value
    condition_value = cond state (operand_value p.place fresh shown.second) (operand_value p.place fresh shown.first)

    stored-by : stored p.place.now fresh p.place.tree cell
        ≡ let holds = is_true condition_value in
        Started (Boolean (cond holds (not state) state)) ∷ (conditions_stored ++ bodies_stored (cond holds (not state) state) (holds || fresh))
    stored-by =
        let state-is : truth (held p.place.now fresh (Boolean false) cell) ≡ state = state-read p.place of fresh ∙ sym is in
        ap (λ e. stored p.place.now fresh e cell) shown.ends.tree
        ∙ machine-equation p.place.now fresh shown.first.tree shown.second.tree shown.third.tree shown.fourth.tree cell
        ∙ rw (
          operand-counted p.place shown.third,
          operand-counted p.place shown.second,
          operand-counted p.place shown.first,
          add-one,
          state-is,
        )

    machine-stored : (word : ℕ) → condition_value ≡ Known (datum_of boolean word)
        → stored p.place.now fresh p.place.tree cell
        ≡ Started (Boolean (run word)) ∷ (conditions_stored ++ bodies_stored (run word) (eqb word 1 || fresh))
    machine-stored word c = stored-by ∙ rw (c, entered state (eqb word 1))

    -- The first condition rests or not, and one of the two advances;
    module _ {r : Place} {m₁ : List ℕ} (h₁ : RestsIf state sheet memory (inner_place p fresh) fresh r m₁) where
      condition_turn : Turn (cell + 1) [] shown.first shown.second conditions_inside fresh m₁ r state
      condition_turn = turn (cell + 1) [] shown.first shown.second conditions_inside fresh state begins h₁

      pub condition_ready : Ready sheet m₁ words (level - 1) 0 r
      condition_ready = turn-ready (cell + 1) [] shown.first shown.second conditions_inside fresh condition_turn

      module _ {c : Valued} {m₂ : List ℕ} (hc : Steps p m₁ 0 r fresh c m₂) where
        condition_taken : Taken (cell + 1) [] shown.first shown.second conditions_inside fresh fresh c m₂ state
        condition_taken = taken (cell + 1) [] shown.first shown.second conditions_inside fresh condition_turn hc

        pub second_condition_lem : not state ≡ true → Arm sheet m₂ c.end
        second_condition_lem = resting-second (cell + 1) [] shown.first shown.second conditions_inside fresh condition_taken

        -- the second condition rests or not;
        module _ {q : Place} {m₃ : List ℕ} (h₂ : RestsIf (not state) sheet m₂ c.end fresh q m₃) where
          conditions : Done (cell + 1) [] shown.first shown.second conditions_inside fresh state fresh c q m₃
          conditions = done (cell + 1) [] shown.first shown.second conditions_inside fresh condition_taken h₂

          bodies_begin : Behind p (cell + 1) conditions_stored m₃ shown.third q
          bodies_begin = record {
            reached = conditions.reached;
            inside = omega (arith, bodies-inside, operand-counted p.place shown.fourth);
            place = at-place q conditions.ended.next conditions.ended.count;
          }

          pub first_body_lem : Arm sheet m₃ q
          first_body_lem = arm p shown.third bodies_begin

          -- and so with the bodies.
          module _ {u : Place} {m₄ : List ℕ} (h₃ : RestsIf (run c.word) sheet m₃ q fresh u m₄) where
            body-turn : Turn (cell + 1) conditions_stored shown.third shown.fourth bodies-inside fresh m₄ u (run c.word)
            body-turn = turn (cell + 1) conditions_stored shown.third shown.fourth bodies-inside fresh (run c.word) bodies_begin h₃

            pub body-ready : Ready sheet m₄ words (level - 1) asked u
            body-ready = turn-ready (cell + 1) conditions_stored shown.third shown.fourth bodies-inside fresh body-turn

            module _ {b : Valued} {m₅ : List ℕ} (hb : Steps p m₄ asked u (eqb c.word 1 || fresh) b m₅) where
              body-taken : Taken (cell + 1) conditions_stored shown.third shown.fourth bodies-inside fresh (eqb c.word 1 || fresh) b m₅
                  (run c.word)
              body-taken = taken (cell + 1) conditions_stored shown.third shown.fourth bodies-inside fresh body-turn hb

              pub second-body : not (run c.word) ≡ true → Arm sheet m₅ b.end
              second-body = resting-second (cell + 1) conditions_stored shown.third shown.fourth bodies-inside fresh body-taken

              pub machine_advances : {e : Place} {m₆ m₇ : List ℕ}
                  → RestsIf (not (run c.word)) sheet m₅ b.end fresh e m₆
                  → m₇ ≡ sets m₆ (5 * cell) (cell_bytes (Started (Boolean (run c.word))))
                  → Advances p fresh (record { word = b.word; end = e }) m₇
              machine_advances h₄ put =
                  let bodies = done (cell + 1) conditions_stored shown.third shown.fourth bodies-inside fresh body-taken h₄ in
                  record {
                    answer = machine-gives p.place of fresh is c.word conditions.value bodies.value bodies.ended;
                    holds =
                        put_first p (Started (Boolean (run c.word))) bodies.reached put
                        ∙ ap (λ cs. sets memory (5 * cell) (memory_bytes cs)) (sym (machine-stored c.word conditions.value));
                  }
