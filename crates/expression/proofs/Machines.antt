-- A machine's operands stand in two pairs, its conditions and its bodies, of each of which one counts and the other is passed over: first the
-- pairs, then the value of a machine by the steps of the code.
use Prim.Native.Nat.{ℕ, ◌+◌}
use mathlib.Core.Path.{◌≡◌, refl, sym, ap, ◌∙◌}
use mathlib.Core.Bool.{Bool, true, false, not, ◌||◌, beq, cond}
use mathlib.Core.List.{List}
use Rattle.std.specs.Prelude.{Option, Some, None}
use lib.Dec.{eqb}
use lib.ListN.{get_or}
use Rattle.sheet.specs.Data.{boolean, type_of_byte, datum_of}
use Rattle.sheet.specs.Expressions.{machine_of}
use Rattle.sheet.specs.Memory.{mark_at, read_cell}
use Rattle.sheet.specs.Laws.Lists.{never}
use Rattle.sheet.specs.declared.Datum.TheVariants.{Boolean}
use Rattle.sheet.specs.declared.Cell.TheVariants.{Started}
use Rattle.sheet_walk.specs.Skips.{SkipsIf}
use Rattle.sheet_walk.specs.declared.Place.{Place}
use Rattle.kernel.specs.Values.{truth}
use Rattle.kernel.specs.Instant.{value, held_or, held}
use Rattle.kernel.specs.declared.Value.{Value}
use Rattle.kernel.specs.declared.Value.TheVariants.{Unknown, Known}
use Rattle.leaves.specs.Words.{is_second_state}
use Rattle.leaves.specs.declared.Valued.{Valued}
use Rattle.expression.specs.Places.{Placement, whole_value, Gives, Yields, unknown, known}
use Rattle.expression.proofs.Views.{Operand, placed, readable, Four, state-cell, machine-view}
use Rattle.expression.proofs.Values.{as_known, as_unknown, operand_value, Answers, Ended, by_value, by-walk, behind, machine-value, finished}

-- the state that the code reads of the bytes is the one that the cell has
seen-state : (fresh : Bool) (memory : List ℕ) (k : ℕ)
    → truth (held_or (Boolean false) (cond fresh (Started (Boolean false)) (read_cell boolean memory k))) ≡ is_second_state fresh memory k
seen-state true memory k = refl
seen-state false memory k = by (eqb (mark_at memory k) 0) refl
  where
    by : (b : Bool) → eqb (mark_at memory k) 0 ≡ b
        → truth (held_or (Boolean false) (read_cell boolean memory k)) ≡ is_second_state false memory k
    by true m = rw m
    by false m = rw m

-- the other state is entered where the condition holds
pub entered : (state holds : Bool) → cond holds (not state) state ≡ not (beq state holds)
entered true true = refl
entered true false = refl
entered false true = refl
entered false false = refl

module _ {sheet memory words : List ℕ} {bits level asked at cell : ℕ}
    (p : Placement sheet memory words bits level asked at cell) where
  pub state-read : get_or sheet at 0 ≡ 19 → (fresh : Bool)
      → truth (held p.now fresh (Boolean false) cell) ≡ is_second_state fresh memory cell
  state-read of fresh = rw (state-cell p of).stands.reads at (seen-state fresh memory cell)

  -- an operand, at the same place under other names
  abbrev moved : {t a k n j : ℕ} → n ≡ a → j ≡ k → Operand p t a k → Operand p t n j
  moved place number o = record {
    tree = o.tree;
    next = o.next;
    count = o.count;
    reads = rw (place, number) o.reads;
    cells = rw number o.cells;
  }

  -- Two operands one behind the other, the first of which is walked past where the test holds.
  module _ {t a k : ℕ} (first : Operand p t a k) (second : Operand p t first.next first.count) where
    -- the one that counts
    abbrev pub picked : (test : Bool) {r : Place} → SkipsIf test sheet (record { at = a; cell = k }) r → Operand p t r.at r.cell
    picked true h = behind p (by-walk p first (h.walks refl (readable p first))) second
    picked false h = moved (ap (λ x. x.at) (h.stays refl)) (ap (λ x. x.cell) (h.stays refl)) first

    pub picked_value : (test : Bool) {r : Place} (h : SkipsIf test sheet (record { at = a; cell = k }) r) (f : Bool)
        → operand_value p f (picked test h) ≡ cond test (operand_value p f second) (operand_value p f first)
    picked_value true h f = ap (λ x. value p.now f second.tree x.cell) (h.walks refl (readable p first))
    picked_value false h f = ap (λ x. value p.now f first.tree x.cell) (h.stays refl)

    -- where that one ended the second begins, if it was the first
    pub other : (test : Bool) {r : Place} (h : SkipsIf test sheet (record { at = a; cell = k }) r) {n j : ℕ} → Ended p (picked test h) n j → not test ≡ true
        → Operand p t n j
    other true h e f = never (cc)
    other false h e f = moved e.next e.count second

    -- behind both of them
    pub both-ended : (test : Bool) {r : Place} (h : SkipsIf test sheet (record { at = a; cell = k }) r) {n j : ℕ} → Ended p (picked test h) n j
        → {q : Place} → SkipsIf (not test) sheet (record { at = n; cell = j }) q → Ended p second q.at q.cell
    both-ended true h e g = record {
      next = ap (λ x. x.at) (g.stays refl) ∙ e.next;
      count = ap (λ x. x.cell) (g.stays refl) ∙ e.count;
    }
    both-ended false h e g = by-walk p second (g.walks refl (readable p (moved e.next e.count second)))

  -- The value of a machine, by the state that its cell has, the condition that is asked and the body that runs.
  module _ (of : get_or sheet at 0 ≡ 19) (fresh : Bool) {state : Bool} (is : state ≡ is_second_state fresh memory cell) where
    abbrev shown : Four p 0 0 asked asked (at + 1) (cell + 1) machine_of
    shown = machine-view p of

    -- whether the second body runs, where the condition has this word
    abbrev pub run : (word : ℕ) → Bool
    run word = not (beq state (eqb word 1))

    abbrev pub condition_value : Value
    condition_value = cond state (operand_value p fresh shown.second) (operand_value p fresh shown.first)

    abbrev pub body_value : (word : ℕ) → Value
    body_value word =
        cond (run word) (operand_value p (eqb word 1 || fresh) shown.fourth) (operand_value p (eqb word 1 || fresh) shown.third)

    state-is : truth (held p.now fresh (Boolean false) cell) ≡ state
    state-is = state-read of fresh ∙ sym is

    pub machine-unknown : condition_value ≡ Unknown → whole_value p fresh ≡ Unknown
    machine-unknown u = machine-value p fresh shown ∙ rw (state-is, u)

    pub machine-runs : (word : ℕ) → condition_value ≡ Known (datum_of boolean word) → {v : Value} → body_value word ≡ v → whole_value p fresh ≡ v
    machine-runs word c b = machine-value p fresh shown ∙ rw (state-is, c, entered state (eqb word 1)) b

    pub machine-gives : (word : ℕ) → condition_value ≡ Known (datum_of boolean word)
        → {v : ℕ} → body_value word ≡ Known (datum_of (type_of_byte asked) v) → {n j : ℕ} → Ended p shown.fourth n j → Gives p fresh v n j
    machine-gives word c b e = finished p fresh shown.ends (machine-runs word c b) e.next e.count

    -- What the valuer's steps answer: it walks past the first condition or to it,
    module _ {r : Place} (h : SkipsIf state sheet (record { at = at + 1; cell = cell + 1 }) r) where
      abbrev pub asked_condition : Operand p 0 r.at r.cell
      asked_condition = picked shown.first shown.second state h

      asked-value : {v : Value} → operand_value p fresh asked_condition ≡ v → condition_value ≡ v
      asked-value e = sym (picked_value shown.first shown.second state h fresh) ∙ e

      module _ {c : Option Valued} (hc : Answers p r.at r.cell fresh c) where
        pub condition_unknown : c ≡ None → Yields p fresh None
        condition_unknown ends = unknown (machine-unknown (asked-value (as_unknown (hc 0 (placed p asked_condition)) ends)))

        -- past the second condition or from it,
        module _ {v : Valued} (there : c ≡ Some v) where
          condition_gives : Gives (placed p asked_condition) fresh v.word v.end.at v.end.cell
          condition_gives = as_known (hc 0 (placed p asked_condition)) there

          pub other_condition : not state ≡ true → Operand p 0 v.end.at v.end.cell
          other_condition = other shown.first shown.second state h (by_value p condition_gives)

          module _ {q : Place} (past : SkipsIf (not state) sheet v.end q) where
            pub conditions_ended : Ended p shown.second q.at q.cell
            conditions_ended = both-ended shown.first shown.second state h (by_value p condition_gives) past

            abbrev pub first_body_lem : Operand p asked q.at q.cell
            first_body_lem = behind p conditions_ended shown.third

            -- past the first body or to it,
            module _ {u : Place} (to : SkipsIf (run v.word) sheet q u) where
              abbrev pub running_body : Operand p asked u.at u.cell
              running_body = picked first_body_lem shown.fourth (run v.word) to

              body-value : {x : Value} → operand_value p (eqb v.word 1 || fresh) running_body ≡ x → body_value v.word ≡ x
              body-value e =
                  let anew = eqb v.word 1 || fresh in
                  let second = operand_value p anew shown.fourth in
                  ap (λ (k : ℕ). cond (run v.word) second (value p.now anew shown.third.tree k)) (sym conditions_ended.count)
                  ∙ sym (picked_value first_body_lem shown.fourth (run v.word) to anew) ∙ e

              module _ {b : Option Valued} (hb : Answers p u.at u.cell (eqb v.word 1 || fresh) b) where
                pub body-unknown : b ≡ None → Yields p fresh None
                body-unknown ends =
                    unknown (machine-runs v.word (asked-value condition_gives.value)
                    (body-value (as_unknown (hb asked (placed p running_body)) ends)))

                -- and past the second body or from it.
                module _ {w : Valued} (here : b ≡ Some w) where
                  body-gives : Gives (placed p running_body) (eqb v.word 1 || fresh) w.word w.end.at w.end.cell
                  body-gives = as_known (hb asked (placed p running_body)) here

                  pub other-body : not (run v.word) ≡ true → Operand p asked w.end.at w.end.cell
                  other-body = other first_body_lem shown.fourth (run v.word) to (by_value p body-gives)

                  pub machine-answer : {e : Place} → SkipsIf (not (run v.word)) sheet w.end e
                      → Yields p fresh (Some (record { word = w.word; end = e }))
                  machine-answer end =
                      let last = both-ended first_body_lem shown.fourth (run v.word) to (by_value p body-gives) end in
                      known (machine-gives v.word (asked-value condition_gives.value) (body-value body-gives.value) last)
