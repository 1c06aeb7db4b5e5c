-- Which operands of a machine count: of its two conditions the one that is asked, while it is unknown, and then of its two bodies the one that
-- runs.
use Prim.Native.Nat.{ℕ, suc, ◌+◌, ◌≤◌}
use mathlib.Core.Path.{◌≡◌, refl, sym, ap, ◌∙◌}
use mathlib.Core.Bool.{Bool, true, false, not, ◌||◌, beq, cond}
use mathlib.Core.List.{List, ◌++◌, append-nil}
use Rattle.std.specs.Prelude.{Option, Some, None}
use native.Mathlib.Numerals.{add-one}
use native.Mathlib.Omega.{arith}
use mir.Val.{bool_byte}
use lib.Dec.{eqb}
use lib.ListN.{get_or}
use Rattle.sheet.specs.Expressions.{machine_of}
use Rattle.sheet.specs.Lists.{among}
use Rattle.sheet.specs.declared.Datum.{Datum}
use Rattle.sheet.specs.declared.Datum.TheVariants.{Boolean}
use Rattle.sheet_walk.specs.Skips.{SkipsIf}
use Rattle.sheet_walk.specs.declared.Place.{Place}
use Rattle.kernel.specs.Values.{truth}
use Rattle.kernel.specs.Instant.{held}
use Rattle.kernel.specs.Waits.{once_known, wires_awaited}
use Rattle.kernel.proofs.Laws.Switches.{machine-awaited as machine-equation}
use Rattle.leaves.specs.Words.{is_second_state}
use Rattle.leaves.specs.declared.Valued.{Valued}
use Rattle.expression.specs.Places.{Placement}
use Rattle.expression.proofs.Views.{Operand, Four, placed, readable, operand-counted, machine-view}
use Rattle.expression.proofs.Values.{operand_value, Answers, as_known, as_unknown}
use Rattle.expression.proofs.Machines.{entered, state-read, picked, picked_value, asked_condition, conditions_ended, first_body_lem, running_body}
use Rattle.waiting.specs.Waiting.{Behind, past, Counts}
use Rattle.waiting.proofs.Counting.{whole, awaits, none-behind, one-behind, behind-known, operand-counts}

-- a test as a number
pub bool-number : (test : Bool) → bool_byte test ≤ 1
bool-number true = omega arith
bool-number false = omega arith

module _ {sheet memory words : List ℕ} {bits level asked at cell : ℕ} (p : Placement sheet memory words bits level asked at cell) where
  -- Two operands one behind the other, the first of which is walked past where the test holds.
  module _ {t a k : ℕ} (first : Operand p t a k) (second : Operand p t first.next first.count) where
    picked-awaits : (test : Bool) {r : Place} (h : SkipsIf test sheet (record { at = a; cell = k }) r) (f : Bool)
        → awaits p f (picked p first second test h) ≡ cond test (awaits p f second) (awaits p f first)
    picked-awaits true h f = ap (λ x. wires_awaited p.now f second.tree x.cell) (h.walks refl (readable p first))
    picked-awaits false h f = ap (λ x. wires_awaited p.now f first.tree x.cell) (h.stays refl)

    -- behind the first stands one more than behind the second
    behind-picked : (test : Bool) {r : Place} (h : SkipsIf test sheet (record { at = a; cell = k }) r) {d n : ℕ}
        → Behind sheet d second.next second.count p.next p.count → n ≡ d + bool_byte (not test)
        → let o = picked p first second test h in Behind sheet n o.next o.count p.next p.count
    behind-picked true h {d} {n} rest e = let same : n ≡ d = omega arith in rw same rest
    behind-picked false h {d} {n} rest e = let more : n ≡ suc d = omega arith in rw more (past (readable p second) rest)

  -- what the whole waits for, by its state
  machine-awaited : (fresh : Bool) {t u y z a : ℕ} (v : Four p t u y z a (cell + 1) machine_of) {state : Bool}
      → truth (held p.now fresh (Boolean false) cell) ≡ state
      → whole p fresh ≡ cond state (awaits p fresh v.second) (awaits p fresh v.first)
      ++ once_known (cond state (operand_value p fresh v.second) (operand_value p fresh v.first)) (λ d.
      cond (cond (truth d) (not state) state) (awaits p (truth d || fresh) v.fourth) (awaits p (truth d || fresh) v.third))
  machine-awaited fresh v current =
      ap (λ e. wires_awaited p.now fresh e cell) v.ends.tree
      ∙ machine-equation p.now fresh v.first.tree v.second.tree v.third.tree v.fourth.tree cell
      ∙ rw (operand-counted p v.third, operand-counted p v.second, operand-counted p v.first, add-one, current)

  module _ (of : get_or sheet at 0 ≡ 19) (fresh : Bool) {state : Bool} (is : state ≡ is_second_state fresh memory cell) where
    abbrev shown : Four p 0 0 asked asked (at + 1) (cell + 1) machine_of
    shown = machine-view p of

    -- what the body that runs waits for, where the condition has this datum
    abbrev body_awaited : Datum → List ℕ
    body_awaited d =
        cond (cond (truth d) (not state) state) (awaits p (truth d || fresh) shown.fourth) (awaits p (truth d || fresh) shown.third)

    -- Once the first condition was walked past or not, the condition behind it was valued.
    module _ {r : Place} (h : SkipsIf state sheet (record { at = at + 1; cell = cell + 1 }) r) where
      abbrev condition : Operand p 0 r.at r.cell
      condition = asked_condition p of fresh is h

      by_condition : whole p fresh ≡ awaits p fresh condition ++ once_known (operand_value p fresh condition) body_awaited
      by_condition =
          machine-awaited fresh shown (state-read p of fresh ∙ sym is)
          ∙ rw (picked-awaits shown.first shown.second state h fresh, picked_value p shown.first shown.second state h fresh)

      module _ {c : Option Valued} (hc : Answers p r.at r.cell fresh c) where
        pub machine-counts_condition : c ≡ None
            → Counts p fresh (record { here = r; operands = 1; rest = 2 + bool_byte (not state); fresh = fresh })
        machine-counts_condition unknown =
            let is-unknown = as_unknown (hc 0 (placed p condition)) unknown in
            let bodies = past (readable p shown.third) (one-behind p shown.fourth shown.ends) in
            operand-counts p fresh condition refl refl (behind-picked shown.first shown.second state h bodies refl)
            (λ x u. ap (among x) (by_condition ∙ rw is-unknown (append-nil (awaits p fresh condition))))

        -- then the other condition, and the first body or not
        module _ {v : Valued} (there : c ≡ Some v) {q : Place} (passed : SkipsIf (not state) sheet v.end q)
            {b : Place} (to : SkipsIf (not (beq state (eqb v.word 1))) sheet q b) where
          abbrev second : Bool
          second = not (beq state (eqb v.word 1))

          abbrev anew : Bool
          anew = eqb v.word 1 || fresh

          abbrev body : Operand p asked b.at b.cell
          body = running_body p of fresh is h hc there passed to

          body-awaits : awaits p anew body ≡ cond second (awaits p anew shown.fourth) (awaits p anew shown.third)
          body-awaits =
              picked-awaits (first_body_lem p of fresh is h hc there passed) shown.fourth second to anew
              ∙ ap (λ (k : ℕ). cond second (awaits p anew shown.fourth) (wires_awaited p.now anew shown.third.tree k))
              (conditions_ended p of fresh is h hc there passed).count

          pub machine-counts-body : Counts p fresh (record { here = b; operands = 1; rest = bool_byte (not second); fresh = anew })
          machine-counts-body =
              let g = as_known (hc 0 (placed p condition)) there in
              operand-counts p fresh body refl refl
              (behind-picked (first_body_lem p of fresh is h hc there passed) shown.fourth second to (none-behind p shown.ends) (omega arith))
              (λ x u. ap (among x) by_condition
              ∙ (behind-known p fresh condition g.value body_awaited x u
              ∙ ap (among x) (rw (entered state (eqb v.word 1)) (sym body-awaits))))
