-- Checks 17 to 19 pass just the schedules that demand 3 speaks of. One pass along a schedule leaves no wire unknown and ends in the
-- finished values of the rounds.
use Rattle.std.specs.Prelude.{◌≡◌, Bool, not, ◌||◌, ltb, take, set}
use Rattle.std.proofs.Math.Path.{refl, sym, subst}
use Rattle.std.proofs.Common.{◌∙◌, arith, take-suc}
use Prim.Native.Nat.{ℕ, zero, suc, ◌<◌, ◌≤◌}
use Rattle.std.proofs.Math.Bool.{true, false, or-true}
use mathlib.Core.List.{List, [], ◌∷◌}
use Rattle.std.proofs.Math.Dec.{eqb}
use Rattle.std.proofs.Math.ListN.{length}
use borrow.Author.Tests.{eqb-true, eqb-false, eq-eqb, ltb-true, lt-ltb, not-false}
use Rattle.sheet.specs.Outcomes.{result}
use Rattle.sheet.specs.Sheets.{Sheet}
use Rattle.sheet.specs.Laws.Lowest.{none-lowest}
use Rattle.sheet.specs.Laws.Outcomes.{length-passed, any-passed}
use Rattle.sheet.specs.declared.Datum.{Datum}
use Rattle.sheet.specs.declared.Cell.{Cell}
use Rattle.sheet.specs.Lists.{among, all_among, Every}
use Rattle.kernel.specs.Order.{value_at, all_unknown}
use Rattle.kernel.specs.Systems.{Full, visit, visits}
use Rattle.kernel.specs.Instants.{wire_count, reads_at, round, finished}
use Rattle.kernel.specs.Schedules.{entry_at, not_new, too_early, schedule_of, Earlier, IsSchedule, pass_from, pass}
use Rattle.kernel.proofs.Laws.Pigeonhole.{at_most, at_least, each-met}
use Rattle.sheet.specs.Laws.Lists.{never, neither, among-append, every-among, all_among_lem}
use Rattle.kernel.proofs.Laws.Passes.{pass-full, pass_finishes}
use Rattle.kernel.proofs.Laws.Instants.{round-at, round_monotone, round-known}
use Rattle.kernel.specs.declared.Value.{Value}

-- what checks 17 to 19 ask of a list
pub record Passed (sheet : Sheet) (list : List ℕ) : Type 0 where
  pub counted : length list ≡ wire_count sheet
  pub new : (p : ℕ) → p < wire_count sheet → not_new list (wire_count sheet) p ≡ false
  pub ordered : (p : ℕ) → p < wire_count sheet → too_early list (reads_at sheet.expressions) p ≡ false

pub schedule_passed : (sheet : Sheet) (list order : List ℕ) → schedule_of sheet list ≡ result order → (list ≡ order) × Passed sheet list
unfolding schedule_of
schedule_passed sheet list order e =
    let n = wire_count sheet in
    let (counted, e₁) = length-passed _ (length list) n _ e in
    let (new, e₂) = any-passed _ (not_new list n) n _ e₁ in
    let (ordered, e₃) = any-passed _ (too_early list (reads_at sheet.expressions)) n _ e₂ in
    (cc (e₃), record { counted = counted; new = new; ordered = ordered })

pub passes_schedule : (sheet : Sheet) (list : List ℕ) → Passed sheet list → schedule_of sheet list ≡ result list
unfolding schedule_of
passes_schedule sheet list h =
    let n = wire_count sheet in
    rw (eq-eqb (length list) n h.counted, none-lowest (not_new list n) n h.new)
    (rw (none-lowest (too_early list (reads_at sheet.expressions)) n h.ordered))

-- The checks pass just the lists that demand 3 speaks of.
module _ (list : List ℕ) where
  pub named-earlier : (p w : ℕ) → p ≤ length list → among w (take p list) ≡ true → Earlier list p w
  unfolding among
  named-earlier zero w l a = never (cc)
  named-earlier (suc p) w l a =
      go (among w (take p list)) refl (eqb w (entry_at list p)) refl
      (rw (take-suc list p 0 (omega arith), among-append w (take p list) (entry_at list p ∷ [])) at a) (named-earlier p w (omega arith))
    where
      go : (s : Bool) → among w (take p list) ≡ s → (t : Bool) → eqb w (entry_at list p) ≡ t → (s || (t || false)) ≡ true
          → (among w (take p list) ≡ true → Earlier list p w) → Earlier list (suc p) w
      go true e t q a earlier =
          let before = earlier e in
          record { position = before.position; before = omega (arith, before.before); names = before.names }
      go false e true q a earlier = record { position = p; before = omega arith; names = sym (eqb-true w (entry_at list p) q) }
      go false e false q a earlier = never (cc)

  pub earlier-named : (p : ℕ) → p ≤ length list → (w : ℕ) → Earlier list p w → among w (take p list) ≡ true
  unfolding among
  earlier-named zero l w h = absurd (omega (arith, h.before))
  earlier-named (suc p) l w h =
      rw (take-suc list p 0 (omega arith), among-append w (take p list) (entry_at list p ∷ []))
      (go (eqb h.position p) refl (earlier-named p (omega arith) w))
    where
      go : (t : Bool) → eqb h.position p ≡ t → (Earlier list p w → among w (take p list) ≡ true)
          → (among w (take p list) || (eqb w (entry_at list p) || false)) ≡ true
      go true e rest =
          let same : w ≡ entry_at list p = rw (eqb-true h.position p e) at (sym h.names) in
          rw (eq-eqb w (entry_at list p) same) (or-true (among w (take p list)))
      go false e rest =
          let earlier : h.position < p = omega (arith, h.before, eqb-false h.position p e) in
          rw (rest (record { position = h.position; before = earlier; names = h.names }))

-- a schedule has as many positions as the sheet has wires
pub schedule_counted : (sheet : Sheet) (list : List ℕ) → IsSchedule sheet list → length list ≡ wire_count sheet
schedule_counted sheet list h =
    let few = at_most (wire_count sheet) (length list) (entry_at list) h.wires h.once in
    let many = at_least (wire_count sheet) (length list) (entry_at list)
    (λ w l. let e = h.named w l in (e.position, e.before, e.names)) in
    omega arith

module _ (sheet : Sheet) (list : List ℕ) where
  pub passed_schedule : Passed sheet list → IsSchedule sheet list
  unfolding not_new too_early
  passed_schedule h =
      record { named = λ w l. named w l; once = λ p q l m e. once p q l m e; wires = λ p l. wires p l; ordered = λ p l. ordered p l }
    where
      here : {p : ℕ} → p < length list → p < wire_count sheet
      here l = omega (arith, h.counted)

      new : (p : ℕ) → p < length list
          → (not (ltb (entry_at list p) (wire_count sheet)) ≡ false) × (among (entry_at list p) (take p list) ≡ false)
      new p l = neither (not (ltb (entry_at list p) (wire_count sheet))) (among (entry_at list p) (take p list)) (h.new p (here l))

      wires : (p : ℕ) → p < length list → entry_at list p < wire_count sheet
      wires p l = ltb-true _ _ (not-false (ltb (entry_at list p) (wire_count sheet)) (new p l).0)

      once : (p q : ℕ) → p < q → q < length list → entry_at list p ≡ entry_at list q → ⊥
      once p q l m e =
          let named = earlier-named list q (omega arith) (entry_at list q) (record { position = p; before = l; names = e }) in
          never (cc (named, (new q m).1))

      named : (w : ℕ) → w < wire_count sheet → Earlier list (length list) w
      named w l =
          let (p, k, e) = each-met (wire_count sheet) (entry_at list) (λ i m. wires i (omega (arith, h.counted)))
          (λ i j m k e. once i j m (omega (arith, h.counted)) e) w l in
          record { position = p; before = omega (arith, h.counted); names = e }

      ordered : (p : ℕ) → p < length list → Every (Earlier list p) (reads_at sheet.expressions (entry_at list p))
      ordered p l =
          every-among (Earlier list p) (take p list) (λ w a. named-earlier list p w (omega arith) a)
          (reads_at sheet.expressions (entry_at list p))
          (not-false (all_among (reads_at sheet.expressions (entry_at list p)) (take p list)) (h.ordered p (here l)))

  pub schedule_passes : IsSchedule sheet list → Passed sheet list
  unfolding not_new too_early
  schedule_passes h = record { counted = counted; new = λ p l. new p l; ordered = λ p l. ordered p l }
    where
      counted : length list ≡ wire_count sheet
      counted = schedule_counted sheet list h

      here : {p : ℕ} → p < wire_count sheet → p < length list
      here l = omega (arith, counted)

      new : (p : ℕ) → p < wire_count sheet → not_new list (wire_count sheet) p ≡ false
      new p l =
          rw (lt-ltb (entry_at list p) (wire_count sheet) (h.wires p (here l))) (go (among (entry_at list p) (take p list)) refl)
        where
          go : (t : Bool) → among (entry_at list p) (take p list) ≡ t → t ≡ false
          go false e = refl
          go true e =
              let inside : p < length list = here l in
              let before = named-earlier list p (entry_at list p) (omega arith) e in
              absurd (h.once before.position p before.before inside before.names)

      ordered : (p : ℕ) → p < wire_count sheet → too_early list (reads_at sheet.expressions) p ≡ false
      ordered p l =
          let inside : p < length list = here l in
          rw (all_among_lem (take p list) (earlier-named list p (omega arith)) (reads_at sheet.expressions (entry_at list p))
          (h.ordered p inside))

module _ (sheet : Sheet) (inputs : List Datum) (memory : List Cell) where
  -- the pass visits the wires of the list
  pass-visits : (ws : List ℕ) (xs : List Value) → pass_from sheet inputs memory xs ws ≡ visits (round sheet inputs memory) ws xs
  unfolding pass_from visits visit
  pass-visits [] xs = refl
  pass-visits (w ∷ ws) xs =
      rw (← round-at sheet inputs memory xs w) (pass-visits ws (set xs w (value_at (round sheet inputs memory xs) w)))

  module _ (list : List ℕ) (passed : Passed sheet list) where
    open passed use {counted, new, ordered}

    pub pass-full-of : Full (wire_count sheet) (pass sheet inputs memory list)
    unfolding pass
    pass-full-of =
        subst (Full (wire_count sheet)) (sym (pass-visits list (all_unknown (wire_count sheet))))
        (pass-full (wire_count sheet) (round sheet inputs memory) (round_monotone sheet inputs memory) (reads_at sheet.expressions)
        (round-known sheet inputs memory) list counted new ordered)

    pub pass-finished : pass sheet inputs memory list ≡ finished sheet inputs memory
    unfolding pass finished
    pass-finished =
        pass-visits list (all_unknown (wire_count sheet))
        ∙ pass_finishes (wire_count sheet) (round sheet inputs memory) (round_monotone sheet inputs memory)
        (reads_at sheet.expressions) (round-known sheet inputs memory) list counted new ordered
