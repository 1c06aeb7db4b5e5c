-- Visits to one wire of a monotone system at a time, in any order, stay below every solution; n sweeps reach the least one.
use Rattle.std.specs.Prelude.{◌≡◌, Bool, ◌||◌, set}
use Rattle.std.proofs.Math.Path.{refl, sym}
use Rattle.std.proofs.Common.{subst, ◌∙◌, length-set}
use Prim.Native.Nat.{ℕ, suc, ◌+◌, ◌≤◌}
use native.Mathlib.Omega.{arith}
use Rattle.std.proofs.Math.Bool.{true, false}
use mathlib.Core.List.{List, [], ◌∷◌, ◌++◌}
use Rattle.std.proofs.Math.Dec.{eqb, ltb}
use Rattle.std.proofs.Math.ListN.{length, length-replicate, get_or-eq_default}
use Rattle.std.proofs.Math.Seq.{get_or-set_same, get_or-set_other, set_out}
use borrow.Author.Tests.{eqb-true, eqb-false, ltb-true, ltb-false}
use Rattle.kernel.specs.Values.{IsKnown}
use Rattle.kernel.specs.Order.{◌⊑◌, unknown, same, ◌⊑*◌, value_at, all_unknown}
use Rattle.sheet.specs.Lists.{among, Every, none, ◌and◌}
use Rattle.kernel.specs.Systems.{Monotone, Covers, Solution, visit, visits, sweeps, after, finished}
use Rattle.sheet.specs.Laws.Lists.{never}
use Rattle.kernel.proofs.Laws.Order.{⊑_trans, ⊑-of-≡, ⊑*-trans, ⊑*-antisym, known_same, all_unknown-below}
use Rattle.kernel.proofs.Laws.Rounds as Rounds
use Rattle.kernel.specs.declared.Value.{Value}
use Rattle.kernel.specs.declared.Value.TheVariants.{Unknown}

pub visits-length : (next : List Value → List Value) (ws : List ℕ) (xs : List Value) → length (visits next ws xs) ≡ length xs
unfolding visits visit
visits-length next [] xs = refl
visits-length next (w ∷ ws) xs = visits-length next ws (visit next w xs) ∙ length-set xs w (value_at (next xs) w)

pub visits-append : (next : List Value → List Value) (vs ws : List ℕ) (xs : List Value)
    → visits next (vs ++ ws) xs ≡ visits next ws (visits next vs xs)
unfolding visits
visits-append next [] ws xs = refl
visits-append next (v ∷ vs) ws xs = visits-append next vs ws (visit next v xs)

module _ (n : ℕ) (next : List Value → List Value) (system : Monotone n next) where
  open system use {sized, grows}

  -- the visited wire has its value of the next round
  pub visited : (w : ℕ) (xs : List Value) → length xs ≡ n → value_at (visit next w xs) w ≡ value_at (next xs) w
  unfolding visit
  visited w xs l = go (ltb w n) refl
    where
      go : (t : Bool) → ltb w n ≡ t → value_at (set xs w (value_at (next xs) w)) w ≡ value_at (next xs) w
      go true e = get_or-set_same xs w (value_at (next xs) w) Unknown (omega (arith, ltb-true w n e))
      go false e =
          let short : length xs ≤ w = omega (arith, ltb-false w n e) in
          let past : length (next xs) ≤ w = omega (arith, ltb-false w n e, sized xs) in
          rw (set_out xs w (value_at (next xs) w) short)
          (get_or-eq_default xs Unknown short ∙ sym (get_or-eq_default (next xs) Unknown past))

  pub not-visited : (w x : ℕ) (xs : List Value) → (x ≡ w → ⊥) → value_at (visit next w xs) x ≡ value_at xs x
  unfolding visit
  not-visited w x xs h = get_or-set_other xs w x (value_at (next xs) w) Unknown h

  -- after a visit every wire has its value of the next round, or its value before
  either : (P : Value → Type 0) (w x : ℕ) (xs : List Value) → length xs ≡ n
      → P (value_at (next xs) x) → P (value_at xs x) → P (value_at (visit next w xs) x)
  either P w x xs l p q = go (eqb x w) refl
    where
      go : (t : Bool) → eqb x w ≡ t → P (value_at (visit next w xs) x)
      go true e =
          let s : x ≡ w = eqb-true x w e in
          subst P (sym (subst (λ (y : ℕ). value_at (visit next w xs) y ≡ value_at (next xs) y) (sym s) (visited w xs l))) p
      go false e = subst P (sym (not-visited w x xs (eqb-false x w e))) q

  -- a solution above the values stays above them
  pub visits-below : (s : List Value) → Solution next s → (ws : List ℕ) (xs : List Value) → length xs ≡ n → xs ⊑* s
      → visits next ws xs ⊑* s
  unfolding visits Solution
  visits-below s e [] xs l h = h
  visits-below s e (w ∷ ws) xs l h =
      let up : next xs ⊑* s = rw e at (grows xs s h) in
      visits-below s e ws (visit next w xs) (visits-length next (w ∷ []) xs ∙ l)
      (record { at = λ x. either (λ v. v ⊑ value_at s x) w x xs l (up.at x) (h.at x) })

  -- Values below their own round grow by a visit, and stay below their own round.
  module _ (w : ℕ) (xs : List Value) (l : length xs ≡ n) (h : xs ⊑* next xs) where
    pub visit-grows : xs ⊑* visit next w xs
    visit-grows = record { at = λ x. either (λ v. value_at xs x ⊑ v) w x xs l (h.at x) same }

    pub visit-ascends : visit next w xs ⊑* next (visit next w xs)
    visit-ascends =
        ⊑*-trans (record { at = λ x. either (λ v. v ⊑ value_at (next xs) x) w x xs l same (h.at x) })
        (grows xs (visit next w xs) visit-grows)

  pub visits_ascend : (ws : List ℕ) (xs : List Value) → length xs ≡ n → xs ⊑* next xs
      → (xs ⊑* visits next ws xs) × (visits next ws xs ⊑* next (visits next ws xs))
  unfolding visits
  visits_ascend [] xs l h = (record { at = λ x. same }, h)
  visits_ascend (w ∷ ws) xs l h =
      let (grow, ascend) = visits_ascend ws (visit next w xs) (visits-length next (w ∷ []) xs ∙ l) (visit-ascends w xs l h) in
      (⊑*-trans (visit-grows w xs l h) grow, ascend)

  -- a wire that was visited has at least its value of the round that could have been made at first
  pub visits-reach : (ws : List ℕ) (xs : List Value) → length xs ≡ n → xs ⊑* next xs → (x : ℕ) → among x ws ≡ true
      → value_at (next xs) x ⊑ value_at (visits next ws xs) x
  unfolding visits among
  visits-reach [] xs l h x a = never (cc)
  visits-reach (w ∷ ws) xs l h x a =
      let ys = visit next w xs in
      let k : length ys ≡ n = visits-length next (w ∷ []) xs ∙ l in
      let up = visit-ascends w xs l h in
      go (eqb x w) refl a ((visits_ascend ws ys k up).0.at x) (visits-reach ws ys k up x)
    where
      go : (t : Bool) → eqb x w ≡ t → (t || among x ws) ≡ true
          → value_at (visit next w xs) x ⊑ value_at (visits next ws (visit next w xs)) x
          → (among x ws ≡ true → value_at (next (visit next w xs)) x ⊑ value_at (visits next ws (visit next w xs)) x)
          → value_at (next xs) x ⊑ value_at (visits next ws (visit next w xs)) x
      go true e a now later =
          let s : w ≡ x = sym (eqb-true x w e) in
          ⊑_trans (⊑-of-≡ (sym (subst (λ (y : ℕ). value_at (visit next w xs) y ≡ value_at (next xs) y) s (visited w xs l)))) now
      go false e a now later = ⊑_trans ((grows xs (visit next w xs) (visit-grows w xs l h)).at x) (later a)

  -- a sweep does at least what a round does
  pub sweep_reaches : (ws : List ℕ) → Covers n ws → (xs : List Value) → length xs ≡ n → xs ⊑* next xs → next xs ⊑* visits next ws xs
  unfolding Covers
  sweep_reaches ws covers xs l h = record { at = λ x. go x (ltb x n) refl }
    where
      go : (x : ℕ) (t : Bool) → ltb x n ≡ t → value_at (next xs) x ⊑ value_at (visits next ws xs) x
      go x true e = visits-reach ws xs l h x (covers x (ltb-true x n e))
      go x false e =
          let past : length (next xs) ≤ x = omega (arith, ltb-false x n e, sized xs) in
          rw (get_or-eq_default (next xs) Unknown past) unknown

  sweeps-length : (sw : List (List ℕ)) (xs : List Value) → length xs ≡ n → length (sweeps next sw xs) ≡ n
  unfolding sweeps
  sweeps-length [] xs l = l
  sweeps-length (ws ∷ sw) xs l = sweeps-length sw (visits next ws xs) (visits-length next ws xs ∙ l)

  sweeps-below : (s : List Value) → Solution next s → (sw : List (List ℕ)) (xs : List Value) → length xs ≡ n → xs ⊑* s
      → sweeps next sw xs ⊑* s
  unfolding sweeps
  sweeps-below s e [] xs l h = h
  sweeps-below s e (ws ∷ sw) xs l h =
      sweeps-below s e sw (visits next ws xs) (visits-length next ws xs ∙ l) (visits-below s e ws xs l h)

  -- k rounds and then as many sweeps as the list has
  sweeps-reach : (sw : List (List ℕ)) → Every (Covers n) sw → (k : ℕ) (xs : List Value) → length xs ≡ n → xs ⊑* next xs
      → after n next k ⊑* xs → after n next (k + length sw) ⊑* sweeps next sw xs
  unfolding sweeps after
  sweeps-reach [] none k xs l h up = let e : k + 0 ≡ k = omega arith in rw e up
  sweeps-reach (ws ∷ sw) (covers and all) k xs l h up =
      let e : k + suc (length sw) ≡ suc k + length sw = omega arith in
      let over = ⊑*-trans (grows (after n next k) xs up) (sweep_reaches ws covers xs l h) in
      let ascend = (visits_ascend ws xs l h).1 in
      rw e (sweeps-reach sw all (suc k) (visits next ws xs) (visits-length next ws xs ∙ l) ascend over)

  -- From all unknown.
  pub visits_safe : (ws : List ℕ) → visits next ws (all_unknown n) ⊑* finished n next
  visits_safe ws =
      visits-below (finished n next) (Rounds.finished_solution n next system) ws (all_unknown n) (length-replicate n Unknown)
      (all_unknown-below n (finished n next))

  pub visits-right : (ws : List ℕ) (w : ℕ) → IsKnown (value_at (visits next ws (all_unknown n)) w)
      → value_at (visits next ws (all_unknown n)) w ≡ value_at (finished n next) w
  visits-right ws w k = known_same k ((visits_safe ws).at w)

  pub sweeps-finish : (sw : List (List ℕ)) → n ≤ length sw → Every (Covers n) sw → sweeps next sw (all_unknown n) ≡ finished n next
  unfolding after
  sweeps-finish sw enough all =
      let l = length-replicate n Unknown in
      let e : 0 + length sw ≡ length sw = omega arith in
      let reach = sweeps-reach sw all 0 (all_unknown n) l (all_unknown-below n (next (all_unknown n))) (record { at = λ w. same }) in
      let full = Rounds.after-enough n next system (length sw) enough in
      ⊑*-antisym (sweeps next sw (all_unknown n)) (finished n next)
      (sweeps-length sw (all_unknown n) l ∙ sym (Rounds.finished-length n next system))
      (sweeps-below (finished n next) (Rounds.finished_solution n next system) sw (all_unknown n) l
      (all_unknown-below n (finished n next)))
      (rw (e, full) at reach)
