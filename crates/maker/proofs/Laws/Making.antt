-- The made list, position by position: where a wire is ready, the lowest that is; and where some wire is not yet placed and none is
-- ready, a wire reaches itself.
use Rattle.std.specs.Prelude.{◌≡◌, Bool, not, ltb, length}
use Rattle.std.proofs.Math.Path.{refl, sym}
use Rattle.std.proofs.Common.{ap, ◌∙◌, arith, take_all, get_or-take}
use Prim.Native.Nat.{ℕ, zero, suc, ◌≤◌, ◌<◌}
use Rattle.std.proofs.Math.Bool.{true, false}
use mathlib.Core.List.{List, []}
use Rattle.std.proofs.Math.Dec.{eqb}
use Rattle.std.proofs.Math.ListN.{take, get_or, length-append}
use Rattle.std.proofs.lemmas.List.{take-append-le}
use Rattle.std.proofs.Math.Seq.{get_or_at}
use borrow.Author.Tests.{eqb-true, eqb-false, ltb-true, not-true, not-false}
use Rattle.sheet.specs.Lists.{among, all_among}
use Rattle.sheet.specs.Outcomes.{lowest}
use Rattle.sheet.specs.Laws.Lists.{both, some-missing}
use Rattle.sheet.specs.Laws.Lowest.{lowest-found, lowest-first, lowest-none}
use Rattle.closure.specs.Closures.{Closure}
use Rattle.closure.specs.Laws.{some-loop}
use Rattle.kernel.specs.Schedules.{entry_at}
use Rattle.kernel.proofs.Laws.Schedules.{named-earlier}
use Rattle.kernel.proofs.Laws.Pigeonhole.{at_least}
use Rattle.maker.specs.Making.{ready, placed_by}

module _ (reads_of : ℕ → List ℕ) (n : ℕ) where
  pub placed-length : (p : ℕ) → length (placed_by reads_of n p) ≡ p
  unfolding placed_by
  placed-length zero = refl
  placed-length (suc p) = rw length-append (omega (arith, placed-length p))

  -- a later position leaves the earlier ones
  pub placed_first : (p q : ℕ) → p ≤ q → take p (placed_by reads_of n q) ≡ placed_by reads_of n p
  unfolding placed_by
  placed_first zero q l = refl
  placed_first (suc p) zero l = absurd (omega arith)
  placed_first (suc p) (suc q) l = go (eqb p q) refl (placed_first (suc p) q)
    where
      go : (t : Bool) → eqb p q ≡ t → (suc p ≤ q → take (suc p) (placed_by reads_of n q) ≡ placed_by reads_of n (suc p))
          → take (suc p) (placed_by reads_of n (suc q)) ≡ placed_by reads_of n (suc p)
      go true e rest =
          let s : p ≡ q = eqb-true p q e in
          let k = placed-length (suc q) in
          rw s (take_all (suc q) (placed_by reads_of n (suc q)) (omega arith))
      go false e rest =
          let m : suc p ≤ q = omega (arith, eqb-false p q e) in
          let k = placed-length q in
          rw (take-append-le (suc p) (placed_by reads_of n q) _ (omega arith)) (rest m)

  -- the wire that is put at position p
  abbrev pub put_at : ℕ → ℕ
  put_at p = lowest (ready reads_of (placed_by reads_of n p)) n

  pub placed_at : (p q : ℕ) → p < q → entry_at (placed_by reads_of n q) p ≡ put_at p
  unfolding placed_by
  placed_at p q l =
      sym (get_or-take (suc p) (placed_by reads_of n q) p 0 (omega arith))
      ∙ (ap (λ (xs : List ℕ). get_or xs p 0) (placed_first (suc p) q l)
      ∙ get_or_at (placed_by reads_of n p) (put_at p) [] 0 p (placed-length p))

  -- a wire is the lowest one ready after these
  pub record LowestReady (placed : List ℕ) (w : ℕ) : Type 0 where
    pub is_wire : w < n
    pub unplaced : among w placed ≡ false
    pub reads_placed : all_among (reads_of w) placed ≡ true
    pub lower : (x : ℕ) → x < w → ready reads_of placed x ≡ false

  pub lowest-ready : (placed : List ℕ) → lowest (ready reads_of placed) n < n → LowestReady placed (lowest (ready reads_of placed) n)
  unfolding ready
  lowest-ready placed l =
      let low = lowest (ready reads_of placed) n in
      let (new, all) = both (not (among low placed)) (all_among (reads_of low) placed) (lowest-found (ready reads_of placed) n l) in
      record {
        is_wire = l;
        unplaced = not-true (among low placed) new;
        reads_placed = all;
        lower = λ x k. lowest-first (ready reads_of placed) n x k;
      }

  -- the first m positions have a wire each
  abbrev pub Filled : ℕ → Type 0
  Filled m = (p : ℕ) → p < m → put_at p < n

  -- what is read is a wire
  module _ (below : (v w : ℕ) → among w (reads_of v) ≡ true → w < n) where
    abbrev Unplaced : List ℕ → ℕ → Type 0
    Unplaced placed w = (w < n) × (among w placed ≡ false)

    -- fewer positions than wires leave some wire out
    some_unplaced : (placed : List ℕ) → length placed < n → (w : ℕ) × Unplaced placed w
    some_unplaced placed few = go (ltb low n) refl
      where
        left : ℕ → Bool
        left w = not (among w placed)

        low : ℕ
        low = lowest left n

        go : (t : Bool) → ltb low n ≡ t → (w : ℕ) × Unplaced placed w
        go true e = let l = ltb-true low n e in (low, (l, not-true (among low placed) (lowest-found left n l)))
        go false e =
            absurd (omega (
              arith,
              at_least n (length placed) (entry_at placed) (λ w l.
                  let named = not-false (among w placed) (lowest-none left n e w l) in
                  let at = named-earlier placed (length placed) w (omega arith)
                  (rw (take_all (length placed) placed (omega arith)) named) in
                  (at.position, at.before, at.names)),
            ))

    pub stuck-loops : (placed : List ℕ) → length placed < n → ((w : ℕ) → w < n → ready reads_of placed w ≡ false)
        → (w : ℕ) × Closure (λ v w. among w (reads_of v) ≡ true) w w
    unfolding ready
    stuck-loops placed few none =
        let (v, p) = some_unplaced placed few in
        let loop = some-loop n (λ w (q : Unplaced placed w). q.0) (λ w (q : Unplaced placed w). follows w q) v p in
        (loop.wire, loop.leads)
      where
        follows : (v : ℕ) → Unplaced placed v → (w : ℕ) × (among w (reads_of v) ≡ true) × Unplaced placed w
        follows v (l, new) =
            let missing : all_among (reads_of v) placed ≡ false = rw new at (none v l) in
            let (w, read, unplaced) = some-missing (reads_of v) placed missing in
            (w, read, (below v w read, unplaced))

    -- where no wire reaches itself, every position is filled
    pub acyclic_filled : ((w : ℕ) → Closure (λ v w. among w (reads_of v) ≡ true) w w → ⊥) → Filled n
    acyclic_filled acyclic p l = go (ltb (put_at p) n) refl
      where
        go : (t : Bool) → ltb (put_at p) n ≡ t → put_at p < n
        go true e = ltb-true (put_at p) n e
        go false e =
            let k = placed-length p in
            let (w, leads) = stuck-loops (placed_by reads_of n p) (omega arith) (lowest-none (ready reads_of (placed_by reads_of n p)) n e) in
            absurd (acyclic w leads)
