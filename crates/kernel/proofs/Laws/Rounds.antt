-- The rounds of a monotone system of n wires climb, stay below every solution, and stop within n + 1 at the least solution.
use Rattle.std.specs.Prelude.{◌≡◌, Bool, List, ◌⊎◌, ltb}
use Rattle.std.proofs.Math.Path.{refl, sym}
use Rattle.std.proofs.Common.{ap, ltb-true, ltb-false}
use Prim.Native.Nat.{ℕ, zero, suc, ◌≤◌, ◌<◌, zero-le}
use native.Mathlib.Omega.{arith}
use Rattle.std.proofs.Math.Bool.{true, false}
use Rattle.std.proofs.Math.Logic.{inl, inr}
use Rattle.std.proofs.Math.ListN.{length, length-replicate}
use Rattle.sheet.specs.Outcomes.{lowest}
use Rattle.kernel.specs.Order.{◌⊑*◌, known_count}
use Rattle.kernel.specs.Equality.{same_values}
use Rattle.kernel.specs.Systems.{Full, Monotone, Solution, LeastSolution, after, unchanged, rounds, finished}
use Rattle.sheet.specs.Laws.Lists.{never}
use Rattle.kernel.proofs.Laws.Order.{⊑*-antisym, all_unknown-below, full-same}
use Rattle.kernel.proofs.Laws.Equality.{values_true, values-refl}
use Rattle.kernel.proofs.Laws.Counting.{more-known, count-bound}
use Rattle.sheet.specs.Laws.Lowest.{lowest-bound, lowest-passes, lowest-first}
use Rattle.kernel.specs.declared.Value.{Value}
use Rattle.kernel.specs.declared.Value.TheVariants.{Unknown}

-- the r-th round is the first that changes nothing
pub record FirstUnchanged (n : ℕ) (next : List Value → List Value) (r : ℕ) : Type 0 where
  pub before : ℕ
  pub counted : r ≡ suc before
  pub unchanged : after n next before ≡ after n next r
  pub changed : (k : ℕ) → k < before → after n next k ≡ after n next (suc k) → ⊥

module _ (n : ℕ) (next : List Value → List Value) (system : Monotone n next) where
  open system use {sized, grows}

  pub after-length : (k : ℕ) → length (after n next k) ≡ n
  unfolding after
  after-length zero = length-replicate n Unknown
  after-length (suc k) = sized (after n next k)

  pub climbs : (j k : ℕ) → j ≤ k → after n next j ⊑* after n next k
  unfolding after
  climbs zero k h = all_unknown-below n (after n next k)
  climbs (suc j) zero h = absurd (omega arith)
  climbs (suc j) (suc k) h = grows (after n next j) (after n next k) (climbs j k (omega arith))

  pub below_solutions : (s : List Value) → Solution next s → (k : ℕ) → after n next k ⊑* s
  unfolding after Solution
  below_solutions s e zero = all_unknown-below n s
  below_solutions s e (suc k) = rw e at (grows (after n next k) s (below_solutions s e k))

  -- a round either was the same as the one before it, or knows at least as many wires as rounds were made
  stops-or-knows : (k : ℕ) → ((j : ℕ) × (j < k) × (unchanged n next j ≡ true)) ⊎ (k ≤ known_count (after n next k))
  unfolding unchanged
  stops-or-knows zero = inr zero-le
  stops-or-knows (suc k) = go (stops-or-knows k) (unchanged n next k) refl
    where
      go : ((j : ℕ) × (j < k) × (unchanged n next j ≡ true)) ⊎ (k ≤ known_count (after n next k))
          → (t : Bool) → unchanged n next k ≡ t
          → ((j : ℕ) × (j < suc k) × (unchanged n next j ≡ true)) ⊎ (suc k ≤ known_count (after n next (suc k)))
      go (inl s) t e = inl (s.0, omega (arith, s.1), s.2)
      go (inr h) true e = inl (k, omega arith, e)
      go (inr h) false e =
          let l : length (after n next k) ≡ length (after n next (suc k)) = rw (after-length k, after-length (suc k)) in
          let m = more-known (after n next k) (after n next (suc k)) l (climbs k (suc k) (omega arith)) e in
          inr (omega arith)

  stops : (j : ℕ) × (j ≤ n) × (unchanged n next j ≡ true)
  stops = go (stops-or-knows (suc n))
    where
      go : ((j : ℕ) × (j < suc n) × (unchanged n next j ≡ true)) ⊎ (suc n ≤ known_count (after n next (suc n)))
          → (j : ℕ) × (j ≤ n) × (unchanged n next j ≡ true)
      go (inl s) = (s.0, omega (arith, s.1), s.2)
      go (inr h) = absurd (omega (arith, count-bound (after n next (suc n)), after-length (suc n)))

  -- the least unchanged round: at most n + 1, unchanged, and none before it is
  pub rounds_bound : rounds n next ≤ suc n
  unfolding rounds
  rounds_bound = omega (arith, lowest-bound (unchanged n next) n)

  pub last-unchanged : (k : ℕ) → rounds n next ≡ suc k → after n next k ≡ finished n next
  unfolding rounds finished unchanged
  last-unchanged k e =
      let (j, l, u) = stops in
      let p = lowest-passes (unchanged n next) n j l u in
      let q : k ≡ lowest (unchanged n next) n = omega arith in
      rw q (values_true _ _ p)

  pub earlier-changed : (k : ℕ) → suc k < rounds n next → after n next k ≡ after n next (suc k) → ⊥
  unfolding rounds unchanged
  earlier-changed k l e =
      let f = lowest-first (unchanged n next) n k (omega arith) in
      let t : same_values (after n next k) (after n next (suc k)) ≡ true = rw e (values-refl (after n next (suc k))) in
      never (cc)

  pub rounds_first : FirstUnchanged n next (rounds n next)
  unfolding rounds finished
  rounds_first =
      let l = lowest (unchanged n next) n in
      record { before = l; counted = refl; unchanged = last-unchanged l refl; changed = λ k m. earlier-changed k (omega arith) }

  -- it is known by these two
  pub rounds_unique : (k : ℕ) → after n next k ≡ after n next (suc k)
      → ((j : ℕ) → j < k → after n next j ≡ after n next (suc j) → ⊥) → rounds n next ≡ suc k
  unfolding rounds finished
  rounds_unique k here before = go (ltb k l) refl (ltb l k) refl
    where
      l : ℕ
      l = lowest (unchanged n next) n

      go : (t : Bool) → ltb k l ≡ t → (u : Bool) → ltb l k ≡ u → suc l ≡ suc k
      go true e u f = absurd (earlier-changed k (omega (arith, ltb-true k l e)) here)
      go false e true f = absurd (before l (ltb-true l k f) (last-unchanged l refl))
      go false e false f = omega (arith, ltb-false k l e, ltb-false l k f)

  -- where no wire is left unknown, the next round changes nothing
  pub rounds_full : (k : ℕ) → Full n (after n next k) → rounds n next ≤ suc k
  rounds_full k full = go (ltb (suc k) (rounds n next)) refl
    where
      same : after n next k ≡ after n next (suc k)
      same =
          full-same n (after n next k) (after n next (suc k)) (after-length k) (after-length (suc k)) full
          (climbs k (suc k) (omega arith))

      go : (t : Bool) → ltb (suc k) (rounds n next) ≡ t → rounds n next ≤ suc k
      go false e = ltb-false (suc k) (rounds n next) e
      go true e = absurd (earlier-changed k (ltb-true (suc k) (rounds n next) e) same)

  -- the finished values are the least solution
  pub finished_solution : Solution next (finished n next)
  unfolding Solution finished rounds after
  finished_solution = sym (ap next (last-unchanged (lowest (unchanged n next) n) refl))

  pub finished-least : (s : List Value) → Solution next s → finished n next ⊑* s
  unfolding finished
  finished-least s e = below_solutions s e (rounds n next)

  pub finished-length : length (finished n next) ≡ n
  unfolding finished
  finished-length = after-length (rounds n next)

  -- and there is no other
  pub least-same : {s : List Value} → LeastSolution next s → s ≡ finished n next
  unfolding Solution
  least-same {s} h =
      let l : length s ≡ n = rw h.solves at (sized s) in
      ⊑*-antisym s (finished n next) (rw (l, finished-length)) (h.least (finished n next) finished_solution)
      (finished-least s h.solves)

  -- n rounds are enough
  pub after-enough : (k : ℕ) → n ≤ k → after n next k ≡ finished n next
  unfolding rounds
  after-enough k h =
      let l = lowest-bound (unchanged n next) n in
      let c = climbs (lowest (unchanged n next) n) k (omega arith) in
      ⊑*-antisym (after n next k) (finished n next) (rw (after-length k, finished-length))
      (below_solutions (finished n next) finished_solution k) (rw (last-unchanged (lowest (unchanged n next) n) refl) at c)

  -- where no wire is left unknown there is no other solution
  pub only_solution : Full n (finished n next) → (s : List Value) → Solution next s → s ≡ finished n next
  unfolding Solution
  only_solution full s e =
      let l : length s ≡ n = rw e at (sized s) in
      sym (full-same n (finished n next) s finished-length l full (finished-least s e))
