-- One pass along a list of all wires, each after those that it reads, leaves no wire unknown and ends in the least solution.
use Rattle.std.specs.Prelude.{◌≡◌, Bool, false, not, ◌||◌, List, [], ◌∷◌, ◌++◌, ltb, length, take}
use Rattle.std.proofs.Math.Path.{refl}
use Rattle.std.proofs.Common.{subst, ◌∙◌, arith, take_all}
use Prim.Native.Nat.{ℕ, zero, suc, ◌<◌, ◌≤◌}
use Rattle.std.proofs.Math.Bool.{true}
use Rattle.std.proofs.Math.Dec.{eqb}
use Rattle.std.proofs.lemmas.List.{length-replicate}
use Rattle.std.proofs.Math.Seq.{take-suc}
use borrow.Author.Tests.{eqb-true, eqb-false, ltb-true, not-false}
use Rattle.kernel.specs.Values.{IsKnown}
use Rattle.kernel.specs.Order.{value_at, all_unknown, known_count}
use Rattle.sheet.specs.Lists.{among, all_among, Every}
use Rattle.kernel.specs.Systems.{Full, Monotone, visit, visits, finished}
use Rattle.kernel.specs.Schedules.{entry_at, not_new, too_early}
use Rattle.sheet.specs.Laws.Lists.{never, neither, among-append, every-among}
use Rattle.kernel.proofs.Laws.Order.{full-same, unknown-at}
use Rattle.kernel.proofs.Laws.Counting.{count-unknown, count-full, count_set}
use Rattle.kernel.proofs.Laws.Rounds.{finished-length}
use Rattle.kernel.proofs.Laws.Visits.{visits-length, visits-append, visited, not-visited, visits_safe}
use Rattle.kernel.specs.declared.Value.{Value}
use Rattle.kernel.specs.declared.Value.TheVariants.{Unknown}

-- the wires of the list are known, and no others
record KnownAre (ws : List ℕ) (xs : List Value) : Type 0 where
  inside : (x : ℕ) → among x ws ≡ true → IsKnown (value_at xs x)
  outside : (x : ℕ) → among x ws ≡ false → value_at xs x ≡ Unknown

none-known : (n : ℕ) → KnownAre [] (all_unknown n)
unfolding among
none-known n = record { inside = λ x e. never (cc); outside = λ x e. unknown-at n x }

-- `reads_of` names for each wire the wires that it needs: its next value is known where theirs are.
module _ (n : ℕ) (next : List Value → List Value) (system : Monotone n next) (reads_of : ℕ → List ℕ)
    (determined : (w : ℕ) → w < n → (xs : List Value) → Every (λ x. IsKnown (value_at xs x)) (reads_of w)
    → IsKnown (value_at (next xs) w)) where
  visit-knows : (w : ℕ) (before : List ℕ) (xs : List Value) → length xs ≡ n → KnownAre before xs → IsKnown (value_at (next xs) w)
      → KnownAre (before ++ (w ∷ [])) (visit next w xs)
  unfolding among
  visit-knows w before xs l is now =
      record {
        inside = λ x a. inside x (among x before) refl (eqb x w) refl (rw (among-append x before (w ∷ [])) at a);
        outside = λ x a. outside x (among x before) refl (eqb x w) refl (rw (among-append x before (w ∷ [])) at a);
      }
    where
      here : (x : ℕ) → eqb x w ≡ true → value_at (visit next w xs) x ≡ value_at (next xs) w
      here x e = let s : x ≡ w = eqb-true x w e in rw s (visited n next system w xs l)

      elsewhere : (x : ℕ) → eqb x w ≡ false → value_at (visit next w xs) x ≡ value_at xs x
      elsewhere x e = not-visited n next system w x xs (eqb-false x w e)

      inside : (x : ℕ) (s : Bool) → among x before ≡ s → (t : Bool) → eqb x w ≡ t → (s || (t || false)) ≡ true
          → IsKnown (value_at (visit next w xs) x)
      inside x s p true e a = rw (here x e) now
      inside x true p false e a = rw (elsewhere x e) (is.inside x p)
      inside x false p false e a = never (cc)

      outside : (x : ℕ) (s : Bool) → among x before ≡ s → (t : Bool) → eqb x w ≡ t → (s || (t || false)) ≡ false
          → value_at (visit next w xs) x ≡ Unknown
      outside x true p t e a = never (cc)
      outside x false p true e a = never (cc)
      outside x false p false e a = elsewhere x e ∙ is.outside x p

  module _ (ws : List ℕ) (all : length ws ≡ n) (new : (p : ℕ) → p < n → not_new ws n p ≡ false)
      (ordered : (p : ℕ) → p < n → too_early ws reads_of p ≡ false) where
    abbrev up_to : ℕ → List Value
    up_to p = visits next (take p ws) (all_unknown n)

    sized-up_to : (p : ℕ) → length (up_to p) ≡ n
    sized-up_to p = visits-length next (take p ws) (all_unknown n) ∙ length-replicate n Unknown

    one_more : (p : ℕ) → p < n → up_to (suc p) ≡ visit next (entry_at ws p) (up_to p)
    unfolding visits
    one_more p l = rw (take-suc ws p 0 (omega arith), visits-append next (take p ws) (entry_at ws p ∷ []) (all_unknown n))

    -- each position makes its wire known, and so one wire more
    record Known (p : ℕ) : Type 0 where
      are : KnownAre (take p ws) (up_to p)
      count : known_count (up_to p) ≡ p

    pass-counts : (p : ℕ) → p ≤ n → Known p
    unfolding visits visit not_new too_early
    pass-counts zero l = record { are = none-known n; count = count-unknown n }
    pass-counts (suc p) l = go (pass-counts p (omega arith))
      where
        go : Known p → Known (suc p)
        go before =
            let w = entry_at ws p in
            let (in_range, fresh) = neither (not (ltb w n)) (among w (take p ws)) (new p l) in
            let k : w < n = ltb-true w n (not-false (ltb w n) in_range) in
            let needs = not-false (all_among (reads_of w) (take p ws)) (ordered p l) in
            let known = every-among (λ x. IsKnown (value_at (up_to p) x)) (take p ws) before.are.inside (reads_of w) needs in
            let now = determined w k (up_to p) known in
            let size = sized-up_to p in
            let one = count_set (up_to p) w (value_at (next (up_to p)) w) (omega arith) (before.are.outside w fresh) now in
            record {
              are = rw (one_more p l, take-suc ws p 0 (omega arith)) (visit-knows w (take p ws) (up_to p) size before.are now);
              count = rw (one_more p l) (omega (arith, one, before.count));
            }

    whole : up_to n ≡ visits next ws (all_unknown n)
    whole = rw (take_all n ws (omega arith))

    pub pass-full : Full n (visits next ws (all_unknown n))
    pass-full =
        let l = sized-up_to n in
        let c = (pass-counts n (omega arith)).count in
        rw whole at (subst (λ (m : ℕ). Full m (up_to n)) l (count-full (up_to n) (omega arith)))

    pub pass_finishes : visits next ws (all_unknown n) ≡ finished n next
    pass_finishes =
        full-same n (visits next ws (all_unknown n)) (finished n next)
        (visits-length next ws (all_unknown n) ∙ length-replicate n Unknown)
        (finished-length n next system) pass-full (visits_safe n next system ws)
