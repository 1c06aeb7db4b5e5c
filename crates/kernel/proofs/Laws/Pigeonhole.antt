-- Numbers below n that are all different are at most n, and where there are n of them each number below n is met.
use Rattle.std.specs.Prelude.{◌≡◌, refl, ◌⊎◌, Bool, true, false, cond, ℕ, zero, suc, ◌≤◌, ◌<◌, eqb, ltb}
use Rattle.std.proofs.Common.{sym, ap, ◌∙◌, inl, inr, zero-le, arith, eqb-true, eq-eqb, ltb-true, lt-ltb}
use Rattle.std.proofs.lemmas.Bool.{eqb-false}
use Rattle.sheet.specs.Outcomes.{lowest}
use Rattle.sheet.specs.Laws.Lowest.{lowest-below, lowest-passes}

-- the numbers f i of the i below m are below n
abbrev Below : (n m : ℕ) → (ℕ → ℕ) → Type 0
Below n m f = (i : ℕ) → i < m → f i < n

-- and no two of them are the same
abbrev Apart : (m : ℕ) → (ℕ → ℕ) → Type 0
Apart m f = (i j : ℕ) → i < j → j < m → f i ≡ f j → ⊥

pub at_most : (n m : ℕ) (f : ℕ → ℕ) → Below n m f → Apart m f → m ≤ n
at_most n zero f below apart = zero-le
at_most zero (suc m) f below apart = absurd (omega (arith, below 0 (omega arith)))
at_most (suc n) (suc m) f below apart = omega (arith, at_most n m g (λ i l. g-below i l) (λ i j l k e. g-apart i j l k e))
  where
    -- the last one stands in for the one that is n
    g : ℕ → ℕ
    g i = cond (eqb (f i) n) (f m) (f i)

    g-below : Below n m g
    g-below i l = go (eqb (f i) n) refl
      where
        go : (t : Bool) → eqb (f i) n ≡ t → cond t (f m) (f i) < n
        go true e =
            let other : f m ≡ n → ⊥ = λ q. apart i m l (omega arith) (eqb-true (f i) n e ∙ sym q) in
            omega (arith, below m (omega arith))
        go false e = omega (arith, below i (omega arith), eqb-false (f i) n e)

    g-apart : Apart m g
    g-apart i j l k = go (eqb (f i) n) refl (eqb (f j) n) refl
      where
        go : (t : Bool) → eqb (f i) n ≡ t → (u : Bool) → eqb (f j) n ≡ u → cond t (f m) (f i) ≡ cond u (f m) (f j) → ⊥
        go true e true d q = apart i j l (omega arith) (eqb-true (f i) n e ∙ sym (eqb-true (f j) n d))
        go true e false d q = apart j m k (omega arith) (sym q)
        go false e true d q = apart i m (omega arith) (omega arith) q
        go false e false d q = apart i j l (omega arith) q

-- w is met, or no number below m gives it
met-or-not : (f : ℕ → ℕ) (w m : ℕ) → ((p : ℕ) × (p < m) × (f p ≡ w)) ⊎ ((i : ℕ) → i < m → f i ≡ w → ⊥)
met-or-not f w zero = inr (λ i l e. absurd (omega arith))
met-or-not f w (suc m) = go (met-or-not f w m) (eqb (f m) w) refl
  where
    go : ((p : ℕ) × (p < m) × (f p ≡ w)) ⊎ ((i : ℕ) → i < m → f i ≡ w → ⊥) → (t : Bool) → eqb (f m) w ≡ t
        → ((p : ℕ) × (p < suc m) × (f p ≡ w)) ⊎ ((i : ℕ) → i < suc m → f i ≡ w → ⊥)
    go (inl found) t e = inl (found.0, omega (arith, found.1), found.2)
    go (inr none) true e = inl (m, omega arith, eqb-true (f m) w e)
    go (inr none) false e = inr (λ i l q. last i l q (eqb i m) refl)
      where
        last : (i : ℕ) → i < suc m → f i ≡ w → (t : Bool) → eqb i m ≡ t → ⊥
        last i l q true d = eqb-false (f m) w e (sym (ap f (eqb-true i m d)) ∙ q)
        last i l q false d = none i (omega (arith, eqb-false i m d)) q

pub each-met : (n : ℕ) (f : ℕ → ℕ) → Below n n f → Apart n f → (w : ℕ) → w < n → (p : ℕ) × (p < n) × (f p ≡ w)
each-met n f below apart w l = go (met-or-not f w n)
  where
    -- w itself, behind the n numbers
    g : ℕ → ℕ
    g i = cond (ltb i n) (f i) w

    go : ((p : ℕ) × (p < n) × (f p ≡ w)) ⊎ ((i : ℕ) → i < n → f i ≡ w → ⊥) → (p : ℕ) × (p < n) × (f p ≡ w)
    go (inl found) = found
    go (inr none) = absurd (omega (arith, at_most n (suc n) g (λ i k. g-below i k) (λ i j k m e. g-apart i j k m e)))
      where
        g-below : Below n (suc n) g
        g-below i k = by (ltb i n) refl
          where
            by : (t : Bool) → ltb i n ≡ t → cond t (f i) w < n
            by true e = below i (ltb-true i n e)
            by false e = l

        g-apart : Apart (suc n) g
        g-apart i j k m = by (ltb j n) refl
          where
            early : ltb i n ≡ true
            early = lt-ltb i n (omega arith)

            by : (t : Bool) → ltb j n ≡ t → g i ≡ cond t (f j) w → ⊥
            by true e q = apart i j k (ltb-true j n e) (rw early at q)
            by false e q = none i (omega arith) (rw early at q)

-- as many as the numbers that are met
pub at_least : (n m : ℕ) (f : ℕ → ℕ) → ((w : ℕ) → w < n → (p : ℕ) × (p < m) × (f p ≡ w)) → n ≤ m
at_least n m f met = at_most m n at (λ w l. inside w l) (λ v w l k e. apart v w l k e)
  where
    test : ℕ → ℕ → Bool
    test w p = eqb (f p) w

    at : ℕ → ℕ
    at w = lowest (test w) m

    inside : Below m n at
    inside w l = let (p, k, e) = met w l in lowest-below (test w) m p k (eq-eqb (f p) w e)

    gives : (w : ℕ) → w < n → f (at w) ≡ w
    gives w l = let (p, k, e) = met w l in eqb-true (f (at w)) w (lowest-passes (test w) m p (omega arith) (eq-eqb (f p) w e))

    apart : Apart n at
    apart v w l k e =
        let same : v ≡ w = sym (gives v (omega arith)) ∙ ap f e ∙ gives w k in
        omega arith
