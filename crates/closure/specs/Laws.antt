-- The test `through` tells the closure of a relation with which only wires below n begin, and `lowest_loop` its lowest loop; and where each
-- wire of some kind below n is related to one of that kind, one of them leads to itself.
use Rattle.std.specs.Prelude.{◌≡◌, refl, false, ◌&&◌, ◌⊎◌, ltb}
use Rattle.std.proofs.Common.{sym, subst, ◌∙◌, arith, ltb-true, ltb-false}
use Prim.Native.Nat.{ℕ, zero, suc, ◌≤◌, ◌<◌, zero-le}
use Rattle.std.proofs.Math.Bool.{Bool, true, or-true, true≢false}
use Rattle.std.proofs.Math.Logic.{inl, inr}
use Rattle.sheet.specs.Outcomes.{lowest}
use Rattle.sheet.specs.Laws.Lists.{both, either}
use Rattle.sheet.specs.Laws.Lowest.{lowest-found, lowest-first, lowest-below}
use Rattle.closure.specs.Closures.{Closure, one, ◌then◌, Tells, through, lowest_loop, LowestLoop}

pub join : {R : ℕ → ℕ → Type 0} {u v w : ℕ} → Closure R u v → Closure R v w → Closure R u w
join (one r) d = r then d
join (r then c) d = r then join c d

equal-or-less : (a b : ℕ) → a ≤ b → (a ≡ b) ⊎ (a < b)
equal-or-less a b l = go (ltb a b) refl
  where
    go : (t : Bool) → ltb a b ≡ t → (a ≡ b) ⊎ (a < b)
    go true e = inr (ltb-true a b e)
    go false e = inl (omega (arith, ltb-false a b e))

module _ (test : ℕ → ℕ → Bool) where
  -- with one more wire let in between
  abbrev Wider : ℕ → ℕ → ℕ → Type 0
  Wider k v w = (through test k v w ≡ true) ⊎ ((through test k v k ≡ true) × (through test k k w ≡ true))

  opened : (k v w : ℕ) → through test (suc k) v w ≡ true → Wider k v w
  unfolding through
  opened k v w e = go (either (through test k v w) (through test k v k && through test k k w) e)
    where
      go : (through test k v w ≡ true) ⊎ ((through test k v k && through test k k w) ≡ true) → Wider k v w
      go (inl p) = inl p
      go (inr p) = inr (both (through test k v k) (through test k k w) p)

  closed : (k v w : ℕ) → Wider k v w → through test (suc k) v w ≡ true
  unfolding through
  closed k v w (inl p) = rw p
  closed k v w (inr (p, q)) = rw (p, q) (or-true (through test k v w))

  at_once : (k v w : ℕ) → test v w ≡ true → through test k v w ≡ true
  unfolding through
  at_once zero v w e = e
  at_once (suc k) v w e = closed k v w (inl (at_once k v w e))

  -- a wire that is let in joins what leads to it and what it leads to
  by_way : (k u v w : ℕ) → v < k → through test k u v ≡ true → through test k v w ≡ true → through test k u w ≡ true
  by_way zero u v w l p q = absurd (omega arith)
  by_way (suc k) u v w l p q = closed k u w (go (equal-or-less v k (omega arith)) (by_way k) (opened k u v p) (opened k v w q))
    where
      there : v ≡ k → Wider k u v → through test k u k ≡ true
      there e (inl p) = rw e at p
      there e (inr (p, q)) = p

      onward : v ≡ k → Wider k v w → through test k k w ≡ true
      onward e (inl p) = rw e at p
      onward e (inr (p, q)) = q

      go : (v ≡ k) ⊎ (v < k)
          → ((u v w : ℕ) → v < k → through test k u v ≡ true → through test k v w ≡ true → through test k u w ≡ true)
          → Wider k u v → Wider k v w → Wider k u w
      go (inl e) below p q = inr (there e p, onward e q)
      go (inr l) below (inl p) (inl q) = inl (below u v w l p q)
      go (inr l) below (inl p) (inr (q, r)) = inr (below u v k l p q, r)
      go (inr l) below (inr (p, q)) (inl r) = inr (p, below k v w l q r)
      go (inr l) below (inr (p, q)) (inr (r, s)) = inr (p, s)

module _ {R : ℕ → ℕ → Type 0} {test : ℕ → ℕ → Bool} (tells : Tells test R) where
  pub through-leads : (k v w : ℕ) → through test k v w ≡ true → Closure R v w
  unfolding through
  through-leads zero v w e = one (tells.says v w e)
  through-leads (suc k) v w e = go (through-leads k) (opened test k v w e)
    where
      go : ((v w : ℕ) → through test k v w ≡ true → Closure R v w) → Wider test k v w → Closure R v w
      go leads (inl p) = leads v w p
      go leads (inr (p, q)) = join (leads v k p) (leads k w q)

  -- Only wires below n lead anywhere.
  module _ (n : ℕ) (from : (v w : ℕ) → R v w → v < n) where
    pub leads-from : {v w : ℕ} → Closure R v w → v < n
    leads-from (one {v} {w} r) = from v w r
    leads-from (◌then◌ {u} {v} r c) = from u v r

    pub leads-through : {v w : ℕ} → Closure R v w → through test n v w ≡ true
    leads-through (one {v} {w} r) = at_once test n v w (tells.said v w r)
    leads-through (◌then◌ {u} {v} {w} r c) =
        by_way test n u v w (leads-from c) (at_once test n u v (tells.said u v r)) (leads-through c)

    -- where a wire leads to itself, the lowest such wire is found, and what is found is that
    pub finds-loop : (w : ℕ) → Closure R w w → lowest_loop test n < n
    unfolding lowest_loop
    finds-loop w c = lowest-below (λ x. through test n x x) n w (leads-from c) (leads-through c)

    pub found-lowest : lowest_loop test n < n → LowestLoop R n (lowest_loop test n)
    unfolding lowest_loop
    found-lowest l =
        let loops : ℕ → Bool = λ x. through test n x x in
        record {
          in_range = l;
          loops = through-leads n (lowest loops n) (lowest loops n) (lowest-found loops n l);
          lower = λ w m c. true≢false (sym (leads-through c) ∙ lowest-first loops n w m);
        }

-- P is a kind of wires below n, each related to one of the kind.
module _ {R : ℕ → ℕ → Type 0} {P : ℕ → Type 0} (n : ℕ) (below : (v : ℕ) → P v → v < n)
    (follows : (v : ℕ) → P v → (w : ℕ) × R v w × P w) where
  pub record Loop : Type 0 where
    pub wire : ℕ
    pub kind : P wire
    pub leads : Closure R wire wire

  -- v leads to a wire of the kind that is not below k
  record Above (k v : ℕ) : Type 0 where
    wire : ℕ
    above : k ≤ wire
    kind : P wire
    leads : Closure R v wire

  -- ... and that is k, or above k
  further : (k v : ℕ) → Above k v → (P k × Closure R v k) ⊎ Above (suc k) v
  further k v a = go (equal-or-less k a.wire a.above)
    where
      go : (k ≡ a.wire) ⊎ (k < a.wire) → (P k × Closure R v k) ⊎ Above (suc k) v
      go (inl e) = inl (subst P (sym e) a.kind, subst (Closure R v) (sym e) a.leads)
      go (inr l) = inr (record { wire = a.wire; above = l; kind = a.kind; leads = a.leads })

  rises : (k v : ℕ) → P v → Loop ⊎ Above k v
  rises zero v p = let (w, r, q) = follows v p in inr (record { wire = w; above = zero-le; kind = q; leads = one r })
  rises (suc k) v p = go (rises k v p) (rises k k)
    where
      onward : Closure R v k → (P k × Closure R k k) ⊎ Above (suc k) k → Loop ⊎ Above (suc k) v
      onward c (inl (p, d)) = inl (record { wire = k; kind = p; leads = d })
      onward c (inr a) = inr (record { wire = a.wire; above = a.above; kind = a.kind; leads = join c a.leads })

      again : Closure R v k → Loop ⊎ Above k k → Loop ⊎ Above (suc k) v
      again c (inl loop) = inl loop
      again c (inr a) = onward c (further k k a)

      from : (P k → Loop ⊎ Above k k) → (P k × Closure R v k) ⊎ Above (suc k) v → Loop ⊎ Above (suc k) v
      from more (inl (p, c)) = again c (more p)
      from more (inr a) = inr a

      go : Loop ⊎ Above k v → (P k → Loop ⊎ Above k k) → Loop ⊎ Above (suc k) v
      go (inl loop) more = inl loop
      go (inr a) more = from more (further k v a)

  pub some-loop : (v : ℕ) → P v → Loop
  some-loop v p = go (rises n v p)
    where
      go : Loop ⊎ Above n v → Loop
      go (inl loop) = loop
      go (inr a) = let l = below a.wire a.kind in let m = a.above in absurd (omega arith)
