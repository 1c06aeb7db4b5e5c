-- Of two monotone systems side by side: every round is their two rounds joined, so the finished values are theirs joined, the rounds
-- are the larger count, and no wire is left unknown exactly if none is in both.
use Rattle.std.specs.Prelude.{◌≡◌, refl, Bool, true, false, List, ◌++◌, ◌↔◌, ltb, length, take, drop}
use Rattle.std.proofs.Math.Path.{sym, ap}
use Rattle.std.proofs.Common.{ap₂, ◌∙◌, arith, get_or-append-add, take_at, drop_at, ltb-true, ltb-false}
use Prim.Native.Nat.{ℕ, zero, suc, ◌+◌, ◌≤◌, ◌<◌, ◌-◌, max}
use Rattle.std.proofs.lemmas.List.{replicate-append-replicate}
use Rattle.std.proofs.Math.ListN.{get_or-append}
use Rattle.kernel.specs.Values.{IsKnown}
use Rattle.kernel.specs.Order.{value_at}
use Rattle.kernel.specs.Systems.{Full, Monotone, after, rounds, finished}
use Rattle.kernel.proofs.Laws.Order.{⊑*-antisym}
use Rattle.kernel.proofs.Laws.Rounds.{after-length, climbs, below_solutions, earlier-changed, rounds_first, rounds_unique}
use Rattle.kernel.proofs.Laws.Rounds.{finished_solution, finished-length}
use Rattle.kernel.specs.declared.Value.{Value}
use Rattle.kernel.specs.declared.Value.TheVariants.{Unknown}

-- on n values and then m, `next` works each part out from its own
unfoldable pub SideBySide : (n m : ℕ) (first second next : List Value → List Value) → Type 0
SideBySide n m first second next = (xs ys : List Value) → length xs ≡ n → length ys ≡ m → next (xs ++ ys) ≡ first xs ++ second ys

-- from the last round on nothing changes
settled : (n : ℕ) (next : List Value → List Value) → Monotone n next → (k : ℕ) → rounds n next ≤ suc k → after n next k ≡ finished n next
unfolding finished
settled n next system k h =
    let last = rounds_first n next system in
    let c = climbs n next system last.before k (omega (arith, last.counted)) in
    ⊑*-antisym (after n next k) (finished n next) (after-length n next system k ∙ sym (finished-length n next system))
    (below_solutions n next system (finished n next) (finished_solution n next system) k)
    (rw last.unchanged at c)

module _ (n m : ℕ) (first second next : List Value → List Value)
    (system₁ : Monotone n first) (system₂ : Monotone m second) (system : Monotone (n + m) next)
    (side : SideBySide n m first second next) where
  pub after-joined : (k : ℕ) → after (n + m) next k ≡ after n first k ++ after m second k
  unfolding after SideBySide
  after-joined zero = sym (replicate-append-replicate n m Unknown)
  after-joined (suc k) =
      ap next (after-joined k)
      ∙ side (after n first k) (after m second k) (after-length n first system₁ k) (after-length m second system₂ k)

  -- a round that changes a part changes the whole
  changed : (j : ℕ) → suc j < max (rounds n first) (rounds m second) → after (n + m) next j ≡ after (n + m) next (suc j) → ⊥
  changed j l e = go (ltb (suc j) (rounds n first)) refl
    where
      same : after n first j ++ after m second j ≡ after n first (suc j) ++ after m second (suc j)
      same = sym (after-joined j) ∙ e ∙ after-joined (suc j)

      sized : (k : ℕ) → length (after n first k) ≡ n
      sized = after-length n first system₁

      same₁ : after n first j ≡ after n first (suc j)
      same₁ =
          sym (take_at (after n first j) (after m second j) n (sized j)) ∙ ap (take n) same
          ∙ take_at (after n first (suc j)) (after m second (suc j)) n (sized (suc j))

      same₂ : after m second j ≡ after m second (suc j)
      same₂ =
          sym (drop_at (after n first j) (after m second j) n (sized j)) ∙ ap (drop n) same
          ∙ drop_at (after n first (suc j)) (after m second (suc j)) n (sized (suc j))

      go : (t : Bool) → ltb (suc j) (rounds n first) ≡ t → ⊥
      go true p = earlier-changed n first system₁ j (ltb-true (suc j) (rounds n first) p) same₁
      go false p = earlier-changed m second system₂ j (omega (arith, ltb-false (suc j) (rounds n first) p)) same₂

  -- and where both have settled nothing changes
  settled-joined : (k : ℕ) → rounds n first ≤ suc k → rounds m second ≤ suc k
      → after (n + m) next k ≡ finished n first ++ finished m second
  settled-joined k l₁ l₂ = after-joined k ∙ ap₂ ◌++◌ (settled n first system₁ k l₁) (settled m second system₂ k l₂)

  pub rounds_joined : rounds (n + m) next ≡ max (rounds n first) (rounds m second)
  rounds_joined =
      let last₁ = rounds_first n first system₁ in
      let last₂ = rounds_first m second system₂ in
      let c₁ = last₁.counted in
      let c₂ = last₂.counted in
      let r = max last₁.before last₂.before in
      let here : after (n + m) next r ≡ after (n + m) next (suc r) =
      settled-joined r (omega arith) (omega arith) ∙ sym (settled-joined (suc r) (omega arith) (omega arith)) in
      let e = rounds_unique (n + m) next system r here (λ j l. changed j (omega arith)) in
      omega arith

  pub finished-joined : finished (n + m) next ≡ finished n first ++ finished m second
  unfolding finished
  finished-joined = rw rounds_joined (settled-joined _ (omega arith) (omega arith))

pub full-joined : (n m : ℕ) (xs ys : List Value) → length xs ≡ n → length ys ≡ m → Full (n + m) (xs ++ ys) ↔ (Full n xs × Full m ys)
unfolding Full
full-joined n m xs ys e₁ e₂ = (λ h. (λ w l. one h w l, λ w l. two h w l), λ h w l. both h w l (ltb w n) refl)
  where
    one : Full (n + m) (xs ++ ys) → (w : ℕ) → w < n → IsKnown (value_at xs w)
    one h w l = rw (get_or-append xs ys Unknown w (omega arith)) at (h w (omega arith))

    two : Full (n + m) (xs ++ ys) → (w : ℕ) → w < m → IsKnown (value_at ys w)
    two h w l = rw (get_or-append-add xs ys w Unknown) at (h (length xs + w) (omega arith))

    both : Full n xs × Full m ys → (w : ℕ) → w < n + m → (t : Bool) → ltb w n ≡ t → IsKnown (value_at (xs ++ ys) w)
    both h w l true p = rw (get_or-append xs ys Unknown w (omega (arith, ltb-true w n p))) (h.0 w (ltb-true w n p))
    both h w l false p =
        let over = ltb-false w n p in
        let e : w ≡ length xs + (w - n) = omega arith in
        rw e (rw (get_or-append-add xs ys (w - n) Unknown) (h.1 (w - n) (omega arith)))
