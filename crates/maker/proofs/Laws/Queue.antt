-- The queue of the wires that are still to be placed: a wire is looked at, the lowest of those that are ready is found, and it is placed.
use Rattle.std.specs.Prelude.{◌≡◌, ℕ, ◌≤◌, ◌<◌, Bool, not, ◌&&◌, ◌||◌, List, [], ◌∷◌, ◌++◌, ◌⊎◌, eqb, length, get_or, set}
use Rattle.std.proofs.Math.Path.{refl}
use Rattle.std.proofs.Common.{sym, ap, subst, ◌∙◌, arith, inr, ⊎_elim, get_or-set_same, get_or-set_other}
use Rattle.std.proofs.Math.Bool.{true, false, or-true, or-false}
use Rattle.std.proofs.Math.Logic.{inl}
use borrow.Author.Tests.{eqb-true, eqb-false, eq-eqb, ne_eqb, not-true}
use Rattle.wires.specs.Sets.{member, LowestPresent, LowestTaken}
use Rattle.sheet.specs.Lists.{among, all_among}
use Rattle.sheet.specs.Outcomes.{lowest}
use Rattle.sheet.specs.Laws.Lists.{never, both, either, neither, among-append, each-among, among-each}
use Rattle.sheet.specs.Laws.Lowest.{lowest-is}
use Rattle.maker.specs.Making.{ready}
use Rattle.maker.specs.Queue.{Unplaced, Awaits, Queue}

pub same-or-other : (x y : ℕ) → (x ≡ y) ⊎ (eqb x y ≡ false)
same-or-other x y = go (eqb x y) refl
  where
    go : (t : Bool) → eqb x y ≡ t → (x ≡ y) ⊎ (eqb x y ≡ false)
    go true e = inl (eqb-true x y e)
    go false e = inr e

pub among-one-more : (x w : ℕ) (list : List ℕ) → among x (list ++ (w ∷ [])) ≡ (among x list || eqb x w)
unfolding among
among-one-more x w list = rw (among-append x list (w ∷ []), or-false)

module _ (reads_of : ℕ → List ℕ) (n : ℕ) where
  -- the same wires are left, said otherwise
  pub queue_left : {list : List ℕ} {Left Rest : ℕ → Type 0} {bits : ℕ} {waiting : List ℕ} → ((x : ℕ) → Left x → Rest x)
      → ((x : ℕ) → Rest x → Left x) → Queue reads_of n list Left bits waiting → Queue reads_of n list Rest bits waiting
  queue_left {list} {Left} {Rest} {bits} {waiting} forth back q =
      record { left = λ x l. q.left x (back x l); is_ready = q.is_ready; waits = q.waits; each = λ x u. go x (q.each x u) }
    where
      go : (x : ℕ) → Left x ⊎ ((member bits x ≡ true) ⊎ Awaits reads_of n list waiting x)
          → Rest x ⊎ ((member bits x ≡ true) ⊎ Awaits reads_of n list waiting x)
      go x (inl l) = inl (forth x l)
      go x (inr other) = inr other

  -- no wire is placed, and none was looked at
  pub queue_first : {bits : ℕ} {waiting : List ℕ} → ((x : ℕ) → member bits x ≡ false)
      → ((v x : ℕ) → member (get_or waiting v 0) x ≡ true → ⊥) → Queue reads_of n [] (λ x. x < n) bits waiting
  unfolding among
  queue_first none nobody =
      record {
        left = λ x l. record { is_wire = l; new = refl };
        is_ready = λ x i. never (cc (none x, i));
        waits = λ v x new i. absurd (nobody v x i);
        each = λ x u. inl u.is_wire;
      }

  module _ {list : List ℕ} {Left : ℕ → Type 0} {bits : ℕ} {waiting : List ℕ} (q : Queue reads_of n list Left bits waiting)
      (wire : ℕ) (here : Left wire) where
    abbrev Others : ℕ → Type 0
    Others x = Left x × (x ≡ wire → ⊥)

    -- a wire that reads only what is placed is ready
    pub looked_ready : {more : ℕ} → all_among (reads_of wire) list ≡ true → ((x : ℕ) → member more x ≡ (member bits x || eqb x wire))
        → Queue reads_of n list Others more waiting
    looked_ready {more} all added =
        record { left = λ x l. q.left x l.0; is_ready = is_ready; waits = q.waits; each = λ x u. each x u (same-or-other x wire) }
      where
        is_ready : (x : ℕ) → member more x ≡ true → Unplaced reads_of n list x × (all_among (reads_of x) list ≡ true)
        is_ready x i =
            ⊎_elim (λ (old : member bits x ≡ true). q.is_ready x old)
            (λ (new : eqb x wire ≡ true). subst (λ y. Unplaced reads_of n list y × (all_among (reads_of y) list ≡ true))
            (sym (eqb-true x wire new)) (q.left wire here, all))
            (either (member bits x) (eqb x wire) (sym (added x) ∙ i))

        kept : (x : ℕ) → eqb x wire ≡ false → Left x ⊎ ((member bits x ≡ true) ⊎ Awaits reads_of n list waiting x)
            → Others x ⊎ ((member more x ≡ true) ⊎ Awaits reads_of n list waiting x)
        kept x other (inl l) = inl (l, eqb-false x wire other)
        kept x other (inr (inl i)) = inr (inl (rw (added x, i)))
        kept x other (inr (inr a)) = inr (inr a)

        each : (x : ℕ) → Unplaced reads_of n list x → (x ≡ wire) ⊎ (eqb x wire ≡ false)
            → Others x ⊎ ((member more x ≡ true) ⊎ Awaits reads_of n list waiting x)
        each x u (inl e) = inr (inl (rw (added x, eq-eqb x wire e) (or-true (member bits x))))
        each x u (inr other) = kept x other (q.each x u)

    -- and any other waits for one that is not
    pub looked_waits : (awaited row : ℕ) → awaited < length waiting → among awaited list ≡ false → among awaited (reads_of wire) ≡ true
        → ((x : ℕ) → member row x ≡ (member (get_or waiting awaited 0) x || eqb x wire))
        → Queue reads_of n list Others bits (set waiting awaited row)
    looked_waits awaited row room new read added =
        record {
          left = λ x l. q.left x l.0;
          is_ready = q.is_ready;
          waits = λ v x free i. waits v x free i (same-or-other v awaited);
          each = λ x u. each x u (same-or-other x wire);
        }
      where
        after : List ℕ
        after = set waiting awaited row

        same_row : (x : ℕ) → member (get_or after awaited 0) x ≡ (member (get_or waiting awaited 0) x || eqb x wire)
        same_row x = ap (λ b. member b x) (get_or-set_same waiting awaited row 0 room) ∙ added x

        other_row : (v x : ℕ) → eqb v awaited ≡ false → member (get_or after v 0) x ≡ member (get_or waiting v 0) x
        other_row v x other = ap (λ b. member b x) (get_or-set_other waiting awaited v row 0 (eqb-false v awaited other))

        waits : (v x : ℕ) → among v list ≡ false → member (get_or after v 0) x ≡ true → (v ≡ awaited) ⊎ (eqb v awaited ≡ false)
            → Unplaced reads_of n list x × (among v (reads_of x) ≡ true)
        waits v x free i (inr other) = q.waits v x free (sym (other_row v x other) ∙ i)
        waits v x free i (inl e) =
            ⊎_elim (λ (old : member (get_or waiting awaited 0) x ≡ true). rw e (q.waits awaited x new old))
            (λ (it : eqb x wire ≡ true). rw (e, eqb-true x wire it) (q.left wire here, read))
            (either (member (get_or waiting awaited 0) x) (eqb x wire) (sym (same_row x) ∙ (rw e at i)))

        noted : (v x : ℕ) → member (get_or waiting v 0) x ≡ true → (v ≡ awaited) ⊎ (eqb v awaited ≡ false)
            → member (get_or after v 0) x ≡ true
        noted v x i (inl e) = let old : member (get_or waiting awaited 0) x ≡ true = rw e at i in rw (e, same_row x, old)
        noted v x i (inr other) = other_row v x other ∙ i

        kept : (x : ℕ) → eqb x wire ≡ false → Left x ⊎ ((member bits x ≡ true) ⊎ Awaits reads_of n list waiting x)
            → Others x ⊎ ((member bits x ≡ true) ⊎ Awaits reads_of n list after x)
        kept x other (inl l) = inl (l, eqb-false x wire other)
        kept x other (inr (inl i)) = inr (inl i)
        kept x other (inr (inr a)) =
            inr (inr (record {
              wire = a.wire;
              new = a.new;
              read = a.read;
              noted = noted a.wire x a.noted (same-or-other a.wire awaited);
            }))

        each : (x : ℕ) → Unplaced reads_of n list x → (x ≡ wire) ⊎ (eqb x wire ≡ false)
            → Others x ⊎ ((member bits x ≡ true) ⊎ Awaits reads_of n list after x)
        each x u (inl e) =
            inr (inr (rw e (record {
              wire = awaited;
              new = new;
              read = read;
              noted = same_row wire ∙ rw (eq-eqb wire wire refl) (or-true (member (get_or waiting awaited 0) wire));
            })))
        each x u (inr other) = kept x other (q.each x u)

  -- Every wire was looked at.
  module _ {list : List ℕ} {bits : ℕ} {waiting : List ℕ} (q : Queue reads_of n list (λ x. ⊥) bits waiting) where
    -- a wire that waits misses a wire
    misses : (x v : ℕ) → among v list ≡ false → among v (reads_of x) ≡ true → all_among (reads_of x) list ≡ true → ⊥
    misses x v new read all = never (cc (each-among (reads_of x) list all v read, new))

    -- the set has just the wires that are ready
    pub in_queue : (x : ℕ) → member bits x ≡ true → (x < n) × (ready reads_of list x ≡ true)
    unfolding ready
    in_queue x i = let (u, all) = q.is_ready x i in (u.is_wire, rw (u.new, all))

    pub not_in_queue : (x : ℕ) → x < n → member bits x ≡ false → ready reads_of list x ≡ false
    unfolding ready
    not_in_queue x l out = go (ready reads_of list x) refl
      where
        go : (t : Bool) → ready reads_of list x ≡ t → t ≡ false
        go false e = refl
        go true e =
            let (new, all) = both (not (among x list)) (all_among (reads_of x) list) e in
            absurd (⊎_elim (λ (none : ⊥). none)
            (⊎_elim (λ (i : member bits x ≡ true). never (cc (i, out)))
            (λ (a : Awaits reads_of n list waiting x). misses x a.wire a.new a.read all))
            (q.each x (record { is_wire = l; new = not-true (among x list) new })))

    pub lowest_in_queue : n ≤ 64 → {r : ℕ} → LowestPresent (member bits) 64 r → r < 64
        → (r < n) × (r ≡ lowest (ready reads_of list) n)
    lowest_in_queue few {r} low inside =
        let (l, is) = in_queue r (low.present inside) in
        (l, lowest-is (ready reads_of list) n r (omega arith) (λ _. is) (λ j m. not_in_queue j (omega arith) (low.below j m)))

    -- and where it is taken out of the set
    pub taken_in_queue : n ≤ 64 → {r others : ℕ} → LowestTaken bits r others → (r < n) × (r ≡ lowest (ready reads_of list) n)
    taken_in_queue few {r} took =
        let (l, is) = in_queue r took.present in
        (l, lowest-is (ready reads_of list) n r (omega arith) (λ _. is) (λ j m. not_in_queue j (omega arith) (took.lower j m)))

    pub queue_empty : ((j : ℕ) → member bits j ≡ false) → n ≡ lowest (ready reads_of list) n
    queue_empty none =
        lowest-is (ready reads_of list) n n (omega arith) (λ l. absurd (omega arith)) (λ j m. not_in_queue j m (none j))

    -- a wire that is ready is placed: those that waited for it are left to be looked at
    pub placed-next : (w : ℕ) → member bits w ≡ true → {others : ℕ} → ((x : ℕ) → member others x ≡ (member bits x && not (eqb x w)))
        → Queue reads_of n (list ++ (w ∷ [])) (λ x. member (get_or waiting w 0) x ≡ true) others waiting
    placed-next w is {others} taken = record { left = left; is_ready = is_ready; waits = waits; each = each }
      where
        more : List ℕ
        more = list ++ (w ∷ [])

        it : Unplaced reads_of n list w × (all_among (reads_of w) list ≡ true)
        it = q.is_ready w is

        among-more : (x : ℕ) → among x more ≡ (among x list || eqb x w)
        among-more x = among-one-more x w list

        -- a wire that reads one which is not placed is another than w, so it is still not placed
        still : (x v : ℕ) → Unplaced reads_of n list x → among v list ≡ false → among v (reads_of x) ≡ true → Unplaced reads_of n more x
        still x v u new read =
            record {
              is_wire = u.is_wire;
              new = rw (among-more x, u.new)
                  (ne_eqb x w (λ e. misses x v new read (subst (λ y. all_among (reads_of y) list ≡ true) (sym e) it.1)));
            }

        left : (x : ℕ) → member (get_or waiting w 0) x ≡ true → Unplaced reads_of n more x
        left x i = let (u, read) = q.waits w x it.0.new i in still x w u it.0.new read

        is_ready : (x : ℕ) → member others x ≡ true → Unplaced reads_of n more x × (all_among (reads_of x) more ≡ true)
        is_ready x i =
            let (old, other) = both (member bits x) (not (eqb x w)) (sym (taken x) ∙ i) in
            let (u, all) = q.is_ready x old in
            let new : among x more ≡ false = rw (among-more x, u.new) (not-true (eqb x w) other) in (
              record { is_wire = u.is_wire; new = new },
              among-each (reads_of x) more (λ v read. rw (among-more v, each-among (reads_of x) list all v read)),
            )

        free : (v : ℕ) → among v more ≡ false → (among v list ≡ false) × (eqb v w ≡ false)
        free v new = neither (among v list) (eqb v w) (sym (among-more v) ∙ new)

        waits : (v x : ℕ) → among v more ≡ false → member (get_or waiting v 0) x ≡ true
            → Unplaced reads_of n more x × (among v (reads_of x) ≡ true)
        waits v x new i = let (old, _) = free v new in let (u, read) = q.waits v x old i in (still x v u old read, read)

        renewed : (x : ℕ) → eqb x w ≡ false → (a : Awaits reads_of n list waiting x) → (a.wire ≡ w) ⊎ (eqb a.wire w ≡ false)
            → (member (get_or waiting w 0) x ≡ true) ⊎ ((member others x ≡ true) ⊎ Awaits reads_of n more waiting x)
        renewed x apart a (inl e) = inl (rw e at a.noted)
        renewed x apart a (inr other) =
            inr (inr (record { wire = a.wire; new = rw (among-more a.wire, a.new) other; read = a.read; noted = a.noted }))

        each : (x : ℕ) → Unplaced reads_of n more x
            → (member (get_or waiting w 0) x ≡ true) ⊎ ((member others x ≡ true) ⊎ Awaits reads_of n more waiting x)
        each x u =
            let (old, apart) = free x u.new in
            ⊎_elim (λ (none : ⊥). absurd none)
            (⊎_elim (λ (i : member bits x ≡ true). inr (inl (rw (taken x, i, apart))))
            (λ (a : Awaits reads_of n list waiting x). renewed x apart a (same-or-other a.wire w)))
            (q.each x (record { is_wire = u.is_wire; new = old }))
