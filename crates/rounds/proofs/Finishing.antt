-- From round to round: each knows more wires than the one before, and where one knows no more the rounds have finished.
use Prim.Native.Nat.{ℕ, suc, ◌+◌, ◌≤◌, ◌<◌}
use mathlib.Core.Path.{subst, ◌≡◌, refl, sym, ap, ◌∙◌}
use mathlib.Core.Bool.{Bool, true, false, not, ◌&&◌, cond, true≢false}
use mathlib.Core.List.{List, [], ◌∷◌}
use native.Mathlib.Nat.{lt_of_not-le}
use native.Mathlib.Numerals.{add-one}
use native.Mathlib.Omega.{arith}
use lib.Dec.{ltb}
use lib.ListN.{length, get_or, length-replicate}
use borrow.Author.Count.{below_more}
use borrow.Author.Tests.{ltb-true, lt-ltb}
use Rattle.wires.specs.Sets.{member, tally}
use Rattle.wires.specs.Laws.{tally-beyond, tally-front, tally-grows}
use Rattle.readers.specs.Readers.{Readers, Reading}
use Rattle.sheet.specs.Lists.{among}
use Rattle.sheet.specs.Laws.Lists.{never, both}
use Rattle.kernel.specs.Order.{◌⊑*◌, value_at, known_count}
use Rattle.kernel.specs.Order as Order
use Rattle.kernel.specs.Systems as System
use Rattle.kernel.specs.Instants.{wire_count, reads_at, rounds, finished}
use Rattle.kernel.proofs.Laws.Order.{unknown-at}
use Rattle.kernel.proofs.Laws.Counting.{count_same}
use Rattle.kernel.proofs.Laws.Rounds.{after-length, climbs, rounds_unique}
use Rattle.kernel.proofs.Laws.Keeping.{over-grown}
use Rattle.kernel.proofs.Laws.Due.{rests-unknown}
use Rattle.kernel.proofs.Laws.Instants.{round_monotone}
use Rattle.kernel.proofs.Laws.Memory.{after-typed}
use Rattle.kernel.specs.declared.Value.{Value}
use Rattle.kernel.specs.declared.Value.TheVariants.{Unknown}
use Rattle.leaves.specs.Words.{fixed_words}
use Rattle.rounds.specs.Running.{Held, unheld, held, Holds, Running, RunningReads, round_of, Before}
use Rattle.rounds.specs.Due.{DueIn, every-due}
use Rattle.rounds.proofs.Wires.{wires-counted}
use Rattle.rounds.proofs.Rounding.{out-unknown, unknown-out}

-- one for a wire in the set
held-tally : {b : Bool} {word : ℕ} {v : Value} → Held b word v → cond b 1 0 ≡ Order.tally v
held-tally unheld = refl
held-tally (held e) = refl

each-counted : (f : ℕ → Bool) (h : ℕ → ℕ) (values : List Value)
    → ((w : ℕ) → w < length values → Held (f w) (h w) (value_at values w)) → tally f (length values) ≡ known_count values
unfolding tally known_count
each-counted f h [] each = refl
each-counted f h (v ∷ vs) each =
    let rest = each-counted (λ k. f (suc k)) (λ k. h (suc k)) vs (λ w l. each (suc w) (omega arith)) in
    omega (arith, tally-front f (length vs), held-tally (each 0 (omega arith)), rest)

-- as many wires are in the set as values are known
held-count : {n bits : ℕ} {row words : List ℕ} {values : List Value} → Holds n row bits words values → n ≤ 64
    → tally (member bits) 64 ≡ known_count values
held-count {n} {bits} {words} {values} h few =
    tally-beyond (member bits) n 64 few h.beyond
    ∙ ap (tally (member bits)) (sym h.size)
    ∙ each-counted (member bits) (λ w. get_or words w 0) values (λ w l. h.each w (omega (arith, h.size)))

module _ {s memory row types places firsts reads : List ℕ} (run : RunningReads s memory row types places firsts reads) where
  abbrev r : Running s memory row types places firsts
  r = run.running

  abbrev after : ℕ → List Value
  after = System.after (wire_count r.given.sheet) (round_of r)

  monotone : System.Monotone (wire_count r.given.sheet) (round_of r)
  monotone = round_monotone r.given.sheet r.given.inputs r.given.memory

  ascends : (k : ℕ) → after k ⊑* after (suc k)
  ascends k = climbs (wire_count r.given.sheet) (round_of r) monotone k (suc k) (omega arith)

  -- after k rounds, of which each changed something, with the wires that are due in the next
  pub record Rounded (k bits due : ℕ) (words : List ℕ) : Type 0 where
    pub holds : Holds (length types) row bits words (after k)
    pub changed : (j : ℕ) → j < k → after j ≡ after (suc j) → ⊥
    pub which_due : DueIn (length types) bits due (after (suc k))

  -- before the first round every wire is due
  pub unrounded : {bits due : ℕ} {words : List ℕ} → fixed_words words ≡ row → length types ≤ length words
      → ((w : ℕ) → member bits w ≡ false)
      → ((w : ℕ) → member due w ≡ ltb w (length types)) → Rounded 0 bits due words
  unfolding System.after
  unrounded {due = due} fixed room none all =
      let n = wire_count r.given.sheet in
      record {
        holds = record {
          fixed = fixed;
          size = length-replicate n Unknown ∙ wires-counted r;
          room = room;
          each = λ w l. rw (none w, unknown-at n w) unheld;
          beyond = λ w l. none w;
        };
        changed = λ j l. absurd (omega arith);
        which_due = every-due all;
      }

  pub before : {k bits due : ℕ} {words : List ℕ} → Rounded k bits due words
      → Before s memory row types places firsts bits due words
  unfolding System.after
  before {k} h =
      record {
        under = record {
          running = r;
          values = after k;
          holds = h.holds;
          typed = after-typed r.given.sheet r.given.inputs r.given.memory r.well_typed r.valid_inputs r.valid_memory k;
        };
        which_due = h.which_due;
      }

  -- by the inputs' words as they stand there
  pub before_here : {k bits due : ℕ} {words : List ℕ} → Rounded k bits due words
      → Before s memory (fixed_words words) types places firsts bits due words
  before_here {bits = bits} {due} {words} h =
      subst (λ (x : List ℕ). Before s memory x types places firsts bits due words) (sym h.holds.fixed) (before h)

  -- what a round makes of the values before it, and of the inputs' words
  abbrev pub Made : (row : List ℕ) (bits due : ℕ) (words : List ℕ) (grown : ℕ) (new : List ℕ) → Type 0
  Made row bits due words grown new = (b : Before s memory row types places firsts bits due words)
      → Holds (length types) row grown new (System.round_over (round_of b.under.running) b.under.values)

  -- One round more.
  module _ {k bits due grown : ℕ} {words new : List ℕ} (h : Rounded k bits due words)
      (made : Made (fixed_words words) bits due words grown new) where
    here : Holds (length types) row grown new (System.round_over (round_of r) (after k))
    unfolding before
    here = subst (λ (x : List ℕ). Made x bits due words grown new) h.holds.fixed made (before h)

    -- as the values grow, it is the round of the definition
    next : Holds (length types) row grown new (after (suc k))
    unfolding System.after
    next =
        rw (over-grown (round_of r) (after k) (monotone.sized (after k) ∙ sym (after-length _ (round_of r) monotone k)) (ascends k)) at
        here

    sizes : length (after k) ≡ length (after (suc k))
    sizes = h.holds.size ∙ sym next.size

    -- the round adds no wire just where the values after it are those before it
    abbrev NoneAdded : Type 0
    NoneAdded = (w : ℕ) → member grown w ≡ true → member bits w ≡ true

    none-added : after k ≡ after (suc k) → NoneAdded
    none-added e w m = go (member bits w) refl
      where
        go : (t : Bool) → member bits w ≡ t → member bits w ≡ true
        go true t = t
        go false t =
            let same : value_at (after (suc k)) w ≡ value_at (after k) w = ap (λ (xs : List Value). value_at xs w) (sym e) in
            never (cc (unknown-out next w (same ∙ out-unknown h.holds w t)))

    unchanged : NoneAdded → after k ≡ after (suc k)
    unchanged none =
        let fewer = tally-grows (member grown) (member bits) 64 (λ w l. none w) in
        count_same (after k) (after (suc k)) sizes (ascends k)
        (omega (arith, fewer, held-count h.holds r.few, held-count next r.few))

    pub more-known : (NoneAdded → ⊥) → tally (member bits) 64 < tally (member grown) 64
    more-known some =
        let more : known_count (after k) < known_count (after (suc k)) =
        lt_of_not-le (λ l. some (none-added (count_same (after k) (after (suc k)) sizes (ascends k) l))) in
        omega (arith, more, held-count h.holds r.few, held-count next r.few)

    -- The wires that are due next: those that read a new one.
    module _ {news over : ℕ} {readers : List ℕ} (new-are : (x : ℕ) → member news x ≡ (member grown x && not (member bits x)))
        (turned : Readers reads (length types) readers) (reading : Reading readers news over) where
      -- an unknown wire that is not due reads none of those which have just become known
      none-new : (w : ℕ) → w < length types → member over w ≡ false → (x : ℕ)
          → among x (reads_at r.given.sheet.expressions w) ≡ true
          → value_at (after k) x ≡ Unknown → value_at (after (suc k)) x ≡ Unknown
      none-new w l e x a v = go (member grown x) refl
        where
          go : (t : Bool) → member grown x ≡ t → value_at (after (suc k)) x ≡ Unknown
          go false out = out-unknown next x out
          go true new =
              let inside : x < length types = lt_of_not-le (λ (m : length types ≤ x). true≢false (sym new ∙ next.beyond x m)) in
              let below : x < 64 = omega (arith, r.few) in
              let is-new : member news x ≡ true = new-are x ∙ rw (new, unknown-out h.holds x v) in
              let reads-it : member (get_or readers x 0) w ≡ true =
              turned.each x w below ∙ rw (lt-ltb w (length types) l, (run.reading w l).same x, a) in
              never (cc (reading.all w (record { v = x; below = below; among = is-new; reads = reads-it }), e))

      readers_due : DueIn (length types) grown over (after (suc (suc k)))
      unfolding System.after
      readers_due =
          let given = r.given in
          record {
            within = λ w e.
                let one = reading.only w e in
                let (low, _) = both (ltb w (length types)) (member (get_or reads w 0) one.v)
                (sym (turned.each one.v w one.below) ∙ one.reads) in
                ltb-true w (length types) low;
            rests = λ w l u e.
                rests-unknown given.sheet given.inputs given.memory (after k) (ascends k) w (out-unknown next w u)
                (none-new w l e);
          }

      pub one_more : (NoneAdded → ⊥) → Rounded (k + 1) grown over new
      one_more some =
          record {
            holds = rw add-one next;
            changed = below_more (λ j. after j ≡ after (suc j) → ⊥) k h.changed (λ e. some (none-added e));
            which_due = rw add-one readers_due;
          }

    pub ended : NoneAdded
        → let given = r.given in
        Holds (length types) row grown new (finished given.sheet given.inputs given.memory)
        × (k + 1 ≡ rounds given.sheet given.inputs given.memory)
    unfolding finished rounds System.finished
    ended none =
        let count = rounds_unique (wire_count r.given.sheet) (round_of r) monotone k (unchanged none) h.changed in
        (rw count next, rw add-one (sym count))
