-- Depths, on a sheet that has a schedule: they are the only numbers as K6 has them; after k rounds every wire of depth at most k is known;
-- and so every instant in rounds that passes 1 to 16 is accepted, and reports at most the greatest depth plus one.
use Rattle.std.specs.Prelude.{Ok, ◌≡◌, Bool, false, ◌⊎◌, ltb, length}
use Rattle.sheet.specs.Outcomes.{refused_at, result}
use Rattle.std.proofs.Math.Path.{refl, ap}
use Rattle.std.proofs.Common.{sym, ap₂, subst, ◌∙◌, inl, inr, take_all, eqb-true, ltb-true, ltb-false}
use Prim.Native.Nat.{ℕ, zero, suc, max, ◌≤◌, ◌<◌, zero-le}
use native.Mathlib.Omega.{arith}
use Rattle.std.proofs.Math.Bool.{true}
use mathlib.Core.List.{List, [], ◌∷◌, ◌++◌}
use Rattle.std.proofs.Math.Logic.{⊎_elim}
use Rattle.std.proofs.Math.Dec.{eqb}
use Rattle.std.proofs.lemmas.Bool.{eqb-false}
use Rattle.sheet.specs.Lists.{among}
use Rattle.sheet.specs.Sheets.{Sheet, sheet_of}
use Rattle.sheet.specs.Laws.Lists.{never, either, among-head, among-tail, every_holds, every-among, among-each}
use Rattle.sheet.specs.Laws.Outcomes.{same-result}
use Rattle.sheet.proofs.Laws.Typing.{passed_check}
use Rattle.sheet.specs.declared.Datum.{Datum}
use Rattle.sheet.specs.declared.Cell.{Cell}
use Rattle.sheet.specs.declared.Refusal.{Refusal}
use Rattle.sheet.specs.declared.Refusal.TheVariants.{StaysUnknown}
use Rattle.kernel.specs.Values.{IsKnown}
use Rattle.kernel.specs.Order.{value_at}
use Rattle.kernel.specs.Systems.{Full, after}
use Rattle.kernel.specs.Instants.{wire_count, reads_at, round, rounds}
use Rattle.kernel.specs.Schedules.{entry_at, schedule_of, Earlier, IsSchedule}
use Rattle.kernel.specs.Depths.{deepest, depth_within, Depths, depth_of, wires_below, Deepest, greatest_depth}
use Rattle.kernel.specs.Answers.{InRounds}
use Rattle.kernel.specs.Calls.{Given, given_of, rounds_call}
use Rattle.kernel.proofs.Laws.Rounds.{rounds_full}
use Rattle.kernel.proofs.Laws.Instants.{round_monotone, round-known}
use Rattle.kernel.proofs.Laws.Schedules.{schedule_passed, named-earlier, earlier-named, schedule_counted, passed_schedule}
use Rattle.kernel.proofs.Laws.Given.{given_by}
use Rattle.kernel.proofs.Laws.Demands.{given_rounds, demand2, scheduled-accepted}
use Rattle.kernel.proofs.Laws.Answers.{RefusedBefore, demand2_answered}
use Rattle.kernel.specs.declared.Value.{Value}

accepted-same : {r q : ℕ} → ◌≡◌ {A = InRounds} (Ok r) (Ok q) → r ≡ q
accepted-same e = cc

-- The deepest of some wires: the least number that none of them passes.
module _ (depth : ℕ → ℕ) where
  pub deepest-over : (xs : List ℕ) (x : ℕ) → among x xs ≡ true → depth x ≤ deepest depth xs
  unfolding deepest among
  deepest-over [] x e = never (cc)
  deepest-over (y ∷ xs) x e =
      ⊎_elim (λ (q : eqb x y ≡ true). rw (eqb-true x y q) (omega arith))
      (λ (q : among x xs ≡ true). omega (arith, deepest-over xs x q))
      (either (eqb x y) (among x xs) e)

  pub deepest-within : (k : ℕ) (xs : List ℕ) → ((x : ℕ) → among x xs ≡ true → depth x ≤ k) → deepest depth xs ≤ k
  unfolding deepest
  deepest-within k [] h = zero-le
  deepest-within k (x ∷ xs) h =
      omega (arith, h x (among-head x xs), deepest-within k xs (λ y e. h y (among-tail y x xs e)))

  -- where there are wires, it is the depth of one of them
  pub deepest-met : (xs : List ℕ) → (xs ≡ [] → ⊥) → (x : ℕ) × (among x xs ≡ true) × (depth x ≡ deepest depth xs)
  unfolding deepest
  deepest-met [] some = absurd (some refl)
  deepest-met (x ∷ xs) some = go (ltb (depth x) (deepest depth xs)) refl (deepest-met xs)
    where
      Met : List ℕ → ℕ → Type 0
      Met ys k = (y : ℕ) × (among y ys ≡ true) × (depth y ≡ k)

      go : (t : Bool) → ltb (depth x) (deepest depth xs) ≡ t → ((xs ≡ [] → ⊥) → Met xs (deepest depth xs))
          → Met (x ∷ xs) (max (depth x) (deepest depth xs))
      go false e later = (x, among-head x xs, omega (arith, ltb-false (depth x) (deepest depth xs) e))
      go true e later =
          let less = ltb-true (depth x) (deepest depth xs) e in
          let (y, inside, is) = later (λ none. absurd (omega (arith, rw none at less))) in
          (y, among-tail y x xs inside, omega arith)

  pub deepest-append : (xs : List ℕ) (x : ℕ) → deepest depth (xs ++ (x ∷ [])) ≡ max (deepest depth xs) (depth x)
  unfolding deepest
  deepest-append [] x = omega arith
  deepest-append (y ∷ xs) x = omega (arith, deepest-append xs x)

  -- lists with the same wires
  pub deepest-wires : (xs ys : List ℕ) → ((x : ℕ) → among x xs ≡ true → among x ys ≡ true)
      → ((x : ℕ) → among x ys ≡ true → among x xs ≡ true) → deepest depth xs ≡ deepest depth ys
  deepest-wires xs ys forth back =
      let below = deepest-within (deepest depth ys) xs (λ x e. deepest-over ys x (forth x e)) in
      let above = deepest-within (deepest depth xs) ys (λ x e. deepest-over xs x (back x e)) in
      omega arith

pub deepest-same : (f g : ℕ → ℕ) (xs : List ℕ) → ((x : ℕ) → among x xs ≡ true → f x ≡ g x) → deepest f xs ≡ deepest g xs
unfolding deepest
deepest-same f g [] h = refl
deepest-same f g (x ∷ xs) h = ap₂ max (h x (among-head x xs)) (deepest-same f g xs (λ y e. h y (among-tail y x xs e)))

pub below-among : (n w : ℕ) → w < n → among w (wires_below n) ≡ true
unfolding wires_below
below-among zero w l = absurd (omega arith)
below-among (suc n) w l = go (eqb w n) refl (below-among n w)
  where
    go : (t : Bool) → eqb w n ≡ t → (w < n → among w (wires_below n) ≡ true) → among w (n ∷ wires_below n) ≡ true
    go true e later = rw (eqb-true w n e) (among-head n (wires_below n))
    go false e later = among-tail w n (wires_below n) (later (omega (arith, eqb-false w n e)))

among_none : (w : ℕ) → among w [] ≡ false
unfolding among
among_none w = refl

pub among_below : (n w : ℕ) → among w (wires_below n) ≡ true → w < n
unfolding wires_below among
among_below zero w e = never (cc)
among_below (suc n) w e =
    ⊎_elim (λ (q : eqb w n ≡ true). omega (arith, eqb-true w n q)) (λ (q : among w (wires_below n) ≡ true). omega (arith, among_below n w q))
    (either (eqb w n) (among w (wires_below n)) e)

-- The two equations in one.
module _ {reads_of : ℕ → List ℕ} {n : ℕ} {depth : ℕ → ℕ} where
  pub one_more : Depths reads_of n depth → (w : ℕ) → w < n → depth w ≡ suc (deepest depth (reads_of w))
  unfolding deepest
  one_more is w l = go (reads_of w) refl
    where
      go : (xs : List ℕ) → reads_of w ≡ xs → depth w ≡ suc (deepest depth xs)
      go [] e = is.reads_none w l e
      go (x ∷ xs) e = is.reads_some w l (λ none. never (cc (e, none))) ∙ ap (λ ys. suc (deepest depth ys)) e

  both_equations : ((w : ℕ) → w < n → depth w ≡ suc (deepest depth (reads_of w))) → Depths reads_of n depth
  unfolding deepest
  both_equations more = record { reads_none = λ w l e. more w l ∙ rw e; reads_some = λ w l some. more w l }

pub greatest-over : (sheet : Sheet) (w : ℕ) → w < wire_count sheet → depth_of sheet w ≤ greatest_depth sheet
unfolding greatest_depth
greatest-over sheet w l = deepest-over (depth_of sheet) (wires_below (wire_count sheet)) w (below-among (wire_count sheet) w l)

-- k steps show no more than k
within-steps : (reads_of : ℕ → List ℕ) (k w : ℕ) → depth_within reads_of k w ≤ k
unfolding depth_within
within-steps reads_of zero w = zero-le
within-steps reads_of (suc k) w =
    omega (arith, deepest-within (depth_within reads_of k) k (reads_of w) (λ x e. within-steps reads_of k x))

-- no depth is above the count of wires, so that the bound on rounds by depth is never above that by wires
pub depth-few : (sheet : Sheet) → greatest_depth sheet ≤ wire_count sheet
unfolding greatest_depth depth_of
depth-few sheet =
    deepest-within (depth_of sheet) (wire_count sheet) (wires_below (wire_count sheet)) (λ w e.
    within-steps (reads_at sheet.expressions) (wire_count sheet) w)

-- A sheet that has a schedule.
module _ (sheet : Sheet) (list : List ℕ) (schedule : IsSchedule sheet list) where
  abbrev n : ℕ
  n = wire_count sheet

  abbrev reads_of : ℕ → List ℕ
  reads_of = reads_at sheet.expressions

  -- what the wire at a position reads stands before it
  before : (p w x : ℕ) → p < length list → entry_at list p ≡ w → among x (reads_of w) ≡ true → Earlier list p x
  before p w x l at e = every_holds {P = Earlier list p} x (schedule.ordered p l) (rw at e)

  -- so what is read is a wire
  read_below : (w x : ℕ) → w < n → among x (reads_of w) ≡ true → x < n
  read_below w x l e =
      let at = schedule.named w l in
      let x-at = before at.position w x at.before at.names e in
      rw x-at.names at (schedule.wires x-at.position (omega (arith, x-at.before, at.before)))

  -- numbers that at each step are one more than the deepest read a step before
  abbrev Stepwise : (ℕ → ℕ → ℕ) → Type 0
  Stepwise f = (k w : ℕ) → w < n → f (suc k) w ≡ suc (deepest (f k) (reads_of w))

  -- two of them are the same after more steps than positions before, and so after as many as there are wires
  module _ (f g : ℕ → ℕ → ℕ) (first : Stepwise f) (second : Stepwise g) where
    same-steps : (k p w : ℕ) → p < length list → entry_at list p ≡ w → w < n → p < k → f k w ≡ g k w
    same-steps zero p w l at m a = absurd (omega arith)
    same-steps (suc k) p w l at m a =
        first k w m
        ∙ ap suc (deepest-same (f k) (g k) (reads_of w) (λ x e.
        let x-at = before p w x l at e in
        let sooner = x-at.before in
        same-steps k x-at.position x (omega arith) x-at.names (read_below w x m e) (omega arith)))
        ∙ sym (second k w m)

    same_numbers : (w : ℕ) → w < n → f n w ≡ g n w
    same_numbers w l =
        let at = schedule.named w l in
        let counted = schedule_counted sheet list schedule in
        let position = at.before in
        same-steps n at.position w position at.names l (omega arith)

  -- one step more shows nothing more
  pub depths_are : Depths reads_of n (depth_of sheet)
  unfolding depth_of depth_within
  depths_are =
      both_equations (same_numbers (depth_within reads_of) (λ k. depth_within reads_of (suc k)) (λ k w l. refl) (λ k w l. refl))

  pub depths_only : {depth : ℕ → ℕ} → Depths reads_of n depth → (w : ℕ) → w < n → depth w ≡ depth_of sheet w
  unfolding depth_of depth_within
  depths_only {depth} is = same_numbers (λ k. depth) (depth_within reads_of) (λ k. one_more is) (λ k w l. refl)

  -- the greatest depth is K6's, and no other number is
  pub greatest-deepest : 1 ≤ n → Deepest sheet (greatest_depth sheet)
  unfolding greatest_depth
  greatest-deepest some =
      let first = below-among n 0 some in
      let (w, inside, is) = deepest-met (depth_of sheet) (wires_below n) (λ none. never (cc (rw none at first, among_none 0))) in
      record {
        depth = depth_of sheet;
        are = depths_are;
        wire = w;
        in_range = among_below n w inside;
        has = is;
        most = greatest-over sheet;
      }

  pub greatest-only : {greatest : ℕ} → Deepest sheet greatest → greatest ≡ greatest_depth sheet
  unfolding greatest_depth
  greatest-only {greatest} d =
      let below = deepest-within (depth_of sheet) greatest (wires_below n) (λ w e.
      let l = among_below n w e in omega (arith, depths_only d.are w l, d.most w l)) in
      let above = greatest-over sheet d.wire d.in_range in
      omega (arith, depths_only d.are d.wire d.in_range, d.has)

  -- a schedule has all the wires
  pub deepest-along : deepest (depth_of sheet) list ≡ greatest_depth sheet
  unfolding greatest_depth
  deepest-along =
      deepest-wires (depth_of sheet) list (wires_below n) (λ w e.
      let at = named-earlier list (length list) w (omega arith) (rw (take_all (length list) list (omega arith)) e) in
      below-among n w (rw at.names at (schedule.wires at.position at.before)))
      (λ w e. rw (take_all (length list) list (omega arith)) at
      (earlier-named list (length list) (omega arith) w (schedule.named w (among_below n w e))))

  -- Rounds.
  module _ (inputs : List Datum) (memory : List Cell) where
    abbrev after_rounds : ℕ → List Value
    after_rounds = after n (round sheet inputs memory)

    -- after k rounds every wire of depth at most k is known
    pub known-by-depth : (k w : ℕ) → w < n → depth_of sheet w ≤ k → IsKnown (value_at (after_rounds k) w)
    unfolding after
    known-by-depth zero w l d = absurd (omega (arith, one_more depths_are w l))
    known-by-depth (suc k) w l d =
        let known : (x : ℕ) → among x (reads_of w) ≡ true → IsKnown (value_at (after_rounds k) x) =
        λ x e.
        let shallower = deepest-over (depth_of sheet) (reads_of w) x e in
        known-by-depth k x (read_below w x l e) (omega (arith, one_more depths_are w l)) in
        round-known sheet inputs memory w l (after_rounds k)
        (every-among (λ x. IsKnown (value_at (after_rounds k) x)) (reads_of w) known (reads_of w)
        (among-each (reads_of w) (reads_of w) (λ x e. e)))

    pub rounds_by-depth : rounds sheet inputs memory ≤ suc (greatest_depth sheet)
    unfolding rounds Full
    rounds_by-depth =
        rounds_full n (round sheet inputs memory) (round_monotone sheet inputs memory) (greatest_depth sheet) (λ w l.
        known-by-depth (greatest_depth sheet) w l (greatest-over sheet w l))

module _ (s memory input output : List ℕ) where
  -- accepted with at most so many rounds
  pub record AcceptedWithin (most : ℕ) : Type 0 where
    pub rounds : ℕ
    pub answers : (rounds_call s memory input output).answer ≡ Ok rounds
    pub few : rounds ≤ most

  -- K6 of the instant in rounds. This is the greatest depth of the sheet's wires; whatever passes 1 to 16 is accepted with at most one
  -- round more; and from the answer, whatever is accepted reports no more rounds, and whatever is refused does not pass 1 to 16.
  pub record RoundsWithin (greatest : ℕ) : Type 0 where
    pub sheet : Sheet
    pub read : sheet_of s ≡ result sheet
    pub deepest : Deepest sheet greatest
    pub passed : (given : Given) → given_of s memory input output ≡ result given → AcceptedWithin (suc greatest)
    pub accepted : (r : ℕ) → (rounds_call s memory input output).answer ≡ Ok r → r ≤ suc greatest
    pub refused : (why : Refusal) (place : ℕ) → (rounds_call s memory input output).answer ≡ refused_at why place
        → RefusedBefore s memory input output why place

  accepted-by-depth : (given : Given) → given_of s memory input output ≡ result given → (list : List ℕ) → IsSchedule given.sheet list
      → AcceptedWithin (suc (greatest_depth given.sheet))
  unfolding rounds_call
  accepted-by-depth given passes list schedule =
      let (_, full, _) = scheduled-accepted given list schedule in
      record {
        rounds = given_rounds given;
        answers = rw (passes, (demand2 given).accepted full);
        few = rounds_by-depth given.sheet list schedule given.inputs given.memory;
      }

  -- of every sheet that has a schedule, which is to say that some list passes 17 to 19
  pub rounds_within-depth : (sheet : Sheet) → sheet_of s ≡ result sheet → (list order : List ℕ) → schedule_of sheet list ≡ result order
      → RoundsWithin (greatest_depth sheet)
  rounds_within-depth sheet read list order passes =
      record {
        sheet = sheet;
        read = read;
        deepest = greatest-deepest sheet list schedule (passed_check s read).some-wire;
        passed = within;
        accepted = few;
        refused = refused;
      }
    where
      schedule : IsSchedule sheet list
      schedule = passed_schedule sheet list (schedule_passed sheet list order passes).1

      within : (given : Given) → given_of s memory input output ≡ result given → AcceptedWithin (suc (greatest_depth sheet))
      within given passes =
          let same : sheet ≡ given.sheet = same-result (sym read ∙ (given_by s memory input output given passes).sheet) in
          subst (λ x. AcceptedWithin (suc (greatest_depth x))) (sym same)
          (accepted-by-depth given passes list (subst (λ x. IsSchedule x list) same schedule))

      few : (r : ℕ) → (rounds_call s memory input output).answer ≡ Ok r → r ≤ suc (greatest_depth sheet)
      few r a =
          let after = (demand2_answered s memory input output).accepted r a in
          let at = within after.given after.passes in
          let same : at.rounds ≡ r = accepted-same (sym at.answers ∙ a) in
          rw same at at.few

      refused : (why : Refusal) (place : ℕ) → (rounds_call s memory input output).answer ≡ refused_at why place
          → RefusedBefore s memory input output why place
      refused why place a = go ((demand2_answered s memory input output).refused why place a)
        where
          go : (why ≡ StaysUnknown) ⊎ RefusedBefore s memory input output why place → RefusedBefore s memory input output why place
          go (inr before) = before
          go (inl is) =
              let unknown = (demand2_answered s memory input output).unknown place (rw is at a) in
              never (cc ((within unknown.given unknown.passes).answers, a))
