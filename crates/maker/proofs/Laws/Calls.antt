-- What the answer of the maker's call says, on any bytes: a made list is a schedule with the lowest wire possible at every position,
-- along which every scheduled instant agrees with the rounds, which are at most the reported depth plus one; 21 comes exactly if no list
-- passes 18 and 19, at the lowest wire that reaches itself; and it refuses with no other numbers than 1 to 11, 17 and 21.
use Rattle.std.specs.Prelude.{◌≡◌, ℕ, ◌≤◌, Bool, cond, List, ◌⊎◌, ◌↔◌, eqb, Ok}
use Rattle.std.proofs.Math.Path.{refl, sym}
use Rattle.std.proofs.Common.{subst, ◌∙◌, inl, inr, eqb-true, ltb-true}
use native.Mathlib.Omega.{arith}
use Rattle.std.proofs.Math.Bool.{true, false}
use Rattle.std.proofs.Math.Dec.{ltb}
use Rattle.std.proofs.Math.ListN.{length}
use Rattle.std.proofs.lemmas.Bool.{eqb-false}
use Rattle.sheet.specs.Outcomes.{Outcome, refusal, result, followed_by, lowest, number_of, unless_any, refused_at}
use Rattle.sheet.specs.Sheets.{Sheet, sheet_of}
use Rattle.sheet.specs.Laws.Lists.{never}
use Rattle.sheet.specs.Laws.Outcomes.{same-result, refused-parts}
use Rattle.sheet.specs.Laws.Refusals.{OutcomeWithin, refusal-within, sheet-of-within}
use Rattle.sheet.proofs.Laws.Typing.{passed_check, checked_well_typed}
use Rattle.sheet.specs.declared.Refusal.{Refusal}
use Rattle.sheet.specs.declared.Refusal.TheVariants.{ScheduleLength, NoSchedule}
use Rattle.kernel.specs.Instants.{wire_count}
use Rattle.kernel.specs.Schedules.{schedule_of, IsSchedule}
use Rattle.kernel.specs.Depths.{greatest_depth, Deepest}
use Rattle.kernel.specs.Calls.{Given, given_of}
use Rattle.kernel.proofs.Laws.Given.{given_by}
use Rattle.kernel.proofs.Laws.Schedules.{schedule_passed, passes_schedule, passed_schedule, schedule_passes}
use Rattle.kernel.proofs.Laws.Demands.{Demand3, demand3}
use Rattle.kernel.proofs.Laws.Depths.{greatest-deepest, depth-few, RoundsWithin, rounds_within-depth}
use Rattle.closure.specs.Closures.{LowestLoop}
use Rattle.maker.specs.Reaching.{Reads, reaches_itself}
use Rattle.maker.specs.Making.{made_list, Schedule, schedule_for, made_of, maker_outcome, maker_call, made_answer}
use Rattle.maker.proofs.Laws.Schedules.{lowest-loop, schedule_acyclic, LowestEverywhere, LeastEverywhere}
use Rattle.maker.proofs.Laws.Schedules.{made-lowest, made-least, made_schedule, none_filled}

-- no list passes the checks 17 to 19
abbrev pub NoList : Sheet → Type 0
NoList sheet = (list order : List ℕ) → schedule_of sheet list ≡ result order → ⊥

module _ (s lent : List ℕ) where
  -- a list was made: the sheet passes 1 to 11 and the lent list 17; the list is a schedule as demand 3 has it, with the lowest wire that
  -- is ready at every position, so that no schedule which begins as it does goes on with a lower one; and the depth reported is the
  -- greatest as K6 has it, and at most the count of wires
  pub record MadeFor (depth : ℕ) : Type 0 where
    pub sheet : Sheet
    pub read : sheet_of s ≡ result sheet
    pub counted : length lent ≡ wire_count sheet
    pub schedule : IsSchedule sheet (maker_call s lent).list
    pub lowest : LowestEverywhere sheet (maker_call s lent).list
    pub least : LeastEverywhere sheet (maker_call s lent).list
    pub greatest : depth ≡ greatest_depth sheet
    pub deepest : Deepest sheet depth
    pub few : depth ≤ wire_count sheet

  -- refused 21 at the place: as before, and it is the lowest wire that reaches itself; no list passes
  pub record LoopsAt (place : ℕ) : Type 0 where
    pub sheet : Sheet
    pub read : sheet_of s ≡ result sheet
    pub counted : length lent ≡ wire_count sheet
    pub loop : LowestLoop (Reads sheet) (wire_count sheet) place
    pub none : NoList sheet

  -- refused 17: the sheet passes 1 to 11, and the lent list has another length
  pub record WrongLength (place : ℕ) : Type 0 where
    pub sheet : Sheet
    pub read : sheet_of s ≡ result sheet
    pub other : length lent ≡ wire_count sheet → ⊥
    pub first : place ≡ 0

  -- refused otherwise: with the refusal of the check
  pub record RefusedSheet (why : Refusal) (place : ℕ) : Type 0 where
    pub number : number_of why ≤ 11
    pub refused : sheet_of s ≡ refusal why place

  pub record MakerAnswered : Type 0 where
    pub made : (depth : ℕ) → (maker_call s lent).answer ≡ Ok depth → MadeFor depth
    pub loops : (place : ℕ) → (maker_call s lent).answer ≡ refused_at NoSchedule place → LoopsAt place
    pub refused : (why : Refusal) (place : ℕ) → (maker_call s lent).answer ≡ refused_at why place
        → (why ≡ NoSchedule) ⊎ (((why ≡ ScheduleLength) × WrongLength place) ⊎ RefusedSheet why place)

  -- the four ways in which the maker comes to its outcome
  data Comes : Outcome Schedule → Type 0 where
    before : {why : Refusal} {place : ℕ} → sheet_of s ≡ refusal why place → Comes (refusal why place)
    sized : (sheet : Sheet) → sheet_of s ≡ result sheet → (length lent ≡ wire_count sheet → ⊥) → Comes (refusal ScheduleLength 0)
    looped : (sheet : Sheet) → sheet_of s ≡ result sheet → length lent ≡ wire_count sheet → {place : ℕ}
        → LowestLoop (Reads sheet) (wire_count sheet) place
        → Comes (refusal NoSchedule place)
    found : (sheet : Sheet) → sheet_of s ≡ result sheet → length lent ≡ wire_count sheet → IsSchedule sheet (made_list sheet)
        → LowestEverywhere sheet (made_list sheet) → LeastEverywhere sheet (made_list sheet) → Comes (result (schedule_for sheet))

  comes : Comes (maker_outcome s lent)
  unfolding maker_outcome made_of
  comes = go (sheet_of s) refl
    where
      searched : (sheet : Sheet) → sheet_of s ≡ result sheet → length lent ≡ wire_count sheet → (t : Bool)
          → ltb (lowest (reaches_itself sheet) (wire_count sheet)) (wire_count sheet) ≡ t
          → Comes (cond t (refusal NoSchedule (lowest (reaches_itself sheet) (wire_count sheet))) (result (schedule_for sheet)))
      searched sheet read counted true e = looped sheet read counted (lowest-loop sheet (ltb-true _ _ e))
      searched sheet read counted false e =
          let filled = none_filled sheet (checked_well_typed s sheet read) e in
          found sheet read counted (made_schedule sheet filled) (made-lowest sheet filled) (made-least sheet filled)

      lengthed : (sheet : Sheet) → sheet_of s ≡ result sheet → (t : Bool) → eqb (length lent) (wire_count sheet) ≡ t
          → Comes (cond t (unless_any NoSchedule (reaches_itself sheet) (wire_count sheet) (result (schedule_for sheet)))
          (refusal ScheduleLength 0))
      lengthed sheet read true e = searched sheet read (eqb-true (length lent) (wire_count sheet) e) _ refl
      lengthed sheet read false e = sized sheet read (eqb-false (length lent) (wire_count sheet) e)

      go : (x : Outcome Sheet) → sheet_of s ≡ x → Comes (followed_by x (λ sheet. made_of sheet lent))
      go (refusal why place) e = before e
      go (result sheet) e = lengthed sheet e _ refl

  check_number : {why : Refusal} {place : ℕ} → sheet_of s ≡ refusal why place → number_of why ≤ 11
  check_number {why} {place} e = go (rw e at (sheet-of-within s))
    where
      go : OutcomeWithin {A = Sheet} 11 (refusal why place) → number_of why ≤ 11
      go (refusal-within w) = w.number

  no_list : (sheet : Sheet) {place : ℕ} → LowestLoop (Reads sheet) (wire_count sheet) place → NoList sheet
  no_list sheet {place} loop list order passes =
      schedule_acyclic sheet list (passed_schedule sheet list (schedule_passed sheet list order passes).1) place loop.loops

  pub maker_answered : MakerAnswered
  unfolding maker_call
  maker_answered =
      record {
        made = λ depth a. made depth _ refl comes a;
        loops = λ place a. loops place _ comes a;
        refused = λ why place a. refused why place _ comes a;
      }
    where
      made : (depth : ℕ) (x : Outcome Schedule) → maker_outcome s lent ≡ x → Comes x → made_answer x ≡ Ok depth → MadeFor depth
      made depth _ q (before e) a = never (cc)
      made depth _ q (sized sheet read other) a = never (cc)
      made depth _ q (looped sheet read counted loop) a = never (cc)
      made depth _ q (found sheet read counted schedule everywhere least) a =
          let reported : greatest_depth sheet ≡ depth = cc in
          record {
            sheet = sheet;
            read = read;
            counted = counted;
            schedule = rw q schedule;
            lowest = rw q everywhere;
            least = rw q least;
            greatest = sym reported;
            deepest = rw reported at (greatest-deepest sheet (made_list sheet) schedule (passed_check s read).some-wire);
            few = rw reported at (depth-few sheet);
          }

      loops : (place : ℕ) (x : Outcome Schedule) → Comes x → made_answer x ≡ refused_at NoSchedule place → LoopsAt place
      loops place _ (before {why = why} e) a =
          absurd (omega (arith, rw (refused-parts a).0 at (check_number e)))
      loops place _ (sized sheet read other) a = never (cc (refused-parts a).0)
      loops place _ (looped sheet read counted {place = at} loop) a =
          record { sheet = sheet; read = read; counted = counted; loop = rw (refused-parts a).1 at loop; none = no_list sheet loop }
      loops place _ (found sheet read counted schedule everywhere least) a = never (cc)

      refused : (why : Refusal) (place : ℕ) (x : Outcome Schedule) → Comes x → made_answer x ≡ refused_at why place
          → (why ≡ NoSchedule) ⊎ (((why ≡ ScheduleLength) × WrongLength place) ⊎ RefusedSheet why place)
      refused why place _ (before {why = reason} {place = at} e) a =
          let (why-is, place_is) = refused-parts a in
          inr (inr (record { number = rw why-is at (check_number e); refused = rw (e, why-is, place_is) }))
      refused why place _ (sized sheet read other) a =
          inr (inl (sym (refused-parts a).0, record { sheet = sheet; read = read; other = other; first = sym (refused-parts a).1 }))
      refused why place _ (looped sheet read counted loop) a = inl (sym (refused-parts a).0)
      refused why place _ (found sheet read counted schedule everywhere least) a = never (cc)

  -- of a sheet that passes the check, with a lent list of its length, 21 comes exactly if no list passes
  pub refused-exactly : (sheet : Sheet) → sheet_of s ≡ result sheet → length lent ≡ wire_count sheet
      → ((place : ℕ) × ((maker_call s lent).answer ≡ refused_at NoSchedule place)) ↔ NoList sheet
  unfolding maker_call
  refused-exactly sheet read counted = (λ refused. forth refused.0 refused.1, back _ comes)
    where
      same-sheet : {other : Sheet} → sheet_of s ≡ result other → other ≡ sheet
      same-sheet e = same-result (sym e ∙ read)

      forth : (place : ℕ) → made_answer (maker_outcome s lent) ≡ refused_at NoSchedule place → NoList sheet
      forth place a = let at = maker_answered.loops place a in subst NoList (same-sheet at.read) at.none

      back : (x : Outcome Schedule) → Comes x → NoList sheet → (place : ℕ) × (made_answer x ≡ refused_at NoSchedule place)
      back _ (before e) none = never (cc (e, read))
      back _ (sized other e wrong) none = absurd (wrong (rw (same-sheet e) counted))
      back _ (looped other e n {place = place} loop) none = (place, refl)
      back _ (found other e n schedule everywhere least) none =
          let list = made_list other in
          let passes = passes_schedule other list (schedule_passes other list schedule) in
          absurd (subst NoList (sym (same-sheet e)) none list list passes)

  -- demand 3 along the list that was made: the scheduled instant accepts it, and agrees with the rounds
  pub made-agrees : (depth : ℕ) (memory input output other : List ℕ) (given second : Given) → (maker_call s lent).answer ≡ Ok depth
      → given_of s memory input output ≡ result given → given_of s memory input other ≡ result second
      → Demand3 s memory input output other (maker_call s lent).list given
  made-agrees depth memory input output other given second a passes other_passes =
      let made = maker_answered.made depth a in
      let same : made.sheet ≡ given.sheet =
      same-result (sym made.read ∙ (given_by s memory input output given passes).sheet) in
      demand3 s memory input output other (maker_call s lent).list given second passes other_passes
      (subst (λ sheet. IsSchedule sheet (maker_call s lent).list) same made.schedule)

  -- K6 from the maker's answer, whatever the memory and the rows: the rounds are at most one more than the depth that was reported
  pub made_rounds : (depth : ℕ) → (maker_call s lent).answer ≡ Ok depth → (memory input output : List ℕ)
      → RoundsWithin s memory input output depth
  made_rounds depth a memory input output =
      let made = maker_answered.made depth a in
      let list = (maker_call s lent).list in
      let passed = passes_schedule made.sheet list (schedule_passes made.sheet list made.schedule) in
      rw made.greatest (rounds_within-depth s memory input output made.sheet made.read list list passed)

  -- every depth is at most 64 and every place at most 4,096, so that the answer packs
  pub depth-bounded : {depth : ℕ} → (maker_call s lent).answer ≡ Ok depth → depth ≤ 64
  depth-bounded {depth} a =
      let made = maker_answered.made depth a in omega (arith, made.few, (passed_check s made.read).few-wires)

  pub maker_bounded : {why : Refusal} {place : ℕ} → (maker_call s lent).answer ≡ refused_at why place → place ≤ 4096
  unfolding maker_call
  maker_bounded {why} {place} = go _ comes
    where
      go : (x : Outcome Schedule) → Comes x → made_answer x ≡ refused_at why place → place ≤ 4096
      go _ (before {place = at} e) a = rw (refused-parts a).1 at (bounded (rw e at (sheet-of-within s)))
        where
          bounded : {why : Refusal} {at : ℕ} → OutcomeWithin {A = Sheet} 11 (refusal why at) → at ≤ 4096
          bounded (refusal-within w) = w.bounded
      go _ (sized sheet read other) a = omega (arith, (refused-parts a).1)
      go _ (looped sheet read counted {place = at} loop) a =
          omega (arith, (refused-parts a).1, loop.in_range, (passed_check s read).few-wires)
      go _ (found sheet read counted schedule everywhere least) a = never (cc)
