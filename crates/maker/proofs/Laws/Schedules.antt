-- A wire reaches itself by reads within the instant exactly if no list is a schedule: along a schedule positions fall with each read,
-- and where no wire reaches itself the made list is one, with the lowest wire possible at every position.
use Rattle.std.specs.Prelude.{◌≡◌, refl, ℕ, suc, ◌≤◌, ◌<◌, Bool, true, false, not, List, ◌↔◌, ltb, length, take}
use Rattle.std.proofs.Common.{sym, ◌∙◌, lt_of_not-le, arith}
use borrow.Author.Tests.{ltb-true, lt-ltb, not-false}
use Rattle.sheet.specs.Lists.{among, all_among}
use Rattle.sheet.specs.Outcomes.{lowest}
use Rattle.sheet.specs.Sheets.{Sheet}
use Rattle.sheet.specs.Typing.{WellTyped}
use Rattle.sheet.specs.Laws.Lists.{never, neither, every_holds}
use Rattle.closure.specs.Closures.{one, ◌then◌, Tells, lowest_loop, LowestLoop}
use Rattle.closure.specs.Laws.{leads-from, finds-loop, found-lowest}
use Rattle.kernel.specs.Instants.{wire_count}
use Rattle.kernel.specs.Schedules.{entry_at, not_new, too_early, Earlier, IsSchedule}
use Rattle.kernel.proofs.Laws.Reads.{reader-below, reads-below}
use Rattle.kernel.proofs.Laws.Schedules.{passed_schedule, schedule_passes}
use Rattle.maker.specs.Reaching.{reads_of, reads, Reads, Reaches, reaches_itself}
use Rattle.maker.specs.Making.{ready, placed_by, made_list}
use Rattle.maker.proofs.Laws.Making.{placed-length, placed_first, placed_at, LowestReady, lowest-ready, Filled}
use Rattle.maker.proofs.Laws.Making.{stuck-loops, acyclic_filled}

module _ (sheet : Sheet) where
  tells : Tells (reads sheet) (Reads sheet)
  tells = record { says = λ v w e. e; said = λ v w e. e }

  read-from : (v w : ℕ) → Reads sheet v w → v < wire_count sheet
  read-from = reader-below sheet.expressions

  abbrev low : ℕ
  low = lowest (reaches_itself sheet) (wire_count sheet)

  -- the search finds the lowest wire that reaches itself
  pub lowest-loop : low < wire_count sheet → LowestLoop (Reads sheet) (wire_count sheet) low
  unfolding reaches_itself lowest_loop
  lowest-loop = found-lowest tells (wire_count sheet) read-from

  loop-low : (w : ℕ) → Reaches sheet w w → low < wire_count sheet
  unfolding reaches_itself lowest_loop
  loop-low = finds-loop tells (wire_count sheet) read-from

  pub no_loop : ltb low (wire_count sheet) ≡ false → (w : ℕ) → Reaches sheet w w → ⊥
  no_loop e w r = never (cc (e, lt-ltb low (wire_count sheet) (loop-low w r)))

  -- A schedule rules out that a wire reaches itself: positions fall along reads.
  module _ (list : List ℕ) (schedule : IsSchedule sheet list) where
    falls : {v w : ℕ} → Reaches sheet v w → (p : ℕ) → p < length list → entry_at list p ≡ v → Earlier list p w
    falls (one {v} {w} e) p l at = every_holds {P = Earlier list p} w (schedule.ordered p l) (rw at e)
    falls (◌then◌ {u} {v} {w} e r) p l at =
        let next = every_holds {P = Earlier list p} v (schedule.ordered p l) (rw at e) in
        let rest = falls r next.position (omega (arith, next.before)) next.names in
        record { position = rest.position; before = omega (arith, rest.before, next.before); names = rest.names }

    -- the wire at each position is ready there
    pub schedule_ready : (p : ℕ) → p < wire_count sheet → ready (reads_of sheet) (take p list) (entry_at list p) ≡ true
    unfolding ready not_new too_early
    schedule_ready p l =
        let passed = schedule_passes sheet list schedule in
        let (_, new) = neither (not (ltb (entry_at list p) (wire_count sheet))) (among (entry_at list p) (take p list)) (passed.new p l) in
        rw (new, not-false (all_among (reads_of sheet (entry_at list p)) (take p list)) (passed.ordered p l))

    pub schedule_acyclic : (w : ℕ) → Reaches sheet w w → ⊥
    schedule_acyclic w r =
        let here = schedule.named w (leads-from tells (wire_count sheet) read-from r) in
        let earlier = falls r here.position here.before here.names in
        schedule.once earlier.position here.position earlier.before here.before (earlier.names ∙ sym here.names)

  -- at every position of a list stands the lowest wire that is ready there
  abbrev pub LowestEverywhere : List ℕ → Type 0
  LowestEverywhere list =
      (p : ℕ) → p < wire_count sheet → LowestReady (reads_of sheet) (wire_count sheet) (take p list) (entry_at list p)

  -- a schedule that begins as the list does goes on with no lower wire
  abbrev pub LeastEverywhere : List ℕ → Type 0
  LeastEverywhere list =
      (other : List ℕ) → IsSchedule sheet other → (p : ℕ) → p < wire_count sheet → take p other ≡ take p list
      → entry_at list p ≤ entry_at other p

  pub made-length : length (made_list sheet) ≡ wire_count sheet
  unfolding made_list
  made-length = placed-length (reads_of sheet) (wire_count sheet) (wire_count sheet)

  -- The made list, where each of its positions is filled.
  module _ (filled : Filled (reads_of sheet) (wire_count sheet) (wire_count sheet)) where
    pub made-lowest : LowestEverywhere (made_list sheet)
    unfolding made_list
    made-lowest p l =
        let n = wire_count sheet in
        let k = placed-length (reads_of sheet) n p in
        rw (placed_first (reads_of sheet) n p n (omega arith), placed_at (reads_of sheet) n p n l)
        (lowest-ready (reads_of sheet) n (placed_by (reads_of sheet) n p) (filled p l))

    pub made_schedule : IsSchedule sheet (made_list sheet)
    unfolding not_new too_early
    made_schedule =
        passed_schedule sheet (made_list sheet)
        (record {
          counted = made-length;
          new = λ p l. let at = made-lowest p l in rw (lt-ltb _ _ at.is_wire, at.unplaced);
          ordered = λ p l. rw (made-lowest p l).reads_placed;
        })

    -- of all schedules that begin as it does, none has a lower wire at the next position
    pub made-least : LeastEverywhere (made_list sheet)
    made-least list schedule p l same =
        let least : entry_at (made_list sheet) p < suc (entry_at list p) =
        lt_of_not-le (λ (lower : entry_at list p < entry_at (made_list sheet) p).
        never (cc ((made-lowest p l).lower (entry_at list p) lower, rw same at (schedule_ready list schedule p l)))) in
        omega arith

    pub filled_none : ltb low (wire_count sheet) ≡ false
    filled_none = go (ltb low (wire_count sheet)) refl
      where
        go : (t : Bool) → ltb low (wire_count sheet) ≡ t → t ≡ false
        go false e = refl
        go true e =
            absurd (schedule_acyclic (made_list sheet) made_schedule low (lowest-loop (ltb-true low (wire_count sheet) e)).loops)

  -- A sheet that passed the check.
  module _ (typed : WellTyped sheet) where
    pub none_filled : ltb low (wire_count sheet) ≡ false → Filled (reads_of sheet) (wire_count sheet) (wire_count sheet)
    none_filled e = acyclic_filled (reads_of sheet) (wire_count sheet) (reads-below sheet typed) (no_loop e)

    pub stuck-low : (placed : List ℕ) → length placed < wire_count sheet
        → ((w : ℕ) → w < wire_count sheet → ready (reads_of sheet) placed w ≡ false) → low < wire_count sheet
    stuck-low placed few none =
        let (w, r) = stuck-loops (reads_of sheet) (wire_count sheet) (reads-below sheet typed) placed few none in loop-low w r

    -- a wire reaches itself exactly if no list is a schedule
    pub loop-exactly : ((w : ℕ) × Reaches sheet w w) ↔ ((list : List ℕ) → IsSchedule sheet list → ⊥)
    loop-exactly = (λ loop list schedule. schedule_acyclic list schedule loop.0 loop.1, go (ltb low (wire_count sheet)) refl)
      where
        go : (t : Bool) → ltb low (wire_count sheet) ≡ t → ((list : List ℕ) → IsSchedule sheet list → ⊥) → (w : ℕ) × Reaches sheet w w
        go true e none = (low, (lowest-loop (ltb-true low (wire_count sheet) e)).loops)
        go false e none = absurd (none (made_list sheet) (made_schedule (none_filled e)))
