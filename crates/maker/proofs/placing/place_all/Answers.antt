-- `place_all` meets its contract. The loop's invariant: the positions passed are filled with wires whose depths are noted, and every other
-- wire is in the queue.
use Prim.Native.Nat.{ℕ, ◌≤◌, ◌<◌}
use mathlib.Core.Path.{◌≡◌, refl, sym, ◌∙◌}
use mathlib.Core.List.{[], ◌∷◌, ◌++◌}
use native.Mathlib.Numerals.{add-one}
use native.Mathlib.Omega.{arith}
use lib.ListN.{length, length-set, length-replicate}
use Rattle.sheet_expressions.specs.Sets.{holds_more}
use Rattle.maker.specs.Making.{placed_by}
use Rattle.maker.proofs.Laws.Queue.{in_queue, taken_in_queue, queue_empty, placed-next}
use Rattle.maker.proofs.Noting.{nothing-noted, one-noted}
use Rattle.maker.proofs.Steps.{nobody-waits, first-turn, next-turn, last_turn, ready-parts}
use Rattle.maker.proofs.placing.place_all.Goals as goal

pub loop-p-init : goal.loop-p-init
loop-p-init c = (
  refl,
  refl,
  refl,
  nothing-noted 64,
  λ reads_of held. first-turn reads_of _ _ _ c.none-placed.ensures (c.look_at_all-ready.ensures.by_index reads_of held (nobody-waits 64)),
)

pub returns-in_default-clause-by_index : goal.returns-in_default-clause-by_index
returns-in_default-clause-by_index c =
    let at = c.loop-p in
    let none = rw c.into_iter.ensures.into_iter_gives at c.in_default.ensures.steps in
    λ reads_of held.
    let turn = at.invariant.4 reads_of held in
    last_turn reads_of _ turn (omega arith) (λ l. sym (queue_empty reads_of _ turn.queue none))

pub note-depth-requires : goal.note-depth-requires
note-depth-requires c =
    let at = c.loop-p in
    let took = c.in-Some.ensures.steps in (
      took.below,
      omega (arith, at.invariant.2, length-replicate {A = ℕ} 64 0),
      λ w. omega (arith, at.invariant.3 w, c.loop-p-test.true, c.requires.0),
    )

pub loop-p-preserved : goal.loop-p-preserved
loop-p-preserved c =
    let at = c.loop-p in
    let wire = c.in-Some.wire in
    let took = rw c.into_iter.ensures.into_iter_gives at c.in-Some.ensures.steps in
    let note = c.note-depth.ensures in
    let room : at.p < length at.order = omega (arith, c.requires.0, c.requires.1, at.invariant.0, c.loop-p-test.true) in
    let table : 64 ≤ length at.depths = omega (arith, at.invariant.2, length-replicate {A = ℕ} 64 0) in (
      rw length-set at.invariant.0,
      c.look_again-ready.ensures.waiting_len_unchanged ∙ at.invariant.1,
      note.depths_len_unchanged ∙ at.invariant.2,
      λ w. rw add-one (note.by_index_2 at.p at.invariant.3 w),
      λ reads_of held.
          let wires = c.args.wires in
          let turn = at.invariant.4 reads_of held in
          let found = taken_in_queue reads_of wires turn.queue c.requires.0 took in
          let holds = holds_more wire turn.holds c.with-placed.ensures in
          let left = placed-next reads_of wires turn.queue wire took.present c.without-others.ensures in
          let list = placed_by reads_of wires at.p ++ (wire ∷ []) in
          let (unplaced, ready) = ready-parts reads_of _ wire (in_queue reads_of wires turn.queue wire took.present).1 in
          let written = note.by_index (reads_of wire) (held wire found.0) in
          next-turn reads_of wires wire turn found.1 found.0 room holds (c.look_again-ready.ensures.by_index reads_of wires list held holds left)
          (λ depth is. rw (written.0, written.1) (one-noted is (turn.noting depth is) wire found.0 (omega (arith, table, took.below)) unplaced ready)),
    )

pub returns-clause-by_index : goal.returns-clause-by_index
returns-clause-by_index c =
    let at = c.loop-p in
    let all : at.p ≡ c.args.wires = omega arith in
    λ reads_of held.
    rw all at (last_turn reads_of _ (at.invariant.4 reads_of held) (omega arith) (λ l. absurd (omega arith)))
