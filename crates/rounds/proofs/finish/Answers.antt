-- `finish` meets its contract. The loop's invariant: so many rounds were made, each of which changed something, and wires that are not due
-- in the next one would stay as they are.
use Prim.Native.Nat.{ℕ}
use mathlib.Core.Path.{◌≡◌, refl, sym, ◌∙◌}
use mathlib.Core.Bool.{Bool, false, true, true≢false}
use native.Mathlib.Omega.{arith}
use Rattle.wires.specs.Sets.{member, TestsWithin}
use Rattle.wires.specs.Laws.{tally-bound}
use Rattle.readers.proofs.Gathering.{zero-at}
use Rattle.rounds.proofs.Finishing.{unrounded, before_here, more-known, one_more, ended}
use Rattle.rounds.proofs.finish.Goals as goal

-- a round that did not leave the set as it was added a wire
added : {known grown : ℕ} {t : Bool} → TestsWithin grown known t → t ≡ false
    → ((w : ℕ) → member grown w ≡ true → member known w ≡ true) → ⊥
added within left none = true≢false (sym (within.only none) ∙ left)

pub gather-requires : goal.gather-requires
gather-requires c = (c.requires.0.running.few, omega arith, zero-at 64)

pub loop-readers-init : goal.loop-readers-init
loop-readers-init c =
    let room = c.requires.1 in
    (omega arith, λ run. unrounded run refl room c.none-known.ensures c.first-due.ensures)

pub round-grown-requires : goal.round-grown-requires
round-grown-requires c =
    let run = c.requires.0 in
    before_here run (c.loop-readers.invariant.1 run)

pub overflow_add-made : goal.overflow_add-made
overflow_add-made c = let l = c.loop-readers in omega (arith, l.invariant.0, tally-bound (member l.known.bits) 64)

pub returns-then-within : goal.returns-then-within
returns-then-within c = λ run.
    ended run (c.loop-readers.invariant.1 run) c.round-grown.ensures (c.within.ensures.all c.if-within.true)

pub loop-readers-smaller : goal.loop-readers-smaller
loop-readers-smaller c =
    let run = c.requires.0 in
    let grew = more-known run (c.loop-readers.invariant.1 run) c.round-grown.ensures (added c.within.ensures c.if-within.false) in
    omega (arith, grew, tally-bound (member c.round-grown.result.bits) 64)

pub loop-readers-preserved : goal.loop-readers-preserved
loop-readers-preserved c =
    let l = c.loop-readers in
    let run = c.requires.0 in
    let grew = more-known run (l.invariant.1 run) c.round-grown.ensures (added c.within.ensures c.if-within.false) in (
      omega (arith, grew, l.invariant.0),
      λ run. one_more run (l.invariant.1 run) c.round-grown.ensures c.minus.ensures c.gather.ensures c.of_any-due.ensures
          (added c.within.ensures c.if-within.false),
    )
