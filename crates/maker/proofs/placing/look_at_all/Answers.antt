-- `look_at_all` meets its contract. The loop's invariant: the wires passed were looked at.
use Prim.Native.Nat.{◌+◌}
use mathlib.Core.Path.{◌≡◌, refl, ◌∙◌}
use mathlib.Core.Bool.{true}
use mathlib.Core.List.{[]}
use native.Mathlib.Omega.{arith}
use Rattle.sheet_expressions.specs.Sets.{holds-none}
use Rattle.maker.proofs.Laws.Queue.{queue_left, queue_first}
use Rattle.maker.proofs.Steps.{between, in_between, bounds-between, above}
use Rattle.maker.proofs.placing.look_at_all.Goals as goal

pub loop-wire-init : goal.loop-wire-init
loop-wire-init c = (
  refl,
  λ reads_of held nobody. queue_left reads_of _ (λ x l. in_between 0 _ x (omega arith) l) (λ x i. (bounds-between 0 _ x i).1)
      (queue_first reads_of _ c.none-placed.ensures nobody),
)

pub loop-wire-preserved : goal.loop-wire-preserved
loop-wire-preserved c =
    let at = c.loop-wire in
    let here = c.loop-wire-test.true in
    let wires = c.args.wires in (
      c.look_at-ready.ensures.waiting_len_unchanged ∙ at.invariant.0,
      λ reads_of held nobody. queue_left reads_of _
          (λ x (l : (between at.wire wires x ≡ true) × (x ≡ at.wire → ⊥)).
          let (low, high) = bounds-between at.wire wires x l.0 in in_between (at.wire + 1) wires x (above low l.1) high)
          (λ x i. let (low, high) = bounds-between (at.wire + 1) wires x i in
          (in_between at.wire wires x (omega arith) high, λ e. absurd (omega arith)))
          (c.look_at-ready.ensures.by_index reads_of wires [] (between at.wire wires) (held at.wire here)
          (holds-none c.none-placed.ensures) (in_between at.wire wires at.wire (omega arith) here)
          (at.invariant.1 reads_of held nobody)),
    )

pub returns-clause-by_index : goal.returns-clause-by_index
returns-clause-by_index c =
    let at = c.loop-wire in
    let wires = c.args.wires in
    λ reads_of held nobody. queue_left reads_of _
    (λ x i. let (low, high) = bounds-between at.wire wires x i in absurd (omega arith)) (λ x none. absurd none)
    (at.invariant.1 reads_of held nobody)
