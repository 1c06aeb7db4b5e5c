-- `store` meets its contract. The loop's invariant: the wires below w have stored their cells.
use mathlib.Core.Path.{refl, ap, ◌∙◌}
use Prim.Native.Nat.{◌<◌}
use native.Mathlib.Omega.{arith}
use lib.ListN.{length}
use Rattle.storing.proofs.Steps.{at-place}
use Rattle.next_memory.proofs.Storing.{unstored, own-fits, ready, one-stored, none-stored, all-stored}
use Rattle.next_memory.proofs.store.Goals as goal

pub loop-w-init : goal.loop-w-init
loop-w-init c = (c.requires.under.running.few, refl, λ f. unstored f)

pub store_own-requires : goal.store_own-requires
store_own-requires c =
    own-fits c.requires (c.loop-w.invariant.2 c.requires) (omega arith) (at-place _ c.place.ensures c.length_of.ensures.0)

pub advance_expression-requires : goal.advance_expression-requires
advance_expression-requires c =
    let f = c.requires in
    rw c.plain.ensures
    (ready f (c.loop-w.invariant.2 f) (omega arith) (at-place _ c.place.ensures c.length_of.ensures.0) c.store_own.ensures)

pub loop-w-preserved : goal.loop-w-preserved
loop-w-preserved c =
    let own = c.store_own in
    let before = c.loop-w.invariant in
    let more : c.loop-w.w < length c.args.types.now = omega arith in
    let is = at-place (record { at = c.place.result; cell = c.length_of.result }) c.place.ensures c.length_of.ensures.0 in (
      before.0,
      elim c.if-may_own.branch [
        | goal.then-may_own w ↦ ap length w.memory-is ∙ w.advance_expression.auto.memory
        | goal.else-may_own w ↦ ap length w.memory-is
      ] ∙ own.auto.memory ∙ before.1,
      λ f.
          let h = before.2 f in
          elim c.if-may_own.branch [
            | goal.then-may_own w ↦
                let can = ready f h more is own.ensures in
                rw w.memory-is
                (one-stored f h more is own.ensures ((rw w.plain.ensures at w.advance_expression.ensures) can))
            | goal.else-may_own w ↦
                rw w.memory-is (none-stored f h more is own.ensures (c.may_own.ensures w.if-may_own.false))
          ],
    )

pub returns : goal.returns
returns c = λ f. all-stored f (c.loop-w.invariant.2 f) (omega arith)
