-- `awaited_leaf` meets its contract.
use Prim.Native.Nat.{◌+◌}
use Rattle.std.proofs.Common.{rules, ◌≡◌}
use mathlib.Core.Path.{sym, ap, ◌∙◌}
use native.Mathlib.Omega.{arith}
use lib.ListN.{get_or}
use Rattle.sheet.specs.Kinds.{body_of}
use Rattle.sheet.specs.KindBytes.{byte_of}
use Rattle.leaves.proofs.Leaves.{two_bytes, wire-byte}
use Rattle.expression.proofs.Views.{opened, leaf-of}
use Rattle.waiting.proofs.Walking.{itself, no-wire}
use Rattle.waiting.proofs.awaited.awaited_leaf.Goals as goal

pub bounds-basis-here : goal.bounds-basis-here
bounds-basis-here c = (opened c.requires.placed.1).good.starts

pub overflow_add-end : goal.overflow_add-end
overflow_add-end c = omega (arith, (opened c.requires.placed.1).good.starts)

pub overflow_add-end-2 : goal.overflow_add-end-2
overflow_add-end-2 c = omega (arith, (opened c.requires.placed.1).good.ends, c.body.ensures ∙ ap body_of c.of-kind.ensures)

pub bounds-basis-here-in-Wire : goal.bounds-basis-here-in-Wire
bounds-basis-here-in-Wire c = omega (arith, two_bytes (leaf-of c.requires.placed.1 c.requires.at_bound))

pub with-requires : goal.with-requires
with-requires c = wire-byte (leaf-of c.requires.placed.1 c.requires.at_bound) (sym c.of-kind.ensures ∙ ap byte_of c.in-Wire.is)

pub returns-in-Wire : goal.returns-in-Wire
returns-in-Wire c =
    λ asked p. itself p c.args.fresh c.requires.at_bound (ap (λ n. c.args.here.at + 1 + n) (c.body.ensures ∙ ap body_of c.of-kind.ensures))
    (sym c.of-kind.ensures ∙ ap byte_of c.in-Wire.is) _ _
    c.none-none.ensures c.with.ensures c.minus-wires.ensures

pub returns-in_default : goal.returns-in_default
returns-in_default c =
    let other : get_or c.args.basis.now.sheet.now c.args.here.at 0 ≡ 2 → ⊥ = search rules in
    λ asked p. no-wire p c.args.fresh c.requires.at_bound (ap (λ n. c.args.here.at + 1 + n) (c.body.ensures ∙ ap body_of c.of-kind.ensures))
    other c.none-none.ensures
