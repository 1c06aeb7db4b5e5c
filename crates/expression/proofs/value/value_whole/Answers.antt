-- `value_whole` meets its contract.
use Rattle.std.proofs.Common.{false, sym, ◌∙◌}
use borrow.Author.Tests.{ltb-true}
use Rattle.expression.proofs.Views.{opened, leaf-of}
use Rattle.expression.proofs.Answers.{leaf_yields}
use Rattle.expression.proofs.value.value_whole.Goals as goal

pub bounds-basis-here : goal.bounds-basis-here
bounds-basis-here c = (opened c.requires.1).good.starts

pub of-requires : goal.of-requires
of-requires c = (opened c.requires.1).good.kind

pub value_leaf-requires : goal.value_leaf-requires
value_leaf-requires c = leaf-of c.requires.1 (rw (← c.of.ensures) (ltb-true _ _ (sym c.is_leaf.ensures ∙ c.if-is_leaf.true)))

pub returns-then-is_leaf : goal.returns-then-is_leaf
returns-then-is_leaf c = λ t p.
    leaf_yields p false (rw (← c.of.ensures) (ltb-true _ _ (sym c.is_leaf.ensures ∙ c.if-is_leaf.true))) c.value_leaf.ensures c.ok.ensures.value
