-- `value_pre` meets its contract.
use mathlib.Core.Path.{ap, ◌∙◌}
use native.Mathlib.Omega.{arith}
use Rattle.sheet.specs.Kinds.{body_of}
use Rattle.expression.proofs.Views.{opened, whole, readable, pre-view, own-cell}
use Rattle.expression.proofs.Answers.{pre-answer}
use Rattle.expression.proofs.value.value_pre.Goals as goal

pub overflow_add-operand-3 : goal.overflow_add-operand-3
overflow_add-operand-3 c = omega (arith, (opened c.requires.placed.1).good.cells)

pub pre_word-requires : goal.pre_word-requires
pre_word-requires c =
    let p = c.requires in
    (whole p.placed.1, (own-cell p.placed.1 p.bound.0 (omega (arith, p.bound.1))).stands.fits)

pub skip-requires : goal.skip-requires
skip-requires c =
    let p = c.requires in
    rw (c.body.ensures ∙ ap body_of c.of.ensures) (readable p.placed.1 (pre-view p.placed.1 p.bound.0 p.bound.1).first)

pub returns : goal.returns
returns c =
    λ t p. pre-answer p c.args.fresh c.requires.bound.0 c.requires.bound.1 (c.body.ensures ∙ ap body_of c.of.ensures)
    c.pre_word.ensures c.skip.ensures
