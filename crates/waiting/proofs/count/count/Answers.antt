-- `count` meets its contract.
use Rattle.std.proofs.Common.{rules}
use mathlib.Core.Path.{ap, ◌∙◌}
use native.Mathlib.Omega.{arith}
use lib.ListN.{get_or}
use Rattle.sheet.specs.Kinds.{body_of, cells_of, count_of, read_count_of}
use Rattle.expression.proofs.Views.{opened}
use Rattle.waiting.proofs.Counting.{Strict, reads-few, strict-counts}
use Rattle.waiting.proofs.count.count.Goals as goal

pub of-kind-requires : goal.of-kind-requires
of-kind-requires c = (opened c.requires.placed.1).good.kind

pub overflow_add-result-in_default : goal.overflow_add-result-in_default
overflow_add-result-in_default c = omega (arith, (opened c.requires.placed.1).good.ends, c.body.ensures ∙ ap body_of c.of-kind.ensures)

pub overflow_add-result-in_default-2 : goal.overflow_add-result-in_default-2
overflow_add-result-in_default-2 c = omega (arith, (opened c.requires.placed.1).good.cells, c.cells.ensures ∙ ap cells_of c.of-kind.ensures)

pub returns-in_default : goal.returns-in_default
returns-in_default c =
    let s : Strict (get_or c.args.basis.now.sheet.now c.args.here.at 0) = record {
      not-present = search rules;
      not-reset = search rules;
      not-fby = search rules;
      not-machine = search rules;
    } in
    let read = c.read_operands-operands.ensures ∙ ap read_count_of c.of-kind.ensures in
    λ t p. strict-counts p c.args.fresh c.requires.bound s (c.body.ensures ∙ ap body_of c.of-kind.ensures)
    (c.cells.ensures ∙ ap cells_of c.of-kind.ensures) read
    (omega (arith, reads-few _ (opened c.requires.placed.1).good.kind, c.operands.ensures ∙ ap count_of c.of-kind.ensures, read))
