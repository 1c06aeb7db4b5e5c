-- `outputs_from` meets its contract: the section of the outputs, and what follows it.
use mathlib.Core.Path.{sym}
use mathlib.Core.Bool.{true}
use native.Mathlib.Omega.{arith}
use lib.ListN.{length}
use Rattle.sheet.specs.declared.Refusal.TheVariants.{OutputWire}
use Rattle.sheet.specs.Sheets.{outputs_from}
use Rattle.sheet.specs.Laws.Headers.{section_good}
use Rattle.std.proofs.lemmas.Result.{err_from_is_err_and}
use Rattle.sheet_check.proofs.Sections.{span}
use Rattle.sheet_check.proofs.outputs_from.Goals as goal

pub overflow_sub-found : goal.overflow_sub-found
overflow_sub-found c = omega (arith, (section_good c.args.sheet.now c.args.at 1 17 (length c.args.wires.now) true OutputWire (sym c.in_ok-found.ensures)).bytes.next)

pub slice_bounds-expressions_from-end : goal.slice_bounds-expressions_from-end
slice_bounds-expressions_from-end c = (section_good c.args.sheet.now c.args.at 1 17 (length c.args.wires.now) true OutputWire (sym c.in_ok-found.ensures)).bytes.within

pub expressions_from-requires : goal.expressions_from-requires
expressions_from-requires c =
    let p = c.requires in
    (p.0, p.1, p.2, (section_good c.args.sheet.now c.args.at 1 17 (length c.args.wires.now) true OutputWire (sym c.in_ok-found.ensures)).bytes.within)

pub returns-in_err-found : goal.returns-in_err-found
unfolding outputs_from
returns-in_err-found c =
    let p = err_from_is_err_and c.from_residual.result c.from_residual.ensures.1 in
    let is = sym c.in_err-found.ensures in
    record { value = rw (p.1, p.2, is); where_got = rw is tt }

pub returns : goal.returns
unfolding outputs_from
returns c =
    let good = section_good c.args.sheet.now c.args.at 1 17 (length c.args.wires.now) true OutputWire (sym c.in_ok-found.ensures) in
    let is = sym c.in_ok-found.ensures in
    record {
      value = rw is (rw (span good) at c.expressions_from.ensures.value);
      where_got = rw is c.expressions_from.ensures.drawn;
    }
