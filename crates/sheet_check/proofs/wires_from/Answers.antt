-- `wires_from` meets its contract: the section of the wires, and what follows it.
use mathlib.Core.Path.{sym}
use mathlib.Core.Bool.{false}
use native.Mathlib.Omega.{arith}
use Rattle.sheet.specs.declared.Refusal.TheVariants.{TypeByte}
use Rattle.sheet.specs.Sheets.{wires_from}
use Rattle.sheet.specs.Laws.Headers.{section_good}
use Rattle.std.proofs.lemmas.Result.{err_from_is_err_and}
use Rattle.sheet_check.proofs.Sections.{span, section-types}
use Rattle.sheet_check.proofs.wires_from.Goals as goal

pub overflow_sub-found : goal.overflow_sub-found
overflow_sub-found c = omega (arith, (section_good c.args.sheet.now c.args.at 1 65 4 false TypeByte (sym c.in_ok-found.ensures)).bytes.next)

pub slice_bounds-outputs_from-end : goal.slice_bounds-outputs_from-end
slice_bounds-outputs_from-end c = (section_good c.args.sheet.now c.args.at 1 65 4 false TypeByte (sym c.in_ok-found.ensures)).bytes.within

pub outputs_from-requires : goal.outputs_from-requires
outputs_from-requires c =
    let p = c.requires in
    let g = section_good c.args.sheet.now c.args.at 1 65 4 false TypeByte (sym c.in_ok-found.ensures) in
    (p.0, rw (span g) (section-types (omega arith) (omega arith) g), p.1)

pub returns-in_err-found : goal.returns-in_err-found
unfolding wires_from
returns-in_err-found c =
    let p = err_from_is_err_and c.from_residual.result c.from_residual.ensures.1 in
    let is = sym c.in_err-found.ensures in
    record { value = rw (p.1, p.2, is); where_got = rw is tt }

pub returns : goal.returns
unfolding wires_from
returns c =
    let good = section_good c.args.sheet.now c.args.at 1 65 4 false TypeByte (sym c.in_ok-found.ensures) in
    let is = sym c.in_ok-found.ensures in
    record {
      value = rw is (rw (span good) at c.outputs_from.ensures.value);
      where_got = rw is (rw (span good) at c.outputs_from.ensures.where_got);
    }
