-- `expressions_from` meets its contract: the expressions of the wires, and nothing behind them.
use mathlib.Core.Path.{sym}
use lib.ListN.{length-map}
use borrow.Author.Tests.{lt-ltb, le-ltb}
use Rattle.sheet.specs.Sheets.{read_wires}
use Rattle.sheet_expressions.specs.Map.{WiresLookup}
use Rattle.sheet_expressions.proofs.Steps.{is-refused, is-got}
use Rattle.std.proofs.lemmas.Result.{err_from_is_err_and}
use Rattle.sheet_check.proofs.expressions_from.Goals as goal

pub check_wires-requires : goal.check_wires-requires
check_wires-requires c = let p = c.requires in
    let n = c.of-names.ensures in
    record {
      wires_lookup = (record { inputs = _; naming = n.naming }, p.1, p.2, p.3);
      names_value = n.result_value;
    }

pub returns-then-found-sheet : goal.returns-then-found-sheet
returns-then-found-sheet c = let a = c.args in
    let l : WiresLookup a.wires.now c.of-names.result =
    record { inputs = a.inputs.now; naming = c.of-names.ensures.naming } in
    let run = c.in_ok-found.ensures l in
    let read = is-got (read_wires a.inputs.now a.wires.now a.sheet.now a.at) {n = c.in_ok-found.found.next} {k = c.in_ok-found.found.count} (sym run.answers) in
    record {
      value = rw read.1 (simp (c.at.ensures, lt-ltb _ _ c.if-found-sheet.true));
      drawn = run.drawn;
    }

pub returns-in_err-found : goal.returns-in_err-found
returns-in_err-found c = let a = c.args in
    let l : WiresLookup a.wires.now c.of-names.result =
    record { inputs = a.inputs.now; naming = c.of-names.ensures.naming } in
    let p = err_from_is_err_and c.from_residual.result c.from_residual.ensures.1 in
    let run = c.in_err-found.ensures l in
    let read = is-refused (read_wires a.inputs.now a.wires.now a.sheet.now a.at) (sym run.answers) in
    record {
      value = rw (p.1, p.2, read);
      drawn = run.drawn;
    }

pub returns : goal.returns
returns c = let a = c.args in
    let l : WiresLookup a.wires.now c.of-names.result =
    record { inputs = a.inputs.now; naming = c.of-names.ensures.naming } in
    let run = c.in_ok-found.ensures l in
    let read = is-got (read_wires a.inputs.now a.wires.now a.sheet.now a.at) {n = c.in_ok-found.found.next} {k = c.in_ok-found.found.count} (sym run.answers) in
    record {
      value = rw read.1 (simp (le-ltb _ _ c.if-found-sheet.false, length-map));
      drawn = run.drawn;
    }
