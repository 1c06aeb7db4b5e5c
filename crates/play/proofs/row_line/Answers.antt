-- `row_line` meets its contract: the instant in rounds answers for the row, and one instant fewer is due.
use mathlib.Core.Path.{sym, ◌∙◌}
use mathlib.Core.List.{◌++◌}
use native.Mathlib.Omega.{arith}
use lib.ListN.{drop}
use lib.Seq.{length_front, length-take-le}
use Rattle.kernel.proofs.Laws.Answers.{rounds_refusals}
use Rattle.play.specs.Text.{zeros}
use Rattle.play.proofs.Giving.{final}
use Rattle.play.proofs.Instants.{row_fits, refused-text, accepted-line}
use borrow.Author.Rules.{rules}
use Rattle.play.proofs.row_line.Goals as goal

pub overflow_add-next : goal.overflow_add-next
overflow_add-next c =
    let within = row_fits c.args.bytes.now c.args.progress c.requires.ready.0 c.requires.ready.1 in
    record { fits = omega (arith, within, c.requires.room.few) }

pub slice_bounds-instant-end-3 : goal.slice_bounds-instant-end-3
slice_bounds-instant-end-3 c = sym (length-take-le _ _ (omega (arith, c.requires.ready.0.memory, c.requires.room.cells)))

pub slice_bounds-instant-end-5 : goal.slice_bounds-instant-end-5
slice_bounds-instant-end-5 c = sym (length-take-le _ _ c.requires.ready.0.output)

pub refused_line-requires : goal.refused_line-requires
refused_line-requires c =
    (search rules, (rounds_refusals _ _ _ _ (sym c.instant.ensures.answers ∙ c.in-Err.is)).1)

pub slice_bounds-output-end-in-Ok : goal.slice_bounds-output-end-in-Ok
slice_bounds-output-end-in-Ok c =
    omega (
      arith,
      length_front (zeros 64) c.instant.new.output c.args.progress.output c.instant.auto.output,
      c.requires.ready.0.output,
    )

pub slice_bounds-row_line-end : goal.slice_bounds-row_line-end
slice_bounds-row_line-end c =
    let room = length_front (zeros 64) c.instant.new.output c.args.progress.output c.instant.auto.output in
    sym (length-take-le _ _ (omega (arith, room, c.requires.ready.0.output)))

pub row_line-size-requires : goal.row_line-size-requires
row_line-size-requires c =
    let room = length_front (zeros 64) c.instant.new.output c.args.progress.output c.instant.auto.output in
    record {
      in_bounds = search rules;
      output_len_bound = omega (
        arith,
        length-take-le c.args.progress.output (c.instant.new.output ++ drop c.args.progress.output (zeros 64)) (omega (arith, room, c.requires.ready.0.output)),
        c.requires.ready.0.output,
      );
    }

pub next_instant-progress-requires : goal.next_instant-progress-requires
next_instant-progress-requires c =
    let within = row_fits c.args.bytes.now c.args.progress c.requires.ready.0 c.requires.ready.1 in
    (c.requires.ready.1, omega (arith, c.requires.ready.1, c.requires.ready.0.turns), omega (arith, within, c.requires.room.few))

pub returns-in-Err : goal.returns-in-Err
returns-in-Err c =
    final c.final_line.ensures c.refused_line.ensures
    (refused-text c.args.bytes.now c.args.progress c.requires.ready.0 c.requires.ready.1 c.args.memory.now
    c.sheet_length-end.ensures.value c.instant.ensures c.in-Err.is)

pub returns-in-Ok : goal.returns-in-Ok
returns-in-Ok c =
    accepted-line c.args.bytes.now c.args.progress c.requires.ready.0 c.requires.ready.1 c.args.memory.now
    c.sheet_length-end.ensures.value c.instant.ensures c.in-Ok.is
    c.requires.room.cells
    c.instant.auto.memory c.instant.auto.output c.next_instant-progress.ensures c.row_line-size.ensures
