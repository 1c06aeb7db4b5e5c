-- `check_sheets` meets its contract. The loop's invariant: the sheets passed are read, and their parts are in the tables.
use Rattle.board_check.proofs.Walking.{Walking}
use Rattle.board_check.proofs.check_sheets.Given as goal

abbrev pub invariant-loop-k : goal.invariant-loop-k
invariant-loop-k l =
    Walking l.board l.sheets l.wanted l.k l.here l.span l.forms l.types
