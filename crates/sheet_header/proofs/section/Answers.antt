-- `section` meets its contract: its count, then its bytes.
use Rattle.std.proofs.lemmas.Result.{err_from_is_err_and}
use Rattle.sheet.specs.Headers.{section_of}
use Rattle.sheet_header.proofs.section.Goals as goal

pub returns-in_err-counted : goal.returns-in_err-counted
unfolding section_of
returns-in_err-counted c =
    let p = err_from_is_err_and c.from_residual.result c.from_residual.ensures.1 in rw (p.1, p.2, ← c.in_err-counted.ensures)

pub returns : goal.returns
unfolding section_of
returns c = rw (← c.in_ok-counted.ensures) c.bytes.ensures
