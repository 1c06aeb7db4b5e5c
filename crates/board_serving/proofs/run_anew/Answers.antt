-- `run_anew` meets its contract, refused or accepted.
use Rattle.std.proofs.lemmas.Result.{err_from_is_err_and}
use Rattle.board_serving.proofs.Anew.{anew-refused, anew-accepted}
use Rattle.board_serving.proofs.run_anew.Goals as goal

pub returns-in_err-rounds : goal.returns-in_err-rounds
returns-in_err-rounds c =
    let p = err_from_is_err_and c.from_residual.result c.from_residual.ensures.1 in
    rw (p.1, p.2)
    (anew-refused c.requires.0 _ _ _ c.requires.1 c.start.ensures.memory_after c.instant.ensures c.in_err-rounds.was)

pub returns : goal.returns
returns c =
    anew-accepted c.requires.0 _ _ _ c.requires.1 c.start.ensures.memory_after c.instant.ensures c.in_ok-rounds.was
    c.copy_from_slice.ensures.after
