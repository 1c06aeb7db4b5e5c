-- `serve` meets its contract: restarted or not.
use Rattle.board_serving.proofs.Anew.{as_instant}
use Rattle.board_serving.proofs.serve.Goals as goal

pub returns : goal.returns
returns c = rw c.if-restarts.false (as_instant _ _ _ _ c.instant.ensures)
