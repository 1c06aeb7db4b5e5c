-- `instant_line` meets its contract: by whether an instant is due.
use Rattle.play.proofs.Giving.{final}
use Rattle.play.proofs.Instants.{left-text}
use Rattle.play.proofs.instant_line.Goals as goal

pub returns-then-progress-eq0 : goal.returns-then-progress-eq0
returns-then-progress-eq0 c =
    final c.final_line.ensures c.left_line.ensures
    (left-text c.args.bytes.now c.args.progress c.args.memory.now c.if-progress-eq0.true)
