-- `print` ends. The loop's invariant: what holds between two lines. The measure is how many lines are left.
use Rattle.std.proofs.Common.{length}
use Rattle.play.specs.Text.{played}
use Rattle.play.specs.Stages.{lines_left, Between}
use Rattle.player.proofs.print.Given as goal

abbrev pub invariant-loop-line : goal.invariant-loop-line
invariant-loop-line g l = Between (played l.input) l.stage

abbrev pub decreases-loop-line : goal.decreases-loop-line
decreases-loop-line g l = length (lines_left (played l.input) l.stage l.memory)
