-- `probe_join` meets its contract: the answer of the join, packed, and its buffer.
use mathlib.Core.Path.{sym, subst}
use Rattle.join.specs.Calls.{PackableJoining}
use Rattle.join.proofs.Laws.Calls.{join_packable}
use Rattle.probe.proofs.probe_join.Goals as goal

pub packed-requires : goal.packed-requires
packed-requires c = subst PackableJoining (sym c.join-answer.ensures.answers) (join_packable _ _ _)
