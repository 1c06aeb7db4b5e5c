-- `serve_anew` meets its contract: a sheet's memory has at most 320 bytes.
use mathlib.Core.Path.{sym}
use lib.Seq.{length-take-le}
use Rattle.board_serving.proofs.Anew.{part-few}
use Rattle.board_serving.proofs.serve_anew.Goals as goal

pub slice_bounds-fresh-end : goal.slice_bounds-fresh-end
slice_bounds-fresh-end c = part-few c.requires

pub slice_bounds-run_anew-end : goal.slice_bounds-run_anew-end
slice_bounds-run_anew-end c = sym (length-take-le _ _ (part-few c.requires))

pub run_anew-requires : goal.run_anew-requires
run_anew-requires c = (c.requires, length-take-le _ _ (part-few c.requires))
