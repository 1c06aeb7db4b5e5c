-- `make_list` meets its contract: 17, then 21 where a wire was left out, and else the list.
use mathlib.Core.Path.{◌≡◌}
use native.Mathlib.Omega.{arith}
use Rattle.maker.specs.Reaching.{reads_of, reads as readsTest}
use Rattle.maker.proofs.Steps.{held_rows, refused_17, refused_21, made}
use Rattle.maker.proofs.make_list.Goals as goal

pub returns-then-list-wires : goal.returns-then-list-wires
returns-then-list-wires c s typed are held = rw c.at.ensures (refused_17 s _ _ are c.if-list-wires.true)

pub returns-then-positions-wires : goal.returns-then-positions-wires
returns-then-positions-wires c s typed are held =
    let placed = c.place_all-positions.ensures.by_index (reads_of s) held in
    rw (c.at-then-positions-wires.ensures, c.lowest_loop.ensures (readsTest s) (held_rows s held))
    (refused_21 s _ _ are c.if-list-wires.false placed typed c.if-positions-wires.true)

pub returns : goal.returns
returns c s typed are held =
    let placed = c.place_all-positions.ensures.by_index (reads_of s) held in
    let all : c.place_all-positions.result.filled ≡ c.args.wires = omega (arith, placed.few, c.if-positions-wires.false) in
    rw c.copy_from_slice.ensures.after (made s _ _ are c.if-list-wires.false placed all)
