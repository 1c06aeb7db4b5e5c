-- `next_line` meets its contract: by where the player stands, on the bytes that are played.
use mathlib.Core.Path.{sym}
use native.Mathlib.Omega.{arith}
use lib.Seq.{length-take-le}
use Rattle.play.proofs.Giving.{own-bytes, own-between, own-gives}
use borrow.Author.Rules.{rules}
use Rattle.play.proofs.next_line.Goals as goal

pub slice_bounds-bytes-end : goal.slice_bounds-bytes-end
slice_bounds-bytes-end c = sym (length-take-le _ _ (omega (arith, c.min-count.ensures)))

pub first_line-requires : goal.first_line-requires
first_line-requires c =
    let kept = length-take-le c.min-count.result c.args.input.now (omega (arith, c.min-count.ensures)) in
    record { few = omega (arith, kept, c.min-count.ensures); cells = search rules; line = search rules }

pub instant_line-requires : goal.instant_line-requires
instant_line-requires c =
    let kept = length-take-le c.min-count.result c.args.input.now (omega (arith, c.min-count.ensures)) in
    record {
      room = record { few = omega (arith, kept, c.min-count.ensures); cells = search rules; line = search rules };
      ready = own-between _ c.args.input.now (own-bytes _ c.args.input.now c.min-count.ensures) c.in-Playing.is c.requires;
    }

pub returns-in-Begin : goal.returns-in-Begin
returns-in-Begin c =
    own-gives _ c.args.input.now (own-bytes _ c.args.input.now c.min-count.ensures) c.in-Begin.is c.args.memory.now c.first_line.ensures

pub returns-in-Playing : goal.returns-in-Playing
returns-in-Playing c =
    own-gives _ c.args.input.now (own-bytes _ c.args.input.now c.min-count.ensures) c.in-Playing.is c.args.memory.now c.instant_line.ensures
