-- `note_kept` meets its contract: the entry that is stored is that of the wire's own cell, and a wire that is not kept has none.
use native.Mathlib.Nat.{sub-zero}
use borrow.Author.Tests.{le-leb, lt-leb}
use Rattle.sheet_expressions.proofs.Noting.{entered-none, kept-entered}
use Rattle.sheet_expressions.proofs.note_kept.Goals as goal

pub returns-then-byte-ge2 : goal.returns-then-byte-ge2
returns-then-byte-ge2 c =
    let kept = le-leb _ _ c.if-byte-ge2.true in
    record {
      entered = λ s. kept-entered c.args.byte kept (rw c.ahead.ensures);
      ahead = rw kept c.pass_kept.ensures.names_after;
      naming = c.pass_kept.ensures.by_index;
    }

pub returns-else-byte-ge2 : goal.returns-else-byte-ge2
returns-else-byte-ge2 c =
    let other = lt-leb _ _ c.if-byte-ge2.false in
    record { entered = λ s. rw other entered-none; ahead = rw (other, sub-zero); naming = λ inputs wires n. n }
