-- `byte_of` meets its contract: marks of up to eight sheets fit a byte.
use Rattle.board_marks.proofs.Bytes.{byte-is}
use borrow.Author.Rules.{rules}
use Rattle.board_marks.proofs.byte_of.Goals as goal

pub returns : goal.returns
returns c n test few just = byte-is _ n test (search rules) few just
