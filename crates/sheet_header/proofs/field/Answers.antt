-- `field` meets its contract, test by test.
use borrow.Author.Tests.{le-leb, lt-leb, le-ltb, lt-ltb}
use Rattle.sheet.specs.Headers.{field_of}
use Rattle.sheet_header.proofs.field.Goals as goal

pub returns-then-sheet-at : goal.returns-then-sheet-at
unfolding field_of
returns-then-sheet-at c = simp (c.at.ensures, le-leb _ _ c.if-sheet-at.true)

pub returns-then-byte-low : goal.returns-then-byte-low
unfolding field_of
returns-then-byte-low c = simp (c.at-then-byte-low.ensures, lt-leb _ _ c.if-sheet-at.false, lt-ltb _ _ c.if-byte-low.true)

pub returns-then-limit-byte : goal.returns-then-limit-byte
unfolding field_of
returns-then-limit-byte c = simp (c.at-then-limit-byte.ensures, lt-leb _ _ c.if-sheet-at.false, le-ltb _ _ c.if-byte-low.false, le-leb _ _ c.if-limit-byte.true)

pub returns : goal.returns
unfolding field_of
returns c = simp (lt-leb _ _ c.if-sheet-at.false, le-ltb _ _ c.if-byte-low.false, lt-leb _ _ c.if-limit-byte.false)
