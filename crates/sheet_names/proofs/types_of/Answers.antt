-- `types_of` meets its contract: the loop keeps the sets of the numbers and of the kept ones among the names passed, and the count.
use mathlib.Core.Path.{refl}
use native.Mathlib.Nat.{add-zero}
use native.Mathlib.Omega.{arith}
use borrow.Author.Tests.{eq-eqb, ne_eqb, le-leb, lt-leb}
use lib.ListN.{drop_of_length-le}
use Rattle.sheet.specs.Data.{is_kept}
use Rattle.sheet.specs.Sheets.{kept_count}
use Rattle.sheet.proofs.Laws.Wires.{kept-few}
use Rattle.sheet_names.proofs.Numbers.{name-added, name-passed, all-before, kept-counted}
use Rattle.sheet_names.proofs.types_of.Invariants.{is_number}
use Rattle.sheet_names.proofs.types_of.Goals as goal

pub overflow_add-count : goal.overflow_add-count
overflow_add-count c =
    omega (arith, c.loop-i.invariant.2, kept-few c.args.types.now, c.requires)

pub loop-i-preserved : goal.loop-i-preserved
loop-i-preserved c =
    let at = c.loop-i in
    let turn = c.loop-i-test.true in (
      elim c.if-types-i-eq1.branch [ goal.then-types-i-eq1 w ↦ rw w.numbers-is (name-added is_number _ at.invariant.0 w.with-numbers.ensures (eq-eqb _ _ w.if-types-i-eq1.true)) | goal.else-types-i-eq1 w ↦ rw w.numbers-is (name-passed is_number _ at.invariant.0 (ne_eqb _ _ w.if-types-i-eq1.false)) ],
      elim c.if-types-i-ge2.branch [ goal.then-types-i-ge2 w ↦ rw w.kept-is (name-added is_kept _ at.invariant.1 w.with-kept.ensures (le-leb _ _ w.if-types-i-ge2.true)) | goal.else-types-i-ge2 w ↦ rw w.kept-is (name-passed is_kept _ at.invariant.1 (lt-leb _ _ w.if-types-i-ge2.false)) ],
      elim c.if-types-i-ge2.branch [ goal.then-types-i-ge2 w ↦ rw w.count-is (kept-counted _ at.i at.count turn (le-leb _ _ w.if-types-i-ge2.true) at.invariant.2) | goal.else-types-i-ge2 w ↦ rw w.count-is (rw add-zero at (kept-counted _ at.i at.count turn (lt-leb _ _ w.if-types-i-ge2.false) at.invariant.2)) ],
    )

pub returns : goal.returns
unfolding kept_count
returns c =
    let at = c.loop-i in
    let over = c.loop-i-test.false in
    record {
      numbers = all-before is_number _ refl over at.invariant.0;
      kept = all-before is_kept _ refl over at.invariant.1;
      counted = rw (drop_of_length-le _ over, add-zero) at at.invariant.2;
    }
