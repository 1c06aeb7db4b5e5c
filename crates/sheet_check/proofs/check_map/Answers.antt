-- `check_map` meets its contract: the length, the section of the inputs, and what follows it.
use mathlib.Core.Path.{◌≡◌, sym, ◌∙◌}
use Prim.Native.Nat.{ℕ, ◌≤◌}
use mathlib.Core.Bool.{false}
use mathlib.Core.List.{List}
use lib.ListN.{length}
use Rattle.sheet.specs.Headers.{section_of}
use native.Mathlib.Omega.{arith}
use borrow.Author.Tests.{eq-eqb, ne_eqb, lt-ltb, le-ltb}
use Rattle.sheet.specs.declared.Refusal.TheVariants.{TypeByte}
use Rattle.sheet.specs.Sheets.{before, wires_from, read_sheet}
use Rattle.sheet.specs.Laws.Headers.{section_good}
use Rattle.sheet.specs.Laws.Readings.{not_good}
use Rattle.std.proofs.lemmas.Result.{err_from_is_err_and}
use Rattle.sheet_check.proofs.Sections.{span, section-types, sheet_mapped}
use Rattle.sheet_check.proofs.check_map.Goals as goal
use Rattle.sheet.specs.Readings.{got_at}

-- the bytes read as the rest from the wires on does
reads : (s : List ℕ) {n k : ℕ} → (length s ≡ 0 → ⊥) → length s ≤ 4096 → section_of s 0 0 17 2 false TypeByte ≡ got_at n k
    → read_sheet s ≡ wires_from s (before s n k) n
unfolding read_sheet
reads s some few e = simp (ne_eqb _ _ some, le-ltb _ _ few, e)

pub returns-then-sheet-eq0 : goal.returns-then-sheet-eq0
unfolding read_sheet
returns-then-sheet-eq0 c = record {
  value = simp (c.at.ensures, eq-eqb _ _ c.if-sheet-eq0.true);
  mapped = λ sheet n k v. absurd (omega (arith, c.if-sheet-eq0.true, v.some_byte));
}

pub returns-then-sheet-gt4096 : goal.returns-then-sheet-gt4096
unfolding read_sheet
returns-then-sheet-gt4096 c = record {
  value = simp (c.at-then-sheet-gt4096.ensures, ne_eqb _ _ c.if-sheet-eq0.false, lt-ltb _ _ c.if-sheet-gt4096.true);
  mapped = λ sheet n k v. absurd (omega (arith, c.if-sheet-gt4096.true, v.few_bytes));
}

pub overflow_sub-found : goal.overflow_sub-found
overflow_sub-found c = omega (arith, (section_good c.args.sheet.now 0 0 17 2 false TypeByte (sym c.in_ok-found.ensures)).bytes.next)

pub slice_bounds-wires_from-end : goal.slice_bounds-wires_from-end
slice_bounds-wires_from-end c = (section_good c.args.sheet.now 0 0 17 2 false TypeByte (sym c.in_ok-found.ensures)).bytes.within

pub wires_from-requires : goal.wires_from-requires
wires_from-requires c =
    let g = section_good c.args.sheet.now 0 0 17 2 false TypeByte (sym c.in_ok-found.ensures) in (
      rw (span g) (section-types (omega arith) (omega arith) g),
      omega (arith, c.if-sheet-gt4096.false),
    )

pub returns-in_err-found : goal.returns-in_err-found
unfolding read_sheet
returns-in_err-found c =
    let p = err_from_is_err_and c.from_residual.result c.from_residual.ensures.1 in
    let refused = sym c.in_err-found.ensures in
    record {
      value = rw (p.1, p.2) (simp (
        ne_eqb _ _ c.if-sheet-eq0.false,
        le-ltb _ _ c.if-sheet-gt4096.false,
        refused,
      ));
      mapped = λ sheet n k v. not_good (sym refused ∙ v.inputs);
    }

pub returns : goal.returns
returns c = let good = section_good c.args.sheet.now 0 0 17 2 false TypeByte (sym c.in_ok-found.ensures) in
    record {
      value = rw (reads c.args.sheet.now c.if-sheet-eq0.false c.if-sheet-gt4096.false (sym c.in_ok-found.ensures)) (rw (span good) at c.wires_from.ensures.value);
      mapped = λ sheet n k v.
          sheet_mapped v (sym c.in_ok-found.ensures) (rw (span good) at c.wires_from.ensures.where_got);
    }
