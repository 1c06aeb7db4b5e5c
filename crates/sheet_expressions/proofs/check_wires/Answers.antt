-- `check_wires` meets its contract. The loop's invariant: the wires passed are drawn, what is left of them reads as all of them do, and the
-- kept wires ahead are those that are left.
use Prim.Native.Nat.{ℕ, ◌+◌, ◌-◌, ◌<◌, ◌≤◌}
use mathlib.Core.Path.{◌≡◌, refl, sym, ◌∙◌}
use mathlib.Core.List.{List}
use native.Mathlib.Omega.{arith}
use lib.ListN.{length, get_or, drop, length-set, drop_of_length-le}
use Rattle.sheet.specs.Readings.{got_at, read_each}
use Rattle.std.specs.Prelude.{Ok}
use Rattle.std.proofs.lemmas.Result.{err_from_is_err_and}
use Rattle.sheet.specs.Sheets.{kept_count, own_cells, read_wire, read_wires}
use Rattle.sheet.proofs.Laws.Wires.{kept-few}
use Rattle.sheet_names.specs.Naming.{Naming}
use Rattle.sheet_names.specs.declared.Names.{Names}
use Rattle.sheet_names.proofs.Numbers.{kept_from}
use Rattle.sheet_own.specs.Own.{Lookup}
use Rattle.sheet_expressions.specs.Map.{run_of}
use Rattle.sheet_expressions.proofs.Steps.{each_good, each-refused, wire-erased}
use Rattle.sheet_expressions.proofs.Noting.{extent}
use Rattle.sheet_expressions.proofs.Drawing.{run-refused, nothing-drawn, wire-drawn, all-drawn}
use Rattle.sheet_expressions.proofs.check_wires.Goals as goal

-- the names by which those of the expressions are looked up
abbrev lookup : {inputs types : List ℕ} {names : Names} → Naming inputs types names → Lookup names
lookup {inputs} {types} naming = record { inputs = inputs; wires = types; naming = naming }

-- behind the wire's own cell
later : (types : List ℕ) {w count ahead after : ℕ} → w < length types → ahead ≡ kept_count (drop w types) → ahead ≤ count
    → after ≡ ahead - own_cells (get_or types w 0) → (after ≡ kept_count (drop (w + 1) types)) × (after ≤ count)
later types more same room e = (omega (arith, kept_from types _ more), omega arith)

pub loop-w-init : goal.loop-w-init
unfolding read_wires
loop-w-init c =
    let a = c.args in
    let p = c.requires in
    let all = c.ahead-count.ensures ∙ p.names_value in (
      (omega arith, omega arith, omega arith),
      p.wires_lookup.3,
      omega (arith, kept-few a.types.now, p.wires_lookup.1.few),
      p.names_value,
      omega (arith, c.ahead-count.ensures),
      λ inputs naming. naming,
      λ l. (
        rw all,
        λ trees n k each. nothing-drawn (run_of l.inputs a.types.now a.sheet.now.now a.at trees n k each) all,
      ),
    )

pub note_kept-requires : goal.note_kept-requires
note_kept-requires c =
    let o = c.loop-w.invariant in
    (omega (arith, o.3, kept_from c.args.types.now c.loop-w.w c.loop-w-test.true), o.4, o.2)

pub check_whole-requires : goal.check_whole-requires
check_whole-requires c =
    let p = c.requires.wires_lookup in
    let o = c.loop-w.invariant in (
      lookup (c.note_kept.ensures.naming _ _ (o.5 _ p.0.naming)),
      omega arith,
      o.2,
      p.2,
      (later c.args.types.now c.loop-w-test.true o.3 o.4 c.note_kept.ensures.ahead).1,
    )

pub returns-in_err-one : goal.returns-in_err-one
returns-in_err-one c = λ l.
    let a = c.args in
    let o = c.loop-w in
    let p = err_from_is_err_and c.from_residual.result c.from_residual.ensures.1 in
    let one = c.in_err-one.ensures (lookup (c.note_kept.ensures.naming _ _ (o.invariant.5 _ l.naming))) in
    let refused = each-refused (read_wire l.inputs a.types.now a.sheet.now.now) a.types.now o.w o.next o.count c.loop-w-test.true
    (sym (wire-erased l.inputs a.types.now a.sheet.now.now _ o.next o.count) ∙ sym one.answers)
    ∙ (o.invariant.6 l).0 in
    rw (p.1, p.2) (record { answers = refused; drawn = run-refused refused })

pub loop-w-preserved : goal.loop-w-preserved
loop-w-preserved c =
    let a = c.args in
    let p = c.requires.wires_lookup in
    let o = c.loop-w in
    let more = c.loop-w-test.true in
    let e : Ok c.in_ok-one.one ≡ got_at c.in_ok-one.one.next c.in_ok-one.one.count = refl in
    let naming : (inputs : List ℕ) → Naming inputs a.types.now a.names.now → Naming inputs a.types.now _ =
    λ inputs n. c.note_kept.ensures.naming inputs a.types.now (o.invariant.5 inputs n) in
    let behind = (extent p.0.inputs a.types.now a.sheet.now.now 16 _ o.next o.count (c.in_ok-one.ensures (lookup (naming _ p.0.naming))) e).1 in
    let (kept, room) = later a.types.now more o.invariant.3 o.invariant.4 c.note_kept.ensures.ahead in
    let few : o.w < 64 = omega (arith, p.1.few) in (
      (simp length-set o.invariant.0.0, simp length-set o.invariant.0.1, simp length-set o.invariant.0.2),
      behind.within,
      behind.limited,
      kept,
      omega (arith, room, behind.counted),
      naming,
      λ l. let one = c.in_ok-one.ensures (lookup (naming _ l.naming)) in (
        each_good (read_wire l.inputs a.types.now a.sheet.now.now) a.types.now o.w o.next o.count more
            (sym (wire-erased l.inputs a.types.now a.sheet.now.now _ o.next o.count) ∙ sym one.answers ∙ e)
            ∙ (o.invariant.6 l).0,
        λ trees n k each. rw c.ahead.ensures (wire-drawn (run_of l.inputs a.types.now a.sheet.now.now a.at trees n k each) more
            (omega (arith, o.invariant.0.0)) (omega (arith, o.invariant.0.1)) (omega (arith, o.invariant.0.2)) o.invariant.3 kept ((o.invariant.6 l).1 trees n k each)
            (c.note_kept.ensures.entered a.sheet.now.now) e c.none-none.ensures one),
      ),
    )

pub returns : goal.returns
unfolding read_each
returns c = λ l.
    let a = c.args in
    let p = c.requires.wires_lookup in
    let o = c.loop-w in
    record {
      answers = rw (drop_of_length-le a.types.now c.loop-w-test.false) at (o.invariant.6 l).0;
      drawn = record {
        maps = λ trees n k each. all-drawn (run_of l.inputs a.types.now a.sheet.now.now a.at trees n k each) p.1.few
            c.loop-w-test.false (omega arith) o.invariant.0.2 ((o.invariant.6 l).1 trees n k each);
      };
    }
