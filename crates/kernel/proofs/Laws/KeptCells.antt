-- Document 02, K7, from the answer of the call: each accepted instant stores a kept wire's value in the wire's cell, whatever resets and
-- arms its expression has, and kind 18 gives it in the next instant, fresh or not.
use Rattle.std.specs.Prelude.{Ok, ℕ, suc, ◌+◌, ◌<◌, ◌≡◌, refl, Bool, true, List, ◌∷◌, length, get_or, drop}
use Rattle.std.proofs.Math.Path.{sym, ap}
use Rattle.std.proofs.Common.{◌∙◌, add-zero, arith, get_or-take, get_or-drop}
use Rattle.std.proofs.Math.Bool.{false}
use Rattle.std.proofs.Math.Nat.{zero-add}
use Rattle.std.proofs.Math.ListN.{take}
use Rattle.sheet.specs.Data.{ValueType, is_kept}
use Rattle.sheet.specs.Expressions.{Expression, constant, wire, input, last, unary, binary, conditional, switch, pre, fby, kept}
use Rattle.sheet.specs.Expressions.{is_kept_wire, cell_count}
use Rattle.sheet.specs.Outcomes.{result}
use Rattle.sheet.specs.Memory.{memory_of}
use Rattle.sheet.specs.Sheets.{sheet_forms, expression_at, cells_before}
use Rattle.sheet.proofs.Laws.Checked.{kept-by-byte}
use Rattle.sheet.specs.Laws.Lists.{never}
use Rattle.sheet.specs.declared.Cell.{Cell}
use Rattle.sheet.specs.declared.Cell.TheVariants.{NotStarted, Started}
use Rattle.kernel.specs.Values.{datum_in}
use Rattle.kernel.specs.Order.{value_at}
use Rattle.kernel.specs.Instant.{Environment, last_at, cell_at, value, stored}
use Rattle.kernel.specs.Instants.{lasts_of}
use Rattle.kernel.specs.Calls.{rounds_call, scheduled_call}
use Rattle.kernel.proofs.Laws.Given.{given_by}
use Rattle.kernel.proofs.Laws.Typing.{valid-from-start}
use Rattle.kernel.proofs.Laws.Lasts.{kept-held}
use Rattle.kernel.proofs.Laws.Accepted.{solved, equations, final, final-typed, wire-holds, memory_after_lem, AsInRounds, as_in_rounds}
use Rattle.kernel.specs.declared.Value.TheVariants.{Known}

-- no reset touches what kind 18 gives
pub last-untouched : (now : Environment) (fresh : Bool) (w k : ℕ) → value now fresh (last w) k ≡ Known (last_at now.lasts w)
unfolding value
last-untouched now fresh w k = refl

-- the expression of a kept wire
kept-view : (e : Expression) → is_kept_wire e ≡ true → (t : ValueType) × (a : Expression) × (e ≡ kept t a)
kept-view (constant d) is = never (cc)
kept-view (wire w) is = never (cc)
kept-view (input i) is = never (cc)
kept-view (last w) is = never (cc)
kept-view (unary o a) is = never (cc)
kept-view (binary o a b) is = never (cc)
kept-view (conditional c a b) is = never (cc)
kept-view (switch o cs bs) is = never (cc)
kept-view (pre d a) is = never (cc)
kept-view (fby t a b) is = never (cc)
kept-view (kept t a) is = (t, a, refl)

module _ (s memory input output : List ℕ) {r : ℕ} (accepted : (rounds_call s memory input output).answer ≡ Ok r) where
  -- after the instant, of a wire: the first of its cells, and what kind 18 gives from then on
  pub record KeptAfter (w : ℕ) : Type 0 where
    pub cells : List Cell
    pub reads : memory_of (sheet_forms (solved s memory input output accepted).given.sheet) (rounds_call s memory input output).memory
        ≡ result cells
    pub stores : cell_at cells (cells_before (equations s memory input output accepted) w)
        ≡ Started (datum_in (value_at (solved s memory input output accepted).values w))
    pub gives : last_at (lasts_of (solved s memory input output accepted).given.sheet cells) w
        ≡ datum_in (value_at (solved s memory input output accepted).values w)

  -- so it is of a wire whose type byte, behind the inputs' and both counts, says that it is kept
  pub kept-after : (w : ℕ) → w < length (equations s memory input output accepted)
      → is_kept (get_or s (2 + get_or s 0 0 + w) 0) ≡ true → KeptAfter w
  unfolding stored value cell_count
  kept-after w l byte =
      let after = solved s memory input output accepted in
      let sheet = after.given.sheet in
      let es = sheet.expressions in
      let left = memory_after_lem s memory input output accepted in
      let first = cells_before es w in
      let now = final s memory input output accepted in
      let is = kept-by-byte s (given_by s memory input output after.given after.passes).sheet w l ∙ byte in
      let (t, a, tree) = kept-view (expression_at es w) is in
      let own : take (suc (cell_count a)) (drop first left.cells)
      ≡ Started (datum_in (value now false (kept t a) first)) ∷ stored now false a (suc first) =
      rw tree at (left.wire w l) in
      let worth : value_at after.values w ≡ value now false (kept t a) first = rw tree at (wire-holds s memory input output accepted w l) in
      let stores : cell_at left.cells first ≡ Started (datum_in (value_at after.values w)) =
      ap (λ n. cell_at left.cells n) (sym (add-zero first))
      ∙ sym (get_or-drop first left.cells 0 NotStarted)
      ∙ sym (get_or-take (suc (cell_count a)) (drop first left.cells) 0 NotStarted (omega arith))
      ∙ ap (λ cs. cell_at cs 0) own ∙ ap (λ v. Started (datum_in v)) (sym worth) in
      let held = kept-held sheet.input_types sheet.wire_types left.cells 0 w (final-typed s memory input output accepted).sheet
      (valid-from-start left.valid) l tree in
      let there : cell_at left.cells first ≡ Started held.held = rw zero-add at held.started in
      record { cells = left.cells; reads = left.reads; stores = stores; gives = held.gives ∙ cc }

-- the same along a schedule
module _ (s memory input output list : List ℕ) where
  pub kept-along : (scheduled_call s memory input output list).answer ≡ Ok tt
      → (i : AsInRounds s memory input output list) × ((w : ℕ) → w < length (equations s memory input output i.accepted)
      → is_kept (get_or s (2 + get_or s 0 0 + w) 0) ≡ true → KeptAfter s memory input output i.accepted w)
  kept-along a = let i = as_in_rounds s memory input output list a in (i, kept-after s memory input output i.accepted)
