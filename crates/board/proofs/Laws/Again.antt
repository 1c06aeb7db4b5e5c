-- Tick after tick: what a tick leaves of a board's memory and output row passes 12, 13 and 16 again.
use Rattle.std.specs.Prelude.{◌≡◌, refl, ℕ, ◌+◌, ◌-◌, ◌*◌, ◌≤◌, ◌<◌, Bool, true, false, not, List, ◌⊎◌, ltb, length, take}
use Rattle.std.proofs.Common.{sym, ap, subst, ◌∙◌, arith, inl, inr, eq-eqb, ltb-true, ltb-false}
use Rattle.sheet.specs.Expressions.{CellForm}
use Rattle.sheet.specs.Outcomes.{result}
use Rattle.sheet.specs.Sheets.{Sheet, sheet_forms}
use Rattle.sheet.specs.Memory.{invalid_at, cells_from, memory_of}
use Rattle.sheet.specs.Laws.Lowest.{none-lowest}
use Rattle.sheet.proofs.Laws.Memory.{memory_view}
use Rattle.sheet.specs.Laws.Outcomes.{same-result}
use Rattle.sheet.specs.declared.Cell.{Cell}
use Rattle.board.specs.Parts.{joined, sheet_at, begin, size, memory_part, passed_of}
use Rattle.board.specs.Serving.{Restart}
use Rattle.board.specs.Ticks.{Turn, TickCall, found_by, tick_call}
use Rattle.board.specs.declared.Standing.{Standing}
use Rattle.board.proofs.Laws.Boards.{PassedBy, passed-by, by-passed}
use Rattle.board.proofs.Laws.Parts.{ChangedOnly}
use Rattle.board.proofs.Laws.Passing.{cell-part}
use Rattle.board.proofs.Laws.Serving.{IsRestart, sheet-served}
use Rattle.board.proofs.Laws.Ticks.{Serves, tick_by, Goes, refused, idle, serving, tick_goes}

-- a cell outside a change is as it was
cell-outside : (forms : List CellForm) {from to : ℕ} {before after : List ℕ} → ChangedOnly from to before after → (m : ℕ)
    → (5 * m + 5 ≤ from) ⊎ (to ≤ 5 * m) → invalid_at forms after m ≡ invalid_at forms before m
unfolding invalid_at
cell-outside forms only m (inl l) =
    rw (
      only.below (5 * m) (omega arith),
      only.below (5 * m + 1) (omega arith),
      only.below (5 * m + 1 + 1) (omega arith),
      only.below (5 * m + 1 + 2) (omega arith),
      only.below (5 * m + 1 + 3) (omega arith),
    )
cell-outside forms only m (inr l) =
    rw (
      only.behind (5 * m) (omega arith),
      only.behind (5 * m + 1) (omega arith),
      only.behind (5 * m + 1 + 1) (omega arith),
      only.behind (5 * m + 1 + 2) (omega arith),
      only.behind (5 * m + 1 + 3) (omega arith),
    )

-- a memory with a valid part in the stead of one sheet's
part-again : (sheets : List Sheet) (k : ℕ) → k < length sheets → (before after : List ℕ) (cells own : List Cell)
    → memory_of (joined sheet_forms sheets) before ≡ result cells
    → ChangedOnly (begin 5 sheet_forms sheets k) (begin 5 sheet_forms sheets k + size 5 sheet_forms sheets k) before after
    → memory_of (sheet_forms (sheet_at sheets k)) (memory_part sheets k after) ≡ result own
    → (cells : List Cell) × (memory_of (joined sheet_forms sheets) after ≡ result cells)
unfolding memory_of invalid_at
part-again sheets k is_sheet before after cells own valid only reads = (
  cells_from after 0 all,
  rw (eq-eqb (length after) (5 * length all) sized, none-lowest (invalid_at all after) (length all) (λ m l. go m l (ltb m first) refl)),
)
  where
    all : List CellForm
    all = joined sheet_forms sheets

    first : ℕ
    first = length (joined sheet_forms (take k sheets))

    count : ℕ
    count = length (sheet_forms (sheet_at sheets k))

    sized : length after ≡ 5 * length all
    sized = only.sized ∙ (memory_view all before valid).sized

    old : (m : ℕ) → m < length all → invalid_at all before m ≡ false
    old m l = ap not ((memory_view all before valid).valid m l)

    new : (i : ℕ) → i < count → invalid_at (sheet_forms (sheet_at sheets k)) (memory_part sheets k after) i ≡ false
    new i l = ap not ((memory_view (sheet_forms (sheet_at sheets k)) (memory_part sheets k after) reads).valid i l)

    go : (m : ℕ) → m < length all → (t : Bool) → ltb m first ≡ t → invalid_at all after m ≡ false
    go m l true e = cell-outside all only m (inl (omega (arith, ltb-true m first e))) ∙ old m l
    go m l false e = next (ltb (m - first) count) refl
      where
        next : (t : Bool) → ltb (m - first) count ≡ t → invalid_at all after m ≡ false
        next true q =
            let place : first + (m - first) ≡ m = omega (arith, ltb-false m first e) in
            let here = cell-part sheets k is_sheet after sized (m - first) (ltb-true (m - first) count q) in
            rw (← place) (sym here ∙ new (m - first) (ltb-true (m - first) count q))
        next false q =
            cell-outside all only m (inr (omega (arith, ltb-false m first e, ltb-false (m - first) count q))) ∙ old m l

-- whatever passed once passes with what the tick leaves
pub passes-again : (rule : Restart) → IsRestart rule → (board : List ℕ) (turn : Turn) (standing : Standing) (sheets : List Sheet)
    → found_by board turn ≡ result sheets
    → passed_of board (tick_call rule board turn standing).memory turn.input (tick_call rule board turn standing).output ≡ result sheets
passes-again rule isRestart board turn standing sheets passes = go (tick_goes rule board turn standing)
  where
    now : TickCall
    now = tick_call rule board turn standing

    passed : PassedBy board turn.memory turn.input turn.output sheets
    passed = passed-by board turn.memory turn.input turn.output sheets passes

    again : (k : ℕ) → Serves board turn standing sheets k → passed_of board now.memory turn.input now.output ≡ result sheets
    again k s =
        let by = tick_by rule board turn standing isRestart sheets k s in
        let (own, reads) = (sheet-served rule isRestart board turn sheets passes k s.is_sheet).reads in
        by-passed board now.memory turn.input now.output sheets
        (record {
          read = passed.read;
          cells = part-again sheets k s.is_sheet turn.memory now.memory _ own passed.cells.1 by.memory_elsewhere
              (rw by.memory reads);
          inputs = passed.inputs;
          outputs = by.output_elsewhere.sized ∙ passed.outputs;
        })

    go : Goes rule board turn standing now → passed_of board now.memory turn.input now.output ≡ result sheets
    go (refused why place e left) = rw left passes
    go (idle found e nobody left) = rw left passes
    go (serving found k s left) =
        let same : found ≡ sheets = same-result (sym s.passes ∙ passes) in
        again k (subst (λ (x : List Sheet). Serves board turn standing x k) same s)
