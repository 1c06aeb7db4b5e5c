-- What passing 22, 1 to 11 and 12 to 16 of a board tells, check by check.
use Rattle.std.specs.Prelude.{◌≡◌, refl, Bool, true, false, ◌||◌, cond, ltb}
use Rattle.std.proofs.Common.{sym, subst, ◌∙◌, eq-eqb, ltb-false}
use Rattle.std.proofs.Math.Path.{ap}
use Prim.Native.Nat.{ℕ, zero, suc, ◌+◌, ◌*◌, ◌≤◌, ◌<◌}
use native.Mathlib.Omega.{arith}
use mathlib.Core.List.{List, ◌∷◌}
use Rattle.std.proofs.Math.ListN.{length}
use Rattle.sheet.specs.Outcomes.{Outcome, refusal, result, lowest}
use Rattle.sheet.specs.Sheets.{Sheet, sheet_forms, sheet_of}
use Rattle.sheet.specs.Memory.{memory_of}
use Rattle.sheet.specs.Rows.{inputs_of}
use Rattle.sheet.specs.Laws.Lists.{never}
use Rattle.sheet.specs.Laws.Lowest.{lowest-none}
use Rattle.sheet.specs.Laws.Outcomes.{no_result, same-result, length-passed, followed}
use Rattle.sheet.specs.declared.Cell.{Cell}
use Rattle.sheet.specs.declared.Datum.{Datum}
use Rattle.sheet.specs.declared.Refusal.{Refusal}
use Rattle.sheet.specs.declared.Refusal.TheVariants.{BoardFrame}
use Rattle.board.specs.Boards.{placed_from, count_byte, length_place, begin_of, bytes_of, runs_past, frame_of, sheets_from, board_of}
use Rattle.board.specs.Parts.{joined, sheet_at, passed_of, inputs_in, outputs_in}

-- A frame that passes has 1 to 8 sheets; each ends within the board, and the last at its end.
pub record FramePassed (board : List ℕ) (n : ℕ) : Type 0 where
  pub least : 1 ≤ n
  pub most : n ≤ 8
  pub ends : length_place board n ≡ length board
  pub within : (k : ℕ) → k ≤ n → length_place board k ≤ length board

-- lengths stand one behind the other
pub place-grows : (board : List ℕ) (k : ℕ) → length_place board k < length_place board (suc k)
unfolding length_place
place-grows board k = omega arith

pub frame-passed : (board : List ℕ) (n : ℕ) → frame_of board ≡ result n → FramePassed board n
unfolding frame_of length_place
frame-passed board n e =
    go (ltb count 1) refl (ltb 8 count) refl (ltb (lowest (runs_past board) count) count) refl (ltb (length_place board count) (length board)) refl e
  where
    count : ℕ
    count = count_byte board

    first : (k : ℕ) → k ≤ count → ((j : ℕ) → j < count → runs_past board j ≡ false) → 1 ≤ count → length_place board k ≤ length board
    first zero l none least = omega (arith, ltb-false (length board) (length_place board 1) (none 0 (omega arith)))
    first (suc k) l none least = omega (arith, ltb-false (length board) (length_place board (suc k)) (none k (omega arith)))

    go : (a : Bool) → ltb count 1 ≡ a → (b : Bool) → ltb 8 count ≡ b → (c : Bool) → ltb (lowest (runs_past board) count) count ≡ c
        → (d : Bool) → ltb (length_place board count) (length board) ≡ d
        → cond (a || b) (refusal BoardFrame 0) (cond c (refusal BoardFrame (length_place board (lowest (runs_past board) count)))
        (cond d (refusal BoardFrame (length_place board count)) (result count))) ≡ result n → FramePassed board n
    go true p b q c r d s e = no_result e
    go false p true q c r d s e = no_result e
    go false p false q true r d s e = no_result e
    go false p false q false r true s e = no_result e
    go false p false q false r false s e =
        let none = lowest-none (runs_past board) count r in
        let least : 1 ≤ count = omega (arith, ltb-false count 1 p) in
        let inside = first count (omega arith) none least in
        subst (FramePassed board) (same-result e)
        (record {
          least = least;
          most = omega (arith, ltb-false 8 count q);
          ends = omega (arith, ltb-false (length_place board count) (length board) s);
          within = λ k l. first k l none least;
        })

-- a frame is refused with 22 alone
pub frame_why : (board : List ℕ) {why : Refusal} {place : ℕ} → frame_of board ≡ refusal why place → why ≡ BoardFrame
unfolding frame_of
frame_why board {why} {place} e =
    let count = count_byte board in
    go (ltb count 1 || ltb 8 count) (ltb (lowest (runs_past board) count) count) (ltb (length_place board count) (length board)) _ _ _ e
  where
    go : (a b c : Bool) (p q count : ℕ)
        → cond a (refusal BoardFrame 0) (cond b (refusal BoardFrame p) (cond c (refusal BoardFrame q) (result count))) ≡ refusal why place
        → why ≡ BoardFrame
    go true b c p q count e = cc
    go false true c p q count e = cc
    go false false true p q count e = cc
    go false false false p q count e = never (cc)

-- The sheets are read from their own bytes.
placed-result : {A : Type 0} (begin : ℕ) (o : Outcome A) {a : A} → placed_from begin o ≡ result a → o ≡ result a
placed-result begin (refusal why place) e = no_result e
placed-result begin (result a) e = e

module _ (board : List ℕ) where
  pub sheets_read : (n k : ℕ) (sheets : List Sheet) → sheets_from board n k ≡ result sheets
      → (length sheets ≡ n) × ((i : ℕ) → i < n → sheet_of (bytes_of board (k + i)) ≡ result (sheet_at sheets i))
  unfolding sheets_from
  sheets_read zero k sheets e = (ap length (sym (same-result e)), λ i l. absurd (omega arith))
  sheets_read (suc n) k sheets e =
      let (sheet, e₁, e₂) = followed (placed_from (begin_of board k) (sheet_of (bytes_of board k))) _ e in
      let (rest, e₃, e₄) = followed (sheets_from board n (suc k)) _ e₂ in
      let (sized, each) = sheets_read n (suc k) rest e₃ in
      let here = placed-result (begin_of board k) (sheet_of (bytes_of board k)) e₁ in
      rw (← same-result e₄) (ap suc sized, go rest here each)
    where
      go : {sheet : Sheet} (rest : List Sheet) → sheet_of (bytes_of board k) ≡ result sheet
          → ((i : ℕ) → i < n → sheet_of (bytes_of board (suc k + i)) ≡ result (sheet_at rest i))
          → (i : ℕ) → i < suc n → sheet_of (bytes_of board (k + i)) ≡ result (sheet_at (sheet ∷ rest) i)
      go rest here each zero l = let same : k + 0 ≡ k = omega arith in rw same here
      go rest here each (suc i) l = let same : k + suc i ≡ suc k + i = omega arith in rw same (each i (omega arith))

  -- a board that passes 22 and 1 to 11
  pub record BoardRead (sheets : List Sheet) : Type 0 where
    pub frame : frame_of board ≡ result (length sheets)
    pub passed : FramePassed board (length sheets)
    pub sheet : (k : ℕ) → k < length sheets → sheet_of (bytes_of board k) ≡ result (sheet_at sheets k)

  pub board_read : (sheets : List Sheet) → board_of board ≡ result sheets → BoardRead sheets
  unfolding board_of
  board_read sheets e =
      let (n, e₁, e₂) = followed (frame_of board) _ e in
      let (sized, each) = sheets_read n 0 sheets e₂ in
      let frame : frame_of board ≡ result (length sheets) = e₁ ∙ ap result (sym sized) in
      record {
        frame = frame;
        passed = frame-passed board (length sheets) frame;
        sheet = λ k l. let same : 0 + k ≡ k = omega arith in rw same at (each k (omega arith));
      }

-- What passes all checks.
pub record PassedBy (board memory input output : List ℕ) (sheets : List Sheet) : Type 0 where
  pub read : board_of board ≡ result sheets
  pub cells : (cells : List Cell) × (memory_of (joined sheet_forms sheets) memory ≡ result cells)
  pub inputs : (inputs : List Datum) × (inputs_of (joined inputs_in sheets) input ≡ result inputs)
  pub outputs : length output ≡ 4 * length (joined outputs_in sheets)

pub passed-by : (board memory input output : List ℕ) (sheets : List Sheet) → passed_of board memory input output ≡ result sheets
    → PassedBy board memory input output sheets
unfolding passed_of
passed-by board memory input output sheets e =
    let (found, e₁, e₂) = followed (board_of board) _ e in
    let (cells, e₃, e₄) = followed (memory_of (joined sheet_forms found) memory) _ e₂ in
    let (inputs, e₅, e₆) = followed (inputs_of (joined inputs_in found) input) _ e₄ in
    let (sized, e₇) = length-passed _ (length output) (4 * length (joined outputs_in found)) _ e₆ in
    subst (PassedBy board memory input output) (same-result e₇)
    (record { read = e₁; cells = (cells, e₃); inputs = (inputs, e₅); outputs = sized })

pub by-passed : (board memory input output : List ℕ) (sheets : List Sheet) → PassedBy board memory input output sheets
    → passed_of board memory input output ≡ result sheets
unfolding passed_of
by-passed board memory input output sheets h =
    rw h.read
    (rw h.cells.1
    (rw h.inputs.1 (rw (eq-eqb (length output) (4 * length (joined outputs_in sheets)) h.outputs))))

-- all that pass with one board find the same sheets
pub same_sheets : (board memory input output : List ℕ) (sheets found : List Sheet) → board_of board ≡ result sheets
    → passed_of board memory input output ≡ result found → found ≡ sheets
same_sheets board memory input output sheets found e f =
    same-result (sym (passed-by board memory input output found f).read ∙ e)
