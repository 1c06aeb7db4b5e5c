-- What `check_sheet` answers, for the sheet with number k behind those that are done.
use Prim.Native.Nat.{ℕ, suc, ◌+◌, ◌-◌, ◌≤◌}
use mathlib.Core.Path.{◌≡◌, ap}
use mathlib.Core.List.{List, [], ◌∷◌, ◌++◌}
use Rattle.std.specs.Prelude.{Ok}
use native.Mathlib.Omega.{arith}
use lib.ListN.{length, take, drop, length-take, length-drop}
use lib.Seq.{paste}
use Rattle.sheet.specs.Outcomes.{refused_at}
use Rattle.sheet.specs.Sheets.{Sheet, sheet_forms, sheet_of, check_of}
use Rattle.sheet.specs.Typing.{Pairwise}
use Rattle.sheet.proofs.Laws.Checked.{check_refused, CheckPassed}
use Rattle.sheet.specs.Laws.Refusals.{sheet-refused-inside}
use Rattle.sheet.specs.declared.Counts.{Counts}
use Rattle.sheet.specs.declared.Refusal.{Refusal}
use Rattle.sheet_expressions.specs.Map.{CellNoted}
use Rattle.buffers.specs.Laws.{noted-hold}
use Rattle.board.specs.Boards.{placed_from, length_at, length_place, begin_of, bytes_of}
use Rattle.board.specs.Parts.{joined, inputs_in, outputs_in}
use Rattle.board.proofs.Laws.Parts.{joined-count}
use Rattle.board_check.specs.Found.{behind}
use Rattle.board_check.specs.Steps.{further_of, Collected, Room, Further, Steps, stops, goes}
use Rattle.board_check.specs.declared.Begin.{Begin}
use Rattle.board_check.proofs.Passing.{collected_more}

-- the bytes that are lent
abbrev pub lent : (board : List ℕ) (at long : ℕ) → List ℕ
lent board at long = take (at + 2 + long - (at + 2)) (drop (at + 2) board)

module _ (board : List ℕ) (here : Begin) (long : ℕ) (is : long ≡ length_at board here.at) where
  abbrev bytes : List ℕ
  bytes = lent board here.at long

  -- the place of a refusal lies in the board
  pub place-within : here.at + 2 + length_at board here.at ≤ length board → {why : Refusal} {place : ℕ}
      → check_of bytes ≡ refused_at why place → here.at + 2 + place ≤ length board
  place-within l e =
      let sized : length bytes ≤ long = simp (length-take, length-drop) (omega arith) in
      omega (arith, (sheet-refused-inside bytes (check_refused bytes e)).bounded)

  module _ (k : ℕ) (done : List Sheet) (place : here ≡ behind (length_place board k) done) where
    at-is : here.at ≡ length_place board k
    at-is = ap (λ (b : Begin). b.at) place

    same_bytes_lem : bytes ≡ bytes_of board k
    same_bytes_lem = let all : here.at + 2 + long - (here.at + 2) ≡ long = omega arith in rw (all, is, at-is)

    pub step-stops : (forms types : List ℕ) {why : Refusal} {at : ℕ} → check_of bytes ≡ refused_at why at
        → Steps board k here done forms types (placed_from (begin_of board k) (sheet_of (bytes_of board k))) (refused_at why (here.at + 2 + at))
    step-stops forms types e = rw (← same_bytes_lem, check_refused bytes e, at-is) stops

    -- a sheet that passes, with the entries of its cells
    module _ (forms types entries : List ℕ) (room : Room board here forms types) {counts : Counts}
        (p : CheckPassed bytes counts.inputs counts.wires counts.outputs counts.cells)
        (noted : Pairwise (CellNoted bytes) (sheet_forms p.sheet) (take counts.cells entries)) where
      abbrev own_entries : List ℕ
      own_entries = take counts.cells entries

      abbrev type_bytes : List ℕ
      type_bytes = take (1 + counts.inputs - 1) (drop 1 bytes)

      pub step-goes : Collected done forms types
          → Steps board k here done (paste forms here.cells own_entries (length own_entries))
          (paste types here.inputs type_bytes (length type_bytes))
          (placed_from (begin_of board k) (sheet_of (bytes_of board k))) (Ok (further_of here (here.at + 2 + long) counts))
      unfolding length_place
      step-goes c =
          let cells : here.cells ≡ length (joined sheet_forms done) = ap (λ (b : Begin). b.cells) place in
          let inputs : here.inputs ≡ length (joined inputs_in done) = ap (λ (b : Begin). b.inputs) place in
          let outputs : here.outputs ≡ length (joined outputs_in done) = ap (λ (b : Begin). b.outputs) place in
          let next : further_of here (here.at + 2 + long) counts ≡ behind (length_place board (suc k)) (done ++ p.sheet ∷ []) =
          rw (
            is,
            at-is,
            cells,
            inputs,
            outputs,
            joined-count sheet_forms done p.sheet,
            joined-count inputs_in done p.sheet,
            joined-count outputs_in done p.sheet,
            p.cells_are,
            p.inputs_are,
            p.outputs-are,
          ) in
          let further : Further here (further_of here (here.at + 2 + long) counts) =
          record {
            cells = omega (arith, p.few-cells);
            inputs = omega (arith, p.few-inputs);
            outputs = omega (arith, p.few-outputs);
          } in
          let sized : length type_bytes ≤ counts.inputs = simp (length-take) (omega arith) in
          let formed : length own_entries ≤ counts.cells = simp (length-take) (omega arith) in
          let all = collected_more done p.sheet forms types own_entries type_bytes c (noted-hold noted) p.types
          (omega (arith, room.cells, p.few-cells, formed)) (omega (arith, room.inputs, p.few-inputs, sized)) in
          rw (← same_bytes_lem, p.outcome) (goes next further (rw (cells, inputs) all))
