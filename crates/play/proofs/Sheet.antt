-- The first line: `short`, a refused sheet, or the counts of one that passes the check, with the progress before its first instant.
use Prim.Native.Nat.{ℕ, ◌+◌, ◌-◌, ◌*◌, ◌/◌, ◌≤◌}
use mathlib.Core.Path.{◌≡◌, refl, ap, sym, ◌∙◌}
use mathlib.Core.Bool.{Bool, true, false, cond, ◌&&◌}
use mathlib.Core.List.{List, [], ◌∷◌, ◌++◌}
use native.Mathlib.Omega.{arith}
use native.Mathlib.Nat.{div-mul-le_self, div-le_self}
use lib.ListN.{length, take, drop, length-drop, length-replicate}
use lib.Seq.{length-take-le}
use lib.Dec.{eqb, leb}
use borrow.Author.Tests.{eqb-true, eq-eqb, leb-true}
use Rattle.sheet.specs.Outcomes.{result}
use Rattle.sheet.specs.Sheets.{Sheet, sheet_forms, sheet_of, check_of}
use Rattle.sheet.specs.Memory.{memory_bytes, start_memory, start_outcome, start_call}
use Rattle.sheet.proofs.Laws.Checked.{check_passed}
use Rattle.lines.specs.Buffers.{Holds}
use Rattle.lines.specs.Lines.{short_line, sheet_line}
use Rattle.play.specs.Text.{length_at, sheet_in, rows_in, zeros, instants_due, is_complete, checked_text, bytes_text}
use Rattle.play.specs.Stages.{first_instant, lines_left, Ready, Gives}
use Rattle.play.specs.declared.Progress.{Progress}
use Rattle.play.specs.declared.Stage.TheVariants.{Playing}
use Rattle.std.specs.Prelude.{Some}
use Rattle.play.proofs.Giving.{gives, front}
use Rattle.sheet.specs.declared.Counts.{Counts}
use Rattle.sheet.specs.declared.Refused.{Refused}
use Rattle.std.specs.Prelude.{Ok}
use Rattle.std.specs.Prelude.{Result}

module _ (bytes : List ℕ) where
  pub short-text : is_complete bytes ≡ false → bytes_text bytes ≡ short_line ∷ []
  unfolding bytes_text
  short-text e = rw e

  pub complete_text : is_complete bytes ≡ true → bytes_text bytes ≡ checked_text (check_of (sheet_in bytes)) (sheet_in bytes) (rows_in bytes)
  unfolding bytes_text
  complete_text e = rw e

  pub complete_whole : is_complete bytes ≡ true → 2 + length_at bytes ≤ length bytes
  complete_whole = go (leb 2 (length bytes))
    where
      go : (t : Bool) → (t && leb (2 + length_at bytes) (length bytes)) ≡ true → 2 + length_at bytes ≤ length bytes
      go true e = leb-true (2 + length_at bytes) (length bytes) e
      go false e = absurd (let z : ◌≡◌ {A = ℕ} 0 1 = cc in omega arith)

  -- the bytes that the code takes for the sheet
  pub own-sheet : {n : ℕ} → n ≡ length_at bytes → take (2 + n - 2) (drop 2 bytes) ≡ sheet_in bytes
  own-sheet {n} is = let e : 2 + n - 2 ≡ length_at bytes = omega arith in ap (λ k. take k (drop 2 bytes)) e

  -- and what the check answers for them
  pub own-answer : {n : ℕ} {answer : Result Counts Refused} → n ≡ length_at bytes → answer ≡ check_of (take (2 + n - 2) (drop 2 bytes))
      → answer ≡ check_of (sheet_in bytes)
  own-answer is e = e ∙ ap check_of (own-sheet is)

  -- that is, that it passes them
  pub own-passed : {n : ℕ} {counts : Counts} → n ≡ length_at bytes → Ok counts ≡ check_of (take (2 + n - 2) (drop 2 bytes))
      → check_of (sheet_in bytes) ≡ Ok counts
  own-passed is e = sym (own-answer is e)

-- the counts of a sheet that passes the check are few
pub record Few (inputs wires outputs cells : ℕ) : Type 0 where
  pub inputs-few : inputs ≤ 16
  pub wires-few : wires ≤ 64
  pub outputs-few : outputs ≤ 16
  pub cells-few : cells ≤ 64

pub few-counts : (s : List ℕ) {c : Counts} → check_of s ≡ Ok c → Few c.inputs c.wires c.outputs c.cells
few-counts s {c} e =
    let p = check_passed s c e in
    record { inputs-few = p.few-inputs; wires-few = p.few-wires; outputs-few = p.few-outputs; cells-few = p.few-cells }

-- the start fills a memory of its length, whatever that held
start-filled : (s memory : List ℕ) {sheet : Sheet} → sheet_of s ≡ result sheet → length memory ≡ 5 * length (sheet_forms sheet)
    → (start_call s memory).memory ≡ memory_bytes (start_memory (sheet_forms sheet))
unfolding start_call start_outcome
start-filled s memory e fits = rw (e, eq-eqb _ _ fits)

start-same : (s memory other : List ℕ) {c : Counts} → check_of s ≡ Ok c → length memory ≡ 5 * c.cells → length other ≡ 5 * c.cells
    → (start_call s memory).memory ≡ (start_call s other).memory
start-same s memory other {c} e l m =
    let p = check_passed s c e in
    start-filled s memory p.outcome (l ∙ ap (λ n. 5 * n) (sym p.cells_are))
    ∙ sym (start-filled s other p.outcome (m ∙ ap (λ n. 5 * n) (sym p.cells_are)))

-- as many instants are due as there are whole rows, or 16
due-rows : (size bytes : ℕ) → instants_due size bytes * size ≤ bytes
due-rows size bytes = go (eqb size 0) refl
  where
    go : (t : Bool) → eqb size 0 ≡ t → cond t 16 (bytes / size) * size ≤ bytes
    go true e = let none = eqb-true size 0 e in omega arith
    go false e = div-mul-le_self bytes size

due-few : (size bytes : ℕ) → bytes ≤ 65536 → instants_due size bytes ≤ 65536
due-few size bytes few = go (eqb size 0)
  where
    go : (t : Bool) → cond t 16 (bytes / size) ≤ 65536
    go true = omega arith
    go false = omega (arith, div-le_self bytes size)

-- a sheet that passes the check: its counts, and then the instants from the starting memory
module _ (bytes : List ℕ) {c : Counts} {n : ℕ} (passed : check_of (sheet_in bytes) ≡ Ok c) (is : n ≡ length_at bytes) where
  first-ready : 2 + length_at bytes ≤ length bytes → length bytes ≤ 65536 → {progress : Progress}
      → progress ≡ first_instant c.inputs c.outputs c.cells (2 + n) (length bytes - (2 + n)) → Ready bytes progress
  first-ready whole few e =
      let counts = few-counts (sheet_in bytes) passed in
      let rows = due-rows (4 * c.inputs) (length bytes - (2 + n)) in
      rw e (record {
        sheet = whole;
        rows = omega arith;
        turns = omega (arith, due-few (4 * c.inputs) (length bytes - (2 + n)) (omega arith));
        memory = omega (arith, counts.cells-few);
        output = omega (arith, counts.outputs-few);
      })

  first-text : {progress : Progress} (memory : List ℕ) → progress ≡ first_instant c.inputs c.outputs c.cells (2 + n) (length bytes - (2 + n))
      → take (5 * c.cells) memory ≡ (start_call (sheet_in bytes) (zeros (5 * c.cells))).memory
      → checked_text (check_of (sheet_in bytes)) (sheet_in bytes) (rows_in bytes) ≡ sheet_line c.inputs c.wires c.outputs c.cells ∷ lines_left bytes (Playing progress) memory
  first-text memory e started =
      let rest : length (rows_in bytes) ≡ length bytes - (2 + n) = simp length-drop (omega arith) in
      rw (passed, e, started, rest, is)

  -- the start wrote the first bytes of the memory
  pub passed-line : {progress : Progress} {before text : List ℕ} (started memory : List ℕ) {size : ℕ} → 2 + length_at bytes ≤ length bytes
      → length bytes ≤ 65536 → 320 ≤ length memory → progress ≡ first_instant c.inputs c.outputs c.cells (2 + n) (length bytes - (2 + n))
      → length started ≡ length (take (5 * c.cells) memory)
      → started ≡ (start_call (take (2 + n - 2) (drop 2 bytes)) (take (5 * c.cells) memory)).memory
      → Holds before (sheet_line c.inputs c.wires c.outputs c.cells) text size
      → Gives bytes (checked_text (check_of (sheet_in bytes)) (sheet_in bytes) (rows_in bytes)) before (Some (record { size = size; stage = Playing progress })) text
      (started ++ drop (5 * c.cells) memory)
  passed-line started memory whole few room e kept stores put =
      let fits : 5 * c.cells ≤ length memory = omega (arith, (few-counts (sheet_in bytes) passed).cells-few) in
      let same = start-same (sheet_in bytes) (take (5 * c.cells) memory) (zeros (5 * c.cells)) passed (length-take-le (5 * c.cells) memory fits)
      (length-replicate (5 * c.cells) 0) in
      gives put (first-ready whole few e)
      (first-text (started ++ drop (5 * c.cells) memory) e
      (front (5 * c.cells) memory started kept fits ∙ stores
      ∙ ap (λ s. (start_call s (take (5 * c.cells) memory)).memory) (own-sheet bytes is) ∙ same))
