-- The numbers with which a tick is refused before marks are stored, 22 and 1 to 16, and their places: in the board or at its end, or below 512.
use Rattle.std.specs.Prelude.{◌≡◌, ◌⊎◌, Bool, ◌||◌, Result, Ok, Err, eqb}
use Rattle.std.proofs.Math.Path.{refl}
use Rattle.std.proofs.Math.Logic.{inl, inr}
use Prim.Native.Nat.{ℕ, zero, suc, ◌+◌, ◌*◌, ◌≤◌, ◌<◌, zero-le}
use native.Mathlib.Omega.{arith}
use Rattle.std.proofs.Math.Bool.{true, false}
use mathlib.Core.List.{List, [], ◌∷◌}
use Rattle.std.proofs.Math.Dec.{ltb}
use Rattle.std.proofs.Math.ListN.{length, get_or, length-take}
use Rattle.std.proofs.Common.{length-append}
use borrow.Author.Tests.{ltb-true, ltb-false}
use Rattle.sheet.specs.Outcomes.{Outcome, refusal, result, followed_by, lowest, unless_length, unless_any, number_of, refused_at}
use Rattle.sheet.specs.Sheets.{Sheet, sheet_forms, sheet_of}
use Rattle.sheet.specs.Memory.{invalid_at, memory_of}
use Rattle.sheet.specs.Rows.{wrong_at, inputs_of}
use Rattle.sheet.specs.Laws.Lists.{never}
use Rattle.sheet.specs.Laws.Lowest.{lowest-first}
use Rattle.sheet.specs.Laws.Refusals.{by-test, sheet-refused-inside}
use Rattle.sheet.proofs.Laws.Typing.{passed_check}
use Rattle.sheet.specs.declared.Refused.{Refused}
use Rattle.sheet.specs.declared.Refusal.{Refusal}
use Rattle.sheet.specs.declared.Refusal.TheVariants.{BoardFrame, MemoryLength, CellContent, InputLength, InputContent, OutputLength}
use Rattle.kernel.proofs.Laws.Refusals.{few-wires}
use Rattle.board.specs.Boards.{placed_from, count_byte, length_at, length_place, begin_of, bytes_of, runs_past, frame_of, sheets_from, board_of}
use Rattle.board.specs.Parts.{joined, sheet_at, inputs_in, outputs_in, passed_of}
use Rattle.board.specs.Serving.{Restart}
use Rattle.board.specs.Ticks.{Turn, tick_call, PackableTick}
use Rattle.board.specs.declared.Standing.{Standing}
use Rattle.board.specs.declared.Ticked.{Ticked}
use Rattle.board.specs.declared.Ticked.TheVariants.{NoneDue, Served, LeftUnknown}
use Rattle.board.proofs.Laws.Boards.{frame-passed, board_read, passed-by}
use Rattle.board.proofs.Laws.Serving.{IsRestart}
use Rattle.board.proofs.Laws.Ticks.{TickServes, TickAnswered, tick_answered}

-- a refusal with 22 or 1 to 16, at a place in the board or at its end, or below 512
pub record RefusedAt (board : List ℕ) (why : Refusal) (place : ℕ) : Type 0 where
  pub number : (why ≡ BoardFrame) ⊎ (number_of why ≤ 16)
  pub bounded : (place ≤ length board) ⊎ (place < 512)

-- where something is refused, it is such a refusal
data Within {A : Type 0} (board : List ℕ) : Outcome A → Type 0 where
  refuses : {why : Refusal} {place : ℕ} → RefusedAt board why place → Within board (refusal why place)
  passes : {a : A} → Within board (result a)

module _ {A : Type 0} (board : List ℕ) where
  followed-within : {B : Type 0} (x : Outcome B) (f : B → Outcome A) → Within board x → ((b : B) → x ≡ result b → Within board (f b))
      → Within board (followed_by x f)
  followed-within (refusal why place) f (refuses r) h = refuses r
  followed-within (result b) f passes h = h b refl

  -- 12 to 16: by a wrong length at 0, or by a test below a bound of at most 512
  length-within : (wrong : Refusal) (n must : ℕ) (rest : Outcome A) → number_of wrong ≤ 16 → Within board rest
      → Within board (unless_length wrong n must rest)
  length-within wrong n must rest few h =
      by-test (Within board) (eqb n must) (λ e. h) (λ e. refuses (record { number = inr few; bounded = inl zero-le }))

  any-within : (wrong : Refusal) (test : ℕ → Bool) (bound : ℕ) (rest : Outcome A) → number_of wrong ≤ 16 → bound ≤ 512 → Within board rest
      → Within board (unless_any wrong test bound rest)
  any-within wrong test bound rest few l h =
      by-test (Within board) (ltb (lowest test bound) bound)
      (λ e. refuses (record { number = inr few; bounded = inr (omega (arith, ltb-true (lowest test bound) bound e)) })) (λ e. h)

module _ (board : List ℕ) where
  frame_at : {place : ℕ} → place ≤ length board → Within {A = ℕ} board (refusal BoardFrame place)
  frame_at l = refuses (record { number = inl refl; bounded = inl l })

  -- 22: a length that runs past the end stands in the board, or at its end
  first_past : 1 ≤ count_byte board → lowest (runs_past board) (count_byte board) < count_byte board
      → length_place board (lowest (runs_past board) (count_byte board)) ≤ length board
  unfolding length_place
  first_past least l = go (lowest (runs_past board) (count_byte board)) refl
    where
      counted : (bytes : List ℕ) → 1 ≤ get_or bytes 0 0 → 1 ≤ length bytes
      counted [] l = absurd (omega arith)
      counted (b ∷ bs) l = omega arith

      go : (k : ℕ) → lowest (runs_past board) (count_byte board) ≡ k → length_place board k ≤ length board
      go zero e = counted board least
      go (suc j) e =
          omega (
            arith,
            ltb-false (length board) (length_place board (suc j))
                (lowest-first (runs_past board) (count_byte board) j (omega arith)),
          )

  frame-within : Within board (frame_of board)
  unfolding frame_of
  frame-within =
      let count = count_byte board in
      by-test (Within board) (ltb count 1 || ltb 8 count) (λ e. frame_at zero-le) (λ e.
      by-test (Within board) (ltb (lowest (runs_past board) count) count)
      (λ f. frame_at (first_past (least (ltb count 1) refl e) (ltb-true (lowest (runs_past board) count) count f))) (λ f.
      by-test (Within board) (ltb (length_place board count) (length board))
      (λ g. frame_at (omega (arith, ltb-true (length_place board count) (length board) g))) (λ g. passes)))
    where
      least : (t : Bool) → ltb (count_byte board) 1 ≡ t → (t || ltb 8 (count_byte board)) ≡ false → 1 ≤ count_byte board
      least true q e = never (cc)
      least false q e = omega (arith, ltb-false (count_byte board) 1 q)

  -- 1 to 11 of a sheet
  placed-within : (k : ℕ) → length_place board (suc k) ≤ length board → Within board (placed_from (begin_of board k) (sheet_of (bytes_of board k)))
  unfolding length_place
  placed-within k ends = go (sheet_of (bytes_of board k)) refl
    where
      go : (o : Outcome Sheet) → sheet_of (bytes_of board k) ≡ o → Within board (placed_from (begin_of board k) o)
      go (refusal why place) e =
          let inside = sheet-refused-inside (bytes_of board k) e in
          let long : length (bytes_of board k) ≤ length_at board (length_place board k) = simp length-take (omega arith) in
          let few : number_of why ≤ 16 = omega (arith, inside.number) in
          let within : begin_of board k + place ≤ length board = omega (arith, inside.bounded) in
          refuses (record { number = inr few; bounded = inl within })
      go (result sheet) e = passes

  sheets_within : (n k : ℕ) → ((j : ℕ) → j ≤ n + k → length_place board j ≤ length board) → Within board (sheets_from board n k)
  unfolding sheets_from
  sheets_within zero k within = passes
  sheets_within (suc n) k within =
      followed-within board (placed_from (begin_of board k) (sheet_of (bytes_of board k))) _ (placed-within k (within (suc k) (omega arith))) (λ sheet e.
      followed-within board (sheets_from board n (suc k)) _ (sheets_within n (suc k) (λ j l. within j (omega arith))) (λ sheets f. passes))

  board_within : Within board (board_of board)
  unfolding board_of
  board_within =
      followed-within board (frame_of board) _ frame-within (λ n e.
      sheets_within n 0 (λ j l. (frame-passed board n e).within j (omega arith)))

-- what the sheets have of one sort is few in all
joined-few : {A : Type 0} (of : Sheet → List A) (few : ℕ) (sheets : List Sheet)
    → ((k : ℕ) → k < length sheets → length (of (sheet_at sheets k)) ≤ few) → length (joined of sheets) ≤ length sheets * few
unfolding joined
joined-few of few [] each = omega arith
joined-few of few (sheet ∷ sheets) each =
    let first : length (of sheet) ≤ few = each 0 (omega arith) in
    simp length-append (omega (arith, first, joined-few of few sheets (λ k l. each (suc k) (omega arith))))

pub record BoardFew (sheets : List Sheet) : Type 0 where
  pub cells : length (joined sheet_forms sheets) ≤ 512
  pub inputs : length (joined inputs_in sheets) ≤ 128
  pub outputs : length (joined outputs_in sheets) ≤ 128

pub board_few : (board : List ℕ) (sheets : List Sheet) → board_of board ≡ result sheets → BoardFew sheets
board_few board sheets read =
    let b = board_read board sheets read in
    let few = b.passed.most in
    record {
      cells = omega (
        arith,
        few,
        joined-few sheet_forms 64 sheets (λ k l.
            let c = passed_check (bytes_of board k) (b.sheet k l) in omega (arith, c.counted, c.few-cells)),
      );
      inputs = omega (arith, few, joined-few inputs_in 16 sheets (λ k l. (passed_check (bytes_of board k) (b.sheet k l)).few-inputs));
      outputs = omega (arith, few, joined-few outputs_in 16 sheets (λ k l. (passed_check (bytes_of board k) (b.sheet k l)).few-outputs));
    }

passed-within : (board memory input output : List ℕ) → Within board (passed_of board memory input output)
unfolding passed_of memory_of inputs_of
passed-within board memory input output =
    followed-within board (board_of board) _ (board_within board) (λ sheets e.
    let few = board_few board sheets e in
    followed-within board (memory_of (joined sheet_forms sheets) memory) _
    (length-within board MemoryLength (length memory) (5 * length (joined sheet_forms sheets)) _ (omega arith)
    (any-within board CellContent (invalid_at (joined sheet_forms sheets) memory) (length (joined sheet_forms sheets)) _ (omega arith)
    few.cells passes)) (λ cells f.
    followed-within board (inputs_of (joined inputs_in sheets) input) _
    (length-within board InputLength (length input) (4 * length (joined inputs_in sheets)) _ (omega arith)
    (any-within board InputContent (wrong_at (joined inputs_in sheets) input) (length (joined inputs_in sheets)) _ (omega arith)
    (omega (arith, few.inputs)) passes)) (λ inputs g.
    length-within board OutputLength (length output) (4 * length (joined outputs_in sheets)) _ (omega arith) passes)))

-- from the answer of the call
pub tick_refusals : (rule : Restart) → IsRestart rule → (board : List ℕ) (turn : Turn) (standing : Standing) {why : Refusal} {place : ℕ}
    → (tick_call rule board turn standing).answer ≡ refused_at why place → RefusedAt board why place
tick_refusals rule isRestart board turn standing {why} {place} e =
    go (passed-within board turn.memory turn.input turn.output) ((tick_answered rule board turn standing isRestart).refused e).found
  where
    go : {o : Outcome (List Sheet)} → Within board o → o ≡ refusal why place → RefusedAt board why place
    go (refuses {why = found} {place = at} r) e =
        let why-is : found ≡ why = cc in let place_is : at ≡ place = cc in rw (why-is, place_is) at r
    go passes e = never (cc)

-- so the answer of a tick of a board of at most 65,535 bytes can be packed
pub tick_packable : (rule : Restart) → IsRestart rule → (board : List ℕ) (turn : Turn) (standing : Standing) → length board < 65536
    → PackableTick (tick_call rule board turn standing).answer
tick_packable rule isRestart board turn standing short = go (tick_call rule board turn standing).answer refl
  where
    placed : {place : ℕ} → (place ≤ length board) ⊎ (place < 512) → place < 65536
    placed (inl l) = omega arith
    placed (inr l) = omega arith

    answered : TickAnswered rule board turn standing isRestart
    answered = tick_answered rule board turn standing isRestart

    number : {k : ℕ} → TickServes rule board turn standing isRestart k → k < 256
    number {k} t =
        let passed = passed-by board turn.memory turn.input turn.output t.sheets t.serves.passes in
        omega (arith, t.serves.is_sheet, (board_read board t.sheets passed.read).passed.most)

    go : (answer : Result Ticked Refused) → (tick_call rule board turn standing).answer ≡ answer → PackableTick answer
    go (Err refused) e = placed (tick_refusals rule isRestart board turn standing e).bounded
    go (Ok NoneDue) e = tt
    go (Ok (Served k rounds)) e =
        let s = answered.served e in
        (number s.tick, omega (arith, s.solved.few, few-wires _ _ _ _ s.solved.given s.solved.passes))
    go (Ok (LeftUnknown k wire)) e =
        let u = answered.unknown e in
        (number u.tick, omega (arith, u.unknown.lowest.in_range, few-wires _ _ _ _ u.unknown.given u.unknown.passes))
