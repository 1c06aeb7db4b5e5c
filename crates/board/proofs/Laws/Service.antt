-- Service: a due sheet is served within as many ticks as there are sheets, the marking one included.
use Rattle.std.specs.Prelude.{Ok, Err, ◌≡◌, ℕ, ◌+◌, ◌≤◌, ◌<◌, Bool, false, cond}
use Rattle.std.proofs.Math.Path.{refl, sym}
use Rattle.std.proofs.Common.{◌∙◌, arith}
use Rattle.std.proofs.Math.Bool.{true, or-true}
use mathlib.Core.List.{List, [], ◌∷◌}
use Rattle.std.proofs.Math.ListN.{length}
use borrow.Author.Tests.{eq-eqb, ne_eqb, lt-ltb}
use Rattle.sheet.specs.Outcomes.{Outcome, refusal, result}
use Rattle.sheet.specs.Sheets.{Sheet}
use Rattle.sheet.specs.Laws.Lists.{never}
use Rattle.kernel.specs.Answers.{InRounds}
use Rattle.board.specs.Boards.{board_of}
use Rattle.board.specs.Marks.{marked, served_last}
use Rattle.board.specs.Serving.{Restart}
use Rattle.board.specs.Ticks.{Turn, TickCall, found_by, is_due, served_answer, instant_of, serve, tick_call}
use Rattle.board.specs.Runs.{answers, is_refused, counted, serves, served_in}
use Rattle.board.specs.declared.Standing.{Standing}
use Rattle.board.proofs.Laws.Boards.{same_sheets}
use Rattle.board.proofs.Laws.Marks.{Behind, onward, around, behind-some, last-served, First, itself, before, first-due, some-due, first-is}
use Rattle.board.proofs.Laws.Ticks.{Serves, tick_serves, stands-behind}

answers-served : (k : ℕ) (instant : InRounds) → serves k (Ok (served_answer k instant)) ≡ true
answers-served k (Err refused) = eq-eqb k k refl
answers-served k (Ok rounds) = eq-eqb k k refl

counts-one : (t : Bool) → cond t 0 1 ≤ 1
counts-one true = omega arith
counts-one false = omega arith

apart : (n j e k : ℕ) → e + 1 < n → Behind n j e k → k ≡ j → ⊥
apart n j e k l (onward q) same = omega arith
apart n j e k l (around q) same = omega arith

module _ (rule : Restart) (board : List ℕ) (sheets : List Sheet) (isBoard : board_of board ≡ result sheets)
    (k : ℕ) (is_sheet : k < length sheets) where
  -- k is d places behind the sheet served last, and its mark is stored
  record Waits (standing : Standing) (d : ℕ) : Type 0 where
    near : d < length sheets
    stored : marked standing.stored k ≡ true
    behind : Behind (length sheets) (served_last (length sheets) standing.number) d k

  -- one tick that is not refused, where k is due: it serves k, or keeps its mark and brings it nearer
  data Stepped (d : ℕ) (now : TickCall) : Type 0 where
    served : serves k now.answer ≡ true → Stepped d now
    nearer : (e : ℕ) → e < d → Waits now.standing e → Stepped d now

  module _ (turn : Turn) (standing : Standing) where
    abbrev now : TickCall
    now = tick_call rule board turn standing

    stepped : found_by board turn ≡ result sheets → (d : ℕ) → d < length sheets
        → is_due turn standing k ≡ true → Behind (length sheets) (served_last (length sheets) standing.number) d k → Stepped d now
    unfolding serve
    stepped passes d near due behind =
        go (first-due (length sheets) (is_due turn standing) standing.number d k near is_sheet due behind)
      where
        go : First (length sheets) (is_due turn standing) standing.number d k → Stepped d now
        go (itself first) =
            let s : Serves board turn standing sheets k = record { passes = passes; is_sheet = is_sheet; is_due_now = due; first = sym first } in
            rw (tick_serves rule board turn standing sheets k s) (served (answers-served k (instant_of rule board turn sheets k).answer))
        go (before j e first isOther less behind') =
            let below = some-due (length sheets) (is_due turn standing) standing.number k is_sheet due in
            let other-due = first-is (length sheets) (is_due turn standing) standing.number below in
            let s : Serves board turn standing sheets j =
            record { passes = passes; is_sheet = isOther; is_due_now = rw first at other-due; first = sym first } in
            let left = stands-behind rule board turn standing sheets j s in
            let other = ne_eqb k j (apart (length sheets) j e k (omega arith) behind') in
            nearer e less
            (record {
              near = omega arith;
              stored = left.stored k ∙ rw (lt-ltb k (length sheets) is_sheet, due, other);
              behind = rw (left.number, lt-ltb j (length sheets) isOther) behind';
            })

    -- a tick is refused and hands back what it was given, or finds the sheets of the board
    data Passing : Type 0 where
      refused : is_refused now.answer ≡ true → now.standing ≡ standing → Passing
      passing : found_by board turn ≡ result sheets → Passing

    tick_passing : Passing
    unfolding tick_call
    tick_passing = go (found_by board turn) refl
      where
        go : (o : Outcome (List Sheet)) → found_by board turn ≡ o → Passing
        go (refusal why place) e = refused (rw e) (rw e)
        go (result found) e = passing (rw (same_sheets board turn.memory turn.input turn.output sheets found isBoard e) at e)

    -- served now, or later because it is nearer
    served_soon : (turns : List Turn) (d : ℕ) → Stepped d now
        → ((e : ℕ) → e < d → Waits now.standing e → served_in k (answers rule board now.standing turns) ≡ true)
        → served_in k (answers rule board standing (turn ∷ turns)) ≡ true
    unfolding answers served_in
    served_soon turns d (served q) later = rw q
    served_soon turns d (nearer e less waits) later = rw (later e less waits) (or-true (serves k now.answer))

  waiting-served : (turns : List Turn) (standing : Standing) (d : ℕ) → Waits standing d
      → d < counted (answers rule board standing turns) → served_in k (answers rule board standing turns) ≡ true
  unfolding answers counted served_in
  waiting-served [] standing d waits enough = absurd (omega arith)
  waiting-served (turn ∷ turns) standing d waits enough =
      go (tick_passing turn standing) (waiting-served turns (now turn standing).standing)
    where
      go : Passing turn standing
          → ((e : ℕ) → Waits (now turn standing).standing e → e < counted (answers rule board (now turn standing).standing turns)
          → served_in k (answers rule board (now turn standing).standing turns) ≡ true)
          → served_in k (answers rule board standing (turn ∷ turns)) ≡ true
      go (refused e same) rest =
          let left = rw e at enough in
          rw (rest d (rw same waits) (omega arith)) (or-true (serves k (now turn standing).answer))
      go (passing passes) rest =
          served_soon turn standing turns d
          (stepped turn standing passes d waits.near (rw waits.stored (or-true (marked turn.due k))) waits.behind)
          (λ e less near. rest e near (omega (arith, counts-one (is_refused (now turn standing).answer))))

  -- A sheet whose mark is stored.
  pub stored-served : (turns : List Turn) (standing : Standing) → marked standing.stored k ≡ true
      → length sheets ≤ counted (answers rule board standing turns) → served_in k (answers rule board standing turns) ≡ true
  stored-served turns standing stored enough =
      let (d, near, behind) = behind-some (length sheets) (served_last (length sheets) standing.number)
      (last-served (length sheets) standing.number (omega arith)) k is_sheet in
      waiting-served turns standing d (record { near = near; stored = stored; behind = behind }) (omega arith)

  -- A sheet that a tick marks or finds marked, where that tick is not refused: it is served in that tick or in the ticks after it, by the time
  -- that they count as many as there are sheets.
  pub service : (turn : Turn) (turns : List Turn) (standing : Standing) → is_due turn standing k ≡ true
      → is_refused (tick_call rule board turn standing).answer ≡ false
      → length sheets ≤ counted (answers rule board standing (turn ∷ turns)) → served_in k (answers rule board standing (turn ∷ turns)) ≡ true
  unfolding answers counted
  service turn turns standing due stored enough =
      let (d, near, behind) = behind-some (length sheets) (served_last (length sheets) standing.number)
      (last-served (length sheets) standing.number (omega arith)) k is_sheet in
      go (tick_passing turn standing) d near behind
    where
      go : Passing turn standing → (d : ℕ) → d < length sheets → Behind (length sheets) (served_last (length sheets) standing.number) d k
          → served_in k (answers rule board standing (turn ∷ turns)) ≡ true
      go (refused e same) d near behind = never (cc)
      go (passing passes) d near behind =
          let left = rw stored at enough in
          served_soon turn standing turns d (stepped turn standing passes d near due behind)
          (λ e less waits. waiting-served turns (now turn standing).standing e waits (omega arith))
