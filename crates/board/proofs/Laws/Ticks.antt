-- A tick as a whole, from its answer: refused, it changes nothing; with none due it writes nothing and keeps the number; a served sheet has what its
-- own instant in rounds gives, demand 2 through it, and no byte outside its parts is changed.
use Rattle.std.specs.Prelude.{Ok, Err, ◌≡◌, Bool, true, false, ◌&&◌, List, Result, eqb, ltb, length}
use Rattle.sheet.specs.Outcomes.{refused_at, Outcome, refusal, result}
use Rattle.std.proofs.Math.Path.{refl, sym, ap}
use Rattle.std.proofs.Common.{◌∙◌}
use Prim.Native.Nat.{ℕ, ◌+◌, ◌≤◌, ◌<◌}
use Rattle.std.proofs.Math.Bool.{not}
use borrow.Author.Tests.{ltb-true, ltb-false, lt-ltb}
use Rattle.sheet.specs.Sheets.{Sheet, sheet_forms}
use Rattle.sheet.specs.Laws.Lists.{never}
use Rattle.sheet.proofs.Laws.Memory.{memory_view}
use Rattle.sheet.specs.declared.Refused.{Refused}
use Rattle.sheet.specs.declared.Refusal.{Refusal}
use Rattle.sheet.specs.declared.Refusal.TheVariants.{StaysUnknown}
use Rattle.kernel.specs.Calls.{InstantCall, rounds_call}
use Rattle.kernel.proofs.Laws.Answers.{AcceptedAfter, UnknownAt, demand2_answered}
use Rattle.kernel.specs.Answers.{InRounds}
use Rattle.board.specs.Boards.{bytes_of}
use Rattle.board.specs.Parts.{joined, begin, size, memory_part, input_part, output_part, outputs_in}
use Rattle.board.specs.Marks.{marked}
use Rattle.board.specs.Serving.{Restart, runs_from, served_call}
use Rattle.board.specs.Ticks.{Turn, TickCall, found_by, is_due, served_answer, instant_of, serve, due_sheet, tick_call}
use Rattle.board.specs.declared.Standing.{Standing}
use Rattle.board.specs.declared.Ticked.{Ticked}
use Rattle.board.specs.declared.Ticked.TheVariants.{NoneDue, Served, LeftUnknown}
use Rattle.board.proofs.Laws.Boards.{passed-by}
use Rattle.board.proofs.Laws.Marks.{marks-back, marks-none, none-due, first-is}
use Rattle.board.proofs.Laws.Parts.{ChangedOnly, part-within, cut-put, put_only, put_back, other-part}
use Rattle.board.proofs.Laws.Serving.{IsRestart, sheet-served}

-- all checks are passed, and sheet k of these is the first that is due
pub record Serves (board : List ℕ) (turn : Turn) (standing : Standing) (sheets : List Sheet) (k : ℕ) : Type 0 where
  pub passes : found_by board turn ≡ result sheets
  pub is_sheet : k < length sheets
  pub is_due_now : is_due turn standing k ≡ true
  pub first : k ≡ due_sheet (length sheets) turn standing

-- what a tick that serves sheet k leaves, with the sheet's instant: the answer and its parts by the instant, and all else as it was
pub record ServedBy (sheets : List Sheet) (turn : Turn) (k : ℕ) (instant : InstantCall InRounds) (now : TickCall) : Type 0 where
  pub answer : now.answer ≡ Ok (served_answer k instant.answer)
  pub memory : memory_part sheets k now.memory ≡ instant.memory
  pub output : output_part sheets k now.output ≡ instant.output
  pub memory_elsewhere : ChangedOnly (begin 5 sheet_forms sheets k) (begin 5 sheet_forms sheets k + size 5 sheet_forms sheets k)
      turn.memory now.memory
  pub output_elsewhere : ChangedOnly (begin 4 outputs_in sheets k) (begin 4 outputs_in sheets k + size 4 outputs_in sheets k)
      turn.output now.output

-- what is handed back where sheet k of n is served: its mark is cleared, the other marks of sheets stay
pub record StandsBehind (turn : Turn) (standing : Standing) (n k : ℕ) (left : Standing) : Type 0 where
  pub number : left.number ≡ k
  pub stored : (j : ℕ) → marked left.stored j ≡ (ltb j n && (is_due turn standing j && not (eqb j k)))

module _ (rule : Restart) (board : List ℕ) (turn : Turn) (standing : Standing) where
  abbrev now : TickCall
  now = tick_call rule board turn standing

  pub tick_serves : (sheets : List Sheet) (k : ℕ) → Serves board turn standing sheets k → now ≡ serve rule board turn sheets standing k
  unfolding tick_call
  tick_serves sheets k s =
      let due : due_sheet (length sheets) turn standing ≡ k = sym s.first in
      rw (s.passes, due, lt-ltb k (length sheets) s.is_sheet)

  pub stands-behind : (sheets : List Sheet) (k : ℕ) → Serves board turn standing sheets k
      → StandsBehind turn standing (length sheets) k now.standing
  unfolding serve
  stands-behind sheets k s =
      record {
        number = rw (tick_serves sheets k s);
        stored = λ j. rw (tick_serves sheets k s) (marks-back (λ i. is_due turn standing i && not (eqb i k)) (length sheets) j);
      }

  -- the three ways in which a tick goes
  pub data Goes (now : TickCall) : Type 0 where
    refused : (why : Refusal) (place : ℕ) → found_by board turn ≡ refusal why place
        → now ≡ record { answer = refused_at why place; memory = turn.memory; output = turn.output; standing = standing }
        → Goes now
    idle : (sheets : List Sheet) → found_by board turn ≡ result sheets
        → ((k : ℕ) → k < length sheets → is_due turn standing k ≡ false)
        → now ≡ record {
          answer = Ok NoneDue;
          memory = turn.memory;
          output = turn.output;
          standing = record { stored = 0; number = standing.number };
        }
        → Goes now
    serving : (sheets : List Sheet) (k : ℕ) → Serves board turn standing sheets k → now ≡ serve rule board turn sheets standing k → Goes now

  pub tick_goes : Goes now
  unfolding tick_call
  tick_goes = go (found_by board turn) refl
    where
      go : (o : Outcome (List Sheet)) → found_by board turn ≡ o → Goes now
      go (refusal why place) e = refused why place e (rw e)
      go (result sheets) e = next (ltb (due_sheet (length sheets) turn standing) (length sheets)) refl
        where
          k : ℕ
          k = due_sheet (length sheets) turn standing

          next : (t : Bool) → ltb k (length sheets) ≡ t → Goes now
          next false f =
              let nobody = none-due (length sheets) (is_due turn standing) standing.number (ltb-false k (length sheets) f) in
              idle sheets e nobody (rw (e, f, marks-none (is_due turn standing) (length sheets) nobody))
          next true f =
              let below = ltb-true k (length sheets) f in
              let due = first-is (length sheets) (is_due turn standing) standing.number below in
              let s : Serves board turn standing sheets k = record { passes = e; is_sheet = below; is_due_now = due; first = refl } in
              serving sheets k s (tick_serves sheets k s)

  module _ (isRestart : IsRestart rule) where
    module _ (sheets : List Sheet) (k : ℕ) (s : Serves board turn standing sheets k) where
      memory_within : begin 5 sheet_forms sheets k + size 5 sheet_forms sheets k ≤ length turn.memory
      memory_within =
          let passed = passed-by board turn.memory turn.input turn.output sheets s.passes in
          part-within 5 sheet_forms sheets (length turn.memory)
          (memory_view (joined sheet_forms sheets) turn.memory passed.cells.1).sized k s.is_sheet

      output_within : begin 4 outputs_in sheets k + size 4 outputs_in sheets k ≤ length turn.output
      output_within =
          let passed = passed-by board turn.memory turn.input turn.output sheets s.passes in
          part-within 4 outputs_in sheets (length turn.output) passed.outputs k s.is_sheet

      -- the answer and the served sheet's parts are by its instant, and no other byte is changed
      pub tick_by : ServedBy sheets turn k (instant_of rule board turn sheets k) now
      unfolding serve
      tick_by =
          let well = sheet-served rule isRestart board turn sheets s.passes k s.is_sheet in
          let instant = instant_of rule board turn sheets k in
          rw (tick_serves sheets k s)
          (record {
            answer = refl;
            memory = cut-put _ _ turn.memory memory_within instant.memory well.memory_size;
            output = cut-put _ _ turn.output output_within instant.output well.output_size;
            memory_elsewhere = put_only _ _ turn.memory memory_within instant.memory well.memory_size;
            output_elsewhere = put_only _ _ turn.output output_within instant.output well.output_size;
          })

      -- the parts of every other sheet are as they were
      pub others-kept : (j : ℕ) → j < length sheets → (j ≡ k → ⊥)
          → (memory_part sheets j now.memory ≡ memory_part sheets j turn.memory)
          × (output_part sheets j now.output ≡ output_part sheets j turn.output)
      others-kept j l other =
          let passed = passed-by board turn.memory turn.input turn.output sheets s.passes in
          let sized = (memory_view (joined sheet_forms sheets) turn.memory passed.cells.1).sized in (
            other-part 5 sheet_forms sheets turn.memory now.memory sized j k l s.is_sheet other tick_by.memory_elsewhere,
            other-part 4 outputs_in sheets turn.output now.output passed.outputs j k l s.is_sheet other tick_by.output_elsewhere,
          )

      -- an instant that is refused leaves memory and output row as they were
      pub refused-unwritten : {why : Refusal} {wire : ℕ} → (instant_of rule board turn sheets k).answer ≡ refused_at why wire
          → (why ≡ StaysUnknown) × (now.memory ≡ turn.memory) × (now.output ≡ turn.output)
      unfolding serve
      refused-unwritten e =
          let well = sheet-served rule isRestart board turn sheets s.passes k s.is_sheet in
          let (is, memory, output) = well.unknown e in (
            is,
            rw (tick_serves sheets k s, memory) (put_back _ _ turn.memory memory_within),
            rw (tick_serves sheets k s, output) (put_back _ _ turn.output output_within),
          )

    -- What each answer says.

    -- refused: with the first of the refusals 22, 1 to 11 and 12 to 16, and nothing is changed, marks and number neither
    pub record TickRefused (why : Refusal) (place : ℕ) : Type 0 where
      pub found : found_by board turn ≡ refusal why place
      pub memory : now.memory ≡ turn.memory
      pub output : now.output ≡ turn.output
      pub handed : now.standing ≡ standing

    -- none is due: all checks are passed, nothing is written, no mark is stored, and the number is kept
    pub record TickIdle : Type 0 where
      pub sheets : List Sheet
      pub passes : found_by board turn ≡ result sheets
      pub nobody : (k : ℕ) → k < length sheets → is_due turn standing k ≡ false
      pub memory : now.memory ≡ turn.memory
      pub output : now.output ≡ turn.output
      pub stored : now.standing.stored ≡ 0
      pub number : now.standing.number ≡ standing.number

    -- sheet k is served: the first due one in ring order; no byte outside its parts is changed, and its mark alone is cleared
    pub record TickServes (k : ℕ) : Type 0 where
      pub sheets : List Sheet
      pub serves : Serves board turn standing sheets k
      pub by : ServedBy sheets turn k (instant_of rule board turn sheets k) now
      pub stands : StandsBehind turn standing (length sheets) k now.standing

    -- its bytes, the memory that it runs from, and its rows
    module _ {k : ℕ} (t : TickServes k) where
      abbrev pub served_bytes : List ℕ
      served_bytes = bytes_of board k

      abbrev pub served_from : List ℕ
      served_from = runs_from rule (marked turn.restart k) served_bytes (memory_part t.sheets k turn.memory)

      abbrev pub served_input : List ℕ
      served_input = input_part t.sheets k turn.input

      abbrev pub served_output : List ℕ
      served_output = output_part t.sheets k turn.output

    -- accepted: by demand 2 its parts get the outputs and the next memory of the least solution, after so many rounds
    pub record ServedAfter (k rounds : ℕ) : Type 0 where
      pub tick : TickServes k
      pub solved : AcceptedAfter (served_bytes tick) (served_from tick) (served_input tick) (served_output tick) rounds
      pub stores : memory_part tick.sheets k now.memory
          ≡ (rounds_call (served_bytes tick) (served_from tick) (served_input tick) (served_output tick)).memory
      pub writes : output_part tick.sheets k now.output
          ≡ (rounds_call (served_bytes tick) (served_from tick) (served_input tick) (served_output tick)).output

    -- refused with 20: by demand 2 its least solution leaves the wire unknown, and nothing is written, also where it is restarted
    pub record UnknownIn (k wire : ℕ) : Type 0 where
      pub tick : TickServes k
      pub unknown : UnknownAt (served_bytes tick) (served_from tick) (served_input tick) (served_output tick) wire
      pub memory : now.memory ≡ turn.memory
      pub output : now.output ≡ turn.output

    pub record TickAnswered : Type 0 where
      pub refused : {why : Refusal} {place : ℕ} → now.answer ≡ refused_at why place → TickRefused why place
      pub none : now.answer ≡ Ok NoneDue → TickIdle
      pub served : {k rounds : ℕ} → now.answer ≡ Ok (Served k rounds) → ServedAfter k rounds
      pub unknown : {k wire : ℕ} → now.answer ≡ Ok (LeftUnknown k wire) → UnknownIn k wire

    abbrev serves_as : (sheets : List Sheet) (k : ℕ) → Serves board turn standing sheets k → TickServes k
    serves_as sheets k s = record { sheets = sheets; serves = s; by = tick_by sheets k s; stands = stands-behind sheets k s }

    -- an answer that is no refusal holds one thing
    same-answer : {a b : Ticked} → (answer : Result Ticked Refused) → answer ≡ Ok a → answer ≡ Ok b → a ≡ b
    same-answer answer e f = cc

    -- the answer of a served sheet is of its instant
    served-answer : (k : ℕ) (x : InRounds) {j rounds : ℕ} → served_answer k x ≡ Served j rounds → (k ≡ j) × (x ≡ Ok rounds)
    served-answer k (Err r) e = never (cc)
    served-answer k (Ok rounds) e = (cc, cc)

    unknown-answer : (k : ℕ) (x : InRounds) {j wire : ℕ} → served_answer k x ≡ LeftUnknown j wire
        → (k ≡ j) × ((why : Refusal) × (x ≡ refused_at why wire))
    unknown-answer k (Err r) {wire = wire} e =
        let place_is : r.place ≡ wire = cc in (cc, (r.why, rw (← place_is)))
    unknown-answer k (Ok rounds) e = never (cc)

    served-after : (sheets : List Sheet) (k : ℕ) {rounds : ℕ} → Serves board turn standing sheets k
        → (instant_of rule board turn sheets k).answer ≡ Ok rounds → ServedAfter k rounds
    unfolding served_call
    served-after sheets k {rounds} s e =
        let tick = serves_as sheets k s in
        let from = served_from tick in
        record {
          tick = tick;
          solved = (demand2_answered (served_bytes tick) from (served_input tick) (served_output tick)).accepted rounds e;
          stores = (tick_by sheets k s).memory ∙ rw e;
          writes = (tick_by sheets k s).output;
        }

    unknown_in : (sheets : List Sheet) (k : ℕ) {why : Refusal} {wire : ℕ} → Serves board turn standing sheets k
        → (instant_of rule board turn sheets k).answer ≡ refused_at why wire → UnknownIn k wire
    unfolding served_call
    unknown_in sheets k {why} {wire} s e =
        let tick = serves_as sheets k s in
        let (is, memory, output) = refused-unwritten sheets k s e in
        record {
          tick = tick;
          unknown = (demand2_answered (served_bytes tick) (served_from tick) (served_input tick) (served_output tick)).unknown wire (rw is at e);
          memory = memory;
          output = output;
        }

    pub tick_answered : TickAnswered
    unfolding serve
    tick_answered = go tick_goes
      where
        go : Goes now → TickAnswered
        go (refused why place e left) =
            record {
              refused = λ {why = found} {place = at} f.
                  let g : refused_at why place ≡ refused_at found at = sym (ap (λ (x : TickCall). x.answer) left) ∙ f in
                  let same : record { why = why; place = place } ≡ record { why = found; place = at } = cc in
                  let why-is = ap (λ (r : Refused). r.why) same in
                  let place_is = ap (λ (r : Refused). r.place) same in
                  record {
                    found = rw (why-is, place_is) at e;
                    memory = ap (λ (x : TickCall). x.memory) left;
                    output = ap (λ (x : TickCall). x.output) left;
                    handed = ap (λ (x : TickCall). x.standing) left;
                  };
              none = λ f. never (cc (ap (λ (x : TickCall). x.answer) left));
              served = λ f. never (cc (ap (λ (x : TickCall). x.answer) left));
              unknown = λ f. never (cc (ap (λ (x : TickCall). x.answer) left));
            }
        go (idle sheets e nobody left) =
            record {
              refused = λ f. never (cc (ap (λ (x : TickCall). x.answer) left));
              none = λ f. record {
                sheets = sheets;
                passes = e;
                nobody = nobody;
                memory = ap (λ (x : TickCall). x.memory) left;
                output = ap (λ (x : TickCall). x.output) left;
                stored = ap (λ (x : TickCall). x.standing.stored) left;
                number = ap (λ (x : TickCall). x.standing.number) left;
              };
              served = λ f. never (cc (ap (λ (x : TickCall). x.answer) left));
              unknown = λ f. never (cc (ap (λ (x : TickCall). x.answer) left));
            }
        go (serving sheets k s left) =
            let answer : now.answer ≡ Ok (served_answer k (instant_of rule board turn sheets k).answer) = ap (λ (x : TickCall). x.answer) left in
            record {
              refused = λ f. never (cc);
              none = λ f. never-idle (instant_of rule board turn sheets k).answer (same-answer now.answer answer f);
              served = λ f.
                  let (k-is, e) = served-answer k (instant_of rule board turn sheets k).answer (same-answer now.answer answer f) in
                  rw k-is at (served-after sheets k s e);
              unknown = λ f.
                  let (k-is, (why, e)) = unknown-answer k (instant_of rule board turn sheets k).answer (same-answer now.answer answer f) in
                  rw k-is at (unknown_in sheets k s e);
            }
          where
            never-idle : (x : InRounds) → served_answer k x ≡ NoneDue → TickIdle
            never-idle (Err r) e = never (cc)
            never-idle (Ok rounds) e = never (cc)
