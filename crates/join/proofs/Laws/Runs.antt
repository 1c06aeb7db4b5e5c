-- An instant of a joined sheet, from the bytes of memory and rows: it reads what both read, joined, it is accepted exactly if both are, and then it
-- leaves what they leave. In rounds, and by demand 3 along a schedule.
use Rattle.std.specs.Prelude.{Ok, ◌≡◌, ℕ, suc, ◌+◌, ◌*◌, ◌<◌, max, List, [], ◌∷◌, ◌++◌, ◌↔◌, length, get_or}
use Rattle.std.proofs.Common.{sym, ap, ap₂, ◌∙◌, arith, length-append}
use Rattle.std.proofs.lemmas.List.{length-map}
use Rattle.sheet.specs.Outcomes.{result}
use Rattle.sheet.specs.Sheets.{Sheet, sheet_forms, sheet_of}
use Rattle.sheet.specs.Lists.{Every, none, ◌and◌}
use Rattle.sheet.specs.Memory.{memory_bytes, memory_of}
use Rattle.sheet.specs.Rows.{row_bytes, inputs_of}
use Rattle.sheet.proofs.Laws.Memory.{memory_valid, row-valid, pairwise-length}
use Rattle.sheet.specs.Laws.Outcomes.{same-result}
use Rattle.sheet.proofs.Laws.Typing.{passed_check}
use Rattle.sheet.specs.declared.Cell.{Cell}
use Rattle.sheet.specs.declared.Datum.{Datum}
use Rattle.kernel.specs.Systems.{Full}
use Rattle.kernel.specs.Instants.{wire_count, next_memory, output_row}
use Rattle.kernel.specs.Schedules.{IsSchedule}
use Rattle.kernel.specs.Calls.{Given, given_of, InstantCall, rounds_call, scheduled_call}
use Rattle.kernel.proofs.Laws.Accepted.{full-accepted, accepted-full, schedule_accepted, accepted-along}
use Rattle.kernel.proofs.Laws.Demands.{given_finished, given_rounds}
use Rattle.kernel.proofs.Laws.Given.{given_by, by-given}
use Rattle.kernel.specs.Answers.{InRounds, Scheduled}
use Rattle.join.specs.Joined.{shifted_numbers, joined_list, joined}
use Rattle.join.specs.Runs.{both_leave, RoundsJoined, ScheduledJoined}
use Rattle.join.proofs.Laws.Buffers.{memory_bytes-joined, row-bytes-joined}
use Rattle.join.proofs.Laws.Buffers.{memory_of-joined, memory_of-parts, inputs-of-joined, inputs-of-parts}
use Rattle.join.proofs.Laws.Instants.{Sound, Asked, forms_joined, InstantJoined, instant_joined}
use Rattle.join.proofs.Laws.Schedules.{schedule_joined, schedule_parts}

-- A memory and an input row that a sheet reads.
record Reads (sheet : Sheet) (memory input : List ℕ) : Type 0 where
  cells : List Cell
  inputs : List Datum
  holds : memory_of (sheet_forms sheet) memory ≡ result cells
  row : inputs_of sheet.input_types input ≡ result inputs

abbrev given_to : {sheet : Sheet} {memory input : List ℕ} → Reads sheet memory input → Given
given_to {sheet} r = record { sheet = sheet; inputs = r.inputs; memory = r.cells }

abbrev LeavesNone : {sheet : Sheet} {memory input : List ℕ} → Reads sheet memory input → Type 0
LeavesNone {sheet} r = Full (wire_count sheet) (given_finished (given_to r))

reads_same : {sheet : Sheet} {memory input : List ℕ} (one other : Reads sheet memory input) → given_to one ≡ given_to other
reads_same one other =
    let cells : one.cells ≡ other.cells = same-result (sym one.holds ∙ other.holds) in
    let inputs : one.inputs ≡ other.inputs = same-result (sym one.row ∙ other.row) in
    rw (cells, inputs)

reads-asked : {sheet : Sheet} {memory input : List ℕ} (r : Reads sheet memory input) → Asked sheet r.inputs r.cells
reads-asked {sheet} {memory} {input} r =
    record {
      of_inputs = sym (pairwise-length (row-valid sheet.input_types input r.row));
      of_memory = sym (pairwise-length (memory_valid (sheet_forms sheet) memory r.holds));
    }

every-place : (P : ℕ → Type 0) (xs : List ℕ) → ((i : ℕ) → i < length xs → P (get_or xs i 0)) → Every P xs
every-place P [] h = none
every-place P (x ∷ xs) h = h 0 (omega arith) and every-place P xs (λ i l. h (suc i) (omega arith))

pub sound_read : (s : List ℕ) {sheet : Sheet} → sheet_of s ≡ result sheet → Sound sheet
sound_read s {sheet} read =
    let p = passed_check s read in
    record { typed = p.well_typed_lem; outputs_named = every-place (λ w. w < wire_count sheet) sheet.outputs p.outputs-are-wires }

-- An instant of a sheet, by what it reads.
module _ (s : List ℕ) (sheet : Sheet) (read : sheet_of s ≡ result sheet) (memory input output : List ℕ)
    (sized : length output ≡ 4 * length sheet.outputs) where
  given : (r : Reads sheet memory input) → given_of s memory input output ≡ result (given_to r)
  given r = by-given (record { sheet = read; cells = r.holds; inputs = r.row; outputs = sized })

  -- of one that is given something: that is what the sheet reads
  given-reads : (found : Given) → given_of s memory input output ≡ result found
      → (r : Reads sheet memory input) × (found ≡ given_to r)
  given-reads found passes =
      let g = given_by s memory input output found passes in
      let same : found.sheet ≡ sheet = same-result (sym g.sheet ∙ read) in
      let r : Reads sheet memory input =
      record { cells = found.memory; inputs = found.inputs; holds = rw same at g.cells; row = rw same at g.inputs } in
      (r, rw same)

  accepts : (r : Reads sheet memory input) → LeavesNone r
      → rounds_call s memory input output ≡ record {
        answer = Ok (given_rounds (given_to r));
        memory = memory_bytes (next_memory sheet r.inputs r.cells (given_finished (given_to r)));
        output = row_bytes (output_row sheet (given_finished (given_to r)));
      }
  accepts r full = full-accepted s memory input output (given_to r) (given r) full

  accepted : {count : ℕ} → (rounds_call s memory input output).answer ≡ Ok count
      → (r : Reads sheet memory input) × LeavesNone r × (count ≡ given_rounds (given_to r))
  accepted e =
      let a = accepted-full s memory input output e in
      let (r, same) = given-reads a.given a.passes in
      (r, rw same at a.full, rw same at a.rounds)

  accepts_list : (list : List ℕ) → Reads sheet memory input → IsSchedule sheet list
      → (scheduled_call s memory input output list).answer ≡ Ok tt
  accepts_list list r schedule =
      ap (λ (x : InstantCall Scheduled). x.answer) (schedule_accepted s memory input output (given_to r) (given r) list schedule)

  accepted_list : (list : List ℕ) → (scheduled_call s memory input output list).answer ≡ Ok tt
      → Reads sheet memory input × IsSchedule sheet list
  accepted_list list e =
      let a = accepted-along s memory input output list e in
      let (r, same) = given-reads a.given a.passes in
      (r, rw same at a.schedule)

-- Of two sheets, and of bytes that read as the two joined.
module _ (s t bytes : List ℕ) (first second : Sheet) (read₁ : sheet_of s ≡ result first) (read₂ : sheet_of t ≡ result second)
    (read : sheet_of bytes ≡ result (joined first second)) (memory₁ memory₂ input₁ input₂ output₁ output₂ : List ℕ)
    (memory-sized₁ : length memory₁ ≡ 5 * length (sheet_forms first)) (memory-sized₂ : length memory₂ ≡ 5 * length (sheet_forms second))
    (input-sized₁ : length input₁ ≡ 4 * length first.input_types) (input-sized₂ : length input₂ ≡ 4 * length second.input_types)
    (output-sized₁ : length output₁ ≡ 4 * length first.outputs) (output-sized₂ : length output₂ ≡ 4 * length second.outputs) where
  abbrev whole : Sheet
  whole = joined first second

  output_sized : length (output₁ ++ output₂) ≡ 4 * length whole.outputs
  output_sized =
      rw (
        length-append output₁ output₂,
        length-append first.outputs (shifted_numbers (length first.wire_types) second.outputs),
        length-map second.outputs (λ w. length first.wire_types + w),
      ) (omega arith)

  -- what is read
  both_read : Reads first memory₁ input₁ → Reads second memory₂ input₂ → Reads whole (memory₁ ++ memory₂) (input₁ ++ input₂)
  both_read one other =
      record {
        cells = one.cells ++ other.cells;
        inputs = one.inputs ++ other.inputs;
        holds = rw (forms_joined first second)
            (memory_of-joined (sheet_forms first) (sheet_forms second) memory₁ memory₂ memory-sized₁ memory-sized₂ one.holds other.holds);
        row = inputs-of-joined first.input_types second.input_types input₁ input₂ input-sized₁ input-sized₂ one.row other.row;
      }

  parts-read : Reads whole (memory₁ ++ memory₂) (input₁ ++ input₂) → Reads first memory₁ input₁ × Reads second memory₂ input₂
  parts-read all =
      let (m₁, m₂) = memory_of-parts (sheet_forms first) (sheet_forms second) memory₁ memory₂ memory-sized₁ memory-sized₂
      (rw (forms_joined first second) at all.holds) in
      let (r₁, r₂) = inputs-of-parts first.input_types second.input_types input₁ input₂ input-sized₁ input-sized₂ all.row in
      (record { cells = _; inputs = _; holds = m₁; row = r₁ }, record { cells = _; inputs = _; holds = m₂; row = r₂ })

  module _ (one : Reads first memory₁ input₁) (other : Reads second memory₂ input₂) where
    abbrev all : Reads whole (memory₁ ++ memory₂) (input₁ ++ input₂)
    all = both_read one other

    -- what the instant comes to
    comes : InstantJoined first second (sound_read s read₁) (sound_read t read₂) one.inputs other.inputs one.cells other.cells
        (reads-asked one) (reads-asked other)
    comes = instant_joined first second (sound_read s read₁) (sound_read t read₂) one.inputs other.inputs one.cells other.cells
        (reads-asked one) (reads-asked other)

    all-full : LeavesNone all ↔ (LeavesNone one × LeavesNone other)
    unfolding both_read
    all-full = comes.full

    all-stored : memory_bytes (next_memory whole all.inputs all.cells (given_finished (given_to all)))
        ≡ memory_bytes (next_memory first one.inputs one.cells (given_finished (given_to one)))
        ++ memory_bytes (next_memory second other.inputs other.cells (given_finished (given_to other)))
    unfolding both_read
    all-stored = rw comes.values (ap memory_bytes comes.stores ∙ memory_bytes-joined _ _)

    all-written : row_bytes (output_row whole (given_finished (given_to all)))
        ≡ row_bytes (output_row first (given_finished (given_to one))) ++ row_bytes (output_row second (given_finished (given_to other)))
    unfolding both_read
    all-written = rw comes.values (ap row_bytes comes.outputs ∙ row-bytes-joined _ _)

    all_rounds : given_rounds (given_to all) ≡ max (given_rounds (given_to one)) (given_rounds (given_to other))
    unfolding both_read
    all_rounds = comes.counts

    -- the whole instant, where no wire is left unknown
    accepts-both : LeavesNone one → LeavesNone other
        → rounds_call bytes (memory₁ ++ memory₂) (input₁ ++ input₂) (output₁ ++ output₂)
        ≡ both_leave (Ok (max (given_rounds (given_to one)) (given_rounds (given_to other))))
        (rounds_call s memory₁ input₁ output₁) (rounds_call t memory₂ input₂ output₂)
    accepts-both full₁ full₂ =
        accepts bytes whole read _ _ _ output_sized all (all-full.1 (full₁, full₂))
        ∙ rw (
          all-stored,
          all-written,
          all_rounds,
          accepts s first read₁ memory₁ input₁ output₁ output-sized₁ one full₁,
          accepts t second read₂ memory₂ input₂ output₂ output-sized₂ other full₂,
        )

  pub in_rounds_lem : RoundsJoined (rounds_call bytes (memory₁ ++ memory₂) (input₁ ++ input₂) (output₁ ++ output₂))
      (rounds_call s memory₁ input₁ output₁) (rounds_call t memory₂ input₂ output₂)
  in_rounds_lem = record { both = λ e f. together e f; parts = λ e. apart e }
    where
      together : {n m : ℕ} → (rounds_call s memory₁ input₁ output₁).answer ≡ Ok n
          → (rounds_call t memory₂ input₂ output₂).answer ≡ Ok m
          → rounds_call bytes (memory₁ ++ memory₂) (input₁ ++ input₂) (output₁ ++ output₂)
          ≡ both_leave (Ok (max n m)) (rounds_call s memory₁ input₁ output₁) (rounds_call t memory₂ input₂ output₂)
      together e f =
          let (one, full₁, count₁) = accepted s first read₁ memory₁ input₁ output₁ output-sized₁ e in
          let (other, full₂, count₂) = accepted t second read₂ memory₂ input₂ output₂ output-sized₂ f in
          accepts-both one other full₁ full₂
          ∙ ap₂ (λ x y. both_leave (Ok (max x y)) (rounds_call s memory₁ input₁ output₁) (rounds_call t memory₂ input₂ output₂))
          (sym count₁) (sym count₂)

      apart : {count : ℕ} → (rounds_call bytes (memory₁ ++ memory₂) (input₁ ++ input₂) (output₁ ++ output₂)).answer ≡ Ok count
          → (n : ℕ) × (m : ℕ) × ((rounds_call s memory₁ input₁ output₁).answer ≡ Ok n)
          × ((rounds_call t memory₂ input₂ output₂).answer ≡ Ok m)
      apart e =
          let (found, full, count) = accepted bytes whole read _ _ _ output_sized e in
          let (one, other) = parts-read found in
          let (full₁, full₂) = (all-full one other).0 (rw (reads_same found (all one other)) at full) in (
            given_rounds (given_to one),
            given_rounds (given_to other),
            ap (λ (x : InstantCall InRounds). x.answer) (accepts s first read₁ memory₁ input₁ output₁ output-sized₁ one full₁),
            ap (λ (x : InstantCall InRounds). x.answer) (accepts t second read₂ memory₂ input₂ output₂ output-sized₂ other full₂),
          )

  -- along a schedule of the first and then one of the second, shifted
  module _ (list₁ list₂ : List ℕ) (counted₁ : length list₁ ≡ wire_count first) (counted₂ : length list₂ ≡ wire_count second) where
    abbrev list : List ℕ
    list = joined_list (length first.wire_types) list₁ list₂

    along-both : (one : Reads first memory₁ input₁) (other : Reads second memory₂ input₂) → IsSchedule first list₁ → IsSchedule second list₂
        → scheduled_call bytes (memory₁ ++ memory₂) (input₁ ++ input₂) (output₁ ++ output₂) list
        ≡ both_leave (Ok tt) (scheduled_call s memory₁ input₁ output₁ list₁) (scheduled_call t memory₂ input₂ output₂ list₂)
    along-both one other schedule₁ schedule₂ =
        let schedule = schedule_joined first second (sound_read s read₁).typed list₁ list₂ counted₁ counted₂ schedule₁ schedule₂ in
        schedule_accepted bytes _ _ _ (given_to (all one other)) (given bytes whole read _ _ _ output_sized (all one other)) list schedule
        ∙ rw (
          all-stored one other,
          all-written one other,
          schedule_accepted s memory₁ input₁ output₁ (given_to one) (given s first read₁ memory₁ input₁ output₁ output-sized₁ one)
              list₁ schedule₁,
          schedule_accepted t memory₂ input₂ output₂ (given_to other) (given t second read₂ memory₂ input₂ output₂ output-sized₂ other)
              list₂ schedule₂,
        )

    pub along_schedule_lem : ScheduledJoined (scheduled_call bytes (memory₁ ++ memory₂) (input₁ ++ input₂) (output₁ ++ output₂) list)
        (scheduled_call s memory₁ input₁ output₁ list₁) (scheduled_call t memory₂ input₂ output₂ list₂)
    along_schedule_lem = record { both = λ e f. together e f; parts = λ e. apart e }
      where
        together : (scheduled_call s memory₁ input₁ output₁ list₁).answer ≡ Ok tt
            → (scheduled_call t memory₂ input₂ output₂ list₂).answer ≡ Ok tt
            → scheduled_call bytes (memory₁ ++ memory₂) (input₁ ++ input₂) (output₁ ++ output₂) list
            ≡ both_leave (Ok tt) (scheduled_call s memory₁ input₁ output₁ list₁) (scheduled_call t memory₂ input₂ output₂ list₂)
        together e f =
            let (one, schedule₁) = accepted_list s first read₁ memory₁ input₁ output₁ output-sized₁ list₁ e in
            let (other, schedule₂) = accepted_list t second read₂ memory₂ input₂ output₂ output-sized₂ list₂ f in
            along-both one other schedule₁ schedule₂

        apart : (scheduled_call bytes (memory₁ ++ memory₂) (input₁ ++ input₂) (output₁ ++ output₂) list).answer ≡ Ok tt
            → ((scheduled_call s memory₁ input₁ output₁ list₁).answer ≡ Ok tt)
            × ((scheduled_call t memory₂ input₂ output₂ list₂).answer ≡ Ok tt)
        apart e =
            let (found, schedule) = accepted_list bytes whole read _ _ _ output_sized list e in
            let (one, other) = parts-read found in
            let (schedule₁, schedule₂) =
            schedule_parts first second (sound_read s read₁).typed list₁ list₂ counted₁ counted₂ schedule in (
              accepts_list s first read₁ memory₁ input₁ output₁ output-sized₁ list₁ one schedule₁,
              accepts_list t second read₂ memory₂ input₂ output₂ output-sized₂ list₂ other schedule₂,
            )
