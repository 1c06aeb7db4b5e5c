-- An accepted instant, from the answer of the call, wire by wire: the types of what it is worked out under, the value of each wire and the cells
-- that the instant leaves of it; what an accepted instant comes to as a whole, and one that is accepted along a schedule as one in rounds.
use Rattle.std.specs.Prelude.{Ok, ◌≡◌, Bool, drop}
use Prim.Native.Nat.{ℕ, zero, suc, ◌+◌, ◌<◌}
use Rattle.std.proofs.Math.Path.{refl, sym, ap}
use Rattle.std.proofs.Common.{◌∙◌, arith}
use Rattle.std.proofs.Math.Bool.{false}
use mathlib.Core.List.{List, ◌++◌, ◌∷◌}
use Rattle.std.proofs.Math.Nat.{zero-add, add-zero}
use Rattle.std.proofs.Math.ListN.{length, take}
use Rattle.std.proofs.Math.Seq.{take_at, drop-append-add}
use Rattle.sheet.specs.Data.{ValueType}
use Rattle.sheet.specs.Expressions.{Expression, cell_forms, cell_count}
use Rattle.sheet.specs.Outcomes.{Outcome, refusal, result, followed_by}
use Rattle.sheet.specs.Memory.{memory_bytes, memory_of}
use Rattle.sheet.specs.Rows.{row_bytes}
use Rattle.sheet.specs.Sheets.{forms_of, sheet_forms, expression_at, cells_before}
use Rattle.sheet.specs.Typing.{done, ◌then◌, HasType, HaveTypes, WellTyped, ValidMemory, ValidRow}
use Rattle.sheet.specs.Laws.Lists.{never}
use Rattle.sheet.specs.declared.Cell.{Cell}
use Rattle.kernel.specs.Values.{Has}
use Rattle.kernel.specs.Order.{value_at}
use Rattle.kernel.specs.Instant.{Environment, value, stored}
use Rattle.kernel.specs.Systems.{Full, Solution}
use Rattle.kernel.specs.Instants.{wire_count, stored_cells, lasts_of, under, finished, next_memory, output_row}
use Rattle.kernel.specs.Schedules.{schedule_of, IsSchedule, pass}
use Rattle.kernel.specs.Calls.{Given, given_of, InstantCall, accepted_of, scheduled, scheduled_answer, rounds_call, scheduled_call}
use Rattle.kernel.proofs.Laws.Instants.{behind-first, value-of-wire, round-at}
use Rattle.kernel.proofs.Laws.Typing.{OnWires, ValidFrom, parts, valid-from-start}
use Rattle.kernel.proofs.Laws.Storing.{stored-length}
use Rattle.kernel.proofs.Laws.Solutions.{finished_solution}
use Rattle.kernel.proofs.Laws.Schedules.{schedule_passed, passed_schedule}
use Rattle.kernel.proofs.Laws.Demands.{given_rounds, given_finished, demand2, scheduled-accepted, demand3}
use Rattle.kernel.proofs.Laws.Memory.{lasts_valid, finished-has, next_memory_valid, next_memory_back, given-valid}
use Rattle.kernel.proofs.Laws.Answers.{AcceptedAfter, demand2_answered}
use Rattle.kernel.specs.declared.Value.{Value}
use Rattle.kernel.specs.Answers.{InRounds}

-- the expression of a wire has a type, and its cells are valid
wire-typed : (input_types wire_types : List ValueType) (memory : List Cell) {ts : List ValueType} {es : List Expression} (k w : ℕ)
    → HaveTypes input_types wire_types ts es → ValidFrom memory (forms_of es) k → w < length es
    → ((t : ValueType) × HasType input_types wire_types t (expression_at es w))
    × ValidFrom memory (cell_forms (expression_at es w)) (k + cells_before es w)
unfolding forms_of
wire-typed input_types wire_types memory k w done cells l = absurd (omega arith)
wire-typed input_types wire_types memory k zero (◌then◌ {x = t} {y = e} {ys = es} typed rest) cells l =
    ((t, typed), rw add-zero (parts memory e (forms_of es) k cells).0)
wire-typed input_types wire_types memory k (suc w) (◌then◌ {y = e} {ys = es} typed rest) cells l =
    rw (behind-first e es k w)
    (wire-typed input_types wire_types memory (k + cell_count e) w rest (parts memory e (forms_of es) k cells).1 (omega arith))

-- among the cells that the wires store, those of a wire are what its expression stores
module _ (input_types wire_types : List ValueType) (now : Environment) (on_inputs : ValidRow input_types now.inputs)
    (on_lasts : ValidRow wire_types now.lasts) (on_wires : OnWires Has wire_types now.wires) where
  abbrev lengths : (t : ValueType) (e : Expression) (fresh : Bool) (k : ℕ) → HasType input_types wire_types t e
      → ValidFrom now.memory (cell_forms e) k → length (stored now fresh e k) ≡ cell_count e
  lengths = stored-length input_types wire_types now on_inputs on_lasts on_wires

  stored-of-wire : {ts : List ValueType} {es : List Expression} (k w : ℕ) → HaveTypes input_types wire_types ts es
      → ValidFrom now.memory (forms_of es) k → w < length es
      → take (cell_count (expression_at es w)) (drop (cells_before es w) (stored_cells now es k))
      ≡ stored now false (expression_at es w) (k + cells_before es w)
  unfolding forms_of stored_cells
  stored-of-wire k w done m l = absurd (omega arith)
  stored-of-wire k zero (◌then◌ {x = t} {y = e} {ys = es} h hs) m l =
      let rest = stored_cells now es (k + cell_count e) in
      take_at (stored now false e k) rest (cell_count e) (lengths t e false k h (parts now.memory e (forms_of es) k m).0) ∙ rw add-zero
  stored-of-wire k (suc w) (◌then◌ {x = t} {y = e} {ys = es} h hs) m l =
      let (m₁, m₂) = parts now.memory e (forms_of es) k m in
      let front = stored now false e k in
      let rest = stored_cells now es (k + cell_count e) in
      let place : cells_before (e ∷ es) (suc w) ≡ length front + cells_before es w = omega (arith, behind-first e es 0 w, lengths t e false k h m₁) in
      ap (λ n. take (cell_count (expression_at es w)) (drop n (front ++ rest))) place
      ∙ ap (take (cell_count (expression_at es w))) (drop-append-add front rest (cells_before es w))
      ∙ stored-of-wire (k + cell_count e) w hs m₂ (omega arith) ∙ sym (rw (behind-first e es k w))

module _ (s memory input output : List ℕ) {r : ℕ} (accepted : (rounds_call s memory input output).answer ≡ Ok r) where
  -- what the answer says by demand 2
  abbrev pub solved : AcceptedAfter s memory input output r
  solved = (demand2_answered s memory input output).accepted r accepted

  -- the wires' expressions, and what they are worked out under in the end
  abbrev pub equations : List Expression
  equations = solved.given.sheet.expressions

  abbrev pub final : Environment
  final = under solved.given.sheet solved.given.inputs solved.given.memory solved.values

  -- which is of the types that the sheet says
  pub record FinalTyped : Type 0 where
    pub sheet : WellTyped solved.given.sheet
    pub inputs : ValidRow solved.given.sheet.input_types solved.given.inputs
    pub lasts : ValidRow solved.given.sheet.wire_types (lasts_of solved.given.sheet solved.given.memory)
    pub held : ValidMemory solved.given.sheet solved.given.memory
    pub wires : OnWires Has solved.given.sheet.wire_types solved.values

  -- the finished values are those of the least solution
  finally : finished solved.given.sheet solved.given.inputs solved.given.memory ≡ solved.values
  finally = solved.only _ (finished_solution solved.given.sheet solved.given.inputs solved.given.memory)

  pub final-typed : FinalTyped
  final-typed =
      let given = solved.given in
      let sheet = given.sheet in
      let valid = given-valid s memory input output given solved.passes in
      let full : Full (wire_count sheet) (finished sheet given.inputs given.memory) = rw finally solved.full in
      record {
        sheet = valid.sheet;
        inputs = valid.inputs;
        lasts = lasts_valid sheet given.inputs given.memory valid.sheet valid.inputs valid.memory;
        held = valid.memory;
        wires = rw finally at (finished-has sheet given.inputs given.memory valid.sheet valid.inputs valid.memory full);
      }

  -- the expression of a wire has a type, and its cells are valid
  pub equation_typed : (w : ℕ) → w < length equations
      → ((t : ValueType) × HasType solved.given.sheet.input_types solved.given.sheet.wire_types t (expression_at equations w))
      × ValidFrom solved.given.memory (cell_forms (expression_at equations w)) (cells_before equations w)
  equation_typed w l =
      let sheet = solved.given.sheet in
      let (typed, cells) =
      wire-typed sheet.input_types sheet.wire_types solved.given.memory 0 w final-typed.sheet (valid-from-start final-typed.held) l in
      (typed, rw zero-add at cells)

  -- each wire has the value of its expression
  pub wire-holds : (w : ℕ) → w < length equations
      → value_at solved.values w ≡ value final false (expression_at equations w) (cells_before equations w)
  unfolding Solution
  wire-holds w l =
      ap (λ (xs : List Value). value_at xs w) (sym solved.least.solves)
      ∙ round-at solved.given.sheet solved.given.inputs solved.given.memory solved.values w
      ∙ value-of-wire final equations 0 w l
      ∙ rw zero-add

  -- the memory that the instant leaves reads back as cells, which are valid, and those of each wire are what its expression stores
  pub record MemoryAfter : Type 0 where
    pub cells : List Cell
    pub reads : memory_of (sheet_forms solved.given.sheet) (rounds_call s memory input output).memory ≡ result cells
    pub valid : ValidMemory solved.given.sheet cells
    pub wire : (w : ℕ) → w < length equations → take (cell_count (expression_at equations w)) (drop (cells_before equations w) cells)
        ≡ stored final false (expression_at equations w) (cells_before equations w)

  pub memory_after_lem : MemoryAfter
  unfolding next_memory
  memory_after_lem =
      let given = solved.given in
      let sheet = given.sheet in
      let types = final-typed in
      let full : Full (wire_count sheet) (finished sheet given.inputs given.memory) = rw finally solved.full in
      let back = next_memory_back sheet given.inputs given.memory types.sheet types.inputs types.held full in
      let next = next_memory_valid sheet given.inputs given.memory types.sheet types.inputs types.held full in
      record {
        cells = next_memory sheet given.inputs given.memory solved.values;
        reads = rw solved.stores (rw finally at back);
        valid = rw finally at next;
        wire = λ w l. stored-of-wire sheet.input_types sheet.wire_types final types.inputs types.lasts types.wires 0 w
            types.sheet (valid-from-start types.held) l ∙ rw zero-add;
      }

-- what an instant comes to that passes 1 to 16 and leaves no wire unknown
module _ (s memory input output : List ℕ) (given : Given) (passes : given_of s memory input output ≡ result given) where
  pub full-accepted : Full (wire_count given.sheet) (given_finished given)
      → rounds_call s memory input output ≡ record {
        answer = Ok (given_rounds given);
        memory = memory_bytes (next_memory given.sheet given.inputs given.memory (given_finished given));
        output = row_bytes (output_row given.sheet (given_finished given));
      }
  unfolding rounds_call
  full-accepted full = rw (passes, (demand2 given).accepted full)

  pub schedule_accepted : (list : List ℕ) → IsSchedule given.sheet list
      → scheduled_call s memory input output list ≡ record {
        answer = Ok tt;
        memory = memory_bytes (next_memory given.sheet given.inputs given.memory (given_finished given));
        output = row_bytes (output_row given.sheet (given_finished given));
      }
  unfolding scheduled_call
  schedule_accepted list schedule = rw (passes, (scheduled-accepted given list schedule).2)

-- and every accepted instant is such a one
module _ (s memory input output : List ℕ) where
  pub record AcceptedFull (r : ℕ) : Type 0 where
    pub given : Given
    pub passes : given_of s memory input output ≡ result given
    pub full : Full (wire_count given.sheet) (given_finished given)
    pub rounds : r ≡ given_rounds given

  pub accepted-full : {r : ℕ} → (rounds_call s memory input output).answer ≡ Ok r → AcceptedFull r
  accepted-full {r} accepted =
      let given = (solved s memory input output accepted).given in
      let passes = (solved s memory input output accepted).passes in
      let full : Full (wire_count given.sheet) (given_finished given) =
      rw (finally s memory input output accepted) (solved s memory input output accepted).full in
      let same : Ok r ≡ Ok (given_rounds given) =
      sym accepted ∙ ap (λ (x : InstantCall InRounds). x.answer) (full-accepted s memory input output given passes full) in
      record { given = given; passes = passes; full = full; rounds = cc }

-- an instant that is accepted along a schedule: the list is one, so that it is accepted in rounds too, and leaves the same memory
module _ (s memory input output list : List ℕ) where
  pub record AcceptedAlong : Type 0 where
    pub given : Given
    pub passes : given_of s memory input output ≡ result given
    pub schedule : IsSchedule given.sheet list

  pub accepted-along : (scheduled_call s memory input output list).answer ≡ Ok tt → AcceptedAlong
  unfolding scheduled_call scheduled
  accepted-along = by (given_of s memory input output) refl
    where
      along : (given : Given) → given_of s memory input output ≡ result given → (o : Outcome (List ℕ)) → schedule_of given.sheet list ≡ o
          → scheduled_answer (followed_by o (λ order. accepted_of given 0 (pass given.sheet given.inputs given.memory order)))
          ≡ Ok tt → AcceptedAlong
      along given passes (refusal why place) e a = never (cc)
      along given passes (result order) e a =
          let listed = (schedule_passed given.sheet list order e).1 in
          record { given = given; passes = passes; schedule = passed_schedule given.sheet list listed }

      by : (o : Outcome Given) → given_of s memory input output ≡ o
          → scheduled_answer (followed_by o (λ given. scheduled given list)) ≡ Ok tt → AcceptedAlong
      by (refusal why place) e a = never (cc)
      by (result given) e a = along given e (schedule_of given.sheet list) refl a

  pub record AsInRounds : Type 0 where
    pub rounds : ℕ
    pub accepted : (rounds_call s memory input output).answer ≡ Ok rounds
    pub same : (scheduled_call s memory input output list).memory ≡ (rounds_call s memory input output).memory

  pub as_in_rounds : (scheduled_call s memory input output list).answer ≡ Ok tt → AsInRounds
  as_in_rounds a =
      let along = accepted-along a in
      let given = along.given in
      let d = demand3 s memory input output output list given given along.passes along.passes along.schedule in
      record { rounds = given_rounds given; accepted = d.in_rounds_accepted; same = sym d.same_memory }
