-- Document 02, K8, from the answer of the call: in an accepted instant every machine that runs, wherever it stands and fresh or not, asks the condition
-- of its state, has the value of the body that this leads to, and leaves in its cells the state whose body ran and what its operands store.
use Rattle.std.specs.Prelude.{Ok, ℕ, suc, ◌+◌, ◌<◌, ◌≡◌, refl, Bool, true, false, ◌||◌, cond, List, ◌∷◌, ◌++◌, length, take, drop}
use Rattle.std.proofs.Common.{ap, ◌∙◌, append_assoc}
use Rattle.sheet.specs.Data.{ValueType, boolean}
use Rattle.sheet.specs.Expressions.{Expression, machine_of, state_cell, cell_forms, cell_count}
use Rattle.sheet.specs.Outcomes.{result}
use Rattle.sheet.specs.Memory.{memory_of}
use Rattle.sheet.specs.Sheets.{sheet_forms, expression_at, cells_before, wire_tree, own_cells}
use Rattle.sheet.specs.Typing.{HasType, ValidCell, ValidRow}
use Rattle.sheet.specs.Laws.Lists.{never}
use Rattle.sheet.specs.declared.Datum.TheVariants.{Boolean, Number}
use Rattle.sheet.specs.declared.Cell.{Cell}
use Rattle.sheet.specs.declared.Cell.TheVariants.{NotStarted, Started}
use Rattle.kernel.specs.Values.{Has, has}
use Rattle.kernel.specs.Order.{value_at}
use Rattle.kernel.specs.Instant.{Environment, cell_at, value, resting, stored}
use Rattle.kernel.specs.Running.{RunsIn}
use Rattle.kernel.specs.Calls.{rounds_call, scheduled_call}
use Rattle.kernel.proofs.Laws.Switches.{picked, first_condition, second_condition, first_body, second_body, state_run, machine-value, machine-stored}
use Rattle.kernel.proofs.Laws.Typing.{OnWires, ValidFrom, parts, has_inherited, value-typed}
use Rattle.kernel.proofs.Laws.Kept.{tree-value}
use Rattle.kernel.proofs.Laws.Running.{part, part_left, tree-runs}
use Rattle.kernel.proofs.Laws.Accepted.{solved, equations, final, final-typed, equation_typed, wire-holds, memory_after_lem, AsInRounds, as_in_rounds}
use Rattle.kernel.specs.declared.Value.{Value}
use Rattle.kernel.specs.declared.Value.TheVariants.{Known}

-- What a machine does that runs, fresh or not, its cell having number k.
module _ (now : Environment) (fresh : Bool) (c d a b : Expression) (k : ℕ) where
  -- it is in a state, which its cell has, and in state 0 where it is fresh; and the condition of that state has a value
  pub record Switched : Type 0 where
    pub state : Bool
    pub current : cond fresh (Started (Boolean false)) (cell_at now.memory k) ≡ Started (Boolean state)
    pub holds : Bool
    pub asked : cond state (value now fresh d (second_condition c k)) (value now fresh c (first_condition k)) ≡ Known (Boolean holds)

  module _ (s : Switched) where
    -- the state whose body runs, 1 where true: the other one where the condition holds
    abbrev pub ran : Bool
    ran = state_run s.state s.holds

    -- the value of that body, which is fresh where its state is entered or the whole is fresh
    abbrev pub body_value : Value
    body_value =
        cond ran (value now (s.holds || fresh) b (second_body c d a k)) (value now (s.holds || fresh) a (first_body c d k))

    -- that state, and what the operands store: the condition asked and the body run advance, and the other two rest
    abbrev pub cells_stored : List Cell
    cells_stored =
        Started (Boolean ran)
        ∷ (cond s.state
        (resting now fresh c (first_condition k) ++ stored now fresh d (second_condition c k))
        (stored now fresh c (first_condition k) ++ resting now fresh d (second_condition c k))
        ++ cond ran
        (resting now fresh a (first_body c d k) ++ stored now (s.holds || fresh) b (second_body c d a k))
        (stored now (s.holds || fresh) a (first_body c d k) ++ resting now fresh b (second_body c d a k)))

    pub switched-value : value now fresh (machine_of c d a b) k ≡ body_value
    switched-value = machine-value now fresh c d a b k ∙ rw (s.current, s.asked)

    pub switched-stored : stored now fresh (machine_of c d a b) k ≡ cells_stored
    switched-stored = machine-stored now fresh c d a b k ∙ rw (s.current, s.asked)

-- It is so where the wires have values of their types and the cells are valid.
started-state : (fresh : Bool) (x : Cell) → ValidCell state_cell x
    → (s : Bool) × (cond fresh (Started (Boolean false)) x ≡ Started (Boolean s))
started-state true x v = (false, refl)
started-state false NotStarted v = never (cc)
started-state false (Started (Boolean s)) v = (s, refl)
started-state false (Started (Number z)) v = absurd v

a-Boolean : {v : Value} → Has boolean v → (h : Bool) × (v ≡ Known (Boolean h))
a-Boolean (has {d = Boolean h} e) = (h, refl)
a-Boolean (has {d = Number z} e) = absurd e

module _ (input_types wire_types : List ValueType) (now : Environment) (on_inputs : ValidRow input_types now.inputs)
    (on_lasts : ValidRow wire_types now.lasts) (on_wires : OnWires Has wire_types now.wires) where
  has-Boolean : (e : Expression) (fresh : Bool) (k : ℕ) → HasType input_types wire_types boolean e
      → ValidFrom now.memory (cell_forms e) k → Has boolean (value now fresh e k)
  has-Boolean = value-typed Has has_inherited input_types wire_types now on_inputs on_lasts on_wires boolean

  switched : (fresh : Bool) (c d a b : Expression) (k : ℕ) (t : ValueType) → HasType input_types wire_types t (machine_of c d a b)
      → ValidFrom now.memory (cell_forms (machine_of c d a b)) k → Switched now fresh c d a b k
  unfolding HasType cell_forms ValidFrom
  switched fresh c d a b k t h m =
      let (state, current) = started-state fresh (cell_at now.memory k) m.1 in
      let conditions = rw (append_assoc (cell_forms c) (cell_forms d) (cell_forms a ++ cell_forms b)) at m.2 in
      let (m₁, rest) = parts now.memory c (cell_forms d ++ (cell_forms a ++ cell_forms b)) (suc k) conditions in
      let m₂ = (parts now.memory d (cell_forms a ++ cell_forms b) (suc k + cell_count c) rest).0 in
      let first = has-Boolean c fresh (suc k) h.0.0 m₁ in
      let (holds, asked) = a-Boolean (picked (Has boolean) state first (has-Boolean d fresh (suc k + cell_count c) h.0.1 m₂)) in
      record { state = state; current = current; holds = holds; asked = asked }

module _ (s memory input output : List ℕ) {r : ℕ} (accepted : (rounds_call s memory input output).answer ≡ Ok r) where
  -- of a machine that ran, fresh or not, its cell having number k: its state before and the condition asked, what it gave, and the cells that the
  -- instant leaves of it
  pub record MachineAfter (fresh : Bool) (c d a b : Expression) (k : ℕ) : Type 0 where
    pub switches : Switched (final s memory input output accepted) fresh c d a b k
    pub gives : value (final s memory input output accepted) fresh (machine_of c d a b) k
        ≡ body_value (final s memory input output accepted) fresh c d a b k switches
    pub cells : List Cell
    pub reads : memory_of (sheet_forms (solved s memory input output accepted).given.sheet) (rounds_call s memory input output).memory
        ≡ result cells
    pub stores : take (cell_count (machine_of c d a b)) (drop k cells)
        ≡ cells_stored (final s memory input output accepted) fresh c d a b k switches

  -- so it is of every machine that runs in the expression of a wire, wherever it stands there
  pub machine-after : (w : ℕ) → w < length (equations s memory input output accepted)
      → (fresh : Bool) (c d a b : Expression) (k : ℕ)
      → RunsIn (final s memory input output accepted) fresh (machine_of c d a b) k
      false (expression_at (equations s memory input output accepted) w) (cells_before (equations s memory input output accepted) w)
      → MachineAfter fresh c d a b k
  machine-after w l fresh c d a b k runs =
      let sheet = (solved s memory input output accepted).given.sheet in
      let now = final s memory input output accepted in
      let types = final-typed s memory input output accepted in
      let left = memory_after_lem s memory input output accepted in
      let e = expression_at sheet.expressions w in
      let first = cells_before sheet.expressions w in
      let ((t, typed), cells) = equation_typed s memory input output accepted w l in
      let own = part sheet.input_types sheet.wire_types now types.inputs types.lasts types.wires fresh (machine_of c d a b) k
      runs t typed cells in
      let switches = switched sheet.input_types sheet.wire_types now types.inputs types.lasts types.wires fresh c d a b k
      own.type own.typed own.valid in
      record {
        switches = switches;
        gives = switched-value now fresh c d a b k switches;
        cells = left.cells;
        reads = left.reads;
        stores =
            part_left sheet.input_types sheet.wire_types now types.inputs types.lasts types.wires fresh (machine_of c d a b) k
            left.cells first (cell_count e) (left.wire w l) own ∙ switched-stored now fresh c d a b k switches;
      }

  -- where the machine is the wire's whole expression, behind the wire's own cell if its type byte says that it is kept, the wire has its value
  pub machine-wire : (w : ℕ) → w < length (equations s memory input output accepted) → (byte : ℕ) (c d a b : Expression)
      → expression_at (equations s memory input output accepted) w ≡ wire_tree byte (machine_of c d a b)
      → let k = cells_before (equations s memory input output accepted) w + own_cells byte in
      value_at (solved s memory input output accepted).values w
      ≡ value (final s memory input output accepted) false (machine_of c d a b) k
      × MachineAfter false c d a b k
  machine-wire w l byte c d a b is =
      let now = final s memory input output accepted in
      let first = cells_before (equations s memory input output accepted) w in
      let tree = machine_of c d a b in
      let worth = wire-holds s memory input output accepted w l ∙ ap (λ e. value now false e first) is ∙ tree-value now false byte tree first in
      let inside : RunsIn now false tree (first + own_cells byte) false (wire_tree byte tree) first = tree-runs now false byte tree first in
      (worth, machine-after w l false c d a b (first + own_cells byte) (rw is inside))

-- the same along a schedule
module _ (s memory input output list : List ℕ) where
  pub machine-along : (scheduled_call s memory input output list).answer ≡ Ok tt
      → (i : AsInRounds s memory input output list) × ((w : ℕ) → w < length (equations s memory input output i.accepted)
      → (fresh : Bool) (c d a b : Expression) (k : ℕ)
      → RunsIn (final s memory input output i.accepted) fresh (machine_of c d a b) k
      false (expression_at (equations s memory input output i.accepted) w) (cells_before (equations s memory input output i.accepted) w)
      → MachineAfter s memory input output i.accepted fresh c d a b k)
  machine-along a = let i = as_in_rounds s memory input output list a in (i, machine-after s memory input output i.accepted)
