-- One instant of an expression: its value, and what it stores. An expression's cells are those of the memory from number k on.
-- Fresh, as documents 01 and 02 have it, is a place under a reset that fires now, or in a body that a machine enters now: it acts from its
-- starting cells.
use Rattle.std.specs.Prelude.{ℕ, suc, ◌+◌, Bool, false, not, ◌||◌, cond, List, [], ◌∷◌, ◌++◌, length, take, drop, get_or}
use Rattle.sheet.specs.Expressions.{Expression, constant, wire, input, last, unary, binary, conditional, switch, pre, fby, kept}
use Rattle.sheet.specs.Expressions.{Alternatives, only, either, Switch, present, reset, machine}
use Rattle.sheet.specs.Expressions.{switch_forms, cell_forms, cell_count, count_in}
use Rattle.sheet.specs.Memory.{start_memory}
use Rattle.sheet.specs.declared.Datum.{Datum}
use Rattle.sheet.specs.declared.Datum.TheVariants.{Boolean}
use Rattle.sheet.specs.declared.Cell.{Cell}
use Rattle.sheet.specs.declared.Cell.TheVariants.{NotStarted, Started}
use Rattle.kernel.specs.Values.{truth, when_known, is_true, datum_in}
use Rattle.kernel.specs.Order.{value_at}
use Rattle.kernel.specs.Operations.{apply_unary, apply_binary}
use Rattle.kernel.specs.declared.Value.{Value}
use Rattle.kernel.specs.declared.Value.TheVariants.{Known}

abbrev pub input_at : List Datum → ℕ → Datum
input_at inputs i = get_or inputs i (Boolean false)

-- what the cell of a kept wire holds, by the wire's number
abbrev pub last_at : List Datum → ℕ → Datum
last_at lasts w = get_or lasts w (Boolean false)

abbrev pub cell_at : List Cell → ℕ → Cell
cell_at memory k = get_or memory k NotStarted

-- what the cell holds, or the given datum where it is not started
abbrev pub held_or : Datum → Cell → Datum
held_or d NotStarted = d
held_or d (Started e) = e

-- what the cell holds, or the given value where it is not started
abbrev pub known_or : Value → Cell → Value
known_or v NotStarted = v
known_or v (Started e) = Known e

-- Which operands of a switch run, and which are fresh. Of two conditions the one of the current state is asked, under the freshness of the
-- whole. By whether it holds one body runs: a present takes its first arm where the condition holds, and a machine then enters the
-- other state. Here whether the second of two bodies runs, which is that of state 1:
abbrev pub second_runs : Switch → (state holds : Bool) → Bool
second_runs present state holds = not holds
second_runs reset state holds = false
second_runs machine state holds = cond holds (not state) state

-- ... and whether the body that runs is fresh even where the whole is not: the operand of a reset that fires, the body of a state that is
-- entered
abbrev pub makes_fresh : Switch → (holds : Bool) → Bool
makes_fresh present holds = false
makes_fresh reset holds = holds
makes_fresh machine holds = holds

-- a machine stores the state whose body ran
abbrev pub switch_cells : Switch → (second : Bool) → List Cell
switch_cells present second = []
switch_cells reset second = []
switch_cells machine second = Started (Boolean second) ∷ []

-- What an expression is worked out under. Kind 18 names a wire, whose cell may belong to a wire that comes later: `lasts` has what the
-- kept wires' cells hold, a datum for each wire.
pub record Environment : Type 0 where
  pub inputs : List Datum
  pub lasts : List Datum
  pub memory : List Cell
  pub wires : List Value

module _ (now : Environment) where
  -- what a cell holds that starts with d
  abbrev pub held : Bool → Datum → ℕ → Datum
  held fresh d k = held_or d (cond fresh (Started d) (cell_at now.memory k))

  -- the current state, which a machine's cell has: state 0 where fresh; a present and a reset have one condition, which they ask always
  abbrev pub state_of : Bool → Switch → ℕ → Bool
  state_of fresh present k = false
  state_of fresh reset k = false
  state_of fresh machine k = truth (held fresh (Boolean false) k)

  unfoldable mutual
    pub value : Bool → Expression → ℕ → Value
    value fresh (constant d) k = Known d
    value fresh (wire w) k = value_at now.wires w
    value fresh (input i) k = Known (input_at now.inputs i)
    value fresh (last w) k = Known (last_at now.lasts w)
    value fresh (unary o a) k = when_known (value fresh a k) (λ x. Known (apply_unary o x))
    value fresh (binary o a b) k =
        when_known (value fresh a k) (λ x. when_known (value fresh b (k + cell_count a)) (λ y. Known (apply_binary o x y)))
    value fresh (conditional c a b) k =
        when_known (value fresh c k) (λ t.
        when_known (value fresh a (k + cell_count c)) (λ x.
        when_known (value fresh b (k + cell_count c + cell_count a)) (λ y. Known (cond (truth t) x y))))
    -- unknown where the condition that is asked is, else the value of the body that runs
    value fresh (switch o cs bs) k =
        let state = state_of fresh o k in
        let first = k + length (switch_forms o) in
        when_known (value_in state fresh cs first) (λ t.
        value_in (second_runs o state (truth t)) (makes_fresh o (truth t) || fresh) bs (first + count_in cs))
    value fresh (pre d a) k = Known (held fresh d k)
    value fresh (fby t a b) k = known_or (value fresh a (suc k)) (cond fresh NotStarted (cell_at now.memory k))
    value fresh (kept t a) k = value fresh a (suc k)

    -- of the one that is asked or runs
    pub value_in : (second : Bool) → Bool → Alternatives → ℕ → Value
    value_in second fresh (only a) k = value fresh a k
    value_in second fresh (either a b) k = cond second (value fresh b (k + cell_count a)) (value fresh a k)

  -- the cells of an expression that does not advance: as they were, or the starting ones where the whole is fresh
  unfoldable pub resting : Bool → Expression → ℕ → List Cell
  resting whole e k = cond whole (start_memory (cell_forms e)) (take (cell_count e) (drop k now.memory))

  -- to advance is to store one's cells
  unfoldable mutual
    pub stored : Bool → Expression → ℕ → List Cell
    stored fresh (constant d) k = []
    stored fresh (wire w) k = []
    stored fresh (input i) k = []
    stored fresh (last w) k = []
    stored fresh (unary o a) k = stored fresh a k
    stored fresh (binary o a b) k = stored fresh a k ++ stored fresh b (k + cell_count a)
    stored fresh (conditional c a b) k =
        stored fresh c k ++ (stored fresh a (k + cell_count c) ++ stored fresh b (k + cell_count c + cell_count a))
    -- the condition that is asked and the body that runs advance, and the rest rests
    stored fresh (switch o cs bs) k =
        let state = state_of fresh o k in
        let first = k + length (switch_forms o) in
        let holds = is_true (value_in state fresh cs first) in
        let second = second_runs o state holds in
        switch_cells o second
        ++ (stored_in state fresh fresh cs first ++ stored_in second fresh (makes_fresh o holds || fresh) bs (first + count_in cs))
    stored fresh (pre d a) k = Started (datum_in (value fresh a (suc k))) ∷ stored fresh a (suc k)
    stored fresh (fby t a b) k =
        Started (datum_in (value fresh b (suc k + cell_count a)))
        ∷ (stored fresh a (suc k) ++ stored fresh b (suc k + cell_count a))
    stored fresh (kept t a) k = Started (datum_in (value fresh a (suc k))) ∷ stored fresh a (suc k)

    -- the one that is asked or runs advances, and the other rests
    pub stored_in : (second whole : Bool) → Bool → Alternatives → ℕ → List Cell
    stored_in second whole fresh (only a) k = stored fresh a k
    stored_in second whole fresh (either a b) k =
        cond second (resting whole a k ++ stored fresh b (k + cell_count a)) (stored fresh a k ++ resting whole b (k + cell_count a))
