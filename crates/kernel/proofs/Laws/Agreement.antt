-- The value of an expression goes by the wires that it reads, the inputs that it names and its own cells, and by nothing else:
-- where these agree, so does the value; where the wires grow, so does the value. Both are one induction, over a relation on values.
use Rattle.std.specs.Prelude.{◌≡◌, refl, ℕ, suc, ◌+◌, ◌≤◌, ◌<◌, Bool, true, false, ◌||◌, cond, List, ◌++◌, length}
use Rattle.std.proofs.Common.{arith}
use Rattle.kernel.specs.Values.{truth, when_known}
use Rattle.kernel.specs.Order.{◌⊑◌, same, ◌⊑*◌, value_at}
use Rattle.sheet.specs.Lists.{Every}
use Rattle.kernel.specs.Operations.{apply_unary, apply_binary}
use Rattle.sheet.specs.Expressions.{Expression, constant, wire, input, last, unary, binary, conditional, switch, pre, fby, kept}
use Rattle.sheet.specs.Expressions.{Alternatives, only, either, Switch, present, reset, machine, switch_forms, cell_count, count_in}
use Rattle.sheet.specs.declared.Cell.{Cell}
use Rattle.sheet.specs.declared.Cell.TheVariants.{NotStarted, Started}
use Rattle.sheet.specs.Reads.{wires_read, wires_in, inputs_read, inputs_in}
use Rattle.kernel.specs.Instant.{Environment, input_at, cell_at, known_or, state_of, second_runs, makes_fresh, value, value_in}
use Rattle.sheet.specs.Laws.Lists.{only as the-only, every, every_append}
use Rattle.kernel.proofs.Laws.Order.{when_known-grows}
use Rattle.sheet.specs.declared.Datum.{Datum}
use Rattle.kernel.specs.declared.Value.{Value}
use Rattle.kernel.specs.declared.Value.TheVariants.{Unknown, Known}

-- two environments agree on these wires, up to R, on these inputs, on what the kept wires' cells hold, and on the cells from number k on
pub record Agree (R : Value → Value → Type 0) (s t : Environment) (ws is : List ℕ) (k cells : ℕ) : Type 0 where
  pub on_wires : Every (λ w. R (value_at s.wires w) (value_at t.wires w)) ws
  pub on_inputs : Every (λ i. input_at s.inputs i ≡ input_at t.inputs i) is
  pub on_lasts : s.lasts ≡ t.lasts
  pub on_cells : (j : ℕ) → k ≤ j → j < k + cells → cell_at s.memory j ≡ cell_at t.memory j

-- a relation that strict functions respect
pub record Respected (R : Value → Value → Type 0) : Type 0 where
  pub reflexive : (v : Value) → R v v
  pub strict : {u v : Value} {f g : Datum → Value} → R u v → ((d : Datum) → R (f d) (g d)) → R (when_known u f) (when_known v g)

module _ (R : Value → Value → Type 0) (respected : Respected R) (s t : Environment) where
  open respected use {reflexive, strict}

  -- on some of the cells
  some-cells : {ws is : List ℕ} {k n : ℕ} (j m : ℕ) → k ≤ j → j + m ≤ k + n → Agree R s t ws is k n → Agree R s t ws is j m
  some-cells j m l u h = record {
    on_wires = h.on_wires;
    on_inputs = h.on_inputs;
    on_lasts = h.on_lasts;
    on_cells = λ i p q. h.on_cells i (omega arith) (omega arith);
  }

  halves : (ws vs is js : List ℕ) (k c d : ℕ) → Agree R s t (ws ++ vs) (is ++ js) k (c + d)
      → Agree R s t ws is k c × Agree R s t vs js (k + c) d
  halves ws vs is js k c d h =
      let (ws₁, ws₂) = every_append ws vs h.on_wires in
      let (is₁, is₂) = every_append is js h.on_inputs in (
        record { on_wires = ws₁; on_inputs = is₁; on_lasts = h.on_lasts; on_cells = λ j l m. h.on_cells j l (omega arith) },
        record { on_wires = ws₂; on_inputs = is₂; on_lasts = h.on_lasts; on_cells = λ j l m. h.on_cells j (omega arith) (omega arith) },
      )

  from_cell : (c : Cell) {u v : Value} → R u v → R (known_or u c) (known_or v c)
  from_cell NotStarted p = p
  from_cell (Started d) p = reflexive (Known d)

  both-picked : (second : Bool) {u v x y : Value} → R u x → R v y → R (cond second v u) (cond second y x)
  both-picked true p q = q
  both-picked false p q = p

  same-state : (o : Switch) (fresh : Bool) (k n : ℕ)
      → ((j : ℕ) → k ≤ j → j < k + (length (switch_forms o) + n) → cell_at s.memory j ≡ cell_at t.memory j)
      → state_of s fresh o k ≡ state_of t fresh o k
  same-state present fresh k n h = refl
  same-state reset fresh k n h = refl
  same-state machine fresh k n h = rw (h k (omega arith) (omega arith))

  mutual
    unfolding value wires_read inputs_read cell_count

    pub related : (e : Expression) (fresh : Bool) (k : ℕ) → Agree R s t (wires_read e) (inputs_read e) k (cell_count e)
        → R (value s fresh e k) (value t fresh e k)
    related (constant d) fresh k h = reflexive (Known d)
    related (wire w) fresh k h = the-only h.on_wires
    related (input i) fresh k h = rw (the-only h.on_inputs) (reflexive (Known (input_at t.inputs i)))
    related (last w) fresh k h = rw h.on_lasts (reflexive _)
    related (unary o a) fresh k h = strict (related a fresh k h) (λ x. reflexive (Known (apply_unary o x)))
    related (binary o a b) fresh k h =
        let (p, q) = halves (wires_read a) (wires_read b) (inputs_read a) (inputs_read b) k (cell_count a) (cell_count b) h in
        strict (related a fresh k p) (λ x. strict (related b fresh (k + cell_count a) q) (λ y. reflexive (Known (apply_binary o x y))))
    related (conditional c a b) fresh k h =
        let (p, rest) = halves (wires_read c) (wires_read a ++ wires_read b) (inputs_read c) (inputs_read a ++ inputs_read b) k (cell_count c)
        (cell_count a + cell_count b) h in
        let (q, r) = halves (wires_read a) (wires_read b) (inputs_read a) (inputs_read b) (k + cell_count c) (cell_count a) (cell_count b) rest in
        strict (related c fresh k p) (λ t.
        strict (related a fresh (k + cell_count c) q) (λ x.
        strict (related b fresh (k + cell_count c + cell_count a) r) (λ y. reflexive (Known (cond (truth t) x y)))))
    related (switch o cs bs) fresh k h =
        let own = length (switch_forms o) in
        let inner = some-cells (k + own) (count_in cs + count_in bs) (omega arith) (omega arith) h in
        let (p, q) = halves (wires_in cs) (wires_in bs) (inputs_in cs) (inputs_in bs) (k + own) (count_in cs) (count_in bs) inner in
        let state = state_of t fresh o k in
        rw (same-state o fresh k (count_in cs + count_in bs) h.on_cells)
        (strict (related_in cs state fresh (k + own) p) (λ x.
        related_in bs (second_runs o state (truth x)) (makes_fresh o (truth x) || fresh) (k + own + count_in cs) q))
    related (pre d a) fresh k h = rw (h.on_cells k (omega arith) (omega arith)) (reflexive _)
    related (fby u a b) fresh k h =
        rw (h.on_cells k (omega arith) (omega arith))
        (from_cell (cond fresh NotStarted (cell_at t.memory k))
        (related a fresh (suc k) (some-cells (suc k) (cell_count a) (omega arith) (omega arith) h)))
    related (kept u a) fresh k h = related a fresh (suc k) (some-cells (suc k) (cell_count a) (omega arith) (omega arith) h)

    related_in : (xs : Alternatives) (second fresh : Bool) (k : ℕ) → Agree R s t (wires_in xs) (inputs_in xs) k (count_in xs)
        → R (value_in s second fresh xs k) (value_in t second fresh xs k)
    related_in (only a) second fresh k h = related a fresh k h
    related_in (either a b) second fresh k h =
        let (p, q) = halves (wires_read a) (wires_read b) (inputs_read a) (inputs_read b) k (cell_count a) (cell_count b) h in
        both-picked second (related a fresh k p) (related b fresh (k + cell_count a) q)

when_known-same : {u v : Value} {f g : Datum → Value} → u ≡ v → ((d : Datum) → f d ≡ g d) → when_known u f ≡ when_known v g
when_known-same {v = v} {f = f} {g = g} e h = rw e (at v)
  where
    at : (v : Value) → when_known v f ≡ when_known v g
    at Unknown = refl
    at (Known d) = h d

pub order_respected : Respected ◌⊑◌
order_respected = record { reflexive = λ v. same; strict = when_known-grows }

pub equality_respected : Respected ◌≡◌
equality_respected = record { reflexive = λ v. refl; strict = when_known-same }

-- depends on nothing else
pub value_depends : (s t : Environment) (e : Expression) (fresh : Bool) (k : ℕ)
    → Agree ◌≡◌ s t (wires_read e) (inputs_read e) k (cell_count e) → value s fresh e k ≡ value t fresh e k
value_depends = related ◌≡◌ equality_respected

-- grows with the wires
pub value_grows : (s t : Environment) → s.inputs ≡ t.inputs → s.lasts ≡ t.lasts → s.memory ≡ t.memory → s.wires ⊑* t.wires
    → (e : Expression) (fresh : Bool) (k : ℕ) → value s fresh e k ⊑ value t fresh e k
value_grows s t i n m h e fresh k =
    related ◌⊑◌ order_respected s t e fresh k
    (record {
      on_wires = every (λ w. value_at s.wires w ⊑ value_at t.wires w) h.at (wires_read e);
      on_inputs = every (λ j. input_at s.inputs j ≡ input_at t.inputs j) (λ j. rw i) (inputs_read e);
      on_lasts = n;
      on_cells = λ j l u. rw m;
    })
