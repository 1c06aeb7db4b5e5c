-- One expression: within another environment the shifted tree has the cells, the type, the value, and what it stores and rests on, that it
-- had alone. Numbers raised by nothing are the tree itself, so this is the law of both sheets.
use Rattle.std.specs.Prelude.{◌≡◌, refl, ℕ, suc, ◌+◌, ◌≤◌, ◌<◌, Bool, ◌||◌, List, length}
use Rattle.std.proofs.Common.{sym, ◌∙◌, zero-add, arith}
use Rattle.std.proofs.Math.Path.{ap}
use Rattle.std.proofs.Math.Bool.{true, false}
use Rattle.sheet.specs.Data.{ValueType, boolean}
use Rattle.sheet.specs.Expressions.{Expression, constant, wire, input, last, unary, binary, conditional, switch, pre, fby, kept}
use Rattle.sheet.specs.Expressions.{Alternatives, only, either, Switch, present, reset, machine}
use Rattle.sheet.specs.Expressions.{switch_forms, cell_forms, forms_in, cell_count, count_in}
use Rattle.sheet.specs.Memory.{start_memory}
use Rattle.sheet.specs.Typing.{unary_type, operand_type, HasType, AlternativesHaveType}
use Rattle.sheet.specs.declared.Datum.TheVariants.{Boolean}
use Rattle.sheet.specs.declared.Cell.TheVariants.{NotStarted}
use Rattle.sheet.specs.Laws.Readings.{forms_length, forms_in_length}
use Rattle.kernel.specs.Values.{truth, is_true}
use Rattle.kernel.specs.Instant.{cell_at, second_runs, makes_fresh, Environment, state_of, value, value_in, resting, stored, stored_in}
use Rattle.kernel.proofs.Laws.Agreement.{equality_respected}
use Rattle.kernel.specs.declared.Value.TheVariants.{Unknown, Known}
use Rattle.join.specs.Joined.{shifted, shifted_in}
use Rattle.join.proofs.Laws.Parts.{Inside, some-range, inside-at, inside-slice}

-- one environment looks like the other, from these numbers on
pub record Within (wires inputs cells : ℕ) (own whole : Environment) : Type 0 where
  pub on_inputs : Inside inputs own.inputs whole.inputs
  pub on_lasts : Inside wires own.lasts whole.lasts
  pub on_memory : Inside cells own.memory whole.memory
  pub on_wires : Inside wires own.wires whole.wires

-- one datum for each input, one datum and one value for each wire
pub record Sized (input_types wire_types : List ValueType) (now : Environment) : Type 0 where
  pub of_inputs : length now.inputs ≡ length input_types
  pub of_lasts : length now.lasts ≡ length wire_types
  pub of_wires : length now.wires ≡ length wire_types

-- raised by nothing
mutual
  unfolding shifted

  pub shifted_none : (e : Expression) → shifted 0 0 e ≡ e
  shifted_none (constant d) = refl
  shifted_none (wire w) = rw zero-add
  shifted_none (input i) = rw zero-add
  shifted_none (last w) = rw zero-add
  shifted_none (unary o a) = rw (shifted_none a)
  shifted_none (binary o a b) = rw (shifted_none a, shifted_none b)
  shifted_none (conditional c a b) = rw (shifted_none c, shifted_none a, shifted_none b)
  shifted_none (switch o cs bs) = rw (none_in cs, none_in bs)
  shifted_none (pre d a) = rw (shifted_none a)
  shifted_none (fby t a b) = rw (shifted_none a, shifted_none b)
  shifted_none (kept t a) = rw (shifted_none a)

  none_in : (xs : Alternatives) → shifted_in 0 0 xs ≡ xs
  none_in (only a) = rw (shifted_none a)
  none_in (either a b) = rw (shifted_none a, shifted_none b)

module _ (wires inputs : ℕ) where
  mutual
    unfolding shifted cell_forms

    pub shifted_forms : (e : Expression) → cell_forms (shifted wires inputs e) ≡ cell_forms e
    shifted_forms (constant d) = refl
    shifted_forms (wire w) = refl
    shifted_forms (input i) = refl
    shifted_forms (last w) = refl
    shifted_forms (unary o a) = shifted_forms a
    shifted_forms (binary o a b) = simp (shifted_forms a, shifted_forms b)
    shifted_forms (conditional c a b) = simp (shifted_forms c, shifted_forms a, shifted_forms b)
    shifted_forms (switch o cs bs) = simp (forms_in_lem cs, forms_in_lem bs)
    shifted_forms (pre d a) = simp (shifted_forms a)
    shifted_forms (fby t a b) = simp (shifted_forms a, shifted_forms b)
    shifted_forms (kept t a) = simp (shifted_forms a)

    forms_in_lem : (xs : Alternatives) → forms_in (shifted_in wires inputs xs) ≡ forms_in xs
    forms_in_lem (only a) = shifted_forms a
    forms_in_lem (either a b) = simp (shifted_forms a, shifted_forms b)

  pub shifted-count : (e : Expression) → cell_count (shifted wires inputs e) ≡ cell_count e
  shifted-count e = sym (forms_length (shifted wires inputs e)) ∙ ap length (shifted_forms e) ∙ forms_length e

  count_in_lem : (xs : Alternatives) → count_in (shifted_in wires inputs xs) ≡ count_in xs
  count_in_lem xs = sym (forms_in_length (shifted_in wires inputs xs)) ∙ ap length (forms_in_lem xs) ∙ forms_in_length xs

-- The instant: what it gives at cell j of the whole is what it gives at cell k of its own.
module _ (wires inputs cells : ℕ) (own whole : Environment) (within : Within wires inputs cells own whole)
    (input_types wire_types : List ValueType) (sized : Sized input_types wire_types own) where
  open equality_respected use {strict}

  abbrev moved : Expression → Expression
  moved = shifted wires inputs

  abbrev moved_in : Alternatives → Alternatives
  moved_in = shifted_in wires inputs

  -- behind the cells of an operand, or of alternatives
  past : (a : Expression) (j k : ℕ) → j ≡ cells + k → j + cell_count (moved a) ≡ cells + (k + cell_count a)
  past a j k e = omega (arith, shifted-count wires inputs a)

  past_in : (xs : Alternatives) (j k : ℕ) → j ≡ cells + k → j + count_in (moved_in xs) ≡ cells + (k + count_in xs)
  past_in xs j k e = omega (arith, count_in_lem wires inputs xs)

  same-cell : (j k : ℕ) → j ≡ cells + k → k < length own.memory → cell_at whole.memory j ≡ cell_at own.memory k
  same-cell j k e l = rw e (inside-at within.on_memory k NotStarted l)

  same-state : (o : Switch) (fresh : Bool) (j k : ℕ) → j ≡ cells + k → k + length (switch_forms o) ≤ length own.memory
      → state_of whole fresh o j ≡ state_of own fresh o k
  same-state present fresh j k e l = refl
  same-state reset fresh j k e l = refl
  same-state machine fresh j k e l = rw (same-cell j k e (omega arith))

  mutual
    unfolding value shifted HasType cell_count

    pub shifted-value : (t : ValueType) (e : Expression) (fresh : Bool) (j k : ℕ) → HasType input_types wire_types t e
        → j ≡ cells + k → k + cell_count e ≤ length own.memory → value whole fresh (moved e) j ≡ value own fresh e k
    shifted-value t (constant d) fresh j k h e l = refl
    shifted-value t (wire w) fresh j k h e l =
        inside-at within.on_wires w Unknown
        (omega (arith, sized.of_wires, some-range wire_types w h))
    shifted-value t (input i) fresh j k h e l =
        ap Known (inside-at within.on_inputs i (Boolean false) (omega (arith, sized.of_inputs, some-range input_types i h)))
    shifted-value t (last w) fresh j k h e l =
        ap Known (inside-at within.on_lasts w (Boolean false) (omega (arith, sized.of_lasts, some-range wire_types w h)))
    shifted-value t (unary o a) fresh j k h e l = rw (shifted-value (unary_type o) a fresh j k h.1 e l)
    shifted-value t (binary o a b) fresh j k h e l =
        rw (
          shifted-value (operand_type o) a fresh j k h.1 e (omega arith),
          shifted-value (operand_type o) b fresh _ (k + cell_count a) h.2 (past a j k e) (omega arith),
        )
    shifted-value t (conditional c a b) fresh j k h e l =
        let e₁ = past c j k e in
        rw (
          shifted-value boolean c fresh j k h.0 e (omega arith),
          shifted-value t a fresh _ (k + cell_count c) h.1 e₁ (omega arith),
          shifted-value t b fresh _ (k + cell_count c + cell_count a) h.2 (past a _ (k + cell_count c) e₁) (omega arith),
        )
    shifted-value t (switch o cs bs) fresh j k h e l =
        let first = k + length (switch_forms o) in
        let e₁ : j + length (switch_forms o) ≡ cells + first = omega arith in
        let state = state_of own fresh o k in
        rw (same-state o fresh j k e (omega arith))
        (strict (value_in_lem boolean cs state fresh _ first h.0 e₁ (omega arith)) (λ x.
        value_in_lem t bs (second_runs o state (truth x)) (makes_fresh o (truth x) || fresh) _ (first + count_in cs) h.1 (past_in cs _ first e₁)
        (omega arith)))
    shifted-value t (pre d a) fresh j k h e l = rw (same-cell j k e (omega arith))
    shifted-value t (fby u a b) fresh j k h e l =
        rw (same-cell j k e (omega arith), shifted-value t a fresh (suc j) (suc k) h.1 (omega arith) (omega arith))
    shifted-value t (kept u a) fresh j k h e l = shifted-value t a fresh (suc j) (suc k) h.1 (omega arith) (omega arith)

    value_in_lem : (t : ValueType) (xs : Alternatives) (second fresh : Bool) (j k : ℕ) → AlternativesHaveType input_types wire_types t xs
        → j ≡ cells + k → k + count_in xs ≤ length own.memory → value_in whole second fresh (moved_in xs) j ≡ value_in own second fresh xs k
    value_in_lem t (only a) second fresh j k h e l = shifted-value t a fresh j k h e l
    value_in_lem t (either a b) second fresh j k h e l =
        rw (
          shifted-value t a fresh j k h.0 e (omega arith),
          shifted-value t b fresh _ (k + cell_count a) h.1 (past a j k e) (omega arith),
        )

  pub shifted-resting : (restarts : Bool) (e : Expression) (j k : ℕ) → j ≡ cells + k → k + cell_count e ≤ length own.memory
      → resting whole restarts (moved e) j ≡ resting own restarts e k
  unfolding resting
  shifted-resting true e j k p l = ap start_memory (shifted_forms wires inputs e)
  shifted-resting false e j k p l = rw (shifted-count wires inputs e, p) (inside-slice within.on_memory k (cell_count e) l)

  mutual
    unfolding stored shifted HasType cell_count

    pub shifted-stored : (t : ValueType) (e : Expression) (fresh : Bool) (j k : ℕ) → HasType input_types wire_types t e
        → j ≡ cells + k → k + cell_count e ≤ length own.memory → stored whole fresh (moved e) j ≡ stored own fresh e k
    shifted-stored t (constant d) fresh j k h e l = refl
    shifted-stored t (wire w) fresh j k h e l = refl
    shifted-stored t (input i) fresh j k h e l = refl
    shifted-stored t (last w) fresh j k h e l = refl
    shifted-stored t (unary o a) fresh j k h e l = shifted-stored (unary_type o) a fresh j k h.1 e l
    shifted-stored t (binary o a b) fresh j k h e l =
        rw (
          shifted-stored (operand_type o) a fresh j k h.1 e (omega arith),
          shifted-stored (operand_type o) b fresh _ (k + cell_count a) h.2 (past a j k e) (omega arith),
        )
    shifted-stored t (conditional c a b) fresh j k h e l =
        let e₁ = past c j k e in
        rw (
          shifted-stored boolean c fresh j k h.0 e (omega arith),
          shifted-stored t a fresh _ (k + cell_count c) h.1 e₁ (omega arith),
          shifted-stored t b fresh _ (k + cell_count c + cell_count a) h.2 (past a _ (k + cell_count c) e₁) (omega arith),
        )
    shifted-stored t (switch o cs bs) fresh j k h e l =
        let first = k + length (switch_forms o) in
        let e₁ : j + length (switch_forms o) ≡ cells + first = omega arith in
        let state = state_of own fresh o k in
        let holds = is_true (value_in own state fresh cs first) in
        rw (
          same-state o fresh j k e (omega arith),
          value_in_lem boolean cs state fresh _ first h.0 e₁ (omega arith),
          stored_in_lem boolean cs state fresh fresh _ first h.0 e₁ (omega arith),
          stored_in_lem t bs (second_runs o state holds) fresh (makes_fresh o holds || fresh) _ (first + count_in cs) h.1 (past_in cs _ first e₁)
              (omega arith),
        )
    shifted-stored t (pre d a) fresh j k h e l =
        rw (
          shifted-value t a fresh (suc j) (suc k) h.1 (omega arith) (omega arith),
          shifted-stored t a fresh (suc j) (suc k) h.1 (omega arith) (omega arith),
        )
    shifted-stored t (fby u a b) fresh j k h e l =
        let e₁ : suc j ≡ cells + suc k = omega arith in
        let e₂ = past a (suc j) (suc k) e₁ in
        rw (
          shifted-value t b fresh _ (suc k + cell_count a) h.2 e₂ (omega arith),
          shifted-stored t a fresh (suc j) (suc k) h.1 e₁ (omega arith),
          shifted-stored t b fresh _ (suc k + cell_count a) h.2 e₂ (omega arith),
        )
    shifted-stored t (kept u a) fresh j k h e l =
        rw (
          shifted-value t a fresh (suc j) (suc k) h.1 (omega arith) (omega arith),
          shifted-stored t a fresh (suc j) (suc k) h.1 (omega arith) (omega arith),
        )

    stored_in_lem : (t : ValueType) (xs : Alternatives) (second restarts fresh : Bool) (j k : ℕ) → AlternativesHaveType input_types wire_types t xs
        → j ≡ cells + k → k + count_in xs ≤ length own.memory
        → stored_in whole second restarts fresh (moved_in xs) j ≡ stored_in own second restarts fresh xs k
    stored_in_lem t (only a) second restarts fresh j k h e l = shifted-stored t a fresh j k h e l
    stored_in_lem t (either a b) second restarts fresh j k h e l =
        let e₁ = past a j k e in
        rw (
          shifted-stored t a fresh j k h.0 e (omega arith),
          shifted-resting restarts a j k e (omega arith),
          shifted-stored t b fresh _ (k + cell_count a) h.1 e₁ (omega arith),
          shifted-resting restarts b _ (k + cell_count a) e₁ (omega arith),
        )
