-- What the one shape says of a present, a reset and a machine, written out for each by its operands: the sentences of documents 01 and 02 as
-- equations of the value, of what is waited for and of the store.
use Rattle.std.specs.Prelude.{◌≡◌, ℕ, suc, ◌+◌, Bool, true, false, not, ◌||◌, ◌∷◌, ◌++◌}
use Rattle.std.proofs.Math.Path.{refl}
use Rattle.std.proofs.Common.{ap, arith}
use Rattle.std.proofs.Math.Nat.{add-zero}
use Rattle.std.proofs.Math.Bool.{cond}
use Rattle.sheet.specs.Expressions.{Expression, present_of, reset_of, machine_of, cell_count}
use Rattle.sheet.specs.declared.Datum.TheVariants.{Boolean}
use Rattle.sheet.specs.declared.Cell.TheVariants.{Started}
use Rattle.kernel.specs.Values.{truth, when_known, is_true}
use Rattle.kernel.specs.Instant.{Environment, held, value, resting, stored}
use Rattle.kernel.specs.Waits.{once_known, wires_awaited}
use Rattle.kernel.specs.declared.Value.{Value}
use Rattle.kernel.specs.declared.Value.TheVariants.{Unknown, Known}

-- what holds of two alternatives holds of the one that is asked or runs
pub picked : {A : Type 0} (P : A → Type 0) (second : Bool) {u v : A} → P u → P v → P (cond second v u)
picked P true p q = q
picked P false p q = p

-- the first of two is named by false, and a present takes it where its condition holds
turned : {A : Type 0} (t : Bool) (x y : A) → cond (not t) y x ≡ cond t x y
turned true x y = refl
turned false x y = refl

-- the numbers of the first cells of a machine's operands, whose own cell has number k: conditions c and d, bodies a and then the other
abbrev pub first_condition : (k : ℕ) → ℕ
first_condition k = suc k

abbrev pub second_condition : (c : Expression) (k : ℕ) → ℕ
second_condition c k = first_condition k + cell_count c

abbrev pub first_body : (c d : Expression) (k : ℕ) → ℕ
first_body c d k = second_condition c k + cell_count d

abbrev pub second_body : (c d a : Expression) (k : ℕ) → ℕ
second_body c d a k = first_body c d k + cell_count a

-- "If it holds, the other state is entered in this instant": whether state 1 is the one whose body runs
abbrev pub state_run : (state holds : Bool) → Bool
state_run state holds = cond holds (not state) state

module _ (now : Environment) (fresh : Bool) where
  -- Present: "unknown when the condition is; else the chosen arm's value". "Only the condition and the chosen arm advance; the other arm keeps
  -- its memory", or gets its starting memory when fresh.
  module _ (c a b : Expression) (k : ℕ) where
    abbrev first : ℕ
    first = k + cell_count c

    abbrev second : ℕ
    second = k + cell_count c + cell_count a

    pub present-value : value now fresh (present_of c a b) k
        ≡ when_known (value now fresh c k) (λ t. cond (truth t) (value now fresh a first) (value now fresh b second))
    unfolding value cell_count
    present-value = simp add-zero (by (value now fresh c k))
      where
        by : (v : Value) → when_known v (λ t. cond (not (truth t)) (value now fresh b second) (value now fresh a first))
            ≡ when_known v (λ t. cond (truth t) (value now fresh a first) (value now fresh b second))
        by Unknown = refl
        by (Known d) = turned (truth d) (value now fresh a first) (value now fresh b second)

    pub present-awaited : wires_awaited now fresh (present_of c a b) k
        ≡ wires_awaited now fresh c k
        ++ once_known (value now fresh c k) (λ t. cond (truth t) (wires_awaited now fresh a first) (wires_awaited now fresh b second))
    unfolding value wires_awaited cell_count
    present-awaited = simp add-zero (ap (λ ws. wires_awaited now fresh c k ++ ws) (by (value now fresh c k)))
      where
        by : (v : Value) → once_known v (λ t. cond (not (truth t)) (wires_awaited now fresh b second) (wires_awaited now fresh a first))
            ≡ once_known v (λ t. cond (truth t) (wires_awaited now fresh a first) (wires_awaited now fresh b second))
        by Unknown = refl
        by (Known d) = turned (truth d) (wires_awaited now fresh a first) (wires_awaited now fresh b second)

    pub present-stored : let t = is_true (value now fresh c k) in
        stored now fresh (present_of c a b) k
        ≡ stored now fresh c k
        ++ cond t (stored now fresh a first ++ resting now fresh b second) (resting now fresh a first ++ stored now fresh b second)
    unfolding value cell_count stored
    present-stored = simp add-zero (ap (λ cs. stored now fresh c k ++ cs) (turned (is_true (value now fresh c k)) _ _))

  -- Reset: "unknown when the condition is; else the operand's value"; a true condition makes the operand fresh.
  module _ (c a : Expression) (k : ℕ) where
    pub reset-value : value now fresh (reset_of c a) k
        ≡ when_known (value now fresh c k) (λ t. value now (truth t || fresh) a (k + cell_count c))
    unfolding value cell_count
    reset-value = simp add-zero

    pub reset-awaited : wires_awaited now fresh (reset_of c a) k
        ≡ wires_awaited now fresh c k ++ once_known (value now fresh c k) (λ t. wires_awaited now (truth t || fresh) a (k + cell_count c))
    unfolding value wires_awaited cell_count
    reset-awaited = simp add-zero

    pub reset-stored : stored now fresh (reset_of c a) k
        ≡ stored now fresh c k ++ stored now (is_true (value now fresh c k) || fresh) a (k + cell_count c)
    unfolding value cell_count stored
    reset-stored = simp add-zero

  -- the state of a machine whose cell has number k: false is state 0, which is current when the whole is fresh
  abbrev pub current_state : (k : ℕ) → Bool
  current_state k = truth (held now fresh (Boolean false) k)

  -- Machine: leave-conditions c and d of states 0 and 1, bodies a and b.
  module _ (c d a b : Expression) (k : ℕ) where
    -- "Only the current state's condition is asked."
    abbrev pub condition_asked : Value
    condition_asked = cond (current_state k) (value now fresh d (second_condition c k)) (value now fresh c (first_condition k))

    numbered : first_condition k + (cell_count c + cell_count d) ≡ first_body c d k
    numbered = omega arith

    one_more : k + 1 ≡ suc k
    one_more = omega arith

    -- "An unknown condition gives unknown, a known one the value of the body run", which is fresh where it is entered.
    pub machine-value : value now fresh (machine_of c d a b) k
        ≡ when_known condition_asked (λ t.
        cond (state_run (current_state k) (truth t))
        (value now (truth t || fresh) b (second_body c d a k))
        (value now (truth t || fresh) a (first_body c d k)))
    unfolding value cell_count
    machine-value = rw (one_more, numbered)

    -- "The asked condition counts, and once it is known the body run."
    pub machine-awaited : wires_awaited now fresh (machine_of c d a b) k
        ≡ cond (current_state k) (wires_awaited now fresh d (second_condition c k)) (wires_awaited now fresh c (first_condition k))
        ++ once_known condition_asked (λ t.
        cond (state_run (current_state k) (truth t))
        (wires_awaited now (truth t || fresh) b (second_body c d a k))
        (wires_awaited now (truth t || fresh) a (first_body c d k)))
    unfolding value wires_awaited cell_count
    machine-awaited = rw (one_more, numbered)

    -- "It stores the state whose body ran. Only the asked condition and the body run advance; the rest keep their memory, or get their starting
    -- memory when the whole is fresh."
    pub machine-stored : let holds = is_true condition_asked in
        stored now fresh (machine_of c d a b) k
        ≡ Started (Boolean (state_run (current_state k) holds))
        ∷ (cond (current_state k)
        (resting now fresh c (first_condition k) ++ stored now fresh d (second_condition c k))
        (stored now fresh c (first_condition k) ++ resting now fresh d (second_condition c k))
        ++ cond (state_run (current_state k) holds)
        (resting now fresh a (first_body c d k) ++ stored now (holds || fresh) b (second_body c d a k))
        (stored now (holds || fresh) a (first_body c d k) ++ resting now fresh b (second_body c d a k)))
    unfolding value cell_count stored
    machine-stored = rw (one_more, numbered)
