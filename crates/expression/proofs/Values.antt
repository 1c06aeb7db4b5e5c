-- The value of a placement by the values of its operands, and what the code's steps make of them.
use Prim.Native.Nat.{ℕ, ◌+◌, ◌-◌}
use mathlib.Core.Path.{◌≡◌, sym, ap, subst, ◌∙◌}
use mathlib.Core.Bool.{Bool, ◌||◌, cond}
use mathlib.Core.List.{List}
use Rattle.std.specs.Prelude.{Option, Some, None}
use native.Mathlib.Numerals.{add-one}
use Rattle.sheet.specs.Data.{ValueType, type_of_byte, datum_of}
use Rattle.sheet.specs.Expressions.{Expression, Unary, Binary, unary, binary, conditional, present_of, reset_of, machine_of, fby}
use Rattle.sheet.specs.Laws.Lists.{never}
use Rattle.sheet_walk.specs.Skips.{Readable}
use Rattle.sheet.specs.declared.Cell.TheVariants.{NotStarted}
use Rattle.sheet_walk.specs.declared.Place.{Place}
use Rattle.kernel.specs.Values.{truth, when_known}
use Rattle.kernel.specs.Operations.{unary_value, binary_value}
use Rattle.kernel.specs.Instant.{value, cell_at, known_or}
use Rattle.kernel.proofs.Laws.Switches.{current_state, state_run, present-value as present-equation, reset-value as reset-equation}
use Rattle.kernel.proofs.Laws.Switches.{machine-value as machine-equation}
use Rattle.kernel.specs.declared.Value.{Value}
use Rattle.kernel.specs.declared.Value.TheVariants.{Unknown, Known}
use Rattle.leaves.specs.declared.Valued.{Valued}
use Rattle.expression.specs.Places.{Placement, whole_value, Gives, Yields, unknown, known}
use Rattle.expression.proofs.Views.{Operand, placed, readable, operand-counted, Alone, One, Two, Three, Four}

module _ {sheet memory words : List ℕ} {bits level asked at cell : ℕ} {p : Placement sheet memory words bits level asked at cell}
    {fresh : Bool} where
  -- by what was handed back
  pub as_known : {r : Option Valued} {v : Valued} → Yields p fresh r → r ≡ Some v → Gives p fresh v.word v.end.at v.end.cell
  as_known y e = given (rw e at y)
    where
      given : {v : Valued} → Yields p fresh (Some v) → Gives p fresh v.word v.end.at v.end.cell
      given (known g) = g

  pub as_unknown : {r : Option Valued} → Yields p fresh r → r ≡ None → whole_value p fresh ≡ Unknown
  as_unknown (unknown u) e = u
  as_unknown (known g) e = never (cc)

module _ {sheet memory words : List ℕ} {bits level asked at cell : ℕ}
    (p : Placement sheet memory words bits level asked at cell) where
  abbrev pub operand_value : {t a k : ℕ} → Bool → Operand p t a k → Value
  operand_value {k = k} f o = value p.now f o.tree k

  -- What a call answers at a place: the value of every placement there, or the end of every expression there.
  abbrev pub Answers : (a k : ℕ) → Bool → Option Valued → Type 0
  Answers a k f r = (t : ℕ) (q : Placement sheet memory words bits (level - 1) t a k) → Yields q f r

  abbrev pub Walked : (a k : ℕ) → Place → Type 0
  Walked a k r = (q : Readable sheet a k) → r ≡ record { at = q.next; cell = q.count }

  -- an operand was seen to end at n, with j cells up to there
  pub record Ended {t a k : ℕ} (o : Operand p t a k) (n j : ℕ) : Type 0 where
    pub next : n ≡ o.next
    pub count : j ≡ o.count

  pub by_value : {t a k : ℕ} {f : Bool} {v n j : ℕ} {o : Operand p t a k} → Gives (placed p o) f v n j → Ended o n j
  by_value g = record { next = g.next; count = g.count }

  pub by-walk : {t a k : ℕ} {r : Place} (o : Operand p t a k) → r ≡ record { at = o.next; cell = o.count }
      → Ended o r.at r.cell
  by-walk o e = record { next = ap (λ x. x.at) e; count = ap (λ x. x.cell) e }

  -- the operand behind it stands there
  abbrev pub behind : {t u a k n j : ℕ} {o : Operand p t a k} → Ended o n j → Operand p u o.next o.count → Operand p u n j
  behind e o = record {
    tree = o.tree;
    next = o.next;
    count = o.count;
    reads = rw (e.next, e.count) o.reads;
    cells = rw e.count o.cells;
  }

  abbrev pub after-value : {t u a k : ℕ} {f : Bool} {r : Option Valued} {v : Valued} (o : Operand p t a k) → Answers a k f r → r ≡ Some v
      → Operand p u o.next o.count → Operand p u v.end.at v.end.cell
  after-value {t} o h e = behind (by_value (as_known (h t (placed p o)) e))

  abbrev pub after-walk : {t u a k : ℕ} {r : Place} (o : Operand p t a k) → Walked a k r
      → Operand p u o.next o.count → Operand p u r.at r.cell
  after-walk o h = behind (by-walk o (h (readable p o)))

  -- and a call there answers for it
  pub value-behind : {t u a k n j : ℕ} {o : Operand p t a k} → Ended o n j → {f : Bool} {r : Option Valued} → Answers n j f r
      → (o' : Operand p u o.next o.count) → Yields (placed p o') f r
  value-behind {u = u} {j = j} {o = o} e {f} {r} h o' =
      subst (λ (k : ℕ). Answers o.next k f r) e.count (subst (λ (a : ℕ). Answers a j f r) e.next h) u (placed p o')

  pub walk-behind : {t u a k n j : ℕ} {o : Operand p t a k} → Ended o n j → {r : Place} → Walked n j r
      → (o' : Operand p u o.next o.count) → r ≡ record { at = o'.next; cell = o'.count }
  walk-behind {j = j} {o = o} e {r} h o' =
      subst (λ (k : ℕ). Walked o.next k r) e.count (subst (λ (a : ℕ). Walked a j r) e.next h) (readable p o')

module _ {sheet memory words : List ℕ} {bits level asked at cell : ℕ}
    (p : Placement sheet memory words bits level asked at cell) (fresh : Bool) where
  pub unary-value : {o : Unary} {t a : ℕ} (v : One p t a cell (unary o))
      → whole_value p fresh ≡ unary_value o (operand_value p fresh v.first)
  unfolding value
  unary-value v = ap (λ e. value p.now fresh e cell) v.ends.tree

  pub binary-value : {o : Binary} {t u a : ℕ} (v : Two p t u a cell (binary o))
      → whole_value p fresh ≡ binary_value o (operand_value p fresh v.first) (operand_value p fresh v.second)
  unfolding value
  binary-value v = ap (λ e. value p.now fresh e cell) v.ends.tree ∙ rw (operand-counted p v.first)

  pub conditional-value : {t u w a : ℕ} (v : Three p t u w a cell conditional)
      → whole_value p fresh ≡ when_known (operand_value p fresh v.first) (λ c.
      when_known (operand_value p fresh v.second) (λ x.
      when_known (operand_value p fresh v.third) (λ y. Known (cond (truth c) x y))))
  unfolding value
  conditional-value v =
      ap (λ e. value p.now fresh e cell) v.ends.tree
      ∙ rw (operand-counted p v.second, operand-counted p v.first)

  pub present-value : {t u w a : ℕ} (v : Three p t u w a cell present_of)
      → whole_value p fresh ≡ when_known (operand_value p fresh v.first)
      (λ c. cond (truth c) (operand_value p fresh v.second) (operand_value p fresh v.third))
  present-value v =
      ap (λ e. value p.now fresh e cell) v.ends.tree
      ∙ present-equation p.now fresh v.first.tree v.second.tree v.third.tree cell
      ∙ rw (operand-counted p v.second, operand-counted p v.first)

  pub reset-value : {t u a : ℕ} (v : Two p t u a cell reset_of)
      → whole_value p fresh ≡ when_known (operand_value p fresh v.first) (λ c. operand_value p (truth c || fresh) v.second)
  reset-value v =
      ap (λ e. value p.now fresh e cell) v.ends.tree
      ∙ reset-equation p.now fresh v.first.tree v.second.tree cell
      ∙ rw (operand-counted p v.first)

  -- of a machine, by its state: the condition that is asked, and the body that runs
  module _ {t u w x a : ℕ} (v : Four p t u w x a (cell + 1) machine_of) where
    abbrev state : Bool
    state = current_state p.now fresh cell

    pub machine-value : whole_value p fresh
        ≡ when_known (cond state (operand_value p fresh v.second) (operand_value p fresh v.first)) (λ c.
        cond (state_run state (truth c)) (operand_value p (truth c || fresh) v.fourth) (operand_value p (truth c || fresh) v.third))
    machine-value =
        ap (λ e. value p.now fresh e cell) v.ends.tree
        ∙ machine-equation p.now fresh v.first.tree v.second.tree v.third.tree v.fourth.tree cell
        ∙ rw (operand-counted p v.third, operand-counted p v.second, operand-counted p v.first, add-one)

  pub fby-value : {y : ValueType} {t u a : ℕ} (v : Two p t u a (cell + 1) (fby y))
      → whole_value p fresh ≡ known_or (operand_value p fresh v.first) (cond fresh NotStarted (cell_at p.now.memory cell))
  unfolding value
  fby-value v = ap (λ e. value p.now fresh e cell) v.ends.tree ∙ rw add-one

  -- the whole, from its word and the end of its last operand
  pub finished : {a k : ℕ} {e : Expression} → Alone p a k e → {v n j : ℕ} → whole_value p fresh ≡ Known (datum_of (type_of_byte asked) v)
      → n ≡ a → j ≡ k → Gives p fresh v n j
  finished w x y z = record { value = x; next = y ∙ sym w.next; count = z ∙ sym w.count }
