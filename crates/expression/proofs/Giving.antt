-- A known whole from its known operands, by the kind: what both the value of an expression and its storing rest on.
use Prim.Native.Nat.{ℕ, ◌+◌, ◌*◌, ◌≤◌, ◌<◌}
use mathlib.Core.Path.{◌≡◌, refl, sym, ap, subst, ◌∙◌}
use mathlib.Core.Bool.{Bool, true, false, ◌||◌, cond}
use mathlib.Core.List.{List}
use native.Mathlib.Omega.{arith}
use lib.Dec.{eqb, ltb}
use lib.ListN.{get_or, take}
use borrow.Author.Tests.{eq-eqb, ne_eqb, eqb-true, eqb-false, ltb-true, ltb-false}
use Rattle.sheet.specs.Data.{ValueType, IsOf, type_of_byte, datum_of}
use Rattle.sheet.specs.Expressions.{Expression}
use Rattle.sheet.specs.Kinds.{body_of, count_of, operands_of}
use Rattle.sheet.specs.Memory.{cell_word_at, read_cell}
use Rattle.sheet.specs.Readings.{body_at}
use Rattle.sheet.specs.Laws.Lists.{never}
use Rattle.sheet.proofs.Laws.Memory.{word_back}
use Rattle.sheet.specs.declared.Datum.{Datum}
use Rattle.sheet.specs.declared.Cell.TheVariants.{NotStarted, Started}
use Rattle.sheet.specs.Typing.{unary_type, operand_type}
use Rattle.kernel.specs.Operations.{apply_unary, apply_binary, unary_of, binary_of}
use Rattle.kernel.specs.Instant.{value, last_at, cell_at, held_or}
use Rattle.kernel.proofs.Laws.Typing.{unary_type_lem, binary-type}
use Rattle.kernel.specs.declared.Value.TheVariants.{Known}
use Rattle.operations.specs.Words.{unary_word, binary_word}
use Rattle.leaves.specs.Words.{is_seen, pre_word}
use Rattle.expression.specs.Places.{Placement, value_of_word, whole_value, Gives}
use Rattle.leaves.specs.Leaves.{known_by, leaf_word, last_word}
use Rattle.expression.proofs.Rows.{unary-typed, unary-operand, binary-typed, binary-operands}
use Rattle.expression.proofs.Views.{opened, placed, Alone, own-cell, unary-types, binary-types}
use Rattle.expression.proofs.Views.{unary-view, binary-view, conditional-view, present-view, reset-view, fby-view, pre-view}
use Rattle.expression.proofs.Views.{constant-view, wire-view, input-view, last_view, last-kept}
use Rattle.expression.proofs.Values.{operand_value, Ended, unary-value, binary-value, conditional-value, present-value, reset-value, fby-value, finished}

-- the word that a condition takes stands for the datum that it takes
choice_of-words : (t : ValueType) (b : Bool) (v w : ℕ) → cond b (datum_of t v) (datum_of t w) ≡ datum_of t (cond b v w)
choice_of-words t true v w = refl
choice_of-words t false v w = refl

-- what a place sees of its cell
pub seen-cell : (t : ValueType) (fresh : Bool) (memory : List ℕ) (k : ℕ) → is_seen fresh memory k ≡ true
    → cond fresh NotStarted (read_cell t memory k) ≡ Started (datum_of t (cell_word_at memory k))
seen-cell t true memory k e = never (cc)
seen-cell t false memory k e = by (eqb (get_or memory (5 * k) 0) 0) refl
  where
    by : (b : Bool) → eqb (get_or memory (5 * k) 0) 0 ≡ b → read_cell t memory k ≡ Started (datum_of t (cell_word_at memory k))
    by true m = let f : ◌≡◌ {A = Bool} false true = rw m at e in never (cc)
    by false m = rw m

pub unseen-cell : (t : ValueType) (fresh : Bool) (memory : List ℕ) (k : ℕ) → is_seen fresh memory k ≡ false
    → cond fresh NotStarted (read_cell t memory k) ≡ NotStarted
unseen-cell t true memory k e = refl
unseen-cell t false memory k e = by (eqb (get_or memory (5 * k) 0) 0) refl
  where
    by : (b : Bool) → eqb (get_or memory (5 * k) 0) 0 ≡ b → read_cell t memory k ≡ NotStarted
    by true m = rw m
    by false m = let f : ◌≡◌ {A = Bool} true false = rw m at e in never (cc)

held_word : (t : ValueType) (fresh : Bool) (sheet memory : List ℕ) (at k : ℕ) (d : Datum) → d ≡ datum_of t (body_at sheet at)
    → held_or d (cond fresh (Started d) (read_cell t memory k)) ≡ datum_of t (pre_word sheet memory at k fresh)
held_word t true sheet memory at k d is = is
held_word t false sheet memory at k d is = by (eqb (get_or memory (5 * k) 0) 0) refl
  where
    by : (b : Bool) → eqb (get_or memory (5 * k) 0) 0 ≡ b
        → held_or d (read_cell t memory k) ≡ datum_of t (pre_word sheet memory at k false)
    by true m = rw m is
    by false m = rw m

module _ {sheet memory words : List ℕ} {bits level asked at cell : ℕ}
    (p : Placement sheet memory words bits level asked at cell) (fresh : Bool) where
  abbrev kind : ℕ
  kind = get_or sheet at 0

  module _ (types : List ℕ) (e : take (count_of kind) types ≡ operands_of kind asked) where
    pub unary-gives : (low : 4 ≤ kind) (high : kind < 6) {v n j : ℕ}
        → Gives (placed p (unary-view p types e low high).first) fresh v n j
        → {r : ℕ} → r ≡ unary_word (unary_of kind) v → Gives p fresh r n j
    unary-gives low high {v} g is =
        let w = unary-view p types e low high in
        let o = unary_of kind in
        let d = datum_of (unary_type o) v in
        let operand = unary-operand kind low high asked (get_or types 0 0) (unary-types p types e low high) in
        let typed = unary-typed kind low high p.inputs p.wires asked _ (opened p).good.type in
        let back = word_back (type_of_byte asked) (apply_unary o d) (subst (λ t. IsOf t (apply_unary o d)) (sym typed) (unary_type_lem o d)) in
        finished p fresh w.ends (unary-value p fresh w ∙ rw (g.value, operand, is) (ap Known (sym back))) g.next g.count

    pub binary-gives : (low : 6 ≤ kind) (high : kind < 12) {v n j u m i : ℕ}
        → Gives (placed p (binary-view p types e low high).first) fresh v n j
        → Gives (placed p (binary-view p types e low high).second) fresh u m i
        → {r : ℕ} → r ≡ binary_word (binary_of kind) v u → Gives p fresh r m i
    binary-gives low high {v} {u = u} g h is =
        let w = binary-view p types e low high in
        let o = binary_of kind in
        let made = apply_binary o (datum_of (operand_type o) v) (datum_of (operand_type o) u) in
        let (left, right) = binary-operands kind low high asked (get_or types 0 0) (get_or types 1 0) (binary-types p types e low high) in
        let typed = binary-typed kind low high p.inputs p.wires asked _ (opened p).good.type in
        let back = word_back (type_of_byte asked) made (subst (λ t. IsOf t made) (sym typed) (binary-type o _ _)) in
        finished p fresh w.ends (binary-value p fresh w ∙ rw (g.value, h.value, left, right, is) (ap Known (sym back)))
        h.next h.count

  pub conditional-gives : (of : kind ≡ 12) {c n j v m i u l k : ℕ} → Gives (placed p (conditional-view p of).first) fresh c n j
      → Gives (placed p (conditional-view p of).second) fresh v m i → Gives (placed p (conditional-view p of).third) fresh u l k
      → {r : ℕ} → r ≡ cond (eqb c 1) v u → Gives p fresh r l k
  conditional-gives of {c} {v = v} {u = u} f g h is =
      let w = conditional-view p of in
      finished p fresh w.ends
      (conditional-value p fresh w ∙ rw (f.value, g.value, h.value, is) (ap Known (choice_of-words (type_of_byte asked) (eqb c 1) v u)))
      h.next h.count

  module _ (of : kind ≡ 13) {c n j : ℕ} (f : Gives (placed p (present-view p of).first) fresh c n j) where
    pub present-gives-first : c ≡ 1 → {v m i : ℕ} → Gives (placed p (present-view p of).second) fresh v m i
        → {l k : ℕ} → Ended p (present-view p of).third l k → Gives p fresh v l k
    present-gives-first holds g e =
        let w = present-view p of in
        finished p fresh w.ends (present-value p fresh w ∙ rw (f.value, holds) g.value) e.next e.count

    pub present-gives-second : (c ≡ 1 → ⊥) → {v l k : ℕ} → Gives (placed p (present-view p of).third) fresh v l k → Gives p fresh v l k
    present-gives-second fails g =
        let w = present-view p of in
        finished p fresh w.ends (present-value p fresh w ∙ rw (f.value, ne_eqb c 1 fails) g.value) g.next g.count

  pub reset-gives : (of : kind ≡ 14) {c n j : ℕ} → Gives (placed p (reset-view p of).first) fresh c n j
      → {v m i : ℕ} → Gives (placed p (reset-view p of).second) (eqb c 1 || fresh) v m i → Gives p fresh v m i
  reset-gives of f g =
      let w = reset-view p of in
      finished p fresh w.ends (reset-value p fresh w ∙ rw f.value g.value) g.next g.count

  -- the cell that the code reads is the instant's
  module _ (of : kind ≡ 17) where
    own : read_cell (type_of_byte asked) memory cell ≡ cell_at p.now.memory cell
    own = (own-cell p (omega arith) (omega arith)).reads

    -- where the cell is not seen as started, the value is the left operand's
    pub fby-left : is_seen fresh memory cell ≡ false → whole_value p fresh ≡ operand_value p fresh (fby-view p of).first
    fby-left unseen =
        let none = rw own at (unseen-cell (type_of_byte asked) fresh memory cell unseen) in
        fby-value p fresh (fby-view p of) ∙ rw none

    pub fby-gives-left : is_seen fresh memory cell ≡ false → {v n j : ℕ} → Gives (placed p (fby-view p of).first) fresh v n j
        → {m i : ℕ} → Ended p (fby-view p of).second m i → Gives p fresh v m i
    fby-gives-left unseen g e = finished p fresh (fby-view p of).ends (fby-left unseen ∙ g.value) e.next e.count

    pub fby-gives-cell : is_seen fresh memory cell ≡ true → {m i : ℕ} → Ended p (fby-view p of).second m i
        → Gives p fresh (cell_word_at memory cell) m i
    fby-gives-cell seen e =
        let w = fby-view p of in
        let some = rw own at (seen-cell (type_of_byte asked) fresh memory cell seen) in
        finished p fresh w.ends (fby-value p fresh w ∙ rw some) e.next e.count

  pub pre-gives : (low : 15 ≤ kind) (high : kind < 17) {word : ℕ} → word ≡ pre_word sheet memory at cell fresh
      → {m i : ℕ} → Ended p (pre-view p low high).first m i → Gives p fresh word m i
  unfolding value
  pre-gives low high is e =
      let w = pre-view p low high in
      let t = type_of_byte asked in
      let held = rw (own-cell p low (omega arith)).reads at (held_word t fresh sheet memory at cell (datum_of t (body_at sheet at)) refl) in
      finished p fresh w.ends (ap (λ x. value p.now fresh x cell) w.ends.tree ∙ rw is (ap Known held)) e.next e.count

  -- a constant, a wire or an input
  leaf-valued : {e : Expression} → Alone p (at + 1 + body_of kind) cell e
      → value_of_word (known_by bits kind (body_at sheet at)) (type_of_byte asked) (leaf_word sheet words at) ≡ value p.now fresh e cell
      → whole_value p fresh ≡ value_of_word (known_by bits kind (body_at sheet at)) (type_of_byte asked) (leaf_word sheet words at)
  leaf-valued w same = ap (λ e. value p.now fresh e cell) w.tree ∙ sym same

  pub leaf-value : kind < 4
      → whole_value p fresh ≡ value_of_word (known_by bits kind (body_at sheet at)) (type_of_byte asked) (leaf_word sheet words at)
  unfolding value
  leaf-value below = by (ltb kind 2) refl (eqb kind 2) refl
    where
      by : (b : Bool) → ltb kind 2 ≡ b → (c : Bool) → eqb kind 2 ≡ c
          → whole_value p fresh ≡ value_of_word (known_by bits kind (body_at sheet at)) (type_of_byte asked) (leaf_word sheet words at)
      by true e c f =
          let low : kind < 2 = ltb-true kind 2 e in
          leaf-valued (constant-view p low) (rw (ne_eqb kind 2 (λ is. omega arith), ne_eqb kind 3 (λ is. omega arith)))
      by false e true f =
          let w = wire-view p (eqb-true kind 2 f) in
          leaf-valued w.leaf (rw f (sym (p.stands.on_wires (body_at sheet at) w.within ∙ rw w.typed)))
      by false e false f =
          let high : 2 ≤ kind = ltb-false kind 2 e in
          let other = eqb-false kind 2 f in
          let of : kind ≡ 3 = omega arith in
          let w = input-view p of in
          leaf-valued w.leaf
          (rw (f, eq-eqb kind 3 of) (ap Known (sym (p.stands.on_inputs (body_at sheet at) w.within ∙ rw w.typed))))

  -- what the cell of a kept wire holds
  pub last-gives : kind ≡ 18 → Gives p fresh (last_word sheet words at) (at + 2) cell
  unfolding value
  last-gives is =
      let w = last_view p is in
      let held : last_at p.now.lasts (body_at sheet at) ≡ datum_of (type_of_byte asked) (last_word sheet words at) =
      p.stands.on_lasts (body_at sheet at) w.within (last-kept p is) ∙ rw w.typed in
      let end : at + 2 ≡ at + 1 + body_of kind = rw is (omega arith) in
      finished p fresh w.leaf (ap (λ e. value p.now fresh e cell) w.leaf.tree ∙ ap Known held) end refl

  -- it ends behind its body and owns no cell
  pub leaf-ends : kind < 4 → (p.next ≡ at + 1 + body_of kind) × (p.count ≡ cell)
  leaf-ends below = by (ltb kind 2) refl (eqb kind 2) refl
    where
      by : (b : Bool) → ltb kind 2 ≡ b → (c : Bool) → eqb kind 2 ≡ c → (p.next ≡ at + 1 + body_of kind) × (p.count ≡ cell)
      by true e c f = let w = constant-view p (ltb-true kind 2 e) in (w.next, w.count)
      by false e true f = let w = (wire-view p (eqb-true kind 2 f)).leaf in (w.next, w.count)
      by false e false f =
          let high : 2 ≤ kind = ltb-false kind 2 e in
          let other = eqb-false kind 2 f in
          let w = (input-view p (omega arith)).leaf in
          (w.next, w.count)

  pub leaf-gives : kind < 4 → known_by bits kind (body_at sheet at) ≡ true
      → Gives p fresh (leaf_word sheet words at) (at + 1 + body_of kind) cell
  leaf-gives below known-there =
      let (next, count) = leaf-ends below in
      record { value = leaf-value below ∙ rw known-there; next = sym next; count = sym count }
