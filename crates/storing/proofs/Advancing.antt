-- What each function returns and leaves is what every placement asks for, from what its calls answer: one law to each return.
use Prim.Native.Nat.{ℕ, ◌+◌, ◌*◌, ◌≤◌, ◌<◌}
use mathlib.Core.Path.{◌≡◌, refl, sym, ap, subst, ◌∙◌}
use mathlib.Core.Bool.{Bool, true, false, ◌||◌, cond}
use mathlib.Core.List.{List, [], ◌∷◌, ◌++◌, append_assoc}
use native.Mathlib.Numerals.{add-one}
use native.Mathlib.Omega.{arith}
use lib.Dec.{ltb, eqb}
use lib.ListN.{get_or, take}
use lib.Seq.{sets}
use borrow.Author.Tests.{ltb-true, ltb-false, eqb-true, eqb-false, ne_eqb}
use Rattle.sheet.specs.Data.{ValueType, type_of_byte, datum_of}
use Rattle.sheet.specs.Expressions.{Unary, Binary, unary, binary, conditional, present_of, reset_of, pre, fby}
use Rattle.sheet.specs.Kinds.{body_of, count_of, operands_of}
use Rattle.sheet.specs.Memory.{cell_bytes, cell_word_at, memory_bytes}
use Rattle.sheet.specs.Readings.{body_at}
use Rattle.sheet.specs.declared.Datum.{Datum}
use Rattle.sheet.specs.declared.Cell.{Cell}
use Rattle.sheet.specs.declared.Cell.TheVariants.{Started}
use Rattle.sheet_walk.specs.declared.Place.{Place}
use Rattle.kernel.specs.Values.{is_true, datum_in}
use Rattle.operations.specs.Words.{unary_word, binary_word}
use Rattle.kernel.specs.Operations.{unary_of, binary_of}
use Rattle.kernel.specs.Instant.{stored}
use Rattle.kernel.proofs.Laws.Switches.{present-stored as present-equation, reset-stored as reset-equation}
use Rattle.leaves.specs.Leaves.{known_by, leaf_known, last_valued}
use Rattle.leaves.specs.Words.{is_seen, pre_word}
use Rattle.leaves.specs.declared.Valued.{Valued}
use Rattle.expression.specs.Places.{Placement, Gives}
use Rattle.expression.proofs.Views.{Operand, placed, operand-counted, One, Two, Three}
use Rattle.expression.proofs.Views.{unary-view, binary-view, conditional-view, present-view, reset-view, fby-view, pre-view}
use Rattle.expression.proofs.Views.{constant-view, wire-view, input-view, last_view}
use Rattle.expression.proofs.Values.{operand_value, Ended, by_value, by-walk}
use Rattle.expression.proofs.Giving.{unary-gives, binary-gives, conditional-gives, present-gives-first, present-gives-second, reset-gives}
use Rattle.expression.proofs.Giving.{fby-gives-left, fby-gives-cell, pre-gives, leaf-gives, last-gives}
use Rattle.storing.specs.Advances.{Ready, Advances}
use Rattle.storing.proofs.Steps.{Steps, Stays, operand_stored, operand_resting, put_first, one-step, two-step, two-step_2}
use Rattle.storing.proofs.Steps.{three-step, three-step_2, three-step_3, three-rest_2, three-rest_3, rest-step_3}

module _ {sheet memory words : List ℕ} {level asked : ℕ} {here : Place}
    (p : Ready sheet memory words level asked here) (fresh : Bool) where
  abbrev at : ℕ
  at = here.at

  abbrev cell : ℕ
  cell = here.cell

  abbrev whole : Placement sheet memory words p.bits level asked at cell
  whole = p.place

  -- where its operands begin, which come behind its own cell if it owns one
  abbrev pub first_place : Place
  first_place = record { at = at + 1; cell = cell }

  abbrev pub inner_place : Place
  inner_place = record { at = at + 1; cell = cell + 1 }

  abbrev kind : ℕ
  kind = get_or sheet at 0

  abbrev whole_stored : List Cell
  whole_stored = stored whole.now fresh whole.tree cell

  -- what is stored, by what the operands store
  unary-stored : {o : Unary} {t a : ℕ} (w : One whole t a cell (unary o)) → whole_stored ≡ operand_stored p fresh w.first
  unfolding stored
  unary-stored w = ap (λ e. stored whole.now fresh e cell) w.ends.tree

  binary-stored : {o : Binary} {t u a : ℕ} (w : Two whole t u a cell (binary o))
      → whole_stored ≡ operand_stored p fresh w.first ++ operand_stored p fresh w.second
  unfolding stored
  binary-stored w = ap (λ e. stored whole.now fresh e cell) w.ends.tree ∙ rw (operand-counted whole w.first)

  conditional-stored : {t u s a : ℕ} (w : Three whole t u s a cell conditional)
      → whole_stored ≡ operand_stored p fresh w.first ++ (operand_stored p fresh w.second ++ operand_stored p fresh w.third)
  unfolding stored
  conditional-stored w =
      ap (λ e. stored whole.now fresh e cell) w.ends.tree ∙ rw (operand-counted whole w.second, operand-counted whole w.first)

  present-stored : {t u s a : ℕ} (w : Three whole t u s a cell present_of)
      → whole_stored ≡ operand_stored p fresh w.first
      ++ cond (is_true (operand_value whole fresh w.first))
      (operand_stored p fresh w.second ++ operand_resting p fresh w.third)
      (operand_resting p fresh w.second ++ operand_stored p fresh w.third)
  present-stored w =
      ap (λ e. stored whole.now fresh e cell) w.ends.tree
      ∙ present-equation whole.now fresh w.first.tree w.second.tree w.third.tree cell
      ∙ rw (operand-counted whole w.second, operand-counted whole w.first)

  reset-stored : {t u a : ℕ} (w : Two whole t u a cell reset_of)
      → whole_stored ≡ operand_stored p fresh w.first ++ operand_stored p (is_true (operand_value whole fresh w.first) || fresh) w.second
  reset-stored w =
      ap (λ e. stored whole.now fresh e cell) w.ends.tree
      ∙ reset-equation whole.now fresh w.first.tree w.second.tree cell
      ∙ rw (operand-counted whole w.first)

  pre-stored : {d : Datum} {t a : ℕ} (w : One whole t a (cell + 1) (pre d))
      → whole_stored ≡ Started (datum_in (operand_value whole fresh w.first)) ∷ operand_stored p fresh w.first
  unfolding stored
  pre-stored w = ap (λ e. stored whole.now fresh e cell) w.ends.tree ∙ rw add-one

  fby-stored : {y : ValueType} {t u a : ℕ} (w : Two whole t u a (cell + 1) (fby y))
      → whole_stored ≡ Started (datum_in (operand_value whole fresh w.second))
      ∷ (operand_stored p fresh w.first ++ operand_stored p fresh w.second)
  unfolding stored
  fby-stored w = ap (λ e. stored whole.now fresh e cell) w.ends.tree ∙ rw (operand-counted whole w.first, add-one)

  -- what the word of an operand says of it as a condition, and as what a cell gets
  word_true : {a k : ℕ} {f : Bool} {v n j : ℕ} {o : Operand whole 0 a k} → Gives (placed whole o) f v n j
      → is_true (operand_value whole f o) ≡ eqb v 1
  word_true g = ap is_true g.value

  word-datum : {t a k : ℕ} {f : Bool} {v n j : ℕ} {o : Operand whole t a k} → Gives (placed whole o) f v n j
      → datum_in (operand_value whole f o) ≡ datum_of (type_of_byte t) v
  word-datum g = ap datum_in g.value

  -- the whole, from its word, where it ends and its cells
  finish : {v n j : ℕ} → Gives whole fresh v n j → {cs : List Cell} {m : List ℕ} → m ≡ sets memory (5 * cell) (memory_bytes cs)
      → whole_stored ≡ cs → Advances p fresh (record { word = v; end = record { at = n; cell = j } }) m
  finish g holds is =
      record { answer = g; holds = holds ∙ ap (λ cs. sets memory (5 * cell) (memory_bytes cs)) (sym is) }

  -- a leaf has no cells, and a wire that it names is known
  leaf-stored : kind < 4 → whole_stored ≡ []
  unfolding stored
  leaf-stored below = by (ltb kind 2) (eqb kind 2) refl refl
    where
      by : (b c : Bool) → ltb kind 2 ≡ b → eqb kind 2 ≡ c → whole_stored ≡ []
      by true c s t = ap (λ e. stored whole.now fresh e cell) (constant-view whole (ltb-true _ _ s)).tree
      by false true s t = ap (λ e. stored whole.now fresh e cell) (wire-view whole (eqb-true _ _ t)).leaf.tree
      by false false s t =
          let other = eqb-false kind 2 t in
          let least = ltb-false kind 2 s in
          let is : kind ≡ 3 = omega arith in
          ap (λ e. stored whole.now fresh e cell) (input-view whole is).leaf.tree

  leaf-known : known_by p.bits kind (body_at sheet at) ≡ true
  leaf-known = by (eqb kind 2) refl
    where
      by : (b : Bool) → eqb kind 2 ≡ b → known_by p.bits kind (body_at sheet at) ≡ true
      by true e = rw e (p.full (body_at sheet at) (wire-view whole (eqb-true kind 2 e)).within)
      by false e = rw e

  pub leaf_advances : kind < 4 → {r : Valued}
      → r ≡ leaf_known sheet words here → Advances p fresh r memory
  unfolding memory_bytes
  leaf_advances below e = rw e (finish (leaf-gives whole fresh below leaf-known) refl (leaf-stored below))

  -- neither has kind 18
  pub last_advances : kind ≡ 18 → {r : Valued} → r ≡ last_valued sheet words here
      → Advances p fresh r memory
  unfolding stored memory_bytes
  last_advances of e =
      rw e (finish (last-gives whole fresh of) refl (ap (λ x. stored whole.now fresh x cell) (last_view whole of).leaf.tree))

  module _ (types : List ℕ) (e : take (count_of kind) types ≡ operands_of kind asked) where
    pub unary_advances : 4 ≤ kind → kind < 6 → {a : Valued} {m : List ℕ} → Steps p memory (get_or types 0 0) first_place fresh a m
        → {r : ℕ} → r ≡ unary_word (unary_of kind) a.word
        → Advances p fresh (record { word = r; end = a.end }) m
    unary_advances low high ha is =
        let w = unary-view whole types e low high in
        let a = one-step p w ha in
        finish (unary-gives whole fresh types e low high a.answer is) a.reached.holds (unary-stored w)

    pub binary_advances : 6 ≤ kind → kind < 12 → {a b : Valued} {m m' : List ℕ}
        → Steps p memory (get_or types 0 0) first_place fresh a m → Steps p m (get_or types 1 0) a.end fresh b m'
        → {r : ℕ} → r ≡ binary_word (binary_of kind) a.word b.word
        → Advances p fresh (record { word = r; end = b.end }) m'
    binary_advances low high ha hb is =
        let w = binary-view whole types e low high in
        let a = two-step p w ha in
        let b = two-step_2 p w ha hb in
        finish (binary-gives whole fresh types e low high a.answer b.answer is) b.reached.holds (binary-stored w)

  module _ (of : kind ≡ 12) where
    pub conditional_advances : {c a b : Valued} {m m' m'' : List ℕ} → Steps p memory 0 first_place fresh c m
        → Steps p m asked c.end fresh a m' → Steps p m' asked a.end fresh b m''
        → {r : ℕ} → r ≡ cond (eqb c.word 1) a.word b.word
        → Advances p fresh (record { word = r; end = b.end }) m''
    conditional_advances hc ha hb is =
        let w = conditional-view whole of in
        let c = three-step p w hc in
        let a = three-step_2 p w hc ha in
        let b = three-step_3 p w hc ha hb in
        finish (conditional-gives whole fresh of c.answer a.answer b.answer is) b.reached.holds
        (conditional-stored w ∙ rw append_assoc)

  module _ (of : kind ≡ 13) {c : Valued} {m : List ℕ} (hc : Steps p memory 0 first_place fresh c m) where
    abbrev shown : Three whole 0 asked asked (at + 1) cell present_of
    shown = present-view whole of

    pub present_advances_first : c.word ≡ 1 → {a : Valued} {b : Place} {m' m'' : List ℕ}
        → Steps p m asked c.end fresh a m' → Stays p m' a.end fresh b m''
        → Advances p fresh (record { word = a.word; end = b }) m''
    present_advances_first holds ha hb =
        let c = three-step p shown hc in
        let a = three-step_2 p shown hc ha in
        let b = three-rest_3 p shown hc ha hb in
        finish (present-gives-first whole fresh of c.answer holds a.answer (by-walk whole shown.third b.answer))
        b.reached.holds (present-stored shown ∙ rw (word_true c.answer, holds, append_assoc))

    pub present_advances_second : (c.word ≡ 1 → ⊥) → {a : Place} {b : Valued} {m' m'' : List ℕ}
        → Stays p m c.end fresh a m' → Steps p m' asked a fresh b m'' → Advances p fresh b m''
    present_advances_second fails ha hb =
        let s = three-step p shown hc in
        let a = three-rest_2 p shown hc ha in
        let b = rest-step_3 p shown hc ha hb in
        finish (present-gives-second whole fresh of s.answer fails b.answer) b.reached.holds
        (present-stored shown ∙ rw (word_true s.answer, ne_eqb c.word 1 fails, append_assoc))

  module _ (of : kind ≡ 14) where
    pub reset_advances : {c a : Valued} {m m' : List ℕ} → Steps p memory 0 first_place fresh c m
        → Steps p m asked c.end (eqb c.word 1 || fresh) a m' → Advances p fresh a m'
    reset_advances hc ha =
        let w = reset-view whole of in
        let c = two-step p w hc in
        let a = two-step_2 p w hc ha in
        finish (reset-gives whole fresh of c.answer a.answer) a.reached.holds (reset-stored w ∙ rw (word_true c.answer))

  pub pre_advances : (low : 15 ≤ kind) (high : kind < 17) {size word : ℕ} → size ≡ body_of kind
      → word ≡ pre_word sheet memory at cell fresh
      → {a : Valued} {m m' : List ℕ} → Steps p memory asked (record { at = at + 1 + size; cell = cell + 1 }) fresh a m
      → {d : Datum} → d ≡ datum_of (type_of_byte asked) a.word → m' ≡ sets m (5 * cell) (cell_bytes (Started d))
      → Advances p fresh (record { word = word; end = a.end }) m'
  pre_advances low high sized yields {a = r} {m} ha {d} is put =
      let w = pre-view whole low high in
      let a = one-step p w (subst (λ (n : ℕ). Steps p memory asked (record { at = at + 1 + n; cell = cell + 1 }) fresh r m) sized ha) in
      finish (pre-gives whole fresh low high yields (by_value whole a.answer)) (put_first p (Started d) a.reached put)
      (pre-stored w ∙ rw (word-datum a.answer, is))

  module _ (of : kind ≡ 17) where
    -- the word of the cell where the place sees it started, and else that of the left side
    fby-gives : {v n j m i : ℕ} → Gives (placed whole (fby-view whole of).first) fresh v n j → Ended whole (fby-view whole of).second m i
        → Gives whole fresh (cond (is_seen fresh memory cell) (cell_word_at memory cell) v) m i
    fby-gives {v} {m = m} {i} g e = by (is_seen fresh memory cell) refl
      where
        by : (seen : Bool) → is_seen fresh memory cell ≡ seen → Gives whole fresh (cond seen (cell_word_at memory cell) v) m i
        by true is = fby-gives-cell whole fresh of is e
        by false is = fby-gives-left whole fresh of is g e

    pub fby_advances : {seen : Bool} {held : ℕ} → seen ≡ is_seen fresh memory cell → held ≡ cell_word_at memory cell
        → {a b : Valued} {m m' m'' : List ℕ} → Steps p memory asked inner_place fresh a m
        → Steps p m asked a.end fresh b m'
        → {d : Datum} → d ≡ datum_of (type_of_byte asked) b.word → m'' ≡ sets m' (5 * cell) (cell_bytes (Started d))
        → {r : ℕ} → r ≡ cond seen held a.word → Advances p fresh (record { word = r; end = b.end }) m''
    fby_advances sees keeps ha hb {d} is put yields =
        let w = fby-view whole of in
        let a = two-step p w ha in
        let b = two-step_2 p w ha hb in
        finish (rw (yields, sees, keeps) (fby-gives a.answer (by_value whole b.answer))) (put_first p (Started d) b.reached put)
        (fby-stored w ∙ rw (word-datum b.answer, is))
