-- What each function of the value cycle returns holds of every placement, from what its calls answer: one law to each return.
use Prim.Native.Nat.{ℕ, ◌+◌, ◌-◌, ◌*◌, ◌≤◌, ◌<◌}
use native.Mathlib.Omega.{arith}
use mathlib.Core.Path.{◌≡◌, refl, subst, ◌∙◌}
use mathlib.Core.Bool.{Bool, true, false, ◌||◌, cond}
use mathlib.Core.List.{List}
use Rattle.std.specs.Prelude.{Option, Some, None, Result, Ok, Err}
use Rattle.std.specs.Result.{result_ok}
use lib.Dec.{eqb, ltb}
use lib.ListN.{get_or}
use borrow.Author.Tests.{ne_eqb, ltb-true, ltb-false}
use Rattle.sheet.specs.Kinds.{body_of, operands_of}
use Rattle.sheet.specs.Memory.{cell_word_at}
use Rattle.sheet.specs.Readings.{body_at}
use Rattle.sheet_walk.specs.declared.Place.{Place}
use Rattle.kernel.specs.Operations.{unary_of, binary_of}
use Rattle.kernel.specs.declared.Value.TheVariants.{Unknown}
use Rattle.operations.specs.Words.{unary_word, binary_word}
use Rattle.leaves.specs.declared.Valued.{Valued}
use Rattle.leaves.specs.Words.{is_seen, pre_word}
use Rattle.expression.specs.Places.{Placement, whole_value, Gives, Yields, unknown, known}
use Rattle.leaves.specs.Leaves.{known_by, leaf_known, leaf_valued, last_valued}
use Rattle.expression.proofs.Views.{Operand, opened, placed, readable, own-types}
use Rattle.expression.proofs.Views.{unary-view, binary-view, conditional-view, present-view, reset-view, fby-view, pre-view}
use Rattle.expression.proofs.Values.{as_known, as_unknown, Answers, Walked, by_value, by-walk, after-value, after-walk, value-behind, walk-behind}
use Rattle.expression.proofs.Values.{unary-value, binary-value, conditional-value, present-value, reset-value}
use Rattle.expression.proofs.Giving.{unary-gives, binary-gives, conditional-gives, present-gives-first, present-gives-second}
use Rattle.expression.proofs.Giving.{reset-gives, fby-left, fby-gives-left, fby-gives-cell, pre-gives, leaf-value, leaf-gives, last-gives}

module _ {sheet memory words : List ℕ} {bits level asked at cell : ℕ}
    (p : Placement sheet memory words bits level asked at cell) (fresh : Bool) where
  abbrev kind : ℕ
  kind = get_or sheet at 0

  -- the measure falls to an operand, whether it is valued at all or by its kind
  pub deeper : (step : ℕ) {n : ℕ} → 5 * level + step ≡ n → {t a k : ℕ} → Operand p t a k
      → (5 * (level - 1) + 4 < n) × ((x : ℕ) × Placement sheet memory words bits (level - 1) x a k)
  deeper step e o = (omega (arith, e, (opened p).level-left), (_, placed p o))

  pub deeper_by_kind : (step : ℕ) {n : ℕ} → 5 * level + step ≡ n → {t a k : ℕ} → Operand p t a k
      → (5 * (level - 1) + 3 < n) × ((x : ℕ) × Placement sheet memory words bits (level - 1) x a k)
  deeper_by_kind step e o = (omega (arith, e, (opened p).level-left), (_, placed p o))

  pub leaf_yields : kind < 4 → {r : Result Valued Valued} → r ≡ leaf_valued sheet words bits (record { at = at; cell = cell })
      → {given : Option Valued} → given ≡ result_ok r → Yields p fresh given
  leaf_yields below is ends = rw ends (rw is (by (known_by bits kind (body_at sheet at)) refl))
    where
      here : Place
      here = record { at = at; cell = cell }

      by : (b : Bool) → known_by bits kind (body_at sheet at) ≡ b
          → Yields p fresh (result_ok (cond b (Ok (leaf_known sheet words here)) (Err (leaf_known sheet words here))))
      by true e = known (leaf-gives p fresh below e)
      by false e = unknown (leaf-value p fresh below ∙ rw e)

  pub last_yields : kind ≡ 18 → {v : Valued} → v ≡ last_valued sheet words (record { at = at; cell = cell }) → Yields p fresh (Some v)
  last_yields of is = rw is (known (last-gives p fresh of))

  -- an operation on one or two operands
  module _ {a : Option Valued} (ha : Answers p (at + 1) cell fresh a) where
    pub operation_unknown : 4 ≤ kind → kind < 12 → a ≡ None → Yields p fresh None
    operation_unknown low high ends = unknown (by (ltb kind 6) refl)
      where
        by : (b : Bool) → ltb kind 6 ≡ b → whole_value p fresh ≡ Unknown
        by true t =
            let w = unary-view p _ (own-types p) low (ltb-true _ _ t) in
            unary-value p fresh w ∙ rw (as_unknown (ha _ (placed p w.first)) ends)
        by false t =
            let w = binary-view p _ (own-types p) (ltb-false _ _ t) high in
            binary-value p fresh w ∙ rw (as_unknown (ha _ (placed p w.first)) ends)

    module _ {u : Valued} (there : a ≡ Some u) where
      pub unary-answer : 4 ≤ kind → kind < 6 → {v : ℕ} → v ≡ unary_word (unary_of kind) u.word
          → Yields p fresh (Some (record { word = v; end = u.end }))
      unary-answer low high is =
          let w = unary-view p _ (own-types p) low high in
          known (unary-gives p fresh _ (own-types p) low high (as_known (ha _ (placed p w.first)) there) is)

      pub binary-second : (low : 6 ≤ kind) (high : kind < 12) → Operand p (get_or (operands_of kind asked) 1 0) u.end.at u.end.cell
      binary-second low high = let w = binary-view p _ (own-types p) low high in after-value p w.first ha there w.second

      module _ (low : 6 ≤ kind) (high : kind < 12) {b : Option Valued} (hb : Answers p u.end.at u.end.cell fresh b) where
        left_gives : Gives (placed p (binary-view p _ (own-types p) low high).first) fresh u.word u.end.at u.end.cell
        left_gives = as_known (ha _ (placed p (binary-view p _ (own-types p) low high).first)) there

        right_yields : Yields (placed p (binary-view p _ (own-types p) low high).second) fresh b
        right_yields = value-behind p (by_value p left_gives) hb (binary-view p _ (own-types p) low high).second

        pub binary-unknown : b ≡ None → Yields p fresh None
        binary-unknown ends =
            unknown (binary-value p fresh (binary-view p _ (own-types p) low high) ∙ rw (left_gives.value, as_unknown right_yields ends))

        pub binary-answer : {w : Valued} → b ≡ Some w → {v : ℕ} → v ≡ binary_word (binary_of kind) u.word w.word
            → Yields p fresh (Some (record { word = v; end = w.end }))
        binary-answer here is = known (binary-gives p fresh _ (own-types p) low high left_gives (as_known right_yields here) is)

  module _ (of : kind ≡ 12) {c : Option Valued} (hc : Answers p (at + 1) cell fresh c) where
    pub conditional-unknown : c ≡ None → Yields p fresh None
    conditional-unknown ends =
        let w = conditional-view p of in
        unknown (conditional-value p fresh w ∙ rw (as_unknown (hc _ (placed p w.first)) ends))

    pub conditional-second : {u : Valued} → c ≡ Some u → Operand p asked u.end.at u.end.cell
    conditional-second holds = let w = conditional-view p of in after-value p w.first hc holds w.second

    module _ {u : Valued} (holds : c ≡ Some u) {a : Option Valued} (ha : Answers p u.end.at u.end.cell fresh a) where
      conditional_condition : Gives (placed p (conditional-view p of).first) fresh u.word u.end.at u.end.cell
      conditional_condition = as_known (hc _ (placed p (conditional-view p of).first)) holds

      conditional_yields : Yields (placed p (conditional-view p of).second) fresh a
      conditional_yields = value-behind p (by_value p conditional_condition) ha (conditional-view p of).second

      pub conditional-unknown-then : a ≡ None → Yields p fresh None
      conditional-unknown-then ends =
          let w = conditional-view p of in
          unknown (conditional-value p fresh w ∙ rw (conditional_condition.value, as_unknown conditional_yields ends))

      pub conditional-third : {x : Valued} → a ≡ Some x → Operand p asked x.end.at x.end.cell
      unfolding conditional-second
      conditional-third there = after-value p (conditional-second holds) ha there (conditional-view p of).third

      module _ {x : Valued} (there : a ≡ Some x) {b : Option Valued} (hb : Answers p x.end.at x.end.cell fresh b) where
        conditional_then : Gives (placed p (conditional-view p of).second) fresh x.word x.end.at x.end.cell
        conditional_then = as_known conditional_yields there

        conditional_third : Yields (placed p (conditional-view p of).third) fresh b
        conditional_third = value-behind p (by_value p conditional_then) hb (conditional-view p of).third

        pub conditional-unknown-otherwise : b ≡ None → Yields p fresh None
        conditional-unknown-otherwise ends =
            unknown (conditional-value p fresh (conditional-view p of)
            ∙ rw (conditional_condition.value, conditional_then.value, as_unknown conditional_third ends))

        pub conditional-answer : {y : Valued} → b ≡ Some y → {v : ℕ} → v ≡ cond (eqb u.word 1) x.word y.word
            → Yields p fresh (Some (record { word = v; end = y.end }))
        conditional-answer here is =
            known (conditional-gives p fresh of conditional_condition conditional_then (as_known conditional_third here) is)

  module _ (of : kind ≡ 13) {c : Option Valued} (hc : Answers p (at + 1) cell fresh c) where
    pub present-unknown : c ≡ None → Yields p fresh None
    present-unknown ends =
        let w = present-view p of in
        unknown (present-value p fresh w ∙ rw (as_unknown (hc _ (placed p w.first)) ends))

    module _ {u : Valued} (there : c ≡ Some u) where
      pub present-second : Operand p asked u.end.at u.end.cell
      present-second = let w = present-view p of in after-value p w.first hc there w.second

      pub present-third : {a : Place} → Walked p u.end.at u.end.cell a → Operand p asked a.at a.cell
      unfolding present-second
      present-third ha = after-walk p present-second ha (present-view p of).third

      present_condition : Gives (placed p (present-view p of).first) fresh u.word u.end.at u.end.cell
      present_condition = as_known (hc _ (placed p (present-view p of).first)) there

      module _ (holds : u.word ≡ 1) {a : Option Valued} (ha : Answers p u.end.at u.end.cell fresh a) where
        present-arm : Yields (placed p (present-view p of).second) fresh a
        present-arm = value-behind p (by_value p present_condition) ha (present-view p of).second

        pub present-unchosen : {x : Valued} → a ≡ Some x → Operand p asked x.end.at x.end.cell
        unfolding present-second
        present-unchosen here = after-value p present-second ha here (present-view p of).third

        pub present-unknown-arm : a ≡ None → Yields p fresh None
        present-unknown-arm ends =
            unknown (present-value p fresh (present-view p of) ∙ rw (present_condition.value, holds) (as_unknown present-arm ends))

        pub present-answer-first : {x : Valued} → a ≡ Some x → {b : Place} → Walked p x.end.at x.end.cell b
            → Yields p fresh (Some (record { word = x.word; end = b }))
        present-answer-first here hb =
            let g = as_known present-arm here in
            let w = present-view p of in
            known (present-gives-first p fresh of present_condition holds g
            (by-walk p w.third (walk-behind p (by_value p g) hb w.third)))

      pub present-answer-second : (u.word ≡ 1 → ⊥) → {a : Place} {b : Option Valued} → Walked p u.end.at u.end.cell a
          → Answers p a.at a.cell fresh b → Yields p fresh b
      present-answer-second fails {b = b} ha hb =
          let w = present-view p of in
          let e = walk-behind p (by_value p present_condition) ha w.second in
          by (value-behind p (by-walk p w.second e) hb w.third)
        where
          by : {r : Option Valued} → Yields (placed p (present-view p of).third) fresh r → Yields p fresh r
          by (unknown n) =
              unknown (present-value p fresh (present-view p of) ∙ rw (present_condition.value, ne_eqb u.word 1 fails) n)
          by (known f) = known (present-gives-second p fresh of present_condition fails f)

  module _ (of : kind ≡ 14) {c : Option Valued} (hc : Answers p (at + 1) cell fresh c) where
    pub reset-unknown : c ≡ None → Yields p fresh None
    reset-unknown ends =
        let w = reset-view p of in
        unknown (reset-value p fresh w ∙ rw (as_unknown (hc _ (placed p w.first)) ends))

    pub reset-second : {u : Valued} → c ≡ Some u → Operand p asked u.end.at u.end.cell
    reset-second there = let w = reset-view p of in after-value p w.first hc there w.second

    pub reset-answer : {u : Valued} → c ≡ Some u → {a : Option Valued} → Answers p u.end.at u.end.cell (eqb u.word 1 || fresh) a
        → Yields p fresh a
    reset-answer {u} there {a} ha =
        let g = as_known (hc _ (placed p (reset-view p of).first)) there in
        by g (value-behind p (by_value p g) ha (reset-view p of).second)
      where
        by : {r : Option Valued} → Gives (placed p (reset-view p of).first) fresh u.word u.end.at u.end.cell
            → Yields (placed p (reset-view p of).second) (eqb u.word 1 || fresh) r → Yields p fresh r
        by g (unknown n) = unknown (reset-value p fresh (reset-view p of) ∙ rw g.value n)
        by g (known f) = known (reset-gives p fresh of g f)

  module _ (of : kind ≡ 17) where
    pub fby-answer-cell : is_seen fresh memory cell ≡ true → {word : ℕ} → word ≡ cell_word_at memory cell
        → {a b : Place} → Walked p (at + 1) (cell + 1) a → Walked p a.at a.cell b
        → Yields p fresh (Some (record { word = word; end = b }))
    fby-answer-cell seen is ha hb =
        let w = fby-view p of in
        let e = by-walk p w.first (ha (readable p w.first)) in
        known (rw is (fby-gives-cell p fresh of seen (by-walk p w.second (walk-behind p e hb w.second))))

    pub fby-second-walked : {a : Place} → Walked p (at + 1) (cell + 1) a → Operand p asked a.at a.cell
    fby-second-walked ha = let w = fby-view p of in after-walk p w.first ha w.second

    module _ (unseen : is_seen fresh memory cell ≡ false) {a : Option Valued} (ha : Answers p (at + 1) (cell + 1) fresh a) where
      pub fby-unknown : a ≡ None → Yields p fresh None
      fby-unknown ends = unknown (fby-left p fresh of unseen ∙ as_unknown (ha _ (placed p (fby-view p of).first)) ends)

      pub fby-second : {x : Valued} → a ≡ Some x → Operand p asked x.end.at x.end.cell
      fby-second there = let w = fby-view p of in after-value p w.first ha there w.second

      pub fby-answer-left : {x : Valued} → a ≡ Some x → {b : Place} → Walked p x.end.at x.end.cell b
          → Yields p fresh (Some (record { word = x.word; end = b }))
      fby-answer-left there hb =
          let w = fby-view p of in
          let g = as_known (ha _ (placed p w.first)) there in
          known (fby-gives-left p fresh of unseen g (by-walk p w.second (walk-behind p (by_value p g) hb w.second)))

  -- the word of a pre, whose operand was passed over behind a body of the size that the code has
  pub pre-answer : (low : 15 ≤ kind) (high : kind < 17) {size : ℕ} → size ≡ body_of kind
      → {word : ℕ} → word ≡ pre_word sheet memory at cell fresh → {a : Place} → Walked p (at + 1 + size) (cell + 1) a
      → Yields p fresh (Some (record { word = word; end = a }))
  pre-answer low high sized is {a} h =
      let w = pre-view p low high in
      let e = subst (λ (n : ℕ). Walked p (at + 1 + n) (cell + 1) a) sized h (readable p w.first) in
      known (pre-gives p fresh low high is (by-walk p w.first e))
