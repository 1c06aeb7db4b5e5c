-- Which operands of an expression count, by its kind: for the wires that are unknown, what they wait for is what the whole waits for.
use Prim.Native.Nat.{ℕ, zero, suc, ◌+◌, ◌≤◌, ◌<◌}
use mathlib.Core.Path.{◌≡◌, refl, sym, ap, subst, ◌∙◌}
use mathlib.Core.Bool.{Bool, true, false, ◌||◌, cond}
use mathlib.Core.List.{List, [], ◌∷◌, ◌++◌, append-nil}
use Rattle.std.specs.Prelude.{Option, Some, None}
use native.Mathlib.Numerals.{add-one}
use native.Mathlib.Omega.{arith}
use lib.Dec.{eqb}
use lib.ListN.{length, get_or, take}
use borrow.Author.Tests.{ne_eqb}
use Rattle.sheet.specs.Data.{ValueType, type_of_byte, datum_of}
use Rattle.sheet.specs.Expressions.{Expression, fby, present_of, reset_of, cell_count}
use Rattle.sheet.specs.Kinds.{kind_count, body_of, cells_of, count_of, read_count_of, operand, operands_of, meaning_of}
use Rattle.sheet.specs.Memory.{read_cell}
use Rattle.sheet.specs.Lists.{among}
use Rattle.sheet.specs.Reads.{wires_named}
use Rattle.sheet.specs.Readings.{body_at}
use Rattle.sheet.specs.Laws.Lists.{among-append}
use Rattle.sheet.specs.Laws.Readings.{every-kind, ◌▸◌, end, operands-counted, run-extent}
use Rattle.sheet.specs.declared.Datum.{Datum}
use Rattle.sheet.specs.declared.Cell.TheVariants.{NotStarted}
use Rattle.sheet_expressions.proofs.Noting.{leaf-counted}
use Rattle.sheet_walk.specs.declared.Place.{Place}
use Rattle.kernel.specs.Values.{truth, IsKnown, known}
use Rattle.kernel.specs.Order.{value_at}
use Rattle.kernel.specs.Instant.{Environment, cell_at}
use Rattle.kernel.specs.Waits.{once_known, left_awaited, wires_awaited}
use Rattle.kernel.proofs.Laws.Switches.{present-awaited as present-equation, reset-awaited as reset-equation}
use Rattle.kernel.proofs.Laws.Waits.{known-passed}
use Rattle.kernel.specs.declared.Value.TheVariants.{Unknown, Known}
use Rattle.leaves.specs.declared.Valued.{Valued}
use Rattle.leaves.specs.Words.{is_seen}
use Rattle.expression.specs.Places.{Placement, Gives}
use Rattle.expression.proofs.Views as Views
use Rattle.expression.proofs.Views.{Operand, Alone, Two, Three, opened, placed, readable, split, own-cell, operand-counted}
use Rattle.expression.proofs.Views.{present-view, reset-view, fby-view}
use Rattle.expression.proofs.Values.{operand_value, Answers, Walked, as_known, as_unknown, by_value, by-walk, walk-behind}
use Rattle.expression.proofs.Giving.{seen-cell, unseen-cell}
use Rattle.waiting.specs.Waiting.{all_awaited, Behind, passed, past, Run, done, more, Counts}

-- a kind whose operands count that are read within the instant, whatever their values: any but present, reset, fby and machine
pub record Strict (kind : ℕ) : Type 0 where
  pub not-present : kind ≡ 13 → ⊥
  pub not-reset : kind ≡ 14 → ⊥
  pub not-fby : kind ≡ 17 → ⊥
  pub not-machine : kind ≡ 19 → ⊥

leaf-strict : {kind : ℕ} → kind < 4 → Strict kind
leaf-strict below =
    record { not-present = λ e. omega arith; not-reset = λ e. omega arith; not-fby = λ e. omega arith; not-machine = λ e. omega arith }

-- what the first operands wait for
module _ (now : Environment) (fresh : Bool) where
  none-awaited : (os : List Expression) (k : ℕ) → [] ≡ all_awaited now fresh (take 0 os) k
  unfolding all_awaited
  none-awaited os k = refl

  one-awaited : (os : List Expression) (k : ℕ) → 1 ≤ length os
      → wires_awaited now fresh (operand os 0) k ≡ all_awaited now fresh (take 1 os) k
  unfolding all_awaited
  one-awaited [] k l = absurd (omega arith)
  one-awaited (a ∷ os) k l = sym (append-nil (wires_awaited now fresh a k))

  two-awaited : (os : List Expression) (k : ℕ) → 2 ≤ length os
      → wires_awaited now fresh (operand os 0) k ++ wires_awaited now fresh (operand os 1) (k + cell_count (operand os 0))
      ≡ all_awaited now fresh (take 2 os) k
  unfolding all_awaited
  two-awaited [] k l = absurd (omega arith)
  two-awaited (a ∷ os) k l = ap (λ ws. wires_awaited now fresh a k ++ ws) (one-awaited os (k + cell_count a) (omega arith))

  three-awaited : (os : List Expression) (k : ℕ) → 3 ≤ length os
      → wires_awaited now fresh (operand os 0) k
      ++ (wires_awaited now fresh (operand os 1) (k + cell_count (operand os 0))
      ++ wires_awaited now fresh (operand os 2) (k + cell_count (operand os 0) + cell_count (operand os 1)))
      ≡ all_awaited now fresh (take 3 os) k
  unfolding all_awaited
  three-awaited [] k l = absurd (omega arith)
  three-awaited (a ∷ os) k l = ap (λ ws. wires_awaited now fresh a k ++ ws) (two-awaited os (k + cell_count a) (omega arith))

  -- what such a kind names itself, and what those operands wait for
  abbrev StrictAwaited : ℕ → Type 0
  StrictAwaited kind = Strict kind → (t : ValueType) (body : ℕ) (os : List Expression)
      → length os ≡ count_of kind → (c k : ℕ) → k ≡ c + cells_of kind
      → wires_awaited now fresh (meaning_of kind t body os) c ≡ wires_named kind body ++ all_awaited now fresh (take (read_count_of kind) os) k

  strict-awaited : (kind : ℕ) → kind < kind_count → StrictAwaited kind
  unfolding wires_awaited meaning_of
  strict-awaited = every-kind StrictAwaited
      (none ▸ none ▸ (λ s t body os e c k i. ap (λ ws. body ∷ ws) (none-awaited os k)) ▸ none
      ▸ one ▸ one ▸ two ▸ two ▸ two ▸ two ▸ two ▸ two ▸ three ▸ (λ s. absurd (s.not-present refl)) ▸ (λ s. absurd (s.not-reset refl))
      ▸ delayed ▸ delayed ▸ (λ s. absurd (s.not-fby refl)) ▸ none ▸ (λ s. absurd (s.not-machine refl)) ▸ end)
    where
      none : {A : Type 0} → A → ValueType → ℕ → (os : List Expression) → length os ≡ 0 → (c k : ℕ) → k ≡ c + 0
          → [] ≡ all_awaited now fresh (take 0 os) k
      none s t body os e c k i = none-awaited os k

      delayed : {A : Type 0} → A → ValueType → ℕ → (os : List Expression) → length os ≡ 1
          → (c k : ℕ) → k ≡ c + 1 → [] ≡ all_awaited now fresh (take 0 os) k
      delayed s t body os e c k i = none-awaited os k

      one : {A : Type 0} → A → ValueType → ℕ → (os : List Expression) → length os ≡ 1 → (c k : ℕ) → k ≡ c + 0
          → wires_awaited now fresh (operand os 0) c ≡ all_awaited now fresh (take 1 os) k
      one s t body os e c k i = let same : k ≡ c = omega arith in rw same (one-awaited os c (omega arith))

      two : {A : Type 0} → A → ValueType → ℕ → (os : List Expression) → length os ≡ 2 → (c k : ℕ) → k ≡ c + 0
          → wires_awaited now fresh (operand os 0) c ++ wires_awaited now fresh (operand os 1) (c + cell_count (operand os 0))
          ≡ all_awaited now fresh (take 2 os) k
      two s t body os e c k i = let same : k ≡ c = omega arith in rw same (two-awaited os c (omega arith))

      three : {A : Type 0} → A → ValueType → ℕ → (os : List Expression) → length os ≡ 3 → (c k : ℕ) → k ≡ c + 0
          → wires_awaited now fresh (operand os 0) c
          ++ (wires_awaited now fresh (operand os 1) (c + cell_count (operand os 0))
          ++ wires_awaited now fresh (operand os 2) (c + cell_count (operand os 0) + cell_count (operand os 1)))
          ≡ all_awaited now fresh (take 3 os) k
      three s t body os e c k i = let same : k ≡ c = omega arith in rw same (three-awaited os c (omega arith))

pub reads-few : (kind : ℕ) → kind < kind_count → read_count_of kind ≤ count_of kind
reads-few = every-kind (λ kind. read_count_of kind ≤ count_of kind)
    (within ▸ within ▸ within ▸ within ▸ within ▸ within ▸ within ▸ within ▸ within
    ▸ within ▸ within ▸ within ▸ within ▸ within ▸ within ▸ fewer ▸ fewer ▸ fewer ▸ within ▸ within ▸ end)
  where
    within : {n : ℕ} → n ≤ n
    within = omega arith

    fewer : {n : ℕ} → n ≤ suc n
    fewer = omega arith

-- the arm that the word of a condition takes
first_taken : (us vs : List ℕ) (word : ℕ) → word ≡ 1 → cond (truth (datum_of (type_of_byte 0) word)) us vs ≡ us
first_taken us vs word e = rw e

second-taken : (us vs : List ℕ) (word : ℕ) → (word ≡ 1 → ⊥) → cond (truth (datum_of (type_of_byte 0) word)) us vs ≡ vs
second-taken us vs word fails = rw (ne_eqb word 1 fails)

module _ {sheet memory words : List ℕ} {bits level asked at cell : ℕ} (p : Placement sheet memory words bits level asked at cell) where
  abbrev kind : ℕ
  kind = get_or sheet at 0

  -- the first of the operands that are left, and those behind them
  record Parted (c d a k : ℕ) (es : List Expression) : Type 0 where
    end : ℕ
    following : ℕ
    run : Run p c a k end following (take c es)
    rest : Behind sheet d end following p.next p.count

  all-behind : (ts : List ℕ) {a k : ℕ} {es : List Expression} → Views.Run p ts a k es → Behind sheet (length ts) a k p.next p.count
  all-behind [] {a} {k} r = let d = Views.done p a k r in rw (d.next, d.count) passed
  all-behind (t ∷ ts) {a} {k} r = let s = split p t ts a k r in past (readable p s.first) (all-behind ts s.rest)

  parted : (ts : List ℕ) {a k : ℕ} {es : List Expression} → Views.Run p ts a k es → (c d : ℕ) → c + d ≡ length ts → Parted c d a k es
  parted ts {a} {k} r zero d e =
      let all : d ≡ length ts = omega arith in record { end = a; following = k; run = done; rest = rw all (all-behind ts r) }
  parted [] r (suc c) d e = absurd (omega arith)
  parted (t ∷ ts) {a} {k} r (suc c) d e =
      let s = split p t ts a k r in
      let later = parted ts s.rest c d (omega arith) in
      record {
        end = later.end;
        following = later.following;
        run = subst (λ (xs : List Expression). Run p (suc c) a k later.end later.following (take (suc c) xs)) (sym s.trees)
            (more t s.first.reads s.first.cells later.run);
        rest = later.rest;
      }

  module _ (fresh : Bool) where
    abbrev pub whole : List ℕ
    whole = wires_awaited p.now fresh p.tree cell

    sized : length (opened p).operands ≡ count_of kind
    sized =
        let o = opened p in
        (run-extent p.inputs p.wires sheet _ (operands_of kind asked) _ _ o.run.reads).sized
        ∙ operands-counted asked kind o.good.kind

    strict-whole : Strict kind → (k : ℕ) → k ≡ cell + cells_of kind
        → whole ≡ wires_named kind (body_at sheet at) ++ all_awaited p.now fresh (take (read_count_of kind) (opened p).operands) k
    strict-whole s k e =
        let o = opened p in
        ap (λ e. wires_awaited p.now fresh e cell) o.tree
        ∙ strict-awaited p.now fresh kind o.good.kind s (type_of_byte asked) (body_at sheet at) o.operands sized cell k e

    -- a leaf waits for what it names
    pub leaf-whole : kind < 4 → whole ≡ wires_named kind (body_at sheet at)
    unfolding all_awaited
    leaf-whole below =
        let none : read_count_of kind ≡ 0 = leaf-counted kind below in
        strict-whole (leaf-strict below) (cell + cells_of kind) refl ∙ rw none (append-nil _)

    pub strict-counts : 4 ≤ kind → Strict kind → {body own operands rest : ℕ} → body ≡ body_of kind → own ≡ cells_of kind
        → operands ≡ read_count_of kind → operands + rest ≡ count_of kind
        → Counts p fresh (record { here = record { at = at + 1 + body; cell = cell + own }; operands = operands; rest = rest; fresh = fresh })
    strict-counts above s {own = own} {operands} {rest} body_is own_is operands-are all =
        let o = opened p in
        let parts = parted (operands_of kind asked) o.run operands rest (all ∙ sym (operands-counted asked kind o.good.kind)) in
        let named : wires_named kind (body_at sheet at) ≡ [] = rw (ne_eqb kind 2 (λ e. omega arith)) in
        let same : whole ≡ all_awaited p.now fresh (take operands o.operands) (cell + own) =
        strict-whole s (cell + own) (ap (λ n. cell + n) own_is) ∙ rw (named, operands-are) in
        record {
          operands = take operands o.operands;
          end = parts.end;
          following = parts.following;
          run = rw (body_is, own_is) parts.run;
          rest = parts.rest;
          same = λ w u. ap (among w) same;
        }

  -- no operand stands behind a place, or one
  pub none-behind : {a k : ℕ} {e : Expression} → Alone p a k e → Behind sheet 0 a k p.next p.count
  none-behind w = rw (w.next, w.count) passed

  pub one-behind : {t a k : ℕ} {e : Expression} (o : Operand p t a k) → Alone p o.next o.count e → Behind sheet 1 a k p.next p.count
  one-behind o w = past (readable p o) (none-behind w)

  -- what an operand waits for under a freshness
  abbrev pub awaits : {t a k : ℕ} → Bool → Operand p t a k → List ℕ
  awaits {k = k} f o = wires_awaited p.now f o.tree k

  -- What the whole waits for, by its operands.
  module _ (fresh : Bool) where
    present-awaited : {t u x a : ℕ} (v : Three p t u x a cell present_of)
        → whole fresh ≡ awaits fresh v.first
        ++ once_known (operand_value p fresh v.first) (λ d. cond (truth d) (awaits fresh v.second) (awaits fresh v.third))
    present-awaited v =
        ap (λ e. wires_awaited p.now fresh e cell) v.ends.tree
        ∙ present-equation p.now fresh v.first.tree v.second.tree v.third.tree cell
        ∙ rw (operand-counted p v.second, operand-counted p v.first)

    reset-awaited : {t u a : ℕ} (v : Two p t u a cell reset_of)
        → whole fresh ≡ awaits fresh v.first ++ once_known (operand_value p fresh v.first) (λ d. awaits (truth d || fresh) v.second)
    reset-awaited v =
        ap (λ e. wires_awaited p.now fresh e cell) v.ends.tree
        ∙ reset-equation p.now fresh v.first.tree v.second.tree cell
        ∙ rw (operand-counted p v.first)

    fby-awaited : {y : ValueType} {t u a : ℕ} (v : Two p t u a (cell + 1) (fby y))
        → whole fresh ≡ left_awaited (awaits fresh v.first) (cond fresh NotStarted (cell_at p.now.memory cell))
    unfolding wires_awaited
    fby-awaited v = ap (λ e. wires_awaited p.now fresh e cell) v.ends.tree ∙ rw add-one

    -- of a known condition nothing counts: what is behind it goes by its datum
    pub behind-known : {t a k : ℕ} (o : Operand p t a k) {d : Datum} → operand_value p fresh o ≡ Known d → (f : Datum → List ℕ) (w : ℕ)
        → value_at p.now.wires w ≡ Unknown → among w (awaits fresh o ++ once_known (operand_value p fresh o) f) ≡ among w (f d)
    behind-known {k = k} o e f w u =
        let h : IsKnown (operand_value p fresh o) = rw e known in
        among-append w (awaits fresh o) _ ∙ rw (known-passed p.now o.tree fresh k h w u, e)

    -- an operand alone counts, and others stand behind it
    pub operand-counts : {t a k n j d : ℕ} {f : Bool} (o : Operand p t a k) → n ≡ a → j ≡ k
        → Behind sheet d o.next o.count p.next p.count
        → ((w : ℕ) → value_at p.now.wires w ≡ Unknown → among w (whole fresh) ≡ among w (awaits f o))
        → Counts p fresh (record { here = record { at = n; cell = j }; operands = 1; rest = d; fresh = f })
    unfolding all_awaited
    operand-counts {t} {f = f} o place number rest same =
        record {
          operands = o.tree ∷ [];
          end = o.next;
          following = o.count;
          run = rw (place, number) (more t o.reads o.cells done);
          rest = rest;
          same = λ w u. same w u ∙ rw number (ap (among w) (sym (append-nil (awaits f o))));
        }

    -- Of an fby the left operand, where its cell is not seen as started.
    module _ (of : kind ≡ 17) where
      seen : cond fresh NotStarted (read_cell (type_of_byte asked) memory cell) ≡ cond fresh NotStarted (cell_at p.now.memory cell)
      seen = ap (cond fresh NotStarted) (own-cell p (omega arith) (omega arith)).reads

      pub fby-counts-none : is_seen fresh memory cell ≡ true
          → Counts p fresh (record { here = record { at = at + 1; cell = cell + 1 }; operands = 0; rest = 2; fresh = fresh })
      unfolding all_awaited
      fby-counts-none started =
          let is = sym seen ∙ seen-cell (type_of_byte asked) fresh memory cell started in
          let v = fby-view p of in
          record {
            operands = [];
            end = at + 1;
            following = cell + 1;
            run = done;
            rest = past (readable p v.first) (one-behind v.second v.ends);
            same = λ x u. ap (among x) (fby-awaited v ∙ rw is);
          }

      pub fby-counts-left : is_seen fresh memory cell ≡ false
          → Counts p fresh (record { here = record { at = at + 1; cell = cell + 1 }; operands = 1; rest = 1; fresh = fresh })
      fby-counts-left unstarted =
          let is = sym seen ∙ unseen-cell (type_of_byte asked) fresh memory cell unstarted in
          let v = fby-view p of in
          operand-counts v.first refl refl (one-behind v.second v.ends) (λ x u. ap (among x) (fby-awaited v ∙ rw is))

    -- Once the condition, the first operand, was valued.
    module _ {c : Option Valued} (hc : Answers p (at + 1) cell fresh c) where
      module _ (of : kind ≡ 13) where
        pub present-counts_condition : c ≡ None
            → Counts p fresh (record { here = record { at = at + 1; cell = cell }; operands = 1; rest = 2; fresh = fresh })
        present-counts_condition unknown =
            let v = present-view p of in
            let is = as_unknown (hc _ (placed p v.first)) unknown in
            operand-counts v.first refl refl (past (readable p v.second) (one-behind v.third v.ends))
            (λ x u. ap (among x) (present-awaited v ∙ rw is (append-nil (awaits fresh v.first))))

        module _ {y : Valued} (there : c ≡ Some y) where
          present_condition : Gives (placed p (present-view p of).first) fresh y.word y.end.at y.end.cell
          present_condition = as_known (hc _ (placed p (present-view p of).first)) there

          pub present-counts-first : y.word ≡ 1
              → Counts p fresh (record { here = y.end; operands = 1; rest = 1; fresh = fresh })
          present-counts-first holds =
              let v = present-view p of in
              let g = present_condition in
              operand-counts v.second g.next g.count (one-behind v.third v.ends) (λ x u.
              ap (among x) (present-awaited v) ∙ (behind-known v.first g.value _ x u ∙ ap (among x) (first_taken _ _ y.word holds)))

          pub present-counts-second : (y.word ≡ 1 → ⊥) → {b : Place} → Walked p y.end.at y.end.cell b
              → Counts p fresh (record { here = b; operands = 1; rest = 0; fresh = fresh })
          present-counts-second fails hb =
              let v = present-view p of in
              let g = present_condition in
              let e = by-walk p v.second (walk-behind p (by_value p g) hb v.second) in
              operand-counts v.third e.next e.count (none-behind v.ends) (λ x u.
              ap (among x) (present-awaited v) ∙ (behind-known v.first g.value _ x u ∙ ap (among x) (second-taken _ _ y.word fails)))

      -- of a reset the operand, which a true condition makes fresh
      module _ (of : kind ≡ 14) where
        pub reset-counts_condition : c ≡ None
            → Counts p fresh (record { here = record { at = at + 1; cell = cell }; operands = 1; rest = 1; fresh = fresh })
        reset-counts_condition unknown =
            let v = reset-view p of in
            let is = as_unknown (hc _ (placed p v.first)) unknown in
            operand-counts v.first refl refl (one-behind v.second v.ends)
            (λ x u. ap (among x) (reset-awaited v ∙ rw is (append-nil (awaits fresh v.first))))

        pub reset-counts-operand : {y : Valued} → c ≡ Some y
            → Counts p fresh (record { here = y.end; operands = 1; rest = 0; fresh = eqb y.word 1 || fresh })
        reset-counts-operand there =
            let v = reset-view p of in
            let g = as_known (hc _ (placed p v.first)) there in
            operand-counts v.second g.next g.count (none-behind v.ends) (λ x u.
            ap (among x) (reset-awaited v) ∙ behind-known v.first g.value _ x u)
