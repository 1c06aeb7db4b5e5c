-- Wire by wire: the laws of one expression for a list of shifted expressions, and for one list of expressions that follows another.
use Rattle.std.specs.Prelude.{◌≡◌, ℕ, suc, ◌+◌, ◌≤◌, length}
use Rattle.std.proofs.Math.Path.{refl, ap₂}
use Rattle.std.proofs.Common.{ap, arith, length-append}
use Rattle.std.proofs.Math.Nat.{add-zero}
use Rattle.std.proofs.Math.Bool.{false}
use mathlib.Core.List.{List, [], ◌∷◌, ◌++◌, map, append_assoc}
use Rattle.sheet.specs.Data.{ValueType}
use Rattle.sheet.specs.Expressions.{Expression, constant, wire, input, last, unary, binary, conditional, switch, pre, fby, kept}
use Rattle.sheet.specs.Expressions.{cell_forms, cell_count}
use Rattle.sheet.specs.Sheets.{forms_of}
use Rattle.sheet.specs.Typing.{Pairwise, done, ◌then◌, HaveTypes}
use Rattle.sheet.specs.declared.Cell.{Cell}
use Rattle.sheet.specs.declared.Cell.TheVariants.{NotStarted}
use Rattle.sheet.specs.Laws.Readings.{forms_length}
use Rattle.kernel.specs.Instant.{cell_at, Environment}
use Rattle.kernel.specs.Instants.{last_in, lasts_from, values, stored_cells}
use Rattle.join.specs.Joined.{shifted}
use Rattle.join.proofs.Laws.Parts.{Inside, inside-at}
use Rattle.join.proofs.Laws.Shifted.{Within, Sized, shifted_none, shifted_forms, shifted-count, shifted-value, shifted-stored}

abbrev pub cells_of : List Expression → ℕ
cells_of es = length (forms_of es)

-- the cells behind those of the first expression
behind : (e : Expression) (es : List Expression) (k : ℕ) → k + cells_of (e ∷ es) ≡ k + cell_count e + cells_of es
unfolding forms_of
behind e es k = omega (arith, length-append (cell_forms e) (forms_of es), forms_length e)

-- One list after another.
pub forms_append : (es others : List Expression) → forms_of (es ++ others) ≡ forms_of es ++ forms_of others
unfolding forms_of
forms_append [] others = refl
forms_append (e ∷ es) others = simp (forms_append es others, append_assoc)

pub lasts_length : (memory : List Cell) {R : ValueType → Expression → Type 0} {ts : List ValueType} {es : List Expression}
    → Pairwise R ts es → (k : ℕ) → length (lasts_from memory ts es k) ≡ length ts
unfolding lasts_from
lasts_length memory done k = refl
lasts_length memory (◌then◌ {y = e} h hs) k = ap suc (lasts_length memory hs (k + cell_count e))

pub lasts_append : (memory : List Cell) {R : ValueType → Expression → Type 0} {ts : List ValueType} {es : List Expression}
    → Pairwise R ts es → (us : List ValueType) (others : List Expression) (k : ℕ)
    → lasts_from memory (ts ++ us) (es ++ others) k ≡ lasts_from memory ts es k ++ lasts_from memory us others (k + cells_of es)
unfolding lasts_from forms_of
lasts_append memory done us others k = rw add-zero
lasts_append memory (◌then◌ {y = e} {ys = es} h hs) us others k =
    rw (behind e es k, lasts_append memory hs us others (k + cell_count e))

module _ (now : Environment) where
  pub values-append : (es others : List Expression) (k : ℕ)
      → values now (es ++ others) k ≡ values now es k ++ values now others (k + cells_of es)
  unfolding values forms_of
  values-append [] others k = rw add-zero
  values-append (e ∷ es) others k = rw (behind e es k, values-append es others (k + cell_count e))

  pub stored-append : (es others : List Expression) (k : ℕ)
      → stored_cells now (es ++ others) k ≡ stored_cells now es k ++ stored_cells now others (k + cells_of es)
  unfolding stored_cells forms_of
  stored-append [] others k = rw add-zero
  stored-append (e ∷ es) others k =
      rw (behind e es k, stored-append es others (k + cell_count e)) (simp append_assoc)

-- Shifted expressions.
pub wires-none : (es : List Expression) → map (shifted 0 0) es ≡ es
wires-none [] = refl
wires-none (e ∷ es) = ap₂ ◌∷◌ (shifted_none e) (wires-none es)

module _ (wires inputs : ℕ) where
  abbrev moved : List Expression → List Expression
  moved = map (shifted wires inputs)

  pub wires_forms : (es : List Expression) → forms_of (moved es) ≡ forms_of es
  unfolding forms_of
  wires_forms [] = refl
  wires_forms (e ∷ es) = rw (shifted_forms wires inputs e, wires_forms es)

  -- behind the cells of the first of them
  past : (e : Expression) (cells j k : ℕ) → j ≡ cells + k → j + cell_count (shifted wires inputs e) ≡ cells + (k + cell_count e)
  past e cells j k p = omega (arith, shifted-count wires inputs e)

  same-last : (t : ValueType) (e : Expression) (cells : ℕ) (memory whole : List Cell) → Inside cells memory whole → (j k : ℕ)
      → j ≡ cells + k → k + cell_count e ≤ length memory
      → last_in t (shifted wires inputs e) (cell_at whole j) ≡ last_in t e (cell_at memory k)
  unfolding shifted cell_count
  same-last t (constant d) cells memory whole h j k p l = refl
  same-last t (wire w) cells memory whole h j k p l = refl
  same-last t (input i) cells memory whole h j k p l = refl
  same-last t (last w) cells memory whole h j k p l = refl
  same-last t (unary o a) cells memory whole h j k p l = refl
  same-last t (binary o a b) cells memory whole h j k p l = refl
  same-last t (conditional c a b) cells memory whole h j k p l = refl
  same-last t (switch o cs bs) cells memory whole h j k p l = refl
  same-last t (pre d a) cells memory whole h j k p l = refl
  same-last t (fby u a b) cells memory whole h j k p l = refl
  same-last t (kept u a) cells memory whole h j k p l = rw (p, inside-at h k NotStarted (omega arith))

  pub wires_lasts : (cells : ℕ) (memory whole : List Cell) → Inside cells memory whole
      → (ts : List ValueType) (es : List Expression) (j k : ℕ) → j ≡ cells + k → k + cells_of es ≤ length memory
      → lasts_from whole ts (moved es) j ≡ lasts_from memory ts es k
  unfolding lasts_from
  wires_lasts cells memory whole h [] es j k p l = refl
  wires_lasts cells memory whole h (t ∷ ts) [] j k p l = refl
  wires_lasts cells memory whole h (t ∷ ts) (e ∷ es) j k p l =
      let b = behind e es k in
      ap₂ ◌∷◌ (same-last t e cells memory whole h j k p (omega arith))
      (wires_lasts cells memory whole h ts es _ (k + cell_count e) (past e cells j k p) (omega arith))

  module _ (cells : ℕ) (own whole : Environment) (within : Within wires inputs cells own whole)
      (input_types wire_types : List ValueType) (sized : Sized input_types wire_types own) where
    pub wires-values : {ts : List ValueType} {es : List Expression} (j k : ℕ) → HaveTypes input_types wire_types ts es → j ≡ cells + k
        → k + cells_of es ≤ length own.memory → values whole (moved es) j ≡ values own es k
    unfolding values
    wires-values j k done p l = refl
    wires-values j k (◌then◌ {x = t} {y = e} {ys = es} h hs) p l =
        let b = behind e es k in
        ap₂ ◌∷◌ (shifted-value wires inputs cells own whole within input_types wire_types sized t e false j k h p (omega arith))
        (wires-values _ (k + cell_count e) hs (past e cells j k p) (omega arith))

    pub wires-stored : {ts : List ValueType} {es : List Expression} (j k : ℕ) → HaveTypes input_types wire_types ts es → j ≡ cells + k
        → k + cells_of es ≤ length own.memory → stored_cells whole (moved es) j ≡ stored_cells own es k
    unfolding stored_cells
    wires-stored j k done p l = refl
    wires-stored j k (◌then◌ {x = t} {y = e} {ys = es} h hs) p l =
        let b = behind e es k in
        ap₂ ◌++◌ (shifted-stored wires inputs cells own whole within input_types wire_types sized t e false j k h p (omega arith))
        (wires-stored _ (k + cell_count e) hs (past e cells j k p) (omega arith))
