-- The laws of expressions, for the round of a whole sheet: it is monotone, goes by what its expressions read, and is known where
-- their wires_read are.
use Rattle.std.specs.Prelude.{◌≡◌, length, take}
use Rattle.std.proofs.Math.Path.{refl, ap}
use Prim.Native.Nat.{ℕ, zero, suc, ◌+◌, ◌<◌}
use Rattle.std.proofs.Common.{add-zero, arith, length-append}
use Rattle.std.proofs.Math.Bool.{false}
use mathlib.Core.List.{List, [], ◌∷◌}
use Rattle.kernel.specs.Values.{IsKnown}
use Rattle.kernel.specs.Order.{◌⊑◌, unknown, ◌⊑*◌, value_at}
use Rattle.sheet.specs.Lists.{Every}
use Rattle.kernel.specs.Instant.{Environment, value}
use Rattle.sheet.specs.Expressions.{Expression, cell_forms, cell_count}
use Rattle.sheet.specs.Sheets.{Sheet, forms_of, expression_at, cells_before}
use Rattle.sheet.specs.Laws.Readings.{forms_length}
use Rattle.sheet.specs.declared.Cell.{Cell}
use Rattle.sheet.specs.Reads.{wires_read, inputs_read}
use Rattle.kernel.specs.Instants.{wire_count, reads_at, value_of_wire, values, under, round}
use Rattle.kernel.specs.Systems.{Monotone}
use Rattle.kernel.proofs.Laws.Agreement.{Agree, Respected, related, value_grows}
use Rattle.kernel.proofs.Laws.Knowing.{value-known}
use Rattle.sheet.specs.declared.Datum.{Datum}
use Rattle.kernel.specs.declared.Value.{Value}
use Rattle.kernel.specs.declared.Value.TheVariants.{Unknown}

-- the cells behind those of the first expression
pub behind-first : (e : Expression) (es : List Expression) (k w : ℕ)
    → k + cells_before (e ∷ es) (suc w) ≡ k + cell_count e + cells_before es w
unfolding forms_of
behind-first e es k w = omega (arith, length-append (cell_forms e) (forms_of (take w es)), forms_length e)

-- the value of a wire, by its expression and the number of its first cell
pub value-of-wire : (now : Environment) (es : List Expression) (k w : ℕ) → w < length es
    → value_of_wire now es k w ≡ value now false (expression_at es w) (k + cells_before es w)
unfolding value_of_wire forms_of
value-of-wire now [] k w l = absurd (omega arith)
value-of-wire now (e ∷ es) k zero l = rw add-zero
value-of-wire now (e ∷ es) k (suc w) l = rw (behind-first e es k w) (value-of-wire now es (k + cell_count e) w (omega arith))

-- Wire by wire, over the expressions in wire order.
module _ (now : Environment) where
  pub values-at : (es : List Expression) (k w : ℕ) → value_at (values now es k) w ≡ value_of_wire now es k w
  unfolding values value_of_wire
  values-at [] k w = refl
  values-at (e ∷ es) k zero = refl
  values-at (e ∷ es) k (suc w) = values-at es (k + cell_count e) w

  pub values_length : (es : List Expression) (k : ℕ) → length (values now es k) ≡ length es
  unfolding values
  values_length [] k = refl
  values_length (e ∷ es) k = ap suc (values_length es (k + cell_count e))

  pub wire-known : (es : List Expression) (k w : ℕ) → w < length es → Every (λ x. IsKnown (value_at now.wires x)) (reads_at es w)
      → IsKnown (value_of_wire now es k w)
  unfolding value_of_wire reads_at
  wire-known [] k w l h = absurd (omega arith)
  wire-known (e ∷ es) k zero l h = value-known now e false k h
  wire-known (e ∷ es) k (suc w) l h = wire-known es (k + cell_count e) w (omega arith) h

pub wire-grows : (s t : Environment) → s.inputs ≡ t.inputs → s.lasts ≡ t.lasts → s.memory ≡ t.memory → s.wires ⊑* t.wires
    → (es : List Expression) (k w : ℕ) → value_of_wire s es k w ⊑ value_of_wire t es k w
unfolding value_of_wire
wire-grows s t i n m h [] k w = unknown
wire-grows s t i n m h (e ∷ es) k zero = value_grows s t i n m h e false k
wire-grows s t i n m h (e ∷ es) k (suc w) = wire-grows s t i n m h es (k + cell_count e) w

-- two environments agree on what the wire's expression wires_read, names and owns
module _ (R : Value → Value → Type 0) (respected : Respected R) (s t : Environment) where
  unfoldable pub AgreeOn : List Expression → ℕ → ℕ → Type 0
  AgreeOn [] k w = Unit {0}
  AgreeOn (e ∷ es) k zero = Agree R s t (wires_read e) (inputs_read e) k (cell_count e)
  AgreeOn (e ∷ es) k (suc w) = AgreeOn es (k + cell_count e) w

  pub wire-related : (es : List Expression) (k w : ℕ) → AgreeOn es k w
      → R (value_of_wire s es k w) (value_of_wire t es k w)
  unfolding AgreeOn value_of_wire
  wire-related [] k w h = respected.reflexive Unknown
  wire-related (e ∷ es) k zero h = related R respected s t e false k h
  wire-related (e ∷ es) k (suc w) h = wire-related es (k + cell_count e) w h

-- The whole sheet.
module _ (sheet : Sheet) (inputs : List Datum) (memory : List Cell) where
  pub round-at : (xs : List Value) (w : ℕ)
      → value_at (round sheet inputs memory xs) w ≡ value_of_wire (under sheet inputs memory xs) sheet.expressions 0 w
  unfolding round
  round-at xs w = values-at (under sheet inputs memory xs) sheet.expressions 0 w

  pub round_monotone : Monotone (wire_count sheet) (round sheet inputs memory)
  unfolding round
  round_monotone = record { sized = λ xs. values_length (under sheet inputs memory xs) sheet.expressions 0; grows = grows }
    where
      grows : (xs ys : List Value) → xs ⊑* ys → round sheet inputs memory xs ⊑* round sheet inputs memory ys
      grows xs ys h =
          let wire = wire-grows (under sheet inputs memory xs) (under sheet inputs memory ys) refl refl refl h sheet.expressions 0 in
          record { at = λ w. rw (round-at xs w, round-at ys w) (wire w) }

  pub round-known : (w : ℕ) → w < wire_count sheet → (xs : List Value)
      → Every (λ x. IsKnown (value_at xs x)) (reads_at sheet.expressions w) → IsKnown (value_at (round sheet inputs memory xs) w)
  round-known w l xs h = rw (round-at xs w) (wire-known (under sheet inputs memory xs) sheet.expressions 0 w l h)
