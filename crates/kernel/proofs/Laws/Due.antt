-- Which wires a round need not work out: where the values grow, an unknown wire is due only when it reads one that has just become known.
use Rattle.std.specs.Prelude.{ℕ, zero, suc, ◌+◌, ◌≡◌, refl, true, List, [], ◌∷◌, eqb}
use Rattle.std.proofs.Common.{sym, ◌∙◌, eq-eqb}
use Rattle.std.proofs.Math.Bool.{or-true}
use Rattle.sheet.specs.Expressions.{Expression, cell_count}
use Rattle.sheet.specs.Lists.{among, Every, none, ◌and◌}
use Rattle.sheet.specs.Reads.{inputs_read}
use Rattle.sheet.specs.Sheets.{Sheet}
use Rattle.sheet.specs.Laws.Lists.{every}
use Rattle.sheet.specs.declared.Cell.{Cell}
use Rattle.sheet.specs.declared.Datum.{Datum}
use Rattle.kernel.specs.Order.{◌⊑◌, unknown, same, ◌⊑*◌, value_at}
use Rattle.kernel.specs.Instant.{input_at}
use Rattle.kernel.specs.Instants.{reads_at, under, round}
use Rattle.kernel.proofs.Laws.Agreement.{equality_respected}
use Rattle.kernel.proofs.Laws.Instants.{AgreeOn, wire-related, round-at}
use Rattle.kernel.specs.declared.Value.{Value}
use Rattle.kernel.specs.declared.Value.TheVariants.{Unknown}

each-among : {P : ℕ → Type 0} (xs : List ℕ) → ((x : ℕ) → among x xs ≡ true → P x) → Every P xs
unfolding among
each-among [] h = none
each-among (x ∷ xs) h = h x (rw (eq-eqb x x refl)) and each-among xs (λ y m. h y (rw m (or-true (eqb y x))))

-- two lists of values that agree on what a wire's expression reads agree on all that its value goes by
agree_on : (sheet : Sheet) (inputs : List Datum) (memory : List Cell) (xs ys : List Value) (es : List Expression) (k w : ℕ)
    → Every (λ x. value_at xs x ≡ value_at ys x) (reads_at es w)
    → AgreeOn ◌≡◌ equality_respected (under sheet inputs memory xs) (under sheet inputs memory ys) es k w
unfolding AgreeOn reads_at
agree_on sheet inputs memory xs ys [] k w h = tt
agree_on sheet inputs memory xs ys (e ∷ es) k zero h =
    record {
      on_wires = h;
      on_inputs = every (λ i. input_at inputs i ≡ input_at inputs i) (λ i. refl) (inputs_read e);
      on_lasts = refl;
      on_cells = λ j l m. refl;
    }
agree_on sheet inputs memory xs ys (e ∷ es) k (suc w) h = agree_on sheet inputs memory xs ys es (k + cell_count e) w h

module _ (sheet : Sheet) (inputs : List Datum) (memory : List Cell) where
  -- a wire keeps its value where the wires that it reads do
  pub round_depends : (xs ys : List Value) (w : ℕ) → Every (λ x. value_at xs x ≡ value_at ys x) (reads_at sheet.expressions w)
      → value_at (round sheet inputs memory xs) w ≡ value_at (round sheet inputs memory ys) w
  round_depends xs ys w h =
      round-at sheet inputs memory xs w
      ∙ wire-related ◌≡◌ equality_respected (under sheet inputs memory xs) (under sheet inputs memory ys) sheet.expressions 0 w
      (agree_on sheet inputs memory xs ys sheet.expressions 0 w h)
      ∙ sym (round-at sheet inputs memory ys w)

  -- after a round that made the values grow, a wire that is unknown and reads none of those which became known stays unknown in the next
  pub rests-unknown : (xs : List Value) → let next = round sheet inputs memory in
      xs ⊑* next xs → (w : ℕ) → value_at (next xs) w ≡ Unknown
      → ((x : ℕ) → among x (reads_at sheet.expressions w) ≡ true → value_at xs x ≡ Unknown → value_at (next xs) x ≡ Unknown)
      → value_at (next (next xs)) w ≡ Unknown
  rests-unknown xs grows w left none-new =
      let next = round sheet inputs memory in
      let read : (x : ℕ) → among x (reads_at sheet.expressions w) ≡ true → value_at xs x ≡ value_at (next xs) x =
      λ x a. alike (grows.at x) (none-new x a) in
      sym (round_depends xs (next xs) w (each-among (reads_at sheet.expressions w) read)) ∙ left
    where
      alike : {u v : Value} → u ⊑ v → (u ≡ Unknown → v ≡ Unknown) → u ≡ v
      alike unknown h = sym (h refl)
      alike same h = refl
