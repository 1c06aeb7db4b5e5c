-- An instant of the joined sheet is the instants of the two joined, and it is accepted exactly if both are.
use Rattle.std.specs.Prelude.{◌≡◌, ℕ, ◌+◌, ◌<◌, max, ◌↔◌, length}
use Rattle.std.proofs.Math.Path.{refl, ap₂}
use Rattle.std.proofs.Common.{sym, ap, ◌∙◌, arith, length-append, get_or-append-add}
use mathlib.Core.List.{List, [], ◌∷◌, ◌++◌, map, map-append}
use Rattle.std.proofs.lemmas.List.{length-map}
use Rattle.std.proofs.Math.ListN.{get_or-append}
use Rattle.sheet.specs.Lists.{Every, none, ◌and◌}
use Rattle.sheet.specs.Sheets.{Sheet, sheet_forms}
use Rattle.sheet.specs.Typing.{WellTyped}
use Rattle.sheet.specs.declared.Datum.{Datum}
use Rattle.sheet.specs.declared.Cell.{Cell}
use Rattle.sheet.proofs.Laws.Memory.{pairwise-length}
use Rattle.kernel.specs.Values.{datum_in}
use Rattle.kernel.specs.Order.{value_at}
use Rattle.kernel.specs.Instant.{Environment}
use Rattle.kernel.specs.Instants.{wire_count, lasts_of, under, round, rounds, finished, next_memory, output_row}
use Rattle.kernel.specs.Systems.{Full, Monotone}
use Rattle.kernel.proofs.Laws.Instants.{round_monotone}
use Rattle.kernel.proofs.Laws.Rounds as Rounds
use Rattle.kernel.specs.declared.Value.{Value}
use Rattle.kernel.specs.declared.Value.TheVariants.{Unknown}
use Rattle.join.specs.Joined.{shifted_numbers, joined}
use Rattle.join.proofs.Laws.Parts.{Inside, first-inside, second-inside}
use Rattle.join.proofs.Laws.Shifted.{Within, Sized}
use Rattle.join.proofs.Laws.Wires.{cells_of, forms_append, lasts_length, lasts_append, values-append, stored-append}
use Rattle.join.proofs.Laws.Wires.{wires-none, wires_forms, wires_lasts, wires-values, wires-stored}
use Rattle.join.proofs.Laws.Systems as Systems

-- the tree of an accepted sheet: each expression has its wire's type, and each output is one of the wires
pub record Sound (sheet : Sheet) : Type 0 where
  pub typed : WellTyped sheet
  pub outputs_named : Every (λ w. w < wire_count sheet) sheet.outputs

-- the lengths that a sheet asks
pub record Asked (sheet : Sheet) (inputs : List Datum) (memory : List Cell) : Type 0 where
  pub of_inputs : length inputs ≡ length sheet.input_types
  pub of_memory : length memory ≡ length (sheet_forms sheet)

-- by how much the wire numbers and the input numbers of a second sheet are raised
abbrev wires_before : Sheet → ℕ
wires_before first = length first.wire_types

abbrev inputs_before : Sheet → ℕ
inputs_before first = length first.input_types

output_first : (xs ys : List Value) (os : List ℕ) → Every (λ w. w < length xs) os
    → map (λ w. datum_in (value_at (xs ++ ys) w)) os ≡ map (λ w. datum_in (value_at xs w)) os
output_first xs ys [] none = refl
output_first xs ys (w ∷ os) (l and ls) = ap₂ ◌∷◌ (ap datum_in (get_or-append xs ys Unknown w l)) (output_first xs ys os ls)

output_second : (n : ℕ) (xs ys : List Value) → length xs ≡ n → (os : List ℕ)
    → map (λ w. datum_in (value_at (xs ++ ys) w)) (shifted_numbers n os) ≡ map (λ w. datum_in (value_at ys w)) os
output_second n xs ys e [] = refl
output_second n xs ys e (w ∷ os) =
    let here : value_at (xs ++ ys) (n + w) ≡ value_at ys w = rw (← e) (get_or-append-add xs ys w Unknown) in
    ap₂ ◌∷◌ (ap datum_in here) (output_second n xs ys e os)

module _ (first second : Sheet) where
  abbrev both : Sheet
  both = joined first second

  pub forms_joined : sheet_forms both ≡ sheet_forms first ++ sheet_forms second
  forms_joined =
      forms_append first.expressions _
      ∙ ap (λ fs. sheet_forms first ++ fs) (wires_forms (wires_before first) (inputs_before first) second.expressions)

  pub count-joined : wire_count both ≡ wire_count first + wire_count second
  count-joined = simp (length-append, length-map)

sized-under : (sheet : Sheet) → Sound sheet → (inputs : List Datum) (memory : List Cell) → Asked sheet inputs memory
    → (xs : List Value) → length xs ≡ wire_count sheet → Sized sheet.input_types sheet.wire_types (under sheet inputs memory xs)
sized-under sheet sound inputs memory asked xs e =
    record {
      of_inputs = asked.of_inputs;
      of_lasts = lasts_length memory sound.typed 0;
      of_wires = e ∙ sym (pairwise-length sound.typed);
    }

module _ (first second : Sheet) (sound₁ : Sound first) (sound₂ : Sound second)
    (inputs₁ inputs₂ : List Datum) (memory₁ memory₂ : List Cell)
    (asked₁ : Asked first inputs₁ memory₁) (asked₂ : Asked second inputs₂ memory₂) where
  abbrev n₁ : ℕ
  n₁ = wire_count first

  abbrev n₂ : ℕ
  n₂ = wire_count second

  abbrev cells : ℕ
  cells = cells_of first.expressions

  abbrev inputs : List Datum
  inputs = inputs₁ ++ inputs₂

  abbrev memory : List Cell
  memory = memory₁ ++ memory₂

  memory_inside : Inside cells memory₂ memory
  memory_inside = second-inside cells memory₁ memory₂ asked₁.of_memory

  lasts_joined : lasts_of (joined first second) memory ≡ lasts_of first memory₁ ++ lasts_of second memory₂
  lasts_joined =
      let one = wires_lasts 0 0 0 memory₁ memory (first-inside memory₁ memory₂) first.wire_types first.expressions 0 0 refl
      (omega (arith, asked₁.of_memory)) in
      let two = wires_lasts (wires_before first) (inputs_before first) cells memory₂ memory memory_inside second.wire_types
      second.expressions (0 + cells) 0 (omega arith) (omega (arith, asked₂.of_memory)) in
      lasts_append memory sound₁.typed second.wire_types _ 0 ∙ ap₂ ◌++◌ (rw (wires-none first.expressions) at one) two

  module _ (xs ys : List Value) (e₁ : length xs ≡ n₁) (e₂ : length ys ≡ n₂) where
    abbrev own₁ : Environment
    own₁ = under first inputs₁ memory₁ xs

    abbrev own₂ : Environment
    own₂ = under second inputs₂ memory₂ ys

    abbrev whole : Environment
    whole = under (joined first second) inputs memory (xs ++ ys)

    sized : length xs ≡ wires_before first
    sized = e₁ ∙ sym (pairwise-length sound₁.typed)

    within₁ : Within 0 0 0 own₁ whole
    within₁ = record {
      on_inputs = first-inside inputs₁ inputs₂;
      on_lasts = rw lasts_joined (first-inside _ _);
      on_memory = first-inside memory₁ memory₂;
      on_wires = first-inside xs ys;
    }

    within₂ : Within (wires_before first) (inputs_before first) cells own₂ whole
    within₂ = record {
      on_inputs = second-inside (inputs_before first) inputs₁ inputs₂ asked₁.of_inputs;
      on_lasts = rw lasts_joined (second-inside (wires_before first) (lasts_of first memory₁) _ (lasts_length memory₁ sound₁.typed 0));
      on_memory = memory_inside;
      on_wires = second-inside (wires_before first) xs ys sized;
    }

    sized₁ : Sized first.input_types first.wire_types own₁
    sized₁ = sized-under first sound₁ inputs₁ memory₁ asked₁ xs e₁

    sized₂ : Sized second.input_types second.wire_types own₂
    sized₂ = sized-under second sound₂ inputs₂ memory₂ asked₂ ys e₂

    round-parts : round (joined first second) inputs memory (xs ++ ys)
        ≡ round first inputs₁ memory₁ xs ++ round second inputs₂ memory₂ ys
    unfolding round
    round-parts =
        let one = wires-values 0 0 0 own₁ whole within₁ first.input_types first.wire_types sized₁ 0 0 sound₁.typed refl
        (omega (arith, asked₁.of_memory)) in
        let two = wires-values (wires_before first) (inputs_before first) cells own₂ whole within₂ second.input_types second.wire_types
        sized₂ (0 + cells) 0 sound₂.typed (omega arith) (omega (arith, asked₂.of_memory)) in
        values-append whole first.expressions _ 0 ∙ ap₂ ◌++◌ (rw (wires-none first.expressions) at one) two

    memory_parts : next_memory (joined first second) inputs memory (xs ++ ys)
        ≡ next_memory first inputs₁ memory₁ xs ++ next_memory second inputs₂ memory₂ ys
    unfolding next_memory
    memory_parts =
        let one = wires-stored 0 0 0 own₁ whole within₁ first.input_types first.wire_types sized₁ 0 0 sound₁.typed refl
        (omega (arith, asked₁.of_memory)) in
        let two = wires-stored (wires_before first) (inputs_before first) cells own₂ whole within₂ second.input_types second.wire_types
        sized₂ (0 + cells) 0 sound₂.typed (omega arith) (omega (arith, asked₂.of_memory)) in
        stored-append whole first.expressions _ 0 ∙ ap₂ ◌++◌ (rw (wires-none first.expressions) at one) two

    outputs-parts : output_row (joined first second) (xs ++ ys) ≡ output_row first xs ++ output_row second ys
    unfolding output_row
    outputs-parts =
        simp map-append
        (ap₂ ◌++◌ (output_first xs ys first.outputs (rw e₁ sound₁.outputs_named))
        (output_second (wires_before first) xs ys sized second.outputs))

  -- The whole instant.
  abbrev next₁ : List Value → List Value
  next₁ = round first inputs₁ memory₁

  abbrev next₂ : List Value → List Value
  next₂ = round second inputs₂ memory₂

  abbrev next : List Value → List Value
  next = round (joined first second) inputs memory

  system₁ : Monotone n₁ next₁
  system₁ = round_monotone first inputs₁ memory₁

  system₂ : Monotone n₂ next₂
  system₂ = round_monotone second inputs₂ memory₂

  system : Monotone (n₁ + n₂) next
  system = rw (count-joined first second) at (round_monotone (joined first second) inputs memory)

  side_by_side : Systems.SideBySide n₁ n₂ next₁ next₂ next
  unfolding Systems.SideBySide
  side_by_side = round-parts

  abbrev finished₁ : List Value
  finished₁ = finished first inputs₁ memory₁

  abbrev finished₂ : List Value
  finished₂ = finished second inputs₂ memory₂

  counted₁ : length finished₁ ≡ n₁
  unfolding finished
  counted₁ = Rounds.finished-length n₁ next₁ system₁

  counted₂ : length finished₂ ≡ n₂
  unfolding finished
  counted₂ = Rounds.finished-length n₂ next₂ system₂

  -- its rounds are the larger count, no wire is left unknown exactly if none is in both, and all that it comes to is theirs joined
  pub record InstantJoined : Type 0 where
    pub counts : rounds (joined first second) inputs memory ≡ max (rounds first inputs₁ memory₁) (rounds second inputs₂ memory₂)
    pub values : finished (joined first second) inputs memory ≡ finished₁ ++ finished₂
    pub full : Full (wire_count (joined first second)) (finished (joined first second) inputs memory)
        ↔ (Full n₁ finished₁ × Full n₂ finished₂)
    pub outputs : output_row (joined first second) (finished₁ ++ finished₂) ≡ output_row first finished₁ ++ output_row second finished₂
    pub stores : next_memory (joined first second) inputs memory (finished₁ ++ finished₂)
        ≡ next_memory first inputs₁ memory₁ finished₁ ++ next_memory second inputs₂ memory₂ finished₂

  finished-joined : finished (joined first second) inputs memory ≡ finished₁ ++ finished₂
  unfolding finished
  finished-joined = rw (count-joined first second) (Systems.finished-joined n₁ n₂ next₁ next₂ next system₁ system₂ system side_by_side)

  rounds_joined : rounds (joined first second) inputs memory ≡ max (rounds first inputs₁ memory₁) (rounds second inputs₂ memory₂)
  unfolding rounds
  rounds_joined = rw (count-joined first second) (Systems.rounds_joined n₁ n₂ next₁ next₂ next system₁ system₂ system side_by_side)

  pub instant_joined : InstantJoined
  instant_joined =
      record {
        counts = rounds_joined;
        values = finished-joined;
        full = rw (count-joined first second, finished-joined) (Systems.full-joined n₁ n₂ finished₁ finished₂ counted₁ counted₂);
        outputs = outputs-parts finished₁ finished₂ counted₁ counted₂;
        stores = memory_parts finished₁ finished₂ counted₁ counted₂;
      }
