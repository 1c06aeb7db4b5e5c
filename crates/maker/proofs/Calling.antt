-- A sheet that the check passes, with the sets of its map; and the maker's call, by the answer of the check.
use Prim.Native.Nat.{ℕ, ◌≤◌}
use mathlib.Core.Path.{◌≡◌, refl, sym, ap, ◌∙◌}
use mathlib.Core.List.{List}
use native.Mathlib.Omega.{arith}
use lib.ListN.{length, length-map}
use Rattle.sheet.specs.Data.{wire_type}
use Rattle.std.specs.Prelude.{Result}
use Rattle.sheet.specs.Outcomes.{refusal, result, refused_at}
use Rattle.sheet.specs.Sheets.{Sheet, before, sheet_of, check_of}
use Rattle.sheet.specs.Typing.{WellTyped}
use Rattle.sheet.proofs.Laws.Checked.{check_passed}
use Rattle.sheet.specs.Laws.Headers.{SheetRead}
use Rattle.sheet.proofs.Laws.Typing.{passed_check}
use Rattle.sheet.specs.declared.Refusal.{Refusal}
use Rattle.sheet.specs.declared.Counts.{Counts}
use Rattle.sheet_expressions.specs.declared.map.Map.{Map}
use Rattle.sheet_expressions.specs.Map.{Mapped, wires_of, EachHoldsJust}
use Rattle.kernel.specs.Instants.{wire_count, reads_at}
use Rattle.kernel.proofs.Laws.Reads.{reads-of-tree}
use Rattle.maker.specs.Reaching.{reads_of}
use Rattle.maker.specs.Making.{maker_outcome, maker_call}
use Rattle.maker.specs.Placing.{Makes}
use Rattle.std.specs.Prelude.{Ok}
use Rattle.sheet.specs.declared.Refused.{Refused}

pub record Passes (s rows : List ℕ) (wires : ℕ) : Type 0 where
  pub sheet : Sheet
  pub outcome : sheet_of s ≡ result sheet
  pub typed : WellTyped sheet
  pub counted : wire_count sheet ≡ wires
  pub few : wires ≤ 64
  pub held : EachHoldsJust rows wires (reads_of sheet)
  pub room : 64 ≤ length rows

pub passes : (s : List ℕ) {map : Map} (counts : Counts) → check_of s ≡ Ok counts
    → ((sheet : Sheet) (n k : ℕ) (v : SheetRead s sheet n k) → Mapped (wires_of v) map) → Passes s map.reads counts.wires
passes s counts e mapped =
    let p = check_passed s counts e in
    let passed = passed_check s p.outcome in
    let v = p.view in
    let counted : wire_count p.sheet ≡ counts.wires = sym passed.same_length ∙ p.wires-are in
    let sized : length (before s v.wires_end v.wire_count) ≡ counts.wires =
    sym (ap (λ x. length x.wire_types) v.is ∙ length-map (before s v.wires_end v.wire_count) wire_type) ∙ p.wires-are in
    record {
      sheet = p.sheet;
      outcome = p.outcome;
      typed = passed.well_typed_lem;
      counted = counted;
      few = p.few-wires;
      held = λ x l. rw (ap (λ sheet. reads_at sheet.expressions x) v.is, reads-of-tree)
          ((mapped p.sheet p.end counts.cells v).sites.read x (omega arith));
      room = (mapped p.sheet p.end counts.cells v).sites.room;
    }

module _ (s lent : List ℕ) where
  pub make-stopped : {why : Refusal} {place : ℕ} → sheet_of s ≡ refusal why place
      → (refused_at why place ≡ (maker_call s lent).answer) × (lent ≡ (maker_call s lent).list)
  unfolding maker_call maker_outcome
  make-stopped e = rw e (refl, refl)

  pub make-passed : {sheet : Sheet} {answer : Result ℕ Refused} {list : List ℕ} → sheet_of s ≡ result sheet → Makes sheet lent answer list
      → (answer ≡ (maker_call s lent).answer) × (list ≡ (maker_call s lent).list)
  unfolding maker_call maker_outcome
  make-passed e makes = rw e (makes.answers, makes.leaves)
