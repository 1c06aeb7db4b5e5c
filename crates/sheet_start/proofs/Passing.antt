-- A sheet that the check passes, with the cells that it noted; and the start's call.
use Prim.Native.Nat.{ℕ, ◌*◌}
use mathlib.Core.Path.{◌≡◌, refl, sym, ap, ◌∙◌}
use mathlib.Core.Bool.{Bool, true, false, cond}
use mathlib.Core.List.{List}
use lib.Dec.{eqb}
use lib.ListN.{length}
use Rattle.sheet.specs.Outcomes.{refusal, result, holds_after, done_of}
use Rattle.sheet.specs.declared.Counts.{Counts}
use Rattle.sheet.specs.Sheets.{Sheet, forms_of, sheet_forms, sheet_of, check_of}
use Rattle.sheet.specs.Memory.{memory_bytes, start_memory, start_outcome, start_call}
use Rattle.sheet.proofs.Laws.Checked.{check_passed}
use Rattle.sheet.specs.Laws.Headers.{SheetRead}
use Rattle.sheet.specs.declared.Refusal.{Refusal}
use Rattle.sheet.specs.declared.Refusal.TheVariants.{MemoryLength}
use Rattle.sheet_expressions.specs.Map.{Mapped, wires_of}
use Rattle.sheet_expressions.specs.declared.map.Map.{Map}
use Rattle.sheet_start.specs.Owners.{Noted, Starts}
use Rattle.sheet.specs.Outcomes.{refused_at}
use Rattle.sheet.specs.declared.Refused.{Refused}
use Rattle.std.specs.Prelude.{Ok}
use Rattle.std.specs.Prelude.{Result}

-- what a sheet that passes the check with so many cells has, where they were noted
pub record Passes (s entries : List ℕ) (count : ℕ) : Type 0 where
  pub sheet : Sheet
  pub outcome : sheet_of s ≡ result sheet
  pub noted : Noted s entries count
  pub same : noted.forms ≡ sheet_forms sheet

pub passes : (s : List ℕ) {map : Map} (counts : Counts) → check_of s ≡ Ok counts
    → ((sheet : Sheet) (n k : ℕ) (v : SheetRead s sheet n k) → Mapped (wires_of v) map)
    → Passes s map.cells counts.cells
passes s counts e mapped =
    let p = check_passed s counts e in
    let v = p.view in
    let same : forms_of v.expressions ≡ sheet_forms p.sheet = sym (ap sheet_forms v.is) in
    record {
      sheet = p.sheet;
      outcome = p.outcome;
      noted = record {
        forms = forms_of v.expressions;
        few = p.few-cells;
        counted = sym (ap length same ∙ p.cells_are);
        noted = (mapped p.sheet p.end counts.cells v).cell;
      };
      same = same;
    }

-- the start's call, case by case
module _ (s memory : List ℕ) where
  pub start-stopped : {why : Refusal} {place : ℕ} → sheet_of s ≡ refusal why place
      → (refused_at why place ≡ (start_call s memory).answer) × (memory ≡ (start_call s memory).memory)
  unfolding start_call start_outcome
  start-stopped e = rw e (refl, refl)

  pub start-passed : {sheet : Sheet} {answer : Result (Unit {0}) Refused} {after : List ℕ} → sheet_of s ≡ result sheet
      → Starts (sheet_forms sheet) memory answer after
      → (answer ≡ (start_call s memory).answer) × (after ≡ (start_call s memory).memory)
  unfolding start_call start_outcome
  start-passed {sheet} e starts =
      let both = go (eqb (length memory) (5 * length (sheet_forms sheet))) (memory_bytes (start_memory (sheet_forms sheet))) in
      rw e (starts.answers ∙ both.0, starts.holds ∙ both.1)
    where
      go : (fits : Bool) (bytes : List ℕ) →
          let outcome = cond fits (result bytes) (refusal MemoryLength 0) in
          (cond fits (Ok tt) (refused_at MemoryLength 0) ≡ done_of outcome) × (cond fits bytes memory ≡ holds_after outcome (λ x. x) memory)
      go true bytes = (refl, refl)
      go false bytes = (refl, refl)
