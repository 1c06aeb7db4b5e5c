-- How the tests of the buffers make the outcome of the checks.
use Prim.Native.Nat.{ℕ, ◌+◌, ◌*◌, ◌-◌}
use mathlib.Core.Path.{◌≡◌, refl, ◌∙◌}
use mathlib.Core.Bool.{Bool, true, false, cond}
use mathlib.Core.List.{List, map}
use lib.Dec.{eqb}
use lib.ListN.{length, take, drop}
use Rattle.sheet.specs.Data.{type_of_byte}
use Rattle.sheet.specs.Outcomes.{Outcome, refusal, result, refused_at, done_of, followed_by}
use Rattle.sheet.specs.Sheets.{Sheet, sheet_forms, sheet_of, check_of}
use Rattle.sheet.specs.Memory.{memory_of}
use Rattle.sheet.specs.Rows.{inputs_of}
use Rattle.sheet.proofs.Laws.Checked.{check_refused, CheckPassed}
use Rattle.sheet.specs.Laws.Lists.{never}
use Rattle.sheet.specs.Laws.Outcomes.{refused-parts}
use Rattle.sheet.specs.declared.Datum.{Datum}
use Rattle.sheet.specs.declared.Cell.{Cell}
use Rattle.std.specs.Prelude.{Ok, Err}
use Rattle.sheet.specs.declared.Refused.{Refused}
use Rattle.sheet.specs.declared.Refusal.{Refusal}
use Rattle.sheet.specs.declared.Refusal.TheVariants.{OutputLength}
use Rattle.kernel.specs.Calls.{Given, given_of}
use Rattle.buffers.specs.Tests.{Tested, and_tested, buffers_tested}

-- the tests by these counts are those of the sheet
pub own-tests : {s : List ℕ} {i w o k : ℕ} (p : CheckPassed s i w o k) (memory input output : List ℕ)
    → let sheet = p.sheet in
    buffers_tested (sheet_forms sheet) (map type_of_byte (take (1 + i - 1) (drop 1 s))) o memory input output
    ≡ buffers_tested (sheet_forms sheet) sheet.input_types (length sheet.outputs) memory input output
own-tests p memory input output = rw (p.types, p.outputs-are)

-- what the tests of the buffers say of the outcome of the checks, once 1 to 11 are passed
pub data Tells (sheet : Sheet) (o : Outcome Given) : Tested → Type 0 where
  refuses : {why : Refusal} {place : ℕ} → o ≡ refusal why place → Tells sheet o (refused_at why place)
  grants : (given : Given) → o ≡ result given → given.sheet ≡ sheet → Tells sheet o (Ok tt)

module _ (s memory input output : List ℕ) where
  pub sheet-refused : {why : Refusal} {place : ℕ} → check_of s ≡ refused_at why place → given_of s memory input output ≡ refusal why place
  unfolding given_of
  sheet-refused e = rw (check_refused s e)

  module _ {sheet : Sheet} (e : sheet_of s ≡ result sheet) where
    abbrev pub buffers : Tested
    buffers = buffers_tested (sheet_forms sheet) sheet.input_types (length sheet.outputs) memory input output

    abbrev tests : Outcome (List Cell) → Outcome (List Datum) → Bool → Tested
    tests m i t = and_tested (done_of m) (and_tested (done_of i) (cond t (Ok tt) (refused_at OutputLength 0)))

    pub buffers_tell : Tells sheet (given_of s memory input output) buffers
    unfolding given_of
    buffers_tell =
        rw e (go (memory_of (sheet_forms sheet) memory) (inputs_of sheet.input_types input)
        (eqb (length output) (4 * length sheet.outputs)))
      where
        go : (m : Outcome (List Cell)) (i : Outcome (List Datum)) (t : Bool)
            → Tells sheet (followed_by m (λ cells. followed_by i (λ inputs.
            cond t (result (record { sheet = sheet; inputs = inputs; memory = cells })) (refusal OutputLength 0)))) (tests m i t)
        go (refusal w p) i t = refuses refl
        go (result c) (refusal w p) t = refuses refl
        go (result c) (result d) true = grants _ refl refl
        go (result c) (result d) false = refuses refl

    pub buffers_refused : {r : Refused} → buffers ≡ Err r → given_of s memory input output ≡ refusal r.why r.place
    buffers_refused {r} h = go buffers_tell h
      where
        go : {x : Tested} → Tells sheet (given_of s memory input output) x → x ≡ Err r
            → given_of s memory input output ≡ refusal r.why r.place
        go (refuses f) h = let (why-is, place_is) = refused-parts h in f ∙ rw (why-is, place_is)
        go (grants given f is) h = never (cc)

    pub buffers_passed : {u : Unit {0}} → buffers ≡ Ok u → (given : Given) × (given_of s memory input output ≡ result given) × (given.sheet ≡ sheet)
    buffers_passed {u} h = go buffers_tell h
      where
        go : {x : Tested} → Tells sheet (given_of s memory input output) x → x ≡ Ok u
            → (given : Given) × (given_of s memory input output ≡ result given) × (given.sheet ≡ sheet)
        go (refuses f) h = never (cc)
        go (grants given f is) h = (given, f, is)
