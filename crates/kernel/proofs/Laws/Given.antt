-- What an instant works on once 1 to 16 are passed, check by check; it does not go by what the output row holds.
use Rattle.std.specs.Prelude.{◌≡◌, ℕ, ◌*◌, List, length}
use Rattle.std.proofs.Common.{sym, ap, subst, ◌∙◌, eq-eqb}
use Rattle.sheet.specs.Outcomes.{result}
use Rattle.sheet.specs.Sheets.{Sheet, sheet_forms, sheet_of}
use Rattle.sheet.specs.Memory.{memory_of}
use Rattle.sheet.specs.Rows.{inputs_of}
use Rattle.sheet.specs.Laws.Outcomes.{same-result, length-passed, followed}
use Rattle.kernel.specs.Calls.{Given, given_of}

pub record GivenBy (s memory input output : List ℕ) (given : Given) : Type 0 where
  pub sheet : sheet_of s ≡ result given.sheet
  pub cells : memory_of (sheet_forms given.sheet) memory ≡ result given.memory
  pub inputs : inputs_of given.sheet.input_types input ≡ result given.inputs
  pub outputs : length output ≡ 4 * length given.sheet.outputs

pub given_by : (s memory input output : List ℕ) (given : Given) → given_of s memory input output ≡ result given
    → GivenBy s memory input output given
unfolding given_of
given_by s memory input output given e =
    let (sheet, e₁, e₂) = followed (sheet_of s) _ e in
    let (cells, e₃, e₄) = followed (memory_of (sheet_forms sheet) memory) _ e₂ in
    let (inputs, e₅, e₆) = followed (inputs_of sheet.input_types input) _ e₄ in
    let (sized, e₇) = length-passed _ (length output) (4 * length sheet.outputs) _ e₆ in
    subst (GivenBy s memory input output) (same-result e₇) (record { sheet = e₁; cells = e₃; inputs = e₅; outputs = sized })

pub by-given : {s memory input output : List ℕ} {given : Given} → GivenBy s memory input output given
    → given_of s memory input output ≡ result given
unfolding given_of
by-given {output = output} {given} g =
    rw g.sheet
    (rw g.cells (rw g.inputs (rw (eq-eqb (length output) (4 * length given.sheet.outputs) g.outputs))))

-- of the output row only the length counts
pub given-row : (s memory input output other : List ℕ) → length output ≡ length other
    → given_of s memory input output ≡ given_of s memory input other
unfolding given_of
given-row s memory input output other sized = rw sized

pub given-same : (s memory input output other : List ℕ) (given second : Given)
    → given_of s memory input output ≡ result given → given_of s memory input other ≡ result second → given ≡ second
given-same s memory input output other given second e f =
    let g = given_by s memory input output given e in
    let h = given_by s memory input other second f in
    let sheet : second.sheet ≡ given.sheet = cc in
    let sized : length output ≡ length other =
    g.outputs ∙ ap (λ (x : Sheet). 4 * length x.outputs) (sym sheet) ∙ sym h.outputs in
    same-result (sym e ∙ given-row s memory input output other sized ∙ f)
