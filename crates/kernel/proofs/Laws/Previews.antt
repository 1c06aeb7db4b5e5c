-- A preview and then the instant in rounds on the same things, document 02, K3: what the two answer and leave, from what each of
-- them promises.
use Rattle.std.specs.Prelude.{Ok, ◌≡◌, ℕ, List, length}
use Rattle.sheet.specs.Outcomes.{refused_at, Outcome, refusal, result, followed_by, holds_after}
use Rattle.std.proofs.Math.Path.{refl, sym}
use Rattle.std.proofs.Common.{◌∙◌}
use Rattle.sheet.specs.Laws.Lists.{never}
use Rattle.sheet.specs.declared.Refusal.{Refusal}
use Rattle.kernel.specs.Calls.{given_of, Accepted, in_rounds, rounds_answer, rounds_call, Shows, Leaves}
use Rattle.kernel.proofs.Laws.Given.{given-row}
use Rattle.kernel.specs.Answers.{InRounds}

-- the same answer; where it is accepted, the same row; and where it is refused, memory and rows as they were
pub record PreviewAgrees (preview instant : InRounds) (memory shown output newMemory newShown newOutput : List ℕ) : Type 0 where
  pub same : preview ≡ instant
  pub rows : (rounds : ℕ) → instant ≡ Ok rounds → newShown ≡ newOutput
  pub refused : (why : Refusal) (place : ℕ) → instant ≡ refused_at why place
      → (newMemory ≡ memory) × (newShown ≡ shown) × (newOutput ≡ output)

-- whatever two output rows of one length held
module _ (s memory input shown output : List ℕ) (sized : length shown ≡ length output) {preview instant : InRounds}
    {newMemory newShown newOutput : List ℕ} where
  pub preview_agrees : Shows (rounds_call s memory input shown) preview newShown
      → Leaves (rounds_call s memory input output) instant newMemory newOutput
      → PreviewAgrees preview instant memory shown output newMemory newShown newOutput
  unfolding rounds_call
  preview_agrees p i =
      let e : given_of s memory input shown ≡ given_of s memory input output = given-row s memory input shown output sized in
      let o = followed_by (given_of s memory input output) in_rounds in
      let answered = sym i.answers in
      record {
        same = p.answers ∙ rw e answered;
        rows = λ rounds a. p.writes ∙ rw e (same_row rounds o (answered ∙ a)) ∙ sym i.writes;
        refused = λ why place a. let (kept, first, second) = untouched why place o (answered ∙ a) in
            (i.stores ∙ kept, p.writes ∙ rw e first, i.writes ∙ second);
      }
    where
      same_row : (rounds : ℕ) (x : Outcome Accepted) → rounds_answer x ≡ Ok rounds
          → holds_after x (λ a. a.output) shown ≡ holds_after x (λ a. a.output) output
      same_row rounds (refusal why place) a = never (cc)
      same_row rounds (result accepted) a = refl

      untouched : (why : Refusal) (place : ℕ) (x : Outcome Accepted) → rounds_answer x ≡ refused_at why place
          → (holds_after x (λ a. a.memory) memory ≡ memory) × (holds_after x (λ a. a.output) shown ≡ shown)
          × (holds_after x (λ a. a.output) output ≡ output)
      untouched why place (refusal w p) a = (refl, refl, refl)
      untouched why place (result accepted) a = never (cc)
