-- The finished values of what is granted, held by a set of wires and their words: where all are known they are settled, so that the next
-- memory can be stored, and the words make the output row.
use Rattle.std.specs.Prelude.{ℕ, ◌*◌, ◌≡◌, List, length}
use Rattle.std.proofs.Common.{sym, ap, subst, ◌∙◌, arith}
use Rattle.sheet.specs.Rows.{row_bytes}
use Rattle.kernel.specs.Systems.{Full}
use Rattle.kernel.specs.Instants.{output_row}
use Rattle.kernel.specs.Calls.{Given}
use Rattle.kernel.proofs.Laws.Memory.{finished-typed}
use Rattle.kernel.proofs.Laws.Solutions.{finished_solution}
use Rattle.kernel.proofs.Laws.Demands.{given_finished}
use Rattle.leaves.specs.Words.{fixed_words}
use Rattle.rounds.specs.Running.{Holds, RunningUnder}
use Rattle.rounds.specs.Settled.{Settled}
use Rattle.rounds.specs.Outputs.{Below, words_of, output_words}
use Rattle.given.specs.Grants.{Granted}

module _ {s memory input output places firsts reads start types outputs : List ℕ}
    (g : Granted s memory input output places firsts reads start types outputs) where
  abbrev pub given : Given
  given = g.running.given

  abbrev pub HoldsFinished : ℕ → List ℕ → Type 0
  HoldsFinished bits words = Holds (length types) (fixed_words start) bits words (given_finished given)

  abbrev pub FullFinished : Type 0
  FullFinished = Full (length types) (given_finished given)

  abbrev pub under-finished : {bits : ℕ} {words : List ℕ} → HoldsFinished bits words
      → RunningUnder s memory (fixed_words start) types places firsts bits words
  under-finished h =
      let r = g.running in
      record {
        running = r;
        values = given_finished given;
        holds = h;
        typed = finished-typed given.sheet given.inputs given.memory r.well_typed r.valid_inputs r.valid_memory;
      }

  abbrev pub settled : {bits : ℕ} {words : List ℕ} → HoldsFinished bits words → FullFinished → Settled s memory types places firsts words
  settled {bits} h full =
      record {
        row = fixed_words start;
        bits = bits;
        under = under-finished h;
        full = full;
        solves = finished_solution given.sheet given.inputs given.memory;
      }

  -- each output is one of 64 wires, and the row has room for each
  pub row_fits : Below 64 outputs × (length output ≡ 4 * length outputs)
  unfolding Below
  row_fits = (λ i m. omega (arith, g.below i m, g.running.few), g.row)

  pub row_written : {bits : ℕ} {words : List ℕ} → HoldsFinished bits words → FullFinished
      → words_of outputs words ≡ row_bytes (output_row given.sheet (given_finished given))
  row_written {words = words} h full =
      ap (λ (os : List ℕ). words_of os words) (sym g.named)
      ∙ output_words h full given.sheet (subst (Below (length types)) (sym g.named) g.below)
