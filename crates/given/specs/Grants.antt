-- What the checks 1 to 16 of an instant's buffers grant it: the parts of the sheet, the map and the words that no round changes, by which
-- it runs.
use Rattle.std.specs.Prelude.{ℕ, ◌+◌, ◌-◌, ◌*◌, ◌≤◌, ◌≡◌, List, Result, Ok, Err, length, take, drop}
use Rattle.sheet.specs.Outcomes.{refusal, result}
use Rattle.sheet.specs.Sheets.{Sheet}
use Rattle.sheet.specs.declared.Refused.{Refused}
use Rattle.sheet_expressions.specs.Map.{EachHoldsJust}
use Rattle.kernel.specs.Instants.{wire_count, reads_at}
use Rattle.kernel.specs.Calls.{given_of}
use Rattle.leaves.specs.Words.{word_count, fixed_words}
use Rattle.rounds.specs.Running.{Running, RunningReads}
use Rattle.rounds.specs.Outputs.{Below}
use Rattle.given.specs.declared.Parts.{Parts}

-- the bytes from one place up to another
abbrev pub part : List ℕ → (from to : ℕ) → List ℕ
part s from to = take (to - from) (drop from s)

-- bytes that are the types of a sheet's wires and its outputs, each behind its count byte
pub record Stand (s : List ℕ) (sheet : Sheet) (types outputs : List ℕ) : Type 0 where
  pub types_from : types ≡ part s (2 + length sheet.input_types) (2 + length sheet.input_types + length sheet.wire_types)
  pub outputs_from : outputs ≡ part s (2 + length sheet.input_types + length sheet.wire_types + 1)
      (2 + length sheet.input_types + length sheet.wire_types + 1 + length sheet.outputs)

-- buffers that passed run, by the types of the wires, `types`, and the outputs are wires, which the bytes `outputs` name
pub record Granted (s memory input output places firsts reads words types outputs : List ℕ) : Type 0 where
  pub running : Running s memory (fixed_words words) types places firsts
  pub reading : EachHoldsJust reads (length types) (reads_at running.given.sheet.expressions)
  pub passes : given_of s memory input output ≡ result running.given
  pub wired : wire_count running.given.sheet ≡ length types
  pub named : running.given.sheet.outputs ≡ outputs
  pub below : Below (length types) outputs
  pub row : length output ≡ 4 * length outputs
  pub room : length words ≡ word_count
  pub set_room : 64 ≤ length reads

-- what runs, with its reads
abbrev pub granted_reads : {s memory input output places firsts reads words types outputs : List ℕ}
    → Granted s memory input output places firsts reads words types outputs
    → RunningReads s memory (fixed_words words) types places firsts reads
granted_reads g = record { running = g.running; reading = g.reading }

-- where they stand in the sheet, and that by them an instant is granted
pub record GrantedBy (s memory input output places firsts reads words types outputs : List ℕ) : Type 0 where
  pub granted : Granted s memory input output places firsts reads words types outputs
  pub stand : Stand s granted.running.given.sheet types outputs

-- the answer of the checks, and what they grant where they pass
pub record Grants (s memory input output places firsts reads words : List ℕ) (answer : Result Parts Refused) : Type 0 where
  pub refused : {r : Refused} → answer ≡ Err r → given_of s memory input output ≡ refusal r.why r.place
  pub passed : {parts : Parts} → answer ≡ Ok parts
      → GrantedBy s memory input output places firsts reads words parts.types.now parts.outputs.now
