-- What an instant runs on once 1 to 16 are passed, and how a set of known wires and their words hold the values of wires.
use Rattle.std.specs.Prelude.{ℕ, ◌+◌, ◌*◌, ◌≤◌, ◌<◌, ◌≡◌, Bool, true, false, ◌||◌, List, map, eqb, length, get_or, set}
use Rattle.wires.specs.Sets.{member}
use Rattle.sheet.specs.Data.{type_of_byte, is_kept, wire_type, datum_of, word_of}
use Rattle.sheet.specs.Readings.{got}
use Rattle.sheet.specs.Sheets.{sheet_forms, read_wires}
use Rattle.sheet.specs.Typing.{WellTyped, ValidInputs, ValidMemory}
use Rattle.sheet.specs.declared.Datum.{Datum}
use Rattle.sheet_expressions.specs.Map.{StartsAt, EachHoldsJust, run_of}
use Rattle.kernel.specs.Values.{Fits}
use Rattle.kernel.specs.Order.{value_at}
use Rattle.kernel.specs.Instant.{input_at, last_at}
use Rattle.kernel.specs.Instants.{reads_at, lasts_of, round}
use Rattle.kernel.specs.Calls.{Given}
use Rattle.kernel.proofs.Laws.Typing.{OnWires}
use Rattle.kernel.specs.declared.Value.{Value}
use Rattle.kernel.specs.declared.Value.TheVariants.{Unknown, Known}
use Rattle.leaves.specs.Words.{fixed_words}
use Rattle.expression.specs.Places.{CellsStand}
use Rattle.sheet_walk.specs.declared.Place.{Place}
use Rattle.rounds.specs.Due.{DueIn}
use Rattle.rounds.specs.declared.Instant.{Instant}

-- the bytes that passed the checks, with what they say: `row` are the words of the inputs and, behind room for 16, of the kept wires' cells,
-- `types` the wires' type bytes, and the map says where each wire's expression starts and which cell is its first
pub record Running (s memory row types places firsts : List ℕ) : Type 0 where
  pub given : Given
  pub inputs : List ℕ
  pub first : ℕ
  pub next : ℕ
  pub count : ℕ
  pub run : read_wires inputs types s first ≡ got given.sheet.expressions next count
  pub starts : (w : ℕ) → w < length types
      → StartsAt (run_of inputs types s first given.sheet.expressions next count run) w (get_or places w 0) (get_or firsts w 0)
  pub input_types : given.sheet.input_types ≡ map type_of_byte inputs
  pub wire_types : given.sheet.wire_types ≡ map wire_type types
  pub few : length types ≤ 64
  pub input_limit : length inputs ≤ 16
  pub on_inputs : (i : ℕ) → i < length inputs → input_at given.inputs i ≡ datum_of (type_of_byte (get_or inputs i 0)) (get_or row i 0)
  pub on_lasts : (w : ℕ) → w < length types → is_kept (get_or types w 0) ≡ true
      → last_at (lasts_of given.sheet given.memory) w ≡ datum_of (wire_type (get_or types w 0)) (get_or row (16 + w) 0)
  pub memory_size : length memory ≡ 5 * length (sheet_forms given.sheet)
  pub cells : CellsStand memory given.memory 0 (sheet_forms given.sheet)
  pub well_typed : WellTyped given.sheet
  pub valid_inputs : ValidInputs given.sheet given.inputs
  pub valid_memory : ValidMemory given.sheet given.memory

-- what runs, with the set of the wires that each wire reads within the instant
pub record RunningReads (s memory row types places firsts reads : List ℕ) : Type 0 where
  pub running : Running s memory row types places firsts
  pub reading : EachHoldsJust reads (length types) (reads_at running.given.sheet.expressions)

-- an unknown wire is not in the set, and its word is free: nobody reads it; a known one is in it, and its word stands for its datum
pub data Held : Bool → ℕ → Value → Type 0 where
  unheld : {word : ℕ} → Held false word Unknown
  held : {word : ℕ} {d : Datum} → word ≡ word_of d → Held true word (Known d)

-- the set and the words hold the values of n wires, and behind the wires' words stand those that no round changes
pub record Holds (n : ℕ) (row : List ℕ) (bits : ℕ) (words : List ℕ) (values : List Value) : Type 0 where
  pub fixed : fixed_words words ≡ row
  pub size : length values ≡ n
  pub room : n ≤ length words
  pub each : (w : ℕ) → w < n → Held (member bits w) (get_or words w 0) (value_at values w)
  pub beyond : (w : ℕ) → n ≤ w → member bits w ≡ false

-- the round of what runs
abbrev pub round_of : {s memory row types places firsts : List ℕ} → Running s memory row types places firsts → List Value → List Value
round_of r = round r.given.sheet r.given.inputs r.given.memory

-- what runs, with any typed values of its wires, even false ones, which a set and words hold
pub record RunningUnder (s memory row types places firsts : List ℕ) (bits : ℕ) (words : List ℕ) : Type 0 where
  pub running : Running s memory row types places firsts
  pub values : List Value
  pub holds : Holds (length types) row bits words values
  pub typed : OnWires Fits running.given.sheet.wire_types values

-- the same before a round, with the wires that are due in it
pub record Before (s memory row types places firsts : List ℕ) (bits due : ℕ) (words : List ℕ) : Type 0 where
  pub under : RunningUnder s memory row types places firsts bits words
  pub which_due : DueIn (length types) bits due (round_of under.running under.values)

-- where the expression of wire w stands, by the map
abbrev pub mapped : (places firsts : List ℕ) (w : ℕ) → Place
mapped places firsts w = record { at = get_or places w 0; cell = get_or firsts w 0 }

-- the same of what an instant runs on, with the words of the instant, of which no round changes those behind the wires'
module _ (i : Instant) where
  abbrev pub RunningReadsOn : (reads words : List ℕ) → Type 0
  RunningReadsOn reads words = RunningReads i.sheet.now i.memory.now (fixed_words words) i.types.now i.places.now i.firsts.now reads

  abbrev pub RunningUnderOn : (bits : ℕ) (words : List ℕ) → Type 0
  RunningUnderOn bits words = RunningUnder i.sheet.now i.memory.now (fixed_words words) i.types.now i.places.now i.firsts.now bits words

  abbrev pub BeforeOn : (bits due : ℕ) (words : List ℕ) → Type 0
  BeforeOn bits due words = Before i.sheet.now i.memory.now (fixed_words words) i.types.now i.places.now i.firsts.now bits due words

-- the value of wire w was put into a set and words: an unknown one changes nothing
pub data Put (w bits : ℕ) (words : List ℕ) : Value → (after : ℕ) → List ℕ → Type 0 where
  left : {after : ℕ} {new : List ℕ} → after ≡ bits → new ≡ words → Put w bits words Unknown after new
  put : {d : Datum} {after : ℕ} {new : List ℕ} → ((k : ℕ) → member after k ≡ (member bits k || eqb k w)) → new ≡ set words w (word_of d)
      → Put w bits words (Known d) after new
