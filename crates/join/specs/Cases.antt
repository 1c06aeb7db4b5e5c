-- Worked cases: two sheets and what they are joined into, and what is refused. One test runs each through the outcome of the call, and it holds of
-- every row.
use Rattle.std.specs.Prelude.{ℕ, ◌+◌, ◌*◌, ◌≡◌, refl, Bool, true, ◌&&◌, List, [], ◌∷◌, ◌++◌, eqb, length, replicate}
use Rattle.sheet.specs.Kinds.{meaning_of, operands_of}
use Rattle.sheet.specs.Readings.{read_each, names_of, body_from, own_of, read_expression}
use Rattle.sheet.specs.Headers.{field_of, bytes_of, section_of}
use Rattle.sheet.specs.Sheets.{kept_count, read_wires, outputs_from, wires_from, read_sheet}
use Rattle.kernel.specs.Cases.{same_bytes, all, rubbish}
use Rattle.join.specs.Bytes.{shifted_bytes, sections_of, joined_bytes}
use Rattle.join.specs.Calls.{join_answer, join_call, packed_joining}

-- one number wire, which is kept: 1 more than its last value
abbrev counter : List ℕ
counter = 0 ∷ 1 ∷ 3 ∷ 1 ∷ 0 ∷ 8 ∷ 18 ∷ 0 ∷ 1 ∷ 1 ∷ 0 ∷ 0 ∷ 0 ∷ []

-- two Boolean inputs; wire 0 is the first of them, and wire 1, the output, whether it holds and the second held before
abbrev sampler : List ℕ
sampler = 2 ∷ 0 ∷ 0 ∷ 2 ∷ 0 ∷ 0 ∷ 1 ∷ 1 ∷ 3 ∷ 0 ∷ 6 ∷ 2 ∷ 0 ∷ 15 ∷ 0 ∷ 3 ∷ 1 ∷ []

-- so many Boolean inputs, and a wire that is the first of them
abbrev wide : ℕ → List ℕ
wide n = n ∷ (replicate n 0 ++ (1 ∷ 0 ∷ 1 ∷ 0 ∷ 3 ∷ 0 ∷ []))

-- two sheets, and what the call answers as one number and leaves in a buffer of so many bytes
pub data Row : Type 0 where
  row : (first second : List ℕ) → (room answer : ℕ) → (left : List ℕ) → Row

-- they are joined
abbrev joins : (first second bytes : List ℕ) → Row
joins first second bytes = row first second (length bytes) 0 bytes

-- they are refused, and nothing is written
abbrev refuses : (first second : List ℕ) → (room number place : ℕ) → Row
refuses first second room number place = row first second room (number * 65536 + place) (rubbish room)

-- for what the second sheet is refused
abbrev refuses_second : (first second : List ℕ) → (number place : ℕ) → Row
refuses_second first second number place = row first second 5 (2147483648 + (number * 65536 + place)) (rubbish 5)

unfoldable pub holds : Row → Bool
holds (row first second room answer left) =
    let now = join_call first second (rubbish room) in eqb (packed_joining now.answer) answer && same_bytes now.joined left

unfoldable pub table : List Row
table =
    -- the numbers of the second are shifted by the counts of the first: outputs, kind 2, and kind 3 also under a pre
    joins counter sampler
    (2 ∷ 0 ∷ 0 ∷ 3 ∷ 3 ∷ 0 ∷ 0 ∷ 2 ∷ 0 ∷ 2
    ∷ 8 ∷ 18 ∷ 0 ∷ 1 ∷ 1 ∷ 0 ∷ 0 ∷ 0 ∷ 3 ∷ 0 ∷ 6 ∷ 2 ∷ 1 ∷ 15 ∷ 0 ∷ 3 ∷ 1 ∷ [])
    -- ... and kind 18
    ∷ joins sampler counter
    (2 ∷ 0 ∷ 0 ∷ 3 ∷ 0 ∷ 0 ∷ 3 ∷ 2 ∷ 1 ∷ 2
    ∷ 3 ∷ 0 ∷ 6 ∷ 2 ∷ 0 ∷ 15 ∷ 0 ∷ 3 ∷ 1 ∷ 8 ∷ 18 ∷ 2 ∷ 1 ∷ 1 ∷ 0 ∷ 0 ∷ 0 ∷ [])
    ∷ joins sampler sampler
    (4 ∷ 0 ∷ 0 ∷ 0 ∷ 0 ∷ 4 ∷ 0 ∷ 0 ∷ 0 ∷ 0 ∷ 2 ∷ 1 ∷ 3
    ∷ 3 ∷ 0 ∷ 6 ∷ 2 ∷ 0 ∷ 15 ∷ 0 ∷ 3 ∷ 1 ∷ 3 ∷ 2 ∷ 6 ∷ 2 ∷ 2 ∷ 15 ∷ 0 ∷ 3 ∷ 3 ∷ [])
    -- 16 inputs are as many as there may be, and 17 are too many, whatever the room
    ∷ joins (wide 15) (wide 1) (16 ∷ (replicate 16 0 ++ (2 ∷ 0 ∷ 0 ∷ 2 ∷ 0 ∷ 1 ∷ 3 ∷ 0 ∷ 3 ∷ 15 ∷ [])))
    ∷ refuses (wide 16) (wide 1) 28 23 0
    ∷ refuses (wide 16) (wide 1) 27 23 0
    -- one byte too few, and one too many
    ∷ refuses counter sampler 26 16 0
    ∷ refuses counter sampler 28 16 0
    -- the first sheet is refused before the second, and this before 23; the place is counted in the sheet
    ∷ refuses (counter ++ (7 ∷ [])) [] 5 11 13
    ∷ refuses_second counter [] 1 0
    ∷ refuses_second (wide 16) (wide 1 ++ (7 ∷ [])) 11 8
    ∷ []

-- and so it is, of every row
pub table-holds : all holds table ≡ true
unfolding meaning_of operands_of read_each names_of body_from own_of read_expression field_of bytes_of section_of kept_count
    read_wires outputs_from wires_from read_sheet shifted_bytes sections_of joined_bytes join_answer join_call same_bytes all holds table
table-holds = refl
