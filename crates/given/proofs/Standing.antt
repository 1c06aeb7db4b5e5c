-- Where the cells and the inputs of buffers that passed 12 to 15 stand in their bytes.
use Prim.Native.Nat.{ℕ, zero, suc, ◌+◌, ◌*◌, ◌/◌, ◌%◌, ◌≤◌, ◌<◌}
use mathlib.Core.Path.{◌≡◌, refl, sym, ap, ◌∙◌}
use mathlib.Core.Bool.{Bool, true, false, ◌&&◌, cond}
use mathlib.Core.List.{List, [], ◌∷◌, map}
use Rattle.sheet.specs.declared.Datum.{Datum}
use Rattle.sheet.specs.declared.Refusal.TheVariants.{InputLength, InputContent, TypeByte}
use native.Mathlib.Omega.{arith}
use lib.Dec.{eqb}
use lib.ListN.{length, get_or, take, drop, length-take, length-drop, length-map}
use lib.Seq.{ext_get_or, get_or-take, get_or-drop}
use borrow.Author.Tests.{eqb-true, eqb-false, ltb-true}
use mir.Syntax.{w32}
use mir.Facts.{of_z-to_z}
use Rattle.numbers.specs.Words.{word_bytes}
use Rattle.numbers.specs.Laws.{word_bound}
use Rattle.sheet.specs.Data.{ValueType, boolean, number, type_of_byte, stands_for, datum_of, word_of}
use Rattle.sheet.specs.Expressions.{CellForm, fby_cell}
use Rattle.sheet.specs.Outcomes.{result}
use Rattle.sheet.specs.Memory.{starts_empty, cell_bytes, mark_at, cell_word_at, read_cell, valid_cell, cells_from, memory_of}
use Rattle.sheet.specs.Rows.{entry_at, wrong_at, data_from, inputs_of}
use Rattle.sheet.specs.Sheets.{Sheet, before}
use Rattle.sheet.specs.Laws.Outcomes.{same-result, length-passed, any-passed}
use Rattle.sheet.specs.Laws.Headers.{sheet-view, section_good, section-length}
use Rattle.sheet.proofs.Laws.Typing.{passed_check}
use Rattle.sheet.proofs.Laws.Memory.{memory_view}
use Rattle.sheet.specs.declared.Cell.{Cell}
use Rattle.sheet.specs.declared.Cell.TheVariants.{NotStarted, Started}
use Rattle.kernel.specs.Instant.{input_at, cell_at}
use Rattle.kernel.specs.Calls.{Given, given_of}
use Rattle.sheet.specs.Laws.Lists.{both}
use Rattle.kernel.proofs.Laws.Given.{given_by}
use Rattle.leaves.specs.Words.{fixed_words, InputsPut}
use Rattle.expression.specs.Places.{CellsStand, none, more}

abbrev pub Bytes : List ℕ → Type 0
Bytes s = (i : ℕ) → get_or s i 0 < 256

-- four bytes are the bytes of their word
low_byte : (a y : ℕ) → a < 256 → (a + 256 * y) % 256 ≡ a
low_byte a y p = omega arith

rest-bytes : (a y : ℕ) → a < 256 → (a + 256 * y) / 256 ≡ y
rest-bytes a y p = omega arith

word-bytes : (a b c d : ℕ) → a < 256 → b < 256 → c < 256 → d < 256
    → word_bytes (a + 256 * b + 65536 * c + 16777216 * d) ≡ a ∷ b ∷ c ∷ d ∷ []
word-bytes a b c d p q r t =
    let x = a + 256 * b + 65536 * c + 16777216 * d in
    let x₀ : x ≡ a + 256 * (b + 256 * (c + 256 * d)) = omega arith in
    let x₁ : x / 256 ≡ b + 256 * (c + 256 * d) = rw x₀ (rest-bytes a (b + 256 * (c + 256 * d)) p) in
    let x₂ : x / 65536 ≡ c + 256 * d = omega arith in
    let x₃ : x / 16777216 ≡ d = omega arith in
    let e₀ : x % 256 ≡ a = rw x₀ (low_byte a (b + 256 * (c + 256 * d)) p) in
    let e₁ : x / 256 % 256 ≡ b = rw x₁ (low_byte b (c + 256 * d) q) in
    let e₂ : x / 65536 % 256 ≡ c = rw x₂ (low_byte c d r) in
    rw (e₀, e₁, e₂, x₃)

-- the five bytes of a cell are its mark and the four bytes of its word
five : (l : List ℕ) (i : ℕ) → i + 5 ≤ length l
    → take 5 (drop i l) ≡ get_or l i 0 ∷ get_or l (i + 1) 0 ∷ get_or l (i + 1 + 1) 0 ∷ get_or l (i + 1 + 2) 0 ∷ get_or l (i + 1 + 3) 0 ∷ []
five l i fits = ext_get_or 0 _ _ sized (λ j h. go j (rw sized at h))
  where
    sized : length (take 5 (drop i l)) ≡ 5
    sized = simp (length-take, length-drop) (omega arith)

    at : (j k : ℕ) → j < 5 → i + j ≡ k → get_or (take 5 (drop i l)) j 0 ≡ get_or l k 0
    at j k h e = rw (get_or-take, get_or-drop, e)

    go : (j : ℕ) → j < 5
        → get_or (take 5 (drop i l)) j 0
        ≡ get_or (get_or l i 0 ∷ get_or l (i + 1) 0 ∷ get_or l (i + 1 + 1) 0 ∷ get_or l (i + 1 + 2) 0 ∷ get_or l (i + 1 + 3) 0 ∷ []) j 0
    go zero h = at 0 i (omega arith) (omega arith)
    go (suc zero) h = at 1 (i + 1) (omega arith) (omega arith)
    go (suc (suc zero)) h = at 2 (i + 1 + 1) (omega arith) (omega arith)
    go (suc (suc (suc zero))) h = at 3 (i + 1 + 2) (omega arith) (omega arith)
    go (suc (suc (suc (suc zero)))) h = at 4 (i + 1 + 3) (omega arith) (omega arith)
    go (suc (suc (suc (suc (suc j))))) h = absurd (omega arith)

five-bytes : (memory : List ℕ) (k : ℕ) → Bytes memory → 5 * k + 5 ≤ length memory
    → take 5 (drop (5 * k) memory) ≡ mark_at memory k ∷ word_bytes (cell_word_at memory k)
five-bytes memory k small fits =
    let at = 5 * k + 1 in
    let word = word-bytes (get_or memory at 0) (get_or memory (at + 1) 0) (get_or memory (at + 2) 0) (get_or memory (at + 3) 0)
    (small at) (small (at + 1)) (small (at + 2)) (small (at + 3)) in
    five memory (5 * k) fits ∙ ap (λ (w : List ℕ). get_or memory (5 * k) 0 ∷ w) (sym word)

-- a valid cell's bytes are those of the cell that is read
valid-bytes : (form : CellForm) (mark word : ℕ) → word < 4294967296 → valid_cell form mark word ≡ true
    → mark ∷ word_bytes word ≡ cell_bytes (cond (eqb mark 0) NotStarted (Started (datum_of form.type word)))
valid-bytes form mark word small e = go (eqb mark 0) refl e
  where
    started : (t : ValueType) → stands_for t word ≡ true → word ≡ word_of (datum_of t word)
    started boolean s = go₁ (eqb word 1) refl (ltb-true word 2 s)
      where
        go₁ : (t : Bool) → eqb word 1 ≡ t → word < 2 → word ≡ cond t 1 0
        go₁ true q l = eqb-true word 1 q
        go₁ false q l = let n = eqb-false word 1 q in omega arith
    started number s = sym (of_z-to_z {w = w32} {n = word} (record { fits = small }))

    go : (t : Bool) → eqb mark 0 ≡ t
        → cond t (starts_empty form.start && eqb word 0) (eqb mark 1 && stands_for form.type word) ≡ true
        → mark ∷ word_bytes word ≡ cell_bytes (cond t NotStarted (Started (datum_of form.type word)))
    go true q v =
        let (empty, zeroed) = both (starts_empty form.start) (eqb word 0) v in
        let m : mark ≡ 0 = eqb-true mark 0 q in
        let w : word ≡ 0 = eqb-true word 0 zeroed in
        rw (m, w)
    go false q v =
        let (one, stands) = both (eqb mark 1) (stands_for form.type word) v in
        let m : mark ≡ 1 = eqb-true mark 1 one in
        let w = started form.type stands in
        rw m (ap (λ (x : ℕ). 1 ∷ word_bytes x) w)

-- the cells of a memory that passed 12 and 13 stand in it, from number k on
module _ (memory : List ℕ) (small : Bytes memory) where
  cells-stand : (forms : List CellForm) (cells : List Cell) (k : ℕ)
      → 5 * (k + length forms) ≤ length memory
      → ((j : ℕ) → j < length forms → valid_cell (get_or forms j (fby_cell boolean)) (mark_at memory (k + j)) (cell_word_at memory (k + j)) ≡ true)
      → ((j : ℕ) → j < length forms → cell_at cells (k + j) ≡ read_cell (get_or forms j (fby_cell boolean)).type memory (k + j))
      → CellsStand memory cells k forms
  cells-stand [] cells k fits valid read = none
  cells-stand (f ∷ fs) cells k fits valid read =
      let here : k + 0 ≡ k = omega arith in
      let reads : cell_at cells k ≡ read_cell f.type memory k = rw here at (read 0 (omega arith)) in
      let v : valid_cell f (mark_at memory k) (cell_word_at memory k) ≡ true = rw here at (valid 0 (omega arith)) in
      let room : 5 * k + 5 ≤ length memory = omega arith in
      let at = 5 * k + 1 in
      let bound = word_bound memory at (small at) (small (at + 1)) (small (at + 2)) (small (at + 3)) in
      let bytes = five-bytes memory k small room ∙ valid-bytes f (mark_at memory k) (cell_word_at memory k) bound v in
      more (record { fits = room; bytes = rw reads bytes; reads = sym reads })
      (cells-stand fs cells (suc k) (omega arith)
      (λ j l. let e : suc k + j ≡ k + suc j = omega arith in rw e (valid (suc j) (omega arith)))
      (λ j l. let e : suc k + j ≡ k + suc j = omega arith in rw e (read (suc j) (omega arith))))

  read_at : (forms : List CellForm) (k j : ℕ) → j < length forms
      → cell_at (cells_from memory k forms) j ≡ read_cell (get_or forms j (fby_cell boolean)).type memory (k + j)
  unfolding cells_from
  read_at [] k j l = absurd (omega arith)
  read_at (f ∷ fs) k zero l = let e : k + 0 ≡ k = omega arith in rw e
  read_at (f ∷ fs) k (suc j) l = let e : k + suc j ≡ suc k + j = omega arith in rw e (read_at fs (suc k) j (omega arith))

  pub memory_stands : (forms : List CellForm) {cells : List Cell} → memory_of forms memory ≡ result cells
      → CellsStand memory cells 0 forms
  memory_stands forms {cells} e =
      let v = memory_view forms memory e in
      let n : ℕ = length forms in
      let z : (j : ℕ) → 0 + j ≡ j = λ j. omega arith in
      cells-stand forms cells 0 (omega (arith, v.sized))
      (λ j l. rw (z j) (v.valid j l))
      (λ j l. rw (z j, v.is) (read_at forms 0 j l ∙ ap (read_cell (get_or forms j (fby_cell boolean)).type memory) (z j)))

-- the data of a row, by entry
row_at : (row : List ℕ) (types : List ℕ) (i j : ℕ) → j < length types
    → input_at (data_from row i (map type_of_byte types)) j ≡ datum_of (type_of_byte (get_or types j 0)) (entry_at row (i + j))
unfolding data_from
row_at row [] i j l = absurd (omega arith)
row_at row (t ∷ ts) i zero l = let e : i + 0 ≡ i = omega arith in rw e
row_at row (t ∷ ts) i (suc j) l = let e : i + suc j ≡ suc i + j = omega arith in rw e (row_at row ts (suc i) j (omega arith))

-- what passes 14 and 15: the length, and the data by entry
input-view : (types : List ValueType) (row : List ℕ) {ds : List Datum} → inputs_of types row ≡ result ds
    → (length row ≡ 4 * length types) × (ds ≡ data_from row 0 types)
unfolding inputs_of
input-view types row e =
    let (sized, e₁) = length-passed InputLength (length row) (4 * length types) _ e in
    let (right, e₂) = any-passed InputContent (wrong_at types row) (length types) _ e₁ in
    (sized, sym (same-result e₂))

-- an input's word is its entry
entry-word : (input words : List ℕ) → InputsPut input words → (i : ℕ) → 4 * i + 4 ≤ length input
    → get_or (fixed_words words) i 0 ≡ entry_at input i
unfolding InputsPut
entry-word input words put i l = rw get_or-drop (put i l)

-- so an input's datum is what its word stands for
pub input-words : (inputs input words : List ℕ) {ds : List Datum} → inputs_of (map type_of_byte inputs) input ≡ result ds
    → InputsPut input words → (i : ℕ) → i < length inputs
    → input_at ds i ≡ datum_of (type_of_byte (get_or inputs i 0)) (get_or (fixed_words words) i 0)
input-words inputs input words e put i l =
    let (sized, row) = input-view (map type_of_byte inputs) input e in
    let counted : length input ≡ 4 * length inputs = sized ∙ ap (λ (k : ℕ). 4 * k) (length-map inputs type_of_byte) in
    let here : 0 + i ≡ i = omega arith in
    let word : get_or (fixed_words words) i 0 ≡ entry_at input (0 + i) =
    entry-word input words put i (omega (arith, counted)) ∙ ap (entry_at input) (sym here) in
    ap (λ (x : List Datum). input_at x i) row ∙ row_at input inputs 0 i l
    ∙ ap (datum_of (type_of_byte (get_or inputs i 0))) (sym word)

-- a row that passed 14 has four bytes to an input, of which there are at most 16
pub input-length : (s memory input output : List ℕ) (given : Given) → given_of s memory input output ≡ result given → length input ≤ 64
input-length s memory input output given e =
    let by = given_by s memory input output given e in
    let v = sheet-view s (passed_check s by.sheet).read in
    let good = section_good s 0 0 17 2 false TypeByte v.inputs in
    let inputs = before s v.inputs_end v.input_count in
    let types : given.sheet.input_types ≡ map type_of_byte inputs = ap (λ (x : Sheet). x.input_types) v.is in
    let counted = ap length types ∙ length-map inputs type_of_byte ∙ section-length good in
    omega (arith, (input-view given.sheet.input_types input by.inputs).0, counted, good.below)
