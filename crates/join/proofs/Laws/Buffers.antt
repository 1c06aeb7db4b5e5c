-- Joined memories and rows as bytes: where each part has the length that is asked, the whole passes 12 and 13, or 14 and 15, exactly
-- if both parts do, and then holds what they hold; what is written for the whole is what is written for both.
use Rattle.std.specs.Prelude.{◌≡◌, Bool, true, false, ltb, get_or}
use Rattle.std.proofs.Math.Path.{refl}
use Rattle.std.proofs.Common.{sym, ap, ap₂, ◌∙◌, length-append, eq-eqb, ltb-true, ltb-false}
use Prim.Native.Nat.{ℕ, suc, ◌+◌, ◌-◌, ◌*◌, ◌≤◌, ◌<◌}
use Rattle.std.proofs.Math.Nat.{add-zero}
use native.Mathlib.Omega.{arith}
use mathlib.Core.List.{List, [], ◌∷◌, ◌++◌, append_assoc}
use Rattle.std.proofs.Math.ListN.{length, get_or-append}
use Rattle.std.proofs.Math.Seq.{get_or-append-add}
use Rattle.numbers.specs.Words.{word_at, word_bytes}
use Rattle.sheet.specs.Data.{ValueType, boolean, number, word_of}
use Rattle.sheet.specs.Expressions.{CellForm, fby_cell}
use Rattle.sheet.specs.Outcomes.{Outcome, result, unless_length, unless_any}
use Rattle.sheet.specs.Memory.{cell_bytes, memory_bytes, invalid_at, cells_from, memory_of}
use Rattle.sheet.specs.Rows.{row_bytes, wrong_at, data_from, inputs_of}
use Rattle.sheet.specs.Laws.Lowest.{none-lowest}
use Rattle.sheet.proofs.Laws.Memory.{pairwise-length, memory_valid, row-valid}
use Rattle.sheet.specs.Laws.Outcomes.{same-result, length-passed, any-passed}
use Rattle.sheet.specs.declared.Refusal.{Refusal}
use Rattle.sheet.specs.declared.Refusal.TheVariants.{MemoryLength, CellContent, InputLength, InputContent}
use Rattle.sheet.specs.declared.Datum.{Datum}
use Rattle.sheet.specs.declared.Cell.{Cell}

-- Written.
pub memory_bytes-joined : (cs ds : List Cell) → memory_bytes (cs ++ ds) ≡ memory_bytes cs ++ memory_bytes ds
unfolding memory_bytes
memory_bytes-joined [] ds = refl
memory_bytes-joined (c ∷ cs) ds = rw (memory_bytes-joined cs ds) (sym (append_assoc (cell_bytes c) (memory_bytes cs) (memory_bytes ds)))

pub row-bytes-joined : (xs ys : List Datum) → row_bytes (xs ++ ys) ≡ row_bytes xs ++ row_bytes ys
unfolding row_bytes
row-bytes-joined [] ys = refl
row-bytes-joined (x ∷ xs) ys = rw (row-bytes-joined xs ys) (sym (append_assoc (word_bytes (word_of x)) (row_bytes xs) (row_bytes ys)))

-- Read: `wide` bytes to an item, a test of each item, and what the items hold.
module _ {A B : Type 0} (wide : ℕ) (why content : Refusal) (test : List A → List ℕ → ℕ → Bool) (hold : List A → List ℕ → List B) where
  abbrev read_by : List A → List ℕ → Outcome (List B)
  read_by xs m = unless_length why (length m) (wide * length xs) (unless_any content (test xs m) (length xs) (result (hold xs m)))

  passes : (xs : List A) (m : List ℕ) → length m ≡ wide * length xs → ((k : ℕ) → k < length xs → test xs m k ≡ false)
      → read_by xs m ≡ result (hold xs m)
  passes xs m e h = rw (eq-eqb (length m) (wide * length xs) e, none-lowest (test xs m) (length xs) h)

  passed : (xs : List A) (m : List ℕ) {bs : List B} → read_by xs m ≡ result bs
      → ((k : ℕ) → k < length xs → test xs m k ≡ false) × (hold xs m ≡ bs)
  passed xs m r =
      let (sized, r₁) = length-passed why (length m) (wide * length xs) _ r in
      let (none, r₂) = any-passed content (test xs m) (length xs) _ r₁ in
      (none, same-result r₂)

  module _ (xs ys : List A) (m n : List ℕ) (sized₁ : length m ≡ wide * length xs) (sized₂ : length n ≡ wide * length ys)
      (first : (k : ℕ) → k < length xs → test (xs ++ ys) (m ++ n) k ≡ test xs m k)
      (second : (k : ℕ) → k < length ys → test (xs ++ ys) (m ++ n) (length xs + k) ≡ test ys n k)
      (holds : hold (xs ++ ys) (m ++ n) ≡ hold xs m ++ hold ys n) (sized : length (m ++ n) ≡ wide * length (xs ++ ys)) where
    both-pass : {bs cs : List B} → read_by xs m ≡ result bs → read_by ys n ≡ result cs → read_by (xs ++ ys) (m ++ n) ≡ result (bs ++ cs)
    both-pass r₁ r₂ =
        let (none₁, is₁) = passed xs m r₁ in
        let (none₂, is₂) = passed ys n r₂ in
        passes (xs ++ ys) (m ++ n) sized (λ k l. go none₁ none₂ k l (ltb k (length xs)) refl) ∙ ap result (holds ∙ ap₂ ◌++◌ is₁ is₂)
      where
        go : ((k : ℕ) → k < length xs → test xs m k ≡ false) → ((k : ℕ) → k < length ys → test ys n k ≡ false)
            → (k : ℕ) → k < length (xs ++ ys) → (t : Bool) → ltb k (length xs) ≡ t → test (xs ++ ys) (m ++ n) k ≡ false
        go h₁ h₂ k l true p = first k (ltb-true k (length xs) p) ∙ h₁ k (ltb-true k (length xs) p)
        go h₁ h₂ k l false p =
            let over = ltb-false k (length xs) p in
            let inside : k - length xs < length ys = omega (arith, length-append xs ys) in
            let e : k ≡ length xs + (k - length xs) = omega arith in
            ap (test (xs ++ ys) (m ++ n)) e ∙ second (k - length xs) inside ∙ h₂ (k - length xs) inside

    parts-pass : {cs : List B} → read_by (xs ++ ys) (m ++ n) ≡ result cs
        → (read_by xs m ≡ result (hold xs m)) × (read_by ys n ≡ result (hold ys n))
    parts-pass r =
        let none = (passed (xs ++ ys) (m ++ n) r).0 in (
          passes xs m sized₁ (λ k l. sym (first k l) ∙ none k (omega (arith, length-append xs ys))),
          passes ys n sized₂ (λ k l. sym (second k l) ∙ none (length xs + k) (omega (arith, length-append xs ys))),
        )

-- Bytes of the first part, and of the second.
module _ (m n : List ℕ) where
  byte-first : (i : ℕ) → i < length m → get_or (m ++ n) i 0 ≡ get_or m i 0
  byte-first i l = get_or-append m n 0 i l

  byte-second : (j i : ℕ) → j ≡ length m + i → get_or (m ++ n) j 0 ≡ get_or n i 0
  byte-second j i e = rw e (get_or-append-add m n i 0)

  word_first : (i : ℕ) → i + 3 < length m → word_at (m ++ n) i ≡ word_at m i
  word_first i l =
      rw (byte-first i (omega arith), byte-first (i + 1) (omega arith), byte-first (i + 2) (omega arith), byte-first (i + 3) (omega arith))

  word-second : (j i : ℕ) → j ≡ length m + i → word_at (m ++ n) j ≡ word_at n i
  word-second j i e =
      rw (
        byte-second j i e,
        byte-second (j + 1) (i + 1) (omega arith),
        byte-second (j + 2) (i + 2) (omega arith),
        byte-second (j + 3) (i + 3) (omega arith),
      )

-- A memory: 5 bytes to a cell.
module _ (fs gs : List CellForm) (m n : List ℕ) (sized₁ : length m ≡ 5 * length fs) (sized₂ : length n ≡ 5 * length gs) where
  invalid_first : (k : ℕ) → k < length fs → invalid_at (fs ++ gs) (m ++ n) k ≡ invalid_at fs m k
  unfolding invalid_at
  invalid_first k l =
      rw (get_or-append fs gs (fby_cell boolean) k l, byte-first m n (5 * k) (omega arith), word_first m n (5 * k + 1) (omega arith))

  invalid_second : (k : ℕ) → k < length gs → invalid_at (fs ++ gs) (m ++ n) (length fs + k) ≡ invalid_at gs n k
  unfolding invalid_at
  invalid_second k l =
      rw (
        get_or-append-add fs gs k (fby_cell boolean),
        byte-second m n (5 * (length fs + k)) (5 * k) (omega arith),
        word-second m n (5 * (length fs + k) + 1) (5 * k + 1) (omega arith),
      )

  cells-first : (hs : List CellForm) (k : ℕ) → 5 * (k + length hs) ≤ length m → cells_from (m ++ n) k hs ≡ cells_from m k hs
  unfolding cells_from
  cells-first [] k l = refl
  cells-first (h ∷ hs) k l =
      rw (byte-first m n (5 * k) (omega arith), word_first m n (5 * k + 1) (omega arith), cells-first hs (suc k) (omega arith))

  cells-second : (hs : List CellForm) (j k : ℕ) → j ≡ length fs + k → cells_from (m ++ n) j hs ≡ cells_from n k hs
  unfolding cells_from
  cells-second [] j k e = refl
  cells-second (h ∷ hs) j k e =
      rw (
        byte-second m n (5 * j) (5 * k) (omega arith),
        word-second m n (5 * j + 1) (5 * k + 1) (omega arith),
        cells-second hs (suc j) (suc k) (omega arith),
      )

  cells-append : (memory : List ℕ) (hs is : List CellForm) (k : ℕ)
      → cells_from memory k (hs ++ is) ≡ cells_from memory k hs ++ cells_from memory (k + length hs) is
  unfolding cells_from
  cells-append memory [] is k = rw add-zero
  cells-append memory (h ∷ hs) is k =
      let e : k + suc (length hs) ≡ suc k + length hs = omega arith in rw (e, cells-append memory hs is (suc k))

  abbrev hold : List CellForm → List ℕ → List Cell
  hold hs memory = cells_from memory 0 hs

  cells-joined : hold (fs ++ gs) (m ++ n) ≡ hold fs m ++ hold gs n
  cells-joined =
      cells-append (m ++ n) fs gs 0
      ∙ ap₂ ◌++◌ (cells-first fs 0 (omega arith)) (cells-second gs (0 + length fs) 0 (omega arith))

  sized-joined : length (m ++ n) ≡ 5 * length (fs ++ gs)
  sized-joined = rw (length-append m n, length-append fs gs) (omega arith)

  pub memory_of-joined : {cs ds : List Cell} → memory_of fs m ≡ result cs → memory_of gs n ≡ result ds
      → memory_of (fs ++ gs) (m ++ n) ≡ result (cs ++ ds)
  unfolding memory_of
  memory_of-joined =
      both-pass 5 MemoryLength CellContent invalid_at hold fs gs m n sized₁ sized₂ invalid_first invalid_second cells-joined sized-joined

  pub memory_of-parts : {cs : List Cell} → memory_of (fs ++ gs) (m ++ n) ≡ result cs
      → (memory_of fs m ≡ result (cells_from m 0 fs)) × (memory_of gs n ≡ result (cells_from n 0 gs))
  unfolding memory_of
  memory_of-parts =
      parts-pass 5 MemoryLength CellContent invalid_at hold fs gs m n sized₁ sized₂ invalid_first invalid_second cells-joined sized-joined

-- An input row: 4 bytes to an entry.
module _ (ts us : List ValueType) (m n : List ℕ) (sized₁ : length m ≡ 4 * length ts) (sized₂ : length n ≡ 4 * length us) where
  wrong_first : (k : ℕ) → k < length ts → wrong_at (ts ++ us) (m ++ n) k ≡ wrong_at ts m k
  unfolding wrong_at
  wrong_first k l = rw (get_or-append ts us number k l, word_first m n (4 * k) (omega arith))

  wrong_second : (k : ℕ) → k < length us → wrong_at (ts ++ us) (m ++ n) (length ts + k) ≡ wrong_at us n k
  unfolding wrong_at
  wrong_second k l = rw (get_or-append-add ts us k number, word-second m n (4 * (length ts + k)) (4 * k) (omega arith))

  data_first : (vs : List ValueType) (k : ℕ) → 4 * (k + length vs) ≤ length m → data_from (m ++ n) k vs ≡ data_from m k vs
  unfolding data_from
  data_first [] k l = refl
  data_first (v ∷ vs) k l = rw (word_first m n (4 * k) (omega arith), data_first vs (suc k) (omega arith))

  data_second : (vs : List ValueType) (j k : ℕ) → j ≡ length ts + k → data_from (m ++ n) j vs ≡ data_from n k vs
  unfolding data_from
  data_second [] j k e = refl
  data_second (v ∷ vs) j k e = rw (word-second m n (4 * j) (4 * k) (omega arith), data_second vs (suc j) (suc k) (omega arith))

  data_append : (row : List ℕ) (vs ws : List ValueType) (k : ℕ)
      → data_from row k (vs ++ ws) ≡ data_from row k vs ++ data_from row (k + length vs) ws
  unfolding data_from
  data_append row [] ws k = rw add-zero
  data_append row (v ∷ vs) ws k =
      let e : k + suc (length vs) ≡ suc k + length vs = omega arith in rw (e, data_append row vs ws (suc k))

  abbrev held : List ValueType → List ℕ → List Datum
  held vs row = data_from row 0 vs

  data_joined : held (ts ++ us) (m ++ n) ≡ held ts m ++ held us n
  data_joined =
      data_append (m ++ n) ts us 0 ∙ ap₂ ◌++◌ (data_first ts 0 (omega arith)) (data_second us (0 + length ts) 0 (omega arith))

  row_sized : length (m ++ n) ≡ 4 * length (ts ++ us)
  row_sized = rw (length-append m n, length-append ts us) (omega arith)

  pub inputs-of-joined : {xs ys : List Datum} → inputs_of ts m ≡ result xs → inputs_of us n ≡ result ys
      → inputs_of (ts ++ us) (m ++ n) ≡ result (xs ++ ys)
  unfolding inputs_of
  inputs-of-joined =
      both-pass 4 InputLength InputContent wrong_at held ts us m n sized₁ sized₂ wrong_first wrong_second data_joined row_sized

  pub inputs-of-parts : {xs : List Datum} → inputs_of (ts ++ us) (m ++ n) ≡ result xs
      → (inputs_of ts m ≡ result (data_from m 0 ts)) × (inputs_of us n ≡ result (data_from n 0 us))
  unfolding inputs_of
  inputs-of-parts =
      parts-pass 4 InputLength InputContent wrong_at held ts us m n sized₁ sized₂ wrong_first wrong_second data_joined row_sized

-- What is read is as long as what it is read for.
pub memory_counted : (forms : List CellForm) (memory : List ℕ) {cells : List Cell} → memory_of forms memory ≡ result cells
    → length cells ≡ length forms
memory_counted forms memory r = sym (pairwise-length (memory_valid forms memory r))

pub row-counted : (types : List ValueType) (row : List ℕ) {inputs : List Datum} → inputs_of types row ≡ result inputs
    → length inputs ≡ length types
row-counted types row r = sym (pairwise-length (row-valid types row r))
