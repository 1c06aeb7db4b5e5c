-- A memory and a row that pass their checks hold valid cells and data; what is valid is written, passes and reads back as itself; the
-- memory is valid at the start.
use Rattle.std.specs.Prelude.{ℕ, zero, suc, ◌+◌, ◌*◌, ◌<◌, ◌≡◌, Bool, true, false, cond, eqb, length, get_or}
use Rattle.std.proofs.Math.Path.{refl}
use Rattle.std.proofs.Common.{sym, ap, subst, zero-add, arith, length-append, get_or-append-add, eq-eqb, to_z-of_z}
use mathlib.Core.List.{List, [], ◌∷◌, ◌++◌, map-append}
use Rattle.std.proofs.lemmas.Bool.{not-false}
use Rattle.std.proofs.Math.Facts.{Fits-of_z}
use Rattle.numbers.specs.Words.{word_at, word_bytes}
use Rattle.sheet.specs.Data.{ValueType, boolean, number, type_of, IsOf, stands_for, datum_of, word_of}
use Rattle.sheet.specs.Expressions.{Expression, constant, wire, input, last, unary, binary, conditional, switch, pre, fby, kept}
use Rattle.sheet.specs.Expressions.{Alternatives, only, either, Switch, present, reset, machine}
use Rattle.sheet.specs.Expressions.{CellForm, fby_cell, switch_forms, cell_forms, forms_in}
use Rattle.sheet.specs.Outcomes.{result}
use Rattle.sheet.specs.Sheets.{Sheet, forms_of, sheet_forms}
use Rattle.sheet.specs.Memory.{cell_bytes, memory_bytes, mark_at, cell_word_at, read_cell}
use Rattle.sheet.specs.Memory.{valid_cell, invalid_at, cells_from, memory_of, start_memory}
use Rattle.sheet.specs.Rows.{row_bytes, wrong_at, data_from, inputs_of}
use Rattle.sheet.specs.Typing.{Pairwise, done, ◌then◌, unary_type, operand_type, HasType, AlternativesHaveType, HaveTypes, WellTyped}
use Rattle.sheet.specs.Typing.{ValidCell, ValidCells, ValidMemory, ValidRow}
use Rattle.sheet.specs.Laws.Lowest.{none-lowest}
use Rattle.sheet.specs.Laws.Outcomes.{same-result, length-passed, any-passed}
use Rattle.sheet.proofs.Laws.Typing.{datum-is, own-type}
use Rattle.sheet.specs.declared.Datum.{Datum}
use Rattle.sheet.specs.declared.Datum.TheVariants.{Boolean, Number}
use Rattle.sheet.specs.declared.Cell.{Cell}
use Rattle.sheet.specs.declared.Cell.TheVariants.{NotStarted, Started}
use Rattle.sheet.specs.declared.Refusal.TheVariants.{MemoryLength, CellContent, InputLength, InputContent}

pub pairwise-length : {A B : Type 0} {R : A → B → Type 0} {xs : List A} {ys : List B} → Pairwise R xs ys → length xs ≡ length ys
pairwise-length done = refl
pairwise-length (p then ps) = ap suc (pairwise-length ps)

pub pairwise_append : {A B : Type 0} {R : A → B → Type 0} {xs us : List A} {ys vs : List B}
    → Pairwise R xs ys → Pairwise R us vs → Pairwise R (xs ++ us) (ys ++ vs)
pairwise_append done qs = qs
pairwise_append (p then ps) qs = p then pairwise_append ps qs

-- What passes 12 and 13: the length, the test of each cell, and the cells.
pub record MemoryRead (forms : List CellForm) (memory : List ℕ) (cells : List Cell) : Type 0 where
  pub sized : length memory ≡ 5 * length forms
  pub valid : (k : ℕ) → k < length forms
      → valid_cell (get_or forms k (fby_cell boolean)) (mark_at memory k) (cell_word_at memory k) ≡ true
  pub is : cells ≡ cells_from memory 0 forms

pub memory_view : (forms : List CellForm) (memory : List ℕ) {cells : List Cell} → memory_of forms memory ≡ result cells
    → MemoryRead forms memory cells
unfolding memory_of invalid_at
memory_view forms memory {cells} e =
    let (sized, e₁) = length-passed MemoryLength (length memory) (5 * length forms) _ e in
    let (valid, e₂) = any-passed CellContent (invalid_at forms memory) (length forms) _ e₁ in
    record { sized = sized; valid = λ k l. not-false _ (valid k l); is = sym (same-result e₂) }

valid-cell : (type : ValueType) (start : Cell) (mark word : ℕ) → valid_cell (record { type = type; start = start }) mark word ≡ true
    → ValidCell (record { type = type; start = start }) (cond (eqb mark 0) NotStarted (Started (datum_of type word)))
valid-cell type start mark word e = go start (eqb mark 0) refl e
  where
    go : (c : Cell) (b : Bool) → eqb mark 0 ≡ b → valid_cell (record { type = type; start = c }) mark word ≡ true
        → ValidCell (record { type = type; start = c }) (cond b NotStarted (Started (datum_of type word)))
    go NotStarted true q e = refl
    go (Started d) true q e = cc (rw q at e)
    go NotStarted false q e = datum-is type word
    go (Started d) false q e = datum-is type word

cells-valid : (memory : List ℕ) (k : ℕ) (forms : List CellForm)
    → ((i : ℕ) → i < length forms → valid_cell (get_or forms i (fby_cell boolean)) (mark_at memory (k + i)) (cell_word_at memory (k + i)) ≡ true)
    → ValidCells forms (cells_from memory k forms)
unfolding cells_from
cells-valid memory k [] h = done
cells-valid memory k (f ∷ fs) h =
    let here : k + 0 ≡ k = omega arith in
    valid-cell f.type f.start (mark_at memory k) (cell_word_at memory k) (rw here at (h 0 (omega arith)))
    then cells-valid memory (suc k) fs (λ i l. let e : k + suc i ≡ suc k + i = omega arith in rw e at (h (suc i) (omega arith)))

pub memory_valid : (forms : List CellForm) (memory : List ℕ) {cells : List Cell} → memory_of forms memory ≡ result cells
    → ValidCells forms cells
memory_valid forms memory e =
    let v = memory_view forms memory e in
    subst (λ x. ValidCells forms x) (sym v.is) (cells-valid memory 0 forms (λ i l. rw (zero-add i) (v.valid i l)))

-- What passes 14 and 15.
data_valid : (row : List ℕ) (i : ℕ) (types : List ValueType) → ValidRow types (data_from row i types)
unfolding data_from
data_valid row i [] = done
data_valid row i (t ∷ ts) = datum-is t (word_at row (4 * i)) then data_valid row (suc i) ts

pub row-valid : (types : List ValueType) (row : List ℕ) {ds : List Datum} → inputs_of types row ≡ result ds → ValidRow types ds
unfolding inputs_of
row-valid types row e =
    let (sized, e₁) = length-passed InputLength (length row) (4 * length types) _ e in
    let (right, e₂) = any-passed InputContent (wrong_at types row) (length types) _ e₁ in
    subst (ValidRow types) (same-result e₂) (data_valid row 0 types)

-- What is written: its length, and how it reads back.
pub cell-length : (c : Cell) → length (cell_bytes c) ≡ 5
cell-length NotStarted = refl
cell-length (Started d) = refl

pub memory_length : (cells : List Cell) → length (memory_bytes cells) ≡ 5 * length cells
unfolding memory_bytes
memory_length [] = refl
memory_length (c ∷ cs) = simp (length-append, cell-length) (omega (arith, memory_length cs))

pub row-length : (ds : List Datum) → length (row_bytes ds) ≡ 4 * length ds
unfolding row_bytes
row-length [] = refl
row-length (d ∷ ds) = omega (arith, row-length ds)

-- the word of a datum stands for it
pub word_below : (t : ValueType) (d : Datum) → IsOf t d → word_of d < 4294967296
word_below boolean (Boolean true) h = omega arith
word_below boolean (Boolean false) h = omega arith
word_below number (Number z) h = (Fits-of_z h).fits
word_below boolean (Number z) h = elim h [ ]
word_below number (Boolean _) h = elim h [ ]

pub word_stands : (t : ValueType) (d : Datum) → IsOf t d → stands_for t (word_of d) ≡ true
word_stands boolean (Boolean true) h = refl
word_stands boolean (Boolean false) h = refl
word_stands number (Number z) h = refl
word_stands boolean (Number z) h = elim h [ ]
word_stands number (Boolean _) h = elim h [ ]

pub word_back : (t : ValueType) (d : Datum) → IsOf t d → datum_of t (word_of d) ≡ d
word_back boolean (Boolean true) h = refl
word_back boolean (Boolean false) h = refl
word_back number (Number z) h = ap Number (to_z-of_z h)
word_back boolean (Number z) h = elim h [ ]
word_back number (Boolean _) h = elim h [ ]

-- Behind the bytes of a cell the others stand one number further on.
module _ (c : Cell) (rest : List ℕ) where
  byte-behind : (n m : ℕ) → m ≡ 5 + n → get_or (cell_bytes c ++ rest) m 0 ≡ get_or rest n 0
  byte-behind n m e =
      let place : m ≡ length (cell_bytes c) + n = omega (arith, cell-length c) in
      rw place (get_or-append-add (cell_bytes c) rest n 0)

  mark-behind : (k : ℕ) → mark_at (cell_bytes c ++ rest) (suc k) ≡ mark_at rest k
  mark-behind k = byte-behind (5 * k) (5 * suc k) (omega arith)

  word-behind : (k : ℕ) → cell_word_at (cell_bytes c ++ rest) (suc k) ≡ cell_word_at rest k
  word-behind k =
      let at = 5 * k + 1 in
      let far = 5 * suc k + 1 in
      rw (
        byte-behind at far (omega arith),
        byte-behind (at + 1) (far + 1) (omega arith),
        byte-behind (at + 2) (far + 2) (omega arith),
        byte-behind (at + 3) (far + 3) (omega arith),
      )

  cells-behind : (k : ℕ) (forms : List CellForm) → cells_from (cell_bytes c ++ rest) (suc k) forms ≡ cells_from rest k forms
  unfolding cells_from
  cells-behind k [] = refl
  cells-behind k (f ∷ fs) = rw (mark-behind k, word-behind k, cells-behind (suc k) fs)

-- the first cell reads back, and passes its test
word_first : (mark x : ℕ) (rest : List ℕ) → x < 4294967296 → word_at (mark ∷ word_bytes x ++ rest) 1 ≡ x
word_first mark x rest h = omega arith

first_back : (type : ValueType) (start c : Cell) (rest : List ℕ) → ValidCell (record { type = type; start = start }) c
    → read_cell type (cell_bytes c ++ rest) 0 ≡ c
first_back type start NotStarted rest h = refl
first_back type start (Started d) rest h =
    rw (word_first 1 (word_of d) rest (word_below type d h)) (ap Started (word_back type d h))

first-valid : (type : ValueType) (start c : Cell) (rest : List ℕ) → ValidCell (record { type = type; start = start }) c
    → valid_cell (record { type = type; start = start }) (mark_at (cell_bytes c ++ rest) 0) (cell_word_at (cell_bytes c ++ rest) 0) ≡ true
first-valid type start NotStarted rest h = rw h
first-valid type start (Started d) rest h =
    rw (word_first 1 (word_of d) rest (word_below type d h)) (word_stands type d h)

cells-back : {forms : List CellForm} {cells : List Cell} → ValidCells forms cells → cells_from (memory_bytes cells) 0 forms ≡ cells
unfolding memory_bytes cells_from
cells-back done = refl
cells-back (◌then◌ {x = f} {y = c} {xs = fs} {ys = cs} p ps) =
    rw (first_back f.type f.start c (memory_bytes cs) p, cells-behind c (memory_bytes cs) 0 fs, cells-back ps)

cells-pass : {forms : List CellForm} {cells : List Cell} → ValidCells forms cells → (k : ℕ) → k < length forms
    → invalid_at forms (memory_bytes cells) k ≡ false
unfolding memory_bytes invalid_at
cells-pass done k l = absurd (omega arith)
cells-pass (◌then◌ {x = f} {y = c} {ys = cs} p ps) zero l = rw (first-valid f.type f.start c (memory_bytes cs) p)
cells-pass (◌then◌ {y = c} {ys = cs} p ps) (suc k) l =
    rw (mark-behind c (memory_bytes cs) k, word-behind c (memory_bytes cs) k) (cells-pass ps k (omega arith))

-- what an instant writes passes 12 and 13 again and reads back as itself
pub memory_back : {forms : List CellForm} {cells : List Cell} → ValidCells forms cells → memory_of forms (memory_bytes cells) ≡ result cells
unfolding memory_of
memory_back {forms} {cells} h =
    let sized : length (memory_bytes cells) ≡ 5 * length forms = omega (arith, memory_length cells, pairwise-length h) in
    rw (
      eq-eqb (length (memory_bytes cells)) (5 * length forms) sized,
      none-lowest (invalid_at forms (memory_bytes cells)) (length forms) (cells-pass h),
      cells-back h,
    )

-- The memory is valid at the start.
own_is : (t : ValueType) (d : Datum) → IsOf t d → IsOf (type_of d) d
own_is t d h = rw (own-type t d h) h

abbrev StartValid : List CellForm → Type 0
StartValid forms = ValidCells forms (start_memory forms)

both-start : (forms more : List CellForm) → StartValid forms → StartValid more → StartValid (forms ++ more)
unfolding start_memory
both-start forms more p q = rw map-append (pairwise_append p q)

switch-start : (o : Switch) → StartValid (switch_forms o)
unfolding start_memory
switch-start present = done
switch-start reset = done
switch-start machine = tt then done

module _ (is ws : List ValueType) where
  mutual
    unfolding HasType cell_forms start_memory

    pub start-valid : (t : ValueType) (e : Expression) → HasType is ws t e → ValidCells (cell_forms e) (start_memory (cell_forms e))
    start-valid t (constant d) h = done
    start-valid t (wire w) h = done
    start-valid t (input i) h = done
    start-valid t (last w) h = done
    start-valid t (unary o a) h = start-valid (unary_type o) a h.1
    start-valid t (binary o a b) h =
        both-start (cell_forms a) (cell_forms b) (start-valid (operand_type o) a h.1) (start-valid (operand_type o) b h.2)
    start-valid t (conditional c a b) h =
        both-start (cell_forms c) (cell_forms a ++ cell_forms b) (start-valid boolean c h.0)
        (both-start (cell_forms a) (cell_forms b) (start-valid t a h.1) (start-valid t b h.2))
    start-valid t (switch o cs bs) h =
        both-start (switch_forms o) (forms_in cs ++ forms_in bs) (switch-start o)
        (both-start (forms_in cs) (forms_in bs) (start_in_lem boolean cs h.0) (start_in_lem t bs h.1))
    start-valid t (pre d a) h = own_is t d h.0 then start-valid t a h.1
    start-valid t (fby u a b) h =
        refl then both-start (cell_forms a) (cell_forms b) (start-valid t a h.1) (start-valid t b h.2)
    start-valid t (kept u a) h = datum-is u 0 then start-valid t a h.1

    start_in_lem : (t : ValueType) (xs : Alternatives) → AlternativesHaveType is ws t xs → StartValid (forms_in xs)
    start_in_lem t (only a) h = start-valid t a h
    start_in_lem t (either a b) h = both-start (cell_forms a) (cell_forms b) (start-valid t a h.0) (start-valid t b h.1)

pub starts-valid : (input_types wire_types : List ValueType) {ts : List ValueType} {es : List Expression}
    → HaveTypes input_types wire_types ts es → ValidCells (forms_of es) (start_memory (forms_of es))
unfolding forms_of start_memory
starts-valid is ws done = done
starts-valid is ws (◌then◌ {x = t} {y = e} {ys = es} h hs) =
    both-start (cell_forms e) (forms_of es) (start-valid is ws t e h) (starts-valid is ws hs)

pub start_memory_valid : (sheet : Sheet) → WellTyped sheet → ValidMemory sheet (start_memory (sheet_forms sheet))
start_memory_valid sheet h = starts-valid sheet.input_types sheet.wire_types h
