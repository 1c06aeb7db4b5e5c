-- The numbers with which the check and the start refuse, 1 to 11 and 1 to 12, and that the place of every refusal is at most 4,096, so
-- that a packed number keeps number and place apart.
use Prim.Native.Nat.{ℕ, zero, suc, ◌+◌, ◌*◌, ◌≤◌, zero-le}
use Rattle.std.specs.Prelude.{◌≡◌, refl, Bool, cond, get_or, eqb, ltb, leb}
use Rattle.std.proofs.Math.Bool.{true, false}
use mathlib.Core.List.{List, [], ◌∷◌}
use Rattle.std.proofs.Common.{arith}
use Rattle.std.proofs.Math.ListN.{length}
use borrow.Author.Tests.{leb-false, ltb-true, ltb-false}
use Rattle.sheet.specs.Expressions.{Expression, CellForm}
use Rattle.sheet.specs.Kinds.{body_of, cells_of, operands_of, limit_of, names_unkept, found_of, kind_count}
use Rattle.sheet.specs.Data.{ValueType}
use Rattle.sheet.specs.Memory.{invalid_at, memory_of, start_outcome, start_call}
use Rattle.sheet.specs.Rows.{wrong_at, inputs_of}
use Rattle.sheet.specs.Outcomes.{Outcome, refusal, result, followed_by, lowest, unless_length, unless_any, number_of, done_of}
use Rattle.sheet.specs.Readings.{Reading, refused, got, and_then, on_read, read_each, named_at, names_of, body_from, own_of, read_expression}
use Rattle.sheet.specs.Headers.{field_of, bytes_of, section_of}
use Rattle.sheet.specs.Data.{plain_byte}
use Rattle.sheet.specs.Sheets.{Sheet, sheet_forms, before, kept_count, read_wire, read_wires, outputs_from, wires_from, read_sheet, outcome_of, sheet_of}
use Rattle.sheet.specs.Sheets.{checked_of, check_of}
use Rattle.sheet.specs.Laws.Readings.{own_good}
use Rattle.sheet.specs.Laws.Outcomes.{refused-parts}
use Rattle.sheet.specs.declared.Refusal.{Refusal}
use Rattle.sheet.specs.declared.Refusal.TheVariants.{SheetLength, Cut, CountRange, TypeByte, OutputWire}
use Rattle.sheet.specs.declared.Refusal.TheVariants.{Kind, Body, Level, TypeAsked, CellLimit, LeftOver}
use Rattle.sheet.specs.declared.Refusal.TheVariants.{MemoryLength, CellContent, InputLength, InputContent, OutputLength}
use Rattle.sheet.specs.declared.Refusal.TheVariants.{ScheduleLength, ScheduleEntry, ScheduleOrder, StaysUnknown, NoSchedule, BoardFrame, JoinedLimit}
use Rattle.sheet.specs.Outcomes.{refused_at}
use Rattle.sheet.specs.Readings.{got_at}
use Rattle.sheet.specs.declared.Got.{Got}
use Rattle.sheet.specs.declared.Refused.{Refused}
use Rattle.std.specs.Prelude.{Result, Ok, Err}

-- a refusal with a number of at most `most`, at a place of at most n
pub record Within (most n : ℕ) (why : Refusal) (place : ℕ) : Type 0 where
  pub number : number_of why ≤ most
  pub bounded : place ≤ n

-- where something is refused, it is with such a number and at such a place
pub data ReadWithin (n : ℕ) : Result Got Refused → Type 0 where
  refused-within : {why : Refusal} {place : ℕ} → Within 11 n why place → ReadWithin n (refused_at why place)
  got-within : {next count : ℕ} → ReadWithin n (got_at next count)

pub data ReadingWithin {A : Type 0} (n : ℕ) : Reading A → Type 0 where
  refused-within : {why : Refusal} {place : ℕ} → Within 11 n why place → ReadingWithin n (refused why place)
  got-within : {a : A} {next count : ℕ} → ReadingWithin n (got a next count)

pub data OutcomeWithin {A : Type 0} (most : ℕ) : Outcome A → Type 0 where
  refusal-within : {why : Refusal} {place : ℕ} → Within most 4096 why place → OutcomeWithin most (refusal why place)
  result-within : {a : A} → OutcomeWithin most (result a)

-- by a test
pub by-test : {A : Type 0} (P : A → Type 0) (t : Bool) {a b : A} → (t ≡ true → P a) → (t ≡ false → P b) → P (cond t a b)
by-test P true f g = f refl
by-test P false f g = g refl

module _ {A : Type 0} (n : ℕ) where
  on-read-within : (x : Result Got Refused) (f : ℕ → ℕ → Reading A) → ReadWithin n x → ((m j : ℕ) → x ≡ got_at m j → ReadingWithin n (f m j))
      → ReadingWithin n (on_read x refused f)
  on-read-within (Err r) f (refused-within l) h = refused-within l
  on-read-within (Ok a) f got-within h = h a.next a.count refl

  and-then-within : {B : Type 0} (x : Reading B) (f : B → ℕ → ℕ → Reading A) → ReadingWithin n x
      → ((b : B) (m j : ℕ) → ReadingWithin n (f b m j)) → ReadingWithin n (and_then x f)
  and-then-within (refused why place) f (refused-within l) h = refused-within l
  and-then-within (got b m j) f got-within h = h b m j

-- The header.
module _ (s : List ℕ) where
  refused-at : {why : Refusal} {place : ℕ} → number_of why ≤ 11 → place ≤ length s → ReadWithin (length s) (refused_at why place)
  refused-at few l = refused-within (record { number = few; bounded = l })

  field-within : (at low limit : ℕ) (wrong : Refusal) → number_of wrong ≤ 11 → ReadWithin (length s) (field_of s at low limit wrong)
  unfolding field_of
  field-within at low limit wrong few =
      by-test (ReadWithin (length s)) (leb (length s) at) (λ e. refused-at (omega arith) (omega arith)) (λ e.
      let here = leb-false (length s) at e in
      by-test (ReadWithin (length s)) (ltb (get_or s at 0) low) (λ f. refused-at few (omega arith)) (λ f.
      by-test (ReadWithin (length s)) (leb limit (get_or s at 0)) (λ g. refused-at few (omega arith)) (λ g. got-within)))

  on-field-within : (x : Result Got Refused) (f : ℕ → ℕ → Result Got Refused) → ReadWithin (length s) x → ((m j : ℕ) → ReadWithin (length s) (f m j))
      → ReadWithin (length s) (on_read x refused_at f)
  on-field-within (Err r) f (refused-within l) h = refused-within l
  on-field-within (Ok a) f got-within h = h a.next a.count

  bytes-within : (n at low limit : ℕ) (rising : Bool) (wrong : Refusal) (count : ℕ) → number_of wrong ≤ 11
      → ReadWithin (length s) (bytes_of s n at low limit rising wrong count)
  unfolding bytes_of
  bytes-within zero at low limit rising wrong count few = got-within
  bytes-within (suc n) at low limit rising wrong count few =
      on-field-within (field_of s at low limit wrong) _ (field-within at low limit wrong few) (λ m b.
      bytes-within n m (cond rising (b + 1) 0) limit rising wrong count few)

  section-within : (at fewest excess limit : ℕ) (rising : Bool) (wrong : Refusal) → number_of wrong ≤ 11
      → ReadWithin (length s) (section_of s at fewest excess limit rising wrong)
  unfolding section_of
  section-within at fewest excess limit rising wrong few =
      on-field-within (field_of s at fewest excess CountRange) _ (field-within at fewest excess CountRange (omega arith)) (λ m n.
      bytes-within n m 0 limit rising wrong n few)

-- The expressions.
module _ (inputs wires s : List ℕ) where
  own-within : (level t at c : ℕ) → ReadWithin (length s) (own_of inputs wires s level t at c)
  unfolding own_of body_from names_of
  own-within level t at c =
      by-test (ReadWithin (length s)) (leb (length s) at) (λ e. refused-at s (omega arith) (omega arith)) (λ e.
      let here = leb-false (length s) at e in
      by-test (ReadWithin (length s)) (leb kind_count (get_or s at 0)) (λ f. refused-at s (omega arith) (omega arith)) (λ f.
      by-test (ReadWithin (length s)) (eqb level 0) (λ g. refused-at s (omega arith) (omega arith)) (λ g.
      by-test (ReadWithin (length s)) (ltb 64 (c + cells_of (get_or s at 0))) (λ h. refused-at s (omega arith) (omega arith)) (λ h.
      by-test (ReadWithin (length s)) (ltb (length s) (at + 1 + body_of (get_or s at 0))) (λ i. refused-at s (omega arith) (omega arith)) (λ i.
      by-test (ReadWithin (length s)) (leb (limit_of inputs wires (get_or s at 0)) (named_at s at))
      (λ j. refused-at s (omega arith) (omega arith)) (λ j.
      by-test (ReadWithin (length s)) (names_unkept wires (get_or s at 0) (named_at s at)) (λ k. refused-at s (omega arith) (omega arith)) (λ k.
      by-test (ReadWithin (length s)) (eqb (found_of inputs wires t (get_or s at 0) (named_at s at)) t) (λ l. got-within) (λ l.
      refused-at s (omega arith) (omega arith)))))))))

  each_within : (read : ℕ → ℕ → ℕ → Reading Expression) → ((t at c : ℕ) → ReadingWithin (length s) (read t at c))
      → (ts : List ℕ) (at c : ℕ) → ReadingWithin (length s) (read_each read ts at c)
  unfolding read_each
  each_within read one [] at c = got-within
  each_within read one (t ∷ ts) at c =
      and-then-within (length s) (read t at c) _ (one t at c) (λ e n k.
      and-then-within (length s) (read_each read ts n k) _ (each_within read one ts n k) (λ es m j. got-within))

  expression_within : (level t at c : ℕ) → ReadingWithin (length s) (read_expression inputs wires s level t at c)
  unfolding read_expression
  expression_within zero t at c =
      on-read-within (length s) (own_of inputs wires s zero t at c) _ (own-within zero t at c) (λ m j e.
      absurd (omega (arith, own_good inputs wires s zero t at c e)))
  expression_within (suc l) t at c =
      on-read-within (length s) (own_of inputs wires s (suc l) t at c) _ (own-within (suc l) t at c) (λ m j e.
      and-then-within (length s) (read_each (read_expression inputs wires s l) (operands_of (get_or s at 0) t) m j) _
      (each_within (read_expression inputs wires s l) (expression_within l) (operands_of (get_or s at 0) t) m j) (λ os n k. got-within))

  wires-within : (at : ℕ) → ReadingWithin (length s) (read_wires inputs wires s at)
  unfolding read_wires
  wires-within at =
      each_within (read_wire inputs wires s) (λ b a c.
      and-then-within (length s) (read_expression inputs wires s 16 (plain_byte b) a c) _ (expression_within 16 (plain_byte b) a c) (λ e n k. got-within))
      wires at (kept_count wires)

-- The sheet: the place of a refusal is in it or at its end.
module _ (s : List ℕ) where
  from-inputs-inside : ReadingWithin (length s) (on_read (section_of s 0 0 17 2 false TypeByte) refused (λ n k. wires_from s (before s n k) n))
  unfolding wires_from outputs_from
  from-inputs-inside =
      on-read-within (length s) (section_of s 0 0 17 2 false TypeByte) _ (section-within s 0 0 17 2 false TypeByte (omega arith)) (λ m j g.
      on-read-within (length s) (section_of s m 1 65 4 false TypeByte) _ (section-within s m 1 65 4 false TypeByte (omega arith)) (λ n k h.
      on-read-within (length s) (section_of s n 1 17 (length (before s n k)) true OutputWire) _
      (section-within s n 1 17 (length (before s n k)) true OutputWire (omega arith)) (λ o l i.
      and-then-within (length s) (read_wires (before s m j) (before s n k) s o) _
      (wires-within (before s m j) (before s n k) s o) (λ es end count.
      by-test (ReadingWithin (length s)) (ltb end (length s))
      (λ q. refused-within {why = LeftOver} (record { number = omega arith; bounded = omega (arith, ltb-true end (length s) q) }))
      (λ q. got-within)))))

  -- the wrong length is refused at 0
  length-refused : (n : ℕ) → ReadingWithin {A = Sheet} n (refused SheetLength 0)
  length-refused n = refused-within {why = SheetLength} (record { number = omega arith; bounded = zero-le })

  pub sheet-inside : ReadingWithin (length s) (read_sheet s)
  unfolding read_sheet
  sheet-inside =
      by-test (ReadingWithin (length s)) (eqb (length s) 0) (λ e. length-refused (length s)) (λ e.
      by-test (ReadingWithin (length s)) (ltb 4096 (length s)) (λ f. length-refused (length s)) (λ f. from-inputs-inside))

  pub sheet-within : ReadingWithin 4096 (read_sheet s)
  unfolding read_sheet
  sheet-within =
      by-test (ReadingWithin 4096) (eqb (length s) 0) (λ e. length-refused 4096) (λ e.
      by-test (ReadingWithin 4096) (ltb 4096 (length s)) (λ f. length-refused 4096) (λ f.
      lift (ltb-false 4096 (length s) f) from-inputs-inside))
    where
      lift : {x : Reading Sheet} → length s ≤ 4096 → ReadingWithin (length s) x → ReadingWithin 4096 x
      lift l (refused-within {place = place} w) =
          let k : place ≤ 4096 = omega (arith, w.bounded) in refused-within (record { number = w.number; bounded = k })
      lift l got-within = got-within

-- The checks behind it.
module _ {A : Type 0} (most : ℕ) where
  pub followed-within : {B : Type 0} (x : Outcome B) (f : B → Outcome A) → OutcomeWithin most x
      → ((b : B) → x ≡ result b → OutcomeWithin most (f b)) → OutcomeWithin most (followed_by x f)
  followed-within (refusal why place) f (refusal-within l) h = refusal-within l
  followed-within (result b) f result-within h = h b refl

  pub length-within : (why : Refusal) (k must : ℕ) (rest : Outcome A) → number_of why ≤ most → OutcomeWithin most rest
      → OutcomeWithin most (unless_length why k must rest)
  length-within why k must rest few h =
      by-test (OutcomeWithin most) (eqb k must) (λ e. h) (λ e. refusal-within (record { number = few; bounded = zero-le }))

  pub any-within : (why : Refusal) (test : ℕ → Bool) (bound : ℕ) (rest : Outcome A) → number_of why ≤ most → bound ≤ 4096
      → OutcomeWithin most rest → OutcomeWithin most (unless_any why test bound rest)
  any-within why test bound rest few l h =
      by-test (OutcomeWithin most) (ltb (lowest test bound) bound)
      (λ e. refusal-within (record { number = few; bounded = omega (arith, ltb-true (lowest test bound) bound e) })) (λ e. h)

  -- a larger number is no less a bound
  pub wider : (least : ℕ) → least ≤ most → (x : Outcome A) → OutcomeWithin least x → OutcomeWithin most x
  wider least l (refusal why place) (refusal-within w) =
      let few : number_of why ≤ most = omega (arith, w.number) in refusal-within (record { number = few; bounded = w.bounded })
  wider least l (result a) result-within = result-within

-- a sheet that is refused is refused with 1 to 11, at a place in it or at its end
pub sheet-refused-inside : (s : List ℕ) {why : Refusal} {place : ℕ} → sheet_of s ≡ refusal why place → Within 11 (length s) why place
unfolding sheet_of
sheet-refused-inside s {why} {place} = go (read_sheet s) (sheet-inside s)
  where
    go : (x : Reading Sheet) → ReadingWithin (length s) x → outcome_of x ≡ refusal why place → Within 11 (length s) why place
    go (refused found at) (refused-within w) e =
        let why-is : found ≡ why = cc in let place_is : at ≡ place = cc in rw (why-is, place_is) at w
    go (got sheet next count) got-within e = absurd (let z : ◌≡◌ {A = ℕ} 0 1 = cc in omega arith)

pub sheet-of-within : (s : List ℕ) → OutcomeWithin 11 (sheet_of s)
unfolding sheet_of
sheet-of-within s = go (read_sheet s) (sheet-within s)
  where
    go : (x : Reading Sheet) → ReadingWithin 4096 x → OutcomeWithin 11 (outcome_of x)
    go (refused why place) (refused-within l) = refusal-within l
    go (got sheet next count) got-within = result-within

pub memory_within_lem : (forms : List CellForm) (memory : List ℕ) → length forms ≤ 64 → OutcomeWithin 13 (memory_of forms memory)
unfolding memory_of
memory_within_lem forms memory l =
    length-within 13 MemoryLength (length memory) (5 * length forms) _ (omega arith)
    (any-within 13 CellContent (invalid_at forms memory) (length forms) _ (omega arith) (omega arith) result-within)

pub inputs-within : (types : List ValueType) (row : List ℕ) → length types ≤ 16 → OutcomeWithin 15 (inputs_of types row)
unfolding inputs_of
inputs-within types row l =
    length-within 15 InputLength (length row) (4 * length types) _ (omega arith)
    (any-within 15 InputContent (wrong_at types row) (length types) _ (omega arith) (omega arith) result-within)

start-within : (s memory : List ℕ) → OutcomeWithin 12 (start_outcome s memory)
unfolding start_outcome
start-within s memory =
    followed-within 12 (sheet_of s) _ (wider 12 11 (omega arith) (sheet_of s) (sheet-of-within s)) (λ sheet e.
    length-within 12 MemoryLength (length memory) (5 * length (sheet_forms sheet)) _ (omega arith) result-within)

-- the check refuses with 1 to 11
pub check_refusals : (s : List ℕ) {why : Refusal} {place : ℕ} → check_of s ≡ refused_at why place → Within 11 4096 why place
check_refusals s {why} {place} = go (read_sheet s) (sheet-within s)
  where
    go : (x : Reading Sheet) → ReadingWithin 4096 x → checked_of x ≡ refused_at why place → Within 11 4096 why place
    go (refused found at) (refused-within w) e =
        let (why-is, place_is) = refused-parts e in rw (why-is, place_is) at w
    go (got sheet next count) got-within e = absurd (let z : ◌≡◌ {A = ℕ} 0 1 = cc in omega arith)

-- the start refuses with 1 to 12
pub start-refusals : (s memory : List ℕ) {why : Refusal} {place : ℕ} → (start_call s memory).answer ≡ refused_at why place
    → Within 12 4096 why place
unfolding start_call
start-refusals s memory {why} {place} = go (start_outcome s memory) (start-within s memory)
  where
    go : (x : Outcome (List ℕ)) → OutcomeWithin 12 x → done_of x ≡ refused_at why place → Within 12 4096 why place
    go (refusal found at) (refusal-within w) e =
        let (why-is, place_is) = refused-parts e in rw (why-is, place_is) at w
    go (result bytes) result-within e = absurd (let z : ◌≡◌ {A = ℕ} 0 1 = cc in omega arith)

-- a number that is packed keeps number and place apart
pub numbers-few : (why : Refusal) → number_of why ≤ 23
numbers-few SheetLength = omega arith
numbers-few Cut = omega arith
numbers-few CountRange = omega arith
numbers-few TypeByte = omega arith
numbers-few OutputWire = omega arith
numbers-few Kind = omega arith
numbers-few Body = omega arith
numbers-few Level = omega arith
numbers-few TypeAsked = omega arith
numbers-few CellLimit = omega arith
numbers-few LeftOver = omega arith
numbers-few MemoryLength = omega arith
numbers-few CellContent = omega arith
numbers-few InputLength = omega arith
numbers-few InputContent = omega arith
numbers-few OutputLength = omega arith
numbers-few ScheduleLength = omega arith
numbers-few ScheduleEntry = omega arith
numbers-few ScheduleOrder = omega arith
numbers-few StaysUnknown = omega arith
numbers-few NoSchedule = omega arith
numbers-few BoardFrame = omega arith
numbers-few JoinedLimit = omega arith
