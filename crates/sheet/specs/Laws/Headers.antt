-- The laws of a header and of a sheet that reads: where each section stands, what its bytes are, and how the expressions read.
use Prim.Native.Nat.{ℕ, zero, suc, ◌+◌, ◌-◌, ◌≤◌, ◌<◌}
use Rattle.std.specs.Prelude.{◌≡◌, refl, Bool, true, false, List, map, leb, ltb, eqb, length}
use Rattle.std.proofs.Common.{sym, ap₂, ◌∙◌, length-take, length-drop, get_or-take, get_or-drop}
use native.Mathlib.Omega.{arith}
use Rattle.std.proofs.Math.ListN.{get_or}
use borrow.Author.Tests.{leb-false, ltb-false, eqb-false}
use Rattle.sheet.specs.Data.{type_of_byte, wire_type}
use Rattle.sheet.specs.Expressions.{Expression}
use Rattle.sheet.specs.Readings.{got, on_read}
use Rattle.sheet.specs.Headers.{field_of, bytes_of, section_of}
use Rattle.sheet.specs.Sheets.{Sheet, before, read_wires, outputs_from, wires_from, read_sheet}
use Rattle.sheet.specs.Laws.Readings.{not_good, got-next, got-count, passed, passed-reading, and_then-got, on_read-got}
use Rattle.sheet.specs.declared.Refusal.{Refusal}
use Rattle.sheet.specs.declared.Refusal.TheVariants.{CountRange, TypeByte, OutputWire}
use Rattle.sheet.specs.Outcomes.{refused_at}
use Rattle.sheet.specs.Readings.{got_at}
use Rattle.sheet.specs.declared.Got.{Got}
use Rattle.sheet.specs.declared.Refused.{Refused}
use Rattle.std.specs.Prelude.{Result, Ok, Err}

on_read_good : (first : Result Got Refused) (f : ℕ → ℕ → Result Got Refused) {n k : ℕ} → on_read first refused_at f ≡ got_at n k
    → (m : ℕ) × (j : ℕ) × (first ≡ got_at m j) × (f m j ≡ got_at n k)
on_read_good (Err r) f e = not_good e
on_read_good (Ok a) f e = (a.next, a.count, refl, e)

pub got-parts : {A : Type 0} {a b : A} {n k m j : ℕ} → got a n k ≡ got b m j → (b ≡ a) × (m ≡ n) × (j ≡ k)
got-parts e = (cc, cc, cc)

-- a byte that is good
pub record FieldGood (s : List ℕ) (at low limit n b : ℕ) : Type 0 where
  pub here : at < length s
  pub next : n ≡ at + 1
  pub byte : b ≡ get_or s at 0
  pub least : low ≤ b
  pub below : b < limit

-- k bytes from `at` on, each below the limit
pub record BytesGood (s : List ℕ) (at limit n k : ℕ) : Type 0 where
  pub next : n ≡ at + k
  pub within : n ≤ length s
  pub each : (i : ℕ) → i < k → get_or s (at + i) 0 < limit

-- a section from `at` on: its count k, then so many bytes
pub record SectionGood (s : List ℕ) (at fewest excess limit n k : ℕ) : Type 0 where
  pub here : at < length s
  pub count : k ≡ get_or s at 0
  pub least : fewest ≤ k
  pub below : k < excess
  pub bytes : BytesGood s (at + 1) limit n k

module _ (s : List ℕ) where
  pub field_good : (at low limit : ℕ) (wrong : Refusal) {n b : ℕ} → field_of s at low limit wrong ≡ got_at n b → FieldGood s at low limit n b
  unfolding field_of
  field_good at low limit wrong {n} {b} e =
      let has-byte = passed (leb (length s) at) _ _ _ e in
      let above = passed (ltb (get_or s at 0) low) _ _ _ has-byte.1 in
      let under = passed (leb limit (get_or s at 0)) _ _ _ above.1 in
      let next : n ≡ at + 1 = got-next under.1 in
      let byte : b ≡ get_or s at 0 = got-count under.1 in
      record {
        here = leb-false _ _ has-byte.0;
        next = next;
        byte = byte;
        least = omega (arith, ltb-false (get_or s at 0) low above.0);
        below = omega (arith, leb-false limit (get_or s at 0) under.0);
      }

  module _ (limit : ℕ) (rising : Bool) (wrong : Refusal) (count : ℕ) where
    bytes_good : (left at low : ℕ) {n k : ℕ} → at ≤ length s → bytes_of s left at low limit rising wrong count ≡ got_at n k
        → (k ≡ count) × BytesGood s at limit n left
    unfolding bytes_of
    bytes_good zero at low {n} {k} h e =
        let next : n ≡ at = got-next e in
        let same : k ≡ count = got-count e in
        (same, record { next = omega arith; within = omega arith; each = λ i l. absurd (omega arith) })
    bytes_good (suc left) at low {n} h e =
        let (m, b, first, rest) = on_read_good (field_of s at low limit wrong) _ e in
        let g = field_good at low limit wrong first in
        let (same, r) = bytes_good left m _ (omega (arith, g.here, g.next)) rest in
        (same, record { next = omega arith; within = omega arith; each = each m b g r })
      where
        each : (m b : ℕ) → FieldGood s at low limit m b → BytesGood s m limit n left → (i : ℕ) → i < suc left → get_or s (at + i) 0 < limit
        each m b g r zero l = let e : at + 0 ≡ at = omega arith in rw e (omega arith)
        each m b g r (suc i) l = let e : at + suc i ≡ m + i = omega arith in rw e (r.each i (omega arith))

  pub section_good : (at fewest excess limit : ℕ) (rising : Bool) (wrong : Refusal) {n k : ℕ}
      → section_of s at fewest excess limit rising wrong ≡ got_at n k → SectionGood s at fewest excess limit n k
  unfolding section_of
  section_good at fewest excess limit rising wrong {n} {k} e =
      let (m, j, first, rest) = on_read_good (field_of s at fewest excess CountRange) _ e in
      let g = field_good at fewest excess CountRange first in
      let (same, r) = bytes_good limit rising wrong j j m 0 (omega (arith, g.here, g.next)) rest in
      let bytes : BytesGood s (at + 1) limit n k = rw (same, ← g.next) r in
      record { here = g.here; count = same ∙ g.byte; least = omega arith; below = omega arith; bytes = bytes }

-- a section's bytes as a list
module _ {s : List ℕ} {at fewest excess limit n k : ℕ} (g : SectionGood s at fewest excess limit n k) where
  pub section-length : length (before s n k) ≡ k
  section-length = simp (length-take, length-drop) (omega (arith, g.bytes.next, g.bytes.within))

  pub section-byte : (i : ℕ) → i < k → get_or (before s n k) i 0 < limit
  section-byte i l =
      let e : n - k + i ≡ at + 1 + i = omega (arith, g.bytes.next) in
      rw (get_or-take, get_or-drop, e) (g.bytes.each i l)

-- a sheet that reads, section by section
pub record SheetRead (s : List ℕ) (sheet : Sheet) (n k : ℕ) : Type 0 where
  pub inputs_end : ℕ
  pub input_count : ℕ
  pub wires_end : ℕ
  pub wire_count : ℕ
  pub outputs_end : ℕ
  pub output_count : ℕ
  pub expressions : List Expression
  pub some_byte : 1 ≤ length s
  pub few_bytes : length s ≤ 4096
  pub inputs : section_of s 0 0 17 2 false TypeByte ≡ got_at inputs_end input_count
  pub wires : section_of s inputs_end 1 65 4 false TypeByte ≡ got_at wires_end wire_count
  pub outputs : section_of s wires_end 1 17 (length (before s wires_end wire_count)) true OutputWire ≡ got_at outputs_end output_count
  pub each : read_wires (before s inputs_end input_count) (before s wires_end wire_count) s outputs_end ≡ got expressions n k
  pub nothing_left : length s ≤ n
  pub is : sheet ≡ record {
    input_types = map type_of_byte (before s inputs_end input_count);
    wire_types = map wire_type (before s wires_end wire_count);
    outputs = before s outputs_end output_count;
    expressions = expressions;
  }

pub sheet-view : (s : List ℕ) {sheet : Sheet} {n k : ℕ} → read_sheet s ≡ got sheet n k → SheetRead s sheet n k
unfolding read_sheet wires_from outputs_from
sheet-view s {sheet} {n} {k} e =
    let some_byte = passed-reading (eqb (length s) 0) _ _ _ e in
    let few_bytes = passed-reading (ltb 4096 (length s)) _ _ _ some_byte.1 in
    let (n₁, k₁, inputs, e₁) = on_read-got (section_of s 0 0 17 2 false TypeByte) _ few_bytes.1 in
    let (n₂, k₂, wires, e₂) = on_read-got (section_of s n₁ 1 65 4 false TypeByte) _ e₁ in
    let (n₃, k₃, outputs, e₃) = on_read-got (section_of s n₂ 1 17 (length (before s n₂ k₂)) true OutputWire) _ e₂ in
    let (es, end, count, each, e₄) =
    and_then-got (read_wires (before s n₁ k₁) (before s n₂ k₂) s n₃) _ e₃ in
    let whole = passed-reading (ltb end (length s)) _ _ _ e₄ in
    let (same, next, cells) = got-parts whole.1 in
    record {
      inputs_end = n₁;
      input_count = k₁;
      wires_end = n₂;
      wire_count = k₂;
      outputs_end = n₃;
      output_count = k₃;
      expressions = es;
      some_byte = omega (arith, eqb-false (length s) 0 some_byte.0);
      few_bytes = ltb-false 4096 (length s) few_bytes.0;
      inputs = inputs;
      wires = wires;
      outputs = outputs;
      each = each ∙ ap₂ (got es) (sym next) (sym cells);
      nothing_left = omega (arith, ltb-false end (length s) whole.0);
      is = same;
    }
