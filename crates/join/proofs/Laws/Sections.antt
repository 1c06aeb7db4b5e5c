-- The bytes of an accepted sheet are those of its sections, which are good, and good sections read: where the header of a sheet stands, and
-- its expressions behind it.
use Rattle.std.specs.Prelude.{◌≡◌, refl, ℕ, ◌+◌, ◌≤◌, ◌<◌, true, false, List, ◌++◌, map, length, drop}
use Rattle.std.proofs.Common.{sym, ap, subst, ◌∙◌, arith, ne_eqb, le-ltb}
use Rattle.std.proofs.lemmas.List.{length-map}
use Rattle.sheet.specs.Data.{type_of_byte, wire_type}
use Rattle.sheet.specs.Expressions.{Expression}
use Rattle.sheet.specs.Readings.{Reading, refused, got, on_read}
use Rattle.sheet.specs.Sheets.{Sheet, before, read_wires, expressions_from, outputs_from, wires_from, read_sheet}
use Rattle.sheet.specs.Laws.Headers.{sheet-view}
use Rattle.sheet.specs.declared.Refusal.TheVariants.{TypeByte, OutputWire}
use Rattle.join.specs.Bytes.{Sections, counted, sheet_bytes, section, behind, sections_of}
use Rattle.join.proofs.Laws.Headers.{Ranged, section-read, section-bytes, section-behind, section-view}
use Rattle.sheet.specs.Readings.{got_at}
use Rattle.sheet.specs.declared.Got.{Got}
use Rattle.sheet.specs.declared.Refused.{Refused}
use Rattle.std.specs.Prelude.{Result}

-- where the expressions start
abbrev pub start : Sections → ℕ
start p = 0 + 1 + length p.inputs + 1 + length p.wires + 1 + length p.outputs

-- sections whose bytes read as the sheet, with k cells
pub record GoodSections (p : Sections) (sheet : Sheet) (k : ℕ) : Type 0 where
  pub few_inputs : length p.inputs < 17
  pub some_wires : 1 ≤ length p.wires
  pub few_wires : length p.wires < 65
  pub some_outputs : 1 ≤ length p.outputs
  pub few_outputs : length p.outputs < 17
  pub inputs_ranged : Ranged 2 false 0 p.inputs
  pub wires_ranged : Ranged 4 false 0 p.wires
  pub outputs_ranged : Ranged (length p.wires) true 0 p.outputs
  pub end : ℕ
  pub expressions : List Expression
  pub reads : read_wires p.inputs p.wires (sheet_bytes p) (start p) ≡ got expressions end k
  pub nothing_left : length (sheet_bytes p) ≤ end
  pub is : sheet ≡ record {
    input_types = map type_of_byte p.inputs;
    wire_types = map wire_type p.wires;
    outputs = p.outputs;
    expressions = expressions;
  }

-- the lengths of the sections are the counts of the sheet
module _ {p : Sections} {sheet : Sheet} {k : ℕ} (g : GoodSections p sheet k) where
  pub inputs-counted : length p.inputs ≡ length sheet.input_types
  inputs-counted = sym (ap (λ (x : Sheet). length x.input_types) g.is ∙ length-map p.inputs type_of_byte)

  pub wires-counted : length p.wires ≡ length sheet.wire_types
  wires-counted = sym (ap (λ (x : Sheet). length x.wire_types) g.is ∙ length-map p.wires wire_type)

  pub outputs-counted : length p.outputs ≡ length sheet.outputs
  outputs-counted = sym (ap (λ (x : Sheet). length x.outputs) g.is)

-- the expressions of a sheet stand behind its header
pub expressions_at : (p : Sections) → drop (start p) (sheet_bytes p) ≡ p.expressions
expressions_at p =
    let s = sheet_bytes p in
    let e₂ = section-behind s p.inputs (counted p.wires ++ (counted p.outputs ++ p.expressions)) 0 refl in
    let e₃ = section-behind s p.wires (counted p.outputs ++ p.expressions) (0 + 1 + length p.inputs) e₂ in
    section-behind s p.outputs p.expressions (0 + 1 + length p.inputs + 1 + length p.wires) e₃

same-reading : {ins ins' ws ws' s s' : List ℕ} {at at' : ℕ} → ins ≡ ins' → ws ≡ ws' → s ≡ s' → at ≡ at'
    → read_wires ins ws s at ≡ read_wires ins' ws' s' at'
same-reading p q r t = rw (p, q, r, t)

-- the bytes of an accepted sheet are those of its sections, which are good
pub sections_view : (s : List ℕ) {sheet : Sheet} {n k : ℕ} → read_sheet s ≡ got sheet n k
    → (sheet_bytes (sections_of s) ≡ s) × GoodSections (sections_of s) sheet k
unfolding sections_of
sections_view s {sheet} {n} {k} r =
    let v = sheet-view s r in
    let a = section-view s s 0 0 17 2 false TypeByte refl v.inputs in
    let b = section-view s (behind s) v.inputs_end 1 65 4 false TypeByte a.rest v.wires in
    let c = section-view s (behind (behind s)) v.wires_end 1 17 _ true OutputWire b.rest v.outputs in
    let whole : sheet_bytes (sections_of s) ≡ s = sym (a.whole ∙ ap (λ x. counted (section s) ++ x)
    (b.whole ∙ ap (λ x. counted (section (behind s)) ++ x) c.whole)) in (
      whole,
      record {
        few_inputs = a.below;
        some_wires = b.least;
        few_wires = b.below;
        some_outputs = c.least;
        few_outputs = c.below;
        inputs_ranged = a.ranged;
        wires_ranged = b.ranged;
        outputs_ranged = rw b.bytes at c.ranged;
        end = n;
        expressions = v.expressions;
        reads = same-reading (sym a.bytes) (sym b.bytes) whole (omega (arith, a.next, b.next, c.next)) ∙ v.each;
        nothing_left = subst (λ x. length x ≤ n) (sym whole) v.nothing_left;
        is = rw (a.bytes, b.bytes, c.bytes) at v.is;
      },
    )

-- and good sections read
after-section : (s bs : List ℕ) (at : ℕ) (first : Result Got Refused) (f : List ℕ → ℕ → Reading Sheet) → first ≡ got_at (at + 1 + length bs) (length bs)
    → before s (at + 1 + length bs) (length bs) ≡ bs
    → on_read first refused (λ n k. f (before s n k) n) ≡ f bs (at + 1 + length bs)
after-section s bs at first f e b = rw e (ap (λ x. f x (at + 1 + length bs)) b)

pub sections_read : (p : Sections) {sheet : Sheet} {k : ℕ} (g : GoodSections p sheet k) → length (sheet_bytes p) ≤ 4096
    → read_sheet (sheet_bytes p) ≡ got sheet g.end k
unfolding read_sheet wires_from outputs_from
sections_read p {sheet} {k} g l =
    let s = sheet_bytes p in
    let ins = p.inputs in
    let ws = p.wires in
    let outs = p.outputs in
    let e₁ : drop 0 s ≡ counted ins ++ (counted ws ++ (counted outs ++ p.expressions)) = refl in
    let e₂ = section-behind s ins (counted ws ++ (counted outs ++ p.expressions)) 0 e₁ in
    let e₃ = section-behind s ws (counted outs ++ p.expressions) (0 + 1 + length ins) e₂ in
    rw (ne_eqb (length s) 0 (λ e. omega arith), le-ltb 4096 (length s) l)
    (after-section s ins 0 _ (wires_from s) (section-read s ins _ 0 0 17 2 false TypeByte e₁ (omega arith) g.few_inputs g.inputs_ranged)
    (section-bytes s ins _ 0 e₁)
    ∙ after-section s ws (0 + 1 + length ins) _ (outputs_from s ins)
    (section-read s ws _ (0 + 1 + length ins) 1 65 4 false TypeByte e₂ g.some_wires g.few_wires g.wires_ranged)
    (section-bytes s ws _ (0 + 1 + length ins) e₂)
    ∙ after-section s outs (0 + 1 + length ins + 1 + length ws) _ (expressions_from s ins ws)
    (section-read s outs _ (0 + 1 + length ins + 1 + length ws) 1 17 (length ws) true OutputWire e₃ g.some_outputs g.few_outputs
    g.outputs_ranged) (section-bytes s outs _ (0 + 1 + length ins + 1 + length ws) e₃)
    ∙ rw g.reads (rw (le-ltb g.end (length s) g.nothing_left) (ap (λ x. got x g.end k) (sym g.is))))
