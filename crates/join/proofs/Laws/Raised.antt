-- Bytes of expressions that may be raised, met as the shifting meets them: each kind byte has a kind, and each byte of a body stays one byte.
-- Those of an accepted sheet are so, since what a body names is below its count.
use Rattle.std.specs.Prelude.{◌≡◌, refl, ℕ, zero, suc, ◌+◌, ◌≤◌, ◌<◌, ◌⊎◌, length, get_or, drop}
use Rattle.std.proofs.Common.{subst, arith, inl, inr, drop_of_length-le, drop-cons, drop-drop, get_or-drop, eq-eqb}
use mathlib.Core.List.{List, [], ◌∷◌}
use Rattle.sheet.specs.Data.{plain_byte}
use Rattle.sheet.specs.Expressions.{Expression}
use Rattle.sheet.specs.Kinds.{body_of, operands_of, limit_of, kind_count}
use Rattle.sheet.specs.Outcomes.{result}
use Rattle.sheet.specs.Readings.{Reading, got, read_each, read_expression}
use Rattle.sheet.specs.Sheets.{Sheet, kept_count, read_wire, read_wires, sheet_of}
use Rattle.sheet.specs.Laws.Readings.{OwnGood, end as no_row, ◌▸◌, every-kind, no-level, run-view, expression_view}
use Rattle.sheet.proofs.Laws.Typing.{sheet-reads}
use Rattle.sheet.proofs.Laws.Wires.{wire-view}
use Rattle.join.specs.Bytes.{raise_of, sheet_bytes, sections_of}
use Rattle.join.proofs.Laws.Sections.{start, inputs-counted, wires-counted, expressions_at, sections_view}

-- first come `left` bytes of a body, each of which is raised
pub data Raisable (wires inputs : ℕ) : (left raise : ℕ) → List ℕ → Type 0 where
  end : {left raise : ℕ} → Raisable wires inputs left raise []
  kind : {raise k : ℕ} {s : List ℕ} → k < kind_count → Raisable wires inputs (body_of k) (raise_of wires inputs k) s
      → Raisable wires inputs 0 raise (k ∷ s)
  body : {left raise b : ℕ} {s : List ℕ} → (raise ≡ 0) ⊎ (raise + b < 256) → Raisable wires inputs left raise s
      → Raisable wires inputs (suc left) raise (b ∷ s)

-- a body, and what comes behind it
body-raisable : (wires inputs left raise : ℕ) (s : List ℕ) → ((i : ℕ) → i < left → (raise ≡ 0) ⊎ (raise + get_or s i 0 < 256))
    → Raisable wires inputs 0 0 (drop left s) → Raisable wires inputs left raise s
body-raisable wires inputs left raise [] h r = end
body-raisable wires inputs zero raise (k ∷ s) h (kind l r) = kind l r
body-raisable wires inputs (suc left) raise (b ∷ s) h r =
    body (h 0 (omega arith)) (body-raisable wires inputs left raise s (λ i l. h (suc i) (omega arith)) r)

module _ (wires inputs : ℕ) (ins ws s : List ℕ) (few-wires : wires + length ws ≤ 64) (few-inputs : inputs + length ins ≤ 16) where
  -- a byte of a body is raised only where it names a wire or an input
  abbrev ByteOfKind : ℕ → Type 0
  ByteOfKind k = (b : ℕ) → (body_of k ≡ 1 → b < limit_of ins ws k) → (raise_of wires inputs k ≡ 0) ⊎ (raise_of wires inputs k + b < 256)

  byte-of-kind : (k : ℕ) → k < kind_count → ByteOfKind k
  byte-of-kind = every-kind ByteOfKind
      ((λ b h. inl refl) ▸ (λ b h. inl refl) ▸ (λ b h. inr (omega (arith, h refl))) ▸ (λ b h. inr (omega (arith, h refl)))
      ▸ (λ b h. inl refl) ▸ (λ b h. inl refl) ▸ (λ b h. inl refl) ▸ (λ b h. inl refl) ▸ (λ b h. inl refl) ▸ (λ b h. inl refl)
      ▸ (λ b h. inl refl) ▸ (λ b h. inl refl) ▸ (λ b h. inl refl) ▸ (λ b h. inl refl) ▸ (λ b h. inl refl) ▸ (λ b h. inl refl)
      ▸ (λ b h. inl refl) ▸ (λ b h. inl refl) ▸ (λ b h. inr (omega (arith, h refl))) ▸ (λ b h. inl refl) ▸ no_row)

  -- from the place on to the end
  abbrev From : ℕ → Type 0
  From a = Raisable wires inputs 0 0 (drop a s)

  own-raisable : (level t a c n k : ℕ) → OwnGood ins ws s level t a c n k → From n → From a
  own-raisable level t a c n k g r =
      let next : n ≡ suc a + body_of (get_or s a 0) = omega (arith, g.next) in
      rw (drop-cons s a 0 g.starts)
      (kind g.kind
      (body-raisable wires inputs (body_of (get_or s a 0)) (raise_of wires inputs (get_or s a 0)) (drop (suc a) s) byte
      (rw (drop-drop (body_of (get_or s a 0)) (suc a) s, ← next) r)))
    where
      byte : (i : ℕ) → i < body_of (get_or s a 0)
          → (raise_of wires inputs (get_or s a 0) ≡ 0) ⊎ (raise_of wires inputs (get_or s a 0) + get_or (drop (suc a) s) i 0 < 256)
      byte i l = byte-of-kind (get_or s a 0) g.kind (get_or (drop (suc a) s) i 0) named
        where
          named : body_of (get_or s a 0) ≡ 1 → get_or (drop (suc a) s) i 0 < limit_of ins ws (get_or s a 0)
          named e =
              let place : suc a + i ≡ a + 1 = omega arith in
              rw (get_or-drop (suc a) s i 0, place) (rw (eq-eqb (body_of (get_or s a 0)) 1 e) at g.names)

  each-raisable : (read : ℕ → ℕ → ℕ → Reading Expression)
      → ((t a c : ℕ) (e : Expression) (n k : ℕ) → read t a c ≡ got e n k → From n → From a)
      → (ts : List ℕ) (a c : ℕ) {es : List Expression} {n k : ℕ} → read_each read ts a c ≡ got es n k → From n → From a
  unfolding read_each
  each-raisable read one [] a c {n = n} e r = let next : n ≡ a = cc in rw next at r
  each-raisable read one (t ∷ ts) a c e r =
      let v = run-view read t ts a c e in
      one t a c v.head v.next v.count v.first (each-raisable read one ts v.next v.count v.rest r)

  expression_raisable : (level t a c : ℕ) (e : Expression) (n k : ℕ) → read_expression ins ws s level t a c ≡ got e n k → From n → From a
  expression_raisable zero t a c e n k h r = absurd (no-level ins ws s t a c h)
  expression_raisable (suc level) t a c e n k h r =
      let v = expression_view ins ws s level t a c h in
      own-raisable (suc level) t a c v.first v.before v.good
      (each-raisable (read_expression ins ws s level) (expression_raisable level) (operands_of (get_or s a 0) t) v.first v.before v.each r)

  wire-raisable : (b a c : ℕ) (e : Expression) (n k : ℕ) → read_wire ins ws s b a c ≡ got e n k → From n → From a
  wire-raisable b a c e n k h = let v = wire-view ins ws s b a c h in expression_raisable 16 (plain_byte b) a c v.tree n k v.reads

pub raisable : (t : List ℕ) (second : Sheet) (wires inputs : ℕ) → sheet_of t ≡ result second → wires + length second.wire_types ≤ 64
    → inputs + length second.input_types ≤ 16 → Raisable wires inputs 0 0 (sections_of t).expressions
unfolding read_wires
raisable t second wires inputs r l m =
    let (n, k, e) = sheet-reads t r in
    let p = sections_of t in
    let g = (sections_view t e).1 in
    let s = sheet_bytes p in
    let few-wires : wires + length p.wires ≤ 64 = omega (arith, wires-counted g) in
    let few-inputs : inputs + length p.inputs ≤ 16 = omega (arith, inputs-counted g) in
    subst (Raisable wires inputs 0 0) (expressions_at p)
    (each-raisable wires inputs p.inputs p.wires s few-wires few-inputs (read_wire p.inputs p.wires s)
    (wire-raisable wires inputs p.inputs p.wires s few-wires few-inputs) p.wires (start p) (kept_count p.wires) g.reads
    (rw (drop_of_length-le s g.nothing_left) end))
