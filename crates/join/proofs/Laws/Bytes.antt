-- The joined bytes of two accepted sheets read as the two sheets joined, where no count or length is above its limit (23). It rests on the
-- laws of shifted bytes, and on those of sections.
use Rattle.std.specs.Prelude.{◌≡◌, refl, ℕ, zero, suc, ◌+◌, ◌≤◌, ◌<◌, Bool, true, false, cond, eqb}
use Rattle.std.proofs.Math.Path.{sym, ap}
use Rattle.std.proofs.Common.{ap₂, ◌∙◌, zero-add, length-append}
use native.Mathlib.Omega.{arith}
use mathlib.Core.List.{List, [], ◌∷◌, ◌++◌, map, map-append, append-nil}
use Rattle.std.proofs.Math.ListN.{length, drop, length-drop, drop_of_length-le}
use Rattle.std.proofs.lemmas.List.{length-map}
use Rattle.sheet.specs.Data.{type_of_byte, wire_type}
use Rattle.sheet.specs.Expressions.{Expression}
use Rattle.sheet.specs.Kinds.{body_of, own_type_of, names_wire, named-input}
use Rattle.sheet.specs.Readings.{Reading, got, read_each}
use Rattle.sheet.specs.Sheets.{Sheet, kept_count, read_wire, read_wires, read_sheet, outcome_of, sheet_of}
use Rattle.sheet.specs.Outcomes.{result}
use Rattle.sheet.specs.Laws.Readings.{run-view}
use Rattle.sheet.proofs.Laws.Typing.{sheet-reads, read-counted}
use Rattle.join.specs.Joined.{shifted, shifted_numbers, joined}
use Rattle.join.specs.Bytes.{raise_of, shifted_bytes, Sections, sheet_bytes, sections_of, joined_sections, joined_bytes}
use Rattle.join.proofs.Laws.Limits.{counts_of, Limited}
use Rattle.join.proofs.Laws.Parts.{first-inside, second-inside}
use Rattle.join.proofs.Laws.Wires.{wires-none}
use Rattle.join.proofs.Laws.Headers.{ranged-append, ranged-joined}
use Rattle.join.proofs.Laws.Readings.{shifted-length, each-rises, wire-rises, Here, EachAt, wires-shifted}
use Rattle.join.proofs.Laws.Sections.{start, GoodSections, inputs-counted, wires-counted, outputs-counted, expressions_at}
use Rattle.join.proofs.Laws.Sections.{sections_view, sections_read}

-- raised by nothing
raise-none : (k : ℕ) → raise_of 0 0 k ≡ 0
raise-none k = go (names_wire k) (eqb (own_type_of k) named-input)
  where
    go : (a b : Bool) → ◌≡◌ {A = ℕ} (cond a 0 (cond b 0 0)) 0
    go true b = refl
    go false true = refl
    go false false = refl

bytes-none : (left : ℕ) (s : List ℕ) → shifted_bytes 0 0 left 0 s ≡ s
unfolding shifted_bytes
bytes-none left [] = refl
bytes-none zero (k ∷ s) = rw (raise-none k) (ap (λ r. k ∷ r) (bytes-none (body_of k) s))
bytes-none (suc left) (b ∷ s) = ap₂ ◌∷◌ (zero-add b) (bytes-none left s)

-- one run of wires after the other
each_append : (read : ℕ → ℕ → ℕ → Reading Expression) (ts us : List ℕ) (at c : ℕ) {es fs : List Expression} {n k m j : ℕ}
    → read_each read ts at c ≡ got es n k → read_each read us n k ≡ got fs m j → read_each read (ts ++ us) at c ≡ got (es ++ fs) m j
unfolding read_each
each_append read [] us at c {es} {fs} {n} {k} {m} {j} p q =
    let trees : es ≡ [] = cc in
    let next : n ≡ at = cc in
    let count : k ≡ c = cc in
    ap₂ (read_each read us) (sym next) (sym count) ∙ q ∙ ap (λ x. got (x ++ fs) m j) (sym trees)
each_append read (t ∷ ts) us at c {es} {fs} {n} {k} {m} {j} p q =
    let v = run-view read t ts at c p in
    let rest = each_append read ts us v.next v.count v.rest q in
    rw v.first (rw rest (ap (λ x. got (x ++ fs) m j) (sym v.trees)))

kept_append : (ws vs : List ℕ) → kept_count (ws ++ vs) ≡ kept_count vs + kept_count ws
unfolding kept_count
kept_append [] vs = omega arith
kept_append (b ∷ ws) vs = omega (arith, kept_append ws vs)

-- Good sections joined are good, where no count is above its limit.
module _ (p q : Sections) (first second : Sheet) (k j : ℕ) (g : GoodSections p first k) (h : GoodSections q second j) where
  abbrev both : Sections
  both = joined_sections p q

  abbrev wires : ℕ
  wires = length p.wires

  abbrev inputs : ℕ
  inputs = length p.inputs

  abbrev moved : List ℕ
  moved = shifted_bytes wires inputs 0 0 q.expressions

  here₁ : Here 0 0 (sheet_bytes p) (sheet_bytes both) moved (start p) (start both)
  here₁ =
      let own : shifted_bytes 0 0 0 0 (drop (start p) (sheet_bytes p)) ≡ p.expressions =
      ap (shifted_bytes 0 0 0 0) (expressions_at p) ∙ bytes-none 0 p.expressions in
      record { same = expressions_at both ∙ ap (λ x. x ++ moved) (sym own) }

  module _ (few : k + j ≤ 64) where
    -- the wires of the first, with the kept cells of the second counted before them
    run₁ : EachAt 0 0 p.inputs both.inputs p.wires both.wires (first-inside p.inputs q.inputs)
        (first-inside p.wires q.wires) (sheet_bytes p) (sheet_bytes both) moved (kept_count q.wires)
        (read_wire both.inputs both.wires (sheet_bytes both)) p.wires (kept_count p.wires) (start both)
        g.expressions g.end k
    unfolding read_wires
    run₁ =
        let rises = each-rises (read_wire q.inputs q.wires (sheet_bytes q)) (wire-rises q.inputs q.wires (sheet_bytes q))
        q.wires (start q) (kept_count q.wires) h.reads in
        wires-shifted 0 0 p.inputs both.inputs p.wires both.wires (first-inside p.inputs q.inputs)
        (first-inside p.wires q.wires) (sheet_bytes p) (sheet_bytes both) moved (kept_count q.wires)
        p.wires (start p) (kept_count p.wires) (start both) g.expressions g.end k g.reads here₁ (omega arith)

    here₂ : Here wires inputs (sheet_bytes q) (sheet_bytes both) [] (start q) run₁.next
    unfolding shifted_bytes
    here₂ =
        let ended : drop g.end (sheet_bytes p) ≡ [] = drop_of_length-le (sheet_bytes p) g.nothing_left in
        record {
          same = run₁.here.same ∙ ap (λ x. shifted_bytes 0 0 0 0 x ++ moved) ended ∙ sym (append-nil moved)
              ∙ ap (λ x. shifted_bytes wires inputs 0 0 x ++ []) (sym (expressions_at q));
        }

    -- the wires of the second, behind all cells of the first
    run₂ : EachAt wires inputs q.inputs both.inputs q.wires both.wires (second-inside inputs p.inputs q.inputs refl)
        (second-inside wires p.wires q.wires refl) (sheet_bytes q) (sheet_bytes both) [] k
        (read_wire both.inputs both.wires (sheet_bytes both)) q.wires (kept_count q.wires) run₁.next
        h.expressions h.end j
    unfolding read_wires
    run₂ = wires-shifted wires inputs q.inputs both.inputs q.wires both.wires
        (second-inside inputs p.inputs q.inputs refl) (second-inside wires p.wires q.wires refl)
        (sheet_bytes q) (sheet_bytes both) [] k q.wires (start q) (kept_count q.wires) run₁.next h.expressions h.end j
        h.reads here₂ few

    trees : List Expression
    trees = g.expressions ++ map (shifted wires inputs) h.expressions

    reads_both : read_wires both.inputs both.wires (sheet_bytes both) (start both) ≡ got trees run₂.next (k + j)
    unfolding trees read_wires
    reads_both =
        let read = read_wire both.inputs both.wires (sheet_bytes both) in
        let between : k + kept_count q.wires ≡ kept_count q.wires + k = omega arith in
        rw (kept_append p.wires q.wires)
        (each_append read p.wires q.wires (start both) (kept_count q.wires + kept_count p.wires)
        (run₁.reads ∙ ap (λ x. got x run₁.next (kept_count q.wires + k)) (wires-none g.expressions))
        (ap (read_each read q.wires run₁.next) (sym between) ∙ run₂.reads))

    ended-both : length (sheet_bytes both) ≤ run₂.next
    unfolding shifted_bytes
    ended-both =
        let ended : drop h.end (sheet_bytes q) ≡ [] = drop_of_length-le (sheet_bytes q) h.nothing_left in
        let none = run₂.here.same ∙ ap (λ x. shifted_bytes wires inputs 0 0 x ++ []) ended in
        omega (arith, length-drop run₂.next (sheet_bytes both), ap length none)

    is-both : joined first second ≡ record {
      input_types = map type_of_byte both.inputs;
      wire_types = map wire_type both.wires;
      outputs = both.outputs;
      expressions = trees;
    }
    unfolding trees
    is-both = rw (g.is, h.is) (simp (map-append, length-map))

    good_joined : length both.inputs < 17 → length both.wires < 65 → length both.outputs < 17
        → GoodSections both (joined first second) (k + j)
    good_joined l₁ l₂ l₃ = record {
      few_inputs = l₁;
      some_wires = rw (length-append p.wires q.wires) (omega (arith, g.some_wires));
      few_wires = l₂;
      some_outputs = rw (length-append p.outputs (shifted_numbers wires q.outputs)) (omega (arith, g.some_outputs));
      few_outputs = l₃;
      inputs_ranged = ranged-append 2 g.inputs_ranged h.inputs_ranged;
      wires_ranged = ranged-append 4 g.wires_ranged h.wires_ranged;
      outputs_ranged = rw (length-append p.wires q.wires)
          (ranged-joined wires (length q.wires) 0 (omega arith) g.outputs_ranged h.outputs_ranged);
      end = run₂.next;
      expressions = trees;
      reads = reads_both;
      nothing_left = ended-both;
      is = is-both;
    }

bytes-length : (p : Sections) → length (sheet_bytes p) ≡ start p + length p.expressions
bytes-length p = simp length-append (omega arith)

outputs-length : (p q : Sections)
    → length (p.outputs ++ shifted_numbers (length p.wires) q.outputs) ≡ length p.outputs + length q.outputs
outputs-length p q = simp (length-append, length-map)

pub joined_length : (s t : List ℕ) {first second : Sheet} {n k m j : ℕ} → read_sheet s ≡ got first n k → read_sheet t ≡ got second m j
    → length (joined_bytes s t) + 3 ≡ length s + length t
unfolding joined_bytes
joined_length s t r₁ r₂ =
    let p = sections_of s in
    let q = sections_of t in
    let e₁ = ap length (sections_view s r₁).0 in
    let e₂ = ap length (sections_view t r₂).0 in
    let f₁ = length-append p.inputs q.inputs in
    let f₂ = length-append p.wires q.wires in
    let f₃ = outputs-length p q in
    let f₄ = length-append p.expressions (shifted_bytes (length p.wires) (length p.inputs) 0 0 q.expressions) in
    let f₅ = shifted-length (length p.wires) (length p.inputs) 0 0 q.expressions in
    omega (arith, bytes-length p, bytes-length q, bytes-length (joined_sections p q))

pub joined-read : (s t : List ℕ) (first second : Sheet) → sheet_of s ≡ result first → sheet_of t ≡ result second
    → Limited (counts_of first) (counts_of second) (length (joined_bytes s t)) → sheet_of (joined_bytes s t) ≡ result (joined first second)
unfolding sheet_of joined_bytes
joined-read s t first second r₁ r₂ l =
    let (n, k, e₁) = sheet-reads s r₁ in
    let (m, j, e₂) = sheet-reads t r₂ in
    let p = sections_of s in
    let q = sections_of t in
    let g = (sections_view s e₁).1 in
    let h = (sections_view t e₂).1 in
    let cells : k + j ≤ 64 = omega (arith, read-counted s e₁, read-counted t e₂, l.of_cells) in
    let inputs : length (p.inputs ++ q.inputs) < 17 =
    omega (arith, length-append p.inputs q.inputs, inputs-counted g, inputs-counted h, l.of_inputs) in
    let wires : length (p.wires ++ q.wires) < 65 =
    omega (arith, length-append p.wires q.wires, wires-counted g, wires-counted h, l.of_wires) in
    let outputs : length (p.outputs ++ shifted_numbers (length p.wires) q.outputs) < 17 =
    omega (arith, outputs-length p q, outputs-counted g, outputs-counted h, l.of_outputs) in
    ap outcome_of (sections_read (joined_sections p q) (good_joined p q first second k j g h cells inputs wires outputs) l.of_bytes)
