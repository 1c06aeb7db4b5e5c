-- Two sheets that pass, cut into their sections as the code cuts them: what each call of the code asks, and what the calls leave.
use Prim.Native.Nat.{ℕ, ◌+◌, ◌≤◌, ◌<◌}
use mathlib.Core.Path.{◌≡◌, refl, sym, ap, subst, ◌∙◌}
use mathlib.Core.Bool.{true}
use mathlib.Core.List.{List, ◌++◌}
use mathlib.Core.Logic.{inl, inr}
use native.Mathlib.Omega.{arith}
use lib.ListN.{length, get_or, length-append, length-take, length-drop}
use lib.Seq.{drop-append_seam}
use Rattle.sheet.specs.Lists.{Every, none, ◌and◌}
use Rattle.sheet.proofs.Laws.Checked.{CheckPassed, check_passed}
use Rattle.sheet.proofs.Laws.Typing.{sheet-reads}
use Rattle.join.specs.Joined.{shifted_numbers}
use Rattle.join.specs.Bytes.{shifted_bytes, Sections, counted, sheet_bytes, section, behind, sections_of, joined_sections, joined_bytes}
use Rattle.sheet.specs.declared.Counts.{Counts}
use Rattle.join.proofs.Laws.Bytes.{joined_length}
use Rattle.join.proofs.Laws.Limits.{limited}
use Rattle.join.proofs.Laws.Headers.{Ranged, done, byte}
use Rattle.join.proofs.Laws.Raised.{Raisable, raisable}
use Rattle.join.proofs.Laws.Sections.{inputs-counted, wires-counted, outputs-counted, sections_view}
use Rattle.joining.specs.Counting.{Passes}
use Rattle.joining.specs.Writing.{Joinable, HasSection, BothBegin, Puts}
use Rattle.joining.proofs.Putting.{put_both, put-behind, put_all}
use Rattle.joining.proofs.Raising.{raised-by-none}

-- a section that begins with its count
begun : (s bytes rest : List ℕ) → s ≡ counted bytes ++ rest → HasSection s × (behind s ≡ rest)
begun s bytes rest e = rw e (simp length-append (omega arith), drop-append_seam bytes rest)

pub section-length : (s : List ℕ) → HasSection s → length (section s) ≡ get_or s 0 0
section-length s h = simp (length-take, length-drop) (omega arith)

-- the sheet that the check finds
pub found-by : (s : List ℕ) {counts : Counts} → Passes s counts
    → CheckPassed s counts.inputs counts.wires counts.outputs counts.cells
found-by s {counts} = check_passed s counts

-- the sections of a sheet that passes
record Cut (s : List ℕ) (counts : Counts) : Type 0 where
  inputs : HasSection s
  wires : HasSection (behind s)
  outputs : HasSection (behind (behind s))
  inputs_are : length (section s) ≡ counts.inputs
  wires-are : length (section (behind s)) ≡ counts.wires
  outputs-are : length (section (behind (behind s))) ≡ counts.outputs
  ranged : Ranged (length (section (behind s))) true 0 (section (behind (behind s)))
  whole : length s
      ≡ 3 + length (section s) + length (section (behind s)) + length (section (behind (behind s))) + length (behind (behind (behind s)))

cut : (s : List ℕ) {counts : Counts} → Passes s counts → Cut s counts
unfolding sections_of
cut s passes =
    let found = found-by s passes in
    let (n, k, read) = sheet-reads s found.outcome in
    let (whole, good) = sections_view s read in
    let s₁ = behind s in
    let s₂ = behind s₁ in
    let s₃ = behind s₂ in
    let (inputs, e₁) = begun s (section s) (counted (section s₁) ++ (counted (section s₂) ++ s₃)) (sym whole) in
    let (wires, e₂) = begun s₁ (section s₁) (counted (section s₂) ++ s₃) e₁ in
    let (outputs, e₃) = begun s₂ (section s₂) s₃ e₂ in
    record {
      inputs = inputs;
      wires = wires;
      outputs = outputs;
      inputs_are = inputs-counted good ∙ found.inputs_are;
      wires-are = wires-counted good ∙ found.wires-are;
      outputs-are = outputs-counted good ∙ found.outputs-are;
      ranged = good.outputs_ranged;
      whole = omega (arith, simp length-append at (ap length whole));
    }

-- numbers of wires stay bytes
outputs_rise : (raise limit low : ℕ) {bytes : List ℕ} → raise + limit ≤ 64 → Ranged limit true low bytes → Every (λ b. raise + b < 256) bytes
outputs_rise raise limit low h done = none
outputs_rise raise limit low h (byte {b = b} l m r) = let fits : raise + b < 256 = omega arith in fits and outputs_rise raise limit (b + 1) h r

-- sections that are joined with what is raised by nothing
raised_sections : (p q : Sections) {wires inputs : ℕ} → wires ≡ length p.wires → inputs ≡ length p.inputs
    → counted (p.inputs ++ shifted_numbers 0 q.inputs) ++ (counted (p.wires ++ shifted_numbers 0 q.wires)
    ++ (counted (p.outputs ++ shifted_numbers wires q.outputs)
    ++ (shifted_numbers 0 p.expressions ++ shifted_bytes wires inputs 0 0 q.expressions)))
    ≡ sheet_bytes (joined_sections p q)
raised_sections p q e f = rw (e, f, raised-by-none q.inputs, raised-by-none q.wires, raised-by-none p.expressions)

-- two sheets that can be joined; the code calls what is left of them behind a section s₁ and t₁, s₂ and t₂, s₃ and t₃
module _ {s t : List ℕ} {room : ℕ} (j : Joinable s t room) where
  one : Cut s j.first
  one = cut s j.first_passes

  other : Cut t j.second
  other = cut t j.second-passes

  few : (length (section s) + length (section t) ≤ 16) × (length (section (behind s)) + length (section (behind t)) ≤ 64)
      × (length (section (behind (behind s))) + length (section (behind (behind t))) ≤ 16)
  few =
      let sums = limited j.first j.second room j.limited in (
        omega (arith, sums.of_inputs, one.inputs_are, other.inputs_are),
        omega (arith, sums.of_wires, one.wires-are, other.wires-are),
        omega (arith, sums.of_outputs, one.outputs-are, other.outputs-are),
      )

  -- where the sections end in the joined sheet, and then the expressions of the first
  abbrev inputs_end_lem : ℕ
  inputs_end_lem = 0 + 1 + length (section s) + length (section t)

  abbrev wires-end : ℕ
  wires-end = inputs_end_lem + 1 + length (section (behind s)) + length (section (behind t))

  abbrev outputs-end : ℕ
  outputs-end = wires-end + 1 + length (section (behind (behind s))) + length (section (behind (behind t)))

  abbrev first-end : ℕ
  first-end = outputs-end + length (behind (behind (behind s)))

  all-fits : first-end + length (behind (behind (behind t))) ≤ room
  all-fits = omega (arith, one.whole, other.whole, j.sized)

  inputs-count : get_or s 0 0 ≡ length (section s)
  inputs-count = sym (section-length s one.inputs)

  wires-count : get_or (behind s) 0 0 ≡ length (section (behind s))
  wires-count = sym (section-length (behind s) one.wires)

  pub begin_inputs : BothBegin s t 0 0 room
  begin_inputs =
      record {
        one = one.inputs;
        other = other.inputs;
        few = omega (arith, inputs-count, section-length t other.inputs, few.0);
        rises = inl refl;
        fits = omega (arith, all-fits);
      }

  wires_begin : BothBegin (behind s) (behind t) inputs_end_lem 0 room
  wires_begin =
      record {
        one = one.wires;
        other = other.wires;
        few = omega (arith, wires-count, section-length (behind t) other.wires, few.1);
        rises = inl refl;
        fits = omega (arith, all-fits);
      }

  outputs_begin : BothBegin (behind (behind s)) (behind (behind t)) wires-end (get_or (behind s) 0 0) room
  outputs_begin =
      record {
        one = one.outputs;
        other = other.outputs;
        few = omega (arith, section-length (behind (behind s)) one.outputs, section-length (behind (behind t)) other.outputs, few.2);
        rises = inr (outputs_rise (get_or (behind s) 0 0) _ 0 (omega (arith, wires-count, few.1)) other.ranged);
        fits = omega (arith, all-fits);
      }

  may_shift : Raisable (get_or (behind s) 0 0) (get_or s 0 0) 0 0 (behind (behind (behind t)))
  unfolding sections_of
  may_shift =
      let found = found-by t j.second-passes in
      raisable t found.sheet (get_or (behind s) 0 0) (get_or s 0 0) found.outcome
      (omega (arith, wires-count, few.1, other.wires-are, found.wires-are))
      (omega (arith, inputs-count, few.0, other.inputs_are, found.inputs_are))

  -- the sections and the expressions, put one behind the other, are the joined sheet
  joined-put : {before b₁ b₂ b₃ b₄ after : List ℕ} → Puts before 0 (counted (section s ++ shifted_numbers 0 (section t))) b₁
      → Puts b₁ inputs_end_lem (counted (section (behind s) ++ shifted_numbers 0 (section (behind t)))) b₂
      → Puts b₂ wires-end (counted (section (behind (behind s)) ++ shifted_numbers (get_or (behind s) 0 0) (section (behind (behind t))))) b₃
      → Puts b₃ outputs-end (shifted_numbers 0 (behind (behind (behind s)))) b₄
      → Puts b₄ first-end (shifted_bytes (get_or (behind s) 0 0) (get_or s 0 0) 0 0 (behind (behind (behind t)))) after
      → length after ≡ room → after ≡ joined_bytes s t
  unfolding joined_bytes sections_of
  joined-put {before} {after = after} p₁ p₂ p₃ p₄ p₅ sized =
      let (n, k, read₁) = sheet-reads s (found-by s j.first_passes).outcome in
      let (m, i, read₂) = sheet-reads t (found-by t j.second-passes).outcome in
      let first = shifted_numbers 0 (behind (behind (behind s))) in
      let second = shifted_bytes (get_or (behind s) 0 0) (get_or s 0 0) 0 0 (behind (behind (behind t))) in
      let long : first-end ≡ outputs-end + length first = rw (raised-by-none (behind (behind (behind s)))) in
      let q₄ = put_both outputs-end first second p₄ long p₅ in
      let q₃ = put-behind wires-end (section (behind (behind s))) (section (behind (behind t))) (get_or (behind s) 0 0) _ p₃ refl q₄ in
      let q₂ = put-behind inputs_end_lem (section (behind s)) (section (behind t)) 0 _ p₂ refl q₃ in
      let q₁ = put-behind 0 (section s) (section t) 0 _ p₁ refl q₂ in
      let all = raised_sections (sections_of s) (sections_of t) wires-count inputs-count in
      put_all (joined_bytes s t) (subst (λ x. Puts before 0 x after) all q₁) (omega (arith, joined_length s t read₁ read₂, j.sized, sized))

  module _ {s₁ t₁ : List ℕ} {at₁ n₁ : ℕ} (e₁ : s₁ ≡ behind s) (f₁ : t₁ ≡ behind t) (a₁ : at₁ ≡ inputs_end_lem) (l₁ : n₁ ≡ room) where
    pub begin_wires : BothBegin s₁ t₁ at₁ 0 n₁
    begin_wires = rw (e₁, f₁, a₁, l₁) wires_begin

    module _ {s₂ t₂ : List ℕ} {at₂ n₂ : ℕ} (e₂ : s₂ ≡ behind s₁) (f₂ : t₂ ≡ behind t₁)
        (a₂ : at₂ ≡ at₁ + 1 + length (section s₁) + length (section t₁)) (l₂ : n₂ ≡ n₁) where
      pub begin_outputs : BothBegin s₂ t₂ at₂ (get_or s₁ 0 0) n₂
      begin_outputs = rw (e₂, f₂, a₂, l₂, e₁, f₁, a₁, l₁) outputs_begin

      module _ {s₃ : List ℕ} {at₃ n₃ : ℕ} (e₃ : s₃ ≡ behind s₂) (a₃ : at₃ ≡ at₂ + 1 + length (section s₂) + length (section t₂))
          (l₃ : n₃ ≡ n₂) where
        pub begin_first : at₃ + length s₃ ≤ n₃
        begin_first = rw (e₃, a₃, l₃, e₂, f₂, a₂, l₂, e₁, f₁, a₁, l₁) (omega (arith, all-fits))

        module _ {t₃ : List ℕ} {at₄ n₄ : ℕ} (f₃ : t₃ ≡ behind t₂) (a₄ : at₄ ≡ at₃ + length s₃) (l₄ : n₄ ≡ n₃) where
          pub begin_second : (at₄ + length t₃ ≤ n₄) × Raisable (get_or s₁ 0 0) (get_or s 0 0) 0 0 t₃
          begin_second = rw (f₃, a₄, l₄, e₃, a₃, l₃, e₂, f₂, a₂, l₂, e₁, f₁, a₁, l₁) (all-fits, may_shift)

          pub puts-joined : {before b₁ b₂ b₃ b₄ after : List ℕ} → Puts before 0 (counted (section s ++ shifted_numbers 0 (section t))) b₁
              → Puts b₁ at₁ (counted (section s₁ ++ shifted_numbers 0 (section t₁))) b₂
              → Puts b₂ at₂ (counted (section s₂ ++ shifted_numbers (get_or s₁ 0 0) (section t₂))) b₃
              → Puts b₃ at₃ (shifted_numbers 0 s₃) b₄ → Puts b₄ at₄ (shifted_bytes (get_or s₁ 0 0) (get_or s 0 0) 0 0 t₃) after
              → length after ≡ n₄ → after ≡ joined_bytes s t
          puts-joined = rw (f₃, a₄, l₄, e₃, a₃, l₃, e₂, f₂, a₂, l₂, e₁, f₁, a₁, l₁) joined-put
