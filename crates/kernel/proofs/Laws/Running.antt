-- What an expression stores that runs inside another is a part of what the whole stores, and it has a type and valid cells where the whole has.
use Rattle.std.specs.Prelude.{ℕ, suc, ◌+◌, ◌≡◌, refl, Bool, true, false, ◌||◌, cond, List, [], ◌∷◌, ◌++◌, length, take, drop}
use Rattle.std.proofs.Common.{sym, ap, ◌∙◌, append-nil, append_assoc, add-zero, add-one, arith, length-append, take-append-drop, take_at, drop_at, drop-drop}
use Rattle.sheet.specs.Data.{ValueType, boolean, is_kept, wire_type}
use Rattle.sheet.specs.Expressions.{Expression, kept}
use Rattle.sheet.specs.Expressions.{Alternatives}
use Rattle.sheet.specs.Expressions.{switch_forms, cell_forms, forms_in, cell_count, count_in}
use Rattle.sheet.specs.Sheets.{wire_tree, own_cells}
use Rattle.sheet.specs.Typing.{unary_type, operand_type, HasType, AlternativesHaveType, ValidRow}
use Rattle.sheet.specs.declared.Cell.{Cell}
use Rattle.sheet.specs.declared.Cell.TheVariants.{Started}
use Rattle.kernel.specs.Values.{datum_in, Has}
use Rattle.kernel.specs.Instant.{Environment, state_of, second_runs, makes_fresh, switch_cells, value, resting, stored, stored_in}
use Rattle.kernel.specs.Running.{condition_holds, RunsIn, RunsAmong, itself, in_unary, in_left, in_right, in_condition, in_then, in_else}
use Rattle.kernel.specs.Running.{in_asked, in_body, in_pre, in_fby-left, in_fby-right, in_kept, in_only, in_first, in_second}
use Rattle.kernel.proofs.Laws.Typing.{OnWires, ValidFrom, parts, switch-parts}
use Rattle.kernel.proofs.Laws.Storing.{switch-length, stored-length, resting-length, stored_in_length}

-- an expression runs inside itself
pub here : (now : Environment) (fresh : Bool) (e : Expression) (k : ℕ) → RunsIn now fresh e k fresh e k
here now fresh e k = itself refl refl refl

-- and the expression of a wire inside its tree, which has the wire's own cell besides where the wire is kept
pub tree-runs : (now : Environment) (fresh : Bool) (b : ℕ) (e : Expression) (k : ℕ)
    → RunsIn now fresh e (k + own_cells b) fresh (wire_tree b e) k
tree-runs now fresh b e k = go (is_kept b)
  where
    go : (t : Bool) → RunsIn now fresh e (k + cond t 1 0) fresh (cond t (kept (wire_type b) e) e) k
    go true = rw add-one (in_kept (here now fresh e (suc k)))
    go false = rw add-zero (here now fresh e k)

module _ (input_types wire_types : List ValueType) (now : Environment) (on_inputs : ValidRow input_types now.inputs)
    (on_lasts : ValidRow wire_types now.lasts) (on_wires : OnWires Has wire_types now.wires) (anew : Bool) (x : Expression) (j : ℕ) where
  -- it has a type and valid cells, and what it stores is a part of these cells, which stand from number k on
  pub record Part (cells : List Cell) (k : ℕ) : Type 0 where
    pub type : ValueType
    pub typed : HasType input_types wire_types type x
    pub valid : ValidFrom now.memory (cell_forms x) j
    pub before : List Cell
    pub behind : List Cell
    pub split : cells ≡ before ++ (stored now anew x j ++ behind)
    pub place : j ≡ k + length before

  -- with more cells around
  wider : {inner outer : List Cell} {n k : ℕ} (front rest : List Cell) → outer ≡ front ++ (inner ++ rest) → n ≡ k + length front
      → Part inner n → Part outer k
  wider front rest around numbered p = record {
    type = p.type;
    typed = p.typed;
    valid = p.valid;
    before = front ++ p.before;
    behind = p.behind ++ rest;
    split = around ∙ rw p.split (simp append_assoc);
    place = simp length-append (omega (arith, p.place, numbered));
  }

  -- as many cells are stored as there are
  abbrev lengths : (t : ValueType) (e : Expression) (fresh : Bool) (k : ℕ) → HasType input_types wire_types t e
      → ValidFrom now.memory (cell_forms e) k → length (stored now fresh e k) ≡ cell_count e
  lengths = stored-length input_types wire_types now on_inputs on_lasts on_wires

  -- what an fby stores in its own cell
  abbrev fby_stored : Bool → (a b : Expression) → ℕ → Cell
  fby_stored fresh a b k = Started (datum_in (value now fresh b (suc k + cell_count a)))

  mutual
    unfolding stored HasType cell_forms ValidFrom

    pub part : {fresh : Bool} {e : Expression} {k : ℕ} → RunsIn now anew x j fresh e k → (t : ValueType)
        → HasType input_types wire_types t e → ValidFrom now.memory (cell_forms e) k → Part (stored now fresh e k) k
    part (itself freshly is numbered) t h m = record {
      type = t;
      typed = rw is at h;
      valid = rw (is, numbered) at m;
      before = [];
      behind = [];
      split = rw (freshly, is, numbered) (sym (append-nil (stored now anew x j)));
      place = omega (arith, numbered);
    }
    part (in_unary {o = o} r) t h m = part r (unary_type o) h.1 m
    part (in_left {fresh} {o} {a} {b} {k} r) t h m =
        let m₁ = (parts now.memory a (cell_forms b) k m).0 in
        wider [] (stored now fresh b (k + cell_count a)) refl (omega arith) (part r (operand_type o) h.1 m₁)
    part (in_right {fresh} {o} {a} {b} {k} r) t h m =
        let (m₁, m₂) = parts now.memory a (cell_forms b) k m in
        let sized = lengths (operand_type o) a fresh k h.1 m₁ in
        wider (stored now fresh a k) [] (rw append-nil) (omega (arith, sized)) (part r (operand_type o) h.2 m₂)
    part (in_condition {fresh} {c} {a} {b} {k} r) t h m =
        let m₁ = (parts now.memory c (cell_forms a ++ cell_forms b) k m).0 in
        wider [] (stored now fresh a (k + cell_count c) ++ stored now fresh b (k + cell_count c + cell_count a)) refl (omega arith)
        (part r boolean h.0 m₁)
    part (in_then {fresh} {c} {a} {b} {k} r) t h m =
        let (m₁, m₂₃) = parts now.memory c (cell_forms a ++ cell_forms b) k m in
        let m₂ = (parts now.memory a (cell_forms b) (k + cell_count c) m₂₃).0 in
        wider (stored now fresh c k) (stored now fresh b (k + cell_count c + cell_count a)) refl
        (omega (arith, lengths boolean c fresh k h.0 m₁)) (part r t h.1 m₂)
    part (in_else {fresh} {c} {a} {b} {k} r) t h m =
        let (m₁, m₂₃) = parts now.memory c (cell_forms a ++ cell_forms b) k m in
        let (m₂, m₃) = parts now.memory a (cell_forms b) (k + cell_count c) m₂₃ in
        let lc = lengths boolean c fresh k h.0 m₁ in
        let la = lengths t a fresh (k + cell_count c) h.1 m₂ in
        wider (stored now fresh c k ++ stored now fresh a (k + cell_count c)) [] (simp (append_assoc, append-nil))
        (simp length-append (omega (arith, lc, la))) (part r t h.2 m₃)
    part (in_asked {fresh} {o} {cs} {bs} {k} r) t h m =
        let first = k + length (switch_forms o) in
        let state = state_of now fresh o k in
        let holds = condition_holds now fresh o cs k in
        let second = second_runs o state holds in
        let m₁ = (switch-parts now.memory (switch_forms o) cs bs k m).0 in
        wider (switch_cells o second) (stored_in now second fresh (makes_fresh o holds || fresh) bs (first + count_in cs)) refl
        (omega (arith, switch-length o second)) (part-among r fresh boolean h.0 m₁)
    part (in_body {fresh} {o} {cs} {bs} {k} r) t h m =
        let first = k + length (switch_forms o) in
        let state = state_of now fresh o k in
        let holds = condition_holds now fresh o cs k in
        let second = second_runs o state holds in
        let (m₁, m₂) = switch-parts now.memory (switch_forms o) cs bs k m in
        let lc = stored_in_length input_types wire_types now on_inputs on_lasts on_wires boolean cs state fresh fresh first h.0 m₁ in
        wider (switch_cells o second ++ stored_in now state fresh fresh cs first) [] (simp (append_assoc, append-nil))
        (simp length-append (omega (arith, switch-length o second, lc))) (part-among r fresh t h.1 m₂)
    part (in_pre {fresh} {a = a} {k = k} r) t h m =
        wider (Started (datum_in (value now fresh a (suc k))) ∷ []) [] (rw append-nil) (omega arith) (part r t h.1 m.2)
    part (in_fby-left {fresh} {a = a} {b = b} {k = k} r) t h m =
        let m₁ = (parts now.memory a (cell_forms b) (suc k) m.2).0 in
        wider (fby_stored fresh a b k ∷ []) (stored now fresh b (suc k + cell_count a)) refl (omega arith) (part r t h.1 m₁)
    part (in_fby-right {fresh} {a = a} {b = b} {k = k} r) t h m =
        let (m₁, m₂) = parts now.memory a (cell_forms b) (suc k) m.2 in
        let la = lengths t a fresh (suc k) h.1 m₁ in
        wider (fby_stored fresh a b k ∷ stored now fresh a (suc k)) [] (rw append-nil) (omega (arith, la)) (part r t h.2 m₂)
    part (in_kept {fresh} {a = a} {k = k} r) t h m =
        wider (Started (datum_in (value now fresh a (suc k))) ∷ []) [] (rw append-nil) (omega arith) (part r t h.1 m.2)

    part-among : {second fresh : Bool} {xs : Alternatives} {k : ℕ} → RunsAmong now anew x j second fresh xs k → (whole : Bool) (t : ValueType)
        → AlternativesHaveType input_types wire_types t xs → ValidFrom now.memory (forms_in xs) k
        → Part (stored_in now second whole fresh xs k) k
    part-among (in_only r) whole t h m = part r t h m
    part-among (in_first {fresh} {a} {b} {k} r) whole t h m =
        let m₁ = (parts now.memory a (cell_forms b) k m).0 in
        wider [] (resting now whole b (k + cell_count a)) refl (omega arith) (part r t h.0 m₁)
    part-among (in_second {fresh} {a} {b} {k} r) whole t h m =
        let (m₁, m₂) = parts now.memory a (cell_forms b) k m in
        let sized = resting-length input_types wire_types now on_inputs on_lasts on_wires t a whole k h.0 m₁ in
        wider (resting now whole a k) [] (rw append-nil) (omega (arith, sized)) (part r t h.1 m₂)

  -- so among cells that begin with those of the whole its own are what it stores
  pub part_left : (cells : List Cell) {whole : List Cell} (k n : ℕ) → take n (drop k cells) ≡ whole → Part whole k
      → take (cell_count x) (drop j cells) ≡ stored now anew x j
  part_left cells k n is p =
      let own = stored now anew x j in
      let rest = drop n (drop k cells) in
      let all : drop k cells ≡ p.before ++ (own ++ (p.behind ++ rest)) =
      sym (take-append-drop n (drop k cells)) ∙ rw (is, p.split) (simp append_assoc) in
      let from : drop j cells ≡ own ++ (p.behind ++ rest) =
      ap (λ i. drop i cells) p.place ∙ sym (drop-drop (length p.before) k cells) ∙ ap (drop (length p.before)) all
      ∙ drop_at p.before (own ++ (p.behind ++ rest)) (length p.before) refl in
      ap (take (cell_count x)) from ∙ take_at own (p.behind ++ rest) (cell_count x) (lengths p.type x anew j p.typed p.valid)
