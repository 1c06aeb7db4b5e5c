-- Shifted bytes read as the shifted tree, wherever they stand and whatever comes behind them.
use Rattle.std.specs.Prelude.{◌≡◌, Bool, not, ◌||◌, length, get_or, take, drop, eqb}
use Rattle.std.proofs.Math.Path.{refl, ap}
use Rattle.std.proofs.Common.{sym, ap₂, ◌∙◌, zero-add, add-zero, arith, length-append, length-drop, length-take, drop-cons, drop-drop, drop_at, get_or-drop, get_or-take, le-ltb, ne_eqb, eq-eqb}
use Prim.Native.Nat.{ℕ, zero, suc, ◌+◌, ◌≤◌, ◌<◌}
use Rattle.std.proofs.Math.Bool.{true, false, cond}
use mathlib.Core.List.{List, [], ◌∷◌, ◌++◌, map, append_assoc}
use Rattle.std.proofs.lemmas.List.{length-map}
use Rattle.std.proofs.Math.ListN.{get_or-map, get_or-append}
use Rattle.std.proofs.lemmas.Bool.{lt-leb}
use Rattle.numbers.specs.Words.{word_at}
use Rattle.sheet.specs.Data.{ValueType, type_of_byte, plain_byte, is_kept, wire_type}
use Rattle.sheet.specs.Kinds.{body_of, cells_of, own_type_of, named-wire, named-input, named-kept, names_wire, typed, operand, operands_of}
use Rattle.sheet.specs.Kinds.{limit_of, names_unkept, found_of, meaning_of, kind_count}
use Rattle.sheet.specs.Expressions.{Expression, constant, kept}
use Rattle.sheet.specs.Readings.{Reading, got, read_each, named_at, body_at, names_of, body_from, own_of, read_expression}
use Rattle.sheet.specs.Sheets.{wire_tree, read_wire}
use Rattle.sheet.specs.Laws.Readings.{OwnGood, end, ◌▸◌, every-kind, no-level, run-view, expression_view, expression_extent, run-extent}
use Rattle.sheet.proofs.Laws.Wires.{wire-view}
use Rattle.sheet.specs.declared.Datum.TheVariants.{Boolean}
use Rattle.join.specs.Joined.{shifted}
use Rattle.join.specs.Bytes.{raise_of, shifted_bytes}
use Rattle.join.proofs.Laws.Parts.{Inside, inside-fits, inside-at}
use Rattle.sheet.specs.Readings.{got_at}

at_map : (f : ℕ → ℕ) (xs : List ℕ) (i : ℕ) → i < length xs → get_or (map f xs) i 0 ≡ f (get_or xs i 0)
at_map f [] i l = absurd (omega arith)
at_map f (x ∷ xs) zero l = refl
at_map f (x ∷ xs) (suc i) l = at_map f xs i (omega arith)

module _ (wires inputs : ℕ) where
  pub shifted-length : (left raise : ℕ) (s : List ℕ) → length (shifted_bytes wires inputs left raise s) ≡ length s
  unfolding shifted_bytes
  shifted-length left raise [] = refl
  shifted-length zero raise (k ∷ s) = ap suc (shifted-length (body_of k) (raise_of wires inputs k) s)
  shifted-length (suc left) raise (b ∷ s) = ap suc (shifted-length left raise s)

  -- a body, and what comes behind it
  past-body : (left raise : ℕ) (s : List ℕ) → left ≤ length s
      → shifted_bytes wires inputs left raise s ≡ map (λ b. raise + b) (take left s) ++ shifted_bytes wires inputs 0 0 (drop left s)
  unfolding shifted_bytes
  past-body zero raise [] l = refl
  past-body zero raise (k ∷ s) l = refl
  past-body (suc left) raise [] l = absurd (omega arith)
  past-body (suc left) raise (b ∷ s) l = ap (λ r. (raise + b) ∷ r) (past-body left raise s (omega arith))

  -- The place b of t is the place a of s: from there on t has the shifted bytes of s, and then these others.
  pub record Here (s t others : List ℕ) (a b : ℕ) : Type 0 where
    pub same : drop b t ≡ shifted_bytes wires inputs 0 0 (drop a s) ++ others

  -- an expression's own bytes there
  record Own (s t others : List ℕ) (a b : ℕ) : Type 0 where
    kind : get_or t b 0 ≡ get_or s a 0
    body : (i : ℕ) → i < body_of (get_or s a 0) → get_or t (b + 1 + i) 0 ≡ raise_of wires inputs (get_or s a 0) + get_or s (a + 1 + i) 0
    ends : b + 1 + body_of (get_or s a 0) ≤ length t
    next : Here s t others (a + 1 + body_of (get_or s a 0)) (b + 1 + body_of (get_or s a 0))

  module _ (s t others : List ℕ) (a b : ℕ) (h : Here s t others a b) (l : a < length s) (m : a + 1 + body_of (get_or s a 0) ≤ length s) where
    abbrev k : ℕ
    k = get_or s a 0

    abbrev raised : List ℕ
    raised = map (λ x. raise_of wires inputs k + x) (take (body_of k) (drop (suc a) s))

    abbrev left : List ℕ
    left = shifted_bytes wires inputs 0 0 (drop (body_of k) (drop (suc a) s)) ++ others

    raised-length : length raised ≡ body_of k
    raised-length = simp (length-map, length-take, length-drop) (omega arith)

    here : drop b t ≡ k ∷ (raised ++ left)
    unfolding shifted_bytes
    here =
        h.same
        ∙ rw (drop-cons s a 0 l, past-body (body_of k) (raise_of wires inputs k) (drop (suc a) s) (rw (length-drop (suc a) s) (omega arith)))
        (ap (λ r. k ∷ r) (append_assoc raised (shifted_bytes wires inputs 0 0 (drop (body_of k) (drop (suc a) s))) (others)))

    byte : (i : ℕ) → get_or t (b + i) 0 ≡ get_or (k ∷ (raised ++ left)) i 0
    byte i = sym (get_or-drop b t i 0) ∙ ap (λ r. get_or r i 0) here

    body-byte : (i : ℕ) → i < body_of k → get_or t (b + 1 + i) 0 ≡ raise_of wires inputs k + get_or s (a + 1 + i) 0
    body-byte i j =
        let e : b + 1 + i ≡ b + suc i = omega arith in
        let f : suc a + i ≡ a + 1 + i = omega arith in
        let part = take (body_of k) (drop (suc a) s) in
        let sized : length part ≡ body_of k = sym (length-map part (λ x. raise_of wires inputs k + x)) ∙ raised-length in
        ap (λ x. get_or t x 0) e ∙ byte (suc i) ∙ get_or-append raised left 0 i (omega (arith, raised-length))
        ∙ at_map (λ x. raise_of wires inputs k + x) part i (omega arith)
        ∙ ap (λ x. raise_of wires inputs k + x)
        (get_or-take (body_of k) (drop (suc a) s) i 0 j ∙ get_or-drop (suc a) s i 0 ∙ ap (λ x. get_or s x 0) f)

    own-ends : b + 1 + body_of k ≤ length t
    own-ends = omega (arith, length-drop b t, ap length here, length-append raised left, raised-length)

    own-next : drop (b + 1 + body_of k) t ≡ shifted_bytes wires inputs 0 0 (drop (a + 1 + body_of k) s) ++ others
    own-next =
        let e : b + 1 + body_of k ≡ b + suc (body_of k) = omega arith in
        let f : a + 1 + body_of k ≡ suc a + body_of k = omega arith in
        rw (e, ← drop-drop (suc (body_of k)) b t, here, f, ← drop-drop (body_of k) (suc a) s) (drop_at raised left (body_of k) raised-length)

    own_at : Own s t others a b
    own_at = record {
      kind = (let e : b + 0 ≡ b = omega arith in rw e at (byte 0));
      body = body-byte;
      ends = own-ends;
      next = record { same = own-next };
    }

-- Row by row of the table.
module _ (wires inputs : ℕ) where
  -- the number that a body of one byte holds
  abbrev NamedOfKind : ℕ → Type 0
  NamedOfKind k = (x y : ℕ) → (0 < body_of k → y ≡ raise_of wires inputs k + x)
      → cond (eqb (body_of k) 1) y 0 ≡ raise_of wires inputs k + cond (eqb (body_of k) 1) x 0

  named-of-kind : (k : ℕ) → k < kind_count → NamedOfKind k
  named-of-kind = every-kind NamedOfKind
      ((λ x y h. h (omega arith)) ▸ (λ x y h. refl) ▸ (λ x y h. h (omega arith)) ▸ (λ x y h. h (omega arith)) ▸ (λ x y h. refl)
      ▸ (λ x y h. refl) ▸ (λ x y h. refl) ▸ (λ x y h. refl) ▸ (λ x y h. refl) ▸ (λ x y h. refl) ▸ (λ x y h. refl)
      ▸ (λ x y h. refl) ▸ (λ x y h. refl) ▸ (λ x y h. refl) ▸ (λ x y h. refl)
      ▸ (λ x y h. h (omega arith)) ▸ (λ x y h. refl) ▸ (λ x y h. refl) ▸ (λ x y h. h (omega arith)) ▸ (λ x y h. refl) ▸ end)

  -- and that a body of one byte or of four holds
  abbrev BodyOfKind : ℕ → Type 0
  BodyOfKind k = (x y w v : ℕ) → y ≡ raise_of wires inputs k + x → (body_of k ≡ 4 → raise_of wires inputs k ≡ 0 → v ≡ w)
      → cond (eqb (body_of k) 4) v y ≡ raise_of wires inputs k + cond (eqb (body_of k) 4) w x

  body-of-kind : (k : ℕ) → k < kind_count → BodyOfKind k
  body-of-kind = every-kind BodyOfKind
      ((λ x y w v e h. e) ▸ (λ x y w v e h. h refl refl ∙ sym (zero-add w)) ▸ (λ x y w v e h. e) ▸ (λ x y w v e h. e)
      ▸ (λ x y w v e h. e) ▸ (λ x y w v e h. e) ▸ (λ x y w v e h. e) ▸ (λ x y w v e h. e) ▸ (λ x y w v e h. e)
      ▸ (λ x y w v e h. e) ▸ (λ x y w v e h. e) ▸ (λ x y w v e h. e) ▸ (λ x y w v e h. e) ▸ (λ x y w v e h. e)
      ▸ (λ x y w v e h. e) ▸ (λ x y w v e h. e) ▸ (λ x y w v e h. h refl refl ∙ sym (zero-add w)) ▸ (λ x y w v e h. e)
      ▸ (λ x y w v e h. e) ▸ (λ x y w v e h. e) ▸ end)

  -- the tree
  operand-shifted : (os : List Expression) (i : ℕ) → operand (map (shifted wires inputs) os) i ≡ shifted wires inputs (operand os i)
  unfolding shifted
  operand-shifted os i = get_or-map (shifted wires inputs) os i (constant (Boolean false))

  abbrev MeaningOfKind : ℕ → Type 0
  MeaningOfKind k = (t : ValueType) (b : ℕ) (os : List Expression)
      → meaning_of k t (raise_of wires inputs k + b) (map (shifted wires inputs) os) ≡ shifted wires inputs (meaning_of k t b os)

  meaning-of-kind : (k : ℕ) → k < kind_count → MeaningOfKind k
  unfolding meaning_of shifted
  meaning-of-kind = every-kind MeaningOfKind
      ((λ t b os. rw zero-add) ▸ (λ t b os. rw zero-add) ▸ (λ t b os. refl) ▸ (λ t b os. refl)
      ▸ (λ t b os. rw (operand-shifted os 0)) ▸ (λ t b os. rw (operand-shifted os 0))
      ▸ (λ t b os. rw (operand-shifted os 0, operand-shifted os 1)) ▸ (λ t b os. rw (operand-shifted os 0, operand-shifted os 1))
      ▸ (λ t b os. rw (operand-shifted os 0, operand-shifted os 1)) ▸ (λ t b os. rw (operand-shifted os 0, operand-shifted os 1))
      ▸ (λ t b os. rw (operand-shifted os 0, operand-shifted os 1)) ▸ (λ t b os. rw (operand-shifted os 0, operand-shifted os 1))
      ▸ (λ t b os. rw (operand-shifted os 0, operand-shifted os 1, operand-shifted os 2))
      ▸ (λ t b os. rw (operand-shifted os 0, operand-shifted os 1, operand-shifted os 2))
      ▸ (λ t b os. rw (operand-shifted os 0, operand-shifted os 1))
      ▸ (λ t b os. rw (zero-add, operand-shifted os 0)) ▸ (λ t b os. rw (zero-add, operand-shifted os 0))
      ▸ (λ t b os. rw (operand-shifted os 0, operand-shifted os 1)) ▸ (λ t b os. refl)
      ▸ (λ t b os. rw (operand-shifted os 0, operand-shifted os 1, operand-shifted os 2, operand-shifted os 3)) ▸ end)

  -- and that of a wire, which may be kept
  tree-shifted : (b : ℕ) (e : Expression) → wire_tree b (shifted wires inputs e) ≡ shifted wires inputs (wire_tree b e)
  unfolding shifted
  tree-shifted b e = go (is_kept b)
    where
      go : (t : Bool) → cond t (kept (wire_type b) (shifted wires inputs e)) (shifted wires inputs e)
          ≡ shifted wires inputs (cond t (kept (wire_type b) e) e)
      go true = refl
      go false = refl

-- the count of cells does not fall
expression_rises : (ins ws s : List ℕ) (level t at c : ℕ) (e : Expression) (n k : ℕ) → read_expression ins ws s level t at c ≡ got e n k → c ≤ k
expression_rises ins ws s level t at c e n k r = omega (arith, expression_extent ins ws s level t at c r)

pub wire-rises : (ins ws s : List ℕ) (b at c : ℕ) (e : Expression) (n k : ℕ) → read_wire ins ws s b at c ≡ got e n k → c ≤ k
wire-rises ins ws s b at c e n k r =
    let v = wire-view ins ws s b at c r in expression_rises ins ws s 16 (plain_byte b) at c v.tree n k v.reads

pub each-rises : (read : ℕ → ℕ → ℕ → Reading Expression) → ((t at c : ℕ) (e : Expression) (n k : ℕ) → read t at c ≡ got e n k → c ≤ k)
    → (ts : List ℕ) (at c : ℕ) {es : List Expression} {n k : ℕ} → read_each read ts at c ≡ got es n k → c ≤ k
unfolding read_each
each-rises read rises [] at c {k = k} r = let count : k ≡ c = cc in omega arith
each-rises read rises (t ∷ ts) at c r =
    let v = run-view read t ts at c r in
    let first = rises t at c v.head v.next v.count v.first in
    let rest = each-rises read rises ts v.next v.count v.rest in
    omega arith

-- own bytes that are good are read
good_own : (ins ws s : List ℕ) (level t at c n k : ℕ) → OwnGood ins ws s level t at c n k → own_of ins ws s level t at c ≡ got_at n k
unfolding own_of body_from names_of
good_own ins ws s level t at c n k g =
    rw (lt-leb (length s) at g.starts, lt-leb kind_count (get_or s at 0) g.kind, ne_eqb level 0 (λ e. omega (arith, g.levels)))
    (rw (le-ltb 64 (c + cells_of (get_or s at 0)) g.cells, le-ltb (length s) (at + 1 + body_of (get_or s at 0)) g.ends)
    (rw (
      lt-leb (limit_of ins ws (get_or s at 0)) (named_at s at) g.names,
      g.asked-kept,
      eq-eqb (found_of ins ws t (get_or s at 0) (named_at s at)) t g.type,
    ) (ap₂ got_at (sym g.next) (sym g.count))))

-- and an expression whose own bytes and operands are read
good_expression : (ins ws s : List ℕ) (level t at c kind : ℕ) {n k m j : ℕ} {os : List Expression} {e : Expression}
    → own_of ins ws s (suc level) t at c ≡ got_at n k → get_or s at 0 ≡ kind
    → read_each (read_expression ins ws s level) (operands_of kind t) n k ≡ got os m j
    → meaning_of kind (type_of_byte t) (body_at s at) os ≡ e → read_expression ins ws s (suc level) t at c ≡ got e m j
unfolding read_expression
good_expression ins ws s level t at c kind {n} {k} {m} {j} {os} {e} own same each tree =
    let each' : read_each (read_expression ins ws s level) (operands_of (get_or s at 0) t) n k ≡ got os m j =
    ap (λ x. read_each (read_expression ins ws s level) (operands_of x t) n k) same ∙ each in
    let tree' : meaning_of (get_or s at 0) (type_of_byte t) (body_at s at) os ≡ e =
    ap (λ x. meaning_of x (type_of_byte t) (body_at s at) os) same ∙ tree in
    rw own (rw each' (ap (λ x. got x m j) tree'))

-- what an expression's body names, and its type, in lists that stand in longer ones
module _ (wires inputs : ℕ) (ins allIns ws allWs : List ℕ) (on_inputs : Inside inputs ins allIns) (on_wires : Inside wires ws allWs) where
  limit_raised : (k : ℕ) → raise_of wires inputs k + limit_of ins ws k ≤ limit_of allIns allWs k
  limit_raised k = go (names_wire k) (eqb (own_type_of k) named-input)
    where
      go : (a b : Bool) → cond a wires (cond b inputs 0) + cond a (length ws) (cond b (length ins) 2)
          ≤ cond a (length allWs) (cond b (length allIns) 2)
      go true b = inside-fits on_wires
      go false true = inside-fits on_inputs
      go false false = omega arith

  found-raised : (u k n : ℕ) → n < limit_of ins ws k
      → found_of allIns allWs u k (raise_of wires inputs k + n) ≡ found_of ins ws u k n
  found-raised u k n = go (names_wire k) (eqb (own_type_of k) named-input)
    where
      go : (a b : Bool) → n < cond a (length ws) (cond b (length ins) 2)
          → cond a (plain_byte (get_or allWs (cond a wires (cond b inputs 0) + n) 0))
          (cond b (get_or allIns (cond a wires (cond b inputs 0) + n) 0) (typed u (own_type_of k)))
          ≡ cond a (plain_byte (get_or ws n 0)) (cond b (get_or ins n 0) (typed u (own_type_of k)))
      go true b l = ap plain_byte (inside-at on_wires n 0 l)
      go false true l = inside-at on_inputs n 0 l
      go false false l = refl

  kept-raised : (k n : ℕ) → n < limit_of ins ws k → names_unkept allWs k (raise_of wires inputs k + n) ≡ names_unkept ws k n
  kept-raised k n = go (eqb (own_type_of k) named-wire) (eqb (own_type_of k) named-kept) (eqb (own_type_of k) named-input)
    where
      go : (a c b : Bool) → n < cond (a || c) (length ws) (cond b (length ins) 2)
          → cond c (not (is_kept (get_or allWs (cond (a || c) wires (cond b inputs 0) + n) 0))) false
          ≡ cond c (not (is_kept (get_or ws n 0))) false
      go a false b l = refl
      go true true b l = ap (λ x. not (is_kept x)) (inside-at on_wires n 0 l)
      go false true b l = ap (λ x. not (is_kept x)) (inside-at on_wires n 0 l)

  module _ (s t others : List ℕ) where
    named-shifted : (a b : ℕ) → get_or s a 0 < kind_count → Own wires inputs s t others a b
        → named_at t b ≡ raise_of wires inputs (get_or s a 0) + named_at s a
    named-shifted a b l o =
        rw o.kind (named-of-kind wires inputs (get_or s a 0) l (get_or s (a + 1) 0) (get_or t (b + 1) 0) (λ p. first p))
      where
        first : 0 < body_of (get_or s a 0) → get_or t (b + 1) 0 ≡ raise_of wires inputs (get_or s a 0) + get_or s (a + 1) 0
        first p = rw (add-zero (b + 1), add-zero (a + 1)) at (o.body 0 p)

    body-shifted : (a b : ℕ) → get_or s a 0 < kind_count → Own wires inputs s t others a b
        → body_at t b ≡ raise_of wires inputs (get_or s a 0) + body_at s a
    body-shifted a b l o =
        rw o.kind
        (body-of-kind wires inputs (get_or s a 0) l (named_at s a) _ (word_at s (a + 1)) (word_at t (b + 1))
        (rw o.kind at (named-shifted a b l o)) (λ e z. word e z))
      where
        byte : body_of (get_or s a 0) ≡ 4 → raise_of wires inputs (get_or s a 0) ≡ 0 → (i : ℕ) → i < 4
            → get_or t (b + 1 + i) 0 ≡ get_or s (a + 1 + i) 0
        byte e z i j = o.body i (omega arith) ∙ ap (λ r. r + get_or s (a + 1 + i) 0) z ∙ zero-add (get_or s (a + 1 + i) 0)

        word : body_of (get_or s a 0) ≡ 4 → raise_of wires inputs (get_or s a 0) ≡ 0 → word_at t (b + 1) ≡ word_at s (a + 1)
        word e z =
            let first : get_or t (b + 1) 0 ≡ get_or s (a + 1) 0 = rw (add-zero (b + 1), add-zero (a + 1)) at (byte e z 0 (omega arith)) in
            rw (first, byte e z 1 (omega arith), byte e z 2 (omega arith), byte e z 3 (omega arith))

    own-shifted : (level u a c b d n k : ℕ) → OwnGood ins ws s level u a c n k → Own wires inputs s t others a b
        → d + cells_of (get_or s a 0) ≤ 64
        → OwnGood allIns allWs t level u b d (b + 1 + body_of (get_or s a 0)) (d + cells_of (get_or s a 0))
    own-shifted level u a c b d n k g o l =
        let named = named-shifted a b g.kind o in
        record {
          starts = omega (arith, o.ends);
          kind = rw o.kind g.kind;
          levels = g.levels;
          cells = rw o.kind l;
          ends = rw o.kind o.ends;
          names = rw (named, o.kind) (omega (arith, limit_raised (get_or s a 0), g.names));
          asked-kept = rw (named, o.kind) (kept-raised (get_or s a 0) (named_at s a) g.names ∙ g.asked-kept);
          type = rw (named, o.kind) (found-raised u (get_or s a 0) (named_at s a) g.names ∙ g.type);
          next = rw o.kind;
          count = rw o.kind;
        }

    -- What reads as e from the place a on reads from b on as the shifted e, with `extra` cells more before it.
    module _ (extra : ℕ) where
      record ReadsAt (readThere : ℕ → ℕ → ℕ → Reading Expression) (u c b : ℕ) (e : Expression) (n k : ℕ) : Type 0 where
        next : ℕ
        here : Here wires inputs s t others n next
        reads : readThere u b (extra + c) ≡ got (shifted wires inputs e) next (extra + k)

      pub record EachAt (readThere : ℕ → ℕ → ℕ → Reading Expression) (us : List ℕ) (c b : ℕ) (es : List Expression) (n k : ℕ) : Type 0 where
        pub next : ℕ
        pub here : Here wires inputs s t others n next
        pub reads : read_each readThere us b (extra + c) ≡ got (map (shifted wires inputs) es) next (extra + k)

      abbrev Shifts : (read readThere : ℕ → ℕ → ℕ → Reading Expression) → Type 0
      Shifts read readThere = (u a c b : ℕ) (e : Expression) (n k : ℕ) → read u a c ≡ got e n k → Here wires inputs s t others a b
          → extra + k ≤ 64 → ReadsAt readThere u c b e n k

      -- one expression for each type, where each of them reads so
      module _ (read readThere : ℕ → ℕ → ℕ → Reading Expression)
          (rises : (u a c : ℕ) (e : Expression) (n k : ℕ) → read u a c ≡ got e n k → c ≤ k) (one : Shifts read readThere) where
        each-shifted : (us : List ℕ) (a c b : ℕ) (es : List Expression) (n k : ℕ) → read_each read us a c ≡ got es n k
            → Here wires inputs s t others a b → extra + k ≤ 64 → EachAt readThere us c b es n k
        unfolding read_each
        each-shifted [] a c b es n k r h l =
            let trees : es ≡ [] = cc in
            let next : n ≡ a = cc in
            let count : k ≡ c = cc in
            record { next = b; here = rw next h; reads = rw (trees, count) }
        each-shifted (u ∷ us) a c b es n k r h l =
            let v = run-view read u us a c r in
            let behind = each-rises read rises us v.next v.count v.rest in
            let f = one u a c b v.head v.next v.count v.first h (omega arith) in
            let g = each-shifted us v.next v.count f.next v.tail n k v.rest f.here l in
            let trees = ap (λ x. got (map (shifted wires inputs) x) g.next (extra + k)) (sym v.trees) in
            record { next = g.next; here = g.here; reads = rw f.reads (rw g.reads trees) }

      expression_shifted : (level : ℕ) → Shifts (read_expression ins ws s level) (read_expression allIns allWs t level)
      expression_shifted zero u a c b e n k r h l = absurd (no-level ins ws s u a c r)
      expression_shifted (suc level) u a c b e n k r h l =
          let v = expression_view ins ws s level u a c r in
          let kind = get_or s a 0 in
          let g = v.good in
          let o = own_at wires inputs s t others a b h g.starts g.ends in
          let run = run-extent ins ws s level (operands_of kind u) v.first v.before v.each in
          let own = own-shifted (suc level) u a c b (extra + c) v.first v.before g o (omega (arith, g.count, run.counted)) in
          let os =
          each-shifted (read_expression ins ws s level) (read_expression allIns allWs t level) (expression_rises ins ws s level)
          (expression_shifted level) (operands_of kind u) v.first v.before (b + 1 + body_of kind) v.operands n k v.each
          (rw g.next o.next) l in
          let before : extra + c + cells_of kind ≡ extra + v.before = omega (arith, g.count) in
          let tree = ap (λ x. meaning_of kind (type_of_byte u) x (map (shifted wires inputs) v.operands)) (body-shifted a b g.kind o)
          ∙ meaning-of-kind wires inputs kind g.kind (type_of_byte u) (body_at s a) v.operands
          ∙ ap (shifted wires inputs) (sym v.tree) in
          record {
            next = os.next;
            here = os.here;
            reads = good_expression allIns allWs t level u b (extra + c) kind
                (good_own allIns allWs t (suc level) u b (extra + c) _ _ own ∙ ap (got_at (b + 1 + body_of kind)) before)
                o.kind os.reads tree;
          }

      wire-shifted : Shifts (read_wire ins ws s) (read_wire allIns allWs t)
      wire-shifted u a c b e n k r h l =
          let v = wire-view ins ws s u a c r in
          let f = expression_shifted 16 (plain_byte u) a c b v.tree n k v.reads h l in
          let tree = tree-shifted wires inputs u v.tree ∙ ap (shifted wires inputs) (sym v.whole) in
          record { next = f.next; here = f.here; reads = rw f.reads (ap (λ x. got x f.next (extra + k)) tree) }

      -- the expressions of wires with these type bytes
      pub wires-shifted : (us : List ℕ) (a c b : ℕ) (es : List Expression) (n k : ℕ) → read_each (read_wire ins ws s) us a c ≡ got es n k
          → Here wires inputs s t others a b → extra + k ≤ 64 → EachAt (read_wire allIns allWs t) us c b es n k
      wires-shifted = each-shifted (read_wire ins ws s) (read_wire allIns allWs t) (wire-rises ins ws s) wire-shifted
