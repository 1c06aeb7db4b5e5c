-- The walk over the operands that count: what was found of those passed, and what is left ahead; and a leaf.
use Prim.Native.Nat.{ℕ, ◌+◌, ◌-◌, ◌<◌}
use mathlib.Core.Path.{◌≡◌, refl, sym, ap, subst, ◌∙◌}
use mathlib.Core.Bool.{Bool, true, false, not, ◌||◌, ◌&&◌, and-true, and-false}
use mathlib.Core.List.{List, [], ◌∷◌}
use native.Mathlib.Numerals.{sub-one}
use native.Mathlib.Omega.{arith}
use lib.Dec.{eqb}
use lib.ListN.{length, get_or}
use borrow.Author.Tests.{eqb-true, eq-eqb, ne_eqb}
use Rattle.wires.specs.Sets.{member}
use Rattle.sheet.specs.Data.{ValueType}
use Rattle.sheet.specs.Expressions.{Expression}
use Rattle.sheet.specs.Kinds.{body_of}
use Rattle.sheet.specs.Lists.{among}
use Rattle.sheet.specs.Reads.{wires_named}
use Rattle.sheet.specs.Readings.{body_at}
use Rattle.sheet.specs.Laws.Lists.{among-append}
use Rattle.sheet_walk.specs.Skips.{Readable}
use Rattle.sheet_walk.specs.declared.Place.{Place}
use Rattle.kernel.specs.Values.{is_unknown}
use Rattle.kernel.specs.Order.{value_at}
use Rattle.kernel.specs.Waits.{wires_awaited}
use Rattle.kernel.specs.declared.Value.{Value}
use Rattle.kernel.specs.declared.Value.TheVariants.{Unknown, Known}
use Rattle.leaves.proofs.Leaves.{byte-body}
use Rattle.expression.specs.Places.{value_of_word, Placement}
use Rattle.expression.proofs.Views.{Operand, placed, operand-counted, wire-view, leaf-of}
use Rattle.expression.proofs.Giving.{leaf-ends}
use Rattle.waiting.specs.Waiting.{all_awaited, Behind, passed, past, Run, done, more, Counts, Awaits}
use Rattle.waiting.specs.declared.count.Counted.{Counted}
use Rattle.waiting.specs.declared.awaited.Waited.{Waited}
use Rattle.waiting.proofs.Counting.{leaf-whole}

-- one operand more: f was found before it, u is whether the wire is unknown, a whether the operand waits for it, r whether the rest does
one-step : (f u a r : Bool) → ((f || (u && a)) || (u && r)) ≡ (f || (u && (a || r)))
one-step true u a r = refl
one-step false true a r = refl
one-step false false a r = refl

nothing_left : (f u : Bool) → (f || (u && false)) ≡ f
nothing_left true u = refl
nothing_left false true = refl
nothing_left false false = refl

-- a wire is unknown where it is not in the set of the known ones
unknown-word : (b : Bool) (t : ValueType) (word : ℕ) → is_unknown (value_of_word b t word) ≡ not b
unknown-word true t word = refl
unknown-word false t word = refl

module _ {sheet memory words : List ℕ} {bits level asked at cell : ℕ} (p : Placement sheet memory words bits level asked at cell)
    (fresh : Bool) where
  abbrev unknown_at : ℕ → Bool
  unknown_at w = is_unknown (value_at p.now.wires w)

  abbrev whole : List ℕ
  whole = wires_awaited p.now fresh p.tree cell

  -- so many operands are ahead, and others behind them; what was found and what those ahead wait for is what the whole waits for
  pub record Left (anew : Bool) (found next following left rest : ℕ) : Type 0 where
    pub operands : List Expression
    pub end : ℕ
    pub last : ℕ
    pub run : Run p left next following end last operands
    pub others : Behind sheet rest end last p.next p.count
    pub same : (w : ℕ)
        → (member found w || (unknown_at w && among w (all_awaited p.now anew operands following))) ≡ (unknown_at w && among w whole)

  pub begun : {r : Counted} {none : ℕ} → Counts p fresh r → ((w : ℕ) → member none w ≡ false)
      → Left r.fresh none r.here.at r.here.cell r.operands r.rest
  begun {r} c none_in =
      record {
        operands = c.operands;
        end = c.end;
        last = c.following;
        run = c.run;
        others = c.rest;
        same = λ w. rw (none_in w) (go w (value_at p.now.wires w) refl);
      }
    where
      go : (w : ℕ) (v : Value) → value_at p.now.wires w ≡ v
          → (is_unknown v && among w (all_awaited p.now r.fresh c.operands r.here.cell)) ≡ (is_unknown v && among w whole)
      go w Unknown u = sym (c.same w u)
      go w (Known d) u = refl

  -- the operand that comes next, and those behind it
  record Ahead (left a k n j : ℕ) (es : List Expression) : Type 0 where
    type : ℕ
    first : Operand p type a k
    rest : List Expression
    run : Run p (left - 1) first.next first.count n j rest
    trees : es ≡ first.tree ∷ rest

  ahead : {left a k n j : ℕ} {es : List Expression} → Run p left a k n j es → 0 < left → Ahead left a k n j es
  ahead done l = absurd (omega arith)
  ahead (more t {m = m} {i = i} {e = e} {es = es} reads cells rest) l =
      record {
        type = t;
        first = record { tree = e; next = m; count = i; reads = reads; cells = cells };
        rest = es;
        run = rw sub-one rest;
        trees = refl;
      }

  module _ {anew : Bool} {found next following left rest : ℕ} (h : Left anew found next following left rest) (some : 0 < left) where
    abbrev here : Ahead left next following h.end h.last h.operands
    here = ahead h.run some

    pub next-placed : (t : ℕ) × Placement sheet memory words bits (level - 1) t next following
    next-placed = (here.type, placed p here.first)

    -- what the operands ahead wait for, with those behind the next one from a number of cells on
    spread : {k : ℕ} → k ≡ here.first.count → (w : ℕ) → among w (all_awaited p.now anew h.operands following)
        ≡ (among w (wires_awaited p.now anew here.first.tree following) || among w (all_awaited p.now anew here.rest k))
    unfolding all_awaited
    spread number w =
        ap (λ es. among w (all_awaited p.now anew es following)) here.trees
        ∙ among-append w (wires_awaited p.now anew here.first.tree following) _ ∙ rw (number, operand-counted p here.first)

    pub further : {r : Waited} {joined : ℕ}
        → ((t : ℕ) (q : Placement sheet memory words bits (level - 1) t next following) → Awaits q anew r)
        → ((w : ℕ) → member joined w ≡ (member found w || member r.wires.bits w))
        → Left anew joined r.end.at r.end.cell (left - 1) rest
    further {r} {joined} awaits joins =
        let one = awaits here.type (placed p here.first) in
        record {
          operands = here.rest;
          end = h.end;
          last = h.last;
          run = rw (one.next, one.count) here.run;
          others = h.others;
          same = λ w. rw (joins w, one.same w)
              (one-step (member found w) (unknown_at w) _ _
              ∙ (ap (λ x. member found w || (unknown_at w && x)) (sym (spread one.count w)) ∙ h.same w));
        }

  -- no operand is ahead
  module _ {anew : Bool} {found next following left rest : ℕ} (h : Left anew found next following left rest) (none : left ≡ 0) where
    record Empty (a k n j : ℕ) (es : List Expression) : Type 0 where
      trees : es ≡ []
      place : a ≡ n
      number : k ≡ j

    empty : {left a k n j : ℕ} {es : List Expression} → Run p left a k n j es → left ≡ 0 → Empty a k n j es
    empty done z = record { trees = refl; place = refl; number = refl }
    empty (more t reads cells run) z = absurd (omega arith)

    pub others-behind : Behind sheet rest next following p.next p.count
    others-behind = let e = empty h.run none in rw (e.place, e.number) h.others

    pub ended : {s : Place} → ((n j : ℕ) → Behind sheet rest next following n j → s ≡ record { at = n; cell = j }) → {all : ℕ}
        → all ≡ found → Awaits p fresh (record { wires = record { bits = all }; end = s })
    unfolding all_awaited among
    ended walked is =
        let e = walked p.next p.count others-behind in
        let nothing : (w : ℕ) → among w (all_awaited p.now anew h.operands following) ≡ false = λ w. rw (empty h.run none).trees in
        record {
          same = λ w. rw is
              (sym (nothing_left (member found w) (unknown_at w))
              ∙ (ap (λ x. member found w || (unknown_at w && x)) (sym (nothing w)) ∙ h.same w));
          next = ap (λ x. x.at) e;
          count = ap (λ x. x.cell) e;
        }

  -- A leaf.
  module _ (below : get_or sheet at 0 < 4) {n : ℕ} (ends : n ≡ at + 1 + body_of (get_or sheet at 0)) where
    named_here : wires_awaited p.now fresh p.tree cell ≡ wires_named (get_or sheet at 0) (body_at sheet at)
    named_here = leaf-whole p fresh below

    -- one that is no wire waits for nothing
    pub no-wire : (get_or sheet at 0 ≡ 2 → ⊥) → {none : ℕ} → ((w : ℕ) → member none w ≡ false)
        → Awaits p fresh (record { wires = record { bits = none }; end = record { at = n; cell = cell } })
    unfolding among
    no-wire other empty =
        let (next, count) = leaf-ends p fresh below in
        let nothing : whole ≡ [] = named_here ∙ rw (ne_eqb (get_or sheet at 0) 2 other) in
        record {
          same = λ w. empty w ∙ sym (ap (λ ws. unknown_at w && among w ws) nothing ∙ and-false (unknown_at w));
          next = ends ∙ sym next;
          count = sym count;
        }

    -- a wire waits for itself, where it is unknown
    pub itself : get_or sheet at 0 ≡ 2 → (none added : ℕ) {found : ℕ} → ((w : ℕ) → member none w ≡ false)
        → ((w : ℕ) → member added w ≡ (member none w || eqb w (get_or sheet (at + 1) 0)))
        → ((w : ℕ) → member found w ≡ (member added w && not (member bits w)))
        → Awaits p fresh (record { wires = record { bits = found }; end = record { at = n; cell = cell } })
    unfolding among
    itself of none added empty adds takes =
        let (next, count) = leaf-ends p fresh below in
        let names : whole ≡ get_or sheet (at + 1) 0 ∷ [] = named_here ∙ rw (eq-eqb (get_or sheet at 0) 2 of) (ap (λ x. x ∷ []) body) in
        record {
          same = λ w. takes w ∙ (rw (adds w, empty w) (go w (eqb w (get_or sheet (at + 1) 0)) refl)
              ∙ ap (λ ws. unknown_at w && among w ws) (sym names));
          next = ends ∙ sym next;
          count = sym count;
        }
      where
        body : body_at sheet at ≡ get_or sheet (at + 1) 0
        body = byte-body (leaf-of p below) (λ e. omega arith)

        stands : (w : ℕ) → w ≡ get_or sheet (at + 1) 0 → unknown_at w ≡ not (member bits w)
        stands w e =
            let within : get_or sheet (at + 1) 0 < length p.wires = subst (λ x. x < length p.wires) body (wire-view p of).within in
            ap is_unknown (p.stands.on_wires w (omega arith)) ∙ unknown-word (member bits w) _ _

        go : (w : ℕ) (t : Bool) → eqb w (get_or sheet (at + 1) 0) ≡ t
            → (t && not (member bits w)) ≡ (unknown_at w && among w (get_or sheet (at + 1) 0 ∷ []))
        go w true e = rw (e, stands w (eqb-true w _ e)) (sym (and-true (not (member bits w))))
        go w false e = rw e (sym (and-false (unknown_at w)))

-- The walk past several expressions: those behind the next one.
module _ {sheet : List ℕ} where
  pub one-past : {left a k n j : ℕ} → Behind sheet left a k n j → 0 < left → {s : Place}
      → ((q : Readable sheet a k) → s ≡ record { at = q.next; cell = q.count }) → Behind sheet (left - 1) s.at s.cell n j
  one-past passed l walked = absurd (omega arith)
  one-past (past q rest) l walked = rw (ap (λ x. x.at) (walked q), ap (λ x. x.cell) (walked q), sub-one) rest

  pub all_past : {left a k n j : ℕ} → Behind sheet left a k n j → left ≡ 0
      → ◌≡◌ {A = Place} (record { at = a; cell = k }) (record { at = n; cell = j })
  all_past passed e = refl
  all_past (past q rest) e = absurd (omega arith)
