-- How a round goes on: the wires that are not left have their new values, and the words still hold the old ones.
use Prim.Native.Nat.{ℕ, ◌≤◌, ◌<◌}
use mathlib.Core.Path.{◌≡◌, refl, sym, ap, ◌∙◌}
use mathlib.Core.Logic.{◌≢◌}
use mathlib.Core.Bool.{Bool, true, false, not, ◌&&◌}
use mathlib.Core.List.{List}
use native.Mathlib.Omega.{arith}
use lib.Dec.{eqb, ltb}
use lib.ListN.{length, get_or, length-set, get_or-eq_default}
use lib.Seq.{get_or-set_same, get_or-set_other, drop-set-lt}
use borrow.Author.Tests.{eq-eqb, ltb-true, ltb-false, not-true}
use Rattle.wires.specs.Sets.{member}
use Rattle.wires.specs.Laws.{at-or_else, added-other, taken-other, left_other}
use Rattle.sheet.specs.Data.{plain_byte}
use Rattle.sheet.specs.Laws.Lists.{never, both}
use Rattle.kernel.specs.Values.{IsKnown, known}
use Rattle.kernel.specs.Order.{value_at}
use Rattle.kernel.specs.Systems.{round_over}
use Rattle.kernel.proofs.Laws.Keeping.{over-length, over-known, over-unknown}
use Rattle.kernel.proofs.Laws.Instants.{round-at}
use Rattle.kernel.specs.declared.Value.{Value}
use Rattle.kernel.specs.declared.Value.TheVariants.{Unknown}
use Rattle.leaves.specs.Words.{fixed_words}
use Rattle.expression.specs.Places.{Placement, whole_value}
use Rattle.sheet_walk.specs.declared.Place.{Place}
use Rattle.rounds.specs.Running.{Held, unheld, held, Holds, round_of, Before, Put, left, put, mapped}
use Rattle.rounds.proofs.Wires.{wire-placed, wire-valued}

-- What a set and words hold, of any wire: it is unknown just where it is not in the set, and known just where it is.
held-unknown : {b : Bool} {word : ℕ} {v : Value} → Held b word v → b ≡ false → v ≡ Unknown
held-unknown unheld e = refl
held-unknown (held f) e = never (cc)

unknown-unheld : {b : Bool} {word : ℕ} {v : Value} → Held b word v → v ≡ Unknown → b ≡ false
unknown-unheld unheld e = refl
unknown-unheld (held f) e = never (cc)

pub held-known : {b : Bool} {word : ℕ} {v : Value} → b ≡ true → Held b word v → IsKnown v
held-known e unheld = never (cc)
held-known e (held f) = known

pub known-held : {b : Bool} {word : ℕ} {v : Value} → IsKnown v → Held b word v → b ≡ true
known-held known (held f) = refl

module _ {n bits : ℕ} {row words : List ℕ} {values : List Value} (h : Holds n row bits words values) (w : ℕ) where
  pub out-unknown : member bits w ≡ false → value_at values w ≡ Unknown
  out-unknown e = go (ltb w n) refl
    where
      go : (t : Bool) → ltb w n ≡ t → value_at values w ≡ Unknown
      go true l = held-unknown (h.each w (ltb-true w n l)) e
      go false l = get_or-eq_default values Unknown (omega (arith, ltb-false w n l, h.size))

  pub unknown-out : value_at values w ≡ Unknown → member bits w ≡ false
  unknown-out e = go (ltb w n) refl
    where
      go : (t : Bool) → ltb w n ≡ t → member bits w ≡ false
      go true l = unknown-unheld (h.each w (ltb-true w n l)) e
      go false l = h.beyond w (ltb-false w n l)

-- What a put leaves: the same words but the wire's own, and the wire's value.
module _ {w bits after : ℕ} {words new : List ℕ} where
  pub put-length : {v : Value} → Put w bits words v after new → length new ≡ length words
  put-length (left m e) = ap length e
  put-length (put m e) = ap length e ∙ simp length-set

  pub put-fixed : {v : Value} → Put w bits words v after new → w < 64 → fixed_words new ≡ fixed_words words
  put-fixed (left m e) l = ap fixed_words e
  put-fixed (put m e) l = ap fixed_words e ∙ drop-set-lt 64 words w _ l

  pub put_other : {v : Value} → Put w bits words v after new → (x : ℕ) → x ≢ w
      → (member after x ≡ member bits x) × (get_or new x 0 ≡ get_or words x 0)
  put_other (left m e) x other = (rw m, rw e)
  put_other (put m e) x other = (added-other (member bits) (member after) w m x other, rw e (get_or-set_other words w x _ 0 other))

  pub put-held : {v : Value} → Put w bits words v after new → w < length words → member bits w ≡ false
      → Held (member after w) (get_or new w 0) v
  put-held (left m e) l out = rw (m, out) unheld
  put-held (put m e) l out = rw (m w, out, eq-eqb w w refl) (held (ap (λ x. get_or x w 0) e ∙ get_or-set_same words w _ 0 l))

module _ {s memory row types places firsts start : List ℕ} {bits due : ℕ}
    (b : Before s memory row types places firsts bits due start) where
  abbrev pub rounded : List Value
  rounded = round_over (round_of b.under.running) b.under.values

  -- the wires that are not left have their new values; the words still hold the values before
  pub record Midway (left grown : ℕ) (words : List ℕ) : Type 0 where
    pub holds : Holds (length types) row bits words b.under.values
    pub ahead : (x : ℕ) → member left x ≡ true → (x < length types) × (member bits x ≡ false) × (member grown x ≡ false)
    pub done : (x : ℕ) → x < length types → member left x ≡ false → Held (member grown x) (get_or words x 0) (value_at rounded x)
    pub beyond : (x : ℕ) → length types ≤ x → member grown x ≡ false

  -- a wire that is passed over is known, and comes back as it was, or would stay unknown
  passed_over : (x : ℕ) → x < length types → (t u : Bool) → member bits x ≡ t → member due x ≡ u → (u && not t) ≡ false
      → value_at rounded x ≡ value_at b.under.values x
  passed_over x l true u k d e =
      over-known (round_of b.under.running) b.under.values x (omega (arith, b.under.holds.size)) (held-known k (b.under.holds.each x l))
  passed_over x l false true k d e = never (cc)
  passed_over x l false false k d e =
      let unknown = out-unknown b.under.holds x k in
      over-unknown (round_of b.under.running) b.under.values x (omega (arith, b.under.holds.size)) unknown
      ∙ b.which_due.rests x l k d ∙ sym unknown

  pub begun : {left : ℕ} → ((k : ℕ) → member left k ≡ (member due k && not (member bits k))) → Midway left bits start
  begun left-are =
      record {
        holds = b.under.holds;
        ahead = λ x e. let (is-due, out) = both (member due x) (not (member bits x)) (sym (left-are x) ∙ e) in
            let unknown = not-true (member bits x) out in (b.which_due.within x is-due, unknown, unknown);
        done = λ x l e.
            rw (passed_over x l (member bits x) (member due x) refl refl (sym (left-are x) ∙ e)) (b.under.holds.each x l);
        beyond = b.under.holds.beyond;
      }

  -- where the expression of wire w stands
  abbrev pub placed : {w left grown : ℕ} {words : List ℕ} {here : Place} → Midway left grown words → w < length types
      → here ≡ mapped places firsts w → Placement s memory words bits 16 (plain_byte (get_or types w 0)) here.at here.cell
  placed {w} m l = wire-placed b.under.running m.holds b.under.typed w l

  -- wire w, which is left, gets its new value
  module _ {w left grown : ℕ} {words : List ℕ} {here : Place} (m : Midway left grown words) (next : member left w ≡ true)
      (l : w < length types) (is : here ≡ mapped places firsts w)
      (v : Value) (e : v ≡ whole_value (placed m l is) false) where
    was_unknown : value_at b.under.values w ≡ Unknown
    was_unknown = out-unknown b.under.holds w (m.ahead w next).1

    worth : v ≡ value_at rounded w
    worth =
        let r = b.under.running in
        e ∙ wire-valued r b.under.values w l is
        ∙ sym (round-at r.given.sheet r.given.inputs r.given.memory b.under.values w)
        ∙ sym (over-unknown (round_of r) b.under.values w (omega (arith, b.under.holds.size)) was_unknown)

    pub further : {after rest : ℕ} {new : List ℕ} → Put w grown words v after new
        → ((k : ℕ) → member rest k ≡ (member left k && not (eqb k w))) → Midway rest after new
    further {after} {rest} {new} p takes =
        let h = m.holds in
        let here : Held (member after w) (get_or new w 0) (value_at rounded w) =
        rw worth at (put-held p (omega (arith, h.room)) (m.ahead w next).2) in
        let still : Held (member bits w) (get_or new w 0) (value_at b.under.values w) = rw ((m.ahead w next).1, was_unknown) unheld in
        record {
          holds = record {
            fixed = put-fixed p (omega (arith, b.under.running.few)) ∙ h.fixed;
            size = h.size;
            room = omega (arith, h.room, put-length p);
            each = λ x k.
                at-or_else (λ x. Held (member bits x) (get_or new x 0) (value_at b.under.values x)) w x still
                (λ other. rw (put_other p x other).1 (h.each x k));
            beyond = h.beyond;
          };
          ahead = λ x i. let (was, other) = left_other (member left) (member rest) w takes x i in
              let (inside, unknown, out) = m.ahead x was in (inside, unknown, (put_other p x other).0 ∙ out);
          done = λ x k i.
              at-or_else (λ x. Held (member after x) (get_or new x 0) (value_at rounded x)) w x here
              (λ other. let o = put_other p x other in
              let was = sym (taken-other (member left) (member rest) w takes x other) ∙ i in rw (o.0, o.1) (m.done x k was));
          beyond = λ x k. (put_other p x (λ q. omega arith)).0 ∙ m.beyond x k;
        }

  pub round-done : {left grown : ℕ} {words : List ℕ} → Midway left grown words → ((x : ℕ) → member left x ≡ false)
      → Holds (length types) row grown words rounded
  round-done m none =
      record {
        fixed = m.holds.fixed;
        size = over-length (round_of b.under.running) b.under.values ∙ b.under.holds.size;
        room = m.holds.room;
        each = λ x k. m.done x k (none x);
        beyond = m.beyond;
      }
