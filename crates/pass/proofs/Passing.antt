-- How a pass goes on: the values so far, of which the set and the words hold each, and the rest of the list, whose wires are unknown.
use Prim.Native.Nat.{ℕ, ◌+◌, ◌≤◌, ◌<◌}
use mathlib.Core.Path.{◌≡◌, refl, sym, ◌∙◌}
use mathlib.Core.Logic.{◌≢◌}
use mathlib.Core.Bool.{false}
use mathlib.Core.Option.{some}
use mathlib.Core.List.{List}
use native.Mathlib.Numerals.{add-one}
use native.Mathlib.Omega.{arith}
use lib.ListN.{length, get_or, get_elem?, drop, set, length-set, length-replicate}
use lib.Seq.{drop-cons, drop-length, get_or-set_same, get_or-set_other}
use Rattle.wires.specs.Laws.{at-or_else}
use Rattle.wires.specs.Sets.{member}
use Rattle.sheet.specs.Data.{ValueType, plain_byte}
use Rattle.kernel.specs.Values.{Fits, unknown-fits}
use Rattle.kernel.specs.Order.{value_at, all_unknown}
use Rattle.kernel.specs.Instant.{Environment}
use Rattle.kernel.specs.Instants.{wire_count, value_of_wire, under}
use Rattle.kernel.specs.Schedules.{pass_from, pass}
use Rattle.kernel.proofs.Laws.Order.{unknown-at}
use Rattle.kernel.proofs.Laws.Instants.{round-at}
use Rattle.kernel.proofs.Laws.Typing.{OnWires, fits_inherited}
use Rattle.kernel.proofs.Laws.Memory.{round-typed}
use Rattle.kernel.specs.declared.Value.{Value}
use Rattle.kernel.specs.declared.Value.TheVariants.{Unknown}
use Rattle.leaves.specs.Words.{fixed_words}
use Rattle.expression.specs.Places.{Placement, whole_value}
use Rattle.sheet_walk.specs.declared.Place.{Place}
use Rattle.rounds.specs.Running.{Running, Held, unheld, Holds, Put, mapped}
use Rattle.rounds.proofs.Wires.{wires-counted, wire-placed, wire-valued}
use Rattle.rounds.proofs.Rounding.{put-length, put-fixed, put_other, put-held}
use Rattle.pass.specs.Along.{Along, passed_of}

module _ {s memory types places firsts list start : List ℕ} (a : Along s memory types places firsts list start) where
  abbrev run : Running s memory (fixed_words start) types places firsts
  run = a.running

  abbrev environment : List Value → Environment
  environment = under run.given.sheet run.given.inputs run.given.memory

  abbrev worth_of : List Value → ℕ → Value
  worth_of values = value_of_wire (environment values) run.given.sheet.expressions 0

  -- the values after the first p positions
  pub record Sofar (p bits : ℕ) (words : List ℕ) : Type 0 where
    pub values : List Value
    pub holds : Holds (length types) (fixed_words start) bits words values
    pub typed : OnWires Fits run.given.sheet.wire_types values
    pub ahead : (q : ℕ) → p ≤ q → q < length list → member bits (get_or list q 0) ≡ false
    pub rest : pass_from run.given.sheet run.given.inputs run.given.memory values (drop p list) ≡ passed_of a

  pub unpassed : {bits : ℕ} → ((w : ℕ) → member bits w ≡ false) → Sofar 0 bits start
  unfolding OnWires pass
  unpassed none =
      let n = wire_count run.given.sheet in
      record {
        values = all_unknown n;
        holds = record {
          fixed = refl;
          size = length-replicate n Unknown ∙ wires-counted run;
          room = a.room;
          each = λ w l. rw (none w, unknown-at n w) unheld;
          beyond = λ w l. none w;
        };
        typed = λ w t e. rw (unknown-at n w) unknown-fits;
        ahead = λ q l m. none (get_or list q 0);
        rest = refl;
      }

  -- where the expression of the wire at position p stands
  abbrev pub placed : {p bits : ℕ} {words : List ℕ} {here : Place} → Sofar p bits words → p < length list
      → here ≡ mapped places firsts (get_or list p 0)
      → Placement s memory words bits 16 (plain_byte (get_or types (get_or list p 0) 0)) here.at here.cell
  placed {p} h l = wire-placed run h.holds h.typed (get_or list p 0) (a.wires p l)

  -- a wire's value has its type
  worth-typed : (values : List Value) → OnWires Fits run.given.sheet.wire_types values → (w : ℕ) (t : ValueType)
      → get_elem? run.given.sheet.wire_types w ≡ some t → Fits t (worth_of values w)
  unfolding OnWires
  worth-typed values typed w t e =
      rw (round-at run.given.sheet run.given.inputs run.given.memory values w)
      at (round-typed run.given.sheet run.given.inputs run.given.memory run.well_typed run.valid_inputs run.valid_memory
      Fits fits_inherited values typed w t e)

  pub further : {p bits after : ℕ} {words new : List ℕ} {here : Place} (h : Sofar p bits words) (l : p < length list)
      (stands : here ≡ mapped places firsts (get_or list p 0)) (v : Value)
      → v ≡ whole_value (placed h l stands) false → Put (get_or list p 0) bits words v after new → Sofar (p + 1) after new
  unfolding OnWires pass_from
  further {p} {bits} {after} {words = words} {new = new} h l stands v e was =
      let w = get_or list p 0 in
      let values = h.values in
      let inside : w < length types = a.wires p l in
      let listed : w < length values = omega (arith, h.holds.size) in
      let worth : v ≡ worth_of values w = e ∙ wire-valued run values w inside stands in
      let anew : value_at (set values w (worth_of values w)) w ≡ v = get_or-set_same values w (worth_of values w) Unknown listed ∙ sym worth in
      let kept : (x : ℕ) → x ≢ w → value_at (set values w (worth_of values w)) x ≡ value_at values x =
      λ x other. get_or-set_other values w x (worth_of values w) Unknown other in
      let holder = put-held was (omega (arith, h.holds.room)) (h.ahead p (omega arith) l) in
      record {
        values = set values w (worth_of values w);
        holds = record {
          fixed = put-fixed was (omega (arith, inside, run.few)) ∙ h.holds.fixed;
          size = simp length-set h.holds.size;
          room = omega (arith, h.holds.room, put-length was);
          each = λ x m.
              at-or_else (λ x. Held (member after x) (get_or new x 0) (value_at (set values w (worth_of values w)) x)) w x
              (rw anew holder)
              (λ other. rw (kept x other, (put_other was x other).0, (put_other was x other).1) (h.holds.each x m));
          beyond = λ x m. (put_other was x (λ q. omega arith)).0 ∙ h.holds.beyond x m;
        };
        typed = λ x t f.
            at-or_else (λ y. get_elem? run.given.sheet.wire_types y ≡ some t → Fits t (value_at (set values w (worth_of values w)) y)) w x
            (λ f. rw (get_or-set_same values w (worth_of values w) Unknown listed) (worth-typed values h.typed w t f))
            (λ other f. rw (kept x other) (h.typed x t f))
            f;
        ahead = λ q m k. (put_other was (get_or list q 0) (λ same. a.once p q (omega arith) k (sym same))).0 ∙ h.ahead q (omega arith) k;
        rest = rw add-one (rw (drop-cons list p 0 l) at h.rest);
      }

  pub passed : {p bits : ℕ} {words : List ℕ} → Sofar p bits words → p ≡ length list
      → Holds (length types) (fixed_words start) bits words (passed_of a)
  unfolding pass_from
  passed h e = let done : h.values ≡ passed_of a = rw (e, drop-length) at h.rest in rw done at h.holds
