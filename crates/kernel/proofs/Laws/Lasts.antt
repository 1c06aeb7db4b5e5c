-- What the cells of the kept wires hold, for kind 18: in a valid memory they are started, and it is of the wires' types.
use Rattle.std.specs.Prelude.{ℕ, zero, suc, ◌+◌, ◌<◌, ◌≡◌, refl, length, List}
use Rattle.std.proofs.Common.{ap, subst, ◌∙◌, add-zero, arith}
use Rattle.sheet.specs.Data.{ValueType, IsOf, datum_of}
use Rattle.sheet.specs.Expressions.{Expression, constant, wire, input, last, unary, binary, conditional, switch, pre, fby, kept}
use Rattle.sheet.specs.Expressions.{kept_cell, cell_forms, cell_count}
use Rattle.sheet.specs.Sheets.{forms_of, expression_at, cells_before}
use Rattle.sheet.specs.Typing.{done, ◌then◌, HasType, HaveTypes, ValidCell, ValidRow}
use Rattle.sheet.proofs.Laws.Typing.{datum-is}
use Rattle.sheet.specs.Laws.Lists.{never}
use Rattle.sheet.specs.declared.Datum.{Datum}
use Rattle.sheet.specs.declared.Cell.{Cell}
use Rattle.sheet.specs.declared.Cell.TheVariants.{NotStarted, Started}
use Rattle.kernel.specs.Instant.{last_at, cell_at, held_or}
use Rattle.kernel.specs.Instants.{last_in, lasts_from}
use Rattle.kernel.proofs.Laws.Instants.{behind-first}
use Rattle.kernel.proofs.Laws.Typing.{ValidFrom, parts}

-- the datum in the first cell of a kept wire
last-typed : (input_types wire_types : List ValueType) (t : ValueType) (e : Expression) (memory : List Cell) (k : ℕ)
    → HasType input_types wire_types t e → ValidFrom memory (cell_forms e) k → IsOf t (last_in t e (cell_at memory k))
unfolding HasType cell_forms ValidFrom
last-typed is ws t (constant d) memory k h m = datum-is t 0
last-typed is ws t (wire w) memory k h m = datum-is t 0
last-typed is ws t (input i) memory k h m = datum-is t 0
last-typed is ws t (last w) memory k h m = datum-is t 0
last-typed is ws t (unary o a) memory k h m = datum-is t 0
last-typed is ws t (binary o a b) memory k h m = datum-is t 0
last-typed is ws t (conditional c a b) memory k h m = datum-is t 0
last-typed is ws t (switch o cs bs) memory k h m = datum-is t 0
last-typed is ws t (pre d a) memory k h m = datum-is t 0
last-typed is ws t (fby u a b) memory k h m = datum-is t 0
last-typed is ws t (kept u a) memory k h m = held (cell_at memory k) (subst (λ x. ValidCell (kept_cell x) (cell_at memory k)) h.0 m.1)
  where
    held : (c : Cell) → ValidCell (kept_cell t) c → IsOf t (held_or (datum_of t 0) c)
    held NotStarted v = datum-is t 0
    held (Started d) v = v

pub lasts_typed : (input_types wire_types : List ValueType) (memory : List Cell) {ts : List ValueType} {es : List Expression} (k : ℕ)
    → HaveTypes input_types wire_types ts es → ValidFrom memory (forms_of es) k → ValidRow ts (lasts_from memory ts es k)
unfolding forms_of lasts_from
lasts_typed is ws memory k done m = done
lasts_typed is ws memory k (◌then◌ {x = t} {y = e} {ys = es} h hs) m =
    let (m₁, m₂) = parts memory e (forms_of es) k m in
    last-typed is ws t e memory k h m₁ then lasts_typed is ws memory (k + cell_count e) hs m₂

-- the first cell of a kept wire is started, and what it holds is what kind 18 gives
pub record KeptHeld (memory : List Cell) (ts : List ValueType) (es : List Expression) (k w : ℕ) : Type 0 where
  pub held : Datum
  pub started : cell_at memory (k + cells_before es w) ≡ Started held
  pub gives : last_at (lasts_from memory ts es k) w ≡ held

held-started : (t : ValueType) (c : Cell) → ValidCell (kept_cell t) c → (d : Datum) × (c ≡ Started d)
held-started t NotStarted v = never (cc)
held-started t (Started d) v = (d, refl)

pub kept-held : (input_types wire_types : List ValueType) (memory : List Cell) {ts : List ValueType} {es : List Expression} (k w : ℕ)
    → HaveTypes input_types wire_types ts es → ValidFrom memory (forms_of es) k → w < length es
    → {t : ValueType} {e : Expression} → expression_at es w ≡ kept t e → KeptHeld memory ts es k w
unfolding forms_of lasts_from cell_forms ValidFrom
kept-held is ws memory k w done m l is-kept = absurd (omega arith)
kept-held is ws memory k zero (◌then◌ {x = u} {y = a} {ys = es} h hs) m l {t} {e} is-kept =
    let own = subst (λ x. ValidFrom memory (cell_forms x) k) is-kept (parts memory a (forms_of es) k m).0 in
    let (d, started) = held-started t (cell_at memory k) own.1 in
    let gives = ap (λ x. last_in u x (cell_at memory k)) is-kept ∙ ap (held_or (datum_of u 0)) started in
    record { held = d; started = rw add-zero started; gives = gives }
kept-held is ws memory k (suc w) (◌then◌ {y = a} {ys = es} h hs) m l is-kept =
    let rest = kept-held is ws memory (k + cell_count a) w hs (parts memory a (forms_of es) k m).1 (omega arith) is-kept in
    record { held = rest.held; started = rw (behind-first a es k w) rest.started; gives = rest.gives }
