-- What the wires of a sheet read: only a wire of the sheet reads, and on a well-typed sheet wires of the sheet alone.
use Rattle.std.specs.Prelude.{◌≡◌, refl, ℕ, zero, suc, ◌<◌, true, List, [], ◌∷◌, length}
use Rattle.std.proofs.Common.{subst, arith}
use Rattle.sheet.specs.Data.{ValueType}
use Rattle.sheet.specs.Expressions.{Expression}
use Rattle.sheet.specs.Lists.{among, Every, none}
use Rattle.sheet.specs.Reads.{wires_read}
use Rattle.sheet.specs.Sheets.{Sheet, expression_at}
use Rattle.sheet.specs.Typing.{HaveTypes, WellTyped, done, ◌then◌}
use Rattle.sheet.specs.Laws.Lists.{never, every_holds}
use Rattle.sheet.proofs.Laws.Memory.{pairwise-length}
use Rattle.sheet.proofs.Laws.Reads.{typed-reads}
use Rattle.kernel.specs.Instants.{wire_count, reads_at}

-- the reads of a wire are those of its tree
pub reads-of-tree : (trees : List Expression) (w : ℕ) → reads_at trees w ≡ wires_read (expression_at trees w)
unfolding reads_at wires_read
reads-of-tree [] w = refl
reads-of-tree (e ∷ es) zero = refl
reads-of-tree (e ∷ es) (suc w) = reads-of-tree es w

pub reader-below : (es : List Expression) (v w : ℕ) → among w (reads_at es v) ≡ true → v < length es
unfolding reads_at among
reader-below [] v w e = never (cc)
reader-below (x ∷ es) zero w e = omega arith
reader-below (x ∷ es) (suc v) w e = omega (arith, reader-below es v w e)

each-reads : (input_types wire_types : List ValueType) {ts : List ValueType} {es : List Expression} → HaveTypes input_types wire_types ts es
    → (v : ℕ) → Every (λ w. w < length wire_types) (reads_at es v)
unfolding reads_at
each-reads input_types wire_types done v = none
each-reads input_types wire_types (◌then◌ {x = t} {y = e} h hs) zero = typed-reads input_types wire_types e t h
each-reads input_types wire_types (h then hs) (suc v) = each-reads input_types wire_types hs v

pub reads-below : (sheet : Sheet) → WellTyped sheet → (v w : ℕ) → among w (reads_at sheet.expressions v) ≡ true → w < wire_count sheet
reads-below sheet typed v w e =
    subst (λ (n : ℕ). w < n) (pairwise-length typed)
    (every_holds {P = λ x. x < length sheet.wire_types} w (each-reads sheet.input_types sheet.wire_types typed v) e)
