-- When the entries of a map hold the forms of cells, as the tests of a memory ask it.
use Rattle.std.specs.Prelude.{ℕ, zero, suc, ◌<◌, ◌≡◌, List, length, get_or, take}
use Rattle.std.proofs.Common.{sym, ap, ◌∙◌, arith, get_or-take}
use Rattle.sheet.specs.Data.{boolean}
use Rattle.sheet.specs.Expressions.{CellForm, fby_cell}
use Rattle.sheet.specs.Memory.{form_byte}
use Rattle.sheet.specs.Typing.{Pairwise, done, ◌then◌}
use Rattle.sheet_expressions.specs.Map.{CellNoted, form_in}
use Rattle.buffers.specs.Tests.{Holds, Formed}

-- entries that are noted hold the forms
pub noted-hold : {s : List ℕ} {fs : List CellForm} {es : List ℕ} → Pairwise (CellNoted s) fs es → Pairwise Holds fs es
noted-hold done = done
noted-hold (p then ps) = record { form = p.form } then noted-hold ps

-- and so do the first ones of a table
pub held_forms : {entries : List ℕ} {fs : List CellForm} {count : ℕ} → length fs ≡ count → Pairwise Holds fs (take count entries)
    → Formed fs entries count
held_forms {entries} {fs} {count} sized held =
    record { counted = sized; each = λ k l. at held k (omega arith) ∙ ap form_in (get_or-take count entries k 0 l) }
  where
    at : {gs : List CellForm} {es : List ℕ} → Pairwise Holds gs es → (k : ℕ) → k < length gs
        → form_byte (get_or gs k (fby_cell boolean)) ≡ form_in (get_or es k 0)
    at done k l = absurd (omega arith)
    at (p then ps) zero l = sym p.form
    at (p then ps) (suc k) l = at ps k (omega arith)
