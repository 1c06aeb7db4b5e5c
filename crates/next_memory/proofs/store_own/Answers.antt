-- `store_own` meets its contract.
use mathlib.Core.Path.{sym, ◌∙◌}
use Rattle.sheet.specs.Memory.{memory_bytes}
use Rattle.next_memory.proofs.store_own.Goals as goal

pub returns-then-is_kept : goal.returns-then-is_kept
unfolding memory_bytes
returns-then-is_kept c =
    let kept = sym c.is_kept.ensures ∙ c.if-is_kept.true in
    c.put_cell.ensures ∙ rw (kept, rw c.plain.ensures at c.datum_of-value.ensures)

pub returns-else-is_kept : goal.returns-else-is_kept
unfolding memory_bytes
returns-else-is_kept c = rw (sym c.is_kept.ensures ∙ c.if-is_kept.false)
