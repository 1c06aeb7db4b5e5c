-- `check_schedule` meets its contract: 17, then 18 over the whole list, then 19 over the whole list.
use Rattle.kernel.specs.Instants.{reads_at}
use Rattle.schedule.proofs.Ordering.{all-wires, refused_17, refused_18, refused_19, passed}
use Rattle.schedule.proofs.check_schedule.Goals as goal

pub returns-then-list-wires : goal.returns-then-list-wires
returns-then-list-wires c s are held = rw c.at.ensures (refused_17 s _ _ are c.if-list-wires.true)

pub returns-then-entry-wires : goal.returns-then-entry-wires
returns-then-entry-wires c s are held =
    rw c.at-then-entry-wires.ensures
    (refused_18 s _ _ are c.if-list-wires.false c.first_not_new-entry.ensures c.if-entry-wires.true)

pub first_too_early-early-requires : goal.first_too_early-early-requires
first_too_early-early-requires c =
    let none = rw c.first_not_new-entry.ensures at c.if-entry-wires.false in
    (c.requires, c.if-list-wires.false, all-wires _ _ none)

pub returns-then-early-wires : goal.returns-then-early-wires
returns-then-early-wires c s are held =
    rw c.at-then-early-wires.ensures
    (refused_19 s _ _ are c.if-list-wires.false c.first_not_new-entry.ensures c.if-entry-wires.false
    (c.first_too_early-early.ensures (reads_at s.expressions) held) c.if-early-wires.true)

pub returns : goal.returns
returns c s are held =
    passed s _ _ are c.if-list-wires.false c.first_not_new-entry.ensures c.if-entry-wires.false
    (c.first_too_early-early.ensures (reads_at s.expressions) held) c.if-early-wires.false
