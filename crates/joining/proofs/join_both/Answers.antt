-- `join_both` meets its contract: the limits, then the room, and then the joined sheet is written.
use mathlib.Core.Path.{sym, ◌∙◌}
use native.Mathlib.Omega.{arith}
use Rattle.joining.proofs.Answering.{few, long, above-limits, other_length_lem, can_join, joins}
use Rattle.joining.proofs.join_both.Goals as goal

pub overflow_sub-length : goal.overflow_sub-length
overflow_sub-length c = omega (arith, long _ _ c.requires.0 c.requires.1)

pub is_above-requires : goal.is_above-requires
is_above-requires c = (few _ c.requires.0, few _ c.requires.1)

pub returns-then-is_above : goal.returns-then-is_above
returns-then-is_above c =
    rw c.at.ensures (above-limits _ _ c.requires.0 c.requires.1 _ (sym c.is_above.ensures ∙ c.if-is_above.true))

pub returns-then-joined-length : goal.returns-then-joined-length
returns-then-joined-length c =
    rw c.at-then-joined-length.ensures
    (other_length_lem _ _ c.requires.0 c.requires.1 _ (sym c.is_above.ensures ∙ c.if-is_above.false) c.if-joined-length.true)

pub write-requires : goal.write-requires
write-requires c =
    let within = sym c.is_above.ensures ∙ c.if-is_above.false in
    can_join _ _ c.requires.0 c.requires.1 c.args.joined.now within c.if-joined-length.false

pub returns : goal.returns
returns c =
    let within = sym c.is_above.ensures ∙ c.if-is_above.false in
    joins _ _ c.requires.0 c.requires.1 _ within c.if-joined-length.false c.write.ensures
