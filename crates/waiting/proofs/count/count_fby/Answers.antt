-- `count_fby` meets its contract.
use mathlib.Core.Path.{sym, ◌∙◌}
use native.Mathlib.Omega.{arith}
use Rattle.expression.proofs.Views.{opened, own-cell}
use Rattle.waiting.proofs.Counting.{fby-counts-none, fby-counts-left}
use Rattle.waiting.proofs.count.count_fby.Goals as goal

pub overflow_add-first-2 : goal.overflow_add-first-2
overflow_add-first-2 c = omega (arith, (opened c.requires.placed.1).good.cells)

pub is_seen-requires : goal.is_seen-requires
is_seen-requires c = (own-cell c.requires.placed.1 (omega (arith, c.requires.at_value)) (omega (arith, c.requires.at_value))).stands.fits

pub returns-then-is_seen : goal.returns-then-is_seen
returns-then-is_seen c =
    λ t p. fby-counts-none p c.args.fresh c.requires.at_value (sym c.is_seen.ensures ∙ c.if-is_seen.true)

pub returns : goal.returns
returns c =
    λ t p. fby-counts-left p c.args.fresh c.requires.at_value (sym c.is_seen.ensures ∙ c.if-is_seen.false)
