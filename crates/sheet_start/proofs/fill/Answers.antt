-- `fill` meets its contract. The loop's invariant: the starting bytes of the cells from k on, put there, make all of them.
use mathlib.Core.Path.{refl, ◌∙◌}
use native.Mathlib.Omega.{arith}
use Rattle.numbers.specs.Laws.{sets-all}
use Rattle.sheet_start.proofs.Starting.{start-length, noted-at, next-put, all-put}
use Rattle.sheet_start.proofs.fill.Goals as goal

pub loop-k-init : goal.loop-k-init
loop-k-init c =
    (refl, λ p. sets-all _ _ (start-length p.forms ∙ omega (arith, p.counted, c.requires.memory_len)))

pub start_cell-requires : goal.start_cell-requires
start_cell-requires c =
    (noted-at c.requires.noted _ c.loop-k-test.true).owner

pub loop-k-preserved : goal.loop-k-preserved
loop-k-preserved c =
    let l = c.loop-k in (
      c.put_cell.auto.memory ∙ l.invariant.0,
      λ p. next-put p l.k l.memory _ _ c.loop-k-test.true c.start_cell.ensures c.put_cell.ensures
          (l.invariant.1 p),
    )

pub returns : goal.returns
returns c = λ p. all-put p c.loop-k.k _ c.loop-k-test.false (c.loop-k.invariant.1 p)
