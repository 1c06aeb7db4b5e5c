-- `put_inputs` meets its contract. The loop's invariant: the entries before i are put.
use Prim.Native.Nat.{ℕ, ◌+◌, ◌<◌}
use mathlib.Core.Path.{◌≡◌, ◌∙◌}
use mathlib.Core.List.{List}
use native.Mathlib.Omega.{arith}
use lib.ListN.{length, get_or, set, length-set}
use lib.Seq.{get_or-set_same, get_or-set_other}
use borrow.Author.Count.{below_more}
use Rattle.sheet.specs.Rows.{entry_at}
use Rattle.leaves.specs.Words.{first_input, word_count, InputsPut}
use Rattle.leaves.proofs.inputs.put_inputs.Goals as goal

-- one entry more
put_one : (input words : List ℕ) (i word : ℕ) → length words ≡ word_count → i < 16 → word ≡ entry_at input i
    → ((j : ℕ) → j < i → get_or words (first_input + j) 0 ≡ entry_at input j)
    → (j : ℕ) → j < i + 1 → get_or (set words (first_input + i) word) (first_input + j) 0 ≡ entry_at input j
put_one input words i word sized few is before =
    below_more (λ j. get_or (set words (first_input + i) word) (first_input + j) 0 ≡ entry_at input j) i
    (λ j l. get_or-set_other words (first_input + i) (first_input + j) word 0 (λ e. omega arith) ∙ before j l)
    (get_or-set_same words (first_input + i) word 0 (omega arith) ∙ is)

pub loop-i-init : goal.loop-i-init
loop-i-init c = (c.requires.1, λ j l. absurd (omega arith))

pub loop-i-preserved : goal.loop-i-preserved
loop-i-preserved c =
    let l = c.loop-i in (
      simp length-set l.invariant.0,
      put_one c.args.input.now l.words l.i _ l.invariant.0 (omega arith) c.word_at.ensures l.invariant.1,
    )

pub returns : goal.returns
unfolding InputsPut
returns c = (λ i l. c.loop-i.invariant.1 i (omega arith), c.loop-i.invariant.0)
