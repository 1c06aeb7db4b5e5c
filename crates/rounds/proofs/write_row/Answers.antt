-- `write_row` meets its contract. The loop's invariant: the words that are left, put behind those of the outputs passed, make the row.
use Prim.Native.Nat.{ℕ, suc, ◌+◌, ◌*◌, ◌<◌}
use mathlib.Core.Path.{◌≡◌, sym, ◌∙◌}
use mathlib.Core.List.{List}
use native.Mathlib.Numerals.{add-one}
use native.Mathlib.Omega.{arith}
use lib.ListN.{length, get_or, drop}
use lib.Seq.{sets, drop-cons, drop-length}
use Rattle.numbers.specs.Laws.{sets-all}
use Rattle.numbers.specs.Words.{word_bytes}
use Rattle.rounds.specs.Outputs.{Below, words_of, words-length}
use Rattle.rounds.proofs.write_row.Goals as goal

-- one word more
written : (outputs words row new : List ℕ) (i : ℕ) → i < length outputs
    → new ≡ sets row (4 * i) (word_bytes (get_or words (get_or outputs i 0) 0))
    → sets new (4 * (i + 1)) (words_of (drop (i + 1) outputs) words) ≡ sets row (4 * i) (words_of (drop i outputs) words)
unfolding words_of
written outputs words row new i l e =
    let place : 4 * (i + 1) ≡ suc (suc (suc (suc (4 * i)))) = omega arith in
    rw (e, place, add-one, drop-cons outputs i 0)

-- no word is left
all-written : (outputs words row : List ℕ) (i : ℕ) → i ≡ length outputs
    → sets row (4 * i) (words_of (drop i outputs) words) ≡ words_of outputs words → row ≡ words_of outputs words
unfolding words_of
all-written outputs words row i e h = rw (e, drop-length) at h

pub loop-i-init : goal.loop-i-init
loop-i-init c = sets-all _ _ (words-length _ _ ∙ sym c.requires.1)

pub bounds-words-wire : goal.bounds-words-wire
unfolding Below
bounds-words-wire c = omega (arith, c.requires.0 c.loop-i.i c.loop-i-test.true)

pub loop-i-preserved : goal.loop-i-preserved
loop-i-preserved c = written _ _ _ _ _ c.loop-i-test.true c.put_word.ensures ∙ c.loop-i.invariant

pub returns : goal.returns
returns c = all-written _ _ _ c.loop-i.i (omega arith) c.loop-i.invariant
