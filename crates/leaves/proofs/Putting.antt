-- The words of the kept wires' cells, as they are put wire by wire.
use Prim.Native.Nat.{ℕ, ◌+◌, ◌-◌, ◌<◌}
use mathlib.Core.Path.{◌≡◌, refl, sym, ◌∙◌}
use mathlib.Core.Bool.{true, false, true≢false}
use mathlib.Core.List.{List}
use native.Mathlib.Omega.{arith}
use lib.ListN.{length, get_or, set, length-set}
use lib.Seq.{get_or-set_same, get_or-set_other}
use borrow.Author.Count.{below_none, below_more}
use Rattle.sheet.specs.Data.{is_kept}
use Rattle.sheet.specs.Memory.{cell_word_at}
use Rattle.leaves.specs.Words.{first_last, word_count}

module _ (types firsts memory start : List ℕ) where
  -- of a kept wire the word of its cell
  abbrev PutAt : List ℕ → ℕ → Type 0
  PutAt words v = is_kept (get_or types v 0) ≡ true → get_or words (first_last + v) 0 ≡ cell_word_at memory (get_or firsts v 0 - 1)

  -- those of the first w wires are put, and the words before them are as they were
  pub record PutBefore (w : ℕ) (words : List ℕ) : Type 0 where
    pub sized : length words ≡ word_count
    pub put : (v : ℕ) → v < w → PutAt words v
    pub others : (i : ℕ) → i < first_last → get_or words i 0 ≡ get_or start i 0

  pub none-put : length start ≡ word_count → PutBefore 0 start
  none-put sized = record { sized = sized; put = below_none (PutAt start); others = λ i l. refl }

  module _ {w : ℕ} {words : List ℕ} (before : PutBefore w words) where
    pub one-put : {word : ℕ} → w < 64 → word ≡ cell_word_at memory (get_or firsts w 0 - 1)
        → PutBefore (w + 1) (set words (first_last + w) word)
    one-put {word} few is =
        record {
          sized = simp length-set before.sized;
          put = below_more (PutAt (set words (first_last + w) word)) w
              (λ v l k. get_or-set_other words (first_last + w) (first_last + v) word 0 (λ e. omega arith) ∙ before.put v l k)
              (λ k. get_or-set_same words (first_last + w) word 0 (omega (arith, before.sized)) ∙ is);
          others = λ i l. get_or-set_other words (first_last + w) i word 0 (λ e. omega arith) ∙ before.others i l;
        }

    pub one-passed : is_kept (get_or types w 0) ≡ false → PutBefore (w + 1) words
    one-passed other =
        record {
          sized = before.sized;
          put = below_more (PutAt words) w before.put (λ k. absurd (true≢false (sym k ∙ other)));
          others = before.others;
        }
