-- What holds of the numbers and of their words: the test of equality passes on the same numbers only, and a word that was stored is
-- read back.
use Rattle.std.specs.Prelude.{ℕ, zero, suc, ◌+◌, ◌-◌, ◌/◌, ◌%◌, ◌≤◌, ◌<◌, ◌≡◌, refl, true, List, [], ◌∷◌, ◌++◌, ℤ, pos, negsuc, length, get_or, set, take, drop}
use Rattle.std.proofs.Common.{sym, ap, ◌∙◌, append-nil, arith, add-zero, add-suc, suc-add, length-set, drop_of_length-le, drop-drop, append_assoc, get_or-set_same, get_or-set_other, eqb-true, eq-eqb}
use borrow.Rule.Slice.PartMut.{put_mid}
use Rattle.std.proofs.lemmas.List.Edits.{sets, sets-eq}
use Rattle.numbers.specs.Numbers.{equals}
use Rattle.numbers.specs.Words.{word_at, word_bytes}

pub equals_true : (y z : ℤ) → equals y z ≡ true → y ≡ z
unfolding equals
equals_true (pos m) (pos n) e = ap pos (eqb-true m n e)
equals_true (pos m) (negsuc n) e = cc
equals_true (negsuc m) (pos n) e = cc
equals_true (negsuc m) (negsuc n) e = ap negsuc (eqb-true m n e)

pub equals-refl : (z : ℤ) → equals z z ≡ true
unfolding equals
equals-refl (pos n) = eq-eqb n n refl
equals-refl (negsuc n) = eq-eqb n n refl

-- the four bytes of a word are the word
pub word-of-bytes : (x : ℕ) (rest : List ℕ) → x < 4294967296 → word_at (word_bytes x ++ rest) 0 ≡ x
word-of-bytes x rest h = omega arith

-- four bytes are a number of 32 bits
pub word_bound : (s : List ℕ) (at : ℕ)
    → get_or s at 0 < 256 → get_or s (at + 1) 0 < 256 → get_or s (at + 2) 0 < 256 → get_or s (at + 3) 0 < 256
    → word_at s at < 4294967296
word_bound s at a b c d = omega arith

-- a list after a splice: below it, past it, and in it
pub sets_below : (vs l : List ℕ) (i k : ℕ) → k < i → get_or (sets l i vs) k 0 ≡ get_or l k 0
sets_below [] l i k h = refl
sets_below (a ∷ vs) l i k h =
    sets_below vs (set l i a) (suc i) k (omega arith) ∙ get_or-set_other l i k a 0 (λ (e : k ≡ i). omega arith)

pub sets-past : (vs l : List ℕ) (i k : ℕ) → i + length vs ≤ k → get_or (sets l i vs) k 0 ≡ get_or l k 0
sets-past [] l i k h = refl
sets-past (a ∷ vs) l i k h =
    sets-past vs (set l i a) (suc i) k (omega arith) ∙ get_or-set_other l i k a 0 (λ (e : k ≡ i). omega arith)

pub sets_in : (vs l : List ℕ) (i j : ℕ) → i + length vs ≤ length l → j < length vs → get_or (sets l i vs) (i + j) 0 ≡ get_or vs j 0
sets_in [] l i j h g = absurd (omega arith)
sets_in (a ∷ vs) l i zero h g =
    rw add-zero (sets_below vs (set l i a) (suc i) i (omega arith) ∙ get_or-set_same l i a 0 (omega arith))
sets_in (a ∷ vs) l i (suc j) h g =
    rw (add-suc, ← suc-add) (sets_in vs (set l i a) (suc i) j (simp length-set (omega arith)) (omega arith))

-- two runs of stores, the second where the first ends, are one
pub sets-append : (vs ws l : List ℕ) (i : ℕ) → sets l i (vs ++ ws) ≡ sets (sets l i vs) (i + length vs) ws
sets-append [] ws l i = rw add-zero
sets-append (v ∷ vs) ws l i =
    let e : i + suc (length vs) ≡ suc i + length vs = omega arith in rw e (sets-append vs ws (set l i v) (suc i))

-- a splice of the whole list
pub sets-all : (vs l : List ℕ) → length vs ≡ length l → sets l 0 vs ≡ vs
sets-all vs l e =
    let none : drop (0 + length vs) l ≡ [] = drop_of_length-le l {i = 0 + length vs} (omega arith) in
    sets-eq vs l 0 (omega arith) ∙ rw none (append-nil vs)

-- a part that was written whole, from a place up to an end, is a splice
pub spliced : (l : List ℕ) (i end : ℕ) {part vs : List ℕ} → end ≤ length l → part ≡ vs → i + length vs ≡ end
    → put_mid i (end - i) l part ≡ sets l i vs
spliced l i end {vs = vs} room is sized =
    let size : end - i ≡ length vs = omega arith in
    rw (is, size, drop-drop (length vs) i l) (sym (append_assoc (take i l) vs _) ∙ sym (sets-eq vs l i (rw sized room)))

-- a word that was stored is read back
pub word_back : (l : List ℕ) (i x : ℕ) → i + 4 ≤ length l → word_at (sets l i (word_bytes x)) i ≡ x
word_back l i x h =
    let upper = x / 256 % 256 ∷ x / 65536 % 256 ∷ x / 16777216 ∷ [] in
    let first = sets_below upper (set l i (x % 256)) (suc i) i (omega arith) ∙ get_or-set_same l i (x % 256) 0 (omega arith) in
    let later = sets_in (word_bytes x) l i in
    rw (first, later 1 h (omega arith), later 2 h (omega arith), later 3 h (omega arith)) (omega arith)
