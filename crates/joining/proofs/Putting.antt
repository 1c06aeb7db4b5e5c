-- Bytes that are put one behind the other, as the loops put them: those that are put so far, one more, and all.
use Prim.Native.Nat.{ℕ, ◌+◌, ◌≤◌, ◌<◌}
use mathlib.Core.Path.{◌≡◌, refl, sym, ap, ◌∙◌}
use mathlib.Core.List.{List, [], ◌∷◌, ◌++◌, append-nil, append_assoc}
use native.Mathlib.Nat.{add-zero, add_assoc}
use native.Mathlib.Numerals.{add-one}
use native.Mathlib.Omega.{arith}
use lib.ListN.{length, take, get_or, set, length-append, length-map, length-set}
use lib.Seq.{take-suc, take-suc-set, take_all}
use Rattle.join.specs.Joined.{shifted_numbers}
use Rattle.join.specs.Bytes.{counted}
use Rattle.joining.specs.Writing.{Puts}
use Rattle.joining.proofs.Raising.{raised-by-none}

-- the first i of the bytes stand from the place on
pub record PutSoFar (before : List ℕ) (at : ℕ) (bytes : List ℕ) (i : ℕ) (after : List ℕ) : Type 0 where
  pub same_length : length after ≡ length before
  pub begins : take (at + i) after ≡ take at before ++ take i bytes

module _ (before : List ℕ) (at : ℕ) (bytes : List ℕ) where
  pub none-put : PutSoFar before at bytes 0 before
  none-put = record { same_length = refl; begins = rw (add-zero, append-nil) }

  pub one-put : {after : List ℕ} (i v : ℕ) → PutSoFar before at bytes i after → at + length bytes ≤ length before → i < length bytes
      → v ≡ get_or bytes i 0 → PutSoFar before at bytes (i + 1) (set after (at + i) v)
  one-put {after} i v p room inside is =
      let there : at + i < length after = omega (arith, p.same_length) in
      let next : at + (i + 1) ≡ (at + i) + 1 = omega arith in
      record {
        same_length = rw length-set p.same_length;
        begins = rw (next, add-one (at + i), add-one i, take-suc-set after (at + i) v there, take-suc bytes i 0 inside, p.begins, is)
            (append_assoc (take at before) (take i bytes) (get_or bytes i 0 ∷ []));
      }

  pub all-put : {after : List ℕ} (i : ℕ) → PutSoFar before at bytes i after → i ≡ length bytes → Puts before at bytes after
  all-put i p is = record { begins = rw (← is) (p.begins ∙ ap (λ x. take at before ++ x) (take_all i bytes (omega arith))) }

-- bytes, and others behind them
pub put_both : {before middle after : List ℕ} (at : ℕ) {next : ℕ} (xs ys : List ℕ) → Puts before at xs middle → next ≡ at + length xs
    → Puts middle next ys after → Puts before at (xs ++ ys) after
put_both {before} at xs ys p e q =
    record { begins = rw (length-append, ← add_assoc, ← e) (q.begins ∙ rw (e, p.begins) (append_assoc (take at before) xs ys)) }

-- a section of two, and others behind it
pub put-behind : {before middle after : List ℕ} (at : ℕ) {next : ℕ} (xs ys : List ℕ) (raise : ℕ) (rest : List ℕ)
    → Puts before at (counted (xs ++ shifted_numbers raise ys)) middle → next ≡ at + 1 + length xs + length ys → Puts middle next rest after
    → Puts before at (counted (xs ++ shifted_numbers raise ys) ++ rest) after
put-behind at xs ys raise rest p e q =
    let long : length (xs ++ shifted_numbers raise ys) ≡ length xs + length ys = simp (length-append, length-map) in
    put_both at (counted (xs ++ shifted_numbers raise ys)) rest p (omega arith) q

-- bytes that fill the buffer
pub put_all : {before after : List ℕ} (bytes : List ℕ) → Puts before 0 bytes after → length after ≡ length bytes → after ≡ bytes
put_all {before} {after} bytes p e = sym (take_all (0 + length bytes) after (omega arith)) ∙ p.begins

-- one byte
pub put_byte : (before : List ℕ) (at b : ℕ) → at < length before → Puts before at (b ∷ []) (set before at b)
put_byte before at b room = record { begins = rw add-one (take-suc-set before at b room) }

-- a section of two: the count, the bytes of one and those of the other
pub put-section : (before : List ℕ) {middle after : List ℕ} (at count : ℕ) (xs ys : List ℕ) (raise : ℕ) {next : ℕ} → at < length before
    → count ≡ length xs + length ys → Puts (set before at count) (at + 1) (shifted_numbers 0 xs) middle → next ≡ at + 1 + length xs
    → Puts middle next (shifted_numbers raise ys) after → Puts before at (counted (xs ++ shifted_numbers raise ys)) after
put-section before at count xs ys raise {next} room e p f q =
    let sum : length (xs ++ shifted_numbers raise ys) ≡ count = simp (length-append, length-map) (sym e) in
    let place : next ≡ at + length (count ∷ xs) = omega arith in
    let begun = put_both at (count ∷ []) xs (put_byte before at count room) refl (rw (raised-by-none xs) at p) in
    rw sum (put_both at (count ∷ xs) (shifted_numbers raise ys) begun place q)
