-- A section of a header reads exactly if its count and its bytes are in their ranges: the converse of the laws of `sheet`, with what
-- rising asks.
use Rattle.std.specs.Prelude.{◌≡◌, refl, Bool, true, false, cond}
use Rattle.std.proofs.Math.Path.{sym, ap, ap₂, subst}
use Rattle.std.proofs.Common.{◌∙◌, take-append-drop, drop-cons, drop-drop, length-take-le}
use Prim.Native.Nat.{ℕ, zero, suc, ◌+◌, ◌-◌, ◌≤◌, ◌<◌}
use native.Mathlib.Omega.{arith}
use mathlib.Core.List.{List, [], ◌∷◌, ◌++◌}
use Rattle.std.proofs.Math.ListN.{length, get_or, take, drop, length-drop}
use Rattle.std.proofs.Math.Seq.{get_or-drop, take-append_seam, drop-append_seam}
use borrow.Author.Tests.{lt-leb, le-ltb}
use Rattle.sheet.specs.Readings.{on_read}
use Rattle.sheet.specs.Headers.{field_of, bytes_of, section_of}
use Rattle.sheet.specs.Sheets.{before}
use Rattle.sheet.specs.Laws.Readings.{not_good}
use Rattle.sheet.specs.Laws.Headers.{field_good, section_good}
use Rattle.sheet.specs.declared.Refusal.{Refusal}
use Rattle.sheet.specs.declared.Refusal.TheVariants.{CountRange}
use Rattle.join.specs.Joined.{shifted_numbers}
use Rattle.join.specs.Bytes.{counted, section, behind}
use Rattle.sheet.specs.Outcomes.{refused_at}
use Rattle.sheet.specs.Readings.{got_at}
use Rattle.sheet.specs.declared.Got.{Got}
use Rattle.sheet.specs.declared.Refused.{Refused}
use Rattle.std.specs.Prelude.{Result, Ok, Err}

-- bytes from `low` on and below the limit; where they rise, each is above the one before
pub data Ranged (limit : ℕ) (rising : Bool) : (low : ℕ) → List ℕ → Type 0 where
  done : {low : ℕ} → Ranged limit rising low []
  byte : {low b : ℕ} {bs : List ℕ} → low ≤ b → b < limit → Ranged limit rising (cond rising (b + 1) 0) bs
      → Ranged limit rising low (b ∷ bs)

on_read_good : (first : Result Got Refused) (f : ℕ → ℕ → Result Got Refused) {n k : ℕ} → on_read first refused_at f ≡ got_at n k
    → (m : ℕ) × (j : ℕ) × (first ≡ got_at m j) × (f m j ≡ got_at n k)
on_read_good (Err r) f e = not_good e
on_read_good (Ok a) f e = (a.next, a.count, refl, e)

-- a list that begins with a count
split-section : (r : List ℕ) → get_or r 0 0 < length r → r ≡ counted (section r) ++ behind r
split-section [] l = absurd (omega arith)
split-section (x ∷ r) l = ap₂ ◌∷◌ (sym (length-take-le x r (omega arith))) (sym (take-append-drop x r))

section-sized : (r : List ℕ) → get_or r 0 0 < length r → length (section r) ≡ get_or r 0 0
section-sized [] l = absurd (omega arith)
section-sized (x ∷ r) l = length-take-le x r (omega arith)

module _ (s : List ℕ) where
  starts : (at b : ℕ) (rest : List ℕ) → drop at s ≡ b ∷ rest → (at < length s) × (get_or s at 0 ≡ b) × (drop (at + 1) s ≡ rest)
  starts at b rest e = (
    omega (arith, length-drop at s, ap length e),
    (let z : at + 0 ≡ at = omega arith in rw (z) at (sym (get_or-drop at s 0 0)) ∙ ap (λ r. get_or r 0 0) e),
    sym (drop-drop 1 at s) ∙ ap (drop 1) e,
  )

  field-read : (at low limit : ℕ) (wrong : Refusal) (b : ℕ) (rest : List ℕ) → drop at s ≡ b ∷ rest → low ≤ b → b < limit
      → field_of s at low limit wrong ≡ got_at (at + 1) b
  unfolding field_of
  field-read at low limit wrong b rest e l m =
      let (here, same, next) = starts at b rest e in
      rw (lt-leb (length s) at here, same) (rw (le-ltb b low l, lt-leb limit b m))

  module _ (limit : ℕ) (rising : Bool) (wrong : Refusal) (count : ℕ) where
    bytes_read : (bs back : List ℕ) (at low : ℕ) → drop at s ≡ bs ++ back → Ranged limit rising low bs
        → bytes_of s (length bs) at low limit rising wrong count ≡ got_at (at + length bs) count
    unfolding bytes_of
    bytes_read [] back at low e done = ap (λ x. got_at x count) (omega arith)
    bytes_read (b ∷ bs) back at low e (byte l m h) =
        let (here, same, next) = starts at b (bs ++ back) e in
        rw (field-read at low limit wrong b (bs ++ back) e l m)
        (bytes_read bs back (at + 1) (cond rising (b + 1) 0) next h ∙ ap (λ x. got_at x count) (omega arith))

    bytes-ranged : (left at low : ℕ) {n k : ℕ} → bytes_of s left at low limit rising wrong count ≡ got_at n k
        → Ranged limit rising low (take left (drop at s))
    unfolding bytes_of
    bytes-ranged zero at low e = done
    bytes-ranged (suc left) at low e =
        let (m, b, first, rest) = on_read_good (field_of s at low limit wrong) _ e in
        let g = field_good s at low limit wrong first in
        let next : suc at ≡ m = omega (arith, g.next) in
        rw (drop-cons s at 0 g.here, ← g.byte, next) (byte g.least g.below (bytes-ranged left m _ rest))

  pub section-read : (bs back : List ℕ) (at fewest excess limit : ℕ) (rising : Bool) (wrong : Refusal) → drop at s ≡ counted bs ++ back
      → fewest ≤ length bs → length bs < excess → Ranged limit rising 0 bs
      → section_of s at fewest excess limit rising wrong ≡ got_at (at + 1 + length bs) (length bs)
  unfolding section_of
  section-read bs back at fewest excess limit rising wrong e l m h =
      let (here, same, next) = starts at (length bs) (bs ++ back) e in
      rw (field-read at fewest excess CountRange (length bs) (bs ++ back) e l m)
      (bytes_read limit rising wrong (length bs) bs back (at + 1) 0 next h)

  -- what a section leaves: its bytes, and what comes behind it
  pub section-bytes : (bs back : List ℕ) (at : ℕ) → drop at s ≡ counted bs ++ back → before s (at + 1 + length bs) (length bs) ≡ bs
  section-bytes bs back at e =
      let (here, same, next) = starts at (length bs) (bs ++ back) e in
      let p : at + 1 + length bs - length bs ≡ at + 1 = omega arith in
      rw (p, next) (take-append_seam bs back)

  pub section-behind : (bs back : List ℕ) (at : ℕ) → drop at s ≡ counted bs ++ back → drop (at + 1 + length bs) s ≡ back
  section-behind bs back at e =
      let (here, same, next) = starts at (length bs) (bs ++ back) e in
      sym (drop-drop (length bs) (at + 1) s) ∙ ap (drop (length bs)) next ∙ drop-append_seam bs back

  -- a section that was read, where r stands: its count, its bytes, and what comes behind it
  pub record SectionView (r : List ℕ) (at fewest excess limit : ℕ) (rising : Bool) (n k : ℕ) : Type 0 where
    pub whole : r ≡ counted (section r) ++ behind r
    pub bytes : before s n k ≡ section r
    pub next : n ≡ at + 1 + length (section r)
    pub rest : drop n s ≡ behind r
    pub least : fewest ≤ length (section r)
    pub below : length (section r) < excess
    pub ranged : Ranged limit rising 0 (section r)

  pub section-view : (r : List ℕ) (at fewest excess limit : ℕ) (rising : Bool) (wrong : Refusal) {n k : ℕ} → drop at s ≡ r
      → section_of s at fewest excess limit rising wrong ≡ got_at n k → SectionView r at fewest excess limit rising n k
  unfolding section_of
  section-view r at fewest excess limit rising wrong {n} {k} here e =
      let g = section_good s at fewest excess limit rising wrong e in
      let (m, j, first, rest) = on_read_good (field_of s at fewest excess CountRange) _ e in
      let f = field_good s at fewest excess CountRange first in
      let z : at + 0 ≡ at = omega arith in
      let head : get_or r 0 0 ≡ k =
      ap (λ x. get_or x 0 0) (sym here) ∙ get_or-drop at s 0 0 ∙ ap (λ x. get_or s x 0) z ∙ sym g.count in
      let fits : get_or r 0 0 < length r =
      omega (arith, ap length here, length-drop at s, g.bytes.next, g.bytes.within) in
      let sized = section-sized r fits ∙ head in
      let start : n - k ≡ at + 1 = omega (arith, g.bytes.next) in
      let past : n ≡ at + suc k = omega (arith, g.bytes.next) in
      let part : take k (drop (at + 1) s) ≡ section r = ap₂ take (sym head) (sym (drop-drop 1 at s) ∙ ap (drop 1) here) in
      record {
        whole = split-section r fits;
        bytes = rw start part;
        next = omega (arith, g.bytes.next);
        rest = rw past (sym (drop-drop (suc k) at s) ∙ ap₂ (λ x y. drop (suc x) y) (sym head) here);
        least = omega (arith, g.least);
        below = omega (arith, g.below);
        ranged = subst (Ranged limit rising 0) (ap₂ (λ x y. take x (drop y s)) (f.byte ∙ sym g.count) f.next ∙ part)
            (bytes-ranged limit rising wrong j j m 0 rest);
      }

-- Sections joined.
pub ranged-append : (limit : ℕ) {xs ys : List ℕ} → Ranged limit false 0 xs → Ranged limit false 0 ys → Ranged limit false 0 (xs ++ ys)
ranged-append limit done q = q
ranged-append limit (byte l m p) q = byte l m (ranged-append limit p q)

ranged-raised : (n m low least : ℕ) {ys : List ℕ} → low ≤ n + least → Ranged m true least ys → Ranged (n + m) true low (shifted_numbers n ys)
ranged-raised n m low least h done = done
ranged-raised n m low least h (byte {b = b} l k p) =
    byte {low = low} {b = n + b} (omega arith) (omega arith) (ranged-raised n m (n + b + 1) (b + 1) (omega arith) p)

-- numbers below n that rise, and then numbers below m that rise, shifted
pub ranged-joined : (n m low : ℕ) {xs ys : List ℕ} → low ≤ n → Ranged n true low xs → Ranged m true 0 ys
    → Ranged (n + m) true low (xs ++ shifted_numbers n ys)
ranged-joined n m low h done q = ranged-raised n m low 0 (omega arith) q
ranged-joined n m low h (byte {b = b} l k p) q = byte l (omega arith) (ranged-joined n m (b + 1) (omega arith) p q)
