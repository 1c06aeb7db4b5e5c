-- Parts of a buffer: each lies in the buffer and apart from the others; what is put into one is found there and nowhere else.
use Rattle.std.specs.Prelude.{◌≡◌, Bool, true, false, ◌⊎◌, ltb, take}
use Rattle.std.proofs.Math.Path.{refl, sym, ap}
use Rattle.std.proofs.Common.{◌∙◌, mul-le-mul_left, inl, inr, ltb-true, ltb-false, length-drop, take_at, drop_at, drop-drop, get_or-drop, get_or-append-add, ext_get_or}
use Prim.Native.Nat.{ℕ, zero, suc, ◌+◌, ◌-◌, ◌*◌, ◌≤◌, ◌<◌}
use native.Mathlib.Omega.{arith}
use mathlib.Core.List.{List, [], ◌∷◌, ◌++◌, append-nil, append_assoc}
use Rattle.std.proofs.Math.ListN.{length, drop, get_or, length-append, length-take, take-append-drop, get_or-append}
use Rattle.std.proofs.Math.Seq.{length-take-le, get_or-take}
use Rattle.numbers.specs.Words.{word_at}
use Rattle.sheet.specs.Sheets.{Sheet}
use Rattle.board.specs.Parts.{joined, sheet_at, begin, size, cut, put, part}

-- what a buffer holds after a change between two places
pub record ChangedOnly (from to : ℕ) (before after : List ℕ) : Type 0 where
  pub sized : length after ≡ length before
  pub below : (i : ℕ) → i < from → get_or after i 0 ≡ get_or before i 0
  pub behind : (i : ℕ) → to ≤ i → get_or after i 0 ≡ get_or before i 0

module _ {A : Type 0} (of : Sheet → List A) where
  -- what stands before, at and behind the sheet with number k
  pub joined-split : (sheets : List Sheet) (k : ℕ) → k < length sheets
      → joined of sheets ≡ joined of (take k sheets) ++ (of (sheet_at sheets k) ++ joined of (drop (suc k) sheets))
  unfolding joined
  joined-split [] k l = absurd (omega arith)
  joined-split (s ∷ ss) zero l = refl
  joined-split (s ∷ ss) (suc k) l = rw (joined-split ss k (omega arith), append_assoc)

  pub joined_at : (sheets : List Sheet) (k : ℕ) → k < length sheets → (i : ℕ) → i < length (of (sheet_at sheets k)) → (a : A)
      → get_or (joined of sheets) (length (joined of (take k sheets)) + i) a ≡ get_or (of (sheet_at sheets k)) i a
  joined_at sheets k l i m a =
      rw (joined-split sheets k l, get_or-append-add (joined of (take k sheets)) _ i a)
      (get_or-append (of (sheet_at sheets k)) _ a i m)

  -- what a sheet more has is joined behind the others
  pub joined-more : (sheets : List Sheet) (sheet : Sheet) → joined of (sheets ++ sheet ∷ []) ≡ joined of sheets ++ of sheet
  unfolding joined
  joined-more [] sheet = append-nil (of sheet)
  joined-more (s ∷ sheets) sheet = rw (joined-more sheets sheet, append_assoc)

  pub joined-count : (sheets : List Sheet) (sheet : Sheet)
      → length (joined of (sheets ++ sheet ∷ [])) ≡ length (joined of sheets) + length (of sheet)
  joined-count sheets sheet = ap length (joined-more sheets sheet) ∙ length-append (joined of sheets) (of sheet)

  -- the items before the sheet with number j, and its own, stand before those of a later sheet
  pub joined-before : (sheets : List Sheet) (j k : ℕ) → j < k → k < length sheets
      → length (joined of (take j sheets)) + length (of (sheet_at sheets j)) ≤ length (joined of (take k sheets))
  unfolding joined
  joined-before [] j k m l = absurd (omega arith)
  joined-before (s ∷ ss) zero zero m l = absurd (omega arith)
  joined-before (s ∷ ss) zero (suc k) m l = simp length-append (omega arith)
  joined-before (s ∷ ss) (suc j) zero m l = absurd (omega arith)
  joined-before (s ∷ ss) (suc j) (suc k) m l = simp length-append (omega (arith, joined-before ss j k (omega arith) (omega arith)))

  -- and with its own they are those before the next sheet
  pub joined-next : (sheets : List Sheet) (k : ℕ) → k < length sheets
      → length (joined of (take (suc k) sheets)) ≡ length (joined of (take k sheets)) + length (of (sheet_at sheets k))
  unfolding joined
  joined-next [] k l = absurd (omega arith)
  joined-next (s ∷ ss) zero l = simp length-append (omega arith)
  joined-next (s ∷ ss) (suc k) l = simp length-append (omega (arith, joined-next ss k (omega arith)))

  pub joined-within : (sheets : List Sheet) (k : ℕ) → k < length sheets
      → length (joined of (take k sheets)) + length (of (sheet_at sheets k)) ≤ length (joined of sheets)
  joined-within sheets k l = rw (joined-split sheets k l) (simp length-append (omega arith))

-- the parts lie in the buffer
pub part-within : {A : Type 0} (bytes : ℕ) (of : Sheet → List A) (sheets : List Sheet) (n : ℕ) → n ≡ bytes * length (joined of sheets)
    → (k : ℕ) → k < length sheets → begin bytes of sheets k + size bytes of sheets k ≤ n
part-within bytes of sheets n whole k l =
    rw whole (omega (arith, mul-le-mul_left bytes (joined-within of sheets k l)))

module _ (from long : ℕ) (buffer : List ℕ) (within : from + long ≤ length buffer) where
  pub cut-length : length (cut from long buffer) ≡ long
  unfolding cut
  cut-length = simp (length-take, length-drop) (omega arith)

  pub cut_at : (i : ℕ) → i < long → get_or (cut from long buffer) i 0 ≡ get_or buffer (from + i) 0
  unfolding cut
  cut_at i l = rw (get_or-take, get_or-drop)

  pub cut_word : (i : ℕ) → i + 3 < long → word_at (cut from long buffer) i ≡ word_at buffer (from + i)
  cut_word i l =
      let e₁ : from + (i + 1) ≡ from + i + 1 = omega arith in
      let e₂ : from + (i + 2) ≡ from + i + 2 = omega arith in
      let e₃ : from + (i + 3) ≡ from + i + 3 = omega arith in
      rw (cut_at i (omega arith), cut_at (i + 1) (omega arith), cut_at (i + 2) (omega arith), cut_at (i + 3) l, e₁, e₂, e₃)

  -- what is put back leaves the buffer as it was
  pub put_back : put from long (cut from long buffer) buffer ≡ buffer
  unfolding put cut
  put_back =
      let rest : drop (from + long) buffer ≡ drop long (drop from buffer) = sym (drop-drop long from buffer) in
      rw (rest, take-append-drop long (drop from buffer), take-append-drop from buffer)

  module _ (new : List ℕ) (fits : length new ≡ long) where
    pub cut-put : cut from long (put from long new buffer) ≡ new
    unfolding cut put
    cut-put =
        rw (drop_at (take from buffer) (new ++ drop (from + long) buffer) from (length-take-le from buffer (omega arith)))
        (take_at new (drop (from + long) buffer) long fits)

    pub put_only : ChangedOnly from (from + long) buffer (put from long new buffer)
    unfolding put
    put_only =
        record {
          sized = simp (length-append, length-take, length-drop) (omega arith);
          below = λ i l. get_or-append (take from buffer) _ 0 i (simp length-take (omega arith)) ∙ get_or-take from buffer i 0 l;
          behind = λ i l. further i l;
        }
      where
        further : (i : ℕ) → from + long ≤ i → get_or (put from long new buffer) i 0 ≡ get_or buffer i 0
        further i l =
            let j = i - (from + long) in
            let front = length-take-le from buffer (omega arith) in
            let place : i ≡ length (take from buffer) + (length new + j) = omega arith in
            let back : from + long + j ≡ i = omega arith in
            ap (λ (x : ℕ). get_or (take from buffer ++ (new ++ drop (from + long) buffer)) x 0) place
            ∙ (get_or-append-add (take from buffer) (new ++ drop (from + long) buffer) (length new + j) 0
            ∙ (get_or-append-add new (drop (from + long) buffer) j 0
            ∙ (get_or-drop (from + long) buffer j 0 ∙ ap (λ (x : ℕ). get_or buffer x 0) back)))

-- a cut that lies before or behind the change is as it was
pub cut_apart : (from to at long : ℕ) (before after : List ℕ) → ChangedOnly from to before after → at + long ≤ length before
    → (at + long ≤ from) ⊎ (to ≤ at) → cut at long after ≡ cut at long before
cut_apart from to at long before after only within apart =
    let inside : at + long ≤ length after = omega (arith, only.sized) in
    ext_get_or 0 (cut at long after) (cut at long before) (cut-length at long after inside ∙ sym (cut-length at long before within))
    (λ i l.
    let m : i < long = omega (arith, cut-length at long after inside) in
    cut_at at long after inside i m ∙ (outside i m apart ∙ sym (cut_at at long before within i m)))
  where
    outside : (i : ℕ) → i < long → (at + long ≤ from) ⊎ (to ≤ at) → get_or after (at + i) 0 ≡ get_or before (at + i) 0
    outside i m (inl l) = only.below (at + i) (omega arith)
    outside i m (inr l) = only.behind (at + i) (omega arith)

-- a change of one sheet's part leaves every other's
pub other-part : {A : Type 0} (bytes : ℕ) (of : Sheet → List A) (sheets : List Sheet) (before after : List ℕ)
    → length before ≡ bytes * length (joined of sheets) → (j k : ℕ) → j < length sheets → k < length sheets → (j ≡ k → ⊥)
    → ChangedOnly (begin bytes of sheets k) (begin bytes of sheets k + size bytes of sheets k) before after
    → part bytes of sheets j after ≡ part bytes of sheets j before
other-part bytes of sheets before after whole j k m l other only =
    cut_apart (begin bytes of sheets k) (begin bytes of sheets k + size bytes of sheets k) (begin bytes of sheets j) (size bytes of sheets j)
    before after only (part-within bytes of sheets (length before) whole j m) (go (ltb j k) refl)
  where
    go : (t : Bool) → ltb j k ≡ t → (begin bytes of sheets j + size bytes of sheets j ≤ begin bytes of sheets k)
        ⊎ (begin bytes of sheets k + size bytes of sheets k ≤ begin bytes of sheets j)
    go true e = inl (omega (arith, mul-le-mul_left bytes (joined-before of sheets j k (ltb-true j k e) l)))
    go false e =
        let less : k < j = omega (arith, ltb-false j k e) in
        inr (omega (arith, mul-le-mul_left bytes (joined-before of sheets k j less m)))
