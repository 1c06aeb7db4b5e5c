-- The turns in which bytes of expressions are shifted and put: at a kind byte, and at a byte of a body.
use Prim.Native.Nat.{ℕ, zero, suc, ◌+◌, ◌-◌, ◌≤◌, ◌<◌}
use mathlib.Core.Path.{◌≡◌, refl}
use mathlib.Core.List.{List, ◌∷◌}
use mathlib.Core.Logic.{◌⊎◌, inl, inr}
use native.Mathlib.Numerals.{add-one}
use native.Mathlib.Omega.{arith}
use lib.ListN.{length, get_or, drop, set}
use lib.Seq.{drop-cons}
use Rattle.sheet.specs.Kinds.{body_of, kind_count}
use Rattle.join.specs.Bytes.{raise_of, shifted_bytes}
use Rattle.join.proofs.Laws.Raised.{Raisable, kind, body}
use Rattle.join.proofs.Laws.Readings.{shifted-length}
use Rattle.joining.specs.Writing.{Puts}
use Rattle.joining.proofs.Putting.{PutSoFar, none-put, one-put, all-put}

-- bytes that may be raised, the first `left` of them by `raise`, and what they are when they are shifted
pub record Shifts (wires inputs left raise : ℕ) (bytes target : List ℕ) : Type 0 where
  pub raisable : Raisable wires inputs left raise bytes
  pub same : shifted_bytes wires inputs left raise bytes ≡ target

stays : {raise b : ℕ} → b < 256 → (raise ≡ 0) ⊎ (raise + b < 256) → raise + b < 256
stays l (inl e) = omega arith
stays l (inr h) = h

module _ (wires inputs : ℕ) {raise b t : ℕ} {s ts : List ℕ} where
  at-kind : (left : ℕ) → left ≡ 0 → Raisable wires inputs left raise (b ∷ s) → shifted_bytes wires inputs left raise (b ∷ s) ≡ t ∷ ts
      → (b < kind_count) × (b ≡ t) × Shifts wires inputs (body_of b) (raise_of wires inputs b) s ts
  unfolding shifted_bytes
  at-kind zero e (kind l r) q = (l, cc, record { raisable = r; same = cc })
  at-kind (suc left) e r q = absurd (omega arith)

  in_body : (left : ℕ) → (left ≡ 0 → ⊥) → b < 256 → Raisable wires inputs left raise (b ∷ s)
      → shifted_bytes wires inputs left raise (b ∷ s) ≡ t ∷ ts
      → (raise + b < 256) × (raise + b ≡ t) × Shifts wires inputs (left - 1) raise s ts
  unfolding shifted_bytes
  in_body zero n l r q = absurd (n refl)
  in_body (suc left) n l (body h r) q =
      let e : suc left - 1 ≡ left = omega arith in rw e (stays l h, cc, record { raisable = r; same = cc })

module _ (before : List ℕ) (at : ℕ) (bytes : List ℕ) (wires inputs : ℕ) where
  abbrev target : List ℕ
  target = shifted_bytes wires inputs 0 0 bytes

  -- the first i of the bytes are put, shifted, and the others are still to be
  pub record Turn (left raise i : ℕ) (after : List ℕ) : Type 0 where
    pub within : i ≤ length bytes
    pub put : PutSoFar before at target i after
    pub rest : Shifts wires inputs left raise (drop i bytes) (drop i target)

  pub first-turn : Raisable wires inputs 0 0 bytes → Turn 0 0 0 before
  first-turn r = record { within = omega arith; put = none-put before at target; rest = record { raisable = r; same = refl } }

  pub last_turn : {left raise : ℕ} {after : List ℕ} (i : ℕ) → Turn left raise i after → length bytes ≤ i → Puts before at target after
  last_turn i turn all = all-put before at target i turn.put (omega (arith, turn.within, shifted-length wires inputs 0 0 bytes))

  module _ {left raise i : ℕ} {after : List ℕ} (turn : Turn left raise i after) (inside : i < length bytes) where
    there : i < length target
    there = omega (arith, shifted-length wires inputs 0 0 bytes)

    may_rise : Raisable wires inputs left raise (get_or bytes i 0 ∷ drop (i + 1) bytes)
    may_rise = rw (add-one, ← drop-cons bytes i 0 inside) turn.rest.raisable

    give : shifted_bytes wires inputs left raise (get_or bytes i 0 ∷ drop (i + 1) bytes) ≡ get_or target i 0 ∷ drop (i + 1) target
    give = rw (add-one, ← drop-cons bytes i 0 inside, ← drop-cons target i 0 there) turn.rest.same

    next-turn : (v : ℕ) {more next : ℕ} → at + length bytes ≤ length before → v ≡ get_or target i 0
        → Shifts wires inputs more next (drop (i + 1) bytes) (drop (i + 1) target) → Turn more next (i + 1) (set after (at + i) v)
    next-turn v room is rest =
        record {
          within = omega arith;
          put = one-put before at target i v turn.put (omega (arith, shifted-length wires inputs 0 0 bytes)) there is;
          rest = rest;
        }

    pub kind-here : left ≡ 0 → get_or bytes i 0 < kind_count
    kind-here e = (at-kind wires inputs left e may_rise give).0

    pub kind-turn : at + length bytes ≤ length before → left ≡ 0
        → Turn (body_of (get_or bytes i 0)) (raise_of wires inputs (get_or bytes i 0)) (i + 1) (set after (at + i) (get_or bytes i 0))
    kind-turn room e = let (l, is, rest) = at-kind wires inputs left e may_rise give in next-turn (get_or bytes i 0) room is rest

    module _ (some : left ≡ 0 → ⊥) (byte : get_or bytes i 0 < 256) where
      pub body-stays : raise + get_or bytes i 0 < 256
      body-stays = (in_body wires inputs left some byte may_rise give).0

      pub body-turn : at + length bytes ≤ length before → Turn (left - 1) raise (i + 1) (set after (at + i) (raise + get_or bytes i 0))
      body-turn room = let (l, is, rest) = in_body wires inputs left some byte may_rise give in next-turn (raise + get_or bytes i 0) room is rest
