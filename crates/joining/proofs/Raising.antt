-- Bytes that are raised, and by how much kinds raise their bodies.
use Prim.Native.Nat.{ℕ, zero, suc, ◌+◌, ◌<◌}
use mathlib.Core.Path.{◌≡◌, refl, ap₂}
use mathlib.Core.List.{List, [], ◌∷◌}
use mathlib.Core.Logic.{◌⊎◌, inl, inr}
use native.Mathlib.Nat.{zero-add}
use native.Mathlib.Omega.{arith}
use lib.ListN.{length, get_or}
use Rattle.sheet.specs.Kinds.{kind_count}
use Rattle.sheet.specs.Lists.{◌and◌}
use Rattle.sheet.specs.Laws.Readings.{end, ◌▸◌, every-kind}
use Rattle.join.specs.Joined.{shifted_numbers}
use Rattle.join.specs.Bytes.{raise_of}
use Rattle.joining.specs.Writing.{CanRise}

pub raised-by-none : (bytes : List ℕ) → shifted_numbers 0 bytes ≡ bytes
raised-by-none [] = refl
raised-by-none (b ∷ bytes) = ap₂ ◌∷◌ (zero-add b) (raised-by-none bytes)

-- a byte that stays one
pub stays-byte : (raise : ℕ) (bytes : List ℕ) (i : ℕ) → CanRise raise bytes → i < length bytes → get_or bytes i 0 < 256
    → raise + get_or bytes i 0 < 256
stays-byte raise bytes i (inl e) l byte = omega arith
stays-byte raise (b ∷ bytes) zero (inr (h and hs)) l byte = h
stays-byte raise (b ∷ bytes) (suc i) (inr (h and hs)) l byte = stays-byte raise bytes i (inr hs) (omega arith) byte
stays-byte raise [] i (inr _) l byte = elim l [ ]

pub raised_at : (raise : ℕ) (bytes : List ℕ) (i : ℕ) → i < length bytes → raise + get_or bytes i 0 ≡ get_or (shifted_numbers raise bytes) i 0
raised_at raise [] i l = absurd (omega arith)
raised_at raise (b ∷ bytes) zero l = refl
raised_at raise (b ∷ bytes) (suc i) l = raised_at raise bytes i (omega arith)

-- kinds that name neither a wire nor an input raise nothing
pub names-nothing : (wires inputs kind : ℕ) → kind < kind_count → ((kind ≡ 2) ⊎ (kind ≡ 18) → ⊥) → (kind ≡ 3 → ⊥)
    → 0 ≡ raise_of wires inputs kind
names-nothing wires inputs = every-kind (λ kind. ((kind ≡ 2) ⊎ (kind ≡ 18) → ⊥) → (kind ≡ 3 → ⊥) → 0 ≡ raise_of wires inputs kind)
    (same ▸ same ▸ (λ w i. absurd (w (inl refl))) ▸ (λ w i. absurd (i refl)) ▸ same ▸ same ▸ same ▸ same ▸ same ▸ same
    ▸ same ▸ same ▸ same ▸ same ▸ same ▸ same ▸ same ▸ same ▸ (λ w i. absurd (w (inr refl))) ▸ same ▸ end)
  where
    same : {A B : Type 0} → A → B → ◌≡◌ {A = ℕ} 0 0
    same w i = refl
