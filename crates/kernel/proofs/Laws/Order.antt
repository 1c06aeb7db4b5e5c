-- The order on values and on lists of values: unknown is least, and a known value has nothing above it but itself.
use Rattle.std.specs.Prelude.{◌≡◌, refl, ℕ, zero, suc, true, false, List, length}
use Rattle.std.proofs.Common.{subst, ext_get_or}
use Rattle.kernel.specs.Values.{is_unknown, IsKnown, known, when_known}
use Rattle.kernel.specs.Order.{◌⊑◌, unknown, same, ◌⊑*◌, value_at, all_unknown}
use Rattle.kernel.specs.Systems.{Full}
use Rattle.sheet.specs.Laws.Lists.{never}
use Rattle.sheet.specs.declared.Datum.{Datum}
use Rattle.kernel.specs.declared.Value.{Value}
use Rattle.kernel.specs.declared.Value.TheVariants.{Unknown, Known}

pub ⊑_trans : {u v w : Value} → u ⊑ v → v ⊑ w → u ⊑ w
⊑_trans unknown q = unknown
⊑_trans same q = q

pub ⊑-antisym : {u v : Value} → u ⊑ v → v ⊑ u → u ≡ v
⊑-antisym unknown unknown = refl
⊑-antisym unknown same = refl
⊑-antisym same q = refl

pub ⊑-of-≡ : {u v : Value} → u ≡ v → u ⊑ v
⊑-of-≡ {u} e = subst (λ (x : Value). u ⊑ x) e same

pub known-not : {v : Value} → IsKnown v → is_unknown v ≡ false
known-not known = refl

pub unknown-is : (v : Value) → is_unknown v ≡ true → v ≡ Unknown
unknown-is Unknown e = refl
unknown-is (Known d) e = never (cc)

pub not_known : {v : Value} {A : Type 0} → IsKnown v → v ≡ Unknown → A
not_known known e = never (cc)

pub known_same : {u v : Value} → IsKnown u → u ⊑ v → u ≡ v
known_same known same = refl

-- a strict function grows with its operand and with itself
pub when_known-grows : {u v : Value} {f g : Datum → Value} → u ⊑ v → ((d : Datum) → f d ⊑ g d) → when_known u f ⊑ when_known v g
when_known-grows unknown h = unknown
when_known-grows {u} {f = f} {g = g} same h = at u
  where
    at : (v : Value) → when_known v f ⊑ when_known v g
    at Unknown = same
    at (Known d) = h d

pub ⊑*-trans : {xs ys zs : List Value} → xs ⊑* ys → ys ⊑* zs → xs ⊑* zs
⊑*-trans p q = record { at = λ w. ⊑_trans (p.at w) (q.at w) }

pub ⊑*-antisym : (xs ys : List Value) → length xs ≡ length ys → xs ⊑* ys → ys ⊑* xs → xs ≡ ys
⊑*-antisym xs ys e p q = ext_get_or Unknown xs ys e (λ w l. ⊑-antisym (p.at w) (q.at w))

pub unknown-at : (n w : ℕ) → value_at (all_unknown n) w ≡ Unknown
unknown-at zero w = refl
unknown-at (suc n) zero = refl
unknown-at (suc n) (suc w) = unknown-at n w

pub all_unknown-below : (n : ℕ) (xs : List Value) → all_unknown n ⊑* xs
all_unknown-below n xs = record { at = λ w. rw (unknown-at n w) unknown }

-- a list with no unknown value is below itself alone
pub full-same : (n : ℕ) (xs ys : List Value) → length xs ≡ n → length ys ≡ n → Full n xs → xs ⊑* ys → xs ≡ ys
unfolding Full
full-same n xs ys l m full h = ext_get_or Unknown xs ys (rw (l, m)) (λ w lt. known_same (full w (rw l at lt)) (h.at w))
