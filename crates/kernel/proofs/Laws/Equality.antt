-- The test of equality on lists of values passes where they are the same, and nowhere else.
use Rattle.std.specs.Prelude.{◌≡◌, refl, true, false, List, [], ◌∷◌}
use Rattle.std.proofs.Common.{ap, ap₂}
use Rattle.numbers.specs.Laws.{equals_true, equals-refl}
use Rattle.kernel.specs.Equality.{same_datum, same_value, same_values}
use Rattle.sheet.specs.Laws.Lists.{both}
use Rattle.sheet.specs.declared.Datum.{Datum}
use Rattle.sheet.specs.declared.Datum.TheVariants.{Boolean, Number}
use Rattle.kernel.specs.declared.Value.{Value}
use Rattle.kernel.specs.declared.Value.TheVariants.{Unknown, Known}

datum_true : (d e : Datum) → same_datum d e ≡ true → d ≡ e
unfolding same_datum
datum_true (Boolean true) (Boolean true) h = refl
datum_true (Boolean true) (Boolean false) h = cc
datum_true (Boolean false) (Boolean true) h = cc
datum_true (Boolean false) (Boolean false) h = refl
datum_true (Boolean a) (Number z) h = cc
datum_true (Number z) (Boolean b) h = cc
datum_true (Number y) (Number z) h = ap Number (equals_true y z h)

datum-refl : (d : Datum) → same_datum d d ≡ true
unfolding same_datum
datum-refl (Boolean true) = refl
datum-refl (Boolean false) = refl
datum-refl (Number z) = equals-refl z

value_true : (v w : Value) → same_value v w ≡ true → v ≡ w
unfolding same_value
value_true Unknown Unknown h = refl
value_true Unknown (Known e) h = cc
value_true (Known d) Unknown h = cc
value_true (Known d) (Known e) h = ap Known (datum_true d e h)

value-refl : (v : Value) → same_value v v ≡ true
unfolding same_value
value-refl Unknown = refl
value-refl (Known d) = datum-refl d

pub values_true : (xs ys : List Value) → same_values xs ys ≡ true → xs ≡ ys
unfolding same_values
values_true [] [] h = refl
values_true [] (y ∷ ys) h = cc
values_true (x ∷ xs) [] h = cc
values_true (x ∷ xs) (y ∷ ys) h =
    let (first, rest) = both (same_value x y) (same_values xs ys) h in
    ap₂ ◌∷◌ (value_true x y first) (values_true xs ys rest)

pub values-refl : (xs : List Value) → same_values xs xs ≡ true
unfolding same_values
values-refl [] = refl
values-refl (x ∷ xs) = rw (value-refl x) (values-refl xs)
