-- The operations on one and on two data, kinds 4 to 11. They are strict: an expression applies them to known operands only.
use Rattle.std.specs.Prelude.{ℕ, not, ◌||◌, ◌&&◌, cond, eqb, neg_ℤ, ◌+ℤ◌, ◌-ℤ◌}
use Rattle.std.specs.Int.Signed.{lt_z}
use Rattle.numbers.specs.Numbers.{settled, equals}
use Rattle.sheet.specs.Expressions.{Unary, negation, negative}
use Rattle.sheet.specs.Expressions.{Binary, conjunction, disjunction, sum, difference, lessThan, equality}
use Rattle.sheet.specs.declared.Datum.{Datum}
use Rattle.sheet.specs.declared.Datum.TheVariants.{Boolean, Number}
use Rattle.kernel.specs.Values.{truth, amount, when_known}
use Rattle.kernel.specs.declared.Value.{Value}
use Rattle.kernel.specs.declared.Value.TheVariants.{Known}

abbrev pub apply_unary : Unary → Datum → Datum
apply_unary negation d = Boolean (not (truth d))
apply_unary negative d = Number (settled (neg_ℤ (amount d)))

abbrev pub apply_binary : Binary → Datum → Datum → Datum
apply_binary conjunction d e = Boolean (truth d && truth e)
apply_binary disjunction d e = Boolean (truth d || truth e)
apply_binary sum d e = Number (settled (amount d +ℤ amount e))
apply_binary difference d e = Number (settled (amount d -ℤ amount e))
apply_binary lessThan d e = Boolean (lt_z (amount d) (amount e))
apply_binary equality d e = Boolean (equals (amount d) (amount e))

-- the operation of kind 4 or 5
abbrev pub unary_of : ℕ → Unary
unary_of k = cond (eqb k 4) negation negative

-- the operation of kinds 6 to 11
abbrev pub binary_of : ℕ → Binary
binary_of k =
    cond (eqb k 6) conjunction
    (cond (eqb k 7) disjunction
    (cond (eqb k 8) sum
    (cond (eqb k 9) difference
    (cond (eqb k 10) lessThan equality))))

-- strict: on whole values
abbrev pub unary_value : Unary → Value → Value
unary_value o v = when_known v (λ x. Known (apply_unary o x))

abbrev pub binary_value : Binary → Value → Value → Value
binary_value o v w = when_known v (λ x. when_known w (λ y. Known (apply_binary o x y)))
