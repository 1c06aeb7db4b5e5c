-- `with_named` meets its contract: a wire is added where the kind names it.
use Rattle.std.proofs.Common.{◌≡◌, refl, ℕ, []}
use mathlib.Core.Bool.{or-false}
use Rattle.sheet.specs.KindBytes.{byte_of}
use Rattle.sheet.specs.Lists.{among}
use Rattle.sheet.specs.Reads.{wires_named}
use Rattle.sheet.specs.declared.kinds.Kind.{Kind}
use Rattle.sheet.specs.declared.kinds.Kind.TheVariants.{BooleanConstant, NumberConstant, Wire, Input, Not, Negate, And, Or, Add, Subtract}
use Rattle.sheet.specs.declared.kinds.Kind.TheVariants.{Less, Equal, Conditional, Present, Reset, BooleanPre, NumberPre, Fby, Last, Machine}
use Rattle.sheet_own.proofs.with_named.Goals as goal

-- no other kind names a wire that is read
unnamed : (kind : Kind) → (kind ≡ Wire → ⊥) → (named : ℕ) → wires_named (byte_of kind) named ≡ []
unnamed BooleanConstant other named = refl
unnamed NumberConstant other named = refl
unnamed Wire other named = absurd (other refl)
unnamed Input other named = refl
unnamed Not other named = refl
unnamed Negate other named = refl
unnamed And other named = refl
unnamed Or other named = refl
unnamed Add other named = refl
unnamed Subtract other named = refl
unnamed Less other named = refl
unnamed Equal other named = refl
unnamed Conditional other named = refl
unnamed Present other named = refl
unnamed Reset other named = refl
unnamed BooleanPre other named = refl
unnamed NumberPre other named = refl
unnamed Fby other named = refl
unnamed Last other named = refl
unnamed Machine other named = refl

pub returns-in-Wire : goal.returns-in-Wire
unfolding among
returns-in-Wire c = record { joined = λ k. rw (c.in-Wire.is, or-false) (c.with.ensures k) }

pub returns-in_default : goal.returns-in_default
unfolding among
returns-in_default c = record { joined = λ k. rw (unnamed c.args.kind c.in_default.not-Wire c.args.named, or-false) refl }
