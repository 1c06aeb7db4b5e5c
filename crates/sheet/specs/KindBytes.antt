-- The byte that stands for a kind, which is its row's number in the table of kinds; and what a byte says of a kind.
use Rattle.std.specs.Prelude.{ℕ, ◌≡◌, ◌≤◌, Result, MatchResult}
use Rattle.sheet.specs.Kinds.{kind_count}
use Rattle.sheet.specs.declared.kinds.UnknownKind.{UnknownKind}
use Rattle.sheet.specs.declared.kinds.Kind.{Kind}
use Rattle.sheet.specs.declared.kinds.Kind.TheVariants.{BooleanConstant, NumberConstant, Wire, Input, Not, Negate, And, Or, Add, Subtract}
use Rattle.sheet.specs.declared.kinds.Kind.TheVariants.{Less, Equal, Conditional, Present, Reset, BooleanPre, NumberPre, Fby, Last, Machine}

abbrev pub byte_of : Kind → ℕ
byte_of BooleanConstant = 0
byte_of NumberConstant = 1
byte_of Wire = 2
byte_of Input = 3
byte_of Not = 4
byte_of Negate = 5
byte_of And = 6
byte_of Or = 7
byte_of Add = 8
byte_of Subtract = 9
byte_of Less = 10
byte_of Equal = 11
byte_of Conditional = 12
byte_of Present = 13
byte_of Reset = 14
byte_of BooleanPre = 15
byte_of NumberPre = 16
byte_of Fby = 17
byte_of Last = 18
byte_of Machine = 19

-- a byte decodes to the kind that it stands for, and to none where there is no such row
abbrev pub Decodes : ℕ → Result Kind UnknownKind → Type 0
Decodes byte r = MatchResult r (λ kind. byte_of kind ≡ byte) (λ unknown. (unknown.0 ≡ byte) × (kind_count ≤ byte))
