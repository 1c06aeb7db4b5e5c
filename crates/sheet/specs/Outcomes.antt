-- What a call comes to: a refusal with its place, or a result. The numbers of refusals stand here and nowhere else.
use Rattle.std.specs.Prelude.{ℕ, zero, suc, ◌+◌, ◌*◌, Bool, cond, List, Result, Ok, Err, eqb, ltb}
use Rattle.sheet.specs.declared.Refused.{Refused}
use Rattle.sheet.specs.declared.Refusal.{Refusal}
use Rattle.sheet.specs.declared.Refusal.TheVariants.{SheetLength, Cut, CountRange, TypeByte, OutputWire}
use Rattle.sheet.specs.declared.Refusal.TheVariants.{Kind, Body, Level, TypeAsked, CellLimit, LeftOver}
use Rattle.sheet.specs.declared.Refusal.TheVariants.{MemoryLength, CellContent, InputLength, InputContent, OutputLength}
use Rattle.sheet.specs.declared.Refusal.TheVariants.{ScheduleLength, ScheduleEntry, ScheduleOrder, StaysUnknown, NoSchedule, BoardFrame, JoinedLimit}

abbrev pub number_of : Refusal → ℕ
number_of SheetLength = 1
number_of Cut = 2
number_of CountRange = 3
number_of TypeByte = 4
number_of OutputWire = 5
number_of Kind = 6
number_of Body = 7
number_of Level = 8
number_of TypeAsked = 9
number_of CellLimit = 10
number_of LeftOver = 11
number_of MemoryLength = 12
number_of CellContent = 13
number_of InputLength = 14
number_of InputContent = 15
number_of OutputLength = 16
number_of ScheduleLength = 17
number_of ScheduleEntry = 18
number_of ScheduleOrder = 19
number_of StaysUnknown = 20
number_of NoSchedule = 21
number_of BoardFrame = 22
number_of JoinedLimit = 23

-- a refusal as one number, as the C library returns it
abbrev pub packed_refusal : Refusal → ℕ → ℕ
packed_refusal why place = number_of why * 65536 + place

pub data Outcome (A : Type 0) : Type 0 where
  refusal : Refusal → (place : ℕ) → Outcome A
  result : A → Outcome A

-- a refusal as a call answers it
abbrev pub refused_at : {A : Type 0} → Refusal → ℕ → Result A Refused
refused_at why place = Err (record { why = why; place = place })

-- what a call answers of an outcome
abbrev pub answer_of : {A : Type 0} → Outcome A → Result A Refused
answer_of (refusal why place) = refused_at why place
answer_of (result a) = Ok a

-- what a call answers of an outcome whose result it gives nothing of
abbrev pub done_of : {A : Type 0} → Outcome A → Result (Unit {0}) Refused
done_of (refusal why place) = refused_at why place
done_of (result a) = Ok tt

-- an answer as one number, as the C library returns it: a refusal's, or the number of what the call gives
abbrev pub packed_answer : {A : Type 0} → (A → ℕ) → Result A Refused → ℕ
packed_answer number (Err r) = packed_refusal r.why r.place
packed_answer number (Ok a) = number a

-- a refusal ends the call
abbrev pub followed_by : {A B : Type 0} → Outcome A → (A → Outcome B) → Outcome B
followed_by (refusal why place) f = refusal why place
followed_by (result a) f = f a

-- what a buffer holds after a call: after a refusal what it held before
abbrev pub holds_after : {A : Type 0} → Outcome A → (A → List ℕ) → List ℕ → List ℕ
holds_after (refusal why place) f before = before
holds_after (result a) f before = f a

-- the lowest number below the bound that passes the test, or the bound where none does
unfoldable pub lowest : (ℕ → Bool) → ℕ → ℕ
lowest test zero = zero
lowest test (suc bound) = cond (test zero) zero (suc (lowest (λ k. test (suc k)) bound))

-- refused where a buffer has not the length it must have
abbrev pub unless_length : {A : Type 0} → Refusal → (length must : ℕ) → Outcome A → Outcome A
unless_length why n must rest = cond (eqb n must) rest (refusal why 0)

-- refused at the lowest place below the bound that passes the test
abbrev pub unless_any : {A : Type 0} → Refusal → (ℕ → Bool) → (bound : ℕ) → Outcome A → Outcome A
unless_any why test bound rest = cond (ltb (lowest test bound) bound) (refusal why (lowest test bound)) rest
