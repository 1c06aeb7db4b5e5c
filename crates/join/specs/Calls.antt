-- What the call that joins two sheets comes to: 1 to 11 of the first, then of the second, 23, 16, or the joined bytes.
use Rattle.std.specs.Prelude.{ℕ, ◌+◌, ◌<◌, ◌≡◌, Bool, ◌||◌, cond, List, Result, Ok, Err, eqb, ltb, length}
use Rattle.sheet.specs.Outcomes.{packed_refusal}
use Rattle.sheet.specs.Sheets.{check_of}
use Rattle.sheet.specs.declared.Refused.{Refused}
use Rattle.sheet.specs.declared.Refusal.{Refusal}
use Rattle.sheet.specs.declared.Refusal.TheVariants.{OutputLength, JoinedLimit}
use Rattle.join.specs.Bytes.{joined_bytes}
use Rattle.sheet.specs.declared.Counts.{Counts}
use Rattle.join.specs.declared.NotJoined.{NotJoined}
use Rattle.join.specs.declared.NotJoined.TheVariants.{First, Second, Joined}

-- the check's answer about a sheet that passes with these counts
abbrev pub passed_with : Counts → Result Counts Refused
passed_with counts = Ok counts

abbrev pub on_checked : {A : Type 0} → Result Counts Refused → (Refused → A) → (Counts → A) → A
on_checked (Err refused) f g = f refused
on_checked (Ok counts) f g = g counts

-- a joined count or the joined length is above its limit
abbrev pub is_above : (first second : Counts) → (long : ℕ) → Bool
is_above first second long =
    ltb 16 (first.inputs + second.inputs)
    || ltb 64 (first.wires + second.wires)
    || ltb 16 (first.outputs + second.outputs)
    || ltb 64 (first.cells + second.cells)
    || ltb 4096 long

-- what joining answers: why it does not, or nothing
abbrev pub Joining : Type 0
Joining = Result (Unit {0}) NotJoined

-- a refusal of what two sheets would be joined into
abbrev pub refused_both : Refusal → Joining
refused_both why = Err (Joined (record { why = why; place = 0 }))

-- the answer, where the lent buffer has `room` bytes
unfoldable pub join_answer : (s t : List ℕ) (room : ℕ) → Joining
join_answer s t room =
    let long = length (joined_bytes s t) in
    on_checked (check_of s) (λ refused. Err (First refused)) (λ first.
    on_checked (check_of t) (λ refused. Err (Second refused)) (λ second.
    cond (is_above first second long) (refused_both JoinedLimit)
    (cond (eqb room long) (Ok tt) (refused_both OutputLength))))

-- what the buffer holds then: after a refusal what it held before
abbrev pub held_after : Joining → (bytes before : List ℕ) → List ℕ
held_after (Err reason) bytes before = before
held_after (Ok done) bytes before = bytes

-- what the call leaves
pub record JoinCall : Type 0 where
  pub answer : Joining
  pub joined : List ℕ

unfoldable pub join_call : (s t buffer : List ℕ) → JoinCall
join_call s t buffer =
    let answer = join_answer s t (length buffer) in record { answer = answer; joined = held_after answer (joined_bytes s t) buffer }

-- an answer and a buffer are those of the call
pub record Leaves (call : JoinCall) (answer : Joining) (joined : List ℕ) : Type 0 where
  pub answers : answer ≡ call.answer
  pub writes : joined ≡ call.joined

-- the answer as one number: 0, or a refusal, with the highest of 32 bits where it is the second sheet's
abbrev pub packed_joining : Joining → ℕ
packed_joining (Err (First refused)) = packed_refusal refused.why refused.place
packed_joining (Err (Second refused)) = 2147483648 + packed_refusal refused.why refused.place
packed_joining (Err (Joined refused)) = packed_refusal refused.why refused.place
packed_joining (Ok done) = 0

-- a place has room in such a number
abbrev pub PackableJoining : Joining → Type 0
PackableJoining (Err (First refused)) = refused.place < 65536
PackableJoining (Err (Second refused)) = refused.place < 65536
PackableJoining (Err (Joined refused)) = refused.place < 65536
PackableJoining (Ok done) = Unit {0}
