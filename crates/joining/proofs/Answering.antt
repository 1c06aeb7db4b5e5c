-- The answers of the code are those of the call, by what the check of each sheet finds.
use Prim.Native.Nat.{ℕ, ◌+◌, ◌-◌, ◌≤◌}
use mathlib.Core.Path.{◌≡◌, refl}
use mathlib.Core.Bool.{true, false}
use mathlib.Core.List.{List}
use Rattle.std.specs.Prelude.{Result, Ok, Err}
use Rattle.std.specs.Result.{MatchResult, IsErrAnd}
use native.Mathlib.Omega.{arith}
use lib.ListN.{length}
use borrow.Author.Tests.{eq-eqb, ne_eqb}
use Rattle.sheet.specs.Sheets.{check_of}
use Rattle.sheet.proofs.Laws.Typing.{sheet-reads}
use Rattle.sheet.specs.Laws.Lists.{never}
use Rattle.sheet.specs.declared.Refused.{Refused}
use Rattle.sheet.specs.declared.Refusal.TheVariants.{OutputLength, JoinedLimit}
use Rattle.join.specs.Bytes.{joined_bytes}
use Rattle.join.specs.Calls.{is_above, refused_both, join_answer, join_call, Leaves}
use Rattle.join.proofs.Laws.Bytes.{joined_length}
use Rattle.join.specs.declared.NotJoined.TheVariants.{First, Second}
use Rattle.joining.specs.Counting.{Passes, Few}
use Rattle.joining.specs.Writing.{Joinable}
use Rattle.joining.proofs.Cutting.{found-by}
use Rattle.sheet.specs.declared.Counts.{Counts}

-- an error that `map_err` made is made of one
pub made-of : {T E F : Type 0} (f : E → F) {x : F} (r : Result T E)
    → MatchResult r (λ t. Err x ≡ Ok t) (λ e. IsErrAnd {T = T} (Err x) (λ y. y ≡ f e)) → (e : E) × (x ≡ f e) × (r ≡ Err e)
made-of f (Ok t) m = never (cc m)
made-of f (Err e) m = (e, m, refl)

-- and a value that it passed on is that
pub taken-of : {T E F : Type 0} (f : E → F) {x : T} (r : Result T E)
    → MatchResult r (λ t. ◌≡◌ {A = Result T F} (Ok x) (Ok t)) (λ e. IsErrAnd {T = T} {E = F} (Ok x) (λ y. y ≡ f e)) → r ≡ Ok x
taken-of f (Ok t) m = cc
taken-of f (Err e) m = absurd m

pub first_stops : (s t buffer : List ℕ) {refused : Refused} → check_of s ≡ Err refused
    → Leaves (join_call s t buffer) (Err (First refused)) buffer
unfolding join_call join_answer
first_stops s t buffer e = rw e (record { answers = refl; writes = refl })

module _ (s : List ℕ) {counts : Counts} (passes : Passes s counts) where
  pub few : Few counts
  few =
      let found = found-by s passes in
      record { inputs = found.few-inputs; wires = found.few-wires; outputs = found.few-outputs; cells = found.few-cells }

  pub second-stops : (t buffer : List ℕ) {refused : Refused} → check_of t ≡ Err refused
      → Leaves (join_call s t buffer) (Err (Second refused)) buffer
  unfolding join_call join_answer
  second-stops t buffer e = rw (passes, e) (record { answers = refl; writes = refl })

module _ (s t : List ℕ) {counts others : Counts} (first : Passes s counts) (second : Passes t others) where
  joined-sized : length (joined_bytes s t) + 3 ≡ length s + length t
  joined-sized =
      let (n, k, read₁) = sheet-reads s (found-by s first).outcome in
      let (m, j, read₂) = sheet-reads t (found-by t second).outcome in
      joined_length s t read₁ read₂

  pub long : 3 ≤ length s + length t
  long = omega (arith, joined-sized)

  sized : length s + length t - 3 ≡ length (joined_bytes s t)
  sized = omega (arith, joined-sized)

  module _ (buffer : List ℕ) where
    pub above-limits : is_above counts others (length s + length t - 3) ≡ true → Leaves (join_call s t buffer) (refused_both JoinedLimit) buffer
    unfolding join_call join_answer
    above-limits above =
        rw (first, second, ← sized, above)
        (record { answers = refl; writes = refl })

    module _ (within : is_above counts others (length s + length t - 3) ≡ false) where
      pub other_length_lem : (length buffer ≡ length s + length t - 3 → ⊥) → Leaves (join_call s t buffer) (refused_both OutputLength) buffer
      unfolding join_call join_answer
      other_length_lem other =
          rw (first, second, ← sized, within, ne_eqb (length buffer) (length s + length t - 3) other)
          (record { answers = refl; writes = refl })

      module _ (room : length buffer ≡ length s + length t - 3) where
        pub can_join : Joinable s t (length buffer)
        can_join =
            record {
              first = counts;
              second = others;
              first_passes = first;
              second-passes = second;
              limited = rw room within;
              sized = omega (arith, long);
            }

        pub joins : {after : List ℕ} → after ≡ joined_bytes s t → Leaves (join_call s t buffer) (Ok tt) after
        unfolding join_call join_answer
        joins e =
            rw (first, second, ← sized, within, eq-eqb (length buffer) (length s + length t - 3) room)
            (record { answers = refl; writes = e })
