-- Rounds that pass known wires over (K4): what they do to any values; that from all unknown they are the rounds of the definition, for
-- every monotone system; and that the instant made of them is `rounds_call`, on any bytes.
use Prim.Native.Nat.{ℕ, zero, suc, ◌<◌}
use Rattle.std.specs.Prelude.{◌≡◌, length}
use Rattle.std.proofs.Math.Path.{refl, sym, ap, fun_ext}
use Rattle.std.proofs.Common.{◌∙◌, arith, ext_get_or}
use mathlib.Core.List.{List, [], ◌∷◌}
use Rattle.sheet.specs.Outcomes.{Outcome, followed_by, lowest}
use Rattle.kernel.specs.Values.{IsKnown, known}
use Rattle.kernel.specs.Order.{◌⊑◌, unknown, same, ◌⊑*◌, value_at}
use Rattle.kernel.specs.Equality.{same_values}
use Rattle.kernel.specs.Systems.{Monotone, kept_or, renewed, round_over, after, unchanged, rounds, finished}
use Rattle.kernel.specs.Instants.{wire_count}
use Rattle.kernel.specs.Instants as Instant
use Rattle.kernel.specs.Calls.{Given, given_of, Accepted, accepted_of, in_rounds, InstantCall, left_by, rounds_answer, rounds_call}
use Rattle.kernel.proofs.Laws.Rounds.{climbs, after-length}
use Rattle.kernel.proofs.Laws.Instants.{round_monotone}
use Rattle.kernel.proofs.Laws.Demands.{given_round}
use Rattle.kernel.specs.declared.Value.{Value}
use Rattle.kernel.specs.declared.Value.TheVariants.{Unknown, Known}
use Rattle.kernel.specs.Answers.{InRounds}

renewed-length : (worked : ℕ → Value) (vs : List Value) → length (renewed worked vs) ≡ length vs
unfolding renewed
renewed-length worked [] = refl
renewed-length worked (v ∷ vs) = ap suc (renewed-length (λ w. worked (suc w)) vs)

renewed-at : (worked : ℕ → Value) (vs : List Value) (w : ℕ) → w < length vs
    → value_at (renewed worked vs) w ≡ kept_or (value_at vs w) (worked w)
unfolding renewed
renewed-at worked [] w l = absurd (omega arith)
renewed-at worked (v ∷ vs) zero l = refl
renewed-at worked (v ∷ vs) (suc w) l = renewed-at (λ w. worked (suc w)) vs w (omega arith)

kept-known : {u : Value} (v : Value) → IsKnown u → kept_or u v ≡ u
kept-known v known = refl

kept-grown : {u v : Value} → u ⊑ v → kept_or u v ≡ v
kept-grown unknown = refl
kept-grown {u} same = go u
  where
    go : (v : Value) → kept_or v v ≡ v
    go Unknown = refl
    go (Known d) = refl

-- Over any values.
module _ (next : List Value → List Value) (values : List Value) where
  pub over-length : length (round_over next values) ≡ length values
  unfolding round_over
  over-length = renewed-length (value_at (next values)) values

  pub over-at : (w : ℕ) → w < length values → value_at (round_over next values) w ≡ kept_or (value_at values w) (value_at (next values) w)
  unfolding round_over
  over-at = renewed-at (value_at (next values)) values

  -- a known wire comes back as it was
  pub over-known : (w : ℕ) → w < length values → IsKnown (value_at values w) → value_at (round_over next values) w ≡ value_at values w
  over-known w l k = over-at w l ∙ kept-known (value_at (next values) w) k

  -- an unknown one as it is worked out
  pub over-unknown : (w : ℕ) → w < length values → value_at values w ≡ Unknown
      → value_at (round_over next values) w ≡ value_at (next values) w
  over-unknown w l e = over-at w l ∙ ap (λ u. kept_or u (value_at (next values) w)) e

  -- where the values grow, it is the round of the definition
  pub over-grown : length (next values) ≡ length values → values ⊑* next values → round_over next values ≡ next values
  over-grown sized grows =
      ext_get_or Unknown (round_over next values) (next values) (over-length ∙ sym sized)
      (λ w l. over-at w (omega (arith, over-length)) ∙ kept-grown (grows.at w))

-- From all unknown: the rounds of the definition, as many of them, to the same end.
module _ (n : ℕ) (next : List Value → List Value) (system : Monotone n next) where
  pub after-over : (k : ℕ) → after n (round_over next) k ≡ after n next k
  unfolding after
  after-over zero = refl
  after-over (suc k) =
      ap (round_over next) (after-over k)
      ∙ over-grown next (after n next k) (system.sized (after n next k) ∙ sym (after-length n next system k))
      (climbs n next system k (suc k) (omega arith))

  pub rounds_over : rounds n (round_over next) ≡ rounds n next
  unfolding rounds unchanged
  rounds_over = ap (λ (f : ℕ → List Value). suc (lowest (λ k. same_values (f k) (f (suc k))) n)) (fun_ext after-over)

  pub finished-over : finished n (round_over next) ≡ finished n next
  unfolding finished
  finished-over = rw rounds_over (after-over (rounds n next))

-- The instant in rounds by these rounds, from what passed 1 to 16 and as a call.
abbrev pub given_over : Given → List Value → List Value
given_over given = round_over (given_round given)

unfoldable pub in_rounds_over : Given → Outcome Accepted
in_rounds_over given =
    let n = wire_count given.sheet in
    accepted_of given (rounds n (given_over given)) (finished n (given_over given))

unfoldable pub rounds_call_over : (s memory input output : List ℕ) → InstantCall InRounds
rounds_call_over s memory input output =
    left_by rounds_answer (followed_by (given_of s memory input output) in_rounds_over) memory output

over_in_rounds : (given : Given) → in_rounds_over given ≡ in_rounds given
unfolding in_rounds_over in_rounds Instant.rounds Instant.finished
over_in_rounds given =
    let n = wire_count given.sheet in
    let monotone = round_monotone given.sheet given.inputs given.memory in
    rw (rounds_over n (given_round given) monotone, finished-over n (given_round given) monotone)

-- answers, places, rounds and bytes are the old ones
pub over-call : (s memory input output : List ℕ) → rounds_call_over s memory input output ≡ rounds_call s memory input output
unfolding rounds_call_over rounds_call
over-call s memory input output =
    ap (λ (instant : Given → Outcome Accepted). left_by rounds_answer (followed_by (given_of s memory input output) instant) memory output)
    (fun_ext over_in_rounds)
