-- What an outcome with a result tells: each check before it was passed.
use Rattle.std.specs.Prelude.{◌≡◌, refl, ℕ, ◌<◌, Bool, true, false, cond, eqb, ltb}
use Rattle.std.proofs.Common.{ap, arith, eqb-true}
use Rattle.sheet.specs.Outcomes.{Outcome, refusal, result, followed_by, lowest, unless_length, unless_any, refused_at}
use Rattle.sheet.specs.declared.Refused.{Refused}
use Rattle.sheet.specs.Laws.Lowest.{lowest-none}
use Rattle.sheet.specs.declared.Refusal.{Refusal}

-- the parts of a refusal that is answered
pub refused-parts : {A : Type 0} {why found : Refusal} {place at : ℕ} → refused_at {A = A} found at ≡ refused_at why place
    → (found ≡ why) × (at ≡ place)
refused-parts {A} {why} {found} {place} {at} e =
    let same : ◌≡◌ {A = Refused} (record { why = found; place = at }) (record { why = why; place = place }) = cc in
    (ap (λ (r : Refused). r.why) same, ap (λ (r : Refused). r.place) same)

module _ {A : Type 0} where
  pub no_result : {B : Type 0} {why : Refusal} {place : ℕ} {a : A} → refusal why place ≡ result a → B
  no_result e = absurd (let z : ◌≡◌ {A = ℕ} 0 1 = cc in omega arith)

  pub same-result : {a b : A} → result a ≡ result b → a ≡ b
  same-result e = cc

  pub length-passed : (why : Refusal) (n must : ℕ) (rest : Outcome A) {a : A} → unless_length why n must rest ≡ result a
      → (n ≡ must) × (rest ≡ result a)
  length-passed why n must rest {a} e = go (eqb n must) refl e
    where
      go : (t : Bool) → eqb n must ≡ t → cond t rest (refusal why 0) ≡ result a → (n ≡ must) × (rest ≡ result a)
      go true q e = (eqb-true n must q, e)
      go false q e = no_result e

  pub any-passed : (why : Refusal) (test : ℕ → Bool) (bound : ℕ) (rest : Outcome A) {a : A}
      → unless_any why test bound rest ≡ result a → ((p : ℕ) → p < bound → test p ≡ false) × (rest ≡ result a)
  any-passed why test bound rest {a} e = go (ltb (lowest test bound) bound) refl e
    where
      go : (t : Bool) → ltb (lowest test bound) bound ≡ t → cond t (refusal why (lowest test bound)) rest ≡ result a
          → ((p : ℕ) → p < bound → test p ≡ false) × (rest ≡ result a)
      go true q e = no_result e
      go false q e = (lowest-none test bound q, e)

  -- the first part had a result, and what followed it
  pub followed : {B : Type 0} (x : Outcome B) (f : B → Outcome A) {a : A} → followed_by x f ≡ result a
      → (b : B) × (x ≡ result b) × (f b ≡ result a)
  followed (refusal why place) f e = no_result e
  followed (result b) f e = (b, refl, e)
