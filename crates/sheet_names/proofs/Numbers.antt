-- The set of the names whose type byte passes a test, as it grows name by name, and the count of the kept ones.
use Prim.Native.Nat.{ℕ, ◌+◌, ◌≤◌, ◌<◌}
use mathlib.Core.Path.{◌≡◌, refl, sym, ap, ◌∙◌}
use mathlib.Core.Bool.{Bool, true, false, ◌||◌, cond, or-true, or-false}
use mathlib.Core.List.{List}
use native.Mathlib.Numerals.{add-one}
use native.Mathlib.Omega.{arith}
use lib.Dec.{eqb, ltb}
use lib.ListN.{length, get_or, drop, get_or-eq_default}
use lib.Seq.{drop-cons}
use borrow.Author.Count.{below_none, below_more}
use borrow.Author.Tests.{eq-eqb, ne_eqb, ltb-true, ltb-false}
use Rattle.wires.specs.Sets.{member}
use Rattle.sheet.specs.Data.{is_kept}
use Rattle.sheet.specs.Sheets.{own_cells, kept_count}

-- the kept wires from wire n on are that one, where it is kept, and those behind it
pub kept_from : (types : List ℕ) (n : ℕ) → n < length types
    → kept_count (drop n types) ≡ own_cells (get_or types n 0) + kept_count (drop (n + 1) types)
unfolding kept_count
kept_from types n more = rw (add-one, drop-cons types n 0 more)

-- and where those before it are counted, it is counted too
pub kept-counted : (types : List ℕ) (n count : ℕ) {all : ℕ} {kept : Bool} → n < length types
    → is_kept (get_or types n 0) ≡ kept → count + kept_count (drop n types) ≡ all → count + cond kept 1 0 + kept_count (drop (n + 1) types) ≡ all
kept-counted types n count more is counted =
    let here = kept_from types n more in
    rw (← is) (omega arith)

module _ (test : ℕ → Bool) (types : List ℕ) where
  -- of the first n names the set has those that pass, and it has no other
  pub record PassBefore (n bits : ℕ) : Type 0 where
    pub below : (i : ℕ) → i < n → member bits i ≡ test (get_or types i 0)
    pub beyond : (i : ℕ) → n ≤ i → member bits i ≡ false

  pub none_before : {bits : ℕ} → ((i : ℕ) → member bits i ≡ false) → PassBefore 0 bits
  none_before {bits} none = record { below = below_none (λ i. member bits i ≡ test (get_or types i 0)); beyond = λ i l. none i }

  pub name-added : {n bits more : ℕ} → PassBefore n bits → ((i : ℕ) → member more i ≡ (member bits i || eqb i n))
      → test (get_or types n 0) ≡ true → PassBefore (n + 1) more
  name-added {n} {bits} {more} before adds passes =
      record {
        below = below_more (λ i. member more i ≡ test (get_or types i 0)) n
            (λ i l. adds i ∙ rw (ne_eqb i n (λ (e : i ≡ n). omega arith), or-false) (before.below i l))
            (adds n ∙ rw (eq-eqb n n refl, or-true) (sym passes));
        beyond = λ i l. adds i ∙ rw (before.beyond i (omega arith), ne_eqb i n (λ (e : i ≡ n). omega arith));
      }

  pub name-passed : {n bits : ℕ} → PassBefore n bits → test (get_or types n 0) ≡ false → PassBefore (n + 1) bits
  name-passed {n} {bits} before fails =
      record {
        below = below_more (λ i. member bits i ≡ test (get_or types i 0)) n before.below (before.beyond n (omega arith) ∙ sym fails);
        beyond = λ i l. before.beyond i (omega arith);
      }

  -- a name that is none has type byte 0
  pub all-before : {n bits : ℕ} → test 0 ≡ false → length types ≤ n → PassBefore n bits → (i : ℕ) → member bits i ≡ test (get_or types i 0)
  all-before {n} {bits} fails over before i = go (ltb i n) refl
    where
      go : (b : Bool) → ltb i n ≡ b → member bits i ≡ test (get_or types i 0)
      go true e = before.below i (ltb-true i n e)
      go false e =
          let l = ltb-false i n e in
          before.beyond i l ∙ sym (ap test (get_or-eq_default types 0 {n = i} (omega arith)) ∙ fails)
