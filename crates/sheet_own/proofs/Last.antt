-- The own bytes of kind 18, which names a kept wire, test by test.
use Prim.Native.Nat.{ℕ, ◌+◌, ◌≤◌, ◌<◌}
use mathlib.Core.Path.{◌≡◌, refl, sym, ap, ◌∙◌}
use mathlib.Core.Bool.{Bool, true, false, not, cond, not-not}
use mathlib.Core.List.{List}
use native.Mathlib.Nat.{add-zero}
use native.Mathlib.Omega.{arith}
use lib.Dec.{eqb, leb}
use lib.ListN.{length, get_or, get_or-eq_default}
use borrow.Author.Tests.{le-ltb, lt-ltb, lt-leb, leb-true, leb-false, eq-eqb, ne_eqb}
use Rattle.sheet.specs.Data.{plain_byte, is_kept}
use Rattle.sheet.specs.Readings.{names_of, body_from}
use Rattle.sheet.specs.Laws.Lists.{never}
use Rattle.sheet.specs.declared.Refusal.TheVariants.{Cut, Body, TypeAsked}
use Rattle.sheet_names.specs.Naming.{kept_in, type_in, Naming}
use Rattle.sheet_names.specs.declared.Names.{Names}
use Rattle.sheet.specs.Outcomes.{refused_at}
use Rattle.sheet.specs.Readings.{got_at}
use Rattle.sheet.specs.declared.Got.{Got}

-- the code tests the opposite
opposite : (b : Bool) {c : Bool} → not b ≡ c → b ≡ not c
opposite b e = sym (not-not b) ∙ ap not e

-- a wire that is kept is a wire
kept-below : (wires : List ℕ) (n : ℕ) → is_kept (get_or wires n 0) ≡ true → n < length wires
kept-below wires n kept = go (leb (length wires) n) refl
  where
    go : (b : Bool) → leb (length wires) n ≡ b → n < length wires
    go false e = leb-false (length wires) n e
    go true e = never (cc (sym kept ∙ ap is_kept (get_or-eq_default wires 0 {n = n} (leb-true (length wires) n e))))

module _ (inputs wires : List ℕ) (names : Names) (s : List ℕ) (t at c : ℕ) (naming : Naming inputs wires names) (last : get_or s at 0 ≡ 18) (asked : t < 2)
    (room : c ≤ 64) (small : get_or s (at + 1) 0 < 256) where
  abbrev named : ℕ
  named = get_or s (at + 1) 0

  past : at + 1 + 1 ≡ at + 2
  past = omega arith

  pub last-cut : length s ≤ at + 1 → refused_at Cut (length s) ≡ body_from inputs wires s t at c
  unfolding body_from
  last-cut cut = rw (last, past, add-zero, le-ltb 64 c room, lt-ltb (length s) (at + 2) (omega arith))

  -- where the body is whole
  module _ (whole : at + 1 < length s) where
    last-names : body_from inputs wires s t at c ≡ cond (leb (length wires) named) (refused_at Body at)
        (cond (not (is_kept (get_or wires named 0))) (refused_at Body at)
        (cond (eqb (plain_byte (get_or wires named 0)) t) (got_at (at + 2) c) (refused_at TypeAsked at)))
    unfolding body_from names_of
    last-names = rw (last, past, add-zero, le-ltb 64 c room, le-ltb (length s) (at + 2) (omega arith))

    pub last_unkept : {test : Bool} → test ≡ kept_in names named → not test ≡ true → refused_at Body at ≡ body_from inputs wires s t at c
    last_unkept {test} tests unkept =
        rw (last-names, sym (naming.keeps named small) ∙ sym tests ∙ opposite test unkept) (go (leb (length wires) named))
      where
        go : (b : Bool) → refused_at {A = Got} Body at ≡ cond b (refused_at Body at) (refused_at Body at)
        go true = refl
        go false = refl

    -- and a kept wire is named
    module _ {test : Bool} (tests : test ≡ kept_in names named) (keeps : not test ≡ false) where
      kept : is_kept (get_or wires named 0) ≡ true
      kept = sym (naming.keeps named small) ∙ sym tests ∙ opposite test keeps

      below : named < length wires
      below = kept-below wires named kept

      typed_as : eqb (type_in names 2 named) t ≡ eqb (plain_byte (get_or wires named 0)) t
      typed_as = naming.types 2 named t (omega arith) small below asked

      pub last-other : (type_in names 2 named ≡ t → ⊥) → refused_at TypeAsked at ≡ body_from inputs wires s t at c
      last-other other = rw (last-names, lt-leb (length wires) named below, kept, ← typed_as, ne_eqb (type_in names 2 named) t other)

      pub last_good : type_in names 2 named ≡ t → got_at (at + 2) c ≡ body_from inputs wires s t at c
      last_good same = rw (last-names, lt-leb (length wires) named below, kept, ← typed_as, eq-eqb (type_in names 2 named) t same)
