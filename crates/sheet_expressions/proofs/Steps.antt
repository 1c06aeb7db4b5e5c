-- How the code's steps go into a reading: an expression's own bytes, and one more expression of a run.
use Prim.Native.Nat.{ℕ, zero, suc, ◌+◌, ◌-◌, ◌≤◌, ◌<◌}
use mathlib.Core.Path.{◌≡◌, refl, sym}
use mathlib.Core.Bool.{Bool, true, false, not}
use mathlib.Core.List.{List, ◌∷◌}
use native.Mathlib.Numerals.{add-one, sub-one}
use native.Mathlib.Omega.{arith}
use lib.Dec.{eqb}
use lib.ListN.{length, get_or, drop}
use lib.Seq.{drop-cons}
use Rattle.sheet.specs.Laws.Lists.{never}
use Rattle.sheet.specs.Laws.Readings.{not_good, got-next, got-count}
use Rattle.sheet.specs.Laws.Outcomes.{refused-parts}
use Rattle.sheet.specs.declared.Refused.{Refused}
use Rattle.std.specs.Prelude.{Err}
use borrow.Author.Tests.{lt-leb, le-leb, eq-eqb, ne_eqb}
use Rattle.sheet.specs.Data.{plain_byte}
use Rattle.sheet.specs.Kinds.{kind_count, operands_of, own_type_of, typed}
use Rattle.sheet.specs.Expressions.{Expression}
use Rattle.sheet.specs.Readings.{Reading, refused, got, erased, and_then, read_each, own_of, body_from, read_expression}
use Rattle.sheet.specs.Sheets.{wire_tree, read_wire}
use Rattle.sheet.specs.declared.Refusal.{Refusal}
use Rattle.sheet.specs.declared.Refusal.TheVariants.{Cut, Kind, Level, TypeAsked}
use Rattle.sheet_own.specs.Own.{then_type}
use Rattle.sheet.specs.Outcomes.{refused_at}
use Rattle.sheet.specs.Readings.{got_at}

-- what is built of a reading is erased
erased-map : {A B : Type 0} (x : Reading A) (f : A → B) → erased (and_then x (λ a n k. got (f a) n k)) ≡ erased x
erased-map (refused why place) f = refl
erased-map (got a n k) f = refl

-- a wire reads as its expression does
pub wire-erased : (inputs wires s : List ℕ) (b at c : ℕ)
    → erased (read_expression inputs wires s 16 (plain_byte b) at c) ≡ erased (read_wire inputs wires s b at c)
wire-erased inputs wires s b at c = sym (erased-map (read_expression inputs wires s 16 (plain_byte b) at c) (wire_tree b))

module _ (read : ℕ → ℕ → ℕ → Reading Expression) (types : List ℕ) (i at c : ℕ) (more : i < length types) where
  abbrev rest : Reading Expression → Reading (List Expression)
  rest x = and_then x (λ e n k. and_then (read_each read (drop (suc i) types) n k) (λ es m j. got (e ∷ es) m j))

  split : read_each read (drop i types) at c ≡ rest (read (get_or types i 0) at c)
  unfolding read_each
  split = rw (drop-cons types i 0 more)

  -- an expression of the run that is good leaves the others
  pub each_good : {n k : ℕ} → erased (read (get_or types i 0) at c) ≡ got_at n k
      → erased (read_each read (drop (i + 1) types) n k) ≡ erased (read_each read (drop i types) at c)
  each_good {n} {k} e = rw (split, add-one) (go (read (get_or types i 0) at c) e)
    where
      go : (x : Reading Expression) → erased x ≡ got_at n k → erased (read_each read (drop (suc i) types) n k) ≡ erased (rest x)
      go (refused why place) q = not_good q
      go (got a m j) q = rw (got-next q, got-count q) (sym (erased-map (read_each read (drop (suc i) types) m j) (λ es. a ∷ es)))

  -- one that is refused ends it
  pub each-refused : {r : Refused} → erased (read (get_or types i 0) at c) ≡ Err r → Err r ≡ erased (read_each read (drop i types) at c)
  each-refused {r} e = rw split (go (read (get_or types i 0) at c) e)
    where
      go : (x : Reading Expression) → erased x ≡ Err r → Err r ≡ erased (rest x)
      go (refused why place) q = sym q
      go (got a m j) q = not_good (sym q)

module _ (inputs wires s : List ℕ) (t at c : ℕ) where
  -- own bytes that are refused refuse the whole
  pub own-refused : (level : ℕ) {r : Refused} → own_of inputs wires s level t at c ≡ Err r
      → Err r ≡ erased (read_expression inputs wires s level t at c)
  unfolding read_expression
  own-refused zero e = rw e
  own-refused (suc l) e = rw e

  -- 2, 6 and 8
  pub own-missing : (level : ℕ) → length s ≤ at → own_of inputs wires s level t at c ≡ refused_at Cut (length s)
  unfolding own_of
  own-missing level missing = rw (le-leb (length s) at missing)

  pub own-unknown : (level : ℕ) → at < length s → kind_count ≤ get_or s at 0 → own_of inputs wires s level t at c ≡ refused_at Kind at
  unfolding own_of
  own-unknown level byte unknown = rw (lt-leb (length s) at byte, le-leb kind_count (get_or s at 0) unknown)

  pub own-deep : (level : ℕ) → at < length s → get_or s at 0 < kind_count → level ≡ 0 → own_of inputs wires s level t at c ≡ refused_at Level at
  unfolding own_of
  own-deep level byte kind deep = rw (lt-leb (length s) at byte, lt-leb kind_count (get_or s at 0) kind, eq-eqb level 0 deep)

  -- behind them comes the rest
  pub own-passed : (level : ℕ) → at < length s → get_or s at 0 < kind_count → 1 ≤ level
      → own_of inputs wires s level t at c ≡ body_from inputs wires s t at c
  unfolding own_of
  own-passed level byte kind levels =
      rw (lt-leb (length s) at byte, lt-leb kind_count (get_or s at 0) kind, ne_eqb level 0 (λ e. omega arith))

  -- behind good ones the operands' readings are the whole's
  pub by-operands : (level : ℕ) {n k : ℕ} → 1 ≤ level → own_of inputs wires s level t at c ≡ got_at n k
      → erased (read_each (read_expression inputs wires s (level - 1)) (operands_of (get_or s at 0) t) n k)
      ≡ erased (read_expression inputs wires s level t at c)
  unfolding read_expression
  by-operands zero d e = absurd (omega arith)
  by-operands (suc l) {n} {k} d e =
      rw (sub-one, e) (sym (erased-map (read_each (read_expression inputs wires s l) (operands_of (get_or s at 0) t) n k) _))

-- a reading by its erasure
pub is-refused : {A : Type 0} (x : Reading A) {why : Refusal} {place : ℕ} → erased x ≡ refused_at why place → x ≡ refused why place
is-refused (refused w p) e = let (why-is, place_is) = refused-parts e in rw (why-is, place_is)
is-refused (got a m j) e = not_good (sym e)

pub is-got : {A : Type 0} (x : Reading A) {n k : ℕ} → erased x ≡ got_at n k → (a : A) × (x ≡ got a n k)
is-got (refused w p) e = not_good e
is-got (got a m j) e = (a, rw (got-next e, got-count e))

-- 9 of an expression with operands
pub type_wrong : (k t at n c : ℕ) {test : Bool} → test ≡ eqb (typed t (own_type_of k)) t → not test ≡ true
    → then_type k t at (got_at n c) ≡ refused_at TypeAsked at
type_wrong k t at n c {test = true} e f = never (cc)
type_wrong k t at n c {test = false} e f = rw (← e)

pub type-right : (k t at n c : ℕ) {test : Bool} → test ≡ eqb (typed t (own_type_of k)) t → not test ≡ false
    → then_type k t at (got_at n c) ≡ got_at n c
type-right k t at n c {test = true} e f = rw (← e)
type-right k t at n c {test = false} e f = never (cc)
