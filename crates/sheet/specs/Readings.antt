-- What reading an expression finds: a refusal with its place, or the tree, the place past it and the count of cells so far.
use Rattle.std.specs.Prelude.{ℕ, zero, suc, ◌+◌, ◌<◌, ◌≤◌, cond, List, [], ◌∷◌, length, get_or, ltb, leb, eqb}
use Rattle.numbers.specs.Words.{word_at}
use Rattle.sheet.specs.Data.{type_of_byte}
use Rattle.sheet.specs.Expressions.{Expression}
use Rattle.sheet.specs.Kinds.{body_of, cells_of, operands_of, limit_of, names_unkept, found_of, meaning_of, kind_count}
use Rattle.sheet.specs.declared.Refusal.{Refusal}
use Rattle.sheet.specs.declared.Refusal.TheVariants.{Cut, Kind, Body, Level, TypeAsked, CellLimit}
use Rattle.sheet.specs.Outcomes.{refused_at}
use Rattle.sheet.specs.declared.Got.{Got}
use Rattle.sheet.specs.declared.Refused.{Refused}
use Rattle.std.specs.Prelude.{Result, Ok, Err}

pub data Reading (A : Type 0) : Type 0 where
  refused : Refusal → (place : ℕ) → Reading A
  got : A → (next count : ℕ) → Reading A

-- what the code answers where it got something
abbrev pub got_at : (next count : ℕ) → Result Got Refused
got_at n k = Ok (record { next = n; count = k })

-- what the code answers of a reading, by what it keeps of what is got
abbrev pub reading_answer : {A B : Type 0} → (A → (next count : ℕ) → B) → Reading A → Result B Refused
reading_answer keep (refused why place) = refused_at why place
reading_answer keep (got a n k) = Ok (keep a n k)

-- a reading without what it built
abbrev pub erased : {A : Type 0} → Reading A → Result Got Refused
erased = reading_answer (λ a n k. record { next = n; count = k })

-- a reading that is refused ends there
abbrev pub and_then : {A B : Type 0} → Reading A → (A → ℕ → ℕ → Reading B) → Reading B
and_then (refused why place) f = refused why place
and_then (got a n k) f = f a n k

abbrev pub on_read : {A : Type 0} → Result Got Refused → (Refusal → ℕ → A) → (ℕ → ℕ → A) → A
on_read (Err r) f g = f r.why r.place
on_read (Ok a) f g = g a.next a.count

-- one expression for each of the types asked, in order
unfoldable pub read_each : (ℕ → ℕ → ℕ → Reading Expression) → List ℕ → ℕ → ℕ → Reading (List Expression)
read_each read [] at c = got [] at c
read_each read (t ∷ ts) at c = and_then (read t at c) (λ e n k. and_then (read_each read ts n k) (λ es m j. got (e ∷ es) m j))

-- the expression at a place has a kind of the table and its whole body
pub record Whole (s : List ℕ) (at : ℕ) : Type 0 where
  pub kind : get_or s at 0 < kind_count
  pub ends : at + 1 + body_of (get_or s at 0) ≤ length s

-- the number that a body of one byte holds; 0 where the body is another
abbrev pub named_at : List ℕ → ℕ → ℕ
named_at s at = cond (eqb (body_of (get_or s at 0)) 1) (get_or s (at + 1) 0) 0

-- the number that the body at a kind byte holds, in one byte or in four
abbrev pub body_at : List ℕ → ℕ → ℕ
body_at s at = cond (eqb (body_of (get_or s at 0)) 4) (word_at s (at + 1)) (named_at s at)

module _ (inputs wires s : List ℕ) where
  -- 7 and 9, the last of an expression's own tests: what its body names, and its type. Behind them are n and k.
  unfoldable pub names_of : (t at n k : ℕ) → Result Got Refused
  names_of t at n k =
      cond (leb (limit_of inputs wires (get_or s at 0)) (named_at s at)) (refused_at Body at)
      (cond (names_unkept wires (get_or s at 0) (named_at s at)) (refused_at Body at)
      (cond (eqb (found_of inputs wires t (get_or s at 0) (named_at s at)) t) (got_at n k) (refused_at TypeAsked at)))

  -- 10 and 2: where c cells stand before it, a cell is left for it, and its body is whole
  unfoldable pub body_from : (t at c : ℕ) → Result Got Refused
  body_from t at c =
      cond (ltb 64 (c + cells_of (get_or s at 0))) (refused_at CellLimit at)
      (cond (ltb (length s) (at + 1 + body_of (get_or s at 0))) (refused_at Cut (length s))
      (names_of t at (at + 1 + body_of (get_or s at 0)) (c + cells_of (get_or s at 0))))

  -- an expression's own bytes, with `level` levels left and type t asked: 2, 6, 8 and then the rest
  unfoldable pub own_of : (level t at c : ℕ) → Result Got Refused
  own_of level t at c =
      cond (leb (length s) at) (refused_at Cut (length s))
      (cond (leb kind_count (get_or s at 0)) (refused_at Kind at)
      (cond (eqb level 0) (refused_at Level at)
      (body_from t at c)))

  -- an expression: its own bytes, then its operands by `read`
  abbrev pub read_by : (ℕ → ℕ → ℕ → Reading Expression) → (level t at c : ℕ) → Reading Expression
  read_by read level t at c =
      on_read (own_of level t at c) refused (λ n k.
      and_then (read_each read (operands_of (get_or s at 0) t) n k) (λ os m j.
      got (meaning_of (get_or s at 0) (type_of_byte t) (body_at s at) os) m j))

  -- an expression with `level` levels left; where none is left, its own bytes refuse it
  unfoldable pub read_expression : (level t at c : ℕ) → Reading Expression
  read_expression zero t at c = read_by (λ u a k. refused Level a) zero t at c
  read_expression (suc l) t at c = read_by (read_expression l) (suc l) t at c
