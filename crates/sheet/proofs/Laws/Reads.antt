-- What an expression reads, by its kind: what it names itself, and what those of its operands read that are read within the instant;
-- and an expression that has a type reads wires of the sheet alone.
use Rattle.std.specs.Prelude.{ℕ, zero, suc, ◌≤◌, ◌<◌, ◌≡◌, refl, List, [], ◌∷◌, ◌++◌, length, take}
use Rattle.std.proofs.Common.{sym, ap, ◌∙◌, append-nil, append_assoc, arith}
use Rattle.std.proofs.Math.Option.{some}
use Rattle.std.proofs.Math.ListN.{get_elem?}
use Rattle.sheet.specs.Data.{ValueType, boolean}
use Rattle.sheet.specs.Expressions.{Expression, constant, wire, input, last, unary, binary, conditional, switch, pre, fby, kept}
use Rattle.sheet.specs.Expressions.{Alternatives, only, either}
use Rattle.sheet.specs.Kinds.{kind_count, count_of, read_count_of, operand, meaning_of}
use Rattle.sheet.specs.Reads.{wires_read, wires_in, all_read, wires_named}
use Rattle.sheet.specs.Lists.{Every, none, ◌and◌}
use Rattle.sheet.specs.Typing.{HasType, AlternativesHaveType, unary_type, operand_type}
use Rattle.sheet.specs.Laws.Lists.{never, every-join}
use Rattle.sheet.specs.Laws.Readings.{every-kind, ◌▸◌, end}

reads_none_lem : (os : List Expression) → [] ≡ all_read (take 0 os)
unfolding all_read
reads_none_lem os = refl

reads-one : (os : List Expression) → 1 ≤ length os → wires_read (operand os 0) ≡ all_read (take 1 os)
unfolding all_read
reads-one [] l = absurd (omega arith)
reads-one (a ∷ os) l = sym (append-nil (wires_read a))

reads_two : (os : List Expression) → length os ≡ 2 → wires_read (operand os 0) ++ wires_read (operand os 1) ≡ all_read (take 2 os)
unfolding all_read
reads_two [] e = absurd (omega arith)
reads_two (a ∷ os) e = ap (λ ws. wires_read a ++ ws) (reads-one os (omega arith))

reads_three : (os : List Expression) → length os ≡ 3
    → wires_read (operand os 0) ++ (wires_read (operand os 1) ++ wires_read (operand os 2)) ≡ all_read (take 3 os)
unfolding all_read
reads_three [] e = absurd (omega arith)
reads_three (a ∷ os) e = ap (λ ws. wires_read a ++ ws) (reads_two os (omega arith))

-- those of two pairs of operands, as a machine has them
reads-pairs : (os : List Expression) → length os ≡ 4
    → (wires_read (operand os 0) ++ wires_read (operand os 1)) ++ (wires_read (operand os 2) ++ wires_read (operand os 3)) ≡ all_read (take 4 os)
unfolding all_read
reads-pairs [] e = absurd (omega arith)
reads-pairs (a ∷ []) e = absurd (omega arith)
reads-pairs (a ∷ b ∷ os) e =
    append_assoc (wires_read a) (wires_read b) _ ∙ ap (λ ws. wires_read a ++ (wires_read b ++ ws)) (reads_two os (omega arith))

pub reads-of-kind : (k : ℕ) → k < kind_count → (t : ValueType) (body : ℕ) (os : List Expression) → length os ≡ count_of k
    → wires_read (meaning_of k t body os) ≡ wires_named k body ++ all_read (take (read_count_of k) os)
unfolding wires_read meaning_of
reads-of-kind = every-kind (λ k. (t : ValueType) (body : ℕ) (os : List Expression) → length os ≡ count_of k
    → wires_read (meaning_of k t body os) ≡ wires_named k body ++ all_read (take (read_count_of k) os))
    (none ▸ none ▸ (λ t b os e. ap (λ ws. b ∷ ws) (reads_none_lem os)) ▸ none
    ▸ one ▸ one ▸ two ▸ two ▸ two ▸ two ▸ two ▸ two ▸ three ▸ three ▸ two
    ▸ delayed ▸ delayed ▸ (λ t b os e. reads-one os (omega arith)) ▸ none ▸ (λ t b. reads-pairs) ▸ end)
  where
    none : ValueType → ℕ → (os : List Expression) → length os ≡ 0 → [] ≡ all_read (take 0 os)
    none t b os e = reads_none_lem os

    one : ValueType → ℕ → (os : List Expression) → length os ≡ 1 → wires_read (operand os 0) ≡ all_read (take 1 os)
    one t b os e = reads-one os (omega arith)

    two : ValueType → ℕ → (os : List Expression) → length os ≡ 2
        → wires_read (operand os 0) ++ wires_read (operand os 1) ≡ all_read (take 2 os)
    two t b = reads_two

    three : ValueType → ℕ → (os : List Expression) → length os ≡ 3
        → wires_read (operand os 0) ++ (wires_read (operand os 1) ++ wires_read (operand os 2)) ≡ all_read (take 3 os)
    three t b = reads_three

    delayed : ValueType → ℕ → (os : List Expression) → length os ≡ 1 → [] ≡ all_read (take 0 os)
    delayed t b os e = reads_none_lem os

some_below : {A : Type 0} (xs : List A) (i : ℕ) {x : A} → get_elem? xs i ≡ some x → i < length xs
some_below [] i e = never (cc)
some_below (y ∷ xs) zero e = omega arith
some_below (y ∷ xs) (suc i) e = omega (arith, some_below xs i e)

module _ (input_types wire_types : List ValueType) where
  mutual
    unfolding HasType wires_read

    pub typed-reads : (e : Expression) (t : ValueType) → HasType input_types wire_types t e → Every (λ w. w < length wire_types) (wires_read e)
    typed-reads (constant d) t h = none
    typed-reads (wire w) t h = some_below wire_types w h and none
    typed-reads (input i) t h = none
    typed-reads (last w) t h = none
    typed-reads (unary o a) t h = typed-reads a (unary_type o) h.1
    typed-reads (binary o a b) t h = every-join (typed-reads a (operand_type o) h.1) (typed-reads b (operand_type o) h.2)
    typed-reads (conditional c a b) t h =
        every-join (typed-reads c boolean h.0) (every-join (typed-reads a t h.1) (typed-reads b t h.2))
    typed-reads (switch o cs bs) t h = every-join (typed-reads_in cs boolean h.0) (typed-reads_in bs t h.1)
    typed-reads (pre d a) t h = none
    typed-reads (fby u a b) t h = typed-reads a t h.1
    typed-reads (kept u a) t h = typed-reads a t h.1

    typed-reads_in : (xs : Alternatives) (t : ValueType) → AlternativesHaveType input_types wire_types t xs
        → Every (λ w. w < length wire_types) (wires_in xs)
    typed-reads_in (only a) t h = typed-reads a t h
    typed-reads_in (either a b) t h = every-join (typed-reads a t h.0) (typed-reads b t h.1)
