-- The names of a sheet give the limits and the types of what its leaves name, a row of the table of kinds at a time, and the kept
-- wires.
use Prim.Native.Nat.{ℕ, ◌/◌, ◌%◌, ◌^◌, ◌≤◌, ◌<◌}
use mathlib.Core.Path.{◌≡◌, refl, sym, ap, ◌∙◌}
use mathlib.Core.Bool.{Bool, true, false, ◌&&◌}
use mathlib.Core.List.{List, [], ◌∷◌}
use native.Mathlib.Nat.{zero-div}
use native.Mathlib.Omega.{arith}
use lib.Dec.{eqb, ltb, leb}
use lib.ListN.{length, get_or, get_or-eq_default}
use borrow.Author.Tests.{eqb-true, eqb-false, ltb-false, lt-leb}
use Rattle.wires.specs.Sets.{member}
use Rattle.sheet.specs.Data.{plain_byte, is_kept}
use Rattle.sheet.specs.Kinds.{limit_of, found_of}
use Rattle.sheet.specs.Laws.Readings.{kinds-between, ◌▸◌, end}
use Rattle.sheet.proofs.Table.{passes, passes_at}
use Rattle.sheet_names.specs.declared.Names.{Names}
use Rattle.sheet_names.specs.Naming.{name_in, limit_in, type_in, kept_in, Sorted, Naming}

-- every bit of the largest number of 64 bits is 1
every-bit : (i : ℕ) → i < 64 → 18446744073709551615 / 2 ^ i % 2 ≡ 1
unfolding passes
every-bit i l = eqb-true _ _ (passes_at (λ i. eqb (18446744073709551615 / 2 ^ i % 2) 1) 64 refl i l)

same_bit : (a b : ℕ) → a < 2 → b < 2 → eqb a 1 ≡ eqb b 1 → a ≡ b
same_bit a b small-a small_b same = go (eqb b 1) refl
  where
    go : (one : Bool) → eqb b 1 ≡ one → a ≡ b
    go true e = eqb-true a 1 (same ∙ e) ∙ sym (eqb-true b 1 e)
    go false e = let not_a = eqb-false a 1 (same ∙ e) in let not-b = eqb-false b 1 e in omega arith

bit_is : {types : List ℕ} {bits keeps count : ℕ} → length types ≤ 64 → Sorted types bits keeps count → (i : ℕ) → i < length types
    → bits / 2 ^ (i % 64) % 2 ≡ plain_byte (get_or types i 0)
unfolding member
bit_is {types} {bits} few sorted i l =
    let e : i % 64 ≡ i = omega arith in
    rw e (same_bit (bits / 2 ^ i % 2) (plain_byte (get_or types i 0)) (omega arith) (omega arith) (sorted.numbers i))

module _ {inputs wires : List ℕ} {inputBits inputKeeps input_count wireBits wireKeeps wire_count : ℕ}
    (few_inputs : length inputs ≤ 64) (plain : (i : ℕ) → get_or inputs i 0 < 2) (few : length wires ≤ 64)
    (of-inputs : Sorted inputs inputBits inputKeeps input_count) (of-wires : Sorted wires wireBits wireKeeps wire_count) where
  abbrev names : Names
  names =
      record {
        numbers = 0 ∷ 18446744073709551615 ∷ wireBits ∷ inputBits ∷ [];
        limits = 2 ∷ 256 ∷ length wires ∷ length inputs ∷ [];
        kept = record { bits = wireKeeps };
        ahead = wire_count;
      }

  abbrev LimitGiven : ℕ → Type 0
  LimitGiven k = (byte : ℕ) → byte < 256 → leb (limit_in names k) byte ≡ leb (limit_of inputs wires k) (name_in k byte)

  limit_given : (k : ℕ) → k < 4 → LimitGiven k
  limit_given k l = kinds-between LimitGiven {low = 0}
      ((λ byte l. refl) ▸ (λ byte l. lt-leb 256 byte l) ▸ (λ byte l. refl) ▸ (λ byte l. refl) ▸ end) k (omega arith) (omega arith)

  abbrev TypeGiven : ℕ → Type 0
  TypeGiven k = (byte t : ℕ) → name_in k byte < limit_of inputs wires k
      → eqb (type_in names k byte) t ≡ eqb (found_of inputs wires t k (name_in k byte)) t

  -- the type byte of an input is that of its type
  input-bit : (i : ℕ) → i < length inputs → inputBits / 2 ^ (i % 64) % 2 ≡ get_or inputs i 0
  input-bit i l = let same : plain_byte (get_or inputs i 0) ≡ get_or inputs i 0 = omega (arith, plain i) in bit_is few_inputs of-inputs i l ∙ same

  type-given : (k : ℕ) → k < 4 → TypeGiven k
  type-given k l = kinds-between TypeGiven {low = 0}
      ((λ byte t l. ap (λ bits. eqb (bits % 2) t) (zero-div (2 ^ (byte % 64))))
      ▸ (λ byte t l. ap (λ bit. eqb bit t) (every-bit (byte % 64) (omega arith)))
      ▸ (λ byte t l. ap (λ bit. eqb bit t) (bit_is few of-wires byte l))
      ▸ (λ byte t l. ap (λ bit. eqb bit t) (input-bit byte l))
      ▸ end) k (omega arith) (omega arith)

  kept-given : (byte : ℕ) → kept_in names byte ≡ is_kept (get_or wires byte 0)
  kept-given byte = go (ltb byte 64) refl
    where
      go : (b : Bool) → ltb byte 64 ≡ b → (b && member wireKeeps byte) ≡ is_kept (get_or wires byte 0)
      go true e = of-wires.kept byte
      go false e = ap is_kept (sym (get_or-eq_default wires 0 {n = byte} (omega (arith, ltb-false byte 64 e))))

  pub names-are : Naming inputs wires names
  names-are = record {
    few = few;
    limits = λ k byte l small. limit_given k l byte small;
    types = λ k byte t l small within type. type-given k l byte t within;
    keeps = λ byte small. kept-given byte;
  }

-- no name is looked up in what is ahead
pub ahead-free : {inputs wires : List ℕ} (old : Names) (x : ℕ) → Naming inputs wires old
    → Naming inputs wires (record { numbers = old.numbers; limits = old.limits; kept = old.kept; ahead = x })
ahead-free old x n = record { few = n.few; limits = n.limits; types = n.types; keeps = n.keeps }
