-- The bytes of the joined sheet: counts added, types, outputs and expressions of the first and then those of the second, with numbers shifted.
use Rattle.std.specs.Prelude.{ℕ, zero, suc, ◌+◌, cond, List, [], ◌∷◌, ◌++◌, length, get_or, take, drop, eqb}
use Rattle.sheet.specs.Kinds.{body_of, own_type_of, names_wire, named-input}
use Rattle.join.specs.Joined.{shifted_numbers}

module _ (wires inputs : ℕ) where
  -- by how much the body behind a kind byte is raised: a wire's number by `wires`, also where kind 18 names it, an input's by `inputs`, and
  -- all else by nothing
  abbrev pub raise_of : (kind : ℕ) → ℕ
  raise_of k = cond (names_wire k) wires (cond (eqb (own_type_of k) named-input) inputs 0)

  -- the bytes of expressions, one after the other; first come `left` bytes of a body, each of which is raised
  unfoldable pub shifted_bytes : (left raise : ℕ) → List ℕ → List ℕ
  shifted_bytes left raise [] = []
  shifted_bytes zero raise (k ∷ s) = k ∷ shifted_bytes (body_of k) (raise_of k) s
  shifted_bytes (suc left) raise (b ∷ s) = (raise + b) ∷ shifted_bytes left raise s

-- the bytes of a sheet by sections, the counts left out
pub record Sections : Type 0 where
  pub inputs : List ℕ
  pub wires : List ℕ
  pub outputs : List ℕ
  pub expressions : List ℕ

-- a count, then so many bytes
abbrev pub counted : List ℕ → List ℕ
counted bytes = length bytes ∷ bytes

abbrev pub sheet_bytes : Sections → List ℕ
sheet_bytes p = counted p.inputs ++ (counted p.wires ++ (counted p.outputs ++ p.expressions))

-- the section that a count begins, and what comes behind it
abbrev pub section : List ℕ → List ℕ
section s = take (get_or s 0 0) (drop 1 s)

abbrev pub behind : List ℕ → List ℕ
behind s = drop (suc (get_or s 0 0)) s

unfoldable pub sections_of : List ℕ → Sections
sections_of s =
    record {
      inputs = section s;
      wires = section (behind s);
      outputs = section (behind (behind s));
      expressions = behind (behind (behind s));
    }

abbrev pub joined_sections : (first second : Sections) → Sections
joined_sections first second =
    let wires = length first.wires in
    let inputs = length first.inputs in
    record {
      inputs = first.inputs ++ second.inputs;
      wires = first.wires ++ second.wires;
      outputs = first.outputs ++ shifted_numbers wires second.outputs;
      expressions = first.expressions ++ shifted_bytes wires inputs 0 0 second.expressions;
    }

-- the joined bytes of two sheets
unfoldable pub joined_bytes : (s t : List ℕ) → List ℕ
joined_bytes s t = sheet_bytes (joined_sections (sections_of s) (sections_of t))
