-- What the own bytes of an expression come to: an answer, the cell that it owns and the wire that it names.
use Rattle.std.specs.Prelude.{ℕ, ◌+◌, ◌*◌, ◌≤◌, ◌<◌, ◌≡◌, ◌||◌, cond, List, [], ◌∷◌, eqb, get_or}
use Rattle.wires.specs.Sets.{member}
use Rattle.sheet.specs.Kinds.{Owned, no_cell, pre-cell, fby-cell, state-cell, kind_count, owned_of, own_type_of, typed}
use Rattle.sheet.specs.Lists.{among}
use Rattle.sheet.specs.Reads.{wires_named}
use Rattle.sheet.specs.Readings.{body_from, body_at}
use Rattle.sheet_names.specs.Naming.{Naming}
use Rattle.sheet_names.specs.declared.Names.{Names}
use Rattle.sheet.specs.declared.Refusal.TheVariants.{TypeAsked}
use Rattle.sheet.specs.Outcomes.{refused_at}
use Rattle.sheet.specs.Readings.{got_at}
use Rattle.sheet.specs.declared.Got.{Got}
use Rattle.sheet.specs.declared.Refused.{Refused}
use Rattle.std.specs.Prelude.{Result, Ok, Err}

-- names by which those of some sheet's expressions are looked up
pub record Lookup (names : Names) : Type 0 where
  pub inputs : List ℕ
  pub wires : List ℕ
  pub naming : Naming inputs wires names

-- the set whose bits are m holds what the one whose bits are n does, and the wires of the list
pub record Joins (n : ℕ) (ws : List ℕ) (m : ℕ) : Type 0 where
  pub joined : (k : ℕ) → member m k ≡ (member n k || among k ws)

-- a leaf: the answer is that of its own bytes, and the wire that it names was joined to a set
pub record LeafChecks (inputs wires s : List ℕ) (t at c : ℕ) (answer : Result Got Refused) (bits joint : ℕ) : Type 0 where
  pub answers : answer ≡ body_from inputs wires s t at c
  pub reads : (n k : ℕ) → answer ≡ got_at n k → Joins bits (wires_named (get_or s at 0) (body_at s at)) joint

-- 9 behind an answer, of an expression of kind k at a place, which has not the type of something that it names
abbrev pub then_type : (k t at : ℕ) → Result Got Refused → Result Got Refused
then_type k t at (Err r) = Err r
then_type k t at (Ok a) = cond (eqb (typed t (own_type_of k)) t) (Ok a) (refused_at TypeAsked at)

-- a kind with operands: no leaf, and not kind 18, which gives the cell of a kept wire
pub record HasOperands (k : ℕ) : Type 0 where
  pub known : k < kind_count
  pub no-leaf : 4 ≤ k
  pub not_last : k ≡ 18 → ⊥

-- four times the place of the owner, and the form: the type byte that is asked, and 2 more where the cell may be empty; a machine's cell is a
-- Boolean's, whatever is asked of the machine
abbrev owned_entries : Owned → (t at : ℕ) → List ℕ
owned_entries no_cell t at = []
owned_entries pre-cell t at = (4 * at + t) ∷ []
owned_entries fby-cell t at = (4 * at + t + 2) ∷ []
owned_entries state-cell t at = (4 * at) ∷ []

-- the entry of the cell that an expression of kind k at a place owns, if it owns one, where the type byte t is asked
abbrev pub own_entries : (k t at : ℕ) → List ℕ
own_entries k = owned_entries (owned_of k)
