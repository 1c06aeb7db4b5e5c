-- The rows of the table that leaves, expressions with operands and owners of cells have, and what their own bytes show.
use Prim.Native.Nat.{ℕ, ◌+◌, ◌-◌, ◌≤◌, ◌<◌}
use mathlib.Core.Path.{◌≡◌, refl, sym, ◌∙◌}
use mathlib.Core.Bool.{Bool, true, false, cond}
use mathlib.Core.List.{List, [], ◌∷◌}
use native.Mathlib.Omega.{arith}
use lib.Dec.{eqb, leb, ltb}
use lib.ListN.{length, get_or}
use borrow.Author.Tests.{ltb-true, ltb-false, le-ltb, lt-ltb, lt-leb, le-leb, leb-false, eqb-true, eq-eqb, ne_eqb}
use Rattle.sheet.specs.Kinds.{no_cell, pre-cell, owned_of, body_of, cells_of, own_type_of, typed, limit_of, names_unkept, found_of}
use Rattle.sheet.specs.Reads.{wires_named}
use Rattle.sheet.specs.Readings.{named_at, body_at, names_of, body_from}
use Rattle.sheet.specs.Laws.Readings.{not_good, Rows, kinds-between, ◌▸◌, end}
use Rattle.sheet.specs.declared.Refusal.{Refusal}
use Rattle.sheet.specs.declared.Refusal.TheVariants.{Cut, Body, TypeAsked, CellLimit}
use Rattle.sheet_names.specs.Naming.{limit_in, type_in, Naming}
use Rattle.sheet_names.specs.declared.Names.{Names}
use Rattle.sheet_own.specs.Own.{Joins, LeafChecks, then_type, HasOperands}
use Rattle.sheet.specs.Outcomes.{refused_at}
use Rattle.sheet.specs.Readings.{got_at}
use Rattle.sheet.specs.declared.Got.{Got}
use Rattle.sheet.specs.declared.Refused.{Refused}
use Rattle.std.specs.Prelude.{Result}

-- a leaf owns no cell
pub leaf-owned : (k : ℕ) → k < 4 → owned_of k ≡ no_cell
leaf-owned k l = kinds-between (λ k. owned_of k ≡ no_cell) {low = 0} (refl ▸ refl ▸ refl ▸ refl ▸ end) k (omega arith) l

-- and may name any wire
leaf_unkept : (wires : List ℕ) (n k : ℕ) → k < 4 → names_unkept wires k n ≡ false
leaf_unkept wires n k l =
    kinds-between (λ k. names_unkept wires k n ≡ false) {low = 0} (refl ▸ refl ▸ refl ▸ refl ▸ end) k (omega arith) l

-- what holds of each kind from `low` to 17, and of 19, holds of every kind from `low` on that has operands
nodes_from : (P : ℕ → Type 0) (low : ℕ) → Rows P low (18 - low) → P 19 → (k : ℕ) → low ≤ k → HasOperands k → P k
nodes_from P low rows machine k above node = go (ltb k 18) refl
  where
    go : (b : Bool) → ltb k 18 ≡ b → P k
    go true e = let below = ltb-true k 18 e in kinds-between P rows k above (omega arith)
    go false e = let is : k ≡ 19 = omega (arith, ltb-false k 18 e, node.known, node.not_last) in rw is machine

-- an expression with operands names nothing: it has the type of the table, and a body of one byte stays below the two Booleans
pub node_type : (inputs wires : List ℕ) (t n k : ℕ) → HasOperands k → found_of inputs wires t k n ≡ typed t (own_type_of k)
node_type inputs wires t n k node = nodes_from (λ k. found_of inputs wires t k n ≡ typed t (own_type_of k)) 4
    (refl ▸ refl ▸ refl ▸ refl ▸ refl ▸ refl ▸ refl ▸ refl ▸ refl ▸ refl ▸ refl ▸ refl ▸ refl ▸ refl ▸ end) refl k node.no-leaf node

node_limit : (inputs wires : List ℕ) (k : ℕ) → HasOperands k → limit_of inputs wires k ≡ 2
node_limit inputs wires k node = nodes_from (λ k. limit_of inputs wires k ≡ 2) 4
    (refl ▸ refl ▸ refl ▸ refl ▸ refl ▸ refl ▸ refl ▸ refl ▸ refl ▸ refl ▸ refl ▸ refl ▸ refl ▸ refl ▸ end) refl k node.no-leaf node

node_unkept : (wires : List ℕ) (n k : ℕ) → HasOperands k → names_unkept wires k n ≡ false
node_unkept wires n k node = nodes_from (λ k. names_unkept wires k n ≡ false) 4
    (refl ▸ refl ▸ refl ▸ refl ▸ refl ▸ refl ▸ refl ▸ refl ▸ refl ▸ refl ▸ refl ▸ refl ▸ refl ▸ refl ▸ end) refl k node.no-leaf node

plain_body : (k : ℕ) → 4 ≤ k → k < 15 → body_of k ≡ 0
plain_body = kinds-between (λ k. body_of k ≡ 0)
    (refl ▸ refl ▸ refl ▸ refl ▸ refl ▸ refl ▸ refl ▸ refl ▸ refl ▸ refl ▸ refl ▸ end)

pub plain-owned : (k : ℕ) → 4 ≤ k → k < 15 → owned_of k ≡ no_cell
plain-owned = kinds-between (λ k. owned_of k ≡ no_cell)
    (refl ▸ refl ▸ refl ▸ refl ▸ refl ▸ refl ▸ refl ▸ refl ▸ refl ▸ refl ▸ refl ▸ end)

pub owner-cells : (k : ℕ) → 15 ≤ k → HasOperands k → cells_of k ≡ 1
owner-cells = nodes_from (λ k. cells_of k ≡ 1) 15 (refl ▸ refl ▸ refl ▸ end) refl

-- an owner that is neither an fby nor a machine is a pre
pub pre-owned : (k : ℕ) → 15 ≤ k → HasOperands k → (k ≡ 17 → ⊥) → (k ≡ 19 → ⊥) → owned_of k ≡ pre-cell
pre-owned k owner node fby machine =
    kinds-between (λ k. owned_of k ≡ pre-cell) (refl ▸ refl ▸ end) k owner (omega (arith, node.known, node.not_last))

-- 7 and 9 of an expression with operands
names_node : (inputs wires s : List ℕ) (t at n k : ℕ) → HasOperands (get_or s at 0) → named_at s at < 2
    → names_of inputs wires s t at n k ≡ then_type (get_or s at 0) t at (got_at n k)
unfolding names_of
names_node inputs wires s t at n k node fine =
    rw (
      node_limit inputs wires (get_or s at 0) node,
      lt-leb 2 (named_at s at) fine,
      node_unkept wires (named_at s at) (get_or s at 0) node,
      node_type inputs wires t (named_at s at) (get_or s at 0) node,
    )

-- the own bytes of one that owns no cell: nothing but 9 is left
pub plain-own : (inputs wires s : List ℕ) (t at c : ℕ) → at < length s → HasOperands (get_or s at 0) → get_or s at 0 < 15 → c ≤ 64
    → body_from inputs wires s t at c ≡ then_type (get_or s at 0) t at (got_at (at + 1) c)
unfolding body_from
plain-own inputs wires s t at c byte node plain room =
    let kind = get_or s at 0 in
    let owned = plain-owned kind node.no-leaf plain in
    let body = plain_body kind node.no-leaf plain in
    let count : c + 0 ≡ c = omega arith in
    let past : at + 1 + 0 ≡ at + 1 = omega arith in
    let fine : named_at s at < 2 = rw body (omega arith) in
    rw (owned, body, count, past, le-ltb 64 c room, le-ltb (length s) (at + 1) (omega arith))
    (names_node inputs wires s t at (at + 1) c node fine)

-- the own bytes of an owner, test by test
module _ (inputs wires s : List ℕ) (t at c : ℕ) (byte : at < length s) (owner : 15 ≤ get_or s at 0)
    (node : HasOperands (get_or s at 0)) where
  abbrev kind : ℕ
  kind = get_or s at 0

  one : cells_of kind ≡ 1
  one = owner-cells kind owner node

  pub owner-full : 64 ≤ c → refused_at CellLimit at ≡ body_from inputs wires s t at c
  unfolding body_from
  owner-full full = rw (one, lt-ltb 64 (c + 1) (omega arith))

  pub owner-cut : c < 64 → length s ≤ at + body_of kind → refused_at Cut (length s) ≡ body_from inputs wires s t at c
  unfolding body_from
  owner-cut room cut = rw (one, le-ltb 64 (c + 1) (omega arith), lt-ltb (length s) (at + 1 + body_of kind) (omega arith))

  rest : c < 64 → at + body_of kind < length s
      → body_from inputs wires s t at c ≡ names_of inputs wires s t at (at + 1 + body_of kind) (c + 1)
  unfolding body_from
  rest room whole = rw (one, le-ltb 64 (c + 1) (omega arith), le-ltb (length s) (at + 1 + body_of kind) (omega arith))

  pub owner_wrong : c < 64 → at + body_of kind < length s → 1 < named_at s at → refused_at Body at ≡ body_from inputs wires s t at c
  unfolding names_of
  owner_wrong room whole wrong =
      rw (rest room whole, node_limit inputs wires kind node, le-leb 2 (named_at s at) wrong)

  pub owner_good : c < 64 → at + body_of kind < length s → named_at s at < 2
      → then_type kind t at (got_at (at + 1 + body_of kind) (c + 1)) ≡ body_from inputs wires s t at c
  owner_good room whole fine =
      rw (rest room whole) (sym (names_node inputs wires s t at (at + 1 + body_of kind) (c + 1) node fine))

-- the own bytes of a leaf, test by test
module _ (inputs wires : List ℕ) (names : Names) (s : List ℕ) (t at c : ℕ) (naming : Naming inputs wires names) (byte : at < length s) (leaf : get_or s at 0 < 4)
    (asked : t < 2) (room : c ≤ 64) (small : get_or s (at + 1) 0 < 256) where
  abbrev leaf-kind : ℕ
  leaf-kind = get_or s at 0

  leaf-body : body_from inputs wires s t at c ≡ cond (ltb (length s) (at + 1 + body_of leaf-kind)) (refused_at Cut (length s))
      (names_of inputs wires s t at (at + 1 + body_of leaf-kind) c)
  unfolding body_from
  leaf-body = let count : c + 0 ≡ c = omega arith in rw (leaf-owned leaf-kind leaf, count, le-ltb 64 c room)

  pub leaf-cut : length s ≤ at + body_of leaf-kind → refused_at Cut (length s) ≡ body_from inputs wires s t at c
  leaf-cut cut = rw (leaf-body, lt-ltb (length s) (at + 1 + body_of leaf-kind) (omega arith))

  leaf-names : at + body_of leaf-kind < length s
      → body_from inputs wires s t at c ≡ names_of inputs wires s t at (at + 1 + body_of leaf-kind) c
  leaf-names whole = rw (leaf-body, le-ltb (length s) (at + 1 + body_of leaf-kind) (omega arith))

  pub leaf_wrong : at + body_of leaf-kind < length s → limit_in names leaf-kind ≤ get_or s (at + 1) 0
      → refused_at Body at ≡ body_from inputs wires s t at c
  unfolding names_of
  leaf_wrong whole wrong =
      rw (
        leaf-names whole,
        ← (naming.limits leaf-kind (get_or s (at + 1) 0) leaf small),
        le-leb (limit_in names leaf-kind) (get_or s (at + 1) 0) wrong,
      )

  -- where the limit is not reached
  module _ (whole : at + body_of leaf-kind < length s) (below : get_or s (at + 1) 0 < limit_in names leaf-kind) where
    limited : leb (limit_of inputs wires leaf-kind) (named_at s at) ≡ false
    limited = sym (naming.limits leaf-kind (get_or s (at + 1) 0) leaf small) ∙ lt-leb (limit_in names leaf-kind) (get_or s (at + 1) 0) below

    unkept : names_unkept wires leaf-kind (named_at s at) ≡ false
    unkept = leaf_unkept wires (named_at s at) leaf-kind leaf

    typed_as : eqb (type_in names leaf-kind (get_or s (at + 1) 0)) t ≡ eqb (found_of inputs wires t leaf-kind (named_at s at)) t
    typed_as =
        naming.types leaf-kind (get_or s (at + 1) 0) t leaf small (leb-false (limit_of inputs wires leaf-kind) (named_at s at) limited) asked

    pub leaf-other : (type_in names leaf-kind (get_or s (at + 1) 0) ≡ t → ⊥) → refused_at TypeAsked at ≡ body_from inputs wires s t at c
    unfolding names_of
    leaf-other other =
        rw (leaf-names whole, limited, unkept, ← typed_as, ne_eqb (type_in names leaf-kind (get_or s (at + 1) 0)) t other)

    pub leaf_good : type_in names leaf-kind (get_or s (at + 1) 0) ≡ t → got_at (at + 1 + body_of leaf-kind) c ≡ body_from inputs wires s t at c
    unfolding names_of
    leaf_good same =
        rw (leaf-names whole, limited, unkept, ← typed_as, eq-eqb (type_in names leaf-kind (get_or s (at + 1) 0)) t same)

    -- a wire that is named is one of at most 64
    pub wire-below : leaf-kind ≡ 2 → get_or s (at + 1) 0 < 64
    wire-below e =
        let below : get_or s (at + 1) 0 < length wires = rw e at (leb-false (limit_of inputs wires leaf-kind) (named_at s at) limited) in
        omega (arith, naming.few)

-- the byte behind kind 2 is its body
pub joins-named : (s : List ℕ) (at : ℕ) {bits joint : ℕ} → Joins bits (wires_named (get_or s at 0) (get_or s (at + 1) 0)) joint
    → Joins bits (wires_named (get_or s at 0) (body_at s at)) joint
joins-named s at {bits} {joint} h = go (eqb (get_or s at 0) 2) refl h
  where
    go : (b : Bool) → eqb (get_or s at 0) 2 ≡ b → Joins bits (cond b (get_or s (at + 1) 0 ∷ []) []) joint
        → Joins bits (cond b (body_at s at ∷ []) []) joint
    go true e h = rw (eqb-true (get_or s at 0) 2 e) h
    go false e h = h

-- a leaf has a byte of body at least
pub leaf-long : (k : ℕ) → k < 4 → 1 ≤ body_of k
leaf-long k l = kinds-between (λ k. 1 ≤ body_of k) {low = 0} (omega arith ▸ omega arith ▸ omega arith ▸ omega arith ▸ end) k (omega arith) l

-- nothing is read by a leaf that is refused
pub leaf-refused : {inputs wires s : List ℕ} {t at c bits joint place : ℕ} {why : Refusal} {answer : Result Got Refused}
    → refused_at why place ≡ body_from inputs wires s t at c → answer ≡ refused_at why place → LeafChecks inputs wires s t at c answer bits joint
leaf-refused e a = record { answers = a ∙ e; reads = λ n k q. not_good (sym a ∙ q) }
