-- Worked cases of the maker as one table: the sheet's bytes, the answer as one number, which is the greatest depth or a refusal, and the
-- list that the call leaves.
use Rattle.std.specs.Prelude.{ℕ, ◌+◌, ◌*◌, Bool, ◌&&◌, List, [], ◌∷◌, ◌++◌, eqb, length}
use Rattle.sheet.specs.Examples.{quarter_bytes}
use Rattle.kernel.specs.Cases.{same_bytes, rubbish, chain_sheet, crossed_sheet}
use Rattle.maker.specs.Making.{maker_call, packed_made}

pub record Case : Type 0 where
  pub sheet : List ℕ
  pub lent : ℕ
  pub packed : ℕ
  pub list : List ℕ

-- the number and the list
unfoldable pub holds : Case → Bool
holds c =
    let call = maker_call c.sheet (rubbish c.lent) in
    eqb (packed_made call.answer) c.packed && same_bytes call.list c.list

abbrev finds : (sheet list : List ℕ) (depth : ℕ) → Case
finds sheet list depth = record { sheet = sheet; lent = length list; packed = depth; list = list }

-- after a refusal the list holds what it held
abbrev refuses : (sheet : List ℕ) (lent number place : ℕ) → Case
refuses sheet lent number place =
    record { sheet = sheet; lent = lent; packed = number * 65536 + place; list = rubbish lent }

-- three number wires, with these expressions
abbrev three : List ℕ → List ℕ
three expressions = 0 ∷ 3 ∷ 1 ∷ 1 ∷ 1 ∷ 1 ∷ 0 ∷ expressions

abbrev five : List ℕ
five = 1 ∷ 5 ∷ 0 ∷ 0 ∷ 0 ∷ []

unfoldable pub table : List Case
table =
    -- A: wire 1 reads wire 0 an instant before, and not within the instant
    finds quarter_bytes (0 ∷ 1 ∷ []) 1
    -- E
    ∷ finds chain_sheet (2 ∷ 1 ∷ 0 ∷ []) 3
    -- at every position the search begins again at wire 0: wire 0 is wire 1
    ∷ finds (three (2 ∷ 1 ∷ (five ++ five))) (1 ∷ 0 ∷ 2 ∷ []) 2
    -- an fby's right side is no read within the instant: wire 0 is 5 fby wire 0
    ∷ finds (three (17 ∷ (five ++ (2 ∷ 0 ∷ (five ++ five))))) (0 ∷ 1 ∷ 2 ∷ []) 1
    -- the deepest wire is not the last placed: wire 1 is wire 0, and nothing reads wire 2
    ∷ finds (three (five ++ (2 ∷ 0 ∷ five))) (0 ∷ 1 ∷ 2 ∷ []) 2
    -- K7: kind 18 is no read: wire 0 is what wire 1 was, which is kept and is wire 0
    ∷ finds (0 ∷ 2 ∷ 1 ∷ 3 ∷ 1 ∷ 0 ∷ 18 ∷ 1 ∷ 2 ∷ 0 ∷ []) (0 ∷ 1 ∷ []) 2
    -- K8: a machine reads all its operands: wires 1 and 2 in its bodies; and wire 0 itself, in a body that never runs
    ∷ finds (three (19 ∷ 0 ∷ 0 ∷ 0 ∷ 0 ∷ 2 ∷ 1 ∷ 2 ∷ 2 ∷ (five ++ five))) (1 ∷ 2 ∷ 0 ∷ []) 2
    ∷ refuses (three (19 ∷ 0 ∷ 0 ∷ 0 ∷ 0 ∷ (five ++ (2 ∷ 0 ∷ (five ++ five))))) 3 21 0
    -- wire 0 is wire 1, wire 1 is wire 1: the place is the wire that reaches itself, not the one that waits for it
    ∷ refuses (three (2 ∷ 1 ∷ 2 ∷ 1 ∷ five)) 3 21 1
    -- a loop of wires 1 and 2, which wire 0 does not reach
    ∷ refuses (three (five ++ (2 ∷ 2 ∷ 2 ∷ 1 ∷ []))) 3 21 1
    -- 17 comes before 21, and 1 to 11 before 17
    ∷ refuses (three (2 ∷ 1 ∷ 2 ∷ 1 ∷ five)) 2 17 0
    ∷ refuses (three (2 ∷ 1 ∷ 2 ∷ 3 ∷ five)) 2 7 9
    -- L
    ∷ refuses (crossed_sheet 13) 5 21 0
    ∷ []
