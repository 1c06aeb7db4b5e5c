-- `put_value` meets its contract.
use Prim.Native.Nat.{ℕ}
use mathlib.Core.Path.{◌≡◌, refl}
use mathlib.Core.Bool.{◌||◌}
use mathlib.Core.List.{List}
use lib.Dec.{eqb}
use lib.ListN.{set}
use Rattle.wires.specs.Sets.{member}
use Rattle.sheet.specs.Data.{word_of}
use Rattle.sheet.specs.declared.Datum.{Datum}
use Rattle.kernel.specs.declared.Value.{Value}
use Rattle.kernel.specs.declared.Value.TheVariants.{Known}
use Rattle.rounds.specs.Running.{Put, left, put}
use Rattle.rounds.proofs.put_value.Goals as goal

known-put : {w bits after word : ℕ} {words : List ℕ} {v : Value} {d : Datum} → v ≡ Known d
    → ((k : ℕ) → member after k ≡ (member bits k || eqb k w)) → word ≡ word_of d → Put w bits words v after (set words w word)
known-put is m e = rw (is, e) (put m refl)

pub returns-in-Unknown : goal.returns-in-Unknown
returns-in-Unknown c = rw c.in-Unknown.is (left refl refl)

pub returns-in-Known : goal.returns-in-Known
returns-in-Known c = known-put c.in-Known.is c.with.ensures c.word_of.ensures
