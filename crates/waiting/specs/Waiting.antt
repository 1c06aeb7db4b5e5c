-- What the functions of this crate find of an expression over the sheet's bytes: the unknown wires that it waits for, and the operands
-- from which these come.
use Rattle.std.specs.Prelude.{ℕ, suc, ◌+◌, ◌-◌, ◌≡◌, Bool, ◌&&◌, List, [], ◌∷◌, ◌++◌}
use Rattle.wires.specs.Sets.{member}
use Rattle.sheet.specs.Lists.{among}
use Rattle.sheet.specs.Expressions.{Expression, cell_forms, cell_count}
use Rattle.sheet.specs.Readings.{got, read_expression}
use Rattle.sheet_walk.specs.Skips.{Readable}
use Rattle.kernel.specs.Values.{is_unknown}
use Rattle.kernel.specs.Order.{value_at}
use Rattle.kernel.specs.Instant.{Environment}
use Rattle.kernel.specs.Instants.{under}
use Rattle.kernel.specs.Waits.{wires_awaited, waits_for}
use Rattle.kernel.specs.declared.Value.TheVariants.{Unknown}
use Rattle.sheet_walk.specs.declared.Place.{Place}
use Rattle.expression.specs.Places.{CellsStand, Placement}
use Rattle.expression.specs.declared.Basis.{Basis}
use Rattle.rounds.specs.Running.{RunningUnder}
use Rattle.waiting.specs.declared.count.Counted.{Counted}
use Rattle.waiting.specs.declared.awaited.Waited.{Waited}

-- what several expressions wait for, one after the other, their cells from number k on
unfoldable pub all_awaited : Environment → Bool → List Expression → ℕ → List ℕ
all_awaited now fresh [] k = []
all_awaited now fresh (e ∷ es) k = wires_awaited now fresh e k ++ all_awaited now fresh es (k + cell_count e)

-- so many expressions one behind the other, from a place and a number of cells on to others: for the walk past them
pub data Behind (sheet : List ℕ) : (count a k n j : ℕ) → Type 0 where
  passed : {a k : ℕ} → Behind sheet 0 a k a k
  past : {count a k n j : ℕ} (q : Readable sheet a k) → Behind sheet count q.next q.count n j → Behind sheet (suc count) a k n j

module _ {sheet memory words : List ℕ} {bits level asked at cell : ℕ} (p : Placement sheet memory words bits level asked at cell) where
  -- so many of its operands, to be looked at
  pub data Run : (count a k n j : ℕ) → List Expression → Type 0 where
    done : {a k : ℕ} → Run 0 a k a k []
    more : (t : ℕ) {count a k m i n j : ℕ} {e : Expression} {es : List Expression}
        → read_expression p.inputs p.wires sheet (level - 1) t a k ≡ got e m i → CellsStand memory p.now.memory k (cell_forms e)
        → Run count m i n j es → Run (suc count) a k n j (e ∷ es)

  -- the operands that count, for the wires that are unknown: of a known condition nothing does; the rest stands behind them
  pub record Counts (fresh : Bool) (r : Counted) : Type 0 where
    pub operands : List Expression
    pub end : ℕ
    pub following : ℕ
    pub run : Run r.operands r.here.at r.here.cell end following operands
    pub rest : Behind sheet r.rest end following p.next p.count
    pub same : (w : ℕ) → value_at p.now.wires w ≡ Unknown
        → among w (wires_awaited p.now fresh p.tree cell) ≡ among w (all_awaited p.now r.fresh operands r.here.cell)

  -- just the unknown wires that it waits for, where it ends, and the number of the first cell past its own
  pub record Awaits (fresh : Bool) (r : Waited) : Type 0 where
    pub same : (w : ℕ)
        → member r.wires.bits w ≡ (is_unknown (value_at p.now.wires w) && among w (wires_awaited p.now fresh p.tree cell))
    pub next : r.end.at ≡ p.next
    pub count : r.end.cell ≡ p.count

-- of every placement there
module _ (b : Basis) (level : ℕ) (here : Place) (fresh : Bool) where
  abbrev pub CountsAt : Counted → Type 0
  CountsAt r =
      (asked : ℕ) (p : Placement b.sheet.now b.memory.now b.words.now b.known.bits level asked here.at here.cell) → Counts p fresh r

  abbrev pub AwaitsAt : Waited → Type 0
  AwaitsAt r =
      (asked : ℕ) (p : Placement b.sheet.now b.memory.now b.words.now b.known.bits level asked here.at here.cell) → Awaits p fresh r

-- which wire waits for which under the values of what runs
abbrev pub waits_in : {s memory row types places firsts words : List ℕ} {bits : ℕ}
    → RunningUnder s memory row types places firsts bits words → ℕ → ℕ → Bool
waits_in u = let given = u.running.given in waits_for (under given.sheet given.inputs given.memory u.values) given.sheet.expressions
