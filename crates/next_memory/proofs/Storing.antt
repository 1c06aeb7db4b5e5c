-- How the storing of a memory goes on: the wires below w have stored their cells, and the cells of those that are left still stand.
use Prim.Native.Nat.{ℕ, zero, suc, ◌+◌, ◌-◌, ◌*◌, ◌≤◌, ◌<◌, zero-le}
use mathlib.Core.Path.{◌≡◌, refl, sym, ap, ◌∙◌}
use mathlib.Core.Bool.{Bool, true, false, cond}
use mathlib.Core.List.{List, [], ◌∷◌, ◌++◌}
use native.Mathlib.Numerals.{add-one}
use native.Mathlib.Omega.{arith}
use lib.ListN.{length, get_or, take, drop, length-append}
use lib.Seq.{sets, length-sets, drop-cons, drop-length, take-suc}
use Rattle.sheet.specs.Expressions.{Expression, constant, cell_forms, cell_count}
use Rattle.sheet.specs.Data.{plain_byte, is_kept, wire_type, datum_of}
use Rattle.sheet.specs.Sheets.{forms_of, expression_at, cells_before, own_cells}
use Rattle.sheet.specs.Memory.{memory_bytes}
use Rattle.sheet.specs.Laws.Readings.{forms_length, expression_extent}
use Rattle.sheet.proofs.Laws.Wires.{tree-count}
use Rattle.sheet.proofs.Laws.Memory.{pairwise-length, memory_length}
use Rattle.sheet.specs.declared.Cell.{Cell}
use Rattle.sheet.specs.declared.Cell.TheVariants.{Started}
use Rattle.sheet.specs.declared.Datum.TheVariants.{Boolean}
use Rattle.numbers.specs.Laws.{sets-all, sets-append}
use Rattle.sheet.specs.Readings.{got, read_expression}
use Rattle.sheet_walk.specs.declared.Place.{Place}
use Rattle.sheet_expressions.proofs.Drawing.{forms_snoc}
use Rattle.kernel.specs.Values.{datum_in, IsKnown}
use Rattle.kernel.specs.Order.{value_at}
use Rattle.kernel.specs.Systems.{Full, Solution}
use Rattle.kernel.specs.Instant.{Environment, value, stored}
use Rattle.kernel.specs.Instants.{stored_cells, under, next_memory}
use Rattle.kernel.proofs.Laws.Instants.{round-at}
use Rattle.kernel.proofs.Laws.Kept.{own_stored, tree-stored}
use Rattle.kernel.specs.declared.Value.{Value}
use Rattle.kernel.specs.declared.Value.TheVariants.{Known}
use Rattle.expression.specs.Places.{CellsStand}
use Rattle.expression.proofs.Views.{cells-split}
use Rattle.rounds.proofs.Wires.{wires-counted, cells-within, running_stands, wire-valued}
use Rattle.rounds.proofs.Rounding.{known-held}
use Rattle.storing.specs.Advances.{Ready, Advances}
use Rattle.leaves.specs.declared.Valued.{Valued}
use Rattle.storing.proofs.Standing.{cells-past, memory_append, stored-length}
use Rattle.rounds.specs.Running.{mapped}
use Rattle.rounds.specs.Settled.{Settled, stored_of}

no_cells : (cells : List Cell) → length cells ≡ 0 → cells ≡ []
no_cells [] e = refl
no_cells (c ∷ cells) e = absurd (omega arith)

-- as many cells are stored as the wires own
cells-length : (now : Environment) (es : List Expression) (k : ℕ) → k + length (forms_of es) ≤ length now.memory
    → length (stored_cells now es k) ≡ length (forms_of es)
unfolding forms_of stored_cells
cells-length now [] k l = refl
cells-length now (e ∷ es) k l =
    let size = length-append (cell_forms e) (forms_of es) in
    let count = forms_length e in
    simp length-append (omega (arith, stored-length now false e k (omega arith), cells-length now es (k + cell_count e) (omega arith)))

-- the cells of the first wires are among those of all
first-within : (es : List Expression) (w : ℕ) → cells_before es w ≤ length (forms_of es)
unfolding forms_of
first-within es zero = zero-le
first-within [] (suc w) = zero-le
first-within (e ∷ es) (suc w) =
    omega (arith, first-within es w, length-append (cell_forms e) (forms_of (take w es)), length-append (cell_forms e) (forms_of es))

-- the bytes of a wire's own cell, or none
own-size : (b : ℕ) (v : Value) → length (memory_bytes (own_stored b v)) ≡ 5 * own_cells b
own-size b v = memory_length (own_stored b v) ∙ ap (λ (n : ℕ). 5 * n) (go (is_kept b))
  where
    go : (t : Bool) → length (cond t (Started (datum_in v) ∷ []) []) ≡ cond t 1 0
    go true = refl
    go false = refl

full_at : {s start types places firsts words : List ℕ} (f : Settled s start types places firsts words) (w : ℕ) → w < length types
    → IsKnown (value_at f.under.values w)
unfolding Full
full_at f w l = f.full w l

module _ {s start types places firsts words : List ℕ} (f : Settled s start types places firsts words)
  where
    abbrev trees : List Expression
    trees = f.under.running.given.sheet.expressions

    abbrev environment : Environment
    environment = under f.under.running.given.sheet f.under.running.given.inputs f.under.running.given.memory f.under.values

    -- the number of the first cell of wire w
    abbrev first : ℕ → ℕ
    first w = cells_before trees w

    -- the wires below w are done, and what those that are left store makes the next memory of it
    pub record Stored (w : ℕ) (memory : List ℕ) : Type 0 where
      pub room : length memory ≡ length start
      pub cells : CellsStand memory f.under.running.given.memory (first w) (forms_of (drop w trees))
      pub rest : sets memory (5 * first w) (memory_bytes (stored_cells environment (drop w trees) (first w))) ≡ stored_of f

    -- the cells that the wires own are those of the memory
    owned : (length (forms_of trees) ≡ length f.under.running.given.memory) × (length start ≡ 5 * length (forms_of trees))
    owned = (pairwise-length f.under.running.valid_memory, f.under.running.memory_size)

    pub unstored : Stored 0 start
    unfolding next_memory forms_of
    unstored =
        let all = stored_cells environment trees 0 in
        let count = cells-length environment trees 0 (omega (arith, owned.0)) in
        record {
          room = refl;
          cells = f.under.running.cells;
          rest = sets-all (memory_bytes all) start (omega (arith, memory_length all, owned.1));
        }

    -- the expression of wire w, its cells and those behind them
    record Turn (w : ℕ) (memory : List ℕ) : Type 0 where
      trees-left : drop w trees ≡ expression_at trees w ∷ drop (suc w) trees
      counted : first (suc w) ≡ first w + cell_count (expression_at trees w)
      cells : CellsStand memory f.under.running.given.memory (first w) (cell_forms (expression_at trees w))
      behind : CellsStand memory f.under.running.given.memory (first (suc w)) (forms_of (drop (suc w) trees))
      within : first (suc w) ≤ length (forms_of trees)

    turn : {w : ℕ} {memory : List ℕ} → Stored w memory → w < length types → Turn w memory
    unfolding forms_of
    turn {w} h l =
        let inside : w < length trees = omega (arith, wires-counted f.under.running) in
        let split = drop-cons trees w (constant (Boolean false)) inside in
        let both = cells-split (cell_forms (expression_at trees w)) (forms_of (drop (suc w) trees)) (rw split at h.cells) in
        let count : first (suc w) ≡ first w + length (cell_forms (expression_at trees w)) =
        rw (take-suc trees w (constant (Boolean false)) inside, forms_snoc (take w trees) (expression_at trees w))
        (length-append (forms_of (take w trees)) (cell_forms (expression_at trees w))) in
        record {
          trees-left = split;
          counted = omega (arith, count, forms_length (expression_at trees w));
          cells = both.0;
          behind = rw (← count) at both.1;
          within = first-within trees (suc w);
        }

    -- the cells of wire w are stored
    further : {w : ℕ} {memory after : List ℕ} → Stored w memory → w < length types
        → after ≡ sets memory (5 * first w) (memory_bytes (stored environment false (expression_at trees w) (first w))) → Stored (w + 1) after
    unfolding stored_cells
    further {w} {memory} {after} h l holds =
        let t = turn h l in
        let tree = expression_at trees w in
        let bytes = memory_bytes (stored environment false tree (first w)) in
        let size : length bytes ≡ 5 * cell_count tree =
        memory_length (stored environment false tree (first w))
        ∙ ap (λ (n : ℕ). 5 * n) (stored-length environment false tree (first w) (omega (arith, t.within, t.counted, owned.0))) in
        let place : 5 * first w + length bytes ≡ 5 * first (suc w) = omega (arith, size, t.counted) in
        let others = stored_cells environment (drop (suc w) trees) (first (suc w)) in
        let joined : sets after (5 * first (suc w)) (memory_bytes others) ≡ sets memory (5 * first w) (bytes ++ memory_bytes others) =
        rw (holds, ← place) (sym (sets-append bytes (memory_bytes others) memory (5 * first w))) in
        record {
          room = ap length holds ∙ length-sets memory (5 * first w) bytes ∙ h.room;
          cells = rw (add-one, holds) (cells-past bytes (5 * first w) (omega (arith, place)) t.behind);
          rest = rw add-one
              (joined ∙ rw (← (memory_append (stored environment false tree (first w)) others)) (rw (t.trees-left, ← t.counted) at h.rest));
        }

    -- Wire w in its turn: it stores its own cell, if it is kept, and behind it those of its expression, of which the first has number `cell`.
    module _ {w : ℕ} {here : Place} {memory : List ℕ} (h : Stored w memory) (l : w < length types) (is : here ≡ mapped places firsts w) where
      abbrev byte : ℕ
      byte = get_or types w 0

      abbrev tree : Expression
      tree = (f.under.running.starts w l).tree

      abbrev held : Value
      held = Known (datum_of (wire_type byte) (get_or words w 0))

      abbrev own_bytes : List ℕ
      own_bytes = memory_bytes (own_stored byte held)

      -- what is worked out for it is what its word holds, as the finished values are a solution
      own_value : value environment false tree here.cell ≡ held
      unfolding Solution
      own_value =
          let r = f.under.running in
          let holds = f.under.holds in
          wire-valued r f.under.values w l is
          ∙ sym (round-at r.given.sheet r.given.inputs r.given.memory f.under.values w)
          ∙ ap (λ values. value_at values w) f.solves
          ∙ (running_stands r holds f.under.typed).on_wires w l
          ∙ rw (known-held (full_at f w l) (holds.each w l))

      number : here.cell ≡ first w + own_cells byte
      number = ap (λ x. x.cell) is ∙ (f.under.running.starts w l).first

      sized : first (suc w) ≡ here.cell + cell_count tree
      sized = omega (arith, (turn h l).counted, number, ap cell_count (f.under.running.starts w l).whole ∙ tree-count byte tree)

      -- the cells before those of the expression are in the memory, its own among them
      pub own-fits : (own_cells byte ≤ here.cell) × (5 * here.cell ≤ length memory)
      own-fits = (omega (arith, number), omega (arith, sized, (turn h l).within, owned.1, h.room))

      module _ {middle : List ℕ} (own : middle ≡ sets memory (5 * (here.cell - own_cells byte)) own_bytes) where
        -- its own cell is stored, and ends where those of its expression begin
        own-stored : (middle ≡ sets memory (5 * first w) own_bytes) × (5 * first w + length own_bytes ≡ 5 * here.cell)
        own-stored =
            let place : here.cell - own_cells byte ≡ first w = omega (arith, number) in
            (own ∙ rw place, omega (arith, own-size byte held, number))

        -- its expression can advance
        pub ready : Ready s middle words 16 (plain_byte byte) here
        ready =
            let t = turn h l in
            let start = f.under.running.starts w l in
            let cells = cells-past own_bytes (5 * first w) (omega (arith, own-stored.1, number)) (cells-within byte tree (rw start.whole at t.cells)) in
            let reads : read_expression f.under.running.inputs types s 16 (plain_byte byte) here.at here.cell ≡ got tree start.next start.count =
            rw is start.reads in
            let extent = expression_extent f.under.running.inputs types s 16 (plain_byte byte) here.at here.cell reads in
            let count : start.count ≡ first (suc w) = omega (arith, extent.counted, sized) in
            record {
              bits = f.bits;
              full = λ x m. known-held (full_at f x m) (f.under.holds.each x m);
              place = record {
                inputs = f.under.running.inputs;
                wires = types;
                now = environment;
                tree = tree;
                next = start.next;
                count = start.count;
                reads = reads;
                stands = running_stands f.under.running f.under.holds f.under.typed;
                cells = rw (own-stored.0, number) cells;
              };
              within = omega (arith, t.within, owned.0, count);
              room =
                  let size = ap length own-stored.0 ∙ length-sets memory (5 * first w) own_bytes in
                  omega (arith, t.within, owned.1, h.room, count, size);
            }

        both_stored : {after : List ℕ} → after ≡ sets middle (5 * here.cell) (memory_bytes (stored environment false tree here.cell))
            → Stored (w + 1) after
        both_stored holds =
            let cells = stored environment false tree here.cell in
            let parts : stored environment false (expression_at trees w) (first w) ≡ own_stored byte held ++ cells =
            ap (λ e. stored environment false e (first w)) (f.under.running.starts w l).whole
            ∙ tree-stored environment false byte tree (first w) ∙ rw (← number, own_value) in
            further h l
            (holds ∙ rw (own-stored.0, ← own-stored.1, parts, memory_append)
            (sym (sets-append own_bytes (memory_bytes cells) memory (5 * first w))))

        -- its expression advanced
        pub one-stored : {r : Valued} {after : List ℕ} → Advances ready false r after → Stored (w + 1) after
        unfolding ready
        one-stored a = both_stored a.holds

        -- its expression has no cells
        pub none-stored : (w + 1 < length types) × (get_or firsts (w + 1) 0 ≡ here.cell + own_cells (get_or types (w + 1) 0))
            → Stored (w + 1) middle
        unfolding memory_bytes
        none-stored (more, alike) =
            let cells = stored environment false tree here.cell in
            let size = stored-length environment false tree here.cell (omega (arith, (turn h l).within, sized, owned.0)) in
            let next = (f.under.running.starts (w + 1) more).first in
            let nothing : cells ≡ [] = no_cells cells (omega (arith, size, rw add-one at (sym alike ∙ next), sized)) in
            both_stored (rw nothing)

    pub all-stored : {w : ℕ} {memory : List ℕ} → Stored w memory → w ≡ length types → memory ≡ stored_of f
    unfolding stored_cells memory_bytes
    all-stored {w} h e =
        let ends : w ≡ length trees = omega (arith, wires-counted f.under.running) in
        rw (ends, drop-length) at h.rest
