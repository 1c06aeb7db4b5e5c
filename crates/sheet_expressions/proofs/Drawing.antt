-- How the map is drawn wire by wire: the wires passed are noted with their cells, and the expressions of those that are left read.
use Prim.Native.Nat.{ℕ, ◌+◌, ◌-◌, ◌≤◌, ◌<◌}
use mathlib.Core.Path.{◌≡◌, refl, sym, ap, ◌∙◌}
use mathlib.Core.Logic.{◌≢◌}
use mathlib.Core.Bool.{Bool, true, false, ◌||◌, cond}
use mathlib.Core.List.{List, [], ◌∷◌, ◌++◌, append_assoc, append-nil}
use native.Mathlib.Numerals.{add-one}
use native.Mathlib.Omega.{arith}
use lib.ListN.{length, get_or, set, take, drop}
use lib.Seq.{sets-eq, length-sets, take_at, take-suc, take_all, get_or-set_same, get_or-set_other}
use borrow.Author.Count.{below_more}
use Rattle.wires.specs.Sets.{member}
use Rattle.sheet.specs.Data.{plain_byte, is_kept, wire_type}
use Rattle.sheet.specs.Expressions.{Expression, constant, kept, kept_cell, cell_forms}
use Rattle.sheet.specs.Lists.{among}
use Rattle.sheet.specs.Reads.{wires_read}
use Rattle.sheet.specs.Readings.{erased, read_expression}
use Rattle.sheet.specs.Sheets.{forms_of, expression_at, cells_before, wire_tree, own_cells, kept_count, read_wires}
use Rattle.sheet.specs.Laws.Readings.{not_good, got-next, got-count}
use Rattle.sheet.proofs.Laws.Wires.{kept-few, all-extent}
use Rattle.sheet.specs.declared.Datum.TheVariants.{Boolean}
use Rattle.sheet_names.proofs.Numbers.{kept_from}
use Rattle.sheet_own.specs.Own.{Joins}
use Rattle.sheet_expressions.specs.Map.{WiresRead, StartsAt, Entered, kept_forms, HoldsJust, EachHoldsJust, Checks, Mapped, Drawn}
use Rattle.sheet_expressions.proofs.Noting.{entered-none, entered-append, pairs-length}
use Rattle.sheet_expressions.proofs.Locating.{Left, all_left, each-tree, turn}
use Rattle.sheet.specs.Readings.{got_at}
use Rattle.sheet.specs.declared.Got.{Got}
use Rattle.sheet_expressions.specs.declared.map.Map.{Map}
use Rattle.sheet.specs.declared.Refused.{Refused}
use Rattle.std.specs.Prelude.{Result, Err}

-- what is joined to the empty set is held alone
joined-alone : {none : ℕ} (ws : List ℕ) {bits : ℕ} → ((k : ℕ) → member none k ≡ false) → Joins none ws bits → HoldsJust bits ws
joined-alone ws empty joins = record { same = λ k. joins.joined k ∙ ap (λ b. b || among k ws) (empty k) }

pub forms_snoc : (es : List Expression) (e : Expression) → forms_of (es ++ (e ∷ [])) ≡ forms_of es ++ cell_forms e
unfolding forms_of
forms_snoc [] e = append-nil (cell_forms e)
forms_snoc (a ∷ es) e = ap (λ fs. cell_forms a ++ fs) (forms_snoc es e) ∙ sym (append_assoc (cell_forms a) (forms_of es) (cell_forms e))

-- an entry that is set, and those that are not
set_below : (P : ℕ → ℕ → Type 0) (l : List ℕ) (w x : ℕ) → w < length l → ((v : ℕ) → v < w → P v (get_or l v 0)) → P w x
    → (v : ℕ) → v < w + 1 → P v (get_or (set l w x) v 0)
set_below P l w x room below here v m =
    below_more (λ v. P v (get_or (set l w x) v 0)) w
    (λ v k. let other : v ≢ w = λ e. omega arith in rw (get_or-set_other l w v x 0 other) (below v k))
    (rw (get_or-set_same l w x 0 room) here) v (omega arith)

-- what a kept wire's expression owns and reads, with the wire's own cell
tree_forms : (b : ℕ) (e : Expression) → cell_forms (wire_tree b e) ≡ kept_forms b ++ cell_forms e
unfolding cell_forms
tree_forms b e = go (is_kept b)
  where
    go : (t : Bool) → cell_forms (cond t (kept (wire_type b) e) e) ≡ cond t (kept_cell (wire_type b) ∷ []) [] ++ cell_forms e
    go true = refl
    go false = refl

tree-reads : (b : ℕ) (e : Expression) → wires_read (wire_tree b e) ≡ wires_read e
unfolding wires_read
tree-reads b e = go (is_kept b)
  where
    go : (t : Bool) → wires_read (cond t (kept (wire_type b) e) e) ≡ wires_read e
    go true = refl
    go false = refl

kept-length : (b : ℕ) → length (kept_forms b) ≡ own_cells b
kept-length b = go (is_kept b)
  where
    go : (t : Bool) → length (cond t (kept_cell (wire_type b) ∷ []) []) ≡ cond t 1 0
    go true = refl
    go false = refl

module _ {s : List ℕ} {wires at : ℕ} (run : WiresRead s wires at) where
  -- the wires below w are noted with their cells, and the others are left
  pub record Drawing (w next count : ℕ) (places firsts reads before cells : List ℕ) : Type 0 where
    pub left : Left run w next count
    pub place : (v : ℕ) → v < w → StartsAt run v (get_or places v 0) (get_or firsts v 0)
    pub read : EachHoldsJust reads w (λ v. wires_read (expression_at run.trees v))
    pub noted : Entered s (forms_of (take w run.trees)) 0 before cells

  pub nothing-drawn : {count : ℕ} {places firsts reads cells : List ℕ} → count ≡ kept_count run.types
      → Drawing 0 at count places firsts reads cells cells
  unfolding forms_of
  nothing-drawn e =
      record { left = all_left run e; place = λ v l. absurd (omega arith); read = λ v l. absurd (omega arith); noted = entered-none }

  -- one wire more: its own cell, if it is kept, and then its expression
  pub wire-drawn : {w next count ahead later n k none bits : ℕ} {answer : Result Got Refused} {places firsts reads before cells between after : List ℕ}
      → w < wires → w < length places → w < length firsts → w < length reads
      → ahead ≡ kept_count (drop w run.types) → later ≡ kept_count (drop (w + 1) run.types)
      → Drawing w next count places firsts reads before cells
      → Entered s (kept_forms (get_or run.types w 0)) (count - ahead) cells between
      → answer ≡ got_at n k → ((j : ℕ) → member none j ≡ false)
      → Checks s cell_forms wires_read (read_expression run.inputs run.types s 16 (plain_byte (get_or run.types w 0)) next count)
      (count - later) answer between after none bits
      → Drawing (w + 1) n k (set places w next) (set firsts w (count - later)) (set reads w bits) before after
  wire-drawn {w} {next} {count} {ahead} {later} {n} {k} {none} {bits} {answer} {places} {firsts} {reads} more inPlaces inFirsts inReads
      ahead-is later-is d own e empty h =
      let b = get_or run.types w 0 in
      let here = turn run d.left more in
      let same = sym e ∙ h.answers ∙ ap erased here.reads in
      let next-is : here.end ≡ n = got-next same in
      let count-is : here.behind ≡ k = got-count same in
      let grown = each-tree run more in
      let forms : cell_forms (expression_at run.trees w) ≡ kept_forms b ++ cell_forms here.tree =
      ap cell_forms here.whole ∙ tree_forms b here.tree in
      let more-forms : forms_of (take (w + 1) run.trees) ≡ forms_of (take w run.trees) ++ (kept_forms b ++ cell_forms here.tree) =
      rw (add-one, take-suc run.trees w (constant (Boolean false)) grown, ← forms)
      (forms_snoc (take w run.trees) (expression_at run.trees w)) in
      let kept = kept_from run.types w (omega (arith, run.sized)) in
      let first : count - ahead ≡ 0 + cells_before run.trees w = omega (arith, d.left.counted) in
      let behind-own : count - later ≡ count - ahead + length (kept_forms b) = omega (arith, kept-length b, d.left.counted) in
      record {
        left = rw (← next-is, ← count-is) here.rest;
        place = λ v l. set_below (λ v x. StartsAt run v x (get_or (set firsts w (count - later)) v 0)) places w next inPlaces
            (λ v m. let other : v ≢ w = λ q. omega arith in rw (get_or-set_other firsts w v (count - later) 0 other) (d.place v m))
            (rw (get_or-set_same firsts w (count - later) 0 inFirsts, later-is) here.starts) v l;
        read = set_below (λ v x. HoldsJust x (wires_read (expression_at run.trees v))) reads w bits inReads d.read
            (rw (here.whole, tree-reads b here.tree)
            (joined-alone (wires_read here.tree) empty (h.reads here.tree here.end here.behind here.reads)));
        noted = rw more-forms
            (entered-append (forms_of (take w run.trees)) (kept_forms b ++ cell_forms here.tree) first d.noted
            (entered-append (kept_forms b) (cell_forms here.tree) behind-own own
            (h.cells here.tree here.end here.behind here.reads)));
      }

  -- all of them
  pub all-drawn : {w next count : ℕ} {places firsts reads before cells : List ℕ} → wires ≤ 64 → wires ≤ w → length before ≡ 64
      → 64 ≤ length reads → Drawing w next count places firsts reads before cells → Mapped run (record { places = places; firsts = firsts; reads = reads; cells = cells })
  all-drawn {w} {next} {count} {before = before} {cells = cells} few over room set_room d =
      let extent = all-extent run.inputs run.types s at run.reads in
      let whole : take w run.trees ≡ run.trees = take_all w run.trees (omega (arith, run.sized, extent.sized)) in
      let noted = rw whole at d.noted in
      let limited = extent.limited (omega (arith, kept-few run.types, run.sized)) in
      let sized : length noted.entries ≡ run.count = pairs-length noted.noted ∙ (omega (arith, extent.counted)) in
      let kept : take run.count cells ≡ noted.entries =
      rw (noted.placed, sets-eq noted.entries before 0 (omega arith))
      (take_at noted.entries (drop (0 + length noted.entries) before) run.count sized) in
      record {
        sites = record { wire = λ v l. d.place v (omega arith); read = λ v l. d.read v (omega arith); room = set_room };
        cell = rw kept noted.noted;
        cell_room = ap length noted.placed ∙ length-sets before 0 noted.entries ∙ room;
      }

-- nothing is said of wires that are refused
pub run-refused : {inputs types s : List ℕ} {at : ℕ} {r : Refused} {map : Map}
    → Err r ≡ erased (read_wires inputs types s at) → Drawn inputs types s at map
run-refused e = record { maps = λ trees n k each. not_good (e ∙ ap erased each) }
