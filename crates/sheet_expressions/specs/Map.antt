-- The map of a sheet, which the check draws: where each wire's expression starts, the number of its first cell, and the set of the wires
-- that it reads within the instant; and of each cell, where the expression that owns it stands, and its form. What the lists of a map
-- hold beyond the wires and the cells, and after a refusal, is free: nobody reads it.
use Rattle.std.specs.Prelude.{ℕ, ◌+◌, ◌-◌, ◌/◌, ◌%◌, ◌≤◌, ◌<◌, ◌≡◌, refl, cond, List, [], ◌∷◌, eqb, length, get_or, take}
use Rattle.std.proofs.lemmas.List.Edits.{sets}
use Rattle.wires.specs.Sets.{member}
use Rattle.sheet.specs.Data.{type_of_byte, plain_byte, is_kept, wire_type, datum_of}
use Rattle.sheet.specs.Expressions.{Expression, CellForm, kept_cell}
use Rattle.sheet.specs.Lists.{among}
use Rattle.sheet.specs.Reads.{wires_read}
use Rattle.sheet.specs.Readings.{Reading, got, erased, read_expression, body_at, Whole}
use Rattle.sheet.specs.Sheets.{Sheet, forms_of, expression_at, cells_before, before, wire_tree, own_cells, read_wires}
use Rattle.sheet.specs.Memory.{form_byte, own_cell}
use Rattle.sheet.specs.Typing.{Pairwise}
use Rattle.sheet.specs.Laws.Headers.{SheetRead}
use Rattle.sheet_names.specs.Naming.{ahead_in, Naming}
use Rattle.sheet_names.specs.declared.Names.{Names}
use Rattle.sheet_own.specs.Own.{Joins, HasOperands}
use Rattle.sheet.specs.declared.Cell.{Cell}
use Rattle.sheet.specs.declared.Cell.TheVariants.{Started}
use Rattle.sheet.specs.declared.Got.{Got}
use Rattle.sheet_expressions.specs.declared.map.Map.{Map}
use Rattle.sheet.specs.declared.Refused.{Refused}
use Rattle.std.specs.Prelude.{Result, Ok, Err}

-- the expressions of so many wires, from `at` on, read as the sheet's do
pub record WiresRead (s : List ℕ) (wires at : ℕ) : Type 0 where
  pub inputs : List ℕ
  pub types : List ℕ
  pub trees : List Expression
  pub next : ℕ
  pub count : ℕ
  pub sized : length types ≡ wires
  pub reads : read_wires inputs types s at ≡ got trees next count

-- wire w's expression reads at the place, and behind as many cells as the wires before it own and, where it is kept, itself
pub record StartsAt {s : List ℕ} {wires at : ℕ} (run : WiresRead s wires at) (w place cell : ℕ) : Type 0 where
  pub tree : Expression
  pub next : ℕ
  pub count : ℕ
  pub reads : read_expression run.inputs run.types s 16 (plain_byte (get_or run.types w 0)) place cell ≡ got tree next count
  pub whole : expression_at run.trees w ≡ wire_tree (get_or run.types w 0) tree
  pub first : cell ≡ cells_before run.trees w + own_cells (get_or run.types w 0)

-- the entry of a cell: four times the place of its owner's kind byte, and its form; the cell of a kept wire has none, and in its place one
-- that no sheet has
abbrev pub owner_in : ℕ → ℕ
owner_in entry = entry / 4

abbrev pub form_in : ℕ → ℕ
form_in entry = entry % 4

abbrev pub no_owner : ℕ
no_owner = 4096

-- the cell of an entry, as it is at the start: that of a kept wire is false or 0
abbrev pub start_in : (s : List ℕ) (entry : ℕ) → Cell
start_in s entry =
    cond (eqb (owner_in entry) no_owner) (Started (datum_of (type_of_byte (form_in entry)) 0))
    (own_cell (get_or s (owner_in entry) 0) (body_at s (owner_in entry)))

-- the entry leads to the owner of a cell of the form, if it has one
pub record CellNoted (s : List ℕ) (of : CellForm) (entry : ℕ) : Type 0 where
  pub owner : (owner_in entry ≡ no_owner → ⊥) → Whole s (owner_in entry)
  pub starts : start_in s entry ≡ of.start
  pub form : form_in entry ≡ form_byte of

-- the cells of these forms were noted from number c on, and nothing else was changed
pub record Entered (s : List ℕ) (forms : List CellForm) (c : ℕ) (before after : List ℕ) : Type 0 where
  pub entries : List ℕ
  pub noted : Pairwise (CellNoted s) forms entries
  pub placed : after ≡ sets before c entries

-- the form of the cell that a wire with this type byte owns itself, if it is kept
abbrev pub kept_forms : ℕ → List CellForm
kept_forms byte = cond (is_kept byte) (kept_cell (wire_type byte) ∷ []) []

-- of a wire with this type byte, behind so many cells that are counted, the cell that it owns itself was noted; and behind it, among the
-- names, it is no longer ahead
pub record KeptNoted (byte count : ℕ) (names later : Names) (before after : List ℕ) : Type 0 where
  pub entered : (s : List ℕ) → Entered s (kept_forms byte) (count - ahead_in names) before after
  pub ahead : ahead_in later ≡ ahead_in names - own_cells byte
  pub naming : (inputs wires : List ℕ) → Naming inputs wires names → Naming inputs wires later

-- the set with these bits holds just the wires of the list
pub record HoldsJust (bits : ℕ) (ws : List ℕ) : Type 0 where
  pub same : (w : ℕ) → member bits w ≡ among w ws

-- of each of n wires a set holds just those of its list
abbrev pub EachHoldsJust : (rows : List ℕ) (n : ℕ) (lists : ℕ → List ℕ) → Type 0
EachHoldsJust rows n lists = (w : ℕ) → w < n → HoldsJust (get_or rows w 0) (lists w)

-- the answer is that of a reading; and where it got something, its cells were noted behind c others, and what it reads within the
-- instant was joined to a set
pub record Checks {A : Type 0} (s : List ℕ) (forms_of : A → List CellForm) (reads_of : A → List ℕ) (reading : Reading A)
    (c : ℕ) (answer : Result Got Refused) (before after : List ℕ) (bits joint : ℕ) : Type 0 where
  pub answers : answer ≡ erased reading
  pub cells : (a : A) (n k : ℕ) → reading ≡ got a n k → Entered s (forms_of a) c before after
  pub reads : (a : A) (n k : ℕ) → reading ≡ got a n k → Joins bits (reads_of a) joint

-- an expression with operands stands at the place, at a level that is left
pub record NodeAt (s : List ℕ) (level t at c : ℕ) : Type 0 where
  pub byte : at < length s
  pub kind : HasOperands (get_or s at 0)
  pub levels : 1 ≤ level
  pub asked : t < 2
  pub room : c ≤ 64
  pub few : length s ≤ 4096

-- names by which those of a sheet's leaves are looked up, where its wires have these types
pub record WiresLookup (types : List ℕ) (names : Names) : Type 0 where
  pub inputs : List ℕ
  pub naming : Naming inputs types names

-- what holds of a map: each wire starts where it says and reads what it says, in sets with room for 64 wires
pub record Sited {s : List ℕ} {wires at : ℕ} (run : WiresRead s wires at) (places firsts reads : List ℕ) : Type 0 where
  pub wire : (w : ℕ) → w < wires → StartsAt run w (get_or places w 0) (get_or firsts w 0)
  pub read : EachHoldsJust reads wires (λ w. wires_read (expression_at run.trees w))
  pub room : 64 ≤ length reads

-- and each cell was noted, in a table of 64
pub record Mapped {s : List ℕ} {wires at : ℕ} (run : WiresRead s wires at) (map : Map) : Type 0 where
  pub sites : Sited run map.places map.firsts map.reads
  pub cell : Pairwise (CellNoted s) (forms_of run.trees) (take run.count map.cells)
  pub cell_room : length map.cells ≡ 64

-- the expressions of wires of these types, as they read from `at` on
abbrev pub run_of : (inputs types s : List ℕ) (at : ℕ) (trees : List Expression) (n k : ℕ)
    → read_wires inputs types s at ≡ got trees n k → WiresRead s (length types) at
run_of inputs types s at trees n k each =
    record { inputs = inputs; types = types; trees = trees; next = n; count = k; sized = refl; reads = each }

-- where the expressions of the wires from `at` on read, the map is theirs
pub record Drawn (inputs types s : List ℕ) (at : ℕ) (map : Map) : Type 0 where
  pub maps : (trees : List Expression) (n k : ℕ) (each : read_wires inputs types s at ≡ got trees n k)
      → Mapped (run_of inputs types s at trees n k each) map

-- the answer is that of the expressions of the wires from `at` on, and the map is theirs
pub record WiresChecked (inputs types s : List ℕ) (at : ℕ) (answer : Result Got Refused) (map : Map) : Type 0 where
  pub answers : answer ≡ erased (read_wires inputs types s at)
  pub drawn : Drawn inputs types s at map

-- the expressions of a sheet that reads
abbrev pub wires_of : {s : List ℕ} {sheet : Sheet} {n k : ℕ} (v : SheetRead s sheet n k)
    → WiresRead s (length (before s v.wires_end v.wire_count)) v.outputs_end
wires_of {s} {n = n} {k = k} v =
    run_of (before s v.inputs_end v.input_count) (before s v.wires_end v.wire_count) s v.outputs_end v.expressions n k v.each

-- what holds where something was read
abbrev pub WhereGot : Result Got Refused → (ℕ → ℕ → Type 0) → Type 0
WhereGot (Err r) P = Unit {0}
WhereGot (Ok a) P = P a.next a.count

-- at most 64 type bytes, below a limit
pub record TypeBytes (limit : ℕ) (types : List ℕ) : Type 0 where
  pub few : length types ≤ 64
  pub each : (i : ℕ) → get_or types i 0 < limit
