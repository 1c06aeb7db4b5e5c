-- Cells that stand in a memory still stand after bytes were put before them; to put them where they stand changes nothing; and as many
-- cells are stored, or rest, as an expression has.
use Prim.Native.Nat.{ℕ, suc, ◌+◌, ◌*◌, ◌≤◌}
use mathlib.Core.Path.{◌≡◌, refl, ap, ◌∙◌}
use mathlib.Core.Bool.{Bool, true, false, ◌||◌}
use mathlib.Core.List.{List, [], ◌∷◌, ◌++◌, append_assoc}
use native.Mathlib.Omega.{arith}
use lib.ListN.{length, get_or, take, drop, length-append, length-drop, length-map}
use lib.Seq.{sets, length-sets, drop-cons, length-take-le}
use Rattle.numbers.specs.Laws.{sets-past, sets-append}
use Rattle.sheet.specs.Expressions.{Expression, constant, wire, input, last, unary, binary, conditional, switch, pre, fby, kept}
use Rattle.sheet.specs.Expressions.{Alternatives, only, either, Switch, present, reset, machine}
use Rattle.sheet.specs.Expressions.{CellForm, switch_forms, cell_forms, cell_count, count_in}
use Rattle.sheet.specs.Memory.{cell_bytes, memory_bytes, start_memory}
use Rattle.sheet.proofs.Laws.Memory.{cell-length}
use Rattle.sheet.specs.Laws.Readings.{forms_length}
use Rattle.sheet.specs.declared.Cell.{Cell}
use Rattle.sheet.specs.declared.Cell.TheVariants.{NotStarted}
use Rattle.kernel.specs.Values.{is_true}
use Rattle.kernel.specs.Instant.{Environment, state_of, second_runs, makes_fresh, switch_cells, value_in, resting, stored, stored_in}
use Rattle.expression.specs.Places.{CellStands, CellsStand, none, more}
use Rattle.storing.proofs.Splices.{sets_same, drop_past}

module _ {memory : List ℕ} (vs : List ℕ) (i : ℕ) where
  cell-past : {k : ℕ} {form : CellForm} {c : Cell} → i + length vs ≤ 5 * k → CellStands memory k form c
      → CellStands (sets memory i vs) k form c
  cell-past {k} h s =
      let past : (n : ℕ) → 5 * k ≤ n → get_or (sets memory i vs) n 0 ≡ get_or memory n 0 = λ n l. sets-past vs memory i n (omega arith) in
      record {
        fits = rw (length-sets memory i vs) s.fits;
        bytes = rw (drop_past vs memory i (5 * k) h) s.bytes;
        reads =
            rw (
              past (5 * k) (omega arith),
              past (5 * k + 1) (omega arith),
              past (5 * k + 1 + 1) (omega arith),
              past (5 * k + 1 + 2) (omega arith),
              past (5 * k + 1 + 3) (omega arith),
            )
            s.reads;
      }

  pub cells-past : {cells : List Cell} {k : ℕ} {forms : List CellForm} → i + length vs ≤ 5 * k → CellsStand memory cells k forms
      → CellsStand (sets memory i vs) cells k forms
  cells-past h none = none
  cells-past h (more c s) = more (cell-past h c) (cells-past (omega arith) s)

pub put-again : {memory : List ℕ} {cells : List Cell} {k : ℕ} {forms : List CellForm} → CellsStand memory cells k forms
    → k + length forms ≤ length cells → sets memory (5 * k) (memory_bytes (take (length forms) (drop k cells))) ≡ memory
unfolding memory_bytes
put-again none l = refl
put-again {memory} {cells} {k} (more {forms = fs} c s) l =
    let cell = get_or cells k NotStarted in
    let rest = memory_bytes (take (length fs) (drop (suc k) cells)) in
    let place : 5 * k + length (cell_bytes cell) ≡ 5 * suc k = omega (arith, cell-length cell) in
    let same : sets memory (5 * k) (cell_bytes cell) ≡ memory = rw (← c.bytes) (sets_same memory (5 * k) 5 c.fits) in
    rw (drop-cons cells k NotStarted (omega arith))
    (sets-append (cell_bytes cell) rest memory (5 * k) ∙ rw (place, same) (put-again s (omega arith)))

pub memory_append : (cs ds : List Cell) → memory_bytes (cs ++ ds) ≡ memory_bytes cs ++ memory_bytes ds
unfolding memory_bytes
memory_append [] ds = refl
memory_append (c ∷ cs) ds = rw (memory_append cs ds, append_assoc)

module _ (now : Environment) where
  pub resting-length : (fresh : Bool) (e : Expression) (k : ℕ) → k + cell_count e ≤ length now.memory
      → length (resting now fresh e k) ≡ cell_count e
  unfolding resting start_memory
  resting-length true e k l = length-map (cell_forms e) (λ f. f.start) ∙ forms_length e
  resting-length false e k l = length-take-le (cell_count e) (drop k now.memory) (omega (arith, length-drop k now.memory))

  switch-length : (o : Switch) (second : Bool) → length (switch_cells o second) ≡ length (switch_forms o)
  switch-length present second = refl
  switch-length reset second = refl
  switch-length machine second = refl

  mutual
    unfolding stored cell_count

    pub stored-length : (fresh : Bool) (e : Expression) (k : ℕ) → k + cell_count e ≤ length now.memory
        → length (stored now fresh e k) ≡ cell_count e
    stored-length fresh (constant d) k l = refl
    stored-length fresh (wire w) k l = refl
    stored-length fresh (input i) k l = refl
    stored-length fresh (last w) k l = refl
    stored-length fresh (unary o a) k l = stored-length fresh a k l
    stored-length fresh (binary o a b) k l =
        simp length-append (omega (arith, stored-length fresh a k (omega arith), stored-length fresh b (k + cell_count a) (omega arith)))
    stored-length fresh (conditional c a b) k l =
        let la = stored-length fresh a (k + cell_count c) (omega arith) in
        let lb = stored-length fresh b (k + cell_count c + cell_count a) (omega arith) in
        simp length-append (omega (arith, stored-length fresh c k (omega arith), la, lb))
    stored-length fresh (switch o cs bs) k l =
        let state = state_of now fresh o k in
        let first = k + length (switch_forms o) in
        let holds = is_true (value_in now state fresh cs first) in
        let second = second_runs o state holds in
        let lc = stored_in_length state fresh fresh cs first (omega arith) in
        let lb = stored_in_length second fresh (makes_fresh o holds || fresh) bs (first + count_in cs) (omega arith) in
        simp length-append (omega (arith, switch-length o second, lc, lb))
    stored-length fresh (pre d a) k l = ap suc (stored-length fresh a (suc k) (omega arith))
    stored-length fresh (fby t a b) k l =
        let la = stored-length fresh a (suc k) (omega arith) in
        let lb = stored-length fresh b (suc k + cell_count a) (omega arith) in
        simp length-append (omega (arith, la, lb))
    stored-length fresh (kept t a) k l = ap suc (stored-length fresh a (suc k) (omega arith))

    stored_in_length : (second whole fresh : Bool) (xs : Alternatives) (k : ℕ) → k + count_in xs ≤ length now.memory
        → length (stored_in now second whole fresh xs k) ≡ count_in xs
    stored_in_length second whole fresh (only a) k l = stored-length fresh a k l
    stored_in_length true whole fresh (either a b) k l =
        let lb = stored-length fresh b (k + cell_count a) (omega arith) in
        simp length-append (omega (arith, resting-length whole a k (omega arith), lb))
    stored_in_length false whole fresh (either a b) k l =
        let lb = resting-length whole b (k + cell_count a) (omega arith) in
        simp length-append (omega (arith, stored-length fresh a k (omega arith), lb))
