-- Waiting, under the values of a solution: where a wire is unknown, one waits for itself, and the lowest such wire is found; under the
-- least solution a wire that is worked out from itself, directly or through others, is unknown, and waits for itself.
use Rattle.std.specs.Prelude.{◌≡◌, List}
use Rattle.std.proofs.Math.Path.{refl}
use Rattle.std.proofs.Common.{sym, ap, ◌∙◌, zero-add, arith}
use Prim.Native.Nat.{ℕ, zero, suc, ◌<◌}
use Rattle.std.proofs.Math.Bool.{true, false}
use Rattle.std.proofs.Math.ListN.{length}
use Rattle.sheet.specs.Lists.{among}
use Rattle.sheet.specs.Expressions.{Expression}
use Rattle.sheet.specs.Sheets.{Sheet, expression_at, cells_before}
use Rattle.sheet.specs.Typing.{WellTyped}
use Rattle.sheet.specs.Laws.Lists.{both, every_holds}
use Rattle.sheet.specs.declared.Datum.{Datum}
use Rattle.sheet.specs.declared.Cell.{Cell}
use Rattle.closure.specs.Closures.{Closure, one, ◌then◌, Tells, LowestLoop}
use Rattle.closure.specs.Laws.{finds-loop, found-lowest, some-loop}
use Rattle.kernel.specs.Values.{is_unknown, IsKnown, known}
use Rattle.kernel.specs.Order.{◌⊑◌, same, value_at}
use Rattle.kernel.specs.Instant.{Environment, value}
use Rattle.kernel.specs.Systems as System
use Rattle.kernel.specs.Systems.{Solution}
use Rattle.kernel.specs.Instants.{wire_count, reads_at, values, under, round, finished}
use Rattle.kernel.specs.Waits.{WorkedOutFrom, WaitsFor, WaitsOn, waits_for, lowest_waiting}
use Rattle.kernel.proofs.Laws.Order.{unknown-is, not_known, unknown-at}
use Rattle.kernel.proofs.Laws.Reads.{reads-of-tree, reader-below, reads-below}
use Rattle.kernel.proofs.Laws.Rounds.{climbs, below_solutions}
use Rattle.kernel.proofs.Laws.Instants.{value-of-wire, values-at, round-at, round_monotone}
use Rattle.kernel.proofs.Laws.Solutions.{finished_solution}
use Rattle.kernel.proofs.Laws.Waits.{known-awaits, unknown-awaits, awaited-read, awaited-same}
use Rattle.kernel.specs.declared.Value.{Value}
use Rattle.kernel.specs.declared.Value.TheVariants.{Unknown, Known}

grown-known : {u v : Value} → IsKnown u → u ⊑ v → IsKnown v
grown-known known same = known

-- Under any values.
module _ (now : Environment) (es : List Expression) where
  -- what a wire is worked out from it reads within the instant
  awaited-reads : (v w : ℕ) → WorkedOutFrom now es v w → among w (reads_at es v) ≡ true
  awaited-reads v w a = rw (reads-of-tree es v) (every_holds w (awaited-read now (expression_at es v) false (cells_before es v)) a)

  -- so that it is a wire of the sheet
  awaiting_below : (v w : ℕ) → WorkedOutFrom now es v w → v < length es
  awaiting_below v w a = reader-below es v w (awaited-reads v w a)

  waits-tells : Tells (waits_for now es) (WaitsFor now es)
  unfolding waits_for
  waits-tells = record { says = says; said = λ v w h. rw (h.waiting, h.awaited) h.counts }
    where
      says : (v w : ℕ) → waits_for now es v w ≡ true → WaitsFor now es v w
      says v w e =
          let (p, rest) = both (is_unknown (value_at now.wires v)) _ e in
          let (q, r) = both (is_unknown (value_at now.wires w)) _ rest in
          record { waiting = unknown-is _ p; awaited = unknown-is _ q; counts = r }

  waiting-unknown : {v w : ℕ} → WaitsOn now es v w → value_at now.wires v ≡ Unknown
  waiting-unknown (one h) = h.waiting
  waiting-unknown (h then c) = h.waiting

  -- the lowest wire that waits for itself, which is unknown
  pub record WaitingAt (place : ℕ) : Type 0 where
    pub lowest : LowestLoop (WaitsFor now es) (length es) place
    pub unknown : value_at now.wires place ≡ Unknown

  lowest-waits : (w : ℕ) → WaitsOn now es w w → WaitingAt (lowest_waiting now es)
  unfolding lowest_waiting
  lowest-waits w c =
      let from : (u v : ℕ) → WaitsFor now es u v → u < length es = λ u v h. awaiting_below u v h.counts in
      let found = found-lowest waits-tells (length es) from (finds-loop waits-tells (length es) from w c) in
      record { lowest = found; unknown = waiting-unknown found.loops }

  -- Under the values of a solution.
  module _ (solution : values now es 0 ≡ now.wires) where
    value-at : (v : ℕ) → v < length es → value_at now.wires v ≡ value now false (expression_at es v) (cells_before es v)
    value-at v l =
        ap (λ (xs : List Value). value_at xs v) (sym solution) ∙ (values-at now es 0 v ∙ (value-of-wire now es 0 v l ∙ rw zero-add))

    -- who is worked out from an unknown wire is unknown
    unknown-back : (v w : ℕ) → WorkedOutFrom now es v w → value_at now.wires w ≡ Unknown → value_at now.wires v ≡ Unknown
    unknown-back v w a u = go (value_at now.wires v) refl
      where
        go : (x : Value) → value_at now.wires v ≡ x → x ≡ Unknown
        go Unknown e = refl
        go (Known d) e =
            let worked : IsKnown (value now false (expression_at es v) (cells_before es v)) =
            rw (sym (value-at v (awaiting_below v w a)) ∙ e) known in
            not_known (every_holds w (known-awaits now (expression_at es v) false (cells_before es v) worked) a) u

    -- so whoever is worked out from it through others waits on it
    pub waits_back : {v w : ℕ} → Closure (WorkedOutFrom now es) v w → value_at now.wires w ≡ Unknown → WaitsOn now es v w
    waits_back (one {v} {w} a) u = one (record { waiting = unknown-back v w a u; awaited = u; counts = a })
    waits_back (◌then◌ {u} {v} {w} a c) e =
        let rest = waits_back c e in
        let here = waiting-unknown rest in
        record { waiting = unknown-back u v a here; awaited = here; counts = a } then rest

    -- an unknown wire waits for an unknown wire, so one of them waits for itself
    module _ (in_range : (v w : ℕ) → among w (reads_at es v) ≡ true → w < length es) where
      unknown-waits : (v : ℕ) → (v < length es) × (value_at now.wires v ≡ Unknown)
          → (w : ℕ) × WaitsFor now es v w × ((w < length es) × (value_at now.wires w ≡ Unknown))
      unknown-waits v (l, u) =
          let (w, a, x) = unknown-awaits now (expression_at es v) false (cells_before es v) (sym (value-at v l) ∙ u) in
          (w, record { waiting = u; awaited = x; counts = a }, (in_range v w (awaited-reads v w a), x))

      pub some-waits : (v : ℕ) → v < length es → value_at now.wires v ≡ Unknown → WaitingAt (lowest_waiting now es)
      some-waits v l u =
          let loop = some-loop (length es) (λ w h. h.0) unknown-waits v (l, u) in
          lowest-waits loop.wire loop.leads

-- Under the least solution of a sheet.
module _ (sheet : Sheet) (inputs : List Datum) (memory : List Cell) where
  abbrev pub finally : Environment
  finally = under sheet inputs memory (finished sheet inputs memory)

  abbrev es : List Expression
  es = sheet.expressions

  solved : values finally es 0 ≡ finally.wires
  unfolding round Solution
  solved = finished_solution sheet inputs memory

  -- a sheet that is well typed, as every one is that passes the check: where a wire is unknown, the lowest wire that waits for itself
  pub some-waits_finally : WellTyped sheet → (w : ℕ) → w < wire_count sheet → value_at (finished sheet inputs memory) w ≡ Unknown
      → WaitingAt finally es (lowest_waiting finally es)
  some-waits_finally typed = some-waits finally es solved (reads-below sheet typed)

  abbrev after : ℕ → List Value
  after = System.after (wire_count sheet) (round sheet inputs memory)

  -- what is known after one more round is worked out from what is known before it
  earlier : (k v w : ℕ) → IsKnown (value_at (after (suc k)) v) → WorkedOutFrom finally es v w → IsKnown (value_at (after k) w)
  unfolding System.after
  earlier k v w h a =
      let before = under sheet inputs memory (after k) in
      let grows = below_solutions (wire_count sheet) (round sheet inputs memory) (round_monotone sheet inputs memory)
      (finished sheet inputs memory) (finished_solution sheet inputs memory) k in
      let is : value_at (after (suc k)) v ≡ value before false (expression_at es v) (cells_before es v) =
      round-at sheet inputs memory (after k) v ∙ (value-of-wire before es 0 v (awaiting_below finally es v w a) ∙ rw zero-add) in
      let worked : IsKnown (value before false (expression_at es v) (cells_before es v)) = rw is at h in
      let same-wires = awaited-same before finally refl refl refl grows (expression_at es v) false (cells_before es v) worked in
      every_holds w (known-awaits before (expression_at es v) false (cells_before es v) worked) (rw same-wires a)

  falls : (k : ℕ) {v w : ℕ} → IsKnown (value_at (after (suc k)) v) → Closure (WorkedOutFrom finally es) v w → IsKnown (value_at (after k) w)
  falls k h (one {v} {w} a) = earlier k v w h a
  falls k h (◌then◌ {u} {v} {w} a c) =
      let up = climbs (wire_count sheet) (round sheet inputs memory) (round_monotone sheet inputs memory) k (suc k) (omega arith) in
      falls k (grown-known (earlier k u v h a) (up.at v)) c

  never-known : (k v : ℕ) → Closure (WorkedOutFrom finally es) v v → IsKnown (value_at (after k) v) → ⊥
  unfolding System.after
  never-known zero v c h = not_known h (unknown-at (wire_count sheet) v)
  never-known (suc k) v c h = never-known k v c (falls k h c)

  -- a wire that is worked out from itself is unknown, and waits for itself
  pub loop-unknown : (w : ℕ) → Closure (WorkedOutFrom finally es) w w → value_at (finished sheet inputs memory) w ≡ Unknown
  unfolding finished System.finished
  loop-unknown w c = go (value_at (finished sheet inputs memory) w) refl
    where
      go : (x : Value) → value_at (finished sheet inputs memory) w ≡ x → x ≡ Unknown
      go Unknown e = refl
      go (Known d) e = absurd (never-known (System.rounds (wire_count sheet) (round sheet inputs memory)) w c (rw e known))

  pub loop-waits : (w : ℕ) → Closure (WorkedOutFrom finally es) w w → WaitsOn finally es w w
  loop-waits w c = waits_back finally es solved c (loop-unknown w c)
