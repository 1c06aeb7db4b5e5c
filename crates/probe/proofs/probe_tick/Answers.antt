-- `probe_tick` meets its contract: the tick that the state asks for, or nothing.
use Prim.Native.Nat.{ℕ, ◌<◌, ◌≤◌}
use mathlib.Core.Path.{◌≡◌, refl, ap, ap₂, ◌∙◌}
use mathlib.Core.Bool.{and-false}
use mathlib.Core.List.{List}
use Rattle.std.specs.Prelude.{Result}
use native.Mathlib.Omega.{arith}
use lib.ListN.{length}
use borrow.Author.Tests.{eq-eqb, ne_eqb, lt-ltb, le-ltb}
use Rattle.board.specs.Serving.{every_cell}
use Rattle.board.specs.Ticks.{packed_tick, PackableTick}
use Rattle.board.proofs.Laws.Refusals.{tick_packable}
use Rattle.board.proofs.Laws.Serving.{every-cell}
use Rattle.tick.specs.Ticking.{Leaves}
use Rattle.board.specs.declared.Standing.{Standing}
use Rattle.board.specs.declared.Ticked.{Ticked}
use Rattle.sheet.specs.declared.Refused.{Refused}
use Rattle.probe.specs.Ticks.{state_after, tick_in, probe_tick, Probes}
use Rattle.probe.proofs.probe_tick.Goals as goal

module _ (board memory input output state : List ℕ) where
  -- nothing is done where the state has another length, or the board is too long
  other_length_lem : (length state ≡ 8 → ⊥) → Probes (probe_tick board memory input output state) 0 memory output state
  unfolding probe_tick
  other_length_lem other = rw (ne_eqb (length state) 8 other) (record { answers = refl; stores = refl; writes = refl; notes = refl })

  too_long : 65536 ≤ length board → Probes (probe_tick board memory input output state) 0 memory output state
  unfolding probe_tick
  too_long long = rw (le-ltb (length board) 65536 long, and-false) (record { answers = refl; stores = refl; writes = refl; notes = refl })

  module _ {ticked : Result Ticked Refused} {standing : Standing} {stored written : List ℕ}
      (leaves : Leaves (tick_in board memory input output state) ticked standing stored written)
      (short : length board < 65536) where
    packable : PackableTick ticked
    packable = rw leaves.answers (tick_packable every_cell every-cell board _ _ short)

    probed : length state ≡ 8 → {answer : ℕ} {noted : List ℕ} → answer ≡ packed_tick ticked
        → noted ≡ state_after state ticked standing → Probes (probe_tick board memory input output state) answer stored written noted
    unfolding probe_tick
    probed sized packs notes =
        rw (eq-eqb (length state) 8 sized, lt-ltb (length board) 65536 short)
        (record {
          answers = packs ∙ ap packed_tick leaves.answers;
          stores = leaves.stores;
          writes = leaves.writes;
          notes = notes ∙ ap₂ (state_after state) leaves.answers leaves.hands;
        })

pub returns-then-state-ne8 : goal.returns-then-state-ne8
returns-then-state-ne8 c = other_length_lem _ _ _ _ _ c.if-state-ne8.true

pub returns-then-board-ge65536 : goal.returns-then-board-ge65536
returns-then-board-ge65536 c = too_long _ _ _ _ _ c.if-board-ge65536.true

pub note-requires : goal.note-requires
note-requires c = let a = c.args in
    record {
      packable_tick = packable _ _ _ _ a.state.now c.tick-answer.ensures (omega (arith, c.if-board-ge65536.false));
      state_len = c.if-state-ne8.false;
    }

pub packed-requires : goal.packed-requires
packed-requires c =
    let a = c.args in packable _ _ _ _ a.state.now c.tick-answer.ensures (omega (arith, c.if-board-ge65536.false))

pub returns : goal.returns
returns c =
    probed _ _ _ _ _ c.tick-answer.ensures (omega (arith, c.if-board-ge65536.false)) c.if-state-ne8.false c.packed.ensures c.note.ensures
