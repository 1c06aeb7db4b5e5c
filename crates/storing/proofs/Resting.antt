-- An arm that does not advance: restarted where it is fresh, and else as it was.
use Prim.Native.Nat.{ℕ}
use mathlib.Core.Path.{◌≡◌, sym}
use mathlib.Core.Bool.{true, false}
use mathlib.Core.List.{List}
use native.Mathlib.Omega.{arith}
use lib.ListN.{length}
use Rattle.sheet.specs.Laws.Readings.{forms_length, expression_extent}
use Rattle.sheet_walk.specs.declared.Place.{Place}
use Rattle.kernel.specs.Instant.{resting}
use Rattle.storing.specs.Advances.{Room, Restarts, Arm, Rests}
use Rattle.storing.proofs.Standing.{put-again}

module _ {sheet memory : List ℕ} {here : Place} (p : Arm sheet memory here) where
  abbrev pub arm-room : Room sheet (length memory) here
  arm-room = record { place = p.place; fits = p.room }

  pub arm-anew : {r : Place} {after : List ℕ} → Restarts p.place memory r after → Rests p true r after
  unfolding resting
  arm-anew h = record { answer = h.answer; holds = h.holds }

  pub arm-still : {r : Place} → r ≡ record { at = p.place.next; cell = p.place.count } → Rests p false r memory
  unfolding resting
  arm-still e =
      let q = p.place in
      let counted = (expression_extent q.inputs q.wires sheet q.level q.asked here.at here.cell q.reads).counted in
      let sized = forms_length q.tree in
      record { answer = e; holds = sym (rw sized at (put-again p.cells (omega (arith, counted, sized, p.within)))) }
