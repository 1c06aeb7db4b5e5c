-- What a wire of the map waits for, and the lowest loop of all of them.
use Prim.Native.Nat.{ℕ, ◌<◌}
use mathlib.Core.Path.{◌≡◌, sym, ap, ◌∙◌}
use mathlib.Core.Bool.{true, false, ◌&&◌}
use mathlib.Core.List.{List}
use lib.ListN.{length, get_or}
use Rattle.wires.specs.Sets.{member}
use Rattle.sheet.specs.Lists.{among}
use Rattle.sheet.specs.Data.{plain_byte}
use Rattle.sheet.specs.Sheets.{cells_before}
use Rattle.closure.specs.Closures.{lowest_loop}
use Rattle.kernel.specs.Values.{is_unknown}
use Rattle.kernel.specs.Order.{value_at}
use Rattle.kernel.specs.Waits.{wires_awaited, waits_for, lowest_waiting}
use Rattle.kernel.specs.Calls.{place_of_loop}
use Rattle.kernel.proofs.Laws.Order.{known-not}
use Rattle.kernel.proofs.Laws.Kept.{tree-awaited}
use Rattle.expression.specs.Places.{Placement}
use Rattle.sheet_walk.specs.declared.Place.{Place}
use Rattle.rounds.specs.Running.{RunningUnder, mapped}
use Rattle.rounds.proofs.Rounding.{held-known, out-unknown}
use Rattle.rounds.proofs.Wires.{wires-counted, environment_of, wire-placed}
use Rattle.waiting.specs.Waiting.{Awaits, waits_in}
use Rattle.waiting.specs.declared.awaited.Waited.{Waited}

module _ {s memory row types places firsts words : List ℕ} {bits : ℕ} (u : RunningUnder s memory row types places firsts bits words)
    (wire : ℕ) (l : wire < length types) where
  -- a known wire waits for none
  pub known-row : member bits wire ≡ true → (none : ℕ) → ((w : ℕ) → member none w ≡ false)
      → (w : ℕ) → member none w ≡ waits_in u wire w
  unfolding waits_for
  known-row there none empty w = empty w ∙ sym (rw (known-not (held-known there (u.holds.each wire l))))

  -- where the expression of the wire stands
  abbrev pub standing : {here : Place} → here ≡ mapped places firsts wire
      → Placement s memory words bits 16 (plain_byte (get_or types wire 0)) here.at here.cell
  standing = wire-placed u.running u.holds u.typed wire l

  -- an unknown one waits for what its expression waits for
  pub unknown-row : member bits wire ≡ false → {here : Place} (is : here ≡ mapped places firsts wire)
      → {found : Waited} → Awaits (standing is) false found → (w : ℕ) → member found.wires.bits w ≡ waits_in u wire w
  unfolding waits_for
  unknown-row missing is awaits w =
      let now = environment_of u.running u.values in
      let at = u.running.starts wire l in
      let first = cells_before u.running.given.sheet.expressions wire in
      let unknown = out-unknown u.holds wire missing in
      let within = tree-awaited now false (get_or types wire 0) at.tree first in
      awaits.same w
      ∙ (ap (λ k. is_unknown (value_at u.values w) && among w (wires_awaited now false at.tree k)) (ap (λ x. x.cell) is ∙ at.first)
      ∙ (ap (λ ws. is_unknown (value_at u.values w) && among w ws) (sym within) ∙ sym (rw (unknown, at.whole))))

-- the lowest loop of all sets is the place of 20
pub lowest-place : {s memory row types places firsts words : List ℕ} {bits : ℕ} (u : RunningUnder s memory row types places firsts bits words)
    → lowest_loop (waits_in u) (length types) ≡ place_of_loop u.running.given u.values
unfolding place_of_loop lowest_waiting
lowest-place u = ap (lowest_loop (waits_in u)) (sym (wires-counted u.running))
