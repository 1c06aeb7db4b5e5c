-- `instant` meets its contract: after a refusal nothing is stored, else what was shown is ready to be stored.
use mathlib.Core.Path.{sym, ap, ◌∙◌}
use Rattle.in_rounds.specs.Showing.{rounds_of}
use Rattle.in_rounds.proofs.instant.Goals as goal

pub store-requires : goal.store-requires
store-requires c = (c.show.ensures.accepted c.in_ok-shown.was).settled

pub returns : goal.returns
returns c =
    let shown = c.show.ensures in
    let ready = shown.accepted c.in_ok-shown.was in
    record {
      answers = ap rounds_of (sym c.in_ok-shown.was) ∙ shown.shows.answers;
      stores = c.store.ensures ready.settled ∙ ready.stores;
      writes = shown.shows.writes;
    }
