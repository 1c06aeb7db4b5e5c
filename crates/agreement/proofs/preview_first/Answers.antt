-- `preview_first` meets its contract, from those of the two calls.
use Rattle.kernel.proofs.Laws.Previews.{preview_agrees}
use Rattle.agreement.proofs.preview_first.Goals as goal

pub returns : goal.returns
returns c = let shows = c.preview-preview.ensures in
    let leaves = c.instant-instant.ensures in
    record {
      preview = shows;
      instant = leaves;
      agrees = λ sized. preview_agrees _ _ _ _ _ sized shows leaves;
    }
