-- `first_line` meets its contract: by whether the sheet is complete.
use mathlib.Core.Path.{sym, ◌∙◌}
use Rattle.play.proofs.Giving.{final}
use Rattle.play.proofs.Sheet.{short-text, complete_text, complete_whole}
use borrow.Author.Rules.{rules}
use Rattle.play.proofs.first_line.Goals as goal

pub sheet_line-requires : goal.sheet_line-requires
sheet_line-requires c = record {
  room = search rules;
  bytes_in_bounds = complete_whole c.args.bytes.now (sym c.complete.ensures ∙ c.if-complete.true);
}

pub returns-then-complete : goal.returns-then-complete
returns-then-complete c = rw (complete_text c.args.bytes.now (sym c.complete.ensures ∙ c.if-complete.true)) c.sheet_line.ensures

pub returns : goal.returns
returns c = final c.final_line.ensures c.short_line.ensures (short-text c.args.bytes.now (sym c.complete.ensures ∙ c.if-complete.false))
