-- `put_bytes` puts the text: a part written whole.
use mathlib.Core.Path.{refl}
use native.Mathlib.Omega.{arith}
use Rattle.numbers.specs.Laws.{spliced}
use Rattle.text.proofs.put_bytes.Goals as goal

pub returns : goal.returns
returns c = record {
  placed = spliced c.args.buffer.now c.args.at _ (omega arith) c.copy_from_slice.ensures.after refl;
  passed = refl;
}
