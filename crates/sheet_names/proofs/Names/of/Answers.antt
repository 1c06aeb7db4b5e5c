-- `of` meets its contract, which is a law of the names and of the sets among them.
use Rattle.sheet_names.proofs.Naming.{names-are}
use Rattle.sheet_names.proofs.Names.of.Goals as goal

pub returns : goal.returns
returns c = let p = c.requires in
    let of-wires = c.types_of-of_wires.ensures in
    record {
      naming = names-are p.inputs_len_bound.0 p.by_index p.inputs_len_bound.1 c.types_of-of_inputs.ensures of-wires;
      result_value = of-wires.counted;
    }
