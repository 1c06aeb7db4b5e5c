-- `put_fixed` meets its contract: the words of the kept wires' cells stand behind those of the inputs.
use Prim.Native.Nat.{◌+◌}
use mathlib.Core.Path.{◌∙◌}
use native.Mathlib.Omega.{arith}
use Rattle.leaves.specs.Words.{first_input, InputsPut}
use Rattle.given.proofs.put_fixed.Goals as goal

pub returns : goal.returns
unfolding InputsPut
returns c =
    let put = c.put_inputs.ensures.0 in
    let lasts = c.put_lasts.ensures in
    let few = c.requires.2 in
    (λ i l. lasts.2 (first_input + i) (omega arith) ∙ put i l, lasts.0, lasts.1)
