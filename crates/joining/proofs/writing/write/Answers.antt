-- `write` meets its contract: the sections one behind the other, and then the expressions, are the joined sheet.
use mathlib.Core.Path.{◌∙◌, refl}
use mathlib.Core.Logic.{inl}
use native.Mathlib.Omega.{arith}
use Rattle.joining.proofs.Cutting.{begin_inputs, begin_wires, begin_outputs, begin_first, begin_second, puts-joined}
use Rattle.joining.proofs.writing.write.Goals as goal

pub bounds-first-0 : goal.bounds-first-0
bounds-first-0 c = omega (arith, (begin_inputs c.requires).one)

pub put_section-at-requires : goal.put_section-at-requires
put_section-at-requires c = begin_inputs c.requires

pub behind-first-requires : goal.behind-first-requires
behind-first-requires c = (begin_inputs c.requires).one

pub behind-second-requires : goal.behind-second-requires
behind-second-requires c = (begin_inputs c.requires).other

-- both begin with the wires
pub bounds-first-0-2 : goal.bounds-first-0-2
bounds-first-0-2 c = omega (arith, (begin_wires c.requires c.behind-first.ensures c.behind-second.ensures c.put_section-at.ensures.value c.put_section-at.auto.joined).one)

pub put_section-at-requires-2 : goal.put_section-at-requires-2
put_section-at-requires-2 c = begin_wires c.requires c.behind-first.ensures c.behind-second.ensures c.put_section-at.ensures.value c.put_section-at.auto.joined

pub behind-first-requires-2 : goal.behind-first-requires-2
behind-first-requires-2 c = (begin_wires c.requires c.behind-first.ensures c.behind-second.ensures c.put_section-at.ensures.value c.put_section-at.auto.joined).one

pub behind-second-requires-2 : goal.behind-second-requires-2
behind-second-requires-2 c = (begin_wires c.requires c.behind-first.ensures c.behind-second.ensures c.put_section-at.ensures.value c.put_section-at.auto.joined).other

-- and then with the outputs
pub put_section-at-requires-3 : goal.put_section-at-requires-3
put_section-at-requires-3 c = begin_outputs c.requires c.behind-first.ensures c.behind-second.ensures c.put_section-at.ensures.value c.put_section-at.auto.joined
    c.behind-first-2.ensures c.behind-second-2.ensures c.put_section-at-2.ensures.value c.put_section-at-2.auto.joined

pub behind-requires : goal.behind-requires
behind-requires c = (begin_outputs c.requires c.behind-first.ensures c.behind-second.ensures c.put_section-at.ensures.value c.put_section-at.auto.joined
    c.behind-first-2.ensures c.behind-second-2.ensures c.put_section-at-2.ensures.value c.put_section-at-2.auto.joined).one

pub put_raised-at-requires : goal.put_raised-at-requires
put_raised-at-requires c = (
  begin_first c.requires c.behind-first.ensures c.behind-second.ensures c.put_section-at.ensures.value c.put_section-at.auto.joined
      c.behind-first-2.ensures c.behind-second-2.ensures c.put_section-at-2.ensures.value c.put_section-at-2.auto.joined
      c.behind.ensures c.put_section-at-3.ensures.value c.put_section-at-3.auto.joined,
  inl refl,
)

pub behind-requires-2 : goal.behind-requires-2
behind-requires-2 c = (begin_outputs c.requires c.behind-first.ensures c.behind-second.ensures c.put_section-at.ensures.value c.put_section-at.auto.joined
    c.behind-first-2.ensures c.behind-second-2.ensures c.put_section-at-2.ensures.value c.put_section-at-2.auto.joined).other

pub put_shifted-requires : goal.put_shifted-requires
put_shifted-requires c = begin_second c.requires c.behind-first.ensures c.behind-second.ensures c.put_section-at.ensures.value c.put_section-at.auto.joined
    c.behind-first-2.ensures c.behind-second-2.ensures c.put_section-at-2.ensures.value c.put_section-at-2.auto.joined
    c.behind.ensures c.put_section-at-3.ensures.value c.put_section-at-3.auto.joined
    c.behind-2.ensures c.put_raised-at.ensures.value c.put_raised-at.auto.joined

pub shape_of-joined : goal.shape_of-joined
shape_of-joined c =
    c.put_shifted.auto.joined ∙ c.put_raised-at.auto.joined ∙ c.put_section-at-3.auto.joined ∙ c.put_section-at-2.auto.joined
    ∙ c.put_section-at.auto.joined

pub returns : goal.returns
returns c =
    puts-joined c.requires c.behind-first.ensures c.behind-second.ensures c.put_section-at.ensures.value c.put_section-at.auto.joined
    c.behind-first-2.ensures c.behind-second-2.ensures c.put_section-at-2.ensures.value c.put_section-at-2.auto.joined
    c.behind.ensures c.put_section-at-3.ensures.value c.put_section-at-3.auto.joined
    c.behind-2.ensures c.put_raised-at.ensures.value c.put_raised-at.auto.joined c.put_section-at.ensures.puts c.put_section-at-2.ensures.puts c.put_section-at-3.ensures.puts
    c.put_raised-at.ensures.puts c.put_shifted.ensures c.put_shifted.auto.joined
