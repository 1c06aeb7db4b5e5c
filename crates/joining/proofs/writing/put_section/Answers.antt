-- `put_section` meets its contract: the sum of the counts, and behind it the bytes of both.
use Prim.Native.Nat.{◌+◌}
use mathlib.Core.Path.{◌≡◌, refl, ap, ◌∙◌}
use mathlib.Core.Logic.{inl}
use native.Mathlib.Omega.{arith}
use lib.ListN.{length, get_or, length-set}
use Rattle.join.specs.Bytes.{section}
use Rattle.joining.proofs.Putting.{put-section}
use Rattle.joining.proofs.Cutting.{section-length}
use Rattle.joining.proofs.writing.put_section.Goals as goal

pub put_raised-next-requires : goal.put_raised-next-requires
put_raised-next-requires c =
    (simp length-set (omega (arith, ap length c.section.ensures, c.requires.fits)), inl refl)

pub put_raised-requires : goal.put_raised-requires
put_raised-requires c =
    let long : length c.put_raised-next.new.joined ≡ length c.args.joined.now = c.put_raised-next.auto.joined ∙ simp length-set in (
      omega (arith, c.put_raised-next.ensures.value, ap length c.section.ensures, ap length c.section-2.ensures, c.requires.fits),
      rw c.section-2.ensures c.requires.rises,
    )

pub shape_of-joined : goal.shape_of-joined
shape_of-joined c =
    c.put_raised.auto.joined ∙ c.put_raised-next.auto.joined ∙ simp length-set

pub returns : goal.returns
returns c =
    let a = c.args in
    let first = c.section.ensures in
    let second = c.section-2.ensures in
    let place = c.put_raised-next.ensures.value in
    let begins = c.put_raised-next.ensures.puts in
    let end = c.put_raised.ensures.value in
    let ends = c.put_raised.ensures.puts in
    let counts : get_or a.first.now 0 0 + get_or a.second.now 0 0 ≡ length (section a.first.now) + length (section a.second.now) =
    omega (arith, section-length a.first.now c.requires.one, section-length a.second.now c.requires.other) in
    record {
      value = omega (arith, end, place, ap length first, ap length second);
      puts = put-section a.joined.now a.at _ (section a.first.now) (section a.second.now) a.raise
          (omega (arith, c.requires.fits)) counts (rw first at begins) (place ∙ rw first) (rw second at ends);
    }
