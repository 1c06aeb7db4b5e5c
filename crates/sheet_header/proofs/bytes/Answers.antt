-- `bytes` meets its contract. The loop's invariant: the bytes that are left read as all of them do.
use Prim.Native.Nat.{◌+◌, ◌-◌}
use mathlib.Core.Path.{◌≡◌, sym, ◌∙◌}
use native.Mathlib.Omega.{arith}
use Rattle.std.proofs.lemmas.Result.{err_from_is_err_and}
use Rattle.sheet.specs.Headers.{bytes_of}
use Rattle.sheet.specs.Laws.Headers.{field_good}
use Rattle.sheet_header.proofs.Fields.{byte_good, byte-refused}
use Rattle.sheet_header.proofs.bytes.Goals as goal

pub returns-in_err-one : goal.returns-in_err-one
returns-in_err-one c =
    let a = c.args in
    let l = c.loop-byte in
    let p = err_from_is_err_and c.from_residual.result c.from_residual.ensures.1 in
    rw (p.1, p.2) (byte-refused a.sheet.now a.limit a.rising a.wrong a.count (a.count - l._byte) l.place l.low (omega arith)
    (sym c.in_err-one.ensures) ∙ l.invariant)

pub least-low-requires : goal.least-low-requires
least-low-requires c =
    let a = c.args in
    let l = c.loop-byte in
    omega (arith, (field_good a.sheet.now l.place l.low a.limit a.wrong (sym c.in_ok-one.ensures)).below, c.ranges.limit.fits)

pub loop-byte-preserved : goal.loop-byte-preserved
loop-byte-preserved c =
    let a = c.args in
    let l = c.loop-byte in
    let left : a.count - (l._byte + 1) ≡ a.count - l._byte - 1 = omega arith in
    rw (left, c.least-low.ensures)
    (byte_good a.sheet.now a.limit a.rising a.wrong a.count (a.count - l._byte) l.place l.low (omega arith) (sym c.in_ok-one.ensures)
    ∙ l.invariant)

pub returns : goal.returns
unfolding bytes_of
returns c = let none : c.args.count - c.loop-byte._byte ≡ 0 = omega arith in rw none at c.loop-byte.invariant
