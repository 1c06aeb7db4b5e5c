-- `bytes` meets its contract. The loop's invariant: the bytes that are left read as all of them do.
use Prim.Native.Nat.{◌-◌}
use mathlib.Core.Path.{◌≡◌}
use Rattle.sheet.specs.Headers.{bytes_of}
use Rattle.sheet_header.proofs.bytes.Given as goal

abbrev pub invariant-loop-byte : goal.invariant-loop-byte
invariant-loop-byte l = bytes_of l.sheet (l.count - l._byte) l.place l.low l.limit l.rising l.wrong l.count
    ≡ bytes_of l.sheet l.count l.at 0 l.limit l.rising l.wrong l.count
