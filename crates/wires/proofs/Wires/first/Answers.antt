-- `Wires::first` meets its contract: a power of two less one has all digits below its own.
use Prim.Native.Nat.{◌<◌}
use native.Mathlib.Omega.{arith}
use Rattle.wires.proofs.Bits.{first-is, power_is}
use Rattle.wires.proofs.Wires.first.Goals as goal

-- a shift by less than 64 loses nothing
few : (c : goal.Else-count-eq64) → c.args.count < 64
few c = omega (arith, c.requires)

pub returns-then-count-eq64 : goal.returns-then-count-eq64
returns-then-count-eq64 c = λ k. rw c.if-count-eq64.true (first-is 64 k)

pub returns : goal.returns
returns c = λ k. let n = c.args.count in rw (power_is n (few c)) (first-is n k)
