-- What is put at the start of a buffer is the line that it holds.
use Prim.Native.Nat.{ℕ, ◌+◌, ◌≤◌}
use mathlib.Core.Path.{◌≡◌, ap, sym, ◌∙◌}
use mathlib.Core.List.{List, ◌++◌}
use native.Mathlib.Omega.{arith}
use lib.ListN.{length, drop}
use lib.Seq.{sets-eq, length-sets, take_at, drop_at}
use Rattle.text.specs.Buffers.{Puts}
use Rattle.lines.specs.Buffers.{Holds}

-- a line put at the start of a buffer that has room for it
at_start : {before line after : List ℕ} {size : ℕ} → Puts before 0 line after size → size ≤ length before → Holds before line after size
at_start {before} {line} {after} {size} p h =
    let sized : length line ≡ size = omega (arith, p.passed) in
    let parts : after ≡ line ++ drop (0 + length line) before = p.placed ∙ sets-eq line before 0 (omega arith) in
    record {
      held = rw parts (take_at line (drop (0 + length line) before) size sized);
      behind = rw parts (drop_at line (drop (0 + length line) before) size sized ∙ ap (λ n. drop n before) (sym p.passed));
      within = rw (p.placed, length-sets before 0 line) h;
    }

-- the same where the text began on that buffer, and was let go
pub held : {before start line after end : List ℕ} {at size : ℕ} → start ≡ before → at ≡ 0 → Puts start at line after size
    → size ≤ length before → end ≡ after → Holds before line end size
held same none p h is = rw is (at_start (rw (same, none) at p) h)
