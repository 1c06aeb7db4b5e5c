-- What the wires of a joined sheet read within the instant: those of the first what they read alone, those of the second the same, raised.
use Rattle.std.specs.Prelude.{◌≡◌, length}
use Rattle.std.proofs.Math.Path.{refl}
use Prim.Native.Nat.{ℕ, zero, suc, ◌+◌, ◌<◌}
use Rattle.std.proofs.Common.{zero-add, suc-add, arith}
use mathlib.Core.List.{List, [], ◌∷◌, ◌++◌, map, map-append}
use Rattle.sheet.specs.Expressions.{Expression, constant, wire, input, last, unary, binary, conditional, switch, pre, fby, kept}
use Rattle.sheet.specs.Expressions.{Alternatives, only, either}
use Rattle.sheet.specs.Reads.{wires_read, wires_in}
use Rattle.kernel.specs.Instants.{reads_at}
use Rattle.join.specs.Joined.{shifted, shifted_in, shifted_numbers}

-- One list of expressions after another.
pub reads_at-first : (es fs : List Expression) (w : ℕ) → w < length es → reads_at (es ++ fs) w ≡ reads_at es w
unfolding reads_at
reads_at-first [] fs w l = absurd (omega arith)
reads_at-first (e ∷ es) fs zero l = refl
reads_at-first (e ∷ es) fs (suc w) l = reads_at-first es fs w (omega arith)

pub reads_at-second : (es fs : List Expression) (w : ℕ) → reads_at (es ++ fs) (length es + w) ≡ reads_at fs w
unfolding reads_at
reads_at-second [] fs w = rw zero-add
reads_at-second (e ∷ es) fs w = rw suc-add (reads_at-second es fs w)

-- Raised numbers.
module _ (wires inputs : ℕ) where
  mutual
    unfolding shifted wires_read

    pub shifted-reads : (e : Expression) → wires_read (shifted wires inputs e) ≡ shifted_numbers wires (wires_read e)
    shifted-reads (constant d) = refl
    shifted-reads (wire w) = refl
    shifted-reads (input i) = refl
    shifted-reads (last w) = refl
    shifted-reads (unary o a) = shifted-reads a
    shifted-reads (binary o a b) = simp (shifted-reads a, shifted-reads b, map-append)
    shifted-reads (conditional c a b) = simp (shifted-reads c, shifted-reads a, shifted-reads b, map-append)
    shifted-reads (switch o cs bs) = simp (reads_in cs, reads_in bs, map-append)
    shifted-reads (pre d a) = refl
    shifted-reads (fby t a b) = shifted-reads a
    shifted-reads (kept t a) = shifted-reads a

    reads_in : (xs : Alternatives) → wires_in (shifted_in wires inputs xs) ≡ shifted_numbers wires (wires_in xs)
    reads_in (only a) = shifted-reads a
    reads_in (either a b) = simp (shifted-reads a, shifted-reads b, map-append)

  pub shifted-reads_at : (es : List Expression) (w : ℕ) → reads_at (map (shifted wires inputs) es) w ≡ shifted_numbers wires (reads_at es w)
  unfolding reads_at
  shifted-reads_at [] w = refl
  shifted-reads_at (e ∷ es) zero = shifted-reads e
  shifted-reads_at (e ∷ es) (suc w) = shifted-reads_at es w
