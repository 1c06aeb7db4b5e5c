-- Runs of bytes put into a memory: in either order, where they stood already, and what lies behind them.
use Prim.Native.Nat.{ℕ, suc, ◌+◌, ◌≤◌, ◌<◌}
use mathlib.Core.Path.{◌≡◌, refl, ap, ◌∙◌}
use mathlib.Core.List.{List, [], ◌∷◌}
use native.Mathlib.Omega.{arith}
use lib.ListN.{length, set, take, drop, length-drop, take-append-drop}
use lib.Seq.{sets, sets-eq, set_comm, drop-set-lt, length-take-le, take-add}

set_below : (ws l : List ℕ) (i j a : ℕ) → i < j → set (sets l j ws) i a ≡ sets (set l i a) j ws
set_below [] l i j a h = refl
set_below (w ∷ ws) l i j a h =
    set_below ws (set l j w) i (suc j) a (omega arith) ∙ ap (λ m. sets m (suc j) ws) (set_comm l j i w a (λ e. omega arith))

pub sets-turned : (vs ws l : List ℕ) (i j : ℕ) → i + length vs ≤ j → sets (sets l j ws) i vs ≡ sets (sets l i vs) j ws
sets-turned [] ws l i j h = refl
sets-turned (v ∷ vs) ws l i j h =
    ap (λ m. sets m (suc i) vs) (set_below ws l i j v (omega arith)) ∙ sets-turned vs ws (set l i v) (suc i) j (omega arith)

pub sets_same : (l : List ℕ) (i n : ℕ) → i + n ≤ length l → sets l i (take n (drop i l)) ≡ l
sets_same l i n h =
    let sized : length (take n (drop i l)) ≡ n = length-take-le n (drop i l) (omega (arith, length-drop i l)) in
    sets-eq (take n (drop i l)) l i (omega (arith, sized)) ∙ rw (sized, ← take-add i n l) (take-append-drop (i + n) l)

pub drop_past : (vs l : List ℕ) (i n : ℕ) → i + length vs ≤ n → drop n (sets l i vs) ≡ drop n l
drop_past [] l i n h = refl
drop_past (v ∷ vs) l i n h = drop_past vs (set l i v) (suc i) n (omega arith) ∙ drop-set-lt n l i v (omega arith)
