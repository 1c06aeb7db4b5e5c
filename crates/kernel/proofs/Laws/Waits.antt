-- What an expression waits for: nothing unknown where its value is known, an unknown wire where it is not, and only what it reads within
-- the instant; and once its value is known, more known wires change nothing of it.
use Rattle.std.specs.Prelude.{◌≡◌, refl, ℕ, suc, ◌+◌, Bool, true, false, ◌||◌, cond, List, [], ◌∷◌, ◌++◌, length}
use Rattle.std.proofs.Math.Bool.{or-true}
use Rattle.sheet.specs.Lists.{among, Every, none, ◌and◌}
use Rattle.sheet.specs.Reads.{wires_read, wires_in}
use Rattle.sheet.specs.Expressions.{Expression, constant, wire, input, last, unary, binary, conditional, switch, pre, fby, kept}
use Rattle.sheet.specs.Expressions.{Alternatives, only, either, Switch, present, reset, machine, switch_forms, cell_count, count_in}
use Rattle.sheet.specs.Laws.Lists.{never, every_append, every-join, every_holds, every-among, among-append, among-head, among-each}
use Rattle.sheet.specs.declared.Datum.{Datum}
use Rattle.sheet.specs.declared.Cell.{Cell}
use Rattle.sheet.specs.declared.Cell.TheVariants.{NotStarted, Started}
use Rattle.kernel.specs.Values.{truth, when_known, IsKnown, known}
use Rattle.kernel.specs.Order.{◌⊑◌, unknown, same, ◌⊑*◌, value_at}
use Rattle.kernel.specs.Instant.{Environment, input_at, cell_at, known_or, state_of, second_runs, makes_fresh, value, value_in}
use Rattle.kernel.proofs.Laws.Order.{not_known}
use Rattle.kernel.proofs.Laws.Switches.{picked}
use Rattle.kernel.specs.Waits.{once_known, left_awaited, wires_awaited, awaited_in}
use Rattle.kernel.specs.declared.Value.{Value}
use Rattle.kernel.specs.declared.Value.TheVariants.{Unknown, Known}

among_first : (w : ℕ) (xs ys : List ℕ) → among w xs ≡ true → among w (xs ++ ys) ≡ true
among_first w xs ys e = rw (among-append w xs ys, e)

among_second : (w : ℕ) (xs ys : List ℕ) → among w ys ≡ true → among w (xs ++ ys) ≡ true
among_second w xs ys e = rw (among-append w xs ys, e) (or-true (among w xs))

-- One induction for what holds of a value and of the wires from which it is worked out, in two environments: R is of the two values and
-- the two lists.
record Carried (R : Value → Value → List ℕ → List ℕ → Type 0) : Type 0 where
  sure : (d : Datum) → R (Known d) (Known d) [] []
  operand : {u v : Value} {us vs : List ℕ} (f : Datum → Datum) → R u v us vs
      → R (when_known u (λ x. Known (f x))) (when_known v (λ x. Known (f x))) us vs
  -- what is worked out after a value counts whether it is known or not
  strict : {u v : Value} {f g : Datum → Value} {us vs ws xs : List ℕ} → R u v us vs → ((d : Datum) → R (f d) (g d) ws xs)
      → R (when_known u f) (when_known v g) (us ++ ws) (vs ++ xs)
  -- ... or counts only once it is known
  once : {u v : Value} {f g : Datum → Value} {us vs : List ℕ} {h i : Datum → List ℕ} → R u v us vs
      → ((d : Datum) → R (f d) (g d) (h d) (i d)) → R (when_known u f) (when_known v g) (us ++ once_known u h) (vs ++ once_known v i)

module _ (R : Value → Value → List ℕ → List ℕ → Type 0) (carried : Carried R) (s t : Environment)
    (inputs : s.inputs ≡ t.inputs) (lasts : s.lasts ≡ t.lasts) (memory : s.memory ≡ t.memory)
    (wires : (w : ℕ) → R (value_at s.wires w) (value_at t.wires w) (w ∷ []) (w ∷ [])) where
  open carried use {sure, operand, strict, once}

  both-picked : (second : Bool) {u v x y : Value} {us vs xs ys : List ℕ} → R u x us xs → R v y vs ys
      → R (cond second v u) (cond second y x) (cond second vs us) (cond second ys xs)
  both-picked true p q = q
  both-picked false p q = p

  same-state : (o : Switch) (fresh : Bool) (k : ℕ) → state_of s fresh o k ≡ state_of t fresh o k
  same-state present fresh k = refl
  same-state reset fresh k = refl
  same-state machine fresh k = rw memory

  from_cell : (c : Cell) {u v : Value} {us vs : List ℕ} → R u v us vs → R (known_or u c) (known_or v c) (left_awaited us c) (left_awaited vs c)
  from_cell NotStarted p = p
  from_cell (Started d) p = sure d

  mutual
    unfolding value wires_awaited

    each : (e : Expression) (fresh : Bool) (k : ℕ)
        → R (value s fresh e k) (value t fresh e k) (wires_awaited s fresh e k) (wires_awaited t fresh e k)
    each (constant d) fresh k = sure d
    each (wire w) fresh k = wires w
    each (input i) fresh k = rw inputs (sure (input_at t.inputs i))
    each (last w) fresh k = rw lasts (sure _)
    each (unary o a) fresh k = operand _ (each a fresh k)
    each (binary o a b) fresh k = strict (each a fresh k) (λ x. operand _ (each b fresh (k + cell_count a)))
    each (conditional c a b) fresh k =
        strict (each c fresh k) (λ z.
        strict (each a fresh (k + cell_count c)) (λ x. operand (λ y. cond (truth z) x y) (each b fresh (k + cell_count c + cell_count a))))
    each (switch o cs bs) fresh k =
        let state = state_of t fresh o k in
        let first = k + length (switch_forms o) in
        rw (same-state o fresh k)
        (once (each_in cs state fresh first) (λ x.
        each_in bs (second_runs o state (truth x)) (makes_fresh o (truth x) || fresh) (first + count_in cs)))
    each (pre d a) fresh k = rw memory (sure _)
    each (fby x a b) fresh k = rw memory (from_cell (cond fresh NotStarted (cell_at t.memory k)) (each a fresh (suc k)))
    each (kept x a) fresh k = each a fresh (suc k)

    each_in : (xs : Alternatives) (second fresh : Bool) (k : ℕ)
        → R (value_in s second fresh xs k) (value_in t second fresh xs k) (awaited_in s second fresh xs k) (awaited_in t second fresh xs k)
    each_in (only a) second fresh k = each a fresh k
    each_in (either a b) second fresh k = both-picked second (each a fresh k) (each b fresh (k + cell_count a))

-- Under the values of one environment.
module _ (now : Environment) where
  abbrev KnownAt : ℕ → Type 0
  KnownAt w = IsKnown (value_at now.wires w)

  -- all wires are known where the value is, and one is unknown where it is
  data WorkedOut : Value → Value → List ℕ → List ℕ → Type 0 where
    all_known : {d : Datum} {v : Value} {ws xs : List ℕ} → Every KnownAt ws → WorkedOut (Known d) v ws xs
    one-unknown : {v : Value} {ws xs : List ℕ} (w : ℕ) → among w ws ≡ true → value_at now.wires w ≡ Unknown
        → WorkedOut Unknown v ws xs

  behind : {u v x : Value} {us ws xs ys : List ℕ} → Every KnownAt us → WorkedOut u v ws xs → WorkedOut u x (us ++ ws) ys
  behind h (all_known k) = all_known (every-join h k)
  behind {us = us} h (one-unknown {ws = ws} w m u) = one-unknown w (among_second w us ws m) u

  worked_carried : Carried WorkedOut
  worked_carried = record { sure = λ d. all_known none; operand = operand; strict = strict; once = once }
    where
      operand : {u v : Value} {us vs : List ℕ} (f : Datum → Datum) → WorkedOut u v us vs
          → WorkedOut (when_known u (λ x. Known (f x))) (when_known v (λ x. Known (f x))) us vs
      operand f (all_known h) = all_known h
      operand f (one-unknown w m u) = one-unknown w m u

      strict : {u v : Value} {f g : Datum → Value} {us vs ws xs : List ℕ} → WorkedOut u v us vs
          → ((d : Datum) → WorkedOut (f d) (g d) ws xs) → WorkedOut (when_known u f) (when_known v g) (us ++ ws) (vs ++ xs)
      strict (all_known {d = d} h) later = behind h (later d)
      strict {us = us} {ws = ws} (one-unknown w m u) later = one-unknown w (among_first w us ws m) u

      once : {u v : Value} {f g : Datum → Value} {us vs : List ℕ} {h i : Datum → List ℕ} → WorkedOut u v us vs
          → ((d : Datum) → WorkedOut (f d) (g d) (h d) (i d))
          → WorkedOut (when_known u f) (when_known v g) (us ++ once_known u h) (vs ++ once_known v i)
      once (all_known {d = d} k) later = behind k (later d)
      once {us = us} (one-unknown w m u) later = one-unknown w (among_first w us [] m) u

  worked_out : (e : Expression) (fresh : Bool) (k : ℕ)
      → WorkedOut (value now fresh e k) (value now fresh e k) (wires_awaited now fresh e k) (wires_awaited now fresh e k)
  worked_out = each WorkedOut worked_carried now now refl refl refl (λ w. itself w (value_at now.wires w) refl)
    where
      itself : (w : ℕ) (v : Value) → value_at now.wires w ≡ v → WorkedOut v v (w ∷ []) (w ∷ [])
      itself w Unknown e = one-unknown w (among-head w []) e
      itself w (Known d) e = let h : KnownAt w = rw e known in all_known (h and none)

  -- a known expression waits for no unknown wire
  pub known-awaits : (e : Expression) (fresh : Bool) (k : ℕ) → IsKnown (value now fresh e k) → Every KnownAt (wires_awaited now fresh e k)
  known-awaits e fresh k = go (worked_out e fresh k)
    where
      go : {u v : Value} {ws xs : List ℕ} → WorkedOut u v ws xs → IsKnown u → Every KnownAt ws
      go (all_known h) known = h
      go (one-unknown w _ _) h = elim h [ ]

  -- so whether a known condition counts changes nothing for an unknown wire
  pub known-passed : (e : Expression) (fresh : Bool) (k : ℕ) → IsKnown (value now fresh e k) → (w : ℕ)
      → value_at now.wires w ≡ Unknown → among w (wires_awaited now fresh e k) ≡ false
  known-passed e fresh k h w u = go (among w (wires_awaited now fresh e k)) refl
    where
      go : (t : Bool) → among w (wires_awaited now fresh e k) ≡ t → t ≡ false
      go false a = refl
      go true a = not_known (every_holds w (known-awaits e fresh k h) a) u

  -- an unknown one waits for at least one
  pub unknown-awaits : (e : Expression) (fresh : Bool) (k : ℕ) → value now fresh e k ≡ Unknown
      → (w : ℕ) × (among w (wires_awaited now fresh e k) ≡ true) × (value_at now.wires w ≡ Unknown)
  unknown-awaits e fresh k = go (worked_out e fresh k)
    where
      go : {u v : Value} {ws xs : List ℕ} → WorkedOut u v ws xs → u ≡ Unknown
          → (w : ℕ) × (among w ws ≡ true) × (value_at now.wires w ≡ Unknown)
      go (all_known h) e = never (cc)
      go (one-unknown w m u) e = (w, m, u)

  -- What holds of all that is read within the instant holds of all that is waited for.
  module _ (P : ℕ → Type 0) where
    once-within : (v : Value) {f : Datum → List ℕ} → ((d : Datum) → Every P (f d)) → Every P (once_known v f)
    once-within Unknown h = none
    once-within (Known d) h = h d

    left-within : (c : Cell) {ws : List ℕ} → Every P ws → Every P (left_awaited ws c)
    left-within NotStarted p = p
    left-within (Started d) p = none

    mutual
      unfolding wires_read wires_awaited

      awaited-within : (e : Expression) (fresh : Bool) (k : ℕ) → Every P (wires_read e) → Every P (wires_awaited now fresh e k)
      awaited-within (constant d) fresh k h = none
      awaited-within (wire w) fresh k h = h
      awaited-within (input i) fresh k h = none
      awaited-within (last w) fresh k h = none
      awaited-within (unary o a) fresh k h = awaited-within a fresh k h
      awaited-within (binary o a b) fresh k h =
          let (p, q) = every_append (wires_read a) (wires_read b) h in
          every-join (awaited-within a fresh k p) (awaited-within b fresh (k + cell_count a) q)
      awaited-within (conditional c a b) fresh k h =
          let (p, rest) = every_append (wires_read c) (wires_read a ++ wires_read b) h in
          let (q, r) = every_append (wires_read a) (wires_read b) rest in
          every-join (awaited-within c fresh k p)
          (every-join (awaited-within a fresh (k + cell_count c) q) (awaited-within b fresh (k + cell_count c + cell_count a) r))
      awaited-within (switch o cs bs) fresh k h =
          let (p, q) = every_append (wires_in cs) (wires_in bs) h in
          let state = state_of now fresh o k in
          let first = k + length (switch_forms o) in
          every-join (within_in cs state fresh first p)
          (once-within (value_in now state fresh cs first) (λ t.
          within_in bs (second_runs o state (truth t)) (makes_fresh o (truth t) || fresh) (first + count_in cs) q))
      awaited-within (pre d a) fresh k h = none
      awaited-within (fby t a b) fresh k h =
          left-within (cond fresh NotStarted (cell_at now.memory k)) (awaited-within a fresh (suc k) h)
      awaited-within (kept t a) fresh k h = awaited-within a fresh (suc k) h

      within_in : (xs : Alternatives) (second fresh : Bool) (k : ℕ) → Every P (wires_in xs) → Every P (awaited_in now second fresh xs k)
      within_in (only a) second fresh k h = awaited-within a fresh k h
      within_in (either a b) second fresh k h =
          let (p, q) = every_append (wires_read a) (wires_read b) h in
          picked (Every P) second (awaited-within a fresh k p) (awaited-within b fresh (k + cell_count a) q)

  -- all that is waited for is read within the instant
  pub awaited-read : (e : Expression) (fresh : Bool) (k : ℕ) → Every (λ w. among w (wires_read e) ≡ true) (wires_awaited now fresh e k)
  awaited-read e fresh k =
      let ws = wires_read e in
      let read : Every (λ w. among w ws ≡ true) ws = every-among _ ws (λ w a. a) ws (among-each ws ws (λ w a. a)) in
      awaited-within (λ w. among w ws ≡ true) e fresh k read

-- A known value and its wires stay as they are.
data Settles : Value → Value → List ℕ → List ℕ → Type 0 where
  unsettled : {v : Value} {us vs : List ℕ} → Settles Unknown v us vs
  settled : {d : Datum} {ws : List ℕ} → Settles (Known d) (Known d) ws ws

settles_carried : Carried Settles
settles_carried = record { sure = λ d. settled; operand = operand; strict = strict; once = once }
  where
    operand : {u v : Value} {us vs : List ℕ} (f : Datum → Datum) → Settles u v us vs
        → Settles (when_known u (λ x. Known (f x))) (when_known v (λ x. Known (f x))) us vs
    operand f unsettled = unsettled
    operand f settled = settled

    behind : {u v : Value} {ws xs : List ℕ} (us : List ℕ) → Settles u v ws xs → Settles u v (us ++ ws) (us ++ xs)
    behind us unsettled = unsettled
    behind us settled = settled

    strict : {u v : Value} {f g : Datum → Value} {us vs ws xs : List ℕ} → Settles u v us vs → ((d : Datum) → Settles (f d) (g d) ws xs)
        → Settles (when_known u f) (when_known v g) (us ++ ws) (vs ++ xs)
    strict unsettled later = unsettled
    strict (settled {d = d} {ws = us}) later = behind us (later d)

    once : {u v : Value} {f g : Datum → Value} {us vs : List ℕ} {h i : Datum → List ℕ} → Settles u v us vs
        → ((d : Datum) → Settles (f d) (g d) (h d) (i d))
        → Settles (when_known u f) (when_known v g) (us ++ once_known u h) (vs ++ once_known v i)
    once unsettled later = unsettled
    once (settled {d = d} {ws = us}) later = behind us (later d)

-- where the wires grow, a known expression waits for the same wires
pub awaited-same : (s t : Environment) → s.inputs ≡ t.inputs → s.lasts ≡ t.lasts → s.memory ≡ t.memory → s.wires ⊑* t.wires
    → (e : Expression) (fresh : Bool) (k : ℕ) → IsKnown (value s fresh e k) → wires_awaited s fresh e k ≡ wires_awaited t fresh e k
awaited-same s t inputs lasts memory grows e fresh k =
    go (each Settles settles_carried s t inputs lasts memory (λ w. itself w (grows.at w)) e fresh k)
  where
    itself : (w : ℕ) {u v : Value} → u ⊑ v → Settles u v (w ∷ []) (w ∷ [])
    itself w unknown = unsettled
    itself w {u} same = at u
      where
        at : (u : Value) → Settles u u (w ∷ []) (w ∷ [])
        at Unknown = unsettled
        at (Known d) = settled

    go : {u v : Value} {us vs : List ℕ} → Settles u v us vs → IsKnown u → us ≡ vs
    go settled known = refl
    go unsettled h = elim h [ ]
