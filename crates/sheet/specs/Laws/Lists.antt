-- What holds of everything on a list, and what follows from a test that passes.
use Rattle.std.specs.Prelude.{◌≡◌, refl, ℕ, eqb, Bool, true, false, ◌&&◌, ◌||◌, List, [], ◌∷◌, ◌++◌, ◌⊎◌}
use Rattle.std.proofs.Common.{sym, subst, arith, inl, inr, eqb-true, eq-eqb}
use Rattle.std.proofs.Math.Bool.{or-true}
use Rattle.sheet.specs.Lists.{among, all_among, Every, none, ◌and◌}

pub never : {A : Type 0} → ◌≡◌ {A = ℕ} 0 1 → A
never e = absurd (omega arith)

-- a test does not come out both ways
pub clash : {A : Type 0} {b : Bool} → b ≡ true → b ≡ false → A
clash t f = never (cc)

pub both : (a b : Bool) → (a && b) ≡ true → (a ≡ true) × (b ≡ true)
both true b e = (refl, e)
both false b e = (e, cc)

pub every : {A : Type 0} (P : A → Type 0) → ((x : A) → P x) → (xs : List A) → Every P xs
every P h [] = none
every P h (x ∷ xs) = h x and every P h xs

pub only : {A : Type 0} {P : A → Type 0} {x : A} → Every P (x ∷ []) → P x
only (p and none) = p

pub every_append : {A : Type 0} {P : A → Type 0} (xs ys : List A) → Every P (xs ++ ys) → Every P xs × Every P ys
every_append [] ys h = (none, h)
every_append (x ∷ xs) ys (p and h) = let (first, second) = every_append xs ys h in (p and first, second)

pub every-join : {A : Type 0} {P : A → Type 0} {xs ys : List A} → Every P xs → Every P ys → Every P (xs ++ ys)
every-join none qs = qs
every-join (p and ps) qs = p and every-join ps qs

pub every-among : (P : ℕ → Type 0) (ys : List ℕ) → ((y : ℕ) → among y ys ≡ true → P y)
    → (xs : List ℕ) → all_among xs ys ≡ true → Every P xs
unfolding all_among
every-among P ys h [] e = none
every-among P ys h (x ∷ xs) e =
    let (first, rest) = both (among x ys) (all_among xs ys) e in h x first and every-among P ys h xs rest

pub either : (a b : Bool) → (a || b) ≡ true → (a ≡ true) ⊎ (b ≡ true)
either true b e = inl refl
either false b e = inr e

pub neither : (a b : Bool) → (a || b) ≡ false → (a ≡ false) × (b ≡ false)
neither true b e = never (cc)
neither false b e = (refl, e)

pub among-append : (x : ℕ) (xs ys : List ℕ) → among x (xs ++ ys) ≡ (among x xs || among x ys)
unfolding among
among-append x [] ys = refl
among-append x (y ∷ xs) ys = go (eqb x y) (among-append x xs ys)
  where
    go : (t : Bool) → among x (xs ++ ys) ≡ (among x xs || among x ys) → (t || among x (xs ++ ys)) ≡ (t || among x xs || among x ys)
    go true e = refl
    go false e = e

pub all_among_lem : (ys : List ℕ) {P : ℕ → Type 0} → ((y : ℕ) → P y → among y ys ≡ true)
    → (xs : List ℕ) → Every P xs → all_among xs ys ≡ true
unfolding all_among
all_among_lem ys h [] none = refl
all_among_lem ys h (x ∷ xs) (p and ps) = rw (h x p) (all_among_lem ys h xs ps)

pub among-head : (x : ℕ) (xs : List ℕ) → among x (x ∷ xs) ≡ true
unfolding among
among-head x xs = rw (eq-eqb x x refl)

pub among-tail : (x y : ℕ) (xs : List ℕ) → among x xs ≡ true → among x (y ∷ xs) ≡ true
unfolding among
among-tail x y xs e = rw e (or-true (eqb x y))

-- what holds of everything on a list holds of each wire that is among it
pub every_holds : {P : ℕ → Type 0} (x : ℕ) {xs : List ℕ} → Every P xs → among x xs ≡ true → P x
unfolding among
every_holds x none e = never (cc)
every_holds {P} x (◌and◌ {x = y} {xs} p ps) e = go (eqb x y) refl e (every_holds x ps)
  where
    go : (t : Bool) → eqb x y ≡ t → (t || among x xs) ≡ true → (among x xs ≡ true → P x) → P x
    go true same a later = subst P (sym (eqb-true x y same)) p
    go false other a later = later a

-- a list is among another just where each of its wires is; and where it is not, one of its wires is not
pub each-among : (xs ys : List ℕ) → all_among xs ys ≡ true → (x : ℕ) → among x xs ≡ true → among x ys ≡ true
each-among xs ys e x = every_holds x (every-among (λ y. among y ys ≡ true) ys (λ y a. a) xs e)

pub among-each : (xs ys : List ℕ) → ((x : ℕ) → among x xs ≡ true → among x ys ≡ true) → all_among xs ys ≡ true
unfolding all_among
among-each [] ys h = refl
among-each (x ∷ xs) ys h = rw (h x (among-head x xs)) (among-each xs ys (λ y a. h y (among-tail y x xs a)))

pub some-missing : (xs ys : List ℕ) → all_among xs ys ≡ false → (x : ℕ) × (among x xs ≡ true) × (among x ys ≡ false)
unfolding all_among
some-missing [] ys e = never (cc)
some-missing (x ∷ xs) ys e = go (among x ys) refl e (some-missing xs ys)
  where
    Missing : List ℕ → Type 0
    Missing zs = (z : ℕ) × (among z zs ≡ true) × (among z ys ≡ false)

    go : (t : Bool) → among x ys ≡ t → (t && all_among xs ys) ≡ false → (all_among xs ys ≡ false → Missing xs) → Missing (x ∷ xs)
    go false m a later = (x, among-head x xs, m)
    go true m a later = let (z, inside, missing) = later a in (z, among-tail z x xs inside, missing)
