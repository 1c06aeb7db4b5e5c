-- A schedule of the first sheet and then one of the second, raised, is a schedule of the joined sheet exactly if both parts are schedules of
-- theirs; so checks 17 to 19 pass the whole exactly if they pass both.
use Rattle.std.specs.Prelude.{◌≡◌, refl, ℕ, zero, suc, ◌+◌, ◌-◌, ◌<◌, Bool, true, false, List, [], ◌∷◌, map, ltb, length, get_or}
use Rattle.std.proofs.Common.{sym, ap, ◌∙◌, arith, length-append, get_or-append-add, ltb-true, ltb-false}
use Rattle.std.proofs.lemmas.List.{length-map}
use Rattle.std.proofs.Math.ListN.{get_or-append}
use Rattle.sheet.specs.Outcomes.{result}
use Rattle.sheet.specs.Sheets.{Sheet}
use Rattle.sheet.specs.Lists.{Every, none, ◌and◌}
use Rattle.sheet.specs.Typing.{WellTyped}
use Rattle.sheet.proofs.Laws.Memory.{pairwise-length}
use Rattle.kernel.specs.Instants.{wire_count, reads_at}
use Rattle.kernel.specs.Schedules.{entry_at, schedule_of, Earlier, IsSchedule}
use Rattle.kernel.proofs.Laws.Pigeonhole.{each-met}
use Rattle.kernel.proofs.Laws.Schedules.{schedule_passed, passes_schedule, passed_schedule, schedule_passes}
use Rattle.join.specs.Joined.{shifted, shifted_numbers, joined_list, joined}
use Rattle.join.proofs.Laws.Reads.{reads_at-first, reads_at-second, shifted-reads_at}

-- a number below m, or m and a number below k
data Split (m k : ℕ) : ℕ → Type 0 where
  low : {p : ℕ} → p < m → Split m k p
  high : (q : ℕ) → q < k → Split m k (m + q)

split : (m k p : ℕ) → p < m + k → Split m k p
split m k p l = go (ltb p m) refl
  where
    go : (t : Bool) → ltb p m ≡ t → Split m k p
    go true e = low (ltb-true p m e)
    go false e =
        let over = ltb-false p m e in
        let parts : Split m k (m + (p - m)) = high (p - m) (omega arith) in
        let same : m + (p - m) ≡ p = omega arith in
        rw same at parts

-- From what holds of every number on a list to what holds of every one on the same list, or on the list raised, and back.
module _ {P Q : ℕ → Type 0} where
  every-turned : ((r : ℕ) → P r → Q r) → {rs : List ℕ} → Every P rs → Every Q rs
  every-turned h none = none
  every-turned h (◌and◌ {x = r} p ps) = h r p and every-turned h ps

  module _ (n : ℕ) where
    every-raised : ((r : ℕ) → P r → Q (n + r)) → {rs : List ℕ} → Every P rs → Every Q (shifted_numbers n rs)
    every-raised h none = none
    every-raised h (◌and◌ {x = r} p ps) = h r p and every-raised h ps

    every-lowered : ((r : ℕ) → Q (n + r) → P r) → (rs : List ℕ) → Every Q (shifted_numbers n rs) → Every P rs
    every-lowered h [] none = none
    every-lowered h (r ∷ rs) (q and qs) = h r q and every-lowered h rs qs

raised_at : (n : ℕ) (list : List ℕ) (q : ℕ) → q < length list → get_or (shifted_numbers n list) q 0 ≡ n + get_or list q 0
raised_at n [] q l = absurd (omega arith)
raised_at n (x ∷ xs) zero l = refl
raised_at n (x ∷ xs) (suc q) l = raised_at n xs q (omega arith)

-- as many different wires as there are: each is named
module _ (sheet : Sheet) (list : List ℕ) where
  schedule_of_lem : length list ≡ wire_count sheet → ((p q : ℕ) → p < q → q < length list → entry_at list p ≡ entry_at list q → ⊥)
      → ((p : ℕ) → p < length list → entry_at list p < wire_count sheet)
      → ((p : ℕ) → p < length list → Every (Earlier list p) (reads_at sheet.expressions (entry_at list p))) → IsSchedule sheet list
  schedule_of_lem counted once wires ordered = record { named = λ w l. named w l; once = once; wires = wires; ordered = ordered }
    where
      named : (w : ℕ) → w < wire_count sheet → Earlier list (length list) w
      named w l =
          let (p, k, e) = each-met (wire_count sheet) (entry_at list) (λ i m. wires i (omega arith))
          (λ i j m k e. once i j m (omega arith) e) w l in
          record { position = p; before = omega arith; names = e }

module _ (first second : Sheet) (typed : WellTyped first) (list₁ list₂ : List ℕ)
    (sized₁ : length list₁ ≡ wire_count first) (sized₂ : length list₂ ≡ wire_count second) where
  abbrev whole : Sheet
  whole = joined first second

  abbrev list : List ℕ
  list = joined_list (length first.wire_types) list₁ list₂

  abbrev n : ℕ
  n = length first.wire_types

  count : n ≡ wire_count first
  count = pairwise-length typed

  count-joined : wire_count whole ≡ n + wire_count second
  count-joined = simp (length-append, length-map) (omega (arith, count))

  length-joined : length list ≡ length list₁ + length list₂
  length-joined = simp (length-append, length-map)

  -- the entries, and what their wires read
  entry_first : (p : ℕ) → p < length list₁ → entry_at list p ≡ entry_at list₁ p
  entry_first p l = get_or-append list₁ (shifted_numbers n list₂) 0 p l

  entry-second : (q : ℕ) → q < length list₂ → entry_at list (length list₁ + q) ≡ n + entry_at list₂ q
  entry-second q l = get_or-append-add list₁ (shifted_numbers n list₂) q 0 ∙ raised_at n list₂ q l

  reads_first : (w : ℕ) → w < n → reads_at whole.expressions w ≡ reads_at first.expressions w
  reads_first w l = reads_at-first first.expressions _ w (omega (arith, count))

  reads_second : (w : ℕ) → reads_at whole.expressions (n + w) ≡ shifted_numbers n (reads_at second.expressions w)
  reads_second w =
      ap (λ k. reads_at whole.expressions (k + w)) count
      ∙ reads_at-second first.expressions (map (shifted n (length first.input_types)) second.expressions) w
      ∙ shifted-reads_at n (length first.input_types) second.expressions w

  -- what stands earlier in a part stands earlier in the whole
  earlier-first : (p w : ℕ) → p < length list₁ → Earlier list₁ p w → Earlier list p w
  earlier-first p w l e = record {
    position = e.position;
    before = e.before;
    names = entry_first e.position (omega (arith, e.before)) ∙ e.names;
  }

  earlier-second : (q v : ℕ) → q < length list₂ → Earlier list₂ q v → Earlier list (length list₁ + q) (n + v)
  earlier-second q v l e = record {
    position = length list₁ + e.position;
    before = omega (arith, e.before);
    names = entry-second e.position (omega (arith, e.before)) ∙ ap (λ w. n + w) e.names;
  }

  pub schedule_joined : IsSchedule first list₁ → IsSchedule second list₂ → IsSchedule whole list
  schedule_joined a b =
      schedule_of_lem whole list (omega (arith, length-joined, count-joined, count)) (λ p q l m e. once p q (at p (omega arith)) (at q m) l e)
      (λ p l. wires p (at p l)) (λ p l. ordered p (at p l))
    where
      at : (p : ℕ) → p < length list → Split (length list₁) (length list₂) p
      at p l = split (length list₁) (length list₂) p (omega (arith, length-joined))

      once : (p q : ℕ) → Split (length list₁) (length list₂) p → Split (length list₁) (length list₂) q → p < q
          → entry_at list p ≡ entry_at list q → ⊥
      once p q (low l) (low m) less e = a.once p q less m (sym (entry_first p l) ∙ e ∙ entry_first q m)
      once p _ (low l) (high j m) less e = omega (arith, a.wires p l, count, entry_first p l, entry-second j m)
      once _ q (high i l) (low m) less e = omega arith
      once _ _ (high i l) (high j m) less e = b.once i j (omega arith) m (omega (arith, entry-second i l, entry-second j m))

      wires : (p : ℕ) → Split (length list₁) (length list₂) p → entry_at list p < wire_count whole
      wires p (low l) = omega (arith, a.wires p l, count, count-joined, entry_first p l)
      wires _ (high q l) = omega (arith, b.wires q l, count-joined, entry-second q l)

      ordered : (p : ℕ) → Split (length list₁) (length list₂) p → Every (Earlier list p) (reads_at whole.expressions (entry_at list p))
      ordered p (low l) =
          rw (entry_first p l, reads_first (entry_at list₁ p) (omega (arith, a.wires p l, count)))
          (every-turned (λ r e. earlier-first p r l e) (a.ordered p l))
      ordered _ (high q l) =
          rw (entry-second q l, reads_second (entry_at list₂ q))
          (every-raised n (λ r e. earlier-second q r l e) (b.ordered q l))

  pub schedule_parts : IsSchedule whole list → IsSchedule first list₁ × IsSchedule second list₂
  schedule_parts h = (
    schedule_of_lem first list₁ sized₁ (λ p q l m e. once₁ p q l m e) (λ p l. wires₁ p l) (λ p l. ordered₁ p l),
    schedule_of_lem second list₂ sized₂ (λ p q l m e. once₂ p q l m e) (λ q l. wires₂ q l) (λ q l. ordered₂ q l),
  )
    where
      once₁ : (p q : ℕ) → p < q → q < length list₁ → entry_at list₁ p ≡ entry_at list₁ q → ⊥
      once₁ p q l m e =
          h.once p q l (omega (arith, length-joined)) (entry_first p (omega arith) ∙ e ∙ sym (entry_first q m))

      once₂ : (p q : ℕ) → p < q → q < length list₂ → entry_at list₂ p ≡ entry_at list₂ q → ⊥
      once₂ p q l m e =
          h.once (length list₁ + p) (length list₁ + q) (omega arith) (omega (arith, length-joined))
          (omega (arith, entry-second p (omega arith), entry-second q m))

      wires₂ : (q : ℕ) → q < length list₂ → entry_at list₂ q < wire_count second
      wires₂ q l = omega (arith, h.wires (length list₁ + q) (omega (arith, length-joined)), count-joined, entry-second q l)

      -- the second part has each wire of its sheet, so that the first has none of them
      wires₁ : (p : ℕ) → p < length list₁ → entry_at list₁ p < wire_count first
      wires₁ p l = go (entry_at list₁ p) refl (split n (wire_count second) (entry_at list₁ p)
          (omega (arith, h.wires p (omega (arith, length-joined)), entry_first p l, count-joined)))
        where
          go : (w : ℕ) → entry_at list₁ p ≡ w → Split n (wire_count second) w → w < wire_count first
          go w e (low m) = omega (arith, count)
          go _ e (high v m) =
              let (q, k, f) = each-met (wire_count second) (entry_at list₂) (λ i m. wires₂ i (omega arith))
              (λ i j m k f. once₂ i j m (omega arith) f) v m in
              absurd (h.once p (length list₁ + q) (omega arith) (omega (arith, length-joined))
              (omega (arith, entry_first p l, entry-second q (omega arith))))

      -- what stands earlier in the whole stands earlier in its part
      earlier₁ : (p w : ℕ) → p < length list₁ → Earlier list p w → Earlier list₁ p w
      earlier₁ p w l e = record {
        position = e.position;
        before = e.before;
        names = sym (entry_first e.position (omega (arith, e.before))) ∙ e.names;
      }

      earlier₂ : (q v : ℕ) → q < length list₂ → Earlier list (length list₁ + q) (n + v) → Earlier list₂ q v
      earlier₂ q v l e =
          go e.position e.before e.names
          (split (length list₁) (length list₂) e.position (omega (arith, e.before)))
        where
          go : (r : ℕ) → r < length list₁ + q → entry_at list r ≡ n + v → Split (length list₁) (length list₂) r → Earlier list₂ q v
          go r m f (low k) = absurd (omega (arith, wires₁ r k, entry_first r k, count))
          go _ m f (high i k) = record { position = i; before = omega arith; names = omega (arith, entry-second i k) }

      ordered₁ : (p : ℕ) → p < length list₁ → Every (Earlier list₁ p) (reads_at first.expressions (entry_at list₁ p))
      ordered₁ p l =
          every-turned (λ r e. earlier₁ p r l e)
          (rw (entry_first p l, reads_first (entry_at list₁ p) (omega (arith, wires₁ p l, count))) at
          (h.ordered p (omega (arith, length-joined))))

      ordered₂ : (q : ℕ) → q < length list₂ → Every (Earlier list₂ q) (reads_at second.expressions (entry_at list₂ q))
      ordered₂ q l =
          every-lowered n (λ r e. earlier₂ q r l e) (reads_at second.expressions (entry_at list₂ q))
          (rw (entry-second q l, reads_second (entry_at list₂ q)) at (h.ordered (length list₁ + q) (omega (arith, length-joined))))

  pub passes-joined : schedule_of first list₁ ≡ result list₁ → schedule_of second list₂ ≡ result list₂ → schedule_of whole list ≡ result list
  passes-joined a b =
      passes_schedule whole list (schedule_passes whole list
      (schedule_joined (passed_schedule first list₁ (schedule_passed first list₁ list₁ a).1)
      (passed_schedule second list₂ (schedule_passed second list₂ list₂ b).1)))

  pub passes-parts : schedule_of whole list ≡ result list
      → (schedule_of first list₁ ≡ result list₁) × (schedule_of second list₂ ≡ result list₂)
  passes-parts h =
      let (a, b) = schedule_parts (passed_schedule whole list (schedule_passed whole list list h).1) in
      (passes_schedule first list₁ (schedule_passes first list₁ a), passes_schedule second list₂ (schedule_passes second list₂ b))
