-- The operands of an expression advance or rest one after the other in one memory: each of them still stands where it stood, and their
-- cells are put one run behind the other.
use Prim.Native.Nat.{ℕ, ◌+◌, ◌-◌, ◌*◌, ◌≤◌, ◌<◌}
use mathlib.Core.Path.{◌≡◌, refl, sym, ap, subst, ◌∙◌}
use mathlib.Core.Bool.{Bool}
use mathlib.Core.List.{List, [], ◌∷◌, ◌++◌}
use native.Mathlib.Omega.{arith}
use lib.ListN.{length, length-append}
use lib.Seq.{sets, length-sets}
use Rattle.numbers.specs.Laws.{sets-append}
use Rattle.sheet.specs.Expressions.{Expression, cell_forms, cell_count}
use Rattle.sheet.specs.Memory.{cell_bytes, memory_bytes}
use Rattle.sheet.proofs.Laws.Memory.{cell-length, memory_length}
use Rattle.sheet.specs.declared.Cell.{Cell}
use Rattle.sheet_walk.specs.declared.Place.{Place}
use Rattle.kernel.specs.Instant.{resting, stored}
use Rattle.leaves.specs.declared.Valued.{Valued}
use Rattle.expression.specs.Places.{CellsStand, Gives}
use Rattle.expression.proofs.Views.{opened, Operand, placed, readable, operand-counted, One, Two, Three}
use Rattle.storing.specs.Advances.{Ready, Advances, Arm, Rests}
use Rattle.storing.proofs.Splices.{sets-turned}
use Rattle.storing.proofs.Standing.{cells-past, memory_append, resting-length, stored-length}

-- a place by its two numbers
pub at-place : (r : Place) {a k : ℕ} → r.at ≡ a → r.cell ≡ k → r ≡ record { at = a; cell = k }
at-place r e f = rw (← e, ← f) refl

module _ {sheet memory words : List ℕ} {level asked : ℕ} {here : Place}
    (p : Ready sheet memory words level asked here) where
  -- the measure of a call falls from an expression to its operands, which are advanced at all or by their kind
  pub deeper : {t : ℕ} → 3 * level ≡ t → 3 * (level - 1) + 2 < t
  deeper e = omega (arith, e, (opened p.place).level-left)

  pub deeper_by_kind : {t : ℕ} → 3 * level ≡ t → 3 * (level - 1) + 1 < t
  deeper_by_kind e = omega (arith, deeper e)

  -- what a call answers at a place, in a memory m that it leaves as m'
  abbrev pub Steps : (m : List ℕ) (t : ℕ) → Place → Bool → Valued → (m' : List ℕ) → Type 0
  Steps m t there f r m' = (o : Ready sheet m words (level - 1) t there) → Advances o f r m'

  abbrev pub Stays : (m : List ℕ) → Place → Bool → Place → (m' : List ℕ) → Type 0
  Stays m there f r m' = (o : Arm sheet m there) → Rests o f r m'

  -- what an operand stores where it advances, and what it keeps where it rests
  abbrev pub operand_stored : {t a k : ℕ} → Bool → Operand p.place t a k → List Cell
  operand_stored {k = k} f o = stored p.place.now f o.tree k

  abbrev pub operand_resting : {t a k : ℕ} → Bool → Operand p.place t a k → List Cell
  operand_resting {k = k} f o = resting p.place.now f o.tree k

  -- m has these cells from number `first` on, up to number k, and is else as it was
  pub record Reached (first k : ℕ) (cells : List Cell) (m : List ℕ) : Type 0 where
    pub counted : k ≡ first + length cells
    pub holds : m ≡ sets memory (5 * first) (memory_bytes cells)

  pub unmoved : {k : ℕ} → Reached k k [] memory
  unfolding memory_bytes
  unmoved = record { counted = omega arith; holds = refl }

  reached-length : {first k : ℕ} {cs : List Cell} {m : List ℕ} → Reached first k cs m → length m ≡ length memory
  reached-length {first} {cs = cs} r = ap length r.holds ∙ length-sets memory (5 * first) (memory_bytes cs)

  -- an operand behind those cells, of the expression
  pub record Behind (first : ℕ) (cs : List Cell) (m : List ℕ) {t a k : ℕ} (o : Operand p.place t a k) (there : Place) : Type 0 where
    pub reached : Reached first k cs m
    pub inside : o.count ≤ p.place.count
    pub place : there ≡ record { at = a; cell = k }

  -- the operand advanced or rested, and its cells are put behind those
  module _ (first : ℕ) (cs : List Cell) {t a k : ℕ} (o : Operand p.place t a k) (f : Bool) where
    pub record Stepped (v : Valued) (m : List ℕ) : Type 0 where
      pub answer : Gives (placed p.place o) f v.word v.end.at v.end.cell
      pub reached : Reached first o.count (cs ++ operand_stored f o) m

    pub record Rested (v : Place) (m : List ℕ) : Type 0 where
      pub answer : v ≡ record { at = o.next; cell = o.count }
      pub reached : Reached first o.count (cs ++ operand_resting f o) m

  module _ {first : ℕ} {cs : List Cell} {m : List ℕ} {t a k : ℕ} (o : Operand p.place t a k) {there : Place}
      (b : Behind first cs m o there) where
    still : CellsStand m p.place.now.memory k (cell_forms o.tree)
    still =
        rw b.reached.holds
        (cells-past (memory_bytes cs) (5 * first) (omega (arith, memory_length cs, b.reached.counted)) o.cells)

    standing : Ready sheet m words (level - 1) t (record { at = a; cell = k })
    standing = record {
      bits = p.bits;
      place = record {
        inputs = p.place.inputs;
        wires = p.place.wires;
        now = p.place.now;
        tree = o.tree;
        next = o.next;
        count = o.count;
        reads = o.reads;
        stands = p.place.stands;
        cells = still;
      };
      full = p.full;
      within = omega (arith, b.inside, p.within);
      room = omega (arith, b.inside, p.room, reached-length b.reached);
    }

    pub ready : Ready sheet m words (level - 1) t there
    ready = rw b.place standing

    standing-arm : Arm sheet m (record { at = a; cell = k })
    standing-arm = record {
      place = readable p.place o;
      now = p.place.now;
      cells = still;
      within = omega (arith, b.inside, p.within);
      room = omega (arith, b.inside, p.room, reached-length b.reached);
    }

    pub arm : Arm sheet m there
    arm = rw b.place standing-arm

    onward : {m' : List ℕ} (ds : List Cell) → length ds ≡ cell_count o.tree → m' ≡ sets m (5 * k) (memory_bytes ds)
        → Reached first o.count (cs ++ ds) m'
    onward ds sized e =
        let place : 5 * k ≡ 5 * first + length (memory_bytes cs) = omega (arith, memory_length cs, b.reached.counted) in
        record {
          counted = simp length-append (omega (arith, operand-counted p.place o, b.reached.counted, sized));
          holds =
              e ∙ rw (b.reached.holds, place, memory_append cs ds)
              (sym (sets-append (memory_bytes cs) (memory_bytes ds) memory (5 * first)));
        }

    among : k + cell_count o.tree ≤ length p.place.now.memory
    among = omega (arith, operand-counted p.place o, b.inside, p.within)

    pub advanced : {f : Bool} {v : Valued} {m' : List ℕ} → Steps m t there f v m' → Stepped first cs o f v m'
    unfolding standing
    advanced {f} {v} {m'} h =
        let s = subst (λ (x : Place). Steps m t x f v m') b.place h standing in
        let g = s.answer in
        record {
          answer = record { value = g.value; next = g.next; count = g.count };
          reached = onward _ (stored-length p.place.now f o.tree k among) s.holds;
        }

    pub rested : {f : Bool} {v : Place} {m' : List ℕ} → Stays m there f v m' → Rested first cs o f v m'
    unfolding standing-arm
    rested {f} {v} {m'} h =
        let s = subst (λ (x : Place). Stays m x f v m') b.place h standing-arm in
        record { answer = s.answer; reached = onward _ (resting-length p.place.now f o.tree k among) s.holds }

  -- the operand behind it
  module _ {first : ℕ} {cs : List Cell} {t a k : ℕ} (o : Operand p.place t a k) {f : Bool} {m : List ℕ} {u : ℕ}
      (o' : Operand p.place u o.next o.count) (inside : o'.count ≤ p.place.count) where
    pub behind-advanced : {v : Valued} → Stepped first cs o f v m → Behind first (cs ++ operand_stored f o) m o' v.end
    behind-advanced {v} s =
        record { reached = s.reached; inside = inside; place = at-place v.end s.answer.next s.answer.count }

    pub behind-rested : {v : Place} → Rested first cs o f v m → Behind first (cs ++ operand_resting f o) m o' v
    behind-rested s = record { reached = s.reached; inside = inside; place = s.answer }

  -- the cell that the expression owns is put in front of its operands'
  pub put_first : {k : ℕ} {cs : List Cell} {m m' : List ℕ} (c : Cell) → Reached (here.cell + 1) k cs m → m' ≡ sets m (5 * here.cell) (cell_bytes c)
      → m' ≡ sets memory (5 * here.cell) (memory_bytes (c ∷ cs))
  unfolding memory_bytes
  put_first {cs = cs} c r e =
      let place : 5 * (here.cell + 1) ≡ 5 * here.cell + length (cell_bytes c) = omega (arith, cell-length c) in
      let turned = sets-turned (cell_bytes c) (memory_bytes cs) memory (5 * here.cell) (5 * (here.cell + 1)) (omega arith) in
      rw (e, r.holds, turned, place) (sym (sets-append (cell_bytes c) (memory_bytes cs) memory (5 * here.cell)))

  -- the operands of a view in turn
  one-begins : {t a k : ℕ} {g : Expression → Expression} (w : One p.place t a k g) → Behind k [] memory w.first (record { at = a; cell = k })
  one-begins w = record { reached = unmoved; inside = omega (arith, w.ends.count); place = refl }

  module _ {t a k : ℕ} {g : Expression → Expression} (w : One p.place t a k g) where
    pub one-ready : Ready sheet memory words (level - 1) t (record { at = a; cell = k })
    one-ready = ready w.first (one-begins w)

    pub one-step : {f : Bool} {v : Valued} {m : List ℕ} → Steps memory t (record { at = a; cell = k }) f v m → Stepped k [] w.first f v m
    one-step h = advanced w.first (one-begins w) h

  two-begins : {t u a k : ℕ} {g : Expression → Expression → Expression} (w : Two p.place t u a k g)
      → Behind k [] memory w.first (record { at = a; cell = k })
  two-begins w = record {
    reached = unmoved;
    inside = omega (arith, w.ends.count, operand-counted p.place w.second);
    place = refl;
  }

  module _ {t u a k : ℕ} {g : Expression → Expression → Expression} (w : Two p.place t u a k g) where
    pub two_ready : Ready sheet memory words (level - 1) t (record { at = a; cell = k })
    two_ready = ready w.first (two-begins w)

    module _ {f : Bool} {v : Valued} {m : List ℕ} (h : Steps memory t (record { at = a; cell = k }) f v m) where
      pub two-step : Stepped k [] w.first f v m
      two-step = advanced w.first (two-begins w) h

      two-follows : Behind k (operand_stored f w.first) m w.second v.end
      two-follows = behind-advanced w.first w.second (omega (arith, w.ends.count)) two-step

      pub two-ready_2 : Ready sheet m words (level - 1) u v.end
      two-ready_2 = ready w.second two-follows

      pub two-step_2 : {f' : Bool} {x : Valued} {m' : List ℕ} → Steps m u v.end f' x m'
          → Stepped k (operand_stored f w.first) w.second f' x m'
      two-step_2 h' = advanced w.second two-follows h'

  three-begins : {t u s a k : ℕ} {g : Expression → Expression → Expression → Expression} (w : Three p.place t u s a k g)
      → Behind k [] memory w.first (record { at = a; cell = k })
  three-begins w = record {
    reached = unmoved;
    inside = omega (arith, w.ends.count, operand-counted p.place w.second, operand-counted p.place w.third);
    place = refl;
  }

  module _ {t u s a k : ℕ} {g : Expression → Expression → Expression → Expression} (w : Three p.place t u s a k g) where
    pub three-ready : Ready sheet memory words (level - 1) t (record { at = a; cell = k })
    three-ready = ready w.first (three-begins w)

    module _ {f : Bool} {c : Valued} {m : List ℕ} (h : Steps memory t (record { at = a; cell = k }) f c m) where
      pub three-step : Stepped k [] w.first f c m
      three-step = advanced w.first (three-begins w) h

      three-follows : Behind k (operand_stored f w.first) m w.second c.end
      three-follows =
          behind-advanced w.first w.second (omega (arith, w.ends.count, operand-counted p.place w.third)) three-step

      pub three-ready_2 : Ready sheet m words (level - 1) u c.end
      three-ready_2 = ready w.second three-follows

      pub three-arm_2 : Arm sheet m c.end
      three-arm_2 = arm w.second three-follows

      module _ {f' : Bool} {v : Valued} {m' : List ℕ} (h' : Steps m u c.end f' v m') where
        pub three-step_2 : Stepped k (operand_stored f w.first) w.second f' v m'
        three-step_2 = advanced w.second three-follows h'

        three-last : Behind k (operand_stored f w.first ++ operand_stored f' w.second) m' w.third v.end
        three-last = behind-advanced w.second w.third (omega (arith, w.ends.count)) three-step_2

        pub three-ready_3 : Ready sheet m' words (level - 1) s v.end
        three-ready_3 = ready w.third three-last

        pub three-arm_3 : Arm sheet m' v.end
        three-arm_3 = arm w.third three-last

        pub three-step_3 : {f'' : Bool} {x : Valued} {m'' : List ℕ} → Steps m' s v.end f'' x m''
            → Stepped k (operand_stored f w.first ++ operand_stored f' w.second) w.third f'' x m''
        three-step_3 h'' = advanced w.third three-last h''

        pub three-rest_3 : {f'' : Bool} {x : Place} {m'' : List ℕ} → Stays m' v.end f'' x m''
            → Rested k (operand_stored f w.first ++ operand_stored f' w.second) w.third f'' x m''
        three-rest_3 h'' = rested w.third three-last h''

      module _ {f' : Bool} {v : Place} {m' : List ℕ} (h' : Stays m c.end f' v m') where
        pub three-rest_2 : Rested k (operand_stored f w.first) w.second f' v m'
        three-rest_2 = rested w.second three-follows h'

        rest-last : Behind k (operand_stored f w.first ++ operand_resting f' w.second) m' w.third v
        rest-last = behind-rested w.second w.third (omega (arith, w.ends.count)) three-rest_2

        pub rest-ready_3 : Ready sheet m' words (level - 1) s v
        rest-ready_3 = ready w.third rest-last

        pub rest-step_3 : {f'' : Bool} {x : Valued} {m'' : List ℕ} → Steps m' s v f'' x m''
            → Stepped k (operand_stored f w.first ++ operand_resting f' w.second) w.third f'' x m''
        rest-step_3 h'' = advanced w.third rest-last h''
