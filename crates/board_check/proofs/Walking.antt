-- The walk over the sheets of a board: what is known before each of them, and what the walk comes to.
use Prim.Native.Nat.{ℕ, suc, ◌+◌, ◌*◌, ◌-◌, ◌≤◌, ◌<◌}
use mathlib.Core.Path.{◌≡◌, refl, sym, ap, ◌∙◌}
use mathlib.Core.List.{List, [], ◌∷◌, ◌++◌, append-nil, append_assoc}
use Rattle.std.specs.Prelude.{Ok, Err}
use native.Mathlib.Numerals.{add-one}
use native.Mathlib.Omega.{arith}
use lib.ListN.{length, length-append}
use lib.Seq.{take-append-le, take_at, take_all}
use Rattle.sheet.specs.Outcomes.{Outcome, refusal, result, followed_by}
use Rattle.sheet.specs.Sheets.{Sheet, sheet_of}
use Rattle.sheet.specs.Typing.{done}
use Rattle.sheet.specs.declared.Refused.{Refused}
use Rattle.board.specs.Boards.{placed_from, length_place, begin_of, bytes_of, frame_of, sheets_from}
use Rattle.board.specs.Parts.{joined}
use Rattle.board.proofs.Laws.Boards.{frame-passed}
use Rattle.board_check.specs.Found.{behind, Between}
use Rattle.board_check.specs.Steps.{Collected, Room, Further, Steps, stops, goes, Walks, passes}
use Rattle.board_check.specs.declared.Begin.{Begin}
use Rattle.board_check.specs.declared.Span.{Span}

-- what the answer for a sheet tells
pub record Went (board : List ℕ) (k : ℕ) (here next : Begin) (before : List Sheet) (forms types : List ℕ) (o : Outcome Sheet) : Type 0 where
  pub sheet : Sheet
  pub outcome : o ≡ result sheet
  pub place : next ≡ behind (length_place board (suc k)) (before ++ sheet ∷ [])
  pub further : Further here next
  pub collected : Collected (before ++ sheet ∷ []) forms types

module _ {board : List ℕ} {k : ℕ} {here : Begin} {before : List Sheet} {forms types : List ℕ} where
  pub stopped : {o : Outcome Sheet} {refused : Refused} → Steps board k here before forms types o (Err refused) → o ≡ refusal refused.why refused.place
  stopped stops = refl

  pub went : {o : Outcome Sheet} {next : Begin} → Steps board k here before forms types o (Ok next) → Went board k here next before forms types o
  went (goes {sheet} place further collected) =
      record { sheet = sheet; outcome = refl; place = place; further = further; collected = collected }

-- k sheets are read, and those from number k on are what is left of all
pub record Walking (board : List ℕ) (n wanted k : ℕ) (here : Begin) (span : Span) (forms types : List ℕ) : Type 0 where
  pub read : List Sheet
  pub counted : length read ≡ k
  pub most : k ≤ n
  pub place : here ≡ behind (length_place board k) read
  pub cells : here.cells ≤ 64 * k
  pub inputs : here.inputs ≤ 16 * k
  pub outputs : here.outputs ≤ 16 * k
  pub collected : Collected read forms types
  pub rest : (m : ℕ) → k + m ≡ n → followed_by (sheets_from board m k) (λ later. result (read ++ later)) ≡ sheets_from board n 0
  pub located : wanted < k → Between board read wanted span

module _ (board : List ℕ) (n wanted : ℕ) where
  abbrev first : Begin
  first = record { at = 1; cells = 0; inputs = 0; outputs = 0 }

  pub walk-starts : (span : Span) (forms types : List ℕ) → length forms ≡ 512 → length types ≡ 128
      → Walking board n wanted 0 first span forms types
  unfolding length_place joined
  walk-starts span forms types f t =
      record {
        read = [];
        counted = refl;
        most = omega arith;
        place = refl;
        cells = omega arith;
        inputs = omega arith;
        outputs = omega arith;
        collected = record { cells = done; inputs = refl; forms_sized = f; types-sized = t };
        rest = λ m e. let all : m ≡ n = omega arith in whole (sheets_from board m 0) ∙ ap (λ (x : ℕ). sheets_from board x 0) all;
        located = λ l. absurd (omega arith);
      }
    where
      whole : (o : Outcome (List Sheet)) → followed_by o (λ later. result later) ≡ o
      whole (refusal why place) = refl
      whole (result sheets) = refl

  module _ {k : ℕ} {here : Begin} {span : Span} {forms types : List ℕ} (w : Walking board n wanted k here span forms types) where
    pub walk-room : frame_of board ≡ result n → k < n → Room board here forms types
    unfolding length_place
    walk-room e l =
        let p = frame-passed board n e in
        let at-is : here.at ≡ length_place board k = ap (λ (b : Begin). b.at) w.place in
        record {
          within = rw at-is (p.within (suc k) (omega arith));
          cells = omega (arith, w.cells, p.most);
          inputs = omega (arith, w.inputs, p.most);
          outputs = omega (arith, w.outputs, p.most);
          forms_sized = w.collected.forms_sized;
          types-sized = w.collected.types-sized;
        }

    -- the next sheet, and those behind it
    abbrev o : Outcome Sheet
    o = placed_from (begin_of board k) (sheet_of (bytes_of board k))

    next-is : (m : ℕ) → suc k + m ≡ n
        → followed_by (followed_by o (λ sheet. followed_by (sheets_from board m (suc k)) (λ sheets. result (sheet ∷ sheets))))
        (λ later. result (w.read ++ later)) ≡ sheets_from board n 0
    unfolding sheets_from
    next-is m e = w.rest (suc m) (omega arith)

    pub walk-stops : k < n → {refused : Refused} → o ≡ refusal refused.why refused.place → sheets_from board n 0 ≡ refusal refused.why refused.place
    walk-stops l e = sym (next-is (n - suc k) (omega arith)) ∙ rw e

    -- the sheet is read, and it is the wanted one or not
    module _ (l : k < n) {next : Begin} {forms' types' : List ℕ} (s : Went board k here next w.read forms' types' o) where
      abbrev more : List Sheet
      more = w.read ++ s.sheet ∷ []

      walk-goes : (span' : Span) → (wanted < suc k → Between board more wanted span')
          → Walking board n wanted (k + 1) next span' forms' types'
      walk-goes span' found =
          rw (add-one k)
          (record {
            read = more;
            counted = simp length-append (omega (arith, w.counted));
            most = omega arith;
            place = s.place;
            cells = omega (arith, w.cells, s.further.cells);
            inputs = omega (arith, w.inputs, s.further.inputs);
            outputs = omega (arith, w.outputs, s.further.outputs);
            collected = s.collected;
            rest = λ m e. shift (sheets_from board m (suc k)) ∙ rw s.outcome at (next-is m e);
            located = found;
          })
        where
          shift : (x : Outcome (List Sheet)) → followed_by x (λ later. result (more ++ later))
              ≡ followed_by (followed_by x (λ sheets. result (s.sheet ∷ sheets))) (λ later. result (w.read ++ later))
          shift (refusal why place) = refl
          shift (result later) = ap result (append_assoc w.read (s.sheet ∷ []) later)

      pub walk-takes : k ≡ wanted → Walking board n wanted (k + 1) next (record { from = here; to = next }) forms' types'
      walk-takes is =
          let sized : length more ≡ suc k = simp length-append (omega (arith, w.counted)) in
          walk-goes (record { from = here; to = next }) (λ m. record {
            begins = rw (← is, take_at w.read (s.sheet ∷ []) k w.counted) w.place;
            ends = rw (← is, take_all (suc k) more (omega arith)) s.place;
          })

      pub walk-passes : (k ≡ wanted → ⊥) → Walking board n wanted (k + 1) next span forms' types'
      walk-passes other =
          walk-goes span (λ m.
          let below : wanted < k = omega arith in
          let found = w.located below in
          record {
            begins = rw (take-append-le wanted w.read (s.sheet ∷ []) (omega (arith, w.counted))) found.begins;
            ends = rw (take-append-le (suc wanted) w.read (s.sheet ∷ []) (omega (arith, w.counted))) found.ends;
          })

    pub walk_ends : frame_of board ≡ result n → n ≤ k → Walks board wanted forms types (sheets_from board n 0) (Ok (record { span = span; end = here }))
    unfolding sheets_from
    walk_ends e l =
        let p = frame-passed board n e in
        let all : k ≡ n = omega (arith, w.most) in
        let read : sheets_from board n 0 ≡ result w.read = sym (w.rest 0 (omega arith)) ∙ ap result (append-nil w.read) in
        rw read
        (passes {walked = record { span = span; end = here }} (λ m. w.located (omega (arith, w.counted))) (rw w.counted w.place)
        (record {
          cells = omega (arith, w.cells, p.most);
          inputs = omega (arith, w.inputs, p.most);
          outputs = omega (arith, w.outputs, p.most);
        }) w.collected)
