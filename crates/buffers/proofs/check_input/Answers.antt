-- `check_input` meets its contract: the length, then the lowest wrong entry.
use Prim.Native.Nat.{◌*◌}
use mathlib.Core.Path.{◌≡◌, sym, ap, ◌∙◌}
use mathlib.Core.List.{map}
use native.Mathlib.Omega.{arith}
use lib.ListN.{length, length-map}
use Rattle.sheet.specs.Data.{type_of_byte}
use Rattle.sheet.specs.Outcomes.{lowest}
use Rattle.sheet.specs.Rows.{wrong_at, inputs_of}
use Rattle.buffers.proofs.Tests.{length-off, place_wrong, none_wrong}
use Rattle.buffers.proofs.check_input.Goals as goal

pub returns-then-input-types : goal.returns-then-input-types
unfolding inputs_of
returns-then-input-types c =
    let types = c.args.types.now in
    rw c.at.ensures
    (length-off _ _ _ _ _ _ _ (λ e. c.if-input-types.true (e ∙ ap (λ n. 4 * n) (length-map types type_of_byte))))

pub returns-then-entry-types : goal.returns-then-entry-types
unfolding inputs_of
returns-then-entry-types c =
    let a = c.args in
    -- the length is that of as many entries as there are types, and the search went over all
    let fits : length a.input.now ≡ 4 * length (map type_of_byte a.types.now)
    = c.if-input-types.false ∙ ap (λ n. 4 * n) (sym (length-map a.types.now type_of_byte)) in
    let found : c.first_wrong-entry.result ≡ lowest (wrong_at (map type_of_byte a.types.now) a.input.now) (length (map type_of_byte a.types.now))
    = c.first_wrong-entry.ensures ∙ ap (lowest (wrong_at (map type_of_byte a.types.now) a.input.now)) (sym (length-map a.types.now type_of_byte)) in
    rw c.at-then-entry-types.ensures
    (place_wrong _ _ _ _ _ _ _ _ fits found (omega (arith, c.if-entry-types.true, length-map a.types.now type_of_byte)))

pub returns : goal.returns
unfolding inputs_of
returns c =
    let a = c.args in
    -- the length is that of as many entries as there are types, and the search went over all
    let fits : length a.input.now ≡ 4 * length (map type_of_byte a.types.now)
    = c.if-input-types.false ∙ ap (λ n. 4 * n) (sym (length-map a.types.now type_of_byte)) in
    let found : c.first_wrong-entry.result ≡ lowest (wrong_at (map type_of_byte a.types.now) a.input.now) (length (map type_of_byte a.types.now))
    = c.first_wrong-entry.ensures ∙ ap (lowest (wrong_at (map type_of_byte a.types.now) a.input.now)) (sym (length-map a.types.now type_of_byte)) in
    none_wrong _ _ _ _ _ _ _ _ fits found (omega (arith, c.if-entry-types.false, length-map a.types.now type_of_byte))
