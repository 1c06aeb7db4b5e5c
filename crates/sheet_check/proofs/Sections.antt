-- The sections of a header, as the code goes past them: the bytes that it lends behind each, and the map of what follows.
use Prim.Native.Nat.{ℕ, ◌-◌, ◌≤◌, ◌<◌}
use mathlib.Core.Path.{◌≡◌, refl, sym, ◌∙◌}
use Rattle.sheet.specs.Laws.Readings.{got-next, got-count}
use mathlib.Core.Bool.{Bool, true, false}
use mathlib.Core.List.{List}
use native.Mathlib.Omega.{arith}
use lib.Dec.{ltb}
use lib.ListN.{length, get_or, get_or-eq_default}
use borrow.Author.Tests.{ltb-true, ltb-false}
use Rattle.sheet.specs.Headers.{section_of}
use Rattle.sheet.specs.Sheets.{Sheet, before}
use Rattle.sheet.specs.Laws.Headers.{SectionGood, section-length, section-byte, SheetRead}
use Rattle.sheet.specs.declared.Refusal.TheVariants.{TypeByte, OutputWire}
use Rattle.sheet_expressions.specs.Map.{TypeBytes, Mapped, Drawn, wires_of, WhereGot}
use Rattle.sheet.specs.Readings.{got_at}
use Rattle.sheet_expressions.specs.declared.map.Map.{Map}

-- the k bytes up to n, which the code lends by their two ends
pub span : {s : List ℕ} {at fewest excess limit n k : ℕ} → SectionGood s at fewest excess limit n k → n - (n - k) ≡ k
span g = omega (arith, g.bytes.next)

-- the type bytes of a section
pub section-types : {s : List ℕ} {at fewest excess limit n k : ℕ} → excess ≤ 65 → 1 ≤ limit → SectionGood s at fewest excess limit n k
    → TypeBytes limit (before s n k)
section-types {s} {limit = limit} {n = n} {k = k} most some g =
    record { few = omega (arith, section-length g, g.below); each = λ i. go i (ltb i k) refl }
  where
    go : (i : ℕ) (t : Bool) → ltb i k ≡ t → get_or (before s n k) i 0 < limit
    go i true e = section-byte g i (ltb-true i k e)
    go i false e =
        rw (get_or-eq_default (before s n k) 0 {n = i} (omega (arith, section-length g, ltb-false i k e))) (omega arith)

-- the map of a sheet that reads, section by section
pub sheet_mapped : {s : List ℕ} {sheet : Sheet} {n k : ℕ} (v : SheetRead s sheet n k) {next count : ℕ} {map : Map}
    → section_of s 0 0 17 2 false TypeByte ≡ got_at next count
    → WhereGot (section_of s next 1 65 4 false TypeByte)
    (λ m j. WhereGot (section_of s m 1 17 (length (before s m j)) true OutputWire) (λ o i.
    Drawn (before s next count) (before s m j) s o map)) → Mapped (wires_of v) map
sheet_mapped {s} {sheet} {n} {k} v {next} {count} e h =
    let next-is : next ≡ v.inputs_end = got-next (sym v.inputs ∙ e) in
    let count-is : count ≡ v.input_count = got-count (sym v.inputs ∙ e) in
    (rw v.outputs at (rw v.wires at (rw (next-is, count-is) at h))).maps v.expressions n k v.each
