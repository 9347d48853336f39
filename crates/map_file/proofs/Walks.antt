-- Lists over the numbers of all sections, walked file by file.
use Rattle.std.proofs.Common.{◌≡◌, ℕ, ◌+◌, ◌-◌, ◌<◌, ◌≤◌, List, ◌++◌, length, append_assoc, sym, ap, ◌∙◌, arith}
use Rattle.std.specs.Prelude.{flat_map}
use Rattle.std.specs.List.{range_with_len}
use Rattle.std.proofs.lemmas.Grind.{flat_map-append}
use Rattle.lk_tables.specs.declared.section_places.SectionPlace.{SectionPlace}
use Rattle.lk_tables.specs.Files.{File, file_at, first_section, section_count, section_no}
use Rattle.lk_tables.specs.Sites.{place_of}
use Rattle.lk_tables.proofs.FirstNumbers.{section_more}
use Rattle.lk_tables.proofs.Owners.{place_is}
use Rattle.lk_base.proofs.Ranges.{range_parts}

-- the numbers before a run, and those of the run
run_step : {Y : Type 0} (give : ℕ → List Y) (start count : ℕ) (old now new : List Y) →
    now ≡ old ++ flat_map give (range_with_len 0 start) → new ≡ now ++ flat_map give (range_with_len start count) →
    new ≡ old ++ flat_map give (range_with_len 0 (start + count))
run_step give start count old now new held is =
    let before = flat_map give (range_with_len 0 start) in
    let own = flat_map give (range_with_len start count) in
    let from : 0 + start ≡ start = omega arith in
    is ∙ ap (λ l. l ++ own) held ∙ append_assoc old before own
    ∙ ap (λ l. old ++ l) (sym (ap (flat_map give) (range_parts 0 start count)
    ∙ flat_map-append give (range_with_len 0 start) (range_with_len (0 + start) count)
    ∙ ap (λ k. before ++ flat_map give (range_with_len k count)) from))

-- the sections of one file more
pub file_step : {Y : Type 0} (files : List File) (give : ℕ → List Y) (f : ℕ) (old now new : List Y) → f < length files →
    now ≡ old ++ flat_map give (range_with_len 0 (first_section files f)) →
    new ≡ now ++ flat_map give (range_with_len (section_no files f 0) (section_count (file_at files f))) →
    new ≡ old ++ flat_map give (range_with_len 0 (first_section files (f + 1)))
file_step files give f old now new lt held is =
    let first = first_section files f in
    let count = section_count (file_at files f) in
    let start : section_no files f 0 ≡ first = omega arith in
    run_step give first count old now new held (is ∙ ap (λ k. now ++ flat_map give (range_with_len k count)) start)
    ∙ ap (λ k. old ++ flat_map give (range_with_len 0 k)) (sym (section_more files f lt))

-- the place of a section of a file
pub place_within : (files : List File) (f section first count : ℕ) → f < length files → first ≡ section_no files f 0 → count ≡ section_count (file_at files f) →
    first ≤ section → section < first + count → ◌≡◌ {A = SectionPlace} record { file = f; index = section - first } (place_of files section)
place_within files f section first count lt is many low high =
    let start : first ≡ first_section files f = omega (arith, is) in
    ap (λ k. record { file = f; index = section - k }) start
    ∙ sym (place_is files section f record { file = lt; from = omega (arith, start, low); below = omega (arith, start, many, high, section_more files f lt) })
