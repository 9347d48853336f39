-- What a link merges: sections that are written, and not too many pieces; and what it folds is no more than its sections.
use Rattle.std.proofs.Common.{◌≡◌, ℕ, ◌-◌, ◌<◌, ◌≤◌, ◌^◌, ◌&&◌, not, min, Bool, true, List, [], length, drop, sym, ap, ◌∙◌, arith, inl, inr}
use Rattle.std.specs.Prelude.{if◌then◌else◌, is_some}
use Rattle.std.proofs.lemmas.Bool.{and_parts, cases_lt, lt-ltb}
use Rattle.std.proofs.lemmas.List.{get_or_past, length-take}
use Rattle.lk_base.specs.declared.limits.Limits.{Limits}
use Rattle.lk_base.specs.Limits.{IsWithinStandard}
use Rattle.lk_tables.specs.declared.section_places.SectionPlace.{SectionPlace}
use Rattle.lk_tables.specs.declared.heads.Section.{Section}
use Rattle.lk_tables.specs.Binding.{Bindings}
use Rattle.lk_tables.specs.Files.{File, file_at, first_section, no_section, section_at, section_no, writes}
use Rattle.lk_tables.specs.InputSections.{common_in, is_own, may_stay}
use Rattle.lk_tables.specs.Sections.{contents_of}
use Rattle.lk_tables.specs.Sites.{place_of}
use Rattle.lk_tables.specs.Targets.{is_gone}
use Rattle.lk_tables.proofs.FirstNumbers.{section_more}
use Rattle.lk_tables.proofs.Owners.{IsOwner, place_is}
use Rattle.link_sections.specs.Leaders.{is_kept}
use Rattle.link_sections.specs.MergeSections.{contents, is_mergeable}
use Rattle.link_sections.specs.Merging.{is_merge, piece_count}
use Rattle.str_merge.specs.Small.{AreWritten}
use Rattle.str_merge.proofs.PieceLaws.{some_contents}
use Rattle.link_passes.specs.Passes.{piece_defects}
use Rattle.link_passes.specs.Tables.{MayStay}
use Rattle.link_driver.proofs.FirstLeast.{none_over}

-- pieces that are not refused
pub few_pieces : (limits : Limits) (files : List File) → IsWithinStandard limits → piece_defects limits files ≡ [] → piece_count files < 2 ^ 31
unfolding piece_defects
few_pieces limits files within none =
    let low = none_over limits.pieces (min (piece_count files) (2 ^ 64 - 1)) none in
    let most : limits.pieces ≤ 2 ^ 31 - 1 = within.pieces in
    omega (arith, low, most)

-- what is merged is a section of the file's table, since it has bytes
merged_own : (file : File) (k : ℕ) → is_mergeable file k ≡ true → k < length file.head.sections
unfolding contents
merged_own file k merges = elim (cases_lt k (length file.head.sections)) [
  | inl low ↦ low
  | inr past ↦
      let none : section_at file k ≡ no_section = get_or_past file.head.sections k no_section past in
      let some = some_contents file k merges in
      let same = ap (λ (s : Section). length (contents_of file.bytes s)) none in
      absurd (omega (arith, some, same, length-take 0 (drop 0 file.bytes)))
]

own_written : (files : List File) (b : Bindings) (f k : ℕ) → is_own files b f k ≡ true → may_stay files b f k ≡ true → writes (file_at files f) k ≡ true
unfolding may_stay
own_written files b f k own stays =
    let both : (writes (file_at files f) k && not (is_gone b (section_no files f k))) ≡ true =
    sym (ap (λ c. if c then writes (file_at files f) k && not (is_gone b (section_no files f k)) else is_some (common_in files b f k)) own) ∙ stays in
    (and_parts (writes (file_at files f) k) (not (is_gone b (section_no files f k))) both).0

-- a section that is kept and merged is written
pub kept_written : (files : List File) (b : Bindings) (kept : List Bool) → MayStay files b kept → AreWritten files kept
unfolding is_merge
kept_written files b kept stay = λ f k lt low is.
    let n = section_no files f k in
    let both = and_parts (is_kept kept n) (is_mergeable (file_at files f) k) is in
    let owner : IsOwner files n f = record { file = lt; from = omega arith; below = omega (arith, low, section_more files f lt) } in
    let index : n - first_section files f ≡ k = omega arith in
    let at : may_stay files b (place_of files n).file (place_of files n).index ≡ may_stay files b f k =
    ap (λ (p : SectionPlace). may_stay files b p.file p.index) (place_is files n f owner) ∙ ap (may_stay files b f) index in
    own_written files b f k (lt-ltb k (length (file_at files f).head.sections) (merged_own (file_at files f) k both.1)) (sym at ∙ stay.each n both.0)
