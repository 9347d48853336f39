-- What is merged by section number, from a list of what is merged of each section that is.
use Rattle.std.specs.Prelude.{ℕ, ◌+◌, Bool, Option, None, if◌then◌else◌, List, length, flat_map, slice_get}
use Rattle.std.specs.List.{range_with_len}
use Rattle.lk_tables.specs.Files.{File, by_section}
use Rattle.link_sections.specs.declared.pieces.Merged.{Merged}
use Rattle.link_sections.specs.Merging.{is_merge, site_at, sites_in}

module _ (files : List File) (kept : List Bool) where
  -- how many sections are merged of the files before file f, and before section k of it
  unfoldable pub sites_before : (f : ℕ) → ℕ
  sites_before f = length (flat_map (sites_in files kept) (range_with_len 0 f))

  unfoldable pub sites_upto : (f k : ℕ) → ℕ
  sites_upto f k = sites_before f + length (flat_map (site_at files kept f) (range_with_len 0 k))

  -- the answer of section k of file f
  unfoldable pub answer_in : List Merged → (f k : ℕ) → Option Merged
  answer_in answers f k = if is_merge files kept f k then slice_get answers (sites_upto f k) else None

  unfoldable pub spread : List Merged → List (Option Merged)
  spread answers = by_section files (answer_in answers)
