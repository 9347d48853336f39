-- What the limits of a link say of the sections that are merged, and of their pieces.
use Rattle.std.specs.Prelude.{◌≡◌, ℕ, ◌+◌, ◌<◌, ◌≤◌, ◌^◌, true, Bool, List, length, flat_map, All}
use Rattle.std.specs.List.{sum_by}
use Rattle.lk_tables.specs.Files.{File, file_at, section_at, section_count, writes}
use Rattle.link_sections.specs.MergeSections.{contents}
use Rattle.link_sections.specs.Merging.{Site, is_merge, site_key, site_pieces, sites}
use Rattle.str_merge.specs.declared.cuts.Cut.{Cut}

-- each section that is merged is written
abbrev pub AreWritten : List File → List Bool → Type 0
AreWritten files kept = (f k : ℕ) → f < length files → k < section_count (file_at files f) → is_merge files kept f k ≡ true → writes (file_at files f) k ≡ true

-- a section's bytes stand before byte 2^31 of its file
pub record IsShort (files : List File) (s : Site) : Type 0 where
  pub from : (section_at (file_at files s.file) s.index).offset < 2 ^ 31
  pub len : length (contents (file_at files s.file) s.index) < 2 ^ 31

-- the bytes of a section that is cut stand before byte 2^31 of its file
pub record IsNear (c : Cut) : Type 0 where
  pub from : c.whole.from < 2 ^ 31
  pub len : length c.bytes.now < 2 ^ 31

-- no piece takes more bytes of its pool: its own, and fewer than its alignment before them
abbrev pub piece_room : List ℕ → ℕ
piece_room piece = length piece + 2 ^ 20

abbrev pub site_room : List File → Site → ℕ
site_room files s = sum_by piece_room (site_pieces files s)

-- there are not too many sections and pieces, and not too many bytes
pub record AreSmall (files : List File) (kept : List Bool) : Type 0 where
  pub sections : length (sites files kept) < 2 ^ 31
  pub pieces : length (flat_map (site_pieces files) (sites files kept)) < 2 ^ 31
  pub bytes : sum_by (site_room files) (sites files kept) < 2 ^ 60
  pub aligned : All (λ s. (site_key files s).align ≤ 2 ^ 20) (sites files kept)
  pub short : All (IsShort files) (sites files kept)
