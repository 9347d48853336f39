-- The pieces of one section of a list.
use Rattle.std.specs.Prelude.{◌≡◌, ℕ, List, [], slice_index_or}
use Rattle.lk_base.specs.declared.defects.Defect.{Defect}
use Rattle.lk_tables.specs.Files.{File}
use Rattle.link_sections.specs.Merging.{Site, no_site, site_pieces}
use Rattle.str_merge.specs.declared.cuts.Cut.{Cut}
use Rattle.str_merge.specs.Sites.{IsIn, pieces_of, texts_of}
use Rattle.str_merge.specs.Small.{IsNear}

-- a worker finds no defect
abbrev pub no_defects : ℕ → List Defect
no_defects at = []

-- the section at a place of the list is cut into its pieces
abbrev pub IsCutAt : List File → List Site → (at : ℕ) → Cut → Type 0
IsCutAt files sites at cut = (texts_of (pieces_of cut) ≡ site_pieces files (slice_index_or sites at no_site)) × IsIn files cut × IsNear cut
