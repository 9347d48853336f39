-- The sections that are merged and their pieces, as plain records.
use Rattle.std.specs.Prelude.{◌≡◌, ℕ, ◌+◌, List, [], length, map, flat_map, slice_index_or}
use Rattle.std.specs.List.{range_with_len}
pub use Rattle.intern_race.specs.Texts.{start_of}
unfoldable pub use Rattle.intern_race.specs.Texts.{cut_text}
use Rattle.lk_tables.specs.declared.spans.Span.{Span}
use Rattle.lk_tables.specs.Files.{File, file_at}
use Rattle.lk_tables.specs.Names.{no_name, text_of}
use Rattle.link_sections.specs.Merging.{Site}
use Rattle.str_merge.specs.declared.cuts.Cut.{Cut}
use Rattle.str_merge.specs.declared.sites.Site.{Site as HeldSite}

abbrev pub site_view : HeldSite → Site
site_view s = record { section = s.section; file = s.file; index = s.index }

abbrev pub site_views : List HeldSite → List Site
site_views sites = map site_view sites

-- a piece of a section: its bytes, and where they stand in its file
pub record CutPiece : Type 0 where
  pub text : List ℕ
  pub span : Span

abbrev pub no_piece : CutPiece
no_piece = record { text = []; span = no_name }

-- piece k of a section
abbrev pub piece_of : Cut → (k : ℕ) → CutPiece
piece_of c k = record {
  text = cut_text c.bytes.now c.ends.items k;
  span = record { file = c.whole.file; from = c.whole.from + start_of c.ends.items k; len = length (cut_text c.bytes.now c.ends.items k) };
}

unfoldable pub pieces_of : Cut → List CutPiece
pieces_of c = map (piece_of c) (range_with_len 0 (length c.ends.items))

-- the pieces of each section of a list
abbrev pub piece_lists : List Cut → List (List CutPiece)
piece_lists cuts = map pieces_of cuts

-- their bytes
abbrev pub texts_of : List CutPiece → List (List ℕ)
texts_of pieces = map (λ (p : CutPiece). p.text) pieces

abbrev pub cut_views : List Cut → List (List (List ℕ))
cut_views cuts = map (λ (c : Cut). texts_of (pieces_of c)) cuts

-- the bytes of a span of a file
abbrev pub span_text : List File → Span → List ℕ
span_text files s = text_of (file_at files s.file).bytes s

-- a section's bytes are those of its span
abbrev pub IsIn : List File → Cut → Type 0
IsIn files c = c.bytes.now ≡ span_text files c.whole

-- the lists at these places, one after the other
abbrev pub gathered : {X : Type 0} → List (List X) → (places : List ℕ) → List X
gathered lists places = flat_map (λ i. slice_index_or lists i []) places
