-- The cuts of a section as plain records.
use Rattle.std.specs.Prelude.{◌≡◌, List, map, All}
use Rattle.link_sections.specs.declared.cuts.Cut.{Cut as HeldCut}
use Rattle.link_sections.specs.Cuts.{Cut, AreApart, new_offset}

abbrev pub cut_view : HeldCut → Cut
cut_view c = record { at = c.at; whole = c.whole; kept = c.kept; is_align = c.is_align }

abbrev pub cut_views : List HeldCut → List Cut
cut_views cuts = map cut_view cuts

-- in order, none meeting another, and each with its new offset
abbrev pub IsPlacedCut : List Cut → HeldCut → Type 0
IsPlacedCut cuts c = c.new_at ≡ new_offset cuts c.at

pub record AreCuts (cuts : List HeldCut) : Type 0 where
  pub apart : AreApart (cut_views cuts)
  pub placed : All (IsPlacedCut (cut_views cuts)) cuts
