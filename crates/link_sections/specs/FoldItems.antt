-- A section that may be folded as a plain record.
use Rattle.std.specs.Prelude.{ℕ, ℤ, List, ◌++◌, map}
use Rattle.link_sections.specs.declared.fold_items.FoldFrame.{FoldFrame as LentFrame}
use Rattle.link_sections.specs.declared.fold_items.FoldItem.{FoldItem as LentItem}
use Rattle.link_sections.specs.declared.fold_items.FoldReloc.{FoldReloc}

-- an FDE of one of its functions, and its CIE (LSB Core, "Exception Frames"): the FDE's bytes but for the CIE Pointer, the CIE's bytes, where in
-- the section its PC Begin stands, and how many relocations the FDE has beside that of PC Begin, and the CIE
pub record FoldFrame : Type 0 where
  pub bytes : List ℕ
  pub cie : List ℕ
  pub offset : ℕ
  pub rest : ℤ
  pub others : ℕ
  pub shared : ℕ

abbrev pub frame_view : LentFrame → FoldFrame
frame_view f = record {
  bytes = f.head.now ++ f.tail.now;
  cie = f.cie.now;
  offset = f.offset;
  rest = f.rest;
  others = f.others;
  shared = f.shared;
}

abbrev pub frame_views : List LentFrame → List FoldFrame
frame_views frames = map frame_view frames

-- the section's number, and all that decides with which others it is folded: of its relocations so many are its own, and those of its frames follow
pub record FoldItem : Type 0 where
  pub section : ℕ
  pub bytes : List ℕ
  pub flags : ℕ
  pub sh_type : ℕ
  pub align : ℕ
  pub output : List ℕ
  pub own : ℕ
  pub frames : List FoldFrame
  pub relocs : List FoldReloc

abbrev pub item_view : LentItem → FoldItem
item_view i = record {
  section = i.section;
  bytes = i.bytes.now;
  flags = i.flags;
  sh_type = i.sh_type;
  align = i.align;
  output = i.output.now;
  own = i.own;
  frames = frame_views i.frames.items;
  relocs = i.relocs.items;
}

abbrev pub item_views : List LentItem → List FoldItem
item_views items = map item_view items

-- their sections
abbrev pub section_of : FoldItem → ℕ
section_of i = i.section

unfoldable pub sections_of : List FoldItem → List ℕ
sections_of items = map section_of items
