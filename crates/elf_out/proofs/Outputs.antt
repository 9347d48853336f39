-- What a view knows of its output sections.
use Rattle.std.proofs.Common.{◌≡◌, ◌+◌, ◌<◌, ◌^◌, Option, length, map, refl, ap, arith}
use Rattle.std.proofs.lemmas.List.{length-map}
use Rattle.lk_base.specs.declared.abi.TheConstants.{IMAGE_BASE}
use Rattle.link_sections.specs.declared.views.View.{View}
use Rattle.link_sections.specs.LaidOut.{layout_view, output_view, with_contents}
use Rattle.link_sections.specs.Views.{laid_in}
use Rattle.elf_out.specs.Headers.{section_names, segments}
use Rattle.elf_out.specs.Symbols.{SymbolTables}

-- they are those of the layout
pub outputs_are : (v : View) → (laid_in v).outputs ≡ map output_view v.layout.now.outputs.items
unfolding layout_view with_contents
outputs_are v = refl

pub bounds_are : (v : View) → (laid_in v).bounds ≡ v.layout.now.bounds
unfolding layout_view with_contents
bounds_are v = refl

pub count_is : (v : View) → length (laid_in v).outputs ≡ length v.layout.now.outputs.items
unfolding layout_view with_contents
count_is v = length-map v.layout.now.outputs.items output_view

-- where the unwind records stand
pub header_is : (v : View) → (laid_in v).bounds.frame_header ≡ v.layout.now.bounds.frame_header
unfolding layout_view with_contents
header_is v = refl

pub frames_is : (v : View) → (laid_in v).bounds.frames ≡ v.layout.now.bounds.frames
unfolding layout_view with_contents
frames_is v = refl

pub frames_low : (v : View) → ((laid_in v).bounds.frame_header < IMAGE_BASE + 2 ^ 31) × ((laid_in v).bounds.frames < IMAGE_BASE + 2 ^ 31)
frames_low v =
    let small = v.sound.small in
    let room = v.sound.frames in
    (omega (arith, small, room.header, room.between, room.frames, room.inside), omega (arith, small, room.frames, room.inside))

-- 16 bits count the section headers
pub few_outputs : (v : View) → length v.layout.now.outputs.items + 4 < 65536
few_outputs v = omega (arith, v.sound.few, count_is v)

-- 31 bits hold the file offset of each byte of a section
pub low_end : (v : View) → v.layout.now.bounds.file_end < IMAGE_BASE + 2 ^ 31
unfolding layout_view with_contents
low_end v = v.sound.small

pub segments_are : (v : View) → length (segments (laid_in v).bounds) ≡ length (segments v.layout.now.bounds)
segments_are v = ap (λ b. length (segments b)) (bounds_are v)

pub names_are : (v : View) (t : Option SymbolTables) → section_names (laid_in v).outputs t ≡ section_names (map output_view v.layout.now.outputs.items) t
names_are v t = ap (λ os. section_names os t) (outputs_are v)
