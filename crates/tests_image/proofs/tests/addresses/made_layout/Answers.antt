use Rattle.std.proofs.Common.{◌∙◌, ap, map, refl, arith}
use Rattle.link_sections.specs.CutsView.{cut_views}
use Rattle.link_sections.specs.LaidOut.{layout_view, output_view, with_contents}
use Rattle.tests_image.proofs.NoFiles.{bare_sound}
use Rattle.tests_image.proofs.tests.addresses.made_layout.Goals as goal

pub returns : goal.returns
unfolding layout_view with_contents
returns c = λ b.
    bare_sound b _ (record {
      outputs = ap (map output_view) c.new.ensures.items;
      members = c.new-2.ensures.items;
      starts = c.new-4.ensures.items;
      pools = c.new-5.ensures.items;
      cuts = ap (map cut_views) (c.of.ensures ∙ c.in_ok-empty.ensures);
      merging = refl;
      table = refl;
      got = omega arith;
      headers = omega arith;
      small = omega arith;
      pointer = omega arith;
      places = c.in_ok-places_of.ensures;
      has_frames = refl;
      frame_header = refl;
      frame_header_end = refl;
      frames = refl;
      frames_end = refl;
    })
