use Rattle.std.proofs.Common.{◌≡◌, ◌-◌, ◌++◌, flat_map, length}
use Rattle.std.specs.List.{range_with_len}
use Rattle.lk_tables.specs.Checks.{from_on, passes}
use Rattle.lk_tables.specs.FileHeader.{section_count}
use Rattle.lk_tables.specs.FileView.{file_view}
use Rattle.lk_tables.specs.Frames.{list_views}
use Rattle.eh_frame.specs.Sections.{all_frame_checks, section_frames}
use Rattle.link_passes.specs.Frames.{list_in}
use Rattle.link_passes.specs.Sources.{with_body}
use Rattle.link_passes.proofs.records.read_records.Given as goal

-- what is left of the checks passes as all do, and the lists are those of the sections so far
abbrev pub invariant-loop-index : goal.invariant-loop-index
invariant-loop-index l = record {
  so_far : passes (from_on (section_frames (file_view l.file).bytes) l.index (section_count (file_view l.file).bytes)) ≡ passes (all_frame_checks (file_view l.file).bytes);
  lists_are : list_views l.lists.items ++ flat_map (list_in (with_body (file_view l.file))) (range_with_len l.index (length (file_view l.file).head.sections - l.index))
      ≡ flat_map (list_in (with_body (file_view l.file))) (range_with_len 0 (length (file_view l.file).head.sections - 0));
}
