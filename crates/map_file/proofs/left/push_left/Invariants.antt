use Rattle.std.proofs.Common.{◌≡◌, ◌++◌, flat_map}
use Rattle.std.specs.List.{range_with_len}
use Rattle.lk_tables.specs.Files.{first_section}
use Rattle.link_sections.specs.Views.{files_in}
use Rattle.map_file.specs.Left.{left_line}
use Rattle.map_file.proofs.left.push_left.Given as goal

abbrev pub invariant-loop-file : goal.invariant-loop-file
invariant-loop-file l =
    l.text.items ≡ l.fn.text.items ++ flat_map (left_line l.view l.left) (range_with_len 0 (first_section (files_in l.view) l.file))
