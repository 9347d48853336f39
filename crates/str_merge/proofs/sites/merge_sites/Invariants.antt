use Rattle.std.proofs.Common.{◌≡◌, flat_map}
use Rattle.std.specs.List.{range_with_len}
use Rattle.lk_tables.specs.TablesView.{files_of}
use Rattle.link_sections.specs.Merging as spec
use Rattle.str_merge.specs.Sites.{site_views}
use Rattle.str_merge.proofs.sites.merge_sites.Given as goal

abbrev pub invariant-loop-file : goal.invariant-loop-file
invariant-loop-file l = site_views l.list.items ≡ flat_map (spec.sites_in (files_of l.tables) l.kept) (range_with_len 0 l.file)
