use Rattle.std.proofs.Common.{◌≡◌, ◌++◌, flat_map}
use Rattle.std.specs.List.{range_with_len}
use Rattle.lk_tables.specs.TablesView.{files_of}
use Rattle.link_sections.specs.Merging as spec
use Rattle.str_merge.specs.Sites.{site_views}
use Rattle.str_merge.proofs.sites.push_sites.Given as goal

abbrev pub invariant-loop-index : goal.invariant-loop-index
invariant-loop-index l =
    site_views l.list.items ≡ site_views l.fn.list.items ++ flat_map (spec.site_at (files_of l.tables) l.kept l.file) (range_with_len 0 l.index)
