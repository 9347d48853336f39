use Rattle.std.proofs.Common.{◌≡◌, map, get_or}
use Rattle.std.specs.List.{range_with_len}
use Rattle.lk_tables.specs.TablesView.{files_of}
use Rattle.link_sections.specs.Merging.{site_key}
use Rattle.str_merge.specs.Keys.{key_views}
use Rattle.str_merge.specs.Sites.{site_view}
use Rattle.str_merge.proofs.SiteFacts.{no_held}
use Rattle.str_merge.proofs.keys.keys_of.Given as goal

abbrev pub invariant-loop-i : goal.invariant-loop-i
invariant-loop-i l = key_views l.keys.items ≡ map (λ i. site_key (files_of l.tables) (site_view (get_or l.sites i no_held))) (range_with_len 0 l.i)
