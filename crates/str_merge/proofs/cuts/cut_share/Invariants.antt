use Rattle.lk_tables.specs.TablesView.{files_of}
use Rattle.work_split.specs.Shares.{EachFrom}
use Rattle.str_merge.specs.Cutting.{IsCutAt}
use Rattle.str_merge.specs.Sites.{site_views}
use Rattle.str_merge.proofs.cuts.cut_share.Given as goal

abbrev pub invariant-loop-at : goal.invariant-loop-at
invariant-loop-at l = EachFrom (IsCutAt (files_of l.tables) (site_views l.sites)) l.fn.share.start l.at l.cuts.items
