use Rattle.lk_tables.specs.TablesView.{files_of}
use Rattle.sym_resolve.specs.Claims.{rank_by}
use Rattle.name_numbers.proofs.Walks.{walk_map}
use Rattle.sym_resolve.proofs.ranks.push_ranks.Goals as goal

pub loop-i-preserved : goal.loop-i-preserved
loop-i-preserved c =
    walk_map (rank_by (files_of c.args.tables.now) c.args.least.now c.args.f) c.args.ranks.now.items c.loop-i.ranks.items c.push.new.self.items c.symbol_rank.result c.loop-i.i c.loop-i.invariant c.in_ok-push.ensures.items c.symbol_rank.ensures
