use Rattle.std.proofs.Common.{◌≡◌, ◌++◌, map}
use Rattle.std.specs.List.{All, range_with_len}
use Rattle.lk_tables.specs.TablesView.{files_of}
use Rattle.link_sections.specs.CutsView.{AreCuts, cut_views}
use Rattle.relax.specs.Unrelaxed.{whole_cuts}
use Rattle.relax.proofs.unrelaxed.push_file.Given as goal

abbrev pub invariant-loop-index : goal.invariant-loop-index
invariant-loop-index l = record {
  views : map cut_views l.rows ≡ map cut_views l.fn.rows ++ map (whole_cuts (files_of l.tables) l.file) (range_with_len 0 l.index);
  sound : All AreCuts l.fn.rows → All AreCuts l.rows;
}
