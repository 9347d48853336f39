use Rattle.std.proofs.Common.{◌≡◌, ◌*◌, ◌≤◌, ◌^◌}
use Rattle.lk_tables.specs.FileView.{file_views}
use Rattle.lk_tables.specs.Files.{first_symbol}
use Rattle.link_passes.proofs.heads.count_symbols.Given as goal

abbrev pub invariant-loop-index : goal.invariant-loop-index
invariant-loop-index l = record {
  total : l.total ≡ first_symbol (file_views l.files) l.index;
  few : l.total ≤ l.index * 2 ^ 27;
}
