use Rattle.std.proofs.Common.{flat_map, take}
use Rattle.link_sections.specs.Views.{files_in}
use Rattle.reloc_apply.specs.Image.{ShowsFrom}
use Rattle.reloc_apply.proofs.PoolSteps.{held, part_pieces}
use Rattle.reloc_apply.proofs.pool_pieces.write_pool.Given as goal

abbrev pub invariant-loop-k : goal.invariant-loop-k
invariant-loop-k l = ShowsFrom l.from l.fn.block l.block (flat_map (part_pieces (files_in l.view) l.at) (take l.k (held l.view l.pool)))
