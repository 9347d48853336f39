use Rattle.std.proofs.Common.{◌-◌, ◌^◌, min, [], ◌∷◌, ap, refl, arith}
use Rattle.std.specs.Prelude.{if◌then◌else◌}
use Rattle.std.proofs.lemmas.Bool.{le-ltb}
use Rattle.lk_base.specs.Defects.{count_defect}
use Rattle.lk_tables.specs.TablesView.{files_of}
use Rattle.link_sections.specs.Merging.{piece_count}
use Rattle.link_passes.specs.Passes.{piece_defects}
use Rattle.link_passes.proofs.binding.check_pieces.Goals as goal

pub returns-then-piece_bound-limits : goal.returns-then-piece_bound-limits
unfolding piece_defects
returns-then-piece_bound-limits c =
    let n = min (piece_count (files_of c.args.tables.now)) (2 ^ 64 - 1) in
    record { goes = ap (λ b. if b then count_defect n ∷ [] else []) (le-ltb c.args.limits.now.pieces n (omega (arith, c.piece_bound.ensures, c.if-piece_bound-limits.true))); named = refl }
