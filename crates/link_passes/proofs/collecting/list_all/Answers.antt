use Rattle.std.proofs.Common.{length, arith}
use Rattle.lk_tables.specs.BindingView.{binding_view}
use Rattle.lk_tables.specs.Files.{by_section}
use Rattle.lk_tables.specs.TablesView.{files_of}
use Rattle.lk_tables.proofs.ByNumber.{section_row}
use Rattle.link_sections.specs.InputSections as spec
use Rattle.work_split.proofs.RunsJoined.{joined_run}
use Rattle.work_split.proofs.Tiling.{tiles_within}
use Rattle.link_passes.proofs.collecting.list_all.Goals as goal

pub over_shares-listed-requires-clause-accepts : goal.over_shares-listed-requires-clause-accepts
over_shares-listed-requires-clause-accepts g c = λ κs bound w p lt at.
    let own = tiles_within 0 (length (files_of c.args.tables.now)) c.args.pieces.now w p c.requires.tiles lt at in
    let some = own.some in
    (omega (arith, some), own.end_in)

pub returns-in-Ok : goal.returns-in-Ok
unfolding by_section
returns-in-Ok g c =
    let files = files_of c.args.tables.now in
    joined_run (section_row files (spec.may_stay files (binding_view c.args.binding.now))) _ (length files) c.args.pieces.now c.over_shares-listed.result
    c.in-Ok.kept c.over_shares-listed.ensures (λ p s h. h.1) c.requires.tiles c.in-Ok.is
