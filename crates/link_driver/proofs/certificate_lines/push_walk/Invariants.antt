use Rattle.std.proofs.Common.{◌≡◌, ◌++◌, drop, flat_map, codes}
use Rattle.lk_tables.specs.BindingView.{binding_view}
use Rattle.lk_tables.specs.TablesView.{files_of}
use Rattle.link_driver.specs.Certificates.{section_line, walk_lines}
use Rattle.link_passes.specs.Contents.{names_of}
use Rattle.link_driver.proofs.certificate_lines.push_walk.Given as goal

-- the rest adds what is missing of all
abbrev pub invariant-loop-i : goal.invariant-loop-i
invariant-loop-i l =
    let names = names_of l.names in
    let files = files_of l.tables in
    let b = binding_view l.binding in
    l.text.items ++ flat_map (section_line names files b (codes "to")) (drop l.i l.walk) ≡ l.fn.text.items ++ walk_lines names files b l.walk
