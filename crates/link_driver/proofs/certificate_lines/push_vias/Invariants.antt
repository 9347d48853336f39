use Rattle.std.proofs.Common.{◌≡◌, ◌<◌, ◌++◌, drop, length}
use Rattle.lk_tables.specs.TablesView.{files_of}
use Rattle.link_sections.specs.FoldItems.{item_views}
use Rattle.link_driver.specs.Certificates.{via_lines}
use Rattle.link_passes.specs.Contents.{names_of}
use Rattle.link_driver.proofs.certificate_lines.push_vias.Given as goal

-- the rest adds, from the pair at hand on, what is missing of all
abbrev pub invariant-loop-i : goal.invariant-loop-i
invariant-loop-i l =
    let names = names_of l.names in
    let files = files_of l.tables in
    let items = item_views l.items in
    record {
      one : l.pair.one < length l.items;
      two : l.pair.two < length l.items;
      rest : l.text.items ++ via_lines names files items (drop l.i l.vias) l.pair ≡ l.fn.text.items ++ via_lines names files items l.vias l.fn.first;
    }
