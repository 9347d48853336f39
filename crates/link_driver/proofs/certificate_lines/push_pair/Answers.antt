use Rattle.std.proofs.Common.{arith}
use Rattle.std.proofs.lemmas.List.{length-map}
use Rattle.lk_tables.specs.Files.{section_total}
use Rattle.lk_tables.specs.TablesView.{files_of}
use Rattle.link_sections.specs.FoldItems.{item_view, item_views}
use Rattle.link_passes.specs.Contents.{names_of}
use Rattle.link_driver.proofs.Certifying.{item_below, pair_is}
use Rattle.link_driver.proofs.certificate_lines.push_pair.Goals as goal

pub push_spot-requires : goal.push_spot-requires
push_spot-requires c =
    let views = item_views c.args.items.now in
    let low = item_below views (section_total (files_of c.args.tables.now)) c.args.pair.one c.requires.within
    (omega (arith, c.requires.one, length-map c.args.items.now item_view)) in
    omega (arith, low, c.section_at-one.ensures)

pub push_spot-requires-2 : goal.push_spot-requires-2
push_spot-requires-2 c =
    let views = item_views c.args.items.now in
    let low = item_below views (section_total (files_of c.args.tables.now)) c.args.pair.two c.requires.within
    (omega (arith, c.requires.two, length-map c.args.items.now item_view)) in
    omega (arith, low, c.section_at-two.ensures)

pub returns : goal.returns
returns c =
    pair_is (names_of c.args.names.now) (files_of c.args.tables.now) (item_views c.args.items.now) c.args.pair c.args.word.now c.section_at-one.result c.section_at-two.result
    c.args.text.now.items c.extend_from_slice.new.self.items c.push_spot.new.text.items c.push_spot-2.new.text.items c.push.new.self.items c.section_at-one.ensures
    c.section_at-two.ensures c.in_ok-extend_from_slice.ensures.items c.in_ok-push_spot.ensures c.in_ok-push_spot-2.ensures c.in_ok-push.ensures.items
