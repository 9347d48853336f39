use Rattle.lk_tables.specs.TablesView.{files_of}
use Rattle.link_passes.specs.Contents.{names_of}
use Rattle.link_driver.proofs.Certifying.{spot_is}
use Rattle.link_driver.proofs.certificate_lines.push_spot.Goals as goal

pub returns : goal.returns
returns c =
    spot_is (names_of c.args.names.now) (files_of c.args.tables.now) c.args.section c.place_of-place.result c.name_at.result.now c.args.text.now.items c.push.new.self.items
    c.push_escaped.new.line.items c.push_count.new.text.items c.place_of-place.ensures.place c.name_at.ensures c.in_ok-push.ensures.items c.in_ok-push_escaped.ensures.ok
    c.in_ok-push_count.ensures
