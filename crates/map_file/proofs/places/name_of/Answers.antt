use Rattle.std.proofs.Common.{ap, arith, rules, ◌≤◌, ◌≡◌, ◌+◌, length}
use Rattle.lk_tables.specs.Files.{section_total}
use Rattle.link_sections.specs.Views.{binding_in, files_in}
use Rattle.map_file.proofs.PastNames.{named_past, nameless_past}
use Rattle.map_file.proofs.places.name_of.Goals as goal

pub returns-then-is_some : goal.returns-then-is_some
returns-then-is_some c =
    let v = c.args.view.now in
    let past : length (files_in v) ≤ c.args.place.file = omega (arith, c.file_count.ensures, c.if-place-file_count.false) in
    let at : c.section_count.result + c.args.place.index ≡ section_total (files_in v) + c.args.place.index = ap (λ n. n + c.args.place.index) c.section_count.ensures in
    named_past (files_in v) (binding_in v) c.args.place.file c.args.place.index (c.section_count.result + c.args.place.index) c.room.result past at c.room.ensures (search rules)

pub returns : goal.returns
returns c =
    let v = c.args.view.now in
    let past : length (files_in v) ≤ c.args.place.file = omega (arith, c.file_count.ensures, c.if-place-file_count.false) in
    let at : c.section_count.result + c.args.place.index ≡ section_total (files_in v) + c.args.place.index = ap (λ n. n + c.args.place.index) c.section_count.ensures in
    nameless_past (files_in v) (binding_in v) c.args.place.file c.args.place.index (c.section_count.result + c.args.place.index) c.room.result past at c.room.ensures (search rules)
