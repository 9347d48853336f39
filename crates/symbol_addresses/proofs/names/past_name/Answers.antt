use Rattle.std.proofs.Common.{◌≡◌, ◌∙◌, ap, sym, arith, length, List}
use Rattle.std.specs.Prelude.{◌==◌}
use Rattle.std.specs.List.{list_any}
use Rattle.lk_tables.specs.declared.commons.BoundCommon.{BoundCommon}
use Rattle.lk_tables.specs.InputSections.{InputSection}
use Rattle.link_sections.specs.Links.{link_binding, link_files}
use Rattle.symbol_addresses.proofs.SectionNames.{input_past, room_named, room_unnamed}
use Rattle.symbol_addresses.proofs.names.past_name.Goals as goal

pub returns-then-file_count-gt0 : goal.returns-then-file_count-gt0
returns-then-file_count-gt0 c =
    let link = c.args.link.now in
    ap (λ (s : InputSection). s.name) (c.input_in.ensures ∙ input_past (link_files link) (link_binding link) c.args.section c.requires.past)

pub returns-then-has_room : goal.returns-then-has_room
returns-then-has_room c =
    let link = c.args.link.now in
    let files = link_files link in
    let b = link_binding link in
    let none : length files ≡ 0 = omega (arith, c.file_count.ensures, c.if-file_count-gt0.false) in
    let is = ap (λ (cs : List BoundCommon). list_any (λ (k : BoundCommon). k.section == c.args.section) cs) (sym c.commons.ensures.value) ∙ sym c.has_room.ensures ∙ c.if-has_room.true in
    room_named files b c.args.section c.requires.past none is

pub returns : goal.returns
returns c =
    let link = c.args.link.now in
    let files = link_files link in
    let b = link_binding link in
    let none : length files ≡ 0 = omega (arith, c.file_count.ensures, c.if-file_count-gt0.false) in
    let is = ap (λ (cs : List BoundCommon). list_any (λ (k : BoundCommon). k.section == c.args.section) cs) (sym c.commons.ensures.value) ∙ sym c.has_room.ensures ∙ c.if-has_room.false in
    room_unnamed files b c.args.section c.requires.past none is
