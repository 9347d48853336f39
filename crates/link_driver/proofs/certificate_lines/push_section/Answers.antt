use Rattle.std.proofs.Common.{ap}
use Rattle.lk_tables.specs.BindingView.{binding_view}
use Rattle.lk_tables.specs.TablesView.{files_of}
use Rattle.link_sections.specs.InputSections.{InputSection}
use Rattle.link_passes.specs.Contents.{names_of}
use Rattle.link_driver.proofs.Certifying.{section_is}
use Rattle.link_driver.proofs.certificate_lines.push_section.Goals as goal

pub returns : goal.returns
returns c =
    section_is (names_of c.args.names.now) (files_of c.args.tables.now) (binding_view c.args.binding.now) c.args.section c.args.word.now
    c.input_section-input.result.name.now c.args.text.now.items c.extend_from_slice.new.self.items c.push_spot.new.text.items c.push.new.self.items
    c.push_escaped.new.line.items c.push-2.new.self.items (ap (λ (s : InputSection). s.name) c.input_section-input.ensures) c.in_ok-extend_from_slice.ensures.items
    c.in_ok-push_spot.ensures c.in_ok-push.ensures.items c.in_ok-push_escaped.ensures.ok c.in_ok-push-2.ensures.items
