use Rattle.std.proofs.Common.{◌≡◌, ℕ, Option, ap, ◌∙◌, arith}
use Rattle.std.specs.Prelude.{find}
use Rattle.std.specs.List.{range_with_len}
use Rattle.std.specs.Option.{option_or}
use Rattle.lk_tables.specs.BindingView.{binding_view}
use Rattle.lk_tables.specs.Files.{section_total}
use Rattle.lk_tables.specs.LinkerSymbols.{first_named, is_named}
use Rattle.lk_tables.specs.TablesView.{files_of}
use Rattle.sym_resolve.specs.NamedSections.{named_if}
use Rattle.sym_resolve.proofs.NamedSections.{find_more}
use Rattle.sym_resolve.proofs.named_sections.sections_of.Goals as goal

pub loop-section-preserved : goal.loop-section-preserved
loop-section-preserved c = λ q named.
    let files = files_of c.args.tables.now in
    let b = binding_view c.args.binding.now in
    let n = c.loop-section.section in
    c.in_ok-note_section.ensures q named
    ∙ ap (λ (o : Option ℕ). option_or o (named_if files b q.now n)) (c.loop-section.invariant q named)
    ∙ find_more (is_named files b q.now) n

pub returns : goal.returns
unfolding first_named
returns c = λ q named.
    let files = files_of c.args.tables.now in
    let b = binding_view c.args.binding.now in
    let all : c.loop-section.section ≡ section_total files = omega arith in
    c.loop-section.invariant q named ∙ ap (λ n. find (is_named files b q.now) (range_with_len 0 n)) all
