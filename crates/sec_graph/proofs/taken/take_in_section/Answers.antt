use Rattle.std.proofs.Common.{◌≡◌, true, false, flat_map, sym, ap, ◌∙◌}
use Rattle.link_sections.specs.Leaders.{is_kept}
use Rattle.lk_tables.specs.BindingView.{binding_view}
use Rattle.lk_tables.specs.Files.{file_at, relocs_at, section_no}
use Rattle.lk_tables.specs.TablesView.{files_of}
use Rattle.lk_tables.specs.Reach.{with_marked}
use Rattle.sec_graph.specs.Taken.{taken_by}
use Rattle.sec_graph.proofs.TakenKept.{all_taken, none_taken}
use Rattle.sec_graph.proofs.taken.take_in_section.Goals as goal

pub returns-then-not-is_kept : goal.returns-then-not-is_kept
returns-then-not-is_kept c =
    let files = files_of c.args.tables.now in
    let kept = c.args.kept.now in
    let f = c.args.file in
    let k = c.args.index in
    let off : is_kept kept (section_no files f k) ≡ false = ap (is_kept kept) (sym c.section_no.ensures) ∙ sym c.is_kept.ensures ∙ c.if-not-is_kept.true in
    ap (with_marked c.args.taken.now.items) (sym (none_taken files (binding_view c.args.binding.now) kept f k (relocs_at (file_at files f) k) off))

pub returns : goal.returns
returns c =
    let files = files_of c.args.tables.now in
    let b = binding_view c.args.binding.now in
    let kept = c.args.kept.now in
    let f = c.args.file in
    let k = c.args.index in
    let on : is_kept kept (section_no files f k) ≡ true = ap (is_kept kept) (sym c.section_no.ensures) ∙ sym c.is_kept.ensures ∙ c.if-not-is_kept.false in
    c.take_by_relocs.ensures
    ∙ ap (with_marked c.args.taken.now.items) (ap (flat_map (taken_by files b f)) c.relocs.ensures ∙ sym (all_taken files b kept f k (relocs_at (file_at files f) k) on))
