use Rattle.std.proofs.Common.{ℕ, List, ap, sym, ◌∙◌, subst, ◌==◌}
use Rattle.std.specs.List.{list_any}
use Rattle.std.specs.List.Sorted.{IsNonDecreasing}
use Rattle.lk_tables.specs.Sites.{relocs_of}
use Rattle.lk_tables.specs.TablesView.{files_of}
use Rattle.relax.specs.CallSizes.{hint_offsets}
use Rattle.relax.proofs.Hints.{hints_are, hints_sorted, relocs_sorted}
use Rattle.relax.proofs.calls.hinted.Goals as goal

pub has_hint-requires : goal.has_hint-requires
has_hint-requires c =
    let code = c.args.code.now in
    let rs = relocs_of (files_of code.tables.now) code.section in
    subst (λ (l : List ℕ). IsNonDecreasing l) (sym (c.requires.hints ∙ ap hint_offsets code.listed)) (hints_sorted rs (relocs_sorted code.tables.now code.section c.requires.section))

pub returns : goal.returns
returns c =
    let code = c.args.code.now in
    c.has_hint.ensures ∙ ap (list_any (λ h. h == c.args.offset)) (c.requires.hints ∙ ap hint_offsets code.listed) ∙ hints_are (relocs_of (files_of code.tables.now) code.section) c.args.offset
