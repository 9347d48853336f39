use Rattle.std.proofs.Common.{List, [], ◌∷◌, ◌++◌, ◌∙◌, ap, subst, sym}
use Rattle.lk_tables.specs.FileView.{file_views}
use Rattle.name_numbers.specs.declared.keys.Listed.{Listed}
use Rattle.name_numbers.specs.Columns.{AreRuns}
use Rattle.name_numbers.proofs.JoinedRuns.{run_one}
use Rattle.name_numbers.proofs.listing.one_run.Goals as goal

pub returns : goal.returns
returns c =
    let run = c.in_ok-keys_of_run.field-0 in
    let P : List Listed → Type 0 = AreRuns (file_views c.args.files.now) c.args.run.start c.args.run.end in
    subst P (sym (c.in_ok-push.ensures.items ∙ ap (λ l. l ++ run ∷ []) c.in_ok-runs.ensures.items)) (run_one (file_views c.args.files.now) c.args.run.start c.args.run.end run c.in_ok-keys_of_run.ensures)
