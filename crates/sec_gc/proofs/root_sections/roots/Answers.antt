use Rattle.std.proofs.Common.{◌≡◌, ◌<◌, ℕ, List, All, sym, subst, arith}
use Rattle.lk_base.proofs.Loops.{collect_end, collect_step}
use Rattle.lk_tables.specs.BindingView.{binding_view}
use Rattle.lk_tables.specs.Files.{section_total}
use Rattle.lk_tables.specs.TablesView.{files_of}
use Rattle.asked_names.specs.AskedNames.{lists_of}
use Rattle.sec_gc.specs.Roots.{roots, roots_in}
use Rattle.sec_gc.proofs.Rooted.{roots_within}
use Rattle.sec_gc.proofs.root_sections.roots.Goals as goal

pub loop-file-preserved : goal.loop-file-preserved
loop-file-preserved c =
    collect_step (roots_in (files_of c.args.tables.now) (binding_view c.args.binding.now)) c.loop-file.file c.file_count-file-end.result c.loop-file.roots.items c.push_roots.new.roots.items _
    c.loop-file-test.true c.loop-file.invariant c.in_ok-push_roots.ensures

pub returns-clause-within : goal.returns-clause-within
returns-clause-within c =
    let files = files_of c.args.tables.now in
    let b = binding_view c.args.binding.now in
    let undefined = lists_of c.args.undefined.now in
    let P : List ℕ → Type 0 = All (λ r. r < section_total files) in
    let is : c.loop-file.roots.items ≡ roots files b undefined = collect_end (roots_in files b) c.loop-file.file c.file_count-file-end.result c.loop-file.roots.items (roots files b undefined) (omega (arith, c.loop-file-test.false)) c.loop-file.invariant in
    subst P (sym is) (roots_within files b undefined c.requires.bound c.prove_few.ensures)
