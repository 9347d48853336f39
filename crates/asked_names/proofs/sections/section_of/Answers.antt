use Rattle.std.proofs.Common.{◌≡◌, ℕ, ◌<◌, ◌+◌, true, false, length, sym, ap, ◌∙◌, subst, arith}
use Rattle.lk_tables.specs.BindingView.{binding_view}
use Rattle.lk_tables.specs.Files.{File, file_at}
use Rattle.lk_tables.specs.TablesView.{files_of}
use Rattle.asked_names.specs.AskedNames.{HasName, has_name, section_bound}
use Rattle.asked_names.proofs.FirstNamed.{nowhere, symbol_bound}
use Rattle.asked_names.proofs.HavingNames.{index_few}
use Rattle.asked_names.proofs.sections.section_of.Goals as goal

pub overflow_cast-symbol : goal.overflow_cast-symbol
overflow_cast-symbol c =
    let files = files_of c.args.tables.now in
    let P : File → Type 0 = λ f. HasName f c.in-Some.symbol c.args.name.now in
    let has = subst P c.file.ensures c.in-Some.ensures.some in
    omega (arith, index_few files c.loop-file.file c.in-Some.symbol c.prove_few.ensures (omega (arith, c.loop-file-test.true, c.file_count-file-end.ensures)) has.inside)

pub returns-in-Some : goal.returns-in-Some
returns-in-Some c =
    let files = files_of c.args.tables.now in
    let b = binding_view c.args.binding.now in
    let P : File → Type 0 = λ f. HasName f c.in-Some.symbol c.args.name.now in
    let has = subst P c.file.ensures c.in-Some.ensures.some in
    let lt : c.loop-file.file < length files = omega (arith, c.loop-file-test.true, c.file_count-file-end.ensures) in
    c.section_in.ensures ∙ ap section_bound (c.bound.ensures ∙ symbol_bound files b c.loop-file.file c.in-Some.symbol c.args.name.now c.requires lt has)

pub returns : goal.returns
returns c =
    let files = files_of c.args.tables.now in
    let b = binding_view c.args.binding.now in
    sym (nowhere files b c.args.name.now c.prove_few.ensures (λ f i lt below. c.loop-file.invariant f i (omega (arith, lt, c.loop-file-test.false, c.file_count-file-end.ensures)) below))
