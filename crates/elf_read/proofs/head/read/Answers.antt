use Rattle.std.proofs.Common.{◌≡◌, sym, ◌∙◌, ◌++◌, refl}
use Rattle.std.specs.Prelude.{Ok}
use Rattle.std.proofs.lemmas.Result.{err_from_is_err_and}
use Rattle.lk_tables.specs.FileHeader.{header_checks}
use Rattle.lk_tables.specs.Heads.{head_of, head_checks, fields_of, all_section_checks, all_symbol_checks}
use Rattle.lk_tables.proofs.Passing.{first_fails, second_decides, fails_as, checked_passed, checked_failed}
use Rattle.elf_read.proofs.head.read.Goals as goal

pub returns-in_err-file : goal.returns-in_err-file
unfolding head_of head_checks
returns-in_err-file c =
    let b = c.args.bytes.now in
    let p = err_from_is_err_and c.from_residual.result c.from_residual.ensures.1 in
    rw (p.1, p.2) (first_fails (header_checks b) (all_section_checks b ++ all_symbol_checks b) (fields_of b) _ (sym c.in_err-file.ensures.checked))

pub returns-in_err-sections : goal.returns-in_err-sections
unfolding head_of head_checks
returns-in_err-sections c =
    let b = c.args.bytes.now in
    let p = err_from_is_err_and c.from_residual-in_err-sections.result c.from_residual-in_err-sections.ensures.1 in
    let bad = rw c.in_ok-file.ensures.same at c.in_err-sections.ensures.checked in
    rw (p.1, p.2) (fails_as _ _ _ (λ f h.
    second_decides (header_checks b) (all_section_checks b ++ all_symbol_checks b) (fields_of b) (sym c.in_ok-file.ensures.checked)
    ∙ first_fails (all_section_checks b) (all_symbol_checks b) (fields_of b) f h) bad)

pub returns-in_err-symbols : goal.returns-in_err-symbols
unfolding head_of head_checks
returns-in_err-symbols c =
    let b = c.args.bytes.now in
    let p = err_from_is_err_and c.from_residual-in_err-symbols.result c.from_residual-in_err-symbols.ensures.1 in
    let passed = rw c.in_ok-file.ensures.same at c.in_ok-sections.ensures.checked in
    let bad = rw c.in_ok-file.ensures.same at c.in_err-symbols.ensures.checked in
    rw (p.1, p.2) (fails_as _ _ _ (λ f h.
    second_decides (header_checks b) (all_section_checks b ++ all_symbol_checks b) (fields_of b) (sym c.in_ok-file.ensures.checked)
    ∙ (second_decides (all_section_checks b) (all_symbol_checks b) (fields_of b) passed
    ∙ checked_failed (all_symbol_checks b) tt (fields_of b) f h)) bad)

pub returns : goal.returns
unfolding head_of head_checks fields_of
returns c =
    let b = c.args.bytes.now in
    let passed = rw c.in_ok-file.ensures.same at c.in_ok-sections.ensures.checked in
    let last = rw c.in_ok-file.ensures.same at c.in_ok-symbols.ensures.checked in
    let sections = rw c.in_ok-file.ensures.same at c.in_ok-sections.ensures.list in
    let symtab = rw c.in_ok-file.ensures.same at c.in_ok-sections.ensures.symtab in
    let symbols = rw c.in_ok-file.ensures.same at c.in_ok-symbols.ensures.list in
    let whole : head_of b ≡ Ok (fields_of b) =
    second_decides (header_checks b) (all_section_checks b ++ all_symbol_checks b) (fields_of b) (sym c.in_ok-file.ensures.checked)
    ∙ (second_decides (all_section_checks b) (all_symbol_checks b) (fields_of b) passed
    ∙ checked_passed (all_symbol_checks b) tt (fields_of b) tt last) in
    whole ∙ sym (rw (c.word_at.ensures, sections, symtab, symbols) refl)
