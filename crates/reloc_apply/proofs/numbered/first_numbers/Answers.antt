use Rattle.std.proofs.Common.{◌+◌, ◌∙◌, ap, arith, length, sum, take}
use Rattle.lk_tables.specs.Files.{file_at, relocs_at}
use Rattle.lk_tables.specs.TablesView.{files_of}
use Rattle.lk_tables.proofs.ByNumber.{length_by_section}
use Rattle.reloc_apply.proofs.AddedUp.{counts_before}
use Rattle.reloc_apply.proofs.numbered.first_numbers.Goals as goal

pub returns-clause-count : goal.returns-clause-count
returns-clause-count c =
    let files = files_of c.args.tables.now in
    c.in_ok-add_up.ensures.count
    ∙ ap (λ k. k + 1) (ap length c.in_ok-counts.ensures ∙ length_by_section files (λ f k. length (relocs_at (file_at files f) k)))

pub returns-clause-firsts : goal.returns-clause-firsts
returns-clause-firsts c = λ n le.
    let files = files_of c.args.tables.now in
    c.in_ok-add_up.ensures.sums n (omega (arith, le, ap length c.in_ok-counts.ensures, length_by_section files (λ f k. length (relocs_at (file_at files f) k))))
    ∙ ap (λ l. sum (take n l)) c.in_ok-counts.ensures ∙ counts_before files n le
