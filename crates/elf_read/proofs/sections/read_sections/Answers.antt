use Rattle.std.proofs.Common.{rules, refl, sym, ◌∙◌, arith}
use Rattle.std.proofs.lemmas.Result.{err_from_is_err_and}
use Rattle.lk_base.specs.declared.abi.TheConstants.{SHT_SYMTAB, SHT_SYMTAB_SHNDX}
use Rattle.lk_tables.specs.Checks.{passes}
use Rattle.lk_tables.specs.FileHeader.{section_count}
use Rattle.lk_tables.specs.Heads.{all_section_checks}
use Rattle.lk_tables.specs.Sections.{section_of, section_checks, first_of}
use Rattle.lk_tables.proofs.HeadFacts.{later_is}
use Rattle.lk_tables.proofs.Passing.{step_passes, step_fails, step_items}
use Rattle.elf_read.proofs.sections.read_sections.Goals as goal

pub loop-index-init : goal.loop-index-init
unfolding first_of
loop-index-init c = record {
  so_far = refl;
  items = c.in_ok-list.ensures.items;
  last_is = λ at low high. absurd (omega (arith, low, high));
  symtab_is = refl;
  index_table_is = refl;
}

pub returns-in_err-section-clause-checked : goal.returns-in_err-section-clause-checked
returns-in_err-section-clause-checked c =
    let b = c.args.file.now.bytes.now in
    let p = err_from_is_err_and c.from_residual-in_err-section.result c.from_residual-in_err-section.ensures.1 in
    rw (p.1, p.2) (step_fails (section_checks b) c.loop-index.index (section_count b) (section_of b c.loop-index.index) _
    (passes (all_section_checks b)) (search rules) c.loop-index.invariant.so_far (sym c.in_err-section.ensures.section))

pub loop-index-preserved : goal.loop-index-preserved
loop-index-preserved c =
    let b = c.args.file.now.bytes.now in
    let i = c.loop-index.index in
    let read = sym c.in_ok-section.ensures.section in
    let symtab = rw (c.loop-index.invariant.symtab_is, c.in_ok-section.ensures.sh_type) at c.later-symtab.ensures in
    let index_table = rw (c.loop-index.invariant.index_table_is, c.in_ok-section.ensures.sh_type) at c.later-index_table.ensures in
    record {
      so_far = step_passes (section_checks b) i (section_count b) (section_of b i) _ (passes (all_section_checks b)) (search rules)
          c.loop-index.invariant.so_far read;
      items = step_items (section_checks b i) (section_of b) i _ _ _ c.loop-index.invariant.items c.in_ok-push.ensures.items read;
      last_is = c.in_ok-section.ensures.last;
      symtab_is = symtab ∙ sym (later_is b SHT_SYMTAB i);
      index_table_is = index_table ∙ sym (later_is b SHT_SYMTAB_SHNDX i);
    }
