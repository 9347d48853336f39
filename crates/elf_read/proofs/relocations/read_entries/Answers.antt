use Rattle.std.proofs.Common.{rules, sym, subst, List, [], ◌<◌, ◌^◌}
use Rattle.std.proofs.lemmas.Result.{err_from_is_err_and}
use Rattle.lk_tables.specs.Checks.{passes, from_on}
use Rattle.lk_tables.specs.Relocations.{entry_checks, reloc, rela_count, end_of}
use Rattle.lk_tables.specs.declared.objects.Reloc.{Reloc}
use Rattle.std.specs.List.{All}
use Rattle.std.proofs.lemmas.List.Elements.{All-append, All-cons, All-nil}
use Rattle.lk_tables.proofs.Passing.{step_passes, step_fails, step_items}
use Rattle.elf_read.proofs.relocations.read_entries.Goals as goal

pub returns-in_err-read_entry-clause-checked : goal.returns-in_err-read_entry-clause-checked
returns-in_err-read_entry-clause-checked c =
    let b = c.args.file.now.bytes.now in
    let f = entry_checks b c.args.index in
    let n = rela_count b c.args.index in
    let p = err_from_is_err_and c.from_residual-in_err-read_entry.result c.from_residual-in_err-read_entry.ensures.1 in
    rw (p.1, p.2) (step_fails f c.loop-entry.entry n (reloc b c.args.index c.loop-entry.entry) _
    (passes (from_on f 0 n)) (search rules) c.loop-entry.invariant.so_far (sym c.in_err-read_entry.ensures.reloc))

pub loop-entry-preserved : goal.loop-entry-preserved
loop-entry-preserved c =
    let b = c.args.file.now.bytes.now in
    let f = entry_checks b c.args.index in
    let g = reloc b c.args.index in
    let n = rela_count b c.args.index in
    let j = c.loop-entry.entry in
    let read = sym c.in_ok-read_entry.ensures.reloc in
    record {
      so_far = step_passes f j n (g j) _ (passes (from_on f 0 n)) (search rules) c.loop-entry.invariant.so_far read;
      items = step_items (f j) g j _ _ _ c.loop-entry.invariant.items c.in_ok-push.ensures.items read;
      ends =
          let P : Reloc → Type 0 = λ r. end_of c.args.contents.now r < 2 ^ 64 in
          subst (λ (rs : List Reloc). All P rs) (sym c.in_ok-push.ensures.items)
          (All-append P _ _ c.loop-entry.invariant.ends (All-cons P _ [] c.in_ok-read_entry.ensures.end (All-nil P)));
    }
