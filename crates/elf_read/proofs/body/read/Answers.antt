use Rattle.std.proofs.Common.{◌≡◌, [], false, replicate, map, sym, ap, ◌∙◌, refl, arith}
use Rattle.std.specs.Prelude.{Ok}
use Rattle.std.proofs.lemmas.List.{with_items_is}
use Rattle.std.proofs.lemmas.Result.{err_from_is_err_and}
use Rattle.lk_tables.specs.Bodies.{all_body_checks, all_use_checks}
use Rattle.lk_tables.specs.Objects.{object_of, object_checks, parts_of}
use Rattle.elf_read.proofs.GroupLists.{taken_start}
use Rattle.elf_read.proofs.RelocLists.{marks_start, lists_start, lists_end}
use Rattle.lk_tables.proofs.Passing.{first_fails, second_decides, fails_as, checked_passed, checked_failed}
use Rattle.elf_read.proofs.body.read.Goals as goal

pub read_sections-requires-clause-marks : goal.read_sections-requires-clause-marks
read_sections-requires-clause-marks c =
    let k = c.reopen-file.result in
    c.as_mut_slice.ensures.value ∙ c.in_ok-marks.ensures.items_if_clones_equal (λ y k. k)
    ∙ ap (λ n. replicate n false) k.counted ∙ marks_start k.bytes.now

pub read_sections-requires-clause-lists : goal.read_sections-requires-clause-lists
read_sections-requires-clause-lists c =
    let k = c.reopen-file.result in
    ap (map (λ list. list.items)) c.as_mut_slice-2.ensures.value ∙ c.in_ok-lists.ensures
    ∙ ap (λ n. replicate n []) k.counted ∙ lists_start k.bytes.now

pub read_sections-requires-clause-taken : goal.read_sections-requires-clause-taken
read_sections-requires-clause-taken c =
    let k = c.reopen-file.result in
    c.as_mut_slice-3.ensures.value ∙ c.in_ok-taken.ensures.items_if_clones_equal (λ y k. k)
    ∙ ap (λ n. replicate n false) k.counted ∙ taken_start k.bytes.now

pub returns-in_err-read_sections : goal.returns-in_err-read_sections
unfolding object_of object_checks
returns-in_err-read_sections c =
    let b = c.args.bytes.now in
    let p = err_from_is_err_and c.from_residual-in_err-read_sections.result c.from_residual-in_err-read_sections.ensures.1 in
    let bad = rw c.reopen-file.ensures at c.in_err-read_sections.ensures.checked in
    rw (p.1, p.2) (fails_as _ _ _ (λ f h. first_fails (all_body_checks b) (all_use_checks b) (parts_of b) f h) bad)

pub returns-in_err-check_uses : goal.returns-in_err-check_uses
unfolding object_of object_checks
returns-in_err-check_uses c =
    let b = c.args.bytes.now in
    let p = err_from_is_err_and c.from_residual-in_err-check_uses.result c.from_residual-in_err-check_uses.ensures.1 in
    let passed = rw c.reopen-file.ensures at c.in_ok-read_sections.ensures.checked in
    let bad = rw c.reopen-file.ensures at c.in_err-check_uses.ensures in
    rw (p.1, p.2) (second_decides (all_body_checks b) (all_use_checks b) (parts_of b) passed
    ∙ checked_failed (all_use_checks b) (tt {0}) (parts_of b) _ (sym bad))

pub returns : goal.returns
unfolding object_of object_checks parts_of
returns c =
    let b = c.args.bytes.now in
    let passed = rw c.reopen-file.ensures at c.in_ok-read_sections.ensures.checked in
    let last = rw c.reopen-file.ensures at c.in_ok-check_uses.ensures in
    let lists = rw c.reopen-file.ensures at c.in_ok-read_sections.ensures.lists ∙ lists_end b in
    let kept = with_items_is c.in_ok-lists.lists c.read_sections.new.lists (omega (arith, c.read_sections.auto.lists, c.as_mut_slice-2.ensures.len)) in
    let whole : object_of b ≡ Ok (parts_of b) =
    second_decides (all_body_checks b) (all_use_checks b) (parts_of b) passed
    ∙ checked_passed (all_use_checks b) (tt {0}) (parts_of b) (tt {0}) (sym last) in
    let groups = rw c.reopen-file.ensures at c.in_ok-read_sections.ensures.groups in
    whole ∙ sym (rw (kept, lists, groups) refl)
