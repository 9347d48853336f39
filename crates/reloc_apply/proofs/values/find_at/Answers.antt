use Rattle.std.proofs.Common.{ℕ, ◌<◌, length, rules, sym, ap, arith}
use Rattle.lk_tables.specs.declared.objects.Reloc.{Reloc}
use Rattle.lk_tables.specs.Files.{no_reloc}
use Rattle.lk_tables.proofs.Finding.{found, missing_at, missing_past}
use Rattle.reloc_apply.proofs.values.find_at.Goals as goal

abbrev number : Reloc → ℕ
number r = r.offset

pub returns-in_default : goal.returns-in_default
returns-in_default c = sym (missing_past number c.args.relocs.now c.args.offset c.relocs_before-n.result no_reloc (search rules) c.relocs_before-n.ensures.before)

pub returns-then-reloc-offset : goal.returns-then-reloc-offset
returns-then-reloc-offset c =
    let lt : c.relocs_before-n.result < length c.args.relocs.now = search rules in
    let is = c.in-Some.ensures.lookup.1 in
    let next = c.relocs_before-n.ensures.next c.relocs_before-n.result c.in-Some.reloc.now (omega arith) lt in
    sym (missing_at number c.args.relocs.now c.args.offset c.relocs_before-n.result c.in-Some.reloc.now c.requires lt c.relocs_before-n.ensures.before is
    (omega (arith, next, ap number is)) c.if-reloc-offset.true)

pub returns : goal.returns
returns c =
    let lt : c.relocs_before-n.result < length c.args.relocs.now = search rules in
    sym (found number c.args.relocs.now c.args.offset c.relocs_before-n.result c.in-Some.reloc.now lt c.relocs_before-n.ensures.before c.in-Some.ensures.lookup.1 c.if-reloc-offset.false)
