use Rattle.std.proofs.Common.{sym, ap, ◌∙◌, arith}
use Rattle.lk_tables.specs.declared.heads.Section.{Section}
use Rattle.lk_tables.specs.Bodies.{use_checks}
use Rattle.lk_tables.specs.Checks.{passes, from_on}
use Rattle.lk_tables.specs.FileHeader.{header}
use Rattle.lk_tables.proofs.BodyFacts.{no_symbols, is_header}
use Rattle.lk_tables.proofs.HeadFacts.{readable}
use Rattle.elf_read.proofs.symbol_checks.check_uses.Goals as goal

pub returns-then-file-eq0 : goal.returns-then-file-eq0
returns-then-file-eq0 c =
    let b = c.args.file.now.bytes.now in
    sym (ap (λ n. passes (from_on (use_checks b) 0 n)) (no_symbols b (sym c.args.file.now.symtab_is ∙ c.if-file-eq0.true)))

pub section-requires : goal.section-requires
section-requires c =
    let k = c.args.file.now in
    let r = readable k.bytes.now k.passed (λ none. c.if-file-eq0.false (k.symtab_is ∙ none)) in
    omega (arith, r.high, k.counted, k.symtab_is)

pub check_each_use-requires-clause-from : goal.check_each_use-requires-clause-from
check_each_use-requires-clause-from c =
    let k = c.args.file.now in
    ap (λ (s : Section). s.offset) c.section.ensures ∙ (is_header k.bytes.now k.symtab).offset
    ∙ ap (λ i. (header k.bytes.now i).offset) k.symtab_is

pub check_each_use-requires-clause-within : goal.check_each_use-requires-clause-within
check_each_use-requires-clause-within c =
    let k = c.args.file.now in
    let r = readable k.bytes.now k.passed (λ none. c.if-file-eq0.false (k.symtab_is ∙ none)) in
    let from = ap (λ (s : Section). s.offset) c.section.ensures ∙ (is_header k.bytes.now k.symtab).offset
    ∙ ap (λ i. (header k.bytes.now i).offset) k.symtab_is in
    omega (arith, from, r.within, r.count, k.symbols_counted)
