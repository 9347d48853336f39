use Rattle.std.proofs.Common.{ap, length, ◌∙◌, arith, inl, inr}
use Rattle.std.proofs.lemmas.Bool.{cases_eq}
use Rattle.lk_base.specs.declared.abi.TheConstants.{SHT_SYMTAB_SHNDX}
use Rattle.lk_tables.specs.Symbols.{index_table_of}
use Rattle.lk_tables.proofs.HeadFacts.{has_first, readable, length_sections}
use Rattle.elf_read.proofs.symbols.read_symbols.Goals as goal

pub table_in-requires-clause-readable : goal.table_in-requires-clause-readable
table_in-requires-clause-readable c =
    readable c.args.file.now.bytes.now c.requires.passed (λ none. c.if-symtab-eq0.false (c.requires.symtab ∙ none))

pub table_in-requires-clause-counted : goal.table_in-requires-clause-counted
table_in-requires-clause-counted c = ap length c.requires.sections ∙ length_sections c.args.file.now.bytes.now

pub table_in-requires-clause-index_table_high : goal.table_in-requires-clause-index_table_high
table_in-requires-clause-index_table_high c =
    let b = c.args.file.now.bytes.now in
    let table = readable b c.requires.passed (λ none. c.if-symtab-eq0.false (c.requires.symtab ∙ none)) in
    elim (cases_eq (index_table_of b) 0) [
      | inl none ↦ omega (arith, none, c.requires.index_table, table.low, table.high)
      | inr some ↦ omega (arith, c.requires.index_table, (has_first b SHT_SYMTAB_SHNDX some).high)
    ]
