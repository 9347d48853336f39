use Rattle.std.proofs.Common.{length, sym}
use Rattle.std.proofs.lemmas.List.{length-map}
use Rattle.link_gen.specs.Contents.{symbol_view, symbols_in}
use Rattle.link_gen.proofs.Lengths.{ret_length, g_length, relocation_length, relocations_length, table_length, string_length}
use Rattle.link_gen.proofs.contents.contents_size.Goals as goal

pub returns-in-CallRelocations-clause-value : goal.returns-in-CallRelocations-clause-value
returns-in-CallRelocations-clause-value c = rw c.in-CallRelocations.is (relocations_length c.args.object.now.number c.args.object.now.calls)

pub returns-in-Number-clause-value : goal.returns-in-Number-clause-value
returns-in-Number-clause-value c = rw c.in-Number.is (g_length c.args.object.now.number)

pub returns-in-Ret-clause-value : goal.returns-in-Ret-clause-value
returns-in-Ret-clause-value c = rw c.in-Ret.is ret_length

pub returns-in-MergedString-clause-value : goal.returns-in-MergedString-clause-value
returns-in-MergedString-clause-value c = rw c.in-MergedString.is (string_length c.args.object.now.number c.digit_count.result c.digit_count.ensures.value)

pub returns-in-Pointer-clause-value : goal.returns-in-Pointer-clause-value
returns-in-Pointer-clause-value c = rw c.in-Pointer.is (relocation_length 0 2 1)

pub returns-in-SymbolTable-clause-value : goal.returns-in-SymbolTable-clause-value
returns-in-SymbolTable-clause-value c =
    rw c.in-SymbolTable.is
    (table_length (symbols_in c.args.object.now) (length c.args.object.now.symbols.now) (sym (length-map c.args.object.now.symbols.now symbol_view)))
