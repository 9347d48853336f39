use Rattle.std.proofs.Common.{◌≡◌, length, get_or, ap, ◌∙◌, arith}
use Rattle.lk_tables.specs.Files.{by_symbol, first_symbol, symbol_no}
use Rattle.lk_tables.specs.NameNumbers.{name_number}
use Rattle.lk_tables.proofs.ByNumber.{length_by_symbol, read_by_symbol}
use Rattle.lk_tables.proofs.FirstNumbers.{first_at, first_within}
use Rattle.lk_tables.proofs.numbering.NameNumbers.number.Goals as goal

pub returns : goal.returns
returns c = λ files is lt less.
    let f = c.args.file in
    let i = c.args.symbol in
    let numbers = c.args.self.now.numbers in
    let ok = numbers.ok in
    let small = numbers.small in
    let give = name_number files in
    let total = ap length is.numbers ∙ length_by_symbol files give in
    let start : c.number_at-start.result ≡ first_symbol files f =
    c.number_at-start.ensures ∙ ap (λ l. get_or l f 0) c.deref.ensures.value ∙ first_at (first_symbol files) c.args.self.now.starts.items (length files) f is.starts (omega arith) in
    let at : c.saturating_add.result ≡ symbol_no files f i = omega (arith, first_within files f lt) in
    c.number_at.ensures ∙ ap (λ l. get_or l c.saturating_add.result 0) (c.deref-2.ensures.value ∙ is.numbers) ∙ ap (λ k. get_or (by_symbol files give) k 0) at
    ∙ read_by_symbol files give f i 0 lt less
