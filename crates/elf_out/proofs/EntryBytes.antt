-- The entries of the symbol table, and its names, one after the other.
use Rattle.std.proofs.Common.{◌≡◌, ℕ, suc, ◌+◌, ◌<◌, List, ◌∷◌, ◌++◌, length, drop, get_or, append_assoc, ap, sym, ◌∙◌, arith}
use Rattle.std.proofs.Math.Seq.{drop-cons}
use Rattle.symbol_table.specs.declared.symbols.TableSymbol.{TableSymbol as HeldSymbol}
use Rattle.symbol_table.specs.SymbolTable.{TableSymbol}
use Rattle.symbol_table.specs.SymbolViews.{symbol_view, symbol_views}
use Rattle.elf_fields.specs.Symbols.{zero_ended}
use Rattle.elf_out.specs.Symbols.{entry_bytes, symbol_entries, symbol_names}

rest_is : (xs : List HeldSymbol) (i : ℕ) (d : HeldSymbol) → i < length xs → symbol_views (drop i xs) ≡ symbol_view (get_or xs i d) ∷ symbol_views (drop (i + 1) xs)
rest_is xs i d lt =
    let e : suc i ≡ i + 1 = omega arith in
    ap symbol_views (drop-cons xs i d lt) ∙ ap (λ k. symbol_view (get_or xs i d) ∷ symbol_views (drop k xs)) e

-- one symbol more
pub symbols_step : (xs : List HeldSymbol) (i : ℕ) (d : HeldSymbol) (name next : ℕ) (symbols more all : List ℕ) → i < length xs →
    more ≡ symbols ++ entry_bytes name (symbol_view (get_or xs i d)) → next ≡ name + length (get_or xs i d).name.now + 1 →
    symbols ++ symbol_entries name (symbol_views (drop i xs)) ≡ all → more ++ symbol_entries next (symbol_views (drop (i + 1) xs)) ≡ all
symbols_step xs i d name next symbols more all lt e1 e2 held =
    let t : TableSymbol = symbol_view (get_or xs i d) in
    let ts : List TableSymbol = symbol_views (drop (i + 1) xs) in
    ap (λ l. l ++ symbol_entries next ts) e1
    ∙ append_assoc symbols (entry_bytes name t) (symbol_entries next ts)
    ∙ ap (λ n. symbols ++ (entry_bytes name t ++ symbol_entries n ts)) e2
    ∙ ap (λ l. symbols ++ symbol_entries name l) (sym (rest_is xs i d lt))
    ∙ held

-- one name more
pub names_step : (xs : List HeldSymbol) (i : ℕ) (d : HeldSymbol) (strings more all : List ℕ) → i < length xs →
    more ≡ strings ++ zero_ended (get_or xs i d).name.now →
    strings ++ symbol_names (symbol_views (drop i xs)) ≡ all → more ++ symbol_names (symbol_views (drop (i + 1) xs)) ≡ all
names_step xs i d strings more all lt e held =
    let t : TableSymbol = symbol_view (get_or xs i d) in
    let ts : List TableSymbol = symbol_views (drop (i + 1) xs) in
    ap (λ l. l ++ symbol_names ts) e
    ∙ append_assoc strings (zero_ended t.name) (symbol_names ts)
    ∙ ap (λ l. strings ++ symbol_names l) (sym (rest_is xs i d lt))
    ∙ held
