use Rattle.std.proofs.Common.{◌≡◌, ◌+◌, drop, ℕ, List}
use Rattle.std.specs.List.{position_or_len}
use Rattle.std.specs.Str.{bytes_eq}
use Rattle.lk_tables.specs.declared.linker_symbols.FixedSymbol.{FixedSymbol}
use Rattle.lk_tables.proofs.linker_symbols.place_of.Given as goal

abbrev place_in : List FixedSymbol → List ℕ → ℕ
place_in table name = position_or_len (λ s. bytes_eq s.name.now name) table

abbrev pub invariant-loop-i : goal.invariant-loop-i
invariant-loop-i l = l.i + place_in (drop l.i l.table) l.name ≡ place_in l.table l.name
