-- Entries that compare by their names, as plain records.
use Rattle.std.specs.Prelude.{◌≡◌, ℕ, ◌-◌, Result, IfOk, List, map, flat_map}
use Rattle.std.specs.declared.cmp.Ordering.{Ordering}
use Rattle.std.specs.declared.ops.Range.{Range}
use Rattle.std.specs.Global.{Vec}
use Rattle.std.specs.List.{range_with_len}
use Rattle.std.specs.Ordering.{nat_cmp}
use Rattle.std.specs.Cmp.Lexicographic.{slice_cmp}
use Rattle.lk_base.specs.declared.defects.LinkStop.{LinkStop}
use Rattle.symbol_table.specs.declared.named.Named.{Named}
use Rattle.symbol_table.specs.SymbolTable.{TableSymbol}
use Rattle.symbol_table.specs.SymbolViews.{symbol_view}

abbrev pub name_of : Named → List ℕ
name_of x = x.symbol.name.now

abbrev pub name_cmp : Named → Named → Ordering
name_cmp x y = slice_cmp nat_cmp (name_of x) (name_of y)

abbrev pub named_view : Named → TableSymbol
named_view x = symbol_view x.symbol

abbrev pub named_views : List Named → List TableSymbol
named_views list = map named_view list

-- what is listed for the numbers of a piece, in order
abbrev pub AreEntries : (give : ℕ → List TableSymbol) → Range ℕ → Result (Vec Named) LinkStop → Type 0
AreEntries give piece r = IfOk r (λ list. named_views list.items ≡ flat_map give (range_with_len piece.start (piece.end - piece.start)))
