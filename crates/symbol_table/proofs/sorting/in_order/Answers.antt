use Rattle.std.proofs.Common.{◌≡◌, List, IfOk, length, ap, subst, ◌∙◌}
use Rattle.symbol_table.specs.NamedViews.{name_cmp}
use Rattle.symbol_table.specs.SymbolTable.{TableSymbol}
use Rattle.symbol_table.specs.SymbolViews.{symbol_views}
use Rattle.std.specs.List.Sorted.{IsStable}
use Rattle.symbol_table.specs.declared.named.Named.{Named}
use Rattle.symbol_table.proofs.Sorted.{lent_whole, names_in_order}
use Rattle.symbol_table.proofs.sorting.in_order.Goals as goal

pub returns : goal.returns
returns g c =
    let old : List Named = c.args.list.now.items in
    let P : List Named → Type 0 = λ l. IsStable name_cmp l c.sort.new.list in
    let stable : IsStable name_cmp old c.sort.new.list = subst P c.as_mut_slice.ensures.value c.in_ok-sort.ensures.stable in
    let whole : c.as_slice.result.now ≡ c.sort.new.list =
    lent_whole old c.sort.new.list c.as_slice.result.now c.args.list.now.len (c.in_ok-sort.ensures.len ∙ ap length c.as_mut_slice.ensures.value) c.args.list.now.ok.0 c.as_slice.ensures.value in
    let Q : List TableSymbol → Type 0 = λ l. IfOk c.firsts.result (λ sorted. symbol_views sorted.items ≡ l) in
    subst Q (names_in_order old c.sort.new.list c.as_slice.result.now whole c.in_ok-sort.ensures.sorted stable) c.firsts.ensures
