-- Entries that are sorted by their names, of which those that repeat a name are left out.
use Rattle.std.proofs.Common.{◌≡◌, ℕ, Bool, None, List, [], ◌∷◌, ◌++◌, length, take, drop, refl, sym, ap, ◌∙◌, arith}
use Rattle.std.specs.Ordering.{is_lt}
use Rattle.std.specs.List.Sorted.{IsSorted, IsStable}
use Rattle.std.proofs.lemmas.Cmp.{nat_list_cmp_total}
use Rattle.std.proofs.lemmas.List.{append-nil}
use Rattle.std.proofs.lemmas.List.Sorted.{ranks_by}
use Rattle.std.proofs.Math.ListN.{drop_of_length-le}
use Rattle.symbol_table.specs.declared.named.Named.{Named}
use Rattle.symbol_table.specs.NameOrder.{by_name}
use Rattle.symbol_table.specs.NamedViews.{name_cmp, name_of, named_view, named_views}
use Rattle.symbol_table.specs.Repeats.{firsts_after}
use Rattle.symbol_table.specs.SymbolTable.{TableSymbol}
use Rattle.symbol_table.proofs.NameOrders.{firsts_are, less}
use Rattle.symbol_table.proofs.StableSort.{shown_all, sorted_is}

abbrev below : Named → Named → Bool
below x y = is_lt (name_cmp x y)

abbrev shown_below : TableSymbol → TableSymbol → Bool
shown_below x y = less x.name y.name

take_all : {X : Type 0} (xs : List X) (n : ℕ) → n ≡ length xs → take n xs ≡ xs
take_all [] n is = let e : n ≡ 0 = is in ap (λ k. take k []) e
take_all (x ∷ xs) n is = let e : n ≡ length (x ∷ xs) = is in ap (λ k. take k (x ∷ xs)) e ∙ ap (λ l. x ∷ l) (take_all xs (length xs) refl)

-- a list that was lent whole
pub lent_whole : {X : Type 0} (old new slice : List X) (n : ℕ) → length new ≡ length old → n ≡ length old → slice ≡ take n (new ++ drop (length new) old) → slice ≡ new
lent_whole old new slice n same all is =
    is ∙ ap (λ l. take n (new ++ l)) (drop_of_length-le old (omega (arith, same)))
    ∙ ap (take n) (append-nil new) ∙ take_all new n (all ∙ sym same)

pub names_in_order : (old new slice : List Named) → slice ≡ new → IsSorted name_cmp new → IsStable name_cmp old new
    → firsts_after (λ (t : TableSymbol). t.name) None (named_views slice) ≡ by_name (λ (t : TableSymbol). t.name) (named_views old)
names_in_order old new slice whole sorted stable =
    ap (λ l. firsts_after (λ (t : TableSymbol). t.name) None (named_views l)) (whole ∙ sorted_is below (ranks_by nat_list_cmp_total name_of) new old sorted stable)
    ∙ ap (firsts_after (λ (t : TableSymbol). t.name) None) (shown_all named_view below shown_below (λ x y. refl) old)
    ∙ firsts_are (λ (t : TableSymbol). t.name) (named_views old)
