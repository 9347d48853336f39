-- The items stand for kept sections.
use Rattle.std.proofs.Common.{◌≡◌, ℕ, Bool, true, List, sym, subst}
use Rattle.std.specs.Prelude.{All, Option}
use Rattle.std.proofs.lemmas.Bool.{and_parts}
use Rattle.lk_tables.specs.Binding.{Bindings}
use Rattle.lk_tables.specs.Files.{File, section_total}
use Rattle.link_sections.specs.FoldItems.{sections_of}
use Rattle.link_sections.specs.Leaders.{is_kept}
use Rattle.link_sections.specs.PoolViews.{Merged}
use Rattle.sec_graph.specs.Foldable.{is_foldable, items}
use Rattle.sec_graph.proofs.FoldOrder.{sections_are}
use Rattle.sec_graph.proofs.ListParts.{each_passed}

pub items_kept : (files : List File) (b : Bindings) (merged : List (Option Merged)) (kept barred : List Bool) → All (λ n. is_kept kept n ≡ true) (sections_of (items files b merged kept barred))
unfolding is_foldable
items_kept files b merged kept barred =
    let P : List ℕ → Type 0 = All (λ n. is_kept kept n ≡ true) in
    subst P (sym (sections_are files b merged kept barred)) (each_passed (λ n. is_kept kept n ≡ true) (is_foldable files b kept barred) 0 (section_total files) (λ n lt is.
    (and_parts (is_kept kept n) _ is).0))
