-- The parts of all files, one after the other, are the lists of all sections.
use Rattle.std.proofs.Common.{◌≡◌, ℕ, ◌<◌, List, [], ◌∷◌, ◌++◌, length, flat_map, All, refl, sym, ap, ◌∙◌, subst}
use Rattle.std.specs.List.{range_with_len}
use Rattle.lk_tables.specs.BoundNames.{IsBindingOf}
use Rattle.lk_tables.specs.Binding.{Bindings}
use Rattle.lk_tables.specs.Files.{AreFew, File, by_section, section_total}
use Rattle.lk_tables.proofs.ByNumber.{length_by_section, section_row}
use Rattle.sec_graph.specs.Graph.{edges, ends_in}
use Rattle.sec_graph.specs.Rows.{rows_of}
use Rattle.sec_graph.proofs.Within.{edges_below}

one_each : {X : Type 0} (g : ℕ → List X) (ns : List ℕ) → flat_map (λ part. part) (flat_map (λ n. g n ∷ []) ns) ≡ flat_map g ns
one_each g [] = refl
one_each g (n ∷ ns) = ap (λ l. g n ++ l) (one_each g ns)

pub joined_rows : (files : List File) (b : Bindings) (parts : List (List (List ℕ))) (rows : List (List ℕ)) →
    parts ≡ flat_map (rows_of files b) (range_with_len 0 (length files)) → rows ≡ flat_map (λ part. part) parts → rows ≡ edges files b
unfolding edges by_section
joined_rows files b parts rows parts_are rows_are =
    rows_are ∙ ap (flat_map (λ part. part)) parts_are ∙ one_each (section_row files (ends_in files b)) (range_with_len 0 (length files))

pub row_count : (files : List File) (b : Bindings) (rows : List (List ℕ)) → rows ≡ edges files b → length rows ≡ section_total files
unfolding edges
row_count files b rows is = ap length is ∙ length_by_section files (ends_in files b)

pub rows_within : (files : List File) (b : Bindings) (rows : List (List ℕ)) → IsBindingOf files b → AreFew files → rows ≡ edges files b →
    All (All (λ end. end < length rows)) rows
rows_within files b rows bound few is =
    let P : ℕ → List (List ℕ) → Type 0 = λ n l. All (All (λ end. end < n)) l in
    subst (λ n. P n rows) (sym (row_count files b rows is)) (subst (P (section_total files)) (sym is) (edges_below files b bound few))
