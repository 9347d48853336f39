-- Roots are sections of the link.
use Rattle.std.proofs.Common.{ℕ, ◌<◌, List, ◌++◌, length, flat_map, All, arith}
use Rattle.std.specs.List.{range_with_len}
use Rattle.std.proofs.lemmas.List.Elements.{All-append}
use Rattle.lk_tables.specs.BoundNames.{IsBindingOf}
use Rattle.lk_tables.specs.Binding.{Bindings}
use Rattle.lk_tables.specs.Files.{AreFew, File, file_at, section_count, section_no, section_total}
use Rattle.lk_tables.specs.Targets.{entry_bound}
use Rattle.lk_tables.proofs.BoundHas.{each_flat, one_if}
use Rattle.lk_tables.proofs.BoundWithin.{entry_within}
use Rattle.lk_tables.proofs.FirstNumbers.{section_within}
use Rattle.asked_names.specs.AskedNames.{named_sections, section_bound}
use Rattle.asked_names.proofs.NameBounds.{bound_is_section, named_within, IsSection}
use Rattle.sec_gc.specs.Roots.{is_root, root_at, roots, roots_in}

pub roots_within : (files : List File) (b : Bindings) (undefined : List (List ℕ)) → IsBindingOf files b → AreFew files →
    All (λ r. r < section_total files) (roots files b undefined)
unfolding roots roots_in
roots_within files b undefined is few =
    All-append (IsSection files) (section_bound (entry_bound files b) ++ named_sections files b undefined)
    (flat_map (roots_in files b) (range_with_len 0 (length files)))
    (All-append (IsSection files) (section_bound (entry_bound files b)) (named_sections files b undefined)
    (bound_is_section files (entry_bound files b) (entry_within files b is few)) (named_within files b undefined is few))
    (each_flat (IsSection files) (roots_in files b) 0 (length files) (λ f lt.
    each_flat (IsSection files) (root_at files b f) 0 (section_count (file_at files f)) (λ k less.
    one_if (IsSection files) (is_root files b f k) (section_no files f k) (λ _. omega (arith, less, section_within files f (omega (arith, lt)))))))
