-- The sections that are folded with no other, as they are found.
use Rattle.std.proofs.Common.{◌≡◌, ℕ, ◌<◌, ◌==◌, ◌&&◌, ◌||◌, Bool, true, false, List, length, replicate, get_or, refl, ap, ◌∙◌, arith}
use Rattle.std.specs.Prelude.{if◌then◌else◌}
use Rattle.std.specs.List.{list_any}
use Rattle.std.proofs.lemmas.List.{get_or-replicate, length-replicate}
use Rattle.std.proofs.lemmas.List.FromFn.{fill_by_all, length-map-range_with_len}
use Rattle.asked_names.specs.AskedNames.{named_sections}
use Rattle.lk_tables.specs.Binding.{Bindings}
use Rattle.lk_tables.specs.Files.{File, section_total}
use Rattle.lk_tables.specs.Reach.{with_marked}
use Rattle.lk_tables.proofs.Marking.{length_marked}
use Rattle.link_command.specs.declared.command.IcfMode.{IcfMode}
use Rattle.link_command.specs.Command.{is_safe}
use Rattle.sec_graph.specs.Taken.{address_taken}
use Rattle.sec_graph.proofs.Marking.{marked_at}
use Rattle.link_passes.specs.Passes.{barred_of, is_apart}

module _ (files : List File) (b : Bindings) (kept : List Bool) where
  abbrev first : (safe : Bool) → List Bool
  first safe = if safe then address_taken files b kept else replicate (section_total files) false

  wide : (safe : Bool) → length (first safe) ≡ section_total files
  unfolding address_taken
  wide true = length-map-range_with_len _ 0 (section_total files)
  wide false = length-replicate (section_total files) false

  marked : (safe : Bool) (k : ℕ) → k < section_total files → get_or (first safe) k false ≡ (safe && get_or (address_taken files b kept) k false)
  marked true k lt = refl
  marked false k lt = get_or-replicate (section_total files) k false false lt

pub barred_are : (icf : IcfMode) (unique : List (List ℕ)) (files : List File) (b : Bindings) (kept start barred : List Bool) (named : List ℕ) (safe : Bool) →
    safe ≡ is_safe icf → start ≡ (if safe then address_taken files b kept else replicate (section_total files) false) →
    named ≡ named_sections files b unique → barred ≡ with_marked start named → barred ≡ barred_of icf unique files b kept
unfolding barred_of
barred_are icf unique files b kept start barred named safe mode starts names is =
    let all = with_marked (first files b kept safe) named in
    let one : barred ≡ all = is ∙ ap (λ m. with_marked m named) starts in
    one ∙ fill_by_all (is_apart icf unique files b kept) all (section_total files) false
    (length_marked (first files b kept safe) named ∙ wide files b kept safe)
    (λ k lt.
    marked_at (first files b kept safe) named k (omega (arith, wide files b kept safe))
    ∙ ap (λ x. list_any (λ s. s == k) named || x) (marked files b kept safe k lt)
    ∙ ap (λ t. list_any (λ s. s == k) named || (t && get_or (address_taken files b kept) k false)) mode
    ∙ ap (λ ns. list_any (λ s. s == k) ns || (is_safe icf && get_or (address_taken files b kept) k false)) names)
