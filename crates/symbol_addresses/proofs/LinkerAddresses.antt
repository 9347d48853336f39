-- The address of a symbol of the linker's own, by its number.
use Rattle.std.proofs.Common.{◌≡◌, ℕ, ◌<◌, Bool, true, false, Option, Some, None, List, refl, sym, ap, ◌∙◌, arith, slice_index}
use Rattle.std.specs.Prelude.{if◌then◌else◌}
use Rattle.std.specs.Option.{option_map_or}
use Rattle.std.proofs.lemmas.Bool.{cond-false, cond-true, leb-false}
use Rattle.std.proofs.lemmas.List.FromFn.{get_or-map-range_with_len}
use Rattle.lk_base.specs.declared.abi.TheConstants.{IMAGE_BASE}
use Rattle.lk_tables.specs.Binding.{Bindings}
use Rattle.lk_tables.specs.Files.{File}
use Rattle.lk_tables.specs.InputSections.{input_at}
use Rattle.lk_tables.specs.LinkerSymbols.{bound_if, bound_section, edge_of, fixed_count, is_bound_no, is_stop_no}
use Rattle.link_sections.specs.Addresses.{bound_address, edge_address, end_or, first_place, last_place, linker_address, start_or}
use Rattle.link_sections.specs.LaidOut.{LaidOut}
use Rattle.link_sections.proofs.OwnLeaders.{chosen}
use Rattle.symbol_addresses.specs.declared.places.Extent.{Extent}
use Rattle.symbol_addresses.specs.Extents.{fixed_addresses}
use Rattle.symbol_addresses.specs.Noted.{AreExtents}
use Rattle.symbol_addresses.proofs.NotedSteps.{start_is, end_is}

unbound_is : (d : Bool) (n : ℕ) → (if d then Some n else None) ≡ None → d ≡ false
unbound_is true n is = cc
unbound_is false n is = refl

module _ (files : List File) (b : Bindings) (leaders : List (Option ℕ)) (laid : LaidOut) where
  -- of one that is no section's
  pub fixed_at : (number : ℕ) → bound_if number ≡ None → edge_address laid (edge_of number) ≡ linker_address files b leaders laid number
  unfolding linker_address
  fixed_at number none =
      sym (cond-false (is_bound_no number) (bound_address files b leaders laid number) (edge_address laid (edge_of number)) (unbound_is (is_bound_no number) (bound_section number) none))

  pub listed_at : (list : List ℕ) (number : ℕ) → list ≡ fixed_addresses laid → bound_if number ≡ None →
      slice_index list number ≡ linker_address files b leaders laid number
  unfolding fixed_addresses
  listed_at list number is none =
      let below : number < fixed_count = leb-false fixed_count number (unbound_is (is_bound_no number) (bound_section number) none) in
      ap (λ (xs : List ℕ). slice_index xs number) is
      ∙ get_or-map-range_with_len (λ n. edge_address laid (edge_of n)) 0 fixed_count number number 0 below (omega arith)
      ∙ fixed_at number none

  -- of the start and the end of the sections of a name
  pub stop_at : (number section : ℕ) → bound_if number ≡ Some section → is_stop_no number ≡ true →
      end_or IMAGE_BASE (last_place laid (input_at files b section).name) ≡ linker_address files b leaders laid number
  unfolding linker_address bound_address
  stop_at number section is stop =
      let both = chosen (is_bound_no number) (bound_section number) section is in
      let first = start_or IMAGE_BASE (first_place laid (input_at files b (bound_section number)).name) in
      let last = end_or IMAGE_BASE (last_place laid (input_at files b (bound_section number)).name) in
      ap (λ n. end_or IMAGE_BASE (last_place laid (input_at files b n).name)) (sym both.1)
      ∙ sym (cond-true (is_stop_no number) last first stop)
      ∙ sym (cond-true (is_bound_no number) (if is_stop_no number then last else first) (edge_address laid (edge_of number)) both.0)

  pub start_at : (number section : ℕ) → bound_if number ≡ Some section → is_stop_no number ≡ false →
      start_or IMAGE_BASE (first_place laid (input_at files b section).name) ≡ linker_address files b leaders laid number
  unfolding linker_address bound_address
  start_at number section is start =
      let both = chosen (is_bound_no number) (bound_section number) section is in
      let first = start_or IMAGE_BASE (first_place laid (input_at files b (bound_section number)).name) in
      let last = end_or IMAGE_BASE (last_place laid (input_at files b (bound_section number)).name) in
      ap (λ n. start_or IMAGE_BASE (first_place laid (input_at files b n).name)) (sym both.1)
      ∙ sym (cond-false (is_stop_no number) last first start)
      ∙ sym (cond-true (is_bound_no number) (if is_stop_no number then last else first) (edge_address laid (edge_of number)) both.0)

  -- by what is noted of the name
  pub noted_start : (of : List ℕ → Option Extent) (name : List ℕ) → AreExtents laid.places of →
      option_map_or (λ (e : Extent). e.start) (of name) IMAGE_BASE ≡ start_or IMAGE_BASE (first_place laid name)
  unfolding first_place
  noted_start of name are = start_is (of name) _ IMAGE_BASE (are.starts name)

  pub noted_end : (of : List ℕ → Option Extent) (name : List ℕ) → AreExtents laid.places of →
      option_map_or (λ (e : Extent). e.end) (of name) IMAGE_BASE ≡ end_or IMAGE_BASE (last_place laid name)
  unfolding last_place
  noted_end of name are = end_is (of name) _ IMAGE_BASE (are.ends name)
