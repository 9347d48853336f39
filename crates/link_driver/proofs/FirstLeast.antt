-- No defect of a link comes before the first.
use Rattle.std.proofs.Common.{◌≡◌, ℕ, ◌≤◌, nat_lt, Bool, true, false, List, [], ◌∷◌, ◌++◌, flat_map, length, min, refl, arith}
use Rattle.std.specs.Prelude.{if◌then◌else◌}
use Rattle.std.specs.List.{range_with_len}
use Rattle.std.proofs.lemmas.Bool.{ltb-false}
use Rattle.comdat.specs.Discarded.{discarded}
use Rattle.layout.specs.Layout.{layout_defects}
use Rattle.link_command.specs.Command.{CommandView}
use Rattle.lk_base.specs.declared.defects.Defect.{Defect}
use Rattle.lk_base.specs.declared.defects.LinkStop.{LinkStop}
use Rattle.lk_base.specs.declared.defects.LinkStop.TheVariants as stops
use Rattle.lk_base.specs.declared.limits.Limits.{Limits}
use Rattle.lk_base.specs.Defects.{count_defect, count_defects}
use Rattle.lk_base.specs.Firsts.{StopsAt}
use Rattle.lk_base.specs.Limits.{IsWithinStandard}
use Rattle.lk_tables.specs.Binding.{Bindings, duplicate_defects, first_phase, flag_defects}
use Rattle.lk_tables.specs.BoundNames.{entry_defects}
use Rattle.lk_tables.specs.Files.{File, symbol_total}
use Rattle.sec_graph.specs.Undefined.{undefined_defects}
use Rattle.link_passes.specs.Defects.{head_defects_at, opening_defects, reading_defects}
use Rattle.link_driver.specs.Laws.{AreCounted, StopsAtLeast}
use Rattle.link_passes.specs.Passes.{LinkOptions, bound_names, kept_for, leaders_in, merged_of, piece_defects, plan_in, link_options_for}
use Rattle.link_driver.specs.Link.{defects_in, laid_out, last_phases, later_phases}
use Rattle.link_passes.specs.Sources.{Source, files_in, heads_in}
use Rattle.link_driver.specs.Values.{value_defects}
use Rattle.link_driver.proofs.DefectOrder.{Ordered, first_least, first_ordered}
use Rattle.link_driver.proofs.LaidOrder.{laid_ordered}
use Rattle.link_driver.proofs.Laws.{few_files, few_symbols}
use Rattle.link_driver.proofs.PhaseOrder.{duplicates_ordered_in, entry_ordered, files_in_order, flags_ordered, opening_ordered, pieces_ordered, reading_ordered, undefined_ordered}
use Rattle.link_driver.proofs.ValueOrder.{values_ordered}

-- a count that is not above its limit
none_right : (xs ys : List Defect) → xs ++ ys ≡ [] → ys ≡ []
none_right [] ys none = none
none_right (x ∷ xs) ys none = cc

none_left : (xs ys : List Defect) → xs ++ ys ≡ [] → xs ≡ []
none_left [] ys none = refl
none_left (x ∷ xs) ys none = cc

pub none_over : (limit count : ℕ) → count_defects limit count ≡ [] → count ≤ limit
none_over limit count none = ltb-false limit count (off (nat_lt limit count) none)
  where
    off : (over : Bool) → (if over then count_defect count ∷ [] else []) ≡ [] → over ≡ false
    off true wrong = cc
    off false none = refl

module _ (limits : Limits) (within : IsWithinStandard limits) (ss : List Source) where
  -- what is known once all is read
  pub counted : reading_defects limits ss ≡ [] → AreCounted ss
  unfolding reading_defects
  counted none =
      let files = count_defects limits.files (length ss) in
      let symbols = count_defects limits.symbols (symbol_total (heads_in ss)) in
      let counts = none_right (flat_map (head_defects_at ss) (range_with_len 0 (min (length ss) limits.files))) (files ++ symbols) none in
      let few = none_over limits.files (length ss) (none_left files symbols counts) in
      let small = none_over limits.symbols (symbol_total (heads_in ss)) (none_right files symbols counts) in
      record { files = omega (arith, few, within.files); symbols = omega (arith, small, within.symbols) }

  module _ (asked : CommandView) where
    abbrev files : List File
    files = files_in asked.undefined ss

    abbrev bound : Bindings
    bound = bound_names files asked.entry

    abbrev kept : List Bool
    kept = kept_for asked files bound

    abbrev own_options : LinkOptions
    own_options = link_options_for asked files bound kept

    last_ordered : Ordered (first_phase (last_phases limits own_options files bound kept))
    unfolding plan_in
    last_ordered =
        let w = own_options in
        let rise = files_in_order asked.undefined ss in
        let leaders = leaders_in w files bound kept in
        let laid = laid_out w files bound kept in
        let values = value_defects files bound leaders laid (plan_in w files bound kept) in
        first_ordered (undefined_defects files bound kept) (layout_defects limits files laid ∷ values ∷ []) (undefined_ordered files bound kept rise)
        (λ none. first_ordered (layout_defects limits files laid) (values ∷ []) (laid_ordered limits w files bound kept rise)
        (λ nor. first_ordered values [] (values_ordered files bound (merged_of w files bound kept) leaders laid rise) (λ no. tt)))

    binding_ordered : AreCounted ss → Ordered (first_phase (later_phases limits asked files))
    binding_ordered few =
        let gone = discarded files in
        let last = last_phases limits own_options files bound kept in
        first_ordered (piece_defects limits files) (flag_defects files ∷ duplicate_defects files gone ∷ entry_defects files gone asked.entry ∷ last) (pieces_ordered limits files)
        (λ none. first_ordered (flag_defects files) (duplicate_defects files gone ∷ entry_defects files gone asked.entry ∷ last) (flags_ordered files)
        (λ nor. first_ordered (duplicate_defects files gone) (entry_defects files gone asked.entry ∷ last) (duplicates_ordered_in files gone (few_files asked.undefined ss few) (few_symbols asked.undefined ss few))
        (λ no. first_ordered (entry_defects files gone asked.entry) last (entry_ordered files gone asked.entry) (λ any. last_ordered))))

    defects_ordered : Ordered (defects_in limits asked ss)
    unfolding defects_in
    defects_ordered =
        first_ordered (reading_defects limits ss) (opening_defects limits asked.undefined ss ∷ later_phases limits asked files) (reading_ordered limits ss)
        (λ none. first_ordered (opening_defects limits asked.undefined ss) (later_phases limits asked files) (opening_ordered limits asked.undefined ss) (λ nor. binding_ordered (counted none)))

    -- where a link stops
    pub least_stop : (stop : LinkStop) → StopsAt stop (defects_in limits asked ss) → StopsAtLeast stop (defects_in limits asked ss)
    least_stop (stops.Defect d) first = record { first = first; least = first_least d (defects_in limits asked ss) defects_ordered first }
    least_stop stops.Memory first = record { first = tt; least = tt }
