-- What a link that stops hands on at each of its steps, and that an archive may stand anywhere once the files are read.
use Rattle.std.proofs.Common.{◌≡◌, ℕ, List, [], ◌∷◌, refl, sym, ap, ◌∙◌, subst}
use Rattle.std.specs.Prelude.{Result, Ok, Err}
use Rattle.std.specs.Result.{IsErrAnd}
use Rattle.std.proofs.lemmas.Result.{err_from_is_err_and}
use Rattle.file_live.specs.Order.{StandsAnywhere}
use Rattle.link_command.specs.Command.{CommandView}
use Rattle.lk_base.specs.declared.defects.Defect.{Defect}
use Rattle.lk_base.specs.declared.defects.LinkStop.{LinkStop}
use Rattle.lk_base.specs.declared.defects.LinkStop.TheVariants as stops
use Rattle.lk_base.specs.declared.limits.Limits.{Limits}
use Rattle.lk_base.specs.Firsts.{StopsAt}
use Rattle.lk_base.specs.Limits.{IsWithinStandard}
use Rattle.lk_tables.specs.Binding.{first_phase}
use Rattle.link_passes.specs.Defects.{opening_defects, reading_defects}
use Rattle.link_passes.specs.Sources.{Source, heads_in}
use Rattle.link_driver.specs.Link.{bound_in, defects_in, kept_in, link_options_in, linked_files, placing_defects}
use Rattle.link_driver.specs.Linked.{LinkedView}
use Rattle.link_driver.specs.Phases.{AfterLink, HoldsAtStop, ShortenedCallsReach, Stops}
use Rattle.link_driver.proofs.FirstLeast.{counted, least_stop}
use Rattle.link_driver.proofs.Laws.{any_place, are_least}
use Rattle.link_driver.proofs.Passing.{not_past}

-- of phases without a defect the first has none
none_first : (ds : List Defect) (phases : List (List Defect)) → first_phase (ds ∷ phases) ≡ [] → ds ≡ []
none_first [] phases none = refl
none_first (d ∷ ds) phases none = none

module _ (limits : Limits) (within : IsWithinStandard limits) (asked : CommandView) (ss : List Source) where
  pub anywhere_once_read : first_phase (reading_defects limits ss ∷ opening_defects limits asked.undefined ss ∷ []) ≡ [] → StandsAnywhere asked.undefined (heads_in ss)
  anywhere_once_read read =
      any_place asked.undefined ss (counted limits within ss (none_first (reading_defects limits ss) (opening_defects limits asked.undefined ss ∷ []) read))

  pub stops_at : (stop : LinkStop) → StopsAt stop (defects_in limits asked ss)
      → HoldsAtStop stop (placing_defects limits asked ss) (ShortenedCallsReach (link_options_in asked ss) (linked_files asked ss) (bound_in asked ss) (kept_in asked ss))
      → Stops limits asked ss stop
  stops_at stop at reach = record { ends = least_stop limits within ss asked stop at; counted = counted limits within ss; least = are_least asked ss; reach = reach }

  -- before the layout
  pub stops_early : (stop : LinkStop) → StopsAt stop (defects_in limits asked ss) → StopsAt stop (placing_defects limits asked ss) → Stops limits asked ss stop
  stops_early stop at before = stops_at stop at (not_past stop (placing_defects limits asked ss) _ before)

  -- out of memory, wherever that was
  pub lacks_memory : Stops limits asked ss stops.Memory
  lacks_memory = stops_early stops.Memory tt tt

  pub ends_for_memory : (names : List (List ℕ)) (r : Result LinkedView LinkStop) → IsErrAnd r (λ stop. stop ≡ stops.Memory) → AfterLink limits asked names ss r
  ends_for_memory names r is =
      let p = err_from_is_err_and r is in
      let P : Result LinkedView LinkStop → Type 0 = λ x. AfterLink limits asked names ss x in
      subst P (sym (p.1 ∙ ap Err p.2)) lacks_memory
