-- What holds of a link past its layout: each shortened call reaches its target.
use Rattle.std.proofs.Common.{◌≡◌, Bool, List, Option, [], ◌∷◌, ◌++◌, ℕ, sym, ap, ◌∙◌, subst}
use Rattle.std.specs.Prelude.{Result, Ok, Err}
use Rattle.link_driver.specs.Reach.{CallsReach}
use Rattle.comdat.specs.Discarded.{discarded}
use Rattle.link_command.specs.Command.{CommandView}
use Rattle.link_sections.specs.LaidOut.{LaidOut}
use Rattle.lk_base.specs.declared.defects.Defect.{Defect}
use Rattle.lk_base.specs.declared.defects.LinkStop.{LinkStop}
use Rattle.lk_base.specs.declared.defects.LinkStop.TheVariants as stops
use Rattle.lk_base.specs.declared.limits.Limits.{Limits}
use Rattle.lk_base.specs.Firsts.{Goes, StopsAt}
use Rattle.lk_tables.specs.Binding.{Bindings, first_phase}
use Rattle.lk_tables.specs.BoundNames.{binding_defects}
use Rattle.lk_tables.specs.Files.{File}
use Rattle.lk_tables.specs.FramePlans.{PlanView}
use Rattle.link_passes.specs.Defects.{opening_defects, reading_defects}
use Rattle.link_passes.specs.Passes.{LinkOptions, bound_names, kept_for, leaders_in, piece_defects, plan_in, link_options_for}
use Rattle.link_driver.specs.Link.{binding_phases, laid_out, name_phases, placing_defects, placing_phases}
use Rattle.link_driver.specs.Phases.{HoldsAtStop, HoldsPast, ShortenedCallsReach}
use Rattle.link_passes.specs.Sources.{Source, files_in}
use Rattle.link_driver.specs.Values.{value_defects}
use Rattle.link_driver.proofs.Chain.{one_none, one_stop, passed, stopped}

-- over the leaders and the layout of a link
pub reaches_so : (w : LinkOptions) (files : List File) (b : Bindings) (kept : List Bool) (leaders : List (Option ℕ)) (laid : LaidOut) → leaders ≡ leaders_in w files b kept →
    laid ≡ laid_out w files b kept → CallsReach files b leaders laid → ShortenedCallsReach w files b kept
reaches_so w files b kept leaders laid lead found reach =
    let P : List (Option ℕ) → Type 0 = λ l. CallsReach files b l laid in
    let Q : LaidOut → Type 0 = λ l. CallsReach files b (leaders_in w files b kept) l in
    subst Q found (subst P lead reach)

pub goes_so : {X : Type 0} (r : Result X LinkStop) (w : LinkOptions) (files : List File) (b : Bindings) (kept : List Bool) (leaders : List (Option ℕ)) (laid : LaidOut) (plan : PlanView) →
    leaders ≡ leaders_in w files b kept → laid ≡ laid_out w files b kept → plan ≡ plan_in w files b kept → Goes r (value_defects files b leaders laid plan) →
    Goes r (value_defects files b (leaders_in w files b kept) (laid_out w files b kept) (plan_in w files b kept))
goes_so r w files b kept leaders laid plan lead found planned goes =
    let P : List (Option ℕ) → Type 0 = λ l. Goes r (value_defects files b l laid plan) in
    let Q : LaidOut → Type 0 = λ l. Goes r (value_defects files b (leaders_in w files b kept) l plan) in
    let R : PlanView → Type 0 = λ p. Goes r (value_defects files b (leaders_in w files b kept) (laid_out w files b kept) p) in
    subst R planned (subst Q found (subst P lead goes))

-- a link that stops at one of these defects has some
pub not_past : (stop : LinkStop) (defects : List Defect) (P : Type 0) → StopsAt stop defects → HoldsAtStop stop defects P
not_past (stops.Defect d) defects P begins = λ none. let some : [] ≡ d ∷ begins.0 = sym none ∙ begins.1 in cc
not_past stops.Memory defects P at = tt

-- what holds in any case
pub past_all : {X : Type 0} (r : Result X LinkStop) (defects : List Defect) (P : Type 0) → P → HoldsPast r defects P
past_all (Ok value) defects P holds = holds
past_all (Err (stops.Defect d)) defects P holds = λ none. holds
past_all (Err stops.Memory) defects P holds = tt

-- what follows, past more phases
pub past_on : (stop : LinkStop) (earlier more : List Defect) (P Q : Type 0) → (more ≡ [] → earlier ≡ []) → (P → Q) → HoldsAtStop stop earlier P → HoldsAtStop stop more Q
past_on (stops.Defect d) earlier more P Q less step holds = λ none. step (holds (less none))
past_on stops.Memory earlier more P Q less step holds = tt

module _ (limits : Limits) (asked : CommandView) (ss : List Source) where
  abbrev read_phases : List (List Defect)
  read_phases = reading_defects limits ss ∷ opening_defects limits asked.undefined ss ∷ []

  abbrev placing_of : List File → Bindings → List Bool → List (List Defect)
  placing_of files b kept = placing_phases limits (link_options_for asked files b kept) files b kept

  abbrev rest_of : List File → List (List Defect)
  rest_of files = binding_phases limits asked files ++ placing_of files (bound_names files asked.entry) (kept_for asked files (bound_names files asked.entry))

  pub early_reading : (stop : LinkStop) → StopsAt stop (first_phase read_phases) → StopsAt stop (placing_defects limits asked ss)
  unfolding placing_defects
  early_reading stop at = stopped read_phases (rest_of (files_in asked.undefined ss)) stop at

  module _ (read : first_phase read_phases ≡ []) (files : List File) (are : files ≡ files_in asked.undefined ss) where
    left : placing_defects limits asked ss ≡ first_phase (rest_of files)
    unfolding placing_defects
    left = passed read_phases (rest_of (files_in asked.undefined ss)) read ∙ ap (λ fs. first_phase (rest_of fs)) (sym are)

    pub early_pieces : (stop : LinkStop) → StopsAt stop (piece_defects limits files) → StopsAt stop (placing_defects limits asked ss)
    early_pieces stop at = let P : List Defect → Type 0 = λ ds. StopsAt stop ds in
        subst P (sym left) (stopped (piece_defects limits files ∷ []) _ stop (one_stop stop (piece_defects limits files) at))

    module _ (few : piece_defects limits files ≡ []) where
      past : placing_defects limits asked ss
          ≡ first_phase (name_phases asked files ++ placing_of files (bound_names files asked.entry) (kept_for asked files (bound_names files asked.entry)))
      past = left ∙ passed (piece_defects limits files ∷ []) _ (one_none (piece_defects limits files) few)

      pub early_binding : (stop : LinkStop) → StopsAt stop (binding_defects files (discarded files) asked.entry) → StopsAt stop (placing_defects limits asked ss)
      early_binding stop at = let P : List Defect → Type 0 = λ ds. StopsAt stop ds in subst P (sym past) (stopped (name_phases asked files) _ stop at)

      pub placing_left : binding_defects files (discarded files) asked.entry ≡ [] → (b : Bindings) → b ≡ bound_names files asked.entry →
          (kept : List Bool) → kept ≡ kept_for asked files b → placing_defects limits asked ss ≡ first_phase (placing_of files b kept)
      placing_left bound b names kept stays =
          past ∙ passed (name_phases asked files) _ bound
          ∙ ap (λ n. first_phase (placing_of files n (kept_for asked files n))) (sym names)
          ∙ ap (λ k. first_phase (placing_of files b k)) (sym stays)
