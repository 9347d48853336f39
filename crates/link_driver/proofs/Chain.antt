-- The phases of a link one after the other.
use Rattle.std.proofs.Common.{◌≡◌, Bool, List, [], ◌∷◌, ◌++◌, refl, sym, ap, ◌∙◌, subst}
use Rattle.std.specs.Prelude.{Result, Ok, Err}
use Rattle.lk_base.specs.declared.defects.Defect.{Defect}
use Rattle.lk_base.specs.declared.defects.LinkStop.{LinkStop}
use Rattle.lk_base.specs.declared.defects.LinkStop.TheVariants as stops
use Rattle.lk_base.specs.declared.limits.Limits.{Limits}
use Rattle.lk_base.specs.Firsts.{BeginsWith, Goes, StopsAt}
use Rattle.comdat.specs.Discarded.{discarded}
use Rattle.link_command.specs.Command.{CommandView}
use Rattle.lk_tables.specs.Binding.{Bindings, first_phase}
use Rattle.lk_tables.specs.BoundNames.{binding_defects}
use Rattle.lk_tables.specs.Files.{File}
use Rattle.link_passes.specs.Passes.{bound_names, kept_for, piece_defects, link_options_for}
use Rattle.link_driver.specs.Link.{defects_in, last_phases, later_phases, name_phases}
use Rattle.link_passes.specs.Defects.{opening_defects, reading_defects}
use Rattle.link_passes.specs.Sources.{Source, files_in}

-- phases of which none has a defect are passed
pub passed : (ps qs : List (List Defect)) → first_phase ps ≡ [] → first_phase (ps ++ qs) ≡ first_phase qs
passed [] qs none = refl
passed ([] ∷ ps) qs none = passed ps qs none
passed ((d ∷ ds) ∷ ps) qs none = cc

-- and the first that has one ends them
pub ended : (ps qs : List (List Defect)) (d : Defect) → BeginsWith (first_phase ps) d → BeginsWith (first_phase (ps ++ qs)) d
ended [] qs d begins = let no_defect : [] ≡ d ∷ begins.0 = begins.1 in cc
ended ([] ∷ ps) qs d begins = ended ps qs d begins
ended ((e ∷ es) ∷ ps) qs d begins = begins

pub stopped : (ps qs : List (List Defect)) (stop : LinkStop) → StopsAt stop (first_phase ps) → StopsAt stop (first_phase (ps ++ qs))
stopped ps qs (stops.Defect d) begins = ended ps qs d begins
stopped ps qs stops.Memory begins = tt

one : (d : Defect) (xs : List Defect) → BeginsWith xs d → BeginsWith (first_phase (xs ∷ [])) d
one d [] begins = begins
one d (x ∷ xs) begins = begins

pub one_stop : (stop : LinkStop) (xs : List Defect) → StopsAt stop xs → StopsAt stop (first_phase (xs ∷ []))
one_stop (stops.Defect d) xs begins = one d xs begins
one_stop stops.Memory xs begins = tt

pub one_none : (xs : List Defect) → xs ≡ [] → first_phase (xs ∷ []) ≡ []
one_none [] none = refl
one_none (x ∷ xs) none = none

-- a step after phases that have no defect
pub goes_next : {X : Type 0} (r : Result X LinkStop) (ps : List (List Defect)) (ds : List Defect) → first_phase ps ≡ [] → Goes r ds → Goes r (first_phase (ps ++ ds ∷ []))
goes_next (Ok x) ps ds none empty = passed ps (ds ∷ []) none ∙ one_none ds empty
goes_next (Err stop) ps ds none at = let P : List Defect → Type 0 = λ xs. StopsAt stop xs in subst P (sym (passed ps (ds ∷ []) none)) (one_stop stop ds at)

module _ (limits : Limits) (asked : CommandView) (ss : List Source) where
  pub at_reading : (stop : LinkStop) → StopsAt stop (first_phase (reading_defects limits ss ∷ opening_defects limits asked.undefined ss ∷ [])) → StopsAt stop (defects_in limits asked ss)
  unfolding defects_in
  at_reading stop at = stopped (reading_defects limits ss ∷ opening_defects limits asked.undefined ss ∷ []) (later_phases limits asked (files_in asked.undefined ss)) stop at

  module _ (read : first_phase (reading_defects limits ss ∷ opening_defects limits asked.undefined ss ∷ []) ≡ []) where
    rest : defects_in limits asked ss ≡ first_phase (later_phases limits asked (files_in asked.undefined ss))
    unfolding defects_in
    rest = passed (reading_defects limits ss ∷ opening_defects limits asked.undefined ss ∷ []) (later_phases limits asked (files_in asked.undefined ss)) read

    module _ (files : List File) (are : files ≡ files_in asked.undefined ss) where
      left : defects_in limits asked ss ≡ first_phase (later_phases limits asked files)
      left = rest ∙ ap (λ fs. first_phase (later_phases limits asked fs)) (sym are)

      pub at_pieces : (stop : LinkStop) → StopsAt stop (piece_defects limits files) → StopsAt stop (defects_in limits asked ss)
      at_pieces stop at = let P : List Defect → Type 0 = λ ds. StopsAt stop ds in
          subst P (sym left) (stopped (piece_defects limits files ∷ []) _ stop (one_stop stop (piece_defects limits files) at))

      module _ (few : piece_defects limits files ≡ []) where
        past : defects_in limits asked ss
            ≡ first_phase (name_phases asked files ++ last_phases limits (link_options_for asked files (bound_names files asked.entry) (kept_for asked files (bound_names files asked.entry))) files (bound_names files asked.entry) (kept_for asked files (bound_names files asked.entry)))
        past = left ∙ passed (piece_defects limits files ∷ []) _ (one_none (piece_defects limits files) few)

        pub at_binding : (stop : LinkStop) → StopsAt stop (binding_defects files (discarded files) asked.entry) → StopsAt stop (defects_in limits asked ss)
        at_binding stop at = let P : List Defect → Type 0 = λ ds. StopsAt stop ds in subst P (sym past) (stopped (name_phases asked files) _ stop at)

        module _ (bound : binding_defects files (discarded files) asked.entry ≡ []) (b : Bindings) (names : b ≡ bound_names files asked.entry)
            (kept : List Bool) (stays : kept ≡ kept_for asked files b) where
          then_left : defects_in limits asked ss ≡ first_phase (last_phases limits (link_options_for asked files b kept) files b kept)
          then_left = past ∙ passed (name_phases asked files) _ bound
              ∙ ap (λ n. first_phase (last_phases limits (link_options_for asked files n (kept_for asked files n)) files n (kept_for asked files n))) (sym names)
              ∙ ap (λ k. first_phase (last_phases limits (link_options_for asked files b k) files b k)) (sym stays)

          pub at_last : (stop : LinkStop) → StopsAt stop (first_phase (last_phases limits (link_options_for asked files b kept) files b kept)) → StopsAt stop (defects_in limits asked ss)
          at_last stop at = let P : List Defect → Type 0 = λ ds. StopsAt stop ds in subst P (sym then_left) at

          pub no_defects : first_phase (last_phases limits (link_options_for asked files b kept) files b kept) ≡ [] → defects_in limits asked ss ≡ []
          no_defects done = then_left ∙ done
