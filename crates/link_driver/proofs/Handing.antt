-- What the steps of a link hand on, together.
use Rattle.std.proofs.Common.{◌≡◌, ℕ, Bool, true, false, List, [], ◌++◌, Option, refl, ap, ap₂, ◌∙◌, subst}
use Rattle.std.specs.Prelude.{if◌then◌else◌}
use Rattle.comdat.specs.Discarded.{discarded}
use Rattle.link_command.specs.Command.{CommandView}
use Rattle.link_sections.specs.LaidOut.{LaidOut}
use Rattle.lk_tables.specs.Binding.{Bindings}
use Rattle.lk_tables.specs.Files.{File}
use Rattle.lk_tables.specs.FramePlans.{PlanView}
use Rattle.map_file.specs.MapText.{map_text}
use Rattle.sym_resolve.specs.Law.{IsLawful}
use Rattle.link_driver.specs.Linked.{LinkedView}
use Rattle.link_driver.specs.Certificates.{apart_text, asks_why, live_text, why_text}
use Rattle.link_passes.specs.Passes.{LinkOptions, bound_names, kept_for, leaders_in, plan_in, link_options_for}
use Rattle.link_driver.specs.Link.{bound_in, executable_in, executable_with, kept_in, laid_out, linked_files, map_in, map_with, report_in, report_with, say_in, link_options_in}
use Rattle.link_driver.specs.Phases.{Gives, IsWritten, Makes}
use Rattle.link_passes.specs.Sources.{Source}

-- what files give that are laid out as Link says
pub made_of : (w : LinkOptions) (names : List (List ℕ)) (files : List File) (b : Bindings) (kept : List Bool) (leaders : List (Option ℕ)) (laid : LaidOut) (plan : PlanView) (linked : LinkedView) →
    leaders ≡ leaders_in w files b kept → laid ≡ laid_out w files b kept → plan ≡ plan_in w files b kept → IsWritten w names files b kept leaders laid plan linked →
    Makes w names files b kept linked
unfolding executable_with map_with report_with
made_of w names files b kept leaders laid plan linked lead found planned written =
    let P : List (Option ℕ) → Type 0 = λ l. IsWritten w names files b kept l laid plan linked in
    let Q : LaidOut → Type 0 = λ l. IsWritten w names files b kept (leaders_in w files b kept) l plan linked in
    let R : PlanView → Type 0 = λ p. IsWritten w names files b kept (leaders_in w files b kept) (laid_out w files b kept) p linked in
    let so = subst R planned (subst Q found (subst P lead written)) in
    record { executable = so.executable; map = so.map; report = so.report }

-- names are no matter where no map is asked for
if_named : (on : Bool) (give : List (List ℕ) → List ℕ) (a b : List (List ℕ)) → (on ≡ true → a ≡ b) → (if on then give a else []) ≡ (if on then give b else [])
if_named true give a b same = ap give (same refl)
if_named false give a b same = refl

pub made_as : (w : LinkOptions) (names shown : List (List ℕ)) (files : List File) (b : Bindings) (kept : List Bool) (linked : LinkedView) → (w.map ≡ true → names ≡ shown) →
    Makes w names files b kept linked → Makes w shown files b kept linked
unfolding map_with
made_as w names shown files b kept linked same makes = record {
  executable = makes.executable;
  map = makes.map ∙ if_named w.map (λ n. map_text n files b (leaders_in w files b kept) (laid_out w files b kept) kept) names shown same;
  report = makes.report;
}

-- what holds of files, what their names are bound to and what is kept holds of those of the sources
pub holds_in : (asked : CommandView) (ss : List Source) (F : LinkOptions → List File → Bindings → List Bool → Type 0) (files : List File) (b : Bindings) (kept : List Bool) →
    files ≡ linked_files asked ss → b ≡ bound_names files asked.entry → kept ≡ kept_for asked files b → F (link_options_for asked files b kept) files b kept →
    F (link_options_in asked ss) (linked_files asked ss) (bound_in asked ss) (kept_in asked ss)
holds_in asked ss F files b kept are bound stays holds =
    let P : List Bool → Type 0 = λ k. F (link_options_for asked files b k) files b k in
    let Q : Bindings → Type 0 = λ n. F (link_options_for asked files n (kept_for asked files n)) files n (kept_for asked files n) in
    let R : List File → Type 0 = λ fs.
    F (link_options_for asked fs (bound_names fs asked.entry) (kept_for asked fs (bound_names fs asked.entry))) fs (bound_names fs asked.entry)
    (kept_for asked fs (bound_names fs asked.entry)) in
    subst R are (subst Q bound (subst P stays holds))

-- what the files of these sources give, once it is said what is asked why
pub gives_all : (asked : CommandView) (names : List (List ℕ)) (ss : List Source) (linked said : LinkedView) (why : List ℕ) →
    Makes (link_options_in asked ss) names (linked_files asked ss) (bound_in asked ss) (kept_in asked ss) linked → said.exe ≡ linked.exe →
    said.map ≡ linked.map → said.report ≡ linked.report ++ why →
    why ≡ why_text asked names (linked_files asked ss) (bound_in asked ss) (kept_in asked ss) (link_options_in asked ss).barred → Gives asked names ss said
unfolding executable_in map_in report_in say_in
gives_all asked names ss linked said why makes exe map report is = record {
  executable = exe ∙ makes.executable;
  map = map ∙ makes.map;
  report = report ∙ ap₂ (λ (a c : List ℕ). a ++ c) makes.report is;
}

-- names are no matter where nothing is asked why
pub why_as : (asked : CommandView) (names shown : List (List ℕ)) (files : List File) (b : Bindings) (kept barred : List Bool) → (asks_why asked ≡ true → names ≡ shown) →
    why_text asked names files b kept barred ≡ why_text asked shown files b kept barred
unfolding why_text
why_as asked names shown files b kept barred same =
    if_named (asks_why asked) (λ n. live_text n files b asked.undefined asked.why_live ++ apart_text n files b kept barred asked.why_apart) names shown same

-- what the names of these files are bound to
pub bound_are : (entry asked : List ℕ) (files given : List File) → files ≡ given → entry ≡ asked →
    IsLawful files (discarded files) entry (bound_names files entry) → IsLawful given (discarded given) asked (bound_names given asked)
bound_are entry asked files given are same bound =
    let P : List ℕ → Type 0 = λ name. IsLawful given (discarded given) name (bound_names given name) in
    let Q : List File → Type 0 = λ fs. IsLawful fs (discarded fs) entry (bound_names fs entry) in
    subst P same (subst Q are bound)
