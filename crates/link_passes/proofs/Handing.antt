-- What the passes before the layout hand on, together.
use Rattle.std.proofs.Common.{◌≡◌, ℕ, Bool, List, ap, ◌∙◌, subst}
use Rattle.std.specs.Prelude.{Result, Ok, Err, IfOk}
use Rattle.comdat.specs.Discarded.{discarded}
use Rattle.file_live.specs.Live.{IsLive, live_of}
use Rattle.lk_tables.specs.BoundNames.{IsBindingOf}
use Rattle.lk_tables.specs.Binding.{Bindings}
use Rattle.lk_tables.specs.Files.{File}
use Rattle.link_passes.specs.Passes.{bound_names}
use Rattle.link_passes.specs.Sources.{Source, heads_in, live_in}

-- the set of files that takes part, as the code found it
pub live_is : (undefined : List (List ℕ)) (ss : List Source) (files : List File) → files ≡ heads_in ss → live_of undefined files ≡ live_in undefined ss
unfolding live_in
live_is undefined ss files are = ap (live_of undefined) are

-- it is the least closed set of them
pub least_is : (undefined : List (List ℕ)) (ss : List Source) (files : List File) (live : List Bool) → files ≡ heads_in ss → live ≡ live_of undefined files →
    IsLive undefined files live → IsLive undefined (heads_in ss) (live_in undefined ss)
least_is undefined ss files live are found least =
    let P : List File → Type 0 = λ fs. IsLive undefined fs (live_in undefined ss) in
    let Q : List Bool → Type 0 = λ l. IsLive undefined files l in
    subst P are (subst Q (found ∙ live_is undefined ss files are) least)

-- the names of the files are bound
pub binding_is : (entry : List ℕ) (files : List File) (b : Bindings) → b ≡ bound_names files entry → IsBindingOf files b
unfolding bound_names
binding_is entry files b names = (discarded files, entry, names)

-- what holds of an answer, and follows from it
pub on_each : {X E : Type 0} {P Q : X → Type 0} (r : Result X E) → ((x : X) → P x → Q x) → IfOk r P → IfOk r Q
on_each (Ok x) step has = step x has
on_each (Err e) step has = tt

-- what holds holds of an answer, if there is one
pub on_ok : {X E : Type 0} {P : Type 0} (r : Result X E) → P → IfOk r (λ _. P)
on_ok (Ok x) p = p
on_ok (Err e) p = tt
