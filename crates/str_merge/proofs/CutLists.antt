-- The pieces of each section of a list, from what the workers give.
use Rattle.std.proofs.Common.{◌≡◌, ℕ, suc, ◌+◌, ◌-◌, Result, Ok, IfOk, List, [], ◌∷◌, length, map, get_or, sym, ap, ◌∙◌, subst, arith}
use Rattle.std.specs.Prelude.{All}
use Rattle.std.specs.List.{range_with_len}
use Rattle.std.specs.Global.{Vec}
use Rattle.std.proofs.lemmas.List.{length-map}
use Rattle.std.proofs.lemmas.List.Elements.{All-cons, All-nil}
use Rattle.lk_base.specs.declared.defects.LinkStop.{LinkStop}
use Rattle.lk_tables.specs.Files.{File}
use Rattle.link_sections.specs.Merging.{no_site, site_pieces}
use Rattle.work_split.specs.Shares.{EachFrom, IsShare}
use Rattle.work_split.proofs.Sharing.{each_rises}
use Rattle.str_merge.specs.declared.cuts.Cut.{Cut}
use Rattle.str_merge.specs.declared.sites.Site.{Site as HeldSite}
use Rattle.str_merge.specs.Cutting.{IsCutAt, no_defects}
use Rattle.str_merge.specs.Sites.{IsIn, cut_views, pieces_of, site_view, site_views, texts_of}
use Rattle.str_merge.specs.Small.{IsNear}
use Rattle.str_merge.proofs.ListSteps.{by_index}

each_is : {X Y : Type 0} (view : X → Y) (give : ℕ → Y) (a b : ℕ) (xs : List X) → EachFrom (λ i x. view x ≡ give i) a b xs → map view xs ≡ map give (range_with_len a (b - a))
each_is view give a b [] same = let none : b - a ≡ 0 = omega (arith, same) in ap (λ n. map give (range_with_len a n)) (sym none)
each_is view give a b (x ∷ xs) held =
    let rise = each_rises (λ i x. view x ≡ give i) (a + 1) b xs held.1 in
    let more : b - a ≡ suc (b - (a + 1)) = omega arith in
    ap (λ y. y ∷ map view xs) held.0 ∙ ap (λ l. give a ∷ l) (each_is view give (a + 1) b xs held.1) ∙ ap (λ n. map give (range_with_len a n)) (sym more)

each_weaker : {X : Type 0} (Is Js : ℕ → X → Type 0) → ((i : ℕ) (x : X) → Is i x → Js i x) → (a b : ℕ) (xs : List X) → EachFrom Is a b xs → EachFrom Js a b xs
each_weaker Is Js to a b [] same = same
each_weaker Is Js to a b (x ∷ xs) held = (to a x held.0, each_weaker Is Js to (a + 1) b xs held.1)

each_all : {X : Type 0} (Is : ℕ → X → Type 0) (P : X → Type 0) → ((i : ℕ) (x : X) → Is i x → P x) → (a b : ℕ) (xs : List X) → EachFrom Is a b xs → All P xs
each_all Is P to a b [] same = All-nil P
each_all Is P to a b (x ∷ xs) held = All-cons P x xs (to a x held.0) (each_all Is P to (a + 1) b xs held.1)

each_of : (files : List File) (held : List HeldSite) (r : Result (Vec Cut) LinkStop) (cuts : Vec Cut) → r ≡ Ok cuts →
    IsShare no_defects (IsCutAt files (site_views held)) 0 (length held) r → EachFrom (IsCutAt files (site_views held)) 0 (length held) cuts.items
each_of files held r cuts is share =
    let P : Result (Vec Cut) LinkStop → Type 0 = λ q. IfOk q (λ list. EachFrom (IsCutAt files (site_views held)) 0 (length held) list.items) in
    subst P is share.each

pub cuts_are : (files : List File) (held : List HeldSite) (r : Result (Vec Cut) LinkStop) (cuts : Vec Cut) → r ≡ Ok cuts →
    IsShare no_defects (IsCutAt files (site_views held)) 0 (length held) r → cut_views cuts.items ≡ map (site_pieces files) (site_views held)
cuts_are files held r cuts is share =
    let sites = site_views held in
    let view : Cut → List (List ℕ) = λ c. texts_of (pieces_of c) in
    let give : ℕ → List (List ℕ) = λ i. site_pieces files (get_or sites i no_site) in
    let all : length held - 0 ≡ length held = omega arith in
    each_is view give 0 (length held) cuts.items
    (each_weaker (IsCutAt files sites) (λ i c. view c ≡ give i) (λ i c here. here.0) 0 (length held) cuts.items (each_of files held r cuts is share))
    ∙ ap (λ n. map give (range_with_len 0 n)) all
    ∙ by_index (site_pieces files) sites no_site (length held) (sym (length-map held site_view))

pub cuts_in : (files : List File) (held : List HeldSite) (r : Result (Vec Cut) LinkStop) (cuts : Vec Cut) → r ≡ Ok cuts →
    IsShare no_defects (IsCutAt files (site_views held)) 0 (length held) r → All (IsIn files) cuts.items
cuts_in files held r cuts is share =
    each_all (IsCutAt files (site_views held)) (IsIn files) (λ i c here. here.1) 0 (length held) cuts.items (each_of files held r cuts is share)

pub cuts_near : (files : List File) (held : List HeldSite) (r : Result (Vec Cut) LinkStop) (cuts : Vec Cut) → r ≡ Ok cuts →
    IsShare no_defects (IsCutAt files (site_views held)) 0 (length held) r → All IsNear cuts.items
cuts_near files held r cuts is share =
    each_all (IsCutAt files (site_views held)) IsNear (λ i c here. here.2) 0 (length held) cuts.items (each_of files held r cuts is share)
