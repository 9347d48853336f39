-- The cuts of a section without alignments stay as they are, wherever it starts.
use Rattle.std.proofs.Common.{◌≡◌, ℕ, ◌||◌, Bool, true, false, List, [], ◌∷◌, ◌++◌, Option, get_or, refl, ap, sym, ◌∙◌}
use Rattle.std.specs.List.{list_any}
use Rattle.std.specs.Prelude.{slice_index}
use Rattle.link_sections.specs.declared.cuts.Cut.{Cut as HeldCut}
use Rattle.link_sections.specs.declared.members.Content.TheVariants.{Section}
use Rattle.link_sections.specs.Cuts.{Cut, new_offset}
use Rattle.link_sections.specs.CutsView.{cut_view, cut_views}
use Rattle.lk_tables.specs.declared.section_places.SectionPlace.{SectionPlace}
use Rattle.link_sections.specs.Leaders.{leads}
use Rattle.output_sections.specs.declared.rows.Row.{Row}
use Rattle.layout.specs.Layout.{cuts_of}
use Rattle.layout.specs.Walk.{size_at}
use Rattle.layout.specs.Cutting.{is_short, kept_at, laid_cut, laid_cuts, short_defects}
use Rattle.layout.proofs.LaidCuts.{laid_are, laid_rest}
use Rattle.layout.proofs.PlacedMembers.{size_of_section}

-- none of them is an alignment
abbrev pub ArePlain : List HeldCut → Type 0
ArePlain cuts = list_any (λ c. c.is_align) cuts ≡ false

first_no : (a b : Bool) → (a || b) ≡ false → a ≡ false
first_no true b none = none
first_no false b none = refl

rest_no : (a b : Bool) → (a || b) ≡ false → b ≡ false
rest_no true b none = let no : ⊥ = cc in absurd no
rest_no false b none = none

one_stays : (start : ℕ) (before : List Cut) (c : Cut) → c.is_align ≡ false → laid_cut start before c ≡ c
unfolding laid_cut kept_at
one_stays start before c plain = rw plain refl

rest_stays : (start : ℕ) (before : List Cut) (cuts : List HeldCut) → ArePlain cuts → laid_rest start before (cut_views cuts) ≡ cut_views cuts
rest_stays start before [] plain = refl
rest_stays start before (c ∷ cs) plain =
    let first : c.is_align ≡ false = first_no c.is_align (list_any (λ (x : HeldCut). x.is_align) cs) plain in
    let others : ArePlain cs = rest_no c.is_align (list_any (λ (x : HeldCut). x.is_align) cs) plain in
    ap (λ x. x ∷ laid_rest start (before ++ laid_cut start before (cut_view c) ∷ []) (cut_views cs)) (one_stays start before (cut_view c) first)
    ∙ ap (λ l. cut_view c ∷ l) (rest_stays start (before ++ laid_cut start before (cut_view c) ∷ []) cs others)

pub plain_laid : (start : ℕ) (cuts : List HeldCut) → ArePlain cuts → laid_cuts start (cut_views cuts) ≡ cut_views cuts
plain_laid start cuts plain = laid_are start (cut_views cuts) ∙ rest_stays start [] cuts plain

-- and none of them needs more than it has
one_fine : (c : Cut) → c.is_align ≡ false → is_short c ≡ false
unfolding is_short
one_fine c plain = rw plain refl

pub plain_fine : (place : SectionPlace) (cuts : List HeldCut) → ArePlain cuts → short_defects place (cut_views cuts) ≡ []
plain_fine place [] plain = refl
plain_fine place (c ∷ cs) plain =
    let first : c.is_align ≡ false = first_no c.is_align (list_any (λ (x : HeldCut). x.is_align) cs) plain in
    let others : ArePlain cs = rest_no c.is_align (list_any (λ (x : HeldCut). x.is_align) cs) plain in
    rw (one_fine (cut_view c) first) (plain_fine place cs others)

-- so they are what the section has once it is laid
pub own_laid : (leaders : List (Option ℕ)) (sizes : List (List Cut)) (starts : List ℕ) (n : ℕ) (own : List HeldCut) → leads leaders n ≡ true → get_or sizes n [] ≡ cut_views own
    → ArePlain own → cut_views own ≡ cuts_of leaders sizes starts n
unfolding cuts_of
own_laid leaders sizes starts n own here is plain = rw (here, is) (sym (plain_laid (slice_index starts n) own plain))

pub own_fine : (place : SectionPlace) (own : List HeldCut) (laid : List Cut) → cut_views own ≡ laid → ArePlain own → short_defects place laid ≡ []
own_fine place own laid is plain = ap (short_defects place) (sym is) ∙ plain_fine place own plain

-- and the section loses what it has lost
pub size_settled : (sizes : List (List Cut)) (start n : ℕ) (row : Row) (own : List HeldCut) → row.content ≡ Section n → get_or sizes n [] ≡ cut_views own → ArePlain own
    → new_offset (cut_views own) row.size ≡ size_at sizes start row
size_settled sizes start n row own is cuts plain =
    ap (λ l. new_offset l row.size) (sym (plain_laid start own plain)) ∙ size_of_section sizes start n row (cut_views own) is cuts
