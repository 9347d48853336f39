-- Places that are noted by the indexes of sections.
use Rattle.std.proofs.Common.{◌≡◌, ℕ, zero, suc, ◌<◌, ◌⊎◌, List, [], ◌∷◌, ◌++◌, length, take, set, get_or, replicate, Option, Some, None, refl, sym, ap, ◌∙◌, arith, inl, inr}
use Rattle.std.specs.Prelude.{unwrap_or}
use Rattle.std.proofs.lemmas.Bool.{cases_eq}
use Rattle.std.proofs.lemmas.List.{get_or-set_other, get_or-set_same}
use Rattle.lk_tables.specs.Binding.{Bindings}
use Rattle.lk_tables.specs.Files.{File}
use Rattle.link_sections.specs.LaidOut.{LaidOut}
use Rattle.symbol_table.specs.declared.symbols.TablePlace.{TablePlace}
use Rattle.symbol_table.specs.Seen.{AreSeen}

abbrev no_place : Option TablePlace
no_place = None

abbrev no_places : List (Option TablePlace)
no_places = []

none_at : (n i : ℕ) → get_or (replicate n no_place) i no_place ≡ no_place
none_at zero i = refl
none_at (suc n) zero = refl
none_at (suc n) (suc i) = none_at n i

-- before any is noted
pub none_seen : (files : List File) (b : Bindings) (laid : LaidOut) (f n m : ℕ) (old seen : List (Option TablePlace)) → old ≡ [] → seen ≡ take n old ++ replicate m None → AreSeen files b laid f seen
none_seen files b laid f n m old seen none is = λ i p there.
    let no : None ≡ Some p = sym (ap (λ l. get_or l i None) (is ∙ ap (λ l. take n l ++ replicate m None) none ∙ ap (λ l. l ++ replicate m None) (take_none n)) ∙ none_at m i) ∙ there in
    cc
  where
    take_none : (n : ℕ) → take n no_places ≡ no_places
    take_none zero = refl
    take_none (suc n) = refl

same_place : (x y : TablePlace) → Some x ≡ Some y → y ≡ x
same_place x y e = sym (ap (λ o. unwrap_or o y) e)

-- one more
pub seen_set : (seen : List (Option TablePlace)) (index i : ℕ) (place p : TablePlace) → index < length seen → get_or (set seen index (Some place)) i None ≡ Some p →
    (get_or seen i None ≡ Some p) ⊎ ((i ≡ index) × (p ≡ place))
seen_set seen index i place p lt is = elim (cases_eq i index) [
  | inl here ↦ inr (here, same_place place p (sym (get_or-set_same seen index (Some place) None lt) ∙ ap (λ k. get_or (set seen index (Some place)) k None) (sym here) ∙ is))
  | inr other ↦ inl (sym (get_or-set_other seen index i (Some place) None other) ∙ is)
]
