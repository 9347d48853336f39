-- Sections that are barred stand alone, and where more are barred no more is folded.
use Rattle.std.proofs.Common.{◌≡◌, ◌≢◌, ℕ, zero, suc, ◌+◌, ◌<◌, ◌==◌, ◌&&◌, ◌||◌, not, Bool, true, false, if◌then◌else◌, Option, Some, None, List, [], ◌∷◌, ◌++◌, length, map, flat_map, get_or, set, refl, sym, ap, ◌∙◌, subst, inl, inr, arith}
use Rattle.std.specs.Prelude.{All}
use Rattle.std.specs.List.{list_any, range_with_len}
use Rattle.std.proofs.lemmas.Bool.{both_ways, cases_Bool, cases_eq, cases_lt}
use Rattle.std.proofs.lemmas.List.{get_or-set_other, get_or-set_same, get_or_past, length-map, set_past}
use Rattle.std.proofs.lemmas.List.Elements.{All-get_or, All-head, All-tail}
use Rattle.std.proofs.lemmas.List.FromFn.{get_or-map-range_with_len, length-map-range_with_len}
use Rattle.asked_names.specs.AskedNames.{named_sections}
use Rattle.icf_part.specs.Folding.{no_item}
use Rattle.icf_part.specs.Leaders.{leaders_of}
use Rattle.icf_part.proofs.Fewer.{StandAmong, folded_more}
use Rattle.icf_part.proofs.LeadersOf.{are_leaders, leaders_within}
use Rattle.link_command.specs.declared.command.IcfMode.TheVariants.{All as AllMode, Safe}
use Rattle.link_command.specs.Command.{CommandView, folds}
use Rattle.link_sections.specs.FoldItems.{FoldItem, section_of, sections_of}
use Rattle.link_sections.specs.Leaders.{fold_each, folded_leaders, leader_at, own_leaders, section_at}
use Rattle.link_sections.specs.Merging.{pools_of}
use Rattle.link_sections.specs.PoolViews.{Merged}
use Rattle.link_sections.proofs.OwnLeaders.{own_is, same_number}
use Rattle.lk_tables.specs.Binding.{Bindings}
use Rattle.lk_tables.specs.Files.{File, section_total}
use Rattle.sec_graph.specs.Foldable.{is_barred, is_foldable, item_of, items}
use Rattle.sec_graph.specs.Taken.{address_taken}
use Rattle.sec_graph.proofs.FoldOrder.{sections_are}
use Rattle.sec_graph.proofs.ListParts.{each_passed}
use Rattle.link_passes.specs.Passes.{barred_of, is_apart, leaders_in}
use Rattle.link_driver.specs.Link.{bound_in, kept_in, linked_files}
use Rattle.link_passes.specs.Sources.{Source}
use Rattle.link_driver.specs.Spared.{AreFoldedSections, Spares, StandsAlone}

-- where no item is of a section, and none of its place, folding leaves the section
module _ (list : List FoldItem) where
  untouched : (ns ps : List ℕ) (l : List (Option ℕ)) (n : ℕ) → All (λ k. k ≢ n) ns → leader_at (fold_each list ns ps l) n ≡ leader_at l n
  untouched [] ps l n other = refl
  untouched (m ∷ ns) [] l n other = refl
  untouched (m ∷ ns) (p ∷ ps) l n other =
      let P : ℕ → Type 0 = λ k. k ≢ n in
      untouched ns ps (set l m (Some (section_at list p))) n (All-tail P m ns other)
      ∙ get_or-set_other l m n (Some (section_at list p)) None (λ same. All-head P m ns other (sym same))

  not_given : (ns ps : List ℕ) (l : List (Option ℕ)) (m n : ℕ) → All (λ p. section_at list p ≢ n) ps → leader_at (fold_each list ns ps l) m ≡ Some n →
      leader_at l m ≡ Some n
  not_given [] ps l m n other is = is
  not_given (k ∷ ns) [] l m n other is = is
  not_given (k ∷ ns) (p ∷ ps) l m n other is =
      let P : ℕ → Type 0 = λ q. section_at list q ≢ n in
      let value = Some (section_at list p) in
      let later = not_given ns ps (set l k value) m n (All-tail P p ps other) is in
      elim (cases_eq m k) [
        | inl same ↦ elim (cases_lt k (length l)) [
          | inl lt ↦
              let at : leader_at (set l k value) m ≡ value = subst (λ j. leader_at (set l k value) j ≡ value) (sym same) (get_or-set_same l k value None lt) in
              absurd (All-head P p ps other (same_number (section_at list p) n (sym at ∙ later)))
          | inr past ↦ sym (ap (λ x. leader_at x m) (set_past l k value past)) ∙ later
        ]
        | inr apart ↦ sym (get_or-set_other l k m value None apart) ∙ later
      ]

not_barred : (kept barred foldable : Bool) → (kept && (not barred && foldable)) ≡ true → barred ≡ false
not_barred true false true is = refl
not_barred true true foldable is = cc
not_barred true false false is = cc
not_barred false barred foldable is = cc

wide_of : (xs : List FoldItem) → length (sections_of xs) ≡ length xs
unfolding sections_of
wide_of xs = length-map xs section_of

-- a section stands alone in either case
either_alone : (on : Bool) (own folded : List (Option ℕ)) (n : ℕ) → StandsAlone own folded n → StandsAlone own own n →
    StandsAlone own (if on then folded else own) n
either_alone true own folded n first second = first
either_alone false own folded n first second = second

module _ (files : List File) (b : Bindings) (merged : List (Option Merged)) (kept barred : List Bool) where
  abbrev list : List FoldItem
  list = items files b merged kept barred

  -- no item is of a section that is barred
  sections_free : (n : ℕ) → is_barred barred n ≡ true → All (λ k. k ≢ n) (sections_of list)
  unfolding is_foldable
  sections_free n on =
      let P : ℕ → Type 0 = λ k. k ≢ n in
      let Q : List ℕ → Type 0 = All P in
      subst Q (sym (sections_are files b merged kept barred))
      (each_passed P (is_foldable files b kept barred) 0 (section_total files) (λ k lt passes same.
      let off = not_barred _ (is_barred barred k) _ passes in
      both_ways (is_barred barred k) off (subst (λ j. is_barred barred j ≡ true) (sym same) on)))

  places_free : (n : ℕ) → is_barred barred n ≡ true → All (λ p. section_at list p ≢ n) (leaders_of list)
  unfolding sections_of
  places_free n on = λ k d lt.
      let p = get_or (leaders_of list) k d in
      let low : p < length list = leaders_within list (leaders_of list) (are_leaders list) k d lt in
      All-get_or (λ j. j ≢ n) (sections_of list) p 0 (omega (arith, low, wide_of list)) (sections_free n on)

  stands_alone : (n : ℕ) → is_barred barred n ≡ true →
      StandsAlone (own_leaders kept merged) (folded_leaders list (leaders_of list) (own_leaders kept merged)) n
  unfolding folded_leaders sections_of
  stands_alone n on = record {
    same = untouched list (map (λ (i : FoldItem). i.section) list) (leaders_of list) (own_leaders kept merged) n (sections_free n on);
    no_other = λ m is.
        (own_is kept merged m n
        (not_given list (map (λ (i : FoldItem). i.section) list) (leaders_of list) (own_leaders kept merged) m n (places_free n on) is)).1;
  }

own_alone : (kept : List Bool) (merged : List (Option Merged)) (n : ℕ) → StandsAlone (own_leaders kept merged) (own_leaders kept merged) n
own_alone kept merged n = record { same = refl; no_other = λ m is. (own_is kept merged m n is).1 }

-- of a list by two tests, of which the second passes where the first does: where each element that passes the first stands among those that pass the second
module _ {X : Type 0} (p q : ℕ → Bool) (f : ℕ → X) (also : (k : ℕ) → p k ≡ true → q k ≡ true) where
  abbrev those : (ℕ → Bool) → List ℕ → List X
  those t ns = flat_map (λ n. if t n then f n ∷ [] else []) ns

  next : (on more : Bool) (place : ℕ → ℕ) → ℕ → ℕ
  next true more place zero = 0
  next true more place (suc a) = suc (place a)
  next false true place a = suc (place a)
  next false false place a = place a

  place_of : List ℕ → ℕ → ℕ
  place_of [] a = 0
  place_of (n ∷ ns) a = next (p n) (q n) (place_of ns) a

  one_placed : (d : X) (x : X) (on more : Bool) (rest_p rest_q : List X) (place : ℕ → ℕ) → (on ≡ true → more ≡ true) →
      ((a : ℕ) → a < length rest_p → (place a < length rest_q) × (get_or rest_p a d ≡ get_or rest_q (place a) d)) →
      (a : ℕ) → a < length ((if on then x ∷ [] else []) ++ rest_p) →
      (next on more place a < length ((if more then x ∷ [] else []) ++ rest_q))
      × (get_or ((if on then x ∷ [] else []) ++ rest_p) a d ≡ get_or ((if more then x ∷ [] else []) ++ rest_q) (next on more place a) d)
  unfolding next
  one_placed d x true true rest_p rest_q place so each zero lt = (omega arith, refl)
  one_placed d x true true rest_p rest_q place so each (suc a) lt = let at = each a (omega (arith, lt)) in (omega (arith, at.0), at.1)
  one_placed d x true false rest_p rest_q place so each a lt = absurd (both_ways false refl (so refl))
  one_placed d x false true rest_p rest_q place so each a lt = let at = each a lt in (omega (arith, at.0), at.1)
  one_placed d x false false rest_p rest_q place so each a lt = each a lt

  placed : (d : X) (ns : List ℕ) (a : ℕ) → a < length (those p ns) → (place_of ns a < length (those q ns)) × (get_or (those p ns) a d ≡ get_or (those q ns) (place_of ns a) d)
  unfolding place_of next
  placed d [] a lt = absurd (omega arith)
  placed d (n ∷ ns) a lt = one_placed d (f n) (p n) (q n) (those p ns) (those q ns) (place_of ns) (also n) (placed d ns) a lt

-- where fewer are barred each item stands too
wider : (kept less more foldable : Bool) → (less ≡ true → more ≡ true) → (kept && (not more && foldable)) ≡ true → (kept && (not less && foldable)) ≡ true
wider true false more true also is = refl
wider true false more false also is = elim (cases_Bool more) [ inl on ↦ cc | inr off ↦ cc ]
wider true true more foldable also is = let on = also refl in cc
wider false less more foldable also is = cc

module _ (files : List File) (b : Bindings) (merged : List (Option Merged)) (kept less more : List Bool)
    (also : (n : ℕ) → is_barred less n ≡ true → is_barred more n ≡ true) where
  foldable_too : (n : ℕ) → is_foldable files b kept more n ≡ true → is_foldable files b kept less n ≡ true
  unfolding is_foldable
  foldable_too n is = wider _ (is_barred less n) (is_barred more n) _ (also n) is

  abbrev place : ℕ → ℕ
  place = place_of (is_foldable files b kept more) (is_foldable files b kept less) (item_of files b merged) foldable_too (range_with_len 0 (section_total files))

  among : StandAmong (items files b merged kept more) (items files b merged kept less) place
  unfolding items
  among = record {
    within = λ a lt. (placed (is_foldable files b kept more) (is_foldable files b kept less) (item_of files b merged) foldable_too no_item (range_with_len 0 (section_total files)) a lt).0;
    same = λ a lt. (placed (is_foldable files b kept more) (is_foldable files b kept less) (item_of files b merged) foldable_too no_item (range_with_len 0 (section_total files)) a lt).1;
  }

  folded_too : (m n : ℕ) → AreFoldedSections (items files b merged kept more) m n → AreFoldedSections (items files b merged kept less) m n
  folded_too m n is =
      let all = items files b merged kept less in
      let fits = is.folded.congruence.fits is.one is.two is.folded.listed in
      record {
        one = place is.one;
        two = place is.two;
        first = sym (ap (λ (i : FoldItem). i.section) (among.same is.one fits.one)) ∙ is.first;
        second = sym (ap (λ (i : FoldItem). i.section) (among.same is.two fits.two)) ∙ is.second;
        folded = folded_more (items files b merged kept more) all place among is.one is.two is.folded;
      }

-- all that is barred where all is folded is barred where folding is to be safe
or_more : (named taken : Bool) → (named || (false && taken)) ≡ true → (named || (true && taken)) ≡ true
or_more true taken is = refl
or_more false taken is = cc

safe_more : (unique : List (List ℕ)) (files : List File) (b : Bindings) (kept : List Bool) (n : ℕ) → is_barred (barred_of AllMode unique files b kept) n ≡ true →
    is_barred (barred_of Safe unique files b kept) n ≡ true
unfolding barred_of
safe_more unique files b kept n is =
    let some = map (is_apart AllMode unique files b kept) (range_with_len 0 (section_total files)) in
    elim (cases_lt n (section_total files)) [
      | inl lt ↦
          let on = sym (get_or-map-range_with_len (is_apart AllMode unique files b kept) 0 (section_total files) n n false lt (omega arith)) ∙ is in
          get_or-map-range_with_len (is_apart Safe unique files b kept) 0 (section_total files) n n false lt (omega arith)
          ∙ or_more (list_any (λ s. s == n) (named_sections files b unique)) (is_barred (address_taken files b kept) n) on
      | inr past ↦
          let wide = length-map-range_with_len (is_apart AllMode unique files b kept) 0 (section_total files) in
          absurd (both_ways (is_barred some n) (get_or_past some n false (omega (arith, past, wide))) is)
    ]

pub spares : (asked : CommandView) (ss : List Source) → Spares asked ss
unfolding leaders_in
spares asked ss =
    let files = linked_files asked ss in
    let b = bound_in asked ss in
    let kept = kept_in asked ss in
    let merged = (pools_of files kept).merged in
    let barred = barred_of asked.icf asked.unique files b kept in
    let list = items files b merged kept barred in
    let own = own_leaders kept merged in
    record {
      alone = λ n on. either_alone (folds asked.icf) own (folded_leaders list (leaders_of list) own) n (stands_alone files b merged kept barred n on) (own_alone kept merged n);
      fewer = folded_too files b merged kept (barred_of AllMode asked.unique files b kept) (barred_of Safe asked.unique files b kept) (safe_more asked.unique files b kept);
    }
