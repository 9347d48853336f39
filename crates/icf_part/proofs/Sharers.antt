-- Items of which some are folded among themselves, where any other is alone with its contents: the leaders of all, and of their sections.
use Rattle.std.proofs.Common.{◌≡◌, ◌≢◌, ◌⊎◌, ℕ, zero, suc, ◌+◌, ◌<◌, false, true≢false, Option, Some, None, List, [], ◌∷◌, length, map, get_or, set, refl, sym, ap, ◌∙◌, subst, inl, inr, arith}
use Rattle.std.specs.Prelude.{if◌then◌else◌}
use Rattle.std.specs.List.{range_with_len}
use Rattle.std.specs.List.Sorted.{IsStrictlyIncreasing}
use Rattle.std.proofs.lemmas.Bool.{cases_Bool, cases_eq, cases_lt, cond-false, cond-true}
use Rattle.std.proofs.lemmas.List.{ext_get_or, get_or-map, get_or-set_other, get_or-set_same, length-map, length-set}
use Rattle.std.proofs.lemmas.List.FromFn.{get_or-map-range_with_len, length-map-range_with_len}
use Rattle.std.proofs.lemmas.List.Kept.{AllPairs-from_increasing}
use Rattle.link_sections.specs.FoldItems.{FoldItem, section_of, sections_of}
use Rattle.link_sections.specs.Leaders.{fold_each, folded_leaders, leader_at, section_at}
use Rattle.icf_part.specs.Chosen.{AreChosen, AreSharers, AreSpread, items_at, own_leading}
use Rattle.icf_part.specs.Counts.{how_many}
use Rattle.icf_part.specs.Folding.{item_at, no_item}
use Rattle.icf_part.specs.Leaders.{leaders_of}
use Rattle.icf_part.proofs.ChosenItems.{chosen_at, items_wide}
use Rattle.icf_part.proofs.Spreading.{IsChosen, all_folded, apart, chosen_order, inside, passes, ranked, sides}
use Rattle.icf_part.proofs.Whole.{IsFolded}
use Rattle.icf_part.proofs.Listed.{IsAt}

-- numbers that get leaders, one after the other
abbrev given : (ns leaders : List ℕ) → List (Option ℕ) → List (Option ℕ)
given [] ms l = l
given (n ∷ ns) [] l = l
given (n ∷ ns) (m ∷ ms) l = given ns ms (set l n (Some m))

folded_given : (views : List FoldItem) (ns ps : List ℕ) (l : List (Option ℕ)) → fold_each views ns ps l ≡ given ns (map (section_at views) ps) l
folded_given views [] ps l = refl
folded_given views (n ∷ ns) [] l = refl
folded_given views (n ∷ ns) (p ∷ ps) l = folded_given views ns ps (set l n (Some (section_at views p)))

leading_given : (ns : List ℕ) (l : List (Option ℕ)) → own_leading ns l ≡ given ns ns l
leading_given [] l = refl
leading_given (n ∷ ns) l = leading_given ns (set l n (Some n))

given_wide : (ns ms : List ℕ) (l : List (Option ℕ)) → length (given ns ms l) ≡ length l
given_wide [] ms l = refl
given_wide (n ∷ ns) [] l = refl
given_wide (n ∷ ns) (m ∷ ms) l = given_wide ns ms (set l n (Some m)) ∙ length-set l n (Some m)

abbrev IsNone : (ns : List ℕ) (n : ℕ) → Type 0
IsNone ns n = (k : ℕ) → k < length ns → get_or ns k 0 ≢ n

given_other : (ns ms : List ℕ) (l : List (Option ℕ)) (n : ℕ) → IsNone ns n → leader_at (given ns ms l) n ≡ leader_at l n
given_other [] ms l n other = refl
given_other (k ∷ ns) [] l n other = refl
given_other (k ∷ ns) (m ∷ ms) l n other =
    given_other ns ms (set l k (Some m)) n (λ i lt. other (suc i) (omega (arith, lt)))
    ∙ get_or-set_other l k n (Some m) None (λ same. other 0 (omega arith) (sym same))

abbrev Rise : List ℕ → Type 0
Rise ns = (i j : ℕ) → i < j → j < length ns → get_or ns i 0 < get_or ns j 0

given_at : (ns ms : List ℕ) (l : List (Option ℕ)) (k : ℕ) → Rise ns → k < length ns → k < length ms → get_or ns k 0 < length l →
    leader_at (given ns ms l) (get_or ns k 0) ≡ Some (get_or ms k 0)
given_at [] ms l k rise in_ns in_ms below = absurd (omega (arith, in_ns))
given_at (n ∷ ns) [] l k rise in_ns in_ms below = absurd (omega (arith, in_ms))
given_at (n ∷ ns) (m ∷ ms) l zero rise in_ns in_ms below =
    given_other ns ms (set l n (Some m)) n (λ k lt same. omega (arith, rise 0 (suc k) (omega arith) (omega (arith, lt)), same))
    ∙ get_or-set_same l n (Some m) None below
given_at (n ∷ ns) (m ∷ ms) l (suc k) rise in_ns in_ms below =
    given_at ns ms (set l n (Some m)) k (λ i j less lt. rise (suc i) (suc j) (omega (arith, less)) (omega (arith, lt)))
    (omega (arith, in_ns)) (omega (arith, in_ms)) (omega (arith, below, length-set l n (Some m)))

later : (m : ℕ) (ns : List ℕ) (n : ℕ) → m ≢ n → IsNone ns n → IsNone (m ∷ ns) n
later m ns n first none zero lt = first
later m ns n first none (suc k) lt = none k (omega (arith, lt))

-- whether a number is in a list
where_is : (ns : List ℕ) (n : ℕ) → IsAt ns n ⊎ IsNone ns n
where_is [] n = inr (λ k lt. absurd (omega (arith, lt)))
where_is (m ∷ ns) n = elim (cases_eq m n) [
  | inl same ↦ inl (record { k = 0; within = omega arith; is = same })
  | inr first ↦ elim (where_is ns n) [
    | inl at ↦ inl (record { k = suc at.k; within = omega (arith, at.within); is = at.is })
    | inr none ↦ inr (later m ns n first none)
  ]
]

module _ (items : List FoldItem) (chosen : List ℕ) (are : AreChosen items chosen) (own : List ℕ) (folded : IsFolded (items_at items chosen) own) where
  -- the leader of an item
  abbrev lead_at : ℕ → ℕ
  lead_at a = if are.test a then get_or chosen (get_or own (how_many are.test a) 0) 0 else a

  abbrev lead : List ℕ
  lead = map lead_at (range_with_len 0 (length items))

  lead_is : (a : ℕ) → a < length items → get_or lead a 0 ≡ lead_at a
  lead_is a lt = get_or-map-range_with_len lead_at 0 (length items) a a 0 lt (omega arith)

  spread : AreSpread (length items) chosen (length chosen) own lead
  spread = record {
    wide = length-map-range_with_len lead_at 0 (length items);
    each = λ i lt.
        let a = get_or chosen i 0 in
        let la : a < length items = inside items chosen are i 0 lt in
        let on = passes items chosen are i lt in
        let r = ranked items chosen are a la on in
        let same : how_many are.test a ≡ i = apart items chosen are (how_many are.test a) i r.0 lt r.1 in
        lead_is a la ∙ cond-true (are.test a) (get_or chosen (get_or own (how_many are.test a) 0) 0) a on ∙ ap (λ k. get_or chosen (get_or own k 0) 0) same;
    others = λ a la other. lead_is a la ∙ elim (cases_Bool (are.test a)) [
      | inl on ↦ let r = ranked items chosen are a la on in absurd (other (how_many are.test a) r.0 r.1)
      | inr off ↦ cond-false (are.test a) (get_or chosen (get_or own (how_many are.test a) 0) 0) a off
    ];
  }

  lead_folded : IsFolded items lead
  lead_folded = all_folded items chosen are own lead folded spread

  all_lead : IsFolded items (leaders_of items)
  all_lead = let P : List ℕ → Type 0 = IsFolded items in subst P lead_folded.value lead_folded

  spread_all : AreSpread (length items) chosen (length chosen) own (leaders_of items)
  spread_all = let P : List ℕ → Type 0 = AreSpread (length items) chosen (length chosen) own in subst P lead_folded.value spread

  module _ (order : IsStrictlyIncreasing (sections_of items)) (l : List (Option ℕ)) where
    abbrev some : List FoldItem
    some = items_at items chosen

    abbrev ns : List ℕ
    ns = map section_of items

    abbrev ms : List ℕ
    ms = map section_of some

    abbrev left : List (Option ℕ)
    left = given ms (map (section_at some) own) (given ns ns l)

    abbrev right : List (Option ℕ)
    right = given ns (map (section_at items) (leaders_of items)) l

    wide : length ns ≡ length items
    wide = length-map items section_of

    narrow : length ms ≡ length chosen
    narrow = length-map some section_of ∙ items_wide items chosen

    own_wide : length own ≡ length chosen
    own_wide = folded.leaders.count ∙ items_wide items chosen

    rise : Rise ns
    unfolding sections_of
    rise i j less lt = AllPairs-from_increasing ns order i j 0 less lt

    some_rise : Rise ms
    unfolding sections_of
    some_rise i j less lt = AllPairs-from_increasing ms (chosen_order items chosen are order) i j 0 less lt

    -- the section of a chosen item
    same_section : (k : ℕ) → k < length chosen → get_or ms k 0 ≡ get_or ns (get_or chosen k 0) 0
    same_section k lt =
        get_or-map section_of some k no_item 0 (omega (arith, lt, items_wide items chosen))
        ∙ ap section_of (chosen_at items chosen k lt)
        ∙ sym (get_or-map section_of items (get_or chosen k 0) no_item 0 (inside items chosen are k 0 lt))

    own_within : (k : ℕ) → k < length chosen → get_or own k 0 < length chosen
    own_within k lt = omega (arith, folded.least k, lt)

    right_at : (a : ℕ) → a < length items → get_or ns a 0 < length l → leader_at right (get_or ns a 0) ≡ Some (get_or ns (get_or (leaders_of items) a 0) 0)
    right_at a la below =
        let count = all_lead.leaders.count in
        given_at ns (map (section_at items) (leaders_of items)) l a rise (omega (arith, la, wide)) (omega (arith, la, count, length-map (leaders_of items) (section_at items))) below
        ∙ ap Some (get_or-map (section_at items) (leaders_of items) a 0 0 (omega (arith, la, count)))

    -- an item that is chosen
    at_chosen : (a : ℕ) → a < length items → get_or ns a 0 < length l → IsChosen items chosen a → leader_at left (get_or ns a 0) ≡ leader_at right (get_or ns a 0)
    at_chosen a la below c =
        let k = c.k in
        let there : get_or ms k 0 ≡ get_or ns a 0 = same_section k c.within ∙ ap (λ x. get_or ns x 0) c.is in
        let room : get_or ms k 0 < length (given ns ns l) = omega (arith, there, below, given_wide ns ns l) in
        let one = given_at ms (map (section_at some) own) (given ns ns l) k some_rise (omega (arith, c.within, narrow)) (omega (arith, c.within, own_wide, length-map own (section_at some))) room in
        let two = get_or-map (section_at some) own k 0 0 (omega (arith, c.within, own_wide)) in
        let three = same_section (get_or own k 0) (own_within k c.within) in
        let four : get_or (leaders_of items) a 0 ≡ get_or chosen (get_or own k 0) 0 = ap (λ x. get_or (leaders_of items) x 0) (sym c.is) ∙ spread_all.each k c.within in
        ap (leader_at left) (sym there) ∙ one ∙ ap Some (two ∙ three) ∙ ap (λ x. Some (get_or ns x 0)) (sym four) ∙ sym (right_at a la below)

    none_there : (a : ℕ) → a < length items → ((i : ℕ) → i < length chosen → get_or chosen i 0 ≢ a) → IsNone ms (get_or ns a 0)
    none_there a la other k lt same =
        let low : k < length chosen = omega (arith, lt, narrow) in
        let x = get_or chosen k 0 in
        let lx : x < length items = inside items chosen are k 0 low in
        let equal : get_or ns x 0 ≡ get_or ns a 0 = sym (same_section k low) ∙ same in
        elim (cases_lt x a) [
          | inl less ↦ let apart_there = rise x a less (omega (arith, la, wide)) in omega (arith, apart_there, equal)
          | inr le ↦ elim (cases_lt a x) [
            | inl more ↦ let apart_there = rise a x more (omega (arith, lx, wide)) in omega (arith, apart_there, equal)
            | inr also ↦ other k low (omega (arith, le, also))
          ]
        ]

    -- any other
    at_other : (a : ℕ) → a < length items → get_or ns a 0 < length l → ((i : ℕ) → i < length chosen → get_or chosen i 0 ≢ a) →
        leader_at left (get_or ns a 0) ≡ leader_at right (get_or ns a 0)
    at_other a la below other =
        given_other ms (map (section_at some) own) (given ns ns l) (get_or ns a 0) (none_there a la other)
        ∙ given_at ns ns l a rise (omega (arith, la, wide)) (omega (arith, la, wide)) below
        ∙ ap (λ x. Some (get_or ns x 0)) (sym (spread_all.others a la other))
        ∙ sym (right_at a la below)

    none_of : (n : ℕ) → IsNone ns n → IsNone ms n
    none_of n none k lt same =
        let low : k < length chosen = omega (arith, lt, narrow) in
        none (get_or chosen k 0) (omega (arith, inside items chosen are k 0 low, wide)) (sym (same_section k low) ∙ same)

    at_each : (n : ℕ) → n < length l → leader_at left n ≡ leader_at right n
    at_each n below = elim (where_is ns n) [
      | inl at ↦
          let a = at.k in
          let la : a < length items = omega (arith, at.within, wide) in
          let low : get_or ns a 0 < length l = omega (arith, below, at.is) in
          let P : ℕ → Type 0 = λ m. leader_at left m ≡ leader_at right m in
          subst P at.is (elim (sides items chosen are a la) [
            | inl c ↦ at_chosen a la low c
            | inr off ↦ at_other a la low (unchosen a off)
          ])
      | inr none ↦
          given_other ms (map (section_at some) own) (given ns ns l) n (none_of n none) ∙ given_other ns ns l n none
          ∙ sym (given_other ns (map (section_at items) (leaders_of items)) l n none)
    ]
      where
        unchosen : (a : ℕ) → are.test a ≡ false → (i : ℕ) → i < length chosen → get_or chosen i 0 ≢ a
        unchosen a off i lt e = true≢false (sym (passes items chosen are i lt) ∙ ap are.test e ∙ off)

    long : length left ≡ length l
    long = given_wide ms (map (section_at some) own) (given ns ns l) ∙ given_wide ns ns l

    sections_lead : folded_leaders some own (own_leading ns l) ≡ folded_leaders items (leaders_of items) l
    unfolding folded_leaders
    sections_lead =
        ap (fold_each some ms own) (leading_given ns l) ∙ folded_given some ms own (given ns ns l)
        ∙ ext_get_or None left right (long ∙ sym (given_wide ns (map (section_at items) (leaders_of items)) l)) (λ n lt. at_each n (omega (arith, lt, long)))
        ∙ sym (folded_given items ns (leaders_of items) l)

module _ (items some : List FoldItem) (sharers : AreSharers items some) (own : List ℕ) (folded : IsFolded some own) where
  folded_some : IsFolded (items_at items sharers.chosen) own
  folded_some = let P : List FoldItem → Type 0 = λ s. IsFolded s own in subst P sharers.some_are folded

  pub sharers_lead : IsFolded items (leaders_of items)
  sharers_lead = all_lead items sharers.chosen sharers.among own folded_some

  -- the sections of the others are their own leaders, and those of the sharers have the leaders that these have
  pub leaders_shared : IsStrictlyIncreasing (sections_of items) → (l : List (Option ℕ)) → folded_leaders some own (own_leading (map section_of items) l) ≡ folded_leaders items (leaders_of items) l
  leaders_shared order l =
      ap (λ s. folded_leaders s own (own_leading (map section_of items) l)) sharers.some_are ∙ sections_lead items sharers.chosen sharers.among own folded_some order l
