-- Some items are folded among themselves, and any other is its own leader: so all of them are folded.
use Rattle.std.proofs.Common.{◌≡◌, ◌≢◌, ◌⊎◌, ℕ, ◌+◌, ◌<◌, ◌≤◌, ◌==◌, All, Bool, true, false, true≢false, not, List, length, map, get_or, Option, Some, Contains, refl, sym, ap, ◌∙◌, subst, inl, inr, ⊎_elim, arith}
use Rattle.std.specs.List.{filter, list_any, range_with_len}
use Rattle.std.specs.List.Sorted.{IsStrictlyIncreasing}
use Rattle.std.proofs.lemmas.Bool.{cases_Bool, cases_lt, eq-eqb, eqb-true}
use Rattle.std.proofs.lemmas.List.{get_or-map, length-map}
use Rattle.std.proofs.lemmas.List.Elements.{All-contains, filter_passes}
use Rattle.std.proofs.lemmas.List.Kept.{AllPairs-from_increasing}
use Rattle.std.specs.Cmp.{both_ways}
use Rattle.lk_base.proofs.Membership.{from_filter, from_flat, from_map, from_range, in_filter}
use Rattle.link_sections.specs.declared.targets.Target.{Target}
use Rattle.link_sections.specs.declared.targets.Target.TheVariants.{Section}
use Rattle.link_sections.specs.FoldItems.{FoldItem, section_of, sections_of}
use Rattle.icf_part.specs.Chosen.{AreChosen, AreSpread, items_at}
use Rattle.icf_part.specs.Counts.{how_many, is_new, key_count, leader_count}
use Rattle.icf_part.specs.Folding.{Fits, HoldsAll, IsCongruence, Key, Matches, Pair, classes, item_at, key_of, no_item, pair, target_at}
use Rattle.icf_part.specs.Leaders.{all_pairs, has_pair, same_key}
use Rattle.icf_part.specs.Numbered.{AreFirsts}
use Rattle.icf_part.proofs.ChosenItems.{chosen_at, items_wide}
use Rattle.icf_part.proofs.ChosenRanks.{counts_apart, passes_at, passing_count, passing_rise, passing_within, rank_at, rank_below, ranks_rise}
use Rattle.icf_part.proofs.Counting.{any_below, below_any, most, not_any}
use Rattle.icf_part.proofs.Deciding.{has_pair_Decides, key_Decides}
use Rattle.icf_part.proofs.Paired.{classes_have, classes_tell}
use Rattle.icf_part.proofs.Refined.{firsts_lead}
use Rattle.icf_part.proofs.SectionPlaces.{rising}
use Rattle.icf_part.proofs.Sublists.{in_pairs}
use Rattle.icf_part.proofs.Whole.{IsFolded, folded_by}

-- the place of an item among the chosen
pub record IsChosen (items : List FoldItem) (chosen : List ℕ) (a : ℕ) : Type 0 where
  pub k : ℕ
  pub within : k < length chosen
  pub is : get_or chosen k 0 ≡ a

module _ (items : List FoldItem) (chosen : List ℕ) (are : AreChosen items chosen) where
  abbrev some : List FoldItem
  some = items_at items chosen

  pub rises : IsStrictlyIncreasing chosen
  rises = let P : List ℕ → Type 0 = IsStrictlyIncreasing in subst P (sym are.list_is) (passing_rise are.test (length items))

  pub inside : All (λ a. a < length items) chosen
  inside =
      let P : List ℕ → Type 0 = All (λ a. a < length items) in
      subst P (sym are.list_is) (passing_within are.test (length items))

  pub passes : (k : ℕ) → k < length chosen → are.test (get_or chosen k 0) ≡ true
  passes =
      let P : List ℕ → Type 0 = λ l. (k : ℕ) → k < length l → are.test (get_or l k 0) ≡ true in
      subst P (sym are.list_is) (passes_at are.test (length items))

  pub ranked : (a : ℕ) → a < length items → are.test a ≡ true → (how_many are.test a < length chosen) × (get_or chosen (how_many are.test a) 0 ≡ a)
  ranked a la is =
      let P : List ℕ → Type 0 = λ l. (how_many are.test a < length l) × (get_or l (how_many are.test a) 0 ≡ a) in
      subst P (sym are.list_is) (rank_below are.test a (length items) la is, rank_at are.test (length items) a la is)

  pub sides : (a : ℕ) → a < length items → IsChosen items chosen a ⊎ (are.test a ≡ false)
  sides a la = elim (cases_Bool (are.test a)) [
    | inl is ↦ let r = ranked a la is in inl (record { k = how_many are.test a; within = r.0; is = r.1 })
    | inr fails ↦ inr fails
  ]

  unlisted : (a : ℕ) → are.test a ≡ false → (i : ℕ) → i < length chosen → get_or chosen i 0 ≢ a
  unlisted a fails i lt e = true≢false (sym (passes i lt) ∙ ap are.test e ∙ fails)

  pub apart : (i j : ℕ) → i < length chosen → j < length chosen → get_or chosen i 0 ≡ get_or chosen j 0 → i ≡ j
  apart i j li lj e = elim (cases_lt i j) [
    | inl less ↦ absurd (omega (arith, AllPairs-from_increasing chosen rises i j 0 less lj, e))
    | inr le ↦ elim (cases_lt j i) [
      | inl less ↦ absurd (omega (arith, AllPairs-from_increasing chosen rises j i 0 less li, e))
      | inr also ↦ omega (arith, le, also)
    ]
  ]

  same_item : (k : ℕ) → k < length chosen → item_at some k ≡ item_at items (get_or chosen k 0)
  same_item k lt = chosen_at items chosen k lt

  -- their sections are in order, too
  pub chosen_order : IsStrictlyIncreasing (sections_of items) → IsStrictlyIncreasing (sections_of some)
  unfolding sections_of
  chosen_order order = λ k lt.
      let wide = length-map some section_of ∙ items_wide items chosen in
      let low : k < length chosen = omega (arith, lt, wide) in
      let high : k + 1 < length chosen = omega (arith, lt, wide) in
      let one = get_or-map section_of some k no_item 0 (omega (arith, low, items_wide items chosen)) ∙ ap section_of (same_item k low) in
      let two = get_or-map section_of some (k + 1) no_item 0 (omega (arith, high, items_wide items chosen)) ∙ ap section_of (same_item (k + 1) high) in
      let x = get_or chosen k 0 in
      let y = get_or chosen (k + 1) 0 in
      let ly : y < length items = inside (k + 1) 0 high in
      let less : x < y = rises k high in
      let lx : x < length items = omega (arith, less, ly) in
      let three = get_or-map section_of items x no_item 0 lx in
      let four = get_or-map section_of items y no_item 0 ly in
      let apart = AllPairs-from_increasing (map section_of items) order x y 0 less (omega (arith, ly, length-map items section_of)) in
      omega (arith, one, two, three, four, apart)

  -- a congruence of all as one of the chosen
  module _ (pairs : List Pair) (congruence : IsCongruence items pairs) where
    abbrev has_both : Pair → Bool
    has_both q = has_pair pairs (get_or chosen q.one 0) (get_or chosen q.two 0)

    abbrev inner : List Pair
    inner = filter has_both (all_pairs (length chosen))

    inner_has : (i j : ℕ) → i < length chosen → j < length chosen → Contains pairs (pair (get_or chosen i 0) (get_or chosen j 0)) → Contains inner (pair i j)
    inner_has i j li lj has =
        in_filter has_both (all_pairs (length chosen)) (pair i j) (in_pairs (length chosen) i j li lj) ((has_pair_Decides pairs (get_or chosen i 0) (get_or chosen j 0)).1 has)

    inner_pairs : (i j : ℕ) → Contains inner (pair i j) → Contains pairs (pair (get_or chosen i 0) (get_or chosen j 0))
    inner_pairs i j has =
        (has_pair_Decides pairs (get_or chosen i 0) (get_or chosen j 0)).0
        (All-contains (λ q. has_both q ≡ true) inner (pair i j) (filter_passes has_both (all_pairs (length chosen))) has)

    inner_within : (i j : ℕ) → Contains inner (pair i j) → (i < length chosen) × (j < length chosen)
    inner_within i j has =
        let range = range_with_len 0 (length chosen) in
        let part = from_flat (λ k. map (pair k) range) range (pair i j) (from_filter has_both (all_pairs (length chosen)) (pair i j) has) in
        let last = from_map (pair part.x) range (pair i j) part.part in
        let one : part.x ≡ i = ap (λ (p : Pair). p.one) last.is in
        let two : last.x ≡ j = ap (λ (p : Pair). p.two) last.is in
        (omega (arith, from_range (length chosen) part.x part.listed, one), omega (arith, from_range (length chosen) last.x last.listed, two))

    matches_fewer : (t u : Option Target) → Matches items pairs t u → Matches some inner t u
    matches_fewer t u (inl same) = inl same
    matches_fewer t u (inr p) =
        let fit = congruence.fits p.a p.b p.listed in
        let bytes = ap (λ (k : Key). k.bytes) fit.key in
        let at : ℕ → Option Target = λ x. Some (Section (item_at items x).section p.offset p.rest) in
        ⊎_elim
        (λ (one : IsChosen items chosen p.a). ⊎_elim
        (λ (two : IsChosen items chosen p.b).
        let P : ℕ → Type 0 = λ x. Contains pairs (pair x p.b) in
        let Q : ℕ → Type 0 = λ y. Contains pairs (pair (get_or chosen one.k 0) y) in
        inr (record {
          a = one.k;
          b = two.k;
          offset = p.offset;
          rest = p.rest;
          listed = inner_has one.k two.k one.within two.within (subst Q (sym two.is) (subst P (sym one.is) p.listed));
          one = p.one ∙ ap at (sym one.is) ∙ ap (λ (i : FoldItem). Some (Section i.section p.offset p.rest)) (sym (same_item one.k one.within));
          two = p.two ∙ ap at (sym two.is) ∙ ap (λ (i : FoldItem). Some (Section i.section p.offset p.rest)) (sym (same_item two.k two.within));
        }))
        (λ (fails : are.test p.b ≡ false). inl (p.one ∙ ap at (are.alone p.b p.a fit.two fit.one fails bytes) ∙ sym p.two))
        (sides p.b fit.two))
        (λ (fails : are.test p.a ≡ false). inl (p.one ∙ ap at (sym (are.alone p.a p.b fit.one fit.two fails (sym bytes))) ∙ sym p.two))
        (sides p.a fit.one)

    inner_congruence : IsCongruence some inner
    inner_congruence = record {
      fits = λ i j has.
          let in_both = inner_within i j has in
          let fit = congruence.fits (get_or chosen i 0) (get_or chosen j 0) (inner_pairs i j has) in
          let one = same_item i in_both.0 in
          let two = same_item j in_both.1 in
          record {
            one = omega (arith, in_both.0, items_wide items chosen);
            two = omega (arith, in_both.1, items_wide items chosen);
            key = ap key_of one ∙ fit.key ∙ sym (ap key_of two);
            targets = λ k lt.
                let P : FoldItem → Type 0 = λ x. k < length x.relocs → Matches some inner (target_at x k) (target_at (item_at some j) k) in
                let Q : FoldItem → Type 0 = λ y. Matches some inner (target_at (item_at items (get_or chosen i 0)) k) (target_at y k) in
                subst P (sym one) (λ low. subst Q (sym two) (matches_fewer _ _ (fit.targets k low))) lt;
          };
    }

  module _ (own l : List ℕ) (folded : IsFolded some own) (spread : AreSpread (length items) chosen (length chosen) own l) where
    -- the leader among the chosen
    own_within : (i : ℕ) → i < length chosen → get_or own i 0 < length chosen
    own_within i lt = omega (arith, folded.least i, lt)

    own_wide : length own ≡ length chosen
    own_wide = folded.leaders.count ∙ items_wide items chosen

    alone_leads : (a : ℕ) → a < length items → are.test a ≡ false → get_or l a 0 ≡ a
    alone_leads a la fails = spread.others a la (unlisted a fails)

    chosen_leads : (a : ℕ) (c : IsChosen items chosen a) → get_or l a 0 ≡ get_or chosen (get_or own c.k 0) 0
    chosen_leads a c = ap (λ x. get_or l x 0) (sym c.is) ∙ spread.each c.k c.within

    low : (a : ℕ) → a < length items → get_or l a 0 ≤ a
    low a la = ⊎_elim
        (λ (c : IsChosen items chosen a).
        let before = rising chosen rises (get_or own c.k 0) c.k (folded.least c.k) c.within in
        omega (arith, chosen_leads a c, before, c.is))
        (λ (fails : are.test a ≡ false). omega (arith, alone_leads a la fails))
        (sides a la)

    firsts : AreFirsts (length items) l
    firsts = record {
      wide = spread.wide;
      within = λ a la. omega (arith, low a la, la);
      own = λ a la. ⊎_elim
          (λ (c : IsChosen items chosen a).
          let k = get_or own c.k 0 in
          let at = chosen_leads a c in
          ap (λ x. get_or l x 0) at ∙ spread.each k (own_within c.k c.within) ∙ ap (λ x. get_or chosen x 0) (folded.own c.k) ∙ sym at)
          (λ (fails : are.test a ≡ false). ap (λ x. get_or l x 0) (alone_leads a la fails))
          (sides a la);
      least = λ a b la lb e. omega (arith, low b lb, e);
    }

    -- two items of one leader are one, or both are chosen and have one leader there
    record AreBoth (a b : ℕ) : Type 0 where
      one : IsChosen items chosen a
      two : IsChosen items chosen b
      same : get_or own one.k 0 ≡ get_or own two.k 0

    apart_from : (a b : ℕ) → a < length items → b < length items → get_or l a 0 ≡ get_or l b 0 → IsChosen items chosen a → are.test b ≡ false → ⊥
    apart_from a b la lb e c fails =
        unlisted b fails (get_or own c.k 0) (own_within c.k c.within) (sym (chosen_leads a c) ∙ e ∙ alone_leads b lb fails)

    both : (a b : ℕ) → a < length items → b < length items → get_or l a 0 ≡ get_or l b 0 → (a ≡ b) ⊎ AreBoth a b
    both a b la lb e = ⊎_elim
        (λ (one : IsChosen items chosen a). ⊎_elim
        (λ (two : IsChosen items chosen b). inr (record {
          one = one;
          two = two;
          same = apart (get_or own one.k 0) (get_or own two.k 0) (own_within one.k one.within) (own_within two.k two.within)
              (sym (chosen_leads a one) ∙ e ∙ chosen_leads b two);
        }))
        (λ (fails : are.test b ≡ false). absurd (apart_from a b la lb e one fails))
        (sides b lb))
        (λ (fails : are.test a ≡ false). ⊎_elim
        (λ (two : IsChosen items chosen b). absurd (apart_from b a lb la (sym e) two fails))
        (λ (also : are.test b ≡ false). inl (sym (alone_leads a la fails) ∙ e ∙ alone_leads b lb also))
        (sides b lb))
        (sides a la)

    leads_alike : (i j : ℕ) → i < length chosen → j < length chosen → get_or own i 0 ≡ get_or own j 0 → get_or l (get_or chosen i 0) 0 ≡ get_or l (get_or chosen j 0) 0
    leads_alike i j li lj e = spread.each i li ∙ ap (λ x. get_or chosen x 0) e ∙ sym (spread.each j lj)

    matches_more : (t u : Option Target) → Matches some (classes own) t u → Matches items (classes l) t u
    matches_more t u (inl same) = inl same
    matches_more t u (inr p) =
        let told = classes_tell own p.a p.b p.listed in
        let la : p.a < length chosen = omega (arith, told.one, own_wide) in
        let lb : p.b < length chosen = omega (arith, told.two, own_wide) in
        inr (record {
          a = get_or chosen p.a 0;
          b = get_or chosen p.b 0;
          offset = p.offset;
          rest = p.rest;
          listed = classes_have l (get_or chosen p.a 0) (get_or chosen p.b 0) (omega (arith, inside p.a 0 la, spread.wide)) (omega (arith, inside p.b 0 lb, spread.wide))
              (leads_alike p.a p.b la lb told.same);
          one = p.one ∙ ap (λ (i : FoldItem). Some (Section i.section p.offset p.rest)) (same_item p.a la);
          two = p.two ∙ ap (λ (i : FoldItem). Some (Section i.section p.offset p.rest)) (same_item p.b lb);
        })

    fits_itself : (a : ℕ) → a < length items → Fits items (classes l) a a
    fits_itself a la = record { one = la; two = la; key = refl; targets = λ k lt. inl refl }

    congruent : IsCongruence items (classes l)
    congruent = record {
      fits = λ a b has.
          let told = classes_tell l a b has in
          let la : a < length items = omega (arith, told.one, spread.wide) in
          let lb : b < length items = omega (arith, told.two, spread.wide) in
          ⊎_elim
          (λ (same : a ≡ b). let P : ℕ → Type 0 = Fits items (classes l) a in subst P same (fits_itself a la))
          (λ (c : AreBoth a b).
          let i = c.one.k in
          let j = c.two.k in
          let fit = folded.congruence.fits i j (classes_have own i j (omega (arith, c.one.within, own_wide)) (omega (arith, c.two.within, own_wide)) c.same) in
          let one : item_at some i ≡ item_at items a = same_item i c.one.within ∙ ap (item_at items) c.one.is in
          let two : item_at some j ≡ item_at items b = same_item j c.two.within ∙ ap (item_at items) c.two.is in
          record {
            one = la;
            two = lb;
            key = sym (ap key_of one) ∙ fit.key ∙ ap key_of two;
            targets = λ k lt.
                let P : FoldItem → Type 0 = λ x. k < length x.relocs → Matches items (classes l) (target_at x k) (target_at (item_at items b) k) in
                let Q : FoldItem → Type 0 = λ y. Matches items (classes l) (target_at (item_at some i) k) (target_at y k) in
                subst P one (λ less. subst Q two (matches_more _ _ (fit.targets k less))) lt;
          })
          (both a b la lb told.same);
    }

    holds : HoldsAll items l
    holds = λ pairs a b congr has.
        let fit = congr.fits a b has in
        let bytes = ap (λ (k : Key). k.bytes) fit.key in
        ⊎_elim
        (λ (one : IsChosen items chosen a). ⊎_elim
        (λ (two : IsChosen items chosen b).
        let P : ℕ → Type 0 = λ x. Contains pairs (pair x b) in
        let Q : ℕ → Type 0 = λ y. Contains pairs (pair (get_or chosen one.k 0) y) in
        let listed = inner_has pairs congr one.k two.k one.within two.within (subst Q (sym two.is) (subst P (sym one.is) has)) in
        chosen_leads a one
        ∙ ap (λ x. get_or chosen x 0) (folded.greatest (inner pairs congr) one.k two.k (inner_congruence pairs congr) listed)
        ∙ sym (chosen_leads b two))
        (λ (fails : are.test b ≡ false). ap (λ x. get_or l x 0) (are.alone b a fit.two fit.one fails bytes))
        (sides b fit.two))
        (λ (fails : are.test a ≡ false). ap (λ x. get_or l x 0) (sym (are.alone a b fit.one fit.two fails (sym bytes))))
        (sides a fit.one)

    pub all_folded : IsFolded items l
    all_folded = folded_by items l (firsts_lead items l firsts congruent holds) congruent holds

    -- classes are so many more as there are others
    chosen_count : length chosen ≡ how_many are.test (length items)
    chosen_count = ap length are.list_is ∙ passing_count are.test (length items)

    pub leaders_counted : leader_count l + length chosen ≡ leader_count own + length items
    leaders_counted =
        let n = length items in
        let p : ℕ → Bool = λ a. get_or l a 0 == a in
        let q : ℕ → Bool = λ k. get_or own k 0 == k in
        let all = counts_apart are.test p q n
        (λ a la is.
        let r = ranked a la is in
        let k = how_many are.test a in
        let c : IsChosen items chosen a = record { k = k; within = r.0; is = r.1 } in
        both_ways (p a) (q k)
        (λ t. eq-eqb (get_or own k 0) k (apart (get_or own k 0) k (own_within k r.0) r.0 (sym (chosen_leads a c) ∙ eqb-true (get_or l a 0) a t ∙ sym r.1)))
        (λ t. eq-eqb (get_or l a 0) a (chosen_leads a c ∙ ap (λ x. get_or chosen x 0) (eqb-true (get_or own k 0) k t) ∙ r.1)))
        (λ a la fails. eq-eqb (get_or l a 0) a (alone_leads a la fails)) in
        let one = ap (λ k. how_many p k) spread.wide in
        let two = ap (λ k. how_many q k) (own_wide ∙ chosen_count) in
        omega (arith, all, one, two, chosen_count)

  -- and so are keys
  alike : (xs : List FoldItem) → (b a : ℕ) → Bool
  alike xs b a = same_key (key_of (item_at xs b)) (key_of (item_at xs a))

  alike_bytes : (b a : ℕ) → alike items b a ≡ true → (item_at items b).bytes ≡ (item_at items a).bytes
  unfolding alike
  alike_bytes b a is = ap (λ (k : Key). k.bytes) ((key_Decides (key_of (item_at items b)) (key_of (item_at items a))).0 is)

  alike_there : (j k : ℕ) → j < length chosen → k < length chosen → alike some j k ≡ alike items (get_or chosen j 0) (get_or chosen k 0)
  unfolding alike
  alike_there j k lj lk =
      ap (λ (i : FoldItem). same_key (key_of i) (key_of (item_at some k))) (same_item j lj)
      ∙ ap (λ (i : FoldItem). same_key (key_of (item_at items (get_or chosen j 0))) (key_of i)) (same_item k lk)

  key_kept : (a : ℕ) → a < length items → are.test a ≡ true → is_new (alike items) a ≡ is_new (alike some) (how_many are.test a)
  key_kept a la is =
      let r = ranked a la is in
      let k = how_many are.test a in
      let p : ℕ → Bool = λ b. alike items b a in
      let q : ℕ → Bool = λ j. alike some j k in
      ap not (both_ways (list_any p (range_with_len 0 a)) (list_any q (range_with_len 0 k))
      (λ t.
      let f = below_any p a t in
      let lb : f.k < length items = omega (arith, f.within, la) in
      elim (cases_Bool (are.test f.k)) [
        | inl also ↦
            let s = ranked f.k lb also in
            let j = how_many are.test f.k in
            any_below q k j (ranks_rise are.test f.k a f.within also)
            (alike_there j k s.0 r.0 ∙ ap (λ x. alike items x (get_or chosen k 0)) s.1 ∙ ap (alike items f.k) r.1 ∙ f.passes)
        | inr fails ↦ absurd (omega (arith, are.alone f.k a lb la fails (sym (alike_bytes f.k a f.passes)), f.within))
      ])
      (λ t.
      let f = below_any q k t in
      let lj : f.k < length chosen = omega (arith, f.within, r.0) in
      let b = get_or chosen f.k 0 in
      let before = AllPairs-from_increasing chosen rises f.k k 0 f.within r.0 in
      any_below p a b (omega (arith, before, r.1)) (ap (alike items b) (sym r.1) ∙ sym (alike_there f.k k lj r.0) ∙ f.passes)))

  key_alone : (a : ℕ) → a < length items → are.test a ≡ false → is_new (alike items) a ≡ true
  key_alone a la fails =
      let p : ℕ → Bool = λ b. alike items b a in
      not_any (list_any p (range_with_len 0 a)) (λ t.
      let f = below_any p a t in
      let lb : f.k < length items = omega (arith, f.within, la) in
      omega (arith, are.alone a f.k la lb fails (alike_bytes f.k a f.passes), f.within))

  pub keys_counted_all : key_count items + length chosen ≡ key_count some + length items
  unfolding alike
  keys_counted_all =
      let n = length items in
      let all = counts_apart are.test (is_new (alike items)) (is_new (alike some)) n key_kept key_alone in
      let count : length chosen ≡ how_many are.test n = ap length are.list_is ∙ passing_count are.test n in
      let two = ap (λ k. how_many (is_new (alike some)) k) (items_wide items chosen ∙ count) in
      omega (arith, all, two, count)

  pub chosen_most : length chosen ≤ length items
  chosen_most = omega (arith, ap length are.list_is ∙ passing_count are.test (length items), most are.test (length items))
