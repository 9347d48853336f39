-- One class of which the items of a list get a new label.
use Rattle.std.proofs.Common.{◌≡◌, ◌≢◌, ◌⊎◌, ℕ, ◌+◌, ◌<◌, ◌==◌, ◌&&◌, Bool, true, false, cond, List, length, get_or, Contains, refl, sym, ◌∙◌, subst, ⊎_elim, inl, inr, arith}
use Rattle.std.specs.List.{list_any}
use Rattle.std.proofs.lemmas.Bool.{both_ways, cases_Bool, eq-eqb, eqb-false, eqb-true}
use Rattle.std.proofs.lemmas.Grind.{same_number_lists}
use Rattle.lk_base.proofs.Membership.{any_from}
use Rattle.icf_part.specs.Classes.{IsPartSplit, class_count, relabelled, size_of}
use Rattle.icf_part.proofs.Counting.{counted, found}
use Rattle.icf_part.proofs.Deciding.{any_tells}
use Rattle.icf_part.proofs.Relabelled.{IsRelabelled}
use Rattle.icf_part.proofs.SplitCounts.{IsParted, one_class_more}

-- an item got the new label, or kept its own
pub record IsSent (from to : ℕ) (part old new : List ℕ) (a : ℕ) : Type 0 where
  pub had : get_or old a 0 ≡ from
  pub listed : Contains part a
  pub has : get_or new a 0 ≡ to

pub record IsLeft (from : ℕ) (part old new : List ℕ) (a : ℕ) : Type 0 where
  pub unlisted : get_or old a 0 ≡ from → Contains part a → ⊥
  pub kept : get_or new a 0 ≡ get_or old a 0

listed_of : (part : List ℕ) (a : ℕ) → list_any (λ b. b == a) part ≡ true → Contains part a
listed_of part a is =
    let some = any_tells (λ b. b == a) part is in
    let P : ℕ → Type 0 = Contains part in subst P (eqb-true some.x a some.passes) some.listed

any_of : (part : List ℕ) (a : ℕ) → Contains part a → list_any (λ b. b == a) part ≡ true
any_of part a has = any_from (λ b. b == a) part a has (eq-eqb a a refl)

label_is : (part : List ℕ) (from to : ℕ) (old : List ℕ) (a : ℕ) → relabelled part from to old a ≡ cond (get_or old a 0 == from && list_any (λ b. b == a) part) to (get_or old a 0)
unfolding relabelled
label_is part from to old a = refl

sent : (to value : ℕ) (own any : Bool) → own ≡ true → any ≡ true → cond (own && any) to value ≡ to
sent to value true true eo ea = refl
sent to value true false eo ea = absurd cc
sent to value false any eo ea = absurd cc

left_own : (to value : ℕ) (own any : Bool) → own ≡ false → cond (own && any) to value ≡ value
left_own to value false any e = refl
left_own to value true any e = absurd cc

left_any : (to value : ℕ) (own any : Bool) → any ≡ false → cond (own && any) to value ≡ value
left_any to value true false e = refl
left_any to value false false e = refl
left_any to value own true e = absurd cc

pub where_is : (old part : List ℕ) (from to : ℕ) (new : List ℕ) (moved a : ℕ) → IsRelabelled old part from to new moved → a < length old →
    IsSent from to part old new a ⊎ IsLeft from part old new a
where_is old part from to new moved a is la =
    let e = is.each a la ∙ label_is part from to old a in
    let own : Bool = get_or old a 0 == from in
    let any : Bool = list_any (λ b. b == a) part in
    elim (cases_Bool own) [
      | inl has ↦ elim (cases_Bool any) [
        | inl listed ↦ inl (record { had = eqb-true (get_or old a 0) from has; listed = listed_of part a listed; has = e ∙ sent to (get_or old a 0) own any has listed })
        | inr unlisted ↦ inr (record { unlisted = λ h l. both_ways any unlisted (any_of part a l); kept = e ∙ left_any to (get_or old a 0) own any unlisted })
      ]
      | inr other ↦ inr (record { unlisted = λ h l. eqb-false (get_or old a 0) from other h; kept = e ∙ left_own to (get_or old a 0) own any other })
    ]

module _ (old part : List ℕ) (from to : ℕ) (new : List ℕ) (moved : ℕ) (is : IsRelabelled old part from to new moved)
    (fresh : (a : ℕ) → a < length old → get_or old a 0 ≢ to) (apart : from ≢ to) where
  pub at : (a : ℕ) → a < length old → IsSent from to part old new a ⊎ IsLeft from part old new a
  at a la = where_is old part from to new moved a is la

  pub parted : IsParted old new from to
  parted = record {
    wide = is.wide;
    own = λ a la e. ⊎_elim
        (λ (s : IsSent from to part old new a). inr s.has)
        (λ (l : IsLeft from part old new a). inl (l.kept ∙ e))
        (at a la);
    others = λ a la isnt. ⊎_elim
        (λ (s : IsSent from to part old new a). absurd (isnt s.had))
        (λ (l : IsLeft from part old new a). l.kept)
        (at a la);
    fresh = fresh;
    apart = apart;
  }

  pub sent_finer : (a b : ℕ) → a < length old → b < length old → get_or new a 0 ≡ get_or new b 0 → get_or old a 0 ≡ get_or old b 0
  sent_finer a b la lb e = ⊎_elim
      (λ (s : IsSent from to part old new a). ⊎_elim
      (λ (t : IsSent from to part old new b). s.had ∙ sym t.had)
      (λ (l : IsLeft from part old new b). absurd (fresh b lb (sym l.kept ∙ sym e ∙ s.has)))
      (at b lb))
      (λ (l : IsLeft from part old new a). ⊎_elim
      (λ (t : IsSent from to part old new b). absurd (fresh a la (sym l.kept ∙ e ∙ t.has)))
      (λ (m : IsLeft from part old new b). sym l.kept ∙ e ∙ m.kept)
      (at b lb))
      (at a la)

  pub part_split : IsPartSplit (length old) from part old new
  part_split = record {
    apart = λ a b la lb own e listed. ⊎_elim
        (λ (s : IsSent from to part old new a). ⊎_elim
        (λ (t : IsSent from to part old new b). t.listed)
        (λ (l : IsLeft from part old new b). absurd (fresh b lb (sym l.kept ∙ sym e ∙ s.has)))
        (at b lb))
        (λ (l : IsLeft from part old new a). absurd (l.unlisted own listed))
        (at a la);
    together = λ a b la lb there back e. ⊎_elim
        (λ (s : IsSent from to part old new a). ⊎_elim
        (λ (t : IsSent from to part old new b). s.has ∙ sym t.has)
        (λ (l : IsLeft from part old new b). absurd (l.unlisted (sym e ∙ s.had) (there s.listed)))
        (at b lb))
        (λ (l : IsLeft from part old new a). ⊎_elim
        (λ (t : IsSent from to part old new b). absurd (l.unlisted (e ∙ t.had) (back t.listed)))
        (λ (m : IsLeft from part old new b). l.kept ∙ e ∙ sym m.kept)
        (at b lb))
        (at a la);
    others = λ a la isnt. parted.others a la isnt;
  }

  -- where some have the label still, and some have the new one, there is one class more
  pub split_counts : (q : ℕ) → q < length old → Contains part q → get_or old q 0 ≡ from → moved ≢ size_of from old → class_count new ≡ class_count old + 1
  split_counts q lq listed own other =
      let less = is.less in
      let some = found (λ a. get_or new a 0 == from) (length new) (omega (arith, less, other)) in
      let within = some.within in
      let wide = is.wide in
      let goes : get_or new q 0 ≡ to = ⊎_elim
      (λ (s : IsSent from to part old new q). s.has)
      (λ (l : IsLeft from part old new q). absurd (l.unlisted own listed))
      (at q lq) in
      one_class_more old new from to parted some.k q (omega (arith, within, wide)) lq (eqb-true (get_or new some.k 0) from some.passes) goes

  -- where all have the new label, all items of the class are in the list
  pub all_listed : moved ≡ size_of from old → (a : ℕ) → a < length old → get_or old a 0 ≡ from → Contains part a
  all_listed all a la own = ⊎_elim
      (λ (s : IsSent from to part old new a). s.listed)
      (λ (l : IsLeft from part old new a).
      let less = is.less in
      let wide = is.wide in
      absurd (omega (arith, less, all, counted (λ k. get_or new k 0 == from) (length new) a (omega (arith, la, wide)) (eq-eqb (get_or new a 0) from (l.kept ∙ own)))))
      (at a la)

  pub whole_split : moved ≡ size_of from old → IsPartSplit (length old) from part old old
  whole_split all = record {
    apart = λ a b la lb own e listed. all_listed all b lb (sym e ∙ own);
    together = λ a b la lb there back e. e;
    others = λ a la isnt. refl;
  }

  -- the way back
  pub undone : (back : List ℕ) (again : ℕ) → IsRelabelled new part to from back again → back ≡ old
  undone back again was =
      let wide : length back ≡ length old = was.wide ∙ is.wide in
      same_number_lists back old wide (λ a lt.
      let la : a < length old = omega (arith, lt, wide) in
      let also : a < length new = omega (arith, la, is.wide) in
      ⊎_elim
      (λ (s : IsSent from to part old new a). ⊎_elim
      (λ (r : IsSent to from part new back a). r.has ∙ sym s.had)
      (λ (l : IsLeft to part new back a). absurd (l.unlisted s.has s.listed))
      (where_is new part to from back again a was also))
      (λ (l : IsLeft from part old new a). ⊎_elim
      (λ (r : IsSent to from part new back a). absurd (fresh a la (sym l.kept ∙ r.had)))
      (λ (m : IsLeft to part new back a). m.kept ∙ l.kept)
      (where_is new part to from back again a was also))
      (at a la))
