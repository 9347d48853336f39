-- Lists of the elements that have each number.
use Rattle.std.proofs.Common.{◌≡◌, ℕ, ◌+◌, ◌<◌, ◌==◌, List, [], ◌∷◌, ◌++◌, length, get_or, set, sym, ap, ◌∙◌, arith, inl, inr}
use Rattle.std.specs.Prelude.{if◌then◌else◌}
use Rattle.std.specs.List.{filter, range_with_len}
use Rattle.std.specs.Global.{Vec}
use Rattle.std.proofs.lemmas.Bool.{cases_Bool, eqb-true, eqb-false}
use Rattle.std.proofs.lemmas.List.{append-nil, length-set, get_or-set_same, get_or-set_other}
use Rattle.std.proofs.lemmas.List.Elements.{filter-append}
use Rattle.lk_base.proofs.Loops.{range_more}
use Rattle.str_merge.specs.Members.{AreMembers, having}

having_more : (ns : List ℕ) (i q : ℕ) → having ns (i + 1) q ≡ having ns i q ++ (if get_or ns i 0 == q then i ∷ [] else [])
unfolding having
having_more ns i q = ap (filter (λ k. get_or ns k 0 == q)) (range_more i) ∙ filter-append (λ k. get_or ns k 0 == q) (range_with_len 0 i) (i ∷ [])

pub none_having : (ns others : List ℕ) (count : ℕ) (lists : List (Vec ℕ)) → AreMembers others count 0 lists → AreMembers ns count 0 lists
unfolding having
none_having ns others count lists held = record { count_is = held.count_is; each = held.each }

pub member_step : (ns : List ℕ) (count i : ℕ) (lists : List (Vec ℕ)) (old new : Vec ℕ) → AreMembers ns count i lists → get_or ns i 0 < count →
    old ≡ get_or lists (get_or ns i 0) old → new.items ≡ old.items ++ i ∷ [] → AreMembers ns count (i + 1) (set lists (get_or ns i 0) new)
member_step ns count i lists old new held lt was is =
    let p = get_or ns i 0 in
    record {
      count_is = omega (arith, length-set lists p new, held.count_is);
      each = λ q d less.
          let within : p < length lists = omega (arith, held.count_is) in
          elim (cases_Bool (p == q)) [
            | inl same ↦
                let here : p ≡ q = eqb-true p q same in
                ap (λ k. (get_or (set lists p new) k d).items) (sym here)
                ∙ ap (λ (v : Vec ℕ). v.items) (get_or-set_same lists p new d within)
                ∙ is ∙ ap (λ l. l ++ i ∷ []) (ap (λ (v : Vec ℕ). v.items) was ∙ held.each p old lt)
                ∙ ap (λ k. having ns i k ++ i ∷ []) here
                ∙ ap (λ b. having ns i q ++ (if b then i ∷ [] else [])) (sym same)
                ∙ sym (having_more ns i q)
            | inr other ↦
                let apart = eqb-false p q other in
                ap (λ (v : Vec ℕ). v.items) (get_or-set_other lists p q new d (λ e. apart (sym e)))
                ∙ held.each q d less
                ∙ sym (append-nil (having ns i q))
                ∙ ap (λ b. having ns i q ++ (if b then i ∷ [] else [])) (sym other)
                ∙ sym (having_more ns i q)
          ];
    }
