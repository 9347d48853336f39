-- The least rank on offer for a name, offer by offer.
use Rattle.std.proofs.Common.{◌≡◌, ℕ, ◌+◌, min, Bool, true, false, if◌then◌else◌, List, [], ◌∷◌, ◌++◌, refl, sym, ap, ◌∙◌, arith}
use Rattle.std.specs.Prelude.{flat_map}
use Rattle.std.specs.List.{range_with_len}
use Rattle.std.specs.Str.{bytes_eq}
use Rattle.lk_base.proofs.Loops.{flat_step}
use Rattle.lk_tables.specs.Binding.{Offer, least_rank}
use Rattle.lk_tables.specs.Ranks.{no_rank}
use Rattle.name_numbers.proofs.LeastClaims.{least_most}

pub least_none : (name : List ℕ) → no_rank ≡ least_rank name []
unfolding least_rank
least_none name = refl

one_before : (b : Bool) (rank a c : ℕ) → (if b then min rank (min a c) else min a c) ≡ min (if b then min rank a else a) c
one_before true rank a c = omega arith
one_before false rank a c = refl

least_append : (name : List ℕ) (xs ys : List Offer) → least_rank name (xs ++ ys) ≡ min (least_rank name xs) (least_rank name ys)
unfolding least_rank
least_append name [] ys = let most = least_most name ys in omega arith
least_append name (o ∷ xs) ys =
    ap (λ r. if bytes_eq o.name name then min o.rank r else r) (least_append name xs ys)
    ∙ one_before (bytes_eq o.name name) o.rank (least_rank name xs) (least_rank name ys)

-- one number more of what is looked through
pub least_more : (name : List ℕ) (give : ℕ → List Offer) (i old found new : ℕ) → old ≡ least_rank name (flat_map give (range_with_len 0 i)) →
    found ≡ least_rank name (give i) → new ≡ min old found → new ≡ least_rank name (flat_map give (range_with_len 0 (i + 1)))
least_more name give i old found new before own is =
    let all = flat_map give (range_with_len 0 i) in
    is ∙ ap (λ k. min k found) before ∙ ap (min (least_rank name all)) own ∙ sym (least_append name all (give i))
    ∙ ap (least_rank name) (flat_step give i all (all ++ give i) refl refl)
