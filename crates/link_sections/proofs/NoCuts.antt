-- All rows together have no items where each is empty, and only there.
use Rattle.std.proofs.Common.{◌≡◌, ℕ, zero, suc, List, [], ◌∷◌, length, flat_map, get_or, refl, ap₂, ◌++◌, arith}
use Rattle.std.proofs.lemmas.List.{length-append, nil_from_length}

pub no_items : {X : Type 0} (rows : List (List X)) (n : ℕ) → length (flat_map (λ row. row) rows) ≡ 0 → get_or rows n [] ≡ []
no_items [] n none = refl
no_items (r ∷ rs) zero none = nil_from_length r (omega (arith, none, length-append r (flat_map (λ row. row) rs)))
no_items (r ∷ rs) (suc n) none = no_items rs n (omega (arith, none, length-append r (flat_map (λ row. row) rs)))

pub none_together : {X : Type 0} (rows : List (List X)) → ((n : ℕ) → get_or rows n [] ≡ []) → flat_map (λ row. row) rows ≡ []
none_together [] each = refl
none_together (r ∷ rs) each = ap₂ ◌++◌ (each 0) (none_together rs (λ n. each (suc n)))
