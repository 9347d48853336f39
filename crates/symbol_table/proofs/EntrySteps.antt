-- Entries that a loop adds, those of one symbol after the other.
use Rattle.std.proofs.Common.{◌≡◌, ℕ, ◌+◌, List, ◌++◌, flat_map, refl, ap, ◌∙◌, append_assoc}
use Rattle.std.specs.List.{range_with_len}
use Rattle.lk_base.proofs.Loops.{flat_step}

pub more_entries : {X : Type 0} (give : ℕ → List X) (i : ℕ) (base old new own : List X) → old ≡ base ++ flat_map give (range_with_len 0 i) → new ≡ old ++ own → own ≡ give i →
    new ≡ base ++ flat_map give (range_with_len 0 (i + 1))
more_entries give i base old new own held is same =
    is ∙ ap (λ l. l ++ own) held ∙ append_assoc base (flat_map give (range_with_len 0 i)) own
    ∙ ap (λ l. base ++ (flat_map give (range_with_len 0 i) ++ l)) same
    ∙ ap (λ l. base ++ l) (flat_step give i (flat_map give (range_with_len 0 i)) (flat_map give (range_with_len 0 i) ++ give i) refl refl)
