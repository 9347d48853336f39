-- Names and bytes of generated objects.
use Rattle.std.proofs.Common.{◌≡◌, ℕ, List, [], ◌∷◌, map, refl, ap}
use Rattle.std.specs.Global.{Global, Vec}
use Rattle.std.specs.Prelude.{string_bytes, String}
use Rattle.link_gen.specs.Generated.{objects_in}

-- names and bytes of generated objects
pub names_out : (list : List (String Global × Vec ℕ)) → map (λ o. string_bytes o.0) list ≡ map (λ o. o.0) (objects_in list)
names_out [] = refl
names_out (o ∷ os) = ap (λ (l : List (List ℕ)). string_bytes o.0 ∷ l) (names_out os)

pub bytes_out : (list : List (String Global × Vec ℕ)) → map (λ o. o.1.items) list ≡ map (λ o. o.1) (objects_in list)
bytes_out [] = refl
bytes_out (o ∷ os) = ap (λ (l : List (List ℕ)). o.1.items ∷ l) (bytes_out os)
