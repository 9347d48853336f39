-- What holds of each element of a list, and of its parts.
use Rattle.std.proofs.Common.{zero, suc, List, [], ◌∷◌, ◌++◌, length, refl, subst, arith, All}
use Rattle.std.proofs.lemmas.List.{length-append, length_push, get_or_append_left, get_or_at}

pub all_front : {X : Type 0} (P : X → Type 0) (xs ys : List X) → All P (xs ++ ys) → All P xs
all_front P xs ys each = λ k d before. subst P (get_or_append_left xs ys d k before) (each k d (rw length-append (omega arith)))

pub all_last : {X : Type 0} (P : X → Type 0) (xs : List X) (y : X) → All P (xs ++ y ∷ []) → P y
all_last P xs y each = subst P (get_or_at xs y [] y (length xs) refl) (each (length xs) y (rw length_push (omega arith)))

pub all_one : {X : Type 0} (P : X → Type 0) (x : X) → P x → All P (x ∷ [])
all_one P x holds zero d before = holds
all_one P x holds (suc k) d before = absurd (omega arith)

pub all_none : {X : Type 0} (P : X → Type 0) → All P []
all_none P k d before = absurd (omega arith)
