-- When two targets are the same, and a number with its sign as numbers.
use Rattle.std.specs.Prelude.{ℕ, ◌==◌, ◌&&◌, ℤ, pos, negsuc, Bool, true, false, Option, Some, None, List, [], ◌∷◌}
use Rattle.std.specs.Ordering.{int_eq}
use Rattle.link_sections.specs.declared.targets.Target.{Target}
use Rattle.link_sections.specs.declared.targets.Target.TheVariants.{Section, Piece, Number, Zero, Linker, Unbound}

abbrev pub same_target : Option Target → Option Target → Bool
same_target None None = true
same_target (Some (Section s o r)) (Some (Section t p q)) = s == t && (o == p && int_eq r q)
same_target (Some (Piece s m o r)) (Some (Piece t n p q)) = s == t && (m == n && (o == p && int_eq r q))
same_target (Some (Number m)) (Some (Number n)) = m == n
same_target (Some Zero) (Some Zero) = true
same_target (Some (Linker m)) (Some (Linker n)) = m == n
same_target (Some Unbound) (Some Unbound) = true
same_target t u = false

abbrev pub signed_words : ℤ → List ℕ
signed_words (pos n) = 0 ∷ n ∷ []
signed_words (negsuc n) = 1 ∷ n ∷ []
