-- The test of targets decides whether they are the same, and a number with its sign and the parts of a list are told by their words.
use Rattle.std.proofs.Common.{◌≡◌, ℕ, ◌==◌, ◌&&◌, ℤ, true, true≢false, Option, Some, None, Decides, refl, sym, ap, subst, int_eq, pos, negsuc, length, get_or, arith, List, [], ◌∷◌, ◌++◌}
use Rattle.std.proofs.lemmas.Bool.Decides.{Decides-and, Decides-eqb, Decides-int_eq}
use Rattle.link_sections.specs.declared.targets.Target.{Target}
use Rattle.link_sections.specs.declared.targets.Target.TheVariants.{Section, Piece, Number, Zero, Linker, Unbound}
use Rattle.link_sections.specs.SameTargets.{same_target, signed_words}

section_parts : (s o : ℕ) (r : ℤ) (t p : ℕ) (q : ℤ) → Decides (s == t && (o == p && int_eq r q)) ((s ≡ t) × ((o ≡ p) × (r ≡ q)))
section_parts s o r t p q = Decides-and (s == t) (o == p && int_eq r q) (Decides-eqb s t) (Decides-and (o == p) (int_eq r q) (Decides-eqb o p) (Decides-int_eq r q))

piece_parts : (s m o : ℕ) (r : ℤ) (t n p : ℕ) (q : ℤ) → Decides (s == t && (m == n && (o == p && int_eq r q))) ((s ≡ t) × ((m ≡ n) × ((o ≡ p) × (r ≡ q))))
piece_parts s m o r t n p q = Decides-and (s == t) (m == n && (o == p && int_eq r q)) (Decides-eqb s t) (section_parts m o r n p q)

pub one_section : (s o : ℕ) (r : ℤ) (t p : ℕ) (q : ℤ) → s ≡ t → o ≡ p → r ≡ q → Some (Section s o r) ≡ Some (Section t p q)
one_section s o r t p q e f h = cc

pub one_piece : (s m o : ℕ) (r : ℤ) (t n p : ℕ) (q : ℤ) → s ≡ t → m ≡ n → o ≡ p → r ≡ q → Some (Piece s m o r) ≡ Some (Piece t n p q)
one_piece s m o r t n p q e f g h = cc

pub target_told : (t u : Option Target) → same_target t u ≡ true → t ≡ u
target_told None None e = refl
target_told (Some (Section s o r)) (Some (Section t p q)) e =
    let parts = (section_parts s o r t p q).0 e in
    one_section s o r t p q parts.0 parts.1.0 parts.1.1
target_told (Some (Piece s m o r)) (Some (Piece t n p q)) e =
    let parts = (piece_parts s m o r t n p q).0 e in
    one_piece s m o r t n p q parts.0 parts.1.0 parts.1.1.0 parts.1.1.1
target_told (Some (Number m)) (Some (Number n)) e = ap (λ k. Some (Number k)) ((Decides-eqb m n).0 e)
target_told (Some Zero) (Some Zero) e = refl
target_told (Some (Linker m)) (Some (Linker n)) e = ap (λ k. Some (Linker k)) ((Decides-eqb m n).0 e)
target_told (Some Unbound) (Some Unbound) e = refl
target_told t u e = absurd (true≢false (sym e))

target_own : (t : Option Target) → same_target t t ≡ true
target_own None = refl
target_own (Some (Section s o r)) = (section_parts s o r s o r).1 (refl, (refl, refl))
target_own (Some (Piece s m o r)) = (piece_parts s m o r s m o r).1 (refl, (refl, (refl, refl)))
target_own (Some (Number m)) = (Decides-eqb m m).1 refl
target_own (Some Zero) = refl
target_own (Some (Linker m)) = (Decides-eqb m m).1 refl
target_own (Some Unbound) = refl

pub target_Decides : (t u : Option Target) → Decides (same_target t u) (t ≡ u)
target_Decides t u = (target_told t u, λ e. let P : Option Target → Type 0 = λ v. same_target t v ≡ true in subst P e (target_own t))

pub signed_wide : (z : ℤ) → length (signed_words z) ≡ 2
signed_wide (pos n) = refl
signed_wide (negsuc n) = refl

pub signed_told : (y z : ℤ) → signed_words y ≡ signed_words z → y ≡ z
signed_told (pos m) (pos n) e = let same : m ≡ n = cc in ap pos same
signed_told (negsuc m) (negsuc n) e = let same : m ≡ n = cc in ap negsuc same
signed_told (pos m) (negsuc n) e = absurd (omega (arith, ap (λ l. get_or l 0 0) e))
signed_told (negsuc m) (pos n) e = absurd (omega (arith, ap (λ l. get_or l 0 0) e))

-- two lists of equal first parts
pub split_same : {X : Type 0} (a b x y : List X) → length a ≡ length b → a ++ x ≡ b ++ y → (a ≡ b) × (x ≡ y)
split_same [] [] x y len e = (refl, e)
split_same [] (q ∷ b) x y len e = absurd (omega arith)
split_same (p ∷ a) [] x y len e = absurd (omega arith)
split_same (p ∷ a) (q ∷ b) x y len e =
    let head : p ≡ q = cc in
    let tail : a ++ x ≡ b ++ y = cc in
    let rest = split_same a b x y (omega arith) tail in
    (cc (rest.0, head), rest.1)
