-- The order of lists: shorter ones first, and those of one length by the first place where they differ.
use Rattle.std.proofs.Common.{◌≡◌, ◌⊎◌, ℕ, ◌+◌, ◌<◌, ◌≤◌, List, [], ◌∷◌, ◌++◌, length, refl, sym, ap, ◌∙◌, subst, inl, inr, eq-or-lt_of_le, arith}
use Rattle.std.proofs.lemmas.List.{length-append, length_push}
use Rattle.why_chain.specs.ShortLists.{Before, ComesBefore, NotAfter}

-- it is transitive
comes_trans : (u v w : List ℕ) → ComesBefore u v → ComesBefore v w → ComesBefore u w
comes_trans [] v w p q = absurd p
comes_trans (x ∷ u) [] w p q = absurd p
comes_trans (x ∷ u) (y ∷ v) [] p q = absurd q
comes_trans (x ∷ u) (y ∷ v) (z ∷ w) (inl less) (inl more) = inl (omega arith)
comes_trans (x ∷ u) (y ∷ v) (z ∷ w) (inl less) (inr same) = inl (omega (arith, same.0))
comes_trans (x ∷ u) (y ∷ v) (z ∷ w) (inr same) (inl less) = inl (omega (arith, same.0))
comes_trans (x ∷ u) (y ∷ v) (z ∷ w) (inr p) (inr q) = inr (p.0 ∙ q.0, comes_trans u v w p.1 q.1)

before_trans : (u v w : List ℕ) → Before u v → Before v w → Before u w
before_trans u v w (inl less) (inl more) = inl (omega arith)
before_trans u v w (inl less) (inr same) = inl (omega (arith, same.0))
before_trans u v w (inr same) (inl less) = inl (omega (arith, same.0))
before_trans u v w (inr p) (inr q) = inr (p.0 ∙ q.0, comes_trans u v w p.1 q.1)

pub not_after_trans : (u v w : List ℕ) → NotAfter u v → NotAfter v w → NotAfter u w
not_after_trans u v w (inl same) q = subst (λ (k : List ℕ). NotAfter k w) (sym same) q
not_after_trans u v w (inr p) (inl same) = subst (λ (k : List ℕ). NotAfter u k) same (inr p)
not_after_trans u v w (inr p) (inr q) = inr (before_trans u v w p q)

-- and goes through one number more at the end
comes_push : (u v : List ℕ) (a b : ℕ) → ComesBefore u v → ComesBefore (u ++ a ∷ []) (v ++ b ∷ [])
comes_push [] v a b p = absurd p
comes_push (x ∷ u) [] a b p = absurd p
comes_push (x ∷ u) (y ∷ v) a b (inl less) = inl less
comes_push (x ∷ u) (y ∷ v) a b (inr p) = inr (p.0, comes_push u v a b p.1)

comes_last : (u : List ℕ) (a b : ℕ) → a < b → ComesBefore (u ++ a ∷ []) (u ++ b ∷ [])
comes_last [] a b less = inl less
comes_last (x ∷ u) a b less = inr (refl, comes_last u a b less)

pub before_push : (u v : List ℕ) (a b : ℕ) → Before u v → Before (u ++ a ∷ []) (v ++ b ∷ [])
before_push u v a b (inl less) = inl (omega (arith, length_push u a, length_push v b))
before_push u v a b (inr p) = inr (length_push u a ∙ ap (λ n. n + 1) p.0 ∙ sym (length_push v b), comes_push u v a b p.1)

pub not_after_push : (u v : List ℕ) (k : ℕ) → NotAfter u v → NotAfter (u ++ k ∷ []) (v ++ k ∷ [])
not_after_push u v k (inl same) = inl (ap (λ (l : List ℕ). l ++ k ∷ []) same)
not_after_push u v k (inr p) = inr (before_push u v k k p)

pub before_last : (u : List ℕ) (a b : ℕ) → a < b → Before (u ++ a ∷ []) (u ++ b ∷ [])
before_last u a b less = inr (length_push u a ∙ sym (length_push u b), comes_last u a b less)

pub not_after_last : (u : List ℕ) (a b : ℕ) → a ≤ b → NotAfter (u ++ a ∷ []) (u ++ b ∷ [])
not_after_last u a b le = elim (eq-or-lt_of_le le) [
  | inl same ↦ inl (ap (λ k. u ++ k ∷ []) same)
  | inr less ↦ inr (before_last u a b less)
]

-- a list stands before what it begins
pub longer_after : (u : List ℕ) (k : ℕ) (w : List ℕ) → Before u (u ++ k ∷ w)
longer_after u k w = let more : length (k ∷ w) ≡ length w + 1 = omega arith in inl (omega (arith, length-append u (k ∷ w)))

-- more numbers at the ends leave what comes before
pub comes_append : (u v a b : List ℕ) → ComesBefore u v → ComesBefore (u ++ a) (v ++ b)
comes_append [] v a b p = absurd p
comes_append (x ∷ u) [] a b p = absurd p
comes_append (x ∷ u) (y ∷ v) a b (inl less) = inl less
comes_append (x ∷ u) (y ∷ v) a b (inr p) = inr (p.0, comes_append u v a b p.1)

pub comes_behind : (u a b : List ℕ) → ComesBefore a b → ComesBefore (u ++ a) (u ++ b)
comes_behind [] a b p = p
comes_behind (x ∷ u) a b p = inr (refl, comes_behind u a b p)

-- what is not after another is no longer, and of one length comes before it or is it
pub no_longer : (u v : List ℕ) → NotAfter u v → length u ≤ length v
no_longer u v (inl same) = omega (arith, ap length same)
no_longer u v (inr (inl less)) = omega arith
no_longer u v (inr (inr p)) = omega (arith, p.0)

pub comes_or_same : (u v : List ℕ) → NotAfter u v → length v ≡ length u → (v ≡ u) ⊎ ComesBefore u v
comes_or_same u v (inl same) wide = inl (sym same)
comes_or_same u v (inr (inl less)) wide = absurd (omega arith)
comes_or_same u v (inr (inr p)) wide = inr p.1
