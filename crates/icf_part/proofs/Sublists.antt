-- Whether two items are folded is decided by trying each list that keeps some of all pairs.
use Rattle.std.proofs.Common.{◌≡◌, ℕ, ◌<◌, ◌&&◌, Bool, true, false, cond, Option, List, [], ◌∷◌, length, map, Contains, Decides, refl, inl, inr, ⊎_elim, filter, arith}
use Rattle.std.specs.List.{range_with_len}
use Rattle.std.proofs.lemmas.Bool.{and_from, and_parts}
use Rattle.std.proofs.lemmas.List.Elements.{All-contains, Contains-append_left, Contains-append_right, filter_passes}
use Rattle.lk_base.proofs.Membership.{any_from, in_filter, in_flat, in_map, in_range}
use Rattle.link_sections.specs.declared.targets.Target.{Target}
use Rattle.link_sections.specs.FoldItems.{FoldItem}
use Rattle.icf_part.specs.Folding.{AreFolded, ArePaired, Fits, IsCongruence, Matches, Pair, pair}
use Rattle.icf_part.specs.Leaders.{all_pairs, are_folded, has_pair, is_congruence, sublists}
use Rattle.icf_part.proofs.Deciding.{any_tells, congruence_Decides, has_pair_Decides}

-- what a test keeps of a list
one_kept : (b : Bool) (p : Pair) (ps kept : List Pair) → Contains (sublists ps) kept → Contains (sublists (p ∷ ps)) (cond b (p ∷ kept) kept)
one_kept true p ps kept has =
    let put : List Pair → List Pair = λ list. p ∷ list in
    Contains-append_right (sublists ps) (map put (sublists ps)) (p ∷ kept) (in_map put (sublists ps) kept has)
one_kept false p ps kept has =
    let put : List Pair → List Pair = λ list. p ∷ list in
    Contains-append_left (sublists ps) (map put (sublists ps)) kept has

kept_of : (test : Pair → Bool) (ps : List Pair) → Contains (sublists ps) (filter test ps)
kept_of test [] = (0, omega arith, refl)
kept_of test (p ∷ ps) = one_kept (test p) p ps (filter test ps) (kept_of test ps)

pub in_pairs : (n a b : ℕ) → a < n → b < n → Contains (all_pairs n) (pair a b)
in_pairs n a b la lb =
    let range = range_with_len 0 n in
    in_flat (λ k. map (pair k) range) range a (pair a b) (in_range n a la) (in_map (pair a) range b (in_range n b lb))

module _ (items : List FoldItem) (pairs more : List Pair) (all : (a b : ℕ) → Contains pairs (pair a b) → Contains more (pair a b)) where
  -- what fits by some pairs fits by more
  matches_by_more : (t u : Option Target) → Matches items pairs t u → Matches items more t u
  matches_by_more t u m = ⊎_elim
      (λ (same : t ≡ u). inl same)
      (λ (p : ArePaired items pairs t u). inr (record { a = p.a; b = p.b; offset = p.offset; rest = p.rest; listed = all p.a p.b p.listed; one = p.one; two = p.two }))
      m

  fits_by_more : (a b : ℕ) → Fits items pairs a b → Fits items more a b
  fits_by_more a b f = record { one = f.one; two = f.two; key = f.key; targets = λ k lt. matches_by_more _ _ (f.targets k lt) }

module _ (items : List FoldItem) (a b : ℕ) where
  folded_told : are_folded items a b ≡ true → AreFolded items a b
  unfolding are_folded
  folded_told e =
      let found = any_tells (λ pairs. is_congruence items pairs && has_pair pairs a b) (sublists (all_pairs (length items))) e in
      let both = and_parts (is_congruence items found.x) (has_pair found.x a b) found.passes in
      record { pairs = found.x; congruence = (congruence_Decides items found.x).0 both.0; listed = (has_pair_Decides found.x a b).0 both.1 }

  folded_found : AreFolded items a b → are_folded items a b ≡ true
  unfolding are_folded
  folded_found f =
      let pairs = f.pairs in
      let every = all_pairs (length items) in
      let test : Pair → Bool = λ p. has_pair pairs p.one p.two in
      let kept = filter test every in
      let has : (x y : ℕ) → Contains pairs (pair x y) → Contains kept (pair x y) = λ x y h.
      let fit = f.congruence.fits x y h in
      in_filter test every (pair x y) (in_pairs (length items) x y fit.one fit.two) ((has_pair_Decides pairs x y).1 h) in
      let from : (x y : ℕ) → Contains kept (pair x y) → Contains pairs (pair x y) = λ x y h.
      (has_pair_Decides pairs x y).0 (All-contains (λ p. test p ≡ true) kept (pair x y) (filter_passes test every) h) in
      let fitting : IsCongruence items kept = record { fits = λ x y h. fits_by_more items pairs kept has x y (f.congruence.fits x y (from x y h)) } in
      any_from (λ list. is_congruence items list && has_pair list a b) (sublists every) kept (kept_of test every)
      (and_from (is_congruence items kept) (has_pair kept a b) ((congruence_Decides items kept).1 fitting) ((has_pair_Decides kept a b).1 (has a b f.listed)))

  pub folded_Decides : Decides (are_folded items a b) (AreFolded items a b)
  folded_Decides = (folded_told, folded_found)
