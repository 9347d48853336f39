-- The leaders of items as a function of the items: the one list for which `AreLeaders` holds. Whether some congruence pairs two items is found
-- by trying each list of pairs, which says what is meant and is never run.
use Rattle.std.specs.Prelude.{ℕ, ◌==◌, ◌&&◌, ◌||◌, nat_lt, Bool, true, false, Option, Some, None, unwrap_or, bytes_eq, find, flat_map, map, length, List, [], ◌∷◌, ◌++◌}
use Rattle.std.specs.Bool.{beq}
use Rattle.std.specs.Cmp.Lexicographic.{pointwise}
use Rattle.std.specs.List.{list_all, list_any, range_with_len}
use Rattle.std.specs.Ordering.{int_eq}
use Rattle.link_sections.specs.declared.targets.Target.{Target}
use Rattle.link_sections.specs.declared.targets.Target.TheVariants.{Section, Piece, Number, Zero, Linker, Unbound}
pub use Rattle.link_sections.specs.SameTargets.{same_target}
use Rattle.link_sections.specs.FoldItems.{FoldFrame, FoldItem}
use Rattle.icf_part.specs.Folding.{Site, Key, Pair, item_at, key_of, pair, target_at}

-- two keys are equal
abbrev pub same_site : Site → Site → Bool
same_site s t = s.offset == t.offset && (s.kind == t.kind && (int_eq s.addend t.addend && beq s.is_section_symbol t.is_section_symbol))

abbrev pub same_frame : FoldFrame → FoldFrame → Bool
same_frame f g = bytes_eq f.bytes g.bytes && (bytes_eq f.cie g.cie && (f.offset == g.offset && (int_eq f.rest g.rest
    && (f.others == g.others && f.shared == g.shared))))

abbrev pub same_key : Key → Key → Bool
same_key i j = bytes_eq i.bytes j.bytes && (i.flags == j.flags && (i.sh_type == j.sh_type && (i.align == j.align
    && (bytes_eq i.output j.output && (i.own == j.own && (pointwise same_frame i.frames j.frames && pointwise same_site i.sites j.sites))))))

-- the one target is section s and the other section t, with one offset and one rest
abbrev pub are_bytes_of : (s t : ℕ) → Option Target → Option Target → Bool
are_bytes_of s t (Some (Section m offset rest)) u = m == s && same_target u (Some (Section t offset rest))
are_bytes_of s t v u = false

module _ (items : List FoldItem) (pairs : List Pair) where
  -- two targets are equal, or are the sections of a pair
  abbrev pub matches : Option Target → Option Target → Bool
  matches t u = same_target t u || list_any (λ p. are_bytes_of (item_at items p.one).section (item_at items p.two).section t u) pairs

  -- the items of a pair have equal keys, and targets that match
  abbrev pub fits : Pair → Bool
  fits p = nat_lt p.one (length items) && (nat_lt p.two (length items)
      && (same_key (key_of (item_at items p.one)) (key_of (item_at items p.two))
      && list_all (λ k. matches (target_at (item_at items p.one) k) (target_at (item_at items p.two) k)) (range_with_len 0 (length (item_at items p.one).relocs))))

  -- all pairs fit
  abbrev pub is_congruence : Bool
  is_congruence = list_all fits pairs

-- the list has the two
abbrev pub has_pair : List Pair → (a b : ℕ) → Bool
has_pair pairs a b = list_any (λ p. p.one == a && p.two == b) pairs

-- all pairs of n items, and all lists that keep some of a list's pairs
abbrev pub all_pairs : (n : ℕ) → List Pair
all_pairs n = flat_map (λ a. map (pair a) (range_with_len 0 n)) (range_with_len 0 n)

abbrev pub sublists : List Pair → List (List Pair)
sublists [] = [] ∷ []
sublists (p ∷ ps) = sublists ps ++ map (λ kept. p ∷ kept) (sublists ps)

-- some congruence has the two
unfoldable pub are_folded : List FoldItem → (a b : ℕ) → Bool
are_folded items a b = list_any (λ pairs. is_congruence items pairs && has_pair pairs a b) (sublists (all_pairs (length items)))

-- the least item that is a, or is folded with it
abbrev pub leader_in : List FoldItem → (a : ℕ) → ℕ
leader_in items a = unwrap_or (find (λ b. b == a || are_folded items b a) (range_with_len 0 (length items))) a

-- the leader of each item by its place
unfoldable pub leaders_of : List FoldItem → List ℕ
leaders_of items = map (leader_in items) (range_with_len 0 (length items))
