-- Equal targets, and those that are paired: what is compared of them is equal, and the other way round.
use Rattle.std.proofs.Common.{◌≡◌, ℕ, ◌<◌, ℤ, pos, negsuc, Option, Some, None, List, [], ◌∷◌, ◌++◌, length, map, get_or, drop, Contains, refl, sym, ap, ◌∙◌, ⊎_elim, inl, inr, arith}
use Rattle.std.specs.List.Sorted.{IsStrictlyIncreasing}
use Rattle.std.proofs.lemmas.List.{get_or-map, length-append, length-map}
use Rattle.link_sections.specs.declared.targets.Target.{Target}
use Rattle.link_sections.specs.declared.targets.Target.TheVariants.{Section, Piece, Number, Zero, Linker, Unbound}
use Rattle.link_sections.specs.FoldItems.{FoldItem, section_of, sections_of}
use Rattle.link_sections.proofs.SameTargets.{signed_told, signed_wide, split_same}
use Rattle.icf_part.specs.Folding.{Pair, pair, ArePaired, Matches, classes, item_at, no_item}
use Rattle.icf_part.specs.Signatures.{place_list, place_of, place_words, signed_words, target_places, target_words}
use Rattle.icf_part.proofs.Paired.{classes_have}
use Rattle.icf_part.proofs.SectionPlaces.{placed, place_tells}

pub section_at : (items : List FoldItem) (a : ℕ) → a < length items → get_or (sections_of items) a 0 ≡ (item_at items a).section
unfolding sections_of
section_at items a lt = get_or-map section_of items a no_item 0 lt

pub sections_wide : (items : List FoldItem) → length (sections_of items) ≡ length items
unfolding sections_of
sections_wide items = length-map items section_of

-- a section that is an item
known_words : (sections : List ℕ) (s o : ℕ) (r : ℤ) (a : ℕ) → place_of sections s ≡ Some a → target_words sections (Some (Section s o r)) ≡ 5 ∷ o ∷ (signed_words r ++ 1 ∷ 0 ∷ 0 ∷ [])
known_words sections s o r a e = ap (λ p. 5 ∷ o ∷ (signed_words r ++ place_words p s)) e

known_places : (sections : List ℕ) (s o : ℕ) (r : ℤ) (a : ℕ) → place_of sections s ≡ Some a → target_places sections (Some (Section s o r)) ≡ a ∷ []
known_places sections s o r a e = ap place_list e

module _ (items : List FoldItem) (order : IsStrictlyIncreasing (sections_of items)) where
  own_place : (a : ℕ) → a < length items → place_of (sections_of items) (item_at items a).section ≡ Some a
  own_place a lt = placed (sections_of items) order a (item_at items a).section (omega (arith, lt, sections_wide items)) (section_at items a lt)

  -- matching targets have equal words
  pub matched_words : (pairs : List Pair) → ((a b : ℕ) → Contains pairs (pair a b) → (a < length items) × (b < length items)) →
      (t u : Option Target) → Matches items pairs t u → target_words (sections_of items) t ≡ target_words (sections_of items) u
  matched_words pairs inside t u m =
      let secs = sections_of items in
      ⊎_elim
      (λ (same : t ≡ u). ap (target_words secs) same)
      (λ (p : ArePaired items pairs t u).
      let two = inside p.a p.b p.listed in
      ap (target_words secs) p.one ∙ known_words secs (item_at items p.a).section p.offset p.rest p.a (own_place p.a two.0)
      ∙ sym (ap (target_words secs) p.two ∙ known_words secs (item_at items p.b).section p.offset p.rest p.b (own_place p.b two.1)))
      m

  -- and lead to equal classes, where these hold the pairs
  pub matched_places : (pairs : List Pair) (c : List ℕ) → ((a b : ℕ) → Contains pairs (pair a b) → (a < length items) × (b < length items)) →
      ((a b : ℕ) → Contains pairs (pair a b) → get_or c a 0 ≡ get_or c b 0) →
      (t u : Option Target) → Matches items pairs t u → map (λ a. get_or c a 0) (target_places (sections_of items) t) ≡ map (λ a. get_or c a 0) (target_places (sections_of items) u)
  matched_places pairs c inside holds t u m =
      let secs = sections_of items in
      let at : ℕ → ℕ = λ a. get_or c a 0 in
      ⊎_elim
      (λ (same : t ≡ u). ap (λ v. map at (target_places secs v)) same)
      (λ (p : ArePaired items pairs t u).
      let two = inside p.a p.b p.listed in
      ap (λ v. map at (target_places secs v)) p.one ∙ ap (map at) (known_places secs (item_at items p.a).section p.offset p.rest p.a (own_place p.a two.0))
      ∙ ap (λ k. k ∷ []) (holds p.a p.b p.listed)
      ∙ sym (ap (λ v. map at (target_places secs v)) p.two ∙ ap (map at) (known_places secs (item_at items p.b).section p.offset p.rest p.b (own_place p.b two.1))))
      m

-- equal words
tail_wide : (sections : List ℕ) (p : Option ℕ) (s : ℕ) (r : ℤ) → length (signed_words r ++ place_words p s) ≡ 5
tail_wide sections None s r = omega (arith, length-append (signed_words r) (place_words None s), signed_wide r)
tail_wide sections (Some a) s r = omega (arith, length-append (signed_words r) (place_words (Some a) s), signed_wide r)

pub target_wide : (sections : List ℕ) (t : Option Target) → length (target_words sections t) ≡ 7
target_wide sections None = refl
target_wide sections (Some (Number n)) = refl
target_wide sections (Some Zero) = refl
target_wide sections (Some (Linker n)) = refl
target_wide sections (Some Unbound) = refl
target_wide sections (Some (Section s o r)) = omega (arith, tail_wide sections (place_of sections s) s r)
target_wide sections (Some (Piece m k o r)) = omega (arith, length-append (signed_words r) (0 ∷ m ∷ k ∷ []), signed_wide r)

-- whether a target is an item
tail_item : (p : Option ℕ) (s : ℕ) (r : ℤ) → length (place_list p) ≡ get_or (signed_words r ++ place_words p s) 2 0
tail_item None s (pos n) = refl
tail_item None s (negsuc n) = refl
tail_item (Some a) s (pos n) = refl
tail_item (Some a) s (negsuc n) = refl

pub item_count : (sections : List ℕ) (t : Option Target) → length (target_places sections t) ≡ get_or (target_words sections t) 4 0
item_count sections None = refl
item_count sections (Some (Number n)) = refl
item_count sections (Some Zero) = refl
item_count sections (Some (Linker n)) = refl
item_count sections (Some Unbound) = refl
item_count sections (Some (Section s o r)) = tail_item (place_of sections s) s r
item_count sections (Some (Piece m k o (pos n))) = refl
item_count sections (Some (Piece m k o (negsuc n))) = refl

-- equal words, and equal classes where both are items
pub record Agrees (sections c : List ℕ) (t u : Option Target) : Type 0 where
  pub words : target_words sections t ≡ target_words sections u
  pub places : map (λ a. get_or c a 0) (target_places sections t) ≡ map (λ a. get_or c a 0) (target_places sections u)

module _ (items : List FoldItem) (c : List ℕ) (wide : length c ≡ length items) where
  same_section : (s o : ℕ) (r : ℤ) (t p : ℕ) (q : ℤ) → s ≡ t → o ≡ p → r ≡ q → Some (Section s o r) ≡ Some (Section t p q)
  same_section s o r t p q e f h = cc

  of_places : (s o : ℕ) (r : ℤ) (t p : ℕ) (q : ℤ) (x y : Option ℕ) → place_of (sections_of items) s ≡ x → place_of (sections_of items) t ≡ y →
      o ≡ p → r ≡ q → place_words x s ≡ place_words y t → map (λ a. get_or c a 0) (place_list x) ≡ map (λ a. get_or c a 0) (place_list y) →
      Matches items (classes c) (Some (Section s o r)) (Some (Section t p q))
  of_places s o r t p q None None ex ey eo er words places = let same : s ≡ t = cc in inl (same_section s o r t p q same eo er)
  of_places s o r t p q None (Some b) ex ey eo er words places = absurd (omega (arith, ap (λ l. get_or l 0 0) words))
  of_places s o r t p q (Some a) None ex ey eo er words places = absurd (omega (arith, ap (λ l. get_or l 0 0) words))
  of_places s o r t p q (Some a) (Some b) ex ey eo er words places =
      let la = place_tells (sections_of items) s a ex in
      let lb = place_tells (sections_of items) t b ey in
      let na : a < length items = omega (arith, la.within, sections_wide items) in
      let nb : b < length items = omega (arith, lb.within, sections_wide items) in
      let is_a : s ≡ (item_at items a).section = sym la.is ∙ section_at items a na in
      let is_b : t ≡ (item_at items b).section = sym lb.is ∙ section_at items b nb in
      let same : get_or c a 0 ≡ get_or c b 0 = ap (λ l. get_or l 0 0) places in
      inr (record {
        a = a;
        b = b;
        offset = o;
        rest = r;
        listed = classes_have c a b (omega (arith, na, wide)) (omega (arith, nb, wide)) same;
        one = same_section s o r (item_at items a).section o r is_a refl refl;
        two = same_section t p q (item_at items b).section o r is_b (sym eo) (sym er);
      })

  of_sections : (s o : ℕ) (r : ℤ) (t p : ℕ) (q : ℤ) (x y : Option ℕ) → place_of (sections_of items) s ≡ x → place_of (sections_of items) t ≡ y →
      o ≡ p → signed_words r ++ place_words x s ≡ signed_words q ++ place_words y t →
      map (λ a. get_or c a 0) (place_list x) ≡ map (λ a. get_or c a 0) (place_list y) →
      Matches items (classes c) (Some (Section s o r)) (Some (Section t p q))
  of_sections s o r t p q x y ex ey eo words places =
      let both = split_same (signed_words r) (signed_words q) (place_words x s) (place_words y t) (signed_wide r ∙ sym (signed_wide q)) words in
      let er = signed_told r q both.0 in
      of_places s o r t p q x y ex ey eo er both.1 places

  same_piece : (m k o : ℕ) (r : ℤ) (n l p : ℕ) (q : ℤ) → m ≡ n → k ≡ l → o ≡ p → r ≡ q → Some (Piece m k o r) ≡ Some (Piece n l p q)
  same_piece m k o r n l p q e f g h = cc

  pub agrees_matched : (t u : Option Target) → Agrees (sections_of items) c t u → Matches items (classes c) t u
  agrees_matched None None e = inl refl
  agrees_matched None (Some (Number n)) e = absurd (omega (arith, ap (λ l. get_or l 0 0) e.words))
  agrees_matched None (Some Zero) e = absurd (omega (arith, ap (λ l. get_or l 0 0) e.words))
  agrees_matched None (Some (Linker n)) e = absurd (omega (arith, ap (λ l. get_or l 0 0) e.words))
  agrees_matched None (Some Unbound) e = absurd (omega (arith, ap (λ l. get_or l 0 0) e.words))
  agrees_matched None (Some (Section s2 o2 r2)) e = absurd (omega (arith, ap (λ l. get_or l 0 0) e.words))
  agrees_matched None (Some (Piece n k2 o2 r2)) e = absurd (omega (arith, ap (λ l. get_or l 0 0) e.words))
  agrees_matched (Some (Number m)) None e = absurd (omega (arith, ap (λ l. get_or l 0 0) e.words))
  agrees_matched (Some (Number m)) (Some (Number n)) e = inl (ap (λ k. Some (Number k)) (ap (λ l. get_or l 1 0) e.words))
  agrees_matched (Some (Number m)) (Some Zero) e = absurd (omega (arith, ap (λ l. get_or l 0 0) e.words))
  agrees_matched (Some (Number m)) (Some (Linker n)) e = absurd (omega (arith, ap (λ l. get_or l 0 0) e.words))
  agrees_matched (Some (Number m)) (Some Unbound) e = absurd (omega (arith, ap (λ l. get_or l 0 0) e.words))
  agrees_matched (Some (Number m)) (Some (Section s2 o2 r2)) e = absurd (omega (arith, ap (λ l. get_or l 0 0) e.words))
  agrees_matched (Some (Number m)) (Some (Piece n k2 o2 r2)) e = absurd (omega (arith, ap (λ l. get_or l 0 0) e.words))
  agrees_matched (Some Zero) None e = absurd (omega (arith, ap (λ l. get_or l 0 0) e.words))
  agrees_matched (Some Zero) (Some (Number n)) e = absurd (omega (arith, ap (λ l. get_or l 0 0) e.words))
  agrees_matched (Some Zero) (Some Zero) e = inl refl
  agrees_matched (Some Zero) (Some (Linker n)) e = absurd (omega (arith, ap (λ l. get_or l 0 0) e.words))
  agrees_matched (Some Zero) (Some Unbound) e = absurd (omega (arith, ap (λ l. get_or l 0 0) e.words))
  agrees_matched (Some Zero) (Some (Section s2 o2 r2)) e = absurd (omega (arith, ap (λ l. get_or l 0 0) e.words))
  agrees_matched (Some Zero) (Some (Piece n k2 o2 r2)) e = absurd (omega (arith, ap (λ l. get_or l 0 0) e.words))
  agrees_matched (Some (Linker m)) None e = absurd (omega (arith, ap (λ l. get_or l 0 0) e.words))
  agrees_matched (Some (Linker m)) (Some (Number n)) e = absurd (omega (arith, ap (λ l. get_or l 0 0) e.words))
  agrees_matched (Some (Linker m)) (Some Zero) e = absurd (omega (arith, ap (λ l. get_or l 0 0) e.words))
  agrees_matched (Some (Linker m)) (Some (Linker n)) e = inl (ap (λ k. Some (Linker k)) (ap (λ l. get_or l 1 0) e.words))
  agrees_matched (Some (Linker m)) (Some Unbound) e = absurd (omega (arith, ap (λ l. get_or l 0 0) e.words))
  agrees_matched (Some (Linker m)) (Some (Section s2 o2 r2)) e = absurd (omega (arith, ap (λ l. get_or l 0 0) e.words))
  agrees_matched (Some (Linker m)) (Some (Piece n k2 o2 r2)) e = absurd (omega (arith, ap (λ l. get_or l 0 0) e.words))
  agrees_matched (Some Unbound) None e = absurd (omega (arith, ap (λ l. get_or l 0 0) e.words))
  agrees_matched (Some Unbound) (Some (Number n)) e = absurd (omega (arith, ap (λ l. get_or l 0 0) e.words))
  agrees_matched (Some Unbound) (Some Zero) e = absurd (omega (arith, ap (λ l. get_or l 0 0) e.words))
  agrees_matched (Some Unbound) (Some (Linker n)) e = absurd (omega (arith, ap (λ l. get_or l 0 0) e.words))
  agrees_matched (Some Unbound) (Some Unbound) e = inl refl
  agrees_matched (Some Unbound) (Some (Section s2 o2 r2)) e = absurd (omega (arith, ap (λ l. get_or l 0 0) e.words))
  agrees_matched (Some Unbound) (Some (Piece n k2 o2 r2)) e = absurd (omega (arith, ap (λ l. get_or l 0 0) e.words))
  agrees_matched (Some (Section s o r)) None e = absurd (omega (arith, ap (λ l. get_or l 0 0) e.words))
  agrees_matched (Some (Section s o r)) (Some (Number n)) e = absurd (omega (arith, ap (λ l. get_or l 0 0) e.words))
  agrees_matched (Some (Section s o r)) (Some Zero) e = absurd (omega (arith, ap (λ l. get_or l 0 0) e.words))
  agrees_matched (Some (Section s o r)) (Some (Linker n)) e = absurd (omega (arith, ap (λ l. get_or l 0 0) e.words))
  agrees_matched (Some (Section s o r)) (Some Unbound) e = absurd (omega (arith, ap (λ l. get_or l 0 0) e.words))
  agrees_matched (Some (Section s o r)) (Some (Section s2 o2 r2)) e =
      let words = e.words in
      of_sections s o r s2 o2 r2 (place_of (sections_of items) s) (place_of (sections_of items) s2) refl refl (ap (λ l. get_or l 1 0) words) (ap (drop 2) words) e.places
  agrees_matched (Some (Section s o r)) (Some (Piece n k2 o2 r2)) e = absurd (omega (arith, ap (λ l. get_or l 0 0) e.words))
  agrees_matched (Some (Piece m k o r)) None e = absurd (omega (arith, ap (λ l. get_or l 0 0) e.words))
  agrees_matched (Some (Piece m k o r)) (Some (Number n)) e = absurd (omega (arith, ap (λ l. get_or l 0 0) e.words))
  agrees_matched (Some (Piece m k o r)) (Some Zero) e = absurd (omega (arith, ap (λ l. get_or l 0 0) e.words))
  agrees_matched (Some (Piece m k o r)) (Some (Linker n)) e = absurd (omega (arith, ap (λ l. get_or l 0 0) e.words))
  agrees_matched (Some (Piece m k o r)) (Some Unbound) e = absurd (omega (arith, ap (λ l. get_or l 0 0) e.words))
  agrees_matched (Some (Piece m k o r)) (Some (Section s2 o2 r2)) e = absurd (omega (arith, ap (λ l. get_or l 0 0) e.words))
  agrees_matched (Some (Piece m k o r)) (Some (Piece n k2 o2 r2)) e =
      let words = e.words in
      let both = split_same (signed_words r) (signed_words r2) (0 ∷ m ∷ k ∷ []) (0 ∷ n ∷ k2 ∷ []) (signed_wide r ∙ sym (signed_wide r2)) (ap (drop 2) words) in
      inl (same_piece m k o r n k2 o2 r2 (ap (λ l. get_or l 1 0) both.1) (ap (λ l. get_or l 2 0) both.1) (ap (λ l. get_or l 1 0) words) (signed_told r r2 both.0))
