-- The relocations of two items of one key, side by side.
use Rattle.std.proofs.Common.{◌≡◌, ℕ, zero, suc, ◌<◌, Bool, true, false, ℤ, List, [], ◌∷◌, ◌++◌, length, map, flat_map, get_or, drop, refl, sym, ap, ◌∙◌, arith}
use Rattle.std.proofs.lemmas.List.{length-append, length-map, map-append}
use Rattle.link_sections.specs.declared.fold_items.FoldReloc.{FoldReloc}
use Rattle.link_sections.proofs.SameTargets.{signed_told, signed_wide, split_same}
use Rattle.icf_part.specs.Folding.{Site, site_of, no_reloc}
use Rattle.icf_part.specs.Signatures.{flag_of, reloc_places, rest_words_of, signed_words, site_words, target_words}
use Rattle.icf_part.proofs.Targets.{Agrees, item_count, target_wide}

-- what is the same of each two relocations is so of the lists
pub along : (g : FoldReloc → List ℕ) (rs qs : List FoldReloc) → map site_of rs ≡ map site_of qs →
    ((k : ℕ) → k < length rs → site_of (get_or rs k no_reloc) ≡ site_of (get_or qs k no_reloc) → g (get_or rs k no_reloc) ≡ g (get_or qs k no_reloc)) →
    flat_map g rs ≡ flat_map g qs
along g [] [] sites each = refl
along g [] (q ∷ qs) sites each = absurd cc
along g (r ∷ rs) [] sites each = absurd cc
along g (r ∷ rs) (q ∷ qs) sites each =
    let head : site_of r ≡ site_of q = cc in
    let tail : map site_of rs ≡ map site_of qs = cc in
    ap (λ l. l ++ flat_map g rs) (each 0 (omega arith) head)
    ∙ ap (λ l. g q ++ l) (along g rs qs tail (λ k lt. each (suc k) (omega arith)))

words_with : Site → List ℕ
words_with s = s.offset ∷ s.kind ∷ flag_of s.is_section_symbol ∷ signed_words s.addend

pub same_words : (r q : FoldReloc) → site_of r ≡ site_of q → site_words r ≡ site_words q
unfolding site_words words_with
same_words r q site = ap words_with site

-- the classes to which a list of relocations leads, relocation by relocation
pub spread : (f : ℕ → ℕ) (g : FoldReloc → List ℕ) (rs : List FoldReloc) → map f (flat_map g rs) ≡ flat_map (λ r. map f (g r)) rs
spread f g [] = refl
spread f g (r ∷ rs) = map-append f (g r) (flat_map g rs) ∙ ap (λ l. map f (g r) ++ l) (spread f g rs)

site_wide : (r : FoldReloc) → length (site_words r) ≡ 5
unfolding site_words
site_wide r = omega (arith, signed_wide r.addend)

flag_told : (a b : Bool) → flag_of a ≡ flag_of b → a ≡ b
flag_told true true e = refl
flag_told false false e = refl
flag_told true false e = absurd (omega arith)
flag_told false true e = absurd (omega arith)

site_from : (r q : FoldReloc) → r.offset ≡ q.offset → r.kind ≡ q.kind → r.addend ≡ q.addend → r.is_section_symbol ≡ q.is_section_symbol → site_of r ≡ site_of q
site_from r q offset kind addend flag =
    let make : ℕ → ℕ → ℤ → Bool → Site = λ o k z b. record { offset = o; kind = k; addend = z; is_section_symbol = b } in
    ap (λ o. make o r.kind r.addend r.is_section_symbol) offset ∙ ap (λ k. make q.offset k r.addend r.is_section_symbol) kind
    ∙ ap (λ z. make q.offset q.kind z r.is_section_symbol) addend ∙ ap (make q.offset q.kind q.addend) flag

site_told : (r q : FoldReloc) → site_words r ≡ site_words q → site_of r ≡ site_of q
unfolding site_words
site_told r q e =
    let offset : r.offset ≡ q.offset = ap (λ l. get_or l 0 0) e in
    let kind : r.kind ≡ q.kind = ap (λ l. get_or l 1 0) e in
    let flag : flag_of r.is_section_symbol ≡ flag_of q.is_section_symbol = ap (λ l. get_or l 2 0) e in
    let addend : signed_words r.addend ≡ signed_words q.addend = ap (drop 3) e in
    site_from r q offset kind (signed_told r.addend q.addend addend) (flag_told r.is_section_symbol q.is_section_symbol flag)

-- equal words are of equal sites
pub sites_told : (rs qs : List FoldReloc) → flat_map site_words rs ≡ flat_map site_words qs → map site_of rs ≡ map site_of qs
sites_told [] [] words = refl
sites_told [] (q ∷ qs) words = absurd (omega (arith, ap length words, length-append (site_words q) (flat_map site_words qs), site_wide q))
sites_told (r ∷ rs) [] words = absurd (omega (arith, ap length words, length-append (site_words r) (flat_map site_words rs), site_wide r))
sites_told (r ∷ rs) (q ∷ qs) words =
    let one = split_same (site_words r) (site_words q) (flat_map site_words rs) (flat_map site_words qs) (site_wide r ∙ sym (site_wide q)) words in
    ap (λ s. s ∷ map site_of rs) (site_told r q one.0) ∙ ap (λ l. site_of q ∷ l) (sites_told rs qs one.1)

places_wide : (f : ℕ → ℕ) (sections : List ℕ) (r q : FoldReloc) → target_words sections r.target ≡ target_words sections q.target →
    length (map f (reloc_places sections r)) ≡ length (map f (reloc_places sections q))
places_wide f sections r q e =
    length-map (reloc_places sections r) f ∙ item_count sections r.target ∙ ap (λ l. get_or l 4 0) e
    ∙ sym (length-map (reloc_places sections q) f ∙ item_count sections q.target)

each_alike : (sections c : List ℕ) (r q : FoldReloc) (rs qs : List FoldReloc) → Agrees sections c r.target q.target →
    ((k : ℕ) → k < length rs → Agrees sections c (get_or rs k no_reloc).target (get_or qs k no_reloc).target) →
    (k : ℕ) → k < length (r ∷ rs) → Agrees sections c (get_or (r ∷ rs) k no_reloc).target (get_or (q ∷ qs) k no_reloc).target
each_alike sections c r q rs qs first rest zero lt = first
each_alike sections c r q rs qs first rest (suc k) lt = rest k (omega arith)

-- relocations of equal targets, but for the items for which they stand, and that lead to equal classes
pub alike : (sections c : List ℕ) (rs qs : List FoldReloc) → map site_of rs ≡ map site_of qs → flat_map (rest_words_of sections) rs ≡ flat_map (rest_words_of sections) qs →
    flat_map (λ r. map (λ a. get_or c a 0) (reloc_places sections r)) rs ≡ flat_map (λ r. map (λ a. get_or c a 0) (reloc_places sections r)) qs →
    (k : ℕ) → k < length rs → Agrees sections c (get_or rs k no_reloc).target (get_or qs k no_reloc).target
alike sections c [] [] sites words places = λ k lt. absurd (omega arith)
alike sections c [] (q ∷ qs) sites words places = absurd cc
alike sections c (r ∷ rs) [] sites words places = absurd cc
alike sections c (r ∷ rs) (q ∷ qs) sites words places =
    let f : ℕ → ℕ = λ a. get_or c a 0 in
    let g : FoldReloc → List ℕ = λ s. map f (reloc_places sections s) in
    let w : FoldReloc → List ℕ = rest_words_of sections in
    let tail : map site_of rs ≡ map site_of qs = cc in
    let one = split_same (w r) (w q) (flat_map w rs) (flat_map w qs) (target_wide sections r.target ∙ sym (target_wide sections q.target)) words in
    let two = split_same (g r) (g q) (flat_map g rs) (flat_map g qs) (places_wide f sections r q one.0) places in
    each_alike sections c r q rs qs (record { words = one.0; places = two.0 }) (alike sections c rs qs tail one.1 two.1)
