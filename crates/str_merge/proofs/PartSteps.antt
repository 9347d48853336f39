-- The parts of several sections, one section after the other.
use Rattle.std.proofs.Common.{◌≡◌, ℕ, suc, ◌+◌, ◌-◌, ◌<◌, ◌≤◌, List, [], ◌∷◌, ◌++◌, length, map, get_or, take, drop, refl, sym, ap, ◌∙◌, arith, append_assoc}
use Rattle.std.specs.Prelude.{flat_map}
use Rattle.std.proofs.Math.Seq.{drop-append_seam, drop-cons, take-append_seam}
use Rattle.std.proofs.lemmas.List.{append-nil, drop-drop, drop_all, length-map, map-append}
use Rattle.link_sections.specs.declared.pieces.Part.{Part}
use Rattle.str_merge.specs.Parts.{lists_at, part_lists, parts_by}

lists_from : {X : Type 0} (lists : List (List X)) (places : List ℕ) (n : ℕ) → n < length places →
    lists_at lists (drop n places) ≡ get_or lists (get_or places n 0) [] ∷ lists_at lists (drop (n + 1) places)
lists_from lists places n lt =
    let one : suc n ≡ n + 1 = omega arith in
    ap (lists_at lists) (drop-cons places n 0 lt) ∙ ap (λ k. get_or lists (get_or places n 0) [] ∷ lists_at lists (drop k places)) one

-- one section more
pub lists_next : (lists : List (List (List ℕ))) (places : List ℕ) (n at end : ℕ) (own : List (List ℕ)) (ranks : List ℕ) (old new whole : List (List Part)) (row : List Part) →
    n < length places → own ≡ get_or lists (get_or places n 0) [] → end ≡ at + length own →
    old ++ part_lists (lists_at lists (drop n places)) (drop at ranks) ≡ whole →
    new ≡ old ++ row ∷ [] → row ≡ parts_by 0 own (take (end - at) (drop at ranks)) →
    new ++ part_lists (lists_at lists (drop (n + 1) places)) (drop end ranks) ≡ whole
lists_next lists places n at end own ranks old new whole row lt is to held added row_is =
    let rest = lists_at lists (drop (n + 1) places) in
    let k = length own in
    let less : end - at ≡ k = omega (arith, to) in
    let here = parts_by 0 own (take k (drop at ranks)) in
    ap (λ l. l ++ part_lists rest (drop end ranks)) added
    ∙ append_assoc old (row ∷ []) (part_lists rest (drop end ranks))
    ∙ ap (λ r. old ++ (r ∷ part_lists rest (drop end ranks))) (row_is ∙ ap (λ m. parts_by 0 own (take m (drop at ranks))) less)
    ∙ ap (λ e. old ++ (here ∷ part_lists rest (drop e ranks))) to
    ∙ ap (λ l. old ++ (here ∷ part_lists rest l)) (sym (drop-drop k at ranks))
    ∙ ap (λ l. old ++ part_lists l (drop at ranks)) (sym (lists_from lists places n lt ∙ ap (λ l. l ∷ rest) (sym is)))
    ∙ held

-- and all
pub lists_all : (lists : List (List (List ℕ))) (places : List ℕ) (n : ℕ) (ranks : List ℕ) (rows whole : List (List Part)) → length places ≤ n →
    rows ++ part_lists (lists_at lists (drop n places)) ranks ≡ whole → rows ≡ whole
lists_all lists places n ranks rows whole le held =
    sym (append-nil rows) ∙ ap (λ l. rows ++ part_lists (lists_at lists l) ranks) (sym (drop_all n places le)) ∙ held

-- the parts of each section, if the numbers of its pieces are known
pub lists_known : (pieces : ℕ → List (List ℕ)) (known : List ℕ → ℕ) (members : List ℕ) →
    part_lists (map pieces members) (map known (flat_map pieces members)) ≡ map (λ m. parts_by 0 (pieces m) (map known (pieces m))) members
lists_known pieces known [] = refl
lists_known pieces known (m ∷ members) =
    let own = pieces m in
    let rest = flat_map pieces members in
    let lists = map pieces members in
    let long : length own ≡ length (map known own) = sym (length-map own known) in
    ap (λ l. parts_by 0 own (take (length own) l) ∷ part_lists lists (drop (length own) l)) (map-append known own rest)
    ∙ ap (λ k. parts_by 0 own (take k (map known own ++ map known rest)) ∷ part_lists lists (drop k (map known own ++ map known rest))) long
    ∙ ap (λ l. parts_by 0 own l ∷ part_lists lists (drop (length (map known own)) (map known own ++ map known rest))) (take-append_seam (map known own) (map known rest))
    ∙ ap (λ l. parts_by 0 own (map known own) ∷ part_lists lists l) (drop-append_seam (map known own) (map known rest))
    ∙ ap (λ l. parts_by 0 own (map known own) ∷ l) (lists_known pieces known members)
