-- Lists of names and of contents.
use Rattle.std.proofs.Common.{◌≡◌, ℕ, ◌+◌, ◌<◌, ◌≤◌, List, [], ◌∷◌, ◌++◌, length, map, take, get_or, refl, sym, ◌∙◌, ap, subst, arith, Some, None, Option}
use Rattle.std.proofs.lemmas.List.{take_more, map-append, length_push, get_or-map, length-map, length-take, get_or-take, take-take}
use Rattle.std.specs.Option.{IfSome, IsSomeAnd, unwrap_or}
use Rattle.std.specs.FinMap.{get}
use Rattle.lk_depot.specs.Files.{Files}
use Rattle.lk_depot.specs.Loading.{AreContents, HaveContents, IsFirstLacking, name_at}

one_longer : (names contents : List (List ℕ)) (index : ℕ) (bytes : List ℕ) → index < length names
    → length contents ≡ length (take index names) → length (contents ++ bytes ∷ []) ≡ length (take (index + 1) names)
one_longer names contents index bytes within so_far =
    length_push contents bytes ∙ ap (λ n. n + 1) so_far
    ∙ sym (ap length (take_more names index [] within) ∙ length_push (take index names) (name_at names index))

both : {X : Type 0} {a b c d : List X} → a ≡ b → c ≡ d → a ++ c ≡ b ++ d
both p q = λ i. p i ++ q i

one : {X : Type 0} {a b : X} → a ≡ b → a ∷ [] ≡ b ∷ []
one p = λ i. p i ∷ []

-- one more name with its content
pub are_contents_push : (files : Option Files) (names contents : List (List ℕ)) (index : ℕ) (bytes : List ℕ)
    → index < length names → AreContents files (take index names) contents → IfSome files (λ m. get m (name_at names index) ≡ Some bytes)
    → AreContents files (take (index + 1) names) (contents ++ bytes ∷ [])
are_contents_push None names contents index bytes within so_far here = record {
  as_many = one_longer names contents index bytes within so_far.as_many;
  found = tt;
}
are_contents_push (Some m) names contents index bytes within so_far here = record {
  as_many = one_longer names contents index bytes within so_far.as_many;
  found = ap (map (get m)) (take_more names index [] within)
      ∙ map-append (get m) (take index names) (name_at names index ∷ [])
      ∙ both so_far.found (one here)
      ∙ sym (map-append {A = List ℕ} {B = Option (List ℕ)} Some contents (bytes ∷ []));
}

-- The name of an element at an index.
pub named_at : {Y : Type 0} (bytes : Y → List ℕ) (names : List Y) (index : ℕ) (y : Y) (name : List ℕ)
    → index < length names → y ≡ get_or names index y → name ≡ bytes y → name ≡ name_at (map bytes names) index
named_at bytes names index y name within here named = named ∙ ap bytes here ∙ sym (get_or-map bytes names index y [] within)

-- One more buffer, loaded under one more name, if both lists are seen through their bytes.
pub loaded_one_more : {X Y : Type 0} (items : X → List ℕ) (bytes : Y → List ℕ) (files now : Option Files) (names : List Y) (buffers pushed : List X) (index : ℕ) (x : X) (y : Y) (name : List ℕ)
    → index < length names → y ≡ get_or names index y → name ≡ bytes y → now ≡ files → pushed ≡ buffers ++ x ∷ []
    → AreContents files (take index (map bytes names)) (map items buffers) → IfSome now (λ m. get m name ≡ Some (items x))
    → AreContents files (take (index + 1) (map bytes names)) (map items pushed)
loaded_one_more items bytes files now names buffers pushed index x y name within here named same push so_far found =
    let at_index = named_at bytes names index y name within here named in
    let found_here : IfSome files (λ m. get m (name_at (map bytes names) index) ≡ Some (items x)) =
    subst (λ n. IfSome files (λ m. get m n ≡ Some (items x))) at_index (subst (λ o. IfSome o (λ m. get m name ≡ Some (items x))) same found) in
    let more = are_contents_push files (map bytes names) (map items buffers) index (items x) (rw length-map within) so_far found_here in
    subst (AreContents files (take (index + 1) (map bytes names))) (sym (ap (map items) push ∙ map-append items buffers (x ∷ []))) more

same_value : {X : Type 0} {a b : X} → Some a ≡ Some b → a ≡ b
same_value {X} {a} e = ap (λ o. unwrap_or o a) e

same_heads : {X : Type 0} {a b : X} {xs ys : List X} → a ∷ xs ≡ b ∷ ys → (a ≡ b) × (xs ≡ ys)
same_heads e = (cc, cc)

-- Lists of values that are there are equal if the values are.
pub same_values : (a b : List (List ℕ)) → map {A = List ℕ} {B = Option (List ℕ)} Some a ≡ map {A = List ℕ} {B = Option (List ℕ)} Some b → a ≡ b
same_values [] [] e = refl
same_values [] (y ∷ b) e = cc
same_values (x ∷ a) [] e = cc
same_values (x ∷ a) (y ∷ b) e =
    let parts = same_heads e in
    let first = same_value parts.0 in
    let rest = same_values a b parts.1 in
    λ i. first i ∷ rest i

-- Files that are seen have one list of contents for a list of names.
pub same_contents : (m : Files) (names a b : List (List ℕ)) → AreContents (Some m) names a → AreContents (Some m) names b → a ≡ b
same_contents m names a b left right = same_values a b (sym left.found ∙ right.found)

-- If each name has its content, none is lacking.
pub not_lacking : (files : Option Files) (names contents : List (List ℕ)) (index : ℕ) → AreContents files names contents → IsFirstLacking files names index → ⊥
not_lacking None names contents index held gone = gone.lacks
not_lacking (Some m) names contents index held gone =
    let as_held : get m (name_at names index) ≡ Some (get_or contents index []) =
    sym (get_or-map (get m) names index [] None gone.within) ∙ ap (λ values. get_or values index None) held.found
    ∙ get_or-map Some contents index [] None (omega (arith, gone.within, held.as_many)) in
    cc

front_lacking : (files : Option Files) (names : List (List ℕ)) (i j : ℕ) → i < j → j ≤ length names → IsFirstLacking files names i → IsFirstLacking files (take j names) i
front_lacking files names i j before within gone = record {
  within = rw length-take (omega arith);
  lacks = subst (λ name. IsSomeAnd files (λ m. get m name ≡ None)) (sym (get_or-take j names i [] before)) gone.lacks;
  earlier = subst (HaveContents files) (sym (take-take i j names (omega arith))) gone.earlier;
}

not_before : (files : Option Files) (names : List (List ℕ)) (i j : ℕ) → IsFirstLacking files names i → IsFirstLacking files names j → i < j → ⊥
not_before files names i j one other before =
    not_lacking files (take j names) other.earlier.0 i other.earlier.1 (front_lacking files names i j before (omega (arith, other.within)) one)
