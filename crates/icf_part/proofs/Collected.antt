-- Loops over a list that collect something of each element.
use Rattle.std.proofs.Common.{◌≡◌, ℕ, ◌+◌, ◌<◌, ◌≤◌, Bool, cond, List, [], ◌∷◌, ◌++◌, length, map, take, flat_map, get_or, refl, sym, ap, ◌∙◌, append_assoc}
use Rattle.std.proofs.lemmas.List.{append-nil, map-append, take_all, take_more}
use Rattle.std.proofs.lemmas.Grind.{flat_map-append}
use Rattle.std.specs.List.{filter}
use Rattle.std.proofs.lemmas.List.Elements.{filter-append}
use Rattle.lk_base.proofs.Loops.{mapped_all}
use Rattle.link_sections.specs.declared.fold_items.FoldItem.{FoldItem as LentItem}
use Rattle.link_sections.specs.FoldItems.{FoldItem, item_view, item_views}

more : {X : Type 0} (xs : List X) (i : ℕ) (x : X) → i < length xs → x ≡ get_or xs i x → take (i + 1) xs ≡ take i xs ++ x ∷ []
more xs i x lt is = take_more xs i x lt ∙ ap (λ y. take i xs ++ y ∷ []) (sym is)

pub mapped_more : {X Y : Type 0} (f : X → Y) (xs : List X) (i : ℕ) (x : X) (old new : List Y) → i < length xs → x ≡ get_or xs i x →
    old ≡ map f (take i xs) → new ≡ old ++ f x ∷ [] → new ≡ map f (take (i + 1) xs)
mapped_more f xs i x old new lt is held push =
    push ∙ ap (λ l. l ++ f x ∷ []) held ∙ sym (map-append f (take i xs) (x ∷ [])) ∙ ap (map f) (sym (more xs i x lt is))

pub flat_more : {X Y : Type 0} (f : X → List Y) (before : List Y) (xs : List X) (i : ℕ) (x : X) (old new : List Y) → i < length xs → x ≡ get_or xs i x →
    old ≡ before ++ flat_map f (take i xs) → new ≡ old ++ f x → new ≡ before ++ flat_map f (take (i + 1) xs)
flat_more f before xs i x old new lt is held push =
    push ∙ ap (λ l. l ++ f x) held ∙ append_assoc before (flat_map f (take i xs)) (f x)
    ∙ ap (λ l. before ++ (flat_map f (take i xs) ++ l)) (sym (append-nil (f x)))
    ∙ ap (λ l. before ++ l) (sym (flat_map-append f (take i xs) (x ∷ [])))
    ∙ ap (λ l. before ++ flat_map f l) (sym (more xs i x lt is))

pub flat_at : {X Y : Type 0} (f : X → List Y) (before : List Y) (xs : List X) (i : ℕ) (d : X) (old new : List Y) → i < length xs →
    old ≡ before ++ flat_map f (take i xs) → new ≡ old ++ f (get_or xs i d) → new ≡ before ++ flat_map f (take (i + 1) xs)
flat_at f before xs i d old new lt held push =
    push ∙ ap (λ l. l ++ f (get_or xs i d)) held ∙ append_assoc before (flat_map f (take i xs)) (f (get_or xs i d))
    ∙ ap (λ l. before ++ (flat_map f (take i xs) ++ l)) (sym (append-nil (f (get_or xs i d))))
    ∙ ap (λ l. before ++ l) (sym (flat_map-append f (take i xs) (get_or xs i d ∷ [])))
    ∙ ap (λ l. before ++ flat_map f l) (sym (take_more xs i d lt))

pub flat_all : {X Y : Type 0} (f : X → List Y) (before : List Y) (xs : List X) (i : ℕ) (list : List Y) → length xs ≤ i →
    list ≡ before ++ flat_map f (take i xs) → list ≡ before ++ flat_map f xs
flat_all f before xs i list le held = held ∙ ap (λ l. before ++ flat_map f l) (take_all i xs le)

-- something of each item, as they are lent
viewed : {Y : Type 0} (f : FoldItem → Y) (items : List LentItem) → map (λ i. f (item_view i)) items ≡ map f (item_views items)
viewed f [] = refl
viewed f (i ∷ items) = ap (λ l. f (item_view i) ∷ l) (viewed f items)

pub mapped_views : {Y : Type 0} (f : FoldItem → Y) (items : List LentItem) (i : ℕ) (list : List Y) → length items ≤ i →
    list ≡ map (λ (x : LentItem). f (item_view x)) (take i items) → list ≡ map f (item_views items)
mapped_views f items i list le held = mapped_all (λ (x : LentItem). f (item_view x)) items i list le held ∙ viewed f items

pub filtered_more : (p : ℕ → Bool) (xs : List ℕ) (i : ℕ) (old new : List ℕ) → i < length xs → old ≡ filter p (take i xs) →
    new ≡ old ++ cond (p (get_or xs i 0)) (get_or xs i 0 ∷ []) [] → new ≡ filter p (take (i + 1) xs)
filtered_more p xs i old new lt held push =
    push ∙ ap (λ l. l ++ cond (p (get_or xs i 0)) (get_or xs i 0 ∷ []) []) held ∙ sym (filter-append p (take i xs) (get_or xs i 0 ∷ [])) ∙ ap (filter p) (sym (take_more xs i 0 lt))

pub filtered_all : (p : ℕ → Bool) (xs : List ℕ) (i : ℕ) (list : List ℕ) → length xs ≤ i → list ≡ filter p (take i xs) → list ≡ filter p xs
filtered_all p xs i list le held = held ∙ ap (filter p) (take_all i xs le)
