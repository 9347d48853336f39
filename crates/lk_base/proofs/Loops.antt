-- Loops over the numbers from i on and below n, that collect a list or look for the first of one.
use Rattle.std.proofs.Common.{◌≡◌, ℕ, zero, suc, ◌+◌, ◌-◌, ◌<◌, ◌≤◌, List, [], ◌∷◌, ◌++◌, length, map, drop, flat_map, get_or, refl, sym, ap, ◌∙◌, arith, append_assoc, take}
use Rattle.std.specs.List.{range_with_len}
use Rattle.std.proofs.Math.Seq.{drop-cons}
use Rattle.std.proofs.lemmas.Grind.{flat_map-append}
use Rattle.std.proofs.lemmas.List.{append-nil, length-append, map-append, take_all, take_more}
use Rattle.lk_base.specs.declared.defects.Defect.{Defect}
use Rattle.lk_base.specs.declared.defects.LinkStop.{LinkStop}
use Rattle.lk_base.specs.declared.defects.LinkStop.TheVariants as stops
use Rattle.lk_base.specs.Firsts.{BeginsWith, StopsAt}

pub range_at : (i n : ℕ) → i < n → range_with_len i (n - i) ≡ i ∷ range_with_len (i + 1) (n - (i + 1))
range_at i n lt = let e : n - i ≡ suc (n - (i + 1)) = omega arith in ap (range_with_len i) e

range_past : (i n : ℕ) → n ≤ i → range_with_len i (n - i) ≡ []
range_past i n le = let e : n - i ≡ 0 = omega arith in ap (range_with_len i) e

range_suc : (a n j : ℕ) → a + n ≡ j → range_with_len a (suc n) ≡ range_with_len a n ++ (j ∷ [])
range_suc a zero j e = let same : a ≡ j = omega arith in ap (λ k. k ∷ []) same
range_suc a (suc n) j e = ap (λ xs. a ∷ xs) (range_suc (a + 1) n j (omega arith))

-- one number more
pub range_more : (n : ℕ) → range_with_len 0 (n + 1) ≡ range_with_len 0 n ++ (n ∷ [])
range_more n = let e : n + 1 ≡ suc n = omega arith in ap (range_with_len 0) e ∙ range_suc 0 n n (omega arith)

-- what is left of a list over numbers: its first part, and the rest
pub rest_step : {X : Type 0} (f : ℕ → List X) (i n : ℕ) → i < n →
    flat_map f (range_with_len i (n - i)) ≡ f i ++ flat_map f (range_with_len (i + 1) (n - (i + 1)))
rest_step f i n lt = ap (flat_map f) (range_at i n lt)

pub rest_end : {X : Type 0} (f : ℕ → List X) (i n : ℕ) → n ≤ i → flat_map f (range_with_len i (n - i)) ≡ []
rest_end f i n le = ap (flat_map f) (range_past i n le)

-- a loop that collects a list, one number on, and at its end
pub collect_step : {X : Type 0} (f : ℕ → List X) (i n : ℕ) (old new whole : List X) → i < n →
    old ++ flat_map f (range_with_len i (n - i)) ≡ whole → new ≡ old ++ f i →
    new ++ flat_map f (range_with_len (i + 1) (n - (i + 1))) ≡ whole
collect_step f i n old new whole lt held is =
    ap (λ l. l ++ flat_map f (range_with_len (i + 1) (n - (i + 1)))) is
    ∙ append_assoc old (f i) (flat_map f (range_with_len (i + 1) (n - (i + 1))))
    ∙ ap (λ l. old ++ l) (sym (rest_step f i n lt)) ∙ held

pub collect_end : {X : Type 0} (f : ℕ → List X) (i n : ℕ) (old whole : List X) → n ≤ i →
    old ++ flat_map f (range_with_len i (n - i)) ≡ whole → old ≡ whole
collect_end f i n old whole le held = sym (append-nil old) ∙ ap (λ l. old ++ l) (sym (rest_end f i n le)) ∙ held

-- a list over the numbers so far, one number on
pub map_step : {X : Type 0} (f : ℕ → X) (i : ℕ) (old new : List X) → old ≡ map f (range_with_len 0 i) → new ≡ old ++ f i ∷ [] →
    new ≡ map f (range_with_len 0 (i + 1))
map_step f i old new held is =
    is ∙ ap (λ l. l ++ f i ∷ []) held ∙ sym (map-append f (range_with_len 0 i) (i ∷ [])) ∙ ap (map f) (sym (range_more i))

pub flat_step : {X : Type 0} (f : ℕ → List X) (i : ℕ) (old new : List X) → old ≡ flat_map f (range_with_len 0 i) → new ≡ old ++ f i →
    new ≡ flat_map f (range_with_len 0 (i + 1))
flat_step f i old new held is =
    is ∙ ap (λ l. l ++ f i) held ∙ ap (λ l. flat_map f (range_with_len 0 i) ++ l) (sym (append-nil (f i)))
    ∙ sym (flat_map-append f (range_with_len 0 i) (i ∷ [])) ∙ ap (flat_map f) (sym (range_more i))

-- how many elements a list over the numbers so far has, one number on
pub count_step : {X : Type 0} (f : ℕ → List X) (i : ℕ) →
    length (flat_map f (range_with_len 0 (i + 1))) ≡ length (flat_map f (range_with_len 0 i)) + length (f i)
count_step f i =
    ap length (sym (flat_step f i (flat_map f (range_with_len 0 i)) (flat_map f (range_with_len 0 i) ++ f i) refl refl))
    ∙ length-append (flat_map f (range_with_len 0 i)) (f i)

-- a loop that looks for the first defect: nothing here; the first stands here; nothing at all
pub pass_step : (f : ℕ → List Defect) (i n : ℕ) (whole : List Defect) → i < n →
    flat_map f (range_with_len i (n - i)) ≡ whole → f i ≡ [] → flat_map f (range_with_len (i + 1) (n - (i + 1))) ≡ whole
pass_step f i n whole lt held none =
    sym (rest_step f i n lt ∙ ap (λ l. l ++ flat_map f (range_with_len (i + 1) (n - (i + 1)))) none) ∙ held

pub found_step : (f : ℕ → List Defect) (i n : ℕ) (whole : List Defect) (d : Defect) → i < n →
    flat_map f (range_with_len i (n - i)) ≡ whole → BeginsWith (f i) d → BeginsWith whole d
found_step f i n whole d lt held begins = (
  begins.0 ++ flat_map f (range_with_len (i + 1) (n - (i + 1))),
  sym held ∙ rest_step f i n lt ∙ ap (λ l. l ++ flat_map f (range_with_len (i + 1) (n - (i + 1)))) begins.1,
)

pub pass_end : (f : ℕ → List Defect) (i n : ℕ) (whole : List Defect) → n ≤ i → flat_map f (range_with_len i (n - i)) ≡ whole → whole ≡ []
pass_end f i n whole le held = sym held ∙ rest_end f i n le

-- the same over a list
pub found_item : {X : Type 0} (f : X → List Defect) (x : X) (xs : List X) (whole : List Defect) (d : Defect) →
    flat_map f (x ∷ xs) ≡ whole → BeginsWith (f x) d → BeginsWith whole d
found_item f x xs whole d held begins = (begins.0 ++ flat_map f xs, sym held ∙ ap (λ l. l ++ flat_map f xs) begins.1)

pub found_at : {X : Type 0} (f : X → List Defect) (xs : List X) (i : ℕ) (x : X) (whole : List Defect) (d : Defect) → i < length xs →
    flat_map f (drop i xs) ≡ whole → BeginsWith (f (get_or xs i x)) d → BeginsWith whole d
found_at f xs i x whole d lt held begins =
    found_item f (get_or xs i x) (drop (suc i) xs) whole d (ap (flat_map f) (sym (drop-cons xs i x lt)) ∙ held) begins

-- a stop that comes from one number on the way
pub stop_step : (f : ℕ → List Defect) (i n : ℕ) (whole : List Defect) (stop : LinkStop) → i < n →
    flat_map f (range_with_len i (n - i)) ≡ whole → StopsAt stop (f i) → StopsAt stop whole
stop_step f i n whole (stops.Defect d) lt held begins = found_step f i n whole d lt held begins
stop_step f i n whole stops.Memory lt held begins = tt

-- something of each element of a list, one after the other
pub mapped_at : {X Y : Type 0} (f : X → Y) (xs : List X) (i : ℕ) (d : X) (old new : List Y) → i < length xs →
    old ≡ map f (take i xs) → new ≡ old ++ f (get_or xs i d) ∷ [] → new ≡ map f (take (i + 1) xs)
mapped_at f xs i d old new lt held push =
    push ∙ ap (λ l. l ++ f (get_or xs i d) ∷ []) held ∙ sym (map-append f (take i xs) (get_or xs i d ∷ [])) ∙ ap (map f) (sym (take_more xs i d lt))

pub mapped_all : {X Y : Type 0} (f : X → Y) (xs : List X) (i : ℕ) (list : List Y) → length xs ≤ i → list ≡ map f (take i xs) → list ≡ map f xs
mapped_all f xs i list le held = held ∙ ap (map f) (take_all i xs le)

pub flat_same : {X : Type 0} (f g : ℕ → List X) (ks : List ℕ) → ((k : ℕ) → f k ≡ g k) → flat_map f ks ≡ flat_map g ks
flat_same f g [] same = refl
flat_same f g (k ∷ ks) same = ap (λ l. l ++ flat_map f ks) (same k) ∙ ap (λ l. g k ++ l) (flat_same f g ks same)

pub map_flat : {X Y : Type 0} (g : X → Y) (row : ℕ → List X) (ks : List ℕ) → map g (flat_map row ks) ≡ flat_map (λ k. map g (row k)) ks
map_flat g row [] = refl
map_flat g row (k ∷ ks) = map-append g (row k) (flat_map row ks) ∙ ap (λ l. map g (row k) ++ l) (map_flat g row ks)
