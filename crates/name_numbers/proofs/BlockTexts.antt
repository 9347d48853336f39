-- The texts of a block: for each the number of an equal one, and the slots of those that are placed.
use Rattle.std.proofs.Common.{◌≡◌, ◌≢◌, ℕ, ◌+◌, ◌-◌, ◌<◌, ◌≤◌, ◌⊎◌, inl, inr, List, [], ◌∷◌, ◌++◌, length, map, get_or, set, take, drop, Contains, refl, sym, ap, ◌∙◌, subst, ⊎_elim, arith}
use Rattle.std.specs.Prelude.{Option, Result, Ok, IfOk, IfSome}
use Rattle.std.specs.Borrow.{Bor}
use Rattle.std.specs.Global.{Vec}
use Rattle.std.specs.List.{range_with_len}
use Rattle.std.proofs.lemmas.Bool.{cases_eq, cases_lt}
use Rattle.std.proofs.lemmas.List.{ext_get_or, get_or-drop, get_or-map, get_or-set_other, get_or-set_same, get_or-take, get_or_append_left, get_or_push, length-drop, length-set, length-take-le, length_push, take-append-le, take_all}
use Rattle.std.proofs.lemmas.List.FromFn.{get_or-map-range_with_len, length-map-range_with_len}
use Rattle.intern_race.specs.declared.rule.Pair.{Pair}
use Rattle.intern_race.specs.Interning.{TableView, pair}
use Rattle.name_numbers.specs.Placed.{AreAlike, AreEarly, AreNumbered, AreOthers, ArePlaced, HasSlots, KeepsPlaced, no_slot}
use Rattle.name_numbers.specs.Texts.{hash_at, lent_texts, number_at, text_at}
use Rattle.name_numbers.proofs.HashSteps.{run_joined}

-- one element more of a list in which each has its own number from one on
pub own_next : (from k : ℕ) (old : List ℕ) → k < length old → ((j : ℕ) → j < k → get_or old j 0 ≡ from + j) → (j : ℕ) → j < k + 1 → get_or (set old k (from + k)) j 0 ≡ from + j
own_next from k old lt held j less = ⊎_elim
    (λ (early : j < k). get_or-set_other old k j (from + k) 0 (λ e. absurd (omega (arith, e, early))) ∙ held j early)
    (λ (late : k ≤ j).
    let same : j ≡ k = omega (arith, late, less) in
    ap (λ n. get_or (set old k (from + k)) n 0) same ∙ get_or-set_same old k (from + k) 0 lt ∙ ap (λ n. from + n) (sym same))
    (cases_lt j k)

-- one element more of a list in which each is the same
pub same_next : (x k : ℕ) (old : List ℕ) → k < length old → ((j : ℕ) → j < k → get_or old j 0 ≡ x) → (j : ℕ) → j < k + 1 → get_or (set old k x) j 0 ≡ x
same_next x k old lt held j less = ⊎_elim
    (λ (early : j < k). get_or-set_other old k j x 0 (λ e. absurd (omega (arith, e, early))) ∙ held j early)
    (λ (late : k ≤ j).
    let same : j ≡ k = omega (arith, late, less) in
    ap (λ n. get_or (set old k x) n 0) same ∙ get_or-set_same old k x 0 lt)
    (cases_lt j k)

-- each text is equal to itself
pub own_alike : (texts : List (List ℕ)) (from count : ℕ) (numbers : List ℕ) → count ≤ length numbers → ((k : ℕ) → k < count → get_or numbers k 0 ≡ from + k) → AreAlike texts from count numbers
own_alike texts from count numbers wide own = record { wide = wide; each = λ k lt. ap (text_at texts) (own k lt) }

-- one of them gets the number of an equal one
pub alike_set : (texts : List (List ℕ)) (from count k other : ℕ) (numbers : List ℕ) → k < count → text_at texts other ≡ text_at texts (from + k) → AreAlike texts from count numbers → AreAlike texts from count (set numbers k other)
alike_set texts from count k other numbers lt equal held =
    let wide = held.wide in
    let long : length (set numbers k other) ≡ length numbers = length-set numbers k other in
    record {
      wide = omega (arith, wide, long);
      each = λ j less. ⊎_elim
          (λ (at : j ≡ k).
          ap (λ n. text_at texts (get_or (set numbers k other) n 0)) at ∙ ap (text_at texts) (get_or-set_same numbers k other 0 (omega (arith, wide, lt))) ∙ equal ∙ ap (λ n. text_at texts (from + n)) (sym at))
          (λ (ne : j ≢ k). ap (text_at texts) (get_or-set_other numbers k j other 0 ne) ∙ held.each j less)
          (cases_eq j k);
    }

-- numbers and texts, none and one more
pub others_none : (texts : List (List ℕ)) (numbers : List ℕ) (list : List (Bor (List ℕ))) → numbers ≡ [] → list ≡ [] → AreOthers texts 0 numbers list
others_none texts numbers list none also = record { numbered = ap length none; listed = ap length also; each = λ n lt. absurd (omega (arith, lt)) }

pub others_next : (texts : List (List ℕ)) (k number : ℕ) (text : Bor (List ℕ)) (numbers more : List ℕ) (list longer : List (Bor (List ℕ))) → more ≡ numbers ++ number ∷ [] → longer ≡ list ++ text ∷ [] →
    text.now ≡ text_at texts number → AreOthers texts k numbers list → AreOthers texts (k + 1) more longer
others_next texts k number text numbers more list longer push also is held =
    let numbered = held.numbered in
    let listed = held.listed in
    let blank : Bor (List ℕ) = record { ref_ptr = (0, 0); now = [] } in
    let now : Bor (List ℕ) → List ℕ = λ t. t.now in
    record {
      numbered = ap length push ∙ length_push numbers number ∙ ap (λ n. n + 1) held.numbered;
      listed = ap length also ∙ length_push list text ∙ ap (λ n. n + 1) held.listed;
      each = λ n lt.
          let here : n < length longer = omega (arith, lt, ap length also ∙ length_push list text, listed) in
          let told : text_at (lent_texts longer) n ≡ (get_or longer n blank).now = get_or-map now longer n blank [] here in
          ⊎_elim
          (λ (early : n < k).
          let there : n < length list = omega (arith, early, listed) in
          let one : get_or longer n blank ≡ get_or list n blank = ap (λ l. get_or l n blank) also ∙ get_or_append_left list (text ∷ []) blank n there in
          let two : get_or more n 0 ≡ get_or numbers n 0 = ap (λ l. get_or l n 0) push ∙ get_or_append_left numbers (number ∷ []) 0 n (omega (arith, early, numbered)) in
          told ∙ ap now one ∙ sym (get_or-map now list n blank [] there) ∙ held.each n early ∙ ap (text_at texts) (sym two))
          (λ (late : k ≤ n).
          let one : get_or longer n blank ≡ text = ap (λ l. get_or l n blank) also ∙ get_or_push list text blank n (omega (arith, late, lt, listed)) in
          let two : get_or more n 0 ≡ number = ap (λ l. get_or l n 0) push ∙ get_or_push numbers number 0 n (omega (arith, late, lt, numbered)) in
          told ∙ ap now one ∙ is ∙ ap (text_at texts) (sym two))
          (cases_lt n k);
    }

-- no text has a slot
pub none_early : (t : TableView) (placed : List Pair) (from count : ℕ) (slots : List ℕ) → count ≤ length slots → ((k : ℕ) → k < length slots → get_or slots k 0 ≡ no_slot) → AreEarly t placed from count slots
none_early t placed from count slots wide none = record { wide = wide; each = λ k lt. inl (none k (omega (arith, wide, lt))) }

abbrev Slot : TableView → List Pair → (text slot : ℕ) → Type 0
Slot t placed text slot = (slot ≡ no_slot) ⊎ ((slot < t.slots) × Contains placed (pair slot text))

-- what is placed stays placed
pub early_kept : (t : TableView) (old new : List Pair) (from count : ℕ) (slots : List ℕ) → KeepsPlaced old new → AreEarly t old from count slots → AreEarly t new from count slots
early_kept t old new from count slots keeps held = record {
  wide = held.wide;
  each = λ k lt. ⊎_elim
      (λ (none : get_or slots k 0 ≡ no_slot). inl none)
      (λ (has : (get_or slots k 0 < t.slots) × Contains old (pair (get_or slots k 0) (from + k))). inr (has.0, keeps _ has.1))
      (held.each k lt);
}

-- one of them gets its slot
pub early_set : (t : TableView) (old new : List Pair) (from count k slot : ℕ) (slots : List ℕ) → k < count → KeepsPlaced old new → slot < t.slots → Contains new (pair slot (from + k)) → AreEarly t old from count slots →
    AreEarly t new from count (set slots k slot)
early_set t old new from count k slot slots lt keeps low has held =
    let wide = held.wide in
    let long : length (set slots k slot) ≡ length slots = length-set slots k slot in
    let kept = early_kept t old new from count slots keeps held in
    record {
      wide = omega (arith, wide, long);
      each = λ j less. ⊎_elim
          (λ (at : j ≡ k).
          let is : get_or (set slots k slot) j 0 ≡ slot = ap (λ n. get_or (set slots k slot) n 0) at ∙ get_or-set_same slots k slot 0 (omega (arith, wide, lt)) in
          let In : ℕ → Type 0 = λ n. Contains new (pair slot (from + n)) in
          subst (Slot t new (from + j)) (sym is) (inr (low, subst In (sym at) has)))
          (λ (ne : j ≢ k). subst (Slot t new (from + j)) (sym (get_or-set_other slots k j slot 0 ne)) (kept.each j less))
          (cases_eq j k);
    }

-- a slot that is there
pub early_read : (t : TableView) (placed : List Pair) (from count k : ℕ) (slots : List ℕ) → k < count → get_or slots k 0 ≢ no_slot → AreEarly t placed from count slots →
    (get_or slots k 0 < t.slots) × Contains placed (pair (get_or slots k 0) (from + k))
early_read t placed from count k slots lt some held = ⊎_elim
    (λ (none : get_or slots k 0 ≡ no_slot). absurd (some none))
    (λ (has : (get_or slots k 0 < t.slots) × Contains placed (pair (get_or slots k 0) (from + k))). has)
    (held.each k lt)

-- the texts before a block are placed, and those of the block
pub placed_on : (t : TableView) (old new : List Pair) (start count : ℕ) (slots : List ℕ) → KeepsPlaced old new → HasSlots t new start count slots → ArePlaced start old → ArePlaced (start + count) new
placed_on t old new start count slots keeps has all j lt = ⊎_elim
    (λ (early : j < start). let at = all j early in (at.0, keeps (pair at.0 j) at.1))
    (λ (late : start ≤ j).
    let k : ℕ = j - start in
    let is : start + k ≡ j = omega (arith, late) in
    let In : ℕ → Type 0 = λ n. Contains new (pair (get_or slots k 0) n) in
    (get_or slots k 0, subst In is (has.each k (omega (arith, lt, late)))))
    (cases_lt j start)

-- the first texts are numbered, and those of a block after them
pub numbered_on : (t : TableView) (texts : List (List ℕ)) (old mid new : List Pair) (start count : ℕ) (slots numbers more : List ℕ) → KeepsPlaced old mid → KeepsPlaced mid new → HasSlots t mid start count slots →
    more ≡ numbers ++ map (number_at texts) (range_with_len start count) → AreNumbered texts old start numbers → AreNumbered texts new (start + count) more
numbered_on t texts old mid new start count slots numbers more keeps also has list held =
    let from : start ≡ 0 + start = omega arith in
    let f : ℕ → ℕ = number_at texts in
    let L : ℕ → Type 0 = λ n. more ≡ numbers ++ map f (range_with_len n count) in
    record {
      all = λ j lt. let at = placed_on t old mid start count slots keeps has held.all j lt in (at.0, also (pair at.0 j) at.1);
      list = run_joined f 0 start count [] numbers more held.list (subst L from list);
    }

-- the hashes of some of the texts of a run
pub hashes_part : (texts : List (List ℕ)) (start n done count : ℕ) (hashes : List ℕ) → hashes ≡ map (hash_at texts) (range_with_len start n) → done + count ≤ n →
    take count (drop done hashes) ≡ map (hash_at texts) (range_with_len (start + done) count)
hashes_part texts start n done count hashes are within =
    let f : ℕ → ℕ = hash_at texts in
    let long : length hashes ≡ n = ap length are ∙ length-map-range_with_len f start n in
    let rest : List ℕ = drop done hashes in
    let few : length rest ≡ n - done = length-drop done hashes ∙ ap (λ m. m - done) long in
    let wide : length (take count rest) ≡ count = length-take-le count rest (omega (arith, few, within)) in
    ext_get_or 0 (take count rest) (map f (range_with_len (start + done) count)) (wide ∙ sym (length-map-range_with_len f (start + done) count)) (λ k lt.
    let less : k < count = omega (arith, lt, wide) in
    get_or-take count rest k 0 less ∙ get_or-drop done hashes k 0 ∙ ap (λ l. get_or l (done + k) 0) are
    ∙ get_or-map-range_with_len f start n (done + k) (start + done + k) 0 (omega (arith, within, less)) (omega arith)
    ∙ sym (get_or-map-range_with_len f (start + done) count k (start + done + k) 0 less refl))

-- a part of a list, and its length
pub part_long : (xs : List ℕ) (done count : ℕ) (part : List ℕ) → done + count ≤ length xs → part ≡ take (done + count - done) (drop done xs) → length part ≡ count
part_long xs done count part within is =
    let n : done + count - done ≡ count = omega arith in
    let few : length (drop done xs) ≡ length xs - done = length-drop done xs in
    ap length is ∙ ap (λ m. length (take m (drop done xs))) n ∙ length-take-le count (drop done xs) (omega (arith, few, within))

pub part_is : (xs : List ℕ) (done count : ℕ) (part : List ℕ) → done + count ≤ length xs → part ≡ take (done + count - done) (drop done xs) → part ≡ take (length part) (drop done xs)
part_is xs done count part within is =
    let n : done + count - done ≡ count = omega arith in
    is ∙ ap (λ m. take m (drop done xs)) (n ∙ sym (part_long xs done count part within is))

-- a list that is written back whole
pub written_back : (n : ℕ) (xs rest : List ℕ) → length xs ≡ n → take n (xs ++ rest) ≡ xs
written_back n xs rest long = take-append-le n xs rest (omega (arith, long)) ∙ take_all n xs (omega (arith, long))

-- the slots of a piece, if there are so many
pub slots_if : {E : Type 0} (t : TableView) (placed : List Pair) (start m n : ℕ) (r : Result (Option (Vec ℕ)) E) (o : Option (Vec ℕ)) → m ≡ n → r ≡ Ok o →
    IfOk r (λ found. IfSome found (λ slots. HasSlots t placed start m slots.items)) → IfSome o (λ slots. HasSlots t placed start n slots.items)
slots_if {E} t placed start m n r o same is held =
    let R : Result (Option (Vec ℕ)) E → Type 0 = λ x. IfOk x (λ found. IfSome found (λ (slots : Vec ℕ). HasSlots t placed start m slots.items)) in
    let S : ℕ → Type 0 = λ k. IfSome o (λ (slots : Vec ℕ). HasSlots t placed start k slots.items) in
    subst S same (subst R is held)

-- slots stay those of their texts
pub slots_stay : (t : TableView) (old new : List Pair) (start count : ℕ) (slots : List ℕ) → KeepsPlaced old new → HasSlots t old start count slots → HasSlots t new start count slots
slots_stay t old new start count slots keeps held = record { wide = held.wide; within = held.within; each = λ k lt. keeps _ (held.each k lt) }
