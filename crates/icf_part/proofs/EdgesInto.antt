-- The words of what leads to each item, item after item.
use Rattle.std.proofs.Common.{◌≡◌, ◌≢◌, ◌⊎◌, ℕ, ◌+◌, ◌<◌, ◌≤◌, ◌^◌, List, [], ◌∷◌, ◌++◌, length, get_or, set, replicate, Contains, refl, sym, ap, ◌∙◌, subst, ⊎_elim, inl, inr, arith}
use Rattle.std.proofs.lemmas.Bool.{cases_eq, cases_lt}
use Rattle.std.specs.Global.{Vec}
use Rattle.std.proofs.lemmas.List.{get_or-map, get_or-replicate, get_or-set_other, get_or-set_same, get_or_past, length-map, length-replicate, length-set, map-set}
use Rattle.std.proofs.lemmas.List.Elements.{Contains-append_left, Contains-append_right, Contains-append_cases}
use Rattle.lk_base.proofs.Membership.{only_one}
use Rattle.icf_part.specs.Classes.{AreAdded, AreItems, lists_of, word}
use Rattle.icf_part.specs.Edges.{AreInto, end_at}

-- one element more in the list of a number

pub record HasOneMore (lists : List (List ℕ)) (t w : ℕ) (new : List (List ℕ)) : Type 0 where
  pub wide : length new ≡ length lists
  pub kept : (p x : ℕ) → Contains (get_or lists p []) x → Contains (get_or new p []) x
  pub has : Contains (get_or new t []) w
  pub only : (p x : ℕ) → Contains (get_or new p []) x → Contains (get_or lists p []) x ⊎ ((p ≡ t) × (w ≡ x))

pub one_more_list : (lists : List (List ℕ)) (t w : ℕ) → t < length lists → HasOneMore lists t w (set lists t (get_or lists t [] ++ w ∷ []))
one_more_list lists t w lt =
    let row = get_or lists t [] ++ w ∷ [] in
    let here = get_or-set_same lists t row [] lt in
    record {
      wide = length-set lists t row;
      kept = λ p x has. let P : List ℕ → Type 0 = λ l. Contains l x in ⊎_elim
          (λ (e : p ≡ t). subst P (sym (ap (λ k. get_or (set lists t row) k []) e ∙ here)) (Contains-append_left (get_or lists t []) (w ∷ []) x (subst P (ap (λ k. get_or lists k []) e) has)))
          (λ (o : p ≢ t). subst P (sym (get_or-set_other lists t p row [] o)) has)
          (cases_eq p t);
      has = let P : List ℕ → Type 0 = λ l. Contains l w in subst P (sym here) (Contains-append_right (get_or lists t []) (w ∷ []) w (0, omega arith, refl));
      only = λ p x has. let P : List ℕ → Type 0 = λ l. Contains l x in ⊎_elim
          (λ (e : p ≡ t). ⊎_elim
          (λ (before : Contains (get_or lists t []) x). inl (subst P (sym (ap (λ k. get_or lists k []) e)) before))
          (λ (last : Contains (w ∷ []) x). inr (e, only_one w x last))
          (Contains-append_cases (get_or lists t []) (w ∷ []) x (subst P (ap (λ k. get_or (set lists t row) k []) e ∙ here) has)))
          (λ (o : p ≢ t). inl (subst P (get_or-set_other lists t p row [] o) has))
          (cases_eq p t);
    }

-- the same of vectors
pub lists_wide : (lists : List (Vec ℕ)) → length (lists_of lists) ≡ length lists
lists_wide lists = length-map lists (λ list. list.items)

pub list_at : (lists : List (Vec ℕ)) (t : ℕ) (d : Vec ℕ) → t < length lists → get_or (lists_of lists) t [] ≡ (get_or lists t d).items
list_at lists t d lt = get_or-map (λ (list : Vec ℕ). list.items) lists t d [] lt

pub list_set : (lists : List (Vec ℕ)) (t w : ℕ) (old new : Vec ℕ) → t < length lists → old ≡ get_or lists t old → new.items ≡ old.items ++ w ∷ [] → HasOneMore (lists_of lists) t w (lists_of (set lists t new))
list_set lists t w old new lt was is =
    let items : Vec ℕ → List ℕ = λ list. list.items in
    let row : new.items ≡ get_or (lists_of lists) t [] ++ w ∷ [] = is ∙ ap (λ l. l ++ w ∷ []) (ap items was ∙ sym (list_at lists t old lt)) in
    let e : lists_of (set lists t new) ≡ set (lists_of lists) t (get_or (lists_of lists) t [] ++ w ∷ []) = map-set items lists t new ∙ ap (λ l. set (lists_of lists) t l) row in
    let P : List (List ℕ) → Type 0 = λ l. HasOneMore (lists_of lists) t w l in
    subst P (sym e) (one_more_list (lists_of lists) t w (omega (arith, lt, lists_wide lists)))

-- a row leads to items
pub row_within : (ends : List (List ℕ)) (a count : ℕ) (row : List ℕ) → row ≡ get_or ends a [] → count ≡ length ends →
    ((b k : ℕ) → k < length (get_or ends b []) → end_at ends b k < length ends) → (k : ℕ) → k < length row → get_or row k 0 < count
row_within ends a count row is wide within k lt =
    omega (arith, within a k (omega (arith, lt, ap length is)), ap (λ l. get_or l k 0) is, wide)

pub added_first : (row : List ℕ) (a : ℕ) (lists : List (List ℕ)) → AreAdded row 0 a lists lists
added_first row a lists = record { wide = refl; kept = λ t w h. h; all = λ k lt. absurd (omega arith); only = λ t w h. inl h }

pub added_next : (row : List ℕ) (k a : ℕ) (old now new : List (List ℕ)) → AreAdded row k a old now → HasOneMore now (get_or row k 0) (word k a) new → AreAdded row (k + 1) a old new
added_next row k a old now new are one = record {
  wide = one.wide ∙ are.wide;
  kept = λ t w h. one.kept t w (are.kept t w h);
  all = λ j lt. ⊎_elim
      (λ (less : j < k). one.kept (get_or row j 0) (word j a) (are.all j less))
      (λ (last : k ≤ j). let e : k ≡ j = omega (arith, lt, last) in let P : ℕ → Type 0 = λ i. Contains (get_or new (get_or row i 0) []) (word i a) in subst P e one.has)
      (cases_lt j k);
  only = λ t w h. ⊎_elim
      (λ (before : Contains (get_or now t []) w). ⊎_elim
      (λ (older : Contains (get_or old t []) w). inl older)
      (λ p. inr (p.0, (omega (arith, p.1.0), (p.1.1.0, p.1.1.1))))
      (are.only t w before))
      (λ q. inr (k, (omega arith, (sym q.0, sym q.1))))
      (one.only t w h);
}

-- the words of the items before one
pub record IsIntoUpto (ends : List (List ℕ)) (a : ℕ) (into : List (List ℕ)) : Type 0 where
  pub count : length into ≡ length ends
  pub all : (b k : ℕ) → b < a → k < length (get_or ends b []) → Contains (get_or into (end_at ends b k) []) (word k b)
  pub only : (t k b : ℕ) → b < 2 ^ 32 → Contains (get_or into t []) (word k b) → (b < a) × ((k < length (get_or ends b [])) × (end_at ends b k ≡ t))

empty_has : (x : ℕ) → Contains [] x → ⊥
empty_has x (k, lt, e) = omega arith

none_at : (n t x : ℕ) → Contains (get_or {A = List ℕ} (replicate n []) t []) x → ⊥
none_at n t x has =
    let P : List ℕ → Type 0 = λ l. Contains l x in
    let e : get_or {A = List ℕ} (replicate n []) t [] ≡ [] = ⊎_elim
    (λ (lt : t < n). get_or-replicate n t [] [] lt)
    (λ (past : n ≤ t). get_or_past (replicate n []) t [] (omega (arith, past, length-replicate {A = List ℕ} n [])))
    (cases_lt t n) in
    empty_has x (subst P e has)

pub into_first : (ends into : List (List ℕ)) → into ≡ replicate (length ends) [] → IsIntoUpto ends 0 into
into_first ends into is = record {
  count = ap length is ∙ length-replicate {A = List ℕ} (length ends) [];
  all = λ b k lt. absurd (omega arith);
  only = λ t k b fits has. let P : List (List ℕ) → Type 0 = λ l. Contains (get_or l t []) (word k b) in absurd (none_at (length ends) t (word k b) (subst P is has));
}

pub into_next : (ends : List (List ℕ)) (a : ℕ) (row : List ℕ) (old new : List (List ℕ)) → a < 2 ^ 31 → row ≡ get_or ends a [] → IsIntoUpto ends a old → AreAdded row (length row) a old new →
    IsIntoUpto ends (a + 1) new
into_next ends a row old new few row_is is added = record {
  count = added.wide ∙ is.count;
  all = λ b k lt lk. ⊎_elim
      (λ (less : b < a). added.kept (end_at ends b k) (word k b) (is.all b k less lk))
      (λ (last : a ≤ b).
      let e : b ≡ a = omega (arith, lt, last) in
      let own : get_or ends b [] ≡ row = ap (λ i. get_or ends i []) e ∙ sym row_is in
      let P : ℕ → Type 0 = λ t. Contains (get_or new t []) (word k b) in
      let Q : ℕ → Type 0 = λ i. Contains (get_or new (get_or row k 0) []) (word k i) in
      subst P (ap (λ l. get_or l k 0) (sym own)) (subst Q (sym e) (added.all k (omega (arith, lk, ap length own)))))
      (cases_lt b a);
  only = λ t k b fits has. ⊎_elim
      (λ (before : Contains (get_or old t []) (word k b)). let told = is.only t k b fits before in (omega (arith, told.0), told.1))
      (λ p.
      let j = p.0 in
      let lj = p.1.0 in
      let leads = p.1.1.0 in
      let w = p.1.1.1 in
      let ek : k ≡ j = omega (arith, w, fits, few) in
      let eb : b ≡ a = omega (arith, w, fits, few) in
      let own : get_or ends b [] ≡ row = ap (λ i. get_or ends i []) eb ∙ sym row_is in
      (omega (arith, eb), (omega (arith, lj, ek, ap length own), ap (λ l. get_or l k 0) own ∙ ap (λ i. get_or row i 0) ek ∙ leads)))
      (added.only t (word k b) has);
}

pub into_last : (ends : List (List ℕ)) (a : ℕ) (into : List (List ℕ)) → a ≡ length ends → IsIntoUpto ends a into → AreInto ends into
into_last ends a into e is = record {
  count = is.count;
  all = λ b k lb lk. is.all b k (omega (arith, lb, e)) lk;
  only = λ t k b fits has. let told = is.only t k b fits has in (omega (arith, told.0, e), told.1);
}

-- the members of each class
pub items_first : (labels : List ℕ) (lists : List (List ℕ)) → lists ≡ replicate (length labels) [] → AreItems labels 0 lists
items_first labels lists is = record {
  count = ap length is ∙ length-replicate {A = List ℕ} (length labels) [];
  all = λ a lt. absurd (omega arith);
  only = λ label a has. let P : List (List ℕ) → Type 0 = λ l. Contains (get_or l label []) a in absurd (none_at (length labels) label a (subst P is has));
}

pub items_next : (labels : List ℕ) (a : ℕ) (lists new : List (List ℕ)) → AreItems labels a lists → HasOneMore lists (get_or labels a 0) a new → AreItems labels (a + 1) new
items_next labels a lists new are one = record {
  count = one.wide ∙ are.count;
  all = λ b lt. ⊎_elim
      (λ (less : b < a). one.kept (get_or labels b 0) b (are.all b less))
      (λ (last : a ≤ b). let e : a ≡ b = omega (arith, lt, last) in let P : ℕ → Type 0 = λ i. Contains (get_or new (get_or labels i 0) []) i in subst P e one.has)
      (cases_lt b a);
  only = λ label b has. ⊎_elim
      (λ (before : Contains (get_or lists label []) b). omega (arith, are.only label b before))
      (λ q. omega (arith, q.1))
      (one.only label b has);
}
