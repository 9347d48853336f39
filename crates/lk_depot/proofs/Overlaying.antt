-- Laws of maps that are made from lists of named things.
use Rattle.std.proofs.Common.{◌≡◌, ◌≢◌, ℕ, suc, zero, ◌<◌, true, false, cond, nat_lt, List, [], ◌∷◌, ◌++◌, length, get_or, set, refl, sym, ◌∙◌, ap, arith, Some, None, bytes_eq}
use Rattle.std.proofs.lemmas.Grind.{common_steps}
use Rattle.std.proofs.lemmas.List.Quantifiers.{position-Some}
use Rattle.std.proofs.lemmas.List.Sums.{fails_before_first}
use Rattle.std.proofs.lemmas.Slice.Eq.{bytes_eq-Decides}
use Rattle.std.specs.FinMap.{get, insert}
use Rattle.std.specs.List.{position_or_len}
use Rattle.lk_depot.specs.Files.{Named}
use Rattle.lk_depot.specs.Overlays.{overlaid, place_of}
use Rattle.lk_depot.proofs.NamedMaps.{put_twice, put_swapped, get_put_same, get_put_other}

names_same : (a b : List ℕ) → bytes_eq a b ≡ true → a ≡ b
names_same a b e = (bytes_eq-Decides a b).0 e

names_apart : (a b : List ℕ) → bytes_eq a b ≡ false → b ≢ a
names_apart a b e same = let equal : bytes_eq a b ≡ true = (bytes_eq-Decides a b).1 (sym same) in cc

-- The thing at this place is the first of that name.
record IsFirstAt {A : Type 0} (name : A → List ℕ) (list : List A) (sought : List ℕ) (i : ℕ) (d : A) : Type 0 where
  within : i < length list
  named : name (get_or list i d) ≡ sought
  earlier : (k : ℕ) → k < i → sought ≢ name (get_or list k d)

-- Nothing in the list has that name.
record IsUnnamed {A : Type 0} (name : A → List ℕ) (list : List A) (sought : List ℕ) : Type 0 where
  each : (k : ℕ) (d : A) → k < length list → sought ≢ name (get_or list k d)

first_at : {A : Type 0} (name : A → List ℕ) (list : List A) (sought : List ℕ) (i : ℕ) (d : A) → place_of name list sought ≡ Some i → IsFirstAt name list sought i d
first_at name list sought i d e =
    let is = position-Some (λ a. bytes_eq (name a) sought) list i d e in
    record {
      within = is.0;
      named = names_same _ _ is.1;
      earlier = λ k before. names_apart _ _ (is.2 k before);
    }

past : (found : ℕ) (k n : ℕ) → k < n → cond (nat_lt found n) (Some found) None ≡ None → k < found
past found k n before e = grind (arith, common_steps)

unnamed : {A : Type 0} (name : A → List ℕ) (list : List A) (sought : List ℕ) → place_of name list sought ≡ None → IsUnnamed name list sought
unnamed name list sought e = record {
  each = λ k d before. names_apart _ _ (fails_before_first (λ a. bytes_eq (name a) sought) list k d (past (position_or_len (λ a. bytes_eq (name a) sought) list) k (length list) before e));
}

later : {A : Type 0} {name : A → List ℕ} (list : List A) (sought : List ℕ) (j : ℕ) (d x : A) → IsFirstAt name (x ∷ list) sought (suc j) d → IsFirstAt name list sought j d
later list sought j d x first = record {
  within = omega (arith, first.within);
  named = first.named;
  earlier = λ k before. first.earlier (suc k) (omega arith);
}

rest_unnamed : {A : Type 0} {name : A → List ℕ} (list : List A) (sought : List ℕ) (x : A) → IsUnnamed name (x ∷ list) sought → IsUnnamed name list sought
rest_unnamed list sought x none = record { each = λ k d before. none.each (suc k) d (omega arith) }

impossible : {X : Type 0} {x : X} → None ≡ Some x → ⊥
impossible e = cc

-- The first thing of a name has that name.
pub named_found : {A : Type 0} (name : A → List ℕ) (list : List A) (sought : List ℕ) (i : ℕ) (d : A) → place_of name list sought ≡ Some i → name (get_or list i d) ≡ sought
named_found name list sought i d found = (first_at name list sought i d found).named

pub within_found : {A : Type 0} (name : A → List ℕ) (list : List A) (sought : List ℕ) (i : ℕ) → place_of name list sought ≡ Some i → i < length list
within_found name [] sought i found = absurd (impossible found)
within_found name (x ∷ list) sought i found = (first_at name (x ∷ list) sought i x found).within

module _ {A X : Type 0} (name : A → List ℕ) (value : A → X) where
  set_first : (list : List A) (m : Named X) (sought : List ℕ) (i : ℕ) (d y : A) → IsFirstAt name list sought i d → name y ≡ sought
      → overlaid name value (set list i y) m ≡ insert (overlaid name value list m) sought (value y)
  set_first [] m sought i d y first named = absurd (omega (arith, first.within))
  set_first (x ∷ list) m sought zero d y first named =
      ap (λ n. insert (overlaid name value list m) n (value y)) named
      ∙ sym (put_twice (overlaid name value list m) sought (value x) (value y))
      ∙ ap (λ n. insert (insert (overlaid name value list m) n (value x)) sought (value y)) (sym first.named)
  set_first (x ∷ list) m sought (suc j) d y first named =
      ap (λ rest. insert rest (name x) (value x)) (set_first list m sought j d y (later list sought j d x first) named)
      ∙ put_swapped (overlaid name value list m) sought (name x) (value y) (value x) (first.earlier 0 (omega arith))

  push_unnamed : (list : List A) (m : Named X) (sought : List ℕ) (y : A) → IsUnnamed name list sought → name y ≡ sought
      → overlaid name value (list ++ y ∷ []) m ≡ insert (overlaid name value list m) sought (value y)
  push_unnamed [] m sought y none named = ap (λ n. insert m n (value y)) named
  push_unnamed (x ∷ list) m sought y none named =
      ap (λ rest. insert rest (name x) (value x)) (push_unnamed list m sought y (rest_unnamed list sought x none) named)
      ∙ put_swapped (overlaid name value list m) sought (name x) (value y) (value x) (none.each 0 x (omega arith))

  get_first : (list : List A) (m : Named X) (sought : List ℕ) (i : ℕ) (d : A) → IsFirstAt name list sought i d
      → get (overlaid name value list m) sought ≡ Some (value (get_or list i d))
  get_first [] m sought i d first = absurd (omega (arith, first.within))
  get_first (x ∷ list) m sought zero d first =
      ap (λ n. get (insert (overlaid name value list m) n (value x)) sought) first.named
      ∙ get_put_same (overlaid name value list m) sought (value x)
  get_first (x ∷ list) m sought (suc j) d first =
      get_put_other (overlaid name value list m) (name x) sought (value x) (first.earlier 0 (omega arith))
      ∙ get_first list m sought j d (later list sought j d x first)

  get_unnamed : (list : List A) (m : Named X) (sought : List ℕ) → IsUnnamed name list sought
      → get (overlaid name value list m) sought ≡ get m sought
  get_unnamed [] m sought none = refl
  get_unnamed (x ∷ list) m sought none =
      get_put_other (overlaid name value list m) (name x) sought (value x) (none.each 0 x (omega arith))
      ∙ get_unnamed list m sought (rest_unnamed list sought x none)

  -- To change the first thing of a name is to put its new value under that name.
  pub overlaid_set : (list : List A) (m : Named X) (sought : List ℕ) (i : ℕ) (y : A) → place_of name list sought ≡ Some i → name y ≡ sought
      → overlaid name value (set list i y) m ≡ insert (overlaid name value list m) sought (value y)
  overlaid_set list m sought i y found named = set_first list m sought i y y (first_at name list sought i y found) named

  -- To add a thing with a new name is to put its value under that name.
  pub overlaid_push : (list : List A) (m : Named X) (sought : List ℕ) (y : A) → place_of name list sought ≡ None → name y ≡ sought
      → overlaid name value (list ++ y ∷ []) m ≡ insert (overlaid name value list m) sought (value y)
  overlaid_push list m sought y none named = push_unnamed list m sought y (unnamed name list sought none) named

  -- The map has the first thing of a name.
  pub get_overlaid_found : (list : List A) (m : Named X) (sought : List ℕ) (i : ℕ) (d : A) → place_of name list sought ≡ Some i
      → get (overlaid name value list m) sought ≡ Some (value (get_or list i d))
  get_overlaid_found list m sought i d found = get_first list m sought i d (first_at name list sought i d found)

  -- If the list has no thing of a name, the map has what was below it.
  pub get_overlaid_none : (list : List A) (m : Named X) (sought : List ℕ) → place_of name list sought ≡ None
      → get (overlaid name value list m) sought ≡ get m sought
  get_overlaid_none list m sought none = get_unnamed list m sought (unnamed name list sought none)
