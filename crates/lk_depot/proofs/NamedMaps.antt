-- Laws of files by name, and of bytes added to them.
use Rattle.std.proofs.Common.{◌≡◌, ◌≢◌, ℕ, Bool, true, false, cond, List, [], ◌∷◌, ◌++◌, refl, sym, ◌∙◌, ap, append_assoc, Some, None, Option}
use Rattle.std.proofs.lemmas.List.{append-nil}
use Rattle.std.specs.Option.{unwrap_or}
use Rattle.std.specs.Ordering.{eq_by_cmp, nat_cmp, is_eq}
use Rattle.std.specs.declared.cmp.Ordering.{Ordering}
use Rattle.std.specs.declared.cmp.Ordering.TheVariants.{Less, Equal, Greater}
use Rattle.std.specs.Cmp.{eq_by_cmp_equiv}
use Rattle.std.specs.Cmp.Lexicographic.{slice_cmp, nat_list_cmp_total}
use Rattle.std.specs.FinMap.{get, insert, get-insert, same_map, slice_cmp-IsAntisymmetric, nat_cmp-IsAntisymmetric}
use Rattle.lk_depot.specs.Files.{Named, Files, content, added, added_if_seen, put_if_seen}

-- The test by which a map finds a name.
abbrev pub is_name : List ℕ → List ℕ → Bool
is_name = eq_by_cmp (slice_cmp nat_cmp)

pub is_name_same : (name : List ℕ) → is_name name name ≡ true
is_name_same name = (eq_by_cmp_equiv nat_list_cmp_total).refl name

tied : (o : Ordering) → is_eq o ≡ true → o ≡ Equal
tied Less e = cc
tied Equal e = refl
tied Greater e = cc

-- A name that is found under another is that name.
pub named : (q name : List ℕ) → is_name q name ≡ true → q ≡ name
named q name e = slice_cmp-IsAntisymmetric nat_cmp-IsAntisymmetric q name (tied (slice_cmp nat_cmp q name) e)

either : {X : Type 0} (a b : Bool) (v w : X) (o : Option X) → (a ≡ true → b ≡ true → ⊥) → cond a (Some w) (cond b (Some v) o) ≡ cond b (Some v) (cond a (Some w) o)
either true true v w o apart = absurd (apart refl refl)
either true false v w o apart = refl
either false b v w o apart = refl

at_itself : {X : Type 0} (b : Bool) (v w : X) (o : Option X) → cond b (Some w) (cond b (Some v) o) ≡ cond b (Some w) o
at_itself true v w o = refl
at_itself false v w o = refl

pub get_put_same : {X : Type 0} (m : Named X) (name : List ℕ) (v : X) → get (insert m name v) name ≡ Some v
get_put_same m name v = get-insert nat_list_cmp_total m name v name ∙ ap (λ b. cond b (Some v) (get m name)) (is_name_same name)

pub put_twice : {X : Type 0} (m : Named X) (name : List ℕ) (v w : X) → insert (insert m name v) name w ≡ insert m name w
put_twice m name v w =
    same_map nat_list_cmp_total (slice_cmp-IsAntisymmetric nat_cmp-IsAntisymmetric) _ _
    (λ q. get-insert nat_list_cmp_total (insert m name v) name w q
    ∙ ap (cond (is_name q name) (Some w)) (get-insert nat_list_cmp_total m name v q)
    ∙ at_itself (is_name q name) v w (get m q)
    ∙ sym (get-insert nat_list_cmp_total m name w q))

-- Only equal names are found under one name.
pub is_name_other : (q name : List ℕ) → q ≢ name → is_name q name ≡ false
is_name_other q name apart = by (is_name q name) refl
  where
    by : (b : Bool) → is_name q name ≡ b → b ≡ false
    by true e = absurd (apart (named q name e))
    by false e = refl

pub get_put_other : {X : Type 0} (m : Named X) (name q : List ℕ) (v : X) → q ≢ name → get (insert m name v) q ≡ get m q
get_put_other m name q v apart = get-insert nat_list_cmp_total m name v q ∙ ap (λ b. cond b (Some v) (get m q)) (is_name_other q name apart)

-- To put a value that is there changes nothing.
pub put_there : {X : Type 0} (m : Named X) (name : List ℕ) (v : X) → get m name ≡ Some v → insert m name v ≡ m
put_there m name v there =
    same_map nat_list_cmp_total (slice_cmp-IsAntisymmetric nat_cmp-IsAntisymmetric) _ _
    (λ q. get-insert nat_list_cmp_total m name v q ∙ by q (is_name q name) refl)
  where
    by : (q : List ℕ) (b : Bool) → is_name q name ≡ b → cond b (Some v) (get m q) ≡ get m q
    by q true e = sym (ap (get m) (named q name e) ∙ there)
    by q false e = refl

-- Two names that differ may be put in either order.
pub put_swapped : {X : Type 0} (m : Named X) (a b : List ℕ) (v w : X) → a ≢ b → insert (insert m a v) b w ≡ insert (insert m b w) a v
put_swapped m a b v w apart =
    same_map nat_list_cmp_total (slice_cmp-IsAntisymmetric nat_cmp-IsAntisymmetric) _ _
    (λ q. get-insert nat_list_cmp_total (insert m a v) b w q
    ∙ ap (cond (is_name q b) (Some w)) (get-insert nat_list_cmp_total m a v q)
    ∙ either (is_name q b) (is_name q a) v w (get m q) (λ x y. apart (sym (named q a y) ∙ named q b x))
    ∙ sym (get-insert nat_list_cmp_total (insert m b w) a v q
    ∙ ap (cond (is_name q a) (Some v)) (get-insert nat_list_cmp_total m b w q)))

pub content_put_same : (files : Files) (name bytes : List ℕ) → content (insert files name bytes) name ≡ bytes
content_put_same files name bytes = ap (λ o. unwrap_or o []) (get_put_same files name bytes)

pub added_nothing : (name : List ℕ) (files : Files) → added name [] files ≡ files
unfolding added
added_nothing name files = refl

-- Added twice is added once, one list after the other.
pub added_twice : (name first second : List ℕ) (files : Files) → added name second (added name first files) ≡ added name (first ++ second) files
unfolding added
added_twice name [] second files = refl
added_twice name (a ∷ first) [] files = ap (λ bytes. insert files name (content files name ++ a ∷ bytes)) (sym (append-nil first))
added_twice name (a ∷ first) (b ∷ second) files =
    put_twice files name (content files name ++ a ∷ first) _
    ∙ ap (λ before. insert files name (before ++ b ∷ second)) (content_put_same files name (content files name ++ a ∷ first))
    ∙ ap (insert files name) (append_assoc (content files name) (a ∷ first) (b ∷ second))

-- What is added to a file that was just made is the file.
pub added_to_new : (name bytes : List ℕ) (files : Files) → added name bytes (insert files name []) ≡ insert files name bytes
unfolding added
added_to_new name [] files = refl
added_to_new name (b ∷ bytes) files =
    put_twice files name [] _ ∙ ap (λ before. insert files name (before ++ b ∷ bytes)) (content_put_same files name [])

pub content_added_same : (name bytes : List ℕ) (files : Files) → content (added name bytes files) name ≡ content files name ++ bytes
unfolding added
content_added_same name [] files = sym (append-nil (content files name))
content_added_same name (b ∷ bytes) files = content_put_same files name (content files name ++ b ∷ bytes)

pub get_added_other : (name q bytes : List ℕ) (files : Files) → q ≢ name → get (added name bytes files) q ≡ get files q
unfolding added
get_added_other name q [] files apart = refl
get_added_other name q (b ∷ bytes) files apart = get_put_other files name q (content files name ++ b ∷ bytes) apart

-- These laws of maps that contracts may not see.
pub added_if_seen_nothing : (name : List ℕ) (files : Option Files) → added_if_seen name [] files ≡ files
added_if_seen_nothing name None = refl
added_if_seen_nothing name (Some m) = ap Some (added_nothing name m)

pub added_if_seen_twice : (name first second : List ℕ) (files : Option Files) → added_if_seen name second (added_if_seen name first files) ≡ added_if_seen name (first ++ second) files
added_if_seen_twice name first second None = refl
added_if_seen_twice name first second (Some m) = ap Some (added_twice name first second m)

pub added_if_seen_to_new : (name bytes : List ℕ) (files : Option Files) → added_if_seen name bytes (put_if_seen name [] files) ≡ put_if_seen name bytes files
added_if_seen_to_new name bytes None = refl
added_if_seen_to_new name bytes (Some m) = ap Some (added_to_new name bytes m)
