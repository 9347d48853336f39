-- One more item, in the output sections known by their names.
use Rattle.std.proofs.Common.{◌≡◌, ℕ, suc, ◌+◌, ◌<◌, ◌≤◌, List, [], ◌∷◌, ◌++◌, Bool, true, false, ◌&&◌, cond, if◌then◌else◌, refl, ap, sym, ◌∙◌, drop, append_assoc, get_or, length, arith}
use Rattle.std.specs.Prelude.{Option, Some, None, unwrap_or}
use Rattle.std.specs.BTreeMap.{is_at}
use Rattle.std.specs.Cmp.Lexicographic.{slice_cmp}
use Rattle.std.specs.Map.{lookup, update}
use Rattle.std.specs.Ordering.{nat_cmp}
use Rattle.std.specs.Str.{bytes_eq}
use Rattle.std.proofs.Math.Seq.{drop-cons}
use Rattle.std.proofs.lemmas.Slice.Eq.{bytes_eq-Decides}
use Rattle.lk_tables.specs.declared.classes.Class.{Class}
use Rattle.lk_tables.specs.OutputNames.{output_name}
use Rattle.output_sections.specs.declared.items.Item.{Item as HeldItem}
use Rattle.output_sections.specs.declared.heads.Head.{Head}
use Rattle.output_sections.specs.declared.rows.Row.{Row}
use Rattle.output_sections.specs.Items.{Item}
use Rattle.output_sections.specs.ItemViews.{item_view, items_view}
use Rattle.output_sections.specs.declared.heads.ClassHeads.{ClassHeads}
use Rattle.output_sections.specs.Heads.{ByName, IsHeads, IsLast, IsNone, IsNoted, IsPushed, head_in, seen}
use Rattle.output_sections.specs.Order.{head_after, head_from, head_of, is_of, no_head, own_row, row_in, rows_from, rows_of, with_item}
use Rattle.std.proofs.lemmas.List.{append-nil, drop_all}

noted_by : (b : Bool) (f : List ℕ → Option Head) (own name : List ℕ) (number : ℕ) (item : Item) → bytes_eq own name ≡ b
    → cond b (Some (with_item (f own) number item)) (f name) ≡ (if b then Some (with_item (f name) number item) else f name)
noted_by true f own name number item e = ap (λ n. Some (with_item (f n) number item)) ((bytes_eq-Decides own name).0 e)
noted_by false f own name number item e = refl

-- an item of the class changes the output section of its name alone
pub noted : (class : Class) (f g : List ℕ → Option Head) (number : ℕ) (item : Item) (name own : List ℕ) (head : Option Head) (value : Head)
    → is_of class item ≡ true → own ≡ output_name item.name → head ≡ f own → value ≡ with_item head number item
    → g name ≡ update bytes_eq f own (Some value) name → g name ≡ head_after class name (f name) number item
unfolding head_after
noted class f g number item name own head value here own_is head_is value_is is =
    is ∙ ap (λ v. cond (bytes_eq own name) (Some v) (f name)) (value_is ∙ ap (λ h. with_item h number item) head_is)
    ∙ noted_by (bytes_eq own name) f own name number item refl
    ∙ ap (λ o. if bytes_eq o name then Some (with_item (f name) number item) else f name) own_is
    ∙ ap (λ b. if b && bytes_eq (output_name item.name) name then Some (with_item (f name) number item) else f name) (sym here)

same_by : (b : Bool) (f : List ℕ → Option Head) (own name : List ℕ) (number : ℕ) (item : Item) → bytes_eq own name ≡ b → Some (with_item (f own) number item) ≡ f own
    → f name ≡ (if b then Some (with_item (f name) number item) else f name)
same_by true f own name number item e stays =
    let there : own ≡ name = (bytes_eq-Decides own name).0 e in
    sym (ap f there) ∙ sym stays ∙ ap (λ n. Some (with_item (f n) number item)) there
same_by false f own name number item e stays = refl

-- one that leaves what is known of it changes none
pub noted_same : (class : Class) (f : List ℕ → Option Head) (number : ℕ) (item : Item) (name own : List ℕ) → is_of class item ≡ true → own ≡ output_name item.name
    → Some (with_item (f own) number item) ≡ f own → f name ≡ head_after class name (f name) number item
unfolding head_after
noted_same class f number item name own here own_is stays =
    same_by (bytes_eq own name) f own name number item refl stays
    ∙ ap (λ o. if bytes_eq o name then Some (with_item (f name) number item) else f name) own_is
    ∙ ap (λ b. if b && bytes_eq (output_name item.name) name then Some (with_item (f name) number item) else f name) (sym here)

-- one of an output section that nothing was known of leaves what is known of all others
new_by : (b : Bool) (f : List ℕ → Option Head) (own name : List ℕ) (value head : Head) → bytes_eq own name ≡ b → f own ≡ None → f name ≡ Some head
    → cond b (Some value) (f name) ≡ Some head
new_by true f own name value head e none was =
    let there : own ≡ name = (bytes_eq-Decides own name).0 e in
    let both : None ≡ Some head = sym none ∙ ap f there ∙ was in
    let no : ⊥ = cc in
    absurd no
new_by false f own name value head e none was = was

pub new_stays : (f g : List ℕ → Option Head) (own name : List ℕ) (value head : Head) → f own ≡ None → g name ≡ update bytes_eq f own (Some value) name → f name ≡ Some head
    → g name ≡ Some head
new_stays f g own name value head none is was = is ∙ new_by (bytes_eq own name) f own name value head refl none was

-- what is then known of its own
pub noted_own : (f g : List ℕ → Option Head) (own : List ℕ) (value : Head) → g own ≡ update bytes_eq f own (Some value) own → Some value ≡ g own
noted_own f g own value is = sym (is ∙ ap (λ b. cond b (Some value) (f own)) ((bytes_eq-Decides own own).1 refl))

-- an item of another class changes none
pub passed : (class : Class) (head : Option Head) (number : ℕ) (item : Item) (name : List ℕ) → is_of class item ≡ false → head ≡ head_after class name head number item
unfolding head_after
passed class head number item name other =
    ap (λ b. if b && bytes_eq (output_name item.name) name then Some (with_item head number item) else head) (sym other)

-- one more row
pub own_same : (class : Class) (f g : List ℕ → Head) (number : ℕ) (item : Item) → f (output_name item.name) ≡ g (output_name item.name)
    → own_row class f number item ≡ own_row class g number item
unfolding own_row
own_same class f g number item e = ap (λ h. if is_of class item then row_in class h number item ∷ [] else []) e

pub drop_next : {X : Type 0} (xs : List X) (i : ℕ) (d : X) → i < length xs → drop i xs ≡ get_or xs i d ∷ drop (i + 1) xs
drop_next xs i d lt = let e : suc i ≡ i + 1 = omega arith in drop-cons xs i d lt ∙ ap (λ k. get_or xs i d ∷ drop k xs) e

pub row_step : (class : Class) (heads : List ℕ → Head) (i : ℕ) (items : List HeldItem) (d : HeldItem) (old new whole : List Row) → i < length items
    → new ≡ old ++ own_row class heads i (item_view (get_or items i d)) → old ++ rows_from class heads i (items_view (drop i items)) ≡ whole
    → new ++ rows_from class heads (i + 1) (items_view (drop (i + 1) items)) ≡ whole
row_step class heads i items d old new whole lt is held =
    let item : Item = item_view (get_or items i d) in
    let rest : List Row = rows_from class heads (i + 1) (items_view (drop (i + 1) items)) in
    ap (λ l. l ++ rest) is
    ∙ append_assoc old (own_row class heads i item) rest
    ∙ ap (λ l. old ++ rows_from class heads i (items_view l)) (sym (drop_next items i d lt)) ∙ held

-- what is known so far leads to what is known in the end
abbrev pub IsLeft : Class → (i : ℕ) → List HeldItem → ByName → Type 0
IsLeft class i items heads = (name : List ℕ) → head_from class name (seen heads name) i (items_view (drop i items)) ≡ head_from class name None 0 (items_view items)

-- no output section is known at first
pub none_seen : (heads : ByName) (name : List ℕ) → heads.entries ≡ [] → seen heads name ≡ None
none_seen heads name none = ap (lookup (is_at (λ k. slice_cmp nat_cmp name k.now))) none

pub left_start : (class : Class) (items : List HeldItem) (heads : ByName) → heads.entries ≡ [] → IsLeft class 0 items heads
left_start class items heads none = λ name. ap (λ h. head_from class name h 0 (items_view items)) (none_seen heads name none)

pub left_next : (class : Class) (i : ℕ) (items : List HeldItem) (d : HeldItem) (old new : ByName) → i < length items → IsNoted class i (item_view (get_or items i d)) old new
    → IsLeft class i items old → IsLeft class (i + 1) items new
left_next class i items d old new lt after held = λ name.
    ap (λ h. head_from class name h (i + 1) (items_view (drop (i + 1) items))) (after name)
    ∙ ap (λ l. head_from class name (seen old name) i (items_view l)) (sym (drop_next items i d lt)) ∙ held name

pub left_end : (class : Class) (i : ℕ) (items : List HeldItem) (heads : ByName) → length items ≤ i → IsLeft class i items heads → IsHeads class (items_view items) heads
left_end class i items heads end held = λ name.
    let none : drop i items ≡ [] = drop_all i items end in
    ap (λ l. head_from class name (seen heads name) i (items_view l)) (sym none) ∙ held name

-- the rows so far lead to all rows
abbrev pub IsRest : Class → (i : ℕ) → List HeldItem → List Row → Type 0
IsRest class i items rows = rows ++ rows_from class (head_of class (items_view items)) i (items_view (drop i items)) ≡ rows_of class (items_view items)

pub rest_next : (class : Class) (i : ℕ) (items : List HeldItem) (d : HeldItem) (heads : ByName) (old new : List Row) → i < length items → IsHeads class (items_view items) heads
    → IsPushed class i (item_view (get_or items i d)) heads old new → IsRest class i items old → IsRest class (i + 1) items new
rest_next class i items d heads old new lt are is held =
    let item : Item = item_view (get_or items i d) in
    let same : own_row class (head_in heads) i item ≡ own_row class (head_of class (items_view items)) i item =
    own_same class (head_in heads) (head_of class (items_view items)) i item (ap (λ h. unwrap_or h no_head) (are (output_name item.name))) in
    row_step class (head_of class (items_view items)) i items d old new (rows_of class (items_view items)) lt (is ∙ ap (λ l. old ++ l) same) held

pub rest_end : (class : Class) (i : ℕ) (items : List HeldItem) (rows : List Row) → length items ≤ i → IsRest class i items rows → rows ≡ rows_of class (items_view items)
rest_end class i items rows end held =
    let none : drop i items ≡ [] = drop_all i items end in
    sym (append-nil rows) ∙ ap (λ l. rows ++ rows_from class (head_of class (items_view items)) i (items_view l)) (sym none) ∙ held

-- what the walk that notes items knows of a class
pub record IsNoting (class : Class) (i : ℕ) (items : List HeldItem) (known : ClassHeads) : Type 0 where
  pub left : IsLeft class i items known.heads
  pub held : IsLast class known.heads known.last

pub noting_first : (class : Class) (items : List HeldItem) (known : ClassHeads) → IsNone class known → IsNoting class 0 items known
noting_first class items known none = record { left = left_start class items known.heads none.empty; held = none.held }

pub noting_next : (class : Class) (i : ℕ) (items : List HeldItem) (d : HeldItem) (old new : ClassHeads) → i < length items
    → IsNoted class i (item_view (get_or items i d)) old.heads new.heads → IsLast class new.heads new.last → IsNoting class i items old → IsNoting class (i + 1) items new
noting_next class i items d old new lt after is held = record { left = left_next class i items d old.heads new.heads lt after held.left; held = is }
