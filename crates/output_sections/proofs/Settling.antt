-- The walk that notes the output sections of a class and lists its items: where what was known of each stays, the rows are those of the class.
use Rattle.std.proofs.Common.{◌≡◌, ℕ, ◌+◌, ◌<◌, ◌≤◌, Bool, true, false, if◌then◌else◌, All, List, [], ◌∷◌, ◌++◌, length, get_or, take, refl, sym, ap, ◌∙◌, subst, append_assoc, inl, inr, arith}
use Rattle.std.specs.Prelude.{Option, Some, None, is_some, unwrap_or}
use Rattle.std.specs.Str.{bytes_eq}
use Rattle.std.proofs.lemmas.Bool.{and_from, cases_Bool}
use Rattle.std.proofs.lemmas.List.{append-nil, length-take-le, take_all, take_more}
use Rattle.std.proofs.lemmas.List.Elements.{All-append, All-cons, All-head, All-nil, All-tail, All-weaker}
use Rattle.std.proofs.lemmas.Slice.Eq.{bytes_eq-Decides}
use Rattle.lk_tables.specs.declared.classes.Class.{Class}
use Rattle.lk_tables.specs.OutputNames.{output_name}
use Rattle.output_sections.specs.declared.heads.ClassHeads.{ClassHeads}
use Rattle.output_sections.specs.declared.heads.Head.{Head}
use Rattle.output_sections.specs.declared.items.Item.{Item as HeldItem}
use Rattle.output_sections.specs.declared.rows.Row.{Row}
use Rattle.output_sections.specs.Heads.{ByName, IsHeads, IsLast, IsNone, IsNoted, IsPushed, Stays, head_in, seen}
use Rattle.output_sections.specs.Items.{Item}
use Rattle.output_sections.specs.ItemViews.{item_view, items_view}
use Rattle.output_sections.specs.Order.{item_goes_to, head_after, head_of, is_of, no_head, own_row, rows_from, rows_of, with_item}
use Rattle.output_sections.proofs.HeadSteps.{IsNoting, noting_first, noting_next, own_same}
use Rattle.output_sections.proofs.RowSteps.{own_none}

-- something is known of the output section of an item
abbrev pub IsMet : Class → ByName → HeldItem → Type 0
IsMet class heads item = is_of class (item_view item) ≡ true → is_some (seen heads (output_name (item_view item).name)) ≡ true

some_after : (class : Class) (name : List ℕ) (o : Option Head) (number : ℕ) (item : Item) → is_some o ≡ true → is_some (head_after class name o number item) ≡ true
unfolding head_after
some_after class name o number item some = by (item_goes_to class name item)
  where
    by : (b : Bool) → is_some (if b then Some (with_item o number item) else o) ≡ true
    by true = refl
    by false = some

own_after : (class : Class) (o : Option Head) (number : ℕ) (item : Item) → is_of class item ≡ true → is_some (head_after class (output_name item.name) o number item) ≡ true
unfolding head_after
own_after class o number item here =
    let own = output_name item.name in
    ap (λ b. is_some (if b then Some (with_item o number item) else o)) (and_from (is_of class item) (bytes_eq own own) here ((bytes_eq-Decides own own).1 refl))

stays_head : (o p : Option Head) → is_some o ≡ true → ((h : Head) → o ≡ Some h → p ≡ Some h) → unwrap_or o no_head ≡ unwrap_or p no_head
stays_head None p some keeps = let no : ⊥ = cc in absurd no
stays_head (Some h) p some keeps = sym (ap (λ q. unwrap_or q no_head) (keeps h refl))

row_kept : (class : Class) (old new : ByName) (n : ℕ) (y : HeldItem) → Stays old new → IsMet class old y → own_row class (head_in old) n (item_view y) ≡ own_row class (head_in new) n (item_view y)
row_kept class old new n y stays met = elim (cases_Bool (is_of class (item_view y))) [
  | inl here ↦
      let name = output_name (item_view y).name in
      own_same class (head_in old) (head_in new) n (item_view y) (stays_head (seen old name) (seen new name) (met here) (λ h was. stays name h was))
  | inr other ↦ sym (own_none class (head_in old) n (item_view y) other) ∙ own_none class (head_in new) n (item_view y) other
]

rows_kept : (class : Class) (old new : ByName) (n : ℕ) (ys : List HeldItem) → Stays old new → All (IsMet class old) ys →
    rows_from class (head_in old) n (items_view ys) ≡ rows_from class (head_in new) n (items_view ys)
rows_kept class old new n [] stays met = refl
rows_kept class old new n (y ∷ ys) stays met =
    ap (λ l. l ++ rows_from class (head_in old) (n + 1) (items_view ys)) (row_kept class old new n y stays (All-head (IsMet class old) y ys met))
    ∙ ap (λ l. own_row class (head_in new) n (item_view y) ++ l) (rows_kept class old new (n + 1) ys stays (All-tail (IsMet class old) y ys met))

rows_more : (class : Class) (h : List ℕ → Head) (n : ℕ) (ys : List HeldItem) (x : HeldItem) →
    rows_from class h n (items_view (ys ++ x ∷ [])) ≡ rows_from class h n (items_view ys) ++ own_row class h (n + length ys) (item_view x)
rows_more class h n [] x =
    let same : n ≡ n + 0 = omega arith in
    append-nil (own_row class h n (item_view x)) ∙ ap (λ k. own_row class h k (item_view x)) same
rows_more class h n (y ∷ ys) x =
    let same : (n + 1) + length ys ≡ n + length (y ∷ ys) = omega arith in
    let own = own_row class h n (item_view y) in
    let rest = rows_from class h (n + 1) (items_view ys) in
    ap (λ l. own ++ l) (rows_more class h (n + 1) ys x) ∙ sym (append_assoc own rest (own_row class h ((n + 1) + length ys) (item_view x)))
    ∙ ap (λ k. (own ++ rest) ++ own_row class h k (item_view x)) same

rows_by : (class : Class) (f g : List ℕ → Head) → ((name : List ℕ) → f name ≡ g name) → (n : ℕ) (ys : List HeldItem) → rows_from class f n (items_view ys) ≡ rows_from class g n (items_view ys)
rows_by class f g same n [] = refl
rows_by class f g same n (y ∷ ys) =
    ap (λ l. l ++ rows_from class f (n + 1) (items_view ys)) (own_same class f g n (item_view y) (same (output_name (item_view y).name)))
    ∙ ap (λ l. own_row class g n (item_view y) ++ l) (rows_by class f g same (n + 1) ys)

pub record IsSettling (class : Class) (i : ℕ) (items : List HeldItem) (known : ClassHeads) (settled : Bool) (rows : List Row) : Type 0 where
  pub noting : IsNoting class i items known
  pub met : All (IsMet class known.heads) (take i items)
  pub rows_are : settled ≡ true → rows ≡ rows_from class (head_in known.heads) 0 (items_view (take i items))

pub settling_first : (class : Class) (items : List HeldItem) (known : ClassHeads) (rows : List Row) → IsNone class known → rows ≡ [] → IsSettling class 0 items known true rows
settling_first class items known rows none empty = record {
  noting = noting_first class items known none;
  met = All-nil (IsMet class known.heads);
  rows_are = λ yes. empty;
}

pub settling_next : (class : Class) (i : ℕ) (items : List HeldItem) (d : HeldItem) (old new : ClassHeads) (settled still : Bool) (rows more : List Row) → i < length items
    → IsNoted class i (item_view (get_or items i d)) old.heads new.heads → IsLast class new.heads new.last → IsPushed class i (item_view (get_or items i d)) new.heads rows more
    → (still ≡ true → (settled ≡ true) × Stays old.heads new.heads) → IsSettling class i items old settled rows → IsSettling class (i + 1) items new still more
settling_next class i items d old new settled still rows more lt noted held pushed tells s =
    let x = get_or items i d in
    let longer : take (i + 1) items ≡ take i items ++ x ∷ [] = take_more items i d lt in
    let Old : HeldItem → Type 0 = IsMet class old.heads in
    let New : HeldItem → Type 0 = IsMet class new.heads in
    let P : List HeldItem → Type 0 = All New in
    let before : All New (take i items) =
    All-weaker Old New (λ y was here.
    let name = output_name (item_view y).name in
    ap is_some (noted name) ∙ some_after class name (seen old.heads name) i (item_view x) (was here)) (take i items) s.met in
    let own : New x = λ here.
    let name = output_name (item_view x).name in
    ap is_some (noted name) ∙ own_after class (seen old.heads name) i (item_view x) here in
    let heads : List ℕ → Head = head_in new.heads in
    let long = length-take-le i items (omega (arith, lt)) in
    let count : 0 + length (take i items) ≡ i = omega (arith, long) in
    record {
      noting = noting_next class i items d old new lt noted held s.noting;
      met = subst P (sym longer) (All-append New (take i items) (x ∷ []) before (All-cons New x [] own (All-nil New)));
      rows_are = λ yes.
          let parts = tells yes in
          pushed ∙ ap (λ l. l ++ own_row class heads i (item_view x)) (s.rows_are parts.0 ∙ rows_kept class old.heads new.heads 0 (take i items) parts.1 s.met)
          ∙ ap (λ k. rows_from class heads 0 (items_view (take i items)) ++ own_row class heads k (item_view x)) (sym count)
          ∙ sym (rows_more class heads 0 (take i items) x) ∙ ap (λ l. rows_from class heads 0 (items_view l)) (sym longer);
    }

pub settling_end : (class : Class) (i : ℕ) (items : List HeldItem) (known : ClassHeads) (settled : Bool) (rows : List Row) → length items ≤ i → IsHeads class (items_view items) known.heads
    → IsSettling class i items known settled rows → settled ≡ true → rows ≡ rows_of class (items_view items)
settling_end class i items known settled rows past heads s on =
    s.rows_are on ∙ ap (λ l. rows_from class (head_in known.heads) 0 (items_view l)) (take_all i items past)
    ∙ rows_by class (head_in known.heads) (head_of class (items_view items)) (λ name. ap (λ h. unwrap_or h no_head) (heads name)) 0 items
