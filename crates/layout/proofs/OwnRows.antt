-- The row of an item: what it has of the item, and that its output section is the one of the item's name in its class.
use Rattle.std.proofs.Common.{◌≡◌, ℕ, zero, suc, ◌+◌, ◌*◌, ◌-◌, ◌^◌, ◌<◌, ◌≤◌, ◌&&◌, ◌||◌, nat_le, nat_lt, Bool, true, false, if◌then◌else◌, Option, Some, None, List, [], ◌∷◌, ◌++◌, length, drop, All, refl, ap, sym, ◌∙◌, subst, arith}
use Rattle.std.specs.Prelude.{slice_get, unwrap_or}
use Rattle.std.specs.List.{list_any}
use Rattle.std.specs.Str.{bytes_eq}
use Rattle.std.proofs.lemmas.Bool.{and_from, and_parts, leb-true, or_left, or_right}
use Rattle.std.proofs.lemmas.List.{length-drop}
use Rattle.std.proofs.lemmas.List.Elements.{All-nil, All-head, All-tail, All-cons}
use Rattle.std.proofs.lemmas.Option.{slice_get_within}
use Rattle.std.proofs.lemmas.Slice.Eq.{bytes_eq-Decides}
use Rattle.lk_base.proofs.StableElements.{all_stable}
use Rattle.lk_tables.specs.declared.classes.Class.{Class}
use Rattle.lk_tables.specs.declared.classes.Class.TheVariants.{R, Rx, TlsBits, TlsNobits, RwBits, RwNobits}
use Rattle.lk_tables.specs.Classes.{output_rank}
use Rattle.lk_tables.specs.OutputNames.{is_numbered, is_under, number_of, output_name, priority_of}
use Rattle.link_sections.specs.declared.members.Content.{Content}
use Rattle.output_sections.specs.declared.heads.Head.{Head}
use Rattle.output_sections.specs.declared.rows.Row.{Row}
use Rattle.output_sections.specs.Items.{Item}
use Rattle.output_sections.specs.Order.{item_goes_to, head_after, head_from, head_of, is_of, key_of, no_head, order_of, orders_of, own_row, row_in, rows_from, rows_in, rows_of, with_item}
use Rattle.layout.specs.Walk.{name_of_item}
use Rattle.std.specs.Prelude.{codes}

-- a priority is a number of five digits, or the one of a name without a number
abbrev limit : List ℕ → ℕ → ℕ
limit [] most = most
limit (d ∷ ds) most = limit ds (10 * most + 10)

number_most : (ds : List ℕ) (n most : ℕ) → n ≤ most → unwrap_or (number_of ds n) 65536 ≤ 65536 + limit ds most
number_most [] n most le = omega (arith, le)
number_most (d ∷ ds) n most le = by (nat_le 48 d && nat_le d 57) refl (number_most ds (10 * n + (d - 48)) (10 * most + 10))
  where
    by : (t : Bool) → (nat_le 48 d && nat_le d 57) ≡ t
        → (10 * n + (d - 48) ≤ 10 * most + 10 → unwrap_or (number_of ds (10 * n + (d - 48))) 65536 ≤ 65536 + limit ds (10 * most + 10))
        → unwrap_or (if t then number_of ds (10 * n + (d - 48)) else None) 65536 ≤ 65536 + limit ds (10 * most + 10)
    by true is later =
        let low : d ≤ 57 = leb-true d 57 (and_parts (nat_le 48 d) (nat_le d 57) is).1 in
        later (omega (arith, le, low))
    by false is later = omega arith

five_most : (ds : List ℕ) → length ds ≤ 5 → limit ds 0 ≤ 200000
five_most [] few = omega arith
five_most (a ∷ []) few = omega arith
five_most (a ∷ b ∷ []) few = omega arith
five_most (a ∷ b ∷ c ∷ []) few = omega arith
five_most (a ∷ b ∷ c ∷ d ∷ []) few = omega arith
five_most (a ∷ b ∷ c ∷ d ∷ e ∷ []) few = omega arith
five_most (a ∷ b ∷ c ∷ d ∷ e ∷ f ∷ ds) few = absurd (omega (arith, few))

priority_small : (name : List ℕ) → priority_of name < 2 ^ 32
unfolding priority_of
priority_small name = by (is_numbered name) refl
  where
    by : (t : Bool) → is_numbered name ≡ t → (if t then unwrap_or (number_of (drop 12 name) 0) 65536 else 65536) < 2 ^ 32
    by true is =
        let lengths = and_parts (is_under (codes ".init_array") name || is_under (codes ".fini_array") name) (nat_le 13 (length name) && nat_le (length name) 17) is in
        let most : length name ≤ 17 = leb-true (length name) 17 (and_parts (nat_le 13 (length name)) (nat_le (length name) 17) lengths.1).1 in
        let few : length (drop 12 name) ≤ 5 = omega (arith, length-drop 12 name, most) in
        omega (arith, number_most (drop 12 name) 0 0 (omega arith), five_most (drop 12 name) few)
    by false is = omega arith

-- the items from a number on
abbrev Fits : List Item → ℕ → List Item → Type 0
Fits parts number rest = (i : ℕ) → slice_get parts (number + i) ≡ slice_get rest i

fits_all : (parts : List Item) → Fits parts 0 parts
fits_all parts = λ i. let e : 0 + i ≡ i = omega arith in ap (slice_get parts) e

fits_here : (parts : List Item) (number : ℕ) (item : Item) (rest : List Item) → Fits parts number (item ∷ rest) → slice_get parts number ≡ Some item
fits_here parts number item rest fits = let e : number ≡ number + 0 = omega arith in ap (slice_get parts) e ∙ fits 0

fits_next : (parts : List Item) (number : ℕ) (item : Item) (rest : List Item) → Fits parts number (item ∷ rest) → Fits parts (number + 1) rest
fits_next parts number item rest fits = λ i. let e : (number + 1) + i ≡ number + suc i = omega arith in ap (slice_get parts) e ∙ fits (suc i)

-- an output section keeps its number
record Stays (h : Head) (found : Option Head) : Type 0 where
  head : Head
  is : found ≡ Some head
  same : head.group ≡ h.group

stays_after : (class : Class) (name : List ℕ) (h : Head) (number : ℕ) (item : Item) → Stays h (head_after class name (Some h) number item)
unfolding head_after with_item
stays_after class name h number item = by (item_goes_to class name item) (nat_lt (priority_of item.name) h.priority)
  where
    by : (t s : Bool) → Stays h (if t then Some (if s then record { group = h.group; priority = priority_of item.name; sh_type = item.sh_type } else h) else Some h)
    by true true = record { head = record { group = h.group; priority = priority_of item.name; sh_type = item.sh_type }; is = refl; same = refl }
    by true false = record { head = h; is = refl; same = refl }
    by false s = record { head = h; is = refl; same = refl }

stays_from : (class : Class) (name : List ℕ) (h : Head) (number : ℕ) (rest : List Item) → Stays h (head_from class name (Some h) number rest)
stays_from class name h number [] = record { head = h; is = refl; same = refl }
stays_from class name h number (item ∷ rest) =
    let one = stays_after class name h number item in
    let more = stays_from class name one.head (number + 1) rest in
    record { head = more.head; is = ap (λ k. head_from class name k (number + 1) rest) one.is ∙ more.is; same = more.same ∙ one.same }

-- which is that of its first item
record IsFound (parts : List Item) (name : List ℕ) (found : Option Head) : Type 0 where
  head : Head
  is : found ≡ Some head
  item : Item
  there : slice_get parts head.group ≡ Some item
  name_is : output_name item.name ≡ name

after_is : (class : Class) (name : List ℕ) (head : Option Head) (number : ℕ) (item : Item) (t : Bool) → item_goes_to class name item ≡ t
    → head_after class name head number item ≡ (if t then Some (with_item head number item) else head)
unfolding head_after
after_is class name head number item t is = ap (λ b. if b then Some (with_item head number item) else head) is

first_group_is : (number : ℕ) (item : Item) → (with_item None number item).group ≡ number
unfolding with_item
first_group_is number item = refl

found_from : (class : Class) (parts : List Item) (name : List ℕ) (number : ℕ) (rest : List Item) → list_any (item_goes_to class name) rest ≡ true → Fits parts number rest
    → IsFound parts name (head_from class name None number rest)
found_from class parts name number [] some fits = let none : ⊥ = cc in absurd none
found_from class parts name number (item ∷ rest) some fits =
    by (item_goes_to class name item) refl some (λ later. found_from class parts name (number + 1) rest later (fits_next parts number item rest fits))
  where
    by : (t : Bool) → item_goes_to class name item ≡ t → (t || list_any (item_goes_to class name) rest) ≡ true
        → (list_any (item_goes_to class name) rest ≡ true → IsFound parts name (head_from class name None (number + 1) rest))
        → IsFound parts name (head_from class name (head_after class name None number item) (number + 1) rest)
    by true is any later =
        let first : Head = with_item None number item in
        let more = stays_from class name first (number + 1) rest in
        record {
          head = more.head;
          is = ap (λ k. head_from class name k (number + 1) rest) (after_is class name None number item true is) ∙ more.is;
          item = item;
          there = ap (slice_get parts) (more.same ∙ first_group_is number item) ∙ fits_here parts number item rest fits;
          name_is = (bytes_eq-Decides (output_name item.name) name).0 (and_parts (is_of class item) (bytes_eq (output_name item.name) name) is).1;
        }
    by false is any later =
        let more = later any in
        record {
          head = more.head;
          is = ap (λ k. head_from class name k (number + 1) rest) (after_is class name None number item false is) ∙ more.is;
          item = more.item;
          there = more.there;
          name_is = more.name_is;
        }

any_at : (test : Item → Bool) (xs : List Item) (n : ℕ) (x : Item) → slice_get xs n ≡ Some x → test x ≡ true → list_any test xs ≡ true
any_at test [] n x at is = let none : ⊥ = cc in absurd none
any_at test (y ∷ ys) zero x at is =
    let same : y ≡ x = ap (λ o. unwrap_or o y) at in
    or_left (test y) (list_any test ys) (ap test same ∙ is)
any_at test (y ∷ ys) (suc n) x at is = or_right (test y) (list_any test ys) (any_at test ys n x at is)

-- what a row of a class has of its item; its output section has the number of the first item of that name
pub record IsRow (class : Class) (parts : List Item) (item : Item) (row : Row) : Type 0 where
  pub number : slice_get parts row.number ≡ Some item
  pub in_class : is_of class item ≡ true
  pub size : row.size ≡ item.size
  pub align : row.align ≡ item.align
  pub group : row.group ≡ (head_of class parts (output_name item.name)).group
  pub rank : row.rank ≡ output_rank class (head_of class parts (output_name item.name)).sh_type (output_name item.name)
  pub named : name_of_item (slice_get parts row.group) ≡ output_name item.name
  pub low : row.group < 2 ^ 32
  pub priority : row.priority < 2 ^ 32

one_row : (class : Class) (parts : List Item) (number : ℕ) (item : Item) → length parts ≤ 2 ^ 30 → slice_get parts number ≡ Some item → is_of class item ≡ true
    → IsRow class parts item (row_in class (head_of class parts (output_name item.name)) number item)
unfolding row_in
one_row class parts number item few at is =
    let name : List ℕ = output_name item.name in
    let goes : item_goes_to class name item ≡ true = and_from (is_of class item) (bytes_eq name name) is ((bytes_eq-Decides name name).1 refl) in
    let found = found_from class parts name 0 parts (any_at (item_goes_to class name) parts number item at goes) (fits_all parts) in
    let head : head_of class parts name ≡ found.head = ap (λ h. unwrap_or h no_head) found.is in
    let there : slice_get parts (head_of class parts name).group ≡ Some found.item = ap (λ (h : Head). slice_get parts h.group) head ∙ found.there in
    record {
      number = at;
      in_class = is;
      size = refl;
      align = refl;
      group = refl;
      rank = refl;
      named = ap name_of_item there ∙ found.name_is;
      low = omega (arith, slice_get_within parts (head_of class parts name).group found.item there, few);
      priority = priority_small item.name;
    }

-- `own` gives each item by what it is
module _ (own : Content → Item) (class : Class) (parts : List Item) (few : length parts ≤ 2 ^ 30) where
  abbrev IsOwn : Row → Type 0
  IsOwn row = IsRow class parts (own row.content) row

  row_own : (number : ℕ) (item : Item) → slice_get parts number ≡ Some item → is_of class item ≡ true → item ≡ own item.content
      → IsOwn (row_in class (head_of class parts (output_name item.name)) number item)
  unfolding row_in
  row_own number item at is same =
      subst (λ x. IsRow class parts x (row_in class (head_of class parts (output_name item.name)) number item)) same (one_row class parts number item few at is)

  rows_own : (number : ℕ) (rest : List Item) → Fits parts number rest → All (λ (item : Item). item ≡ own item.content) rest → All IsOwn (rows_from class (head_of class parts) number rest)
  unfolding own_row
  rows_own number [] fits all = All-nil IsOwn
  rows_own number (item ∷ rest) fits all =
      by (is_of class item) refl (rows_own (number + 1) rest (fits_next parts number item rest fits) (All-tail (λ (x : Item). x ≡ own x.content) item rest all))
    where
      by : (t : Bool) → is_of class item ≡ t → All IsOwn (rows_from class (head_of class parts) (number + 1) rest)
          → All IsOwn ((if t then row_in class (head_of class parts (output_name item.name)) number item ∷ [] else []) ++ rows_from class (head_of class parts) (number + 1) rest)
      by true is later =
          All-cons IsOwn (row_in class (head_of class parts (output_name item.name)) number item) (rows_from class (head_of class parts) (number + 1) rest)
          (row_own number item (fits_here parts number item rest fits) is (All-head (λ (x : Item). x ≡ own x.content) item rest all)) later
      by false is later = later

  pub order_own : All (λ (item : Item). item ≡ own item.content) parts → All IsOwn (order_of class parts)
  order_own all = all_stable IsOwn key_of (rows_of class parts) (rows_own 0 parts (fits_all parts) all)

pub each_own : (own : Content → Item) (parts : List Item) → length parts ≤ 2 ^ 30 → All (λ (item : Item). item ≡ own item.content) parts
    → (class : Class) → All (λ row. IsRow class parts (own row.content) row) (rows_in (orders_of parts) class)
unfolding orders_of
each_own own parts few all R = order_own own R parts few all
each_own own parts few all Rx = order_own own Rx parts few all
each_own own parts few all TlsBits = order_own own TlsBits parts few all
each_own own parts few all TlsNobits = order_own own TlsNobits parts few all
each_own own parts few all RwBits = order_own own RwBits parts few all
each_own own parts few all RwNobits = order_own own RwNobits parts few all
