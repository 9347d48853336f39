-- The rows of a class in their order: by output section, then by priority, then by the order of the command.
use Rattle.std.proofs.Common.{◌≡◌, ℕ, zero, suc, ◌+◌, ◌*◌, ◌<◌, ◌≤◌, ◌^◌, ◌⊎◌, ◌==◌, ◌&&◌, ◌||◌, Bool, true, false, if◌then◌else◌, Option, Some, None, List, [], ◌∷◌, ◌++◌, length, flat_map, get_or, refl, sym, ap, ◌∙◌, subst, arith, inl, inr, nat_lt}
use Rattle.std.specs.Prelude.{All, unwrap_or}
use Rattle.std.specs.List.{list_any, range_with_len}
use Rattle.std.specs.Str.{bytes_eq}
use Rattle.std.proofs.lemmas.Bool.{false≢true, and_from, and_parts, eq-eqb, eqb-true}
use Rattle.std.proofs.lemmas.List.{length-append}
use Rattle.std.proofs.lemmas.List.Elements.{All-nil, All-head, All-tail, All-cons, All-append}
use Rattle.std.proofs.lemmas.List.Folds.{list_any-append}
use Rattle.std.proofs.lemmas.Slice.Eq.{bytes_eq-Decides}
use Rattle.lk_base.proofs.StableElements.{all_stable, any_stable}
use Rattle.lk_base.specs.declared.abi.TheConstants.{SHT_NULL}
use Rattle.lk_tables.specs.declared.classes.Class.{Class}
use Rattle.lk_tables.specs.Binding.{Bindings}
use Rattle.lk_tables.specs.Classes.{is_in, output_rank}
use Rattle.lk_tables.specs.Files.{File, section_total}
use Rattle.lk_tables.specs.OutputNames.{output_name, priority_of}
use Rattle.link_sections.specs.declared.members.Content.{Content}
use Rattle.link_sections.specs.declared.members.Content.TheVariants.{Section, Pool as IsPool, Got}
use Rattle.link_sections.specs.declared.pools.Pool.{Pool}
use Rattle.link_sections.specs.InputSections.{InputSection, input_at}
use Rattle.link_sections.specs.Leaders.{leads}
use Rattle.link_sections.specs.Sound.{is_section}
use Rattle.output_sections.specs.declared.heads.Head.{Head}
use Rattle.output_sections.specs.declared.rows.Row.{Row}
use Rattle.output_sections.specs.Items.{Item, got_item, items, items_at, own_item, pool_at, pool_item, section_item}
use Rattle.output_sections.specs.Order.{item_goes_to, head_after, head_from, head_of, is_of, key_of, no_head, order_of, own_row, row_in, rows_from, rows_of, with_item}
use Rattle.link_driver.proofs.Orders.{Later, Pairs, pairs_append, pairs_order}

-- what a row has of its item and of its output section
pub record Fields (r : Row) (class : Class) (h : Head) (item : Item) : Type 0 where
  pub content : r.content ≡ item.content
  pub group : r.group ≡ h.group
  pub rank : r.rank ≡ output_rank class h.sh_type (output_name item.name)
  pub priority : r.priority ≡ priority_of item.name
  pub size : r.size ≡ item.size
  pub align : r.align ≡ item.align

pub fields_of : (class : Class) (h : Head) (n : ℕ) (item : Item) → Fields (row_in class h n item) class h item
unfolding row_in
fields_of class h n item = record { content = refl; group = refl; rank = refl; priority = refl; size = refl; align = refl }

pub key_is : (r : Row) → key_of r ≡ (r.rank * 2 ^ 32 + r.group) * 2 ^ 32 + r.priority
unfolding key_of
key_is r = refl

-- the row of an item of a class
pub record IsRowOf (class : Class) (its : List Item) (r : Row) : Type 0 where
  pub item : Item
  pub number : ℕ
  pub low : number < length its
  pub at : (d : Item) → get_or its number d ≡ item
  pub of : is_of class item ≡ true
  pub has : Fields r class (head_of class its (output_name item.name)) item

each_own : {X : Type 0} (b : Bool) (P : X → Type 0) (x : X) (rest : List X) → (b ≡ true → P x) → All P rest → All P ((if b then x ∷ [] else []) ++ rest)
each_own true P x rest one all = All-cons P x rest (one refl) all
each_own false P x rest one all = all

module _ (class : Class) (its : List Item) where
  abbrev pub heads : List ℕ → Head
  heads = head_of class its

  rows_from_are : (k : ℕ) (rest : List Item) → ((i : ℕ) (d : Item) → i < length rest → get_or its (k + i) d ≡ get_or rest i d) → k + length rest ≡ length its
      → All (IsRowOf class its) (rows_from class heads k rest)
  unfolding own_row
  rows_from_are k [] those long = All-nil (IsRowOf class its)
  rows_from_are k (item ∷ rest) those long =
      each_own (is_of class item) (IsRowOf class its) (row_in class (heads (output_name item.name)) k item) (rows_from class heads (k + 1) rest) (λ of. record {
        item = item;
        number = k;
        low = omega (arith, long);
        at = λ d. let e : k ≡ k + 0 = omega arith in ap (λ n. get_or its n d) e ∙ those 0 d (omega arith);
        of = of;
        has = fields_of class (heads (output_name item.name)) k item;
      })
      (rows_from_are (k + 1) rest (λ i d lt. let e : (k + 1) + i ≡ k + suc i = omega arith in ap (λ n. get_or its n d) e ∙ those (suc i) d (omega (arith, lt))) (omega (arith, long)))

  pub rows_are : All (IsRowOf class its) (order_of class its)
  rows_are =
      all_stable (IsRowOf class its) key_of (rows_of class its) (rows_from_are 0 its (λ i d lt. let e : 0 + i ≡ i = omega arith in ap (λ n. get_or its n d) e) (omega arith))

-- the first item of an output section gives it its number
pub record HasFirst (class : Class) (name : List ℕ) (number : ℕ) (rest : List Item) (found : Option Head) : Type 0 where
  pub head : Head
  pub is : found ≡ Some head
  pub place : ℕ
  pub group : head.group ≡ number + place
  pub low : place < length rest
  pub goes : (d : Item) → item_goes_to class name (get_or rest place d) ≡ true

record Keeps (h : Head) (found : Option Head) : Type 0 where
  head : Head
  is : found ≡ Some head
  group : head.group ≡ h.group

one_more : (h : Head) (number : ℕ) (item : Item) → (with_item (Some h) number item).group ≡ h.group
unfolding with_item
one_more h number item = by (nat_lt (priority_of item.name) h.priority)
  where
    by : (b : Bool) → (if b then record { group = h.group; priority = priority_of item.name; sh_type = item.sh_type } else h).group ≡ h.group
    by true = refl
    by false = refl

first_one : (number : ℕ) (item : Item) → (with_item None number item).group ≡ number
unfolding with_item
first_one number item = refl

keeps : (class : Class) (name : List ℕ) (h : Head) (number : ℕ) (rest : List Item) → Keeps h (head_from class name (Some h) number rest)
unfolding head_after
keeps class name h number [] = record { head = h; is = refl; group = refl }
keeps class name h number (item ∷ rest) =
    by (item_goes_to class name item) (keeps class name (with_item (Some h) number item) (number + 1) rest) (keeps class name h (number + 1) rest)
  where
    by : (b : Bool) → Keeps (with_item (Some h) number item) (head_from class name (Some (with_item (Some h) number item)) (number + 1) rest)
        → Keeps h (head_from class name (Some h) (number + 1) rest)
        → Keeps h (head_from class name (if b then Some (with_item (Some h) number item) else Some h) (number + 1) rest)
    by true one other = record { head = one.head; is = one.is; group = one.group ∙ one_more h number item }
    by false one other = other

first_from : (class : Class) (name : List ℕ) (number k : ℕ) (rest : List Item) (d : Item) → k < length rest → item_goes_to class name (get_or rest k d) ≡ true
    → HasFirst class name number rest (head_from class name None number rest)
unfolding head_after
first_from class name number k [] d lt goes = absurd (omega (arith, lt))
first_from class name number k (item ∷ rest) d lt goes =
    by (item_goes_to class name item) refl (keeps class name (with_item None number item) (number + 1) rest) (λ other. later k lt goes other)
    (λ i low passes. first_from class name (number + 1) i rest d low passes)
  where
    later : (j : ℕ) → j < length (item ∷ rest) → item_goes_to class name (get_or (item ∷ rest) j d) ≡ true → item_goes_to class name item ≡ false
        → (i : ℕ) × (i < length rest) × (item_goes_to class name (get_or rest i d) ≡ true)
    later zero lt goes other = absurd (false≢true (sym other ∙ goes))
    later (suc i) lt goes other = (i, omega (arith, lt), goes)

    by : (b : Bool) → item_goes_to class name item ≡ b → Keeps (with_item None number item) (head_from class name (Some (with_item None number item)) (number + 1) rest)
        → (item_goes_to class name item ≡ false → (i : ℕ) × (i < length rest) × (item_goes_to class name (get_or rest i d) ≡ true))
        → ((i : ℕ) → i < length rest → item_goes_to class name (get_or rest i d) ≡ true → HasFirst class name (number + 1) rest (head_from class name None (number + 1) rest))
        → HasFirst class name number (item ∷ rest) (head_from class name (if b then Some (with_item None number item) else None) (number + 1) rest)
    by true here one next more = record {
      head = one.head;
      is = one.is;
      place = 0;
      group = one.group ∙ first_one number item ∙ (let e : number ≡ number + 0 = omega arith in e);
      low = omega arith;
      goes = λ e. here;
    }
    by false here one next more =
        let at = next here in
        let found = more at.0 at.1 at.2 in
        record {
          head = found.head;
          is = found.is;
          place = suc found.place;
          group = omega (arith, found.group);
          low = omega (arith, found.low);
          goes = found.goes;
        }

-- so rows of one number have one name
pub texts_same : (a b : List ℕ) → bytes_eq a b ≡ true → a ≡ b
texts_same a b is = let d = bytes_eq-Decides a b in d.0 is

pub text_is : (a : List ℕ) → bytes_eq a a ≡ true
text_is a = let d = bytes_eq-Decides a a in d.1 refl

pub record InGroup (class : Class) (its : List Item) (r : Row) (name : List ℕ) : Type 0 where
  pub low : r.group < length its
  pub goes : (d : Item) → item_goes_to class name (get_or its r.group d) ≡ true

pub group_of_row : (class : Class) (its : List Item) (r : Row) (is : IsRowOf class its r) → InGroup class its r (output_name is.item.name)
group_of_row class its r is =
    let name : List ℕ = output_name is.item.name in
    let goes : item_goes_to class name (get_or its is.number is.item) ≡ true =
    ap (item_goes_to class name) (is.at is.item) ∙ and_from (is_of class is.item) (bytes_eq name name) is.of (text_is name) in
    let first = first_from class name 0 is.number its is.item is.low goes in
    let own : r.group ≡ first.place = is.has.group ∙ ap (λ h. (unwrap_or h no_head).group) first.is ∙ first.group ∙ (let e : 0 + first.place ≡ first.place = omega arith in e) in
    record { low = omega (arith, own, first.low); goes = λ d. ap (λ k. item_goes_to class name (get_or its k d)) own ∙ first.goes d }

pub same_names : (class : Class) (its : List Item) (r s : Row) (one : IsRowOf class its r) (other : IsRowOf class its s) → r.group ≡ s.group → output_name one.item.name ≡ output_name other.item.name
same_names class its r s one other same =
    let a = group_of_row class its r one in
    let b = group_of_row class its s other in
    let it : Item = get_or its r.group one.item in
    let x = (and_parts (is_of class it) (bytes_eq (output_name it.name) (output_name one.item.name)) (a.goes one.item)).1 in
    let y = (and_parts (is_of class it) (bytes_eq (output_name it.name) (output_name other.item.name)) (ap (λ k. item_goes_to class (output_name other.item.name) (get_or its k one.item)) same ∙ b.goes one.item)).1 in
    sym (texts_same (output_name it.name) (output_name one.item.name) x) ∙ texts_same (output_name it.name) (output_name other.item.name) y

pub same_groups : (class : Class) (its : List Item) (r s : Row) (one : IsRowOf class its r) (other : IsRowOf class its s) → output_name one.item.name ≡ output_name other.item.name
    → (r.group ≡ s.group) × (r.rank ≡ s.rank)
same_groups class its r s one other same = (
  one.has.group ∙ ap (λ n. (head_of class its n).group) same ∙ sym other.has.group,
  one.has.rank ∙ ap (λ n. output_rank class (head_of class its n).sh_type n) same ∙ sym other.has.rank,
)

-- the items of a link: sections that are their own leaders, pools, and the table
abbrev pub no_pool : Pool
no_pool = record { first = 0; size = 0 }

abbrev pub first_of : List Pool → (p : ℕ) → ℕ
first_of pools p = (get_or pools p no_pool).first

-- in the order of the command: a section, then the pool that it begins; the table is last
abbrev pub seat : List Pool → Content → ℕ
seat pools (Section n) = 2 * n
seat pools (IsPool p) = 2 * first_of pools p + 1
seat pools Got = 2 ^ 33

pub record IsOwnItem (files : List File) (b : Bindings) (leaders : List (Option ℕ)) (item : Item) : Type 0 where
  pub section : ℕ
  pub low : section < section_total files
  pub leader : leads leaders section ≡ true
  pub is : item ≡ section_item section (input_at files b section)

pub record IsPoolItem (files : List File) (b : Bindings) (pools : List Pool) (item : Item) : Type 0 where
  pub pool : ℕ
  pub number : pool < length pools
  pub low : first_of pools pool < section_total files
  pub is : item ≡ pool_item pool (get_or pools pool no_pool).size (input_at files b (first_of pools pool))

abbrev pub IsItem : List File → Bindings → List Pool → (words : ℕ) → List (Option ℕ) → Item → Type 0
IsItem files b pools words leaders item = IsOwnItem files b leaders item ⊎ (IsPoolItem files b pools item ⊎ (item ≡ got_item words))

-- at most one
abbrev Few : {X : Type 0} → List X → Type 0
Few [] = Unit {0}
Few (x ∷ []) = Unit {0}
Few (x ∷ y ∷ ys) = ⊥

few_pairs : {X : Type 0} (R : X → X → Type 0) (xs : List X) → Few xs → Pairs R xs
few_pairs R [] few = tt
few_pairs R (x ∷ []) few = (All-nil (R x), tt)
few_pairs R (x ∷ y ∷ ys) few = absurd few

few_length : {X : Type 0} (xs : List X) → Few xs → length xs ≤ 1
few_length [] few = omega arith
few_length (x ∷ []) few = omega arith
few_length (x ∷ y ∷ ys) few = absurd few

few_if : {X : Type 0} (b : Bool) (x : X) → Few (if b then x ∷ [] else [])
few_if true x = tt
few_if false x = tt

module _ (files : List File) (b : Bindings) (pools : List Pool) (words : ℕ) (leaders : List (Option ℕ)) where
  abbrev P : Item → Type 0
  P = IsItem files b pools words leaders

  own_items : (n : ℕ) → n < section_total files → All P (own_item leaders n (input_at files b n))
  unfolding own_item
  own_items n lt = by (leads leaders n) refl
    where
      by : (t : Bool) → leads leaders n ≡ t → All P (if t then section_item n (input_at files b n) ∷ [] else [])
      by true is = All-cons P (section_item n (input_at files b n)) [] (inl (record { section = n; low = lt; leader = is; is = refl })) (All-nil P)
      by false is = All-nil P

  -- the pool of a section, with its place
  record PoolsAt (n : ℕ) (list : List Item) : Type 0 where
    few : Few list
    all : All P list
    at : All (λ item. seat pools item.content ≡ 2 * n + 1) list

  pools_at : (p : ℕ) (rest : List Pool) (n : ℕ) → n < section_total files → p + length rest ≡ length pools → ((i : ℕ) (d : Pool) → i < length rest → get_or pools (p + i) d ≡ get_or rest i d)
      → PoolsAt n (pool_at p rest n (input_at files b n))
  unfolding pool_at
  pools_at p [] n lt long those = record { few = tt; all = All-nil P; at = All-nil (λ (item : Item). seat pools item.content ≡ 2 * n + 1) }
  pools_at p (pool ∷ rest) n lt long those =
      by (pool.first == n) refl (pools_at (p + 1) rest n lt (omega (arith, long)) (λ i d less. let e : (p + 1) + i ≡ p + suc i = omega arith in ap (λ k. get_or pools k d) e ∙ those (suc i) d (omega (arith, less))))
    where
      by : (t : Bool) → (pool.first == n) ≡ t → PoolsAt n (pool_at (p + 1) rest n (input_at files b n))
          → PoolsAt n (if t then pool_item p pool.size (input_at files b n) ∷ [] else pool_at (p + 1) rest n (input_at files b n))
      by true is later =
          let first : pool.first ≡ n = eqb-true pool.first n is in
          let here : get_or pools p no_pool ≡ pool = let e : p ≡ p + 0 = omega arith in ap (λ k. get_or pools k no_pool) e ∙ those 0 no_pool (omega arith) in
          let first_is : first_of pools p ≡ n = ap (λ (x : Pool). x.first) here ∙ first in
          let size_is : (get_or pools p no_pool).size ≡ pool.size = ap (λ (x : Pool). x.size) here in
          let item : Item = pool_item p pool.size (input_at files b n) in
          record {
            few = tt;
            all = All-cons P item [] (inr (inl (record {
              pool = p;
              number = omega (arith, long);
              low = omega (arith, first_is, lt);
              is = ap (λ k. pool_item p k (input_at files b n)) (sym size_is) ∙ ap (λ k. pool_item p (get_or pools p no_pool).size (input_at files b k)) (sym first_is);
            }))) (All-nil P);
            at = All-cons (λ (x : Item). seat pools x.content ≡ 2 * n + 1) item [] (omega (arith, first_is)) (All-nil (λ (x : Item). seat pools x.content ≡ 2 * n + 1));
          }
      by false is later = later

  own_seats : (n : ℕ) → All (λ item. seat pools item.content ≡ 2 * n) (own_item leaders n (input_at files b n))
  unfolding own_item
  own_seats n = by (leads leaders n)
    where
      Q : Item → Type 0
      Q item = seat pools item.content ≡ 2 * n

      by : (t : Bool) → All Q (if t then section_item n (input_at files b n) ∷ [] else [])
      by true = All-cons Q (section_item n (input_at files b n)) [] refl (All-nil Q)
      by false = All-nil Q

  own_few : (n : ℕ) → Few (own_item leaders n (input_at files b n))
  unfolding own_item
  own_few n = few_if (leads leaders n) (section_item n (input_at files b n))

  abbrev Before : Item → Item → Type 0
  Before x y = seat pools x.content < seat pools y.content

  -- the items of a section number
  record AreAt (n : ℕ) (list : List Item) : Type 0 where
    all : All P list
    pairs : Pairs Before list
    low : All (λ item. 2 * n ≤ seat pools item.content) list
    high : All (λ item. seat pools item.content < 2 * n + 2) list
    few : length list ≤ 2

  items_of_section : (n : ℕ) → n < section_total files → AreAt n (items_at files b pools leaders n)
  unfolding items_at
  items_of_section n lt =
      let own : List Item = own_item leaders n (input_at files b n) in
      let at : PoolsAt n (pool_at 0 pools n (input_at files b n)) = pools_at 0 pools n lt (omega arith) (λ i d less. let e : 0 + i ≡ i = omega arith in ap (λ k. get_or pools k d) e) in
      let list : List Item = pool_at 0 pools n (input_at files b n) in
      let seats = own_seats n in
      let long = length-append own list in
      record {
        all = All-append P own list (own_items n lt) at.all;
        pairs = pairs_append Before own list (few_pairs Before own (own_few n)) (few_pairs Before list at.few) (λ i d less j e lt2. omega (arith, seats i d less, at.at j e lt2));
        low = All-append (λ (x : Item). 2 * n ≤ seat pools x.content) own list (λ i d less. omega (arith, seats i d less)) (λ i d less. omega (arith, at.at i d less));
        high = All-append (λ (x : Item). seat pools x.content < 2 * n + 2) own list (λ i d less. omega (arith, seats i d less)) (λ i d less. omega (arith, at.at i d less));
        few = omega (arith, long, few_length own (own_few n), few_length list at.few);
      }

  record AreFrom (a m : ℕ) (list : List Item) : Type 0 where
    all : All P list
    pairs : Pairs Before list
    low : All (λ item. 2 * a ≤ seat pools item.content) list
    high : All (λ item. seat pools item.content < 2 * (a + m)) list
    few : length list ≤ 2 * m

  items_from : (a m : ℕ) → a + m ≤ section_total files → AreFrom a m (flat_map (items_at files b pools leaders) (range_with_len a m))
  items_from a zero le = record {
    all = All-nil P;
    pairs = tt;
    low = All-nil (λ (x : Item). 2 * a ≤ seat pools x.content);
    high = All-nil (λ (x : Item). seat pools x.content < 2 * (a + zero));
    few = omega arith;
  }
  items_from a (suc m) le =
      let one = items_of_section a (omega (arith, le)) in
      let rest = items_from (a + 1) m (omega (arith, le)) in
      let xs : List Item = items_at files b pools leaders a in
      let ys : List Item = flat_map (items_at files b pools leaders) (range_with_len (a + 1) m) in
      let long = length-append xs ys in
      record {
        all = All-append P xs ys one.all rest.all;
        pairs = pairs_append Before xs ys one.pairs rest.pairs (λ i d less j e lt2. omega (arith, one.high i d less, rest.low j e lt2));
        low = All-append (λ (x : Item). 2 * a ≤ seat pools x.content) xs ys one.low (λ i d less. omega (arith, rest.low i d less));
        high = All-append (λ (x : Item). seat pools x.content < 2 * (a + suc m)) xs ys (λ i d less. omega (arith, one.high i d less)) (λ i d less. omega (arith, rest.high i d less));
        few = omega (arith, long, one.few, rest.few);
      }

  pub record AreItems (list : List Item) : Type 0 where
    pub all : All P list
    pub pairs : Pairs Before list
    pub few : length list ≤ 2 * section_total files + 1

  pub items_are : section_total files ≤ 2 ^ 28 → AreItems (items files b pools words leaders)
  unfolding items
  items_are few =
      let xs : List Item = flat_map (items_at files b pools leaders) (range_with_len 0 (section_total files)) in
      let from = items_from 0 (section_total files) (omega arith) in
      let long = length-append xs (got_item words ∷ []) in
      record {
        all = All-append P xs (got_item words ∷ []) from.all (All-cons P (got_item words) [] (inr (inr refl)) (All-nil P));
        pairs = pairs_append Before xs (got_item words ∷ []) from.pairs (All-nil (Before (got_item words)), tt)
            (λ i d less. All-cons (Before (get_or xs i d)) (got_item words) [] (omega (arith, from.high i d less, few)) (All-nil (Before (get_or xs i d))));
        few = omega (arith, long, from.few);
      }

-- in their rows
rows_all : (class : Class) (heads : List ℕ → Head) (Q : Content → Type 0) (k : ℕ) (rest : List Item) → All (λ item. Q item.content) rest → All (λ r. Q r.content) (rows_from class heads k rest)
unfolding own_row row_in
rows_all class heads Q k [] all = All-nil (λ (r : Row). Q r.content)
rows_all class heads Q k (item ∷ rest) all =
    each_own (is_of class item) (λ (r : Row). Q r.content) (row_in class (heads (output_name item.name)) k item) (rows_from class heads (k + 1) rest)
    (λ of. All-head (λ (x : Item). Q x.content) item rest all) (rows_all class heads Q (k + 1) rest (All-tail (λ (x : Item). Q x.content) item rest all))

own_pairs : {X : Type 0} (b : Bool) (R : X → X → Type 0) (x : X) (rest : List X) → All (R x) rest → Pairs R rest → Pairs R ((if b then x ∷ [] else []) ++ rest)
own_pairs true R x rest one all = (one, all)
own_pairs false R x rest one all = all

rows_pairs : (class : Class) (heads : List ℕ → Head) (R : Content → Content → Type 0) (k : ℕ) (rest : List Item) → Pairs (λ x y. R x.content y.content) rest
    → Pairs (λ r s. R r.content s.content) (rows_from class heads k rest)
unfolding own_row row_in
rows_pairs class heads R k [] is = tt
rows_pairs class heads R k (item ∷ rest) is =
    own_pairs (is_of class item) (λ (r s : Row). R r.content s.content) (row_in class (heads (output_name item.name)) k item) (rows_from class heads (k + 1) rest)
    (rows_all class heads (R item.content) (k + 1) rest is.0) (rows_pairs class heads R (k + 1) rest is.1)

abbrev pub Seated : List Pool → Row → Row → Type 0
Seated pools r s = seat pools r.content < seat pools s.content

pub ordered : (class : Class) (pools : List Pool) (its : List Item) → Pairs (λ x y. seat pools x.content < seat pools y.content) its → Pairs (Later key_of (Seated pools)) (order_of class its)
ordered class pools its pairs =
    pairs_order key_of (Seated pools) (rows_of class its) (rows_pairs class (head_of class its) (λ x y. seat pools x < seat pools y) 0 its pairs)

-- some row of the class is that of an item
own_any : {X : Type 0} (b : Bool) (t : X → Bool) (x : X) (rest : List X) → list_any t ((if b then x ∷ [] else []) ++ rest) ≡ ((b && t x) || list_any t rest)
own_any true t x rest = refl
own_any false t x rest = refl

rows_any : (class : Class) (heads : List ℕ → Head) (t : Content → Bool) (k : ℕ) (rest : List Item)
    → list_any (λ r. t r.content) (rows_from class heads k rest) ≡ list_any (λ item. is_of class item && t item.content) rest
unfolding own_row row_in
rows_any class heads t k [] = refl
rows_any class heads t k (item ∷ rest) =
    own_any (is_of class item) (λ (r : Row). t r.content) (row_in class (heads (output_name item.name)) k item) (rows_from class heads (k + 1) rest)
    ∙ ap (λ b. (is_of class item && t item.content) || b) (rows_any class heads t (k + 1) rest)

any_flat : {X : Type 0} (t : X → Bool) (f : ℕ → List X) (a m k : ℕ) → k < m → list_any t (f (a + k)) ≡ true → list_any t (flat_map f (range_with_len a m)) ≡ true
any_flat t f a zero k lt is = absurd (omega (arith, lt))
any_flat t f a (suc m) zero lt is =
    let e : a + 0 ≡ a = omega arith in
    list_any-append t (f a) (flat_map f (range_with_len (a + 1) m)) ∙ ap (λ b. b || list_any t (flat_map f (range_with_len (a + 1) m))) (sym (ap (λ n. list_any t (f n)) e) ∙ is)
any_flat t f a (suc m) (suc k) lt is =
    let e : (a + 1) + k ≡ a + suc k = omega arith in
    list_any-append t (f a) (flat_map f (range_with_len (a + 1) m))
    ∙ ap (λ b. list_any t (f a) || b) (any_flat t f (a + 1) m k (omega (arith, lt)) (ap (λ n. list_any t (f n)) e ∙ is)) ∙ or_true (list_any t (f a))
  where
    or_true : (b : Bool) → (b || true) ≡ true
    or_true true = refl
    or_true false = refl

pub any_place : {X : Type 0} (t : X → Bool) (xs : List X) (d : X) → list_any t xs ≡ true → (k : ℕ) × (k < length xs) × (t (get_or xs k d) ≡ true)
any_place t [] d is = absurd (false≢true is)
any_place t (x ∷ xs) d is = by (t x) refl is (λ later. any_place t xs d later)
  where
    by : (b : Bool) → t x ≡ b → (b || list_any t xs) ≡ true → (list_any t xs ≡ true → (k : ℕ) × (k < length xs) × (t (get_or xs k d) ≡ true))
        → (k : ℕ) × (k < length (x ∷ xs)) × (t (get_or (x ∷ xs) k d) ≡ true)
    by true here is later = (0, omega arith, here)
    by false here is later = let at = later is in let lt = at.1 in (suc at.0, omega (arith, lt), at.2)

pub section_is : (n : ℕ) (c : Content) → is_section n c ≡ true → c ≡ Section n
section_is n (Section m) is = ap (λ k. Section k) (eqb-true m n is)
section_is n (IsPool p) is = absurd (false≢true is)
section_is n Got is = absurd (false≢true is)

abbrev number_in : Content → ℕ
number_in (Section n) = n
number_in (IsPool p) = p
number_in Got = 0

abbrev pub no_row : Row
no_row = record { number = 0; content = Got; group = 0; rank = 0; priority = 0; sh_type = SHT_NULL; flags = 0; size = 0; align = 1 }

-- the row of a section that is its own leader, at a place among those of its class
pub record SectionRow (class : Class) (its : List Item) (n : ℕ) (s : InputSection) (place : ℕ) : Type 0 where
  pub low : place < length (order_of class its)
  pub is : IsRowOf class its (get_or (order_of class its) place no_row)
  pub content : (get_or (order_of class its) place no_row).content ≡ Section n
  pub of : is_in class s.sh_type s.flags ≡ true
  pub name : is.item.name ≡ s.name
  pub size : (get_or (order_of class its) place no_row).size ≡ s.size
  pub align : (get_or (order_of class its) place no_row).align ≡ s.align

module _ (files : List File) (b : Bindings) (pools : List Pool) (words : ℕ) (leaders : List (Option ℕ)) (few : section_total files ≤ 2 ^ 28) where
  item_is : (item : Item) (n : ℕ) → IsItem files b pools words leaders item → item.content ≡ Section n → item ≡ section_item n (input_at files b n)
  item_is item n (inl own) content =
      let same : own.section ≡ n = ap number_in (sym (ap (λ (x : Item). x.content) own.is) ∙ content) in
      own.is ∙ ap (λ k. section_item k (input_at files b k)) same
  item_is item n (inr (inl pool)) content = absurd (no_pool_is pool.pool n (sym (ap (λ (x : Item). x.content) pool.is) ∙ content))
    where
      no_pool_is : (p m : ℕ) → IsPool p ≡ Section m → ⊥
      no_pool_is p m e = cc
  item_is item n (inr (inr table)) content = absurd (no_table n (sym (ap (λ (x : Item). x.content) table) ∙ content))
    where
      no_table : (m : ℕ) → Got ≡ Section m → ⊥
      no_table m e = cc

  own_listed : (class : Class) (n : ℕ) → leads leaders n ≡ true → is_of class (section_item n (input_at files b n)) ≡ true
      → list_any (λ item. is_of class item && is_section n item.content) (items_at files b pools leaders n) ≡ true
  unfolding items_at own_item
  own_listed class n leader of =
      let t : Item → Bool = λ item. is_of class item && is_section n item.content in
      let list : List Item = pool_at 0 pools n (input_at files b n) in
      let item : Item = section_item n (input_at files b n) in
      ap (λ c. list_any t ((if c then item ∷ [] else []) ++ list)) leader ∙ ap (λ c. c || list_any t list) (and_from (is_of class item) (n == n) of (eq-eqb n n refl))

  listed : (class : Class) (n : ℕ) → n < section_total files → leads leaders n ≡ true → is_of class (section_item n (input_at files b n)) ≡ true
      → list_any (λ item. is_of class item && is_section n item.content) (items files b pools words leaders) ≡ true
  unfolding items
  listed class n lt leader of =
      let t : Item → Bool = λ item. is_of class item && is_section n item.content in
      let e : 0 + n ≡ n = omega arith in
      let here = any_flat t (items_at files b pools leaders) 0 (section_total files) n lt (ap (λ k. list_any t (items_at files b pools leaders k)) e ∙ own_listed class n leader of) in
      list_any-append t (flat_map (items_at files b pools leaders) (range_with_len 0 (section_total files))) (got_item words ∷ []) ∙ ap (λ c. c || list_any t (got_item words ∷ [])) here

  -- the row of a class that is one of a section
  pub row_at : (class : Class) (n place : ℕ) → place < length (order_of class (items files b pools words leaders))
      → (get_or (order_of class (items files b pools words leaders)) place no_row).content ≡ Section n → SectionRow class (items files b pools words leaders) n (input_at files b n) place
  row_at class n place low content =
      let its : List Item = items files b pools words leaders in
      let r : Row = get_or (order_of class its) place no_row in
      let is : IsRowOf class its r = rows_are class its place no_row low in
      let item : is.item ≡ section_item n (input_at files b n) =
      item_is is.item n (subst (IsItem files b pools words leaders) (is.at is.item) ((items_are files b pools words leaders few).all is.number is.item is.low)) (sym is.has.content ∙ content) in
      record {
        low = low;
        is = is;
        content = content;
        of = sym (ap (is_of class) item) ∙ is.of;
        name = ap (λ (x : Item). x.name) item;
        size = is.has.size ∙ ap (λ (x : Item). x.size) item;
        align = is.has.align ∙ ap (λ (x : Item). x.align) item;
      }

  pub section_row : (class : Class) (n : ℕ) → n < section_total files → leads leaders n ≡ true → is_of class (section_item n (input_at files b n)) ≡ true
      → (place : ℕ) × SectionRow class (items files b pools words leaders) n (input_at files b n) place
  section_row class n lt leader of =
      let its : List Item = items files b pools words leaders in
      let t : Row → Bool = λ r. is_section n r.content in
      let some : list_any t (order_of class its) ≡ true =
      any_stable t key_of (rows_of class its) ∙ rows_any class (head_of class its) (is_section n) 0 its ∙ listed class n lt leader of in
      let at = any_place t (order_of class its) no_row some in
      (at.0, row_at class n at.0 at.1 (section_is n (get_or (order_of class its) at.0 no_row).content at.2))
