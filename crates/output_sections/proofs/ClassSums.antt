-- The rows of all classes: each item has a row in at most one of them, and what holds of each item holds of each row.
use Rattle.std.proofs.Common.{◌≡◌, ℕ, ◌+◌, ◌≤◌, ◌&&◌, not, nat_lt, Bool, true, false, if◌then◌else◌, List, [], ◌∷◌, ◌++◌, length, All, refl, ◌∙◌, arith}
use Rattle.std.specs.List.{sum_by}
use Rattle.std.proofs.lemmas.List.{length-append}
use Rattle.std.proofs.lemmas.List.Sums.{sum_by-append, sum_by-cons}
use Rattle.lk_base.specs.Order.{put_in, stable_order}
use Rattle.lk_base.proofs.StableElements.{all_stable}
use Rattle.lk_tables.specs.declared.classes.Class.{Class}
use Rattle.lk_tables.specs.declared.classes.Class.TheVariants.{R, Rx, TlsBits, TlsNobits, RwBits, RwNobits}
use Rattle.lk_tables.specs.Classes.{is_in, is_nobits, is_tls, may_execute, may_write}
use Rattle.lk_tables.specs.OutputNames.{output_name}
use Rattle.output_sections.specs.declared.heads.Head.{Head}
use Rattle.output_sections.specs.declared.rows.Row.{Row}
use Rattle.std.proofs.lemmas.List.Elements.{All-append, All-nil, All-head, All-tail, All-cons}
use Rattle.output_sections.specs.Items.{Item}
use Rattle.output_sections.specs.Order.{Orders, members_in, rows_in, head_of, is_of, key_of, order_of, orders_of, own_row, row_in, rows_from, rows_of}

-- the stable order keeps sums
sum_put_in : {X : Type 0} (f : X → ℕ) (key : X → ℕ) (x : X) (ys : List X) → sum_by f (put_in key x ys) ≡ f x + sum_by f ys
sum_put_in f key x [] = omega (arith, sum_by-cons f x [])
sum_put_in f key x (y ∷ ys) = by (nat_lt (key y) (key x)) (sum_put_in f key x ys)
  where
    by : (b : Bool) → sum_by f (put_in key x ys) ≡ f x + sum_by f ys → sum_by f (if b then y ∷ put_in key x ys else x ∷ (y ∷ ys)) ≡ f x + sum_by f (y ∷ ys)
    by true later = omega (arith, later, sum_by-cons f y (put_in key x ys), sum_by-cons f y ys)
    by false later = omega (arith, sum_by-cons f x (y ∷ ys))

sum_stable : {X : Type 0} (f : X → ℕ) (key : X → ℕ) (xs : List X) → sum_by f (stable_order key xs) ≡ sum_by f xs
unfolding stable_order
sum_stable f key [] = refl
sum_stable f key (x ∷ xs) = omega (arith, sum_put_in f key x (stable_order key xs), sum_stable f key xs, sum_by-cons f x xs)

-- an item counts in its class
abbrev pub part : (g : Item → ℕ) → Class → Item → ℕ
part g class item = if is_of class item then g item else 0

own_sum : (f : Row → ℕ) (g : Item → ℕ) (class : Class) (heads : List ℕ → Head) (number : ℕ) (item : Item)
    → ((h : Head) → f (row_in class h number item) ≡ g item) → sum_by f (own_row class heads number item) ≡ part g class item
unfolding own_row
own_sum f g class heads number item each = by (is_of class item)
  where
    by : (b : Bool) → sum_by f (if b then row_in class (heads (output_name item.name)) number item ∷ [] else []) ≡ (if b then g item else 0)
    by true = omega (arith, sum_by-cons f (row_in class (heads (output_name item.name)) number item) [], each (heads (output_name item.name)))
    by false = refl

rows_sum : (f : Row → ℕ) (g : Item → ℕ) (class : Class) (heads : List ℕ → Head) (number : ℕ) (items : List Item)
    → ((h : Head) (n : ℕ) (item : Item) → f (row_in class h n item) ≡ g item) → sum_by f (rows_from class heads number items) ≡ sum_by (part g class) items
rows_sum f g class heads number [] each = refl
rows_sum f g class heads number (item ∷ items) each =
    omega (
      arith,
      sum_by-append f (own_row class heads number item) (rows_from class heads (number + 1) items),
      sum_by-cons (part g class) item items,
      own_sum f g class heads number item (λ h. each h number item),
      rows_sum f g class heads (number + 1) items each,
    )

order_sum : (f : Row → ℕ) (g : Item → ℕ) (class : Class) (items : List Item) → ((h : Head) (n : ℕ) (item : Item) → f (row_in class h n item) ≡ g item)
    → sum_by f (order_of class items) ≡ sum_by (part g class) items
order_sum f g class items each = sum_stable f key_of (rows_of class items) ∙ rows_sum f g class (head_of class items) 0 items each

-- the classes exclude one another
six : (t w x n : Bool) (g : ℕ) → (((((if not t && not w && not x then g else 0) + (if not t && not w && x then g else 0)) + (if t && not n then g else 0))
    + (if t && n then g else 0)) + (if not t && w && not n then g else 0)) + (if not t && w && n then g else 0) ≤ g
six true w x true g = omega arith
six true w x false g = omega arith
six false true x true g = omega arith
six false true x false g = omega arith
six false false true n g = omega arith
six false false false n g = omega arith

parts_most : (g : Item → ℕ) (item : Item) → ((((part g R item + part g Rx item) + part g TlsBits item) + part g TlsNobits item) + part g RwBits item) + part g RwNobits item ≤ g item
unfolding is_in
parts_most g item = six (is_tls item.flags) (may_write item.flags) (may_execute item.flags) (is_nobits item.sh_type) (g item)

sums_most : (g : Item → ℕ) (items : List Item) → ((((sum_by (part g R) items + sum_by (part g Rx) items) + sum_by (part g TlsBits) items) + sum_by (part g TlsNobits) items)
    + sum_by (part g RwBits) items) + sum_by (part g RwNobits) items ≤ sum_by g items
sums_most g [] = omega arith
sums_most g (item ∷ items) =
    omega (
      arith,
      parts_most g item,
      sums_most g items,
      sum_by-cons g item items,
      sum_by-cons (part g R) item items,
      sum_by-cons (part g Rx) item items,
      sum_by-cons (part g TlsBits) item items,
      sum_by-cons (part g TlsNobits) item items,
      sum_by-cons (part g RwBits) item items,
      sum_by-cons (part g RwNobits) item items,
    )

abbrev pub all_sum : (Row → ℕ) → Orders → ℕ
all_sum f o = ((((sum_by f (rows_in o R) + sum_by f (rows_in o Rx)) + sum_by f (rows_in o TlsBits)) + sum_by f (rows_in o TlsNobits)) + sum_by f (rows_in o RwBits)) + sum_by f (rows_in o RwNobits)

pub orders_sum : (f : Row → ℕ) (g : Item → ℕ) (items : List Item) → ((class : Class) (h : Head) (n : ℕ) (item : Item) → f (row_in class h n item) ≡ g item)
    → all_sum f (orders_of items) ≤ sum_by g items
unfolding orders_of
orders_sum f g items each =
    omega (
      arith,
      sums_most g items,
      order_sum f g R items (each R),
      order_sum f g Rx items (each Rx),
      order_sum f g TlsBits items (each TlsBits),
      order_sum f g TlsNobits items (each TlsNobits),
      order_sum f g RwBits items (each RwBits),
      order_sum f g RwNobits items (each RwNobits),
    )

-- what holds of each item holds of each row
all_own : (b : Bool) (P : Row → Type 0) (row : Row) (rows : List Row) → P row → All P rows → All P ((if b then row ∷ [] else []) ++ rows)
all_own true P row rows one rest = All-cons P row rows one rest
all_own false P row rows one rest = rest

all_rows : (P : Row → Type 0) (Q : Item → Type 0) (class : Class) (heads : List ℕ → Head) (number : ℕ) (items : List Item)
    → ((h : Head) (n : ℕ) (item : Item) → Q item → P (row_in class h n item)) → All Q items → All P (rows_from class heads number items)
unfolding own_row
all_rows P Q class heads number [] each all = All-nil P
all_rows P Q class heads number (item ∷ items) each all =
    all_own (is_of class item) P (row_in class (heads (output_name item.name)) number item) (rows_from class heads (number + 1) items)
    (each (heads (output_name item.name)) number item (All-head Q item items all))
    (all_rows P Q class heads (number + 1) items each (All-tail Q item items all))

pub all_order : (P : Row → Type 0) (Q : Item → Type 0) (class : Class) (items : List Item)
    → ((h : Head) (n : ℕ) (item : Item) → Q item → P (row_in class h n item)) → All Q items → All P (order_of class items)
all_order P Q class items each all = all_stable P key_of (rows_of class items) (all_rows P Q class (head_of class items) 0 items each all)

-- and so of the rows of each class
pub each_class : (P : Row → Type 0) (Q : Item → Type 0) (list : List Item) → ((class : Class) (h : Head) (n : ℕ) (item : Item) → Q item → P (row_in class h n item))
    → All Q list → (class : Class) → All P (rows_in (orders_of list) class)
unfolding orders_of
each_class P Q list each all R = all_order P Q R list (each R) all
each_class P Q list each all Rx = all_order P Q Rx list (each Rx) all
each_class P Q list each all TlsBits = all_order P Q TlsBits list (each TlsBits) all
each_class P Q list each all TlsNobits = all_order P Q TlsNobits list (each TlsNobits) all
each_class P Q list each all RwBits = all_order P Q RwBits list (each RwBits) all
each_class P Q list each all RwNobits = all_order P Q RwNobits list (each RwNobits) all

-- and of the members of all
pub each_member : (P : Row → Type 0) (Q : Item → Type 0) (list : List Item) → ((class : Class) (h : Head) (n : ℕ) (item : Item) → Q item → P (row_in class h n item))
    → All Q list → All P (members_in (orders_of list))
unfolding orders_of
each_member P Q list each all =
    All-append P (order_of R list) _ (all_order P Q R list (each R) all)
    (All-append P (order_of Rx list) _ (all_order P Q Rx list (each Rx) all)
    (All-append P (order_of TlsBits list) _ (all_order P Q TlsBits list (each TlsBits) all)
    (All-append P (order_of TlsNobits list) _ (all_order P Q TlsNobits list (each TlsNobits) all)
    (All-append P (order_of RwBits list) _ (all_order P Q RwBits list (each RwBits) all)
    (All-append P (order_of RwNobits list) [] (all_order P Q RwNobits list (each RwNobits) all) (All-nil P))))))

-- there are no more members than items
ones : {X : Type 0} (xs : List X) → sum_by (λ _. 1) xs ≡ length xs
ones [] = refl
ones (x ∷ xs) = omega (arith, sum_by-cons (λ _. 1) x xs, ones xs)

pub few_members : (items : List Item) → length (members_in (orders_of items)) ≤ length items
unfolding orders_of
few_members items =
    let o : Class → List Row = λ class. order_of class items in
    omega (
      arith,
      orders_sum (λ row. 1) (λ item. 1) items (λ class h n item. refl),
      ones items,
      ones (o R),
      ones (o Rx),
      ones (o TlsBits),
      ones (o TlsNobits),
      ones (o RwBits),
      ones (o RwNobits),
      length-append (o R) (o Rx ++ (o TlsBits ++ (o TlsNobits ++ (o RwBits ++ (o RwNobits ++ []))))),
      length-append (o Rx) (o TlsBits ++ (o TlsNobits ++ (o RwBits ++ (o RwNobits ++ [])))),
      length-append (o TlsBits) (o TlsNobits ++ (o RwBits ++ (o RwNobits ++ []))),
      length-append (o TlsNobits) (o RwBits ++ (o RwNobits ++ [])),
      length-append (o RwBits) (o RwNobits ++ []),
      length-append (o RwNobits) [],
    )
