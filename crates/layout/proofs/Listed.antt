-- Each section that is its own leader and has bytes in its file is a member, and so are the pools and the table that have bytes.
use Rattle.std.proofs.Common.{◌≡◌, ◌≢◌, ℕ, zero, suc, ◌+◌, ◌<◌, ◌==◌, ◌&&◌, ◌||◌, not, Bool, true, false, if◌then◌else◌, Option, List, [], ◌∷◌, ◌++◌, flat_map, get_or, length, refl, ap, ◌∙◌, subst, arith}
use Rattle.std.specs.List.{list_any, range_with_len}
use Rattle.std.proofs.Math.Bool.{or_assoc}
use Rattle.std.proofs.lemmas.Bool.{and_from, and_left, and_parts, and_right, eq-eqb, ne_eqb, or_left, or_right}
use Rattle.lk_base.specs.declared.abi.TheConstants.{SHF_ALLOC, SHF_WRITE, SHT_NOBITS, SHT_PROGBITS}
use Rattle.lk_base.specs.Arithmetic.{up}
use Rattle.lk_base.proofs.Membership.{any_here, any_later}
use Rattle.lk_base.proofs.StableElements.{any_stable}
use Rattle.lk_tables.specs.Binding.{Bindings}
use Rattle.lk_tables.specs.Classes.{is_in, is_nobits, is_tls, may_execute, may_write}
use Rattle.lk_tables.specs.Files.{File, section_total}
use Rattle.lk_tables.specs.OutputNames.{output_name}
use Rattle.lk_tables.specs.declared.classes.Class.{Class}
use Rattle.lk_tables.specs.declared.classes.Class.TheVariants.{R, Rx, TlsBits, RwBits}
use Rattle.link_sections.specs.declared.layouts.Bounds.{Bounds}
use Rattle.link_sections.specs.declared.members.Content.{Content}
use Rattle.link_sections.specs.declared.members.Member.{Member}
use Rattle.link_sections.specs.declared.pools.Pool.{Pool}
use Rattle.link_sections.specs.Cuts.{Cut}
use Rattle.link_sections.specs.InputSections.{InputSection, input_at}
use Rattle.link_sections.specs.Leaders.{leads}
use Rattle.link_sections.specs.Pools.{AreRising}
use Rattle.link_sections.specs.Sound.{is_listed, is_pool, is_section, is_table}
use Rattle.output_sections.specs.declared.heads.Head.{Head}
use Rattle.output_sections.specs.declared.rows.Row.{Row}
use Rattle.layout.specs.declared.walk.Cursor.{Cursor}
use Rattle.output_sections.specs.Items.{Item, got_item, items, items_at, own_item, pool_at, pool_item, section_item}
use Rattle.layout.specs.Layout.{tls_cursor}
use Rattle.output_sections.specs.Order.{Orders, head_of, is_of, key_of, order_of, orders_of, own_row, row_in, rows_from, rows_of, rows_in}
use Rattle.layout.specs.Walk.{after, beside, cursor_at, is_empty, members_along, members_from, members_in, runs, size_at, start_of}
use Rattle.output_sections.proofs.NextPool.{pool_here}
use Rattle.layout.proofs.Trails.{all_members}

pub or_cases : (P : Type 0) (a b : Bool) → (a || b) ≡ true → (a ≡ true → P) → (b ≡ true → P) → P
or_cases P true b is one other = one refl
or_cases P false b is one other = other is

not_true : (b : Bool) → not b ≡ true → b ≡ false
not_true true is = let none : ⊥ = cc in absurd none
not_true false is = refl

pub any_one : {X : Type 0} (t : Bool) (test : X → Bool) (x : X) → t ≡ true → test x ≡ true → list_any test (if t then x ∷ [] else []) ≡ true
any_one true test x is passes = or_left (test x) false passes
any_one false test x is passes = let none : ⊥ = cc in absurd none

-- of the items of all sections, by those of one
flat_listed : (test : Item → Bool) (f : ℕ → List Item) (a len k : ℕ) → k < len → list_any test (f (a + k)) ≡ true
    → list_any test (flat_map f (range_with_len a len)) ≡ true
flat_listed test f a zero k lt is = absurd (omega (arith, lt))
flat_listed test f a (suc len) zero lt is =
    let e : a + 0 ≡ a = omega arith in
    any_here test (f a) (flat_map f (range_with_len (a + 1) len)) (subst (λ m. list_any test (f m) ≡ true) e is)
flat_listed test f a (suc len) (suc k) lt is =
    let e : a + suc k ≡ (a + 1) + k = omega arith in
    any_later test (f a) (flat_map f (range_with_len (a + 1) len))
    (flat_listed test f (a + 1) len k (omega (arith, lt)) (subst (λ m. list_any test (f m) ≡ true) e is))

module _ (files : List File) (b : Bindings) (pools : List Pool) (words : ℕ) (leaders : List (Option ℕ)) (test : Item → Bool) where
  at_listed : (n : ℕ) → n < section_total files → list_any test (items_at files b pools leaders n) ≡ true → list_any test (items files b pools words leaders) ≡ true
  unfolding items
  at_listed n lt is =
      let e : n ≡ 0 + n = omega arith in
      any_here test (flat_map (items_at files b pools leaders) (range_with_len 0 (section_total files))) (got_item words ∷ [])
      (flat_listed test (items_at files b pools leaders) 0 (section_total files) n lt (subst (λ m. list_any test (items_at files b pools leaders m) ≡ true) e is))

  -- the item of a section that is its own leader, of a pool, and of the table
  pub section_listed : (n : ℕ) → n < section_total files → leads leaders n ≡ true → test (section_item n (input_at files b n)) ≡ true
      → list_any test (items files b pools words leaders) ≡ true
  unfolding items_at own_item
  section_listed n lt own passes =
      let s : InputSection = input_at files b n in
      at_listed n lt (any_here test (if leads leaders n then section_item n s ∷ [] else []) (pool_at 0 pools n s) (any_one (leads leaders n) test (section_item n s) own passes))

  pub pool_listed : (p : ℕ) (d : Pool) → p < length pools → AreRising pools → (get_or pools p d).first < section_total files
      → test (pool_item p (get_or pools p d).size (input_at files b (get_or pools p d).first)) ≡ true → list_any test (items files b pools words leaders) ≡ true
  unfolding items_at
  pool_listed p d below rising lt passes =
      let pool : Pool = get_or pools p d in
      let n : ℕ = pool.first in
      let s : InputSection = input_at files b n in
      let one : pool_at 0 pools n s ≡ pool_item p pool.size s ∷ [] = pool_here pools p d s rising below in
      at_listed n lt (any_later test (own_item leaders n s) (pool_at 0 pools n s) (rw one (or_left (test (pool_item p pool.size s)) false passes)))

  pub table_listed : test (got_item words) ≡ true → list_any test (items files b pools words leaders) ≡ true
  unfolding items
  table_listed passes =
      any_later test (flat_map (items_at files b pools leaders) (range_with_len 0 (section_total files))) (got_item words ∷ [])
      (or_left (test (got_item words)) false passes)

-- a row that has bytes and passes a test, and an item of it in a class
abbrev row_has : (test : Content → Bool) → Row → Bool
row_has test row = test row.content && not (row.size == 0)

abbrev pub item_has : (test : Content → Bool) → Class → Item → Bool
item_has test class item = is_of class item && (test item.content && not (item.size == 0))

row_same : (test : Content → Bool) (class : Class) (h : Head) (number : ℕ) (item : Item)
    → row_has test (row_in class h number item) ≡ (test item.content && not (item.size == 0))
unfolding row_in
row_same test class h number item = refl

own_row_listed : (test : Content → Bool) (class : Class) (heads : List ℕ → Head) (number : ℕ) (item : Item) → item_has test class item ≡ true
    → list_any (row_has test) (own_row class heads number item) ≡ true
unfolding own_row
own_row_listed test class heads number item is =
    let both = and_parts (is_of class item) (test item.content && not (item.size == 0)) is in
    let h : Head = heads (output_name item.name) in
    any_one (is_of class item) (row_has test) (row_in class h number item) both.0 (row_same test class h number item ∙ both.1)

rows_listed : (test : Content → Bool) (class : Class) (heads : List ℕ → Head) (number : ℕ) (list : List Item) → list_any (item_has test class) list ≡ true
    → list_any (row_has test) (rows_from class heads number list) ≡ true
rows_listed test class heads number [] is = let none : ⊥ = cc in absurd none
rows_listed test class heads number (item ∷ list) is =
    or_cases (list_any (row_has test) (own_row class heads number item ++ rows_from class heads (number + 1) list) ≡ true)
    (item_has test class item) (list_any (item_has test class) list) is
    (λ here. any_here (row_has test) (own_row class heads number item) (rows_from class heads (number + 1) list) (own_row_listed test class heads number item here))
    (λ later. any_later (row_has test) (own_row class heads number item) (rows_from class heads (number + 1) list)
    (rows_listed test class heads (number + 1) list later))

order_listed : (test : Content → Bool) (class : Class) (list : List Item) → list_any (item_has test class) list ≡ true → list_any (row_has test) (order_of class list) ≡ true
order_listed test class list is = any_stable (row_has test) key_of (rows_of class list) ∙ rows_listed test class (head_of class list) 0 list is

-- the runs have the rows
or_none : (a c : Bool) → ((a || false) || c) ≡ (a || c)
or_none true c = refl
or_none false c = refl

beside_any : (test : Row → Bool) (row : Row) (os : List (List Row)) → list_any (list_any test) (beside row os) ≡ (test row || list_any (list_any test) os)
beside_any test row [] = or_none (test row) false
beside_any test row ([] ∷ rest) = or_none (test row) (list_any (list_any test) rest)
beside_any test row ((next ∷ run) ∷ rest) = by (next.group == row.group)
  where
    by : (b : Bool) → list_any (list_any test) (if b then (row ∷ next ∷ run) ∷ rest else (row ∷ []) ∷ (next ∷ run) ∷ rest)
        ≡ (test row || list_any (list_any test) ((next ∷ run) ∷ rest))
    by true = or_assoc (test row) (list_any test (next ∷ run)) (list_any (list_any test) rest)
    by false = or_none (test row) (list_any (list_any test) ((next ∷ run) ∷ rest))

pub runs_any : (test : Row → Bool) (rows : List Row) → list_any (list_any test) (runs rows) ≡ list_any test rows
unfolding runs
runs_any test [] = refl
runs_any test (row ∷ rows) = beside_any test row (runs rows) ∙ ap (λ k. test row || k) (runs_any test rows)

-- an output section with such a row is not empty, and has it as a member
not_empty : (test : Content → Bool) (rows : List Row) → list_any (row_has test) rows ≡ true → is_empty rows ≡ false
unfolding is_empty
not_empty test [] is = let none : ⊥ = cc in absurd none
not_empty test (row ∷ rows) is =
    or_cases (is_empty (row ∷ rows) ≡ false) (row_has test row) (list_any (row_has test) rows) is
    (λ here. and_left (row.size == 0) (is_empty rows) (not_true (row.size == 0) (and_parts (test row.content) (not (row.size == 0)) here).1))
    (λ later. and_right (row.size == 0) (is_empty rows) (not_empty test rows later))

-- one of these members passes it
abbrev pub has_member : (test : Content → Bool) → List Member → Bool
has_member test members = list_any (λ m. test m.content) members

from_listed : (test : Content → Bool) (sizes : List (List Cut)) (c : ℕ) (rows : List Row) → list_any (row_has test) rows ≡ true → has_member test (members_from sizes c rows) ≡ true
from_listed test sizes c [] is = let none : ⊥ = cc in absurd none
from_listed test sizes c (row ∷ rows) is =
    let at : ℕ = up c row.align in
    let rest : Bool = has_member test (members_from sizes (at + size_at sizes at row) rows) in
    or_cases ((test row.content || rest) ≡ true) (row_has test row) (list_any (row_has test) rows) is
    (λ here. or_left (test row.content) rest (and_parts (test row.content) (not (row.size == 0)) here).0)
    (λ later. or_right (test row.content) rest (from_listed test sizes (at + size_at sizes at row) rows later))

in_listed : (test : Content → Bool) (sizes : List (List Cut)) (c : Cursor) (rows : List Row) → list_any (row_has test) rows ≡ true → has_member test (members_in sizes c rows) ≡ true
unfolding members_in
in_listed test sizes c rows is = by (is_empty rows) (not_empty test rows is)
  where
    by : (e : Bool) → e ≡ false → has_member test (if e then [] else members_from sizes (start_of c rows) rows) ≡ true
    by true some = let none : ⊥ = cc in absurd none
    by false some = from_listed test sizes (start_of c rows) rows is

along_listed : (test : Content → Bool) (sizes : List (List Cut)) (c : Cursor) (os : List (List Row)) → list_any (list_any (row_has test)) os ≡ true
    → has_member test (members_along sizes c os) ≡ true
along_listed test sizes c [] is = let none : ⊥ = cc in absurd none
along_listed test sizes c (o ∷ os) is =
    let of : Member → Bool = λ m. test m.content in
    or_cases (has_member test (members_in sizes c o ++ members_along sizes (after sizes c o) os) ≡ true)
    (list_any (row_has test) o) (list_any (list_any (row_has test)) os) is
    (λ here. any_here of (members_in sizes c o) (members_along sizes (after sizes c o) os) (in_listed test sizes c o here))
    (λ later. any_later of (members_in sizes c o) (members_along sizes (after sizes c o) os) (along_listed test sizes (after sizes c o) os later))

class_listed : (test : Content → Bool) (sizes : List (List Cut)) (c : Cursor) (rows : List Row) → list_any (row_has test) rows ≡ true
    → has_member test (members_along sizes c (runs rows)) ≡ true
class_listed test sizes c rows is = along_listed test sizes c (runs rows) (runs_any (row_has test) rows ∙ is)

-- a section that is not NOBITS is in one of four classes
by_bits : (P : Type 0) (t w x n : Bool) → n ≡ false → ((not t && not w && not x) ≡ true → P) → ((not t && not w && x) ≡ true → P)
    → ((t && not n) ≡ true → P) → ((not t && w && not n) ≡ true → P) → P
by_bits P t w x true bits r rx tls rw_bits = let none : ⊥ = cc in absurd none
by_bits P true w x false bits r rx tls rw_bits = tls refl
by_bits P false true x false bits r rx tls rw_bits = rw_bits refl
by_bits P false false true false bits r rx tls rw_bits = rx refl
by_bits P false false false false bits r rx tls rw_bits = r refl

by_class : (P : Type 0) (sh_type flags : ℕ) → sh_type ≢ SHT_NOBITS → (is_in R sh_type flags ≡ true → P) → (is_in Rx sh_type flags ≡ true → P)
    → (is_in TlsBits sh_type flags ≡ true → P) → (is_in RwBits sh_type flags ≡ true → P) → P
unfolding is_in
by_class P sh_type flags bits r rx tls rw_bits =
    by_bits P (is_tls flags) (may_write flags) (may_execute flags) (is_nobits sh_type) (ne_eqb sh_type SHT_NOBITS bits) r rx tls rw_bits

bits_differ : SHT_PROGBITS ≢ SHT_NOBITS
bits_differ = λ e. absurd (omega (arith, e))

-- so an item that is not NOBITS and has bytes is a member
is_member : (test : Content → Bool) (list : List Item) (sizes : List (List Cut)) (bounds : Bounds) (sh_type flags : ℕ) → sh_type ≢ SHT_NOBITS
    → ((class : Class) → is_in class sh_type flags ≡ true → list_any (item_has test class) list ≡ true) → has_member test (all_members sizes (orders_of list) bounds) ≡ true
unfolding orders_of
is_member test list sizes bounds sh_type flags bits listed =
    let o : Orders = orders_of list in
    let of : Member → Bool = λ m. test m.content in
    let rows : (class : Class) → is_in class sh_type flags ≡ true → list_any (row_has test) (order_of class list) ≡ true =
    λ class is. order_listed test class list (listed class is) in
    let r : List Member = members_along sizes (cursor_at bounds.headers_end) (runs (rows_in o R)) in
    let x : List Member = members_along sizes (cursor_at bounds.rx_start) (runs (rows_in o Rx)) in
    let t : List Member = members_along sizes (tls_cursor sizes o bounds.rw_start bounds.tls_align) (runs (rows_in o TlsBits)) in
    let w : List Member = members_along sizes (cursor_at bounds.tls_bits_end) (runs (rows_in o RwBits)) in
    by_class (has_member test (r ++ (x ++ (t ++ w))) ≡ true) sh_type flags bits
    (λ is. any_here of r (x ++ (t ++ w)) (class_listed test sizes (cursor_at bounds.headers_end) (rows_in o R) (rows R is)))
    (λ is. any_later of r (x ++ (t ++ w)) (any_here of x (t ++ w) (class_listed test sizes (cursor_at bounds.rx_start) (rows_in o Rx) (rows Rx is))))
    (λ is. any_later of r (x ++ (t ++ w)) (any_later of x (t ++ w)
    (any_here of t w (class_listed test sizes (tls_cursor sizes o bounds.rw_start bounds.tls_align) (rows_in o TlsBits) (rows TlsBits is)))))
    (λ is. any_later of r (x ++ (t ++ w)) (any_later of x (t ++ w)
    (any_later of t w (class_listed test sizes (cursor_at bounds.tls_bits_end) (rows_in o RwBits) (rows RwBits is)))))

-- an item in its class, that passes and has bytes
item_passes : (test : Content → Bool) (class : Class) (item : Item) → is_in class item.sh_type item.flags ≡ true → test item.content ≡ true → 0 < item.size
    → item_has test class item ≡ true
item_passes test class item is passes some =
    let long : (item.size == 0) ≡ false = ne_eqb item.size 0 (λ e. absurd (omega (arith, e, some))) in
    and_from (is_in class item.sh_type item.flags) (test item.content && not (item.size == 0)) is (and_from (test item.content) (not (item.size == 0)) passes (ap not long))

module _ (files : List File) (b : Bindings) (pools : List Pool) (words : ℕ) (leaders : List (Option ℕ)) (sizes : List (List Cut)) (bounds : Bounds) where
  pub all_listed : (n : ℕ) → n < section_total files → leads leaders n ≡ true → (input_at files b n).sh_type ≢ SHT_NOBITS → 0 < (input_at files b n).size
      → is_listed n (all_members sizes (orders_of (items files b pools words leaders)) bounds) ≡ true
  all_listed n lt own bits some =
      let s : InputSection = input_at files b n in
      is_member (is_section n) (items files b pools words leaders) sizes bounds s.sh_type s.flags bits
      (λ class is. section_listed files b pools words leaders (item_has (is_section n) class) n lt own
      (item_passes (is_section n) class (section_item n s) is (eq-eqb n n refl) some))

  pub pools_listed : (p : ℕ) (d : Pool) → p < length pools → AreRising pools → (get_or pools p d).first < section_total files → 0 < (get_or pools p d).size
      → has_member (is_pool p) (all_members sizes (orders_of (items files b pools words leaders)) bounds) ≡ true
  pools_listed p d below rising lt some =
      let pool : Pool = get_or pools p d in
      let s : InputSection = input_at files b pool.first in
      is_member (is_pool p) (items files b pools words leaders) sizes bounds SHT_PROGBITS s.flags bits_differ
      (λ class is. pool_listed files b pools words leaders (item_has (is_pool p) class) p d below rising lt
      (item_passes (is_pool p) class (pool_item p pool.size s) is (eq-eqb p p refl) some))

  pub table_is_listed : 0 < words → has_member is_table (all_members sizes (orders_of (items files b pools words leaders)) bounds) ≡ true
  table_is_listed some =
      is_member is_table (items files b pools words leaders) sizes bounds SHT_PROGBITS (SHF_WRITE + SHF_ALLOC) bits_differ
      (λ class is. table_listed files b pools words leaders (item_has is_table class) (item_passes is_table class (got_item words) is refl (omega (arith, some))))
