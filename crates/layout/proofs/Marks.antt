-- No section, no pool and no table stands twice: so each member stands where the layout says.
use Rattle.std.proofs.Common.{◌≡◌, ℕ, zero, suc, ◌+◌, ◌<◌, ◌≤◌, ◌==◌, Bool, true, false, if◌then◌else◌, Option, List, [], ◌∷◌, ◌++◌, get_or, length, flat_map, refl, ap, sym, ◌∙◌, subst, inl, inr, arith}
use Rattle.std.specs.List.{range_with_len, sum_by}
use Rattle.std.proofs.lemmas.Bool.{cases_eq, eq-eqb, ne_eqb}
use Rattle.std.proofs.lemmas.Grind.{get_or-set_at}
use Rattle.std.proofs.lemmas.List.{get_or-set_other, length-set}
use Rattle.std.proofs.lemmas.List.Sums.{sum_by-append, sum_by-cons}
use Rattle.lk_base.specs.Arithmetic.{up}
use Rattle.lk_tables.specs.Binding.{Bindings}
use Rattle.lk_tables.specs.Files.{File, section_total}
use Rattle.lk_tables.specs.declared.classes.Class.{Class}
use Rattle.link_sections.specs.declared.layouts.Bounds.{Bounds}
use Rattle.link_sections.specs.declared.members.Content.{Content}
use Rattle.link_sections.specs.declared.members.Content.TheVariants.{Section, Pool as IsPool, Got}
use Rattle.link_sections.specs.declared.members.Member.{Member}
use Rattle.link_sections.specs.declared.pools.Pool.{Pool}
use Rattle.link_sections.specs.Cuts.{Cut}
use Rattle.link_sections.specs.InputSections.{InputSection, input_at}
use Rattle.link_sections.specs.Leaders.{leads}
use Rattle.link_sections.specs.Sound.{is_pool, is_section, is_table}
use Rattle.lk_tables.specs.declared.classes.Class.TheVariants.{R, Rx, TlsBits, TlsNobits, RwBits, RwNobits}
use Rattle.output_sections.specs.declared.heads.Head.{Head}
use Rattle.output_sections.specs.declared.rows.Row.{Row}
use Rattle.layout.specs.declared.walk.Cursor.{Cursor}
use Rattle.output_sections.specs.Items.{Item, got_item, items, items_at, own_item, pool_at, pool_item, section_item}
use Rattle.layout.specs.Layout.{after_tls_bits, tls_cursor}
use Rattle.output_sections.specs.Order.{Orders, orders_of, row_in, rows_in}
use Rattle.layout.specs.Walk.{Stands, after, all_put, beside, cursor_at, is_empty, member_at, members_from, members_still, put, runs, size_at, stands_along, stands_in, start_of, still}
use Rattle.output_sections.proofs.ClassSums.{all_sum, orders_sum}
use Rattle.layout.proofs.Trails.{all_stands}

-- whether a member is this one
abbrev pub is_it : Content → Content → Bool
is_it (Section n) content = is_section n content
is_it (IsPool p) content = is_pool p content
is_it Got content = is_table content

-- 1 for it
abbrev pub mark : (it : Content) → Content → ℕ
mark it content = if is_it it content then 1 else 0

mark_same : (it : Content) → mark it it ≡ 1
mark_same (Section n) = ap (λ b. if b then 1 else 0) (eq-eqb n n refl)
mark_same (IsPool p) = ap (λ b. if b then 1 else 0) (eq-eqb p p refl)
mark_same Got = refl

mark_other : (n m : ℕ) → (m ≡ n → ⊥) → mark (Section n) (Section m) ≡ 0
mark_other n m other = ap (λ b. if b then 1 else 0) (ne_eqb m n other)

mark_is : (it content : Content) → content ≡ it → mark it content ≡ 1
mark_is it content is = ap (mark it) is ∙ mark_same it

-- how often it stands among members, among rows, and among items
abbrev pub in_members : Content → List Member → ℕ
in_members it ms = sum_by (λ m. mark it m.content) ms

abbrev pub in_rows : Content → List Row → ℕ
in_rows it rows = sum_by (λ row. mark it row.content) rows

abbrev pub in_items : Content → List Item → ℕ
in_items it list = sum_by (λ item. mark it item.content) list

count_from : (it : Content) (sizes : List (List Cut)) (c : ℕ) (rows : List Row) → in_members it (members_from sizes c rows) ≡ in_rows it rows
count_from it sizes c [] = refl
count_from it sizes c (row ∷ rows) =
    let at : ℕ = up c row.align in
    omega (
      arith,
      sum_by-cons (λ (m : Member). mark it m.content) (member_at sizes at row) (members_from sizes (at + size_at sizes at row) rows),
      sum_by-cons (λ (r : Row). mark it r.content) row rows,
      count_from it sizes (at + size_at sizes at row) rows,
    )

count_still : (it : Content) (start : ℕ) (rows : List Row) → in_members it (members_still start rows) ≡ in_rows it rows
count_still it start [] = refl
count_still it start (row ∷ rows) =
    omega (
      arith,
      sum_by-cons (λ (m : Member). mark it m.content) (still start row) (members_still start rows),
      sum_by-cons (λ (r : Row). mark it r.content) row rows,
      count_still it start rows,
    )

count_by : (b : Bool) (it : Content) (sizes : List (List Cut)) (start : ℕ) (rows : List Row)
    → in_members it (if b then members_still start rows else members_from sizes start rows) ≡ in_rows it rows
count_by true it sizes start rows = count_still it start rows
count_by false it sizes start rows = count_from it sizes start rows

count_in : (it : Content) (sizes : List (List Cut)) (c : Cursor) (rows : List Row) → in_members it (stands_in sizes c rows) ≡ in_rows it rows
unfolding stands_in
count_in it sizes c rows = count_by (is_empty rows) it sizes (start_of c rows) rows

abbrev in_runs : Content → List (List Row) → ℕ
in_runs it [] = 0
in_runs it (o ∷ os) = in_rows it o + in_runs it os

count_along : (it : Content) (sizes : List (List Cut)) (c : Cursor) (os : List (List Row)) → in_members it (stands_along sizes c os) ≡ in_runs it os
count_along it sizes c [] = refl
count_along it sizes c (o ∷ os) =
    omega (
      arith,
      sum_by-append (λ (m : Member). mark it m.content) (stands_in sizes c o) (stands_along sizes (after sizes c o) os),
      count_in it sizes c o,
      count_along it sizes (after sizes c o) os,
    )

count_beside : (it : Content) (row : Row) (os : List (List Row)) → in_runs it (beside row os) ≡ mark it row.content + in_runs it os
count_beside it row [] = omega (arith, sum_by-cons (λ (r : Row). mark it r.content) row [])
count_beside it row ([] ∷ rest) = omega (arith, sum_by-cons (λ (r : Row). mark it r.content) row [])
count_beside it row ((next ∷ run) ∷ rest) = by (next.group == row.group)
  where
    by : (b : Bool) → in_runs it (if b then (row ∷ next ∷ run) ∷ rest else (row ∷ []) ∷ (next ∷ run) ∷ rest) ≡ mark it row.content + in_runs it ((next ∷ run) ∷ rest)
    by true = omega (arith, sum_by-cons (λ (r : Row). mark it r.content) row (next ∷ run))
    by false = omega (arith, sum_by-cons (λ (r : Row). mark it r.content) row [])

count_runs : (it : Content) (rows : List Row) → in_runs it (runs rows) ≡ in_rows it rows
unfolding runs
count_runs it [] = refl
count_runs it (row ∷ rows) = omega (arith, count_beside it row (runs rows), count_runs it rows, sum_by-cons (λ (r : Row). mark it r.content) row rows)

count_class : (it : Content) (sizes : List (List Cut)) (c : Cursor) (rows : List Row) → in_members it (stands_along sizes c (runs rows)) ≡ in_rows it rows
count_class it sizes c rows = count_along it sizes c (runs rows) ∙ count_runs it rows

count_all : (it : Content) (sizes : List (List Cut)) (o : Orders) (b : Bounds) → in_members it (all_stands sizes o b) ≡ all_sum (λ row. mark it row.content) o
count_all it sizes o b =
    let f : Member → ℕ = λ m. mark it m.content in
    let r = stands_along sizes (cursor_at b.headers_end) (runs (rows_in o R)) in
    let x = stands_along sizes (cursor_at b.rx_start) (runs (rows_in o Rx)) in
    let tb = stands_along sizes (tls_cursor sizes o b.rw_start b.tls_align) (runs (rows_in o TlsBits)) in
    let tn = stands_along sizes (after_tls_bits sizes o b.rw_start b.tls_align) (runs (rows_in o TlsNobits)) in
    let wb = stands_along sizes (cursor_at b.tls_bits_end) (runs (rows_in o RwBits)) in
    let wn = stands_along sizes (cursor_at b.bits_end) (runs (rows_in o RwNobits)) in
    omega (
      arith,
      sum_by-append f r (x ++ (tb ++ (tn ++ (wb ++ wn)))),
      sum_by-append f x (tb ++ (tn ++ (wb ++ wn))),
      sum_by-append f tb (tn ++ (wb ++ wn)),
      sum_by-append f tn (wb ++ wn),
      sum_by-append f wb wn,
      count_class it sizes (cursor_at b.headers_end) (rows_in o R),
      count_class it sizes (cursor_at b.rx_start) (rows_in o Rx),
      count_class it sizes (tls_cursor sizes o b.rw_start b.tls_align) (rows_in o TlsBits),
      count_class it sizes (after_tls_bits sizes o b.rw_start b.tls_align) (rows_in o TlsNobits),
      count_class it sizes (cursor_at b.tls_bits_end) (rows_in o RwBits),
      count_class it sizes (cursor_at b.bits_end) (rows_in o RwNobits),
    )

-- among the items it stands once at most: those of section m are section m, and a pool whose first section it is
own_count : (b : Bool) (n m : ℕ) (s : InputSection) → in_items (Section n) (if b then section_item m s ∷ [] else []) ≤ mark (Section n) (Section m)
own_count true n m s = omega (arith, sum_by-cons (λ (i : Item). mark (Section n) i.content) (section_item m s) [])
own_count false n m s = omega arith

no_own : (b : Bool) (it : Content) (m : ℕ) (s : InputSection) → mark it (Section m) ≡ 0 → in_items it (if b then section_item m s ∷ [] else []) ≡ 0
no_own true it m s other = omega (arith, sum_by-cons (λ (i : Item). mark it i.content) (section_item m s) [], other)
no_own false it m s other = refl

no_pool : (it : Content) (p : ℕ) (pools : List Pool) (m : ℕ) (s : InputSection) → ((q : ℕ) → p ≤ q → mark it (IsPool q) ≡ 0) → in_items it (pool_at p pools m s) ≡ 0
unfolding pool_at
no_pool it p [] m s other = refl
no_pool it p (pool ∷ pools) m s other = by (pool.first == m) (no_pool it (p + 1) pools m s (λ q le. other q (omega (arith, le))))
  where
    by : (b : Bool) → in_items it (pool_at (p + 1) pools m s) ≡ 0 → in_items it (if b then pool_item p pool.size s ∷ [] else pool_at (p + 1) pools m s) ≡ 0
    by true rest = omega (arith, sum_by-cons (λ (i : Item). mark it i.content) (pool_item p pool.size s) [], other p (omega arith))
    by false rest = rest

other_pool : (p q : ℕ) → (q ≡ p → ⊥) → mark (IsPool p) (IsPool q) ≡ 0
other_pool p q other = ap (λ b. if b then 1 else 0) (ne_eqb q p other)

pool_count : (p i : ℕ) (pools : List Pool) (d : Pool) (m : ℕ) (s : InputSection)
    → in_items (IsPool (p + i)) (pool_at p pools m s) ≤ mark (Section (get_or pools i d).first) (Section m)
unfolding pool_at
pool_count p i [] d m s = omega arith
pool_count p zero (pool ∷ pools) d m s = elim (cases_eq m pool.first) [
  | inl same ↦ omega (arith, most (pool.first == m) (no_pool (IsPool (p + 0)) (p + 1) pools m s (λ q le. other_pool (p + 0) q (λ e. absurd (omega (arith, e, le))))), here same)
  | inr other ↦
      let out : (pool.first == m) ≡ false = ne_eqb pool.first m (λ e. other (sym e)) in
      rw out (omega (arith, no_pool (IsPool (p + 0)) (p + 1) pools m s (λ q le. other_pool (p + 0) q (λ e. absurd (omega (arith, e, le))))))
]
  where
    here : m ≡ pool.first → mark (Section pool.first) (Section m) ≡ 1
    here same = ap (λ k. mark (Section pool.first) (Section k)) same ∙ mark_same (Section pool.first)

    one_most : (it : Content) (x : Content) → mark it x ≤ 1
    one_most it x = by (is_it it x)
      where
        by : (b : Bool) → (if b then 1 else 0) ≤ 1
        by true = omega arith
        by false = omega arith

    most : (b : Bool) → in_items (IsPool (p + 0)) (pool_at (p + 1) pools m s) ≡ 0
        → in_items (IsPool (p + 0)) (if b then pool_item p pool.size s ∷ [] else pool_at (p + 1) pools m s) ≤ 1
    most true rest = omega (arith, sum_by-cons (λ (i : Item). mark (IsPool (p + 0)) i.content) (pool_item p pool.size s) [], one_most (IsPool (p + 0)) (IsPool p))
    most false rest = omega (arith, rest)
pool_count p (suc i) (pool ∷ pools) d m s =
    let next : (p + 1) + i ≡ p + suc i = omega arith in
    by (pool.first == m) (subst (λ k. in_items (IsPool k) (pool_at (p + 1) pools m s) ≤ mark (Section (get_or pools i d).first) (Section m)) next (pool_count (p + 1) i pools d m s))
  where
    by : (b : Bool) → in_items (IsPool (p + suc i)) (pool_at (p + 1) pools m s) ≤ mark (Section (get_or pools i d).first) (Section m)
        → in_items (IsPool (p + suc i)) (if b then pool_item p pool.size s ∷ [] else pool_at (p + 1) pools m s) ≤ mark (Section (get_or pools i d).first) (Section m)
    by true rest =
        omega (
          arith,
          sum_by-cons (λ (x : Item). mark (IsPool (p + suc i)) x.content) (pool_item p pool.size s) [],
          other_pool (p + suc i) p (λ e. absurd (omega (arith, e))),
        )
    by false rest = rest

-- so all of those of section m are few
both_counts : (files : List File) (b : Bindings) (pools : List Pool) (leaders : List (Option ℕ)) (it : Content) (m : ℕ) → in_items it (items_at files b pools leaders m)
    ≡ in_items it (if leads leaders m then section_item m (input_at files b m) ∷ [] else []) + in_items it (pool_at 0 pools m (input_at files b m))
unfolding items_at own_item
both_counts files b pools leaders it m =
    sum_by-append (λ (i : Item). mark it i.content) (if leads leaders m then section_item m (input_at files b m) ∷ [] else []) (pool_at 0 pools m (input_at files b m))

at_section : (files : List File) (b : Bindings) (pools : List Pool) (leaders : List (Option ℕ)) (n m : ℕ)
    → in_items (Section n) (items_at files b pools leaders m) ≤ mark (Section n) (Section m)
at_section files b pools leaders n m =
    omega (
      arith,
      both_counts files b pools leaders (Section n) m,
      own_count (leads leaders m) n m (input_at files b m),
      no_pool (Section n) 0 pools m (input_at files b m) (λ q le. refl),
    )

at_pool : (files : List File) (b : Bindings) (pools : List Pool) (leaders : List (Option ℕ)) (p : ℕ) (d : Pool) (m : ℕ)
    → in_items (IsPool p) (items_at files b pools leaders m) ≤ mark (Section (get_or pools p d).first) (Section m)
at_pool files b pools leaders p d m =
    let e : 0 + p ≡ p = omega arith in
    let few : in_items (IsPool p) (pool_at 0 pools m (input_at files b m)) ≤ mark (Section (get_or pools p d).first) (Section m) =
    subst (λ k. in_items (IsPool k) (pool_at 0 pools m (input_at files b m)) ≤ mark (Section (get_or pools p d).first) (Section m)) e
    (pool_count 0 p pools d m (input_at files b m)) in
    omega (arith, both_counts files b pools leaders (IsPool p) m, no_own (leads leaders m) (IsPool p) m (input_at files b m) refl, few)

at_table : (files : List File) (b : Bindings) (pools : List Pool) (leaders : List (Option ℕ)) (m : ℕ) → in_items Got (items_at files b pools leaders m) ≡ 0
at_table files b pools leaders m =
    omega (
      arith,
      both_counts files b pools leaders Got m,
      no_own (leads leaders m) Got m (input_at files b m) refl,
      no_pool Got 0 pools m (input_at files b m) (λ q le. refl),
    )

past_count : (it : Content) (g : ℕ → List Item) (n a len : ℕ) → ((m : ℕ) → in_items it (g m) ≤ mark (Section n) (Section m)) → n < a
    → in_items it (flat_map g (range_with_len a len)) ≡ 0
past_count it g n a zero each past = refl
past_count it g n a (suc len) each past =
    omega (
      arith,
      sum_by-append (λ (i : Item). mark it i.content) (g a) (flat_map g (range_with_len (a + 1) len)),
      each a,
      mark_other n a (λ same. absurd (omega (arith, same, past))),
      past_count it g n (a + 1) len each (omega (arith, past)),
    )

flat_count : (it : Content) (g : ℕ → List Item) (n a len : ℕ) → ((m : ℕ) → in_items it (g m) ≤ mark (Section n) (Section m))
    → in_items it (flat_map g (range_with_len a len)) ≤ 1
flat_count it g n a zero each = omega arith
flat_count it g n a (suc len) each =
    let both = sum_by-append (λ (i : Item). mark it i.content) (g a) (flat_map g (range_with_len (a + 1) len)) in
    elim (cases_eq a n) [
      | inl same ↦
          let here : mark (Section n) (Section a) ≡ 1 = ap (λ k. mark (Section n) (Section k)) same ∙ mark_same (Section n) in
          omega (arith, both, each a, here, past_count it g n (a + 1) len each (omega (arith, same)))
      | inr other ↦ omega (arith, both, each a, mark_other n a other, flat_count it g n (a + 1) len each)
    ]

none_count : (it : Content) (g : ℕ → List Item) (a len : ℕ) → ((m : ℕ) → in_items it (g m) ≡ 0) → in_items it (flat_map g (range_with_len a len)) ≡ 0
none_count it g a zero each = refl
none_count it g a (suc len) each =
    omega (arith, sum_by-append (λ (i : Item). mark it i.content) (g a) (flat_map g (range_with_len (a + 1) len)), each a, none_count it g (a + 1) len each)

items_count : (files : List File) (b : Bindings) (pools : List Pool) (words : ℕ) (leaders : List (Option ℕ)) (it : Content) → in_items it (items files b pools words leaders) ≤ 1
unfolding items
items_count files b pools words leaders it = by it
  where
    sections : List Item
    sections = flat_map (items_at files b pools leaders) (range_with_len 0 (section_total files))

    last : (it : Content) → in_items it (sections ++ got_item words ∷ []) ≡ in_items it sections + (mark it Got + 0)
    last it =
        sum_by-append (λ (i : Item). mark it i.content) sections (got_item words ∷ [])
        ∙ ap (λ k. in_items it sections + k) (sum_by-cons (λ (i : Item). mark it i.content) (got_item words) [])

    none : Pool
    none = record { first = 0; size = 0 }

    by : (it : Content) → in_items it (sections ++ got_item words ∷ []) ≤ 1
    by (Section n) = omega (arith, last (Section n), flat_count (Section n) (items_at files b pools leaders) n 0 (section_total files) (at_section files b pools leaders n))
    by (IsPool p) =
        omega (
          arith,
          last (IsPool p),
          flat_count (IsPool p) (items_at files b pools leaders) (get_or pools p none).first 0 (section_total files)
              (at_pool files b pools leaders p none),
        )
    by Got = omega (arith, last Got, none_count Got (items_at files b pools leaders) 0 (section_total files) (at_table files b pools leaders))

row_mark : (it : Content) (class : Class) (h : Head) (number : ℕ) (item : Item) → mark it (row_in class h number item).content ≡ mark it item.content
unfolding row_in
row_mark it class h number item = refl

pub stands_once : (files : List File) (b : Bindings) (pools : List Pool) (words : ℕ) (leaders : List (Option ℕ)) (sizes : List (List Cut)) (bounds : Bounds) (it : Content)
    → in_members it (all_stands sizes (orders_of (items files b pools words leaders)) bounds) ≤ 1
stands_once files b pools words leaders sizes bounds it =
    omega (
      arith,
      count_all it sizes (orders_of (items files b pools words leaders)) bounds,
      orders_sum (λ row. mark it row.content) (λ item. mark it item.content) (items files b pools words leaders) (row_mark it),
      items_count files b pools words leaders it,
    )

-- where it stands, and whether there is a number for it
abbrev pub stand_at : Content → Stands → ℕ
stand_at (Section n) s = get_or s.starts n 0
stand_at (IsPool p) s = get_or s.pools p 0
stand_at Got s = s.got

abbrev pub HasRoom : Content → Stands → Type 0
HasRoom (Section n) s = n < length s.starts
HasRoom (IsPool p) s = p < length s.pools
HasRoom Got s = Unit {0}

-- what stands once stands where it is put
put_other : (it content : Content) (start : ℕ) (s : Stands) → mark it content ≡ 0 → stand_at it (put content start s) ≡ stand_at it s
put_other (Section n) (Section m) start s none =
    get_or-set_other s.starts m n start 0 (λ same. let one = mark_is (Section n) (Section m) (ap Section (sym same)) in absurd (omega (arith, one, none)))
put_other (Section n) (IsPool p) start s none = refl
put_other (Section n) Got start s none = refl
put_other (IsPool p) (Section m) start s none = refl
put_other (IsPool p) (IsPool q) start s none =
    get_or-set_other s.pools q p start 0 (λ same. let one = mark_is (IsPool p) (IsPool q) (ap IsPool (sym same)) in absurd (omega (arith, one, none)))
put_other (IsPool p) Got start s none = refl
put_other Got (Section m) start s none = refl
put_other Got (IsPool p) start s none = refl
put_other Got Got start s none = cc

put_room : (it content : Content) (start : ℕ) (s : Stands) → HasRoom it s → HasRoom it (put content start s)
put_room (Section n) (Section m) start s room = omega (arith, length-set s.starts m start, room)
put_room (Section n) (IsPool p) start s room = room
put_room (Section n) Got start s room = room
put_room (IsPool p) (Section m) start s room = room
put_room (IsPool p) (IsPool q) start s room = omega (arith, length-set s.pools q start, room)
put_room (IsPool p) Got start s room = room
put_room Got content start s room = tt

others : (it : Content) (ms : List Member) (s : Stands) → in_members it ms ≡ 0 → stand_at it (all_put ms s) ≡ stand_at it s
others it [] s none = refl
others it (m ∷ ms) s none =
    let both = sum_by-cons (λ (x : Member). mark it x.content) m ms in
    others it ms (put m.content m.start s) (omega (arith, both, none)) ∙ put_other it m.content m.start s (omega (arith, both, none))

put_same : (it : Content) (start : ℕ) (s : Stands) → HasRoom it s → stand_at it (put it start s) ≡ start
put_same (Section n) start s room = get_or-set_at s.starts n n start 0 refl room
put_same (IsPool p) start s room = get_or-set_at s.pools p p start 0 refl room
put_same Got start s room = refl

put_here : (it content : Content) (start : ℕ) (s : Stands) → content ≡ it → HasRoom it s → stand_at it (put content start s) ≡ start
put_here it content start s is room = ap (λ c. stand_at it (put c start s)) is ∙ put_same it start s room

pub found_at : (it : Content) (ms : List Member) (s : Stands) (k : ℕ) (d : Member) → k < length ms → (get_or ms k d).content ≡ it → in_members it ms ≤ 1 → HasRoom it s
    → stand_at it (all_put ms s) ≡ (get_or ms k d).start
found_at it [] s k d lt is once room = absurd (omega (arith, lt))
found_at it (m ∷ ms) s zero d lt is once room =
    let both = sum_by-cons (λ (x : Member). mark it x.content) m ms in
    others it ms (put m.content m.start s) (omega (arith, both, mark_is it m.content is, once)) ∙ put_here it m.content m.start s is room
found_at it (m ∷ ms) s (suc k) d lt is once room =
    let both = sum_by-cons (λ (x : Member). mark it x.content) m ms in
    found_at it ms (put m.content m.start s) k d (omega (arith, lt)) is (omega (arith, both, once)) (put_room it m.content m.start s room)
