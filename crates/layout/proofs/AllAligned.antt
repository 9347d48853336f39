-- Each section that is its own leader, each pool and the table starts at a multiple of its alignment, whether its output section has bytes or not.
use Rattle.std.proofs.Common.{◌≡◌, ℕ, ◌+◌, ◌%◌, ◌<◌, ◌≤◌, Bool, true, false, if◌then◌else◌, max, Option, List, [], ◌∷◌, get_or, length, All, refl, ap, sym, ◌∙◌, subst, arith, inl, inr, count_ones}
use Rattle.std.specs.Int.{is_power_of_two}
use Rattle.std.specs.Int.Count.{ones_step}
use Rattle.std.specs.List.{fold}
use Rattle.std.proofs.lemmas.Bool.{cases_lt, eq-eqb}
use Rattle.std.proofs.lemmas.List.{length-replicate}
use Rattle.std.proofs.lemmas.List.Elements.{All-nil, All-head, All-tail, All-cons, All-append}
use Rattle.std.proofs.lemmas.Nat.{ones_le_self}
use Rattle.lk_base.specs.Arithmetic.{up}
use Rattle.lk_base.proofs.Multiples.{up_multiple}
use Rattle.lk_tables.specs.Binding.{Bindings}
use Rattle.lk_tables.specs.Files.{File, section_total}
use Rattle.lk_tables.specs.declared.classes.Class.{Class}
use Rattle.lk_tables.specs.declared.classes.Class.TheVariants.{R, Rx, TlsBits, TlsNobits, RwBits, RwNobits}
use Rattle.link_sections.specs.declared.layouts.Bounds.{Bounds}
use Rattle.link_sections.specs.declared.layouts.Layout.{Layout}
use Rattle.link_sections.specs.declared.members.Content.{Content}
use Rattle.link_sections.specs.declared.members.Content.TheVariants.{Section, Pool as IsPool, Got}
use Rattle.link_sections.specs.declared.members.Member.{Member}
use Rattle.link_sections.specs.declared.pools.Pool.{Pool}
use Rattle.link_sections.specs.Cuts.{Cut}
use Rattle.link_sections.specs.InputSections.{input_at}
use Rattle.link_sections.specs.LaidOut.{LaidOut, layout_view, start_at}
use Rattle.link_sections.specs.Leaders.{leads}
use Rattle.link_sections.specs.Pools.{AreRising}
use Rattle.output_sections.specs.declared.heads.Head.{Head}
use Rattle.output_sections.specs.declared.rows.Row.{Row}
use Rattle.output_sections.specs.Items.{HaveFirsts, IsSized, Item, got_item, items}
use Rattle.output_sections.specs.Order.{Orders, orders_of, row_in, rows_in}
use Rattle.output_sections.proofs.ClassSums.{each_class}
use Rattle.layout.specs.declared.walk.Cursor.{Cursor}
use Rattle.layout.specs.Layout.{FrameSizes, after_tls_bits, bounds_of, laid_of, layout_of, no_trail, tls_cursor}
use Rattle.layout.specs.Spots.{StartAligned}
use Rattle.layout.specs.Walk.{Stands, after, all_put, cursor_at, greatest, is_empty, member_at, members_from, members_still, runs, size_at, stands_along, stands_in, start_of, still}
use Rattle.layout.proofs.AllHeld.{IsWalked, from_any, get_any, has_pool, has_section, has_table, it_is, items_own, own_of, walked_by}
use Rattle.layout.proofs.Held.{from_still}
use Rattle.layout.proofs.Marks.{HasRoom, found_at, in_members, is_it, stand_at, stands_once}
use Rattle.layout.proofs.Powers.{divides, through}
use Rattle.layout.proofs.Runs.{EachRun, each_run}
use Rattle.layout.proofs.Trails.{all_stands}
use Rattle.layout.proofs.Listed.{has_member}

-- the greatest of a number and the alignments of some rows
abbrev most_of : ℕ → List Row → ℕ
most_of g rows = fold (λ (found : ℕ) (row : Row). max found row.align) g rows

-- the greatest alignment of some rows is a multiple of each
grows : (g : ℕ) (rows : List Row) → g ≤ most_of g rows
grows g [] = omega arith
grows g (row ∷ rows) = let more : max g row.align ≤ most_of (max g row.align) rows = grows (max g row.align) rows in omega (arith, more)

each_most : (g : ℕ) (rows : List Row) → All (λ (row : Row). row.align ≤ most_of g rows) rows
each_most g [] = All-nil (λ (row : Row). row.align ≤ most_of g [])
each_most g (row ∷ rows) =
    let most : ℕ = most_of (max g row.align) rows in
    let more : max g row.align ≤ most = grows (max g row.align) rows in
    All-cons (λ (r : Row). r.align ≤ most) row rows (omega (arith, more)) (each_most (max g row.align) rows)

max_power : (m n : ℕ) → is_power_of_two m ≡ true → is_power_of_two n ≡ true → is_power_of_two (max m n) ≡ true
max_power m n one other =
    elim (cases_lt m n) [
      | inl less ↦ let same : n ≡ max m n = omega (arith, less) in subst (λ k. is_power_of_two k ≡ true) same other
      | inr least ↦ let same : m ≡ max m n = omega (arith, least) in subst (λ k. is_power_of_two k ≡ true) same one
    ]

fold_power : (g : ℕ) (rows : List Row) → is_power_of_two g ≡ true → All (λ (row : Row). is_power_of_two row.align ≡ true) rows
    → is_power_of_two (most_of g rows) ≡ true
fold_power g [] is all = is
fold_power g (row ∷ rows) is all =
    let P : Row → Type 0 = λ r. is_power_of_two r.align ≡ true in
    fold_power (max g row.align) rows (max_power g row.align is (All-head P row rows all)) (All-tail P row rows all)

one_power : is_power_of_two 1 ≡ true
one_power = let one : count_ones 1 ≡ 1 = omega (arith, ones_step 1, ones_le_self 0) in eq-eqb (count_ones 1) 1 one

greatest_divides : (rows : List Row) → All (λ (row : Row). is_power_of_two row.align ≡ true) rows → All (λ (row : Row). greatest rows % row.align ≡ 0) rows
unfolding greatest
greatest_divides rows all = λ k d lt.
    let row : Row = get_or rows k d in
    divides row.align (most_of 1 rows) (all k d lt) (fold_power 1 rows one_power all) (each_most 1 rows k d lt)

-- `own` gives each item by what it is
module _ (own : Content → Item) (sizes : List (List Cut)) where
  abbrev Starts : Member → Type 0
  Starts m = m.start % (own m.content).align ≡ 0

  abbrev HasPower : Row → Type 0
  HasPower row = (row.align ≡ (own row.content).align) × (is_power_of_two row.align ≡ true)

  starts_from : (c : ℕ) (rows : List Row) → All HasPower rows → All Starts (members_from sizes c rows)
  starts_from c [] all = All-nil Starts
  starts_from c (row ∷ rows) all =
      let at : ℕ = up c row.align in
      All-cons Starts (member_at sizes at row) (members_from sizes (at + size_at sizes at row) rows)
      (subst (λ k. at % k ≡ 0) (All-head HasPower row rows all).0 (up_multiple c row.align)) (starts_from (at + size_at sizes at row) rows (All-tail HasPower row rows all))

  starts_in : (c : Cursor) (o : List Row) → All HasPower o → All Starts (stands_in sizes c o)
  unfolding stands_in start_of
  starts_in c o all = by (is_empty o)
    where
      by : (e : Bool) → All Starts (if e then members_still (up c.at (if e then greatest o else max c.extra (greatest o))) o
          else members_from sizes (up c.at (if e then greatest o else max c.extra (greatest o))) o)
      by true =
          let start : ℕ = up c.at (greatest o) in
          from_still (λ (row : Row). HasPower row × (greatest o % row.align ≡ 0)) Starts start
          (λ row known. subst (λ k. start % k ≡ 0) known.0.0 (through start (greatest o) row.align (up_multiple c.at (greatest o)) known.1)) o
          (λ k d lt. (all k d lt, greatest_divides o (λ k' d' lt'. (all k' d' lt').1) k d lt))
      by false = starts_from (up c.at (max c.extra (greatest o))) o all

  starts_along : (c : Cursor) (os : List (List Row)) → EachRun HasPower os → All Starts (stands_along sizes c os)
  starts_along c [] all = All-nil Starts
  starts_along c (o ∷ os) all =
      All-append Starts (stands_in sizes c o) (stands_along sizes (after sizes c o) os) (starts_in c o all.0) (starts_along (after sizes c o) os all.1)

  starts_class : (c : Cursor) (rows : List Row) → All HasPower rows → All Starts (stands_along sizes c (runs rows))
  starts_class c rows all = starts_along c (runs rows) (each_run HasPower rows all)

  all_start : (o : Orders) (b : Bounds) → ((class : Class) → All HasPower (rows_in o class)) → All Starts (all_stands sizes o b)
  all_start o b all =
      All-append Starts _ _ (starts_class (cursor_at b.headers_end) (rows_in o R) (all R))
      (All-append Starts _ _ (starts_class (cursor_at b.rx_start) (rows_in o Rx) (all Rx))
      (All-append Starts _ _ (starts_class (tls_cursor sizes o b.rw_start b.tls_align) (rows_in o TlsBits) (all TlsBits))
      (All-append Starts _ _ (starts_class (after_tls_bits sizes o b.rw_start b.tls_align) (rows_in o TlsNobits) (all TlsNobits))
      (All-append Starts _ _ (starts_class (cursor_at b.tls_bits_end) (rows_in o RwBits) (all RwBits)) (starts_class (cursor_at b.bits_end) (rows_in o RwNobits) (all RwNobits))))))

row_power : (own : Content → Item) (sizes : List (List Cut)) (class : Class) (h : Head) (n : ℕ) (item : Item) → (item ≡ own item.content) × IsSized item
    → HasPower own sizes (row_in class h n item)
unfolding row_in
row_power own sizes class h n item known = (ap (λ (x : Item). x.align) known.0, known.1.power)

module _ (files : List File) (b : Bindings) (pools : List Pool) (words : ℕ) (leaders : List (Option ℕ)) (sizes : List (List Cut)) (bounds : Bounds) where
  abbrev parts : List Item
  parts = items files b pools words leaders

  abbrev own : Content → Item
  own = own_of files b pools words leaders

  abbrev first_stands : Stands
  first_stands = (no_trail (section_total files) (length pools)).stands

  abbrev final_stands : Stands
  final_stands = all_put (all_stands sizes (orders_of parts) bounds) first_stands

  starts_at : (it : Content) → All IsSized parts → HasRoom it first_stands → has_member (is_it it) (all_stands sizes (orders_of parts) bounds) ≡ true
      → stand_at it final_stands % (own it).align ≡ 0
  starts_at it sized room there =
      let ms : List Member = all_stands sizes (orders_of parts) bounds in
      let Q : Item → Type 0 = λ item. (item ≡ own item.content) × IsSized item in
      let known : All Q parts = λ k d lt. (items_own files b pools words leaders k d lt, sized k d lt) in
      let start : All (Starts own sizes) ms =
      all_start own sizes (orders_of parts) bounds (each_class (HasPower own sizes) Q parts (λ class h n item q. row_power own sizes class h n item q) known) in
      let once : in_members it ms ≤ 1 = stands_once files b pools words leaders sizes bounds it in
      from_any (stand_at it final_stands % (own it).align ≡ 0) (λ m. is_it it m.content) ms there (λ k d lt passes.
      let m : Member = get_or ms k d in
      let same : m.content ≡ it = it_is it m.content passes in
      let at : stand_at it final_stands ≡ m.start = found_at it ms first_stands k d lt same once room in
      subst (λ a. a % (own it).align ≡ 0) (sym at) (subst (λ c. m.start % (own c).align ≡ 0) same (start k d lt)))

  start_walked : (laid : LaidOut) → IsWalked files b pools words leaders sizes bounds laid → All IsSized parts → AreRising pools → HaveFirsts files b pools
      → StartAligned files b pools leaders laid
  start_walked laid is sized rise firsts = record {
    sections = λ n lt leading.
        let it : Content = Section n in
        let start : stand_at it final_stands ≡ start_at laid n = ap (λ l. get_or l n 0) (sym is.starts) in
        subst (λ a. a % (own it).align ≡ 0) start
        (starts_at it sized (omega (arith, lt, length-replicate {A = ℕ} (section_total files) 0)) (has_section files b pools words leaders sizes bounds n lt leading));
    merged = λ p d lt.
        let it : Content = IsPool p in
        let start : stand_at it final_stands ≡ get_or laid.pools p 0 = ap (λ l. get_or l p 0) (sym is.pools_are) in
        subst (λ (x : Pool). get_or laid.pools p 0 % (input_at files b x.first).align ≡ 0) (get_any files b pools words leaders sizes bounds p d lt)
        (subst (λ a. a % (own it).align ≡ 0) start
        (starts_at it sized (omega (arith, lt, length-replicate {A = ℕ} (length pools) 0)) (has_pool files b pools words leaders sizes bounds p d lt rise (firsts p d lt).number)));
    table = subst (λ a. a % 8 ≡ 0) (sym is.got) (starts_at Got sized tt (has_table files b pools words leaders sizes bounds));
  }

start_laid : (files : List File) (b : Bindings) (pools : List Pool) (words : ℕ) (leaders : List (Option ℕ)) (sizes : List (List Cut)) (fs : FrameSizes)
    → All IsSized (items files b pools words leaders) → AreRising pools → HaveFirsts files b pools → StartAligned files b pools leaders (layout_of files b pools words leaders sizes fs)
unfolding layout_of laid_of
start_laid files b pools words leaders sizes fs sized rise firsts =
    let bounds : Bounds = bounds_of sizes (orders_of (items files b pools words leaders)) fs in
    start_walked files b pools words leaders sizes bounds _ (walked_by files b pools words leaders sizes bounds) sized rise firsts

pub start_seen : (layout : Layout) (files : List File) (b : Bindings) (pools : List Pool) (words : ℕ) (leaders : List (Option ℕ)) (sizes : List (List Cut)) (fs : FrameSizes)
    → All IsSized (items files b pools words leaders) → AreRising pools → HaveFirsts files b pools → layout_view layout ≡ layout_of files b pools words leaders sizes fs
    → StartAligned files b pools leaders (layout_view layout)
start_seen layout files b pools words leaders sizes fs sized rise firsts is =
    subst (StartAligned files b pools leaders) (sym is) (start_laid files b pools words leaders sizes fs sized rise firsts)
