-- Two sections of one output section: the bytes between two of their offsets are at most those of the upper places.
use Rattle.std.proofs.Common.{◌≡◌, ℕ, ◌+◌, ◌-◌, ◌<◌, ◌≤◌, ◌%◌, ◌^◌, ◌&&◌, true, false, if◌then◌else◌, Option, List, [], ◌++◌, length, get_or, refl, sym, ap, ◌∙◌, subst, arith}
use Rattle.std.specs.Prelude.{All}
use Rattle.std.specs.List.{range_with_len, sum_by}
use Rattle.std.proofs.lemmas.List.Sums.{sum_by-cons}
use Rattle.lk_tables.specs.declared.classes.Class.{Class}
use Rattle.lk_tables.specs.declared.classes.Class.TheVariants.{R, Rx, TlsBits, TlsNobits, RwBits, RwNobits}
use Rattle.lk_tables.specs.declared.tables.Tables.{Tables}
use Rattle.lk_tables.specs.Binding.{Bindings}
use Rattle.lk_tables.specs.Classes.{is_in}
use Rattle.lk_tables.specs.Files.{File, section_total}
use Rattle.lk_tables.specs.TablesView.{files_of}
use Rattle.link_sections.specs.declared.layouts.Bounds.{Bounds}
use Rattle.link_sections.specs.declared.members.Content.{Content}
use Rattle.link_sections.specs.declared.members.Content.TheVariants.{Section, Pool as IsPool, Got}
use Rattle.link_sections.specs.declared.members.Member.{Member as LaidMember}
use Rattle.link_sections.specs.declared.pools.Pool.{Pool}
use Rattle.link_sections.specs.Cuts.{Cut, new_offset}
use Rattle.link_sections.specs.InputSections.{input_at}
use Rattle.link_sections.specs.LaidOut.{LaidOut, cuts_at, start_at}
use Rattle.link_sections.specs.Leaders.{leads}
use Rattle.link_sections.specs.PoolViews.{Merged}
use Rattle.link_sections.specs.Sound.{IsSectionMember}
use Rattle.output_sections.specs.declared.rows.Row.{Row}
use Rattle.layout.specs.declared.walk.Cursor.{Cursor}
use Rattle.output_sections.specs.Items.{Item}
use Rattle.layout.specs.Layout.{tls_cursor}
use Rattle.output_sections.specs.Order.{Orders, is_content, number_in, order_of, orders_of, own_section}
use Rattle.layout.specs.Walk.{cursor_at, member_at, members_along, runs, size_at}
use Rattle.output_sections.proofs.ClassSums.{all_order}
use Rattle.output_sections.proofs.ItemFacts.{members_known}
use Rattle.layout.proofs.PlacedMembers.{size_plain, whole_size}
use Rattle.layout.proofs.Trails.{all_members}
use Rattle.relax.specs.declared.calls.Call.{Call}
use Rattle.relax.specs.CallSizes.{calls_in, first_call, member_at as own_member, no_member, place_in, room, row_at, sized, upper_offset, upper_place}
use Rattle.link_driver.proofs.CallChain.{split_all}
use Rattle.link_driver.proofs.Classes.{HasBits}
use Rattle.link_driver.proofs.Given.{IsGiven, the_items, the_members, the_rows}
use Rattle.link_driver.proofs.Flat.{sum_numbered}
use Rattle.link_driver.proofs.Members.{Stands, at_place, class_of, member_is, member_low, place_is, stands, start}
use Rattle.link_driver.proofs.LayoutRows.{fields_of, no_row, same_groups, same_names}
use Rattle.link_driver.proofs.NearRows.{AreClose, close, most}
use Rattle.link_driver.proofs.Orders.{sum_split}
use Rattle.link_driver.proofs.SectionLists.{i_low, no_higher, no_nearer, rises}
use Rattle.link_driver.proofs.Shortened.{row_is}

-- the members of a class with bytes
class_part : (P : LaidMember → Type 0) (sizes : List (List Cut)) (list : List Item) (bounds : Bounds) (class : Class) → HasBits class → All P (all_members sizes (orders_of list) bounds)
    → (c : Cursor) × All P (members_along sizes c (runs (order_of class list)))
unfolding orders_of
class_part P sizes list bounds class bits all = by class bits
  where
    o : Orders
    o = orders_of list

    r : List LaidMember
    r = members_along sizes (cursor_at bounds.headers_end) (runs (order_of R list))

    x : List LaidMember
    x = members_along sizes (cursor_at bounds.rx_start) (runs (order_of Rx list))

    t : List LaidMember
    t = members_along sizes (tls_cursor sizes (orders_of list) bounds.rw_start bounds.tls_align) (runs (order_of TlsBits list))

    w : List LaidMember
    w = members_along sizes (cursor_at bounds.tls_bits_end) (runs (order_of RwBits list))

    one : All P r × All P (x ++ (t ++ w))
    one = split_all P r (x ++ (t ++ w)) all

    two : All P x × All P (t ++ w)
    two = split_all P x (t ++ w) one.1

    three : All P t × All P w
    three = split_all P t w two.1

    by : (class : Class) → HasBits class → (c : Cursor) × All P (members_along sizes c (runs (order_of class list)))
    by R bits = (cursor_at bounds.headers_end, one.0)
    by Rx bits = (cursor_at bounds.rx_start, two.0)
    by TlsBits bits = (tls_cursor sizes (orders_of list) bounds.rw_start bounds.tls_align, three.0)
    by TlsNobits bits = absurd bits
    by RwBits bits = (cursor_at bounds.tls_bits_end, three.1)
    by RwNobits bits = absurd bits

module _ (tables : Tables) (b : Bindings) (pools : List Pool) (merged : List (Option Merged)) (words : ℕ) (leaders : List (Option ℕ)) (laid : LaidOut) (sizes : List (List Cut)) (z : List ℕ)
    (given : IsGiven tables b pools merged words leaders laid sizes z) where
  abbrev files : List File
  files = files_of tables

  abbrev its : List Item
  its = the_items tables b pools merged words leaders laid sizes z

  abbrev ms : List Row
  ms = the_members tables b pools merged words leaders laid sizes z

  abbrev rows : List (List Call)
  rows = the_rows tables b pools merged words leaders laid sizes z

  few : section_total files ≤ 2 ^ 28
  few = given.few.section_count_is

  -- what holds of each member that is laid
  abbrev pub P : LaidMember → Type 0
  P m = ((n : ℕ) → m.content ≡ Section n → IsSectionMember (files_of tables) b leaders laid n m) × ((n : ℕ) → m.content ≡ Section n → m.start % (input_at (files_of tables) b n).align ≡ 0)

  all_laid : All P (all_members sizes (orders_of its) given.bounds)
  all_laid = subst (All P) given.placed (λ k d lt. (given.sound.sections k d lt, given.aligned k d lt))

  -- the most bytes of a section
  abbrev upper : ℕ → ℕ
  upper n = upper_offset (the_members tables b pools merged words leaders laid sizes z) (the_rows tables b pools merged words leaders laid sizes z) z
      (place_in (the_members tables b pools merged words leaders laid sizes z) n) (input_at (files_of tables) b n).size

  fits_by : (at : ℕ) (r : Row) (c : Content) → r.content ≡ c → P (member_at sizes at r) → size_at sizes at r ≤ most upper c r.size
  fits_by at r (Section n) is p =
      let own = p.0 n is in
      let higher = no_higher tables b pools merged words leaders laid sizes z given n own.number own.own (input_at files b n).size in
      omega (arith, own.size, higher)
  fits_by at r (IsPool q) is p = omega (arith, size_plain sizes at r (λ n same. no_pool n (sym is ∙ same)))
    where
      no_pool : (n : ℕ) → IsPool q ≡ Section n → ⊥
      no_pool n e = cc
  fits_by at r Got is p = omega (arith, size_plain sizes at r (λ n same. no_table n (sym is ∙ same)))
    where
      no_table : (n : ℕ) → Got ≡ Section n → ⊥
      no_table n e = cc

  fits : (at : ℕ) (r : Row) → P (member_at sizes at r) → size_at sizes at r ≤ most upper r.content r.size
  fits at r p = fits_by at r r.content refl p

  aligned_rows : (class : Class) → All (λ (r : Row). 1 ≤ r.align) (order_of class its)
  aligned_rows class = all_order (λ (r : Row). 1 ≤ r.align) (λ (item : Item). 1 ≤ item.align) class its (λ h n item le. omega (arith, le, (fields_of class h n item).align)) given.some

  -- what a member takes at most is its room
  plain_room : (k : ℕ) → k < length ms → is_content (own_member ms k).content ≡ false → upper_offset ms rows z k (own_member ms k).size ≡ (own_member ms k).size
  unfolding upper_offset
  plain_room k lt plain =
      let none : row_at rows k ≡ [] =
      row_is files b merged leaders ms true k lt
      ∙ ap (λ t. if true && t then calls_in files b merged leaders ms k (own_section (own_member ms k)) else []) plain in
      ap (λ l. new_offset (sized z (first_call rows k) l) (own_member ms k).size) none ∙ whole_size (own_member ms k).size

  most_by : (k : ℕ) → k < length ms → (c : Content) → (own_member ms k).content ≡ c → most upper c (own_member ms k).size ≡ upper_offset ms rows z k (own_member ms k).size
  most_by k lt (Section n) is =
      let place = place_is files b pools words leaders few k n lt is in
      let known = members_known files b pools words leaders given.are k no_member lt in
      let size : (own_member ms k).size ≡ (input_at files b n).size = known.size (ap is_content is) ∙ ap (λ c. (input_at files b (number_in c)).size) is in
      ap (λ p. upper_offset ms rows z p (input_at files b n).size) place ∙ ap (upper_offset ms rows z k) (sym size)
  most_by k lt (IsPool p) is = sym (plain_room k lt (ap is_content is))
  most_by k lt Got is = sym (plain_room k lt (ap is_content is))

  most_room : (k : ℕ) → k < length ms → ((own_member ms k).align - 1) + most upper (own_member ms k).content (own_member ms k).size ≡ room ms rows z k
  most_room k lt = ap (λ n. ((own_member ms k).align - 1) + n) (most_by k lt (own_member ms k).content refl)

  module _ (class : Class) (bits : HasBits class) (n m : ℕ) (n_low : n < section_total files) (m_low : m < section_total files) (n_leads : leads leaders n ≡ true) (m_leads : leads leaders m ≡ true)
      (n_of : is_in class (input_at files b n).sh_type (input_at files b n).flags ≡ true)
      (near : (own_member ms (place_in ms n)).group ≡ (own_member ms (place_in ms m)).group) (less : place_in ms n < place_in ms m)
      (some : 0 < (input_at files b n).size + (input_at files b m).size) where
    abbrev i : ℕ
    i = place_in ms n

    abbrev j : ℕ
    j = place_in ms m

    i_in : i < length ms
    i_in = i_low tables b pools merged words leaders laid sizes z given n n_low n_leads

    j_in : j < length ms
    j_in = i_low tables b pools merged words leaders laid sizes z given m m_low m_leads

    m_of : is_in class (input_at files b m).sh_type (input_at files b m).flags ≡ true
    m_of = class_of files b pools words leaders few class n m i j i_in j_in (at_place ms n i_in) (at_place ms m j_in) near n_of

    x : Stands files b pools words leaders few class n i
    x = stands files b pools words leaders few class n i i_in (at_place ms n i_in) n_of

    y : Stands files b pools words leaders few class m j
    y = stands files b pools words leaders few class m j j_in (at_place ms m j_in) m_of

    abbrev first_of : ℕ
    first_of = start files b pools words leaders few class

    abbrev xr : Row
    xr = get_or (order_of class its) x.place no_row

    abbrev yr : Row
    yr = get_or (order_of class its) y.place no_row

    groups : xr.group ≡ yr.group
    groups = sym (ap (λ (r : Row). r.group) x.same) ∙ near ∙ ap (λ (r : Row). r.group) y.same

    ranks : xr.rank ≡ yr.rank
    ranks = (same_groups class its xr yr x.row.is y.row.is (same_names class its xr yr x.row.is y.row.is groups)).1

    order_is : x.place < y.place
    order_is = let xi = x.is in let yi = y.is in omega (arith, less, xi, yi)

    full : 0 < xr.size + yr.size
    full = let xs = x.row.size in let ys = y.row.size in omega (arith, some, xs, ys)

    part : (c : Cursor) × All P (members_along sizes c (runs (order_of class its)))
    part = class_part P sizes its given.bounds class bits all_laid

    closed : AreClose files b pools words leaders few class x.place y.place order_is y.row.low groups ranks P sizes part.0 upper (aligned_rows class) full fits part.1
    closed = close files b pools words leaders few class x.place y.place order_is y.row.low groups ranks P sizes part.0 upper (aligned_rows class) full fits part.1

    -- the rows between are the members between
    mid_room : (k : ℕ) → k < length closed.mid → ((get_or closed.mid k no_row).align - 1) + most upper (get_or closed.mid k no_row).content (get_or closed.mid k no_row).size ≤ room ms rows z (i + 1 + k)
    mid_room k lt =
        let q : ℕ = x.place + 1 + k in
        let long = closed.long in
        let y_low = y.row.low in
        let q_low : q < length (order_of class its) = omega (arith, lt, long, y_low) in
        let xi = x.is in
        let e : i + 1 + k ≡ first_of + q = omega (arith, xi) in
        let low = member_low files b pools words leaders few class q q_low in
        let same : get_or closed.mid k no_row ≡ own_member ms (i + 1 + k) = closed.at k lt ∙ sym (member_is files b pools words leaders few class q q_low) ∙ ap (own_member ms) (sym e) in
        let whole = most_room (i + 1 + k) (omega (arith, low, e)) in
        omega (arith, ap (λ (r : Row). (r.align - 1) + most upper r.content r.size) same, whole)

    -- the bytes between are no more than the rooms between
    between_most : sum_by (λ (r : Row). (r.align - 1) + most upper r.content r.size) closed.mid ≤ sum_by (room ms rows z) (range_with_len (i + 1) (j - (i + 1)))
    between_most =
        let long = closed.long in
        let xi = x.is in
        let yi = y.is in
        let e : length closed.mid ≡ j - (i + 1) = omega (arith, long, xi, yi) in
        omega (arith, sum_numbered (λ (r : Row). (r.align - 1) + most upper r.content r.size) (room ms rows z) no_row closed.mid (i + 1) mid_room, ap (λ k. sum_by (room ms rows z) (range_with_len (i + 1) k)) e)

    -- the upper places
    places : (o p : ℕ) → upper_place ms rows z j p + upper_offset ms rows z i o
        ≡ upper_place ms rows z i o + (upper_offset ms rows z i (own_member ms i).size + (sum_by (room ms rows z) (range_with_len (i + 1) (j - (i + 1))) + (((own_member ms j).align - 1) + upper_offset ms rows z j p)))
    unfolding upper_place
    places o p =
        let f : ℕ → ℕ = room ms rows z in
        let e : (i + 1) + (j - (i + 1)) ≡ j = omega (arith, less) in
        let h : 0 + (i + 1) ≡ i + 1 = omega arith in
        let g : 0 + i ≡ i = omega arith in
        omega (
          arith,
          ap (λ k. sum_by f (range_with_len 0 k)) e,
          sum_split f 0 (i + 1) (j - (i + 1)),
          ap (λ k. sum_by f (range_with_len k (j - (i + 1)))) h,
          sum_split f 0 i 1,
          ap (λ k. sum_by f (range_with_len k 1)) g,
          sum_by-cons f i [],
        )

    -- where the two offsets stand
    pub record IsSpan (o p : ℕ) : Type 0 where
      pub after : start_at laid n + new_offset (cuts_at laid n) o ≤ start_at laid m + new_offset (cuts_at laid m) p
      pub most : (start_at laid m + new_offset (cuts_at laid m) p) + upper_place ms rows z (place_in ms n) o ≤ (start_at laid n + new_offset (cuts_at laid n) o) + upper_place ms rows z (place_in ms m) p
      pub low_aligned : start_at laid n % (input_at files b n).align ≡ 0
      pub high_aligned : start_at laid m % (input_at files b m).align ≡ 0

    pub span : (o p : ℕ) → o ≤ (input_at files b n).size → IsSpan o p
    span o p o_in =
        let c = closed in
        let one = c.one.0 n x.row.content in
        let other = c.other.0 m y.row.content in
        let first : c.first ≡ start_at laid n = one.start in
        let second : c.second ≡ start_at laid m = other.start in
        let size : size_at sizes c.first xr ≡ new_offset (cuts_at laid n) (input_at files b n).size = one.size in
        let rise = rises tables b pools merged words leaders laid sizes z given n n_low n_leads o (input_at files b n).size o_in in
        let nearer = no_nearer tables b pools merged words leaders laid sizes z given n n_low n_leads o (input_at files b n).size o_in in
        let higher = no_higher tables b pools merged words leaders laid sizes z given m m_low m_leads p in
        let si = ap (λ (k : Row). k.size) x.same ∙ x.row.size in
        let aj = ap (λ (k : Row). k.align) y.same in
        let up_size = ap (upper_offset ms rows z i) si in
        let a1 = c.one.1 n x.row.content in
        let a2 = c.other.1 m y.row.content in
        record {
          after = omega (arith, c.after_first, first, second, size, rise);
          most = omega (arith, c.near, first, second, size, nearer, higher, between_most, places o p, up_size, aj);
          low_aligned = subst (λ k. k % (input_at files b n).align ≡ 0) first a1;
          high_aligned = subst (λ k. k % (input_at files b m).align ≡ 0) second a2;
        }
