-- Each section that is its own leader, each pool and the table is held by an output section of the layout.
use Rattle.std.proofs.Common.{◌≡◌, ℕ, zero, suc, ◌+◌, ◌*◌, ◌^◌, ◌<◌, ◌≤◌, ◌==◌, ◌&&◌, ◌||◌, Bool, true, false, if◌then◌else◌, Option, Some, List, [], ◌∷◌, ◌++◌, flat_map, get_or, length, All, refl, ap, sym, ◌∙◌, subst, append-nil, codes, arith}
use Rattle.std.specs.Prelude.{slice_get}
use Rattle.std.specs.List.{list_any, range_with_len}
use Rattle.std.proofs.lemmas.Bool.{and_from, and_parts, eq-eqb, eqb-true, or_left, or_right}
use Rattle.std.proofs.lemmas.Bool.Decides.{nat_tests}
use Rattle.std.proofs.lemmas.List.{length-replicate}
use Rattle.std.proofs.lemmas.List.Elements.{All-nil, All-cons, All-append}
use Rattle.lk_base.specs.declared.abi.TheConstants.{SHF_ALLOC, SHF_WRITE, SHT_PROGBITS}
use Rattle.lk_base.specs.Arithmetic.{up}
use Rattle.lk_base.proofs.Membership.{any_here, any_later}
use Rattle.lk_base.proofs.StableElements.{any_stable}
use Rattle.lk_tables.specs.Binding.{Bindings}
use Rattle.lk_tables.specs.Classes.{output_rank}
use Rattle.lk_tables.specs.Files.{File, section_total}
use Rattle.lk_tables.specs.OutputNames.{output_name}
use Rattle.lk_tables.specs.declared.classes.Class.{Class}
use Rattle.lk_tables.specs.declared.classes.Class.TheVariants.{R, Rx, TlsBits, TlsNobits, RwBits, RwNobits}
use Rattle.link_sections.specs.declared.layouts.Bounds.{Bounds}
use Rattle.link_sections.specs.declared.layouts.Layout.{Layout}
use Rattle.link_sections.specs.declared.members.Content.{Content}
use Rattle.link_sections.specs.declared.members.Content.TheVariants.{Section, Pool as IsPool, Got}
use Rattle.link_sections.specs.declared.members.Member.{Member}
use Rattle.link_sections.specs.declared.pools.Pool.{Pool}
use Rattle.link_sections.specs.Cuts.{AreApart, Cut, new_offset}
use Rattle.link_sections.specs.InputSections.{InputSection, input_at}
use Rattle.link_sections.specs.LaidOut.{LaidOut, OutputSection, cuts_at, layout_view, start_at}
use Rattle.link_sections.specs.Leaders.{leads}
use Rattle.link_sections.specs.Pools.{AreRising}
use Rattle.link_sections.specs.Sound.{is_pool, is_section, is_table}
use Rattle.output_sections.specs.declared.heads.Head.{Head}
use Rattle.output_sections.specs.declared.rows.Row.{Row}
use Rattle.output_sections.specs.Items.{AreLeaders, HaveFirsts, IsSized, Item, got_item, items, items_at, own_item, pool_at, pool_item, section_item}
use Rattle.output_sections.specs.Order.{Orders, head_of, is_of, key_of, order_of, orders_of, own_row, row_in, rows_from, rows_in, rows_of}
use Rattle.output_sections.proofs.ItemFacts.{all_flat, same_section}
use Rattle.layout.specs.declared.frames.FrameBounds.{FrameBounds}
use Rattle.layout.specs.declared.walk.Cursor.{Cursor}
use Rattle.layout.specs.Cutting.{laid_cuts}
use Rattle.layout.specs.Holding.{AreHeld, IsHeld, takes}
use Rattle.layout.specs.Layout.{FitSizes, FrameSizes, after_tls_bits, bounds_of, cuts_of, frame_section, frame_sections, frames_in, laid_by, laid_of, layout_of, no_trail, tls_cursor, trail_of}
use Rattle.layout.specs.Walk.{Stands, after, all_put, cursor_at, cuts_in, is_empty, members_from, members_still, name_of_item, runs, sections_along, size_at, stands_along, stands_in, start_of}
use Rattle.layout.proofs.Apart.{all_sections, trail_outputs}
use Rattle.layout.proofs.Cursors.{RowFits}
use Rattle.layout.proofs.Groups.{IsKeyed, class_groups}
use Rattle.layout.proofs.Held.{Few, IsHeldIn, Other, class_along, content_along, few_other, has_kind, held_along, kind_of, other_class, skip}
use Rattle.layout.proofs.ItemFacts.{ready_of}
use Rattle.layout.proofs.Listed.{any_one, or_cases, pool_listed, runs_any, section_listed, table_listed, has_member}
use Rattle.layout.proofs.Marks.{HasRoom, found_at, in_members, is_it, stand_at, stands_once}
use Rattle.layout.proofs.OwnRows.{IsRow, each_own}
use Rattle.layout.proofs.PlacedMembers.{whole_size}
use Rattle.layout.proofs.Rising.{AllFit, all_fit}
use Rattle.layout.proofs.RowsOfCuts.{map_at}
use Rattle.layout.proofs.Runs.{each_run}
use Rattle.layout.proofs.Sounds.{cuts_here}
use Rattle.layout.proofs.Trails.{all_stands, trail_stands}

-- each item of a link by what it is
abbrev none_at : Pool
none_at = record { first = 0; size = 0 }

module _ (files : List File) (b : Bindings) (pools : List Pool) (words : ℕ) (leaders : List (Option ℕ)) where
  abbrev pub own_of : Content → Item
  own_of (Section n) = section_item n (input_at files b n)
  own_of (IsPool p) = pool_item p (get_or pools p none_at).size (input_at files b (get_or pools p none_at).first)
  own_of Got = got_item words

  abbrev IsItsOwn : Item → Type 0
  IsItsOwn item = item ≡ own_of item.content

  section_own : (n : ℕ) → All IsItsOwn (own_item leaders n (input_at files b n))
  unfolding own_item
  section_own n = by (leads leaders n)
    where
      by : (t : Bool) → All IsItsOwn (if t then section_item n (input_at files b n) ∷ [] else [])
      by true = All-cons IsItsOwn (section_item n (input_at files b n)) [] refl (All-nil IsItsOwn)
      by false = All-nil IsItsOwn

  pool_own : (p : ℕ) (rest : List Pool) (n : ℕ) → ((i : ℕ) (d : Pool) → i < length rest → get_or rest i d ≡ get_or pools (p + i) d)
      → All IsItsOwn (pool_at p rest n (input_at files b n))
  unfolding pool_at
  pool_own p [] n those = All-nil IsItsOwn
  pool_own p (pool ∷ rest) n those =
      by (pool.first == n) refl (pool_own (p + 1) rest n
      (λ i d lt. let e : p + suc i ≡ (p + 1) + i = omega arith in those (suc i) d (omega (arith, lt)) ∙ ap (λ k. get_or pools k d) e))
    where
      by : (t : Bool) → (pool.first == n) ≡ t → All IsItsOwn (pool_at (p + 1) rest n (input_at files b n))
          → All IsItsOwn (if t then pool_item p pool.size (input_at files b n) ∷ [] else pool_at (p + 1) rest n (input_at files b n))
      by true is later =
          let e : p + 0 ≡ p = omega arith in
          let same : pool ≡ get_or pools p none_at = those 0 none_at (omega arith) ∙ ap (λ k. get_or pools k none_at) e in
          All-cons IsItsOwn (pool_item p pool.size (input_at files b n)) []
          (ap (λ k. pool_item p pool.size (input_at files b k)) (sym (eqb-true pool.first n is)) ∙ ap (λ (x : Pool). pool_item p x.size (input_at files b x.first)) same)
          (All-nil IsItsOwn)
      by false is later = later

  at_own : (n : ℕ) → All IsItsOwn (items_at files b pools leaders n)
  unfolding items_at
  at_own n =
      All-append IsItsOwn (own_item leaders n (input_at files b n)) (pool_at 0 pools n (input_at files b n))
      (section_own n) (pool_own 0 pools n (λ i d lt. let e : i ≡ 0 + i = omega arith in ap (λ k. get_or pools k d) e))

  pub items_own : All IsItsOwn (items files b pools words leaders)
  unfolding items
  items_own =
      All-append IsItsOwn (flat_map (items_at files b pools leaders) (range_with_len 0 (section_total files))) (got_item words ∷ [])
      (all_flat IsItsOwn (items_at files b pools leaders) 0 (section_total files) at_own) (All-cons IsItsOwn (got_item words) [] refl (All-nil IsItsOwn))

-- the output sections of the unwind records are of the class R, and have no members
two_by : (P : OutputSection → Type 0) (t : Bool) (x y : OutputSection) → P x → P y → All P (if t then x ∷ y ∷ [] else [])
two_by P true x y one other = All-cons P x (y ∷ []) one (All-cons P y [] other (All-nil P))
two_by P false x y one other = All-nil P

frames_class : (f : FrameBounds) → All (λ (x : OutputSection). x.class ≡ R) (frame_sections f)
frames_class f =
    two_by (λ (x : OutputSection). x.class ≡ R) f.has_frames (frame_section (codes ".eh_frame_hdr") f.header f.header_end 4) (frame_section (codes ".eh_frame") f.frames f.frames_end 8) refl refl

frames_count : (f : FrameBounds) → All (λ (x : OutputSection). x.count ≡ 0) (frame_sections f)
frames_count f =
    two_by (λ (x : OutputSection). x.count ≡ 0) f.has_frames (frame_section (codes ".eh_frame_hdr") f.header f.header_end 4) (frame_section (codes ".eh_frame") f.frames f.frames_end 8) refl refl

-- the rank of an output section of a class, by its number
abbrev rank_in : Class → List Item → ℕ → ℕ
rank_in class parts g = output_rank class (head_of class parts (name_of_item (slice_get parts g))).sh_type (name_of_item (slice_get parts g))

row_keyed : (class : Class) (parts : List Item) (item : Item) (row : Row) → IsRow class parts item row → IsKeyed (rank_in class parts) row
row_keyed class parts item row is = record {
  rank = is.rank ∙ ap (λ n. output_rank class (head_of class parts n).sh_type n) (sym is.named);
  low = is.low;
  priority = is.priority;
}

few_class : (class other : Class) (item : Item) (outputs : List OutputSection) → (other ≡ class → ⊥) → is_of class item ≡ true → All (λ (x : OutputSection). x.class ≡ other) outputs
    → Few item outputs
few_class class other item outputs differ is all = few_other item outputs (other_class class other item outputs differ is all)

few_more : (item : Item) (xs ys : List OutputSection) → Few item xs → Few item ys → Few item (xs ++ ys)
few_more item xs ys one other = All-append (λ (x : OutputSection). takes item x ≡ true → x.count ≡ 0) xs ys one other

module _ (sizes : List (List Cut)) (parts : List Item) (own : Content → Item) (few : length parts ≤ 2 ^ 30) (all : All (λ (item : Item). item ≡ own item.content) parts)
    (fit : AllFit sizes (orders_of parts)) where
  class_held : (class : Class) (c : Cursor) (later : List OutputSection) → ((item : Item) → is_of class item ≡ true → Few item later)
      → All (IsHeldIn sizes own (sections_along sizes parts class c (runs (rows_in (orders_of parts) class)) ++ later)) (stands_along sizes c (runs (rows_in (orders_of parts) class)))
  class_held class c later none =
      let rows : List Row = rows_in (orders_of parts) class in
      let P : Row → Type 0 = λ row. IsRow class parts (own row.content) row in
      let is : All P rows = each_own own parts few all class in
      held_along sizes parts own class c (runs rows) later (each_run P rows is) (each_run (RowFits sizes) rows (fit class))
      (class_groups (rank_in class parts) parts class (λ k d lt. row_keyed class parts (own (get_or rows k d).content) (get_or rows k d) (is k d lt))) none

  class_contents : (class : Class) (c : Cursor) → All (λ (m : Member). is_of class (own m.content) ≡ true) (stands_along sizes c (runs (rows_in (orders_of parts) class)))
  class_contents class c =
      let rows : List Row = rows_in (orders_of parts) class in
      let P : Row → Type 0 = λ row. is_of class (own row.content) ≡ true in
      content_along sizes (λ it. is_of class (own it) ≡ true) c (runs rows) (each_run P rows (λ k d lt. (each_own own parts few all class k d lt).in_class))

  behind : (class other : Class) (xs ys : List OutputSection) (ms : List Member) → (other ≡ class → ⊥) → All (λ (x : OutputSection). x.class ≡ other) xs
      → All (λ (m : Member). is_of class (own m.content) ≡ true) ms → All (IsHeldIn sizes own ys) ms → All (IsHeldIn sizes own (xs ++ ys)) ms
  behind class other xs ys ms differ of_other of_class held = λ k d lt.
      let m : Member = get_or ms k d in
      skip (own m.content) xs ys m.start (new_offset (laid_cuts m.start (cuts_in sizes m.content)) (own m.content).size)
      (other_class class other (own m.content) xs differ (of_class k d lt) of_other) (held k d lt)

  pub all_held : (b : Bounds) → All (IsHeldIn sizes own (all_sections sizes parts (orders_of parts) b)) (all_stands sizes (orders_of parts) b)
  all_held b =
      let o : Orders = orders_of parts in
      let f : FrameBounds = frames_in b in
      let cr : Cursor = cursor_at b.headers_end in
      let cx : Cursor = cursor_at b.rx_start in
      let ct : Cursor = tls_cursor sizes o b.rw_start b.tls_align in
      let cn : Cursor = after_tls_bits sizes o b.rw_start b.tls_align in
      let cw : Cursor = cursor_at b.tls_bits_end in
      let cz : Cursor = cursor_at b.bits_end in
      let r : List OutputSection = sections_along sizes parts R cr (runs (rows_in o R)) in
      let u : List OutputSection = frame_sections f in
      let x : List OutputSection = sections_along sizes parts Rx cx (runs (rows_in o Rx)) in
      let t : List OutputSection = sections_along sizes parts TlsBits ct (runs (rows_in o TlsBits)) in
      let n : List OutputSection = sections_along sizes parts TlsNobits cn (runs (rows_in o TlsNobits)) in
      let w : List OutputSection = sections_along sizes parts RwBits cw (runs (rows_in o RwBits)) in
      let z : List OutputSection = sections_along sizes parts RwNobits cz (runs (rows_in o RwNobits)) in
      let of_r : All (λ (k : OutputSection). k.class ≡ R) r = class_along sizes parts R cr (runs (rows_in o R)) in
      let of_u : All (λ (k : OutputSection). k.class ≡ R) u = frames_class f in
      let of_x : All (λ (k : OutputSection). k.class ≡ Rx) x = class_along sizes parts Rx cx (runs (rows_in o Rx)) in
      let of_t : All (λ (k : OutputSection). k.class ≡ TlsBits) t = class_along sizes parts TlsBits ct (runs (rows_in o TlsBits)) in
      let of_n : All (λ (k : OutputSection). k.class ≡ TlsNobits) n = class_along sizes parts TlsNobits cn (runs (rows_in o TlsNobits)) in
      let of_w : All (λ (k : OutputSection). k.class ≡ RwBits) w = class_along sizes parts RwBits cw (runs (rows_in o RwBits)) in
      let of_z : All (λ (k : OutputSection). k.class ≡ RwNobits) z = class_along sizes parts RwNobits cz (runs (rows_in o RwNobits)) in
      let held_r = class_held R cr (u ++ (x ++ (t ++ (n ++ (w ++ z))))) (λ item is.
      few_more item u (x ++ (t ++ (n ++ (w ++ z)))) (λ k d lt taken. frames_count f k d lt)
      (few_more item x (t ++ (n ++ (w ++ z))) (few_class R Rx item x (λ e. cc) is of_x) (few_more item t (n ++ (w ++ z)) (few_class R TlsBits item t (λ e. cc) is of_t)
      (few_more item n (w ++ z) (few_class R TlsNobits item n (λ e. cc) is of_n) (few_more item w z (few_class R RwBits item w (λ e. cc) is of_w) (few_class R RwNobits item z (λ e. cc) is of_z)))))) in
      let held_x = class_held Rx cx (t ++ (n ++ (w ++ z))) (λ item is.
      few_more item t (n ++ (w ++ z)) (few_class Rx TlsBits item t (λ e. cc) is of_t)
      (few_more item n (w ++ z) (few_class Rx TlsNobits item n (λ e. cc) is of_n) (few_more item w z (few_class Rx RwBits item w (λ e. cc) is of_w) (few_class Rx RwNobits item z (λ e. cc) is of_z)))) in
      let held_t = class_held TlsBits ct (n ++ (w ++ z)) (λ item is.
      few_more item n (w ++ z) (few_class TlsBits TlsNobits item n (λ e. cc) is of_n)
      (few_more item w z (few_class TlsBits RwBits item w (λ e. cc) is of_w) (few_class TlsBits RwNobits item z (λ e. cc) is of_z))) in
      let held_n = class_held TlsNobits cn (w ++ z) (λ item is.
      few_more item w z (few_class TlsNobits RwBits item w (λ e. cc) is of_w) (few_class TlsNobits RwNobits item z (λ e. cc) is of_z)) in
      let held_w = class_held RwBits cw z (λ item is. few_class RwBits RwNobits item z (λ e. cc) is of_z) in
      let held_z = subst (λ l. All (IsHeldIn sizes own l) (stands_along sizes cz (runs (rows_in o RwNobits)))) (append-nil z) (class_held RwNobits cz [] (λ item is. All-nil (λ (x : OutputSection). takes item x ≡ true → x.count ≡ 0))) in
      let in_x = class_contents Rx cx in
      let in_t = class_contents TlsBits ct in
      let in_n = class_contents TlsNobits cn in
      let in_w = class_contents RwBits cw in
      let in_z = class_contents RwNobits cz in
      let P : Member → Type 0 = IsHeldIn sizes own (r ++ (u ++ (x ++ (t ++ (n ++ (w ++ z)))))) in
      let from_x = behind Rx R r (u ++ (x ++ (t ++ (n ++ (w ++ z))))) _ (λ e. cc) of_r in_x (behind Rx R u (x ++ (t ++ (n ++ (w ++ z)))) _ (λ e. cc) of_u in_x held_x) in
      let from_t = behind TlsBits R r (u ++ (x ++ (t ++ (n ++ (w ++ z))))) _ (λ e. cc) of_r in_t (behind TlsBits R u (x ++ (t ++ (n ++ (w ++ z)))) _ (λ e. cc) of_u in_t
      (behind TlsBits Rx x (t ++ (n ++ (w ++ z))) _ (λ e. cc) of_x in_t held_t)) in
      let from_n = behind TlsNobits R r (u ++ (x ++ (t ++ (n ++ (w ++ z))))) _ (λ e. cc) of_r in_n (behind TlsNobits R u (x ++ (t ++ (n ++ (w ++ z)))) _ (λ e. cc) of_u in_n
      (behind TlsNobits Rx x (t ++ (n ++ (w ++ z))) _ (λ e. cc) of_x in_n (behind TlsNobits TlsBits t (n ++ (w ++ z)) _ (λ e. cc) of_t in_n held_n))) in
      let from_w = behind RwBits R r (u ++ (x ++ (t ++ (n ++ (w ++ z))))) _ (λ e. cc) of_r in_w (behind RwBits R u (x ++ (t ++ (n ++ (w ++ z)))) _ (λ e. cc) of_u in_w
      (behind RwBits Rx x (t ++ (n ++ (w ++ z))) _ (λ e. cc) of_x in_w (behind RwBits TlsBits t (n ++ (w ++ z)) _ (λ e. cc) of_t in_w
      (behind RwBits TlsNobits n (w ++ z) _ (λ e. cc) of_n in_w held_w)))) in
      let from_z = behind RwNobits R r (u ++ (x ++ (t ++ (n ++ (w ++ z))))) _ (λ e. cc) of_r in_z (behind RwNobits R u (x ++ (t ++ (n ++ (w ++ z)))) _ (λ e. cc) of_u in_z
      (behind RwNobits Rx x (t ++ (n ++ (w ++ z))) _ (λ e. cc) of_x in_z (behind RwNobits TlsBits t (n ++ (w ++ z)) _ (λ e. cc) of_t in_z
      (behind RwNobits TlsNobits n (w ++ z) _ (λ e. cc) of_n in_z (behind RwNobits RwBits w z _ (λ e. cc) of_w in_z held_z))))) in
      All-append P _ _ held_r (All-append P _ _ from_x (All-append P _ _ from_t (All-append P _ _ from_n (All-append P _ _ from_w from_z))))

-- each item stands somewhere
abbrev item_of : (test : Content → Bool) → Class → Item → Bool
item_of test class item = is_of class item && test item.content

abbrev has_row : (test : Content → Bool) → List Row → Bool
has_row test rows = list_any (λ row. test row.content) rows

module _ (test : Content → Bool) where
  own_row_has : (class : Class) (heads : List ℕ → Head) (number : ℕ) (item : Item) → item_of test class item ≡ true → has_row test (own_row class heads number item) ≡ true
  unfolding own_row row_in
  own_row_has class heads number item is =
      let both = and_parts (is_of class item) (test item.content) is in
      any_one (is_of class item) (λ (row : Row). test row.content) (row_in class (heads (output_name item.name)) number item) both.0 both.1

  rows_has : (class : Class) (heads : List ℕ → Head) (number : ℕ) (list : List Item) → list_any (item_of test class) list ≡ true → has_row test (rows_from class heads number list) ≡ true
  rows_has class heads number [] is = let none : ⊥ = cc in absurd none
  rows_has class heads number (item ∷ list) is =
      or_cases (has_row test (own_row class heads number item ++ rows_from class heads (number + 1) list) ≡ true)
      (item_of test class item) (list_any (item_of test class) list) is
      (λ here. any_here (λ (row : Row). test row.content) (own_row class heads number item) (rows_from class heads (number + 1) list) (own_row_has class heads number item here))
      (λ later. any_later (λ (row : Row). test row.content) (own_row class heads number item) (rows_from class heads (number + 1) list) (rows_has class heads (number + 1) list later))

  order_has : (class : Class) (list : List Item) → list_any (item_of test class) list ≡ true → has_row test (order_of class list) ≡ true
  order_has class list is = any_stable (λ (row : Row). test row.content) key_of (rows_of class list) ∙ rows_has class (head_of class list) 0 list is

  from_has : (sizes : List (List Cut)) (c : ℕ) (rows : List Row) → has_row test rows ≡ true → has_member test (members_from sizes c rows) ≡ true
  from_has sizes c [] is = let none : ⊥ = cc in absurd none
  from_has sizes c (row ∷ rows) is =
      let at : ℕ = up c row.align in
      let rest : Bool = has_member test (members_from sizes (at + size_at sizes at row) rows) in
      or_cases ((test row.content || rest) ≡ true) (test row.content) (has_row test rows) is
      (λ here. or_left (test row.content) rest here) (λ later. or_right (test row.content) rest (from_has sizes (at + size_at sizes at row) rows later))

  still_has : (start : ℕ) (rows : List Row) → has_row test rows ≡ true → has_member test (members_still start rows) ≡ true
  still_has start [] is = let none : ⊥ = cc in absurd none
  still_has start (row ∷ rows) is =
      let rest : Bool = has_member test (members_still start rows) in
      or_cases ((test row.content || rest) ≡ true) (test row.content) (has_row test rows) is
      (λ here. or_left (test row.content) rest here) (λ later. or_right (test row.content) rest (still_has start rows later))

  in_has : (sizes : List (List Cut)) (c : Cursor) (rows : List Row) → has_row test rows ≡ true → has_member test (stands_in sizes c rows) ≡ true
  unfolding stands_in
  in_has sizes c rows is = by (is_empty rows)
    where
      by : (e : Bool) → has_member test (if e then members_still (start_of c rows) rows else members_from sizes (start_of c rows) rows) ≡ true
      by true = still_has (start_of c rows) rows is
      by false = from_has sizes (start_of c rows) rows is

  along_has : (sizes : List (List Cut)) (c : Cursor) (os : List (List Row)) → list_any (has_row test) os ≡ true → has_member test (stands_along sizes c os) ≡ true
  along_has sizes c [] is = let none : ⊥ = cc in absurd none
  along_has sizes c (o ∷ os) is =
      let of : Member → Bool = λ m. test m.content in
      or_cases (has_member test (stands_in sizes c o ++ stands_along sizes (after sizes c o) os) ≡ true) (has_row test o) (list_any (has_row test) os) is
      (λ here. any_here of (stands_in sizes c o) (stands_along sizes (after sizes c o) os) (in_has sizes c o here))
      (λ later. any_later of (stands_in sizes c o) (stands_along sizes (after sizes c o) os) (along_has sizes (after sizes c o) os later))

  class_has : (sizes : List (List Cut)) (c : Cursor) (rows : List Row) → has_row test rows ≡ true → has_member test (stands_along sizes c (runs rows)) ≡ true
  class_has sizes c rows is = along_has sizes c (runs rows) (runs_any (λ (row : Row). test row.content) rows ∙ is)

  all_has : (sizes : List (List Cut)) (o : Orders) (b : Bounds) (class : Class) → has_row test (rows_in o class) ≡ true → has_member test (all_stands sizes o b) ≡ true
  all_has sizes o b class is = by class is
    where
      of : Member → Bool
      of = λ m. test m.content

      r : List Member
      r = stands_along sizes (cursor_at b.headers_end) (runs (rows_in o R))

      x : List Member
      x = stands_along sizes (cursor_at b.rx_start) (runs (rows_in o Rx))

      t : List Member
      t = stands_along sizes (tls_cursor sizes o b.rw_start b.tls_align) (runs (rows_in o TlsBits))

      n : List Member
      n = stands_along sizes (after_tls_bits sizes o b.rw_start b.tls_align) (runs (rows_in o TlsNobits))

      w : List Member
      w = stands_along sizes (cursor_at b.tls_bits_end) (runs (rows_in o RwBits))

      z : List Member
      z = stands_along sizes (cursor_at b.bits_end) (runs (rows_in o RwNobits))

      by : (class : Class) → has_row test (rows_in o class) ≡ true → has_member test (r ++ (x ++ (t ++ (n ++ (w ++ z))))) ≡ true
      by R is = any_here of r (x ++ (t ++ (n ++ (w ++ z)))) (class_has sizes (cursor_at b.headers_end) (rows_in o R) is)
      by Rx is = any_later of r (x ++ (t ++ (n ++ (w ++ z)))) (any_here of x (t ++ (n ++ (w ++ z))) (class_has sizes (cursor_at b.rx_start) (rows_in o Rx) is))
      by TlsBits is =
          any_later of r (x ++ (t ++ (n ++ (w ++ z)))) (any_later of x (t ++ (n ++ (w ++ z)))
          (any_here of t (n ++ (w ++ z)) (class_has sizes (tls_cursor sizes o b.rw_start b.tls_align) (rows_in o TlsBits) is)))
      by TlsNobits is =
          any_later of r (x ++ (t ++ (n ++ (w ++ z)))) (any_later of x (t ++ (n ++ (w ++ z))) (any_later of t (n ++ (w ++ z))
          (any_here of n (w ++ z) (class_has sizes (after_tls_bits sizes o b.rw_start b.tls_align) (rows_in o TlsNobits) is))))
      by RwBits is =
          any_later of r (x ++ (t ++ (n ++ (w ++ z)))) (any_later of x (t ++ (n ++ (w ++ z))) (any_later of t (n ++ (w ++ z)) (any_later of n (w ++ z)
          (any_here of w z (class_has sizes (cursor_at b.tls_bits_end) (rows_in o RwBits) is)))))
      by RwNobits is =
          any_later of r (x ++ (t ++ (n ++ (w ++ z)))) (any_later of x (t ++ (n ++ (w ++ z))) (any_later of t (n ++ (w ++ z)) (any_later of n (w ++ z)
          (any_later of w z (class_has sizes (cursor_at b.bits_end) (rows_in o RwNobits) is)))))

  list_has : (class : Class) (list : List Item) → list_any (item_of test class) list ≡ true → has_row test (rows_in (orders_of list) class) ≡ true
  unfolding orders_of
  list_has R list is = order_has R list is
  list_has Rx list is = order_has Rx list is
  list_has TlsBits list is = order_has TlsBits list is
  list_has TlsNobits list is = order_has TlsNobits list is
  list_has RwBits list is = order_has RwBits list is
  list_has RwNobits list is = order_has RwNobits list is

  pub item_stands : (sizes : List (List Cut)) (list : List Item) (b : Bounds) (class : Class) → list_any (item_of test class) list ≡ true
      → has_member test (all_stands sizes (orders_of list) b) ≡ true
  item_stands sizes list b class is = all_has sizes (orders_of list) b class (list_has class list is)

-- of a member of these that passes
pub from_any : (P : Type 0) (test : Member → Bool) (ms : List Member) → list_any test ms ≡ true → ((k : ℕ) (d : Member) → k < length ms → test (get_or ms k d) ≡ true → P) → P
from_any P test [] is each = let none : ⊥ = cc in absurd none
from_any P test (m ∷ ms) is each =
    or_cases P (test m) (list_any test ms) is (λ here. each 0 m (omega arith) here)
    (λ later. from_any P test ms later (λ k d lt passes. each (suc k) d (omega (arith, lt)) passes))

pub it_is : (it content : Content) → is_it it content ≡ true → content ≡ it
it_is (Section n) (Section m) is = ap Section (eqb-true m n is)
it_is (Section n) (IsPool p) is = cc
it_is (Section n) Got is = cc
it_is (IsPool p) (Section m) is = cc
it_is (IsPool p) (IsPool q) is = ap IsPool (eqb-true q p is)
it_is (IsPool p) Got is = cc
it_is Got (Section m) is = cc
it_is Got (IsPool p) is = cc
it_is Got Got is = refl

module _ (files : List File) (b : Bindings) (pools : List Pool) (words : ℕ) (leaders : List (Option ℕ)) (sizes : List (List Cut)) (bounds : Bounds) where
  abbrev parts : List Item
  parts = items files b pools words leaders

  abbrev first_stands : Stands
  first_stands = (no_trail (section_total files) (length pools)).stands

  abbrev final_stands : Stands
  final_stands = all_put (all_stands sizes (orders_of parts) bounds) first_stands

  abbrev outputs_of : List OutputSection
  outputs_of = all_sections sizes parts (orders_of parts) bounds

  abbrev own : Content → Item
  own = own_of files b pools words leaders

  held_at : (it : Content) → length parts ≤ 2 ^ 30 → AllFit sizes (orders_of parts) → HasRoom it first_stands
      → has_member (is_it it) (all_stands sizes (orders_of parts) bounds) ≡ true
      → IsHeld outputs_of (own it) (stand_at it final_stands) (new_offset (laid_cuts (stand_at it final_stands) (cuts_in sizes it)) (own it).size)
  held_at it few fit room there =
      let ms : List Member = all_stands sizes (orders_of parts) bounds in
      let held : All (IsHeldIn sizes own outputs_of) ms = all_held sizes parts own few (items_own files b pools words leaders) fit bounds in
      let once : in_members it ms ≤ 1 = stands_once files b pools words leaders sizes bounds it in
      from_any (IsHeld outputs_of (own it) (stand_at it final_stands) (new_offset (laid_cuts (stand_at it final_stands) (cuts_in sizes it)) (own it).size))
      (λ m. is_it it m.content) ms there (λ k d lt passes.
      let m : Member = get_or ms k d in
      let same : m.content ≡ it = it_is it m.content passes in
      let start : stand_at it final_stands ≡ m.start = found_at it ms first_stands k d lt same once room in
      subst (λ a. IsHeld outputs_of (own it) a (new_offset (laid_cuts a (cuts_in sizes it)) (own it).size)) (sym start)
      (subst (λ c. IsHeld outputs_of (own c) m.start (new_offset (laid_cuts m.start (cuts_in sizes c)) (own c).size)) same (held k d lt)))

  pub has_section : (n : ℕ) → n < section_total files → leads leaders n ≡ true → has_member (is_it (Section n)) (all_stands sizes (orders_of parts) bounds) ≡ true
  has_section n lt leading =
      let s : InputSection = input_at files b n in
      let class : Class = kind_of s.sh_type s.flags in
      item_stands (is_section n) sizes parts bounds class
      (section_listed files b pools words leaders (item_of (is_section n) class) n lt leading
      (and_from (is_of class (section_item n s)) (n == n) (has_kind s.sh_type s.flags) (eq-eqb n n refl)))

  pub has_pool : (p : ℕ) (d : Pool) → p < length pools → AreRising pools → (get_or pools p d).first < section_total files
      → has_member (is_it (IsPool p)) (all_stands sizes (orders_of parts) bounds) ≡ true
  has_pool p d below rise lt =
      let pool : Pool = get_or pools p d in
      let s : InputSection = input_at files b pool.first in
      let class : Class = kind_of SHT_PROGBITS s.flags in
      item_stands (is_pool p) sizes parts bounds class
      (pool_listed files b pools words leaders (item_of (is_pool p) class) p d below rise lt
      (and_from (is_of class (pool_item p pool.size s)) (p == p) (has_kind SHT_PROGBITS s.flags) (eq-eqb p p refl)))

  pub has_table : has_member (is_it Got) (all_stands sizes (orders_of parts) bounds) ≡ true
  has_table =
      let class : Class = kind_of SHT_PROGBITS (SHF_WRITE + SHF_ALLOC) in
      item_stands is_table sizes parts bounds class
      (table_listed files b pools words leaders (item_of is_table class) (and_from (is_of class (got_item words)) true (has_kind SHT_PROGBITS (SHF_WRITE + SHF_ALLOC)) refl))

  -- what a layout has of its walk
  pub record IsWalked (laid : LaidOut) : Type 0 where
    pub outputs : laid.outputs ≡ outputs_of
    pub starts : laid.starts ≡ final_stands.starts
    pub pools_are : laid.pools ≡ final_stands.pools
    pub got : laid.got ≡ final_stands.got
    pub cuts : (n : ℕ) → n < section_total files → leads leaders n ≡ true → cuts_at laid n ≡ laid_cuts (start_at laid n) (get_or sizes n [])

  pub get_any : (p : ℕ) (d : Pool) → p < length pools → get_or pools p none_at ≡ get_or pools p d
  get_any p d lt = any_of pools p none_at d lt
    where
      any_of : (xs : List Pool) (i : ℕ) (c d : Pool) → i < length xs → get_or xs i c ≡ get_or xs i d
      any_of [] i c d lt = absurd (omega (arith, lt))
      any_of (x ∷ xs) zero c d lt = refl
      any_of (x ∷ xs) (suc i) c d lt = any_of xs i c d (omega (arith, lt))

  held_walked : (laid : LaidOut) → IsWalked laid → length parts ≤ 2 ^ 30 → AllFit sizes (orders_of parts) → AreRising pools → HaveFirsts files b pools
      → AreHeld files b pools words leaders laid
  held_walked laid is few fit rise firsts = record {
    sections = λ n lt leading.
        let it : Content = Section n in
        let held = held_at it few fit (omega (arith, lt, length-replicate {A = ℕ} (section_total files) 0)) (has_section n lt leading) in
        let start : stand_at it final_stands ≡ start_at laid n = ap (λ l. get_or l n 0) (sym is.starts) in
        let there = subst (λ a. IsHeld outputs_of (own it) a (new_offset (laid_cuts a (get_or sizes n [])) (own it).size)) start held in
        subst (λ l. IsHeld l (own it) (start_at laid n) (new_offset (cuts_at laid n) (own it).size)) (sym is.outputs)
        (subst (λ l. IsHeld outputs_of (own it) (start_at laid n) (new_offset l (own it).size)) (sym (is.cuts n lt leading)) there);
    merged = λ p d lt.
        let it : Content = IsPool p in
        let held = held_at it few fit (omega (arith, lt, length-replicate {A = ℕ} (length pools) 0)) (has_pool p d lt rise (firsts p d lt).number) in
        let start : stand_at it final_stands ≡ get_or laid.pools p 0 = ap (λ l. get_or l p 0) (sym is.pools_are) in
        let there = subst (λ a. IsHeld outputs_of (own it) a (new_offset [] (own it).size)) start held in
        let whole = subst (λ n. IsHeld outputs_of (own it) (get_or laid.pools p 0) n) (whole_size (own it).size) there in
        let one = subst (λ (x : Pool). IsHeld outputs_of (pool_item p x.size (input_at files b x.first)) (get_or laid.pools p 0) x.size) (get_any p d lt) whole in
        subst (λ l. IsHeld l (pool_item p (get_or pools p d).size (input_at files b (get_or pools p d).first)) (get_or laid.pools p 0) (get_or pools p d).size) (sym is.outputs) one;
    table =
        let held = held_at Got few fit tt has_table in
        let there = subst (λ a. IsHeld outputs_of (own Got) a (new_offset [] (own Got).size)) (sym is.got) held in
        subst (λ l. IsHeld l (got_item words) laid.got (8 * words)) (sym is.outputs)
        (subst (λ n. IsHeld outputs_of (got_item words) laid.got n) (whole_size (8 * words)) there);
  }

  pub walked_by : IsWalked (laid_by leaders sizes (section_total files) bounds (trail_of sizes parts (orders_of parts) bounds (no_trail (section_total files) (length pools))))
  unfolding laid_by
  walked_by =
      let total : ℕ = section_total files in
      let stands = trail_stands sizes parts (orders_of parts) bounds (no_trail total (length pools)) in
      let starts : List ℕ = (trail_of sizes parts (orders_of parts) bounds (no_trail total (length pools))).stands.starts in
      record {
        outputs = trail_outputs sizes parts (orders_of parts) bounds total (length pools);
        starts = ap (λ (s : Stands). s.starts) stands;
        pools_are = ap (λ (s : Stands). s.pools) stands;
        got = ap (λ (s : Stands). s.got) stands;
        cuts = λ n lt leading.
            let e : 0 + n ≡ n = omega arith in
            map_at (cuts_of leaders sizes starts) 0 total n lt ∙ ap (cuts_of leaders sizes starts) e ∙ cuts_here leaders sizes starts n leading;
      }

held_laid : (files : List File) (b : Bindings) (pools : List Pool) (words : ℕ) (leaders : List (Option ℕ)) (sizes : List (List Cut)) (fs : FrameSizes) → AreLeaders files b leaders
    → FitSizes files b sizes → All AreApart sizes → All IsSized (items files b pools words leaders) → length (items files b pools words leaders) ≤ 2 ^ 30 → AreRising pools
    → HaveFirsts files b pools → AreHeld files b pools words leaders (layout_of files b pools words leaders sizes fs)
unfolding layout_of laid_of
held_laid files b pools words leaders sizes fs are fit apart sized few rise firsts =
    let o : Orders = orders_of (items files b pools words leaders) in
    let rows : AllFit sizes o = all_fit sizes (section_total files) (length pools) o apart (ready_of files b pools words leaders sizes are fit sized) in
    held_walked files b pools words leaders sizes (bounds_of sizes o fs) _ (walked_by files b pools words leaders sizes (bounds_of sizes o fs)) few rows rise firsts

pub held_seen : (layout : Layout) (files : List File) (b : Bindings) (pools : List Pool) (words : ℕ) (leaders : List (Option ℕ)) (sizes : List (List Cut)) (fs : FrameSizes) → AreLeaders files b leaders
    → FitSizes files b sizes → All AreApart sizes → All IsSized (items files b pools words leaders) → length (items files b pools words leaders) ≤ 2 ^ 30 → AreRising pools
    → HaveFirsts files b pools → layout_view layout ≡ layout_of files b pools words leaders sizes fs → AreHeld files b pools words leaders (layout_view layout)
held_seen layout files b pools words leaders sizes fs are fit apart sized few rise firsts is =
    subst (AreHeld files b pools words leaders) (sym is) (held_laid files b pools words leaders sizes fs are fit apart sized few rise firsts)
