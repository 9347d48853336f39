-- What is known of each member.
use Rattle.std.proofs.Common.{◌≡◌, ℕ, ◌+◌, ◌*◌, ◌<◌, Bool, true, false, if◌then◌else◌, Option, List, [], ◌∷◌, ◌++◌, get_or, length, refl, ap, sym, ◌∙◌, All}
use Rattle.std.proofs.lemmas.List.Elements.{All-nil, All-head, All-tail, All-cons, All-append}
use Rattle.lk_base.specs.Arithmetic.{up}
use Rattle.lk_tables.specs.Binding.{Bindings}
use Rattle.lk_tables.specs.Files.{File}
use Rattle.lk_tables.specs.declared.classes.Class.{Class}
use Rattle.link_sections.specs.declared.layouts.Bounds.{Bounds}
use Rattle.link_sections.specs.declared.members.Content.TheVariants.{Section, Pool as IsPool, Got}
use Rattle.link_sections.specs.declared.members.Member.{Member}
use Rattle.link_sections.specs.declared.pools.Pool.{Pool}
use Rattle.link_sections.specs.Cuts.{Cut, new_offset}
use Rattle.link_sections.specs.InputSections.{input_at}
use Rattle.link_sections.specs.Leaders.{leads}
use Rattle.lk_tables.specs.declared.classes.Class.TheVariants.{R, Rx, TlsBits, TlsNobits, RwBits}
use Rattle.output_sections.specs.declared.heads.Head.{Head}
use Rattle.output_sections.specs.declared.rows.Row.{Row}
use Rattle.layout.specs.declared.walk.Cursor.{Cursor}
use Rattle.layout.specs.Cutting.{laid_cuts}
use Rattle.output_sections.specs.Items.{Item, items}
use Rattle.layout.specs.Layout.{after_tls_bits, tls_cursor}
use Rattle.output_sections.specs.Order.{Orders, orders_of, row_in, rows_in}
use Rattle.layout.specs.Walk.{after, cursor_at, is_empty, member_at, members_along, members_from, members_in, members_still, runs, size_at, stands_along, stands_in, start_of}
use Rattle.output_sections.proofs.ClassSums.{each_class}
use Rattle.output_sections.proofs.ItemFacts.{IsOf, IsOfLink, items_are}
use Rattle.layout.proofs.PlacedMembers.{size_of_section, size_plain}
use Rattle.layout.proofs.Runs.{EachRun, each_run}
use Rattle.layout.proofs.Trails.{all_members, all_stands}

row_is : (files : List File) (b : Bindings) (pools : List Pool) (words : ℕ) (leaders : List (Option ℕ)) (class : Class) (h : Head) (n : ℕ) (item : Item)
    → IsOfLink files b pools words leaders item.content item.size
    → IsOfLink files b pools words leaders (row_in class h n item).content (row_in class h n item).size
unfolding row_in
row_is files b pools words leaders class h n item is = is

-- what holds of each row holds of the members of output sections that are not empty
module _ (P : Row → Type 0) (Q : Member → Type 0) (sizes : List (List Cut)) (each : (c : ℕ) (row : Row) → P row → Q (member_at sizes (up c row.align) row)) where
  each_from : (c : ℕ) (rows : List Row) → All P rows → All Q (members_from sizes c rows)
  each_from c [] all = All-nil Q
  each_from c (row ∷ rows) all =
      let at : ℕ = up c row.align in
      All-cons Q (member_at sizes at row) (members_from sizes (at + size_at sizes at row) rows) (each c row (All-head P row rows all))
      (each_from (at + size_at sizes at row) rows (All-tail P row rows all))

  each_by : (e : Bool) (start : ℕ) (rows : List Row) → All P rows → All Q (if e then [] else members_from sizes start rows)
  each_by true start rows all = All-nil Q
  each_by false start rows all = each_from start rows all

  each_in : (c : Cursor) (rows : List Row) → All P rows → All Q (members_in sizes c rows)
  unfolding members_in
  each_in c rows all = each_by (is_empty rows) (start_of c rows) rows all

  each_along : (c : Cursor) (os : List (List Row)) → EachRun P os → All Q (members_along sizes c os)
  each_along c [] all = All-nil Q
  each_along c (o ∷ os) all =
      All-append Q (members_in sizes c o) (members_along sizes (after sizes c o) os) (each_in c o all.0) (each_along (after sizes c o) os all.1)

  pub each_of : (c : Cursor) (rows : List Row) → All P rows → All Q (members_along sizes c (runs rows))
  each_of c rows all = each_along c (runs rows) (each_run P rows all)

  pub each_member : (o : Orders) (b : Bounds) → ((class : Class) → All P (rows_in o class)) → All Q (all_members sizes o b)
  each_member o b all =
      All-append Q _ _ (each_of (cursor_at b.headers_end) (rows_in o R) (all R)) (All-append Q _ _ (each_of (cursor_at b.rx_start) (rows_in o Rx) (all Rx))
      (All-append Q _ _ (each_of (tls_cursor sizes o b.rw_start b.tls_align) (rows_in o TlsBits) (all TlsBits)) (each_of (cursor_at b.tls_bits_end) (rows_in o RwBits) (all RwBits))))

-- a member that is a section is its own leader, and has the bytes of that section that stay where it stands; a pool and the table have all of theirs
pub record IsMade (files : List File) (b : Bindings) (pools : List Pool) (words : ℕ) (leaders : List (Option ℕ)) (sizes : List (List Cut)) (m : Member) : Type 0 where
  pub leads_is : (n : ℕ) → m.content ≡ Section n → leads leaders n ≡ true
  pub sized : (n : ℕ) → m.content ≡ Section n → m.size ≡ new_offset (laid_cuts m.start (get_or sizes n [])) (input_at files b n).size
  pub pool : (p : ℕ) → m.content ≡ IsPool p → p < length pools
  pub pooled : (p : ℕ) → m.content ≡ IsPool p → (d : Pool) → m.size ≡ (get_or pools p d).size
  pub table : m.content ≡ Got → m.size ≡ 8 * words

module _ (files : List File) (b : Bindings) (pools : List Pool) (words : ℕ) (leaders : List (Option ℕ)) (sizes : List (List Cut)) where
  abbrev IsLinkRow : Row → Type 0
  IsLinkRow row = IsOfLink files b pools words leaders row.content row.size

  made_one : (at : ℕ) (row : Row) → IsLinkRow row → IsMade files b pools words leaders sizes (member_at sizes at row)
  made_one at row is = record {
    leads_is = is.leads_is;
    sized = λ n same. sym (size_of_section sizes at n row (get_or sizes n []) same refl)
        ∙ ap (λ k. new_offset (laid_cuts at (get_or sizes n [])) k) (is.sized n same);
    pool = is.pool;
    pooled = λ p same d. sym (size_plain sizes at row (λ n other. no_pool p n (sym same ∙ other))) ∙ is.pooled p same d;
    table = λ same. sym (size_plain sizes at row (λ n other. no_table n (sym same ∙ other))) ∙ is.table same;
  }
    where
      no_pool : (p n : ℕ) → IsPool p ≡ Section n → ⊥
      no_pool p n same = cc

      no_table : (n : ℕ) → Got ≡ Section n → ⊥
      no_table n same = cc

  pub all_made : (bounds : Bounds) → All (IsMade files b pools words leaders sizes) (all_members sizes (orders_of (items files b pools words leaders)) bounds)
  all_made bounds =
      each_member IsLinkRow (IsMade files b pools words leaders sizes) sizes (λ c row is. made_one (up c row.align) row is) (orders_of (items files b pools words leaders)) bounds
      (each_class IsLinkRow (IsOf files b pools words leaders) (items files b pools words leaders) (row_is files b pools words leaders) (items_are files b pools words leaders))

-- what holds of all members holds of those of output sections that are not empty
split_all : (P : Member → Type 0) (xs ys : List Member) → All P (xs ++ ys) → All P xs × All P ys
split_all P [] ys all = (All-nil P, all)
split_all P (x ∷ xs) ys all =
    let rest = split_all P xs ys (All-tail P x (xs ++ ys) all) in
    (All-cons P x xs (All-head P x (xs ++ ys) all) rest.0, rest.1)

part_by : (e : Bool) (P : Member → Type 0) (sizes : List (List Cut)) (start : ℕ) (rows : List Row) → All P (if e then members_still start rows else members_from sizes start rows)
    → All P (if e then [] else members_from sizes start rows)
part_by true P sizes start rows all = All-nil P
part_by false P sizes start rows all = all

part_in : (P : Member → Type 0) (sizes : List (List Cut)) (c : Cursor) (rows : List Row) → All P (stands_in sizes c rows) → All P (members_in sizes c rows)
unfolding stands_in members_in
part_in P sizes c rows all = part_by (is_empty rows) P sizes (start_of c rows) rows all

part_along : (P : Member → Type 0) (sizes : List (List Cut)) (c : Cursor) (os : List (List Row)) → All P (stands_along sizes c os) → All P (members_along sizes c os)
part_along P sizes c [] all = All-nil P
part_along P sizes c (o ∷ os) all =
    let both = split_all P (stands_in sizes c o) (stands_along sizes (after sizes c o) os) all in
    All-append P (members_in sizes c o) (members_along sizes (after sizes c o) os) (part_in P sizes c o both.0) (part_along P sizes (after sizes c o) os both.1)

pub part_all : (P : Member → Type 0) (sizes : List (List Cut)) (o : Orders) (b : Bounds) → All P (all_stands sizes o b) → All P (all_members sizes o b)
part_all P sizes o b all =
    let r = split_all P (stands_along sizes (cursor_at b.headers_end) (runs (rows_in o R))) _ all in
    let x = split_all P (stands_along sizes (cursor_at b.rx_start) (runs (rows_in o Rx))) _ r.1 in
    let t = split_all P (stands_along sizes (tls_cursor sizes o b.rw_start b.tls_align) (runs (rows_in o TlsBits))) _ x.1 in
    let n = split_all P (stands_along sizes (after_tls_bits sizes o b.rw_start b.tls_align) (runs (rows_in o TlsNobits))) _ t.1 in
    let w = split_all P (stands_along sizes (cursor_at b.tls_bits_end) (runs (rows_in o RwBits))) _ n.1 in
    All-append P _ _ (part_along P sizes (cursor_at b.headers_end) (runs (rows_in o R)) r.0)
    (All-append P _ _ (part_along P sizes (cursor_at b.rx_start) (runs (rows_in o Rx)) x.0)
    (All-append P _ _ (part_along P sizes (tls_cursor sizes o b.rw_start b.tls_align) (runs (rows_in o TlsBits)) t.0)
    (part_along P sizes (cursor_at b.tls_bits_end) (runs (rows_in o RwBits)) w.0)))
