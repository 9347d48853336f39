-- Each member that is a section starts at a multiple of its alignment.
use Rattle.std.proofs.Common.{◌≡◌, ℕ, ◌+◌, ◌%◌, ◌==◌, Bool, true, false, if◌then◌else◌, Option, List, [], ◌∷◌, flat_map, ap, All, subst}
use Rattle.std.specs.List.{range_with_len}
use Rattle.std.proofs.lemmas.List.Elements.{All-nil, All-cons, All-append}
use Rattle.lk_base.specs.Arithmetic.{up}
use Rattle.lk_base.proofs.Multiples.{up_multiple}
use Rattle.lk_tables.specs.Binding.{Bindings}
use Rattle.lk_tables.specs.Files.{File, section_total}
use Rattle.lk_tables.specs.declared.classes.Class.{Class}
use Rattle.link_sections.specs.declared.layouts.Bounds.{Bounds}
use Rattle.link_sections.specs.declared.members.Content.{Content}
use Rattle.link_sections.specs.declared.members.Content.TheVariants.{Section}
use Rattle.link_sections.specs.declared.members.Member.{Member}
use Rattle.link_sections.specs.declared.pools.Pool.{Pool}
use Rattle.link_sections.specs.Cuts.{Cut}
use Rattle.link_sections.specs.InputSections.{InputSection, input_at}
use Rattle.link_sections.specs.Leaders.{leads}
use Rattle.lk_tables.specs.declared.classes.Class.TheVariants.{TlsNobits, RwNobits}
use Rattle.output_sections.specs.declared.heads.Head.{Head}
use Rattle.output_sections.specs.declared.rows.Row.{Row}
use Rattle.output_sections.specs.Items.{Item, got_item, items, items_at, own_item, pool_at, pool_item, section_item}
use Rattle.layout.specs.Layout.{after_tls_bits, no_trail, trail_of}
use Rattle.output_sections.specs.Order.{Orders, orders_of, row_in, rows_in}
use Rattle.layout.specs.Walk.{cursor_at, member_at}
use Rattle.output_sections.proofs.ClassSums.{each_class}
use Rattle.output_sections.proofs.ItemFacts.{all_flat, same_section}
use Rattle.layout.proofs.MemberFacts.{each_member, each_of}
use Rattle.layout.proofs.Trails.{all_members, trail_nobits}

-- an item or a row that is a section has its alignment
abbrev HasAlign : List File → Bindings → Content → (align : ℕ) → Type 0
HasAlign files b content align = (n : ℕ) → content ≡ Section n → align ≡ (input_at files b n).align

own_has : (files : List File) (b : Bindings) (leaders : List (Option ℕ)) (n : ℕ) → All (λ item. HasAlign files b item.content item.align) (own_item leaders n (input_at files b n))
unfolding own_item
own_has files b leaders n = by (leads leaders n)
  where
    by : (t : Bool) → All (λ item. HasAlign files b item.content item.align) (if t then section_item n (input_at files b n) ∷ [] else [])
    by true = All-cons (λ (item : Item). HasAlign files b item.content item.align) (section_item n (input_at files b n)) []
        (λ m same. ap (λ k. (input_at files b k).align) (same_section n m same)) (All-nil (λ (item : Item). HasAlign files b item.content item.align))
    by false = All-nil (λ (item : Item). HasAlign files b item.content item.align)

pool_has : (files : List File) (b : Bindings) (p : ℕ) (pools : List Pool) (n : ℕ) (s : InputSection) → All (λ item. HasAlign files b item.content item.align) (pool_at p pools n s)
unfolding pool_at
pool_has files b p [] n s = All-nil (λ (item : Item). HasAlign files b item.content item.align)
pool_has files b p (pool ∷ pools) n s = by (pool.first == n) (pool_has files b (p + 1) pools n s)
  where
    by : (t : Bool) → All (λ item. HasAlign files b item.content item.align) (pool_at (p + 1) pools n s)
        → All (λ item. HasAlign files b item.content item.align) (if t then pool_item p pool.size s ∷ [] else pool_at (p + 1) pools n s)
    by true later = All-cons (λ (item : Item). HasAlign files b item.content item.align) (pool_item p pool.size s) [] (λ m same. cc)
        (All-nil (λ (item : Item). HasAlign files b item.content item.align))
    by false later = later

at_has : (files : List File) (b : Bindings) (pools : List Pool) (leaders : List (Option ℕ)) (n : ℕ)
    → All (λ item. HasAlign files b item.content item.align) (items_at files b pools leaders n)
unfolding items_at
at_has files b pools leaders n =
    All-append (λ (item : Item). HasAlign files b item.content item.align) (own_item leaders n (input_at files b n)) (pool_at 0 pools n (input_at files b n))
    (own_has files b leaders n) (pool_has files b 0 pools n (input_at files b n))

items_have : (files : List File) (b : Bindings) (pools : List Pool) (words : ℕ) (leaders : List (Option ℕ))
    → All (λ item. HasAlign files b item.content item.align) (items files b pools words leaders)
unfolding items
items_have files b pools words leaders =
    All-append (λ (item : Item). HasAlign files b item.content item.align) (flat_map (items_at files b pools leaders) (range_with_len 0 (section_total files))) (got_item words ∷ [])
    (all_flat (λ (item : Item). HasAlign files b item.content item.align) (items_at files b pools leaders) 0 (section_total files) (at_has files b pools leaders))
    (All-cons (λ (item : Item). HasAlign files b item.content item.align) (got_item words) [] (λ m same. cc) (All-nil (λ (item : Item). HasAlign files b item.content item.align)))

abbrev pub RowAlign : List File → Bindings → Row → Type 0
RowAlign files b row = HasAlign files b row.content row.align

row_has : (files : List File) (b : Bindings) (class : Class) (h : Head) (n : ℕ) (item : Item) → HasAlign files b item.content item.align → RowAlign files b (row_in class h n item)
unfolding row_in
row_has files b class h n item is = is

pub align_rows : (files : List File) (b : Bindings) (pools : List Pool) (words : ℕ) (leaders : List (Option ℕ)) → ((class : Class) → All (RowAlign files b) (rows_in (orders_of (items files b pools words leaders)) class))
align_rows files b pools words leaders =
    each_class (RowAlign files b) (λ item. HasAlign files b item.content item.align) (items files b pools words leaders) (row_has files b) (items_have files b pools words leaders)

-- so its members stand at multiples of it
abbrev pub IsAligned : List File → Bindings → Member → Type 0
IsAligned files b m = (n : ℕ) → m.content ≡ Section n → m.start % (input_at files b n).align ≡ 0

module _ (files : List File) (b : Bindings) (sizes : List (List Cut)) where
  aligned_one : (c : ℕ) (row : Row) → RowAlign files b row → IsAligned files b (member_at sizes (up c row.align) row)
  aligned_one c row is = λ n same. subst (λ k. up c row.align % k ≡ 0) (is n same) (up_multiple c row.align)

  pub aligned_members : (o : Orders) (bounds : Bounds) → ((class : Class) → All (RowAlign files b) (rows_in o class)) → All (IsAligned files b) (all_members sizes o bounds)
  aligned_members o bounds all = each_member (RowAlign files b) (IsAligned files b) sizes aligned_one o bounds all

  -- and those without bytes in the file
  pub aligned_nobits : (parts : List Item) (o : Orders) (bounds : Bounds) (sections pools : ℕ) → ((class : Class) → All (RowAlign files b) (rows_in o class))
      → All (IsAligned files b) (trail_of sizes parts o bounds (no_trail sections pools)).nobits_members
  aligned_nobits parts o bounds sections pools all =
      rw (trail_nobits sizes parts o bounds sections pools)
      (All-append (IsAligned files b) _ _ (each_of (RowAlign files b) (IsAligned files b) sizes aligned_one (after_tls_bits sizes o bounds.rw_start bounds.tls_align) (rows_in o TlsNobits) (all TlsNobits))
      (each_of (RowAlign files b) (IsAligned files b) sizes aligned_one (cursor_at bounds.bits_end) (rows_in o RwNobits) (all RwNobits)))
