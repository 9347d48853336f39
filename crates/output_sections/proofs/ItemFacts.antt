-- What is known of each item of a link.
use Rattle.std.proofs.Common.{◌≡◌, ℕ, zero, suc, ◌+◌, ◌*◌, ◌≤◌, ◌<◌, ◌==◌, Bool, true, false, if◌then◌else◌, Option, List, [], ◌∷◌, length, flat_map, get_or, All, refl, ap, ◌∙◌, sym, arith}
use Rattle.std.specs.List.{range_with_len}
use Rattle.std.proofs.lemmas.List.Elements.{All-nil, All-cons, All-append}
use Rattle.lk_tables.specs.declared.classes.Class.{Class}
use Rattle.lk_tables.specs.Binding.{Bindings}
use Rattle.lk_tables.specs.Files.{File, section_total}
use Rattle.lk_tables.proofs.FrameLists.{number_is}
use Rattle.link_sections.specs.declared.members.Content.{Content}
use Rattle.link_sections.specs.declared.members.Content.TheVariants.{Section, Pool as IsPool, Got}
use Rattle.link_sections.specs.declared.pools.Pool.{Pool}
use Rattle.link_sections.specs.InputSections.{InputSection, input_at}
use Rattle.link_sections.specs.Leaders.{leader_at, leads}
use Rattle.output_sections.specs.declared.heads.Head.{Head}
use Rattle.output_sections.specs.Items.{AreLeaders, IsStaying, Item, got_item, items, items_at, own_item, pool_at, pool_item, section_item}
use Rattle.output_sections.specs.Order.{IsKnown, is_content, members_in, number_in, orders_of, row_in}
use Rattle.output_sections.proofs.ClassSums.{each_member}

-- the contents differ
abbrev number_of : Content → ℕ
number_of (Section n) = n
number_of (IsPool p) = p
number_of Got = 0

pub same_section : (n m : ℕ) → Section n ≡ Section m → n ≡ m
same_section n m is = ap number_of is

same_pool : (p q : ℕ) → IsPool p ≡ IsPool q → p ≡ q
same_pool p q is = ap number_of is

pub all_flat : (P : Item → Type 0) (f : ℕ → List Item) (a n : ℕ) → ((k : ℕ) → All P (f k)) → All P (flat_map f (range_with_len a n))
all_flat P f a zero each = All-nil P
all_flat P f a (suc n) each = All-append P (f a) (flat_map f (range_with_len (a + 1) n)) (each a) (all_flat P f (a + 1) n each)

-- an item is a section that is its own leader, with its size, a pool that is there, with its size, or the table
pub record IsOfLink (files : List File) (b : Bindings) (pools : List Pool) (words : ℕ) (leaders : List (Option ℕ)) (content : Content) (size : ℕ) : Type 0 where
  pub leads_is : (n : ℕ) → content ≡ Section n → leads leaders n ≡ true
  pub sized : (n : ℕ) → content ≡ Section n → size ≡ (input_at files b n).size
  pub pool : (p : ℕ) → content ≡ IsPool p → p < length pools
  pub pooled : (p : ℕ) → content ≡ IsPool p → (d : Pool) → size ≡ (get_or pools p d).size
  pub table : content ≡ Got → size ≡ 8 * words

module _ (files : List File) (b : Bindings) (pools : List Pool) (words : ℕ) (leaders : List (Option ℕ)) where
  abbrev pub IsOf : Item → Type 0
  IsOf item = IsOfLink files b pools words leaders item.content item.size

  own_is : (n : ℕ) → All IsOf (own_item leaders n (input_at files b n))
  unfolding own_item
  own_is n = by (leads leaders n) refl
    where
      by : (t : Bool) → leads leaders n ≡ t → All IsOf (if t then section_item n (input_at files b n) ∷ [] else [])
      by true is = All-cons IsOf (section_item n (input_at files b n)) [] (record {
        leads_is = λ m same. ap (leads leaders) (sym (same_section n m same)) ∙ is;
        sized = λ m same. ap (λ k. (input_at files b k).size) (same_section n m same);
        pool = λ p same. cc;
        pooled = λ p same d. cc;
        table = λ same. cc;
      }) (All-nil IsOf)
      by false is = All-nil IsOf

  pool_is : (p : ℕ) (rest : List Pool) (n : ℕ) (s : InputSection) → p + length rest ≤ length pools → ((i : ℕ) (d : Pool) → i < length rest → get_or rest i d ≡ get_or pools (p + i) d)
      → All IsOf (pool_at p rest n s)
  unfolding pool_at
  pool_is p [] n s le those = All-nil IsOf
  pool_is p (pool ∷ rest) n s le those =
      by (pool.first == n) (pool_is (p + 1) rest n s (omega (arith, le))
      (λ i d lt. let e : p + suc i ≡ (p + 1) + i = omega arith in those (suc i) d (omega (arith, lt)) ∙ ap (λ k. get_or pools k d) e))
    where
      by : (t : Bool) → All IsOf (pool_at (p + 1) rest n s) → All IsOf (if t then pool_item p pool.size s ∷ [] else pool_at (p + 1) rest n s)
      by true later = All-cons IsOf (pool_item p pool.size s) [] (record {
        leads_is = λ m same. cc;
        sized = λ m same. cc;
        pool = λ q same. let e : p ≡ q = same_pool p q same in omega (arith, e, le);
        pooled = λ q same d. let e : p + 0 ≡ q = omega (arith, same_pool p q same) in ap (λ (x : Pool). x.size) (those 0 d (omega arith) ∙ ap (λ k. get_or pools k d) e);
        table = λ same. cc;
      }) (All-nil IsOf)
      by false later = later

  at_is : (n : ℕ) → All IsOf (items_at files b pools leaders n)
  unfolding items_at
  at_is n =
      All-append IsOf (own_item leaders n (input_at files b n)) (pool_at 0 pools n (input_at files b n))
      (own_is n) (pool_is 0 pools n (input_at files b n) (omega arith) (λ i d lt. let e : i ≡ 0 + i = omega arith in ap (λ k. get_or pools k d) e))

  pub items_are : All IsOf (items files b pools words leaders)
  unfolding items
  items_are =
      All-append IsOf (flat_map (items_at files b pools leaders) (range_with_len 0 (section_total files))) (got_item words ∷ [])
      (all_flat IsOf (items_at files b pools leaders) 0 (section_total files) at_is)
      (All-cons IsOf (got_item words) [] (record { leads_is = λ m same. cc; sized = λ m same. cc; pool = λ q same. cc; pooled = λ q same d. cc; table = λ same. refl })
      (All-nil IsOf))

-- a section that is its own leader may stay
pub stays_of : (files : List File) (b : Bindings) (leaders : List (Option ℕ)) (n : ℕ) → AreLeaders files b leaders → leads leaders n ≡ true → IsStaying files b n
stays_of files b leaders n are is = are.stay n n (number_is (leader_at leaders n) n is)

-- so its row is one of a section of the link, with its size, if it is one of a section
content_is : (c : Content) → is_content c ≡ true → c ≡ Section (number_in c)
content_is (Section n) is = refl
content_is (IsPool p) is = cc
content_is Got is = cc

row_known : (files : List File) (b : Bindings) (pools : List Pool) (words : ℕ) (leaders : List (Option ℕ)) → AreLeaders files b leaders → (class : Class) (h : Head) (n : ℕ) (item : Item)
    → IsOf files b pools words leaders item → IsKnown files b (row_in class h n item)
unfolding row_in
row_known files b pools words leaders are class h n item of = record {
  number = λ is. let c = content_is item.content is in (stays_of files b leaders (number_in item.content) are (of.leads_is (number_in item.content) c)).number;
  size = λ is. of.sized (number_in item.content) (content_is item.content is);
}

pub members_known : (files : List File) (b : Bindings) (pools : List Pool) (words : ℕ) (leaders : List (Option ℕ)) → AreLeaders files b leaders
    → All (IsKnown files b) (members_in (orders_of (items files b pools words leaders)))
members_known files b pools words leaders are =
    each_member (IsKnown files b) (IsOf files b pools words leaders) (items files b pools words leaders) (row_known files b pools words leaders are) (items_are files b pools words leaders)
