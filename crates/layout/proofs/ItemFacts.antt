-- What is known of each item of a link, as the walk takes it, and so of each row.
use Rattle.std.proofs.Common.{◌≡◌, ℕ, ◌+◌, ◌*◌, ◌≤◌, Option, List, [], ◌∷◌, length, get_or, All, refl, arith}
use Rattle.std.specs.List.{sum_by}
use Rattle.std.proofs.lemmas.List.Sums.{sum_by-cons}
use Rattle.lk_base.specs.declared.abi.TheConstants.{ALIGN_MAX}
use Rattle.lk_tables.specs.Binding.{Bindings}
use Rattle.lk_tables.specs.Files.{File, section_total}
use Rattle.lk_tables.specs.declared.classes.Class.{Class}
use Rattle.lk_tables.specs.declared.classes.Class.TheVariants.{R, Rx, TlsBits, TlsNobits, RwBits, RwNobits}
use Rattle.link_sections.specs.declared.pools.Pool.{Pool}
use Rattle.link_sections.specs.Cuts.{Cut}
use Rattle.output_sections.specs.declared.heads.Head.{Head}
use Rattle.output_sections.specs.Items.{AreLeaders, IsSized, Item, items}
use Rattle.output_sections.specs.Order.{orders_of, row_in, rows_in}
use Rattle.output_sections.proofs.ClassSums.{each_class, orders_sum}
use Rattle.output_sections.proofs.ItemFacts.{IsOf, items_are, stays_of}
use Rattle.layout.specs.Layout.{AreReady, FitSizes, IsThere, all_weight}
use Rattle.layout.specs.Walk.{IsReady}

-- rows as the walk takes them
row_ready : (sizes : List (List Cut)) (sections pools : ℕ) (class : Class) (h : Head) (number : ℕ) (item : Item) → IsThere sizes sections pools item → IsSized item
    → IsReady sizes sections pools (row_in class h number item)
unfolding row_in
row_ready sizes sections pools class h number item there sized = record {
  known = record { number = there.number; pool = there.pool };
  small = sized.small;
  cuts = there.cuts;
  some = sized.some;
  aligned = sized.aligned;
}

both : (P Q : Item → Type 0) (list : List Item) → All P list → All Q list → All (λ item. P item × Q item) list
both P Q list one other = λ k d lt. (one k d lt, other k d lt)

pub ready_rows : (sizes : List (List Cut)) (sections pools : ℕ) (list : List Item) → All (IsThere sizes sections pools) list → All IsSized list
    → AreReady sizes sections pools (orders_of list)
ready_rows sizes sections pools list there sized =
    let Q : Item → Type 0 = λ item. IsThere sizes sections pools item × IsSized item in
    let all : (class : Class) → All (IsReady sizes sections pools) (rows_in (orders_of list) class) =
    each_class (IsReady sizes sections pools) Q list (λ class h n item q. row_ready sizes sections pools class h n item q.0 q.1)
    (both (IsThere sizes sections pools) IsSized list there sized) in
    record { r = all R; rx = all Rx; tls_bits = all TlsBits; tls_nobits = all TlsNobits; rw_bits = all RwBits; rw_nobits = all RwNobits }

-- the items of a link are there
one_there : (files : List File) (b : Bindings) (pools : List Pool) (words : ℕ) (leaders : List (Option ℕ)) (sizes : List (List Cut)) (item : Item) → AreLeaders files b leaders
    → FitSizes files b sizes → IsOf files b pools words leaders item → IsThere sizes (section_total files) (length pools) item
one_there files b pools words leaders sizes item are fit of = record {
  number = λ n is. (stays_of files b leaders n are (of.leads_is n is)).number;
  pool = of.pool;
  cuts = λ n is. rw (of.sized n is) (fit.within n (stays_of files b leaders n are (of.leads_is n is)).number);
}

pub there_of : (files : List File) (b : Bindings) (pools : List Pool) (words : ℕ) (leaders : List (Option ℕ)) (sizes : List (List Cut)) → AreLeaders files b leaders
    → FitSizes files b sizes → All (IsThere sizes (section_total files) (length pools)) (items files b pools words leaders)
there_of files b pools words leaders sizes are fit =
    λ k d lt. one_there files b pools words leaders sizes (get_or (items files b pools words leaders) k d) are fit (items_are files b pools words leaders k d lt)

pub ready_of : (files : List File) (b : Bindings) (pools : List Pool) (words : ℕ) (leaders : List (Option ℕ)) (sizes : List (List Cut)) → AreLeaders files b leaders
    → FitSizes files b sizes → All IsSized (items files b pools words leaders)
    → AreReady sizes (section_total files) (length pools) (orders_of (items files b pools words leaders))
ready_of files b pools words leaders sizes are fit sized =
    ready_rows sizes (section_total files) (length pools) (items files b pools words leaders) (there_of files b pools words leaders sizes are fit) sized

-- the room that all rows take
weigh_row : (class : Class) (h : Head) (n : ℕ) (item : Item) → 3 * (row_in class h n item).size + 2 * ALIGN_MAX ≡ 3 * item.size + 2 * ALIGN_MAX
unfolding row_in
weigh_row class h n item = refl

weigh_items : (items : List Item) → sum_by (λ item. 3 * item.size + 2 * ALIGN_MAX) items ≡ 3 * sum_by (λ item. item.size) items + length items * (2 * ALIGN_MAX)
weigh_items [] = refl
weigh_items (item ∷ items) =
    omega (arith, weigh_items items, sum_by-cons (λ (i : Item). 3 * i.size + 2 * ALIGN_MAX) item items, sum_by-cons (λ (i : Item). i.size) item items)

pub weight_most : (items : List Item) → all_weight (orders_of items) ≤ 3 * sum_by (λ item. item.size) items + length items * (2 * ALIGN_MAX)
weight_most items =
    let most = orders_sum (λ row. 3 * row.size + 2 * ALIGN_MAX) (λ item. 3 * item.size + 2 * ALIGN_MAX) items weigh_row in
    omega (arith, most, weigh_items items)
