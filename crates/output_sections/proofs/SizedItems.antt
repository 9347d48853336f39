-- The items of sound files have sizes and alignments as they can be, are few, and have few bytes together.
use Rattle.std.proofs.Common.{◌≡◌, ℕ, zero, suc, ◌+◌, ◌*◌, ◌^◌, ◌<◌, ◌≤◌, ◌==◌, Bool, true, false, List, [], ◌∷◌, length, flat_map, refl, ap, arith, subst, inl, inr, count_ones}
use Rattle.std.specs.Prelude.{if◌then◌else◌, Option}
use Rattle.std.specs.Int.{is_power_of_two}
use Rattle.std.specs.Int.Count.{ones_step}
use Rattle.std.specs.List.{All, range_with_len, sum_by}
use Rattle.std.proofs.lemmas.List.{length-append}
use Rattle.std.proofs.lemmas.List.Elements.{All-nil, All-cons, All-head, All-tail, All-append}
use Rattle.std.proofs.lemmas.List.Sums.{sum_by-append, sum_by-cons}
use Rattle.std.proofs.lemmas.Bool.{eqb-true, eq-eqb, ne_eqb, cases_eq}
use Rattle.std.proofs.lemmas.Nat.{ones_le_self}
use Rattle.lk_base.specs.declared.abi.TheConstants.{NOBITS_MAX}
use Rattle.lk_tables.specs.Binding.{Bindings}
use Rattle.lk_tables.specs.Files.{File, section_total}
use Rattle.lk_tables.proofs.BoundHas.{each_flat, one_if}
use Rattle.lk_tables.proofs.FrameLists.{number_is}
use Rattle.link_sections.specs.declared.members.Content.TheVariants.{Section}
use Rattle.link_sections.specs.declared.pools.Pool.{Pool}
use Rattle.link_sections.specs.InputSections.{InputSection, input_at}
use Rattle.link_sections.specs.Leaders.{leader_at, leads}
use Rattle.link_sections.specs.Pools.{pool_bytes}
use Rattle.output_sections.specs.Items.{AreLeaders, HaveFirsts, IsSized, IsStaying, Item, got_item, items, items_at, own_item, pool_at, pool_item, section_item}
use Rattle.output_sections.proofs.Sized.{IsModest}

abbrev bytes : List Item → ℕ
bytes list = sum_by (λ item. item.size) list

sized_section : (n : ℕ) (s : InputSection) → IsModest s → IsSized (section_item n s)
sized_section n s is =
    let sized : s.size ≤ NOBITS_MAX = is.sized in
    record { some = is.some; power = is.power; aligned = is.aligned; sized = omega arith; small = λ m same. sized }

sized_own : (leaders : List (Option ℕ)) (n : ℕ) (s : InputSection) → (leads leaders n ≡ true → IsModest s) → All IsSized (own_item leaders n s)
unfolding own_item
sized_own leaders n s is = one_if IsSized (leads leaders n) (section_item n s) (λ own. sized_section n s (is own))

not_pool : (p size n : ℕ) (s : InputSection) (Fact : Type 0) → (pool_item p size s).content ≡ Section n → Fact
not_pool p size n s Fact same = cc

not_got : (words n : ℕ) (Fact : Type 0) → (got_item words).content ≡ Section n → Fact
not_got words n Fact same = cc

sized_pool : (p : ℕ) (pools : List Pool) (n : ℕ) (s : InputSection) → All (λ q. q.first ≡ n → IsModest s) pools → pool_bytes pools < 2 ^ 60 → All IsSized (pool_at p pools n s)
unfolding pool_at
sized_pool p [] n s modest small = All-nil IsSized
sized_pool p (pool ∷ pools) n s modest small =
    let all : pool_bytes (pool ∷ pools) ≡ pool.size + pool_bytes pools = sum_by-cons (λ (q : Pool). q.size) pool pools in
    let P : Pool → Type 0 = λ q. q.first ≡ n → IsModest s in
    by (pool.first == n) refl (omega arith) (sized_pool (p + 1) pools n s (All-tail P pool pools modest) (omega arith)) (All-head P pool pools modest)
  where
    by : (b : Bool) → (pool.first == n) ≡ b → pool.size < 2 ^ 60 → All IsSized (pool_at (p + 1) pools n s) → (pool.first ≡ n → IsModest s)
        → All IsSized (if b then pool_item p pool.size s ∷ [] else pool_at (p + 1) pools n s)
    by true e low rest here =
        let is : IsModest s = here (eqb-true pool.first n e) in
        All-cons IsSized (pool_item p pool.size s) [] (record { some = is.some; power = is.power; aligned = is.aligned; sized = low; small = λ m same. not_pool p pool.size m s _ same }) (All-nil IsSized)
    by false e low rest here = rest

-- a sum over numbers
abbrev total : (ℕ → ℕ) → (from n : ℕ) → ℕ
total f from zero = 0
total f from (suc n) = f from + total f (from + 1) n

bytes_flat : (g : ℕ → List Item) (from n : ℕ) → bytes (flat_map g (range_with_len from n)) ≡ total (λ m. bytes (g m)) from n
bytes_flat g from zero = refl
bytes_flat g from (suc n) =
    omega (arith, sum_by-append (λ (i : Item). i.size) (g from) (flat_map g (range_with_len (from + 1) n)), bytes_flat g (from + 1) n)

total_both : (f g h : ℕ → ℕ) (from n : ℕ) → ((m : ℕ) → m < from + n → f m ≤ g m + h m) → total f from n ≤ total g from n + total h from n
total_both f g h from zero le = omega arith
total_both f g h from (suc n) le =
    let here = le from (omega arith) in
    let rest = total_both f g h (from + 1) n (λ m lt. le m (omega (arith, lt))) in
    omega (arith, here, rest)

total_most : (f : ℕ → ℕ) (from n : ℕ) → ((m : ℕ) → m < from + n → f m ≤ NOBITS_MAX) → total f from n ≤ n * 4294967296
total_most f from zero le = omega arith
total_most f from (suc n) le =
    let here = le from (omega arith) in
    let rest = total_most f (from + 1) n (λ m lt. le m (omega (arith, lt))) in
    omega (arith, here, rest)

abbrev once : (first size : ℕ) → ℕ → ℕ
once first size m = if first == m then size else 0

once_not : (first size m : ℕ) → (first == m) ≡ false → once first size m ≡ 0
once_not first size m e = ap (λ b. if b then size else 0) e

total_past : (first size from n : ℕ) → first < from → total (once first size) from n ≡ 0
total_past first size from zero past = refl
total_past first size from (suc n) past =
    omega (arith, once_not first size from (ne_eqb first from (λ same. absurd (omega (arith, same)))), total_past first size (from + 1) n (omega arith))

total_once : (first size from n : ℕ) → total (once first size) from n ≤ size
total_once first size from zero = omega arith
total_once first size from (suc n) = elim (cases_eq first from) [
  | inl same ↦
      let here : once first size from ≡ size = ap (λ b. if b then size else 0) (eq-eqb first from same) in
      omega (arith, here, total_past first size (from + 1) n (omega (arith, same)))
  | inr other ↦ omega (arith, once_not first size from (ne_eqb first from other), total_once first size (from + 1) n)
]

-- each pool stands once
abbrev pool_total : (p : ℕ) (pools : List Pool) (s : ℕ → InputSection) (from n : ℕ) → ℕ
pool_total p pools s from n = total (λ m. bytes (pool_at p pools m (s m))) from n

pool_one : (b : Bool) (p size : ℕ) (s : InputSection) (rest : List Item) → bytes (if b then pool_item p size s ∷ [] else rest) ≤ (if b then size else 0) + bytes rest
pool_one true p size s rest = omega (arith, sum_by-cons (λ (i : Item). i.size) (pool_item p size s) [])
pool_one false p size s rest = omega arith

no_pools : (p : ℕ) (s : ℕ → InputSection) (from n : ℕ) → pool_total p [] s from n ≡ 0
unfolding pool_at
no_pools p s from zero = refl
no_pools p s from (suc n) = omega (arith, no_pools p s (from + 1) n)

pool_most : (p : ℕ) (pools : List Pool) (s : ℕ → InputSection) (from n : ℕ) → pool_total p pools s from n ≤ pool_bytes pools
unfolding pool_at
pool_most p [] s from n = omega (arith, no_pools p s from n)
pool_most p (pool ∷ pools) s from n =
    let all : pool_bytes (pool ∷ pools) ≡ pool.size + pool_bytes pools = sum_by-cons (λ (q : Pool). q.size) pool pools in
    let both = total_both (λ m. bytes (pool_at p (pool ∷ pools) m (s m))) (once pool.first pool.size) (λ m. bytes (pool_at (p + 1) pools m (s m))) from n
    (λ m lt. pool_one (pool.first == m) p pool.size (s m) (pool_at (p + 1) pools m (s m))) in
    omega (arith, all, both, total_once pool.first pool.size from n, pool_most (p + 1) pools s from n)

own_bytes : (leaders : List (Option ℕ)) (n : ℕ) (s : InputSection) → (leads leaders n ≡ true → IsModest s) → bytes (own_item leaders n s) ≤ NOBITS_MAX
unfolding own_item
own_bytes leaders n s is = by (leads leaders n) is
  where
    by : (b : Bool) → (b ≡ true → IsModest s) → bytes (if b then section_item n s ∷ [] else []) ≤ NOBITS_MAX
    by true one = let sized : s.size ≤ NOBITS_MAX = (one refl).sized in omega (arith, sum_by-cons (λ (i : Item). i.size) (section_item n s) [])
    by false one = omega arith

-- at most two items for a number
few_own : (leaders : List (Option ℕ)) (n : ℕ) (s : InputSection) → length (own_item leaders n s) ≤ 1
unfolding own_item
few_own leaders n s = by (leads leaders n)
  where
    by : (b : Bool) → length (if b then section_item n s ∷ [] else []) ≤ 1
    by true = omega arith
    by false = omega arith

few_pool : (p : ℕ) (pools : List Pool) (n : ℕ) (s : InputSection) → length (pool_at p pools n s) ≤ 1
unfolding pool_at
few_pool p [] n s = omega arith
few_pool p (pool ∷ pools) n s = by (pool.first == n) (few_pool (p + 1) pools n s)
  where
    by : (b : Bool) → length (pool_at (p + 1) pools n s) ≤ 1 → length (if b then pool_item p pool.size s ∷ [] else pool_at (p + 1) pools n s) ≤ 1
    by true rest = omega arith
    by false rest = rest

few_twos : (g : ℕ → List Item) (from n : ℕ) → ((k : ℕ) → length (g k) ≤ 2) → length (flat_map g (range_with_len from n)) ≤ n + n
few_twos g from zero each = omega arith
few_twos g from (suc n) each =
    let here = each from in
    omega (arith, here, length-append (g from) (flat_map g (range_with_len (from + 1) n)), few_twos g (from + 1) n each)

eight_power : is_power_of_two 8 ≡ true
eight_power =
    let one : count_ones 8 ≡ 1 = omega (arith, ones_step 8, ones_step 4, ones_step 2, ones_step 1, ones_le_self 0) in
    eq-eqb (count_ones 8) 1 one

-- all of them
module _ (files : List File) (b : Bindings) (pools : List Pool) (words : ℕ) (leaders : List (Option ℕ)) (modest : (n : ℕ) → IsStaying files b n → IsModest (input_at files b n))
    (lead : AreLeaders files b leaders) (firsts : HaveFirsts files b pools) (small : pool_bytes pools < 2 ^ 60) (few : section_total files ≤ 2 ^ 28) (room : words < 2 ^ 34) where
  own_modest : (n : ℕ) → leads leaders n ≡ true → IsModest (input_at files b n)
  own_modest n own = modest n (lead.stay n n (number_is (leader_at leaders n) n own))

  pool_modest : (n : ℕ) (list : List Pool) → HaveFirsts files b list → All (λ q. q.first ≡ n → IsModest (input_at files b n)) list
  pool_modest n [] all = All-nil (λ (q : Pool). q.first ≡ n → IsModest (input_at files b n))
  pool_modest n (pool ∷ list) all =
      let P : Pool → Type 0 = λ q. q.first ≡ n → IsModest (input_at files b n) in
      let F : Pool → Type 0 = λ q. IsStaying files b q.first in
      All-cons P pool list (λ same. modest n (subst (λ m. IsStaying files b m) same (All-head F pool list all))) (pool_modest n list (All-tail F pool list all))

  sized_at : (n : ℕ) → All IsSized (items_at files b pools leaders n)
  unfolding items_at
  sized_at n =
      All-append IsSized (own_item leaders n (input_at files b n)) (pool_at 0 pools n (input_at files b n))
      (sized_own leaders n (input_at files b n) (own_modest n))
      (sized_pool 0 pools n (input_at files b n) (pool_modest n pools firsts) small)

  got_sized : IsSized (got_item words)
  got_sized = record { some = omega arith; power = eight_power; aligned = omega arith; sized = omega arith; small = λ m same. not_got words m _ same }

  pub sized_items : All IsSized (items files b pools words leaders)
  unfolding items
  sized_items =
      All-append IsSized (flat_map (items_at files b pools leaders) (range_with_len 0 (section_total files))) (got_item words ∷ [])
      (each_flat IsSized (items_at files b pools leaders) 0 (section_total files) (λ n lt. sized_at n))
      (All-cons IsSized (got_item words) [] got_sized (All-nil IsSized))

  two_at : (n : ℕ) → length (items_at files b pools leaders n) ≤ 2
  unfolding items_at
  two_at n =
      omega (
        arith,
        length-append (own_item leaders n (input_at files b n)) (pool_at 0 pools n (input_at files b n)),
        few_own leaders n (input_at files b n),
        few_pool 0 pools n (input_at files b n),
      )

  pub few_items : length (items files b pools words leaders) ≤ 2 ^ 30
  unfolding items
  few_items =
      omega (
        arith,
        few,
        length-append (flat_map (items_at files b pools leaders) (range_with_len 0 (section_total files))) (got_item words ∷ []),
        few_twos (items_at files b pools leaders) 0 (section_total files) two_at,
      )

  bytes_at : (n : ℕ) → bytes (items_at files b pools leaders n) ≤ bytes (own_item leaders n (input_at files b n)) + bytes (pool_at 0 pools n (input_at files b n))
  unfolding items_at
  bytes_at n = omega (arith, sum_by-append (λ (i : Item). i.size) (own_item leaders n (input_at files b n)) (pool_at 0 pools n (input_at files b n)))

  pub bytes_items : bytes (items files b pools words leaders) < 2 ^ 61 + 2 ^ 40
  unfolding items
  bytes_items =
      let all : List Item = flat_map (items_at files b pools leaders) (range_with_len 0 (section_total files)) in
      let got : bytes (got_item words ∷ []) ≡ 8 * words + 0 = sum_by-cons (λ (i : Item). i.size) (got_item words) [] in
      let whole = sum_by-append (λ (i : Item). i.size) all (got_item words ∷ []) in
      let flat = bytes_flat (items_at files b pools leaders) 0 (section_total files) in
      let both = total_both (λ m. bytes (items_at files b pools leaders m)) (λ m. bytes (own_item leaders m (input_at files b m)))
      (λ m. bytes (pool_at 0 pools m (input_at files b m))) 0 (section_total files) (λ m lt. bytes_at m) in
      let owns = total_most (λ m. bytes (own_item leaders m (input_at files b m))) 0 (section_total files)
      (λ m lt. own_bytes leaders m (input_at files b m) (own_modest m)) in
      let pooled = pool_most 0 pools (λ m. input_at files b m) 0 (section_total files) in
      omega (arith, got, whole, flat, both, owns, pooled, small, few, room)
