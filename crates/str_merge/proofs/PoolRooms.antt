-- How many bytes the pools have at most, and how many sections the first of them.
use Rattle.std.proofs.Common.{◌≡◌, ℕ, ◌+◌, ◌<◌, ◌≤◌, ◌^◌, ◌==◌, Bool, true, false, cond, List, [], ◌∷◌, ◌++◌, length, map, refl, sym, ap, ◌∙◌, arith, inl, inr}
use Rattle.std.specs.Prelude.{flat_map, if◌then◌else◌, nat_lt}
use Rattle.std.specs.List.{filter, range_with_len, sum_by}
use Rattle.std.specs.Str.{bytes_eq}
use Rattle.std.proofs.lemmas.Bool.{cases_eq, cases_lt, eq-eqb, le-ltb, lt-ltb, ne_eqb}
use Rattle.std.proofs.lemmas.List.{length-map, map-id}
use Rattle.std.proofs.lemmas.List.Sums.{sum_by-cons}
use Rattle.lk_base.specs.Arithmetic.{up}
use Rattle.lk_base.proofs.Multiples.{up_below}
use Rattle.lk_tables.specs.Files.{File}
use Rattle.link_sections.specs.Distinct.{distinct, element, is_first}
use Rattle.link_sections.specs.Merging.{Site, end_from, no_site, pool_members, pool_number, pool_pieces, site_pieces, sites}
use Rattle.str_merge.specs.Filling.{sites_below}
use Rattle.str_merge.specs.Small.{piece_room, site_room}
use Rattle.str_merge.specs.Works.{members_at, nth_site}
use Rattle.str_merge.proofs.ListSteps.{by_index}
use Rattle.str_merge.proofs.PoolFacts.{filter_map_is}
use Rattle.str_merge.proofs.SmallSites.{flat_long, flat_sum}

-- the end of pieces one after the other
end_most : (align end : ℕ) (pieces : List (List ℕ)) → 1 ≤ align → align ≤ 2 ^ 20 → end_from align end pieces ≤ end + sum_by piece_room pieces
end_most align end [] some most = omega arith
end_most align end (p ∷ ps) some most =
    let start = up_below end align some in
    let rest = end_most align (up end align + length p) ps some most in
    let own : sum_by piece_room (p ∷ ps) ≡ (length p + 2 ^ 20) + sum_by piece_room ps = sum_by-cons piece_room p ps in
    omega (arith, start, rest, own, most)

-- some of the elements
either : {X : Type 0} (w : X → ℕ) (e : ℕ → X) (b : Bool) (k : ℕ) (rest : List ℕ) (n : ℕ) → sum_by w (map e rest) ≤ n → sum_by w (map e (cond b (k ∷ rest) rest)) ≤ w (e k) + n
either w e true k rest n le = let own : sum_by w (map e (k ∷ rest)) ≡ w (e k) + sum_by w (map e rest) = sum_by-cons w (e k) (map e rest) in omega (arith, le, own)
either w e false k rest n le = omega (arith, le)

some_sum : {X : Type 0} (w : X → ℕ) (e : ℕ → X) (t : ℕ → Bool) (ks : List ℕ) → sum_by w (map e (filter t ks)) ≤ sum_by w (map e ks)
some_sum w e t [] = omega arith
some_sum w e t (k ∷ ks) =
    let le : sum_by w (map e (filter t (k ∷ ks))) ≤ w (e k) + sum_by w (map e ks) = either w e (t k) k (filter t ks) (sum_by w (map e ks)) (some_sum w e t ks) in
    let own : sum_by w (map e (k ∷ ks)) ≡ w (e k) + sum_by w (map e ks) = sum_by-cons w (e k) (map e ks) in
    omega (arith, le, own)

distinct_sum : {X : Type 0} (w : X → ℕ) (same : X → X → Bool) (d : X) (xs : List X) → sum_by w (distinct same d xs) ≤ sum_by w xs
unfolding distinct
distinct_sum w same d xs =
    let all = ap (sum_by w) (by_index (λ x. x) xs d (length xs) refl ∙ map-id xs) in
    let some = some_sum w (element same d xs) (is_first same d xs) (range_with_len 0 (length xs)) in
    omega (arith, all, some)

-- the sections of the first pools, and of one pool more
kept_or : (w : Site → ℕ) (s : Site) (b : Bool) (ss : List Site) → sum_by w (cond b (s ∷ ss) ss) ≡ (if b then w s else 0) + sum_by w ss
kept_or w s true ss = sum_by-cons w s ss
kept_or w s false ss = omega arith

weigh : (n p v : ℕ) → (if nat_lt n (p + 1) then v else 0) ≡ (if nat_lt n p then v else 0) + (if n == p then v else 0)
weigh n p v = elim (cases_lt n p) [
  | inl low ↦
      let a : (if nat_lt n (p + 1) then v else 0) ≡ v = ap (λ b. if b then v else 0) (lt-ltb n (p + 1) (omega (arith, low))) in
      let b : (if nat_lt n p then v else 0) ≡ v = ap (λ b. if b then v else 0) (lt-ltb n p low) in
      let c : (if n == p then v else 0) ≡ 0 = ap (λ b. if b then v else 0) (ne_eqb n p (λ same. omega (arith, low, same))) in
      omega (arith, a, b, c)
  | inr high ↦ elim (cases_eq n p) [
    | inl same ↦
        let a : (if nat_lt n (p + 1) then v else 0) ≡ v = ap (λ b. if b then v else 0) (lt-ltb n (p + 1) (omega (arith, same))) in
        let b : (if nat_lt n p then v else 0) ≡ 0 = ap (λ b. if b then v else 0) (le-ltb n p high) in
        let c : (if n == p then v else 0) ≡ v = ap (λ b. if b then v else 0) (eq-eqb n p same) in
        omega (arith, a, b, c)
    | inr other ↦
        let more : p + 1 ≤ n = not_equal n p high other in
        let a : (if nat_lt n (p + 1) then v else 0) ≡ 0 = ap (λ b. if b then v else 0) (le-ltb n (p + 1) more) in
        let b : (if nat_lt n p then v else 0) ≡ 0 = ap (λ b. if b then v else 0) (le-ltb n p high) in
        let c : (if n == p then v else 0) ≡ 0 = ap (λ b. if b then v else 0) (ne_eqb n p other) in
        omega (arith, a, b, c)
  ]
]
  where
    not_equal : (n p : ℕ) → p ≤ n → (n ≡ p → ⊥) → p + 1 ≤ n
    not_equal n p le other = elim (cases_lt p n) [
      | inl more ↦ omega (arith, more)
      | inr less ↦ absurd (other (omega (arith, le, less)))
    ]

split_sum : (w number : Site → ℕ) (p : ℕ) (ss : List Site) →
    sum_by w (filter (λ s. nat_lt (number s) (p + 1)) ss) ≡ sum_by w (filter (λ s. nat_lt (number s) p) ss) + sum_by w (filter (λ s. number s == p) ss)
split_sum w number p [] = refl
split_sum w number p (s ∷ ss) =
    let n = number s in
    let a : sum_by w (filter (λ s. nat_lt (number s) (p + 1)) (s ∷ ss)) ≡ (if nat_lt n (p + 1) then w s else 0) + sum_by w (filter (λ s. nat_lt (number s) (p + 1)) ss) =
    kept_or w s (nat_lt n (p + 1)) (filter (λ s. nat_lt (number s) (p + 1)) ss) in
    let b : sum_by w (filter (λ s. nat_lt (number s) p) (s ∷ ss)) ≡ (if nat_lt n p then w s else 0) + sum_by w (filter (λ s. nat_lt (number s) p) ss) =
    kept_or w s (nat_lt n p) (filter (λ s. nat_lt (number s) p) ss) in
    let c : sum_by w (filter (λ s. number s == p) (s ∷ ss)) ≡ (if n == p then w s else 0) + sum_by w (filter (λ s. number s == p) ss) =
    kept_or w s (n == p) (filter (λ s. number s == p) ss) in
    omega (arith, a, b, c, weigh n p (w s), split_sum w number p ss)

part_sum : (w : Site → ℕ) (t : Site → Bool) (ss : List Site) → sum_by w (filter t ss) ≤ sum_by w ss
part_sum w t [] = omega arith
part_sum w t (s ∷ ss) =
    let own : sum_by w (filter t (s ∷ ss)) ≡ (if t s then w s else 0) + sum_by w (filter t ss) = kept_or w s (t s) (filter t ss) in
    let all : sum_by w (s ∷ ss) ≡ w s + sum_by w ss = sum_by-cons w s ss in
    omega (arith, own, all, no_more (t s) (w s), part_sum w t ss)
  where
    no_more : (b : Bool) (v : ℕ) → (if b then v else 0) ≤ v
    no_more true v = omega arith
    no_more false v = omega arith

ones : (ss : List Site) → length ss ≡ sum_by (λ s. 1) ss
ones [] = refl
ones (s ∷ ss) = let own : sum_by (λ s. 1) (s ∷ ss) ≡ 1 + sum_by (λ s. 1) ss = sum_by-cons (λ (s : Site). 1) s ss in omega (arith, own, ones ss)

module _ (files : List File) (kept : List Bool) where
  -- a pool is no longer than its sections' pieces are with their room
  pub pool_room : (p align : ℕ) → 1 ≤ align → align ≤ 2 ^ 20 → end_from align 0 (pool_pieces files kept p) ≤ sum_by (site_room files) (pool_members files kept p)
  unfolding pool_pieces
  pool_room p align some most =
      let texts = flat_map (site_pieces files) (pool_members files kept p) in
      let ends = end_most align 0 (distinct bytes_eq [] texts) some most in
      let fewer = distinct_sum piece_room bytes_eq [] texts in
      let all : sum_by piece_room texts ≡ sum_by (site_room files) (pool_members files kept p) = flat_sum piece_room (site_pieces files) (pool_members files kept p) in
      omega (arith, ends, fewer, all)

  -- one pool more
  pub rooms_below : (p : ℕ) → sum_by (site_room files) (sites_below files kept (p + 1)) ≡ sum_by (site_room files) (sites_below files kept p) + sum_by (site_room files) (pool_members files kept p)
  unfolding sites_below pool_members
  rooms_below p = split_sum (site_room files) (pool_number files kept) p (sites files kept)

  count_members : (p : ℕ) → length (members_at files kept p) ≡ length (pool_members files kept p)
  unfolding pool_members members_at
  count_members p =
      let all = sites files kept in
      let n = length all in
      let nth = nth_site files kept in
      let own : Site → Bool = λ s. pool_number files kept s == p in
      let whole : map nth (range_with_len 0 n) ≡ all = by_index (λ (s : Site). s) all no_site n refl ∙ map-id all in
      sym (length-map (filter (λ i. own (nth i)) (range_with_len 0 n)) nth)
      ∙ ap length (sym (filter_map_is own nth (range_with_len 0 n)) ∙ ap (filter own) whole)

  pub count_below : (p : ℕ) → length (sites_below files kept (p + 1)) ≡ length (sites_below files kept p) + length (members_at files kept p)
  unfolding sites_below pool_members
  count_below p =
      let all = sites files kept in
      let number = pool_number files kept in
      let split = split_sum (λ s. 1) number p all in
      omega (
        arith,
        split,
        ones (filter (λ s. nat_lt (number s) (p + 1)) all),
        ones (filter (λ s. nat_lt (number s) p) all),
        ones (filter (λ s. number s == p) all),
        count_members p,
      )

  -- all pools
  pub rooms_most : (p : ℕ) → sum_by (site_room files) (sites_below files kept p) ≤ sum_by (site_room files) (sites files kept)
  unfolding sites_below
  rooms_most p = part_sum (site_room files) (λ s. nat_lt (pool_number files kept s) p) (sites files kept)

  pub count_most : (p : ℕ) → length (sites_below files kept p) ≤ length (sites files kept)
  unfolding sites_below
  count_most p =
      let all = sites files kept in
      let some = filter (λ s. nat_lt (pool_number files kept s) p) all in
      omega (arith, ones some, ones all, part_sum (λ s. 1) (λ s. nat_lt (pool_number files kept s) p) all)

  -- the pieces of a pool
  pieces_part : (t : Site → Bool) (ss : List Site) → length (flat_map (site_pieces files) (filter t ss)) ≤ length (flat_map (site_pieces files) ss)
  pieces_part t ss =
      let count : (xs : List Site) → length (flat_map (site_pieces files) xs) ≡ sum_by (λ s. length (site_pieces files s)) xs = flat_long (site_pieces files) in
      omega (arith, count (filter t ss), count ss, part_sum (λ s. length (site_pieces files s)) t ss)

  pub pool_few : (p : ℕ) → length (flat_map (site_pieces files) (pool_members files kept p)) ≤ length (flat_map (site_pieces files) (sites files kept))
  unfolding pool_members
  pool_few p = pieces_part (λ s. pool_number files kept s == p) (sites files kept)
