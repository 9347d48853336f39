-- Sizes that start low and rise where they do not allow their bytes stay below all safe ones, and are safe once none rises.
use Rattle.std.proofs.Common.{◌≡◌, ℕ, zero, suc, ◌+◌, ◌-◌, ◌*◌, ◌<◌, ◌≤◌, ◌⊎◌, ◌||◌, Bool, true, false, List, [], ◌∷◌, ◌++◌, length, map, take, set, nat_lt, get_or, refl, sym, ap, ◌∙◌, subst, arith, inl, inr}
use Rattle.std.specs.Prelude.{if◌then◌else◌, nat_le, All}
use Rattle.std.specs.List.{list_any, range_with_len, sum_by}
use Rattle.std.proofs.lemmas.Bool.{cases_eq, cases_lt, false≢true, le-leb, le-ltb, leb-true, lt-ltb}
use Rattle.std.proofs.lemmas.List.{get_or-map, get_or-set_other, get_or-set_same, get_or-take, get_or_past, length-map, length-set, length-take, take-set-le, take_all}
use Rattle.std.proofs.Math.Seq.{take-set-lt}
use Rattle.std.proofs.lemmas.List.FromFn.{fill_by_all, get_or-map-range_with_len, get_or-range_with_len, length-map-range_with_len, length-range_with_len}
use Rattle.std.proofs.lemmas.List.Elements.{All-cons}
use Rattle.std.proofs.lemmas.List.Sums.{sum_by-le, sum_by-take-le, sum_by-set, sum_by_more, sum_by-cons}
use Rattle.lk_base.proofs.Loops.{range_more}
use Rattle.relax.specs.declared.jumps.Jump.{Jump}
use Rattle.relax.specs.Jumps.{AreBelow, AreLawful, AreSafe, IsJump, IsLawful, all_lost, allows, is_allowed, is_small, jump_at, jump_bytes, least_of, lost_before, lost_in, lost_sums, lost_upto, no_jump, raised, raised_size, reach, size_at, some_rises}
use Rattle.relax.specs.Placing.{IsOneSize}

-- what calls lose, one call on
pub upto_more : (z : List ℕ) (k : ℕ) → k < length z → lost_upto z (k + 1) ≡ lost_upto z k + (8 - size_at z k)
upto_more z k lt = sum_by_more (λ s. 8 - s) z k 8 lt

upto_all : (z : List ℕ) → lost_upto z (length z) ≡ all_lost z
upto_all z = ap (sum_by (λ s. 8 - s)) (take_all (length z) z (omega arith))

pub few_lost : (z : List ℕ) → all_lost z ≤ 8 * length z
few_lost z =
    let most = sum_by-le (λ s. 8 - s) 8 z (λ k d lt. omega arith) in
    omega (arith, most)

pub upto_few : (z : List ℕ) (k : ℕ) → lost_upto z k ≤ 8 * length z
upto_few z k = omega (arith, few_lost z, sum_by-take-le (λ s. 8 - s) z k)

-- the sums, and one of them
pub length_sums : (z : List ℕ) → length (lost_sums z) ≡ length z + 1
length_sums z = length-map-range_with_len (lost_upto z) 0 (length z + 1)

pub sum_at : (z sums : List ℕ) (k d : ℕ) → sums ≡ lost_sums z → k ≤ length z → get_or sums k d ≡ lost_upto z k
sum_at z sums k d is le = ap (λ l. get_or l k d) is ∙ get_or-map-range_with_len (lost_upto z) 0 (length z + 1) k k d (omega arith) (omega arith)

-- of larger sizes less is lost
pub record AreAtMost (z y : List ℕ) : Type 0 where
  pub same : length z ≡ length y
  pub each : (k : ℕ) → size_at z k ≤ size_at y k

lost_less : (z y : List ℕ) (a n : ℕ) → AreAtMost z y → a + n ≤ length z → lost_upto y (a + n) + lost_upto z a ≤ lost_upto z (a + n) + lost_upto y a
lost_less z y a zero is le =
    let e : a + 0 ≡ a = omega arith in
    omega (arith, ap (lost_upto y) e, ap (lost_upto z) e)
lost_less z y a (suc n) is le =
    let e : a + suc n ≡ (a + n) + 1 = omega arith in
    let one = upto_more z (a + n) (omega arith) in
    let other = upto_more y (a + n) (omega (arith, is.same)) in
    let low = is.each (a + n) in
    omega (arith, ap (lost_upto y) e, ap (lost_upto z) e, one, other, low, lost_less z y a n is (omega arith))

part_less : (d x y : ℕ) → x ≤ y → lost_in d y ≤ lost_in d x
part_less d x y le = omega arith

rest_less : (d x y : ℕ) → x ≤ y → (8 - y) + lost_in d x ≤ (8 - x) + lost_in d y
rest_less d x y le = omega arith

between_less : (d e x y : ℕ) → d ≤ e → x ≤ y → lost_in e y + lost_in d x ≤ lost_in e x + lost_in d y
between_less d e x y le less = omega arith

points_less : (z y : List ℕ) (j : Jump) → AreAtMost z y → IsJump (length z) j →
    lost_before y j.high + lost_before z j.low ≤ lost_before z j.high + lost_before y j.low
unfolding lost_before
points_less z y j is jump =
    let a = j.low.call in
    let b = j.high.call in
    let within = jump.within in
    elim jump.ordered [
      | inl before ↦
          let n = b - (a + 1) in
          let e : (a + 1) + n ≡ b = omega (arith, before) in
          let between = lost_less z y (a + 1) n is (omega (arith, e, within)) in
          let one = upto_more z a (omega (arith, before, within)) in
          let other = upto_more y a (omega (arith, before, within, is.same)) in
          let rest = rest_less j.low.depth (size_at z a) (size_at y a) (is.each a) in
          let end = part_less j.high.depth (size_at z b) (size_at y b) (is.each b) in
          omega (arith, between, ap (lost_upto z) e, ap (lost_upto y) e, one, other, rest, end)
      | inr (same, deep) ↦
          let part = between_less j.low.depth j.high.depth (size_at z b) (size_at y b) deep (is.each b) in
          omega (arith, part, ap (lost_upto z) same, ap (lost_upto y) same, ap (λ k. lost_in j.low.depth (size_at z k)) same, ap (λ k. lost_in j.low.depth (size_at y k)) same)
    ]

-- and distances are no less
pub bytes_more : (z y : List ℕ) (j : Jump) → AreAtMost z y → IsJump (length z) j → jump_bytes z j ≤ jump_bytes y j
unfolding jump_bytes
bytes_more z y j is jump = omega (arith, points_less z y j is jump)

-- a size that does not allow a distance allows no greater one
allows_step : (small : Bool) (most x y : ℕ) → x ≤ y → (if small then nat_le y most else true) ≡ true → (if small then nat_le x most else true) ≡ true
allows_step true most x y le allowed = le-leb x most (omega (arith, le, leb-true y most allowed))
allows_step false most x y le allowed = refl

pub allows_less : (size : ℕ) (f : Bool) (x y : ℕ) → x ≤ y → allows size f y ≡ true → allows size f x ≡ true
unfolding allows
allows_less size f x y le allowed = allows_step (is_small size) (reach size f) x y le allowed

pub eight_allows : (f : Bool) (x : ℕ) → allows 8 f x ≡ true
unfolding allows
eight_allows f x = refl

-- a small size is doubled: no lawful size lies between
raised_low : (s t : ℕ) → IsOneSize s → IsOneSize t → s < t → 2 * s ≤ t
raised_low s t a b lt = elim a [
  | inl two ↦ elim b [
    | inl x ↦ omega arith
    | inr r ↦ elim r [ inl x ↦ omega arith | inr x ↦ omega arith ]
  ]
  | inr q ↦ elim q [
    | inl four ↦ elim b [
      | inl x ↦ omega arith
      | inr r ↦ elim r [ inl x ↦ omega arith | inr x ↦ omega arith ]
    ]
    | inr eight ↦ elim b [
      | inl x ↦ omega arith
      | inr r ↦ elim r [ inl x ↦ omega arith | inr x ↦ omega arith ]
    ]
  ]
]

eight_stays : (s : ℕ) → IsOneSize s → (s ≡ 8 → ⊥) → IsOneSize (2 * s)
eight_stays s a other = elim a [
  | inl two ↦ inr (inl (omega (arith, two)))
  | inr q ↦ elim q [ inl four ↦ inr (inr (omega (arith, four))) | inr eight ↦ absurd (other eight) ]
]

any_push : {X : Type 0} (p : X → Bool) (xs : List X) (y : X) → list_any p (xs ++ y ∷ []) ≡ (list_any p xs || p y)
any_push p [] y = or_false (p y)
  where
    or_false : (b : Bool) → (b || false) ≡ b
    or_false true = refl
    or_false false = refl
any_push p (x ∷ xs) y = ap (λ b. p x || b) (any_push p xs y) ∙ either (p x) (list_any p xs) (p y)
  where
    either : (a b c : Bool) → (a || (b || c)) ≡ ((a || b) || c)
    either true b c = refl
    either false b c = refl

module _ (jumps : List Jump) (are : (k : ℕ) → k < length jumps → IsJump (length jumps) (jump_at jumps k)) where
  -- the sizes after a round, by number
  raised_at : (z : List ℕ) (k : ℕ) → k < length jumps → size_at (raised jumps z) k ≡ raised_size jumps z k
  raised_at z k lt = get_or-map-range_with_len (raised_size jumps z) 0 (length jumps) k k 8 lt (omega arith)

  length_raised : (z : List ℕ) → length (raised jumps z) ≡ length jumps
  length_raised z = length-map-range_with_len (raised_size jumps z) 0 (length jumps)

  -- a size that does not allow its bytes is not eight
  pub small_if : (z : List ℕ) (k : ℕ) → is_allowed jumps z k ≡ false → size_at z k ≡ 8 → ⊥
  small_if z k differs eight =
      false≢true (sym differs ∙ ap (λ s. allows s (jump_at jumps k).forwards (jump_bytes z (jump_at jumps k))) eight ∙ eight_allows (jump_at jumps k).forwards (jump_bytes z (jump_at jumps k)))

  pub lawful_step : (z : List ℕ) (k : ℕ) (b : Bool) → AreLawful jumps z → k < length jumps → is_allowed jumps z k ≡ b → IsLawful jumps k (if b then size_at z k else 2 * size_at z k)
  lawful_step z k true is lt e = is.each k lt
  lawful_step z k false is lt e =
      let own = is.each k lt in
      let low = own.0 in
      (omega (arith, low), eight_stays (size_at z k) own.1 (small_if z k e))

  pub raised_lawful : (z : List ℕ) → AreLawful jumps z → AreLawful jumps (raised jumps z)
  raised_lawful z is = record {
    count = length_raised z;
    each = λ k lt. subst (IsLawful jumps k) (sym (raised_at z k lt)) (lawful_step z k (is_allowed jumps z k) is lt refl);
  }

  -- sizes below others, those past the end too
  at_most : (z y : List ℕ) → AreLawful jumps z → AreLawful jumps y → ((k : ℕ) → k < length jumps → size_at z k ≤ size_at y k) → AreAtMost z y
  at_most z y is other each = record {
    same = is.count ∙ sym other.count;
    each = λ k. elim (cases_lt k (length jumps)) [
      | inl lt ↦ each k lt
      | inr past ↦ omega (arith, get_or_past z k 8 (omega (arith, is.count, past)), get_or_past y k 8 (omega (arith, other.count, past)))
    ];
  }

  pub below_step : (z y : List ℕ) (k : ℕ) (b : Bool) → AreLawful jumps z → AreBelow jumps z → AreSafe jumps y → k < length jumps → is_allowed jumps z k ≡ b →
      (if b then size_at z k else 2 * size_at z k) ≤ size_at y k
  below_step z y k true is below safe lt e = below y safe k lt
  below_step z y k false is below safe lt e = elim (cases_lt (size_at z k) (size_at y k)) [
    | inl less ↦ raised_low (size_at z k) (size_at y k) (is.each k lt).1 (safe.lawful.each k lt).1 less
    | inr upto ↦
        let j = jump_at jumps k in
        let most = at_most z y is safe.lawful (below y safe) in
        let same : size_at y k ≡ size_at z k = omega (arith, upto, most.each k) in
        let jump : IsJump (length z) j = subst (λ n. IsJump n j) (sym is.count) (are k lt) in
        let more = bytes_more z y j most jump in
        let allowed = ap (λ s. allows s j.forwards (jump_bytes y j)) (sym same) ∙ safe.allowed k lt in
        absurd (false≢true (sym e ∙ allows_less (size_at z k) j.forwards (jump_bytes z j) (jump_bytes y j) more allowed))
  ]

  pub raised_below : (z : List ℕ) → AreLawful jumps z → AreBelow jumps z → AreBelow jumps (raised jumps z)
  raised_below z is below y safe k lt =
      subst (λ s. s ≤ size_at y k) (sym (raised_at z k lt)) (below_step z y k (is_allowed jumps z k) is below safe lt refl)

  -- the least sizes
  least_at : (k : ℕ) → k < length jumps → size_at (least_of jumps) k ≡ (jump_at jumps k).least
  least_at k lt = get_or-map (λ j. j.least) jumps k no_jump 8 lt

  pub least_lawful : AreLawful jumps (least_of jumps)
  least_lawful = record {
    count = length-map jumps (λ j. j.least);
    each = λ k lt. subst (IsLawful jumps k) (sym (least_at k lt)) (omega arith, elim (are k lt).least [ inl two ↦ inl two | inr four ↦ inr (inl four) ]);
  }

  pub least_below : AreBelow jumps (least_of jumps)
  least_below y safe k lt = let low = (safe.lawful.each k lt).0 in omega (arith, least_at k lt, low)

  -- none rises: all are allowed
  none_rises : (z : List ℕ) (ks : List ℕ) → list_any (λ k. if is_allowed jumps z k then false else true) ks ≡ false → All (λ k. is_allowed jumps z k ≡ true) ks
  none_rises z [] none = λ i d lt. absurd (omega arith)
  none_rises z (k ∷ ks) none = go (is_allowed jumps z k) refl none (none_rises z ks)
    where
      go : (b : Bool) → is_allowed jumps z k ≡ b → ((if b then false else true) || list_any (λ k. if is_allowed jumps z k then false else true) ks) ≡ false →
          (list_any (λ k. if is_allowed jumps z k then false else true) ks ≡ false → All (λ k. is_allowed jumps z k ≡ true) ks) → All (λ k. is_allowed jumps z k ≡ true) (k ∷ ks)
      go true is none rest = All-cons (λ k. is_allowed jumps z k ≡ true) k ks is (rest none)
      go false is none rest = cc

  pub are_safe : (z : List ℕ) → AreLawful jumps z → some_rises jumps z (length jumps) ≡ false → AreSafe jumps z
  are_safe z is none = record {
    lawful = is;
    allowed = λ k lt.
        let all = none_rises z (range_with_len 0 (length jumps)) none k k (omega (arith, length-range_with_len 0 (length jumps), lt)) in
        let at : get_or (range_with_len 0 (length jumps)) k k ≡ k = get_or-range_with_len 0 (length jumps) k k lt ∙ omega arith in
        ap (is_allowed jumps z) (sym at) ∙ all;
  }

  -- each that rises loses less
  one_less : (z : List ℕ) (k : ℕ) (b : Bool) → AreLawful jumps z → k < length jumps → is_allowed jumps z k ≡ b →
      (8 - (if b then size_at z k else 2 * size_at z k)) + (if b then 0 else 1) ≤ 8 - size_at z k
  one_less z k true is lt e = omega arith
  one_less z k false is lt e =
      let other = small_if z k e in
      elim (is.each k lt).1 [
        | inl two ↦ omega (arith, two)
        | inr q ↦ elim q [ inl four ↦ omega (arith, four) | inr eight ↦ absurd (other eight) ]
      ]

  lost_sum : (f : ℕ → ℕ) (a n : ℕ) → all_lost (map f (range_with_len a (suc n))) ≡ (8 - f a) + all_lost (map f (range_with_len (a + 1) n))
  lost_sum f a n = sum_by-cons (λ s. 8 - s) (f a) (map f (range_with_len (a + 1) n))

  abbrev rise : List ℕ → ℕ → Bool
  rise z k = if is_allowed jumps z k then false else true

  -- from one call on
  less_from : (z : List ℕ) (a n : ℕ) → AreLawful jumps z → a + n ≤ length jumps →
      all_lost (map (raised_size jumps z) (range_with_len a n)) + (if list_any (rise z) (range_with_len a n) then 1 else 0) ≤ all_lost (map (size_at z) (range_with_len a n))
  less_from z a zero is le = omega arith
  less_from z a (suc n) is le =
      let own = one_less z a (is_allowed jumps z a) is (omega arith) refl in
      let rest = less_from z (a + 1) n is (omega arith) in
      let any = either (is_allowed jumps z a) (list_any (rise z) (range_with_len (a + 1) n)) in
      omega (arith, lost_sum (raised_size jumps z) a n, lost_sum (size_at z) a n, own, rest, any)
    where
      either : (b c : Bool) → (if ((if b then false else true) || c) then 1 else 0) ≤ (if b then 0 else 1) + (if c then 1 else 0)
      either true true = omega arith
      either true false = omega arith
      either false true = omega arith
      either false false = omega arith

  sizes_are : (z : List ℕ) → AreLawful jumps z → z ≡ map (size_at z) (range_with_len 0 (length jumps))
  sizes_are z is = fill_by_all (size_at z) z (length jumps) 8 is.count (λ k lt. refl)

  abbrev one_if : Bool → ℕ
  one_if b = if b then 1 else 0

  pub fewer_lost : (z : List ℕ) → AreLawful jumps z → some_rises jumps z (length jumps) ≡ true → all_lost (raised jumps z) < all_lost z
  fewer_lost z is some =
      let less = less_from z 0 (length jumps) is (omega arith) in
      let one = ap one_if some in
      omega (arith, less, one, ap all_lost (sizes_are z is))

pub rises_more : (jumps : List Jump) (z : List ℕ) (k : ℕ) → some_rises jumps z (k + 1) ≡ (some_rises jumps z k || (if is_allowed jumps z k then false else true))
rises_more jumps z k =
    let rise : ℕ → Bool = λ n. if is_allowed jumps z n then false else true in
    ap (list_any rise) (range_more k) ∙ any_push rise (range_with_len 0 k) k

pub lawful_most : (jumps : List Jump) (z : List ℕ) (k : ℕ) → AreLawful jumps z → k < length jumps → size_at z k ≤ 8
lawful_most jumps z k is lt = elim (is.each k lt).1 [
  | inl two ↦ omega (arith, two)
  | inr q ↦ elim q [ inl four ↦ omega (arith, four) | inr eight ↦ omega (arith, eight) ]
]

pub upto_low : (z : List ℕ) (k : ℕ) → lost_upto z k ≤ 8 * k
upto_low z k =
    let most = sum_by-le (λ s. 8 - s) 8 (take k z) (λ i d lt. omega arith) in
    let few : length (take k z) ≤ k = omega (arith, length-take k z) in
    omega (arith, most, few)

-- one size that rises
pub set_lost : (z : List ℕ) (k s m : ℕ) → k < length z → size_at z k ≤ s → s ≤ 8 → lost_upto (set z k s) m + (if nat_lt k m then s - size_at z k else 0) ≡ lost_upto z m
set_lost z k s m lt low few = elim (cases_lt k m) [
  | inl before ↦
      let f : ℕ → ℕ = λ x. 8 - x in
      let xs = take m z in
      let there : k < length xs = omega (arith, before, lt, length-take m z) in
      let sums = sum_by-set f xs k s 8 there in
      let own : get_or xs k 8 ≡ size_at z k = get_or-take m z k 8 before in
      let taken = ap (sum_by f) (take-set-lt m z k s before) in
      let gain = ap (λ b. if b then s - size_at z k else 0) (lt-ltb k m before) in
      omega (arith, sums, own, taken, gain, low, few)
  | inr after ↦
      let same = ap (sum_by (λ x. 8 - x)) (take-set-le m z k s after) in
      let gain = ap (λ b. if b then s - size_at z k else 0) (le-ltb k m after) in
      omega (arith, same, gain)
]

module _ (jumps : List Jump) (are : (k : ℕ) → k < length jumps → IsJump (length jumps) (jump_at jumps k)) (z : List ℕ) (lawful : AreLawful jumps z) (below : AreBelow jumps z) (k : ℕ) (lt : k < length jumps) (differs : is_allowed jumps z k ≡ false) where
  abbrev larger : List ℕ
  larger = set z k (2 * size_at z k)

  within : k < length z
  within = omega (arith, lt, lawful.count)

  at_k : size_at larger k ≡ 2 * size_at z k
  at_k = get_or-set_same z k (2 * size_at z k) 8 within

  at_other : (m : ℕ) → (m ≡ k → ⊥) → size_at larger m ≡ size_at z m
  at_other m other = get_or-set_other z k m (2 * size_at z k) 8 other

  pub twice_few : 2 * size_at z k ≤ 8
  twice_few =
      let other = small_if jumps are z k differs in
      elim (lawful.each k lt).1 [
        | inl two ↦ omega (arith, two)
        | inr q ↦ elim q [ inl four ↦ omega (arith, four) | inr eight ↦ absurd (other eight) ]
      ]

  pub larger_lawful : AreLawful jumps larger
  larger_lawful = record {
    count = length-set z k (2 * size_at z k) ∙ lawful.count;
    each = λ m less. elim (cases_eq m k) [
      | inl same ↦
          let own = lawful_step jumps are z k false lawful lt differs in
          subst (λ n. IsLawful jumps n (size_at larger n)) (sym same) (subst (IsLawful jumps k) (sym at_k) own)
      | inr other ↦ subst (IsLawful jumps m) (sym (at_other m other)) (lawful.each m less)
    ];
  }

  pub larger_below : AreBelow jumps larger
  larger_below y safe m less = elim (cases_eq m k) [
    | inl same ↦
        let own = below_step jumps are z y k false lawful below safe lt differs in
        subst (λ n. size_at larger n ≤ size_at y n) (sym same) (omega (arith, own, at_k))
    | inr other ↦ omega (arith, at_other m other, below y safe m less)
  ]
