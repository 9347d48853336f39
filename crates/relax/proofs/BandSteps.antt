-- Sizes that the bytes between two points alone decide, and rounds over the calls of which these do not.
use Rattle.std.proofs.Common.{◌≡◌, ℕ, zero, suc, ◌+◌, ◌-◌, ◌*◌, ◌<◌, ◌≤◌, ◌⊎◌, ◌||◌, Bool, true, false, not, List, [], ◌∷◌, length, set, get_or, min, refl, sym, ap, ◌∙◌, subst, arith, inl, inr}
use Rattle.std.specs.Prelude.{if◌then◌else◌, All}
use Rattle.std.specs.List.{list_any}
use Rattle.std.proofs.lemmas.Bool.{and_from, cases_Bool, cases_eq, cases_lt, false≢true, le-leb, leb-true, not-false, not-true, not_from_false, not_from_true, or_parts}
use Rattle.std.proofs.lemmas.List.{get_or-set_other, get_or-set_same, get_or_past, length-set}
use Rattle.relax.specs.declared.bands.Open.{Open}
use Rattle.relax.specs.declared.jumps.Jump.{Jump}
use Rattle.relax.specs.Bands.{AreRaised, IsBanded, first_size, is_far, is_late, is_near, is_open, least_span, raised_from, span_of, twice}
use Rattle.relax.specs.Jumps.{AreBelow, AreLawful, AreSafe, IsJump, IsLawful, allows, is_allowed, jump_at, jump_bytes, lost_before, lost_in, lost_upto, size_at}
use Rattle.relax.proofs.LeastSizes.{allows_less, below_step, eight_allows, lawful_most, lawful_step, small_if, upto_more}
use Rattle.relax.specs.Placing.{IsOneSize}

-- what the calls between two points lose: no less than none, and no more than six each
upto_rises : (z : List ℕ) (a n : ℕ) → a + n ≤ length z → lost_upto z a ≤ lost_upto z (a + n)
upto_rises z a zero le = let e : a + 0 ≡ a = omega arith in omega (arith, ap (lost_upto z) e)
upto_rises z a (suc n) le =
    let e : a + suc n ≡ (a + n) + 1 = omega arith in
    omega (arith, ap (lost_upto z) e, upto_more z (a + n) (omega (arith, le)), upto_rises z a n (omega (arith, le)))

upto_most : (z : List ℕ) (a n : ℕ) → ((k : ℕ) → 2 ≤ size_at z k) → a + n ≤ length z → lost_upto z (a + n) ≤ lost_upto z a + 6 * n
upto_most z a zero some le = let e : a + 0 ≡ a = omega arith in omega (arith, ap (lost_upto z) e)
upto_most z a (suc n) some le =
    let e : a + suc n ≡ (a + n) + 1 = omega arith in
    let own = some (a + n) in
    omega (arith, ap (lost_upto z) e, upto_more z (a + n) (omega (arith, le)), own, upto_most z a n some (omega (arith, le)))

part_most : (d s : ℕ) → lost_in d s ≤ 8 - s
part_most d s = omega arith

part_rises : (d e s : ℕ) → d ≤ e → lost_in d s ≤ lost_in e s
part_rises d e s le = omega arith

pub record LosesBetween (z : List ℕ) (j : Jump) : Type 0 where
  pub rises : lost_before z j.low ≤ lost_before z j.high
  pub most : lost_before z j.high ≤ lost_before z j.low + 6 * (j.high.call - j.low.call + 1)

loses_between : (z : List ℕ) (j : Jump) → ((k : ℕ) → 2 ≤ size_at z k) → IsJump (length z) j → LosesBetween z j
unfolding lost_before
loses_between z j some jump =
    let a = j.low.call in
    let b = j.high.call in
    let within = jump.within in
    let high = part_most j.high.depth (size_at z b) in
    let least = some b in
    elim jump.ordered [
      | inl before ↦
          let n = b - (a + 1) in
          let e : (a + 1) + n ≡ b = omega (arith, before) in
          let m = b - a in
          let f : a + m ≡ b = omega (arith, before) in
          let one = upto_more z a (omega (arith, before, within)) in
          let rest = upto_rises z (a + 1) n (omega (arith, e, within)) in
          let all = upto_most z a m some (omega (arith, f, within)) in
          let low = part_most j.low.depth (size_at z a) in
          record {
            rises = omega (arith, one, rest, ap (lost_upto z) e, low);
            most = omega (arith, all, ap (lost_upto z) f, high, least);
          }
      | inr (same, deep) ↦
          let part = part_rises j.low.depth j.high.depth (size_at z b) deep in
          let at = ap (lost_upto z) same in
          let in_low = ap (λ k. lost_in j.low.depth (size_at z k)) same in
          record {
            rises = omega (arith, part, at, in_low);
            most = omega (arith, at, high, least, same);
          }
    ]

bytes_within : (z : List ℕ) (j : Jump) → ((k : ℕ) → 2 ≤ size_at z k) → IsJump (length z) j → (jump_bytes z j ≤ span_of j) × (least_span j ≤ jump_bytes z j)
unfolding jump_bytes
bytes_within z j some jump =
    let held = loses_between z j some jump in
    let rises = held.rises in
    let most = held.most in
    (omega (arith, rises), omega (arith, most))

-- a distance that a size allows greater ones allow
four_allows : (f : Bool) (x : ℕ) → allows 2 f x ≡ true → allows 4 f x ≡ true
unfolding allows
four_allows true x is = let low = leb-true x 2046 is in le-leb x 1048574 (omega (arith, low))
four_allows false x is = let low = leb-true x 2048 is in le-leb x 1048576 (omega (arith, low))

allows_more : (s t : ℕ) (f : Bool) (x : ℕ) → IsOneSize s → IsOneSize t → s ≤ t → allows s f x ≡ true → allows t f x ≡ true
allows_more s t f x one other le is =
    let P : ℕ → Type 0 = λ n. allows n f x ≡ true in
    elim other [
      | inl two ↦ elim one [
        | inl a ↦ subst P (a ∙ sym two) is
        | inr r ↦ elim r [ inl a ↦ absurd (omega (arith, le, a, two)) | inr a ↦ absurd (omega (arith, le, a, two)) ]
      ]
      | inr q ↦ elim q [
        | inl four ↦ elim one [
          | inl a ↦ subst P (sym four) (four_allows f x (subst P a is))
          | inr r ↦ elim r [ inl a ↦ subst P (a ∙ sym four) is | inr a ↦ absurd (omega (arith, le, a, four)) ]
        ]
        | inr eight ↦ subst P (sym eight) (eight_allows f x)
      ]
    ]

-- a far call has eight bytes wherever it is allowed
far_differs : (j : Jump) (n : ℕ) → is_far j ≡ true → least_span j ≤ n → allows 4 j.forwards n ≡ false
unfolding is_far
far_differs j n far le = elim (cases_Bool (allows 4 j.forwards n)) [
  | inl is ↦ absurd (false≢true (sym (not_from_true (allows 4 j.forwards (least_span j)) (allows_less 4 j.forwards (least_span j) n le is)) ∙ far))
  | inr not_so ↦ not_so
]

far_eight : (s : ℕ) (j : Jump) (n : ℕ) → IsOneSize s → allows 4 j.forwards n ≡ false → allows s j.forwards n ≡ true → s ≡ 8
far_eight s j n one differs is =
    let P : ℕ → Type 0 = λ m. allows m j.forwards n ≡ true in
    elim one [
      | inl two ↦ absurd (false≢true (sym differs ∙ four_allows j.forwards n (subst P two is)))
      | inr q ↦ elim q [ inl four ↦ absurd (false≢true (sym differs ∙ subst P four is)) | inr eight ↦ eight ]
    ]

module _ (jumps : List Jump) (are : (k : ℕ) → k < length jumps → IsJump (length jumps) (jump_at jumps k)) where
  two_least : (z : List ℕ) → AreLawful jumps z → (k : ℕ) → 2 ≤ size_at z k
  two_least z is k = elim (cases_lt k (length jumps)) [
    | inl lt ↦ elim (is.each k lt).1 [
      | inl two ↦ omega (arith, two)
      | inr q ↦ elim q [ inl four ↦ omega (arith, four) | inr eight ↦ omega (arith, eight) ]
    ]
    | inr past ↦ omega (arith, get_or_past z k 8 (omega (arith, past, is.count)))
  ]

  own_bytes : (z : List ℕ) (k : ℕ) → AreLawful jumps z → k < length jumps →
      (jump_bytes z (jump_at jumps k) ≤ span_of (jump_at jumps k)) × (least_span (jump_at jumps k) ≤ jump_bytes z (jump_at jumps k))
  own_bytes z k is lt = bytes_within z (jump_at jumps k) (two_least z is) (subst (λ n. IsJump n (jump_at jumps k)) (sym is.count) (are k lt))

  near_allowed : (z : List ℕ) (k : ℕ) → AreLawful jumps z → k < length jumps → is_near (jump_at jumps k) ≡ true → is_allowed jumps z k ≡ true
  unfolding is_near
  near_allowed z k is lt near =
      let j = jump_at jumps k in
      let own = is.each k lt in
      let low = own.0 in
      let least : IsOneSize j.least = elim (are k lt).least [ inl two ↦ inl two | inr four ↦ inr (inl four) ] in
      allows_more j.least (size_at z k) j.forwards (jump_bytes z j) least own.1 low (allows_less j.least j.forwards (jump_bytes z j) (span_of j) (own_bytes z k is lt).0 near)

  far_safe : (y : List ℕ) (k : ℕ) → AreSafe jumps y → k < length jumps → is_far (jump_at jumps k) ≡ true → size_at y k ≡ 8
  far_safe y k safe lt far =
      let j = jump_at jumps k in
      far_eight (size_at y k) j (jump_bytes y j) (safe.lawful.each k lt).1 (far_differs j (jump_bytes y j) far (own_bytes y k safe.lawful lt).1) (safe.allowed k lt)

  -- the sizes from which rounds begin
  least_or_eight : (k : ℕ) (b : Bool) → k < length jumps → IsLawful jumps k (if b then 8 else (jump_at jumps k).least)
  least_or_eight k true lt = (elim (are k lt).least [ inl two ↦ omega (arith, two) | inr four ↦ omega (arith, four) ], inr (inr refl))
  least_or_eight k false lt = (omega arith, elim (are k lt).least [ inl two ↦ inl two | inr four ↦ inr (inl four) ])

  first_below : (y : List ℕ) (k : ℕ) (b : Bool) → is_far (jump_at jumps k) ≡ b → AreSafe jumps y → k < length jumps → (if b then 8 else (jump_at jumps k).least) ≤ size_at y k
  first_below y k true far safe lt = omega (arith, far_safe y k safe lt far)
  first_below y k false far safe lt = (safe.lawful.each k lt).0

  pub raised_first : (z : List ℕ) → length z ≡ length jumps → ((k : ℕ) → k < length jumps → size_at z k ≡ first_size (jump_at jumps k)) → AreRaised jumps z
  raised_first z count each = record {
    lawful = record {
      count = count;
      each = λ k lt. subst (IsLawful jumps k) (sym (each k lt)) (least_or_eight k (is_far (jump_at jumps k)) lt);
    };
    below = λ y safe k lt. subst (λ s. s ≤ size_at y k) (sym (each k lt)) (first_below y k (is_far (jump_at jumps k)) refl safe lt);
    far = λ k lt far. each k lt ∙ ap (λ b. if b then 8 else (jump_at jumps k).least) far;
  }

  -- sizes of which some that are not allowed are doubled
  record AreStepped (z now : List ℕ) : Type 0 where
    pub count : length now ≡ length z
    pub each : (k : ℕ) → k < length jumps → (size_at now k ≡ size_at z k) ⊎ ((is_allowed jumps z k ≡ false) × (size_at now k ≡ 2 * size_at z k))

  lawful_after : (z now : List ℕ) (k : ℕ) → AreLawful jumps z → k < length jumps → (size_at now k ≡ size_at z k) ⊎ ((is_allowed jumps z k ≡ false) × (size_at now k ≡ 2 * size_at z k)) →
      IsLawful jumps k (size_at now k)
  lawful_after z now k is lt how = elim how [
    | inl same ↦ subst (IsLawful jumps k) (sym same) (is.each k lt)
    | inr (differs, twice_so) ↦ subst (IsLawful jumps k) (sym twice_so) (lawful_step jumps are z k false is lt differs)
  ]

  below_after : (z now y : List ℕ) (k : ℕ) → AreLawful jumps z → AreBelow jumps z → AreSafe jumps y → k < length jumps →
      (size_at now k ≡ size_at z k) ⊎ ((is_allowed jumps z k ≡ false) × (size_at now k ≡ 2 * size_at z k)) → size_at now k ≤ size_at y k
  below_after z now y k is below safe lt how = elim how [
    | inl same ↦ omega (arith, same, below y safe k lt)
    | inr (differs, twice_so) ↦ let own = below_step jumps are z y k false is below safe lt differs in omega (arith, twice_so, own)
  ]

  far_after : (z now : List ℕ) (k : ℕ) → size_at z k ≡ 8 → (size_at now k ≡ size_at z k) ⊎ ((is_allowed jumps z k ≡ false) × (size_at now k ≡ 2 * size_at z k)) → size_at now k ≡ 8
  far_after z now k eight how = elim how [
    | inl same ↦ same ∙ eight
    | inr (differs, twice_so) ↦ absurd (small_if jumps are z k differs eight)
  ]

  raised_stepped : (z now : List ℕ) → AreRaised jumps z → AreStepped z now → AreRaised jumps now
  raised_stepped z now is step = record {
    lawful = record { count = step.count ∙ is.lawful.count; each = λ k lt. lawful_after z now k is.lawful lt (step.each k lt) };
    below = λ y safe k lt. below_after z now y k is.lawful is.below safe lt (step.each k lt);
    far = λ k lt far. far_after z now k (is.far k lt far) (step.each k lt);
  }

  late_is : (z : List ℕ) (o : Open) → o.jump ≡ jump_at jumps o.call → is_late z o ≡ not (is_allowed jumps z o.call)
  unfolding is_late
  late_is z o same = ap (λ (j : Jump). not (allows (size_at z o.call) j.forwards (jump_bytes z j))) same

  twice_is : (s : ℕ) → s ≤ 8 → twice s ≡ 2 * s
  twice_is s few = omega (arith, few)

  one_open : (z now : List ℕ) (o : Open) (b : Bool) → AreLawful jumps z → o.call < length jumps → o.jump ≡ jump_at jumps o.call → is_late z o ≡ b → AreStepped z now →
      AreStepped z (if b then set now o.call (twice (size_at z o.call)) else now)
  one_open z now o false is lt same late step = step
  one_open z now o true is lt same late step =
      let s = twice (size_at z o.call) in
      let within : o.call < length now = omega (arith, lt, step.count, is.count) in
      let differs : is_allowed jumps z o.call ≡ false = not-true (is_allowed jumps z o.call) (sym (late_is z o same) ∙ late) in
      record {
        count = length-set now o.call s ∙ step.count;
        each = λ k less. elim (cases_eq k o.call) [
          | inl here ↦
              let at : size_at (set now o.call s) k ≡ 2 * size_at z k =
              ap (size_at (set now o.call s)) here ∙ get_or-set_same now o.call s 8 within ∙ twice_is (size_at z o.call) (lawful_most jumps z o.call is lt) ∙ ap (λ m. 2 * size_at z m) (sym here) in
              inr (ap (is_allowed jumps z) here ∙ differs, at)
          | inr other ↦
              let at : size_at (set now o.call s) k ≡ size_at now k = get_or-set_other now o.call k s 8 other in
              elim (step.each k less) [
                | inl kept ↦ inl (at ∙ kept)
                | inr (not_so, twice_so) ↦ inr (not_so, at ∙ twice_so)
              ]
        ];
      }

  all_open : (z now : List ℕ) (os : List Open) → AreLawful jumps z → All (λ o. (o.call < length jumps) × (o.jump ≡ jump_at jumps o.call)) os → AreStepped z now → AreStepped z (raised_from z os now)
  all_open z now [] is each step = step
  all_open z now (o ∷ os) is each step =
      let own = each 0 o (omega arith) in
      all_open z (if is_late z o then set now o.call (twice (size_at z o.call)) else now) os is (λ k d lt. each (suc k) d (omega (arith, lt))) (one_open z now o (is_late z o) is own.0 own.1 refl step)

  -- after a round
  pub raised_round : (z : List ℕ) (os : List Open) → All (λ o. (o.call < length jumps) × (o.jump ≡ jump_at jumps o.call)) os → AreRaised jumps z → AreRaised jumps (raised_from z os z)
  raised_round z os each is = raised_stepped z (raised_from z os z) is (all_open z z os is.lawful each (record { count = refl; each = λ k lt. inl refl }))

  -- once no open call is late
  none_late : (z : List ℕ) (os : List Open) → All (λ o. (o.call < length jumps) × (o.jump ≡ jump_at jumps o.call)) os → list_any (is_late z) os ≡ false → list_any (λ (o : Open). not (is_allowed jumps z o.call)) os ≡ false
  none_late z [] each none = refl
  none_late z (o ∷ os) each none =
      let parts = or_parts (is_late z o) (list_any (is_late z) os) none in
      ap (λ b. b || list_any (λ (o : Open). not (is_allowed jumps z o.call)) os) (sym (late_is z o (each 0 o (omega arith)).1) ∙ parts.0)
      ∙ none_late z os (λ k d lt. each (suc k) d (omega (arith, lt))) parts.1

  all_allowed : (z : List ℕ) (os : List Open) (first : List ℕ) (k : ℕ) → IsBanded jumps os first → AreRaised jumps z → list_any (is_late z) os ≡ false → k < length jumps → is_allowed jumps z k ≡ true
  all_allowed z os first k banded is none lt =
      let j = jump_at jumps k in
      elim (cases_Bool (is_near j)) [
        | inl near ↦ near_allowed z k is.lawful lt near
        | inr not_near ↦ elim (cases_Bool (is_far j)) [
          | inl far ↦ ap (λ s. allows s j.forwards (jump_bytes z j)) (is.far k lt far) ∙ eight_allows j.forwards (jump_bytes z j)
          | inr not_far ↦
              let open_so : is_open j ≡ true = and_from (not (is_near j)) (not (is_far j)) (not_from_false (is_near j) not_near) (not_from_false (is_far j) not_far) in
              not-false (is_allowed jumps z k) (banded.all (λ c. not (is_allowed jumps z c)) (none_late z os banded.each none) k lt open_so)
        ]
      ]

  pub safe_after : (z : List ℕ) (os : List Open) (first : List ℕ) → IsBanded jumps os first → AreRaised jumps z → list_any (is_late z) os ≡ false → AreSafe jumps z
  safe_after z os first banded is none = record { lawful = is.lawful; allowed = λ k lt. all_allowed z os first k banded is none lt }

-- a round keeps how many sizes there are
pub length_raised : (z : List ℕ) (os : List Open) (now : List ℕ) → length (raised_from z os now) ≡ length now
length_raised z [] now = refl
length_raised z (o ∷ os) now = length_raised z os (if is_late z o then set now o.call (twice (size_at z o.call)) else now) ∙ one (is_late z o)
  where
    one : (b : Bool) → length (if b then set now o.call (twice (size_at z o.call)) else now) ≡ length now
    one true = length-set now o.call (twice (size_at z o.call))
    one false = refl
