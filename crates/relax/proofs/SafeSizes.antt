-- Sizes that the jumps allow are safe, and the least of these are the least of each call.
use Rattle.std.proofs.Common.{◌≡◌, ℕ, suc, ◌<◌, ◌≤◌, ◌⊎◌, ◌==◌, ◌&&◌, ◌||◌, Bool, true, false, List, [], ◌∷◌, length, map, flat_map, get_or, refl, sym, ap, ◌∙◌, subst, arith, inl, inr}
use Rattle.std.specs.Prelude.{if◌then◌else◌, nat_le}
use Rattle.std.specs.List.{All, list_all, list_any, range_with_len}
use Rattle.std.proofs.lemmas.Bool.{and_from, and_parts, cases_lt, eq-eqb, eqb-true, false≢true, le-leb, leb-true, or_cases, or_right}
use Rattle.std.proofs.lemmas.List.{get_or-map, get_or_default, get_or_past, length-map}
use Rattle.std.proofs.lemmas.List.Elements.{All-map}
use Rattle.std.proofs.lemmas.List.Folds.{list_any-append}
use Rattle.std.proofs.lemmas.List.FromFn.{fill_by_all, get_or-range_with_len, length-range_with_len}
use Rattle.std.proofs.lemmas.List.Sums.{AllPass-from_list_all, list_all-from_AllPass}
use Rattle.relax.specs.declared.calls.Call.{Call}
use Rattle.relax.specs.declared.jumps.Jump.{Jump}
use Rattle.relax.specs.declared.jumps.Point.{Point}
use Rattle.output_sections.specs.declared.rows.Row.{Row}
use Rattle.relax.specs.CallSizes.{AreLeastSafe, all_assignments, all_calls, call_no, distance, fits, goes_forwards, is_possible, is_safe, is_size, least_size, least_sizes}
use Rattle.relax.specs.Jumps.{AreBelow, AreSafe, IsJump, allows, is_allowed, jump_at, jump_bytes, no_jump, size_at}
use Rattle.relax.specs.Placing.{IsOneSize}
use Rattle.relax.specs.Points.{AreSoundRows, IsLowJump, jump_of, jumps_in, point_at}
use Rattle.relax.proofs.LeastSizes.{lawful_most}
use Rattle.relax.proofs.PointSteps.{IsWithin, calls_within, distance_is, jump_ordered, point_within}

module _ (ms : List Row) (rows : List (List Call)) (sound : AreSoundRows ms rows) where
  abbrev jumps : List Jump
  jumps = jumps_in ms rows

  abbrev no_one : Call
  no_one = record { from = 0; offset = 0; reloc = 0; to = 0; target = 0; least = 4 }

  pub count_is : length (jumps_in ms rows) ≡ length (all_calls rows)
  unfolding jumps_in
  count_is = length-map (all_calls rows) (jump_of ms rows)

  within : (k : ℕ) → k < length (all_calls rows) → IsWithin (length ms) (call_no rows k)
  within k lt = calls_within ms rows sound k no_one lt

  pub jump_is : (k : ℕ) → k < length (all_calls rows) → jump_at jumps k ≡ jump_of ms rows (call_no rows k)
  unfolding jumps_in
  jump_is k lt = get_or-map (jump_of ms rows) (all_calls rows) k no_one no_jump lt

  forwards_is : (c : Call) → (jump_of ms rows c).forwards ≡ goes_forwards c
  unfolding jump_of
  forwards_is c = refl

  least_is : (c : Call) → (jump_of ms rows c).least ≡ c.least
  unfolding jump_of
  least_is c = refl

  jump_within : (c : Call) → IsWithin (length ms) c → (jump_of ms rows c).high.call ≤ length (all_calls rows)
  unfolding jump_of
  jump_within c is =
      by (point_at ms rows c.to c.target) (point_at ms rows c.from c.offset) (goes_forwards c) (point_within ms rows c.to c.target (omega (arith, is.to, sound.count))) (point_within ms rows c.from c.offset (omega (arith, is.from, sound.count)))
    where
      by : (x y : Point) (b : Bool) → x.call ≤ length (all_calls rows) → y.call ≤ length (all_calls rows) → (if b then x else y).call ≤ length (all_calls rows)
      by x y true one other = one
      by x y false one other = other

  pub jumps_are : All IsLowJump jumps → All (IsJump (length jumps)) jumps
  unfolding jumps_in
  jumps_are low =
      All-map (IsJump (length (map (jump_of ms rows) (all_calls rows)))) (jump_of ms rows) (all_calls rows) (λ k d lt.
      let c = get_or (all_calls rows) k d in
      let is = calls_within ms rows sound k d lt in
      let own : IsLowJump (jump_of ms rows c) = subst IsLowJump (get_or-map (jump_of ms rows) (all_calls rows) k d no_jump lt) (low k no_jump (omega (arith, lt, length-map (all_calls rows) (jump_of ms rows)))) in
      record {
        ordered = jump_ordered ms rows c;
        within = omega (arith, jump_within c is, length-map (all_calls rows) (jump_of ms rows));
        least = subst (λ s. (s ≡ 2) ⊎ (s ≡ 4)) (sym (least_is c)) is.least;
        low = own.0;
        high = own.1;
      })

  few_of : (z : List ℕ) → AreSafe jumps z → (k : ℕ) → size_at z k ≤ 8
  few_of z safe k = elim (cases_lt k (length jumps)) [
    | inl lt ↦ lawful_most jumps z k safe.lawful lt
    | inr past ↦ omega (arith, get_or_past z k 8 (omega (arith, past, safe.lawful.count)))
  ]

  one_size : (s : ℕ) → IsOneSize s → (s == 2 || (s == 4 || s == 8)) ≡ true
  one_size s one = elim one [
    | inl two ↦ ap (λ b. b || (s == 4 || s == 8)) (eq-eqb s 2 two)
    | inr more ↦ elim more [
      | inl four ↦ or_right (s == 2) (s == 4 || s == 8) (ap (λ b. b || s == 8) (eq-eqb s 4 four))
      | inr eight ↦ or_right (s == 2) (s == 4 || s == 8) (or_right (s == 4) (s == 8) (eq-eqb s 8 eight))
    ]
  ]

  size_one : (s : ℕ) → (s == 2 || (s == 4 || s == 8)) ≡ true → IsOneSize s
  size_one s is = elim (or_cases (s == 2) (s == 4 || s == 8) is) [
    | inl two ↦ inl (eqb-true s 2 two)
    | inr more ↦ elim (or_cases (s == 4) (s == 8) more) [ inl four ↦ inr (inl (eqb-true s 4 four)) | inr eight ↦ inr (inr (eqb-true s 8 eight)) ]
  ]

  -- whether call k fits, by its jump
  allowed_is : (z : List ℕ) (k : ℕ) → length z ≡ length (all_calls rows) → ((n : ℕ) → size_at z n ≤ 8) → k < length (all_calls rows) →
      allows (size_at z k) (goes_forwards (call_no rows k)) (distance ms rows z (call_no rows k)) ≡ is_allowed jumps z k
  allowed_is z k count few lt =
      let c = call_no rows k in
      let is = within k lt in
      ap (λ n. allows (size_at z k) (goes_forwards c) n) (distance_is ms rows z sound count few c is.from is.to)
      ∙ ap (λ b. allows (size_at z k) b (jump_bytes z (jump_of ms rows c))) (sym (forwards_is c))
      ∙ ap (λ (j : Jump). allows (size_at z k) j.forwards (jump_bytes z j)) (sym (jump_is k lt))

  least_at : (k : ℕ) → k < length (all_calls rows) → (jump_at jumps k).least ≡ (call_no rows k).least
  least_at k lt = ap (λ (j : Jump). j.least) (jump_is k lt) ∙ least_is (call_no rows k)

  pub safe_is : (z : List ℕ) → AreSafe jumps z → is_safe ms rows z ≡ true
  unfolding is_safe fits
  safe_is z safe =
      let count : length z ≡ length (all_calls rows) = safe.lawful.count ∙ count_is in
      and_from (length z == length (all_calls rows)) (list_all (fits ms rows z) (range_with_len 0 (length (all_calls rows)))) (eq-eqb (length z) (length (all_calls rows)) count)
      (list_all-from_AllPass (fits ms rows z) (range_with_len 0 (length (all_calls rows))) (λ i d less.
      let n = length-range_with_len 0 (length (all_calls rows)) in
      let at : get_or (range_with_len 0 (length (all_calls rows))) i d ≡ i = get_or-range_with_len 0 (length (all_calls rows)) i d (omega (arith, less, n)) ∙ omega arith in
      ap (fits ms rows z) at ∙ fits_at z i safe count (omega (arith, less, n))))
    where
      fits_at : (z : List ℕ) (k : ℕ) → AreSafe jumps z → length z ≡ length (all_calls rows) → k < length (all_calls rows) → fits ms rows z k ≡ true
      fits_at z k safe count lt =
          let own = safe.lawful.each k (omega (arith, lt, count_is)) in
          let low = own.0 in
          and_from (is_size (call_no rows k).least (size_at z k)) (allows (size_at z k) (goes_forwards (call_no rows k)) (distance ms rows z (call_no rows k)))
          (and_from (nat_le (call_no rows k).least (size_at z k)) (size_at z k == 2 || (size_at z k == 4 || size_at z k == 8))
          (le-leb (call_no rows k).least (size_at z k) (omega (arith, low, least_at k lt))) (one_size (size_at z k) own.1))
          (allowed_is z k count (few_of z safe) lt ∙ safe.allowed k (omega (arith, lt, count_is)))

  fit_at : (y : List ℕ) (k : ℕ) → list_all (fits ms rows y) (range_with_len 0 (length (all_calls rows))) ≡ true → k < length (all_calls rows) → fits ms rows y k ≡ true
  fit_at y k all lt =
      let n = length-range_with_len 0 (length (all_calls rows)) in
      let at : get_or (range_with_len 0 (length (all_calls rows))) k k ≡ k = get_or-range_with_len 0 (length (all_calls rows)) k k lt ∙ omega arith in
      ap (fits ms rows y) (sym at) ∙ AllPass-from_list_all (fits ms rows y) (range_with_len 0 (length (all_calls rows))) all k k (omega (arith, lt, n))

  pub safe_from : (y : List ℕ) → is_safe ms rows y ≡ true → AreSafe jumps y
  unfolding is_safe fits
  safe_from y is =
      let parts = and_parts (length y == length (all_calls rows)) (list_all (fits ms rows y) (range_with_len 0 (length (all_calls rows)))) is in
      let count : length y ≡ length (all_calls rows) = eqb-true (length y) (length (all_calls rows)) parts.0 in
      let sizes : (k : ℕ) → k < length (all_calls rows) → (nat_le (call_no rows k).least (size_at y k) ≡ true) × IsOneSize (size_at y k) =
      λ k lt.
      let own = and_parts (is_size (call_no rows k).least (size_at y k)) (allows (size_at y k) (goes_forwards (call_no rows k)) (distance ms rows y (call_no rows k))) (fit_at y k parts.1 lt) in
      let both = and_parts (nat_le (call_no rows k).least (size_at y k)) (size_at y k == 2 || (size_at y k == 4 || size_at y k == 8)) own.0 in
      (both.0, size_one (size_at y k) both.1) in
      let few : (n : ℕ) → size_at y n ≤ 8 = λ n. elim (cases_lt n (length (all_calls rows))) [
        | inl lt ↦ most (size_at y n) (sizes n lt).1
        | inr past ↦ omega (arith, get_or_past y n 8 (omega (arith, past, count)))
      ] in
      record {
        lawful = record {
          count = count ∙ sym count_is;
          each = λ k lt.
              let less : k < length (all_calls rows) = omega (arith, lt, count_is) in
              let own = sizes k less in
              (omega (arith, leb-true (call_no rows k).least (size_at y k) own.0, least_at k less), own.1);
        };
        allowed = λ k lt.
            let less : k < length (all_calls rows) = omega (arith, lt, count_is) in
            sym (allowed_is y k count few less)
            ∙ (and_parts (is_size (call_no rows k).least (size_at y k)) (allows (size_at y k) (goes_forwards (call_no rows k)) (distance ms rows y (call_no rows k))) (fit_at y k parts.1 less)).1;
      }
    where
      most : (s : ℕ) → IsOneSize s → s ≤ 8
      most s one = elim one [ inl two ↦ omega (arith, two) | inr more ↦ elim more [ inl four ↦ omega (arith, four) | inr eight ↦ omega (arith, eight) ] ]

  pub least_safe : (z : List ℕ) → AreSafe jumps z → AreBelow jumps z → AreLeastSafe ms rows z
  least_safe z safe below = record {
    safe = safe_is z safe;
    least = λ y is k lt. below y (safe_from y is) k (omega (arith, lt, count_is));
  }

  -- each list of sizes is one of all
  any_flat : {X Y : Type 0} (p : Y → Bool) (g : X → List Y) (xs : List X) → list_any p (flat_map g xs) ≡ list_any (λ x. list_any p (g x)) xs
  any_flat p g [] = refl
  any_flat p g (x ∷ xs) = list_any-append p (g x) (flat_map g xs) ∙ ap (λ b. list_any p (g x) || b) (any_flat p g xs)

  assigned : (p : List ℕ → Bool) (z : List ℕ) → All IsOneSize z → p z ≡ true → list_any p (all_assignments (length z)) ≡ true
  assigned p [] all passes = ap (λ b. b || false) passes
  assigned p (s ∷ z) all passes =
      any_flat p (λ y. (2 ∷ y) ∷ ((4 ∷ y) ∷ ((8 ∷ y) ∷ []))) (all_assignments (length z))
      ∙ assigned (λ y. p (2 ∷ y) || (p (4 ∷ y) || (p (8 ∷ y) || false))) z (λ k d lt. all (suc k) d (omega (arith, lt))) (head_is s (all 0 s (omega arith)) passes)
    where
      head_is : (t : ℕ) → IsOneSize t → p (t ∷ z) ≡ true → (p (2 ∷ z) || (p (4 ∷ z) || (p (8 ∷ z) || false))) ≡ true
      head_is t one is = elim one [
        | inl two ↦ ap (λ b. b || (p (4 ∷ z) || (p (8 ∷ z) || false))) (ap (λ n. p (n ∷ z)) (sym two) ∙ is)
        | inr more ↦ elim more [
          | inl four ↦ or_right (p (2 ∷ z)) (p (4 ∷ z) || (p (8 ∷ z) || false)) (ap (λ b. b || (p (8 ∷ z) || false)) (ap (λ n. p (n ∷ z)) (sym four) ∙ is))
          | inr eight ↦ or_right (p (2 ∷ z)) (p (4 ∷ z) || (p (8 ∷ z) || false)) (or_right (p (4 ∷ z)) (p (8 ∷ z) || false) (ap (λ b. b || false) (ap (λ n. p (n ∷ z)) (sym eight) ∙ is)))
        ]
      ]

  some_passes : (Q : Type 0) (p : List ℕ → Bool) (ys : List (List ℕ)) → list_any p ys ≡ true → ((y : List ℕ) → p y ≡ true → Q) → Q
  some_passes Q p [] some each = absurd (false≢true some)
  some_passes Q p (y ∷ ys) some each = elim (or_cases (p y) (list_any p ys) some) [
    | inl here ↦ each y here
    | inr later ↦ some_passes Q p ys later each
  ]

  pub sizes_of : (z : List ℕ) → AreSafe jumps z → All IsOneSize z
  sizes_of z safe k d lt =
      let own = (safe.lawful.each k (omega (arith, lt, safe.lawful.count))).1 in
      subst IsOneSize (get_or_default z k 8 d lt) own

  -- so the least size of each call is that of the least sizes
  possible : (z : List ℕ) (k : ℕ) → AreSafe jumps z → is_possible ms rows k (size_at z k) ≡ true
  unfolding is_possible
  possible z k safe =
      let count : length z ≡ length (all_calls rows) = safe.lawful.count ∙ count_is in
      let p : List ℕ → Bool = λ y. is_safe ms rows y && size_at y k == size_at z k in
      ap (λ n. list_any p (all_assignments n)) (sym count)
      ∙ assigned p z (sizes_of z safe) (and_from (is_safe ms rows z) (size_at z k == size_at z k) (safe_is z safe) (eq-eqb (size_at z k) (size_at z k) refl))

  not_less : (z : List ℕ) (k s : ℕ) → AreBelow jumps z → k < length (all_calls rows) → is_possible ms rows k s ≡ true → size_at z k ≤ s
  unfolding is_possible
  not_less z k s below lt some =
      some_passes (size_at z k ≤ s) (λ y. is_safe ms rows y && size_at y k == s) (all_assignments (length (all_calls rows))) some (λ y is.
      let parts = and_parts (is_safe ms rows y) (size_at y k == s) is in
      let low = below y (safe_from y parts.0) k (omega (arith, lt, count_is)) in
      omega (arith, low, eqb-true (size_at y k) s parts.1))

  least_size_is : (z : List ℕ) (k : ℕ) → AreSafe jumps z → AreBelow jumps z → k < length (all_calls rows) → size_at z k ≡ least_size ms rows k
  unfolding least_size
  least_size_is z k safe below lt =
      by (size_at z k) (safe.lawful.each k (omega (arith, lt, count_is))).1 (possible z k safe) (λ s some. not_less z k s below lt some)
      (is_possible ms rows k 2) refl (is_possible ms rows k 4) refl
    where
      by : (t : ℕ) → IsOneSize t → is_possible ms rows k t ≡ true → ((s : ℕ) → is_possible ms rows k s ≡ true → t ≤ s) →
          (a : Bool) → is_possible ms rows k 2 ≡ a → (c : Bool) → is_possible ms rows k 4 ≡ c → t ≡ (if a then 2 else (if c then 4 else 8))
      by t one can low true a c d = elim one [
        | inl two ↦ two
        | inr more ↦ let most = low 2 a in elim more [ inl four ↦ absurd (omega (arith, most, four)) | inr eight ↦ absurd (omega (arith, most, eight)) ]
      ]
      by t one can low false a true c = elim one [
        | inl two ↦ absurd (false≢true (sym a ∙ ap (is_possible ms rows k) (sym two) ∙ can))
        | inr more ↦ let most = low 4 c in elim more [ inl four ↦ four | inr eight ↦ absurd (omega (arith, most, eight)) ]
      ]
      by t one can low false a false c = elim one [
        | inl two ↦ absurd (false≢true (sym a ∙ ap (is_possible ms rows k) (sym two) ∙ can))
        | inr more ↦ elim more [ inl four ↦ absurd (false≢true (sym c ∙ ap (is_possible ms rows k) (sym four) ∙ can)) | inr eight ↦ eight ]
      ]

  pub least_are : (z : List ℕ) → AreSafe jumps z → AreBelow jumps z → z ≡ least_sizes ms rows
  unfolding least_sizes
  least_are z safe below =
      fill_by_all (least_size ms rows) z (length (all_calls rows)) 8 (safe.lawful.count ∙ count_is) (λ k lt. least_size_is z k safe below lt)
