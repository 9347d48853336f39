-- CIEs by their first use: which of them says the same as one, and what one more leaves.
use Rattle.std.proofs.Common.{◌≡◌, ℕ, zero, suc, ◌+◌, ◌<◌, Bool, true, false, ◌||◌, not, cond, List, [], ◌∷◌, ◌++◌, length, map, get_or, refl, sym, ap, ◌∙◌, arith, eqb, inl, inr, subst, append_assoc, append-nil}
use Rattle.std.specs.List.{AllPairs, list_any, position_or_len}
use Rattle.std.proofs.lemmas.Bool.{cases_lt, cond-true, cond-false, eq-eqb, false≢true, ne_eqb, or_left}
use Rattle.std.proofs.lemmas.List.{get_or_append_left, get_or_push, length_push}
use Rattle.std.proofs.lemmas.List.Folds.{list_any-append, list_any_at, position_or_len_push}
use Rattle.std.proofs.lemmas.List.Quantifiers.{all_pairs_push}
use Rattle.std.proofs.lemmas.List.Sums.{fails_before_first, passes_at_first, prefix_len-le-length}
use Rattle.lk_tables.specs.declared.records.FrameNo.{FrameNo}
use Rattle.lk_tables.specs.Frames.{frame_no}
use Rattle.eh_frame.specs.Plan.{CieKey, first_cies, is_alike, use_of, with_cie}
use Rattle.eh_frame.specs.Uses.{IsUse}
use Rattle.eh_frame.proofs.CieKeys.{cie_Decides}

abbrev none : FrameNo
none = frame_no 0 0

skip : (a b : Bool) → a ≡ false → (a || b) ≡ true → b ≡ true
skip true b e any = absurd cc
skip false b e any = any

none_any : (p : FrameNo → Bool) (xs : List FrameNo) → ((k : ℕ) → k < length xs → p (get_or xs k none) ≡ false) → list_any p xs ≡ true → ⊥
none_any p [] fails any = false≢true any
none_any p (x ∷ xs) fails any =
    none_any p xs (λ k lt. fails (suc k) (omega (arith, lt))) (skip (p x) (list_any p xs) (fails 0 (omega arith)) any)

-- a test that an element passes is met before the end
pub found_first : (p : FrameNo → Bool) (xs : List FrameNo) → list_any p xs ≡ true → position_or_len p xs < length xs
found_first p xs any =
    elim (cases_lt (position_or_len p xs) (length xs)) [
      | inl lt ↦ lt
      | inr le ↦ absurd (none_any p xs (λ k less. fails_before_first p xs k none (omega (arith, le, less))) any)
    ]

first_found : (p : FrameNo → Bool) (xs : List FrameNo) → position_or_len p xs < length xs → list_any p xs ≡ true
first_found p xs lt = list_any_at p xs (position_or_len p xs) none lt (passes_at_first p xs none lt)

not_found : (p : FrameNo → Bool) (xs : List FrameNo) → list_any p xs ≡ false → position_or_len p xs ≡ length xs
not_found p xs fails =
    elim (cases_lt (position_or_len p xs) (length xs)) [
      | inl lt ↦ absurd (false≢true (sym fails ∙ first_found p xs lt))
      | inr le ↦ omega (arith, le, prefix_len-le-length (λ (x : FrameNo). not (p x)) xs)
    ]

map_same : (f g : FrameNo → ℕ) (xs : List FrameNo) → ((k : ℕ) → k < length xs → f (get_or xs k none) ≡ g (get_or xs k none)) → map f xs ≡ map g xs
map_same f g [] same = refl
map_same f g (x ∷ xs) same =
    ap (λ n. n ∷ map f xs) (same 0 (omega arith)) ∙ ap (λ l. g x ∷ l) (map_same f g xs (λ k lt. same (suc k) (omega (arith, lt))))

module _ (key : FrameNo → CieKey) where
  pub own_alike : (cie : FrameNo) → is_alike key cie cie ≡ true
  own_alike cie = (cie_Decides (key cie) (key cie)).1 refl

  -- one more CIE, by whether one that says the same is known
  own_use : (cies : List FrameNo) (cie : FrameNo) (t : Bool) → list_any (is_alike key cie) cies ≡ t → IsUse key (cond t cies (cies ++ (cie ∷ []))) cie (use_of key cies cie)
  own_use cies cie true any = record { is = refl; within = found_first (is_alike key cie) cies any }
  own_use cies cie false any =
      let p = is_alike key cie in
      let end = not_found p cies any in
      let here : length cies + cond (p cie) 0 1 ≡ length cies + 0 = ap (λ b. length cies + cond b 0 1) (own_alike cie) in
      record {
        is = position_or_len_push p cies cie ∙ cond-true (eqb (position_or_len p cies) (length cies)) (length cies + cond (p cie) 0 1) (position_or_len p cies) (eq-eqb (position_or_len p cies) (length cies) end)
            ∙ omega (arith, here, end);
        within = omega (arith, end, length_push cies cie);
      }

  pub use_own : (cies : List FrameNo) (cie : FrameNo) → IsUse key (with_cie key cies cie) cie (use_of key cies cie)
  use_own cies cie = own_use cies cie (list_any (is_alike key cie) cies) refl

  kept_use : (cies : List FrameNo) (cie known : FrameNo) (n : ℕ) (t : Bool) → IsUse key cies known n → IsUse key (cond t cies (cies ++ (cie ∷ []))) known n
  kept_use cies cie known n true u = u
  kept_use cies cie known n false u =
      let p = is_alike key known in
      let is = u.is in
      let within = u.within in
      let low : position_or_len p cies < length cies = omega (arith, is, within) in
      record {
        is = position_or_len_push p cies cie
            ∙ cond-false (eqb (position_or_len p cies) (length cies)) (length cies + cond (p cie) 0 1) (position_or_len p cies)
            (ne_eqb (position_or_len p cies) (length cies) (λ e. absurd (omega (arith, low, e))))
            ∙ is;
        within = omega (arith, within, length_push cies cie);
      }

  pub use_stays : (cies : List FrameNo) (cie known : FrameNo) (n : ℕ) → IsUse key cies known n → IsUse key (with_cie key cies cie) known n
  use_stays cies cie known n u = kept_use cies cie known n (list_any (is_alike key cie) cies) u

  -- a CIE that is known is no other one
  pub with_known : (cies : List FrameNo) (cie : FrameNo) (n : ℕ) → IsUse key cies cie n → with_cie key cies cie ≡ cies
  with_known cies cie n u =
      let is = u.is in
      let within = u.within in
      let low : use_of key cies cie < length cies = omega (arith, is, within) in
      cond-true (list_any (is_alike key cie) cies) cies (cies ++ (cie ∷ [])) (first_found (is_alike key cie) cies low)

  pub first_more : (known cies : List FrameNo) (cie : FrameNo) → first_cies key known (cies ++ (cie ∷ [])) ≡ with_cie key (first_cies key known cies) cie
  first_more known [] cie = refl
  first_more known (c ∷ cies) cie = first_more (with_cie key known c) cies cie

  -- what is known stays
  any_with : (p : FrameNo → Bool) (cies : List FrameNo) (cie : FrameNo) (t : Bool) → list_any p cies ≡ true → list_any p (cond t cies (cies ++ (cie ∷ []))) ≡ true
  any_with p cies cie true any = any
  any_with p cies cie false any = list_any-append p cies (cie ∷ []) ∙ or_left (list_any p cies) (list_any p (cie ∷ [])) any

  stays : (p : FrameNo → Bool) (known cies : List FrameNo) → list_any p known ≡ true → list_any p (first_cies key known cies) ≡ true
  stays p known [] any = any
  stays p known (cie ∷ cies) any = stays p (with_cie key known cie) cies (any_with p known cie (list_any (is_alike key cie) known) any)

  -- each CIE has one that says the same among the first
  pub has_first : (known cies : List FrameNo) (k : ℕ) → k < length cies → list_any (is_alike key (get_or cies k none)) (first_cies key known cies) ≡ true
  has_first known [] k lt = absurd (omega (arith, lt))
  has_first known (cie ∷ cies) zero lt =
      let u = use_own known cie in
      let is = u.is in
      let within = u.within in
      let low : position_or_len (is_alike key cie) (with_cie key known cie) < length (with_cie key known cie) = omega (arith, is, within) in
      stays (is_alike key cie) (with_cie key known cie) cies (first_found (is_alike key cie) (with_cie key known cie) low)
  has_first known (cie ∷ cies) (suc k) lt = has_first (with_cie key known cie) cies k (omega (arith, lt))

  -- no two of the first say the same
  abbrev pub AreApart : List FrameNo → Type 0
  AreApart cies = AllPairs (λ (c d : FrameNo). key c ≡ key d → ⊥) cies

  apart_with : (cies : List FrameNo) (cie : FrameNo) (t : Bool) → list_any (is_alike key cie) cies ≡ t → AreApart cies → AreApart (cond t cies (cies ++ (cie ∷ [])))
  apart_with cies cie true any apart = apart
  apart_with cies cie false any apart =
      all_pairs_push (λ (c d : FrameNo). key c ≡ key d → ⊥) cies cie apart (λ k d lt same.
      false≢true (sym any ∙ list_any_at (is_alike key cie) cies k d lt ((cie_Decides (key (get_or cies k d)) (key cie)).1 same)))

  pub first_apart : (known cies : List FrameNo) → AreApart known → AreApart (first_cies key known cies)
  first_apart known [] apart = apart
  first_apart known (cie ∷ cies) apart =
      first_apart (with_cie key known cie) cies (apart_with known cie (list_any (is_alike key cie) known) refl apart)

  -- the uses of some FDEs, whose CIEs are known, once there is one CIE more
  pub uses_stay : (cie_of : FrameNo → FrameNo) (fdes : List FrameNo) (cies : List FrameNo) (cie : FrameNo) →
      ((k : ℕ) → k < length fdes → list_any (is_alike key (cie_of (get_or fdes k none))) cies ≡ true) →
      map (λ (fde : FrameNo). use_of key cies (cie_of fde)) fdes ≡ map (λ (fde : FrameNo). use_of key (with_cie key cies cie) (cie_of fde)) fdes
  uses_stay cie_of fdes cies cie known =
      map_same (λ (fde : FrameNo). use_of key cies (cie_of fde)) (λ (fde : FrameNo). use_of key (with_cie key cies cie) (cie_of fde)) fdes (λ k lt.
      let own = cie_of (get_or fdes k none) in
      let u : IsUse key cies own (use_of key cies own) = record { is = refl; within = found_first (is_alike key own) cies (known k lt) } in
      sym (use_stays cies cie own (use_of key cies own) u).is)

  -- by their first use: of the CIEs of some uses, each of the known ones is that of the first use that says the same, before which all say the same as
  -- those that are known before it
  pub record IsFirst (done known : List FrameNo) (j : ℕ) : Type 0 where
    pub at : ℕ
    pub among : at < length done
    pub is : get_or known j none ≡ get_or done at none
    pub own : use_of key known (get_or done at none) ≡ j
    pub before : (i : ℕ) → i < at → use_of key known (get_or done i none) < j

  abbrev pub EachFirst : (done known : List FrameNo) → Type 0
  EachFirst done known = (j : ℕ) → j < length known → IsFirst done known j

  abbrev AllKnown : (done known : List FrameNo) → Type 0
  AllKnown done known = (i : ℕ) → i < length done → use_of key known (get_or done i none) < length known

  use_low : (cies : List FrameNo) (cie : FrameNo) (n : ℕ) → IsUse key cies cie n → use_of key cies cie < length cies
  use_low cies cie n u = let is = u.is in let within = u.within in omega (arith, is, within)

  known_with : (done known : List FrameNo) (c : FrameNo) (t : Bool) → list_any (is_alike key c) known ≡ t → AllKnown done known → AllKnown (done ++ (c ∷ [])) (cond t known (known ++ (c ∷ [])))
  known_with done known c t any all = λ i lt.
      let more : List FrameNo = cond t known (known ++ (c ∷ [])) in
      let P : FrameNo → Type 0 = λ y. use_of key more y < length more in
      elim (cases_lt i (length done)) [
        | inl low ↦
            let x = get_or done i none in
            subst P (sym (get_or_append_left done (c ∷ []) none i low))
            (use_low more x (use_of key known x) (kept_use known c x (use_of key known x) t (record { is = refl; within = all i low })))
        | inr le ↦
            subst P (sym (get_or_push done c none i (omega (arith, le, lt, length_push done c)))) (use_low more c (use_of key known c) (own_use known c t any))
      ]

  -- a use that is done is so with one CIE more
  done_with : (done known : List FrameNo) (c : FrameNo) (t : Bool) → AllKnown done known → (i : ℕ) → i < length done
      → use_of key (cond t known (known ++ (c ∷ []))) (get_or (done ++ (c ∷ [])) i none) ≡ use_of key known (get_or done i none)
  done_with done known c t all i low =
      let x = get_or done i none in
      ap (use_of key (cond t known (known ++ (c ∷ [])))) (get_or_append_left done (c ∷ []) none i low)
      ∙ (kept_use known c x (use_of key known x) t (record { is = refl; within = all i low })).is

  known_at : (known : List FrameNo) (c : FrameNo) (t : Bool) (j : ℕ) → j < length known → get_or (cond t known (known ++ (c ∷ []))) j none ≡ get_or known j none
  known_at known c true j low = refl
  known_at known c false j low = get_or_append_left known (c ∷ []) none j low

  kept_first : (done known : List FrameNo) (c : FrameNo) (t : Bool) → AllKnown done known → (j : ℕ) → j < length known → IsFirst done known j
      → IsFirst (done ++ (c ∷ [])) (cond t known (known ++ (c ∷ []))) j
  kept_first done known c t all j low f =
      let among = f.among in
      record {
        at = f.at;
        among = omega (arith, among, length_push done c);
        is = known_at known c t j low ∙ f.is ∙ sym (get_or_append_left done (c ∷ []) none f.at among);
        own = done_with done known c t all f.at among ∙ f.own;
        before = λ i lt.
            let same = done_with done known c t all i (omega (arith, lt, among)) in
            let less = f.before i lt in
            omega (arith, same, less);
      }

  first_with : (done known : List FrameNo) (c : FrameNo) (t : Bool) → list_any (is_alike key c) known ≡ t → AllKnown done known → EachFirst done known
      → EachFirst (done ++ (c ∷ [])) (cond t known (known ++ (c ∷ [])))
  first_with done known c true any all each = λ j lt. kept_first done known c true all j lt (each j lt)
  first_with done known c false any all each = λ j lt.
      elim (cases_lt j (length known)) [
        | inl low ↦ kept_first done known c false all j low (each j low)
        | inr le ↦
            let end : length known ≡ j = omega (arith, le, lt, length_push known c) in
            let here = get_or_push done c none (length done) refl in
            let new = not_found (is_alike key c) known any in
            record {
              at = length done;
              among = omega (arith, length_push done c);
              is = get_or_push known c none j end ∙ sym here;
              own = ap (use_of key (known ++ (c ∷ []))) here ∙ (own_use known c false any).is ∙ new ∙ end;
              before = λ i low.
                  let same = done_with done known c false all i low in
                  let less = all i low in
                  omega (arith, same, less, end);
            }
      ]

  first_on : (done known cies : List FrameNo) → AllKnown done known → EachFirst done known → EachFirst (done ++ cies) (first_cies key known cies)
  first_on done known [] all each = subst (λ l. EachFirst l known) (sym (append-nil done)) each
  first_on done known (c ∷ cies) all each =
      let t = list_any (is_alike key c) known in
      subst (λ l. EachFirst l (first_cies key (with_cie key known c) cies)) (append_assoc done (c ∷ []) cies)
      (first_on (done ++ (c ∷ [])) (with_cie key known c) cies (known_with done known c t refl all) (first_with done known c t refl all each))

  pub each_first : (cies : List FrameNo) → EachFirst cies (first_cies key [] cies)
  each_first cies = first_on [] [] cies (λ i lt. absurd (omega (arith, lt))) (λ j lt. absurd (omega (arith, lt)))
