-- Relocations numbered over all sections, one section after the other, and the first defect of a run of them.
use Rattle.std.proofs.Common.{◌≡◌, ℕ, zero, suc, ◌+◌, ◌-◌, ◌<◌, ◌≤◌, Bool, true, false, if◌then◌else◌, List, [], ◌∷◌, ◌++◌, length, map, flat_map, get_or, slice_index, Option, take, min, max, refl, sym, ap, ◌∙◌, arith, inl, inr}
use Rattle.std.specs.List.{range_with_len}
use Rattle.std.proofs.lemmas.Grind.{flat_map-append}
use Rattle.std.proofs.lemmas.Bool.{cases_lt}
use Rattle.std.proofs.lemmas.List.{append-nil, get_or_past, length-append}
use Rattle.std.proofs.lemmas.List.Concat.{get_or-flat_map}
use Rattle.std.proofs.lemmas.List.FromFn.{get_or-map-range_with_len, length-map-range_with_len, length-range_with_len}
use Rattle.lk_base.specs.Firsts.{BeginsWith}
use Rattle.lk_base.specs.declared.defects.Defect.{Defect}
use Rattle.lk_base.proofs.Loops.{count_step, flat_same, flat_step}
use Rattle.lk_base.proofs.Ranges.{range_parts, range_read, take_range, two_parts}
use Rattle.lk_tables.specs.Binding.{Bindings}
use Rattle.lk_tables.specs.Files.{File, section_total}
use Rattle.lk_tables.specs.Sites.{relocs_of}
use Rattle.link_sections.specs.LaidOut.{LaidOut}
use Rattle.link_sections.specs.Leaders.{leads}
use Rattle.reloc_apply.specs.Relocated.{defects_at, relocation_defects, section_defects}

same_lengths : {X Y : Type 0} (f : ℕ → List X) (g : ℕ → List Y) (ks : List ℕ) → ((k : ℕ) → length (f k) ≡ length (g k)) → length (flat_map f ks) ≡ length (flat_map g ks)
same_lengths f g [] same = refl
same_lengths f g (k ∷ ks) same =
    length-append (f k) (flat_map f ks)
    ∙ ap (λ n. n + length (flat_map f ks)) (same k) ∙ ap (λ n. length (g k) + n) (same_lengths f g ks same)
    ∙ sym (length-append (g k) (flat_map g ks))

abbrev nothing : {X : Type 0} → X → List Defect
nothing x = []

none_given : {X : Type 0} (xs : List X) → flat_map (λ (x : X). nothing x) xs ≡ []
none_given [] = refl
none_given (x ∷ xs) = none_given xs

-- what is given only under a condition
pub given_if : {X : Type 0} (on : Bool) (f : X → List Defect) (xs : List X) → flat_map (λ x. if on then f x else []) xs ≡ if on then flat_map f xs else []
given_if true f xs = refl
given_if false f xs = none_given xs

-- what is given for each relocation of section n, by its place there
module _ {X : Type 0} (relocs : ℕ → List X) (give : (n x : ℕ) → List Defect) where
  abbrev row : ℕ → List (List Defect)
  row n = map (give n) (range_with_len 0 (length (relocs n)))

  -- of all sections before n
  abbrev rows : ℕ → List (List Defect)
  rows n = flat_map row (range_with_len 0 n)

  abbrev count : ℕ → ℕ
  count n = length (relocs n)

  -- how many come before those of section n
  abbrev pub first : ℕ → ℕ
  first n = length (flat_map relocs (range_with_len 0 n))

  -- what is given for the relocation of a number among all of so many sections
  abbrev pub given_at : (total : ℕ) → ℕ → List Defect
  given_at total i = get_or (rows total) i []

  abbrev of_section : ℕ → List Defect
  of_section n = flat_map (give n) (range_with_len 0 (count n))

  first_next : (n : ℕ) → first (n + 1) ≡ first n + count n
  first_next n = count_step relocs n

  first_row : (n : ℕ) → length (rows n) ≡ first n
  first_row n = same_lengths row relocs (range_with_len 0 n) (λ k. length-map-range_with_len (give k) 0 (length (relocs k)))

  read : (total n x : ℕ) → n < total → x < count n → given_at total (first n + x) ≡ give n x
  read total n x lt less =
      let range = range_with_len 0 total in
      let own : get_or range n n ≡ n = range_read total n n lt in
      let start : length (flat_map row (take n range)) ≡ first n = ap (λ l. length (flat_map row l)) (take_range total n (omega (arith, lt))) ∙ first_row n in
      ap (λ k. get_or (rows total) (k + x) []) (sym start)
      ∙ get_or-flat_map row range n x n [] (omega (arith, lt, length-range_with_len 0 total))
      (omega (arith, less, ap (λ k. length (row k)) own, length-map-range_with_len (give n) 0 (length (relocs n))))
      ∙ ap (λ k. get_or (row k) x []) own
      ∙ get_or-map-range_with_len (give n) 0 (length (relocs n)) x x [] less (omega arith)

  -- the things of section n from number x on
  part : (total n x k : ℕ) → n < total → ((j : ℕ) → x ≤ j → j < x + k → j < count n) →
      flat_map (given_at total) (range_with_len (first n + x) k) ≡ flat_map (give n) (range_with_len x k)
  part total n x zero lt within = refl
  part total n x (suc k) lt within =
      let e : first n + x + 1 ≡ first n + (x + 1) = omega arith in
      ap (λ l. l ++ flat_map (given_at total) (range_with_len (first n + x + 1) k)) (read total n x lt (within x (omega arith) (omega arith)))
      ∙ ap (λ i. give n x ++ flat_map (given_at total) (range_with_len i k)) e
      ∙ ap (λ l. give n x ++ l) (part total n (x + 1) k lt (λ j le less. within j (omega (arith, le)) (omega (arith, less))))

  -- those of the sections before m are what is given for these sections
  upto : (total m : ℕ) → m ≤ total → flat_map (given_at total) (range_with_len 0 (first m)) ≡ flat_map of_section (range_with_len 0 m)
  upto total zero le = refl
  upto total (suc m) le =
      let g = given_at total in
      let before = flat_map of_section (range_with_len 0 m) in
      let one : m + 1 ≡ suc m = omega arith in
      let more : first (suc m) ≡ first m + count m = ap first (sym one) ∙ first_next m in
      let from : 0 + first m ≡ first m + 0 = omega arith in
      ap (λ k. flat_map g (range_with_len 0 k)) more
      ∙ ap (flat_map g) (range_parts 0 (first m) (count m))
      ∙ flat_map-append g (range_with_len 0 (first m)) (range_with_len (0 + first m) (count m))
      ∙ ap (λ k. flat_map g (range_with_len 0 (first m)) ++ flat_map g (range_with_len k (count m))) from
      ∙ ap (λ l. flat_map g (range_with_len 0 (first m)) ++ l) (part total m 0 (count m) (omega (arith, le)) (λ j low less. omega (arith, less)))
      ∙ ap (λ l. l ++ of_section m) (upto total m (omega (arith, le)))
      ∙ flat_step of_section m before (before ++ of_section m) refl refl
      ∙ ap (λ k. flat_map of_section (range_with_len 0 k)) one

  -- past the last relocation nothing is given
  past_none : (total x k : ℕ) → first total ≤ x → flat_map (given_at total) (range_with_len x k) ≡ []
  past_none total x zero past = refl
  past_none total x (suc k) past =
      ap (λ l. l ++ flat_map (given_at total) (range_with_len (x + 1) k)) (get_or_past (rows total) x [] (omega (arith, past, first_row total)))
      ∙ past_none total (x + 1) k (omega (arith, past))

  pub all_sections : (whole : ℕ → List Defect) (total end : ℕ) → first total ≤ end → ((n : ℕ) → of_section n ≡ whole n) →
      flat_map (given_at total) (range_with_len 0 end) ≡ flat_map whole (range_with_len 0 total)
  all_sections whole total end past is =
      let g = given_at total in
      let size : end ≡ first total + (end - first total) = omega (arith, past) in
      ap (λ k. flat_map g (range_with_len 0 k)) size
      ∙ ap (flat_map g) (range_parts 0 (first total) (end - first total))
      ∙ flat_map-append g (range_with_len 0 (first total)) (range_with_len (0 + first total) (end - first total))
      ∙ ap (λ l. flat_map g (range_with_len 0 (first total)) ++ l) (past_none total (0 + first total) (end - first total) (omega arith))
      ∙ append-nil (flat_map g (range_with_len 0 (first total)))
      ∙ upto total total (omega arith)
      ∙ flat_same of_section whole (range_with_len 0 total) is

  -- the first number from a on and before b that is not of a section before n, and what is left from there on
  abbrev next : (a b n : ℕ) → ℕ
  next a b n = max a (min b (first n))

  abbrev pub left : (total a b n : ℕ) → List Defect
  left total a b n = flat_map (given_at total) (range_with_len (next a b n) (b - next a b n))

  -- what is given for those of section n
  abbrev pub here : (a b n : ℕ) → List Defect
  here a b n = flat_map (give n) (range_with_len (a - first n) (min (b - first n) (count n) - (a - first n)))

  -- the same by where the section's relocations begin, and by the first of them that counts
  pub here_is : (a b n from x : ℕ) → from ≡ first n → x ≡ a - from →
      flat_map (give n) (range_with_len x (min (b - from) (length (relocs n)) - x)) ≡ here a b n
  here_is a b n from x is at =
      ap (λ k. flat_map (give n) (range_with_len k (min (b - from) (count n) - k))) at
      ∙ ap (λ k. flat_map (give n) (range_with_len (a - k) (min (b - k) (count n) - (a - k)))) is

  two : (total a b n : ℕ) → n < total → a ≤ b → first n < b → left total a b n ≡ here a b n ++ left total a b (n + 1)
  two total a b n lt order low =
      let g = given_at total in
      let more = first_next n in
      let x = a - first n in
      let k = min (b - first n) (count n) - (a - first n) in
      let at : next a b n ≡ first n + x = omega (arith, low, order) in
      let size : next a b (n + 1) - next a b n ≡ k = omega (arith, low, order, more) in
      two_parts g (next a b n) (next a b (n + 1)) b (omega (arith, order, more)) (omega (arith, order))
      ∙ ap (λ i. flat_map g (range_with_len i (next a b (n + 1) - next a b n)) ++ left total a b (n + 1)) at
      ∙ ap (λ i. flat_map g (range_with_len (first n + x) i) ++ left total a b (n + 1)) size
      ∙ ap (λ l. l ++ left total a b (n + 1)) (part total n x k lt (λ j le less. omega (arith, le, less)))

  -- a walk over sections: it starts at one that does not start past a; a section has no defect; one has; it is past b
  pub walk_start : (total a b n : ℕ) → a ≤ b → first n ≤ a → left total a b n ≡ flat_map (given_at total) (range_with_len a (b - a))
  walk_start total a b n order low =
      let at : next a b n ≡ a = omega (arith, low, order) in
      ap (λ k. flat_map (given_at total) (range_with_len k (b - k))) at

  pub walk_next : (total a b n : ℕ) (whole : List Defect) → n < total → a ≤ b → first n < b → left total a b n ≡ whole → here a b n ≡ [] → left total a b (n + 1) ≡ whole
  walk_next total a b n whole lt order low held none =
      sym (two total a b n lt order low ∙ ap (λ l. l ++ left total a b (n + 1)) none) ∙ held

  pub walk_found : (total a b n : ℕ) (whole : List Defect) (e : Defect) → n < total → a ≤ b → first n < b → left total a b n ≡ whole → BeginsWith (here a b n) e → BeginsWith whole e
  walk_found total a b n whole e lt order low held begins = (
    begins.0 ++ left total a b (n + 1),
    sym held ∙ two total a b n lt order low ∙ ap (λ l. l ++ left total a b (n + 1)) begins.1,
  )

  pub walk_end : (total a b n : ℕ) (whole : List Defect) → a ≤ b → b ≤ first n → left total a b n ≡ whole → whole ≡ []
  walk_end total a b n whole order past held =
      let none : b - next a b n ≡ 0 = omega (arith, order, past) in
      sym held ∙ ap (λ k. flat_map (given_at total) (range_with_len (next a b n) k)) none

  -- it is past the last section
  pub walk_done : (total a b : ℕ) (whole : List Defect) → a ≤ b → left total a b total ≡ whole → whole ≡ []
  walk_done total a b whole order held = elim (cases_lt (first total) b) [
    | inl low ↦ sym held ∙ past_none total (next a b total) (b - next a b total) (omega (arith, low))
    | inr past ↦ walk_end total a b total whole order past held
  ]

-- the last of one number more than n
pub last_is : (numbers : List ℕ) (n total : ℕ) → length numbers ≡ n + 1 → slice_index numbers n ≡ total → slice_index numbers (length numbers - 1) ≡ total
last_is numbers n total count is = let e : length numbers - 1 ≡ n = omega (arith, count) in ap (λ k. slice_index numbers k) e ∙ is

module _ (files : List File) (b : Bindings) (leaders : List (Option ℕ)) (laid : LaidOut) where
  -- the defects of relocation k of section n, if that is its own leader
  abbrev pub own_defects : (n k : ℕ) → List Defect
  own_defects n k = if leads leaders n then defects_at files b leaders laid n k else []

  pub all_defects : (end : ℕ) → first (relocs_of files) own_defects (section_total files) ≤ end →
      flat_map (given_at (relocs_of files) own_defects (section_total files)) (range_with_len 0 end) ≡ relocation_defects files b leaders laid
  unfolding relocation_defects section_defects
  all_defects end past =
      all_sections (relocs_of files) own_defects (section_defects files b leaders laid) (section_total files) end past
      (λ n. given_if (leads leaders n) (defects_at files b leaders laid n) (range_with_len 0 (length (relocs_of files n))))
