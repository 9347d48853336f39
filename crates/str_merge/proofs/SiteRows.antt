-- The list of the sections that are merged: where each stands, and their order.
use Rattle.std.proofs.Common.{◌≡◌, ℕ, zero, suc, ◌+◌, ◌-◌, ◌<◌, ◌≤◌, Bool, true, false, cond, List, [], ◌∷◌, ◌++◌, length, map, get_or, refl, sym, ap, ◌∙◌, subst, arith, inl, inr}
use Rattle.std.specs.Prelude.{All, flat_map, if◌then◌else◌}
use Rattle.std.specs.List.{filter, range_with_len}
use Rattle.std.specs.List.Sorted.{IsStrictlyIncreasing}
use Rattle.std.proofs.Math.Seq.{get_or-append_seam}
use Rattle.std.proofs.lemmas.Bool.{cases_Bool}
use Rattle.std.proofs.lemmas.Grind.{flat_map-append}
use Rattle.std.proofs.lemmas.List.{get_or-append-add, get_or_append_left, length-append, length-map}
use Rattle.lk_tables.specs.Files.{File, file_at, first_section, section_count, section_total}
use Rattle.lk_tables.proofs.FirstNumbers.{section_more}
use Rattle.name_numbers.proofs.Walks.{all_range}
use Rattle.link_sections.specs.Merging.{Site, is_merge, no_site, site, site_at, sites, sites_in}
use Rattle.str_merge.specs.Spreading.{sites_before, sites_upto}
use Rattle.str_merge.proofs.Ranking.{range_split}

-- the row of one number among those of a range
rows_split : {X : Type 0} (row : ℕ → List X) (k n : ℕ) → k < n →
    flat_map row (range_with_len 0 n) ≡ flat_map row (range_with_len 0 k) ++ (row k ++ flat_map row (range_with_len (k + 1) (n - (k + 1))))
rows_split row k n lt = ap (flat_map row) (range_split k n lt) ∙ flat_map-append row (range_with_len 0 k) (k ∷ range_with_len (k + 1) (n - (k + 1)))

one_site : (files : List File) (kept : List Bool) (f k : ℕ) → is_merge files kept f k ≡ true → site_at files kept f k ≡ site files kept f k ∷ []
unfolding site_at
one_site files kept f k is = ap (λ b. if b then site files kept f k ∷ [] else []) is

inner : (files : List File) (kept : List Bool) (f k : ℕ) → k < section_count (file_at files f) → is_merge files kept f k ≡ true →
    sites_in files kept f ≡ flat_map (site_at files kept f) (range_with_len 0 k)
    ++ (site files kept f k ∷ flat_map (site_at files kept f) (range_with_len (k + 1) (section_count (file_at files f) - (k + 1))))
unfolding sites_in
inner files kept f k lt is =
    let rest = flat_map (site_at files kept f) (range_with_len (k + 1) (section_count (file_at files f) - (k + 1))) in
    rows_split (site_at files kept f) k (section_count (file_at files f)) lt
    ∙ ap (λ l. flat_map (site_at files kept f) (range_with_len 0 k) ++ (l ++ rest)) (one_site files kept f k is)

outer : (files : List File) (kept : List Bool) (f : ℕ) → f < length files →
    sites files kept ≡ flat_map (sites_in files kept) (range_with_len 0 f) ++ (sites_in files kept f ++ flat_map (sites_in files kept) (range_with_len (f + 1) (length files - (f + 1))))
unfolding sites
outer files kept f lt = rows_split (sites_in files kept) f (length files) lt

-- the section that is merged stands after those before it
pub site_found : (files : List File) (kept : List Bool) (f k : ℕ) → f < length files → k < section_count (file_at files f) → is_merge files kept f k ≡ true →
    (sites_upto files kept f k < length (sites files kept)) × (get_or (sites files kept) (sites_upto files kept f k) no_site ≡ site files kept f k)
unfolding sites_upto sites_before
site_found files kept f k less lt is =
    let s = site files kept f k in
    let before = flat_map (sites_in files kept) (range_with_len 0 f) in
    let after = flat_map (sites_in files kept) (range_with_len (f + 1) (length files - (f + 1))) in
    let own = flat_map (site_at files kept f) (range_with_len 0 k) in
    let rest = flat_map (site_at files kept f) (range_with_len (k + 1) (section_count (file_at files f) - (k + 1))) in
    let all : sites files kept ≡ before ++ ((own ++ (s ∷ rest)) ++ after) = outer files kept f less ∙ ap (λ l. before ++ (l ++ after)) (inner files kept f k lt is) in
    let long = ap length all in (
      omega (arith, long, length-append before ((own ++ (s ∷ rest)) ++ after), length-append (own ++ (s ∷ rest)) after, length-append own (s ∷ rest)),
      ap (λ l. get_or l (length before + length own) no_site) all
          ∙ get_or-append-add before ((own ++ (s ∷ rest)) ++ after) (length own) no_site
          ∙ get_or_append_left (own ++ (s ∷ rest)) after no_site (length own) (omega (arith, length-append own (s ∷ rest)))
          ∙ get_or-append_seam own s rest no_site,
    )

-- sections from one number on and below another, in order
abbrev pub Rise : (low high : ℕ) → List Site → Type 0
Rise low high [] = low ≤ high
Rise low high (s ∷ ss) = (low ≤ s.section) × Rise (s.section + 1) high ss

rise_from : (lower low high : ℕ) (ss : List Site) → lower ≤ low → Rise low high ss → Rise lower high ss
rise_from lower low high [] le held = omega arith
rise_from lower low high (s ∷ ss) le held = let own = held.0 in (omega (arith, own), held.1)

rise_append : (low middle high : ℕ) (ss ts : List Site) → Rise low middle ss → Rise middle high ts → Rise low high (ss ++ ts)
rise_append low middle high [] ts held more = rise_from low middle high ts held more
rise_append low middle high (s ∷ ss) ts held more = (held.0, rise_append (s.section + 1) middle high ss ts held.1 more)

rise_rows : (row : ℕ → List Site) (starts : ℕ → ℕ) (a n : ℕ) → ((k : ℕ) → a ≤ k → k < a + n → Rise (starts k) (starts (k + 1)) (row k)) → Rise (starts a) (starts (a + n)) (flat_map row (range_with_len a n))
rise_rows row starts a zero each = let same : a + 0 ≡ a = omega arith in omega (arith, ap starts same)
rise_rows row starts a (suc n) each =
    let P : ℕ → Type 0 = λ m. Rise (starts (a + 1)) (starts m) (flat_map row (range_with_len (a + 1) n)) in
    let same : (a + 1) + n ≡ a + suc n = omega arith in
    rise_append (starts a) (starts (a + 1)) (starts (a + suc n)) (row a) (flat_map row (range_with_len (a + 1) n)) (each a (omega arith) (omega arith))
    (subst P same (rise_rows row starts (a + 1) n (λ k low high. each k (omega arith) (omega arith))))

rise_one : (files : List File) (kept : List Bool) (f k : ℕ) → Rise (first_section files f + k) (first_section files f + (k + 1)) (site_at files kept f k)
unfolding site_at
rise_one files kept f k = by_case (is_merge files kept f k)
  where
    by_case : (b : Bool) → Rise (first_section files f + k) (first_section files f + (k + 1)) (if b then site files kept f k ∷ [] else [])
    by_case true = (omega arith, omega arith)
    by_case false = omega arith

rise_file : (files : List File) (kept : List Bool) (f : ℕ) → f < length files → Rise (first_section files f) (first_section files (f + 1)) (sites_in files kept f)
unfolding sites_in
rise_file files kept f lt =
    let n = section_count (file_at files f) in
    let from : first_section files f + 0 ≡ first_section files f = omega arith in
    let to : first_section files f + (0 + n) ≡ first_section files (f + 1) = omega (arith, section_more files f lt) in
    let list = flat_map (site_at files kept f) (range_with_len 0 n) in
    let P : ℕ → Type 0 = λ low. Rise low (first_section files (f + 1)) list in
    let Q : ℕ → Type 0 = λ high. Rise (first_section files f + 0) high list in
    subst P from (subst Q to (rise_rows (site_at files kept f) (λ k. first_section files f + k) 0 n (λ k low high. rise_one files kept f k)))

pub sites_rise : (files : List File) (kept : List Bool) → Rise (first_section files 0) (first_section files (0 + length files)) (sites files kept)
unfolding sites
sites_rise files kept = rise_rows (sites_in files kept) (first_section files) 0 (length files) (λ f low high. rise_file files kept f (omega arith))

-- there are no more of them than numbers
rise_count : (low high : ℕ) (ss : List Site) → Rise low high ss → low + length ss ≤ high
rise_count low high [] le = omega (arith, le)
rise_count low high (s ∷ ss) held = let own = held.0 in let more = rise_count (s.section + 1) high ss held.1 in omega (arith, own, more)

pub sites_most : (files : List File) (kept : List Bool) → length (sites files kept) ≤ section_total files
sites_most files kept =
    let all : 0 + length files ≡ length files = omega arith in
    omega (arith, rise_count (first_section files 0) (first_section files (0 + length files)) (sites files kept) (sites_rise files kept), ap (first_section files) all)

pub upto_most : (files : List File) (kept : List Bool) (f k : ℕ) → f < length files → sites_upto files kept f k ≤ first_section files f + k
unfolding sites_upto sites_before
upto_most files kept f k lt =
    let before = flat_map (sites_in files kept) (range_with_len 0 f) in
    let own = flat_map (site_at files kept f) (range_with_len 0 k) in
    let all : 0 + f ≡ f = omega arith in
    let rows = rise_count (first_section files 0) (first_section files (0 + f)) before
    (rise_rows (sites_in files kept) (first_section files) 0 f (λ g low high. rise_file files kept g (omega (arith, lt)))) in
    let row = rise_count (first_section files f + 0) (first_section files f + (0 + k)) own
    (rise_rows (site_at files kept f) (λ j. first_section files f + j) 0 k (λ j low high. rise_one files kept f j)) in
    omega (arith, rows, row, ap (first_section files) all)

-- some of them, by place
rise_filter : (at : ℕ → Site) (t : ℕ → Bool) (low high : ℕ) (ks : List ℕ) → Rise low high (map at ks) → Rise low high (map at (filter t ks))
rise_filter at t low high [] held = held
rise_filter at t low high (k ∷ ks) held =
    let own = held.0 in
    let later = rise_filter at t ((at k).section + 1) high ks held.1 in
    elim (cases_Bool (t k)) [
      | inl keeps ↦
          let P : Bool → Type 0 = λ b. Rise low high (map at (cond b (k ∷ filter t ks) (filter t ks))) in
          let here : P true = (own, later) in
          subst P (sym keeps) here
      | inr drops ↦
          let P : Bool → Type 0 = λ b. Rise low high (map at (cond b (k ∷ filter t ks) (filter t ks))) in
          let here : P false = rise_from low ((at k).section + 1) high (map at (filter t ks)) (omega (arith, own)) later in
          subst P (sym drops) here
    ]

pub filtered_rise : (at : ℕ → Site) (t : ℕ → Bool) (low high n : ℕ) → Rise low high (map at (range_with_len 0 n)) → Rise low high (map at (filter t (range_with_len 0 n)))
filtered_rise at t low high n held = rise_filter at t low high (range_with_len 0 n) held

low_sections : (low high : ℕ) (ss : List Site) → Rise low high ss → 0 < length ss → low ≤ get_or (map (λ (s : Site). s.section) ss) 0 0
low_sections low high [] held some = absurd (omega arith)
low_sections low high (s ∷ ss) held some = held.0

pub increasing : (low high : ℕ) (ss : List Site) → Rise low high ss → IsStrictlyIncreasing (map (λ (s : Site). s.section) ss)
increasing low high [] held = λ k lt. absurd (omega arith)
increasing low high (s ∷ ss) held = next s ss (low_sections (s.section + 1) high ss held.1) (increasing (s.section + 1) high ss held.1)
  where
    next : (s : Site) (ss : List Site) → (0 < length ss → s.section + 1 ≤ get_or (map (λ (s : Site). s.section) ss) 0 0) → IsStrictlyIncreasing (map (λ (s : Site). s.section) ss) →
        (k : ℕ) → k + 1 < length (map (λ (s : Site). s.section) (s ∷ ss)) →
        get_or (map (λ (s : Site). s.section) (s ∷ ss)) k 0 < get_or (map (λ (s : Site). s.section) (s ∷ ss)) (k + 1) 0
    next s ss low later zero lt = let first = low (omega (arith, length-map ss (λ (s : Site). s.section))) in omega (arith, first)
    next s ss low later (suc k) lt =
        let list = map (λ (s : Site). s.section) ss in
        let one : suc (k + 1) ≡ suc k + 1 = omega arith in
        let P : ℕ → Type 0 = λ m. get_or list k 0 < get_or (s.section ∷ list) m 0 in
        subst P one (later k (omega arith))

-- each of them is of a file that is there
file_of_site : (files : List File) (kept : List Bool) (f k : ℕ) → All (λ (s : Site). s.file ≡ f) (site_at files kept f k)
unfolding site_at
file_of_site files kept f k = by_case (is_merge files kept f k)
  where
    by_case : (b : Bool) → All (λ (s : Site). s.file ≡ f) (if b then site files kept f k ∷ [] else [])
    by_case true = λ i d lt. one i d lt
      where
        one : (i : ℕ) (d : Site) → i < 1 → (get_or (site files kept f k ∷ []) i d).file ≡ f
        one zero d lt = refl
        one (suc i) d lt = absurd (omega arith)
    by_case false = λ i d lt. absurd (omega arith)

pub sites_of_files : (files : List File) (kept : List Bool) → All (λ (s : Site). s.file < length files) (sites files kept)
unfolding sites sites_in
sites_of_files files kept =
    all_range (λ (s : Site). s.file < length files) (sites_in files kept) 0 (length files)
    (λ f low high. all_range (λ (s : Site). s.file < length files) (site_at files kept f) 0 (section_count (file_at files f))
    (λ k from to i d lt. let own = file_of_site files kept f k i d lt in omega (arith, own)))
