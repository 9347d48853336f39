-- What cuts lose before an offset, cut by cut: calls by their sizes, and alignments more the further on.
use Rattle.std.proofs.Common.{◌≡◌, ◌≢◌, ℕ, zero, suc, ◌+◌, ◌-◌, ◌<◌, ◌≤◌, ◌&&◌, ◌||◌, ◌⊎◌, Bool, true, false, if◌then◌else◌, cond, Option, List, [], ◌∷◌, ◌++◌, length, map, flat_map, get_or, min, refl, sym, ap, ◌∙◌, subst, arith, inl, inr, append_assoc, append-nil, nat_lt}
use Rattle.std.specs.Prelude.{All}
use Rattle.std.specs.List.{filter, range_with_len, sum_by}
use Rattle.std.proofs.lemmas.Bool.Decides.{nat_tests}
use Rattle.std.proofs.lemmas.Grind.{flat_map-append}
use Rattle.std.proofs.Math.Seq.{get_or-append_seam}
use Rattle.std.proofs.lemmas.List.{get_or_append_left, length-append}
use Rattle.std.proofs.lemmas.List.Elements.{All-nil, All-head, All-tail, All-cons}
use Rattle.std.proofs.lemmas.List.Sums.{sum_by-cons}
use Rattle.lk_base.proofs.Loops.{range_more}
use Rattle.lk_tables.specs.declared.objects.Reloc.{Reloc}
use Rattle.lk_tables.specs.Binding.{Bindings}
use Rattle.lk_tables.specs.Files.{File, no_reloc}
use Rattle.lk_tables.specs.Relocations.{is_alignment, place_width}
use Rattle.lk_tables.specs.Sites.{relocs_of}
use Rattle.link_sections.specs.Calls.{is_call}
use Rattle.link_sections.specs.Cuts.{AreApart, Cut, kept_before, new_offset, whole_before}
use Rattle.link_sections.specs.PoolViews.{Merged}
use Rattle.layout.specs.Cutting.{kept_at, laid_cut, laid_cuts, needed}
use Rattle.layout.proofs.CutsPassed.{AreFrom, apart_from}
use Rattle.layout.proofs.LaidCuts.{laid_are, laid_rest}
use Rattle.layout.proofs.RelocsLie.{low_from}
use Rattle.relax.specs.declared.calls.Call.{Call}
use Rattle.output_sections.specs.declared.rows.Row.{Row}
use Rattle.relax.specs.CallSizes.{call_at, cut_of, cuts_by, first_call, is_cut, reloc_of, row_at, size_in, sized, upper_offset}
use Rattle.relax.specs.Jumps.{size_at}
use Rattle.relax.specs.Placing.{IsOneSize}
use Rattle.relax.specs.Points.{Follow}
use Rattle.relax.specs.Sizes.{has_nops}
use Rattle.relax.proofs.CutSteps.{size_found, size_none}
use Rattle.relax.proofs.Fitting.{call_plain, call_width}
use Rattle.relax.proofs.RowFacts.{call_one}

abbrev pub loses : (o : ℕ) → Cut → ℕ
loses o c = min (o - c.at) c.whole - min (o - c.at) c.kept

abbrev pub lost : List Cut → (o : ℕ) → ℕ
lost cuts o = sum_by (loses o) cuts

-- those of calls, and those of alignments
abbrev pub call_loss : (o : ℕ) → Cut → ℕ
call_loss o c = if c.is_align then 0 else loses o c

abbrev pub align_loss : (o : ℕ) → Cut → ℕ
align_loss o c = if c.is_align then loses o c else 0

wholes_are : (cuts : List Cut) (o : ℕ) → All (λ c. c.kept ≤ c.whole) cuts → whole_before cuts o ≡ kept_before cuts o + lost cuts o
wholes_are [] o most = refl
wholes_are (c ∷ cs) o most =
    omega (
      arith,
      sum_by-cons (λ (x : Cut). min (o - x.at) x.whole) c cs,
      sum_by-cons (λ (x : Cut). min (o - x.at) x.kept) c cs,
      sum_by-cons (loses o) c cs,
      All-head (λ (x : Cut). x.kept ≤ x.whole) c cs most,
      wholes_are cs o (All-tail (λ (x : Cut). x.kept ≤ x.whole) c cs most),
    )

-- an offset is its new one and what is lost before it
pub offset_from : (cuts : List Cut) (o : ℕ) → All (λ c. c.kept ≤ c.whole) cuts → AreFrom 0 cuts → new_offset cuts o + lost cuts o ≡ o
unfolding new_offset
offset_from cuts o most from = omega (arith, wholes_are cuts o most, low_from 0 o cuts from)

pub offset_apart : (cuts : List Cut) (o : ℕ) → AreApart cuts → new_offset cuts o + lost cuts o ≡ o
offset_apart cuts o apart = offset_from cuts o apart.kept (apart_from cuts apart)

-- the same of calls that follow one another
sized_from : (z : List ℕ) (m from size : ℕ) (row : List Call) → Follow from size row → AreFrom from (sized z m row)
sized_from z m from size [] is = tt
sized_from z m from size (c ∷ cs) is = (is.0, sized_from z (m + 1) (c.offset + 8) size cs is.2)

sized_most : (z : List ℕ) (m : ℕ) (row : List Call) → ((k : ℕ) → size_at z k ≤ 8) → All (λ c. c.kept ≤ c.whole) (sized z m row)
sized_most z m [] few = All-nil (λ (c : Cut). c.kept ≤ c.whole)
sized_most z m (c ∷ cs) few =
    All-cons (λ (x : Cut). x.kept ≤ x.whole) (record { at = c.offset; whole = 8; kept = size_at z m; is_align = false }) (sized z (m + 1) cs) (few m) (sized_most z (m + 1) cs few)

pub offset_sized : (z : List ℕ) (m size o : ℕ) (row : List Call) → Follow 0 size row → ((k : ℕ) → size_at z k ≤ 8) → new_offset (sized z m row) o + lost (sized z m row) o ≡ o
offset_sized z m size o row is few = offset_from (sized z m row) o (sized_most z m row few) (sized_from z m 0 size row is)

-- calls and alignments apart
one_or_other : (b : Bool) (x : ℕ) → x ≡ (if b then 0 else x) + (if b then x else 0)
one_or_other true x = omega arith
one_or_other false x = omega arith

pub both_losses : (cuts : List Cut) (o : ℕ) → lost cuts o ≡ sum_by (call_loss o) cuts + sum_by (align_loss o) cuts
both_losses [] o = refl
both_losses (c ∷ cs) o =
    omega (
      arith,
      sum_by-cons (loses o) c cs,
      sum_by-cons (call_loss o) c cs,
      sum_by-cons (align_loss o) c cs,
      one_or_other c.is_align (loses o c),
      both_losses cs o,
    )

-- where a section stands changes nothing of its calls
one_laid : (start o : ℕ) (before : List Cut) (c : Cut) → call_loss o (laid_cut start before c) ≡ call_loss o c
unfolding laid_cut kept_at
one_laid start o before c = by c.is_align (needed (start + new_offset before c.at) c.whole)
  where
    by : (b : Bool) (need : ℕ) → (if b then 0 else min (o - c.at) c.whole - min (o - c.at) (if b then need else c.kept)) ≡ (if b then 0 else loses o c)
    by true need = refl
    by false need = refl

rest_laid : (start o : ℕ) (before cuts : List Cut) → sum_by (call_loss o) (laid_rest start before cuts) ≡ sum_by (call_loss o) cuts
rest_laid start o before [] = refl
rest_laid start o before (c ∷ cs) =
    omega (
      arith,
      sum_by-cons (call_loss o) (laid_cut start before c) (laid_rest start (before ++ laid_cut start before c ∷ []) cs),
      sum_by-cons (call_loss o) c cs,
      one_laid start o before c,
      rest_laid start o (before ++ laid_cut start before c ∷ []) cs,
    )

pub calls_laid : (start o : ℕ) (cuts : List Cut) → sum_by (call_loss o) (laid_cuts start cuts) ≡ sum_by (call_loss o) cuts
calls_laid start o cuts = ap (sum_by (call_loss o)) (laid_are start cuts) ∙ rest_laid start o [] cuts

-- alignments lose no less before a later offset
one_rises : (b : Bool) (c : Cut) (x y : ℕ) → c.kept ≤ c.whole → x ≤ y → (if b then loses x c else 0) ≤ (if b then loses y c else 0)
one_rises true c x y most le = omega (arith, most, le)
one_rises false c x y most le = omega arith

pub aligns_rise : (cuts : List Cut) (x y : ℕ) → All (λ c. c.kept ≤ c.whole) cuts → x ≤ y → sum_by (align_loss x) cuts ≤ sum_by (align_loss y) cuts
aligns_rise [] x y most le = omega arith
aligns_rise (c ∷ cs) x y most le =
    omega (
      arith,
      sum_by-cons (align_loss x) c cs,
      sum_by-cons (align_loss y) c cs,
      one_rises c.is_align c x y (All-head (λ (k : Cut). k.kept ≤ k.whole) c cs most) le,
      aligns_rise cs x y (All-tail (λ (k : Cut). k.kept ≤ k.whole) c cs most) le,
    )

-- what relocation k loses as a call of this size
abbrev pub term : (sizes : ℕ → ℕ) → List Reloc → (o k : ℕ) → ℕ
term sizes relocs o k =
    let r = get_or relocs k no_reloc in
    if is_call r.kind then min (o - r.offset) 8 - min (o - r.offset) (sizes k) else 0

-- a sum over those that pass
sum_kept : {X Y : Type 0} (f : Y → ℕ) (g : X → Y) (p : X → Bool) (xs : List X) → sum_by f (map g (filter p xs)) ≡ sum_by (λ x. if p x then f (g x) else 0) xs
sum_kept f g p [] = refl
sum_kept f g p (x ∷ xs) = by (p x) (sum_kept f g p xs) ∙ sym (sum_by-cons (λ y. if p y then f (g y) else 0) x xs)
  where
    by : (b : Bool) → sum_by f (map g (filter p xs)) ≡ sum_by (λ y. if p y then f (g y) else 0) xs
        → sum_by f (map g (cond b (x ∷ filter p xs) (filter p xs))) ≡ (if b then f (g x) else 0) + sum_by (λ y. if p y then f (g y) else 0) xs
    by true rest = sum_by-cons f (g x) (map g (filter p xs)) ∙ ap (λ n. f (g x) + n) rest
    by false rest = omega (arith, rest)

sum_same : {X : Type 0} (f g : X → ℕ) (xs : List X) → ((x : X) → f x ≡ g x) → sum_by f xs ≡ sum_by g xs
sum_same f g [] same = refl
sum_same f g (x ∷ xs) same = omega (arith, sum_by-cons f x xs, sum_by-cons g x xs, same x, sum_same f g xs same)

few_sizes : (s : ℕ) → IsOneSize s → s ≤ 8
few_sizes s one = elim one [ inl two ↦ omega (arith, two) | inr more ↦ elim more [ inl four ↦ omega (arith, four) | inr eight ↦ omega (arith, eight) ] ]

one_term : (size o : ℕ) (r : Reloc) → IsOneSize size
    → (if is_cut size r then call_loss o (cut_of size r) else 0) ≡ (if is_call r.kind then min (o - r.offset) 8 - min (o - r.offset) size else 0)
unfolding is_cut cut_of has_nops
one_term size o r one = by (is_call r.kind) refl (is_alignment r) refl (nat_lt 0 (place_width r)) (nat_lt size 8) refl
  where
    by : (c : Bool) → is_call r.kind ≡ c → (a : Bool) → is_alignment r ≡ a → (s l : Bool) → nat_lt size 8 ≡ l →
        (if (a && s) || (c && l) then (if a then 0 else min (o - r.offset) (place_width r) - min (o - r.offset) (if a then place_width r else size)) else 0)
        ≡ (if c then min (o - r.offset) 8 - min (o - r.offset) size else 0)
    by true call true align s l less = let wrong : true ≡ false = sym align ∙ call_plain r call in cc
    by false call true align true l less = refl
    by false call true align false l less = refl
    by false call false align s l less = refl
    by true call false align s true less = let wide = call_width r call in rw wide refl
    by true call false align s false less =
        let high : 8 ≤ size = grind (arith, nat_tests, less) in
        omega (arith, high, few_sizes size one)

-- the calls of a section lose what its relocations lose as calls
pub cut_terms : (sizes : ℕ → ℕ) (relocs : List Reloc) (o : ℕ) → ((k : ℕ) → IsOneSize (sizes k))
    → sum_by (call_loss o) (cuts_by sizes relocs) ≡ sum_by (term sizes relocs o) (range_with_len 0 (length relocs))
cut_terms sizes relocs o one =
    let r : ℕ → Reloc = λ k. get_or relocs k no_reloc in
    let all = range_with_len 0 (length relocs) in
    sum_kept (call_loss o) (λ k. cut_of (sizes k) (r k)) (λ k. is_cut (sizes k) (r k)) all
    ∙ sum_same (λ k. if is_cut (sizes k) (r k) then call_loss o (cut_of (sizes k) (r k)) else 0) (term sizes relocs o) all (λ k. one_term (sizes k) o (r k) (one k))

-- the calls of a row, one relocation after the other
module _ (files : List File) (b : Bindings) (merged : List (Option Merged)) (leaders : List (Option ℕ)) (ms : List Row) (rows : List (List Call)) (z : List ℕ) (i n : ℕ)
    (row_is : row_at rows i ≡ flat_map (call_at files b merged leaders ms i n) (range_with_len 0 (length (relocs_of files n)))) where
  abbrev relocs : List Reloc
  relocs = relocs_of files n

  abbrev calls : ℕ → List Call
  calls k = call_at files b merged leaders ms i n k

  abbrev done : ℕ → List Call
  done a = flat_map calls (range_with_len 0 a)

  abbrev later : ℕ → ℕ → List Call
  later a m = flat_map calls (range_with_len a m)

  done_more : (a : ℕ) → done (a + 1) ≡ done a ++ calls a
  done_more a =
      ap (flat_map calls) (range_more a) ∙ flat_map-append calls (range_with_len 0 a) (a ∷ []) ∙ ap (λ l. done a ++ l) (append-nil (calls a))

  below : (a m : ℕ) → All (λ c. c.reloc < a + m) (later a m)
  below a zero = All-nil (λ (c : Call). c.reloc < a + zero)
  below a (suc m) =
      let e : (a + 1) + m ≡ a + suc m = omega arith in
      let rest : All (λ c. c.reloc < a + suc m) (later (a + 1) m) = λ k d lt. omega (arith, below (a + 1) m k d lt) in
      elim (call_one files b merged leaders ms i n a) [
        | inl none ↦ subst (λ l. All (λ (c : Call). c.reloc < a + suc m) (l ++ later (a + 1) m)) (sym none) rest
        | inr (c, one, site) ↦
            let own = site.reloc in
            subst (λ l. All (λ (c : Call). c.reloc < a + suc m) (l ++ later (a + 1) m)) (sym one)
            (All-cons (λ (x : Call). x.reloc < a + suc m) c (later (a + 1) m) (omega (arith, own)) rest)
      ]

  other : (a m k : ℕ) → (k < a) ⊎ (calls k ≡ []) → All (λ c. c.reloc ≢ k) (later a m)
  other a zero k is = All-nil (λ (c : Call). c.reloc ≢ k)
  other a (suc m) k is =
      let rest : All (λ c. c.reloc ≢ k) (later (a + 1) m) = other (a + 1) m k (elim is [ inl low ↦ inl (omega (arith, low)) | inr none ↦ inr none ]) in
      elim (call_one files b merged leaders ms i n a) [
        | inl none ↦ subst (λ l. All (λ (c : Call). c.reloc ≢ k) (l ++ later (a + 1) m)) (sym none) rest
        | inr (c, one, site) ↦
            let own = site.reloc in
            subst (λ l. All (λ (c : Call). c.reloc ≢ k) (l ++ later (a + 1) m)) (sym one)
            (All-cons (λ (x : Call). x.reloc ≢ k) c (later (a + 1) m) (λ same. elim is [
              | inl low ↦ omega (arith, own, same, low)
              | inr none ↦ nothing (sym one ∙ ap calls (sym own ∙ same) ∙ none)
            ]) rest)
      ]
    where
      nothing : {c : Call} → c ∷ [] ≡ [] → ⊥
      nothing e = cc

  abbrev sizes : ℕ → ℕ
  sizes k = size_in rows z i k

  -- a relocation that is no call has eight bytes
  none_here : (a : ℕ) → calls a ≡ [] → sizes a ≡ 8
  none_here a none =
      let all : All (λ c. c.reloc ≢ a) (row_at rows i) = subst (λ l. All (λ (c : Call). c.reloc ≢ a) l) (sym row_is) (other 0 (length relocs) a (inr none)) in
      sym (size_none rows z i a all)

  done_later : (a m : ℕ) → done a ++ later a m ≡ done (a + m)
  done_later a zero = let e : a ≡ a + 0 = omega arith in append-nil (done a) ∙ ap done e
  done_later a (suc m) =
      let e : (a + 1) + m ≡ a + suc m = omega arith in
      sym (append_assoc (done a) (calls a) (later (a + 1) m)) ∙ ap (λ l. l ++ later (a + 1) m) (sym (done_more a)) ∙ done_later (a + 1) m ∙ ap done e

  -- one that is a call has its own size
  call_here : (a m : ℕ) (c : Call) → a + suc m ≡ length relocs → calls a ≡ c ∷ [] → c.reloc ≡ a → size_at z (first_call rows i + length (done a)) ≡ sizes a
  call_here a m c e one own =
      let split : row_at rows i ≡ done a ++ (c ∷ later (a + 1) m) =
      row_is ∙ ap done (sym e) ∙ sym (done_later a (suc m)) ∙ ap (λ l. done a ++ (l ++ later (a + 1) m)) one in
      let at : get_or (row_at rows i) (length (done a)) c ≡ c = ap (λ l. get_or l (length (done a)) c) split ∙ get_or-append_seam (done a) c (later (a + 1) m) c in
      let long = ap length split ∙ length-append (done a) (c ∷ later (a + 1) m) in
      size_found rows z i a (length (done a)) c (omega (arith, long))
      (λ m2 d lt.
      let low = below 0 a m2 d lt in
      let same = ap (λ (l : List Call). (get_or l m2 d).reloc) split ∙ ap (λ (x : Call). x.reloc) (get_or_append_left (done a) (c ∷ later (a + 1) m) d m2 lt) in
      omega (arith, low, same))
      (ap (λ (x : Call). x.reloc) at ∙ own)

  none_term : (a o : ℕ) → sizes a ≡ 8 → term sizes relocs o a ≡ 0
  none_term a o eight = by (is_call (get_or relocs a no_reloc).kind)
    where
      by : (b : Bool) → (if b then min (o - (get_or relocs a no_reloc).offset) 8 - min (o - (get_or relocs a no_reloc).offset) (sizes a) else 0) ≡ 0
      by true = omega (arith, eight)
      by false = refl

  -- the calls from relocation a on lose what these relocations lose
  pub row_terms : (o a m : ℕ) → a + m ≡ length relocs → lost (sized z (first_call rows i + length (done a)) (later a m)) o ≡ sum_by (term sizes relocs o) (range_with_len a m)
  row_terms o a zero e = refl
  row_terms o a (suc m) e =
      let rest = row_terms o (a + 1) m (omega (arith, e)) in
      let sum = sum_by-cons (term sizes relocs o) a (range_with_len (a + 1) m) in
      let long = ap length (done_more a) ∙ length-append (done a) (calls a) in
      elim (call_one files b merged leaders ms i n a) [
        | inl none ↦
            let zero_is = none_term a o (none_here a none) in
            let same : length (done a) ≡ length (done (a + 1)) = omega (arith, long, ap length none) in
            let list : later a (suc m) ≡ later (a + 1) m = ap (λ l. l ++ later (a + 1) m) none in
            let front : lost (sized z (first_call rows i + length (done a)) (later a (suc m))) o ≡ lost (sized z (first_call rows i + length (done (a + 1))) (later (a + 1) m)) o =
            ap (λ l. lost (sized z (first_call rows i + length (done a)) l) o) list ∙ ap (λ k. lost (sized z (first_call rows i + k) (later (a + 1) m)) o) same in
            omega (arith, front, rest, sum, zero_is)
        | inr (c, one, site) ↦
            let f : ℕ = first_call rows i + length (done a) in
            let size = call_here a m c e one site.reloc in
            let next : f + 1 ≡ first_call rows i + length (done (a + 1)) = omega (arith, long, ap length one) in
            let list : later a (suc m) ≡ c ∷ later (a + 1) m = ap (λ l. l ++ later (a + 1) m) one in
            let cut : Cut = record { at = c.offset; whole = 8; kept = size_at z f; is_align = false } in
            let front : lost (sized z f (later a (suc m))) o ≡ loses o cut + lost (sized z (f + 1) (later (a + 1) m)) o =
            ap (λ l. lost (sized z f l) o) list ∙ sum_by-cons (loses o) cut (sized z (f + 1) (later (a + 1) m)) in
            let back : lost (sized z (f + 1) (later (a + 1) m)) o ≡ lost (sized z (first_call rows i + length (done (a + 1))) (later (a + 1) m)) o =
            ap (λ k. lost (sized z k (later (a + 1) m)) o) next in
            let r : Reloc = reloc_of files n a in
            let own : term sizes relocs o a ≡ min (o - r.offset) 8 - min (o - r.offset) (sizes a) =
            ap (λ t. if t then min (o - r.offset) 8 - min (o - r.offset) (sizes a) else 0) site.call in
            omega (arith, front, back, rest, sum, own, size, site.offset)
      ]

  -- what the calls of a section lose
  abbrev pub calls_lost : (o : ℕ) → ℕ
  calls_lost o = sum_by (term (size_in rows z i) (relocs_of files n) o) (range_with_len 0 (length (relocs_of files n)))

  pub row_lost : (o : ℕ) → lost (sized z (first_call rows i) (row_at rows i)) o ≡ calls_lost o
  row_lost o =
      let e : first_call rows i ≡ first_call rows i + 0 = omega arith in
      ap (λ l. lost (sized z (first_call rows i) l) o) row_is ∙ ap (λ k. lost (sized z k (done (length relocs))) o) e ∙ row_terms o 0 (length relocs) (omega arith)

  -- offsets of the section as it is laid, and at most
  module _ (start size : ℕ) (one : (k : ℕ) → IsOneSize (size_in rows z i k)) (few : (k : ℕ) → size_at z k ≤ 8) (follow : Follow 0 size (row_at rows i))
      (apart : AreApart (laid_cuts start (cuts_by (size_in rows z i) (relocs_of files n)))) where
    abbrev pub laid : List Cut
    laid = laid_cuts start (cuts_by (size_in rows z i) (relocs_of files n))

    pub laid_offset : (o : ℕ) → new_offset laid o + (calls_lost o + sum_by (align_loss o) laid) ≡ o
    laid_offset o =
        let plain = cuts_by (size_in rows z i) (relocs_of files n) in
        omega (
          arith,
          offset_apart laid o apart,
          both_losses laid o,
          calls_laid start o plain,
          cut_terms (size_in rows z i) (relocs_of files n) o one,
        )

    pub upper_is : (o : ℕ) → upper_offset ms rows z i o + calls_lost o ≡ o
    unfolding upper_offset
    upper_is o = omega (arith, offset_sized z (first_call rows i) size o (row_at rows i) follow few, row_lost o)

    -- the bytes between two offsets are at most those between the upper ones, and an offset is at most the upper one
    pub nearer : (x y : ℕ) → x ≤ y → new_offset laid y + upper_offset ms rows z i x ≤ new_offset laid x + upper_offset ms rows z i y
    nearer x y le = omega (arith, laid_offset x, laid_offset y, upper_is x, upper_is y, aligns_rise laid x y apart.kept le)

    pub lower : (o : ℕ) → new_offset laid o ≤ upper_offset ms rows z i o
    lower o = omega (arith, laid_offset o, upper_is o)
