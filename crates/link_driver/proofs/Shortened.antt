-- The call that a shortened relocation is, and what its size allows.
use Rattle.std.proofs.Common.{◌≡◌, ℕ, zero, suc, ◌+◌, ◌<◌, ◌==◌, ◌&&◌, ◌||◌, not, Bool, true, false, cond, if◌then◌else◌, Option, Some, None, List, [], ◌∷◌, ◌++◌, length, map, flat_map, find, get_or, refl, sym, ap, ◌∙◌, subst, arith, inl, inr, nat_lt}
use Rattle.std.specs.Prelude.{All, ℤ}
use Rattle.std.specs.Option.{option_map_or}
use Rattle.std.specs.List.{filter, list_all, position_or_len, range_with_len}
use Rattle.std.proofs.lemmas.Bool.{and_parts, cases_lt, eqb-true, false≢true, lt-ltb, le-ltb, ltb-true}
use Rattle.std.proofs.lemmas.List.{get_or_append_left, get_or-append-add, length-append}
use Rattle.std.proofs.lemmas.List.Elements.{All-nil, All-head, All-tail, All-cons}
use Rattle.std.proofs.lemmas.List.FromFn.{fill_by_all, get_or-map-range_with_len, get_or-range_with_len, length-range_with_len}
use Rattle.std.proofs.lemmas.List.Sums.{AllPass-from_list_all, passes_at_first}
use Rattle.lk_base.specs.RelocKinds.{moves_bytes}
use Rattle.lk_tables.specs.declared.objects.Reloc.{Reloc}
use Rattle.lk_tables.specs.declared.tables.Tables.{Tables}
use Rattle.lk_tables.specs.Binding.{Bindings}
use Rattle.lk_tables.specs.Files.{File, file_at, no_reloc, section_at, section_total}
use Rattle.lk_tables.specs.Relocations.{is_alignment, place_width}
use Rattle.lk_tables.specs.Sections.{contents_of}
use Rattle.lk_tables.specs.Sites.{place_of, relocs_of}
use Rattle.lk_tables.specs.TablesView.{files_of}
use Rattle.link_sections.specs.declared.targets.Target.{Target}
use Rattle.link_sections.specs.declared.targets.Target.TheVariants as targets
use Rattle.link_sections.specs.Calls.{call_size, is_call, is_call_cut}
use Rattle.link_sections.specs.Cuts.{Cut}
use Rattle.link_sections.specs.Leaders.{leader_at}
use Rattle.link_sections.specs.PieceTargets.{target_at}
use Rattle.link_sections.specs.PoolViews.{Merged}
use Rattle.layout.specs.Cutting.{kept_at, laid_cut, laid_cuts}
use Rattle.layout.proofs.LaidHold.{laid_hold}
use Rattle.relax.specs.declared.calls.Call.{Call}
use Rattle.output_sections.specs.declared.rows.Row.{Row}
use Rattle.output_sections.specs.Order.{is_section, own_section}
use Rattle.relax.specs.CallSizes.{all_calls, all_cuts, call_at, call_no, call_of, call_rows, calls_in, calls_of, cut_of, cuts_by, distance, first_call, fits, goes_forwards, is_candidate, is_cut, is_near, is_plain, is_safe, is_size, lands, least_of, bytes_at, file_of, member_at, place_in, reaches, reloc_of, row_at, size_in}
use Rattle.relax.specs.Jumps.{allows, size_at}
use Rattle.relax.specs.Sizes.{has_nops}
use Rattle.relax.proofs.Fitting.{bytes_if, call_kind, call_width, end_is, sound_of}
use Rattle.relax.proofs.RowFacts.{call_one}

-- the relocation that a cut is, if it is a call
pub record IsCallCut (sizes : ℕ → ℕ) (relocs : List Reloc) (c : Cut) : Type 0 where
  pub reloc : ℕ
  pub low : reloc < length relocs
  pub at : c.at ≡ (get_or relocs reloc no_reloc).offset
  pub call : is_call (get_or relocs reloc no_reloc).kind ≡ true
  pub kept : c.kept ≡ sizes reloc
  pub small : sizes reloc < 8

abbrev MayBeCall : (ℕ → ℕ) → List Reloc → Cut → Type 0
MayBeCall sizes relocs c = c.is_align ≡ false → IsCallCut sizes relocs c

pub all_kept : {X Y : Type 0} (P : X → Type 0) (Q : Y → Type 0) (f : X → Y) (p : X → Bool) (xs : List X) → ((x : X) → P x → p x ≡ true → Q (f x)) → All P xs → All Q (map f (filter p xs))
all_kept P Q f p [] each all = All-nil Q
all_kept P Q f p (x ∷ xs) each all = by (p x) refl (all_kept P Q f p xs each (All-tail P x xs all))
  where
    by : (t : Bool) → p x ≡ t → All Q (map f (filter p xs)) → All Q (map f (cond t (x ∷ filter p xs) (filter p xs)))
    by true is rest = All-cons Q (f x) (map f (filter p xs)) (each x (All-head P x xs all) is) rest
    by false is rest = rest

one_cut : (sizes : ℕ → ℕ) (relocs : List Reloc) (k : ℕ) → k < length relocs → is_cut (sizes k) (get_or relocs k no_reloc) ≡ true → MayBeCall sizes relocs (cut_of (sizes k) (get_or relocs k no_reloc))
unfolding is_cut cut_of has_nops
one_cut sizes relocs k lt cut plain =
    by (is_alignment r) refl (is_call r.kind) refl (nat_lt 0 (place_width r)) (nat_lt (sizes k) 8) refl plain cut
  where
    r : Reloc
    r = get_or relocs k no_reloc

    by : (a : Bool) → is_alignment r ≡ a → (c : Bool) → is_call r.kind ≡ c → (w l : Bool) → nat_lt (sizes k) 8 ≡ l → a ≡ false → ((a && w) || (c && l)) ≡ true
        → IsCallCut sizes relocs (record { at = r.offset; whole = place_width r; kept = if a then place_width r else sizes k; is_align = a })
    by true align c call w l less is any = absurd (false≢true (sym is))
    by false align true call w true less is any = record { reloc = k; low = lt; at = refl; call = call; kept = refl; small = ltb-true (sizes k) 8 less }
    by false align true call w false less is any = absurd (false≢true any)
    by false align false call w l less is any = absurd (false≢true any)

pub cuts_are_calls : (sizes : ℕ → ℕ) (relocs : List Reloc) → All (MayBeCall sizes relocs) (cuts_by sizes relocs)
cuts_are_calls sizes relocs =
    let n = length relocs in
    all_kept (λ k. k < n) (MayBeCall sizes relocs) (λ k. cut_of (sizes k) (get_or relocs k no_reloc)) (λ k. is_cut (sizes k) (get_or relocs k no_reloc)) (range_with_len 0 n)
    (λ k lt is. one_cut sizes relocs k lt is)
    (λ i d lt. let low : i < n = omega (arith, lt, length-range_with_len 0 n) in omega (arith, low, get_or-range_with_len 0 n i d low))

-- also once they are laid
still_call : (sizes : ℕ → ℕ) (relocs : List Reloc) (start : ℕ) (before : List Cut) (c : Cut) → MayBeCall sizes relocs c → MayBeCall sizes relocs (laid_cut start before c)
unfolding laid_cut kept_at
still_call sizes relocs start before c may plain =
    let own = may plain in
    record { reloc = own.reloc; low = own.low; at = own.at; call = own.call; kept = rw plain own.kept; small = own.small }

found_call : (P : Cut → Type 0) (o : ℕ) (cuts : List Cut) → All P cuts → option_map_or (λ (c : Cut). c.kept) (find (is_call_cut o) cuts) 8 < 8
    → (c : Cut) × (is_call_cut o c ≡ true) × P c × (option_map_or (λ (x : Cut). x.kept) (find (is_call_cut o) cuts) 8 ≡ c.kept)
found_call P o [] all small = absurd (omega (arith, small))
found_call P o (c ∷ cs) all small = by (is_call_cut o c) refl small (λ less. found_call P o cs (All-tail P c cs all) less)
  where
    by : (t : Bool) → is_call_cut o c ≡ t → option_map_or (λ (x : Cut). x.kept) (if t then Some c else find (is_call_cut o) cs) 8 < 8
        → (option_map_or (λ (x : Cut). x.kept) (find (is_call_cut o) cs) 8 < 8
        → (e : Cut) × (is_call_cut o e ≡ true) × P e × (option_map_or (λ (x : Cut). x.kept) (find (is_call_cut o) cs) 8 ≡ e.kept))
        → (e : Cut) × (is_call_cut o e ≡ true) × P e × (option_map_or (λ (x : Cut). x.kept) (if t then Some c else find (is_call_cut o) cs) 8 ≡ e.kept)
    by true is less rest = (c, is, All-head P c cs all, refl)
    by false is less rest = rest less

plain_false : (t : Bool) → not t ≡ true → t ≡ false
plain_false true is = absurd (false≢true is)
plain_false false is = refl

-- the relocation of which a call is short
pub record IsShort (sizes : ℕ → ℕ) (relocs : List Reloc) (offset size : ℕ) : Type 0 where
  pub reloc : ℕ
  pub low : reloc < length relocs
  pub at : (get_or relocs reloc no_reloc).offset ≡ offset
  pub call : is_call (get_or relocs reloc no_reloc).kind ≡ true
  pub size_is : sizes reloc ≡ size
  pub small : sizes reloc < 8

pub short_call : (sizes : ℕ → ℕ) (relocs : List Reloc) (start o : ℕ) → call_size (laid_cuts start (cuts_by sizes relocs)) o < 8
    → IsShort sizes relocs o (call_size (laid_cuts start (cuts_by sizes relocs)) o)
unfolding call_size
short_call sizes relocs start o small =
    let plain = cuts_by sizes relocs in
    let laid = laid_cuts start plain in
    let all = laid_hold (MayBeCall sizes relocs) start plain (still_call sizes relocs start) (cuts_are_calls sizes relocs) in
    let found = found_call (MayBeCall sizes relocs) o laid all small in
    let c : Cut = found.0 in
    let parts = and_parts (c.at == o) (not c.is_align) found.1 in
    let own = found.2 (plain_false c.is_align parts.1) in
    record {
      reloc = own.reloc;
      low = own.low;
      at = sym own.at ∙ eqb-true c.at o parts.0;
      call = own.call;
      size_is = sym own.kept ∙ sym found.3;
      small = own.small;
    }

-- no two calls stand at one offset
pub one_call : (tables : Tables) (n k j : ℕ) → n < section_total (files_of tables) → k < length (relocs_of (files_of tables) n) → j < length (relocs_of (files_of tables) n)
    → is_call (reloc_of (files_of tables) n k).kind ≡ true → is_call (reloc_of (files_of tables) n j).kind ≡ true
    → (reloc_of (files_of tables) n k).offset ≡ (reloc_of (files_of tables) n j).offset → k ≡ j
one_call tables n k j lt k_low j_low k_call j_call same =
    let files = files_of tables in
    elim (cases_lt k j) [
      | inl less ↦ absurd (apart k j less j_low k_call j_call same)
      | inr upto ↦ elim (cases_lt j k) [
        | inl more ↦ absurd (apart j k more k_low j_call k_call (sym same))
        | inr le ↦ omega (arith, upto, le)
      ]
    ]
  where
    apart : (k j : ℕ) → k < j → j < length (relocs_of (files_of tables) n) → is_call (reloc_of (files_of tables) n k).kind ≡ true → is_call (reloc_of (files_of tables) n j).kind ≡ true
        → (reloc_of (files_of tables) n k).offset ≡ (reloc_of (files_of tables) n j).offset → ⊥
    apart k j less high first second same =
        let files = files_of tables in
        let file = file_at files (place_of files n).file in
        let s = section_at file (place_of files n).index in
        let contents = contents_of file.bytes s in
        let sound = sound_of tables n lt in
        let r = reloc_of files n k in
        let q = reloc_of files n j in
        let rk = sound.kinds k no_reloc (omega (arith, less, high)) in
        let qk = sound.kinds j no_reloc high in
        let rw_is = call_width r first in
        let qw_is = call_width q second in
        let rm = (call_kind r.kind first).moves in
        let qm = (call_kind q.kind second).moves in
        let before = sound.apart k j no_reloc less high (bytes_if contents r rm rk (omega (arith, rw_is))) (bytes_if contents q qm qk (omega (arith, qw_is))) (ap (λ m. m || moves_bytes q.kind) rm) in
        omega (arith, before, end_is contents r rm rk, rw_is, same)

-- where a call goes
pub record IsLanded (files : List File) (b : Bindings) (merged : List (Option Merged)) (leaders : List (Option ℕ)) (ms : List Row) (i n k : ℕ) (c : Call) : Type 0 where
  pub section : ℕ
  pub rest : ℤ
  pub leader : ℕ
  pub target : target_at files b merged n k ≡ targets.Section section c.target rest
  pub leader_is : leader_at leaders section ≡ Some leader
  pub near : is_near ms i (place_in ms leader) c.target ≡ true
  pub from : c.from ≡ i
  pub offset : c.offset ≡ (reloc_of files n k).offset
  pub to : c.to ≡ place_in ms leader
  pub least : c.least ≡ least_of (file_of files n) (bytes_at files n k)
  pub plain : is_plain (reloc_of files n k) ≡ true

cons_same : {X : Type 0} (x y : X) → x ∷ [] ≡ y ∷ [] → x ≡ y
cons_same x y e = cc

no_cons : {X A : Type 0} (x : X) → [] ≡ x ∷ [] → A
no_cons x e = cc

plain_of : (files : List File) (n k : ℕ) → is_candidate files n k ≡ true → is_plain (reloc_of files n k) ≡ true
unfolding is_candidate
plain_of files n k is = (and_parts (is_plain (reloc_of files n k)) _ is).0

module _ (files : List File) (b : Bindings) (merged : List (Option Merged)) (leaders : List (Option ℕ)) (ms : List Row) (i n k : ℕ) (c : Call) where
  abbrev first_call_of : Call
  first_call_of = call_of i (reloc_of files n k) k (least_of (file_of files n) (bytes_at files n k))

  one_landed : (section offset leader : ℕ) (rest : ℤ) → target_at files b merged n k ≡ targets.Section section offset rest → leader_at leaders section ≡ Some leader
      → is_plain (reloc_of files n k) ≡ true → lands ms first_call_of (Some leader) offset ≡ c ∷ [] → IsLanded files b merged leaders ms i n k c
  unfolding lands
  one_landed section offset leader rest target leader_is plain is = by (is_near ms i (place_in ms leader) offset) refl is
    where
      landing : Call
      landing = record { from = i; offset = (reloc_of files n k).offset; reloc = k; to = place_in ms leader; target = offset; least = least_of (file_of files n) (bytes_at files n k) }

      by : (t : Bool) → is_near ms i (place_in ms leader) offset ≡ t → (if t then landing ∷ [] else []) ≡ c ∷ [] → IsLanded files b merged leaders ms i n k c
      by true near is =
          let e : landing ≡ c = cons_same landing c is in
          let at : offset ≡ c.target = ap (λ (x : Call). x.target) e in
          record {
            section = section;
            rest = rest;
            leader = leader;
            target = target ∙ ap (λ o. targets.Section section o rest) at;
            leader_is = leader_is;
            near = ap (is_near ms i (place_in ms leader)) (sym at) ∙ near;
            from = sym (ap (λ (x : Call). x.from) e);
            offset = sym (ap (λ (x : Call). x.offset) e);
            to = sym (ap (λ (x : Call). x.to) e);
            least = sym (ap (λ (x : Call). x.least) e);
            plain = plain;
          }
      by false near is = no_cons c is

  any_leader : (section offset : ℕ) (rest : ℤ) (l : Option ℕ) → leader_at leaders section ≡ l → target_at files b merged n k ≡ targets.Section section offset rest
      → is_plain (reloc_of files n k) ≡ true → lands ms first_call_of l offset ≡ c ∷ [] → IsLanded files b merged leaders ms i n k c
  unfolding lands
  any_leader section offset rest None leader_is target plain is = no_cons c is
  any_leader section offset rest (Some m) leader_is target plain is = one_landed section offset m rest target leader_is plain is

  any_target : (t : Target) → target_at files b merged n k ≡ t → is_plain (reloc_of files n k) ≡ true → reaches leaders ms first_call_of t ≡ c ∷ [] → IsLanded files b merged leaders ms i n k c
  unfolding reaches
  any_target (targets.Section section offset rest) target plain is = any_leader section offset rest (leader_at leaders section) refl target plain is
  any_target (targets.Piece pool piece offset rest) target plain is = no_cons c is
  any_target (targets.Number m) target plain is = no_cons c is
  any_target targets.Zero target plain is = no_cons c is
  any_target (targets.Linker m) target plain is = no_cons c is
  any_target targets.Unbound target plain is = no_cons c is

  pub landed : call_at files b merged leaders ms i n k ≡ c ∷ [] → IsLanded files b merged leaders ms i n k c
  unfolding call_at
  landed is = by (is_candidate files n k) refl is
    where
      by : (t : Bool) → is_candidate files n k ≡ t → (if t then reaches leaders ms first_call_of (target_at files b merged n k) else []) ≡ c ∷ [] → IsLanded files b merged leaders ms i n k c
      by true candidate is = any_target (target_at files b merged n k) refl (plain_of files n k candidate) is
      by false candidate is = no_cons c is

-- the call of a row that has a relocation
module _ (files : List File) (b : Bindings) (merged : List (Option Merged)) (leaders : List (Option ℕ)) (ms : List Row) (i n : ℕ) where
  abbrev IsCallAt : Call → Type 0
  IsCallAt c = (k : ℕ) → c.reloc ≡ k → call_at files b merged leaders ms i n k ≡ c ∷ []

  pub calls_are : (a m : ℕ) → All (λ (c : Call). (k : ℕ) → c.reloc ≡ k → call_at files b merged leaders ms i n k ≡ c ∷ []) (flat_map (call_at files b merged leaders ms i n) (range_with_len a m))
  calls_are a zero = All-nil IsCallAt
  calls_are a (suc m) = elim (call_one files b merged leaders ms i n a) [
    | inl none ↦ subst (λ l. All IsCallAt (l ++ flat_map (call_at files b merged leaders ms i n) (range_with_len (a + 1) m))) (sym none) (calls_are (a + 1) m)
    | inr (c, one, site) ↦
        subst (λ l. All IsCallAt (l ++ flat_map (call_at files b merged leaders ms i n) (range_with_len (a + 1) m))) (sym one)
        (All-cons IsCallAt c (flat_map (call_at files b merged leaders ms i n) (range_with_len (a + 1) m))
        (λ k same. ap (call_at files b merged leaders ms i n) (sym same ∙ site.reloc) ∙ one) (calls_are (a + 1) m))
  ]

-- the place of a relocation's call in its row
pub record IsPlaced (rows : List (List Call)) (z : List ℕ) (i k : ℕ) : Type 0 where
  pub place : ℕ
  pub low : place < length (row_at rows i)
  pub reloc : (d : Call) → (get_or (row_at rows i) place d).reloc ≡ k
  pub size : size_at z (first_call rows i + place) ≡ size_in rows z i k

pub placed_call : (rows : List (List Call)) (z : List ℕ) (i k : ℕ) → size_in rows z i k < 8 → IsPlaced rows z i k
unfolding size_in
placed_call rows z i k small = elim (cases_lt p (length row)) [
  | inl lt ↦ record {
    place = p;
    low = lt;
    reloc = λ d. eqb-true (get_or row p d).reloc k (passes_at_first (λ (c : Call). c.reloc == k) row d lt);
    size = sym (ap (λ t. if t then size_at z (first_call rows i + p) else 8) (lt-ltb p (length row) lt));
  }
  | inr past ↦ absurd (omega (arith, small, ap (λ t. if t then size_at z (first_call rows i + p) else 8) (le-ltb p (length row) past)))
]
  where
    row : List Call
    row = row_at rows i

    p : ℕ
    p = position_or_len (λ (c : Call). c.reloc == k) row

-- calls by number: those of a row follow those of the rows before
flat_at : {X : Type 0} (f : ℕ → List X) (a m i j : ℕ) (d : X) → i < m → j < length (f (a + i))
    → get_or (flat_map f (range_with_len a m)) (length (flat_map f (range_with_len a i)) + j) d ≡ get_or (f (a + i)) j d
flat_at f a zero i j d lt less = absurd (omega (arith, lt))
flat_at f a (suc m) zero j d lt less =
    let e : a + zero ≡ a = omega arith in
    let g : zero + j ≡ j = omega arith in
    let here : j < length (f a) = omega (arith, less, ap (λ k. length (f k)) e) in
    ap (λ k. get_or (flat_map f (range_with_len a (suc m))) k d) g ∙ get_or_append_left (f a) (flat_map f (range_with_len (a + 1) m)) d j here ∙ ap (λ k. get_or (f k) j d) (sym e)
flat_at f a (suc m) (suc i) j d lt less =
    let e : (a + 1) + i ≡ a + suc i = omega arith in
    let long = length-append (f a) (flat_map f (range_with_len (a + 1) i)) in
    let g : length (flat_map f (range_with_len a (suc i))) + j ≡ length (f a) + (length (flat_map f (range_with_len (a + 1) i)) + j) = omega (arith, long) in
    ap (λ k. get_or (flat_map f (range_with_len a (suc m))) k d) g
    ∙ get_or-append-add (f a) (flat_map f (range_with_len (a + 1) m)) (length (flat_map f (range_with_len (a + 1) i)) + j) d
    ∙ flat_at f (a + 1) m i j d (omega (arith, lt)) (omega (arith, less, ap (λ k. length (f k)) e)) ∙ ap (λ k. get_or (f k) j d) e

flat_mapped : {X Y : Type 0} (f : X → List Y) (xs : List X) → flat_map (λ row. row) (map f xs) ≡ flat_map f xs
flat_mapped f [] = refl
flat_mapped f (x ∷ xs) = ap (λ l. f x ++ l) (flat_mapped f xs)

rows_all : (rows : List (List Call)) → flat_map (row_at rows) (range_with_len 0 (length rows)) ≡ all_calls rows
rows_all rows =
    sym (flat_mapped (row_at rows) (range_with_len 0 (length rows)))
    ∙ ap (flat_map (λ row. row)) (sym (fill_by_all (row_at rows) rows (length rows) [] refl (λ k lt. refl)))

pub numbered_call : (rows : List (List Call)) (i p : ℕ) (d : Call) → i < length rows → p < length (row_at rows i) → get_or (all_calls rows) (first_call rows i + p) d ≡ get_or (row_at rows i) p d
unfolding first_call
numbered_call rows i p d lt less =
    let e : 0 + i ≡ i = omega arith in
    ap (λ l. get_or l (length (flat_map (row_at rows) (range_with_len 0 i)) + p) d) (sym (rows_all rows))
    ∙ flat_at (row_at rows) 0 (length rows) i p d lt (omega (arith, less, ap (λ k. length (row_at rows k)) e)) ∙ ap (λ k. get_or (row_at rows k) p d) e

-- safe sizes fit
pub safe_fits : (ms : List Row) (rows : List (List Call)) (z : List ℕ) (q : ℕ) → is_safe ms rows z ≡ true → q < length (all_calls rows)
    → (is_size (call_no rows q).least (size_at z q) ≡ true) × (allows (size_at z q) (goes_forwards (call_no rows q)) (distance ms rows z (call_no rows q)) ≡ true)
unfolding is_safe fits
safe_fits ms rows z q is lt =
    let n = length (all_calls rows) in
    let all = (and_parts (length z == n) (list_all (fits ms rows z) (range_with_len 0 n)) is).1 in
    let at : get_or (range_with_len 0 n) q q ≡ q = get_or-range_with_len 0 n q q lt ∙ omega arith in
    let here : fits ms rows z q ≡ true = ap (fits ms rows z) (sym at) ∙ AllPass-from_list_all (fits ms rows z) (range_with_len 0 n) all q q (omega (arith, lt, length-range_with_len 0 n)) in
    and_parts (is_size (call_no rows q).least (size_at z q)) (allows (size_at z q) (goes_forwards (call_no rows q)) (distance ms rows z (call_no rows q))) here

-- the cuts of a section before it is laid
pub cuts_before : (files : List File) (ms : List Row) (rows : List (List Call)) (z : List ℕ) (n : ℕ) → n < section_total files
    → get_or (all_cuts files ms rows z) n [] ≡ cuts_by (size_in rows z (place_in ms n)) (relocs_of files n)
unfolding all_cuts
cuts_before files ms rows z n lt = get_or-map-range_with_len (λ m. cuts_by (size_in rows z (place_in ms m)) (relocs_of files m)) 0 (section_total files) n n [] lt (omega arith)

-- the row of a member
pub row_is : (files : List File) (b : Bindings) (merged : List (Option Merged)) (leaders : List (Option ℕ)) (ms : List Row) (on : Bool) (i : ℕ) → i < length ms
    → row_at (call_rows files b merged leaders ms on) i ≡ (if on && is_section (member_at ms i) then calls_in files b merged leaders ms i (own_section (member_at ms i)) else [])
unfolding call_rows calls_of
row_is files b merged leaders ms on i lt = get_or-map-range_with_len (calls_of files b merged leaders ms on) 0 (length ms) i i [] lt (omega arith)
