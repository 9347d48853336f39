-- The calls of members stand one after the other in their sections, and go to members.
use Rattle.std.proofs.Common.{◌≡◌, ℕ, zero, suc, ◌+◌, ◌<◌, ◌≤◌, ◌%◌, ◌⊎◌, ◌&&◌, ◌==◌, ◌||◌, Bool, true, false, List, [], ◌∷◌, ◌++◌, length, map, flat_map, get_or, refl, sym, ap, subst, arith, inl, inr}
use Rattle.std.specs.Prelude.{Option, None, Some, if◌then◌else◌, nat_le, nat_lt, pos}
use Rattle.std.specs.Ordering.{int_eq}
use Rattle.std.specs.List.{All, range_with_len}
use Rattle.std.specs.List.Sorted.{IsNonDecreasingBy}
use Rattle.std.proofs.lemmas.Bool.{and_parts, cases_lt, ltb-true}
use Rattle.std.proofs.lemmas.List.{get_or_past}
use Rattle.std.proofs.lemmas.List.Elements.{All-cons, All-nil}
use Rattle.std.proofs.lemmas.List.FromFn.{get_or-map-range_with_len, length-map-range_with_len}
use Rattle.lk_base.specs.RelocKinds.{moves_bytes}
use Rattle.lk_tables.specs.declared.objects.Reloc.{Reloc}
use Rattle.lk_tables.specs.declared.tables.Tables.{Tables}
use Rattle.lk_tables.specs.Binding.{Bindings}
use Rattle.lk_tables.specs.Files.{File, file_at, no_reloc, section_at, section_total}
use Rattle.lk_tables.specs.Sections.{contents_of}
use Rattle.lk_tables.specs.Sites.{place_of, relocs_of}
use Rattle.lk_tables.specs.TablesView.{files_of}
use Rattle.link_sections.specs.declared.targets.Target.{Target}
use Rattle.link_sections.specs.declared.targets.Target.TheVariants as targets
use Rattle.link_sections.specs.Calls.{is_call}
use Rattle.link_sections.specs.InputSections.{input_at}
use Rattle.link_sections.specs.Leaders.{leader_at}
use Rattle.link_sections.specs.PieceTargets.{target_at}
use Rattle.link_sections.specs.PoolViews.{Merged}
use Rattle.relax.specs.declared.calls.Call.{Call}
use Rattle.output_sections.specs.declared.rows.Row.{Row}
use Rattle.relax.specs.CallSizes.{bytes_at, call_at, call_of, call_rows, calls_in, calls_of, file_of, has_hint, has_rvc, has_words, is_candidate, is_near, is_plain, lands, least_of, member_at, no_member, place_in, rd_at, reaches, reloc_of, row_at}
use Rattle.relax.specs.Points.{AreSoundRows, Follow, IsCallOf}
use Rattle.relax.proofs.Fitting.{bytes_if, call_kind, call_width, end_is, size_is, sound_of}
use Rattle.output_sections.specs.Order.{IsKnown, is_section, own_section}

-- a list of one that has a property, or of none
abbrev IsOne : {X : Type 0} → (X → Type 0) → List X → Type 0
IsOne {X} P xs = (xs ≡ []) ⊎ ((x : X) × (xs ≡ x ∷ []) × P x)

record IsNear (count : ℕ) (c d : Call) : Type 0 where
  from : d.from ≡ c.from
  offset : d.offset ≡ c.offset
  reloc : d.reloc ≡ c.reloc
  least : d.least ≡ c.least
  to : d.to < count

lands_one : (ms : List Row) (c : Call) (leader : Option ℕ) (offset : ℕ) → IsOne (IsNear (length ms) c) (lands ms c leader offset)
unfolding lands is_near
lands_one ms c None offset = inl refl
lands_one ms c (Some m) offset =
    by (nat_lt (place_in ms m) (length ms)) ((member_at ms c.from).group == (member_at ms (place_in ms m)).group && (nat_le 2 (member_at ms c.from).align && (nat_le 2 (member_at ms (place_in ms m)).align && offset % 2 == 0))) refl
  where
    by : (near rest : Bool) → nat_lt (place_in ms m) (length ms) ≡ near →
        IsOne (IsNear (length ms) c) (if near && rest then record { from = c.from; offset = c.offset; reloc = c.reloc; to = place_in ms m; target = offset; least = c.least } ∷ [] else [])
    by true true is = inr (
      record { from = c.from; offset = c.offset; reloc = c.reloc; to = place_in ms m; target = offset; least = c.least },
      refl,
      record { from = refl; offset = refl; reloc = refl; least = refl; to = ltb-true (place_in ms m) (length ms) is },
    )
    by true false is = inl refl
    by false rest is = inl refl

reaches_one : (leaders : List (Option ℕ)) (ms : List Row) (c : Call) (t : Target) → IsOne (IsNear (length ms) c) (reaches leaders ms c t)
unfolding reaches
reaches_one leaders ms c (targets.Section section offset rest) = lands_one ms c (leader_at leaders section) offset
reaches_one leaders ms c (targets.Piece pool piece offset rest) = inl refl
reaches_one leaders ms c (targets.Number n) = inl refl
reaches_one leaders ms c targets.Zero = inl refl
reaches_one leaders ms c (targets.Linker n) = inl refl
reaches_one leaders ms c targets.Unbound = inl refl

-- a call at relocation k of section n, which is member i
pub record IsSite (files : List File) (count i n k : ℕ) (c : Call) : Type 0 where
  pub from : c.from ≡ i
  pub to : c.to < count
  pub least : (c.least ≡ 2) ⊎ (c.least ≡ 4)
  pub offset : c.offset ≡ (reloc_of files n k).offset
  pub reloc : c.reloc ≡ k
  pub call : is_call (reloc_of files n k).kind ≡ true

abbrev two_or_four : Bool → ℕ
two_or_four b = if b then 2 else 4

least_one : (file : File) (at : ℕ) → (least_of file at ≡ 2) ⊎ (least_of file at ≡ 4)
unfolding least_of
least_one file at = by (has_rvc file && rd_at file.bytes (at + 4) == 0)
  where
    by : (b : Bool) → (two_or_four b ≡ 2) ⊎ (two_or_four b ≡ 4)
    by true = inl refl
    by false = inr refl

plain_call : (files : List File) (n k : ℕ) → is_candidate files n k ≡ true → is_call (reloc_of files n k).kind ≡ true
unfolding is_candidate is_plain
plain_call files n k is =
    let r = reloc_of files n k in
    let plain = is_call r.kind && (int_eq r.addend (pos 0) && r.offset % 2 == 0) in
    (and_parts (is_call r.kind) (int_eq r.addend (pos 0) && r.offset % 2 == 0)
    (and_parts plain (has_words (file_of files n).bytes (bytes_at files n k) && has_hint (relocs_of files n) r.offset) is).0).0

pub call_one : (files : List File) (b : Bindings) (merged : List (Option Merged)) (leaders : List (Option ℕ)) (ms : List Row) (i n k : ℕ) →
    IsOne (IsSite files (length ms) i n k) (call_at files b merged leaders ms i n k)
unfolding call_at
call_one files b merged leaders ms i n k =
    by (is_candidate files n k) refl
    (reaches_one leaders ms (call_of i (reloc_of files n k) k (least_of (file_of files n) (bytes_at files n k))) (target_at files b merged n k))
  where
    by : (t : Bool) → is_candidate files n k ≡ t →
        IsOne (IsNear (length ms) (call_of i (reloc_of files n k) k (least_of (file_of files n) (bytes_at files n k))))
        (reaches leaders ms (call_of i (reloc_of files n k) k (least_of (file_of files n) (bytes_at files n k))) (target_at files b merged n k)) →
        IsOne (IsSite files (length ms) i n k)
        (if t then reaches leaders ms (call_of i (reloc_of files n k) k (least_of (file_of files n) (bytes_at files n k))) (target_at files b merged n k) else [])
    by true is near = elim near [
      | inl none ↦ inl none
      | inr (c, one, has) ↦ inr (
        c,
        one,
        record {
          from = has.from;
          to = has.to;
          least = subst (λ s. (s ≡ 2) ⊎ (s ≡ 4)) (sym has.least) (least_one (file_of files n) (bytes_at files n k));
          offset = has.offset;
          reloc = has.reloc;
          call = plain_call files n k is;
        },
      )
    ]
    by false is near = inl refl

-- the calls of a section
module _ (tables : Tables) (b : Bindings) (merged : List (Option Merged)) (leaders : List (Option ℕ)) (ms : List Row) (i n : ℕ) (lt : n < section_total (files_of tables)) where
  abbrev files : List File
  files = files_of tables

  abbrev relocs : List Reloc
  relocs = relocs_of files n

  abbrev f : ℕ → List Call
  f k = call_at files b merged leaders ms i n k

  abbrev is_at_call : ℕ → Type 0
  is_at_call k = is_call (reloc_of files n k).kind ≡ true

  calls_apart : (k j : ℕ) → k < j → j < length relocs → is_at_call k → is_at_call j → (reloc_of files n k).offset + 8 ≤ (reloc_of files n j).offset
  calls_apart k j less high first second =
      let file = file_at files (place_of files n).file in
      let s = section_at file (place_of files n).index in
      let contents = contents_of file.bytes s in
      let sound = sound_of tables n lt in
      let r = reloc_of files n k in
      let q = reloc_of files n j in
      let rk = sound.kinds k no_reloc (omega (arith, less, high)) in
      let qk = sound.kinds j no_reloc high in
      let rw_is = call_width r first in
      let qw_is = call_width q second in
      let rm = (call_kind r.kind first).moves in
      let qm = (call_kind q.kind second).moves in
      let before = sound.apart k j no_reloc less high (bytes_if contents r rm rk (omega (arith, rw_is))) (bytes_if contents q qm qk (omega (arith, qw_is))) (ap (λ m. m || moves_bytes q.kind) rm) in
      omega (arith, before, end_is contents r rm rk, rw_is)

  call_inside : (k : ℕ) → k < length relocs → is_at_call k → (reloc_of files n k).offset + 8 ≤ (input_at files b n).size
  call_inside k high is =
      let file = file_at files (place_of files n).file in
      let s = section_at file (place_of files n).index in
      let contents = contents_of file.bytes s in
      let sound = sound_of tables n lt in
      let r = reloc_of files n k in
      let fits = sound.fits k no_reloc high in
      omega (arith, fits, end_is contents r (call_kind r.kind is).moves (sound.kinds k no_reloc high), call_width r is, size_is tables b n lt (omega (arith, high)))

  follow_from : (a m from : ℕ) → a + m ≤ length relocs → ((k : ℕ) → a ≤ k → k < a + m → is_at_call k → from ≤ (reloc_of files n k).offset) →
      Follow from (input_at files b n).size (flat_map f (range_with_len a m))
  follow_from a zero from le low = tt
  follow_from a (suc m) from le low = elim (call_one files b merged leaders ms i n a) [
    | inl none ↦
        let P : List Call → Type 0 = λ l. Follow from (input_at files b n).size (l ++ flat_map f (range_with_len (a + 1) m)) in
        subst P (sym none) (follow_from (a + 1) m from (omega (arith, le)) (λ k up lt2 is. low k (omega (arith, up)) (omega (arith, lt2)) is))
    | inr (c, one, site) ↦
        let P : List Call → Type 0 = λ l. Follow from (input_at files b n).size (l ++ flat_map f (range_with_len (a + 1) m)) in
        let own = site.offset in
        let here = low a (omega arith) (omega arith) site.call in
        let inside = call_inside a (omega (arith, le)) site.call in
        subst P (sym one) (
          omega (arith, own, here),
          omega (arith, own, inside),
          follow_from (a + 1) m (c.offset + 8) (omega (arith, le)) (λ k up lt2 is.
              let apart = calls_apart a k (omega (arith, up)) (omega (arith, le, lt2)) site.call is in omega (arith, own, apart)),
        )
  ]

  pub calls_follow : Follow 0 (input_at files b n).size (calls_in files b merged leaders ms i n)
  unfolding calls_in
  calls_follow = follow_from 0 (length relocs) 0 (omega arith) (λ k low high is. omega arith)

  all_sites : (P : Call → Type 0) (a m : ℕ) → ((k : ℕ) (c : Call) → IsSite files (length ms) i n k c → P c) → All P (flat_map f (range_with_len a m))
  all_sites P a zero each = All-nil P
  all_sites P a (suc m) each = elim (call_one files b merged leaders ms i n a) [
    | inl none ↦ subst (λ l. All P (l ++ flat_map f (range_with_len (a + 1) m))) (sym none) (all_sites P (a + 1) m each)
    | inr (c, one, site) ↦
        subst (λ l. All P (l ++ flat_map f (range_with_len (a + 1) m))) (sym one) (All-cons P c (flat_map f (range_with_len (a + 1) m)) (each a c site) (all_sites P (a + 1) m each))
  ]

  pub calls_go : All (IsCallOf (length ms) i) (calls_in files b merged leaders ms i n)
  unfolding calls_in
  calls_go = all_sites (IsCallOf (length ms) i) 0 (length relocs) (λ k c site. record { from = site.from; to = site.to; least = site.least })

  -- their relocations' numbers rise
  abbrev Rise : ℕ → List Call → Type 0
  Rise from [] = Unit {0}
  Rise from (c ∷ cs) = (from ≤ c.reloc) × Rise c.reloc cs

  rise_weaker : (x y : ℕ) (cs : List Call) → x ≤ y → Rise y cs → Rise x cs
  rise_weaker x y [] le is = tt
  rise_weaker x y (c ∷ cs) le is = let low = is.0 in (omega (arith, le, low), is.1)

  rise_from : (a m : ℕ) → Rise a (flat_map f (range_with_len a m))
  rise_from a zero = tt
  rise_from a (suc m) = elim (call_one files b merged leaders ms i n a) [
    | inl none ↦ subst (λ l. Rise a (l ++ flat_map f (range_with_len (a + 1) m))) (sym none) (rise_weaker a (a + 1) (flat_map f (range_with_len (a + 1) m)) (omega arith) (rise_from (a + 1) m))
    | inr (c, one, site) ↦
        let own = site.reloc in
        subst (λ l. Rise a (l ++ flat_map f (range_with_len (a + 1) m))) (sym one)
        (omega (arith, own), rise_weaker c.reloc (a + 1) (flat_map f (range_with_len (a + 1) m)) (omega (arith, own)) (rise_from (a + 1) m))
  ]

  rise_low : (from : ℕ) (cs : List Call) (k : ℕ) (d : Call) → Rise from cs → k < length cs → from ≤ (get_or cs k d).reloc
  rise_low from [] k d is less = absurd (omega (arith, less))
  rise_low from (c ∷ cs) zero d is less = is.0
  rise_low from (c ∷ cs) (suc k) d is less = let low = is.0 in let later = rise_low c.reloc cs k d is.1 (omega (arith, less)) in omega (arith, low, later)

  rise_sorted : (from : ℕ) (cs : List Call) → Rise from cs → IsNonDecreasingBy (λ c. c.reloc) cs
  rise_sorted from [] is x y d le less = absurd (omega (arith, less))
  rise_sorted from (c ∷ cs) is zero zero d le less = omega arith
  rise_sorted from (c ∷ cs) is zero (suc y) d le less = rise_low c.reloc cs y d is.1 (omega (arith, less))
  rise_sorted from (c ∷ cs) is (suc x) zero d le less = absurd (omega (arith, le))
  rise_sorted from (c ∷ cs) is (suc x) (suc y) d le less = rise_sorted c.reloc cs is.1 x y d (omega (arith, le)) (omega (arith, less))

  pub calls_numbered : IsNonDecreasingBy (λ c. c.reloc) (calls_in files b merged leaders ms i n)
  unfolding calls_in
  calls_numbered = rise_sorted 0 (flat_map f (range_with_len 0 (length relocs))) (rise_from 0 (length relocs))

-- calls that follow one another are in order of offset
follow_low : (from size : ℕ) (cs : List Call) (k : ℕ) (d : Call) → Follow from size cs → k < length cs → from ≤ (get_or cs k d).offset
follow_low from size [] k d is less = absurd (omega (arith, less))
follow_low from size (c ∷ cs) zero d is less = is.0
follow_low from size (c ∷ cs) (suc k) d is less =
    let low = is.0 in let later = follow_low (c.offset + 8) size cs k d is.2 (omega (arith, less)) in omega (arith, low, later)

pub follow_sorted : (from size : ℕ) (cs : List Call) → Follow from size cs → IsNonDecreasingBy (λ c. c.offset) cs
follow_sorted from size [] is x y d le less = absurd (omega (arith, less))
follow_sorted from size (c ∷ cs) is zero zero d le less = omega arith
follow_sorted from size (c ∷ cs) is zero (suc y) d le less = let later = follow_low (c.offset + 8) size cs y d is.2 (omega (arith, less)) in omega (arith, later)
follow_sorted from size (c ∷ cs) is (suc x) zero d le less = absurd (omega (arith, le))
follow_sorted from size (c ∷ cs) is (suc x) (suc y) d le less = follow_sorted (c.offset + 8) size cs is.2 x y d (omega (arith, le)) (omega (arith, less))

-- the rows of all members
record IsSoundRow (ms : List Row) (i size : ℕ) (row : List Call) : Type 0 where
  each : All (IsCallOf (length ms) i) row
  apart : Follow 0 size row
  numbered : IsNonDecreasingBy (λ c. c.reloc) row

no_row : (ms : List Row) (i size : ℕ) → IsSoundRow ms i size []
no_row ms i size = record { each = All-nil (IsCallOf (length ms) i); apart = tt; numbered = λ x y d le less. absurd (omega (arith, less)) }

row_sound : (tables : Tables) (b : Bindings) (merged : List (Option Merged)) (leaders : List (Option ℕ)) (ms : List Row) (on : Bool) (i : ℕ) → All (IsKnown (files_of tables) b) ms →
    i < length ms → IsSoundRow ms i (member_at ms i).size (calls_of (files_of tables) b merged leaders ms on i)
unfolding calls_of
row_sound tables b merged leaders ms on i known lt =
    let m = member_at ms i in
    let is = known i no_member lt in
    by on (is_section m) refl is.number is.size
  where
    by : (o s : Bool) → is_section (member_at ms i) ≡ s → (is_section (member_at ms i) ≡ true → (own_section (member_at ms i)) < section_total (files_of tables)) →
        (is_section (member_at ms i) ≡ true → (member_at ms i).size ≡ (input_at (files_of tables) b (own_section (member_at ms i))).size) →
        IsSoundRow ms i (member_at ms i).size (if o && s then calls_in (files_of tables) b merged leaders ms i (own_section (member_at ms i)) else [])
    by true true own number size =
        let n = (own_section (member_at ms i)) in
        record {
          each = calls_go tables b merged leaders ms i n (number own);
          apart = subst (λ k. Follow 0 k (calls_in (files_of tables) b merged leaders ms i n)) (sym (size own)) (calls_follow tables b merged leaders ms i n (number own));
          numbered = calls_numbered tables b merged leaders ms i n (number own);
        }
    by true false own number size = no_row ms i (member_at ms i).size
    by false s own number size = no_row ms i (member_at ms i).size

pub rows_sound : (tables : Tables) (b : Bindings) (merged : List (Option Merged)) (leaders : List (Option ℕ)) (ms : List Row) (on : Bool) → All (IsKnown (files_of tables) b) ms →
    AreSoundRows ms (call_rows (files_of tables) b merged leaders ms on)
unfolding call_rows
rows_sound tables b merged leaders ms on known =
    let files = files_of tables in
    let give = calls_of files b merged leaders ms on in
    let rows = map give (range_with_len 0 (length ms)) in
    let count = length-map-range_with_len give 0 (length ms) in
    let at : (i : ℕ) → i < length ms → row_at rows i ≡ give i = λ i lt. get_or-map-range_with_len give 0 (length ms) i i [] lt (omega arith) in
    let sound : (i : ℕ) → i < length ms → IsSoundRow ms i (member_at ms i).size (row_at rows i) =
    λ i lt. subst (IsSoundRow ms i (member_at ms i).size) (sym (at i lt)) (row_sound tables b merged leaders ms on i known lt) in
    record {
      count = count;
      each = λ i lt. (sound i lt).each;
      apart = λ i lt. (sound i lt).apart;
      sorted = λ i. elim (cases_lt i (length ms)) [
        | inl lt ↦ follow_sorted 0 (member_at ms i).size (row_at rows i) (sound i lt).apart
        | inr past ↦ subst (λ (l : List Call). IsNonDecreasingBy (λ (c : Call). c.offset) l) (sym (get_or_past rows i [] (omega (arith, past, count)))) (λ x y d le less. absurd (omega (arith, less)))
      ];
      numbered = λ i. elim (cases_lt i (length ms)) [
        | inl lt ↦ (sound i lt).numbered
        | inr past ↦ subst (λ (l : List Call). IsNonDecreasingBy (λ (c : Call). c.reloc) l) (sym (get_or_past rows i [] (omega (arith, past, count)))) (λ x y d le less. absurd (omega (arith, less)))
      ];
    }
