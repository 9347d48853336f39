-- The relocations of a section are sound; the cuts that its alignments and calls are stand in order, none meeting another or the place of
-- a value.
use Rattle.std.proofs.Common.{◌≡◌, ℕ, ◌+◌, ◌<◌, ◌≤◌, ◌⊎◌, ◌&&◌, ◌||◌, ◌==◌, Bool, true, false, if◌then◌else◌, List, [], ◌∷◌, length, get_or, refl, sym, ap, ◌∙◌, subst, arith, inl, inr, nat_lt}
use Rattle.std.specs.Prelude.{is_some, unsigned_abs}
use Rattle.std.specs.List.{All, AllPairs, filter, range_with_len}
use Rattle.std.proofs.lemmas.Bool.{and_parts, cases_lt, eqb-true, false≢true, lt-ltb, ltb-true, or_cases}
use Rattle.std.proofs.lemmas.List.{get_or_default, get_or_past, get_or-map, length-map}
use Rattle.std.proofs.lemmas.List.Elements.{All-filter, All-map, All-nil, filter_passes}
use Rattle.std.proofs.lemmas.List.FromFn.{get_or-range_with_len, length-range_with_len}
use Rattle.std.proofs.lemmas.List.Kept.{AllPairs-filter}
use Rattle.lk_base.specs.RelocKinds.{kind_of, moves_bytes}
use Rattle.lk_base.specs.declared.abi.TheConstants.{R_RISCV_CALL, R_RISCV_CALL_PLT}
use Rattle.lk_tables.specs.declared.heads.Section.{Section}
use Rattle.lk_tables.specs.declared.objects.Reloc.{Reloc}
use Rattle.lk_tables.specs.declared.tables.Tables.{Tables}
use Rattle.lk_tables.specs.Binding.{Bindings}
use Rattle.lk_tables.specs.Files.{File, commons_before, file_at, no_reloc, no_section, relocs_at, section_at, section_count, section_total}
use Rattle.lk_tables.specs.Inside.{IsBodyInside, IsRelocBefore}
use Rattle.lk_tables.specs.Relocations.{end_of, has_bytes, is_alignment, is_padding, place_width, value_len, width_of}
use Rattle.lk_tables.specs.Sections.{contents_of}
use Rattle.lk_tables.specs.Sites.{place_of, relocs_of}
use Rattle.lk_tables.specs.TablesView.{files_of}
use Rattle.lk_tables.proofs.Owners.{place_of_number}
use Rattle.lk_tables.proofs.SoundFiles.{inside_body, sound_file}
use Rattle.lk_tables.proofs.Widths.{alignment_moves, alignment_width, moves_plain, value_least, value_plain, width_is}
use Rattle.link_sections.specs.Calls.{IsOwnCall, is_call}
use Rattle.link_sections.specs.Cuts.{AreApart, Cut}
use Rattle.link_sections.specs.InputSections.{common_in, input_at, input_of, room_input, section_input}
use Rattle.relax.specs.CallSizes.{cut_of, cuts_by, is_cut}
use Rattle.relax.specs.Placing.{IsOneSize, added}
use Rattle.relax.specs.Sizes.{FitSections, has_nops}

-- the end of a place
abbrev pub IsOfKind : (contents : List ℕ) → Reloc → Type 0
IsOfKind contents r = is_some (width_of contents r) ≡ true

pub end_is : (contents : List ℕ) (r : Reloc) → moves_bytes r.kind ≡ true → IsOfKind contents r → end_of contents r ≡ r.offset + place_width r
end_is contents r moves kind = ap (λ w. r.offset + w) (width_is contents r (moves_plain r.kind moves) kind)

pub bytes_if : (contents : List ℕ) (r : Reloc) → moves_bytes r.kind ≡ true → IsOfKind contents r → 0 < place_width r → has_bytes contents r ≡ true
bytes_if contents r moves kind some = lt-ltb r.offset (end_of contents r) (omega (arith, end_is contents r moves kind))

-- what is known of the relocations of section k of a file
pub record AreSound (contents : List ℕ) (size : ℕ) (relocs : List Reloc) : Type 0 where
  pub kinds : All (IsOfKind contents) relocs
  pub fits : All (λ r. end_of contents r ≤ size) relocs
  pub apart : AllPairs (IsRelocBefore contents) relocs

none_sound : (contents : List ℕ) (size : ℕ) → AreSound contents size []
none_sound contents size = record {
  kinds = λ k d lt. absurd (omega (arith, lt));
  fits = λ k d lt. absurd (omega (arith, lt));
  apart = λ i j d lt high. absurd (omega (arith, high));
}

pub sound_at : (tables : Tables) (f k : ℕ) → (file_at (files_of tables) f).live ≡ true →
    AreSound (contents_of (file_at (files_of tables) f).bytes (section_at (file_at (files_of tables) f) k)) (section_at (file_at (files_of tables) f) k).size
    (relocs_at (file_at (files_of tables) f) k)
sound_at tables f k live =
    let file : File = file_at (files_of tables) f in
    let s : Section = section_at file k in
    let contents = contents_of file.bytes s in
    let inside : IsBodyInside file.bytes file.head file.object = inside_body file (sound_file tables f live) in
    elim (cases_lt k (length file.object.relocs)) [
      | inl lt ↦ record {
        kinds = λ i d less. (inside.relocs k [] lt no_section i d less).kind;
        fits = λ i d less. (inside.relocs k [] lt no_section i d less).fits;
        apart = inside.relocs_apart k [] lt no_section;
      }
      | inr past ↦ subst (AreSound contents s.size) (sym (get_or_past file.object.relocs k [] past)) (none_sound contents s.size)
    ]

-- sections of a file that takes no part have no numbers
pub live_from : (files : List File) (f k : ℕ) → k < section_count (file_at files f) → (file_at files f).live ≡ true
live_from files f k lt = go (file_at files f).live lt
  where
    go : (b : Bool) → k < (if b then length (file_at files f).head.sections + commons_before (file_at files f) (length (file_at files f).head.symbols) else 0) → b ≡ true
    go true lt = refl
    go false lt = absurd (omega (arith, lt))

pub sound_of : (tables : Tables) (n : ℕ) → n < section_total (files_of tables) →
    let file = file_at (files_of tables) (place_of (files_of tables) n).file in
    let s = section_at file (place_of (files_of tables) n).index in
    AreSound (contents_of file.bytes s) s.size (relocs_of (files_of tables) n)
sound_of tables n lt =
    let files = files_of tables in
    let law = place_of_number files n lt in
    sound_at tables (place_of files n).file (place_of files n).index (live_from files (place_of files n).file (place_of files n).index law.index)

-- the size of an input section that is a file's own; one that has relocations is
own_size : (files : List File) (b : Bindings) (f k : ℕ) → k < length (file_at files f).head.sections → (input_of files b f k).size ≡ (section_at (file_at files f) k).size
unfolding input_of
own_size files b f k lt =
    ap (λ t. (if t then section_input (file_at files f) k else room_input (common_in files b f k)).size) (lt-ltb k (length (file_at files f).head.sections) lt)

-- a call has eight bytes, and what stands after it may move
pub record IsCallKind (kind : ℕ) : Type 0 where
  pub width : (kind_of kind).width ≡ 8
  pub plain : is_padding (kind_of kind).calculation ≡ false
  pub moves : moves_bytes kind ≡ true

first_kind : IsCallKind R_RISCV_CALL
unfolding kind_of moves_bytes
first_kind = record { width = refl; plain = refl; moves = refl }

second_kind : IsCallKind R_RISCV_CALL_PLT
unfolding kind_of moves_bytes
second_kind = record { width = refl; plain = refl; moves = refl }

pub call_kind : (kind : ℕ) → is_call kind ≡ true → IsCallKind kind
unfolding is_call
call_kind kind is = elim (or_cases (R_RISCV_CALL == kind) ((R_RISCV_CALL_PLT == kind) || false) is) [
  | inl first ↦ subst IsCallKind (eqb-true R_RISCV_CALL kind first) first_kind
  | inr rest ↦ elim (or_cases (R_RISCV_CALL_PLT == kind) false rest) [
    | inl second ↦ subst IsCallKind (eqb-true R_RISCV_CALL_PLT kind second) second_kind
    | inr none ↦ let wrong : ⊥ = cc in absurd wrong
  ]
]

pub call_width : (r : Reloc) → is_call r.kind ≡ true → place_width r ≡ 8
unfolding place_width is_alignment
call_width r is =
    let kind = call_kind r.kind is in
    ap (λ b. if b then unsigned_abs r.addend else (kind_of r.kind).width) kind.plain ∙ kind.width

pub call_plain : (r : Reloc) → is_call r.kind ≡ true → is_alignment r ≡ false
unfolding is_alignment
call_plain r is = (call_kind r.kind is).plain

-- what stands after a cut may move
cut_moves : (size : ℕ) (r : Reloc) → is_cut size r ≡ true → moves_bytes r.kind ≡ true
unfolding is_cut has_nops
cut_moves size r is = elim (or_cases (is_alignment r && nat_lt 0 (place_width r)) (is_call r.kind && nat_lt size 8) is) [
  | inl nops ↦ alignment_moves r (and_parts (is_alignment r) (nat_lt 0 (place_width r)) nops).0
  | inr call ↦ (call_kind r.kind (and_parts (is_call r.kind) (nat_lt size 8) call).0).moves
]

pub stays : (size : ℕ) (r : Reloc) → moves_bytes r.kind ≡ false → is_cut size r ≡ false
stays size r still = go (is_cut size r) refl
  where
    go : (b : Bool) → is_cut size r ≡ b → b ≡ false
    go true is = absurd (false≢true (sym still ∙ cut_moves size r is))
    go false is = refl

pub adds_none : (size : ℕ) (r : Reloc) → moves_bytes r.kind ≡ false → added size r ≡ []
unfolding added
adds_none size r still = ap (λ b. if b then cut_of size r ∷ [] else []) (stays size r still)

-- what a relocation that is a cut has
pub record IsMoving (r : Reloc) (c : Cut) : Type 0 where
  pub at : c.at ≡ r.offset
  pub whole : c.whole ≡ place_width r
  pub some : 0 < place_width r
  pub kept : c.kept ≤ c.whole
  pub moves : moves_bytes r.kind ≡ true
  pub own : (is_alignment r ≡ true) ⊎ IsOwnCall c r

pub moving : (size : ℕ) (r : Reloc) → IsOneSize size → is_cut size r ≡ true → IsMoving r (cut_of size r)
unfolding is_cut cut_of has_nops
moving size r one is = elim (or_cases (is_alignment r && nat_lt 0 (place_width r)) (is_call r.kind && nat_lt size 8) is) [
  | inl nops ↦
      let parts = and_parts (is_alignment r) (nat_lt 0 (place_width r)) nops in
      let kept = ap (λ b. if b then place_width r else size) parts.0 in
      record {
        at = refl;
        whole = refl;
        some = ltb-true 0 (place_width r) parts.1;
        kept = omega (arith, kept);
        moves = alignment_moves r parts.0;
        own = inl parts.0;
      }
  | inr call ↦
      let parts = and_parts (is_call r.kind) (nat_lt size 8) call in
      let wide = call_width r parts.0 in
      let plain = call_plain r parts.0 in
      let small : size < 8 = ltb-true size 8 parts.1 in
      let kept : (if is_alignment r then place_width r else size) ≡ size = ap (λ b. if b then place_width r else size) plain in
      record {
        at = refl;
        whole = refl;
        some = omega (arith, wide);
        kept = omega (arith, kept, wide, small);
        moves = (call_kind r.kind parts.0).moves;
        own = inr record {
          call = parts.0;
          at = refl;
          plain = plain;
          whole = wide;
          kept = elim one [
            | inl two ↦ inl (kept ∙ two)
            | inr more ↦ elim more [ inl four ↦ inr (kept ∙ four) | inr eight ↦ absurd (omega (arith, small, eight)) ]
          ];
        };
      }
]

module _ (contents : List ℕ) (size : ℕ) (relocs : List Reloc) (sound : AreSound contents size relocs) (sizes : ℕ → ℕ) (lawful : (k : ℕ) → IsOneSize (sizes k)) where
  abbrev at : ℕ → Reloc
  at k = get_or relocs k no_reloc

  abbrev wanted : ℕ → Bool
  wanted k = is_cut (sizes k) (at k)

  abbrev cut : ℕ → Cut
  cut k = cut_of (sizes k) (at k)

  abbrev kept_ones : List ℕ
  kept_ones = filter wanted (range_with_len 0 (length relocs))

  is_one : (k : ℕ) → wanted k ≡ true → IsMoving (at k) (cut k)
  is_one k is = moving (sizes k) (at k) (lawful k) is

  -- each is the number of a relocation that is a cut
  below : All (λ k. k < length relocs) (range_with_len 0 (length relocs))
  below = λ i d lt. let same = get_or-range_with_len 0 (length relocs) i d (omega (arith, length-range_with_len 0 (length relocs), lt)) in omega (arith, same, lt, length-range_with_len 0 (length relocs))

  number_low : (p d : ℕ) → p < length kept_ones → get_or kept_ones p d < length relocs
  number_low p d lt = All-filter wanted (λ k. k < length relocs) (range_with_len 0 (length relocs)) below p d lt

  number_cut : (p d : ℕ) → p < length kept_ones → wanted (get_or kept_ones p d) ≡ true
  number_cut p d lt = filter_passes wanted (range_with_len 0 (length relocs)) p d lt

  in_order : AllPairs (λ a b. a < b) (range_with_len 0 (length relocs))
  in_order i j d less lt =
      let few = length-range_with_len 0 (length relocs) in
      omega (arith, less, get_or-range_with_len 0 (length relocs) i d (omega (arith, few, less, lt)), get_or-range_with_len 0 (length relocs) j d (omega (arith, few, lt)))

  -- the bytes of one end before those of a later one
  one_before : (k j : ℕ) → k < j → j < length relocs → wanted k ≡ true → has_bytes contents (at j) ≡ true → (at k).offset + place_width (at k) ≤ (at j).offset
  one_before k j less lt first some =
      let is = is_one k first in
      let pk = sound.kinds k no_reloc (omega (arith, less, lt)) in
      let end = end_is contents (at k) is.moves pk in
      let before = sound.apart k j no_reloc less lt (bytes_if contents (at k) is.moves pk is.some) some (ap (λ b. b || moves_bytes (at j).kind) is.moves) in
      omega (arith, before, end)

  one_after : (j k : ℕ) → j < k → k < length relocs → wanted k ≡ true → has_bytes contents (at j) ≡ true → end_of contents (at j) ≤ (at k).offset
  one_after j k less lt second some =
      let is = is_one k second in
      let pk = sound.kinds k no_reloc lt in
      sound.apart j k no_reloc less lt some (bytes_if contents (at k) is.moves pk is.some) (or_second (moves_bytes (at j).kind) (moves_bytes (at k).kind) is.moves)
    where
      or_second : (a b : Bool) → b ≡ true → (a || b) ≡ true
      or_second true b e = refl
      or_second false b e = e

  pub cuts_apart : AreApart (cuts_by sizes relocs)
  cuts_apart = record {
    kept = All-map (λ (c : Cut). c.kept ≤ c.whole) cut kept_ones (λ p d lt. (is_one (get_or kept_ones p d) (number_cut p d lt)).kept);
    order = λ p d lt.
        let few = length-map kept_ones cut in
        let k = get_or kept_ones p 0 in
        let j = get_or kept_ones (p + 1) 0 in
        let first = get_or-map cut kept_ones p 0 d (omega (arith, lt, few)) in
        let second = get_or-map cut kept_ones (p + 1) 0 d (omega (arith, lt, few)) in
        let kc = number_cut p 0 (omega (arith, lt, few)) in
        let jc = number_cut (p + 1) 0 (omega (arith, lt, few)) in
        let ki = is_one k kc in
        let ji = is_one j jc in
        let less = AllPairs-filter (λ a b. a < b) wanted (range_with_len 0 (length relocs)) in_order p (p + 1) 0 (omega arith) (omega (arith, lt, few)) in
        let high = number_low (p + 1) 0 (omega (arith, lt, few)) in
        let before = one_before k j less high kc (bytes_if contents (at j) ji.moves (sound.kinds j no_reloc high) ji.some) in
        omega (arith, before, ki.at, ki.whole, ji.at, ap (λ (c : Cut). c.at) first, ap (λ (c : Cut). c.whole) first, ap (λ (c : Cut). c.at) second);
  }

  pub cuts_some : All (λ (c : Cut). 0 < c.whole) (cuts_by sizes relocs)
  cuts_some = All-map (λ (c : Cut). 0 < c.whole) cut kept_ones (λ p d lt.
      let is = is_one (get_or kept_ones p d) (number_cut p d lt) in omega (arith, is.some, is.whole))

  pub cuts_within : All (λ (c : Cut). c.at + c.whole ≤ size) (cuts_by sizes relocs)
  cuts_within = All-map (λ (c : Cut). c.at + c.whole ≤ size) cut kept_ones (λ p d lt.
      let k = get_or kept_ones p d in
      let is = is_one k (number_cut p d lt) in
      let low = number_low p d lt in
      omega (arith, is.at, is.whole, sound.fits k no_reloc low, end_is contents (at k) is.moves (sound.kinds k no_reloc low)))

  abbrev pub IsClear : Reloc → Cut → Type 0
  IsClear r c = (c.at + c.whole ≤ r.offset) ⊎ ((r.offset + value_len contents r ≤ c.at) ⊎ IsOwnCall c r)

  clear_of : (j k : ℕ) → j < length relocs → k < length relocs → 0 < value_len contents (at j) → wanted k ≡ true → IsClear (at j) (cut k)
  clear_of j k high lt wide is =
      let m = is_one k is in
      let rk = sound.kinds j no_reloc high in
      let least = value_least contents (at j) rk in
      let some : has_bytes contents (at j) ≡ true = lt-ltb (at j).offset (end_of contents (at j)) (omega (arith, wide, least)) in
      elim (cases_lt k j) [
        | inl before ↦ inl (omega (arith, one_before k j before high is some, m.at, m.whole))
        | inr from ↦ elim (cases_lt j k) [
          | inl after ↦ inr (inl (omega (arith, one_after j k after lt is some, m.at, least)))
          | inr le ↦
              let same : k ≡ j = omega (arith, from, le) in
              elim m.own [
                | inl align ↦
                    let none = alignment_width (at k) align in
                    let plain = value_plain contents (at k) (moves_plain (at k).kind m.moves) in
                    let own : value_len contents (at k) ≡ value_len contents (at j) = ap (λ n. value_len contents (at n)) same in
                    absurd (omega (arith, none, plain, own, wide))
                | inr call ↦ inr (inr (subst (λ n. IsOwnCall (cut k) (at n)) same call))
              ]
        ]
      ]

  pub cuts_clear : All (λ (r : Reloc). 0 < value_len contents r → All (IsClear r) (cuts_by sizes relocs)) relocs
  cuts_clear j d high wide =
      let same : get_or relocs j d ≡ at j = get_or_default relocs j d no_reloc high in
      let P : Reloc → Type 0 = λ r. All (IsClear r) (cuts_by sizes relocs) in
      subst P (sym same) (All-map (IsClear (at j)) cut kept_ones (λ p e lt.
      clear_of j (get_or kept_ones p e) high (number_low p e lt) (subst (λ (r : Reloc). 0 < value_len contents r) same wide) (number_cut p e lt)))

-- the size of a section that has relocations is that of its header
pub size_is : (tables : Tables) (b : Bindings) (n : ℕ) → n < section_total (files_of tables) → 0 < length (relocs_of (files_of tables) n) →
    (input_at (files_of tables) b n).size ≡ (section_at (file_at (files_of tables) (place_of (files_of tables) n).file) (place_of (files_of tables) n).index).size
size_is tables b n lt some =
    let files = files_of tables in
    let f = (place_of files n).file in
    let k = (place_of files n).index in
    let file : File = file_at files f in
    let law = place_of_number files n lt in
    let inside : IsBodyInside file.bytes file.head file.object = inside_body file (sound_file tables f (live_from files f k law.index)) in
    elim (cases_lt k (length file.head.sections)) [
      | inl own ↦ own_size files b f k own
      | inr past ↦ absurd (omega (arith, some, ap length (get_or_past file.object.relocs k [] (omega (arith, inside.counted, past)))))
    ]

no_relocs : (sizes : ℕ → ℕ) (relocs : List Reloc) → length relocs ≡ 0 → cuts_by sizes relocs ≡ []
no_relocs sizes [] none = refl
no_relocs sizes (r ∷ rs) none = absurd (omega (arith, none))

pub within_input : (tables : Tables) (b : Bindings) (n : ℕ) (sizes : ℕ → ℕ) → n < section_total (files_of tables) → ((k : ℕ) → IsOneSize (sizes k)) →
    All (λ (c : Cut). c.at + c.whole ≤ (input_at (files_of tables) b n).size) (cuts_by sizes (relocs_of (files_of tables) n))
within_input tables b n sizes lt lawful =
    let files = files_of tables in
    let relocs = relocs_of files n in
    let file = file_at files (place_of files n).file in
    let s = section_at file (place_of files n).index in
    elim (cases_lt 0 (length relocs)) [
      | inl some ↦
          let P : ℕ → Type 0 = λ size. All (λ (c : Cut). c.at + c.whole ≤ size) (cuts_by sizes relocs) in
          subst P (sym (size_is tables b n lt some)) (cuts_within (contents_of file.bytes s) s.size relocs (sound_of tables n lt) sizes lawful)
      | inr none ↦
          let P : List Cut → Type 0 = λ cs. All (λ (c : Cut). c.at + c.whole ≤ (input_at files b n).size) cs in
          subst P (sym (no_relocs sizes relocs (omega (arith, none)))) (All-nil (λ (c : Cut). c.at + c.whole ≤ (input_at files b n).size))
    ]

-- the cuts of all sections
pub fit_sections : (tables : Tables) (cuts : List (List Cut)) (sizes : (n k : ℕ) → ℕ) → length cuts ≡ section_total (files_of tables) →
    ((n : ℕ) → n < section_total (files_of tables) → get_or cuts n [] ≡ cuts_by (sizes n) (relocs_of (files_of tables) n)) → ((n k : ℕ) → IsOneSize (sizes n k)) →
    FitSections (files_of tables) cuts
fit_sections tables cuts sizes count row lawful =
    let files = files_of tables in
    record {
      count = count;
      some = λ n lt.
          let file = file_at files (place_of files n).file in
          let s = section_at file (place_of files n).index in
          subst (All (λ (c : Cut). 0 < c.whole)) (sym (row n lt)) (cuts_some (contents_of file.bytes s) s.size (relocs_of files n) (sound_of tables n lt) (sizes n) (lawful n));
      within = λ b n lt. subst (All (λ (c : Cut). c.at + c.whole ≤ (input_at files b n).size)) (sym (row n lt)) (within_input tables b n (sizes n) lt (lawful n));
      clear = λ n lt.
          let file = file_at files (place_of files n).file in
          let s = section_at file (place_of files n).index in
          let P : List Cut → Type 0 = λ cs. All (λ (r : Reloc). 0 < value_len (contents_of file.bytes s) r → All (λ (c : Cut). (c.at + c.whole ≤ r.offset) ⊎ ((r.offset + value_len (contents_of file.bytes s) r ≤ c.at) ⊎ IsOwnCall c r)) cs) (relocs_of files n) in
          subst P (sym (row n lt)) (cuts_clear (contents_of file.bytes s) s.size (relocs_of files n) (sound_of tables n lt) (sizes n) (lawful n));
    }
