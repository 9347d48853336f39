-- A section that is its own leader: its offsets as it is laid, and at most; and that they stay even.
use Rattle.std.proofs.Common.{◌≡◌, ◌≢◌, ℕ, ◌+◌, ◌<◌, ◌≤◌, ◌%◌, ◌==◌, ◌&&◌, ◌||◌, Bool, true, false, if◌then◌else◌, max, Option, Some, None, List, [], ◌∷◌, length, flat_map, get_or, refl, sym, ap, ◌∙◌, subst, arith, inl, inr, nat_lt}
use Rattle.std.specs.Prelude.{All, is_some, not, unsigned_abs, pos}
use Rattle.std.specs.Ordering.{int_eq}
use Rattle.std.specs.List.{range_with_len}
use Rattle.std.proofs.lemmas.Bool.{and_parts, cases_lt, eqb-true, false≢true, le-ltb, lt-ltb, ltb-true}
use Rattle.std.proofs.lemmas.List.{get_or_default, get_or_past}
use Rattle.std.proofs.lemmas.List.FromFn.{get_or-range_with_len, length-range_with_len}
use Rattle.lk_base.specs.declared.abi.TheConstants.{SHF_ALLOC, SHF_WRITE, SHT_NOBITS}
use Rattle.lk_tables.specs.declared.classes.Class.{Class}
use Rattle.lk_tables.specs.declared.classes.Class.TheVariants.{R, Rx, TlsBits, TlsNobits, RwBits, RwNobits}
use Rattle.lk_tables.specs.declared.commons.BoundCommon.{BoundCommon}
use Rattle.lk_tables.specs.declared.heads.Section.{Section as HeadSection}
use Rattle.lk_tables.specs.declared.objects.Reloc.{Reloc}
use Rattle.lk_tables.specs.declared.tables.Tables.{Tables}
use Rattle.lk_tables.specs.Binding.{Bindings}
use Rattle.lk_tables.specs.Classes.{is_in}
use Rattle.lk_tables.specs.Files.{File, file_at, no_reloc, no_section, section_at, section_no, section_total, writes}
use Rattle.lk_tables.specs.InputSections.{InputSection, common_in, input_of, may_stay, room_input, section_input}
use Rattle.lk_tables.specs.Inside.{IsBodyInside, IsRelocWithin}
use Rattle.lk_tables.specs.Relocations.{is_alignment, place_width}
use Rattle.lk_tables.specs.Sections.{is_written}
use Rattle.lk_tables.specs.Sites.{place_of, relocs_of}
use Rattle.lk_tables.specs.TablesView.{files_of}
use Rattle.lk_tables.specs.Targets.{is_gone}
use Rattle.lk_tables.proofs.Owners.{place_of_number}
use Rattle.lk_tables.proofs.SoundFiles.{inside_body, sound_file}
use Rattle.link_sections.specs.declared.pools.Pool.{Pool}
use Rattle.link_sections.specs.Calls.{is_call}
use Rattle.link_sections.specs.declared.members.Content.TheVariants.{Section}
use Rattle.link_sections.specs.Cuts.{AreApart, Cut, new_offset}
use Rattle.link_sections.specs.InputSections.{input_at}
use Rattle.link_sections.specs.LaidOut.{LaidOut, cuts_at, start_at}
use Rattle.link_sections.specs.Leaders.{leads}
use Rattle.link_sections.specs.PoolViews.{Merged}
use Rattle.link_sections.proofs.CutSums.{new_rises}
use Rattle.layout.specs.Cutting.{is_short, laid_cuts}
use Rattle.layout.proofs.CutsPassed.{AreFrom, apart_from}
use Rattle.layout.proofs.Powers.{power_even}
use Rattle.output_sections.specs.Order.{is_content, number_in}
use Rattle.output_sections.proofs.ItemFacts.{members_known, stays_of}
use Rattle.layout.proofs.SizeBounds.{apart_at}
use Rattle.relax.specs.declared.calls.Call.{Call}
use Rattle.output_sections.specs.declared.rows.Row.{Row}
use Rattle.relax.specs.CallSizes.{call_at, calls_in, cut_of, cuts_by, first_call, is_cut, is_plain, member_at, place_in, reloc_of, row_at, size_in, upper_offset}
use Rattle.relax.specs.Jumps.{size_at}
use Rattle.relax.specs.Placing.{IsOneSize}
use Rattle.relax.specs.Points.{AreSoundRows}
use Rattle.relax.specs.Sizes.{has_nops}
use Rattle.relax.proofs.CutSteps.{size_one}
use Rattle.relax.proofs.Fitting.{call_plain, call_width, live_from}
use Rattle.relax.proofs.RowFacts.{rows_sound}
use Rattle.link_driver.proofs.Classes.{HasBits}
use Rattle.link_driver.proofs.Evens.{MayBeEven, laid_even, offset_even}
use Rattle.link_driver.proofs.Given.{IsGiven, the_members, the_rows}
use Rattle.link_driver.proofs.Losses.{lower, nearer}
use Rattle.link_driver.proofs.Members.{at_place, place_low}
use Rattle.link_driver.proofs.Shortened.{IsLanded, all_kept, calls_are, cuts_before, landed, placed_call, row_is}

align_width : (r : Reloc) → is_alignment r ≡ true → place_width r ≡ unsigned_abs r.addend
unfolding place_width
align_width r align = rw align refl

kept_even : (size : ℕ) → IsOneSize size → size % 2 ≡ 0
kept_even size one = elim one [ inl two ↦ omega (arith, two) | inr more ↦ elim more [ inl four ↦ omega (arith, four) | inr eight ↦ omega (arith, eight) ] ]

-- a cut is even where its call, or its alignment, is
one_even_cut : (size : ℕ) (r : Reloc) → IsOneSize size → is_cut size r ≡ true → (is_alignment r ≡ true → unsigned_abs r.addend % 2 ≡ 0) → (is_call r.kind ≡ true → size < 8 → r.offset % 2 ≡ 0)
    → MayBeEven (cut_of size r)
unfolding is_cut cut_of has_nops
one_even_cut size r one cut padding even = by (is_alignment r) refl (is_call r.kind) refl (nat_lt 0 (place_width r)) refl (nat_lt size 8) refl cut
  where
    by : (a : Bool) → is_alignment r ≡ a → (c : Bool) → is_call r.kind ≡ c → (w : Bool) → nat_lt 0 (place_width r) ≡ w → (l : Bool) → nat_lt size 8 ≡ l → ((a && w) || (c && l)) ≡ true
        → MayBeEven (record { at = r.offset; whole = place_width r; kept = if a then place_width r else size; is_align = a })
    by true align c call true some l less any = record {
      call = λ plain. absurd (false≢true (sym plain));
      whole = omega (arith, align_width r align, padding align);
      some = ltb-true 0 (place_width r) some;
    }
    by true align true call false none l less any = absurd (false≢true (sym (call_plain r call) ∙ align))
    by true align false call false none l less any = absurd (false≢true any)
    by false align true call w some true less any =
        let wide = call_width r call in
        record {
          call = λ plain. record { at = even call (ltb-true size 8 less); whole = omega (arith, wide); kept = kept_even size one };
          whole = omega (arith, wide);
          some = omega (arith, wide);
        }
    by false align true call w some false less any = absurd (false≢true any)
    by false align false call w some l less any = absurd (false≢true any)

-- what a file promises of a relocation
pub reloc_within : (tables : Tables) (n k : ℕ) → n < section_total (files_of tables) → k < length (relocs_of (files_of tables) n) →
    let file = file_at (files_of tables) (place_of (files_of tables) n).file in
    IsRelocWithin file.bytes (length file.head.symbols) (section_at file (place_of (files_of tables) n).index) (get_or (relocs_of (files_of tables) n) k no_reloc)
reloc_within tables n k lt low =
    let files = files_of tables in
    let f = (place_of files n).file in
    let i = (place_of files n).index in
    let file : File = file_at files f in
    let law = place_of_number files n lt in
    let inside : IsBodyInside file.bytes file.head file.object = inside_body file (sound_file tables f (live_from files f i law.index)) in
    elim (cases_lt i (length file.object.relocs)) [
      | inl own ↦ inside.relocs i [] own no_section k no_reloc low
      | inr past ↦ absurd (omega (arith, low, ap length (get_or_past file.object.relocs i [] past)))
    ]

-- a section with relocations is a file's own, and has bytes in it
pub own_index : (tables : Tables) (n k : ℕ) → n < section_total (files_of tables) → k < length (relocs_of (files_of tables) n)
    → (place_of (files_of tables) n).index < length (file_at (files_of tables) (place_of (files_of tables) n).file).head.sections
own_index tables n k lt low =
    let files = files_of tables in
    let f = (place_of files n).file in
    let i = (place_of files n).index in
    let file : File = file_at files f in
    let law = place_of_number files n lt in
    let inside : IsBodyInside file.bytes file.head file.object = inside_body file (sound_file tables f (live_from files f i law.index)) in
    elim (cases_lt i (length file.head.sections)) [
      | inl own ↦ own
      | inr past ↦ absurd (omega (arith, low, ap length (get_or_past file.object.relocs i [] (omega (arith, inside.counted, past)))))
    ]

pub input_own : (files : List File) (b : Bindings) (f k : ℕ) → k < length (file_at files f).head.sections → input_of files b f k ≡ section_input (file_at files f) k
unfolding input_of
input_own files b f k lt = ap (λ t. if t then section_input (file_at files f) k else room_input (common_in files b f k)) (lt-ltb k (length (file_at files f).head.sections) lt)

pub has_bits : (tables : Tables) (b : Bindings) (n k : ℕ) → n < section_total (files_of tables) → k < length (relocs_of (files_of tables) n) → (input_at (files_of tables) b n).sh_type ≢ SHT_NOBITS
has_bits tables b n k lt low is =
    let files = files_of tables in
    let own = input_own files b (place_of files n).file (place_of files n).index (own_index tables n k lt low) in
    (reloc_within tables n k lt low).bits (sym (ap (λ (s : InputSection). s.sh_type) own) ∙ is)

-- alignments of at least two bytes are even
room_class : (class : Class) → HasBits class → is_in class SHT_NOBITS (SHF_WRITE + SHF_ALLOC) ≡ false
unfolding is_in
room_class R bits = refl
room_class Rx bits = refl
room_class TlsBits bits = refl
room_class TlsNobits bits = absurd bits
room_class RwBits bits = refl
room_class RwNobits bits = absurd bits

max_two : (a : ℕ) → 2 ≤ max 1 a → (a ≡ max 1 a) × (2 ≤ a)
max_two a le = (omega (arith, le), omega (arith, le))

stays_written : (files : List File) (b : Bindings) (f k : ℕ) → k < length (file_at files f).head.sections → may_stay files b f k ≡ true → writes (file_at files f) k ≡ true
unfolding may_stay
stays_written files b f k lt stays =
    let own = lt-ltb k (length (file_at files f).head.sections) lt in
    (and_parts (writes (file_at files f) k) (not (is_gone b (section_no files f k))) (sym (ap (λ t. if t then writes (file_at files f) k && not (is_gone b (section_no files f k)) else is_some (common_in files b f k)) own) ∙ stays)).0

input_room : (files : List File) (b : Bindings) (f k : ℕ) → length (file_at files f).head.sections ≤ k → input_of files b f k ≡ room_input (common_in files b f k)
unfolding input_of
input_room files b f k past = ap (λ t. if t then section_input (file_at files f) k else room_input (common_in files b f k)) (le-ltb k (length (file_at files f).head.sections) past)

room_even : (class : Class) → HasBits class → (c : Option BoundCommon) → is_in class (room_input c).sh_type (room_input c).flags ≡ true → 2 ≤ (room_input c).align → (room_input c).align % 2 ≡ 0
room_even class bits None of wide = absurd (omega (arith, wide))
room_even class bits (Some c) of wide = absurd (false≢true (sym (room_class class bits) ∙ of))

align_by : (tables : Tables) (b : Bindings) (class : Class) (f k : ℕ) → HasBits class → (file_at (files_of tables) f).live ≡ true → may_stay (files_of tables) b f k ≡ true
    → is_in class (input_of (files_of tables) b f k).sh_type (input_of (files_of tables) b f k).flags ≡ true → 2 ≤ (input_of (files_of tables) b f k).align → (input_of (files_of tables) b f k).align % 2 ≡ 0
align_by tables b class f k bits live stays of wide =
    let files = files_of tables in
    let file : File = file_at files f in
    let s : HeadSection = section_at file k in
    elim (cases_lt k (length file.head.sections)) [
      | inl lt ↦
          let own = input_own files b f k lt in
          let written = and_parts (nat_lt 0 k) (is_written file.bytes s) (stays_written files b f k lt stays) in
          let inside : IsBodyInside file.bytes file.head file.object = inside_body file (sound_file tables f live) in
          let linked = inside.linked k no_section lt (ltb-true 0 k written.0) written.1 in
          let align_is = ap (λ (x : InputSection). x.align) own in
          let two = max_two s.align (omega (arith, wide, align_is)) in
          let same = two.0 in
          let large = two.1 in
          let even = power_even s.align (linked.align.power (λ none. omega (arith, none, large))) large in
          omega (arith, align_is, same, even)
      | inr past ↦
          let room = input_room files b f k past in
          let P : InputSection → Type 0 = λ i. i.align % 2 ≡ 0 in
          subst P (sym room) (room_even class bits (common_in files b f k) (subst (λ (i : InputSection). is_in class i.sh_type i.flags ≡ true) room of) (subst (λ (i : InputSection). 2 ≤ i.align) room wide))
    ]

module _ (tables : Tables) (b : Bindings) (pools : List Pool) (merged : List (Option Merged)) (words : ℕ) (leaders : List (Option ℕ)) (laid : LaidOut) (sizes : List (List Cut)) (z : List ℕ)
    (given : IsGiven tables b pools merged words leaders laid sizes z) where
  abbrev files : List File
  files = files_of tables

  abbrev ms : List Row
  ms = the_members tables b pools merged words leaders laid sizes z

  abbrev rows : List (List Call)
  rows = the_rows tables b pools merged words leaders laid sizes z

  pub rows_are_sound : AreSoundRows ms rows
  rows_are_sound = rows_sound tables b merged leaders ms true (members_known files b pools words leaders given.are)

  pub few_sizes : (k : ℕ) → size_at z k ≤ 8
  few_sizes k = elim (cases_lt k (length z)) [
    | inl lt ↦ most (size_at z k) (given.ones k 8 lt)
    | inr past ↦ omega (arith, get_or_past z k 8 past)
  ]
    where
      most : (s : ℕ) → IsOneSize s → s ≤ 8
      most s one = elim one [ inl two ↦ omega (arith, two) | inr more ↦ elim more [ inl four ↦ omega (arith, four) | inr eight ↦ omega (arith, eight) ] ]

  -- a section that is its own leader
  module _ (n : ℕ) (n_low : n < section_total files) (leader : leads leaders n ≡ true) where
    abbrev pub i : ℕ
    i = place_in (the_members tables b pools merged words leaders laid sizes z) n

    pub i_low : place_in (the_members tables b pools merged words leaders laid sizes z) n < length (the_members tables b pools merged words leaders laid sizes z)
    i_low = place_low files b pools words leaders given.few.section_count_is n n_low leader

    at : (member_at ms i).content ≡ Section n
    at = at_place ms n i_low

    pub own_row : row_at rows i ≡ flat_map (call_at files b merged leaders ms i n) (range_with_len 0 (length (relocs_of files n)))
    unfolding calls_in
    own_row =
        row_is files b merged leaders ms true i i_low
        ∙ ap (λ c. if true && is_content c then calls_in files b merged leaders ms i (number_in c) else []) at

    abbrev own_sizes : ℕ → ℕ
    own_sizes k = size_in rows z i k

    one : (k : ℕ) → IsOneSize (own_sizes k)
    one k = size_one rows z i k given.ones

    pub cuts_are : cuts_at laid n ≡ laid_cuts (start_at laid n) (cuts_by own_sizes (relocs_of files n))
    cuts_are =
        given.cuts n n_low leader
        ∙ ap (λ (l : List (List Cut)). laid_cuts (start_at laid n) (get_or l n [])) given.sizes_are
        ∙ ap (laid_cuts (start_at laid n)) (cuts_before files ms rows z n n_low)

    own_apart : AreApart (cuts_at laid n)
    own_apart = apart_at laid.cuts n given.sound.apart

    laid_apart : AreApart (laid_cuts (start_at laid n) (cuts_by own_sizes (relocs_of files n)))
    laid_apart = subst AreApart cuts_are own_apart

    -- its offsets
    pub no_nearer : (x y : ℕ) → x ≤ y → new_offset (cuts_at laid n) y + upper_offset ms rows z i x ≤ new_offset (cuts_at laid n) x + upper_offset ms rows z i y
    no_nearer x y le =
        let P : List Cut → Type 0 = λ l. new_offset l y + upper_offset ms rows z i x ≤ new_offset l x + upper_offset ms rows z i y in
        subst P (sym cuts_are)
        (nearer files b merged leaders ms rows z i n own_row (start_at laid n) (member_at ms i).size one few_sizes (rows_are_sound.apart i i_low) laid_apart x y le)

    pub no_higher : (o : ℕ) → new_offset (cuts_at laid n) o ≤ upper_offset ms rows z i o
    no_higher o =
        let P : List Cut → Type 0 = λ l. new_offset l o ≤ upper_offset ms rows z i o in
        subst P (sym cuts_are)
        (lower files b merged leaders ms rows z i n own_row (start_at laid n) (member_at ms i).size one few_sizes (rows_are_sound.apart i i_low) laid_apart o)

    pub rises : (x y : ℕ) → x ≤ y → new_offset (cuts_at laid n) x ≤ new_offset (cuts_at laid n) y
    rises x y le = new_rises (cuts_at laid n) x y own_apart le

    -- the call of a relocation that has less than eight bytes
    pub record HasCall (k : ℕ) : Type 0 where
      pub call : Call
      pub place : ℕ
      pub low : place < length (row_at rows i)
      pub at_is : (d : Call) → get_or (row_at rows i) place d ≡ call
      pub size : size_at z (first_call rows i + place) ≡ size_in rows z i k
      pub lands : IsLanded files b merged leaders ms i n k call

    pub has_call : (k : ℕ) → size_in rows z i k < 8 → HasCall k
    has_call k small =
        let placed = placed_call rows z i k small in
        let no_one : Call = record { from = 0; offset = 0; reloc = 0; to = 0; target = 0; least = 4 } in
        let c : Call = get_or (row_at rows i) placed.place no_one in
        let all = subst (λ l. All (λ (x : Call). (j : ℕ) → x.reloc ≡ j → call_at files b merged leaders ms i n j ≡ x ∷ []) l) (sym own_row) (calls_are files b merged leaders ms i n 0 (length (relocs_of files n))) in
        let here = all placed.place no_one placed.low k (placed.reloc no_one) in
        record {
          call = c;
          place = placed.place;
          low = placed.low;
          at_is = λ d. get_or_default (row_at rows i) placed.place d no_one placed.low;
          size = placed.size;
          lands = landed files b merged leaders ms i n k c here;
        }

    plain_even : (r : Reloc) → is_plain r ≡ true → r.offset % 2 ≡ 0
    unfolding is_plain
    plain_even r is =
        eqb-true (r.offset % 2) 0 (and_parts (int_eq r.addend (pos 0)) (r.offset % 2 == 0) (and_parts (is_call r.kind) (int_eq r.addend (pos 0) && r.offset % 2 == 0) is).1).1

    pub call_even : (k : ℕ) → size_in rows z i k < 8 → (reloc_of files n k).offset % 2 ≡ 0
    call_even k small = plain_even (reloc_of files n k) (has_call k small).lands.plain

    all_even : All MayBeEven (cuts_by own_sizes (relocs_of files n))
    all_even =
        let count = length (relocs_of files n) in
        all_kept (λ k. k < count) MayBeEven (λ k. cut_of (own_sizes k) (get_or (relocs_of files n) k no_reloc)) (λ k. is_cut (own_sizes k) (get_or (relocs_of files n) k no_reloc)) (range_with_len 0 count)
        (λ k lt cut. one_even_cut (own_sizes k) (get_or (relocs_of files n) k no_reloc) (one k) cut (λ align. ((reloc_within tables n k n_low lt).padding align).even) (λ call small. call_even k small))
        (λ j d lt. let low : j < count = omega (arith, lt, length-range_with_len 0 count) in omega (arith, low, get_or-range_with_len 0 count j d low))

    from_plain : AreFrom 0 (laid_cuts (start_at laid n) (cuts_by own_sizes (relocs_of files n)))
    from_plain = apart_from (laid_cuts (start_at laid n) (cuts_by own_sizes (relocs_of files n))) laid_apart

    -- an even offset stays even where the section starts at an even address
    pub stays_even : AreFrom 0 (cuts_by own_sizes (relocs_of files n)) → start_at laid n % 2 ≡ 0 → (o : ℕ) → o % 2 ≡ 0 → new_offset (cuts_at laid n) o % 2 ≡ 0
    stays_even plain even o o_even =
        let short = subst (λ l. All (λ (c : Cut). is_short c ≡ false) l) cuts_are (given.short n n_low leader) in
        let all = laid_even (start_at laid n) (cuts_by own_sizes (relocs_of files n)) even plain all_even short laid_apart.kept in
        subst (λ l. new_offset l o % 2 ≡ 0) (sym cuts_are) (offset_even (laid_cuts (start_at laid n) (cuts_by own_sizes (relocs_of files n))) o from_plain all o_even)

    -- its alignment is even, if it has at least two bytes
    pub align_even : (class : Class) → HasBits class → is_in class (input_at files b n).sh_type (input_at files b n).flags ≡ true → 2 ≤ (input_at files b n).align → (input_at files b n).align % 2 ≡ 0
    align_even class bits of wide =
        let stays = stays_of files b leaders n given.are leader in
        let law = place_of_number files n n_low in
        align_by tables b class (place_of files n).file (place_of files n).index bits (live_from files (place_of files n).file (place_of files n).index law.index) stays.stays of wide
