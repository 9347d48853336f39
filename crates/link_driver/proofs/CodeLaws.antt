-- What code does at the places of relocations, in a link whose relocations can all be done.
use Rattle.std.proofs.Common.{◌≡◌, ◌≢◌, ℕ, ◌+◌, ◌-◌, ◌<◌, ◌≤◌, ◌⊎◌, ◌==◌, ◌&&◌, not, Bool, true, false, if◌then◌else◌, Option, Some, None, List, [], ◌∷◌, length, take, drop, find, flat_map, get_or, slice_index, refl, sym, ap, ◌∙◌, subst, arith, inl, inr, ℤ, pos, ◌-ℤ◌}
use Rattle.std.specs.Prelude.{◌*◌, ◌+ℤ◌, is_some, option_and_then, option_map, unwrap_or}
use Rattle.std.specs.Int.{to_le_bytes, w16, w32}
use Rattle.std.specs.List.{range_with_len}
use Rattle.std.proofs.lemmas.Bool.{and_parts, cases_lt, eq-eqb, eqb-true, false≢true}
use Rattle.std.proofs.lemmas.Bool.Decides.{nat_tests}
use Rattle.std.proofs.lemmas.List.{ext_get_or, get_or-drop, get_or-take, length-drop, length-take, length-take-le}
use Rattle.std.proofs.lemmas.List.FromFn.{length-map-range_with_len}
use Rattle.byteorder.specs.Endian.{little_number}
use Rattle.lk_base.specs.Formats.{Field, i_format, plain, s_format, upper}
use Rattle.lk_base.specs.Reaches.{Reach, Takes, misfit_of}
use Rattle.lk_base.specs.RelocKinds.{far, is_among, is_lower, is_partner, is_uleb, is_upper, kind_of}
use Rattle.lk_base.specs.declared.abi.TheConstants.{R_RISCV_BRANCH, R_RISCV_CALL, R_RISCV_CALL_PLT, R_RISCV_JAL, R_RISCV_RVC_BRANCH, R_RISCV_RVC_JUMP, SHT_NOBITS}
use Rattle.lk_base.specs.declared.defects.Defect.{Defect}
use Rattle.lk_base.specs.declared.defects.Misfit.{Misfit}
use Rattle.lk_base.specs.declared.defects.Misfit.TheVariants.{Odd, Range}
use Rattle.lk_base.specs.declared.kinds.TheConstants as kinds
use Rattle.lk_base.specs.declared.relocations.Calculation.{Calculation}
use Rattle.lk_base.specs.declared.relocations.Calculation.TheVariants.{Address, Distance, GotDistance, ThreadOffset}
use Rattle.lk_tables.specs.declared.objects.Reloc.{Reloc}
use Rattle.lk_tables.specs.declared.section_places.SectionPlace.{SectionPlace}
use Rattle.lk_tables.specs.declared.tables.Tables.{Tables}
use Rattle.lk_tables.specs.Binding.{Bindings}
use Rattle.lk_tables.specs.Files.{File, file_at, no_reloc, section_at, section_total}
use Rattle.lk_tables.specs.Sites.{contents_at, place_of as site_of, relocs_of}
use Rattle.lk_tables.specs.TablesView.{files_of}
use Rattle.lk_tables.specs.Walks.{reloc_defect}
use Rattle.lk_tables.specs.Misfits.{misfit_defects, value_defects}
use Rattle.link_sections.specs.declared.got.GotEntry.{GotEntry}
use Rattle.link_sections.specs.declared.members.Content.{Content}
use Rattle.link_sections.specs.declared.members.Content.TheVariants.{Section, Pool, Got}
use Rattle.link_sections.specs.declared.members.Member.{Member}
use Rattle.link_sections.specs.Calls.{acting_number, acting_kind, call_size, is_call, kind_by_size}
use Rattle.link_sections.specs.Cuts.{Cut, new_offset}
use Rattle.link_sections.specs.GotEntries.{key_of, use_of}
use Rattle.link_sections.specs.InputSections.{input_at}
use Rattle.link_sections.specs.LaidOut.{LaidOut, cuts_at}
use Rattle.link_sections.specs.Leaders.{is_number, leads}
use Rattle.link_sections.specs.Sound.{IsSound, is_section}
use Rattle.rv_code.specs.Instructions.{AreNops, IsJal, IsShortJump, nop_byte, rd_of}
use Rattle.rv_code.specs.Places.{HoldsValue, ReadsBack, number_of}
use Rattle.rv_code.specs.Transfers.{Goes}
use Rattle.rv_code.proofs.Going.{goes}
use Rattle.rv_code.proofs.JumpWords.{jal_word as jal_is, short_word}
use Rattle.relax.proofs.Fitting.{call_kind, call_width, end_is, sound_of}
use Rattle.layout.proofs.Sounds.{none_at}
use Rattle.reloc_apply.specs.Founds.{no_member}
use Rattle.reloc_apply.specs.Relocated.{bytes_after, has_bits, is_laid, operand, reach_in, reloc_defects, relocation_defects, section_bytes, section_defects, staying_at, value_at, width_at, written_in}
use Rattle.reloc_apply.specs.Staying.{call_bytes, jal_word, kept_bytes, no_cut, nops, staying}
use Rattle.reloc_apply.specs.Values.{computed, direct_value, entry_of, is_upper_at, label_in, partner_of, place_of, spot_in, sum_of, thread_of, value_of, word_at, word_for}
use Rattle.reloc_apply.proofs.BytesAfter.{AllFit, after_none, whole_length}
use Rattle.reloc_apply.proofs.LaidFacts.{IsKnown, any_at, cuts_apart, known, raw_size, stay_size}
use Rattle.reloc_apply.proofs.MemberFacts.{any_from, file_sound}
use Rattle.reloc_apply.proofs.SoundLists.{all_sound}
use Rattle.reloc_apply.proofs.States.{at_of, kind_at, plain_width, width_of}
use Rattle.reloc_apply.proofs.StayingSizes.{AreIn}
use Rattle.link_driver.specs.Code.{AddUp, CodeStands, HasBytes, HasEntry, HaveOwnCuts, IsLast, at, cut, distance, placed, reloc, second_word, thread_offset, upper_kinds, width}
use Rattle.link_driver.proofs.CodeKinds.{Computes, IsJumpLine, IsUpperLine, address_is, asks_is, call_is, computed_same, here_is, jump_is, jump_kinds, label_is, lower_i_is, lower_s_is, thread_is, upper_is}
use Rattle.link_driver.proofs.CodePlaces.{IsCutOf, away_from_call, away_from_nops, cut_of_call}
use Rattle.link_driver.proofs.FieldParts.{sum_i, sum_s, taken_if}
use Rattle.link_driver.proofs.KeptCuts.{are_nops, kept_at_cut}
use Rattle.link_driver.proofs.ShortRegister.{word_register}
use Rattle.link_driver.proofs.PlacedBytes.{IsAway, IsKept, before_of, before_size, first_then, last_then, placed_holds, placed_reads, placed_size}

only_values : (t : Bool) (d : Defect) (values : List Defect) → (if t then d ∷ [] else values) ≡ [] → values ≡ []
only_values true d values none = cc
only_values false d values none = none

no_misfit : (place : SectionPlace) (r : Reloc) (v : ℤ) (o : Option Misfit) → misfit_defects place r v o ≡ [] → o ≡ None
no_misfit place r v None none = refl
no_misfit place r v (Some Odd) none = cc
no_misfit place r v (Some Range) none = cc

number_if : (c : Bool) (n : ℕ) → c ≡ true → is_number (if c then Some n else None) n ≡ true
number_if true n e = grind (arith, nat_tests)
number_if false n e = cc

found_passes : {X : Type 0} (p : X → Bool) (xs : List X) (x : X) → find p xs ≡ Some x → p x ≡ true
found_passes p [] x is = cc
found_passes p (y ∷ ys) x is = by (p y) refl is (λ rest. found_passes p ys x rest)
  where
    by : (t : Bool) → p y ≡ t → (if t then Some y else find p ys) ≡ Some x → (find p ys ≡ Some x → p x ≡ true) → p x ≡ true
    by true test is rest = let same : y ≡ x = cc in sym (ap p same) ∙ test
    by false test is rest = rest is

-- a processor goes nowhere from what is no branch, no jump and no call
nowhere : (m : ℕ) (v : ℤ) (place : List ℕ) → is_among jump_kinds m ≡ false → Goes m v place
nowhere m v place other = record {
  branch = λ e. absurd (no R_RISCV_BRANCH refl e);
  jump = λ e. absurd (no R_RISCV_JAL refl e);
  call = λ e. absurd (no_call e);
  short_branch = λ e. absurd (no R_RISCV_RVC_BRANCH refl e);
  short_jump = λ e. absurd (no R_RISCV_RVC_JUMP refl e);
}
  where
    no : (j : ℕ) → is_among jump_kinds j ≡ true → m ≡ j → ⊥
    no j is same = false≢true (sym other ∙ ap (is_among jump_kinds) same ∙ is)

    no_call : (m ≡ R_RISCV_CALL) ⊎ (m ≡ R_RISCV_CALL_PLT) → ⊥
    no_call (inl e) = no R_RISCV_CALL refl e
    no_call (inr e) = no R_RISCV_CALL_PLT refl e

jal_width : (kind_of R_RISCV_JAL).width ≡ 4
unfolding kind_of
jal_width = refl

short_width : (kind_of R_RISCV_RVC_JUMP).width ≡ 2
unfolding kind_of
short_width = refl

call_four : (raw : List ℕ) → call_bytes 4 raw ≡ to_le_bytes w32 (jal_word (rd_of (number_of (take 4 (drop 4 raw)))))
unfolding call_bytes
call_four raw = refl

call_two : (raw : List ℕ) → call_bytes 2 raw ≡ to_le_bytes w16 0xa001
unfolding call_bytes
call_two raw = refl

-- the kind of what stands at a place
acting_same : (cuts : List Cut) (r : Reloc) → is_call r.kind ≡ false → acting_number cuts r ≡ r.kind
unfolding acting_number
acting_same cuts r other = ap (λ t. if t then kind_by_size (call_size cuts r.offset) r.kind else r.kind) other

acting_call : (cuts : List Cut) (r : Reloc) (size : ℕ) → is_call r.kind ≡ true → call_size cuts r.offset ≡ size → acting_number cuts r ≡ kind_by_size size r.kind
unfolding acting_number
acting_call cuts r size call is = ap (λ t. if t then kind_by_size (call_size cuts r.offset) r.kind else r.kind) call ∙ ap (λ s. kind_by_size s r.kind) is

field_is : (cuts : List Cut) (r : Reloc) (f : Field) → is_call r.kind ≡ false → (kind_of r.kind).field ≡ f → (acting_kind cuts r).field ≡ f
field_is cuts r f other is = ap (λ m. (kind_of m).field) (acting_same cuts r other) ∙ is

line_of : (cuts : List Cut) (r : Reloc) → is_among jump_kinds (acting_number cuts r) ≡ true → IsJumpLine r.kind
line_of cuts r among = by (is_call r.kind) refl
  where
    by : (c : Bool) → is_call r.kind ≡ c → IsJumpLine r.kind
    by true call = call_is r.kind call
    by false other = jump_is r.kind (sym (ap (is_among jump_kinds) (acting_same cuts r other)) ∙ among)

-- what takes no value of a partner is no lower part of a distance
no_lower : (kind : ℕ) (c : Calculation) → Computes c kind → is_partner c ≡ false → is_lower kind ≡ false
unfolding is_lower
no_lower kind c is own = ap is_partner is ∙ own

module _ (files : List File) (b : Bindings) (leaders : List (Option ℕ)) (laid : LaidOut) where
  -- the value of a kind by what is computed for it
  own_value : (n : ℕ) (r : Reloc) (held : ℤ) (c : Calculation) → Computes c r.kind → is_lower r.kind ≡ false
      → value_of files b leaders laid n r held ≡ computed c (sum_of files b leaders laid n r) (place_of files b leaders laid n r) (thread_of files b leaders laid n r) (entry_of files b leaders laid n r) held
  unfolding value_of direct_value
  own_value n r held c is other =
      ap (λ t. if t then option_and_then (λ (q : Reloc). direct_value files b leaders laid n q (pos 0)) (partner_of files b leaders laid n r) else computed (kind_of r.kind).calculation (sum_of files b leaders laid n r) (place_of files b leaders laid n r) (thread_of files b leaders laid n r) (entry_of files b leaders laid n r) held) other
      ∙ ap (λ x. computed x (sum_of files b leaders laid n r) (place_of files b leaders laid n r) (thread_of files b leaders laid n r) (entry_of files b leaders laid n r) held) is

  -- the values of these kinds, whatever a place holds
  jump_value : (n : ℕ) (r : Reloc) (held : ℤ) → IsJumpLine r.kind → value_of files b leaders laid n r held ≡ Some (sum_of files b leaders laid n r -ℤ place_of files b leaders laid n r)
  jump_value n r held line = own_value n r held Distance line.calculation line.lower

  address_value : (n : ℕ) (r : Reloc) (held : ℤ) → Computes Address r.kind → value_of files b leaders laid n r held ≡ Some (sum_of files b leaders laid n r)
  address_value n r held is = own_value n r held Address is (no_lower r.kind Address is refl)

  here_value : (n : ℕ) (r : Reloc) (held : ℤ) → Computes Distance r.kind → value_of files b leaders laid n r held ≡ Some (sum_of files b leaders laid n r -ℤ place_of files b leaders laid n r)
  here_value n r held is = own_value n r held Distance is (no_lower r.kind Distance is refl)

  thread_value : (n : ℕ) (r : Reloc) (held : ℤ) → Computes ThreadOffset r.kind → value_of files b leaders laid n r held ≡ Some (thread_of files b leaders laid n r)
  thread_value n r held is = own_value n r held ThreadOffset is (no_lower r.kind ThreadOffset is refl)

  entry_value : (n : ℕ) (r : Reloc) (held : ℤ) → Computes GotDistance r.kind → value_of files b leaders laid n r held ≡ Some (entry_of files b leaders laid n r -ℤ place_of files b leaders laid n r)
  entry_value n r held is = own_value n r held GotDistance is (no_lower r.kind GotDistance is refl)

  -- the address of an entry of the linker's table, and the addend
  entry_is : (n k : ℕ) (e : GotEntry) → HasEntry files b leaders laid n k e
      → entry_of files b leaders laid n (reloc files b leaders laid n k) ≡ pos (laid.got + 8 * e.word) +ℤ (reloc files b leaders laid n k).addend
  unfolding entry_of word_at
  entry_is n k e has =
      let r : Reloc = reloc files b leaders laid n k in
      let key : ℕ = key_of files (site_of files n).file r.symbol in
      let word : word_for files b leaders laid laid.table key (use_of r.kind) ≡ e.word =
      ap (word_for files b leaders laid laid.table key) has.asks ∙ ap (λ (o : Option GotEntry). unwrap_or (option_map (λ (x : GotEntry). x.word) o) 0) has.there in
      ap (λ w. pos (laid.got + 8 * w) +ℤ r.addend) word

  upper_value : (n : ℕ) (r : Reloc) (held : ℤ) → IsUpperLine r.kind → value_of files b leaders laid n r held ≡ direct_value files b leaders laid n r (pos 0)
  unfolding value_of direct_value
  upper_value n r held line =
      ap (λ t. if t then option_and_then (λ (q : Reloc). direct_value files b leaders laid n q (pos 0)) (partner_of files b leaders laid n r) else computed (kind_of r.kind).calculation (sum_of files b leaders laid n r) (place_of files b leaders laid n r) (thread_of files b leaders laid n r) (entry_of files b leaders laid n r) held) line.lower
      ∙ computed_same (kind_of r.kind).calculation (sum_of files b leaders laid n r) (place_of files b leaders laid n r) (thread_of files b leaders laid n r) (entry_of files b leaders laid n r) held (pos 0) line.held

  partner_upper : (n : ℕ) (r q : Reloc) → partner_of files b leaders laid n r ≡ Some q → is_upper q.kind ≡ true
  unfolding partner_of
  partner_upper n r q is = by (label_in n (spot_in files b leaders laid n r)) is
    where
      by : (o : Option ℕ) → option_and_then (λ offset. find (is_upper_at offset) (relocs_of files n)) o ≡ Some q → is_upper q.kind ≡ true
      by None e = cc
      by (Some offset) e = (and_parts (q.offset == offset) (is_upper q.kind) (found_passes (is_upper_at offset) (relocs_of files n) q e)).1

  lower_value : (n : ℕ) (r q : Reloc) (held : ℤ) → is_lower r.kind ≡ true → partner_of files b leaders laid n r ≡ Some q → value_of files b leaders laid n r held ≡ direct_value files b leaders laid n q (pos 0)
  unfolding value_of
  lower_value n r q held lower is =
      ap (λ t. if t then option_and_then (λ (x : Reloc). direct_value files b leaders laid n x (pos 0)) (partner_of files b leaders laid n r) else direct_value files b leaders laid n r held) lower
      ∙ ap (option_and_then (λ (x : Reloc). direct_value files b leaders laid n x (pos 0))) is

  value_jump : (n k : ℕ) → IsJumpLine (reloc files b leaders laid n k).kind → value_at files b leaders laid n k ≡ Some (distance files b leaders laid n k)
  unfolding value_at
  value_jump n k line = jump_value n (reloc files b leaders laid n k) _ line

  value_address : (n k : ℕ) → Computes Address (reloc files b leaders laid n k).kind → value_at files b leaders laid n k ≡ Some (sum_of files b leaders laid n (reloc files b leaders laid n k))
  unfolding value_at
  value_address n k is = address_value n (reloc files b leaders laid n k) _ is

  value_here : (n k : ℕ) → Computes Distance (reloc files b leaders laid n k).kind → value_at files b leaders laid n k ≡ Some (distance files b leaders laid n k)
  unfolding value_at
  value_here n k is = here_value n (reloc files b leaders laid n k) _ is

  value_thread : (n k : ℕ) → Computes ThreadOffset (reloc files b leaders laid n k).kind → value_at files b leaders laid n k ≡ Some (thread_offset files b leaders laid n k)
  unfolding value_at thread_of
  value_thread n k is = thread_value n (reloc files b leaders laid n k) _ is

  value_got : (n k : ℕ) → Computes GotDistance (reloc files b leaders laid n k).kind
      → value_at files b leaders laid n k ≡ Some (entry_of files b leaders laid n (reloc files b leaders laid n k) -ℤ place_of files b leaders laid n (reloc files b leaders laid n k))
  unfolding value_at
  value_got n k is = entry_value n (reloc files b leaders laid n k) _ is

  value_entry : (n k : ℕ) (e : GotEntry) → HasEntry files b leaders laid n k e
      → value_at files b leaders laid n k ≡ Some ((pos (laid.got + 8 * e.word) +ℤ (reloc files b leaders laid n k).addend) -ℤ place_of files b leaders laid n (reloc files b leaders laid n k))
  value_entry n k e has =
      let r : Reloc = reloc files b leaders laid n k in
      value_got n k (asks_is r.kind has.usage has.asks) ∙ ap (λ (x : ℤ). Some (x -ℤ place_of files b leaders laid n r)) (entry_is n k e has)

  value_upper : (n k : ℕ) → IsUpperLine (reloc files b leaders laid n k).kind → value_at files b leaders laid n k ≡ direct_value files b leaders laid n (reloc files b leaders laid n k) (pos 0)
  unfolding value_at
  value_upper n k line = upper_value n (reloc files b leaders laid n k) _ line

  value_lower : (n k : ℕ) (q : Reloc) → is_lower (reloc files b leaders laid n k).kind ≡ true → partner_of files b leaders laid n (reloc files b leaders laid n k) ≡ Some q
      → value_at files b leaders laid n k ≡ direct_value files b leaders laid n q (pos 0)
  unfolding value_at
  value_lower n k q lower is = lower_value n (reloc files b leaders laid n k) q _ lower is

  partners_are : (n k p : ℕ) → is_lower (reloc files b leaders laid n k).kind ≡ true → partner_of files b leaders laid n (reloc files b leaders laid n k) ≡ Some (reloc files b leaders laid n p)
      → value_at files b leaders laid n k ≡ value_at files b leaders laid n p
  partners_are n k p lower is =
      let q : Reloc = reloc files b leaders laid n p in
      value_lower n k q lower is ∙ sym (value_upper n p (label_is q.kind (partner_upper n (reloc files b leaders laid n k) q is)))

  -- a value with which a relocation has no defect is one that its place takes
  takes_at : (n : ℕ) (p r : Reloc) (v : ℤ) → reloc_defects files b leaders laid n p r ≡ [] → is_uleb r.kind ≡ false
      → value_of files b leaders laid n r (operand files b leaders laid n p r (pos 0)) ≡ Some v → Takes (acting_kind (cuts_at laid n) r).reach v
  unfolding reloc_defects
  takes_at n p r v none plain is =
      let kind = acting_kind (cuts_at laid n) r in
      let width : ℕ = width_at files b leaders laid n r in
      let value : Option ℤ = value_of files b leaders laid n r (operand files b leaders laid n p r (pos 0)) in
      let values : value_defects (site_of files n) r (reach_in (is_uleb r.kind) kind width) value ≡ [] =
      only_values (is_lower r.kind && not (is_some (partner_of files b leaders laid n r))) (reloc_defect kinds.NO_PARTNER (site_of files n).file (site_of files n).index r 0) _ none in
      taken_if kind.reach v (no_misfit (site_of files n) r v (misfit_of kind.reach v)
      (sym (ap (λ u. value_defects (site_of files n) r (reach_in u kind width) value) plain ∙ ap (value_defects (site_of files n) r kind.reach) is) ∙ values))

  -- no relocation of a written section has a defect
  no_section : (n : ℕ) → n < section_total files → relocation_defects files b leaders laid ≡ [] → section_defects files b leaders laid n ≡ []
  unfolding relocation_defects
  no_section n lt none =
      let e : 0 + n ≡ n = omega arith in
      subst (λ m. section_defects files b leaders laid m ≡ []) e (none_at (section_defects files b leaders laid) 0 (section_total files) n none lt)

  no_defect : (n k : ℕ) → leads leaders n ≡ true → k < length (relocs_of files n) → section_defects files b leaders laid n ≡ []
      → reloc_defects files b leaders laid n (reloc files b leaders laid n (k - 1)) (reloc files b leaders laid n k) ≡ []
  unfolding section_defects
  no_defect n k leader lt none =
      let defects : ℕ → List Defect = λ j. reloc_defects files b leaders laid n (reloc files b leaders laid n (j - 1)) (reloc files b leaders laid n j) in
      let e : 0 + k ≡ k = omega arith in
      let all : flat_map defects (range_with_len 0 (length (relocs_of files n))) ≡ [] = sym (ap (λ t. if t then flat_map defects (range_with_len 0 (length (relocs_of files n))) else []) leader) ∙ none in
      subst (λ j. defects j ≡ []) e (none_at defects 0 (length (relocs_of files n)) k all lt)

  -- a section that is written is a member
  content_has : (n : ℕ) (c : Content) → has_bits files b leaders laid n ≡ true → is_section n c ≡ true → is_number (written_in files b leaders laid c) n ≡ true
  content_has n (Section m) bits is =
      let same : m ≡ n = eqb-true m n is in
      let P : ℕ → Type 0 = λ i. is_number (written_in files b leaders laid (Section i)) n ≡ true in
      subst P (sym same) (number_if (has_bits files b leaders laid n) n bits)
  content_has n (Pool p) bits is = let none : ⊥ = cc in absurd none
  content_has n Got bits is = let none : ⊥ = cc in absurd none

  laid_is : (n : ℕ) → IsSound files b leaders laid → HasBytes files b leaders laid n → is_laid files b leaders laid n ≡ true
  unfolding is_laid
  laid_is n sound is =
      let bits : (input_at files b n).sh_type ≢ SHT_NOBITS = λ same. false≢true (sym (ap not (eq-eqb (input_at files b n).sh_type SHT_NOBITS same)) ∙ is.bits) in
      let listed = sound.listed n is.number is.own bits is.some in
      let found = any_at (λ (m : Member). is_section n m.content) laid.members no_member listed in
      any_from (λ (m : Member). is_number (written_in files b leaders laid m.content) n) laid.members found.0 no_member found.1
      (content_has n (get_or laid.members found.0 no_member).content is.bits found.2)

module _ (tables : Tables) (b : Bindings) (leaders : List (Option ℕ)) (laid : LaidOut) (sound : IsSound (files_of tables) b leaders laid) (cuts_are : HaveOwnCuts (files_of tables) leaders laid)
    (none : relocation_defects (files_of tables) b leaders laid ≡ []) where
  abbrev files : List File
  files = files_of tables

  -- what is known of a section that is written
  member : (n : ℕ) → HasBytes (files_of tables) b leaders laid n → IsKnown (files_of tables) b leaders laid n
  member n is = known files b leaders laid n sound (laid_is files b leaders laid n sound is)

  fit : (n : ℕ) → HasBytes (files_of tables) b leaders laid n → AllFit (files_of tables) b leaders laid n
  fit n is = λ i d lt.
      let m = member n is in
      let within = m.section.relocs i d lt in
      let stay = stay_size files b leaders laid n sound (file_sound files b leaders laid n (all_sound tables) is.number) m in
      omega (arith, within, stay)

  lie : (n : ℕ) → HasBytes (files_of tables) b leaders laid n → AreIn (length (contents_at (files_of tables) n)) (cuts_at laid n)
  lie n is = λ i d lt.
      let m = member n is in
      let within = m.section.cuts i d lt in
      let long : length (contents_at (files_of tables) n) ≡ (input_at files b n).size = raw_size files b leaders laid n (file_sound files b leaders laid n (all_sound tables) is.number) m in
      omega (arith, within, long)

  defect_free : (n k : ℕ) → HasBytes (files_of tables) b leaders laid n → k < length (relocs_of (files_of tables) n)
      → reloc_defects (files_of tables) b leaders laid n (reloc (files_of tables) b leaders laid n (k - 1)) (reloc (files_of tables) b leaders laid n k) ≡ []
  defect_free n k is lt = no_defect files b leaders laid n k is.own lt (no_section files b leaders laid n is.number none)

  kept_if : (n k : ℕ) → IsLast (files_of tables) b leaders laid n k → IsKept (files_of tables) b leaders laid n k
  kept_if n k is = λ j q after high from below. elim (cases_lt 0 (width files b leaders laid n j)) [
    | inl wide ↦ by_side j q from below (is.later j after high wide)
    | inr zero ↦ elim (cases_lt q (at files b leaders laid n j)) [
      | inl lt ↦ inl lt
      | inr le ↦ inr (omega (arith, le, zero))
    ]
  ]
    where
      by_side : (j q : ℕ) → at (files_of tables) b leaders laid n k ≤ q → q < at (files_of tables) b leaders laid n k + width (files_of tables) b leaders laid n k
          → (at (files_of tables) b leaders laid n j + width (files_of tables) b leaders laid n j ≤ at (files_of tables) b leaders laid n k)
          ⊎ (at (files_of tables) b leaders laid n k + width (files_of tables) b leaders laid n k ≤ at (files_of tables) b leaders laid n j) → IsAway (files_of tables) b leaders laid n q j
      by_side j q from below (inl before) = inr (omega (arith, before, from))
      by_side j q from below (inr after) = inl (omega (arith, after, below))

  -- where the processor goes from a place that no later relocation fills
  goes_kept : (n k : ℕ) → HasBytes (files_of tables) b leaders laid n → k < length (relocs_of (files_of tables) n) → IsKept (files_of tables) b leaders laid n k
      → Goes (acting_number (cuts_at laid n) (reloc (files_of tables) b leaders laid n k)) (distance (files_of tables) b leaders laid n k) (placed (files_of tables) b leaders laid n k)
  goes_kept n k is lt kept = by (is_among jump_kinds (acting_number (cuts_at laid n) r)) refl
    where
      r : Reloc
      r = reloc (files_of tables) b leaders laid n k

      by : (t : Bool) → is_among jump_kinds (acting_number (cuts_at laid n) r) ≡ t → Goes (acting_number (cuts_at laid n) r) (distance (files_of tables) b leaders laid n k) (placed (files_of tables) b leaders laid n k)
      by true among =
          let line = line_of (cuts_at laid n) r among in
          let v : ℤ = distance files b leaders laid n k in
          let takes = takes_at files b leaders laid n (reloc files b leaders laid n (k - 1)) r v (defect_free n k is lt) line.uleb (jump_value files b leaders laid n r _ line) in
          goes (acting_number (cuts_at laid n) r) v (before_of files b leaders laid n k) (placed files b leaders laid n k) takes
          (placed_reads files b leaders laid n (fit n is) k lt kept line.uleb v (value_jump files b leaders laid n k line))
      by false other = nowhere (acting_number (cuts_at laid n) r) (distance files b leaders laid n k) (placed files b leaders laid n k) other

  -- two parts of one value
  pair_at : (n k m j : ℕ) → IsLast (files_of tables) b leaders laid n k → IsLast (files_of tables) b leaders laid m j → is_among upper_kinds (reloc (files_of tables) b leaders laid n k).kind ≡ true → (v : ℤ)
      → value_at (files_of tables) b leaders laid n k ≡ Some v → value_at (files_of tables) b leaders laid m j ≡ Some v
      → AddUp (reloc (files_of tables) b leaders laid m j).kind v (placed (files_of tables) b leaders laid n k) (placed (files_of tables) b leaders laid m j)
  pair_at n k m j first second high v one two =
      let r : Reloc = reloc files b leaders laid n k in
      let q : Reloc = reloc files b leaders laid m j in
      let line = upper_is r.kind high in
      let own_value = upper_value files b leaders laid n r (operand files b leaders laid n (reloc files b leaders laid n (k - 1)) r (pos 0)) line ∙ sym (value_upper files b leaders laid n k line) ∙ one in
      let takes = takes_at files b leaders laid n (reloc files b leaders laid n (k - 1)) r v (defect_free n k first.section first.among) line.uleb own_value in
      let reach_is : (acting_kind (cuts_at laid n) r).reach ≡ far = ap (λ x. (kind_of x).reach) (acting_same (cuts_at laid n) r line.call) ∙ line.reach in
      let upper_reads = placed_reads files b leaders laid n (fit n first.section) k first.among (kept_if n k first) line.uleb v one in
      let U : Field → Type 0 = λ f. ReadsBack f (before_of files b leaders laid n k) v (placed files b leaders laid n k) in
      let L : Field → Type 0 = λ f. ReadsBack f (before_of files b leaders laid m j) v (placed files b leaders laid m j) in
      let upper_held = subst U (field_is (cuts_at laid n) r upper line.call line.field) upper_reads in
      let far_taken : Takes far v = subst (λ (x : Reach). Takes x v) reach_is takes in
      record {
        i = λ among.
            let lower = lower_i_is q.kind among in
            sum_i v (before_of files b leaders laid n k) (placed files b leaders laid n k) (before_of files b leaders laid m j) (placed files b leaders laid m j) far_taken upper_held
            (subst L (field_is (cuts_at laid m) q (plain i_format) lower.call lower.field) (placed_reads files b leaders laid m (fit m second.section) j second.among (kept_if m j second) lower.uleb v two));
        s = λ among.
            let lower = lower_s_is q.kind among in
            sum_s v (before_of files b leaders laid n k) (placed files b leaders laid n k) (before_of files b leaders laid m j) (placed files b leaders laid m j) far_taken upper_held
            (subst L (field_is (cuts_at laid m) q (plain s_format) lower.call lower.field) (placed_reads files b leaders laid m (fit m second.section) j second.among (kept_if m j second) lower.uleb v two));
      }

  -- a call
  module _ (n k : ℕ) (is : HasBytes (files_of tables) b leaders laid n) (low : k < length (relocs_of (files_of tables) n)) (call : is_call (reloc (files_of tables) b leaders laid n k).kind ≡ true) where
    abbrev r : Reloc
    r = reloc (files_of tables) b leaders laid n k

    abbrev cuts : List Cut
    cuts = cuts_at laid n

    abbrev raw : List ℕ
    raw = contents_at (files_of tables) n

    call_kept : IsKept (files_of tables) b leaders laid n k
    call_kept = λ j q after high from below. away_from_call tables b leaders laid sound cuts_are n is.number is.own k j q low high call (λ same. omega (arith, after, same)) from below

    -- before it is done its place has what stays of it
    before_first : before_of (files_of tables) b leaders laid n k ≡ take (width_of (files_of tables) b leaders laid n r) (drop (at_of (files_of tables) b leaders laid n r) (staying_at (files_of tables) b leaders laid n))
    before_first =
        let o : ℕ = at_of files b leaders laid n r in
        let w : ℕ = width_of files b leaders laid n r in
        let bytes = bytes_after files b leaders laid n k in
        let stays = staying_at files b leaders laid n in
        let fits = fit n is k no_reloc low in
        let wide = before_size files b leaders laid n (fit n is) k low in
        let other : length (take w (drop o stays)) ≡ w = length-take-le w (drop o stays) (omega (arith, fits, length-drop o stays)) in
        ext_get_or 0 (before_of files b leaders laid n k) (take w (drop o stays)) (wide ∙ sym other) (λ i less.
        let inside : i < w = omega (arith, less, wide) in
        get_or-take w (drop o bytes) i 0 inside
        ∙ get_or-drop o bytes i 0
        ∙ first_then files b leaders laid n (fit n is) k (o + i) (omega (arith, low)) (λ j lt.
        away_from_call tables b leaders laid sound cuts_are n is.number is.own k j (o + i) low (omega (arith, lt, low)) call (λ same. omega (arith, lt, same)) (omega arith) (omega (arith, inside)))
        ∙ sym (get_or-take w (drop o stays) i 0 inside ∙ get_or-drop o stays i 0))

    module _ (size : ℕ) (size_is : call_size (cuts_at laid n) (reloc (files_of tables) b leaders laid n k).offset ≡ size) (small : size < 8)
        (new : List ℕ) (new_is : call_bytes size (drop (reloc (files_of tables) b leaders laid n k).offset (contents_at (files_of tables) n)) ≡ new) (new_size : length new ≡ size)
        (wide : width_of (files_of tables) b leaders laid n (reloc (files_of tables) b leaders laid n k) ≡ size) where
      own_cut : IsCutOf cuts r.offset size
      own_cut = cut_of_call cuts r.offset size size_is small

      kept_is : kept_bytes (get_or cuts own_cut.index no_cut) raw ≡ new
      kept_is =
          let c : Cut = get_or cuts own_cut.index no_cut in
          ap (λ t. if t then nops c.kept else call_bytes c.kept (drop c.at raw)) own_cut.plain
          ∙ ap (λ s. call_bytes s (drop c.at raw)) own_cut.kept
          ∙ ap (λ o. call_bytes size (drop o raw)) own_cut.at
          ∙ new_is

      before_kept : before_of (files_of tables) b leaders laid n k ≡ new
      unfolding staying_at
      before_kept =
          let c : Cut = get_or cuts own_cut.index no_cut in
          let kept = own_cut.kept in
          before_first
          ∙ ap (λ w. take w (drop (new_offset cuts r.offset) (staying cuts 0 raw))) (wide ∙ sym kept)
          ∙ ap (λ o. take c.kept (drop (new_offset cuts o) (staying cuts 0 raw))) (sym own_cut.at)
          ∙ kept_at_cut cuts raw own_cut.index (cuts_apart files b leaders laid n sound) (lie n is) own_cut.among (ap length kept_is ∙ new_size ∙ sym kept)
          ∙ kept_is

    call_holds : HoldsValue (kind_at (files_of tables) b leaders laid n r).field (before_of (files_of tables) b leaders laid n k) (distance (files_of tables) b leaders laid n k) (placed (files_of tables) b leaders laid n k)
    call_holds =
        let line = call_is r.kind call in
        placed_holds files b leaders laid n (fit n is) k low call_kept line.uleb (distance files b leaders laid n k) (value_jump files b leaders laid n k line)

    call_wide : (size number : ℕ) → call_size (cuts_at laid n) (reloc (files_of tables) b leaders laid n k).offset ≡ size → kind_by_size size (reloc (files_of tables) b leaders laid n k).kind ≡ number
        → (kind_of number).width ≡ size → width_of (files_of tables) b leaders laid n (reloc (files_of tables) b leaders laid n k) ≡ size
    call_wide size number size_is number_is width_is =
        plain_width files b leaders laid n r (call_is r.kind call).uleb ∙ ap (λ m. (kind_of m).width) (acting_call cuts r size call size_is ∙ number_is) ∙ width_is

    jal_at : call_size (cuts_at laid n) (reloc (files_of tables) b leaders laid n k).offset ≡ 4
        → IsJal (rd_of (second_word (files_of tables) b leaders laid n k)) (distance (files_of tables) b leaders laid n k) (number_of (placed (files_of tables) b leaders laid n k))
    jal_at size_is =
        let number : acting_number cuts r ≡ R_RISCV_JAL = acting_call cuts r 4 call size_is in
        let wide = call_wide 4 R_RISCV_JAL size_is refl jal_width in
        let word : ℕ = second_word files b leaders laid n k in
        let x : ℕ = jal_word (rd_of word) in
        let v : ℤ = distance files b leaders laid n k in
        let old : List ℕ = before_of files b leaders laid n k in
        let new : List ℕ = placed files b leaders laid n k in
        let held : HoldsValue (kind_of R_RISCV_JAL).field old v new = subst (λ m. HoldsValue (kind_of m).field old v new) number call_holds in
        let gone : Goes R_RISCV_JAL v new = subst (λ m. Goes m v new) number (goes_kept n k is low call_kept) in
        let size : length new ≡ 4 = placed_size files b leaders laid n (fit n is) k low ∙ wide in
        jal_is (rd_of word) x (number_of new) v old new (omega arith) refl
        (before_kept 4 size_is (omega arith) (to_le_bytes w32 x) (call_four (drop r.offset raw)) refl wide)
        held gone (ap (λ m. little_number m new) size)

    -- its second instruction lies in the section
    own_register : call_size (cuts_at laid n) (reloc (files_of tables) b leaders laid n k).offset ≡ 2 → rd_of (second_word (files_of tables) b leaders laid n k) ≡ 0
    own_register two =
        let f : File = file_at files (site_of files n).file in
        let s = section_at f (site_of files n).index in
        let m = member n is in
        let sound_file = file_sound files b leaders laid n (all_sound tables) is.number in
        let relocs = sound_of tables n is.number in
        let inside = relocs.fits k no_reloc low in
        let end = end_is raw r (call_kind r.kind call).moves (relocs.kinds k no_reloc low) in
        let eight = call_width r call in
        let long : length (contents_at (files_of tables) n) ≡ (input_at files b n).size = raw_size files b leaders laid n sound_file m in
        let size = m.own.size in
        word_register f.bytes s.offset s.size r.offset (omega (arith, inside, end, eight)) (omega (arith, long, size)) (cuts_are.short n k is.number is.own low call two)

    short_jump_at : call_size (cuts_at laid n) (reloc (files_of tables) b leaders laid n k).offset ≡ 2
        → IsShortJump (distance (files_of tables) b leaders laid n k) (number_of (placed (files_of tables) b leaders laid n k))
    short_jump_at size_is =
        let number : acting_number cuts r ≡ R_RISCV_RVC_JUMP = acting_call cuts r 2 call size_is in
        let wide = call_wide 2 R_RISCV_RVC_JUMP size_is refl short_width in
        let v : ℤ = distance files b leaders laid n k in
        let old : List ℕ = before_of files b leaders laid n k in
        let new : List ℕ = placed files b leaders laid n k in
        let held : HoldsValue (kind_of R_RISCV_RVC_JUMP).field old v new = subst (λ m. HoldsValue (kind_of m).field old v new) number call_holds in
        let gone : Goes R_RISCV_RVC_JUMP v new = subst (λ m. Goes m v new) number (goes_kept n k is low call_kept) in
        let size : length new ≡ 2 = placed_size files b leaders laid n (fit n is) k low ∙ wide in
        short_word (number_of new) v old new
        (before_kept 2 size_is (omega arith) (to_le_bytes w16 0xa001) (call_two (drop r.offset raw)) refl wide)
        held gone (ap (λ m. little_number m new) size)

  -- an alignment
  nops_at : (n i : ℕ) → HasBytes (files_of tables) b leaders laid n → i < length (cuts_at laid n) → (cut (files_of tables) b leaders laid n i).is_align ≡ true
      → AreNops (take (cut (files_of tables) b leaders laid n i).kept (drop (new_offset (cuts_at laid n) (cut (files_of tables) b leaders laid n i).at) (section_bytes (files_of tables) b leaders laid n)))
  unfolding staying_at
  nops_at n i is lt align =
      let cuts : List Cut = cuts_at laid n in
      let raw : List ℕ = contents_at files n in
      let c : Cut = get_or cuts i no_cut in
      let from : ℕ = new_offset cuts c.at in
      let bytes = section_bytes files b leaders laid n in
      let stays : List ℕ = staying cuts 0 raw in
      let kept_is : kept_bytes c raw ≡ nops c.kept = ap (λ t. if t then nops c.kept else call_bytes c.kept (drop c.at raw)) align in
      let count : length (nops c.kept) ≡ c.kept = length-map-range_with_len (nop_byte c.kept) 0 c.kept in
      let stand : take c.kept (drop from stays) ≡ nops c.kept =
      kept_at_cut cuts raw i (cuts_apart files b leaders laid n sound) (lie n is) lt (ap length kept_is ∙ count) ∙ kept_is in
      let long : length bytes ≡ length stays = whole_length files b leaders laid n in
      let size = ap length stand ∙ count in
      let first : length (take c.kept (drop from bytes)) ≡ c.kept =
      length-take-le c.kept (drop from bytes) (omega (arith, long, size, length-drop from bytes, length-drop from stays, length-take c.kept (drop from stays))) in
      let same : take c.kept (drop from bytes) ≡ take c.kept (drop from stays) =
      ext_get_or 0 (take c.kept (drop from bytes)) (take c.kept (drop from stays)) (first ∙ sym size) (λ j less.
      let inside : j < c.kept = omega (arith, less, first) in
      get_or-take c.kept (drop from bytes) j 0 inside
      ∙ get_or-drop from bytes j 0
      ∙ last_then files b leaders laid n (fit n is) 0 (from + j) (omega arith) (λ q low high.
      away_from_nops tables b leaders laid sound cuts_are n is.number is.own i q (from + j) lt high align (omega arith) (omega (arith, inside)))
      ∙ ap (λ xs. slice_index xs (from + j)) (after_none files b leaders laid n)
      ∙ sym (get_or-take c.kept (drop from stays) j 0 inside ∙ get_or-drop from stays j 0)) in
      subst AreNops (sym (same ∙ stand)) (are_nops c.kept)

  pub prove_code_stands : CodeStands (files_of tables) b leaders laid
  prove_code_stands = record {
    reads = λ n k is plain v value. placed_reads files b leaders laid n (fit n is.section) k is.among (kept_if n k is) plain v value;
    goes = λ n k is. goes_kept n k is.section is.among (kept_if n k is);
    pairs = λ n k m j first second high v one two. pair_at n k m j first second high v one two;
    partners = λ n k p lower is. partners_are files b leaders laid n k p lower is;
    address = λ n k among. value_address files b leaders laid n k (address_is (reloc files b leaders laid n k).kind among);
    here = λ n k same. value_here files b leaders laid n k (here_is (reloc files b leaders laid n k).kind same);
    thread = λ n k among. value_thread files b leaders laid n k (thread_is (reloc files b leaders laid n k).kind among);
    entry = λ n k e has. value_entry files b leaders laid n k e has;
    jal = λ n k is lt call size. jal_at n k is lt call size;
    short_jump = λ n k is lt call size. (own_register n k is lt call size, short_jump_at n k is lt call size);
    nops = λ n i is lt align. nops_at n i is lt align;
  }
