-- What is known of the members of a layout by their numbers in its list.
use Rattle.std.proofs.Common.{◌≡◌, ℕ, zero, suc, ◌+◌, ◌<◌, ◌||◌, Bool, true, false, List, [], ◌∷◌, length, get_or, refl, sym, ap, ◌∙◌, arith, min, Option, None, Some}
use Rattle.std.specs.List.{list_any}
use Rattle.std.specs.List.Sorted.{IsNonDecreasingBy}
use Rattle.std.proofs.lemmas.Bool.{eq-eqb, or_right}
use Rattle.std.proofs.lemmas.List.Sorted.{IsNonDecreasingBy-from_all_adjacent}
use Rattle.lk_tables.specs.Binding.{Bindings}
use Rattle.lk_tables.specs.Files.{File, IsSound as IsSoundFile, file_at, section_total}
use Rattle.lk_tables.specs.Sites.{place_of}
use Rattle.lk_tables.proofs.Owners.{place_of_number}
use Rattle.link_sections.specs.declared.members.Content.TheVariants.{Section}
use Rattle.link_sections.specs.declared.members.Member.{Member}
use Rattle.link_sections.specs.declared.views.View.{View}
use Rattle.link_sections.specs.Views.{binding_in, files_in, laid_in, leaders_in}
use Rattle.std.specs.Prelude.{if◌then◌else◌}
use Rattle.std.proofs.lemmas.List.{get_or_default}
use Rattle.link_sections.specs.LaidOut.{LaidOut}
use Rattle.link_sections.specs.Leaders.{is_number}
use Rattle.link_sections.specs.Sound.{IsSectionMember, IsSound}
use Rattle.reloc_apply.specs.Founds.{AreOneAfterOther, no_member}
use Rattle.reloc_apply.specs.Relocated.{has_bits, is_laid, section_bytes, written_in}
use Rattle.reloc_apply.proofs.BytesAfter.{whole_length}
use Rattle.reloc_apply.proofs.LaidFacts.{content_is, known, stay_size}
use Rattle.reloc_apply.proofs.SitePlaces.{live_place}
use Rattle.reloc_apply.proofs.SoundLists.{AllSound, all_sound}

-- members one after the other rise by their starts and their ends
pub starts_rise : (members : List Member) → AreOneAfterOther members → IsNonDecreasingBy (λ (m : Member). m.start) members
starts_rise members order = IsNonDecreasingBy-from_all_adjacent (λ (m : Member). m.start) members (λ k d lt. let next = order k d lt in omega (arith, next))

pub ends_rise : (members : List Member) (most : ℕ) → AreOneAfterOther members → IsNonDecreasingBy (λ (m : Member). min (m.start + m.size) most) members
ends_rise members most order =
    IsNonDecreasingBy-from_all_adjacent (λ (m : Member). min (m.start + m.size) most) members (λ k d lt. let next = order k d lt in omega (arith, next))

-- an element of a list passes a test
pub any_from : {X : Type 0} (p : X → Bool) (xs : List X) (k : ℕ) (d : X) → k < length xs → p (get_or xs k d) ≡ true → list_any p xs ≡ true
any_from p [] k d lt is = absurd (omega (arith, lt))
any_from p (x ∷ xs) zero d lt is = ap (λ b. b || list_any p xs) is
any_from p (x ∷ xs) (suc k) d lt is = or_right (p x) (list_any p xs) (any_from p xs k d (omega (arith, lt)) is)

module _ (files : List File) (b : Bindings) (leaders : List (Option ℕ)) (laid : LaidOut) where
  abbrev pub member : ℕ → Member
  member k = get_or laid.members k no_member

  -- a member that is a section with bytes in its file
  pub record IsWritten (k n : ℕ) : Type 0 where
    pub section : IsSectionMember files b leaders laid n (member k)
    pub laid_is : is_laid files b leaders laid n ≡ true

  pub written : (k n : ℕ) → IsSound files b leaders laid → k < length laid.members → written_in files b leaders laid (member k).content ≡ Some n → IsWritten k n
  unfolding is_laid
  written k n sound lt is =
      let number : is_number (written_in files b leaders laid (member k).content) n ≡ true = ap (λ o. is_number o n) is ∙ eq-eqb n n refl in
      record {
        section = sound.sections k no_member lt n (content_is files b leaders laid n (member k).content number).0;
        laid_is = any_from (λ (m : Member). is_number (written_in files b leaders laid m.content) n) laid.members k no_member lt number;
      }

  -- its relocations lie in it, and it has as many bytes as the member
  pub file_sound : (n : ℕ) → AllSound files → n < section_total files → IsSoundFile (file_at files (place_of files n).file)
  file_sound n all lt = all (place_of files n).file (live_place files n (place_of files n) (place_of_number files n lt))

  pub bytes_size : (k n : ℕ) → IsSound files b leaders laid → AllSound files → IsWritten k n → length (section_bytes files b leaders laid n) ≡ (member k).size
  bytes_size k n sound all is =
      let own = is.section in
      let found = known files b leaders laid n sound is.laid_is in
      let stay = stay_size files b leaders laid n sound (file_sound n all own.number) found in
      let same : found.member.size ≡ (member k).size = found.section.size ∙ sym own.size in
      whole_length files b leaders laid n ∙ stay ∙ same

-- the bytes of a member that is a section with bytes in its file are as many as the member has
pub sized : (v : View) (i : ℕ) (d : Member) → i < length (laid_in v).members → (n : ℕ) → (get_or (laid_in v).members i d).content ≡ Section n →
    has_bits (files_in v) (binding_in v) (leaders_in v) (laid_in v) n ≡ true →
    length (section_bytes (files_in v) (binding_in v) (leaders_in v) (laid_in v) n) ≡ (get_or (laid_in v).members i d).size
sized v i d lt n is bits =
    let same = get_or_default (laid_in v).members i d no_member lt in
    let own : written_in (files_in v) (binding_in v) (leaders_in v) (laid_in v) (get_or (laid_in v).members i no_member).content ≡ Some n =
    ap (λ (m : Member). written_in (files_in v) (binding_in v) (leaders_in v) (laid_in v) m.content) (sym same)
    ∙ ap (written_in (files_in v) (binding_in v) (leaders_in v) (laid_in v)) is ∙ ap (λ t. if t then Some n else None) bits in
    bytes_size (files_in v) (binding_in v) (leaders_in v) (laid_in v) i n v.sound (all_sound v.tables.now)
    (written (files_in v) (binding_in v) (leaders_in v) (laid_in v) i n v.sound lt own)
    ∙ ap (λ (m : Member). m.size) (sym same)
