-- What is known of a section with bytes in its file that is a member of the layout.
use Rattle.std.proofs.Common.{◌≡◌, ◌≢◌, ℕ, zero, suc, ◌+◌, ◌<◌, ◌≤◌, ◌^◌, ◌==◌, Bool, true, false, not, List, [], ◌∷◌, length, drop, get_or, refl, sym, ap, ◌∙◌, subst, arith, Option, Some, None}
use Rattle.std.specs.Prelude.{if◌then◌else◌, is_some, ◌||◌}
use Rattle.std.specs.List.{All, list_any}
use Rattle.std.specs.List.Sorted.{IsNonDecreasingBy}
use Rattle.std.proofs.lemmas.Bool.{and_parts, eq-eqb, eqb-true, ltb-true}
use Rattle.std.proofs.lemmas.List.{length-take-le, length-drop}
use Rattle.lk_base.specs.declared.abi.TheConstants.{EHDR_SIZE, IMAGE_BASE, NOBITS_MAX, SHT_NOBITS}
use Rattle.lk_tables.specs.declared.commons.BoundCommon.{BoundCommon}
use Rattle.lk_tables.specs.declared.objects.Reloc.{Reloc}
use Rattle.lk_tables.specs.Binding.{Bindings}
use Rattle.lk_tables.specs.Files.{File, IsSound as IsSoundFile, file_at, no_section, section_at, writes}
use Rattle.lk_tables.specs.Inside.{IsLinked}
use Rattle.lk_tables.specs.Sites.{place_of}
use Rattle.lk_tables.proofs.SoundFiles.{inside_body, inside_head}
use Rattle.lk_tables.proofs.SoundHead.{written_read}
use Rattle.link_sections.specs.declared.members.Content.{Content}
use Rattle.link_sections.specs.declared.members.Content.TheVariants.{Section, Pool, Got}
use Rattle.link_sections.specs.declared.members.Member.{Member}
use Rattle.link_sections.specs.Cuts.{AreApart, Cut, new_offset}
use Rattle.link_sections.specs.InputSections.{InputSection, common_in, input_at, input_of, is_own, may_stay, room_input, section_input}
use Rattle.link_sections.specs.LaidOut.{LaidOut, cuts_at}
use Rattle.link_sections.specs.Leaders.{is_number}
use Rattle.link_sections.specs.Sound.{IsSectionMember, IsSound}
use Rattle.link_sections.proofs.CutSums.{new_rises}
use Rattle.reloc_apply.specs.Founds.{no_member}
use Rattle.reloc_apply.specs.Relocated.{contents_at, has_bits, is_laid, staying_at, written_in}
use Rattle.reloc_apply.specs.Values.{offset_of}
use Rattle.reloc_apply.proofs.StayingSizes.{stays_size}

-- a list of which some element passes a test
any_by : {X : Type 0} (b : Bool) (p : X → Bool) (x : X) (xs : List X) (d : X) → p x ≡ b → (p x || list_any p xs) ≡ true →
    (list_any p xs ≡ true → (k : ℕ) × (k < length xs) × (p (get_or xs k d) ≡ true)) → (k : ℕ) × (k < suc (length xs)) × (p (get_or (x ∷ xs) k d) ≡ true)
any_by true p x xs d is any rest = (0, omega arith, is)
any_by false p x xs d is any rest =
    let more = rest (sym (ap (λ b. b || list_any p xs) is) ∙ any) in
    let lt = more.1 in
    (suc more.0, omega (arith, lt), more.2)

pub any_at : {X : Type 0} (p : X → Bool) (xs : List X) (d : X) → list_any p xs ≡ true → (k : ℕ) × (k < length xs) × (p (get_or xs k d) ≡ true)
any_at p [] d any = let none : ⊥ = cc in absurd none
any_at p (x ∷ xs) d any = any_by (p x) p x xs d refl any (λ more. any_at p xs d more)

-- the bytes of a written section lie in its file
pub contents_end : (file : File) (k : ℕ) → IsSoundFile file → k < length file.head.sections → writes file k ≡ true → (section_at file k).sh_type ≢ SHT_NOBITS →
    (section_at file k).offset + (section_at file k).size ≤ length file.bytes
contents_end file k sound lt written bits =
    let parts = and_parts _ _ written in
    (inside_head file sound).contents k no_section lt (ltb-true 0 k parts.0) (written_read file.bytes (section_at file k) parts.1) bits

section_short : (file : File) (k : ℕ) → IsSoundFile file → k < length file.head.sections → writes file k ≡ true → (section_at file k).size ≤ NOBITS_MAX
section_short file k sound lt written =
    let parts = and_parts _ _ written in
    let linked : IsLinked (length file.head.sections) (section_at file k) = (inside_body file sound).linked k no_section lt (ltb-true 0 k parts.0) parts.1 in
    linked.size

-- a section that may stay and has bytes is one of its file's own
own_by : (own w : Bool) (o : Option BoundCommon) (s : InputSection) → (if own then w else is_some o) ≡ true →
    not ((if own then s else room_input o).sh_type == SHT_NOBITS) ≡ true → (own ≡ true) × (w ≡ true) × (not (s.sh_type == SHT_NOBITS) ≡ true)
own_by true w o s stays bits = (refl, stays, bits)
own_by false w None s stays bits = let none : ⊥ = cc in absurd none
own_by false w (Some c) s stays bits =
    let same : not (SHT_NOBITS == SHT_NOBITS) ≡ false = ap not (eq-eqb SHT_NOBITS SHT_NOBITS refl) in
    let none : ⊥ = cc in absurd none

not_true : (b : Bool) → not b ≡ true → b ≡ false
not_true true is = cc
not_true false is = refl

pub is_not : (x y : ℕ) → not (x == y) ≡ true → x ≢ y
is_not x y is = λ same. let clash : (x == y) ≡ true = eq-eqb x y same in let off = not_true (x == y) is in let none : ⊥ = cc in none

pub record IsOwn (files : List File) (b : Bindings) (f k : ℕ) : Type 0 where
  pub index : k < length (file_at files f).head.sections
  pub written : writes (file_at files f) k ≡ true
  pub bits : (section_at (file_at files f) k).sh_type ≢ SHT_NOBITS
  pub size : (input_of files b f k).size ≡ (section_at (file_at files f) k).size

size_by : (own : Bool) (s r : InputSection) → own ≡ true → (if own then s else r).size ≡ s.size
size_by true s r is = refl
size_by false s r is = cc

own_section : (files : List File) (b : Bindings) (f k : ℕ) → may_stay files b f k ≡ true → not ((input_of files b f k).sh_type == SHT_NOBITS) ≡ true → IsOwn files b f k
unfolding may_stay input_of
own_section files b f k stays bits =
    let all = own_by (is_own files b f k) _ (common_in files b f k) (section_input (file_at files f) k) stays bits in
    record {
      index = ltb-true k (length (file_at files f).head.sections) all.0;
      written = (and_parts _ _ all.1).0;
      bits = is_not (section_at (file_at files f) k).sh_type SHT_NOBITS all.2;
      size = size_by (is_own files b f k) (section_input (file_at files f) k) (room_input (common_in files b f k)) all.0;
    }

module _ (files : List File) (b : Bindings) (leaders : List (Option ℕ)) (laid : LaidOut) where
  -- the member
  pub record IsMemberOf (n k : ℕ) : Type 0 where
    pub among : k < length laid.members
    pub content : (get_or laid.members k no_member).content ≡ Section n
    pub bits : has_bits files b leaders laid n ≡ true

  bits_by : (d : Bool) (m n : ℕ) → has_bits files b leaders laid m ≡ d → is_number (if d then Some m else None) n ≡ true →
      (m ≡ n) × (has_bits files b leaders laid m ≡ true)
  bits_by true m n is number = (eqb-true m n number, is)
  bits_by false m n is number = let none : ⊥ = cc in absurd none

  pub content_is : (n : ℕ) (c : Content) → is_number (written_in files b leaders laid c) n ≡ true → (c ≡ Section n) × (has_bits files b leaders laid n ≡ true)
  content_is n (Section m) is =
      let both = bits_by (has_bits files b leaders laid m) m n refl is in
      (ap Section both.0, sym (ap (has_bits files b leaders laid) both.0) ∙ both.1)
  content_is n (Pool p) is = let none : ⊥ = cc in absurd none
  content_is n Got is = let none : ⊥ = cc in absurd none

  pub member_of : (n : ℕ) → is_laid files b leaders laid n ≡ true → (k : ℕ) × IsMemberOf n k
  unfolding is_laid
  member_of n is =
      let any = any_at (λ (m : Member). is_number (written_in files b leaders laid m.content) n) laid.members no_member is in
      let both = content_is n (get_or laid.members any.0 no_member).content any.2 in
      (any.0, record { among = any.1; content = both.0; bits = both.1 })

  -- what is known of it
  pub record IsKnown (n : ℕ) : Type 0 where
    pub member : Member
    pub section : IsSectionMember files b leaders laid n member
    pub low : IMAGE_BASE + EHDR_SIZE ≤ member.start
    pub high : member.start + member.size < IMAGE_BASE + 2 ^ 31
    pub own : IsOwn files b (place_of files n).file (place_of files n).index

  pub known : (n : ℕ) → IsSound files b leaders laid → is_laid files b leaders laid n ≡ true → IsKnown n
  known n sound is =
      let found = member_of n is in
      let k = found.0 in
      let at = found.1 in
      let m = get_or laid.members k no_member in
      let section : IsSectionMember files b leaders laid n m = sound.sections k no_member at.among n at.content in
      let inside = sound.inside k no_member at.among in
      let small = sound.small in
      record {
        member = m;
        section = section;
        low = sound.low k no_member at.among;
        high = omega (arith, inside, small);
        own = own_section files b (place_of files n).file (place_of files n).index section.stays at.bits;
      }

  -- its bytes
  pub raw_size : (n : ℕ) → (s : IsSoundFile (file_at files (place_of files n).file)) → IsKnown n → length (contents_at files b leaders laid n) ≡ (input_at files b n).size
  raw_size n sound is =
      let file = file_at files (place_of files n).file in
      let k = (place_of files n).index in
      let end = contents_end file k sound is.own.index is.own.written is.own.bits in
      length-take-le (section_at file k).size (drop (section_at file k).offset file.bytes) (omega (arith, end, length-drop (section_at file k).offset file.bytes))
      ∙ sym is.own.size

  pub raw_short : (n : ℕ) → (s : IsSoundFile (file_at files (place_of files n).file)) → IsKnown n → (input_at files b n).size ≤ NOBITS_MAX
  raw_short n sound is =
      let file = file_at files (place_of files n).file in
      let k = (place_of files n).index in
      let short = section_short file k sound is.own.index is.own.written in
      omega (arith, short, is.own.size)

  apart_past : AreApart []
  apart_past = record { kept = λ k d lt. absurd (omega arith); order = λ i d lt. absurd (omega arith) }

  pub cuts_apart : (n : ℕ) → IsSound files b leaders laid → AreApart (cuts_at laid n)
  cuts_apart n sound = apart_in laid.cuts n sound.apart
    where
      apart_in : (rows : List (List Cut)) (n : ℕ) → All AreApart rows → AreApart (get_or rows n [])
      apart_in [] n all = apart_past
      apart_in (r ∷ rs) zero all = all 0 [] (omega arith)
      apart_in (r ∷ rs) (suc n) all = apart_in rs n (λ k d lt. all (suc k) d (omega (arith, lt)))

  pub stay_size : (n : ℕ) → IsSound files b leaders laid → IsSoundFile (file_at files (place_of files n).file) → (is : IsKnown n) →
      length (staying_at files b leaders laid n) ≡ is.member.size
  unfolding staying_at
  stay_size n sound file is =
      let size = raw_size n file is in
      let P : ℕ → Type 0 = λ s. All (λ (c : Cut). c.at + c.whole ≤ s) (cuts_at laid n) in
      stays_size (cuts_at laid n) (contents_at files b leaders laid n) (cuts_apart n sound) (subst P (sym size) is.section.cuts)
      ∙ ap (new_offset (cuts_at laid n)) size ∙ sym is.section.size

  -- the places of its relocations rise
  pub places_rise : (n : ℕ) (rs : List Reloc) → IsSound files b leaders laid → IsNonDecreasingBy (λ (r : Reloc). r.offset) rs →
      IsNonDecreasingBy (offset_of files b leaders laid n) rs
  places_rise n rs sound ordered = λ i j d le lt. new_rises (cuts_at laid n) (get_or rs i d).offset (get_or rs j d).offset (cuts_apart n sound) (ordered i j d le lt)
