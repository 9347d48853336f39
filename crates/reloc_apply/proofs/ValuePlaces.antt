-- A relocation with a value has a place, so that its section has bytes and is a member of the layout.
use Rattle.std.proofs.Common.{◌≡◌, ◌≢◌, ℕ, suc, ◌<◌, ◌==◌, Bool, true, false, not, List, [], ◌∷◌, length, get_or, find, refl, sym, ap, ◌∙◌, subst, arith, inl, inr, pos, Option, Some, None, is_some}
use Rattle.std.specs.Prelude.{if◌then◌else◌, option_and_then}
use Rattle.std.proofs.lemmas.Bool.{and_parts, cases_lt, eqb-true, lt-ltb}
use Rattle.std.proofs.lemmas.Bool.Decides.{nat_tests}
use Rattle.std.proofs.lemmas.List.{get_or_past}
use Rattle.lk_base.specs.declared.abi.TheConstants.{SHT_NOBITS}
use Rattle.lk_base.specs.RelocKinds.{has_value, is_lower, is_upper, kind_of}
use Rattle.lk_base.proofs.TableLines.{width_some}
use Rattle.lk_tables.specs.declared.objects.Reloc.{Reloc}
use Rattle.lk_tables.specs.Binding.{Bindings}
use Rattle.lk_tables.specs.Files.{File, IsSound as IsSoundFile, file_at, no_reloc, no_section, relocs_at, section_at, section_total}
use Rattle.lk_tables.specs.Inside.{IsBodyInside, IsRelocWithin}
use Rattle.lk_tables.specs.Sections.{contents_of}
use Rattle.lk_tables.specs.Sites.{place_of, relocs_of}
use Rattle.lk_tables.proofs.SoundFiles.{inside_body}
use Rattle.lk_tables.proofs.Widths.{value_least, value_some}
use Rattle.link_sections.specs.declared.members.Content.{Content}
use Rattle.link_sections.specs.declared.members.Content.TheVariants.{Section, Pool, Got}
use Rattle.link_sections.specs.declared.members.Member.{Member}
use Rattle.link_sections.specs.InputSections.{input_at, input_of, is_own}
use Rattle.link_sections.specs.LaidOut.{LaidOut}
use Rattle.link_sections.specs.Leaders.{is_number, leads}
use Rattle.link_sections.specs.Sound.{IsSound, is_section}
use Rattle.reloc_apply.specs.Founds.{no_member}
use Rattle.reloc_apply.specs.Relocated.{has_bits, is_laid, value_at, written_in}
use Rattle.reloc_apply.specs.Values.{direct_value, gives_value, is_upper_at, label_in, partner_of, spot_in, value_of}
use Rattle.reloc_apply.proofs.LaidFacts.{any_at}
use Rattle.reloc_apply.proofs.MemberFacts.{any_from, file_sound}
use Rattle.reloc_apply.proofs.SoundLists.{AllSound}
use Rattle.reloc_apply.proofs.ValueKinds.{direct_some, each_done, none_by, some_by, upper_direct}

-- a relocation of a section of a file
pub record IsRelocOf (file : File) (k : ℕ) (r : Reloc) : Type 0 where
  pub index : k < length file.head.sections
  pub within : IsRelocWithin file.bytes (length file.head.symbols) (section_at file k) r

none_listed : (list : List Reloc) (j : ℕ) → list ≡ [] → j < length list → ⊥
none_listed list j none lt = let past : length list ≡ 0 = ap length none in omega (arith, lt, past)

pub reloc_in : (file : File) (k j : ℕ) (d : Reloc) → IsSoundFile file → j < length (relocs_at file k) → IsRelocOf file k (get_or (relocs_at file k) j d)
reloc_in file k j d sound at =
    let inside : IsBodyInside file.bytes file.head file.object = inside_body file sound in
    elim (cases_lt k (length file.object.relocs)) [
      | inl lt ↦ record { index = omega (arith, lt, inside.counted); within = inside.relocs k [] lt no_section j d at }
      | inr le ↦ absurd (none_listed (relocs_at file k) j (get_or_past file.object.relocs k [] le) at)
    ]

-- an own section's size and type are its header's
own_input : (files : List File) (b : Bindings) (f k : ℕ) → k < length (file_at files f).head.sections →
    ((input_of files b f k).size ≡ (section_at (file_at files f) k).size) × ((input_of files b f k).sh_type ≡ (section_at (file_at files f) k).sh_type)
unfolding input_of
own_input files b f k lt =
    let own : is_own files b f k ≡ true = lt-ltb k (length (file_at files f).head.sections) lt in
    rw own ((refl, refl))

-- the first that passes a test is one of the list
find_at : {X : Type 0} (p : X → Bool) (xs : List X) (x d : X) → find p xs ≡ Some x → (k : ℕ) × (k < length xs) × (get_or xs k d ≡ x) × (p x ≡ true)
find_at p [] x d is = let none : ⊥ = cc in absurd none
find_at p (y ∷ ys) x d is = by_test (p y) refl is (λ rest. find_at p ys x d rest)
  where
    by_test : (c : Bool) → p y ≡ c → (if c then Some y else find p ys) ≡ Some x →
        (find p ys ≡ Some x → (k : ℕ) × (k < length ys) × (get_or ys k d ≡ x) × (p x ≡ true)) →
        (k : ℕ) × (k < suc (length ys)) × (get_or (y ∷ ys) k d ≡ x) × (p x ≡ true)
    by_test true e is rest = let same : y ≡ x = cc in (0, omega arith, same, sym (ap p same) ∙ e)
    by_test false e is rest = let found = rest is in let lt = found.1 in (suc found.0, omega (arith, lt), found.2, found.3)

from_option : {X Y : Type 0} (o : Option X) (give : X → Option Y) (y : Y) → option_and_then give o ≡ Some y → (x : X) × (give x ≡ Some y)
from_option None give y is = let none : ⊥ = cc in absurd none
from_option (Some x) give y is = (x, is)

bits_from : (x : ℕ) → x ≢ SHT_NOBITS → not (x == SHT_NOBITS) ≡ true
bits_from x not_bits = by_test (x == SHT_NOBITS) refl
  where
    by_test : (c : Bool) → (x == SHT_NOBITS) ≡ c → not c ≡ true
    by_test true e = absurd (not_bits (eqb-true x SHT_NOBITS e))
    by_test false e = refl

-- the kind that was read is that of the section's relocation
pub kind_has : (files : List File) (n m k : ℕ) (list : List Reloc) (has v : Bool) → list ≡ relocs_of files m → m ≡ n →
    has ≡ has_value (get_or list k no_reloc).kind → has ≡ v → has_value (get_or (relocs_of files n) k no_reloc).kind ≡ v
kind_has files n m k list has v read same is answer =
    ap (λ (l : List Reloc). has_value (get_or l k no_reloc).kind) (sym (read ∙ ap (relocs_of files) same)) ∙ sym is ∙ answer

module _ (files : List File) (b : Bindings) (leaders : List (Option ℕ)) (laid : LaidOut) where
  abbrev reloc_at : (n k : ℕ) → Reloc
  reloc_at n k = get_or (relocs_of files n) k no_reloc

  pub reloc_of : (n k : ℕ) → AllSound files → n < section_total files → k < length (relocs_of files n) →
      IsRelocOf (file_at files (place_of files n).file) (place_of files n).index (reloc_at n k)
  reloc_of n k all number lt =
      reloc_in (file_at files (place_of files n).file) (place_of files n).index k no_reloc (file_sound files b leaders laid n all number) lt

  -- a listed section with bytes in its file is a member with them
  number_if : (c : Bool) (n : ℕ) → c ≡ true → is_number (if c then Some n else None) n ≡ true
  number_if true n e = grind (arith, nat_tests)
  number_if false n e = cc

  content_has : (n : ℕ) (c : Content) → has_bits files b leaders laid n ≡ true → is_section n c ≡ true → is_number (written_in files b leaders laid c) n ≡ true
  content_has n (Section m) bits is =
      let same : m ≡ n = eqb-true m n is in
      let P : ℕ → Type 0 = λ i. is_number (written_in files b leaders laid (Section i)) n ≡ true in
      subst P (sym same) (number_if (has_bits files b leaders laid n) n bits)
  content_has n (Pool p) bits is = let none : ⊥ = cc in absurd none
  content_has n Got bits is = let none : ⊥ = cc in absurd none

  -- the section of a relocation that has a value
  pub laid_if : (n k : ℕ) → IsSound files b leaders laid → AllSound files → n < section_total files → leads leaders n ≡ true → k < length (relocs_of files n) →
      has_value (reloc_at n k).kind ≡ true → is_laid files b leaders laid n ≡ true
  unfolding is_laid
  laid_if n k sound all number own lt has =
      let f : ℕ = (place_of files n).file in
      let i : ℕ = (place_of files n).index in
      let is = reloc_of n k all number lt in
      let input = own_input files b f i is.index in
      let some = width_some (reloc_at n k).kind has in
      let contents = contents_of (file_at files f).bytes (section_at (file_at files f) i) in
      let least = value_least contents (reloc_at n k) is.within.kind in
      let more = value_some contents (reloc_at n k) is.within.kind some in
      let fits = is.within.fits in
      let size = input.0 in
      let bits : (input_at files b n).sh_type ≢ SHT_NOBITS = λ e. is.within.bits (sym input.1 ∙ e) in
      let listed = sound.listed n number own bits (omega (arith, more, least, fits, size)) in
      let found = any_at (λ (m : Member). is_section n m.content) laid.members no_member listed in
      any_from (λ (m : Member). is_number (written_in files b leaders laid m.content) n) laid.members found.0 no_member found.1
      (content_has n (get_or laid.members found.0 no_member).content (bits_from (input_at files b n).sh_type bits) found.2)

  -- a kind that puts no value into a place
  pub none_at : (n k : ℕ) → has_value (reloc_at n k).kind ≡ false → value_at files b leaders laid n k ≡ None
  unfolding value_at value_of direct_value has_value is_lower
  none_at n k none =
      none_by (kind_of (reloc_at n k).kind).calculation _ _ _ _ _ _ none

  partner_some : (n : ℕ) (r p : Reloc) → partner_of files b leaders laid n r ≡ Some p →
      is_some (direct_value files b leaders laid n p (pos 0)) ≡ true
  unfolding partner_of direct_value
  partner_some n r p is =
      let at = from_option (label_in n (spot_in files b leaders laid n r)) (λ offset. find (is_upper_at offset) (relocs_of files n)) p is in
      let found = find_at (is_upper_at at.0) (relocs_of files n) p no_reloc at.1 in
      let upper = (and_parts (p.offset == at.0) (is_upper p.kind) found.3).1 in
      direct_some (kind_of p.kind).calculation _ _ _ _ _ (upper_direct p.kind upper)

  -- a value stands exactly where the kind puts one, and a lower part has a partner
  pub some_at : (n k : ℕ) →
      is_some (value_at files b leaders laid n k) ≡ gives_value files b leaders laid n (reloc_at n k)
  unfolding value_at value_of direct_value has_value is_lower gives_value
  some_at n k =
      let r = reloc_at n k in
      some_by (kind_of r.kind).calculation _ _ _ _ _ (partner_of files b leaders laid n r) (λ p. direct_value files b leaders laid n p (pos 0)) (each_done (kind_of r.kind).calculation)
      (λ p is. partner_some n r p is)
