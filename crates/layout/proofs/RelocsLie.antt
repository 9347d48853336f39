-- The relocations of a section lie in it, and in what stays of it.
use Rattle.std.proofs.Common.{◌≡◌, ℕ, ◌+◌, ◌-◌, ◌<◌, ◌≤◌, ◌⊎◌, true, List, [], ◌∷◌, length, get_or, min, refl, sym, ap, subst, All, inl, inr, arith}
use Rattle.std.proofs.lemmas.Bool.{cases_Bool, cases_lt}
use Rattle.std.proofs.lemmas.Bool.Decides.{nat_tests}
use Rattle.std.proofs.lemmas.List.{get_or_past}
use Rattle.std.proofs.lemmas.List.Elements.{All-head, All-tail}
use Rattle.std.proofs.lemmas.List.Sums.{sum_by-cons}
use Rattle.lk_tables.specs.declared.heads.Section.{Section}
use Rattle.lk_tables.specs.declared.objects.Reloc.{Reloc}
use Rattle.lk_tables.specs.declared.section_places.SectionPlace.{SectionPlace}
use Rattle.lk_tables.specs.Binding.{Bindings}
use Rattle.lk_tables.specs.Files.{File, IsSound, file_at, first_section, no_section, relocs_at, section_at, section_total}
use Rattle.lk_tables.specs.Inside.{IsBodyInside, IsRelocWithin}
use Rattle.lk_tables.specs.Sections.{contents_of}
use Rattle.lk_tables.specs.Relocations.{value_len}
use Rattle.lk_tables.specs.Sites.{contents_at, relocs_of}
use Rattle.lk_tables.proofs.Owners.{owner_below, place_is, place_law}
use Rattle.lk_tables.proofs.SoundFiles.{inside_body}
use Rattle.lk_tables.proofs.Widths.{value_least}
use Rattle.link_sections.specs.Cuts.{AreApart, Cut, kept_before, new_offset, whole_before}
use Rattle.link_sections.specs.InputSections.{input_at, input_of, is_own}
use Rattle.link_sections.proofs.CutSums.{new_rises}
use Rattle.layout.proofs.CutsPassed.{AreFrom, apart_from}
use Rattle.output_sections.proofs.Sized.{AllSound, live_by}

-- a relocation that lies in a section of so many bytes
abbrev pub Lies : (contents : List ℕ) → (size : ℕ) → Reloc → Type 0
Lies contents size r = r.offset + value_len contents r ≤ size

lies_one : (b : List ℕ) (symbols : ℕ) (s : Section) (r : Reloc) → IsRelocWithin b symbols s r → Lies (contents_of b s) s.size r
lies_one b symbols s r within = omega (arith, within.fits, value_least (contents_of b s) r within.kind)

no_relocs : (contents : List ℕ) (size : ℕ) (list : List Reloc) → list ≡ [] → All (Lies contents size) list
no_relocs contents size list none = λ k d lt. let past : length list ≡ 0 = ap length none in absurd (omega arith)

lies_at : (file : File) (k : ℕ) → IsSound file → All (Lies (contents_of file.bytes (section_at file k)) (section_at file k).size) (relocs_at file k)
lies_at file k sound =
    let inside : IsBodyInside file.bytes file.head file.object = inside_body file sound in
    elim (cases_lt k (length file.object.relocs)) [
      | inl lt ↦ λ j d at.
          lies_one file.bytes (length file.head.symbols) (section_at file k) (get_or (relocs_at file k) j d) (inside.relocs k [] lt no_section j d at)
      | inr le ↦ no_relocs (contents_of file.bytes (section_at file k)) (section_at file k).size (relocs_at file k) (get_or_past file.object.relocs k [] le)
    ]

-- past the table there is no section
size_most : (files : List File) (b : Bindings) (f k : ℕ) → (section_at (file_at files f) k).size ≤ (input_of files b f k).size
unfolding input_of
size_most files b f k =
    elim (cases_Bool (is_own files b f k)) [
      | inl own ↦ rw own (omega arith)
      | inr other ↦
          let past : length (file_at files f).head.sections ≤ k = grind (arith, nat_tests) in
          let none : (section_at (file_at files f) k).size ≡ 0 = ap (λ (s : Section). s.size) (get_or_past (file_at files f).head.sections k no_section past) in
          omega (arith, none)
    ]

lies_in : (files : List File) (b : Bindings) (f k : ℕ) → IsSound (file_at files f) → All (Lies (contents_of (file_at files f).bytes (section_at (file_at files f) k)) (input_of files b f k).size) (relocs_at (file_at files f) k)
lies_in files b f k sound = λ j d lt. omega (arith, lies_at (file_at files f) k sound j d lt, size_most files b f k)

pub lies_of : (files : List File) (b : Bindings) (n : ℕ) → AllSound files → n < section_total files → All (Lies (contents_at files n) (input_at files b n).size) (relocs_of files n)
lies_of files b n sound lt =
    let own = owner_below files n (length files) (omega arith) lt in
    let f : ℕ = own.0 in
    let law = place_law files n f own.1 in
    let live : (file_at files f).live ≡ true = live_by (file_at files f).live _ (n - first_section files f) law.index in
    let P : SectionPlace → Type 0 = λ p. All (Lies (contents_of (file_at files p.file).bytes (section_at (file_at files p.file) p.index)) (input_of files b p.file p.index).size) (relocs_at (file_at files p.file) p.index) in
    subst P (sym (place_is files n f own.1)) (lies_in files b f (n - first_section files f) (sound f live))

-- a place that no cut meets is as long as it was
abbrev pub IsClear : (offset width : ℕ) → Cut → Type 0
IsClear offset width c = (c.at + c.whole ≤ offset) ⊎ (offset + width ≤ c.at)

clear_one : (offset width at size : ℕ) → (at + size ≤ offset) ⊎ (offset + width ≤ at) → min (offset + width - at) size ≡ min (offset - at) size
clear_one offset width at size (inl before) = omega (arith, before)
clear_one offset width at size (inr after) = omega (arith, after)

clear_kept : (offset width : ℕ) (c : Cut) → c.kept ≤ c.whole → IsClear offset width c → (c.at + c.kept ≤ offset) ⊎ (offset + width ≤ c.at)
clear_kept offset width c most (inl before) = inl (omega (arith, before, most))
clear_kept offset width c most (inr after) = inr after

clear_sums : (offset width : ℕ) (cuts : List Cut) → All (λ c. c.kept ≤ c.whole) cuts → All (IsClear offset width) cuts
    → (whole_before cuts (offset + width) ≡ whole_before cuts offset) × (kept_before cuts (offset + width) ≡ kept_before cuts offset)
clear_sums offset width [] kept clear = (refl, refl)
clear_sums offset width (c ∷ cs) kept clear =
    let here = All-head (IsClear offset width) c cs clear in
    let rest = clear_sums offset width cs (All-tail (λ (x : Cut). x.kept ≤ x.whole) c cs kept) (All-tail (IsClear offset width) c cs clear) in
    let w : (k : ℕ) → whole_before (c ∷ cs) k ≡ min (k - c.at) c.whole + whole_before cs k = λ k. sum_by-cons (λ (x : Cut). min (k - x.at) x.whole) c cs in
    let h : (k : ℕ) → kept_before (c ∷ cs) k ≡ min (k - c.at) c.kept + kept_before cs k = λ k. sum_by-cons (λ (x : Cut). min (k - x.at) x.kept) c cs in (
      omega (arith, w (offset + width), w offset, rest.0, clear_one offset width c.at c.whole here),
      omega (
        arith,
        h (offset + width),
        h offset,
        rest.1,
        clear_one offset width c.at c.kept (clear_kept offset width c (All-head (λ (x : Cut). x.kept ≤ x.whole) c cs kept) here),
      ),
    )

-- cuts have no more bytes before an offset than there are
pub low_from : (from o : ℕ) (cuts : List Cut) → AreFrom from cuts → whole_before cuts o ≤ o - from
low_from from o [] are = omega arith
low_from from o (c ∷ cs) are =
    omega (arith, sum_by-cons (λ (x : Cut). min (o - x.at) x.whole) c cs, low_from (c.at + c.whole) o cs are.1, are.0)

clear_offset : (offset width : ℕ) (cuts : List Cut) → AreApart cuts → All (IsClear offset width) cuts → new_offset cuts (offset + width) ≡ new_offset cuts offset + width
unfolding new_offset
clear_offset offset width cuts apart clear =
    let same = clear_sums offset width cuts apart.kept clear in
    omega (arith, same.0, same.1, low_from 0 offset cuts (apart_from cuts apart))

-- so a relocation lies in what stays
pub lies_still : (cuts : List Cut) (size offset w : ℕ) → AreApart cuts → offset + w ≤ size → (0 < w → All (IsClear offset w) cuts)
    → new_offset cuts offset + w ≤ new_offset cuts size
lies_still cuts size offset w apart lies clear =
    elim (cases_lt 0 w) [
      | inl some ↦
          let same = clear_offset offset w cuts apart (clear some) in
          let rises = new_rises cuts (offset + w) size apart lies in
          omega (arith, same, rises)
      | inr none ↦ omega (arith, new_rises cuts offset size apart (omega (arith, lies)), none)
    ]
