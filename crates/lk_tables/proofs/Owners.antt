-- The file of a section's number, and what is written of a file.
use Rattle.std.proofs.Common.{◌≡◌, ℕ, zero, suc, ◌+◌, ◌-◌, ◌<◌, ◌≤◌, ◌&&◌, Bool, true, false, List, length, refl, sym, ap, ◌∙◌, subst, arith, nat_lt, unwrap_or, inl, inr}
use Rattle.std.specs.Prelude.{Option}
use Rattle.std.proofs.lemmas.Bool.{cases_lt, le-ltb, lt-ltb}
use Rattle.std.proofs.lemmas.List.{get_or_past}
use Rattle.std.proofs.Math.Bool.{and-false}
use Rattle.lk_tables.specs.declared.section_places.SectionPlace.{SectionPlace}
use Rattle.lk_tables.specs.Files.{File, first_section, section_total, section_at, is_frame_at, no_section, writes}
use Rattle.lk_tables.specs.Sections.{is_frame, is_loaded, is_written}
use Rattle.lk_tables.specs.Sites.{IsPlaceOf, owner_of, place_of}
use Rattle.lk_tables.proofs.Finding.{first_number}
use Rattle.lk_tables.proofs.FirstNumbers.{section_more, section_upto}

-- the number is one of this file's
pub record IsOwner (files : List File) (section f : ℕ) : Type 0 where
  pub file : f < length files
  pub from : first_section files f ≤ section
  pub below : section < first_section files (f + 1)

pub owner_is : (files : List File) (section f : ℕ) → IsOwner files section f → owner_of files section ≡ f
unfolding owner_of
owner_is files section f is =
    let test : ℕ → Bool = λ k. nat_lt section (first_section files (k + 1)) in
    ap (λ (o : Option ℕ). unwrap_or o 0) (first_number test (length files) f is.file
    (λ k less. let from = is.from in le-ltb section (first_section files (k + 1)) (omega (arith, section_upto files (k + 1) f (omega arith))))
    (lt-ltb section (first_section files (f + 1)) is.below))

abbrev pub place_in : List File → (section f : ℕ) → SectionPlace
place_in files section f = record { file = f; index = section - first_section files f }

pub place_is : (files : List File) (section f : ℕ) → IsOwner files section f → place_of files section ≡ place_in files section f
unfolding place_of
place_is files section f is = ap (place_in files section) (owner_is files section f is)

pub place_law : (files : List File) (section f : ℕ) → IsOwner files section f → IsPlaceOf files section (place_in files section f)
place_law files section f is =
    let from = is.from in
    let below = is.below in
    record { file = is.file; index = omega (arith, section_more files f is.file); number = omega arith }

-- each number of a section has an owner
pub owner_below : (files : List File) (section m : ℕ) → m ≤ length files → section < first_section files m → (f : ℕ) × IsOwner files section f
owner_below files section zero le lt = absurd (omega arith)
owner_below files section (suc m) le lt = elim (cases_lt section (first_section files m)) [
  | inl below ↦ owner_below files section m (omega arith) below
  | inr from ↦
      let e : m + 1 ≡ suc m = omega arith in
      (m, record { file = omega arith; from = from; below = omega (arith, lt, ap (first_section files) e) })
]

pub place_of_number : (files : List File) (section : ℕ) → section < section_total files → IsPlaceOf files section (place_of files section)
place_of_number files section lt =
    let owner = owner_below files section (length files) (omega arith) lt in
    subst (IsPlaceOf files section) (sym (place_is files section owner.0 owner.1)) (place_law files section owner.0 owner.1)

-- what is written is a section of the file's table
unwritten : (b : List ℕ) → is_written b no_section ≡ false
unfolding is_written is_loaded
unwritten b = refl

pub unwritten_past : (file : File) (k : ℕ) → length file.head.sections ≤ k → writes file k ≡ false
unwritten_past file k past =
    let none : section_at file k ≡ no_section = get_or_past file.head.sections k no_section past in
    ap (λ s. nat_lt 0 k && is_written file.bytes s) none ∙ ap (λ b. nat_lt 0 k && b) (unwritten file.bytes) ∙ and-false (nat_lt 0 k)

pub written_within : (file : File) (k : ℕ) → writes file k ≡ true → k < length file.head.sections
written_within file k written = elim (cases_lt k (length file.head.sections)) [
  | inl lt ↦ lt
  | inr past ↦ let not_written = unwritten_past file k past in absurd cc
]

-- so is what has unwind records
unframed : (b : List ℕ) → is_frame b no_section ≡ false
unfolding is_frame is_loaded
unframed b = refl

pub unframed_past : (file : File) (k : ℕ) → length file.head.sections ≤ k → is_frame_at file k ≡ false
unframed_past file k past =
    let none : section_at file k ≡ no_section = get_or_past file.head.sections k no_section past in
    ap (λ s. nat_lt 0 k && is_frame file.bytes s) none ∙ ap (λ b. nat_lt 0 k && b) (unframed file.bytes) ∙ and-false (nat_lt 0 k)

pub frame_within : (file : File) (k : ℕ) → is_frame_at file k ≡ true → k < length file.head.sections
frame_within file k framed = elim (cases_lt k (length file.head.sections)) [
  | inl lt ↦ lt
  | inr past ↦ let not_framed = unframed_past file k past in absurd cc
]
