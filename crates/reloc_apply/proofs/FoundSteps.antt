-- The least defect of relocations that touch some bytes, over the members that meet them.
use Rattle.std.proofs.Common.{◌≡◌, ◌⊎◌, inl, inr, ℕ, ◌+◌, ◌-◌, ◌<◌, ◌≤◌, Bool, true, false, nat_lt, List, [], length, flat_map, get_or, refl, sym, ap, ◌∙◌, arith, subst, Option, Some, None}
use Rattle.std.specs.Prelude.{if◌then◌else◌, IfSome}
use Rattle.std.specs.List.{range_with_len}
use Rattle.std.proofs.lemmas.Bool.{cases_Bool, cases_lt, ltb-true, ltb-false}
use Rattle.std.proofs.lemmas.List.FromFn.{get_or-range_with_len, length-range_with_len}
use Rattle.lk_base.specs.Firsts.{BeginsWith}
use Rattle.lk_base.specs.declared.abi.TheConstants.{IMAGE_BASE}
use Rattle.lk_base.specs.declared.defects.Defect.{Defect}
use Rattle.lk_base.proofs.Loops.{found_at}
use Rattle.lk_tables.specs.declared.objects.Reloc.{Reloc}
use Rattle.lk_tables.specs.Binding.{Bindings}
use Rattle.lk_tables.specs.Files.{File, no_reloc, section_total}
use Rattle.lk_tables.specs.Sites.{relocs_of}
use Rattle.link_sections.specs.LaidOut.{LaidOut}
use Rattle.link_sections.specs.Sound.{IsSound}
use Rattle.reloc_apply.specs.declared.founds.Found.{Found}
use Rattle.reloc_apply.specs.Founds.{IsFound, earlier}
use Rattle.reloc_apply.specs.Relocated.{defects_at, is_laid, reloc_at, reloc_defects, section_touching, touches, touching_defects, written_in}
use Rattle.reloc_apply.proofs.LaidFacts.{IsMemberOf, member_of}
use Rattle.reloc_apply.proofs.MemberFacts.{member, written}
use Rattle.reloc_apply.proofs.MemberSteps.{quiet_first, quiet_last}
use Rattle.reloc_apply.proofs.SoundLists.{AllSound}
use Rattle.reloc_apply.proofs.TouchingSteps.{rest_none, skipped}

-- section n has no defect, or one of a lesser number was found
abbrev pub IsQuiet : (defects : ℕ → List Defect) → Option Found → (n : ℕ) → Type 0
IsQuiet defects None n = defects n ≡ []
IsQuiet defects (Some found) n = n < found.section → defects n ≡ []

-- what was found is the first defect of its section
abbrev pub IsTrueOf : (defects : ℕ → List Defect) → (total : ℕ) → Option Found → Type 0
IsTrueOf defects total found = IfSome found (λ f. (f.section < total) × BeginsWith (defects f.section) f.defect)

-- one of two
left_by : (t : ℕ → List Defect) (d : Bool) (f g : Found) (n : ℕ) → nat_lt g.section f.section ≡ d → (n < f.section → t n ≡ []) → IsQuiet t (if d then Some g else Some f) n
left_by t true f g n is quiet = λ lt. let less = ltb-true g.section f.section is in quiet (omega (arith, lt, less))
left_by t false f g n is quiet = quiet

quiet_left : (t : ℕ → List Defect) (found other : Option Found) (n : ℕ) → IsQuiet t found n → IsQuiet t (earlier found other) n
unfolding earlier
quiet_left t None None n quiet = quiet
quiet_left t None (Some g) n quiet = λ lt. quiet
quiet_left t (Some f) None n quiet = quiet
quiet_left t (Some f) (Some g) n quiet = left_by t (nat_lt g.section f.section) f g n refl quiet

right_by : (t : ℕ → List Defect) (d : Bool) (f g : Found) (n : ℕ) → nat_lt g.section f.section ≡ d → g.section ≡ n → IsQuiet t (if d then Some g else Some f) n
right_by t true f g n is own = λ lt. absurd (omega (arith, lt, own))
right_by t false f g n is own = λ lt. let more = ltb-false g.section f.section is in absurd (omega (arith, lt, own, more))

quiet_right : (t : ℕ → List Defect) (found other : Option Found) (n : ℕ) → IsFound t (Some n) other → IsQuiet t (earlier found other) n
unfolding earlier
quiet_right t None None n is = is
quiet_right t None (Some g) n is = λ lt. let own = is.0 in absurd (omega (arith, lt, own))
quiet_right t (Some f) None n is = λ lt. is
quiet_right t (Some f) (Some g) n is = right_by t (nat_lt g.section f.section) f g n refl is.0

either_true : (t : ℕ → List Defect) (total : ℕ) (d : Bool) (f g : Found) → IsTrueOf t total (Some f) → IsTrueOf t total (Some g) → IsTrueOf t total (if d then Some g else Some f)
either_true t total true f g one two = two
either_true t total false f g one two = one

true_earlier : (t : ℕ → List Defect) (total : ℕ) (found other : Option Found) → IsTrueOf t total found → IsTrueOf t total other → IsTrueOf t total (earlier found other)
unfolding earlier
true_earlier t total None other one two = two
true_earlier t total (Some f) None one two = one
true_earlier t total (Some f) (Some g) one two = either_true t total (nat_lt g.section f.section) f g one two

found_true : (t : ℕ → List Defect) (total : ℕ) (o : Option ℕ) (other : Option Found) → ((n : ℕ) → o ≡ Some n → n < total) → IsFound t o other → IsTrueOf t total other
found_true t total o None few is = tt
found_true t total None (Some g) few is = let none : ⊥ = cc in absurd none
found_true t total (Some n) (Some g) few is =
    let own = is.0 in
    let P : ℕ → Type 0 = λ m. BeginsWith (t m) g.defect in
    (omega (arith, few n refl, own), subst P (sym own) is.1)

-- the numbers of a range
at_number : (n k : ℕ) → k < n → get_or (range_with_len 0 n) k 0 ≡ k
at_number n k lt = omega (arith, get_or-range_with_len 0 n k 0 lt)

pub none_of_all : (t : ℕ → List Defect) (total : ℕ) → ((n : ℕ) → n < total → t n ≡ []) → flat_map t (range_with_len 0 total) ≡ []
none_of_all t total none =
    rest_none t (range_with_len 0 total) 0 0 (λ k le lt.
    let low : k < total = omega (arith, lt, length-range_with_len 0 total) in
    ap t (at_number total k low) ∙ none k low)

first_of_all : (t : ℕ → List Defect) (total m : ℕ) (d : Defect) → m < total → ((n : ℕ) → n < m → t n ≡ []) → BeginsWith (t m) d → BeginsWith (flat_map t (range_with_len 0 total)) d
first_of_all t total m d lt none begins =
    let P : ℕ → Type 0 = λ k. BeginsWith (t k) d in
    found_at t (range_with_len 0 total) m 0 (flat_map t (range_with_len 0 total)) d (omega (arith, lt, length-range_with_len 0 total))
    (skipped t (range_with_len 0 total) m 0 (λ k less within. ap t (at_number total k (omega (arith, less, lt))) ∙ none k less))
    (subst P (sym (at_number total m lt)) begins)

module _ (files : List File) (b : Bindings) (leaders : List (Option ℕ)) (laid : LaidOut) where
  abbrev defects : (from len : ℕ) → ℕ → List Defect
  defects from len = section_touching files b leaders laid from len

  -- of the first k members
  pub record IsLeast (from len k : ℕ) (found : Option Found) : Type 0 where
    pub quiet : (j n : ℕ) → j < k → j < length laid.members → written_in files b leaders laid (member files b leaders laid j).content ≡ Some n → IsQuiet (defects from len) found n
    pub first : IsTrueOf (defects from len) (section_total files) found

  module _ (sound : IsSound files b leaders laid) (all : AllSound files) where
    pub least_start : (from len k : ℕ) →
        ((j : ℕ) → j < k → (member files b leaders laid j).start + (member files b leaders laid j).size ≤ IMAGE_BASE + from) → IsLeast from len k None
    least_start from len k before = record {
      quiet = λ j n less lt is. quiet_first files b leaders laid sound all from len j n lt is (before j less);
      first = tt;
    }

    pub least_next : (from len k : ℕ) (found other : Option Found) → k < length laid.members → IsLeast from len k found →
        IsFound (defects from len) (written_in files b leaders laid (member files b leaders laid k).content) other → IsLeast from len (k + 1) (earlier found other)
    least_next from len k found other lt least is = record {
      quiet = λ j n less within own. elim (cases_lt j k) [
        | inl low ↦ quiet_left (defects from len) found other n (least.quiet j n low within own)
        | inr high ↦
            let e : k ≡ j = omega (arith, less, high) in
            let P : Option ℕ → Type 0 = λ o. IsFound (defects from len) o other in
            let here : written_in files b leaders laid (member files b leaders laid k).content ≡ Some n = ap (λ i. written_in files b leaders laid (member files b leaders laid i).content) e ∙ own in
            quiet_right (defects from len) found other n (subst P here is)
      ];
      first = true_earlier (defects from len) (section_total files) found other least.first
          (found_true (defects from len) (section_total files) (written_in files b leaders laid (member files b leaders laid k).content) other
          (λ n own. (written files b leaders laid k n sound lt own).section.number) is);
    }

    -- a section that is no member has no such defect
    off_by : (from len n : ℕ) → is_laid files b leaders laid n ≡ false → section_touching files b leaders laid from len n ≡ []
    unfolding section_touching
    off_by from len n off =
        ap (λ d. if d then flat_map (λ k. if touches files b leaders laid from len n (reloc_at files b leaders laid n k) then defects_at files b leaders laid n k else []) (range_with_len 0 (length (relocs_of files n))) else []) off

    written_is : (n k : ℕ) → IsMemberOf files b leaders laid n k → written_in files b leaders laid (member files b leaders laid k).content ≡ Some n
    written_is n k is =
        ap (written_in files b leaders laid) is.content ∙ ap (λ d. if d then Some n else None) is.bits

    quiet_at : (from len k : ℕ) (found : Option Found) (n : ℕ) → IsLeast from len k found →
        ((j : ℕ) → k ≤ j → j < length laid.members → IMAGE_BASE + (from + len) ≤ (member files b leaders laid j).start) → IsQuiet (defects from len) found n ⊎ (section_touching files b leaders laid from len n ≡ [])
    quiet_at from len k found n least after = elim (cases_Bool (is_laid files b leaders laid n)) [
      | inl on ↦
          let at = member_of files b leaders laid n on in
          let own = written_is n at.0 at.1 in
          elim (cases_lt at.0 k) [
            | inl low ↦ inl (least.quiet at.0 n low at.1.among own)
            | inr high ↦ inr (quiet_last files b leaders laid sound all from len at.0 n at.1.among own (after at.0 high at.1.among))
          ]
      | inr off ↦ inr (off_by from len n off)
    ]

    pub least_none : (from len k : ℕ) → IsLeast from len k None →
        ((j : ℕ) → k ≤ j → j < length laid.members → IMAGE_BASE + (from + len) ≤ (member files b leaders laid j).start) → touching_defects files b leaders laid from len ≡ []
    unfolding touching_defects
    least_none from len k least after =
        none_of_all (defects from len) (section_total files) (λ n lt. elim (quiet_at from len k None n least after) [
          | inl quiet ↦ quiet
          | inr quiet ↦ quiet
        ])

    pub least_some : (from len k : ℕ) (f : Found) → IsLeast from len k (Some f) →
        ((j : ℕ) → k ≤ j → j < length laid.members → IMAGE_BASE + (from + len) ≤ (member files b leaders laid j).start) → BeginsWith (touching_defects files b leaders laid from len) f.defect
    unfolding touching_defects
    least_some from len k f least after =
        first_of_all (defects from len) (section_total files) f.section f.defect least.first.0
        (λ n less. elim (quiet_at from len k (Some f) n least after) [
          | inl quiet ↦ quiet less
          | inr quiet ↦ quiet
        ]) least.first.1

  -- what is found in one member
  laid_by : (d : Bool) (xs : List Defect) → d ≡ true → (if d then xs else []) ≡ xs
  laid_by true xs is = refl
  laid_by false xs is = let none : ⊥ = cc in absurd none

  -- by a list of relocations that are those of the section
  abbrev pub touching_by : (from len m : ℕ) → List Reloc → List Defect
  touching_by from len m rs =
      flat_map (λ k. if touches files b leaders laid from len m (get_or rs k no_reloc) then reloc_defects files b leaders laid m (get_or rs (k - 1) no_reloc) (get_or rs k no_reloc) else [])
      (range_with_len 0 (length rs))

  pub touching_is : (from len n m : ℕ) (rs : List Reloc) → is_laid files b leaders laid n ≡ true → m ≡ n → rs ≡ relocs_of files m →
      touching_by from len m rs ≡ section_touching files b leaders laid from len n
  unfolding section_touching
  touching_is from len n m rs is same relocs =
      ap (touching_by from len m) relocs
      ∙ ap (λ i. touching_by from len i (relocs_of files i)) same
      ∙ sym (laid_by (is_laid files b leaders laid n) _ is)
