-- Where all relocations can be done, those that touch a block can.
use Rattle.std.proofs.Common.{◌≡◌, ℕ, Bool, Option, true, false, List, [], ◌∷◌, ◌++◌, length, flat_map, refl, sym, ◌∙◌, ap₂, subst}
use Rattle.std.specs.Prelude.{if◌then◌else◌}
use Rattle.std.specs.List.{range_with_len}
use Rattle.lk_base.specs.Firsts.{BeginsWith}
use Rattle.lk_base.specs.declared.defects.Defect.{Defect}
use Rattle.lk_base.proofs.NoneGiven.{either_none, left_none, right_none}
use Rattle.lk_tables.specs.Binding.{Bindings}
use Rattle.lk_tables.specs.Files.{File, section_total}
use Rattle.lk_tables.specs.Sites.{relocs_of}
use Rattle.link_sections.specs.LaidOut.{LaidOut}
use Rattle.link_sections.specs.Sound.{IsSound}
use Rattle.reloc_apply.specs.Relocated.{defects_at, is_laid, reloc_at, relocation_defects, section_defects, section_touching, touches, touching_defects}
use Rattle.reloc_apply.proofs.LaidFacts.{known}

-- what gives nothing of each of which another gives nothing
all_empty : {X : Type 0} (f g : ℕ → List X) (ks : List ℕ) → ((k : ℕ) → f k ≡ [] → g k ≡ []) → flat_map f ks ≡ [] → flat_map g ks ≡ []
all_empty f g [] each none = refl
all_empty {X} f g (k ∷ ks) each none =
    let rest : flat_map g ks ≡ [] = all_empty f g ks each (right_none (f k) (flat_map f ks) none) in
    ap₂ (λ (xs ys : List X). xs ++ ys) (each k (left_none (f k) (flat_map f ks) none)) rest

-- a list that is taken by one test is empty where another one is that is taken by a test that passes then
laid_empty : {X : Type 0} (laid leads : Bool) (xs ys : List X) → (laid ≡ true → leads ≡ true) → (xs ≡ [] → ys ≡ []) → (if leads then xs else []) ≡ []
    → (if laid then ys else []) ≡ []
laid_empty {X} true leads xs ys lead each none =
    let P : Bool → Type 0 = λ t. (if t then xs else []) ≡ [] in
    each (subst P (lead refl) none)
laid_empty false leads xs ys lead each none = refl

module _ (files : List File) (b : Bindings) (leaders : List (Option ℕ)) (laid : LaidOut) (sound : IsSound files b leaders laid) (from len : ℕ) where
  abbrev Touching : (n k : ℕ) → List Defect
  Touching n k = if touches files b leaders laid from len n (reloc_at files b leaders laid n k) then defects_at files b leaders laid n k else []

  section_clear : (n : ℕ) → section_defects files b leaders laid n ≡ [] → section_touching files b leaders laid from len n ≡ []
  unfolding section_defects section_touching
  section_clear n none =
      let ks = range_with_len 0 (length (relocs_of files n)) in
      laid_empty (is_laid files b leaders laid n) _ (flat_map (defects_at files b leaders laid n) ks) (flat_map (Touching n) ks)
      (λ is. (known files b leaders laid n sound is).section.own)
      (all_empty (defects_at files b leaders laid n) (Touching n) ks
      (λ k each. either_none (touches files b leaders laid from len n (reloc_at files b leaders laid n k)) (defects_at files b leaders laid n k) each)) none

  pub touching_clear : relocation_defects files b leaders laid ≡ [] → touching_defects files b leaders laid from len ≡ []
  unfolding relocation_defects touching_defects
  touching_clear none =
      all_empty (section_defects files b leaders laid) (section_touching files b leaders laid from len) (range_with_len 0 (section_total files)) section_clear none

-- an empty list has no first
pub no_first : (ds : List Defect) (first : Defect) → BeginsWith ds first → ds ≡ [] → ⊥
no_first ds first begins none =
    let clash : [] ≡ first ∷ begins.0 = sym none ∙ begins.1 in
    let no : ⊥ = cc in
    no
