-- The name of a number past the last section.
use Rattle.std.proofs.Common.{◌≡◌, ℕ, ◌+◌, ◌≤◌, Bool, true, false, cond, Option, Some, List, [], ◌∷◌, length, refl, sym, ap, ◌∙◌, arith, codes}
use Rattle.std.specs.Prelude.{◌==◌, ◌||◌, find, is_some}
use Rattle.std.specs.List.{list_any}
use Rattle.std.proofs.lemmas.Bool.{cond-false, le-ltb}
use Rattle.lk_tables.specs.declared.section_places.SectionPlace.{SectionPlace}
use Rattle.lk_tables.specs.declared.commons.BoundCommon.{BoundCommon}
use Rattle.lk_tables.specs.Binding.{Bindings}
use Rattle.lk_tables.specs.Files.{File, file_at, section_total}
use Rattle.lk_tables.specs.InputSections.{InputSection, common_in, common_of, input_at, input_of, is_own, room_input, section_input}
use Rattle.lk_tables.specs.Targets.{commons_at}
use Rattle.link_sections.proofs.PastSections.{name_none, name_some, place_past}

pub input_past : (files : List File) (b : Bindings) (section : ℕ) → section_total files ≤ section → input_of files b 0 section ≡ input_at files b section
input_past files b section past = ap (λ (p : SectionPlace). input_of files b p.file p.index) (sym (place_past files section past))

-- without files it can only be the room of a COMMON symbol
room_of_none : (files : List File) (b : Bindings) (section : ℕ) → length files ≡ 0 → input_of files b 0 section ≡ room_input (common_of (commons_at b.commons 0) section)
unfolding input_of
room_of_none [] b section none =
    let same : 0 + section ≡ section = omega arith in
    cond-false (is_own [] b 0 section) (section_input (file_at [] 0) section) (room_input (common_in [] b 0 section)) (le-ltb section 0 (omega arith))
    ∙ ap (λ k. room_input (common_of (commons_at b.commons 0) k)) same
room_of_none (f ∷ fs) b section none = absurd (omega (arith, none))

any_found : (p : BoundCommon → Bool) (cs : List BoundCommon) → list_any p cs ≡ is_some (find p cs)
any_found p [] = refl
any_found p (c ∷ cs) = one_of (p c) c (list_any p cs) (find p cs) (any_found p cs)
  where
    one_of : (b : Bool) (c : BoundCommon) (d : Bool) (o : Option BoundCommon) → d ≡ is_some o → (b || d) ≡ is_some (cond b (Some c) o)
    one_of true c d o is = refl
    one_of false c d o is = is

pub room_named : (files : List File) (b : Bindings) (section : ℕ) → section_total files ≤ section → length files ≡ 0 →
    list_any (λ (c : BoundCommon). c.section == section) (commons_at b.commons 0) ≡ true → codes "COMMON" ≡ (input_at files b section).name
room_named files b section past none is =
    name_some (common_of (commons_at b.commons 0) section) (sym (any_found (λ (c : BoundCommon). c.section == section) (commons_at b.commons 0)) ∙ is)
    ∙ ap (λ (s : InputSection). s.name) (sym (room_of_none files b section none) ∙ input_past files b section past)

pub room_unnamed : (files : List File) (b : Bindings) (section : ℕ) → section_total files ≤ section → length files ≡ 0 →
    list_any (λ (c : BoundCommon). c.section == section) (commons_at b.commons 0) ≡ false → [] ≡ (input_at files b section).name
room_unnamed files b section past none is =
    name_none (common_of (commons_at b.commons 0) section) (sym (any_found (λ (c : BoundCommon). c.section == section) (commons_at b.commons 0)) ∙ is)
    ∙ ap (λ (s : InputSection). s.name) (sym (room_of_none files b section none) ∙ input_past files b section past)
