-- The place of a number past the last section, and the name of the room of a COMMON symbol.
use Rattle.std.proofs.Common.{◌≡◌, ℕ, zero, suc, ◌+◌, ◌-◌, ◌<◌, ◌≤◌, Bool, false, Option, Some, None, List, length, refl, ap, ◌∙◌, arith, true, [], codes}
use Rattle.std.specs.Prelude.{find, is_some, nat_lt, unwrap_or}
use Rattle.std.specs.List.{range_with_len}
use Rattle.std.proofs.lemmas.Bool.{cond-false, le-ltb}
use Rattle.lk_tables.specs.Files.{File, first_section, section_total}
use Rattle.lk_tables.specs.Sites.{owner_of, place_of}
use Rattle.lk_tables.proofs.FirstNumbers.{section_most}
use Rattle.lk_tables.specs.declared.commons.BoundCommon.{BoundCommon}
use Rattle.lk_tables.specs.InputSections.{room_input}

none_found : (p : ℕ → Bool) (from n : ℕ) → ((k : ℕ) → k < from + n → p k ≡ false) → find p (range_with_len from n) ≡ None
none_found p from zero each = refl
none_found p from (suc n) each =
    cond-false (p from) (Some from) (find p (range_with_len (from + 1) n)) (each from (omega arith))
    ∙ none_found p (from + 1) n (λ k lt. each k (omega (arith, lt)))

owner_past : (files : List File) (section : ℕ) → section_total files ≤ section → owner_of files section ≡ 0
unfolding owner_of
owner_past files section past =
    ap (λ (o : Option ℕ). unwrap_or o 0)
    (none_found (λ f. nat_lt section (first_section files (f + 1))) 0 (length files) (λ f lt.
    le-ltb section (first_section files (f + 1)) (omega (arith, past, section_most files (f + 1) (omega (arith, lt))))))

pub place_past : (files : List File) (section : ℕ) → section_total files ≤ section → place_of files section ≡ record { file = 0; index = section }
unfolding place_of
place_past files section past =
    let at = owner_past files section past in
    let whole : section - 0 ≡ section = omega arith in
    ap (λ f. record { file = f; index = section - first_section files f }) at ∙ ap (λ k. record { file = 0; index = k }) whole

pub name_some : (o : Option BoundCommon) → is_some o ≡ true → codes "COMMON" ≡ (room_input o).name
name_some None is = cc
name_some (Some c) is = refl

pub name_none : (o : Option BoundCommon) → is_some o ≡ false → [] ≡ (room_input o).name
name_none None is = refl
name_none (Some c) is = cc
