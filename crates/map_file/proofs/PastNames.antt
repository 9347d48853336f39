-- The name of a section of a file past the last: it can only be the room of a COMMON symbol.
use Rattle.std.proofs.Common.{◌≡◌, ℕ, ◌+◌, ◌≤◌, true, false, cond, Option, List, [], length, map, sum, codes, sym, ap, ◌∙◌, arith}
use Rattle.std.specs.Prelude.{is_some, nat_lt}
use Rattle.std.proofs.lemmas.Bool.{cond-false, le-ltb}
use Rattle.std.proofs.lemmas.List.{get_or_past, take_all}
use Rattle.lk_tables.specs.declared.commons.BoundCommon.{BoundCommon}
use Rattle.lk_tables.specs.Binding.{Bindings}
use Rattle.lk_tables.specs.Files.{File, file_at, first_section, no_file, section_count, section_total}
use Rattle.lk_tables.specs.InputSections.{InputSection, common_in, common_of, input_of, room_input, section_input}
use Rattle.lk_tables.specs.Targets.{commons_at}
use Rattle.link_sections.proofs.PastSections.{name_none, name_some}

first_past : (files : List File) (f : ℕ) → length files ≤ f → first_section files f ≡ section_total files
first_past files f past =
    ap (λ (l : List File). sum (map section_count l)) (take_all f files past ∙ sym (take_all (length files) files (omega arith)))

room_past : (files : List File) (b : Bindings) (f k : ℕ) → length files ≤ f →
    input_of files b f k ≡ room_input (common_of (commons_at b.commons f) (section_total files + k))
unfolding input_of
room_past files b f k past =
    let none : file_at files f ≡ no_file = get_or_past files f no_file past in
    ap (λ (x : File). cond (nat_lt k (length x.head.sections)) (section_input x k) (room_input (common_in files b f k))) none
    ∙ cond-false (nat_lt k 0) (section_input no_file k) (room_input (common_in files b f k)) (le-ltb k 0 (omega arith))
    ∙ ap (λ first. room_input (common_of (commons_at b.commons f) (first + k))) (first_past files f past)

pub named_past : (files : List File) (b : Bindings) (f k number : ℕ) (o : Option BoundCommon) → length files ≤ f → number ≡ section_total files + k →
    o ≡ common_of (commons_at b.commons f) number → is_some o ≡ true → codes "COMMON" ≡ (input_of files b f k).name
named_past files b f k number o past at is some =
    name_some o some ∙ ap (λ x. (room_input x).name) (is ∙ ap (common_of (commons_at b.commons f)) at) ∙ ap (λ (s : InputSection). s.name) (sym (room_past files b f k past))

pub nameless_past : (files : List File) (b : Bindings) (f k number : ℕ) (o : Option BoundCommon) → length files ≤ f → number ≡ section_total files + k →
    o ≡ common_of (commons_at b.commons f) number → is_some o ≡ false → [] ≡ (input_of files b f k).name
nameless_past files b f k number o past at is none =
    name_none o none ∙ ap (λ x. (room_input x).name) (is ∙ ap (common_of (commons_at b.commons f)) at) ∙ ap (λ (s : InputSection). s.name) (sym (room_past files b f k past))
