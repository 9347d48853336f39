-- The folded sections of each output section, gathered once.
use Rattle.std.specs.Prelude.{◌≡◌, ℕ, ◌+◌, ◌<◌, Bool, if◌then◌else◌, List, [], ◌∷◌, ◌++◌, flat_map, length, slice_index_or}
use Rattle.std.specs.List.{range_with_len}
use Rattle.link_sections.specs.declared.members.Member.{Member}
use Rattle.link_sections.specs.declared.views.View.{View}
use Rattle.link_sections.specs.LaidOut.{OutputSection}
use Rattle.link_sections.specs.Views.{binding_in, files_in, laid_in, leaders_in}
use Rattle.map_file.specs.MapText.{is_folded_in, output_line}
use Rattle.map_file.specs.MapView.{folded_text, member_line}

-- a number, if something holds of it
abbrev pub one_if : Bool → ℕ → List ℕ
one_if holds n = if holds then n ∷ [] else []

-- section n, if it is folded and the section in its place stands in the output section of this number
abbrev pub own_folded : View → (number n : ℕ) → List ℕ
own_folded view number n = one_if (is_folded_in (files_in view) (binding_in view) (leaders_in view) (laid_in view) number n) n

-- by the numbers of output sections, of the first `count` sections those that are folded there
pub record AreFolded (view : View) (count : ℕ) (lists : List (List ℕ)) : Type 0 where
  pub enough : length lists ≡ length (laid_in view).outputs + 1
  pub each : (number : ℕ) → number < length lists → slice_index_or lists number [] ≡ flat_map (own_folded view number) (range_with_len 0 count)

-- an output section, its members, and sections that are folded there
abbrev pub block_text : View → OutputSection → List Member → (sections : List ℕ) → List ℕ
block_text view o members sections = output_line o ++ (flat_map (member_line view) members ++ flat_map (folded_text view) sections)
