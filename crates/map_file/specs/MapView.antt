-- The map of a view.
use Rattle.std.specs.Prelude.{ℕ, List, map}
use Rattle.std.specs.Global.{Vec}
use Rattle.link_sections.specs.declared.members.Content.{Content}
use Rattle.link_sections.specs.declared.members.Member.{Member}
use Rattle.link_sections.specs.declared.views.View.{View}
use Rattle.link_sections.specs.LaidOut.{OutputSection}
use Rattle.link_sections.specs.Views.{binding_in, files_in, laid_in, leaders_in}
use Rattle.map_file.specs.MapText as text

-- lists of numbers, or of bytes
abbrev pub lists_view : List (Vec ℕ) → List (List ℕ)
lists_view lists = map (λ (list : Vec ℕ). list.items) lists

-- by file number, how files are shown
abbrev pub names_in : View → List (List ℕ)
names_in view = lists_view view.names.now

abbrev pub map_in : View → List ℕ
map_in view = text.map_text (names_in view) (files_in view) (binding_in view) (leaders_in view) (laid_in view) view.kept.now

-- its lines
abbrev pub entry_line : View → List ℕ
entry_line view = text.entry_line (names_in view) (files_in view) (binding_in view) (leaders_in view) (laid_in view)

abbrev pub place_text : View → (f k : ℕ) → List ℕ
place_text view f k = text.place_text (names_in view) (files_in view) (binding_in view) f k

abbrev pub section_text : View → (n : ℕ) → List ℕ
section_text view n = text.section_text (names_in view) (files_in view) (binding_in view) n

abbrev pub content_line : View → Content → (start size : ℕ) → List ℕ
content_line view content start size = text.content_line (names_in view) (files_in view) (binding_in view) content start size

abbrev pub member_line : View → Member → List ℕ
member_line view m = text.member_line (names_in view) (files_in view) (binding_in view) m

abbrev pub folded_text : View → (n : ℕ) → List ℕ
folded_text view n = text.folded_text (names_in view) (files_in view) (binding_in view) (leaders_in view) (laid_in view) n

abbrev pub folded_line : View → (number n : ℕ) → List ℕ
folded_line view number n = text.folded_line (names_in view) (files_in view) (binding_in view) (leaders_in view) (laid_in view) number n

abbrev pub output_block : View → (number : ℕ) → OutputSection → List Member → List ℕ
output_block view number o members = text.output_block (names_in view) (files_in view) (binding_in view) (leaders_in view) (laid_in view) number o members

abbrev pub output_blocks : View → (number : ℕ) → List OutputSection → (bits nobits_members : List Member) → List ℕ
output_blocks view number os bits nobits_members = text.output_blocks (names_in view) (files_in view) (binding_in view) (leaders_in view) (laid_in view) number os bits nobits_members
