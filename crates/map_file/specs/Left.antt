-- The lines of sections that are not in the executable, of both sorts.
use Rattle.std.specs.Prelude.{ℕ, Bool, List, codes}
use Rattle.link_sections.specs.declared.views.View.{View}
use Rattle.link_sections.specs.Views.{binding_in, files_in}
use Rattle.map_file.specs.declared.left.Left.{Left}
use Rattle.map_file.specs.declared.left.Left.TheVariants.{Dropped, Discarded}
use Rattle.map_file.specs.MapText as text
use Rattle.map_file.specs.MapView.{names_in}

abbrev pub word_of : Left → List ℕ
word_of Dropped = codes "dropped"
word_of Discarded = codes "discarded"

-- section n is left out so
abbrev pub is_left : View → Left → (n : ℕ) → Bool
is_left view Dropped n = text.is_dropped (files_in view) (binding_in view) view.kept.now n
is_left view Discarded n = text.is_discarded (files_in view) (binding_in view) n

abbrev pub left_line : View → Left → (n : ℕ) → List ℕ
left_line view Dropped n = text.dropped_line (names_in view) (files_in view) (binding_in view) view.kept.now n
left_line view Discarded n = text.discarded_line (names_in view) (files_in view) (binding_in view) n
