-- The lines of sections that are left out.
use Rattle.std.proofs.Common.{◌≡◌, ℕ, true, false, List, [], ◌++◌, append_assoc, append-nil, codes, sym, ap, ◌∙◌}
use Rattle.std.proofs.lemmas.Bool.{cond-true, cond-false}
use Rattle.lk_tables.specs.declared.section_places.SectionPlace.{SectionPlace}
use Rattle.lk_tables.specs.Sites.{place_of}
use Rattle.link_sections.specs.declared.views.View.{View}
use Rattle.link_sections.specs.Views.{files_in}
use Rattle.map_file.specs.declared.left.Left.{Left}
use Rattle.map_file.specs.declared.left.Left.TheVariants.{Dropped, Discarded}
use Rattle.map_file.specs.Left.{is_left, left_line, word_of}
use Rattle.map_file.specs.MapText.{discarded_line, dropped_line}
use Rattle.map_file.specs.MapView.{place_text, section_text}

abbrev line : View → Left → ℕ → List ℕ
line view left n = word_of left ++ codes " " ++ section_text view n ++ codes "\n"

told : (view : View) (left : Left) (n : ℕ) → is_left view left n ≡ true → left_line view left n ≡ word_of left ++ codes " " ++ section_text view n ++ codes "\n"
unfolding dropped_line discarded_line
told view Dropped n is = cond-true (is_left view Dropped n) (line view Dropped n) [] is
told view Discarded n is = cond-true (is_left view Discarded n) (line view Discarded n) [] is

passed : (view : View) (left : Left) (n : ℕ) → is_left view left n ≡ false → left_line view left n ≡ []
unfolding dropped_line discarded_line
passed view Dropped n is = cond-false (is_left view Dropped n) (line view Dropped n) [] is
passed view Discarded n is = cond-false (is_left view Discarded n) (line view Discarded n) [] is

regrouped : (old w s t e : List ℕ) → old ++ w ++ s ++ t ++ e ≡ old ++ (w ++ s ++ t ++ e)
regrouped old w s t e =
    ap (λ l. l ++ t ++ e) (append_assoc old w s) ∙ ap (λ l. l ++ e) (append_assoc old (w ++ s) t) ∙ append_assoc old (w ++ s ++ t) e

pub line_added : (view : View) (left : Left) (n : ℕ) (place : SectionPlace) (old new word : List ℕ) → is_left view left n ≡ true → place ≡ place_of (files_in view) n →
    word ≡ word_of left → new ≡ old ++ word ++ codes " " ++ place_text view place.file place.index ++ codes "\n" → new ≡ old ++ left_line view left n
line_added view left n place old new word is at said added =
    added ∙ ap (λ w. old ++ w ++ codes " " ++ place_text view place.file place.index ++ codes "\n") said
    ∙ ap (λ (p : SectionPlace). old ++ word_of left ++ codes " " ++ place_text view p.file p.index ++ codes "\n") at
    ∙ regrouped old (word_of left) (codes " ") (section_text view n) (codes "\n")
    ∙ ap (λ l. old ++ l) (sym (told view left n is))

pub none_added : (view : View) (left : Left) (n : ℕ) (old : List ℕ) → is_left view left n ≡ false → old ≡ old ++ left_line view left n
none_added view left n old is = sym (append-nil old) ∙ ap (λ l. old ++ l) (sym (passed view left n is))
