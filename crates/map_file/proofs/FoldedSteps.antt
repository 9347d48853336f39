-- The folded sections by output section: one section more, and their lines.
use Rattle.std.proofs.Common.{◌≡◌, ◌≢◌, ℕ, zero, suc, ◌+◌, ◌<◌, ◌==◌, ◌&&◌, Bool, true, false, cond, List, [], ◌∷◌, ◌++◌, length, get_or, set, replicate, append-nil, refl, sym, ap, ◌∙◌, arith, inl, inr}
use Rattle.std.specs.Prelude.{flat_map}
use Rattle.std.specs.Global.{Vec}
use Rattle.std.proofs.lemmas.Bool.{cases_Bool}
use Rattle.std.proofs.lemmas.Bool.Decides.{nat_tests}
use Rattle.std.proofs.lemmas.Grind.{flat_map-append, get_or-set_at}
use Rattle.std.proofs.lemmas.List.{get_or-map, get_or-set_other, length-map, length-replicate, length-set}
use Rattle.lk_base.proofs.Loops.{flat_step}
use Rattle.link_sections.specs.declared.views.View.{View}
use Rattle.link_sections.specs.InputSections.{input_at}
use Rattle.link_sections.specs.LaidOut.{layout_view, output_view, with_contents}
use Rattle.link_sections.specs.Leaders.{leader_at, leader_of}
use Rattle.link_sections.specs.Views.{binding_in, files_in, laid_in, leaders_in}
use Rattle.symbol_table.specs.Outputs.{place_in}
use Rattle.map_file.specs.Folded.{AreFolded, one_if, own_folded}
use Rattle.map_file.specs.MapText as text
use Rattle.map_file.specs.MapText.{is_other, is_output}
use Rattle.map_file.specs.MapView.{folded_line, folded_text, lists_view}

-- whether one is listed goes by two tests
pub none_listed : (view : View) (number n : ℕ) → is_other (leader_at (leaders_in view) n) n ≡ false → own_folded view number n ≡ []
none_listed view number n is =
    ap (λ a. one_if (a && is_output number (place_in (laid_in view) (input_at (files_in view) (binding_in view) (leader_of (leaders_in view) n)))) n) is

same_number : (a c : ℕ) → (a == c) ≡ true → c ≡ a
same_number a c is = grind (arith, nat_tests)

other_number : (a c : ℕ) → (a == c) ≡ false → c ≢ a
other_number a c is = grind (arith, nat_tests)

-- a section is added to the list of number k
pub pushed_at : (old : List (Vec ℕ)) (k section : ℕ) (v d : Vec ℕ) → k < length old → v.items ≡ (get_or old k d).items ++ section ∷ [] → (number : ℕ) → number < length old →
    get_or (lists_view (set old k v)) number [] ≡ get_or (lists_view old) number [] ++ one_if (k == number) section
pushed_at old k section v d lt is number less =
    let items : Vec ℕ → List ℕ = λ list. list.items in
    let few : number < length (set old k v) = omega (arith, less, length-set old k v) in
    elim (cases_Bool (k == number)) [
      | inl same ↦
          let e : number ≡ k = same_number k number same in
          get_or-map items (set old k v) number d [] few
          ∙ ap items (get_or-set_at old k number v d e lt) ∙ is
          ∙ ap (λ l. l ++ section ∷ []) (ap (λ j. (get_or old j d).items) (sym e) ∙ sym (get_or-map items old number d [] less))
          ∙ ap (λ b. get_or (lists_view old) number [] ++ one_if b section) (sym same)
      | inr other ↦
          get_or-map items (set old k v) number d [] few
          ∙ ap items (get_or-set_other old k number v d (other_number k number other))
          ∙ sym (get_or-map items old number d [] less)
          ∙ sym (append-nil (get_or (lists_view old) number []))
          ∙ ap (λ b. get_or (lists_view old) number [] ++ one_if b section) (sym other)
    ]

pub output_count : (view : View) → length (laid_in view).outputs ≡ length view.layout.now.outputs.items
unfolding layout_view with_contents
output_count view = length-map view.layout.now.outputs.items output_view

-- before the first
nil_at : (n i : ℕ) → ◌≡◌ {A = List ℕ} (get_or (replicate n []) i []) []
nil_at zero i = refl
nil_at (suc n) zero = refl
nil_at (suc n) (suc i) = nil_at n i

pub none_folded : (view : View) (count : ℕ) (lists : List (List ℕ)) → lists ≡ replicate (count + 1) [] → count ≡ length view.layout.now.outputs.items → AreFolded view 0 lists
none_folded view count lists is many = record {
  enough = omega (arith, ap length is, length-replicate {A = List ℕ} (count + 1) [], many, output_count view);
  each = λ number lt. ap (λ l. get_or l number []) is ∙ nil_at (count + 1) number;
}

-- one section more
pub more_folded : (view : View) (n : ℕ) (old new : List (Vec ℕ)) → AreFolded view n (lists_view old) → length new ≡ length old →
    ((number : ℕ) → number < length old → get_or (lists_view new) number [] ≡ get_or (lists_view old) number [] ++ own_folded view number n) →
    AreFolded view (n + 1) (lists_view new)
more_folded view n old new held count each =
    let items : Vec ℕ → List ℕ = λ list. list.items in
    let many : length (lists_view new) ≡ length (lists_view old) = length-map new items ∙ count ∙ sym (length-map old items) in
    record {
      enough = many ∙ held.enough;
      each = λ number lt.
          let own : number < length (lists_view old) = omega (arith, lt, many) in
          flat_step (own_folded view number) n (get_or (lists_view old) number []) (get_or (lists_view new) number [])
          (held.each number own) (each number (omega (arith, own, length-map old items)));
    }

-- a list that is read
pub listed_at : (lists : List (Vec ℕ)) (k : ℕ) (v : Vec ℕ) → k < length lists → v ≡ get_or lists k v → v.items ≡ get_or (lists_view lists) k []
listed_at lists k v lt is =
    let items : Vec ℕ → List ℕ = λ list. list.items in
    ap items is ∙ sym (get_or-map items lists k v [] lt)

-- their lines
line_of : (view : View) (n : ℕ) (b : Bool) → flat_map (folded_text view) (one_if b n) ≡ cond b (folded_text view n) []
line_of view n true = append-nil (folded_text view n)
line_of view n false = refl

pub lines_are : (view : View) (number : ℕ) (ns : List ℕ) → flat_map (folded_text view) (flat_map (own_folded view number) ns) ≡ flat_map (folded_line view number) ns
unfolding text.folded_line
lines_are view number [] = refl
lines_are view number (n ∷ ns) =
    flat_map-append (folded_text view) (own_folded view number n) (flat_map (own_folded view number) ns)
    ∙ ap (λ l. l ++ flat_map (folded_text view) (flat_map (own_folded view number) ns))
    (line_of view n (text.is_folded_in (files_in view) (binding_in view) (leaders_in view) (laid_in view) number n))
    ∙ ap (λ l. folded_line view number n ++ l) (lines_are view number ns)
