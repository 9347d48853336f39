-- The cut of a call among those that the code holds.
use Rattle.std.proofs.Common.{◌≡◌, ℕ, ◌<◌, ◌≤◌, ◌==◌, ◌&&◌, not, inl, inr, Bool, true, false, Option, Some, List, [], ◌∷◌, find, get_or, length, refl, sym, ap, ◌∙◌, arith}
use Rattle.std.specs.Prelude.{if◌then◌else◌}
use Rattle.std.specs.Option.{option_map_or}
use Rattle.std.proofs.lemmas.Bool.{cases_lt, eq-eqb, ne_eqb}
use Rattle.lk_tables.proofs.Finding.{find_first, find_nothing}
use Rattle.link_sections.specs.declared.cuts.Cut.{Cut as HeldCut}
use Rattle.link_sections.specs.Calls.{call_size, is_call_cut}
use Rattle.link_sections.specs.Cuts.{Cut}
use Rattle.link_sections.specs.CutsView.{AreCuts, cut_view, cut_views}
use Rattle.reloc_apply.specs.Sites.{no_held}
use Rattle.reloc_apply.proofs.CutViews.{ats_rise}

abbrev pub is_held_call : (offset : ℕ) → HeldCut → Bool
is_held_call offset c = c.at == offset && not c.is_align

size_step : (test : Bool) (c : HeldCut) (found : Option Cut) (held : Option HeldCut)
    → option_map_or (λ (c : Cut). c.kept) found 8 ≡ option_map_or (λ (c : HeldCut). c.kept) held 8
    → option_map_or (λ (c : Cut). c.kept) (if test then Some (cut_view c) else found) 8
    ≡ option_map_or (λ (c : HeldCut). c.kept) (if test then Some c else held) 8
size_step true c found held is = refl
size_step false c found held is = is

size_found : (offset : ℕ) (cuts : List HeldCut) → option_map_or (λ (c : Cut). c.kept) (find (is_call_cut offset) (cut_views cuts)) 8
    ≡ option_map_or (λ (c : HeldCut). c.kept) (find (is_held_call offset) cuts) 8
size_found offset [] = refl
size_found offset (c ∷ cs) =
    size_step (is_held_call offset c) c (find (is_call_cut offset) (cut_views cs)) (find (is_held_call offset) cs) (size_found offset cs)

size_is : (offset : ℕ) (cuts : List HeldCut) →
    option_map_or (λ (c : HeldCut). c.kept) (find (is_held_call offset) cuts) 8 ≡ call_size (cut_views cuts) offset
unfolding call_size
size_is offset cuts = sym (size_found offset cuts)

-- none of the first k cuts is that of the call
abbrev pub NoneBefore : List HeldCut → (offset k : ℕ) → Type 0
NoneBefore cuts offset k = (j : ℕ) → j < k → is_held_call offset (get_or cuts j no_held) ≡ false

elsewhere : (offset : ℕ) (c : HeldCut) → (c.at ≡ offset → ⊥) → is_held_call offset c ≡ false
elsewhere offset c other = ap (λ b. b && not c.is_align) (ne_eqb c.at offset other)

none_size : (cuts : List HeldCut) (offset : ℕ) → NoneBefore cuts offset (length cuts) → 8 ≡ call_size (cut_views cuts) offset
none_size cuts offset none =
    sym (ap (λ o. option_map_or (λ (c : HeldCut). c.kept) o 8) (find_nothing (is_held_call offset) cuts no_held none)) ∙ size_is offset cuts

pub size_past : (cuts : List HeldCut) (offset k : ℕ) → length cuts ≤ k → NoneBefore cuts offset k → 8 ≡ call_size (cut_views cuts) offset
size_past cuts offset k le none = none_size cuts offset (λ j lt. none j (omega (arith, lt, le)))

pub size_none : (cuts : List HeldCut) (offset k : ℕ) → AreCuts cuts → k < length cuts → NoneBefore cuts offset k → offset ≤ (get_or cuts k no_held).at →
    ((get_or cuts k no_held).at ≡ offset → ⊥) → 8 ≡ call_size (cut_views cuts) offset
size_none cuts offset k are within none from other =
    let above : offset < (get_or cuts k no_held).at = elim (cases_lt offset (get_or cuts k no_held).at) [
      | inl lt ↦ lt
      | inr le ↦ absurd (other (omega (arith, from, le)))
    ] in
    none_size cuts offset (λ j lt. elim (cases_lt j k) [
      | inl low ↦ none j low
      | inr high ↦
          let up = ats_rise cuts are k j high lt in
          elsewhere offset (get_or cuts j no_held) (λ same. omega (arith, up, above, same))
    ])

pub size_found_at : (cuts : List HeldCut) (offset k : ℕ) → k < length cuts → NoneBefore cuts offset k → (get_or cuts k no_held).at ≡ offset →
    (get_or cuts k no_held).is_align ≡ false → (get_or cuts k no_held).kept ≡ call_size (cut_views cuts) offset
size_found_at cuts offset k within none at call =
    let c = get_or cuts k no_held in
    let is : is_held_call offset c ≡ true = ap (λ b. b && not c.is_align) (eq-eqb c.at offset at) ∙ ap not call in
    sym (ap (λ o. option_map_or (λ (c : HeldCut). c.kept) o 8) (find_first (is_held_call offset) cuts k no_held within none is)) ∙ size_is offset cuts
