-- The rows of cuts of all sections, one section on.
use Rattle.std.proofs.Common.{◌≡◌, ℕ, zero, suc, ◌+◌, ◌-◌, ◌<◌, ◌≤◌, List, [], ◌∷◌, ◌++◌, map, flat_map, get_or, All, refl, ap, sym, ◌∙◌, subst, arith}
use Rattle.std.specs.List.{range_with_len}
use Rattle.std.proofs.lemmas.List.{map-append}
use Rattle.std.proofs.lemmas.List.Elements.{All-nil, All-cons, All-append}
use Rattle.lk_base.specs.declared.defects.Defect.{Defect}
use Rattle.lk_base.specs.declared.defects.LinkStop.{LinkStop}
use Rattle.lk_base.specs.Firsts.{StopsAt}
use Rattle.lk_base.proofs.Loops.{map_step, pass_end, pass_step, stop_step}
use Rattle.lk_tables.specs.Files.{File}
use Rattle.lk_tables.specs.Sites.{place_of}
use Rattle.link_sections.specs.declared.cuts.Cut.{Cut as HeldCut}
use Rattle.link_sections.specs.Cuts.{Cut}
use Rattle.link_sections.specs.CutsView.{AreCuts, cut_views}
use Rattle.layout.specs.Cutting.{short_defects}
use Rattle.layout.specs.Layout.{cut_defects}

-- the defects of one section, from the cuts that it has
abbrev pub row_defects : List File → (ℕ → List Cut) → ℕ → List Defect
row_defects files row n = short_defects (place_of files n) (row n)

flat_same : (f g : ℕ → List Defect) (a n : ℕ) → ((k : ℕ) → a ≤ k → k < a + n → f k ≡ g k) → flat_map f (range_with_len a n) ≡ flat_map g (range_with_len a n)
flat_same f g a zero same = refl
flat_same f g a (suc n) same =
    ap (λ l. l ++ flat_map f (range_with_len (a + 1) n)) (same a (omega arith) (omega arith))
    ∙ ap (λ l. g a ++ l) (flat_same f g (a + 1) n (λ k from to. same k (omega (arith, from)) (omega (arith, to))))

pub map_at : (row : ℕ → List Cut) (a n k : ℕ) → k < n → get_or (map row (range_with_len a n)) k [] ≡ row (a + k)
map_at row a zero k lt = absurd (omega (arith, lt))
map_at row a (suc n) zero lt = let e : a ≡ a + 0 = omega arith in ap row e
map_at row a (suc n) (suc k) lt =
    let e : (a + 1) + k ≡ a + suc k = omega arith in
    map_at row (a + 1) n k (omega (arith, lt)) ∙ ap row e

pub defects_are : (files : List File) (row : ℕ → List Cut) (total : ℕ)
    → cut_defects files (map row (range_with_len 0 total)) total ≡ flat_map (row_defects files row) (range_with_len 0 total)
defects_are files row total =
    flat_same (λ n. short_defects (place_of files n) (get_or (map row (range_with_len 0 total)) n [])) (row_defects files row) 0 total
    (λ k from to.
    let e : 0 + k ≡ k = omega arith in
    ap (short_defects (place_of files k)) (map_at row 0 total k (omega (arith, to)) ∙ ap row e))

pub record Laying (files : List File) (row : ℕ → List Cut) (total i : ℕ) (rows : List (List HeldCut)) : Type 0 where
  pub passes : flat_map (row_defects files row) (range_with_len i (total - i)) ≡ flat_map (row_defects files row) (range_with_len 0 total)
  pub views : map cut_views rows ≡ map row (range_with_len 0 i)
  pub sound : All AreCuts rows

pub laying_next : (files : List File) (row : ℕ → List Cut) (total i : ℕ) (rows rows' : List (List HeldCut)) → i < total
    → Laying files row total i rows → map cut_views rows' ≡ map cut_views rows ++ row i ∷ [] → (All AreCuts rows → All AreCuts rows') → row_defects files row i ≡ []
    → Laying files row total (i + 1) rows'
laying_next files row total i rows rows' lt so_far views sound none = record {
  passes = pass_step (row_defects files row) i total _ lt so_far.passes none;
  views = map_step row i (map cut_views rows) (map cut_views rows') so_far.views views;
  sound = sound so_far.sound;
}

-- one row more
pub views_more : (rows rows' : List (List HeldCut)) (laid : List HeldCut) (row : List Cut) → rows' ≡ rows ++ laid ∷ [] → cut_views laid ≡ row
    → map cut_views rows' ≡ map cut_views rows ++ row ∷ []
views_more rows rows' laid row more views = ap (map cut_views) more ∙ map-append cut_views rows (laid ∷ []) ∙ ap (λ x. map cut_views rows ++ x ∷ []) views

pub sound_more : (rows rows' : List (List HeldCut)) (laid : List HeldCut) → rows' ≡ rows ++ laid ∷ [] → AreCuts laid → All AreCuts rows → All AreCuts rows'
sound_more rows rows' laid more cuts sound = rw more (All-append AreCuts rows (laid ∷ []) sound (All-cons AreCuts laid [] cuts (All-nil AreCuts)))

pub laying_stops : (files : List File) (row : ℕ → List Cut) (total i : ℕ) (rows : List (List HeldCut)) (stop : LinkStop) → i < total
    → Laying files row total i rows → StopsAt stop (row_defects files row i) → StopsAt stop (cut_defects files (map row (range_with_len 0 total)) total)
laying_stops files row total i rows stop lt so_far stops =
    subst (StopsAt stop) (sym (defects_are files row total)) (stop_step (row_defects files row) i total _ stop lt so_far.passes stops)

pub laying_goes : (files : List File) (row : ℕ → List Cut) (total i : ℕ) (rows : List (List HeldCut)) → total ≤ i → Laying files row total i rows
    → cut_defects files (map row (range_with_len 0 total)) total ≡ []
laying_goes files row total i rows past so_far = defects_are files row total ∙ pass_end (row_defects files row) i total _ past so_far.passes
