-- Steps that add what unwind records name to a list.
use Rattle.std.proofs.Common.{◌≡◌, ℕ, ◌+◌, ◌<◌, List, [], ◌∷◌, ◌++◌, length, map, flat_map, get_or, take, refl, sym, ap, ◌∙◌, arith, append_assoc, append-nil}
use Rattle.std.proofs.lemmas.Grind.{flat_map-append}
use Rattle.std.proofs.lemmas.List.{map-append, take_more}
use Rattle.lk_tables.specs.declared.records.FrameNo.{FrameNo}
use Rattle.lk_tables.specs.Binding.{Bindings}
use Rattle.lk_tables.specs.Files.{File}
use Rattle.lk_tables.specs.Frames.{RecordList, all_lists}
use Rattle.lk_tables.specs.Records.{RecordView}
use Rattle.lk_tables.specs.Sites.{place_of}
use Rattle.sec_graph.specs.FrameRelocs.{cie_no, cies_of, record_by}
use Rattle.sec_graph.specs.Graph.{cie_ends, fde_ends}

-- two parts of a list, one after the other
pub two_parts : {X Y : Type 0} (g : X → List Y) (old mid new : List Y) (xs ys zs : List X) → zs ≡ xs ++ ys → mid ≡ old ++ flat_map g xs → new ≡ mid ++ flat_map g ys →
    new ≡ old ++ flat_map g zs
two_parts g old mid new xs ys zs parts first second =
    second ∙ ap (λ l. l ++ flat_map g ys) first ∙ append_assoc old (flat_map g xs) (flat_map g ys)
    ∙ ap (λ l. old ++ l) (sym (flat_map-append g xs ys)) ∙ ap (λ l. old ++ flat_map g l) (sym parts)

pub two_maps : {X Y : Type 0} (g : X → Y) (old mid new : List Y) (xs ys zs : List X) → zs ≡ xs ++ ys → mid ≡ old ++ map g xs → new ≡ mid ++ map g ys → new ≡ old ++ map g zs
two_maps g old mid new xs ys zs parts first second =
    second ∙ ap (λ l. l ++ map g ys) first ∙ append_assoc old (map g xs) (map g ys)
    ∙ ap (λ l. old ++ l) (sym (map-append g xs ys)) ∙ ap (λ l. old ++ map g l) (sym parts)

pub two_lists : {Y : Type 0} (old mid new xs ys : List Y) → mid ≡ old ++ xs → new ≡ mid ++ ys → new ≡ old ++ (xs ++ ys)
two_lists old mid new xs ys first second = second ∙ ap (λ l. l ++ ys) first ∙ append_assoc old xs ys

-- a list of one element
pub one_element : {X : Type 0} (xs : List X) (d : X) → length xs ≡ 1 → xs ≡ get_or xs 0 d ∷ []
one_element [] d is = absurd (omega (arith, is))
one_element (x ∷ []) d is = refl
one_element (x ∷ y ∷ ys) d is = absurd (omega (arith, is))

one_flat : {X Y : Type 0} (g : X → List Y) (x : X) → flat_map g (x ∷ []) ≡ g x
one_flat g x = append-nil (g x)

one_cie : (lists : List RecordList) (fde : FrameNo) → cies_of lists (fde ∷ []) ≡ cie_no lists fde ∷ []
unfolding cies_of
one_cie lists fde = refl

no_cies : (lists : List RecordList) → cies_of lists [] ≡ []
unfolding cies_of
no_cies lists = refl

-- what is said of a record that was found, of its number
pub by_record : {Y : Type 0} (F : ℕ → RecordView → Y) (files : List File) (lists : List RecordList) (number : FrameNo) (r : RecordView) (f : ℕ) →
    lists ≡ all_lists files → record_by lists number ≡ r → f ≡ (place_of files number.section).file → F f r ≡ F (place_of files number.section).file (record_by (all_lists files) number)
by_record F files lists number r f same is file =
    ap (λ g. F g r) file ∙ ap (F (place_of files number.section).file) (sym is) ∙ ap (λ ls. F (place_of files number.section).file (record_by ls number)) same

-- a list of views, one element on
pub views_more : {A V X : Type 0} (view : A → V) (give : X → V) (old new : List A) (x : A) (xs : List X) (i : ℕ) (d : X) → i < length xs →
    map view old ≡ map give (take i xs) → new ≡ old ++ x ∷ [] → view x ≡ give (get_or xs i d) → map view new ≡ map give (take (i + 1) xs)
views_more view give old new x xs i d lt held push is =
    ap (map view) push ∙ map-append view old (x ∷ []) ∙ ap (λ l. l ++ view x ∷ []) held ∙ ap (λ v. map give (take i xs) ++ v ∷ []) is
    ∙ sym (ap (map give) (take_more xs i d lt) ∙ map-append give (take i xs) (get_or xs i d ∷ []))

module _ (files : List File) (b : Bindings) where
  -- the only FDE of a section
  pub only_cie : (fdes : List FrameNo) (fde : FrameNo) (old new : List ℕ) → fdes ≡ fde ∷ [] → new ≡ old ++ cie_ends files b (cie_no (all_lists files) fde) →
      new ≡ old ++ flat_map (cie_ends files b) (cies_of (all_lists files) fdes)
  only_cie fdes fde old new one is =
      let lists = all_lists files in
      is ∙ ap (λ l. old ++ l) (sym (ap (λ l. flat_map (cie_ends files b) (cies_of lists l)) one ∙ ap (flat_map (cie_ends files b)) (one_cie lists fde)
      ∙ one_flat (cie_ends files b) (cie_no lists fde)))

  -- FDEs, and then their CIEs; without an FDE nothing
  pub both_named : (fdes : List FrameNo) (old mid new : List ℕ) → mid ≡ old ++ flat_map (fde_ends files b) fdes →
      new ≡ mid ++ flat_map (cie_ends files b) (cies_of (all_lists files) fdes) →
      new ≡ old ++ (flat_map (fde_ends files b) fdes ++ flat_map (cie_ends files b) (cies_of (all_lists files) fdes))
  both_named fdes old mid new first second = two_lists old mid new (flat_map (fde_ends files b) fdes) (flat_map (cie_ends files b) (cies_of (all_lists files) fdes)) first second

  pub none_named_by : (fdes : List FrameNo) → fdes ≡ [] → flat_map (fde_ends files b) fdes ++ flat_map (cie_ends files b) (cies_of (all_lists files) fdes) ≡ []
  none_named_by fdes none =
      let lists = all_lists files in
      ap (λ l. flat_map (fde_ends files b) l ++ flat_map (cie_ends files b) (cies_of lists l)) none ∙ ap (flat_map (cie_ends files b)) (no_cies lists)
