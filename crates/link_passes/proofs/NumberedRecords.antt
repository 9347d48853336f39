-- Bodies taken apart, and unwind records under the numbers of their sections, one after the other.
use Rattle.std.proofs.Common.{◌≡◌, ℕ, ◌+◌, ◌<◌, List, [], ◌∷◌, ◌++◌, length, map, get_or, sym, ap, ◌∙◌, subst, arith, append_assoc}
use Rattle.std.specs.Global.{Vec}
use Rattle.std.specs.List.{AllByRecursion, range_with_len}
use Rattle.std.proofs.lemmas.List.{get_or-map, length-map, map-append}
use Rattle.std.proofs.lemmas.List.FromFn.{get_or-map-range_with_len, length-map-range_with_len}
use Rattle.lk_tables.specs.declared.records.Record.{Record}
use Rattle.lk_tables.specs.Files.{File, file_at, section_no}
use Rattle.lk_tables.specs.Frames.{RecordList, list_view, list_views}
use Rattle.lk_tables.proofs.Putting.{given_here, given_within}
use Rattle.link_passes.specs.Frames.{lists_for, numbered}
use Rattle.link_passes.proofs.EachBody.{IsListed, all_listed, at_middle}

-- the records of one file, each list with its section
abbrev pub Lists : Type 0
Lists = Vec (ℕ × Vec Record)

abbrev pub view : Lists → List RecordList
view list = list_views list.items

-- one more of a list seen by a function
pub mapped_more : {X Y : Type 0} (f : X → Y) (old new : List Y) (xs : List X) (x : X) → old ≡ map f xs → new ≡ old ++ f x ∷ [] → new ≡ map f (xs ++ x ∷ [])
mapped_more f old new xs x held is = is ∙ ap (λ l. l ++ f x ∷ []) held ∙ sym (map-append f xs (x ∷ []))

module _ (files : List File) (all : List Lists) (are : map view all ≡ map (λ f. lists_for (file_at files f)) (range_with_len 0 (length files))) where
  pub count_is : length all ≡ length files
  count_is = sym (length-map all view) ∙ ap length are ∙ length-map-range_with_len (λ f. lists_for (file_at files f)) 0 (length files)

  -- the next is that of the next file
  module _ (yielded items rest : List Lists) (list : Lists) (whole : yielded ++ items ≡ all) (next : items ≡ list ∷ rest) (file : ℕ) (at : file ≡ length yielded) where
    pub file_within : file < length files
    file_within = omega (arith, at, given_within yielded items rest all list whole next, count_is)

    pub lists_here : view list ≡ lists_for (file_at files file)
    lists_here =
        let give : ℕ → List RecordList = λ f. lists_for (file_at files f) in
        let lt = file_within in
        sym (ap view (ap (λ k. get_or all k list) at ∙ given_here yielded items rest all list list whole next))
        ∙ sym (get_or-map view all file list (view list) (omega (arith, lt, count_is)))
        ∙ ap (λ l. get_or l file (view list)) are
        ∙ get_or-map-range_with_len give 0 (length files) file file (view list) lt (omega arith)

-- a list of a file that is taken
pub listed_here : (file : File) (all yielded items rest : List (ℕ × Vec Record)) (x : ℕ × Vec Record) → list_views all ≡ lists_for file →
    yielded ++ items ≡ all → items ≡ x ∷ rest → IsListed file (list_view x)
listed_here file all yielded items rest x are whole next =
    let P : List RecordList → Type 0 = λ l. AllByRecursion (IsListed file) l in
    let split = sym whole ∙ ap (λ l. yielded ++ l) next in
    at_middle (IsListed file) list_view yielded rest x (subst P (sym are ∙ ap list_views split) (all_listed file))

-- one list more under its section's number
pub numbered_more : (files : List File) (f : ℕ) (first : List RecordList) (yielded old new : List (ℕ × Vec Record)) (x : ℕ × Vec Record) (number : ℕ) →
    list_views old ≡ first ++ map (numbered files f) (list_views yielded) → new ≡ old ++ (number, x.1) ∷ [] → number ≡ section_no files f x.0 →
    list_views new ≡ first ++ map (numbered files f) (list_views (yielded ++ x ∷ []))
numbered_more files f first yielded old new x number held pushed is =
    let one = numbered files f (list_view x) in
    ap list_views pushed ∙ map-append list_view old ((number, x.1) ∷ [])
    ∙ ap (λ n. list_views old ++ list_view (n, x.1) ∷ []) is
    ∙ ap (λ l. l ++ one ∷ []) held
    ∙ append_assoc first (map (numbered files f) (list_views yielded)) (one ∷ [])
    ∙ ap (λ l. first ++ l) (sym (map-append (numbered files f) (list_views yielded) (list_view x ∷ [])) ∙ ap (map (numbered files f)) (sym (map-append list_view yielded (x ∷ []))))
