-- What is merged of each section, one section more.
use Rattle.std.proofs.Common.{◌≡◌, ℕ, zero, suc, ◌+◌, ◌<◌, ◌≤◌, ◌==◌, Bool, List, [], ◌∷◌, ◌++◌, length, map, get_or, set, drop, refl, sym, ap, ◌∙◌, subst, arith, inl, inr}
use Rattle.std.specs.Prelude.{All}
use Rattle.std.proofs.Math.Seq.{drop-cons}
use Rattle.std.proofs.lemmas.Bool.{cases_Bool, eqb-true, eqb-false}
use Rattle.std.proofs.lemmas.List.{get_or-append-add, get_or-map, get_or_append_left, get_or-set_same, get_or-set_other, length-append, length-map, length-set, drop_all}
use Rattle.std.proofs.lemmas.List.Elements.{All-append, All-cons, All-weaker}
use Rattle.lk_tables.specs.Files.{File}
use Rattle.lk_tables.specs.TablesView.{files_of}
use Rattle.link_sections.specs.declared.pieces.Merged.{Merged as HeldMerged}
use Rattle.link_sections.specs.declared.pieces.Part.{Part}
use Rattle.link_sections.specs.Merging.{Site, merged_of, parts_from, piece_number, pool_number, pool_pieces, site_pieces, sites}
use Rattle.link_sections.specs.PoolViews.{Merged, merged_view}
use Rattle.link_sections.specs.Pools.{AreInOrder}
use Rattle.str_merge.specs.declared.filling.Filled.{Filled}
use Rattle.str_merge.specs.declared.pooling.Work.{Work}
use Rattle.str_merge.specs.Filling.{AddsParts, AreAnswered, IsAnswered, no_merged, with_answers}
use Rattle.str_merge.specs.Parts.{parts_by}
use Rattle.str_merge.specs.Pooling.{own_parts}
use Rattle.str_merge.specs.Works.{members_at, nth_site}
use Rattle.str_merge.proofs.PoolFacts.{members_own, members_within}

-- pieces with their numbers in the pool
pub parts_are : (known : List (List ℕ)) (start : ℕ) (pieces : List (List ℕ)) → parts_by start pieces (map (piece_number known) pieces) ≡ parts_from known start pieces
parts_are known start [] = refl
parts_are known start (piece ∷ pieces) = ap (λ l. record { start = start; piece = piece_number known piece } ∷ l) (parts_are known (start + length piece) pieces)

-- parts stand in order
low_parts : (start : ℕ) (pieces : List (List ℕ)) (numbers : List ℕ) (j : ℕ) (d : Part) → j < length (parts_by start pieces numbers) → start ≤ (get_or (parts_by start pieces numbers) j d).start
low_parts start [] numbers j d lt = absurd (omega arith)
low_parts start (piece ∷ pieces) [] j d lt = absurd (omega arith)
low_parts start (piece ∷ pieces) (n ∷ numbers) zero d lt = omega arith
low_parts start (piece ∷ pieces) (n ∷ numbers) (suc j) d lt =
    let more = low_parts (start + length piece) pieces numbers j d (omega arith) in omega (arith, more)

pub in_order : (start : ℕ) (pieces : List (List ℕ)) (numbers : List ℕ) → AreInOrder (parts_by start pieces numbers)
in_order start [] numbers = λ i j d le lt. absurd (omega arith)
in_order start (piece ∷ pieces) [] = λ i j d le lt. absurd (omega arith)
in_order start (piece ∷ pieces) (n ∷ numbers) = first_or_later start piece pieces n numbers (in_order (start + length piece) pieces numbers)
  where
    first_or_later : (start : ℕ) (piece : List ℕ) (pieces : List (List ℕ)) (n : ℕ) (numbers : List ℕ) → AreInOrder (parts_by (start + length piece) pieces numbers) →
        (i j : ℕ) (d : Part) → i ≤ j → j < length (parts_by start (piece ∷ pieces) (n ∷ numbers)) →
        (get_or (parts_by start (piece ∷ pieces) (n ∷ numbers)) i d).start ≤ (get_or (parts_by start (piece ∷ pieces) (n ∷ numbers)) j d).start
    first_or_later start piece pieces n numbers later zero j d le lt = low_parts start (piece ∷ pieces) (n ∷ numbers) j d lt
    first_or_later start piece pieces n numbers later (suc i) zero d le lt = absurd (omega arith)
    first_or_later start piece pieces n numbers later (suc i) (suc j) d le lt = later i j d (omega arith) (omega arith)

-- the answer of one section
set_keeps : (w : Work) (rows : List (List Part)) (answers : List HeldMerged) (site : ℕ) (here : HeldMerged) → site < length answers → here.row < length rows →
    merged_view rows here ≡ merged_of (files_of w.tables.now) w.kept.now (nth_site (files_of w.tables.now) w.kept.now site) →
    IsAnswered w rows (set answers site here) site × ((i : ℕ) → IsAnswered w rows answers i → IsAnswered w rows (set answers site here) i)
set_keeps w rows answers site here lt low is =
    let new = set answers site here in
    let Low : HeldMerged → Type 0 = λ m. m.row < length rows in
    let answer : get_or new site no_merged ≡ here = get_or-set_same answers site here no_merged lt in
    let own : IsAnswered w rows new site = record { row = subst Low (sym answer) low; merged = ap (merged_view rows) answer ∙ is } in (
      own,
      λ i held. elim (cases_Bool (i == site)) [
        | inl same ↦
            let P : ℕ → Type 0 = λ k. IsAnswered w rows new k in
            subst P (sym (eqb-true i site same)) own
        | inr other ↦
            let kept : get_or new i no_merged ≡ get_or answers i no_merged = get_or-set_other answers site i here no_merged (eqb-false i site other) in
            record { row = subst Low (sym kept) held.row; merged = ap (merged_view rows) kept ∙ held.merged }
      ],
    )

-- the row after a row stands for the section after a section
abbrev AreRows : (w : Work) (rows : List (List Part)) (pool row : ℕ) (members : List ℕ) → Type 0
AreRows w rows pool row members =
    (k : ℕ) → k < length members → (row + k < length rows)
    × (merged_view rows (record { pool = pool; row = row + k }) ≡ merged_of (files_of w.tables.now) w.kept.now (nth_site (files_of w.tables.now) w.kept.now (get_or members k 0)))

answered_keeps : (w : Work) (rows : List (List Part)) (pool row : ℕ) (members : List ℕ) (answers : List HeldMerged) → All (λ m. m < length answers) members → AreRows w rows pool row members →
    (length (with_answers answers members pool row) ≡ length answers)
    × ((i : ℕ) → IsAnswered w rows answers i → IsAnswered w rows (with_answers answers members pool row) i)
    × All (IsAnswered w rows (with_answers answers members pool row)) members
answered_keeps w rows pool row [] answers low are = (refl, λ i held. held, λ i d lt. absurd (omega arith))
answered_keeps w rows pool row (m ∷ members) answers low are =
    let here : HeldMerged = record { pool = pool; row = row } in
    let mid = set answers m here in
    let first = are 0 (omega arith) in
    let within = first.0 in
    let at : row + 0 ≡ row = omega arith in
    let step = set_keeps w rows answers m here (low 0 m (omega arith)) (omega (arith, within)) (ap (λ k. merged_view rows (record { pool = pool; row = k })) (sym at) ∙ first.1) in
    let long : length mid ≡ length answers = length-set answers m here in
    let later = answered_keeps w rows pool (row + 1) members mid
    (λ k d lt. let less = low (suc k) d (omega arith) in omega (arith, less, long))
    (λ k lt.
    let next = are (suc k) (omega arith) in
    let inside = next.0 in
    let on : (row + 1) + k ≡ row + suc k = omega arith in
    (omega (arith, inside), ap (λ j. merged_view rows (record { pool = pool; row = j })) on ∙ next.1)) in
    let Answered : ℕ → Type 0 = IsAnswered w rows (with_answers mid members pool (row + 1)) in
    (later.0 ∙ long, λ i held. later.1 i (step.1 i held), All-cons Answered m members (later.1 m step.0) later.2)

-- what is merged of a section of a pool
pub merged_is : (files : List File) (kept : List Bool) (s : Site) (pool : ℕ) → pool_number files kept s ≡ pool →
    merged_of files kept s ≡ record { pool = pool; parts = parts_by 0 (site_pieces files s) (map (piece_number (pool_pieces files kept pool)) (site_pieces files s)) }
unfolding merged_of
merged_is files kept s pool own =
    let Of : ℕ → Merged = λ p. record { pool = p; parts = parts_from (pool_pieces files kept p) 0 (site_pieces files s) } in
    ap Of own ∙ ap (λ (l : List Part). record { pool = pool; parts = l }) (sym (parts_are (pool_pieces files kept pool) 0 (site_pieces files s)))

-- a section of a pool
pub member_at : (files : List File) (kept : List Bool) (pool : ℕ) (members : List ℕ) (n : ℕ) → members ≡ members_at files kept pool → n < length members →
    (get_or members n 0 < length (sites files kept)) × (pool_number files kept (nth_site files kept (get_or members n 0)) ≡ pool)
member_at files kept pool members n is lt =
    let less : n < length (members_at files kept pool) = omega (arith, ap length is) in
    let P : List ℕ → Type 0 = λ l. (get_or l n 0 < length (sites files kept)) × (pool_number files kept (nth_site files kept (get_or l n 0)) ≡ pool) in
    subst P (sym is) (members_within files kept pool n 0 less, members_own files kept pool n 0 less)

-- its parts stand in order
own_ordered : (files : List File) (kept : List Bool) (s : Site) → AreInOrder (merged_of files kept s).parts
unfolding merged_of
own_ordered files kept s =
    let known = pool_pieces files kept (pool_number files kept s) in
    let pieces = site_pieces files s in
    subst AreInOrder (parts_are known 0 pieces) (in_order 0 pieces (map (piece_number known) pieces))

own_pool : (files : List File) (kept : List Bool) (s : Site) (pool : ℕ) → pool_number files kept s ≡ pool →
    record { pool = pool; parts = (merged_of files kept s).parts } ≡ merged_of files kept s
unfolding merged_of
own_pool files kept s pool own =
    let parts = parts_from (pool_pieces files kept (pool_number files kept s)) 0 (site_pieces files s) in
    let Of : ℕ → Merged = λ p. record { pool = p; parts = parts } in ap Of (sym own)

-- the sections of a pool
pub parts_answered : (w : Work) (pool : ℕ) (members : List ℕ) (lists : List (List Part)) (old new : Filled) → members ≡ members_at (files_of w.tables.now) w.kept.now pool →
    All (λ m. m < length old.answers.items) members → lists ≡ map (own_parts (files_of w.tables.now) w.kept.now) members → AddsParts members pool lists old new → AreAnswered w members old new
parts_answered w pool members lists old new own low are adds =
    let files = files_of w.tables.now in
    let kept = w.kept.now in
    let before = old.rows.parts in
    let rows = before ++ lists in
    let give = own_parts files kept in
    let count : length lists ≡ length members = ap length are ∙ length-map members give in
    let long : length rows ≡ length before + length lists = length-append before lists in
    let read : (k : ℕ) (d : List Part) → k < length members → get_or lists k d ≡ give (get_or members k 0) = λ k d lt. ap (λ l. get_or l k d) are ∙ get_or-map give members k 0 d lt in
    let each : AreRows w rows pool (length before) members = λ k lt. (
      omega (arith, lt, count, long),
      ap (λ (l : List Part). record { pool = pool; parts = l }) (get_or-append-add before lists k [] ∙ read k [] lt)
          ∙ own_pool files kept (nth_site files kept (get_or members k 0)) pool (member_at files kept pool members k own lt).1,
    ) in
    let said = with_answers old.answers.items members pool (length before) in
    let keeps = answered_keeps w rows pool (length before) members old.answers.items low each in
    let Rows : List (List Part) → Type 0 = All AreInOrder in
    let moved : (i : ℕ) → IsAnswered w rows said i → IsAnswered w new.rows.parts new.answers.items i = λ i held.
    let P : List (List Part) → Type 0 = λ l. IsAnswered w l new.answers.items i in
    let Q : List HeldMerged → Type 0 = λ l. IsAnswered w rows l i in
    subst P (sym adds.parts) (subst Q (sym adds.answers) held) in
    record {
      pools = adds.pools;
      pieces = adds.pieces;
      rows = omega (arith, ap length adds.parts, long, count);
      count = ap length adds.answers ∙ keeps.0;
      ordered = λ all. subst Rows (sym adds.parts) (All-append AreInOrder before lists all
          (λ k d lt. subst AreInOrder (sym (read k d (omega (arith, lt, count)))) (own_ordered files kept (nth_site files kept (get_or members k 0)))));
      keeps = λ i held. moved i (keeps.1 i (
          let m = get_or old.answers.items i no_merged in
          let within = held.row in
          record {
            row = omega (arith, within, long);
            merged = ap (λ (l : List Part). record { pool = m.pool; parts = l }) (get_or_append_left before lists [] m.row within) ∙ held.merged;
          }));
      adds = All-weaker (IsAnswered w rows said) (IsAnswered w new.rows.parts new.answers.items) moved members keeps.2;
    }

-- what is said of the sections one after the other, one more, and all
pub answers_next : (answers : List HeldMerged) (members : List ℕ) (pool row n : ℕ) (whole : List HeldMerged) → n < length members →
    with_answers answers (drop n members) pool (row + n) ≡ whole →
    with_answers (set answers (get_or members n 0) (record { pool = pool; row = row + n })) (drop (n + 1) members) pool (row + (n + 1)) ≡ whole
answers_next answers members pool row n whole lt held =
    let new = set answers (get_or members n 0) (record { pool = pool; row = row + n }) in
    let on : row + (n + 1) ≡ (row + n) + 1 = omega arith in
    let one : n + 1 ≡ suc n = omega arith in
    ap (with_answers new (drop (n + 1) members) pool) on
    ∙ ap (λ k. with_answers new (drop k members) pool ((row + n) + 1)) one
    ∙ ap (λ l. with_answers answers l pool (row + n)) (sym (drop-cons members n 0 lt)) ∙ held

pub answers_all : (answers : List HeldMerged) (members : List ℕ) (pool row n : ℕ) (whole : List HeldMerged) → length members ≤ n →
    with_answers answers (drop n members) pool row ≡ whole → answers ≡ whole
answers_all answers members pool row n whole le held = ap (λ l. with_answers answers l pool row) (sym (drop_all n members le)) ∙ held
