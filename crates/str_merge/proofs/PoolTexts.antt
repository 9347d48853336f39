-- The pieces of one pool, once they are numbered and placed.
use Rattle.std.proofs.Common.{◌≡◌, ℕ, suc, ◌<◌, ◌^◌, Bool, List, [], ◌∷◌, length, map, get_or, refl, sym, ap, ◌∙◌, subst, arith}
use Rattle.std.specs.Prelude.{All, flat_map}
use Rattle.std.specs.List.{position_or_len}
use Rattle.std.specs.Str.{bytes_eq}
use Rattle.std.proofs.lemmas.List.{length-map}
use Rattle.lk_tables.specs.Files.{File}
use Rattle.lk_tables.specs.TablesView.{files_of}
use Rattle.link_sections.specs.Distinct.{distinct, first_same}
use Rattle.link_sections.specs.Merging.{end_from, piece_number, pool_members, pool_number, pool_pieces, positions_from, site_pieces, sites}
use Rattle.link_sections.specs.PoolViews.{Merged}
use Rattle.name_numbers.specs.Texts.{text_number, text_numbers}
use Rattle.str_merge.specs.declared.placing.Placed.{Placed}
use Rattle.str_merge.specs.declared.pooling.Pooled.{Pooled}
use Rattle.str_merge.specs.declared.pooling.Work.{Work}
use Rattle.str_merge.specs.Orders.{IsFirstOf, firsts, ranks}
use Rattle.str_merge.specs.Parts.{part_lists, parts_by}
use Rattle.str_merge.specs.Placing.{IsPlaced, chosen}
use Rattle.str_merge.specs.Pooling.{AreNumbered, IsMadeOf, IsPoolOf, IsPooled, own_parts, pool_align}
use Rattle.str_merge.specs.Sites.{CutPiece, cut_views, gathered, piece_lists, span_text, texts_of}
use Rattle.str_merge.specs.Works.{IsWork, members_at, nth_site}
use Rattle.str_merge.proofs.AnswerSteps.{merged_is}
use Rattle.str_merge.proofs.PartSteps.{lists_known}
use Rattle.str_merge.proofs.PoolFacts.{Stands, bytes_same, chosen_texts, gathered_texts, member_texts, members_own, members_within, piece_texts, pieces_stand, pool_texts_are}
use Rattle.str_merge.proofs.PoolRooms.{pool_few}
use Rattle.str_merge.proofs.Ranking.{distinct_is, firsts_below, numbers, numbers_first, ranks_are}
use Rattle.str_merge.proofs.WorkFacts.{pieces_at}

numbers_are : (texts : List (List ℕ)) → text_numbers texts ≡ numbers bytes_eq [] texts bytes_same
unfolding text_numbers text_number
numbers_are texts = refl

pub numbered_first : (files : List File) (kept : List Bool) (pool : ℕ) (texts : List (List ℕ)) (ns : List ℕ) → AreNumbered files kept pool texts ns → IsFirstOf ns
numbered_first files kept pool texts ns is = subst IsFirstOf (sym (is.numbers_are ∙ numbers_are texts)) (numbers_first bytes_eq [] texts bytes_same is.few)

piece_numbers : (known : List (List ℕ)) (texts : List (List ℕ)) → map (λ x. position_or_len (λ y. bytes_eq y x) known) texts ≡ map (piece_number known) texts
unfolding piece_number
piece_numbers known texts = refl

known_pieces : (files : List File) (kept : List Bool) (pool : ℕ) (texts : List (List ℕ)) → texts ≡ flat_map (site_pieces files) (pool_members files kept pool) →
    pool_pieces files kept pool ≡ distinct bytes_eq [] texts
unfolding pool_pieces
known_pieces files kept pool texts is = ap (distinct bytes_eq []) (sym is)

-- the sections of a pool have pieces
pub cuts_within : (w : Work) (pool : ℕ) (members : List ℕ) → IsWork w → members ≡ members_at (files_of w.tables.now) w.kept.now pool → All (λ i. i < length w.cuts.now) members
cuts_within w pool members is own =
    let files = files_of w.tables.now in
    let all = sites files w.kept.now in
    let count : length all ≡ length w.cuts.now = sym (length-map all (site_pieces files)) ∙ ap length (sym is.cuts_are) ∙ length-map w.cuts.now _ in
    let P : ℕ → Type 0 = λ n. All (λ i. i < n) members in
    let Q : List ℕ → Type 0 = All (λ i. i < length all) in
    subst P count (subst Q (sym own) (members_within files w.kept.now pool))

-- their texts
pub own_texts : (w : Work) (pool : ℕ) (members : List ℕ) → IsWork w → members ≡ members_at (files_of w.tables.now) w.kept.now pool →
    texts_of (gathered (piece_lists w.cuts.now) members) ≡ flat_map (site_pieces (files_of w.tables.now)) (pool_members (files_of w.tables.now) w.kept.now pool)
own_texts w pool members is own =
    let files = files_of w.tables.now in
    let kept = w.kept.now in
    gathered_texts w.cuts.now members ∙ ap (gathered (cut_views w.cuts.now)) own ∙ pool_texts_are files kept (cut_views w.cuts.now) pool is.cuts_are

-- they are not too many
pub few_pieces : (w : Work) (pool : ℕ) (members : List ℕ) → IsWork w → members ≡ members_at (files_of w.tables.now) w.kept.now pool →
    length (gathered (piece_lists w.cuts.now) members) < 2 ^ 31
few_pieces w pool members is own =
    let few = is.small.pieces in
    omega (
      arith,
      few,
      length-map (gathered (piece_lists w.cuts.now) members) (λ (p : CutPiece). p.text),
      ap length (own_texts w pool members is own),
      pool_few (files_of w.tables.now) w.kept.now pool,
    )

-- with their numbers in the pool
ranks_known : (files : List File) (kept : List Bool) (pool : ℕ) (texts : List (List ℕ)) (ns : List ℕ) → AreNumbered files kept pool texts ns →
    ranks ns ≡ map (piece_number (pool_pieces files kept pool)) texts
ranks_known files kept pool texts ns held =
    let number : ns ≡ numbers bytes_eq [] texts bytes_same = held.numbers_are ∙ numbers_are texts in
    ap ranks number ∙ sym (ranks_are bytes_eq [] texts bytes_same)
    ∙ piece_numbers (distinct bytes_eq [] texts) texts
    ∙ ap (λ k. map (piece_number k) texts) (sym (known_pieces files kept pool texts held.texts_are))

-- the distinct ones, placed
pooled_is : (files : List File) (kept : List Bool) (pool : ℕ) (pieces : List CutPiece) (ns : List ℕ) (align : ℕ) (placed : Placed) →
    AreNumbered files kept pool (texts_of pieces) ns → All (Stands files) pieces → align ≡ pool_align files kept pool →
    IsPlaced pieces (firsts ns) align placed → IsPooled files kept pool placed
pooled_is files kept pool pieces ns align placed held stand aligned is =
    let texts = texts_of pieces in
    let fs = firsts ns in
    let known : pool_pieces files kept pool ≡ distinct bytes_eq [] texts = known_pieces files kept pool texts held.texts_are in
    let number : ns ≡ numbers bytes_eq [] texts bytes_same = held.numbers_are ∙ numbers_are texts in
    let all : chosen texts [] fs ≡ pool_pieces files kept pool =
    ap (chosen texts []) (ap firsts number) ∙ sym (distinct_is bytes_eq [] texts bytes_same) ∙ sym known in
    let long : length ns ≡ length pieces = ap length number ∙ length-map texts (first_same bytes_eq [] texts) ∙ length-map pieces (λ (p : CutPiece). p.text) in
    let P : ℕ → Type 0 = λ n. All (λ i. i < n) fs in
    let within : P (length pieces) = subst P long (firsts_below ns) in
    record {
      pieces_are =
          piece_texts files placed.pieces.items ∙ ap (map (span_text files)) is.spans_are ∙ chosen_texts files pieces fs stand within ∙ all;
      positions_are = is.positions ∙ ap (λ a. positions_from a 0 (chosen texts [] fs)) aligned ∙ ap (positions_from (pool_align files kept pool) 0) all;
      piled = is.piled;
      size_is = is.size_is ∙ ap (λ a. end_from a 0 (chosen texts [] fs)) aligned ∙ ap (end_from (pool_align files kept pool) 0) all;
    }

-- the parts of its sections
map_on : {X Y : Type 0} (f g : X → Y) (xs : List X) → All (λ x. f x ≡ g x) xs → map f xs ≡ map g xs
map_on f g [] all = refl
map_on f g (x ∷ xs) all = ap (λ y. y ∷ map f xs) (all 0 x (omega arith)) ∙ ap (λ l. g x ∷ l) (map_on f g xs (λ i d lt. all (suc i) d (omega arith)))

own_parts_are : (files : List File) (kept : List Bool) (pool i : ℕ) → pool_number files kept (nth_site files kept i) ≡ pool →
    parts_by 0 (site_pieces files (nth_site files kept i)) (map (piece_number (pool_pieces files kept pool)) (site_pieces files (nth_site files kept i))) ≡ own_parts files kept i
own_parts_are files kept pool i own = ap (λ (m : Merged). m.parts) (sym (merged_is files kept (nth_site files kept i) pool own))

-- all that becomes of its pieces
pub pool_of : (w : Work) (pool : ℕ) (members ns : List ℕ) (align : ℕ) (p : Pooled) → IsWork w → members ≡ members_at (files_of w.tables.now) w.kept.now pool →
    AreNumbered (files_of w.tables.now) w.kept.now pool (texts_of (gathered (piece_lists w.cuts.now) members)) ns → align ≡ pool_align (files_of w.tables.now) w.kept.now pool →
    IsMadeOf w.cuts.now members ns align p → IsPoolOf w pool members p
pool_of w pool members ns align p is own held aligned made =
    let files = files_of w.tables.now in
    let kept = w.kept.now in
    let cuts = w.cuts.now in
    let gathered_pieces = gathered (piece_lists cuts) members in
    let texts = texts_of gathered_pieces in
    let pieces : ℕ → List (List ℕ) = λ i. site_pieces files (nth_site files kept i) in
    let known = piece_number (pool_pieces files kept pool) in
    let all : texts ≡ flat_map pieces members = held.texts_are ∙ sym (member_texts files kept pool) ∙ ap (flat_map pieces) (sym own) in
    let Within : List ℕ → Type 0 = All (λ i. i < length (sites files kept)) in
    let Own : List ℕ → Type 0 = All (λ i. pool_number files kept (nth_site files kept i) ≡ pool) in
    let within : Within members = subst Within (sym own) (members_within files kept pool) in
    let of_pool : Own members = subst Own (sym own) (members_own files kept pool) in
    record {
      placed = pooled_is files kept pool gathered_pieces ns align p.placed held (pieces_stand files cuts members is.cuts_in) aligned made.placed;
      parts =
          made.parts (numbered_first files kept pool texts ns held)
          ∙ ap (λ l. part_lists l (ranks ns)) (map_on (λ i. get_or (cut_views cuts) i []) pieces members (λ i d lt. pieces_at w (get_or members i d) is (within i d lt)))
          ∙ ap (part_lists (map pieces members)) (ranks_known files kept pool texts ns held ∙ ap (map known) all)
          ∙ lists_known pieces known members
          ∙ map_on (λ i. parts_by 0 (pieces i) (map known (pieces i))) (own_parts files kept) members
          (λ i d lt. own_parts_are files kept pool (get_or members i d) (of_pool i d lt));
    }

-- so many numbers as pieces
pub count_numbered : (pieces : List CutPiece) (ns : List ℕ) → ns ≡ text_numbers (texts_of pieces) → length ns ≡ length pieces
unfolding text_numbers
count_numbered pieces ns is = ap length is ∙ length-map (texts_of pieces) (text_number (texts_of pieces)) ∙ length-map pieces (λ (p : CutPiece). p.text)
