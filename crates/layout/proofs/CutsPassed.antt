-- The sums of a walk along the cuts of a section: one cut more, and some of them ended.
use Rattle.std.proofs.Common.{◌≡◌, ℕ, zero, suc, ◌+◌, ◌-◌, ◌*◌, ◌<◌, ◌≤◌, List, [], ◌∷◌, ◌++◌, min, drop, get_or, length, Bool, true, false, All, refl, ap, ◌∙◌, sym, if◌then◌else◌, cond, filter, arith}
use Rattle.std.specs.List.{sum_by}
use Rattle.std.proofs.lemmas.Bool.Decides.{nat_tests}
use Rattle.std.proofs.lemmas.List.{drop_all, drop_more, map-append}
use Rattle.std.proofs.lemmas.List.Elements.{All-nil, All-head, All-tail, All-cons, All-append}
use Rattle.std.proofs.lemmas.List.Sums.{sum_by-cons, sum_by_push}
use Rattle.link_sections.specs.declared.cuts.Cut.{Cut as HeldCut}
use Rattle.link_sections.specs.Cuts.{AreApart, Cut, kept_before, new_offset}
use Rattle.link_sections.specs.CutsView.{IsPlacedCut, cut_view, cut_views}
use Rattle.layout.specs.CutsSoFar.{IsPassed, all_kept, kept_if_ended, placed_cut, reaches}
use Rattle.layout.specs.Cutting.{cuts_after, kept_at, laid_cut, needed}

-- a term of a sum that has more than so many others in it
pub ended_most : (offset : ℕ) (cuts : List HeldCut) → sum_by (kept_if_ended offset) cuts ≤ all_kept (cut_views cuts)
ended_most offset [] = omega arith
ended_most offset (c ∷ cs) =
    omega (arith, sum_by-cons (kept_if_ended offset) c cs, sum_by-cons (λ (x : Cut). x.kept) (cut_view c) (cut_views cs), one (reaches offset c), ended_most offset cs)
  where
    one : (b : Bool) → (if b then 0 else c.kept) ≤ c.kept
    one true = omega arith
    one false = omega arith

pub room_of_ended : (offset : ℕ) (cuts : List HeldCut) (i acc total : ℕ) (d : HeldCut) → i < length cuts
    → acc + sum_by (kept_if_ended offset) (drop i cuts) ≡ total → acc + kept_if_ended offset (get_or cuts i d) ≤ total
room_of_ended offset [] i acc total d lt is = absurd (omega (arith, lt))
room_of_ended offset (c ∷ cs) zero acc total d lt is = omega (arith, sum_by-cons (kept_if_ended offset) c cs, is)
room_of_ended offset (c ∷ cs) (suc i) acc total d lt is = room_of_ended offset cs i acc total d (omega (arith, lt)) is

-- those that reach on, and what the others keep
split_one : (b : Bool) (offset o : ℕ) (c : HeldCut) (cs : List HeldCut) → reaches offset c ≡ b → offset ≤ o
    → sum_by (kept_if_ended offset) cs + kept_before (cut_views (filter (reaches offset) cs)) o ≡ kept_before (cut_views cs) o
    → ((if b then 0 else c.kept) + sum_by (kept_if_ended offset) cs) + kept_before (cut_views (cond b (c ∷ filter (reaches offset) cs) (filter (reaches offset) cs))) o
    ≡ min (o - c.at) c.kept + kept_before (cut_views cs) o
split_one true offset o c cs is le rest =
    omega (arith, rest, sum_by-cons (λ (x : Cut). min (o - x.at) x.kept) (cut_view c) (cut_views (filter (reaches offset) cs)))
split_one false offset o c cs is le rest =
    let ended : c.kept ≤ offset - c.at = grind (arith, nat_tests) in
    omega (arith, rest, ended, le)

pub ended_split : (offset o : ℕ) (cuts : List HeldCut) → offset ≤ o
    → sum_by (kept_if_ended offset) cuts + kept_before (cut_views (filter (reaches offset) cuts)) o ≡ kept_before (cut_views cuts) o
ended_split offset o [] le = refl
ended_split offset o (c ∷ cs) le =
    omega (
      arith,
      sum_by-cons (kept_if_ended offset) c cs,
      sum_by-cons (λ (x : Cut). min (o - x.at) x.kept) (cut_view c) (cut_views cs),
      split_one (reaches offset c) offset o c cs refl le (ended_split offset o cs le),
    )

all_one : (b : Bool) (offset : ℕ) (c : HeldCut) (cs : List HeldCut)
    → sum_by (kept_if_ended offset) cs + all_kept (cut_views (filter (reaches offset) cs)) ≡ all_kept (cut_views cs)
    → ((if b then 0 else c.kept) + sum_by (kept_if_ended offset) cs) + all_kept (cut_views (cond b (c ∷ filter (reaches offset) cs) (filter (reaches offset) cs)))
    ≡ c.kept + all_kept (cut_views cs)
all_one true offset c cs rest = omega (arith, rest, sum_by-cons (λ (x : Cut). x.kept) (cut_view c) (cut_views (filter (reaches offset) cs)))
all_one false offset c cs rest = omega (arith, rest)

pub ended_all : (offset : ℕ) (cuts : List HeldCut)
    → sum_by (kept_if_ended offset) cuts + all_kept (cut_views (filter (reaches offset) cuts)) ≡ all_kept (cut_views cuts)
ended_all offset [] = refl
ended_all offset (c ∷ cs) =
    omega (
      arith,
      sum_by-cons (kept_if_ended offset) c cs,
      sum_by-cons (λ (x : Cut). x.kept) (cut_view c) (cut_views cs),
      all_one (reaches offset c) offset c cs (ended_all offset cs),
    )

-- one cut more
pub passed_from : (before reaching : List Cut) (from later whole kept : ℕ) → from ≤ later → IsPassed before from whole kept reaching
    → IsPassed before later whole kept reaching
passed_from before reaching from later whole kept le is = record {
  wholes = λ o past. is.wholes o (omega (arith, le, past));
  kepts = λ o past. is.kepts o (omega (arith, le, past));
  most = is.most;
  low = omega (arith, is.low, le);
}

pub passed_more : (before reaching reaching' : List Cut) (c : Cut) (whole kept whole' kept' : ℕ) → IsPassed before c.at whole kept reaching → c.kept ≤ 2 * c.whole
    → whole' ≡ whole + c.whole
    → ((o : ℕ) → c.at + c.whole ≤ o → kept' + kept_before reaching' o ≡ (kept + kept_before reaching o) + min (o - c.at) c.kept)
    → kept' + all_kept reaching' ≡ (kept + all_kept reaching) + c.kept
    → IsPassed (before ++ c ∷ []) (c.at + c.whole) whole' kept' reaching'
passed_more before reaching reaching' c whole kept whole' kept' is most wholes kepts all = record {
  wholes = λ o past. omega (arith, sum_by_push (λ (x : Cut). min (o - x.at) x.whole) before c, is.wholes o (omega (arith, past)), wholes, past);
  kepts = λ o past. omega (arith, sum_by_push (λ (x : Cut). min (o - x.at) x.kept) before c, is.kepts o (omega (arith, past)), kepts o past);
  most = omega (arith, is.most, most, wholes, all);
  low = omega (arith, is.low, wholes);
}

-- cuts in order from an offset on, one after the other
abbrev pub AreFrom : ℕ → List Cut → Type 0
AreFrom from [] = Unit {0}
AreFrom from (c ∷ cs) = (from ≤ c.at) × AreFrom (c.at + c.whole) cs

-- later cuts leave the new offset of an offset before them as it is
pub offset_more : (before : List Cut) (c : Cut) (o : ℕ) → o ≤ c.at → new_offset (before ++ c ∷ []) o ≡ new_offset before o
unfolding new_offset
offset_more before c o le =
    omega (arith, sum_by_push (λ (x : Cut). min (o - x.at) x.whole) before c, sum_by_push (λ (x : Cut). min (o - x.at) x.kept) before c, le)

-- the walk after some of the cuts
pub record Went (start size : ℕ) (cuts : List HeldCut) (i : ℕ) (laid : List HeldCut) (whole kept : ℕ) (reaching : List HeldCut) : Type 0 where
  pub from : ℕ
  pub end : from ≤ size
  pub so_far : IsPassed (cut_views laid) from whole kept (cut_views reaching)
  pub later : AreFrom from (cut_views (drop i cuts))
  pub rest : cuts_after start (cut_views laid) (cut_views (drop i cuts)) ≡ cuts_after start [] (cut_views cuts)
  pub placed : All (IsPlacedCut (cut_views laid)) laid
  pub low : All (λ h. h.at ≤ from) laid

from_apart : (from : ℕ) (cuts : List Cut) → ((d : Cut) → 0 < length cuts → from ≤ (get_or cuts 0 d).at)
    → ((i : ℕ) (d : Cut) → i + 1 < length cuts → (get_or cuts i d).at + (get_or cuts i d).whole ≤ (get_or cuts (i + 1) d).at) → AreFrom from cuts
from_apart from [] first order = tt
from_apart from (c ∷ cs) first order = (
  first c (omega arith),
  from_apart (c.at + c.whole) cs (λ d some. order 0 d (omega (arith, some)))
      (λ i d lt.
      let e : suc i + 1 ≡ suc (i + 1) = omega arith in
      let one : (get_or cs i d).at + (get_or cs i d).whole ≤ (get_or (c ∷ cs) (suc i + 1) d).at = order (suc i) d (omega (arith, lt)) in
      rw e at one),
)

pub apart_from : (cuts : List Cut) → AreApart cuts → AreFrom 0 cuts
apart_from cuts apart = from_apart 0 cuts (λ d some. omega arith) apart.order

pub went_first : (start size : ℕ) (cuts laid reaching : List HeldCut) → AreApart (cut_views cuts) → laid ≡ [] → reaching ≡ [] → Went start size cuts 0 laid 0 0 reaching
went_first start size cuts laid reaching apart none nothing = rw (none, nothing) (record {
  from = 0;
  end = omega arith;
  so_far = record { wholes = λ o past. refl; kepts = λ o past. refl; most = omega arith; low = omega arith };
  later = apart_from (cut_views cuts) apart;
  rest = refl;
  placed = All-nil (IsPlacedCut []);
  low = All-nil (λ (h : HeldCut). h.at ≤ 0);
})

pub here_from : (start size : ℕ) (cuts laid reaching : List HeldCut) (i whole kept : ℕ) (d : HeldCut) → i < length cuts → Went start size cuts i laid whole kept reaching
    → IsPassed (cut_views laid) (get_or cuts i d).at whole kept (cut_views reaching)
here_from start size cuts laid reaching i whole kept d lt went =
    let later : AreFrom went.from (cut_views (get_or cuts i d ∷ drop (i + 1) cuts)) = rw (drop_more cuts i d lt) at went.later in
    passed_from (cut_views laid) (cut_views reaching) went.from (get_or cuts i d).at whole kept later.0 went.so_far

view_placed : (start : ℕ) (laid : List HeldCut) (c : HeldCut) → cut_view (placed_cut start laid c) ≡ laid_cut start (cut_views laid) (cut_view c)
unfolding placed_cut laid_cut
view_placed start laid c = refl

placed_at : (start : ℕ) (laid : List HeldCut) (c : HeldCut) → (placed_cut start laid c).at ≡ c.at
unfolding placed_cut
placed_at start laid c = refl

placed_new : (start : ℕ) (laid : List HeldCut) (c : HeldCut) → (placed_cut start laid c).new_at ≡ new_offset (cut_views laid) c.at
unfolding placed_cut
placed_new start laid c = refl

pub views_push : (start : ℕ) (laid : List HeldCut) (c : HeldCut)
    → cut_views (laid ++ placed_cut start laid c ∷ []) ≡ cut_views laid ++ laid_cut start (cut_views laid) (cut_view c) ∷ []
views_push start laid c =
    map-append cut_view laid (placed_cut start laid c ∷ []) ∙ ap (λ x. cut_views laid ++ x ∷ []) (view_placed start laid c)

cut_at : (start : ℕ) (laid : List Cut) (c : Cut) → (laid_cut start laid c).at ≡ c.at
unfolding laid_cut
cut_at start laid c = refl

-- those that stand keep their new offsets
placed_stay : (before : List Cut) (c : Cut) (hs : List HeldCut) → All (IsPlacedCut before) hs → All (λ h. h.at ≤ c.at) hs → All (IsPlacedCut (before ++ c ∷ [])) hs
placed_stay before c hs placed low = λ k d lt. placed k d lt ∙ sym (offset_more before c (get_or hs k d).at (low k d lt))

pub went_next : (start size : ℕ) (cuts laid laid' reaching reaching' : List HeldCut) (i whole kept whole' kept' : ℕ) (d : HeldCut) → i < length cuts
    → (get_or cuts i d).at + (get_or cuts i d).whole ≤ size → Went start size cuts i laid whole kept reaching → laid' ≡ laid ++ placed_cut start laid (get_or cuts i d) ∷ []
    → IsPassed (cut_views laid') ((get_or cuts i d).at + (get_or cuts i d).whole) whole' kept' (cut_views reaching')
    → Went start size cuts (i + 1) laid' whole' kept' reaching'
went_next start size cuts laid laid' reaching reaching' i whole kept whole' kept' d lt within went is passed =
    let c : HeldCut = get_or cuts i d in
    let p : HeldCut = placed_cut start laid c in
    let v : Cut = laid_cut start (cut_views laid) (cut_view c) in
    let later : AreFrom went.from (cut_views (c ∷ drop (i + 1) cuts)) = rw (drop_more cuts i d lt) at went.later in
    let rest : cuts_after start (cut_views laid) (cut_views (c ∷ drop (i + 1) cuts)) ≡ cuts_after start [] (cut_views cuts) = rw (drop_more cuts i d lt) at went.rest in
    let views : cut_views laid' ≡ cut_views laid ++ v ∷ [] = ap cut_views is ∙ views_push start laid c in
    let at : v.at ≡ c.at = cut_at start (cut_views laid) (cut_view c) in
    let first : All (λ h. h.at ≤ v.at) laid = λ k e l. omega (arith, went.low k e l, later.0, at) in
    let own : p.new_at ≡ new_offset (cut_views laid ++ v ∷ []) p.at =
    placed_new start laid c ∙ sym (ap (λ k. new_offset (cut_views laid ++ v ∷ []) k) (placed_at start laid c) ∙ offset_more (cut_views laid) v c.at (omega (arith, at))) in
    record {
      from = c.at + c.whole;
      end = within;
      so_far = passed;
      later = later.1;
      rest = rw views rest;
      placed = rw (views, is) (All-append (IsPlacedCut (cut_views laid ++ v ∷ [])) laid (p ∷ []) (placed_stay (cut_views laid) v laid went.placed first)
          (All-cons (IsPlacedCut (cut_views laid ++ v ∷ [])) p [] own (All-nil (IsPlacedCut (cut_views laid ++ v ∷ [])))));
      low = rw is (All-append (λ (h : HeldCut). h.at ≤ c.at + c.whole) laid (p ∷ []) (λ k e l. omega (arith, went.low k e l, later.0))
          (All-cons (λ (h : HeldCut). h.at ≤ c.at + c.whole) p [] (omega (arith, placed_at start laid c)) (All-nil (λ (h : HeldCut). h.at ≤ c.at + c.whole))));
    }

-- a cut where its place and what it keeps come from sums
pub settled : (before reaching reaching' : List Cut) (from whole kept whole' kept' : ℕ) → IsPassed before from whole kept reaching → whole' ≡ whole
    → ((o : ℕ) → from ≤ o → kept' + kept_before reaching' o ≡ kept + kept_before reaching o) → kept' + all_kept reaching' ≡ kept + all_kept reaching
    → IsPassed before from whole' kept' reaching'
settled before reaching reaching' from whole kept whole' kept' is wholes kepts all = record {
  wholes = λ o past. is.wholes o past ∙ sym wholes;
  kepts = λ o past. is.kepts o past ∙ sym (kepts o past);
  most = omega (arith, is.most, wholes, all);
  low = omega (arith, is.low, wholes);
}

offset_is : (before reaching : List Cut) (at whole kept : ℕ) → IsPassed before at whole kept reaching
    → at + (kept + kept_before reaching at) - whole ≡ new_offset before at
unfolding new_offset
offset_is before reaching at whole kept is = omega (arith, is.wholes at (omega arith), is.kepts at (omega arith))

pub placed_is : (start : ℕ) (before : List HeldCut) (c : HeldCut) (reaching : List Cut) (whole kept stays : ℕ) → IsPassed (cut_views before) c.at whole kept reaching
    → stays ≡ (if c.is_align then needed (start + (c.at + (kept + kept_before reaching c.at) - whole)) c.whole else c.kept)
    → record { at = c.at; whole = c.whole; kept = stays; is_align = c.is_align; new_at = c.at + (kept + kept_before reaching c.at) - whole } ≡ placed_cut start before c
unfolding placed_cut kept_at
placed_is start before c reaching whole kept stays is stays_is =
    let new_is = offset_is (cut_views before) reaching c.at whole kept is in
    rw (stays_is, new_is) refl

pub placed_view : (start : ℕ) (before : List HeldCut) (c : HeldCut) → ((placed_cut start before c).at ≡ c.at) × ((placed_cut start before c).whole ≡ c.whole)
unfolding placed_cut
placed_view start before c = (refl, refl)

pub passed_push : (start : ℕ) (before after : List HeldCut) (c placed : HeldCut) (reaching reaching' : List Cut) (whole kept whole' kept' : ℕ)
    → IsPassed (cut_views before) c.at whole kept reaching → placed.at ≡ c.at → placed.whole ≡ c.whole → after ≡ before ++ placed ∷ [] → placed.kept ≤ 2 * placed.whole
    → whole' ≡ whole + placed.whole
    → ((o : ℕ) → placed.at + placed.whole ≤ o → kept' + kept_before reaching' o ≡ (kept + kept_before reaching o) + min (o - placed.at) placed.kept)
    → kept' + all_kept reaching' ≡ (kept + all_kept reaching) + placed.kept
    → IsPassed (cut_views after) (c.at + c.whole) whole' kept' reaching'
passed_push start before after c placed reaching reaching' whole kept whole' kept' is at size after_is most wholes kepts all =
    let views : cut_views after ≡ cut_views before ++ cut_view placed ∷ [] = ap cut_views after_is ∙ map-append cut_view before (placed ∷ []) in
    let end : c.at + c.whole ≡ placed.at + placed.whole = omega (arith, at, size) in
    let here : IsPassed (cut_views before) placed.at whole kept reaching = rw at is in
    rw (views, end) (passed_more (cut_views before) reaching reaching' (cut_view placed) whole kept whole' kept' here most wholes kepts all)

pub all_held : (P : Cut → Type 0) (cuts : List HeldCut) → All P (cut_views cuts) → All (λ h. P (cut_view h)) cuts
all_held P [] all = All-nil (λ h. P (cut_view h))
all_held P (c ∷ cs) all = All-cons (λ h. P (cut_view h)) c cs (All-head P (cut_view c) (cut_views cs) all) (all_held P cs (All-tail P (cut_view c) (cut_views cs) all))

-- the size, once all cuts are laid
pub went_size : (start size : ℕ) (cuts laid reaching : List HeldCut) (i whole kept : ℕ) → length cuts ≤ i → Went start size cuts i laid whole kept reaching
    → (cut_views laid ≡ cuts_after start [] (cut_views cuts))
    × ((size + (kept + kept_before (cut_views reaching) size) - whole ≡ new_offset (cuts_after start [] (cut_views cuts)) size)
    × (kept + all_kept (cut_views reaching) ≤ 2 * size))
went_size start size cuts laid reaching i whole kept past went =
    let none : drop i cuts ≡ [] = drop_all i cuts past in
    let rest : cuts_after start (cut_views laid) (cut_views []) ≡ cuts_after start [] (cut_views cuts) = rw none at went.rest in
    let all : IsPassed (cut_views laid) size whole kept (cut_views reaching) = passed_from (cut_views laid) (cut_views reaching) went.from size whole kept went.end went.so_far in
    (rest, (offset_is (cut_views laid) (cut_views reaching) size whole kept all ∙ ap (λ l. new_offset l size) rest, omega (arith, went.so_far.most, went.so_far.low, went.end)))
