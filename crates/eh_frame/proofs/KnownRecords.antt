-- The records that are written are there, and were read without a flaw.
use Rattle.std.proofs.Common.{◌≡◌, ℕ, ◌+◌, ◌<◌, ◌≤◌, Bool, true, false, List, [], ◌∷◌, ◌++◌, length, map, get_or, flat_map, refl, sym, ap, subst, arith, Option, Some, None}
use Rattle.std.specs.Prelude.{if◌then◌else◌, is_some, unwrap_or}
use Rattle.std.specs.List.{All, filter, list_any, range_with_len, sum_by}
use Rattle.std.proofs.lemmas.List.{get_or_default, length-map}
use Rattle.std.proofs.lemmas.List.Elements.{All-append, All-filter, All-head, All-map, All-nil, All-push, All-tail, All-weaker}
use Rattle.std.proofs.lemmas.List.FromFn.{get_or-range_with_len, length-range_with_len}
use Rattle.lk_tables.specs.declared.records.FrameNo.{FrameNo}
use Rattle.lk_tables.specs.Binding.{Bindings}
use Rattle.lk_tables.specs.Files.{File}
use Rattle.lk_tables.specs.FramePlans.{PlanView}
use Rattle.lk_tables.specs.Frames.{AreListsWithin, IsListWithin, IsRecordWithin, RecordList, frame_no, frames_where, no_record, owner_at}
use Rattle.lk_tables.specs.Records.{RecordView}
use Rattle.lk_tables.specs.Sites.{contents_at}
use Rattle.lk_tables.specs.Targets.{is_gone}
use Rattle.link_sections.specs.PoolViews.{Merged}
use Rattle.eh_frame.specs.Bytes.{IsKnown}
use Rattle.eh_frame.specs.Plan.{CieKey, cie_key, cie_no, first_cies, frame_len_of, header_len_of, is_alike, is_owner_in_place, plan_of, record_by, size_of, with_cie, written_cies, written_fdes}
use Rattle.eh_frame.proofs.ListsFound.{record_found, record_is}

pub all_flat : {X Y : Type 0} (P : Y → Type 0) (f : X → List Y) (xs : List X) → All (λ x. All P (f x)) xs → All P (flat_map f xs)
all_flat P f [] all = All-nil P
all_flat P f (x ∷ xs) all =
    All-append P (f x) (flat_map f xs) (All-head (λ y. All P (f y)) x xs all) (all_flat P f xs (All-tail (λ y. All P (f y)) x xs all))

all_range : (P : ℕ → Type 0) (n : ℕ) → ((at : ℕ) → at < n → P at) → All P (range_with_len 0 n)
all_range P n each = λ k d lt.
    let less : k < n = omega (arith, lt, length-range_with_len 0 n) in
    let is : k ≡ get_or (range_with_len 0 n) k d = omega (arith, get_or-range_with_len 0 n k d less) in
    subst P is (each k less)

-- an FDE and its CIE
pub record AreKnown (files : List File) (lists : List RecordList) (fde : FrameNo) : Type 0 where
  pub own : IsKnown files lists fde
  pub cie : IsKnown files lists (cie_no lists fde)

module _ (files : List File) (lists : List RecordList) where
  abbrev Both : FrameNo → Type 0
  Both = AreKnown files lists

  known_at : (k : ℕ) (l : RecordList) (at : ℕ) → AreListsWithin files lists → k < length lists → l ≡ get_or lists k l → at < length l.records →
      IsKnown files lists (frame_no l.section at)
  known_at k l at within lt is below =
      let P : RecordList → Type 0 = IsListWithin files in
      let own : IsListWithin files l = subst P (sym is) (within.within k l lt) in
      let found = record_found lists k l at no_record within.order lt is below in
      let Q : RecordView → Type 0 = IsRecordWithin (length (contents_at files l.section)) (length l.records) in
      record {
        section = own.section;
        few = omega (arith, below, own.few);
        short = own.short;
        there = ap is_some found;
        records = length l.records;
        within = subst Q (record_is lists (frame_no l.section at) (get_or l.records at no_record) found) (own.records at no_record below);
      }

  cie_below : (r : RecordView) (size count at : ℕ) → IsRecordWithin size count r → at < count → unwrap_or r.cie 0 < count
  cie_below r size count at within lt = by r.cie (λ k is. within.cie k is)
    where
      by : (o : Option ℕ) → ((k : ℕ) → o ≡ Some k → k < count) → unwrap_or o 0 < count
      by None each = omega (arith, lt)
      by (Some k) each = each k refl

  both_at : (k : ℕ) (l : RecordList) (at : ℕ) → AreListsWithin files lists → k < length lists → l ≡ get_or lists k l → at < length l.records →
      Both (frame_no l.section at)
  both_at k l at within lt is below =
      let P : RecordList → Type 0 = IsListWithin files in
      let list : IsListWithin files l = subst P (sym is) (within.within k l lt) in
      let found = record_found lists k l at no_record within.order lt is below in
      let same = record_is lists (frame_no l.section at) (get_or l.records at no_record) found in
      let low : RecordView → Type 0 = λ r. unwrap_or r.cie 0 < length l.records in
      let less = subst low same (cie_below (get_or l.records at no_record) _ _ at (list.records at no_record below) below) in
      record {
        own = known_at k l at within lt is below;
        cie = known_at k l (unwrap_or (record_by lists (frame_no l.section at)).cie 0) within lt is less;
      }

  frames_known : (b : Bindings) (test : Option ℕ → Bool) (k : ℕ) (l : RecordList) → AreListsWithin files lists → k < length lists → l ≡ get_or lists k l →
      All Both (frames_where files b test l)
  unfolding frames_where
  frames_known b test k l within lt is = by (is_gone b l.section)
    where
      by : (g : Bool) → All Both (if g then [] else map (frame_no l.section) (filter (λ at. test (owner_at files b l at)) (range_with_len 0 (length l.records))))
      by true = All-nil Both
      by false =
          All-map Both (frame_no l.section) (filter (λ at. test (owner_at files b l at)) (range_with_len 0 (length l.records)))
          (All-filter (λ at. test (owner_at files b l at)) (λ at. Both (frame_no l.section at)) (range_with_len 0 (length l.records))
          (all_range (λ at. Both (frame_no l.section at)) (length l.records) (λ at below. both_at k l at within lt is below)))

  written_known : (b : Bindings) (merged : List (Option Merged)) (leaders : List (Option ℕ)) → AreListsWithin files lists → All Both (written_fdes files b merged lists leaders)
  unfolding written_fdes
  written_known b merged leaders within =
      all_flat Both (frames_where files b (is_owner_in_place leaders merged)) lists
      (λ k d lt. frames_known b (is_owner_in_place leaders merged) k (get_or lists k d) within lt (get_or_default lists k d (get_or lists k d) lt))

  first_known : (key : FrameNo → CieKey) (known cies : List FrameNo) → All (IsKnown files lists) known → All (IsKnown files lists) cies →
      All (IsKnown files lists) (first_cies key known cies)
  first_known key known [] one two = one
  first_known key known (c ∷ cs) one two =
      first_known key (with_cie key known c) cs (by (list_any (is_alike key c) known)) (All-tail (IsKnown files lists) c cs two)
    where
      by : (d : Bool) → All (IsKnown files lists) (if d then known else known ++ (c ∷ []))
      by true = one
      by false = All-push (IsKnown files lists) known c one (All-head (IsKnown files lists) c cs two)

  cies_known : (b : Bindings) (merged : List (Option Merged)) (fdes : List FrameNo) → All Both fdes → All (IsKnown files lists) (written_cies files b merged lists fdes)
  unfolding written_cies
  cies_known b merged fdes all =
      first_known (cie_key files b merged lists) [] (map (cie_no lists) fdes) (All-nil (IsKnown files lists))
      (All-map (IsKnown files lists) (cie_no lists) fdes (All-weaker Both (λ fde. IsKnown files lists (cie_no lists fde)) (λ fde both. both.cie) fdes all))

  pub plan_cies_known : (b : Bindings) (merged : List (Option Merged)) (leaders : List (Option ℕ)) (plan : PlanView) → AreListsWithin files lists →
      plan ≡ plan_of files b merged lists leaders → All (IsKnown files lists) plan.cies
  unfolding plan_of
  plan_cies_known b merged leaders plan within is =
      let P : PlanView → Type 0 = λ p. All (IsKnown files lists) p.cies in
      subst P (sym is) (cies_known b merged (written_fdes files b merged lists leaders) (written_known b merged leaders within))

  pub plan_fdes_known : (b : Bindings) (merged : List (Option Merged)) (leaders : List (Option ℕ)) (plan : PlanView) → AreListsWithin files lists →
      plan ≡ plan_of files b merged lists leaders → All (IsKnown files lists) plan.fdes
  unfolding plan_of
  plan_fdes_known b merged leaders plan within is =
      let P : PlanView → Type 0 = λ p. All (IsKnown files lists) p.fdes in
      subst P (sym is)
      (All-weaker Both (IsKnown files lists) (λ fde both. both.own) (written_fdes files b merged lists leaders) (written_known b merged leaders within))

  -- the plan says how long all are, and gives each FDE a CIE
  no_cies : (b : Bindings) (merged : List (Option Merged)) (fdes : List FrameNo) → fdes ≡ [] → written_cies files b merged lists fdes ≡ []
  unfolding written_cies
  no_cies b merged fdes is = ap (λ l. first_cies (cie_key files b merged lists) [] (map (cie_no lists) l)) is

  room_by : (fdes cies : List FrameNo) → (fdes ≡ [] → cies ≡ []) →
      sum_by (size_of lists) cies + sum_by (size_of lists) fdes ≤ frame_len_of lists fdes cies
  room_by [] cies none =
      let zero_sum : sum_by (size_of lists) cies ≡ 0 = ap (sum_by (size_of lists)) (none refl) in
      omega (arith, zero_sum)
  room_by (fde ∷ fdes) cies none = omega arith

  pub plan_room : (b : Bindings) (merged : List (Option Merged)) (leaders : List (Option ℕ)) (plan : PlanView) → plan ≡ plan_of files b merged lists leaders →
      sum_by (size_of lists) plan.cies + sum_by (size_of lists) plan.fdes ≤ plan.frame_len
  unfolding plan_of
  plan_room b merged leaders plan is =
      let P : PlanView → Type 0 = λ p. sum_by (size_of lists) p.cies + sum_by (size_of lists) p.fdes ≤ p.frame_len in
      let fdes = written_fdes files b merged lists leaders in
      subst P (sym is) (room_by fdes (written_cies files b merged lists fdes) (no_cies b merged fdes))

  pub plan_uses : (b : Bindings) (merged : List (Option Merged)) (leaders : List (Option ℕ)) (plan : PlanView) → plan ≡ plan_of files b merged lists leaders →
      length plan.uses ≡ length plan.fdes
  unfolding plan_of
  plan_uses b merged leaders plan is =
      let P : PlanView → Type 0 = λ p. length p.uses ≡ length p.fdes in
      subst P (sym is) (length-map (written_fdes files b merged lists leaders) _)

  pub plan_frame_len : (b : Bindings) (merged : List (Option Merged)) (leaders : List (Option ℕ)) (plan : PlanView) → plan ≡ plan_of files b merged lists leaders →
      plan.frame_len ≡ frame_len_of lists plan.fdes plan.cies
  unfolding plan_of
  plan_frame_len b merged leaders plan is =
      let P : PlanView → Type 0 = λ p. p.frame_len ≡ frame_len_of lists p.fdes p.cies in
      subst P (sym is) refl

  pub plan_header_len : (b : Bindings) (merged : List (Option Merged)) (leaders : List (Option ℕ)) (plan : PlanView) → plan ≡ plan_of files b merged lists leaders →
      plan.header_len ≡ header_len_of plan.fdes
  unfolding plan_of
  plan_header_len b merged leaders plan is =
      let P : PlanView → Type 0 = λ p. p.header_len ≡ header_len_of p.fdes in
      subst P (sym is) refl
