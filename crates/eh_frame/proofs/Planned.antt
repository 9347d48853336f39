-- The lengths of what is written, and the plan put together.
use Rattle.std.proofs.Common.{◌≡◌, ℕ, ◌+◌, ◌-◌, ◌*◌, ◌^◌, ◌<◌, ◌≤◌, ◌==◌, min, cond, List, [], ◌∷◌, length, Option, take, get_or, refl, ap, ◌∙◌, arith}
use Rattle.std.specs.List.{sum_by}
use Rattle.std.proofs.lemmas.Bool.{cond-false, ne_eqb}
use Rattle.std.proofs.lemmas.List.{take_all}
use Rattle.std.proofs.lemmas.List.Sums.{sum_by_more, sum_by_more_le}
use Rattle.lk_tables.specs.declared.records.FrameNo.{FrameNo}
use Rattle.lk_tables.specs.FramePlans.{PlanView}
use Rattle.lk_tables.specs.Binding.{Bindings}
use Rattle.lk_tables.specs.Files.{File}
use Rattle.lk_tables.specs.Frames.{RecordList}
use Rattle.link_sections.specs.PoolViews.{Merged}
use Rattle.eh_frame.specs.declared.planning.Uses.{Uses}
use Rattle.eh_frame.specs.Plan.{cie_key, cie_no, frame_len_of, header_len_of, plan_of, size_of, written_cies, written_fdes}
use Rattle.eh_frame.specs.Uses.{AreUses, cies_for}

-- one size more, where a size is cut off at the greatest number
pub len_more : (f : FrameNo → ℕ) (numbers : List FrameNo) (i : ℕ) (d : FrameNo) (start len size : ℕ) → i < length numbers → len ≡ start + sum_by f (take i numbers) →
    size ≡ min (f (get_or numbers i d)) (2 ^ 64 - 1) → start + sum_by f numbers < 2 ^ 64 → len + size ≡ start + sum_by f (take (i + 1) numbers)
len_more f numbers i d start len size lt held is room =
    let low = sum_by_more_le f numbers i d lt in
    let same : size ≡ f (get_or numbers i d) = omega (arith, is, low, room) in
    omega (arith, held, same, sum_by_more f numbers i d lt)

pub len_fits : (f : FrameNo → ℕ) (numbers : List FrameNo) (i : ℕ) (d : FrameNo) (start len size : ℕ) → i < length numbers → len ≡ start + sum_by f (take i numbers) →
    size ≡ min (f (get_or numbers i d)) (2 ^ 64 - 1) → start + sum_by f numbers < 2 ^ 64 → len + size < 2 ^ 64
len_fits f numbers i d start len size lt held is room =
    let low = sum_by_more_le f numbers i d lt in
    omega (arith, held, is, low, room)

pub len_all : (f : FrameNo → ℕ) (numbers : List FrameNo) (i : ℕ) (start len : ℕ) → length numbers ≤ i → len ≡ start + sum_by f (take i numbers) → len ≡ start + sum_by f numbers
len_all f numbers i start len le held = held ∙ ap (λ l. start + sum_by f l) (take_all i numbers le)

module _ (lists : List RecordList) where
  pub no_len : (fdes cies : List FrameNo) → length fdes ≡ 0 → 0 ≡ frame_len_of lists fdes cies
  no_len [] cies none = refl
  no_len (fde ∷ fdes) cies some = absurd (omega (arith, some))

  pub some_len : (fdes cies : List FrameNo) (start len : ℕ) → 0 < length fdes → start ≡ 4 + sum_by (size_of lists) cies → len ≡ start + sum_by (size_of lists) fdes →
      len ≡ frame_len_of lists fdes cies
  some_len [] cies start len some e f = absurd (omega (arith, some))
  some_len (fde ∷ fdes) cies start len some e f = omega (arith, e, f)

pub header_is : (fdes : List FrameNo) → cond (length fdes == 0) 0 (12 + 8 * length fdes) ≡ header_len_of fdes
header_is [] = refl
header_is (fde ∷ fdes) =
    cond-false (length (fde ∷ fdes) == 0) 0 (12 + 8 * length (fde ∷ fdes)) (ne_eqb (length (fde ∷ fdes)) 0 (λ e. absurd (omega (arith, e))))

plan_from : (p q : PlanView) → p.cies ≡ q.cies → p.fdes ≡ q.fdes → p.uses ≡ q.uses → p.frame_len ≡ q.frame_len → p.header_len ≡ q.header_len → p ≡ q
plan_from p q cies fdes uses frame header =
    let make : List FrameNo → List FrameNo → List ℕ → ℕ → ℕ → PlanView = λ c f u m n. record { cies = c; fdes = f; uses = u; frame_len = m; header_len = n } in
    ap (λ c. make c p.fdes p.uses p.frame_len p.header_len) cies
    ∙ ap (λ f. make q.cies f p.uses p.frame_len p.header_len) fdes
    ∙ ap (λ u. make q.cies q.fdes u p.frame_len p.header_len) uses
    ∙ ap (λ m. make q.cies q.fdes q.uses m p.header_len) frame
    ∙ ap (make q.cies q.fdes q.uses q.frame_len) header

module _ (files : List File) (b : Bindings) (merged : List (Option Merged)) (lists : List RecordList) (leaders : List (Option ℕ)) where
  pub planned : (found : Uses) (frame_len header_len : ℕ) → AreUses (cie_key files b merged lists) (cie_no lists) (written_fdes files b merged lists leaders) found →
      frame_len ≡ frame_len_of lists found.fdes.items found.firsts.cies.items →
      header_len ≡ cond (length found.fdes.items == 0) 0 (12 + 8 * length found.fdes.items) →
      record { cies = found.firsts.cies.items; fdes = found.fdes.items; uses = found.uses.items; frame_len = frame_len; header_len = header_len } ≡ plan_of files b merged lists leaders
  unfolding plan_of written_cies
  planned found frame_len header_len are frame header =
      let fdes = written_fdes files b merged lists leaders in
      let cies = cies_for (cie_key files b merged lists) (cie_no lists) fdes in
      let made : PlanView = record { cies = found.firsts.cies.items; fdes = found.fdes.items; uses = found.uses.items; frame_len = frame_len; header_len = header_len } in
      plan_from made (plan_of files b merged lists leaders) are.held.cies_are are.fdes_are are.uses_are
      (frame ∙ ap (λ l. frame_len_of lists l found.firsts.cies.items) are.fdes_are ∙ ap (frame_len_of lists fdes) are.held.cies_are)
      (header ∙ header_is found.fdes.items ∙ ap header_len_of are.fdes_are)
