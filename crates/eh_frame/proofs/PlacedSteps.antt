-- Records one after the other: how many there are, and what holds of them.
use Rattle.std.proofs.Common.{◌≡◌, ℕ, suc, ◌+◌, List, [], ◌∷◌, length, take, drop, refl, ap, ◌∙◌}
use Rattle.std.specs.List.{All, sum_by}
use Rattle.std.proofs.lemmas.List.{drop_at, take_at}
use Rattle.std.proofs.lemmas.List.Elements.{All-append, All-cons, All-head, All-nil, All-tail}
use Rattle.lk_tables.specs.declared.records.FrameNo.{FrameNo}
use Rattle.lk_tables.specs.FramePlans.{PlanView}
use Rattle.lk_tables.specs.Frames.{RecordList}
use Rattle.eh_frame.specs.declared.placing.Placed.{Placed}
use Rattle.eh_frame.specs.Bytes.{all_placed, placed_cies, placed_fdes, placed_from}
use Rattle.eh_frame.specs.Plan.{size_of}

abbrev pub placed_at : (number : FrameNo) (at : ℕ) → Placed
placed_at number at = record { number = number; at = at }

module _ (lists : List RecordList) where
  pub length_placed : (at : ℕ) (numbers : List FrameNo) → length (placed_from lists at numbers) ≡ length numbers
  length_placed at [] = refl
  length_placed at (n ∷ ns) = ap suc (length_placed (at + size_of lists n) ns)

  pub all_from : (P : FrameNo → Type 0) (at : ℕ) (numbers : List FrameNo) → All P numbers → All (λ (p : Placed). P p.number) (placed_from lists at numbers)
  all_from P at [] all = All-nil (λ (p : Placed). P p.number)
  all_from P at (n ∷ ns) all =
      All-cons (λ (p : Placed). P p.number) (placed_at n at) (placed_from lists (at + size_of lists n) ns) (All-head P n ns all)
      (all_from P (at + size_of lists n) ns (All-tail P n ns all))

  pub cies_all : (P : FrameNo → Type 0) (plan : PlanView) → All P plan.cies → All (λ (p : Placed). P p.number) (placed_cies lists plan)
  unfolding placed_cies
  cies_all P plan all = all_from P 0 plan.cies all

  pub fdes_all : (P : FrameNo → Type 0) (plan : PlanView) → All P plan.fdes → All (λ (p : Placed). P p.number) (placed_fdes lists plan)
  unfolding placed_fdes
  fdes_all P plan all = all_from P (sum_by (size_of lists) plan.cies) plan.fdes all

  pub both_all : (P : FrameNo → Type 0) (plan : PlanView) → All P plan.cies → All P plan.fdes → All (λ (p : Placed). P p.number) (all_placed lists plan)
  both_all P plan cies fdes = All-append (λ (p : Placed). P p.number) (placed_cies lists plan) (placed_fdes lists plan) (cies_all P plan cies) (fdes_all P plan fdes)

  pub cies_length : (plan : PlanView) → length (placed_cies lists plan) ≡ length plan.cies
  unfolding placed_cies
  cies_length plan = length_placed 0 plan.cies

  pub fdes_length : (plan : PlanView) → length (placed_fdes lists plan) ≡ length plan.fdes
  unfolding placed_fdes
  fdes_length plan = length_placed (sum_by (size_of lists) plan.cies) plan.fdes

  -- the first of all that are placed are the CIEs, and the others the FDEs
  pub first_placed : (plan : PlanView) (n : ℕ) → length plan.cies ≡ n → take n (all_placed lists plan) ≡ placed_cies lists plan
  first_placed plan n is = take_at (placed_cies lists plan) (placed_fdes lists plan) n (cies_length plan ∙ is)

  pub last_placed : (plan : PlanView) (n : ℕ) → length plan.cies ≡ n → drop n (all_placed lists plan) ≡ placed_fdes lists plan
  last_placed plan n is = drop_at (placed_cies lists plan) (placed_fdes lists plan) n (cies_length plan ∙ is)
