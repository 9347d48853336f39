-- Heads that were read before a link looks for them.
use Rattle.std.specs.Prelude.{◌≡◌, ℕ, Bool, Option, None, if◌then◌else◌, is_some, filter, List, [], ◌∷◌, ◌++◌}
use Rattle.lk_tables.specs.declared.heads.Head.{Head}
use Rattle.link_passes.specs.Defects.{head_defects}
use Rattle.link_passes.specs.Reading.{IsHeadOf}
use Rattle.link_passes.specs.Sources.{Source}

-- the head of a file that has no defect
pub record IsSoundHead (s : Source) (head : Option Head) : Type 0 where
  pub head_is : IsHeadOf s head
  pub sound : (f : ℕ) → head_defects s f ≡ []

-- the files have these heads, in order, and no defect
abbrev pub AreHeads : List Source → List (Option Head) → Type 0
AreHeads [] [] = Unit {0}
AreHeads (s ∷ ss) (head ∷ heads) = IsSoundHead s head × AreHeads ss heads
AreHeads [] (head ∷ heads) = ⊥
AreHeads (s ∷ ss) [] = ⊥

-- the heads of a file in the order of the files of a link: those of the members that have one come after their archive, which has none
abbrev pub own_heads : (archive : Bool) → List (Option Head) → List (Option Head)
own_heads archive heads = (if archive then None ∷ [] else []) ++ filter is_some heads
