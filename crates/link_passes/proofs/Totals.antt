-- Counts of files, symbols and sections.
use Rattle.std.proofs.Common.{◌≡◌, ℕ, ◌<◌, ◌≤◌, ◌^◌, Bool, true, false, refl, List, [], ◌++◌, arith, ap, ◌∙◌}
use Rattle.std.specs.Prelude.{if◌then◌else◌}
use Rattle.std.proofs.lemmas.Bool.Decides.{nat_tests}
use Rattle.lk_base.specs.declared.defects.Defect.{Defect}
use Rattle.lk_base.specs.Defects.{count_defects}
use Rattle.lk_base.specs.Firsts.{BeginsWith}

-- a count within its limit
pub within_limit : (limit count : ℕ) → count_defects limit count ≡ [] → count ≤ limit
within_limit limit count none = grind (arith, nat_tests)

-- a list of defects of three parts
pub first_of_second : (a b c : List Defect) (d : Defect) → a ≡ [] → BeginsWith b d → BeginsWith (a ++ (b ++ c)) d
first_of_second a b c d none begins = (begins.0 ++ c, ap (λ l. l ++ (b ++ c)) none ∙ ap (λ l. l ++ c) begins.1)

pub first_of_third : (a b c : List Defect) (d : Defect) → a ≡ [] → b ≡ [] → BeginsWith c d → BeginsWith (a ++ (b ++ c)) d
first_of_third a b c d none empty begins = (begins.0, ap (λ l. l ++ (b ++ c)) none ∙ ap (λ l. l ++ c) empty ∙ begins.1)

pub all_none : (a b c : List Defect) → a ≡ [] → b ≡ [] → c ≡ [] → a ++ (b ++ c) ≡ []
all_none a b c none empty last = ap (λ l. l ++ (b ++ c)) none ∙ ap (λ l. l ++ c) empty ∙ last

-- a list of defects of two parts
pub second_part : (a b : List Defect) (d : Defect) → a ≡ [] → BeginsWith b d → BeginsWith (a ++ b) d
second_part a b d none begins = (begins.0, ap (λ l. l ++ b) none ∙ begins.1)

pub both_parts : (a b : List Defect) → a ≡ [] → b ≡ [] → a ++ b ≡ []
both_parts a b none empty = ap (λ l. l ++ b) none ∙ empty

-- what a file is counted for
pub few_counted : (live : Bool) (count : ℕ) → (live ≡ true → count < 2 ^ 28) → (if live then count else 0) ≤ 2 ^ 28
few_counted true count few = let lt = few refl in omega arith
few_counted false count few = omega arith
