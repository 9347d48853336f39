-- What a section has in common with the one that is written in its place.
use Rattle.std.specs.Prelude.{◌≡◌, ℕ, Bool, true, Option, Some, List, false}
use Rattle.lk_tables.specs.Binding.{Bindings}
use Rattle.lk_tables.specs.Files.{File}
use Rattle.link_sections.specs.InputSections.{input_at}
use Rattle.link_sections.specs.Leaders.{leader_at, is_kept}
use Rattle.lk_tables.specs.OutputNames.{output_name}
use Rattle.link_sections.specs.PoolViews.{Merged, is_merged}

-- each section has as many bytes as the one that is written in its place
abbrev pub AreAlike : List File → Bindings → (leaders : List (Option ℕ)) → Type 0
AreAlike files b leaders = (n m : ℕ) → leader_at leaders n ≡ Some m → (input_at files b n).size ≡ (input_at files b m).size

-- what decides to which output section a section goes is that of the one which is written in its place; each that is kept and not merged has one
pub record GoWithLeaders (files : List File) (b : Bindings) (kept : List Bool) (merged : List (Option Merged)) (leaders : List (Option ℕ)) : Type 0 where
  pub led : (n : ℕ) → is_kept kept n ≡ true → is_merged merged n ≡ false → (m : ℕ) × (leader_at leaders n ≡ Some m)
  pub output : (n m : ℕ) → leader_at leaders n ≡ Some m → output_name (input_at files b n).name ≡ output_name (input_at files b m).name
  pub sh_type : (n m : ℕ) → leader_at leaders n ≡ Some m → (input_at files b n).sh_type ≡ (input_at files b m).sh_type
  pub flags : (n m : ℕ) → leader_at leaders n ≡ Some m → (input_at files b n).flags ≡ (input_at files b m).flags
