-- What folding spares: sections that are barred stand alone, and where more are barred no more is folded.
use Rattle.std.specs.Prelude.{◌≡◌, ℕ, true, Bool, List, Option, Some}
use Rattle.icf_part.specs.Folding.{AreFolded, item_at}
use Rattle.link_command.specs.declared.command.IcfMode.{IcfMode}
use Rattle.link_command.specs.declared.command.IcfMode.TheVariants.{All, Safe}
use Rattle.link_command.specs.Command.{CommandView}
use Rattle.link_sections.specs.FoldItems.{FoldItem}
use Rattle.link_sections.specs.Leaders.{leader_at, own_leaders}
use Rattle.link_sections.specs.Merging.{pools_of}
use Rattle.lk_tables.specs.Binding.{Bindings}
use Rattle.lk_tables.specs.Files.{File}
use Rattle.sec_graph.specs.Foldable.{is_barred, items}
use Rattle.link_passes.specs.Passes.{barred_of, leaders_in}
use Rattle.link_driver.specs.Link.{bound_in, kept_in, linked_files, link_options_in}
use Rattle.link_passes.specs.Sources.{Source}

-- two sections are folded among some items: a congruence pairs their items
pub record AreFoldedSections (list : List FoldItem) (m n : ℕ) : Type 0 where
  pub one : ℕ
  pub two : ℕ
  pub first : (item_at list one).section ≡ m
  pub second : (item_at list two).section ≡ n
  pub folded : AreFolded list one two

-- a section has the leader that it has without folding, and leads no other
pub record StandsAlone (own leaders : List (Option ℕ)) (n : ℕ) : Type 0 where
  pub same : leader_at leaders n ≡ leader_at own n
  pub no_other : (m : ℕ) → leader_at leaders m ≡ Some n → m ≡ n

-- what may be folded in a mode, where these names are kept unique
abbrev pub items_for : IcfMode → (unique : List (List ℕ)) → List File → Bindings → (kept : List Bool) → List FoldItem
items_for icf unique files b kept = items files b (pools_of files kept).merged kept (barred_of icf unique files b kept)

-- of the files of these sources: each section that is barred stands alone, among them each whose address is taken where folding is to be safe; and
-- what is folded safely is folded where all is
pub record Spares (asked : CommandView) (ss : List Source) : Type 0 where
  pub alone : (n : ℕ) → is_barred (barred_of asked.icf asked.unique (linked_files asked ss) (bound_in asked ss) (kept_in asked ss)) n ≡ true →
      StandsAlone (own_leaders (kept_in asked ss) (pools_of (linked_files asked ss) (kept_in asked ss)).merged)
      (leaders_in (link_options_in asked ss) (linked_files asked ss) (bound_in asked ss) (kept_in asked ss)) n
  pub fewer : (m n : ℕ) → AreFoldedSections (items_for Safe asked.unique (linked_files asked ss) (bound_in asked ss) (kept_in asked ss)) m n →
      AreFoldedSections (items_for All asked.unique (linked_files asked ss) (bound_in asked ss) (kept_in asked ss)) m n
