-- What is known of a link whose calls are shortened, and of its layout.
use Rattle.std.proofs.Common.{◌≡◌, ℕ, ◌<◌, ◌≤◌, ◌%◌, true, false, Option, Some, List, [], get_or}
use Rattle.std.specs.Prelude.{All}
use Rattle.lk_tables.specs.declared.tables.Tables.{Tables}
use Rattle.lk_tables.specs.Binding.{Bindings}
use Rattle.lk_tables.specs.BoundNames.{IsBindingOf}
use Rattle.lk_tables.specs.Files.{AreFew, section_total}
use Rattle.lk_tables.specs.TablesView.{files_of}
use Rattle.link_sections.specs.declared.layouts.Bounds.{Bounds}
use Rattle.link_sections.specs.declared.members.Content.TheVariants.{Section}
use Rattle.link_sections.specs.declared.members.Member.{Member as LaidMember}
use Rattle.link_sections.specs.declared.pools.Pool.{Pool}
use Rattle.link_sections.specs.Cuts.{Cut}
use Rattle.link_sections.specs.InputSections.{input_at}
use Rattle.link_sections.specs.LaidOut.{LaidOut, cuts_at, start_at}
use Rattle.link_sections.specs.Leaders.{leader_at, leads}
use Rattle.link_sections.specs.PoolViews.{Merged}
use Rattle.link_sections.specs.Sound.{IsSound}
use Rattle.layout.specs.Cutting.{is_short, laid_cuts}
use Rattle.output_sections.specs.Items.{AreLeaders, Item, items}
use Rattle.output_sections.specs.Order.{members_in, orders_of}
use Rattle.layout.proofs.Trails.{all_members}
use Rattle.relax.specs.declared.calls.Call.{Call}
use Rattle.output_sections.specs.declared.rows.Row.{Row}
use Rattle.relax.specs.CallSizes.{all_cuts, call_rows, is_safe}
use Rattle.relax.specs.Placing.{IsOneSize}

module _ (tables : Tables) (b : Bindings) (pools : List Pool) (merged : List (Option Merged)) (words : ℕ) (leaders : List (Option ℕ)) (laid : LaidOut) (sizes : List (List Cut)) (z : List ℕ) where
  abbrev pub the_members : List Row
  the_members = members_in (orders_of (items (files_of tables) b pools words leaders))

  abbrev pub the_rows : List (List Call)
  the_rows = call_rows (files_of tables) b merged leaders (members_in (orders_of (items (files_of tables) b pools words leaders))) true

  abbrev pub the_items : List Item
  the_items = items (files_of tables) b pools words leaders

  pub record IsGiven : Type 0 where
    pub few : AreFew (files_of tables)
    pub bound : IsBindingOf (files_of tables) b
    pub are : AreLeaders (files_of tables) b leaders
    pub alike : (n m : ℕ) → leader_at leaders n ≡ Some m → (input_at (files_of tables) b n).size ≡ (input_at (files_of tables) b m).size
    pub safe : is_safe the_members the_rows z ≡ true
    pub ones : All IsOneSize z
    pub sizes_are : sizes ≡ all_cuts (files_of tables) the_members the_rows z
    pub bounds : Bounds
    pub placed : laid.members ≡ all_members sizes (orders_of the_items) bounds
    pub cuts : (n : ℕ) → n < section_total (files_of tables) → leads leaders n ≡ true → cuts_at laid n ≡ laid_cuts (start_at laid n) (get_or sizes n [])
    pub sound : IsSound (files_of tables) b leaders laid
    pub aligned : All (λ (m : LaidMember). (n : ℕ) → m.content ≡ Section n → m.start % (input_at (files_of tables) b n).align ≡ 0) laid.members
    pub short : (n : ℕ) → n < section_total (files_of tables) → leads leaders n ≡ true → All (λ c. is_short c ≡ false) (cuts_at laid n)
    pub some : All (λ (item : Item). 1 ≤ item.align) the_items
