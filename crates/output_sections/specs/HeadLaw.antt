-- The output section of a name in a class, as a law on what `head_of` finds walking along the items.
use Rattle.std.specs.Prelude.{◌≡◌, ℕ, ◌<◌, ◌≤◌, true, false, List, length, slice_index_or}
use Rattle.std.specs.List.{list_any}
use Rattle.lk_tables.specs.declared.classes.Class.{Class}
use Rattle.lk_tables.specs.OutputNames.{priority_of}
use Rattle.output_sections.specs.declared.heads.Head.{Head}
use Rattle.output_sections.specs.Items.{Item, got_item}
use Rattle.output_sections.specs.Order.{item_goes_to, head_of}

abbrev pub item_at : List Item → ℕ → Item
item_at items i = slice_index_or items i (got_item 0)

-- its number is that of the first of these items that goes there; its priority and its type are those of the item that stands first in it: one of
-- least priority, and of these the first
pub record IsHead (class : Class) (name : List ℕ) (items : List Item) (head : Head) : Type 0 where
  pub first : head.group < length items
  pub first_goes : item_goes_to class name (item_at items head.group) ≡ true
  pub none_before : (i : ℕ) → i < head.group → item_goes_to class name (item_at items i) ≡ false
  pub leader : ℕ
  pub among : leader < length items
  pub goes : item_goes_to class name (item_at items leader) ≡ true
  pub priority : head.priority ≡ priority_of (item_at items leader).name
  pub sh_type : head.sh_type ≡ (item_at items leader).sh_type
  pub least : (i : ℕ) → i < length items → item_goes_to class name (item_at items i) ≡ true → head.priority ≤ priority_of (item_at items i).name
  pub before : (i : ℕ) → i < leader → item_goes_to class name (item_at items i) ≡ true → head.priority < priority_of (item_at items i).name

-- of each name in each class to which an item goes
abbrev pub AreHeads : List Item → Type 0
AreHeads items = (class : Class) (name : List ℕ) → list_any (item_goes_to class name) items ≡ true → IsHead class name items (head_of class items name)
