-- The output sections of a class in a map by their names.
use Rattle.std.specs.Prelude.{◌≡◌, ℕ, ◌++◌, Option, Some, None, unwrap_or, List, []}
use Rattle.std.specs.Borrow.{Bor}
use Rattle.std.specs.BTreeMap.{BTreeMap, get_by}
use Rattle.std.specs.Cmp.Lexicographic.{slice_cmp}
use Rattle.std.specs.Ordering.{nat_cmp}
use Rattle.lk_tables.specs.declared.classes.Class.{Class}
use Rattle.lk_tables.specs.Classes.{output_rank}
use Rattle.lk_tables.specs.OutputNames.{output_name, priority_of}
use Rattle.output_sections.specs.declared.heads.ClassHeads.{ClassHeads}
use Rattle.output_sections.specs.declared.heads.Last.{Last}
use Rattle.output_sections.specs.declared.heads.Head.{Head}
use Rattle.output_sections.specs.declared.rows.Row.{Row}
use Rattle.output_sections.specs.Items.{Item}
use Rattle.output_sections.specs.Order.{head_after, head_from, no_head, own_row}

abbrev pub ByName : Type 0
ByName = BTreeMap (Bor (List ℕ)) Head

-- what is known of the output section of a name
abbrev pub seen : ByName → (name : List ℕ) → Option Head
seen heads name = get_by (λ k. slice_cmp nat_cmp name k.now) heads

abbrev pub head_in : ByName → (name : List ℕ) → Head
head_in heads name = unwrap_or (seen heads name) no_head

-- what is known of the output sections of a class after all items
abbrev pub IsHeads : Class → List Item → ByName → Type 0
IsHeads class items heads = (name : List ℕ) → seen heads name ≡ head_from class name None 0 items

-- and after one more
abbrev pub IsNoted : Class → (number : ℕ) → Item → (old new : ByName) → Type 0
IsNoted class number item old new = (name : List ℕ) → seen new name ≡ head_after class name (seen old name) number item

-- what was known of each output section is known still
abbrev pub Stays : (old new : ByName) → Type 0
Stays old new = (name : List ℕ) (head : Head) → seen old name ≡ Some head → seen new name ≡ Some head

-- the rows of a class with one more item
abbrev pub IsPushed : Class → (number : ℕ) → Item → ByName → (old new : List Row) → Type 0
IsPushed class number item heads old new = new ≡ old ++ own_row class (head_in heads) number item

-- what is known of the output section to which the item before in a class went, with its rank
pub record IsLast (class : Class) (heads : ByName) (last : Last) : Type 0 where
  pub head : last.head ≡ seen heads last.name.now
  pub rank : last.rank ≡ output_rank class (unwrap_or last.head no_head).sh_type last.name.now

-- nothing is known before the first item
pub record IsNone (class : Class) (known : ClassHeads) : Type 0 where
  pub empty : known.heads.entries ≡ []
  pub held : IsLast class known.heads known.last

-- the row of an item of that output section, as it is known so far
unfoldable pub last_row : Last → (number : ℕ) → Item → Row
last_row last number item = record {
  number = number;
  content = item.content;
  group = (unwrap_or last.head no_head).group;
  rank = last.rank;
  priority = priority_of item.name;
  sh_type = item.sh_type;
  flags = item.flags;
  size = item.size;
  align = item.align;
}

-- the output sections of a class after one more item of it, whose output section is now the last one
pub record IsIn (class : Class) (number : ℕ) (item : Item) (old new : ClassHeads) : Type 0 where
  pub noted : IsNoted class number item old.heads new.heads
  pub held : IsLast class new.heads new.last
  pub name : new.last.name.now ≡ output_name item.name
