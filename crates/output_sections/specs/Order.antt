-- The order in which the items of a class stand: by the rank of their output section, ties by its first item in command order, then by
-- their priority in it, then by command order. An output section is one name in one class.
use Rattle.std.specs.Prelude.{◌≡◌, ℕ, ◌+◌, ◌-◌, ◌*◌, ◌^◌, ◌<◌, ◌&&◌, nat_lt, Bool, true, false, Option, Some, None, unwrap_or, if◌then◌else◌, List, [], ◌∷◌, ◌++◌, map, flat_map, slice_index_or, Result, IfOk}
use Rattle.std.specs.Global.{Vec}
use Rattle.std.specs.List.{range_with_len}
use Rattle.std.specs.declared.ops.Range.{Range}
use Rattle.lk_base.specs.declared.defects.LinkStop.{LinkStop}
use Rattle.lk_base.specs.declared.abi.TheConstants.{SHT_PROGBITS}
use Rattle.lk_base.specs.Order.{stable_order}
use Rattle.lk_tables.specs.declared.classes.Class.{Class}
use Rattle.lk_tables.specs.declared.classes.Class.TheVariants.{R, Rx, TlsBits, TlsNobits, RwBits, RwNobits}
use Rattle.lk_tables.specs.Binding.{Bindings}
use Rattle.lk_tables.specs.Classes.{is_in, output_rank, class_no}
use Rattle.lk_tables.specs.Files.{File, section_total}
use Rattle.lk_tables.specs.OutputNames.{output_name, priority_of, goes_to}
use Rattle.link_sections.specs.declared.members.Content.{Content}
use Rattle.link_sections.specs.declared.members.Content.TheVariants.{Section, Pool as IsPool, Got}
use Rattle.link_sections.specs.InputSections.{input_at}
use Rattle.output_sections.specs.declared.heads.Head.{Head}
use Rattle.output_sections.specs.declared.rows.Row.{Row}
use Rattle.output_sections.specs.Items.{Item}

-- whether an item belongs to a class, and goes to the output section of a name in it
abbrev pub is_of : Class → Item → Bool
is_of class item = is_in class item.sh_type item.flags

abbrev pub item_goes_to : Class → (name : List ℕ) → Item → Bool
item_goes_to class name item = goes_to item.name item.sh_type item.flags class name

-- an output section with one more item: the number of the first item in command order stays; the item that stands first in the output
-- section is the one of least priority, and of those alike the first
unfoldable pub with_item : Option Head → (number : ℕ) → Item → Head
with_item None number item = record { group = number; priority = priority_of item.name; sh_type = item.sh_type }
with_item (Some head) number item = if nat_lt (priority_of item.name) head.priority
    then record { group = head.group; priority = priority_of item.name; sh_type = item.sh_type }
    else head

-- the output section of a name after an item, and after items that are numbered from `number` on
unfoldable pub head_after : Class → (name : List ℕ) → Option Head → (number : ℕ) → Item → Option Head
head_after class name head number item = if item_goes_to class name item then Some (with_item head number item) else head

abbrev pub head_from : Class → (name : List ℕ) → Option Head → (number : ℕ) → List Item → Option Head
head_from class name head number [] = head
head_from class name head number (item ∷ items) = head_from class name (head_after class name head number item) (number + 1) items

abbrev pub no_head : Head
no_head = record { group = 0; priority = 0; sh_type = SHT_PROGBITS }

-- of all items
abbrev pub head_of : Class → List Item → (name : List ℕ) → Head
head_of class items name = unwrap_or (head_from class name None 0 items) no_head

-- what decides the place of an item in its class, in an output section
unfoldable pub row_in : Class → Head → (number : ℕ) → Item → Row
row_in class head number item = record {
  number = number;
  content = item.content;
  group = head.group;
  rank = output_rank class head.sh_type (output_name item.name);
  priority = priority_of item.name;
  sh_type = item.sh_type;
  flags = item.flags;
  size = item.size;
  align = item.align;
}

-- the item's row, if it is of the class
unfoldable pub own_row : Class → (heads : List ℕ → Head) → (number : ℕ) → Item → List Row
own_row class heads number item = if is_of class item then row_in class (heads (output_name item.name)) number item ∷ [] else []

-- the items of a class in command order
abbrev pub rows_from : Class → (heads : List ℕ → Head) → (number : ℕ) → List Item → List Row
rows_from class heads number [] = []
rows_from class heads number (item ∷ items) = own_row class heads number item ++ rows_from class heads (number + 1) items

abbrev pub rows_of : Class → List Item → List Row
rows_of class items = rows_from class (head_of class items) 0 items

-- rank, group and priority as one number; each but the first is below 2^32
unfoldable pub key_of : Row → ℕ
key_of row = (row.rank * 2 ^ 32 + row.group) * 2 ^ 32 + row.priority

-- the items of a class in their order: the stable order leaves ties as they stood
abbrev pub order_of : Class → List Item → List Row
order_of class items = stable_order key_of (rows_of class items)

-- the classes in the order in which they stand
abbrev pub classes : List Class
classes = R ∷ Rx ∷ TlsBits ∷ TlsNobits ∷ RwBits ∷ RwNobits ∷ []

abbrev pub class_at : (place : ℕ) → Class
class_at place = slice_index_or classes place RwNobits

-- by class the items of it in their order, and those of one class
abbrev pub Orders : Type 0
Orders = List (List Row)

abbrev pub rows_in : Orders → Class → List Row
rows_in o class = slice_index_or o (class_no class) []

unfoldable pub orders_of : List Item → Orders
orders_of items = map (λ class. order_of class items) classes

-- the rows of a run of the classes, as lists
abbrev pub orders_between : List Item → (start end : ℕ) → Orders
orders_between items start end = map (λ place. order_of (class_at place) items) (range_with_len start (end - start))

abbrev pub lists_view : List (Vec Row) → Orders
lists_view lists = map (λ (list : Vec Row). list.items) lists

abbrev pub IsOrderPart : List Item → Range ℕ → Result (Vec (Vec Row)) LinkStop → Type 0
IsOrderPart items piece r = IfOk r (λ lists. lists_view lists.items ≡ orders_between items piece.start piece.end)

-- the members of all output sections, one output section after the other
abbrev pub members_in : Orders → List Row
members_in o = flat_map (λ rows. rows) o

-- whether a member is a section, and that section's number
abbrev pub is_content : Content → Bool
is_content (Section n) = true
is_content (IsPool p) = false
is_content Got = false

abbrev pub number_in : Content → ℕ
number_in (Section n) = n
number_in (IsPool p) = 0
number_in Got = 0

abbrev pub is_section : Row → Bool
is_section m = is_content m.content

abbrev pub own_section : Row → ℕ
own_section m = number_in m.content

-- a member that is a section is one of the link, and has its size
pub record IsKnown (files : List File) (b : Bindings) (m : Row) : Type 0 where
  pub number : is_section m ≡ true → own_section m < section_total files
  pub size : is_section m ≡ true → m.size ≡ (input_at files b (own_section m)).size
