-- Items of the code as plain records.
use Rattle.std.specs.Prelude.{List, map}
use Rattle.output_sections.specs.declared.items.Item.{Item as HeldItem}
use Rattle.output_sections.specs.Items.{Item}

abbrev pub item_view : HeldItem → Item
item_view i = record { content = i.content; name = i.name.now; sh_type = i.sh_type; flags = i.flags; size = i.size; align = i.align }

abbrev pub items_view : List HeldItem → List Item
items_view items = map item_view items
