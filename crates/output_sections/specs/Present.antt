-- Which classes have items.
use Rattle.std.specs.Prelude.{◌≡◌, Bool, List}
use Rattle.std.specs.List.{list_any}
use Rattle.lk_tables.specs.declared.classes.Class.{Class}
use Rattle.lk_tables.specs.declared.classes.Class.TheVariants.{R, Rx, TlsBits, TlsNobits, RwBits, RwNobits}
use Rattle.lk_tables.specs.Classes.{is_in}
use Rattle.output_sections.specs.declared.items.Item.{Item}
use Rattle.output_sections.specs.declared.present.Present.{Present}

-- a class has some
abbrev pub has : Present → Class → Bool
has p R = p.r
has p Rx = p.rx
has p TlsBits = p.tls_bits
has p TlsNobits = p.tls_nobits
has p RwBits = p.rw_bits
has p RwNobits = p.rw_nobits

abbrev pub is_item_of : Class → Item → Bool
is_item_of class item = is_in class item.sh_type item.flags

-- what is said of each class is so
abbrev pub ArePresent : List Item → Present → Type 0
ArePresent items p = (class : Class) → has p class ≡ list_any (is_item_of class) items
