-- The linker's global offset table as a plain list.
use Rattle.std.specs.Prelude.{List}
use Rattle.link_sections.specs.declared.got.Got.{Got}
use Rattle.link_sections.specs.declared.got.GotEntry.{GotEntry}

-- its entries, in order of their first use
abbrev pub entries_of : Got → List GotEntry
entries_of got = got.entries.items
