-- An input section of the code as a plain record.
use Rattle.link_sections.specs.declared.input_sections.InputSection.{InputSection as LentInput}
use Rattle.link_sections.specs.InputSections.{InputSection}

abbrev pub input_view : LentInput → InputSection
input_view s = record { name = s.name.now; sh_type = s.sh_type; flags = s.flags; size = s.size; align = s.align }
