-- The section headers that are written so far, where the next name and the next bytes start.
use Rattle.std.proofs.Common.{◌≡◌, ℕ, ◌+◌, ◌*◌, ◌≤◌, List, ◌++◌, length, map, flat_map}
use Rattle.elf_fields.specs.Symbols.{zero_ended}
use Rattle.link_gen.specs.declared.contents.Object.{Object}
use Rattle.link_gen.specs.declared.sections.Section.{Section as Row}
use Rattle.link_gen.specs.Contents.{row_name, section_view}
use Rattle.link_gen.specs.Elf.{section_headers}

-- what is written goes with the headers of the rest to those of all; so do the names; an offset is small
pub record Along (o : Object) (rows rest : List Row) (old now : List ℕ) (name offset index : ℕ) : Type 0 where
  pub written : now ++ section_headers name offset (map (section_view o) rest) ≡ old ++ section_headers 1 64 (map (section_view o) rows)
  pub named : name + length (flat_map zero_ended (map row_name rest)) ≡ 1 + length (flat_map zero_ended (map row_name rows))
  pub near : offset ≤ 64 + 131072 * index
