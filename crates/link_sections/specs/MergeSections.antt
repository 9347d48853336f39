-- Sections of which equal elements are written once (System V gABI, "Section Attribute Flags": SHF_MERGE and SHF_STRINGS), and their pieces.
use Rattle.std.specs.Prelude.{ℕ, ◌-◌, ◌*◌, ◌/◌, ◌%◌, Bool, not, ◌&&◌, ◌||◌, ◌==◌, bit_and, if◌then◌else◌, max, List, [], ◌∷◌, ◌++◌, length, map, take, drop}
use Rattle.std.specs.List.{list_all, range_with_len}
use Rattle.std.specs.Str.{bytes_eq}
use Rattle.lk_base.specs.declared.abi.TheConstants.{SHF_GROUP, SHF_MERGE, SHF_STRINGS, SHF_WRITE, SHT_PROGBITS}
use Rattle.lk_tables.specs.declared.heads.Section.{Section}
use Rattle.lk_tables.specs.Files.{File, section_at, relocs_at}
use Rattle.lk_tables.specs.Names.{text_of}
use Rattle.lk_tables.specs.OutputNames.{output_name}
use Rattle.lk_tables.specs.Sections.{contents_of}

-- the bytes of section k in its file
unfoldable pub contents : File → (k : ℕ) → List ℕ
contents file k = contents_of file.bytes (section_at file k)

-- bytes as elements of one size
unfoldable pub elements : (size : ℕ) → List ℕ → List (List ℕ)
elements size bytes = map (λ i. take size (drop (i * size) bytes)) (range_with_len 0 (length bytes / size))

-- a character of which all bytes are zero ends a string
abbrev pub is_zero_char : List ℕ → Bool
is_zero_char char = list_all (λ byte. byte == 0) char

-- characters as strings, each with the zero character that ends it; `begun` is what a string has so far
abbrev pub strings_from : (begun : List ℕ) → (chars : List (List ℕ)) → List (List ℕ)
strings_from begun [] = []
strings_from begun (char ∷ chars) = if is_zero_char char
    then (begun ++ char) ∷ strings_from [] chars
    else strings_from (begun ++ char) chars

abbrev pub has_strings : File → (k : ℕ) → Bool
has_strings file k = not (bit_and (section_at file k).flags SHF_STRINGS == 0)

-- some whole elements
unfoldable pub is_whole : (size : ℕ) → List ℕ → Bool
is_whole size bytes = not (length bytes == 0) && (not (size == 0) && length bytes % size == 0)

-- characters of 1, 2 or 4 bytes, of which the last is zero
unfoldable pub is_ended : (size : ℕ) → List ℕ → Bool
is_ended size bytes = (size == 1 || (size == 2 || size == 4)) && is_zero_char (drop (length bytes - size) bytes)

-- section k is merged if it is kept: it is of type PROGBITS, has the flag MERGE, is not written to while the program runs, has no
-- relocations, and its bytes are whole elements, or strings that end
unfoldable pub is_mergeable : File → (k : ℕ) → Bool
is_mergeable file k =
    not (bit_and (section_at file k).flags SHF_MERGE == 0)
    && ((section_at file k).sh_type == SHT_PROGBITS
    && (bit_and (section_at file k).flags SHF_WRITE == 0
    && (length (relocs_at file k) == 0
    && (is_whole (section_at file k).entsize (contents file k)
    && (not (has_strings file k) || is_ended (section_at file k).entsize (contents file k))))))

-- the pieces of a section: elements of the size that its header says, or strings of such characters
unfoldable pub section_pieces : (bytes : List ℕ) → Section → List (List ℕ)
section_pieces bytes s = if not (bit_and s.flags SHF_STRINGS == 0)
    then strings_from [] (elements s.entsize (contents_of bytes s))
    else elements s.entsize (contents_of bytes s)

abbrev pub pieces_in : File → (k : ℕ) → List (List ℕ)
pieces_in file k = section_pieces file.bytes (section_at file k)

-- what sections of one pool have in common: the name of their output section, their flags but for GROUP, the size of their elements and
-- their alignment, of which 0 counts as 1
pub record PoolKey : Type 0 where
  pub name : List ℕ
  pub flags : ℕ
  pub entsize : ℕ
  pub align : ℕ

unfoldable pub pool_key : File → (k : ℕ) → PoolKey
pool_key file k = record {
  name = output_name (text_of file.bytes (section_at file k).name);
  flags = (section_at file k).flags - bit_and (section_at file k).flags SHF_GROUP;
  entsize = (section_at file k).entsize;
  align = max 1 (section_at file k).align;
}

unfoldable pub same_key : PoolKey → PoolKey → Bool
same_key a b = ((bytes_eq a.name b.name && a.flags == b.flags) && a.entsize == b.entsize) && a.align == b.align
