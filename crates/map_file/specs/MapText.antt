-- The map of a link: what stands where in the executable, what was left out, and where symbols are. Its lines are the project's own.
use Rattle.std.specs.Prelude.{ℕ, ◌+◌, ◌-◌, ◌/◌, ◌%◌, ◌^◌, ◌==◌, ◌&&◌, not, Bool, true, false, Option, Some, None, if◌then◌else◌, List, [], ◌∷◌, ◌++◌, codes, decimal, drop, flat_map, map, slice_index, slice_index_or, take}
use Rattle.std.specs.List.{range_with_len}
use Rattle.lk_base.specs.Lines.{escaped}
use Rattle.lk_tables.specs.declared.classes.Class.{Class}
use Rattle.lk_tables.specs.declared.classes.Class.TheVariants.{R, Rx, TlsBits, TlsNobits, RwBits, RwNobits}
use Rattle.lk_tables.specs.Binding.{Bindings}
use Rattle.lk_tables.specs.Files.{File, file_at, section_total, writes}
use Rattle.lk_tables.specs.Sites.{place_of}
use Rattle.lk_tables.specs.Targets.{is_gone}
use Rattle.link_sections.specs.declared.members.Content.{Content}
use Rattle.link_sections.specs.declared.members.Content.TheVariants.{Section, Pool, Got}
use Rattle.link_sections.specs.declared.members.Member.{Member}
use Rattle.link_sections.specs.Addresses.{entry_address}
use Rattle.link_sections.specs.InputSections.{input_at, input_of, is_own, may_stay_at}
use Rattle.link_sections.specs.LaidOut.{LaidOut, OutputSection, start_at}
use Rattle.link_sections.specs.Leaders.{is_kept, leader_at, leader_of}
use Rattle.symbol_table.specs.declared.symbols.TablePlace.{TablePlace}
use Rattle.symbol_table.specs.declared.symbols.TablePlace.TheVariants.{Absolute, Output}
use Rattle.symbol_table.specs.Outputs.{place_in}
use Rattle.symbol_table.specs.SymbolTable.{TableSymbol, table_symbols}

-- a lower-case hexadecimal digit
abbrev pub low_digit : ℕ → ℕ
low_digit digit = slice_index (codes "0123456789abcdef") digit

-- an address, or a number of bytes: 16 hexadecimal digits
unfoldable pub hex : ℕ → List ℕ
hex n = map (λ i. low_digit (n / 16 ^ (15 - i) % 16)) (range_with_len 0 16)

-- a word, an address and a number of bytes
unfoldable pub extent : (word : List ℕ) → (address size : ℕ) → List ℕ
extent word address size = word ++ codes " " ++ hex address ++ codes " " ++ hex size

-- an output section
unfoldable pub output_line : OutputSection → List ℕ
output_line o = extent (codes "section") o.address o.size ++ codes " " ++ escaped o.name ++ codes "\n"

-- a class whose output sections have no bytes in the file
abbrev pub is_nobits : Class → Bool
is_nobits R = false
is_nobits Rx = false
is_nobits TlsBits = false
is_nobits TlsNobits = true
is_nobits RwBits = false
is_nobits RwNobits = true

-- a symbol
unfoldable pub symbol_line : TableSymbol → List ℕ
symbol_line t = codes "symbol " ++ hex t.value ++ codes " " ++ escaped t.name ++ codes "\n"

-- it stands in the output section of this number
abbrev pub is_output : (number : ℕ) → TablePlace → Bool
is_output number Absolute = false
is_output number (Output n) = n == number

-- a section is written in the place of section n
abbrev pub is_other : Option ℕ → (n : ℕ) → Bool
is_other None n = false
is_other (Some leader) n = not (leader == n)

module _ (files : List File) (b : Bindings) where
  -- section n is written, and was discarded with its group
  abbrev pub is_discarded : (n : ℕ) → Bool
  is_discarded n = is_own files b (place_of files n).file (place_of files n).index
      && (writes (file_at files (place_of files n).file) (place_of files n).index && is_gone b n)

  -- section n may stay, and is not kept
  abbrev pub is_dropped : (kept : List Bool) → (n : ℕ) → Bool
  is_dropped kept n = may_stay_at files b n && not (is_kept kept n)

  -- section n is folded, and the section in its place stands in the output section of this number
  abbrev pub is_folded_in : (leaders : List (Option ℕ)) → LaidOut → (number n : ℕ) → Bool
  is_folded_in leaders laid number n =
      is_other (leader_at leaders n) n && is_output number (place_in laid (input_at files b (leader_of leaders n)))

module _ (names : List (List ℕ)) (files : List File) (b : Bindings) where
  -- section k of file f: the file as lines show it, the index, and the section's name; the room of a COMMON symbol is a section named
  -- `COMMON`
  unfoldable pub place_text : (f k : ℕ) → List ℕ
  place_text f k = escaped (slice_index_or names f []) ++ codes " " ++ decimal k ++ codes " " ++ escaped (input_of files b f k).name

  abbrev pub section_text : (n : ℕ) → List ℕ
  section_text n = place_text (place_of files n).file (place_of files n).index

  abbrev pub about_section : (word : List ℕ) → (n : ℕ) → List ℕ
  about_section word n = word ++ codes " " ++ section_text n ++ codes "\n"

  -- a member of an output section; the linker's table only if it has entries
  abbrev pub content_line : Content → (start size : ℕ) → List ℕ
  content_line (Section n) start size = extent (codes "input") start size ++ codes " " ++ section_text n ++ codes "\n"
  content_line (Pool p) start size = extent (codes "pool") start size ++ codes "\n"
  content_line Got start size = if size == 0 then [] else extent (codes "got") start size ++ codes "\n"

  unfoldable pub member_line : Member → List ℕ
  member_line m = content_line m.content m.start m.size

  unfoldable pub discarded_line : (n : ℕ) → List ℕ
  discarded_line n = if is_discarded files b n then about_section (codes "discarded") n else []

  unfoldable pub dropped_line : (kept : List Bool) → (n : ℕ) → List ℕ
  dropped_line kept n = if is_dropped files b kept n then about_section (codes "dropped") n else []

  module _ (leaders : List (Option ℕ)) (laid : LaidOut) where
    -- at the address of the section in its place
    unfoldable pub folded_text : (n : ℕ) → List ℕ
    folded_text n = codes "folded " ++ hex (start_at laid (leader_of leaders n)) ++ codes " " ++ section_text n ++ codes "\n"

    unfoldable pub folded_line : (number n : ℕ) → List ℕ
    folded_line number n = if is_folded_in files b leaders laid number n then folded_text n else []

    -- an output section, its members in order, and the sections in whose places some of these are written, in order of file and section
    unfoldable pub output_block : (number : ℕ) → OutputSection → (members : List Member) → List ℕ
    output_block number o members = output_line o ++ (flat_map member_line members
        ++ flat_map (folded_line number) (range_with_len 0 (section_total files)))

    -- the output sections from this number on, whose members stand in one of two lists
    unfoldable pub output_blocks : (number : ℕ) → List OutputSection → (bits nobits_members : List Member) → List ℕ
    output_blocks number [] bits nobits_members = []
    output_blocks number (o ∷ os) bits nobits_members = if is_nobits o.class
        then output_block number o (take o.count nobits_members) ++ output_blocks (number + 1) os bits (drop o.count nobits_members)
        else output_block number o (take o.count bits) ++ output_blocks (number + 1) os (drop o.count bits) nobits_members

    -- where the executable starts
    unfoldable pub entry_line : List ℕ
    entry_line = codes "entry " ++ hex (entry_address files b leaders laid) ++ codes "\n"

    -- the whole text: where the executable starts; the output sections; what was not kept; what was discarded; the symbols
    unfoldable pub map_text : (kept : List Bool) → List ℕ
    map_text kept = codes "rvld map 1\n" ++ (entry_line
        ++ (output_blocks 1 laid.outputs laid.members laid.nobits_members
        ++ (flat_map (dropped_line kept) (range_with_len 0 (section_total files))
        ++ (flat_map discarded_line (range_with_len 0 (section_total files))
        ++ flat_map symbol_line (table_symbols files b kept leaders laid)))))
