-- The headers at the start of the file.
use Rattle.std.proofs.Common.{◌≡◌, ℕ, ◌+◌, ◌*◌, Option, List, [], ◌∷◌, ◌++◌, flat_map, length, length-append, refl, ap, ◌∙◌, arith}
use Rattle.lk_base.specs.declared.abi.TheConstants.{EHDR_SIZE, PHDR_SIZE}
use Rattle.lk_tables.specs.Binding.{Bindings}
use Rattle.lk_tables.specs.Files.{File}
use Rattle.link_sections.specs.declared.layouts.Bounds.{Bounds}
use Rattle.link_sections.specs.Addresses.{entry_address}
use Rattle.link_sections.specs.LaidOut.{LaidOut}
use Rattle.elf_fields.specs.declared.headers.ProgramHeader.{ProgramHeader}
use Rattle.elf_fields.specs.Headers.{program_header}
use Rattle.elf_fields.proofs.Lengths.{and_long, file_header_long, program_header_long}
use Rattle.elf_out.specs.Executable.{header_count, headers_with, live_flags, table_offset}
use Rattle.elf_out.specs.Headers.{executable_header, kept_flags, program_headers, segments}
use Rattle.elf_out.specs.Symbols.{SymbolTables}

pub headers_are : (files : List File) (b : Bindings) (leaders : List (Option ℕ)) (laid : LaidOut) (tables : Option SymbolTables) (bounds : Bounds)
    (entry table flags count number : ℕ) (o0 o1 o2 : List ℕ) → bounds ≡ laid.bounds
    → entry ≡ entry_address files b leaders laid → table ≡ table_offset laid tables → flags ≡ kept_flags (live_flags files)
    → count ≡ length (segments bounds) → number ≡ header_count laid tables → o0 ≡ [] → o1 ≡ o0 ++ executable_header entry table flags count number
    → o2 ≡ o1 ++ program_headers bounds → o2 ≡ headers_with files b leaders laid tables
unfolding headers_with
headers_are files b leaders laid tables bounds entry table flags count number o0 o1 o2 eb ee et ef ec en e0 e1 e2 =
    e2 ∙ ap (λ l. l ++ program_headers bounds) (e1 ∙ ap (λ l. l ++ executable_header entry table flags count number) e0)
    ∙ ap (λ n. executable_header n table flags count number ++ program_headers bounds) ee
    ∙ ap (λ n. executable_header (entry_address files b leaders laid) n flags count number ++ program_headers bounds) et
    ∙ ap (λ n. executable_header (entry_address files b leaders laid) (table_offset laid tables) n count number ++ program_headers bounds) ef
    ∙ ap (λ n. executable_header (entry_address files b leaders laid) (table_offset laid tables) (kept_flags (live_flags files)) n number ++ program_headers bounds) ec
    ∙ ap (λ n. executable_header (entry_address files b leaders laid) (table_offset laid tables) (kept_flags (live_flags files)) (length (segments bounds)) n ++ program_headers bounds) en
    ∙ ap (λ w. executable_header (entry_address files b leaders laid) (table_offset laid tables) (kept_flags (live_flags files)) (length (segments w)) (header_count laid tables) ++ program_headers w) eb

-- how many bytes they have
header_long : (entry table flags count number : ℕ) → length (executable_header entry table flags count number) ≡ 64
unfolding executable_header
header_long entry table flags count number = file_header_long _

each_long : (hs : List ProgramHeader) → length (flat_map program_header hs) ≡ 56 * length hs
each_long [] = refl
each_long (h ∷ hs) = omega (arith, length-append (program_header h) (flat_map program_header hs), program_header_long h, each_long hs)

pub headers_long : (files : List File) (b : Bindings) (leaders : List (Option ℕ)) (laid : LaidOut) (tables : Option SymbolTables)
    → length (headers_with files b leaders laid tables) ≡ EHDR_SIZE + PHDR_SIZE * length (segments laid.bounds)
unfolding headers_with program_headers
headers_long files b leaders laid tables =
    and_long _ _ 64 (56 * length (segments laid.bounds)) (header_long _ _ _ _ _) (each_long (segments laid.bounds))
