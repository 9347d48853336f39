-- What `.eh_frame_hdr` holds: a table of the functions that have FDEs, in order of address, for a search by bisection (LSB Core, "Exception
-- Frames", the .eh_frame_hdr section; DWARF, "Exception Header Encoding").
use Rattle.std.specs.Prelude.{ℕ, ◌+◌, ◌%◌, ◌^◌, ℤ, pos, unsigned_abs, ◌+ℤ◌, ◌-ℤ◌, Option, Some, None, List, [], ◌∷◌, ◌++◌, length, flat_map}
use Rattle.byteorder.specs.Endian.{little_bytes}
use Rattle.lk_base.specs.Arithmetic.{bits_of}
use Rattle.lk_base.specs.Order.{stable_order}
use Rattle.lk_tables.specs.declared.objects.Reloc.{Reloc}
use Rattle.lk_tables.specs.Binding.{Bindings}
use Rattle.lk_tables.specs.Files.{File}
use Rattle.lk_tables.specs.FramePlans.{PlanView}
use Rattle.lk_tables.specs.Frames.{RecordList}
use Rattle.lk_tables.specs.Records.{first_of}
use Rattle.lk_tables.specs.Sites.{place_of}
use Rattle.link_sections.specs.LaidOut.{LaidOut}
use Rattle.eh_frame.specs.declared.format.TheConstants.{DW_EH_PE_DATAREL_SDATA4, DW_EH_PE_PCREL_SDATA4, DW_EH_PE_UDATA4, HEADER_VERSION}
use Rattle.eh_frame.specs.declared.header.Row.{Row}
use Rattle.eh_frame.specs.declared.placing.Placed.{Placed}
use Rattle.eh_frame.specs.Bytes.{placed_fdes, sum_in}
use Rattle.eh_frame.specs.Plan.{record_by}

-- the low 4 bytes of a number, as a number and as bytes
unfoldable pub low_word : ℤ → ℕ
low_word v = bits_of v % 2 ^ 32

abbrev pub word : ℤ → List ℕ
word v = little_bytes 4 (low_word v)

-- the version; how the address of `.eh_frame`, the number of functions, and the numbers of the table are written
abbrev pub encodings : List ℕ
encodings = HEADER_VERSION ∷ DW_EH_PE_PCREL_SDATA4 ∷ DW_EH_PE_UDATA4 ∷ DW_EH_PE_DATAREL_SDATA4 ∷ []

-- a line of the table as the code holds it
abbrev pub row_key : Row → ℕ
row_key r = r.key

abbrev pub row_bytes : Row → List ℕ
row_bytes r = little_bytes 4 r.function ++ little_bytes 4 r.fde

module _ (files : List File) (b : Bindings) (leaders : List (Option ℕ)) (laid : LaidOut) (lists : List RecordList) where
  abbrev pub begin_of : (f : ℕ) → Option Reloc → ℤ
  begin_of f None = pos 0
  begin_of f (Some r) = sum_in files b leaders laid f r

  -- where the function of an FDE starts: S + A of its PC Begin
  unfoldable pub function_of : Placed → ℤ
  function_of p = begin_of (place_of files p.number.section).file (first_of (record_by lists p.number).relocs)

  -- no address is as low as -2^64
  abbrev pub key_of : Placed → ℕ
  key_of p = unsigned_abs (function_of p +ℤ pos (2 ^ 64))

  -- of one FDE: its function and itself, from the header's start
  abbrev pub entry_of : (header start : ℕ) → Placed → List ℕ
  entry_of header start p = word (function_of p -ℤ pos header) ++ word (pos (start + p.at) -ℤ pos header)

  abbrev pub row_of : (header start : ℕ) → Placed → Row
  row_of header start p =
      record { key = key_of p; function = low_word (function_of p -ℤ pos header); fde = low_word (pos (start + p.at) -ℤ pos header) }

  abbrev pub table_of : (header start : ℕ) → List Placed → List ℕ
  table_of header start [] = []
  table_of header start (p ∷ ps) =
      encodings ++ (word (pos start -ℤ pos (header + 4)) ++ (word (pos (length (p ∷ ps))) ++ flat_map (entry_of header start) (stable_order key_of (p ∷ ps))))

  -- what stands at `header`, if `.eh_frame` stands at `start`; nothing without an FDE
  unfoldable pub header_bytes : PlanView → (header start : ℕ) → List ℕ
  header_bytes plan header start = table_of header start (placed_fdes lists plan)
