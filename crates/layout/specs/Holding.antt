-- Which output section has the bytes of a section: the first of its name in its class (System V gABI, "Sections": sh_addr, sh_size).
use Rattle.std.specs.Prelude.{◌≡◌, ℕ, ◌+◌, ◌*◌, ◌<◌, ◌≤◌, ◌&&◌, Bool, true, Option, Some, find, List, length, slice_index, slice_index_or}
use Rattle.lk_tables.specs.Binding.{Bindings}
use Rattle.lk_tables.specs.Files.{File, section_total}
use Rattle.link_sections.specs.declared.pools.Pool.{Pool}
use Rattle.link_sections.specs.Cuts.{new_offset}
use Rattle.link_sections.specs.InputSections.{input_at}
use Rattle.link_sections.specs.LaidOut.{LaidOut, OutputSection, cuts_at, start_at}
use Rattle.link_sections.specs.Leaders.{leads}
use Rattle.output_sections.specs.Items.{Item, got_item, pool_item, section_item}
use Rattle.output_sections.specs.Order.{item_goes_to}

abbrev pub takes : Item → OutputSection → Bool
takes item o = item_goes_to o.class o.name item

-- so many bytes from an address on lie in an output section
pub record Holds (start size : ℕ) (o : OutputSection) : Type 0 where
  pub from : o.address ≤ start
  pub to : start + size ≤ o.address + o.size

-- an item with bytes has such an output section. The first to which an item goes holds it, even if it has no bytes; the linker's own
-- `.eh_frame_hdr` and `.eh_frame` have no members, and hold nothing
pub record IsHeld (outputs : List OutputSection) (item : Item) (start size : ℕ) : Type 0 where
  pub there : 0 < item.size → (o : OutputSection) × ((find (takes item) outputs ≡ Some o) × (0 < o.count))
  pub within : (o : OutputSection) → find (takes item) outputs ≡ Some o → 0 < o.count → Holds start size o

-- the sections that are their own leaders, with the bytes of them that stay; the pools; and the linker's table
pub record AreHeld (files : List File) (b : Bindings) (pools : List Pool) (got_words : ℕ) (leaders : List (Option ℕ)) (laid : LaidOut) : Type 0 where
  pub sections : (n : ℕ) → n < section_total files → leads leaders n ≡ true
      → IsHeld laid.outputs (section_item n (input_at files b n)) (start_at laid n) (new_offset (cuts_at laid n) (input_at files b n).size)
  pub merged : (p : ℕ) (d : Pool) → p < length pools
      → IsHeld laid.outputs (pool_item p (slice_index_or pools p d).size (input_at files b (slice_index_or pools p d).first)) (slice_index laid.pools p) (slice_index_or pools p d).size
  pub table : IsHeld laid.outputs (got_item got_words) laid.got (8 * got_words)
