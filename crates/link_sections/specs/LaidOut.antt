-- A layout as plain lists.
use Rattle.std.specs.Prelude.{ℕ, ◌+◌, Option, List, [], map, slice_index, slice_index_or}
use Rattle.lk_tables.specs.declared.classes.Class.{Class}
use Rattle.link_sections.specs.declared.layouts.Bounds.{Bounds}
use Rattle.link_sections.specs.declared.layouts.Layout.{Layout}
use Rattle.link_sections.specs.declared.layouts.OutputSection.{OutputSection as HeldSection}
use Rattle.link_sections.specs.declared.layouts.OutputPlace.{OutputPlace as HeldPlace}
use Rattle.link_sections.specs.declared.got.GotEntry.{GotEntry}
use Rattle.link_sections.specs.declared.members.Member.{Member}
use Rattle.link_sections.specs.Cuts.{Cut, new_offset}
use Rattle.link_sections.specs.Leaders.{leader_of}
use Rattle.link_sections.specs.PoolViews.{PoolsView}
use Rattle.link_sections.specs.SizesView.{sizes_of}

-- an output section that is not empty
pub record OutputSection : Type 0 where
  pub name : List ℕ
  pub class : Class
  pub sh_type : ℕ
  pub flags : ℕ
  pub address : ℕ
  pub size : ℕ
  pub align : ℕ
  pub count : ℕ

abbrev pub output_view : HeldSection → OutputSection
output_view o = record {
  name = o.name.now;
  class = o.class;
  sh_type = o.sh_type;
  flags = o.flags;
  address = o.address;
  size = o.size;
  align = o.align;
  count = o.count;
}

-- an output section, empty or not, from its first address to its end
pub record OutputPlace : Type 0 where
  pub name : List ℕ
  pub class : Class
  pub start : ℕ
  pub end : ℕ

abbrev pub place_view : HeldPlace → OutputPlace
place_view p = record { name = p.name.now; class = p.class; start = p.start; end = p.end }

-- where everything stands: the output sections that are not empty; their members with bytes in the file, and those without; where all output
-- sections are, the empty ones too; by number the first address of each section that is its own leader; those of pools and of the linker's
-- table; by number where sections lose bytes. And what stands in the pools, and in the linker's table
pub record LaidOut : Type 0 where
  pub outputs : List OutputSection
  pub members : List Member
  pub nobits_members : List Member
  pub places : List OutputPlace
  pub starts : List ℕ
  pub pools : List ℕ
  pub got : ℕ
  pub cuts : List (List Cut)
  pub bounds : Bounds
  pub merging : PoolsView
  pub table : List GotEntry

-- a layout by itself does not know what stands in the pools and in the table
abbrev pub no_pools : PoolsView
no_pools = record { pools = []; merged = [] }

unfoldable pub with_contents : LaidOut → PoolsView → List GotEntry → LaidOut
with_contents l pools table = record {
  outputs = l.outputs;
  members = l.members;
  nobits_members = l.nobits_members;
  places = l.places;
  starts = l.starts;
  pools = l.pools;
  got = l.got;
  cuts = l.cuts;
  bounds = l.bounds;
  merging = pools;
  table = table;
}

unfoldable pub layout_view : Layout → LaidOut
layout_view l = record {
  outputs = map output_view l.outputs.items;
  members = l.members.items;
  nobits_members = l.nobits_members.items;
  places = map place_view l.places.items;
  starts = l.starts.items;
  pools = l.pools.items;
  got = l.got;
  cuts = sizes_of l.sizes;
  bounds = l.bounds;
  merging = no_pools;
  table = [];
}

-- by section number
abbrev pub start_at : LaidOut → (section : ℕ) → ℕ
start_at laid section = slice_index laid.starts section

abbrev pub cuts_at : LaidOut → (section : ℕ) → List Cut
cuts_at laid section = slice_index_or laid.cuts section []

-- the address of an offset of a section: it stands where its leader does
unfoldable pub address_in : (leaders : List (Option ℕ)) → LaidOut → (section offset : ℕ) → ℕ
address_in leaders laid section offset =
    start_at laid (leader_of leaders section) + new_offset (cuts_at laid (leader_of leaders section)) offset
