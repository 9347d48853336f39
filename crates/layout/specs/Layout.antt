-- The layout of a link, one function of its items: the classes one after the other, each from the cursor after the one before, and the
-- limits (System V gABI, "Sections" and "Program Header").
use Rattle.std.specs.Prelude.{◌≡◌, ℕ, ◌+◌, ◌-◌, ◌*◌, ◌<◌, ◌≤◌, ◌^◌, ◌⊎◌, nat_lt, nat_le, Bool, true, false, not, ◌&&◌, if◌then◌else◌, max, Option, List, [], ◌∷◌, ◌++◌, codes, length, map, flat_map, replicate, slice_index, slice_index_or, All}
use Rattle.std.specs.List.{range_with_len}
use Rattle.lk_base.specs.declared.abi.TheConstants.{EHDR_SIZE, IMAGE_BASE, PAGE, PHDR_SIZE, SHF_ALLOC, SHT_PROGBITS}
use Rattle.lk_base.specs.declared.defects.Defect.{Defect}
use Rattle.lk_base.specs.declared.kinds.TheConstants.{TOO_BIG}
use Rattle.lk_base.specs.declared.limits.Limits.{Limits}
use Rattle.lk_base.specs.Arithmetic.{up}
use Rattle.lk_base.specs.Defects.{count_defect, linkwide}
use Rattle.lk_tables.specs.declared.classes.Class.{Class}
use Rattle.lk_tables.specs.declared.classes.Class.TheVariants.{R, Rx, TlsBits, TlsNobits, RwBits, RwNobits}
use Rattle.lk_tables.specs.FramePlans.{PlanView, plan_view}
use Rattle.lk_tables.specs.declared.frames.FramePlan.{FramePlan}
use Rattle.lk_tables.specs.Binding.{Bindings, first_phase}
use Rattle.lk_tables.specs.Files.{File, section_total}
use Rattle.lk_tables.specs.Relocations.{value_len}
use Rattle.lk_tables.specs.Sites.{contents_at, place_of, relocs_of}
use Rattle.link_sections.specs.declared.layouts.Bounds.{Bounds}
use Rattle.link_sections.specs.declared.members.Content.TheVariants.{Section, Pool as IsPool}
use Rattle.link_sections.specs.declared.members.Member.{Member}
use Rattle.link_sections.specs.declared.pools.Pool.{Pool}
use Rattle.link_sections.specs.Cuts.{Cut}
use Rattle.link_sections.specs.InputSections.{input_at}
use Rattle.link_sections.specs.Calls.{IsOwnCall}
use Rattle.link_sections.specs.LaidOut.{LaidOut, OutputPlace, OutputSection, no_pools, output_view, place_view}
use Rattle.link_sections.specs.Leaders.{leads}
use Rattle.output_sections.specs.declared.rows.Row.{Row}
use Rattle.layout.specs.declared.frames.FrameBounds.{FrameBounds}
use Rattle.layout.specs.declared.walk.Cursor.{Cursor}
use Rattle.layout.specs.declared.placing.Walked.{Walked}
use Rattle.layout.specs.Cutting.{laid_cuts, short_defects}
use Rattle.output_sections.specs.Items.{Item, items}
use Rattle.output_sections.specs.Order.{Orders, orders_of, rows_in}
use Rattle.layout.specs.Walk.{IsReady, Stands, all_put, cursor_at, end_along, greatest, is_empty, members_along, places_along, runs, sections_along, stands_along, stands_view, weight}

abbrev pub count_of : Bool → ℕ
count_of test = if test then 1 else 0

-- a class that is executed, written or thread-local has a segment if one of its members has a byte; thread-local bits are written
unfoldable pub has_rx : Orders → Bool
has_rx o = not (is_empty (rows_in o Rx))

unfoldable pub has_tls_bits : Orders → Bool
has_tls_bits o = not (is_empty (rows_in o TlsBits))

unfoldable pub has_tls : Orders → Bool
has_tls o = not (is_empty (rows_in o TlsBits) && is_empty (rows_in o TlsNobits))

unfoldable pub has_rw : Orders → Bool
has_rw o = not (is_empty (rows_in o TlsBits) && (is_empty (rows_in o RwBits) && is_empty (rows_in o RwNobits)))

-- how many bytes `.eh_frame_hdr` and `.eh_frame` have: none where no FDE is written (LSB Core, "Exception Frames")
pub record FrameSizes : Type 0 where
  pub header : ℕ
  pub frame : ℕ

abbrev pub sizes_in : PlanView → FrameSizes
sizes_in plan = record { header = plan.header_len; frame = plan.frame_len }

abbrev pub frame_sizes : FramePlan → FrameSizes
frame_sizes plan = sizes_in (plan_view plan)

unfoldable pub has_frames : FrameSizes → Bool
has_frames fs = nat_lt 0 fs.header

-- what a plan has at most, so that all addresses fit
pub record AreSmall (fs : FrameSizes) : Type 0 where
  pub header : fs.header ≤ 2 ^ 59 + 12
  pub frame : fs.frame ≤ 2 ^ 60 + 4

-- the program headers: that of the first segment, those of the three above, that of the unwind records, that of the stack
unfoldable pub headers_of : Orders → FrameSizes → ℕ
headers_of o fs = 2 + count_of (has_rx o) + count_of (has_rw o) + count_of (has_tls o) + count_of (has_frames fs)

-- the image starts with the file header and the program headers (gABI, "ELF Header", "Program Header")
unfoldable pub headers_end_of : Orders → FrameSizes → ℕ
headers_end_of o fs = IMAGE_BASE + (EHDR_SIZE + PHDR_SIZE * headers_of o fs)

-- the two stand after the rows of R, at multiples of 4 and of 8, and the class ends with them; without an FDE they are nothing, at the image's
-- start
abbrev pub frames_at : FrameSizes → (header : ℕ) → FrameBounds
frames_at fs header = record {
  has_frames = true;
  header = header;
  header_end = header + fs.header;
  frames = up (header + fs.header) 8;
  frames_end = up (header + fs.header) 8 + fs.frame;
  r_end = up (header + fs.header) 8 + fs.frame;
}

abbrev pub no_frames : (rows_end : ℕ) → FrameBounds
no_frames rows_end = record {
  has_frames = false;
  header = IMAGE_BASE;
  header_end = IMAGE_BASE;
  frames = IMAGE_BASE;
  frames_end = IMAGE_BASE;
  r_end = rows_end;
}

unfoldable pub frame_bounds : FrameSizes → (rows_end : ℕ) → FrameBounds
frame_bounds fs rows_end = if has_frames fs then frames_at fs (up rows_end 4) else no_frames rows_end

-- they are output sections of their own, without members
abbrev pub frame_section : (name : List ℕ) → (start end align : ℕ) → OutputSection
frame_section name start end align = record {
  name = name;
  class = R;
  sh_type = SHT_PROGBITS;
  flags = SHF_ALLOC;
  address = start;
  size = end - start;
  align = align;
  count = 0;
}

abbrev pub frame_sections : FrameBounds → List OutputSection
frame_sections f = if f.has_frames
    then frame_section (codes ".eh_frame_hdr") f.header f.header_end 4 ∷ frame_section (codes ".eh_frame") f.frames f.frames_end 8 ∷ [] else []

abbrev pub frame_place : (name : List ℕ) → (start end : ℕ) → OutputPlace
frame_place name start end = record { name = name; class = R; start = start; end = end }

abbrev pub frame_places : FrameBounds → List OutputPlace
frame_places f = if f.has_frames
    then frame_place (codes ".eh_frame_hdr") f.header f.header_end ∷ frame_place (codes ".eh_frame") f.frames f.frames_end ∷ [] else []

-- where a layout has them
abbrev pub frames_in : Bounds → FrameBounds
frames_in b = record {
  has_frames = b.has_frames;
  header = b.frame_header;
  header_end = b.frame_header_end;
  frames = b.frames;
  frames_end = b.frames_end;
  r_end = b.r_end;
}

-- the greatest alignment of a thread-local member
unfoldable pub tls_align_of : Orders → ℕ
tls_align_of o = max (greatest (rows_in o TlsBits)) (greatest (rows_in o TlsNobits))

-- the greatest end of the headers or of an output section that is not empty: ends grow along the walk, so it is the end of the last class
-- that is not empty; in the file, of the last with bits
abbrev pub last_end : Orders → (r_end rx_end tls_bits_end bits_end : ℕ) → ℕ
last_end o r_end rx_end tls_bits_end bits_end = if not (is_empty (rows_in o RwBits)) then bits_end
    else if not (is_empty (rows_in o TlsBits)) then tls_bits_end
    else if not (is_empty (rows_in o Rx)) then rx_end else r_end

module _ (sizes : List (List Cut)) (o : Orders) where
  -- the first thread-local output section that is not empty starts at the greatest alignment of all thread-local members
  abbrev pub tls_cursor : (rw_start tls_align : ℕ) → Cursor
  tls_cursor rw_start tls_align = record { at = rw_start; extra = tls_align }

  abbrev pub after_tls_bits : (rw_start tls_align : ℕ) → Cursor
  after_tls_bits rw_start tls_align = end_along sizes (tls_cursor rw_start tls_align) (runs (rows_in o TlsBits))

module _ (sizes : List (List Cut)) (o : Orders) (fs : FrameSizes) where
  -- the chain of the classes: R ends with the unwind records, the cursor is rounded before RX and before the thread-local classes, and goes
  -- back after thread-local nobits
  unfoldable pub rows_end_of : ℕ
  rows_end_of = (end_along sizes (cursor_at (headers_end_of o fs)) (runs (rows_in o R))).at

  unfoldable pub frames_of : FrameBounds
  frames_of = frame_bounds fs rows_end_of

  unfoldable pub r_end_of : ℕ
  r_end_of = frames_of.r_end

  unfoldable pub rx_start_of : ℕ
  rx_start_of = up r_end_of PAGE

  unfoldable pub rx_end_of : ℕ
  rx_end_of = (end_along sizes (cursor_at rx_start_of) (runs (rows_in o Rx))).at

  unfoldable pub rw_start_of : ℕ
  rw_start_of = up rx_end_of PAGE

  unfoldable pub tls_bits_end_of : ℕ
  tls_bits_end_of = (after_tls_bits sizes o rw_start_of (tls_align_of o)).at

  unfoldable pub tls_end_of : ℕ
  tls_end_of = (end_along sizes (after_tls_bits sizes o rw_start_of (tls_align_of o)) (runs (rows_in o TlsNobits))).at

  unfoldable pub tls_start_of : ℕ
  tls_start_of = if has_tls o then up rw_start_of (tls_align_of o) else 0

  unfoldable pub bits_end_of : ℕ
  bits_end_of = (end_along sizes (cursor_at tls_bits_end_of) (runs (rows_in o RwBits))).at

  unfoldable pub nobits_end_of : ℕ
  nobits_end_of = (end_along sizes (cursor_at bits_end_of) (runs (rows_in o RwNobits))).at

  unfoldable pub file_end_of : ℕ
  file_end_of = last_end o r_end_of rx_end_of tls_bits_end_of bits_end_of

  unfoldable pub image_end_of : ℕ
  image_end_of = if not (is_empty (rows_in o RwNobits)) then nobits_end_of else file_end_of

  unfoldable pub bounds_of : Bounds
  bounds_of = record {
    has_rx = has_rx o;
    has_rw = has_rw o;
    has_tls = has_tls o;
    has_tls_bits = has_tls_bits o;
    has_frames = frames_of.has_frames;
    headers = headers_of o fs;
    headers_end = headers_end_of o fs;
    frame_header = frames_of.header;
    frame_header_end = frames_of.header_end;
    frames = frames_of.frames;
    frames_end = frames_of.frames_end;
    r_end = r_end_of;
    rx_start = rx_start_of;
    rx_end = rx_end_of;
    rw_start = rw_start_of;
    tls_start = tls_start_of;
    tls_bits_end = tls_bits_end_of;
    tls_end = tls_end_of;
    tls_align = tls_align_of o;
    bits_end = bits_end_of;
    nobits_end = nobits_end_of;
    file_end = file_end_of;
    image_end = image_end_of;
  }

-- what the walk has come past: the output sections that are not empty, their members with bytes in the file and those without, where all
-- output sections are, the empty ones too, and where all members stand
pub record Trail : Type 0 where
  pub outputs : List OutputSection
  pub members : List Member
  pub nobits_members : List Member
  pub places : List OutputPlace
  pub stands : Stands

unfoldable pub trail_view : Walked → Trail
trail_view w = record {
  outputs = map output_view w.outputs.items;
  members = w.members.items;
  nobits_members = w.nobits_members.items;
  places = map place_view w.extents.items;
  stands = stands_view w.places;
}

-- the unwind records after the rows of R
unfoldable pub with_frames : FrameBounds → Trail → Trail
with_frames f t = record {
  outputs = t.outputs ++ frame_sections f;
  members = t.members;
  nobits_members = t.nobits_members;
  places = t.places ++ frame_places f;
  stands = t.stands;
}

module _ (sizes : List (List Cut)) (parts : List Item) where
  -- a class with bytes in the file, and one without, after those before it
  unfoldable pub with_bits : Class → Cursor → List Row → Trail → Trail
  with_bits class c rows t = record {
    outputs = t.outputs ++ sections_along sizes parts class c (runs rows);
    members = t.members ++ members_along sizes c (runs rows);
    nobits_members = t.nobits_members;
    places = t.places ++ places_along sizes parts class c (runs rows);
    stands = all_put (stands_along sizes c (runs rows)) t.stands;
  }

  unfoldable pub with_nobits : Class → Cursor → List Row → Trail → Trail
  with_nobits class c rows t = record {
    outputs = t.outputs ++ sections_along sizes parts class c (runs rows);
    members = t.members;
    nobits_members = t.nobits_members ++ members_along sizes c (runs rows);
    places = t.places ++ places_along sizes parts class c (runs rows);
    stands = all_put (stands_along sizes c (runs rows)) t.stands;
  }

  unfoldable pub trail_of : Orders → Bounds → Trail → Trail
  trail_of o b t =
      with_nobits RwNobits (cursor_at b.bits_end) (rows_in o RwNobits)
      (with_bits RwBits (cursor_at b.tls_bits_end) (rows_in o RwBits)
      (with_nobits TlsNobits (after_tls_bits sizes o b.rw_start b.tls_align) (rows_in o TlsNobits)
      (with_bits TlsBits (tls_cursor sizes o b.rw_start b.tls_align) (rows_in o TlsBits)
      (with_bits Rx (cursor_at b.rx_start) (rows_in o Rx)
      (with_frames (frames_in b)
      (with_bits R (cursor_at b.headers_end) (rows_in o R) t))))))

-- before the walk: nothing stands anywhere
abbrev pub no_trail : (sections pools : ℕ) → Trail
no_trail sections pools = record {
  outputs = [];
  members = [];
  nobits_members = [];
  places = [];
  stands = record { starts = replicate sections 0; pools = replicate pools 0; got = 0 };
}

-- the cuts of each section that is its own leader, by section number, once the sections stand at `starts`
unfoldable pub cuts_of : (leaders : List (Option ℕ)) → (sizes : List (List Cut)) → (starts : List ℕ) → (section : ℕ) → List Cut
cuts_of leaders sizes starts section = if leads leaders section then laid_cuts (slice_index starts section) (slice_index_or sizes section []) else []

abbrev pub all_cuts : (leaders : List (Option ℕ)) → (sizes : List (List Cut)) → (starts : List ℕ) → (sections : ℕ) → List (List Cut)
all_cuts leaders sizes starts sections = map (cuts_of leaders sizes starts) (range_with_len 0 sections)

-- the layout of items that stand in this order, after this walk
unfoldable pub laid_by : (leaders : List (Option ℕ)) → (sizes : List (List Cut)) → (sections : ℕ) → Bounds → Trail → LaidOut
laid_by leaders sizes sections b t = record {
  outputs = t.outputs;
  members = t.members;
  nobits_members = t.nobits_members;
  places = t.places;
  starts = t.stands.starts;
  pools = t.stands.pools;
  got = t.stands.got;
  cuts = all_cuts leaders sizes t.stands.starts sections;
  bounds = b;
  merging = no_pools;
  table = [];
}

unfoldable pub laid_of : (leaders : List (Option ℕ)) → (sizes : List (List Cut)) → FrameSizes → (sections pools : ℕ) → List Item → LaidOut
laid_of leaders sizes fs sections pools parts =
    laid_by leaders sizes sections (bounds_of sizes (orders_of parts) fs)
    (trail_of sizes parts (orders_of parts) (bounds_of sizes (orders_of parts) fs) (no_trail sections pools))

module _ (files : List File) (b : Bindings) (pools : List Pool) (got_words : ℕ) (leaders : List (Option ℕ)) where
  -- the layout of a link; `sizes` has by section number where each section loses bytes, and `fs` what the unwind records have
  unfoldable pub layout_of : (sizes : List (List Cut)) → FrameSizes → LaidOut
  layout_of sizes fs = laid_of leaders sizes fs (section_total files) (length pools) (items files b pools got_words leaders)

-- the first limit that is passed, if one is: output sections above their limit, or an image not below its
abbrev pub limit_passed : Limits → (outputs size : ℕ) → List Defect
limit_passed limits outputs size = if nat_lt limits.outputs outputs then count_defect outputs ∷ []
    else if nat_le limits.image size then linkwide TOO_BIG size 0 ∷ []
    else []

unfoldable pub limit_defects : Limits → LaidOut → List Defect
limit_defects limits laid = limit_passed limits (length laid.outputs) (laid.bounds.image_end - IMAGE_BASE)

-- the count of the output sections is not above its limit, and the image's size is below its
pub record IsWithin (limits : Limits) (laid : LaidOut) : Type 0 where
  pub outputs : length laid.outputs ≤ limits.outputs
  pub image : laid.bounds.image_end - IMAGE_BASE < limits.image

-- alignments that need more bytes than they have, in order of section and offset
abbrev pub cut_defects : List File → List (List Cut) → (sections : ℕ) → List Defect
cut_defects files cuts sections = flat_map (λ n. short_defects (place_of files n) (slice_index_or cuts n [])) (range_with_len 0 sections)

-- why a layout is refused: alignments first, then the limits
unfoldable pub layout_defects : Limits → List File → LaidOut → List Defect
layout_defects limits files laid = first_phase (cut_defects files laid.cuts (section_total files) ∷ limit_defects limits laid ∷ [])

-- an item that is one of so many sections, whose cuts lie in it, or one of so many pools
pub record IsThere (sizes : List (List Cut)) (sections pools : ℕ) (item : Item) : Type 0 where
  pub number : (n : ℕ) → item.content ≡ Section n → n < sections
  pub pool : (p : ℕ) → item.content ≡ IsPool p → p < pools
  pub cuts : (n : ℕ) → item.content ≡ Section n → All (λ c. c.at + c.whole ≤ item.size) (slice_index_or sizes n [])

-- rows of each class as the walk takes them
pub record AreReady (sizes : List (List Cut)) (sections pools : ℕ) (o : Orders) : Type 0 where
  pub r : All (IsReady sizes sections pools) (rows_in o R)
  pub rx : All (IsReady sizes sections pools) (rows_in o Rx)
  pub tls_bits : All (IsReady sizes sections pools) (rows_in o TlsBits)
  pub tls_nobits : All (IsReady sizes sections pools) (rows_in o TlsNobits)
  pub rw_bits : All (IsReady sizes sections pools) (rows_in o RwBits)
  pub rw_nobits : All (IsReady sizes sections pools) (rows_in o RwNobits)

abbrev pub all_weight : Orders → ℕ
all_weight o = weight (rows_in o R) + weight (rows_in o Rx) + weight (rows_in o TlsBits) + weight (rows_in o TlsNobits) + weight (rows_in o RwBits) + weight (rows_in o RwNobits)

-- one list of cuts for each section; each cut has bytes and lies in its section, and meets no place that a relocation writes, but for that
-- of its own call
pub record FitSizes (files : List File) (b : Bindings) (sizes : List (List Cut)) : Type 0 where
  pub count : length sizes ≡ section_total files
  pub some : (n : ℕ) → n < section_total files → All (λ c. 0 < c.whole) (slice_index_or sizes n [])
  pub within : (n : ℕ) → n < section_total files → All (λ c. c.at + c.whole ≤ (input_at files b n).size) (slice_index_or sizes n [])
  pub clear : (n : ℕ) → n < section_total files → All (λ r. 0 < value_len (contents_at files n) r
      → All (λ c. (c.at + c.whole ≤ r.offset) ⊎ ((r.offset + value_len (contents_at files n) r ≤ c.at) ⊎ IsOwnCall c r)) (slice_index_or sizes n [])) (relocs_of files n)
