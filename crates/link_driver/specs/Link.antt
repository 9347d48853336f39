-- What a link is: the command, the defects, and the one-thread definition of all that a user gets.
use Rattle.std.specs.Prelude.{ℕ, map, Bool, Option, Some, None, Result, Ok, Err, if◌then◌else◌, List, [], ◌∷◌, ◌++◌, slice_get, codes}
use Rattle.std.specs.Option.{option_map_or}
use Rattle.lk_base.specs.declared.defects.Defect.{Defect}
use Rattle.lk_base.specs.declared.defects.Flaw.{Flaw}
use Rattle.lk_base.specs.declared.limits.Limits.{Limits}
use Rattle.lk_base.specs.Kinds.{names_entry, names_symbol}
use Rattle.lk_base.specs.Limits.{standard}
use Rattle.lk_base.specs.Lines.{defect_line, escaped}
use Rattle.comdat.specs.Discarded.{discarded}
use Rattle.layout.specs.Layout.{layout_defects, layout_of}
pub use Rattle.layout.specs.Layout.{sizes_in}
use Rattle.link_sections.specs.LaidOut.{LaidOut, with_contents}
use Rattle.link_sections.specs.Cuts.{Cut}
use Rattle.link_sections.specs.GotEntries.{word_count}
use Rattle.link_sections.specs.Merging.{pools_of}
use Rattle.link_sections.specs.PoolViews.{pool_heads}
use Rattle.lk_tables.specs.declared.heads.Place.{Place}
use Rattle.lk_tables.specs.declared.heads.Place.TheVariants.{Undef, Absolute, Common, Within}
use Rattle.lk_tables.specs.declared.heads.Symbol.{Symbol}
use Rattle.lk_tables.specs.Binding.{Bindings, flag_defects, duplicate_defects, first_phase}
use Rattle.lk_tables.specs.BoundNames.{entry_defects}
use Rattle.lk_tables.specs.Files.{File, is_section_symbol}
use Rattle.lk_tables.specs.Heads.{HeadView, head_of}
use Rattle.lk_tables.specs.Names.{text_of}
use Rattle.elf_out.specs.Executable.{executable}
use Rattle.link_command.specs.Command.{CommandView}
use Rattle.link_driver.specs.Certificates.{why_text}
use Rattle.link_passes.specs.Defects.{opening_defects, reading_defects}
use Rattle.link_passes.specs.Given.{contents_for, names_for}
use Rattle.link_driver.specs.Reports.{report_text}
use Rattle.link_passes.specs.Sources.{Source, files_in, shown_file, shown_files, source_at, sources}
use Rattle.link_driver.specs.Values.{contents_with, value_defects}
use Rattle.map_file.specs.MapText.{map_text}
use Rattle.output_sections.specs.declared.rows.Row.{Row}
use Rattle.output_sections.specs.Items.{items as parts}
use Rattle.output_sections.specs.Order.{members_in, orders_of}
use Rattle.relax.specs.CallSizes.{cuts_of}
use Rattle.sec_graph.specs.Undefined.{undefined_defects}
use Rattle.link_passes.specs.Passes.{LinkOptions, bound_names, kept_for, leaders_in, merged_of, piece_defects, plan_in, table_of, link_options_for}

module _ (w : LinkOptions) (files : List File) (b : Bindings) (kept : List Bool) where
  -- the members of the output sections in order
  abbrev pub members_of : List Row
  members_of = members_in (orders_of (parts files b (pool_heads (pools_of files kept)) (word_count (table_of w files b kept)) (leaders_in w files b kept)))

  -- by section number, where each loses bytes before anything has a place
  unfoldable pub cuts_in : List (List Cut)
  cuts_in = cuts_of files b (merged_of w files b kept) (leaders_in w files b kept) members_of w.relax

  -- where everything stands
  unfoldable pub laid_out : LaidOut
  laid_out =
      with_contents (layout_of files b (pool_heads (pools_of files kept)) (word_count (table_of w files b kept)) (leaders_in w files b kept) cuts_in (sizes_in (plan_in w files b kept))) (pools_of files kept) (table_of w files b kept)

-- the phases once names are bound: what is referred to is defined, the layout has room, and the values of relocations fit
module _ (limits : Limits) (w : LinkOptions) (files : List File) (b : Bindings) (kept : List Bool) where
  -- those before values are computed
  abbrev pub placing_phases : List (List Defect)
  placing_phases = undefined_defects files b kept ∷ layout_defects limits files (laid_out w files b kept) ∷ []

  abbrev pub last_phases : List (List Defect)
  last_phases = placing_phases ++ value_defects files b (leaders_in w files b kept) (laid_out w files b kept) (plan_in w files b kept) ∷ []

-- names are bound: float ABIs agree, no name is defined twice, and the entry is defined
abbrev pub name_phases : CommandView → List File → List (List Defect)
name_phases asked files =
    flag_defects files
    ∷ duplicate_defects files (discarded files)
    ∷ entry_defects files (discarded files) asked.entry
    ∷ []

-- pieces are few enough, and names are bound
abbrev pub binding_phases : Limits → CommandView → List File → List (List Defect)
binding_phases limits asked files = piece_defects limits files ∷ name_phases asked files

-- the phases after the files are read
abbrev pub later_phases : Limits → CommandView → List File → List (List Defect)
later_phases limits asked files =
    binding_phases limits asked files
    ++ last_phases limits (link_options_for asked files (bound_names files asked.entry) (kept_for asked files (bound_names files asked.entry)))
    files (bound_names files asked.entry) (kept_for asked files (bound_names files asked.entry))

-- the phases of a link, each with its defects in order: heads are read, then bodies, and these follow
abbrev pub phases_with : Limits → CommandView → List Source → (later : List (List Defect)) → List (List Defect)
phases_with limits asked ss later = reading_defects limits ss ∷ opening_defects limits asked.undefined ss ∷ later

-- the defects are those of the first phase that has any
unfoldable pub defects_in : Limits → CommandView → List Source → List Defect
defects_in limits asked ss = first_phase (phases_with limits asked ss (later_phases limits asked (files_in asked.undefined ss)))

-- the defects of the phases up to the layout alone: if there is none, only the values of relocations are left to fail
unfoldable pub placing_defects : Limits → CommandView → List Source → List Defect
placing_defects limits asked ss =
    let files = files_in asked.undefined ss in
    let b = bound_names files asked.entry in
    first_phase (phases_with limits asked ss
    (binding_phases limits asked files ++ placing_phases limits (link_options_for asked files b (kept_for asked files b)) files b (kept_for asked files b)))

abbrev pub defects_of : Limits → CommandView → List (List ℕ) → List Defect
defects_of limits asked inputs = defects_in limits asked (sources limits inputs)

-- the report of a link, where there is one
abbrev pub report_by : Option ℕ → List File → (kept : List Bool) → (leaders : List (Option ℕ)) → LaidOut → List ℕ
report_by None files kept leaders laid = []
report_by (Some objects) files kept leaders laid = report_text files kept leaders laid objects

-- the executable of files that have no defect; the map, if one is asked, where these are the names by which files are shown; the report
module _ (w : LinkOptions) (files : List File) (b : Bindings) (kept : List Bool) where
  unfoldable pub executable_with : List ℕ
  executable_with = executable files b kept w.strip (leaders_in w files b kept) (laid_out w files b kept)
      (contents_with files b (leaders_in w files b kept) (laid_out w files b kept) (plan_in w files b kept))

  unfoldable pub map_with : (names : List (List ℕ)) → List ℕ
  map_with names = if w.map then map_text names files b (leaders_in w files b kept) (laid_out w files b kept) kept else []

  unfoldable pub report_with : List ℕ
  report_with = report_by w.generated files kept (leaders_in w files b kept) (laid_out w files b kept)

module _ (asked : CommandView) (ss : List Source) where
  -- the files of these sources, what their names are bound to, and what is kept of them
  abbrev pub linked_files : List File
  linked_files = files_in asked.undefined ss

  abbrev pub bound_in : Bindings
  bound_in = bound_names linked_files asked.entry

  abbrev pub kept_in : List Bool
  kept_in = kept_for asked linked_files bound_in

  -- and what is asked of the link
  abbrev pub link_options_in : LinkOptions
  link_options_in = link_options_for asked linked_files bound_in kept_in

  unfoldable pub executable_in : List ℕ
  executable_in = executable_with link_options_in linked_files bound_in kept_in

  unfoldable pub map_in : (names : List (List ℕ)) → List ℕ
  map_in names = map_with link_options_in linked_files bound_in kept_in names

  unfoldable pub report_in : List ℕ
  report_in = report_with link_options_in linked_files bound_in kept_in

  -- what is said of the link: the report, and what is asked why, where these are the names by which files are shown
  unfoldable pub say_in : (names : List (List ℕ)) → List ℕ
  say_in names = report_in ++ why_text asked names linked_files bound_in kept_in link_options_in.barred

-- the name of section k by its header, empty if there is no such section
abbrev pub section_name : List ℕ → HeadView → (k : ℕ) → List ℕ
section_name b head k = option_map_or (λ s. text_of b s.name) (slice_get head.sections k) []

-- the name of the section in which a symbol stands, empty if it stands in none
abbrev pub section_name_by : List ℕ → HeadView → Place → List ℕ
section_name_by b head (Within k) = section_name b head k
section_name_by b head Undef = []
section_name_by b head Absolute = []
section_name_by b head Common = []

-- the name of a symbol as a line shows it: a SECTION symbol has that of its section
abbrev pub shown_name : List ℕ → HeadView → Symbol → List ℕ
shown_name b head s = if is_section_symbol s then section_name_by b head s.place else text_of b s.name

-- the name of symbol i, empty if there is no such symbol
abbrev pub shown_symbol : List ℕ → HeadView → (i : ℕ) → List ℕ
shown_symbol b head i = option_map_or (shown_name b head) (slice_get head.symbols i) []

-- the name of symbol i of a file, as its head says it
abbrev pub shown_by : List ℕ → ℕ → Result HeadView Flaw → List ℕ
shown_by b i (Ok head) = shown_symbol b head i
shown_by b i (Err flaw) = []

unfoldable pub shown_in : List ℕ → ℕ → List ℕ
shown_in b i = shown_by b i (head_of b)

-- the name in the line of a defect: the symbol of a defect that has one, the entry if that is what is missing
abbrev pub defect_name : CommandView → List Source → Defect → List ℕ
defect_name asked ss defect = if names_symbol defect.kind then shown_in (source_at ss defect.file).bytes defect.symbol
    else (if names_entry defect.kind then asked.entry else [])

-- the line of a defect: its file's name, the name that it speaks of, and for a name defined twice the other file's
abbrev pub line_in : CommandView → List (List ℕ) → List Source → Defect → List ℕ
line_in asked inputs ss defect = defect_line defect (shown_file (names_for asked) inputs ss defect.file)
    (defect_name asked ss defect) (shown_file (names_for asked) inputs ss defect.other)

unfoldable pub line_of_defect : CommandView → List (List ℕ) → Defect → List ℕ
line_of_defect asked inputs defect = line_in asked inputs (sources standard inputs) defect

-- what a user gets: the status, the bytes of the executable and of the map, and what goes to the standard output and to the standard error
pub record Link : Type 0 where
  pub status : ℕ
  pub executable : List ℕ
  pub map : List ℕ
  pub say : List ℕ
  pub err : List ℕ

-- a line and nothing else
abbrev pub failed : ℕ → List ℕ → Link
failed status line = record { status = status; executable = []; map = []; say = []; err = line }

abbrev pub line : List ℕ → List ℕ
line text = text ++ 10 ∷ []

unfoldable pub bad_command : List ℕ
bad_command = line (codes "rvld: bad command")

-- a text and a name as a line
abbrev pub about : List ℕ → List ℕ → List ℕ
about text name = line (text ++ escaped name)

unfoldable pub cannot_read : List ℕ → List ℕ
cannot_read name = about (codes "rvld: cannot read ") name

unfoldable pub cannot_write : List ℕ → List ℕ
cannot_write name = about (codes "rvld: cannot write ") name

unfoldable pub cannot_report : List ℕ
cannot_report = line (codes "rvld: cannot report")

-- what a link of inputs with these bytes gives
abbrev pub link_with : CommandView → List (List ℕ) → List Defect → Link
link_with asked inputs (defect ∷ defects) = failed 1 (line_of_defect asked inputs defect)
link_with asked inputs [] =
    let ss = sources standard inputs in
    record {
      status = 0;
      executable = executable_in asked ss;
      map = map_in asked ss (shown_files (names_for asked) inputs ss);
      say = say_in asked ss (shown_files (names_for asked) inputs ss);
      err = [];
    }

abbrev pub link_over : CommandView → List (List ℕ) → Link
link_over asked inputs = link_with asked inputs (defects_of standard asked inputs)

-- the definition of all that a command gives, where each file that it names is there and has these bytes; no command is asked where it was
-- refused
unfoldable pub link : Option CommandView → List (List ℕ) → Link
link None given = failed 2 bad_command
link (Some asked) given = link_over asked (contents_for asked given)
