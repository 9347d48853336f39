-- What each step of a link hands on.
use Rattle.std.specs.Prelude.{◌≡◌, ℕ, true, Bool, if◌then◌else◌, List, [], Option, Some, Result, Ok, Err}
use Rattle.lk_base.specs.declared.defects.Defect.{Defect}
use Rattle.lk_base.specs.declared.defects.LinkStop.{LinkStop}
use Rattle.lk_base.specs.declared.defects.LinkStop.TheVariants as stops
use Rattle.lk_base.specs.declared.limits.Limits.{Limits}
use Rattle.lk_tables.specs.Binding.{Bindings}
use Rattle.lk_tables.specs.Files.{File}
use Rattle.lk_tables.specs.FramePlans.{PlanView}
use Rattle.link_driver.specs.Code.{CodeStands, HaveOwnCuts}
use Rattle.link_driver.specs.Reach.{CallsReach}
use Rattle.elf_out.specs.Executable.{executable, own_tables}
use Rattle.elf_out.specs.Standing.{AllStand, SectionsStand}
use Rattle.file_live.specs.Live.{IsLive}
use Rattle.file_live.specs.Order.{StandsAnywhere}
use Rattle.link_sections.specs.GotUses.{HasAllUses}
use Rattle.link_command.specs.Command.{CommandView}
use Rattle.link_sections.specs.LaidOut.{LaidOut}
use Rattle.map_file.specs.MapText.{map_text}
use Rattle.reloc_apply.specs.Relocated.{relocation_defects}
use Rattle.sym_resolve.specs.Law.{IsLawful}
use Rattle.comdat.specs.Discarded.{discarded}
use Rattle.link_driver.specs.Laws.{AreCounted, AreLeast, StopsAtLeast}
use Rattle.link_passes.specs.Defects.{reading_defects}
use Rattle.link_passes.specs.Passes.{LinkOptions, leaders_in, plan_in}
use Rattle.link_driver.specs.Link.{bound_in, defects_in, executable_in, executable_with, kept_in, laid_out, link, linked_files, map_in, map_with, placing_defects, report_by, report_with, say_in, link_options_in}
use Rattle.link_driver.specs.Linked.{LinkedView}
use Rattle.link_passes.specs.Sources.{Source, heads_in, live_in}
use Rattle.link_driver.specs.Symbols.{SymbolsStand}
use Rattle.link_passes.specs.Tables.{IsCollected}
use Rattle.link_driver.specs.Unwound.{Unwinds}
use Rattle.link_driver.specs.Values.{contents_with}

-- what files give that have no defect and are laid out so, with these unwind records: `names` are those by which they are shown
pub record IsWritten (w : LinkOptions) (names : List (List ℕ)) (files : List File) (b : Bindings) (kept : List Bool) (leaders : List (Option ℕ)) (laid : LaidOut) (plan : PlanView) (linked : LinkedView) : Type 0 where
  pub executable : linked.exe ≡ executable files b kept w.strip leaders laid (contents_with files b leaders laid plan)
  pub map : linked.map ≡ (if w.map then map_text names files b leaders laid kept else [])
  pub report : linked.report ≡ report_by w.generated files kept leaders laid

-- what these files give, if they have no defect
pub record Makes (w : LinkOptions) (names : List (List ℕ)) (files : List File) (b : Bindings) (kept : List Bool) (linked : LinkedView) : Type 0 where
  pub executable : linked.exe ≡ executable_with w files b kept
  pub map : linked.map ≡ map_with w files b kept names
  pub report : linked.report ≡ report_with w files b kept

-- what a link without a defect gives
pub record Gives (asked : CommandView) (names : List (List ℕ)) (ss : List Source) (linked : LinkedView) : Type 0 where
  pub executable : linked.exe ≡ executable_in asked ss
  pub map : linked.map ≡ map_in asked ss names
  pub report : linked.report ≡ say_in asked ss names

-- each shortened call of a link reaches its target: no relocation of one is odd or out of range
abbrev pub ShortenedCallsReach : LinkOptions → List File → Bindings → (kept : List Bool) → Type 0
ShortenedCallsReach w files b kept = CallsReach files b (leaders_in w files b kept) (laid_out w files b kept)

-- what holds once there are none of these defects, whether the link stops later or not; nothing is said where memory ran out
abbrev pub HoldsAtStop : LinkStop → (earlier : List Defect) → Type 0 → Type 0
HoldsAtStop (stops.Defect defect) earlier holds = earlier ≡ [] → holds
HoldsAtStop stops.Memory earlier holds = Unit {0}

abbrev pub HoldsPast : {X : Type 0} → Result X LinkStop → (earlier : List Defect) → Type 0 → Type 0
HoldsPast (Ok value) earlier holds = holds
HoldsPast (Err stop) earlier holds = HoldsAtStop stop earlier holds

-- all pieces of which an executable is made stand whole in it: headers, unwind records and the table of their functions, sections with their
-- relocations done, pieces of pools, the linker's table, the symbol table with its names, the names of the sections, the section headers; and so do the
-- bytes of each section, by its number; of the unwind records each FDE of a section whose own bytes are written is there, once and no other; and each
-- relocation of a section that is written can be done, so that no block of the executable is refused. At the places of relocations code does what they
-- ask for: the processor goes to S + A from a branch, a jump and a call, shortened or not, two parts of one value add up to it, and alignments keep nops;
-- and what is computed from the linker's table has its entry there. A section loses bytes at its own calls and alignments alone, and what stands after an
-- alignment is aligned. Each symbol in a section that is not merged lies in the section of its st_shndx, which it has if its own section has bytes
pub record StandsWhole (w : LinkOptions) (files : List File) (b : Bindings) (kept : List Bool) (leaders : List (Option ℕ)) (laid : LaidOut) (plan : PlanView) (exe : List ℕ) : Type 0 where
  pub pieces : AllStand files b leaders laid (contents_with files b leaders laid plan) (own_tables files b kept w.strip leaders laid) exe
  pub sections : SectionsStand files b leaders laid exe
  pub records : Unwinds files b leaders laid plan (contents_with files b leaders laid plan)
  pub done : relocation_defects files b leaders laid ≡ []
  pub code : CodeStands files b leaders laid
  pub cuts : HaveOwnCuts files leaders laid
  pub uses : HasAllUses files leaders laid.table
  pub symbols : SymbolsStand files b kept leaders laid

abbrev pub LinkStands : LinkOptions → List File → Bindings → (kept : List Bool) → (exe : List ℕ) → Type 0
LinkStands w files b kept exe = StandsWhole w files b kept (leaders_in w files b kept) (laid_out w files b kept) (plan_in w files b kept) exe

-- a link without a defect gives Link. Of Link's own words it is said, as laws: the files that take part are the least set with
-- the command's objects, the members that it asks for and all that these pull, and an archive may stand anywhere among the objects; each name is bound to
-- the least offer of it, if there is one, and bound COMMON symbols get the greatest room asked for; what garbage collection keeps is the least set with the
-- roots that the rules close; each piece of the executable, and each section, stands whole in it, with the unwind records that belong to it, and its code
-- does at the places of relocations what they ask for; and each shortened call reaches its target
pub record Links (limits : Limits) (asked : CommandView) (names : List (List ℕ)) (ss : List Source) (linked : LinkedView) : Type 0 where
  pub sound : defects_in limits asked ss ≡ []
  pub taking_part : IsLive asked.undefined (heads_in ss) (live_in asked.undefined ss)
  pub anywhere : StandsAnywhere asked.undefined (heads_in ss)
  pub bound : IsLawful (linked_files asked ss) (discarded (linked_files asked ss)) asked.entry (bound_in asked ss)
  pub collected : asked.gc ≡ true → IsCollected asked.undefined (linked_files asked ss) (bound_in asked ss) (kept_in asked ss)
  pub stands : LinkStands (link_options_in asked ss) (linked_files asked ss) (bound_in asked ss) (kept_in asked ss) linked.exe
  pub reach : ShortenedCallsReach (link_options_in asked ss) (linked_files asked ss) (bound_in asked ss) (kept_in asked ss)
  pub gives : Gives asked names ss linked

-- a link stops at the first of its defects, and none of them comes before it; or memory ran out. Where no defect is of the phase that reads the files,
-- there are no more files and symbols than a link may have; and of so many the files that take part are the least set, wherever an archive stands among the
-- objects, and each name is bound to its least offer, whatever the link stops at. If none is of a phase up to the layout, each shortened call reaches its
-- target: a relocation whose value does not fit is none of these calls
pub record Stops (limits : Limits) (asked : CommandView) (ss : List Source) (stop : LinkStop) : Type 0 where
  pub ends : StopsAtLeast stop (defects_in limits asked ss)
  pub counted : reading_defects limits ss ≡ [] → AreCounted ss
  pub least : AreCounted ss → AreLeast asked ss
  pub reach : HoldsAtStop stop (placing_defects limits asked ss)
      (ShortenedCallsReach (link_options_in asked ss) (linked_files asked ss) (bound_in asked ss) (kept_in asked ss))

-- Link if there is no defect, the first defect if there is one, before which none stands, or out of memory
abbrev pub AfterLink : Limits → CommandView → (names : List (List ℕ)) → List Source → Result LinkedView LinkStop → Type 0
AfterLink limits asked names ss (Ok linked) = Links limits asked names ss linked
AfterLink limits asked names ss (Err stop) = Stops limits asked ss stop

-- what a link without a defect gives is what Link is
pub record IsLinked (asked : CommandView) (given : List (List ℕ)) (linked : LinkedView) : Type 0 where
  pub status : (link (Some asked) given).status ≡ 0
  pub executable : linked.exe ≡ (link (Some asked) given).executable
  pub map : linked.map ≡ (link (Some asked) given).map
  pub report : linked.report ≡ (link (Some asked) given).say
