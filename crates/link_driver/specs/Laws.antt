-- Laws of what a link is made of, whatever it gives.
use Rattle.std.specs.Prelude.{◌≡◌, ℕ, ◌≤◌, ◌&&◌, ◌||◌, ◌==◌, not, nat_lt, Bool, false, List, All, length}
use Rattle.comdat.specs.Discarded.{discarded}
use Rattle.file_live.specs.Live.{IsLive}
use Rattle.file_live.specs.Order.{StandsAnywhere}
use Rattle.link_command.specs.Command.{CommandView}
use Rattle.link_passes.specs.Given.{contents_for}
use Rattle.link_driver.specs.Link.{bound_in, linked_files}
use Rattle.link_passes.specs.Sources.{Source, heads_in, live_in, sources}
use Rattle.lk_base.specs.declared.defects.Defect.{Defect}
use Rattle.lk_base.specs.declared.defects.LinkStop.{LinkStop}
use Rattle.lk_base.specs.declared.defects.LinkStop.TheVariants as stops
use Rattle.lk_base.specs.declared.numbers.TheConstants.{NO_FILE}
use Rattle.lk_base.specs.Firsts.{StopsAt}
use Rattle.lk_base.specs.Limits.{standard}
use Rattle.lk_tables.specs.Files.{symbol_total}
use Rattle.sym_resolve.specs.Law.{IsLawful}

-- the files of a link of inputs with these bytes
abbrev pub sources_for : CommandView → List (List ℕ) → List Source
sources_for asked given = sources standard (contents_for asked given)

-- a command with another number of workers
abbrev pub with_workers : ℕ → CommandView → CommandView
with_workers n asked = record {
  output = asked.output;
  map = asked.map;
  entry = asked.entry;
  threads = n;
  gc = asked.gc;
  icf = asked.icf;
  relax = asked.relax;
  strip = asked.strip;
  undefined = asked.undefined;
  unique = asked.unique;
  why_live = asked.why_live;
  why_apart = asked.why_apart;
  generated = asked.generated;
  inputs = asked.inputs;
}

-- no more files and symbols than a link may have
pub record AreCounted (ss : List Source) : Type 0 where
  pub files : length ss ≤ standard.files
  pub symbols : symbol_total (heads_in ss) ≤ standard.symbols

-- the files that take part are the least set with the command's objects, the members that it asks for and all that these pull, and an archive may stand anywhere among
-- the objects; each name is bound to the least offer of it, if there is one, and bound COMMON symbols get the greatest room asked for
pub record AreLeast (asked : CommandView) (ss : List Source) : Type 0 where
  pub taking_part : IsLive asked.undefined (heads_in ss) (live_in asked.undefined ss)
  pub anywhere : StandsAnywhere asked.undefined (heads_in ss)
  pub bound : IsLawful (linked_files asked ss) (discarded (linked_files asked ss)) asked.entry (bound_in asked ss)

-- a defect of a file comes before another by file, section and place; one of no file comes before none
abbrev pub comes_before : Defect → Defect → Bool
comes_before d e = not (d.file == NO_FILE)
    && (nat_lt d.file e.file || (d.file == e.file && (nat_lt d.section e.section || (d.section == e.section && nat_lt d.place e.place))))

-- none of these comes before this one
abbrev pub IsLeast : Defect → List Defect → Type 0
IsLeast least defects = All (λ d. comes_before d least ≡ false) defects

abbrev pub IsLeastStop : LinkStop → List Defect → Type 0
IsLeastStop (stops.Defect least) defects = IsLeast least defects
IsLeastStop stops.Memory defects = Unit {0}

-- a link stops at the first of its defects, and none of them comes before it; or memory ran out
pub record StopsAtLeast (stop : LinkStop) (defects : List Defect) : Type 0 where
  pub first : StopsAt stop defects
  pub least : IsLeastStop stop defects
