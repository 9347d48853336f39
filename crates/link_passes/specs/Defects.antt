-- The defects of the first two phases of a link: files are read, and the bodies of those that take part.
use Rattle.std.specs.Prelude.{ℕ, min, Bool, true, false, Option, Some, None, Result, Ok, Err, if◌then◌else◌, List, [], ◌∷◌, ◌++◌, length, flat_map}
use Rattle.std.specs.List.{range_with_len}
use Rattle.lk_base.specs.declared.defects.Defect.{Defect}
use Rattle.lk_base.specs.declared.defects.Flaw.{Flaw}
use Rattle.lk_base.specs.declared.defects.LinkStop.{LinkStop}
use Rattle.lk_base.specs.declared.defects.LinkStop.TheVariants as stops
use Rattle.lk_base.specs.declared.limits.Limits.{Limits}
use Rattle.lk_base.specs.Defects.{count_defects}
use Rattle.lk_tables.specs.Files.{section_total, symbol_total}
use Rattle.lk_tables.specs.Checks.{checked}
use Rattle.lk_tables.specs.Heads.{head_of}
use Rattle.lk_tables.specs.Objects.{ObjectView, object_checks, parts_of}
use Rattle.eh_frame.specs.Sections.{all_frame_checks}
use Rattle.link_passes.specs.Sources.{Source, files_in, has_body, heads_in, live_in, source_at}

-- a flaw of a file as a defect of the link
abbrev pub defect_in : ℕ → Flaw → Defect
defect_in f flaw = record { kind = flaw.kind; file = f; section = flaw.section; place = flaw.place; symbol = 0; other = flaw.other }

abbrev pub flaws : {A : Type 0} → ℕ → Result A Flaw → List Defect
flaws f (Ok value) = []
flaws f (Err flaw) = defect_in f flaw ∷ []

-- what was wrong before its head was looked at, or its head has a flaw; an archive by itself has no head
abbrev pub flawed : Source → ℕ → Option Flaw → List Defect
flawed s f (Some flaw) = defect_in f flaw ∷ []
flawed s f None = if s.archive then [] else flaws f (head_of s.bytes)

unfoldable pub head_defects : Source → ℕ → List Defect
head_defects s f = flawed s f s.flaw

-- what is read of a body: the checks of its unwind records come after all others
unfoldable pub body_of : List ℕ → Result ObjectView Flaw
body_of b = checked (object_checks b ++ all_frame_checks b) (parts_of b)

-- its body has one
unfoldable pub body_defects : List ℕ → ℕ → List Defect
body_defects b f = flaws f (body_of b)

-- of file number f
abbrev pub head_defects_at : List Source → ℕ → List Defect
head_defects_at ss f = head_defects (source_at ss f) f

abbrev pub body_defects_at : List Source → List Bool → ℕ → List Defect
body_defects_at ss live f = if has_body ss live f then body_defects (source_at ss f).bytes f else []

-- phase 1: each file whose number is within the limit, in order; then how many files there are, and how many symbols
unfoldable pub reading_defects : Limits → List Source → List Defect
reading_defects limits ss =
    flat_map (head_defects_at ss) (range_with_len 0 (min (length ss) limits.files))
    ++ (count_defects limits.files (length ss) ++ count_defects limits.symbols (symbol_total (heads_in ss)))

-- phase 2: the body of each file that takes part; then how many sections there are
unfoldable pub opening_defects : Limits → (undefined : List (List ℕ)) → List Source → List Defect
opening_defects limits undefined ss =
    flat_map (body_defects_at ss (live_in undefined ss)) (range_with_len 0 (length ss))
    ++ count_defects limits.sections (section_total (files_in undefined ss))

-- a step that takes no memory names a defect where it stops
abbrev pub takes_no_memory : {A : Type 0} → Result A LinkStop → Bool
takes_no_memory (Ok value) = true
takes_no_memory (Err (stops.Defect first)) = true
takes_no_memory (Err stops.Memory) = false
