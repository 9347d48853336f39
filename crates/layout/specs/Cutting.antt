-- Where a section loses bytes, once its first address is known (RISC-V ELF psABI, "Linker Relaxation").
use Rattle.std.specs.Prelude.{ℕ, zero, suc, ◌+◌, ◌-◌, ◌*◌, ◌%◌, ◌==◌, ◌&&◌, ◌||◌, not, nat_lt, Bool, if◌then◌else◌, List, [], ◌∷◌, ◌++◌, map, filter}
use Rattle.lk_base.specs.declared.defects.Defect.{Defect}
use Rattle.lk_base.specs.declared.kinds.TheConstants.{NOPS_SHORT}
use Rattle.lk_tables.specs.declared.section_places.SectionPlace.{SectionPlace}
use Rattle.link_sections.specs.Cuts.{Cut, new_offset}

-- the first power of two above a number, of so many from this one on
abbrev pub power_above : (steps power n : ℕ) → ℕ
power_above zero power n = power
power_above (suc steps) power n = if nat_lt n power then power else power_above steps (2 * power) n

-- so many bytes of nops stand before a multiple of the least power of two above their number
unfoldable pub boundary : (whole : ℕ) → ℕ
boundary whole = power_above 64 1 whole

-- how many of them are needed at an address
unfoldable pub needed : (address whole : ℕ) → ℕ
needed address whole = (boundary whole - address % boundary whole) % boundary whole

-- what a cut keeps in a section that starts at `start`, after the cuts before it: an alignment what it needs
unfoldable pub kept_at : (start : ℕ) → (before : List Cut) → Cut → ℕ
kept_at start before c = if c.is_align then needed (start + new_offset before c.at) c.whole else c.kept

unfoldable pub laid_cut : (start : ℕ) → (before : List Cut) → Cut → Cut
laid_cut start before c = record { at = c.at; whole = c.whole; kept = kept_at start before c; is_align = c.is_align }

-- the cuts of a section that starts at `start`, after those before them
abbrev pub cuts_after : (start : ℕ) → (before : List Cut) → List Cut → List Cut
cuts_after start before [] = before
cuts_after start before (c ∷ cs) = cuts_after start (before ++ laid_cut start before c ∷ []) cs

abbrev pub laid_cuts : (start : ℕ) → List Cut → List Cut
laid_cuts start cuts = cuts_after start [] cuts

-- an alignment that needs more bytes than it has, or half a nop
unfoldable pub is_short : Cut → Bool
is_short c = c.is_align && (not (c.kept % 2 == 0) || nat_lt c.whole c.kept)

abbrev pub short_defect : SectionPlace → Cut → Defect
short_defect place c = record { kind = NOPS_SHORT; file = place.file; section = place.index; place = c.at; symbol = 0; other = c.kept }

-- the defects of a section, in order of offset
abbrev pub short_defects : SectionPlace → List Cut → List Defect
short_defects place cuts = map (short_defect place) (filter is_short cuts)
