-- Defects that are found in sections, of which the one of the least section number counts.
use Rattle.std.specs.Prelude.{◌≡◌, ℕ, ◌+◌, ◌<◌, ◌≤◌, nat_lt, Option, Some, None, if◌then◌else◌, List, [], length, slice_index_or}
use Rattle.lk_base.specs.Firsts.{BeginsWith}
use Rattle.lk_base.specs.declared.defects.Defect.{Defect}
use Rattle.link_sections.specs.declared.members.Content.TheVariants.{Got}
use Rattle.link_sections.specs.declared.members.Member.{Member}
use Rattle.reloc_apply.specs.declared.founds.Found.{Found}

-- what stands past the end of a list of members
abbrev pub no_member : Member
no_member = record { content = Got; start = 0; size = 0 }

-- each starts where the one before ends, or after it
abbrev pub AreOneAfterOther : List Member → Type 0
AreOneAfterOther members =
    (i : ℕ) (d : Member) → i + 1 < length members →
    (slice_index_or members i d).start + (slice_index_or members i d).size ≤ (slice_index_or members (i + 1) d).start

-- what is found in the section that a member is: the first of its defects
abbrev pub IsFound : (defects : ℕ → List Defect) → Option ℕ → Option Found → Type 0
IsFound defects None found = found ≡ None
IsFound defects (Some n) None = defects n ≡ []
IsFound defects (Some n) (Some found) = (found.section ≡ n) × BeginsWith (defects n) found.defect

-- of two the one of the lesser number
unfoldable pub earlier : Option Found → Option Found → Option Found
earlier None other = other
earlier (Some found) None = Some found
earlier (Some found) (Some other) = if nat_lt other.section found.section then Some other else Some found
