-- The body of an object file whose head is known: its groups and its relocations at their places, and no broken check
-- (System V gABI, "Section Groups", "Relocation").
use Rattle.std.specs.Prelude.{◌≡◌, ℕ, Bool, ◌==◌, Option, Some, None, Result, List, [], ◌++◌, map}
use Rattle.std.specs.List.{filter, range_with_len}
use Rattle.lk_base.specs.declared.abi.TheConstants.{GRP_COMDAT}
use Rattle.lk_base.specs.declared.defects.Flaw.{Flaw}
use Rattle.lk_tables.specs.declared.objects.Group.{Group}
use Rattle.lk_tables.specs.declared.objects.Object.{Object}
use Rattle.lk_tables.specs.declared.objects.Reloc.{Reloc}
use Rattle.lk_tables.specs.declared.spans.Span.{Span}
use Rattle.lk_tables.specs.Bodies.{all_body_checks, all_use_checks, rela_of}
use Rattle.lk_tables.specs.Checks.{Check, checked, NoneBroken}
use Rattle.lk_tables.specs.FileHeader.{section_count}
use Rattle.lk_tables.specs.Groups.{is_group, flag_word, members_of, signature_of}
use Rattle.lk_tables.specs.Relocations.{relocs_of}

-- a group and a body, as lists
pub record GroupView : Type 0 where
  pub section : ℕ
  pub signature : Span
  pub comdat : Bool
  pub members : List ℕ

abbrev pub group_view : Group → GroupView
group_view group = record { section = group.section; signature = group.signature; comdat = group.comdat; members = group.members.items }

pub record ObjectView : Type 0 where
  pub groups : List GroupView
  pub relocs : List (List Reloc)

abbrev pub object_view : Object → ObjectView
object_view object = record { groups = map group_view object.groups.items; relocs = map (λ list. list.items) object.relocs.items }

-- the relocations of section k: those of its relocation section, if there is one
abbrev pub relocs_in : List ℕ → Option ℕ → List Reloc
relocs_in b None = []
relocs_in b (Some r) = relocs_of b r

abbrev pub relocs_for : List ℕ → (k : ℕ) → List Reloc
relocs_for b k = relocs_in b (rela_of b k)

-- the group of section i
abbrev pub group_of : List ℕ → ℕ → GroupView
group_of b i = record { section = i; signature = signature_of b i; comdat = flag_word b i == GRP_COMDAT; members = members_of b i }

-- the groups in order of their sections, and the relocations of each section
unfoldable pub parts_of : List ℕ → ObjectView
parts_of b = record {
  groups = map (group_of b) (filter (is_group b) (range_with_len 0 (section_count b)));
  relocs = map (relocs_for b) (range_with_len 0 (section_count b));
}

-- the checks of each section in order, then of each symbol
unfoldable pub object_checks : List ℕ → List Check
object_checks b = all_body_checks b ++ all_use_checks b

-- what is read of a body
unfoldable pub object_of : List ℕ → Result ObjectView Flaw
object_of b = checked (object_checks b) (parts_of b)

-- the body is of these bytes, whose head is sound
pub record BodyOf (b : List ℕ) (object : ObjectView) : Type 0 where
  pub parts : object ≡ parts_of b
  pub sound : NoneBroken (object_checks b)
