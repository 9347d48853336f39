-- What a name is bound to is what the entry would be bound to, if it had that name.
use Rattle.std.proofs.Common.{◌≡◌, ℕ, ◌<◌, ◌==◌, Bool, List, [], ◌∷◌, ◌++◌, refl, sym, ap, ◌∙◌, subst}
use Rattle.std.specs.Prelude.{All, Option, flat_map, if◌then◌else◌}
use Rattle.std.proofs.lemmas.List.Elements.{All-nil, All-cons, All-append}
use Rattle.lk_tables.specs.declared.bounds.Bound.{Bound}
use Rattle.lk_tables.specs.declared.bounds.Bound.TheVariants.{InSection, Number, Linker, Nobody}
use Rattle.lk_tables.specs.declared.heads.Place.{Place}
use Rattle.lk_tables.specs.declared.heads.Place.TheVariants.{Undef, Absolute, Common, Within}
use Rattle.lk_tables.specs.Binding.{Bindings, bound_rank, offered_bindings}
use Rattle.lk_tables.specs.BoundNames.{IsBindingOf, bindings, or_linker, rank_of_linker, with_linker}
use Rattle.lk_tables.specs.Files.{AreFew, File, file_at, section_total, symbol_at}
use Rattle.lk_tables.specs.InputSections.{input_of, may_stay}
use Rattle.lk_tables.specs.LinkerSymbols.{bound_no, first_named, is_named, linker_no}
use Rattle.lk_tables.specs.Ranks.{file_of, is_linker_rank, no_rank, symbol_of_rank}
use Rattle.lk_tables.specs.Targets.{bound_by, defined_by, definition, entry_bound}
use Rattle.lk_tables.proofs.BoundWithin.{IsWithin, entry_within}
use Rattle.lk_tables.proofs.LinkerNumbers.{same_no}
use Rattle.asked_names.specs.AskedNames.{name_bound, named_sections, section_bound, section_named}

pub or_same : (rank : ℕ) (o p : Option ℕ) → o ≡ p → (if rank == no_rank then rank_of_linker o else rank) ≡ (if rank == no_rank then rank_of_linker p else rank)
or_same rank o p same = ap (λ q. if rank == no_rank then rank_of_linker q else rank) same

module _ (files : List File) (gone : List Bool) (entry name : List ℕ) where
  abbrev own : Bindings
  own = bindings files gone entry

  abbrev other : Bindings
  other = bindings files gone name

  same_linker : (text : List ℕ) → linker_no files own text ≡ linker_no files other text
  unfolding bindings with_linker offered_bindings linker_no bound_no first_named is_named may_stay input_of
  same_linker text = refl

  same_defined : (place : Place) (f i : ℕ) → defined_by files own place f i (symbol_at (file_at files f) i) ≡ defined_by files other place f i (symbol_at (file_at files f) i)
  unfolding bindings with_linker offered_bindings
  same_defined Undef f i = refl
  same_defined Absolute f i = refl
  same_defined Common f i = refl
  same_defined (Within k) f i = refl

  same_definition : (f i : ℕ) → definition files own f i ≡ definition files other f i
  unfolding definition
  same_definition f i = same_defined (symbol_at (file_at files f) i).place f i

  same_bound : (rank : ℕ) → bound_by files own rank ≡ bound_by files other rank
  unfolding bound_by
  same_bound rank =
      ap (λ d. if rank == no_rank then Nobody else (if is_linker_rank rank then Linker (symbol_of_rank rank) else d))
      (same_definition (file_of rank) (symbol_of_rank rank))

  gone_is : own.discarded ≡ gone
  unfolding bindings with_linker offered_bindings
  gone_is = refl

  entry_is : other.entry ≡ or_linker files (offered_bindings files gone name) name (bound_rank files gone name)
  unfolding bindings with_linker offered_bindings
  entry_is = refl

  same_number : linker_no files own name ≡ linker_no files (offered_bindings files gone name) name
  unfolding bindings
  same_number = same_linker name ∙ same_no files (offered_bindings files gone name) name name

  ranks_are : or_linker files own name (bound_rank files own.discarded name) ≡ other.entry
  unfolding or_linker
  ranks_are =
      or_same (bound_rank files own.discarded name) (linker_no files own name) (linker_no files (offered_bindings files gone name) name) same_number
      ∙ ap (λ g. or_linker files (offered_bindings files gone name) name (bound_rank files g name)) gone_is ∙ sym entry_is

  as_entry : name_bound files own name ≡ entry_bound files other
  unfolding name_bound
  as_entry = same_bound (or_linker files own name (bound_rank files own.discarded name)) ∙ ap (bound_by files other) ranks_are

-- so what holds of the entry's bound under each binding, and is no matter of which name the entry has, holds of what any name is bound to
pub as_an_entry : (files : List File) (b : Bindings) (P : Bindings → Bound → Type 0) (name : List ℕ) → IsBindingOf files b →
    ((c : Bindings) → IsBindingOf files c → P c (entry_bound files c)) →
    ((gone : List Bool) (entry : List ℕ) (found : Bound) → P (bindings files gone name) found → P (bindings files gone entry) found) →
    P b (name_bound files b name)
as_an_entry files b P name (gone, entry, is) each moved =
    let R : Bindings → Type 0 = λ n. P n (name_bound files n name) in
    let named = bindings files gone name in
    subst R (sym is) (subst (P (bindings files gone entry)) (sym (as_entry files gone entry name))
    (moved gone entry (entry_bound files named) (each named (gone, name, refl))))

-- what holds of the section in which each name stands
pub sections_have : (files : List File) (b : Bindings) (P : ℕ → Type 0) (names : List (List ℕ)) → ((name : List ℕ) → All P (section_named files b name)) →
    All P (named_sections files b names)
unfolding named_sections
sections_have files b P [] each = All-nil P
sections_have files b P (name ∷ names) each =
    All-append P (section_named files b name) (flat_map (section_named files b) names) (each name) (sections_have files b P names each)

-- they are sections of the link
abbrev pub IsSection : List File → ℕ → Type 0
IsSection files r = r < section_total files

pub bound_is_section : (files : List File) (found : Bound) → IsWithin files found → All (λ r. r < section_total files) (section_bound found)
bound_is_section files (InSection section offset) within = All-cons (IsSection files) section [] within (All-nil (IsSection files))
bound_is_section files (Number n) within = All-nil (IsSection files)
bound_is_section files (Linker n) within = All-nil (IsSection files)
bound_is_section files Nobody within = All-nil (IsSection files)

pub named_within : (files : List File) (b : Bindings) (names : List (List ℕ)) → IsBindingOf files b → AreFew files →
    All (λ r. r < section_total files) (named_sections files b names)
named_within files b names is few =
    sections_have files b (IsSection files) names (λ name.
    bound_is_section files (name_bound files b name)
    (as_an_entry files b (λ c found. IsWithin files found) name is (λ c own. entry_within files c own few) (λ gone entry found within. within)))
