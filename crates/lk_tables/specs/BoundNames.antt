-- What names are bound to: the strongest offer of a file, and where no file offers a name the linker's own symbol of that name.
use Rattle.std.specs.Prelude.{◌≡◌, ℕ, ◌==◌, Bool, Option, Some, None, if◌then◌else◌, List, [], ◌∷◌}
use Rattle.lk_base.specs.declared.abi.TheConstants.{STB_LOCAL}
use Rattle.lk_base.specs.declared.defects.Defect.{Defect}
use Rattle.lk_tables.specs.Binding.{Bindings, duplicate_defects, first_phase, flag_defects, no_entry, offered_bindings}
use Rattle.lk_tables.specs.Files.{File, by_symbol, file_at, symbol_at, symbol_name, symbol_no}
use Rattle.lk_tables.specs.LinkerSymbols.{linker_no}
use Rattle.lk_tables.specs.Ranks.{linker_rank, no_rank}
use Rattle.lk_tables.specs.Targets.{rank_at}

-- the rank of the linker's symbol of a number, if there is one
abbrev pub rank_of_linker : Option ℕ → ℕ
rank_of_linker None = no_rank
rank_of_linker (Some n) = linker_rank n

-- a name that no file offers is that of the linker's symbol
unfoldable pub or_linker : List File → Bindings → (name : List ℕ) → (rank : ℕ) → ℕ
or_linker files b name rank = if rank == no_rank then rank_of_linker (linker_no files b name) else rank

module _ (files : List File) (b : Bindings) where
  -- what the name of symbol i of file f is bound to, given what offers bind; a local symbol stands for itself
  unfoldable pub linked_rank : (f i : ℕ) → ℕ
  linked_rank f i = if (file_at files f).live
      then (if (symbol_at (file_at files f) i).binding == STB_LOCAL then no_rank
      else or_linker files b (symbol_name (file_at files f) i) (rank_at b (symbol_no files f i)))
      else no_rank

  unfoldable pub with_linker : (entry : List ℕ) → Bindings
  with_linker entry = record {
    discarded = b.discarded;
    ranks = by_symbol files linked_rank;
    entry = or_linker files b entry b.entry;
    commons = b.commons;
  }

unfoldable pub bindings : List File → List Bool → List ℕ → Bindings
bindings files gone entry = with_linker files (offered_bindings files gone entry) entry

-- the names of these files are bound to this
abbrev pub IsBindingOf : List File → Bindings → Type 0
IsBindingOf files b = (gone : List Bool) × (entry : List ℕ) × (b ≡ bindings files gone entry)

-- the entry's name is bound to nothing
unfoldable pub entry_defects : List File → List Bool → List ℕ → List Defect
entry_defects files gone entry = if (bindings files gone entry).entry == no_rank then no_entry ∷ [] else []

-- the defects of binding: clashing float ABIs, then names defined twice, then the entry
abbrev pub binding_defects : List File → List Bool → List ℕ → List Defect
binding_defects files gone entry =
    first_phase (flag_defects files ∷ duplicate_defects files gone ∷ entry_defects files gone entry ∷ [])
