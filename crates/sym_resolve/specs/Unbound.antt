-- Names that no file offers, and the linker's own symbols of these names.
use Rattle.std.specs.Prelude.{ℕ, ◌&&◌, ◌||◌, ◌==◌, is_some, if◌then◌else◌, Bool, List, [], ◌∷◌}
use Rattle.lk_tables.specs.Binding.{Bindings}
use Rattle.lk_tables.specs.BindingView.{with_rank}
use Rattle.lk_tables.specs.BoundNames.{rank_of_linker}
use Rattle.lk_tables.specs.Files.{File, file_at, is_visible, symbol_at, symbol_name, symbol_no}
use Rattle.lk_tables.specs.LinkerSymbols.{identifier_after, linker_no, start_prefix, stop_prefix}
use Rattle.lk_tables.specs.Ranks.{no_rank}
use Rattle.lk_tables.specs.Targets.{rank_at}
use Rattle.sym_resolve.specs.declared.linker.Linked.{Linked}
use Rattle.sym_resolve.specs.declared.unbound.Unbound.{Unbound}
use Rattle.sym_resolve.specs.Symbols.{over_symbols}

-- other files see symbol i of file f, and its name is bound to nothing
abbrev pub is_unbound_at : List File → Bindings → (f i : ℕ) → Bool
is_unbound_at files b f i = is_visible (symbol_at (file_at files f) i) && rank_at b (symbol_no files f i) == no_rank

unfoldable pub unbound_at : List File → Bindings → (f i : ℕ) → List Unbound
unbound_at files b f i = if is_unbound_at files b f i then record { file = f; symbol = i; number = symbol_no files f i } ∷ [] else []

-- the symbols of all files that take part, whose names are bound to nothing
unfoldable pub all_unbound : List File → Bindings → List Unbound
all_unbound files b = over_symbols files (unbound_at files b)

abbrev pub name_of : List File → Unbound → List ℕ
name_of files u = symbol_name (file_at files u.file) u.symbol

-- a name that names sections, by their start or by their end
abbrev pub names_sections : List ℕ → Bool
names_sections name = is_some (identifier_after start_prefix name) || is_some (identifier_after stop_prefix name)

-- the rank of the linker's symbol of its name, if there is one
abbrev pub linked_of : List File → Bindings → Unbound → Linked
linked_of files b u = record { number = u.number; rank = rank_of_linker (linker_no files b (name_of files u)) }

-- a binding with the ranks of these put in
abbrev pub after_linked : Bindings → List Linked → Bindings
after_linked b [] = b
after_linked b (l ∷ ls) = after_linked (with_rank b l.number l.rank) ls
