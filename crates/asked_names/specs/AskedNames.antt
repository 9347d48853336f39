-- What names are bound to that no symbol need have (System V gABI, "Symbol Table"), and the sections in which they stand.
use Rattle.std.specs.Prelude.{◌≡◌, ℕ, ◌<◌, ◌&&◌, Bool, true, List, [], ◌∷◌, length, map, flat_map}
use Rattle.std.specs.Global.{Vec}
use Rattle.std.specs.Str.{bytes_eq}
use Rattle.lk_tables.specs.declared.bounds.Bound.{Bound}
use Rattle.lk_tables.specs.declared.bounds.Bound.TheVariants.{InSection, Number, Linker, Nobody}
use Rattle.lk_tables.specs.Binding.{Bindings, bound_rank}
use Rattle.lk_tables.specs.BoundNames.{or_linker}
use Rattle.lk_tables.specs.Files.{File, is_visible, symbol_at, symbol_name}
use Rattle.lk_tables.specs.Targets.{bound_by}

-- the bytes of each name
abbrev pub lists_of : List (Vec ℕ) → List (List ℕ)
lists_of names = map (λ name. name.items) names

-- the section in which something stands
abbrev pub section_bound : Bound → List ℕ
section_bound (InSection section offset) = section ∷ []
section_bound (Number n) = []
section_bound (Linker n) = []
section_bound Nobody = []

module _ (files : List File) (b : Bindings) where
  -- what a name is bound to: its strongest offer by a file that takes part, or where there is none the linker's own symbol of that name
  unfoldable pub name_bound : (name : List ℕ) → Bound
  name_bound name = bound_by files b (or_linker files b name (bound_rank files b.discarded name))

  -- the section in which a name stands, and those of many, in order of the names
  abbrev pub section_named : (name : List ℕ) → List ℕ
  section_named name = section_bound (name_bound name)

  unfoldable pub named_sections : (names : List (List ℕ)) → List ℕ
  named_sections names = flat_map section_named names

-- other files see symbol i of a file, and it has this name; and the file takes part
abbrev pub is_named_so : File → (i : ℕ) → (name : List ℕ) → Bool
is_named_so file i name = is_visible (symbol_at file i) && bytes_eq (symbol_name file i) name

abbrev pub has_name : File → (i : ℕ) → (name : List ℕ) → Bool
has_name file i name = file.live && is_named_so file i name

pub record HasName (file : File) (i : ℕ) (name : List ℕ) : Type 0 where
  pub inside : i < length file.head.symbols
  pub live : file.live ≡ true
  pub visible : is_visible (symbol_at file i) ≡ true
  pub named : symbol_name file i ≡ name
