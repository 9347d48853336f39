-- The sections of the names whose start or end symbols are bound to.
use Rattle.std.specs.Prelude.{◌≡◌, ℕ, ◌<◌, true, Option, Some, None, is_some, if◌then◌else◌, List, [], ◌∷◌, length, map, flat_map, All}
use Rattle.std.specs.List.{range_with_len}
use Rattle.std.specs.Borrow.{Bor}
use Rattle.std.specs.Str.{bytes_eq}
use Rattle.indexmap.specs.IndexMap.{IndexMap, get_by}
use Rattle.lk_tables.specs.declared.bounds.Bound.{Bound}
use Rattle.lk_tables.specs.declared.bounds.Bound.TheVariants.{InSection, Number, Linker, Nobody}
use Rattle.lk_tables.specs.Binding.{Bindings}
use Rattle.lk_tables.specs.Files.{File, file_at, section_total}
use Rattle.lk_tables.specs.InputSections.{input_at, may_stay_at}
use Rattle.lk_tables.specs.LinkerSymbols.{all_named, bound_section, is_bound_no}
use Rattle.lk_tables.specs.Targets.{bound}
use Rattle.sec_graph.specs.declared.named_sections.NamedSections.{NamedSections}
use Rattle.sec_graph.specs.declared.pairs.Pair.{Pair}
use Rattle.sec_graph.specs.Graph.{Rises, pair, pairs_from}

-- the section whose name's start or end it is
abbrev pub asked_by : Bound → List ℕ
asked_by (InSection section offset) = []
asked_by (Number n) = []
asked_by (Linker n) = if is_bound_no n then bound_section n ∷ [] else []
asked_by Nobody = []

-- the section that is noted for a name
abbrev pub noted : {S : Type 0} → IndexMap (Bor (List ℕ)) ℕ S → (name : List ℕ) → Option ℕ
noted names name = get_by (λ known. bytes_eq name known.now) names

abbrev pub pair_if : Option ℕ → (section : ℕ) → List Pair
pair_if None section = []
pair_if (Some first) section = pair first section ∷ []

module _ (files : List File) (b : Bindings) where
  unfoldable pub asked_at : (f i : ℕ) → List ℕ
  asked_at f i = asked_by (bound files b f i)

  -- the first sections of the names for which symbols of a file ask, and of all files
  unfoldable pub asked_in : (f : ℕ) → List ℕ
  asked_in f = if (file_at files f).live then flat_map (asked_at f) (range_with_len 0 (length (file_at files f).head.symbols)) else []

  abbrev pub asked : List ℕ
  asked = flat_map asked_in (range_with_len 0 (length files))

  -- each section that is noted has the name for which it is
  abbrev pub AreNoted : {S : Type 0} → IndexMap (Bor (List ℕ)) ℕ S → Type 0
  AreNoted names = (name : List ℕ) (n : ℕ) → noted names name ≡ Some n → (input_at files b n).name ≡ name

  -- its number is one of the link's, and one is noted for its name
  abbrev pub IsKnown : {S : Type 0} → IndexMap (Bor (List ℕ)) ℕ S → (n : ℕ) → Type 0
  IsKnown names n = (n < section_total files) × (is_some (noted names (input_at files b n).name) ≡ true)

  -- a section that may be kept, if one is noted for its name
  unfoldable pub named_at : {S : Type 0} → IndexMap (Bor (List ℕ)) ℕ S → (section : ℕ) → List Pair
  named_at names section = if may_stay_at files b section then pair_if (noted names (input_at files b section).name) section else []

  -- from the section noted for a name lead pairs to all sections of that name
  pub record HasNamed (t : NamedSections) : Type 0 where
    pub rises : Rises t.pairs.items
    pub lists : (name : List ℕ) (n : ℕ) → noted t.names name ≡ Some n → map (λ p. p.to) (pairs_from n t.pairs.items) ≡ all_named files b name
    pub known : All (IsKnown t.names) asked
