-- A file without an undefined symbol has no relocation that names one.
use Rattle.std.proofs.Common.{◌≡◌, ℕ, ◌<◌, ◌≤◌, ◌==◌, ◌&&◌, Bool, true, false, List, [], ◌∷◌, length, flat_map, refl, ap, ◌∙◌, inl, inr}
use Rattle.std.specs.Prelude.{if◌then◌else◌}
use Rattle.std.specs.List.{range_with_len}
use Rattle.std.proofs.lemmas.Bool.{cases_lt, cond-true, eq-eqb}
use Rattle.std.proofs.lemmas.List.{get_or_past}
use Rattle.lk_base.specs.RelocKinds.{names_a_symbol}
use Rattle.lk_base.specs.declared.abi.TheConstants.{STB_LOCAL}
use Rattle.lk_base.specs.declared.defects.Defect.{Defect}
use Rattle.lk_base.proofs.NoneGiven.{either_none, flat_none}
use Rattle.lk_tables.specs.declared.bounds.Bound.{Bound}
use Rattle.lk_tables.specs.declared.heads.Place.TheVariants.{Undef}
use Rattle.lk_tables.specs.declared.heads.Symbol.{Symbol}
use Rattle.lk_tables.specs.declared.objects.Reloc.{Reloc}
use Rattle.lk_tables.specs.Binding.{Bindings}
use Rattle.lk_tables.specs.Files.{File, file_at, no_symbol, relocs_at, symbol_at}
use Rattle.lk_tables.specs.Targets.{bound, defined_by, definition, is_unbound, is_undefined}
use Rattle.lk_tables.specs.Walks.{over_file, over_section}
use Rattle.sec_graph.specs.Undefined.{is_needed, undefined_at}

no_defect : (a b c : Bool) (d : Defect) → c ≡ false → (if a && (b && c) then d ∷ [] else []) ≡ []
no_defect true true c d none = ap (λ e. if e then d ∷ [] else []) none
no_defect true false c d none = refl
no_defect false b c d none = refl

none_at : (files : List File) (b : Bindings) (kept : List Bool) (f k : ℕ) (r : Reloc) → is_undefined files b f r.symbol ≡ false →
    undefined_at files b kept f k r ≡ []
unfolding undefined_at
none_at files b kept f k r none =
    no_defect (is_needed files b kept f k r) (names_a_symbol r.kind) (is_undefined files b f r.symbol) _ none

pub none_in : (files : List File) (b : Bindings) (kept : List Bool) (f : ℕ) → ((i : ℕ) → is_undefined files b f i ≡ false) →
    over_file files (over_section files (undefined_at files b kept)) f ≡ []
unfolding over_file
none_in files b kept f none =
    let test = undefined_at files b kept in
    either_none (file_at files f).live (flat_map (over_section files test f) (range_with_len 0 (length (file_at files f).head.sections)))
    (flat_none (over_section files test f) (range_with_len 0 (length (file_at files f).head.sections))
    (λ k. flat_none (test f k) (relocs_at (file_at files f) k) (λ r. none_at files b kept f k r (none r.symbol))))

-- a symbol past the end of its table is not undefined
past_by : (files : List File) (b : Bindings) (f i : ℕ) (s : Symbol) (other : Bound) → s ≡ no_symbol →
    is_unbound (if s.binding == STB_LOCAL then defined_by files b s.place f i s else other) s ≡ false
past_by files b f i s other none =
    ap (λ t. is_unbound (if t.binding == STB_LOCAL then defined_by files b t.place f i t else other) t) none
    ∙ ap (λ t. is_unbound t no_symbol) (cond-true (STB_LOCAL == STB_LOCAL) (defined_by files b Undef f i no_symbol) other (eq-eqb STB_LOCAL STB_LOCAL refl))

past_end : (files : List File) (b : Bindings) (f i : ℕ) → length (file_at files f).head.symbols ≤ i → is_undefined files b f i ≡ false
unfolding is_undefined bound definition
past_end files b f i le = past_by files b f i (symbol_at (file_at files f) i) _ (get_or_past (file_at files f).head.symbols i no_symbol le)

pub none_of : (files : List File) (b : Bindings) (f : ℕ) → ((i : ℕ) → i < length (file_at files f).head.symbols → is_undefined files b f i ≡ false) →
    (i : ℕ) → is_undefined files b f i ≡ false
none_of files b f below i = elim (cases_lt i (length (file_at files f).head.symbols)) [
  | inl lt ↦ below i lt
  | inr le ↦ past_end files b f i le
]
