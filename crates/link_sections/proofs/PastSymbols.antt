-- A symbol past the end of its table stands for nothing.
use Rattle.std.proofs.Common.{◌≡◌, ℕ, ◌≤◌, ◌==◌, Bool, true, false, List, length, refl, sym, ap, ◌∙◌}
use Rattle.std.specs.Prelude.{Option, if◌then◌else◌}
use Rattle.std.proofs.lemmas.Bool.{cond-true, eq-eqb}
use Rattle.std.proofs.lemmas.List.{get_or_past}
use Rattle.lk_base.specs.declared.abi.TheConstants.{STB_LOCAL}
use Rattle.lk_tables.specs.declared.bounds.Bound.{Bound}
use Rattle.lk_tables.specs.declared.heads.Place.TheVariants.{Undef}
use Rattle.lk_tables.specs.declared.heads.Symbol.{Symbol}
use Rattle.lk_tables.specs.Binding.{Bindings}
use Rattle.lk_tables.specs.Files.{File, file_at, no_symbol, symbol_at}
use Rattle.lk_tables.specs.Targets.{bound, defined_by, definition}
use Rattle.link_sections.specs.Addresses.{address_of, symbol_address}
use Rattle.link_sections.specs.LaidOut.{LaidOut}

module _ (files : List File) (b : Bindings) (leaders : List (Option ℕ)) (laid : LaidOut) where
  address_past : (d : Bool) (f i : ℕ) (s : Symbol) (other : Bound) → s ≡ no_symbol →
      (if d then address_of files b leaders laid (if s.binding == STB_LOCAL then defined_by files b s.place f i s else other) else 0) ≡ 0
  address_past true f i s other none =
      ap (λ t. address_of files b leaders laid (if t.binding == STB_LOCAL then defined_by files b t.place f i t else other)) none
      ∙ ap (address_of files b leaders laid) (cond-true (STB_LOCAL == STB_LOCAL) (defined_by files b Undef f i no_symbol) other (eq-eqb STB_LOCAL STB_LOCAL refl))
  address_past false f i s other none = refl

  pub past_symbol : (f i : ℕ) → length (file_at files f).head.symbols ≤ i → 0 ≡ symbol_address files b leaders laid f i
  unfolding symbol_address bound definition
  past_symbol f i le =
      sym (address_past (file_at files f).live f i (symbol_at (file_at files f) i) _ (get_or_past (file_at files f).head.symbols i no_symbol le))
