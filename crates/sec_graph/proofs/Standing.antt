-- What symbols and names stand for: by a symbol's own definition, and where the symbol to which a name is bound prevails.
use Rattle.std.proofs.Common.{◌≡◌, ℕ, ◌≤◌, ◌==◌, ◌&&◌, Bool, true, false, not, List, length, refl, sym, ap, ◌∙◌, subst, arith, inl, inr}
use Rattle.std.specs.Prelude.{if◌then◌else◌}
use Rattle.std.proofs.lemmas.Bool.{and_from, and_parts, and_right, cases_Bool, cases_lt, cond-false, cond-true, eq-eqb, eqb-true, not-false, not-true, not_from_false, not_from_true}
use Rattle.std.proofs.lemmas.List.{get_or_past}
use Rattle.lk_base.specs.declared.abi.TheConstants.{STB_LOCAL, STB_WEAK}
use Rattle.lk_tables.specs.declared.bounds.Bound.{Bound}
use Rattle.lk_tables.specs.declared.bounds.Bound.TheVariants.{InSection, Number, Linker, Nobody}
use Rattle.lk_tables.specs.declared.heads.Place.{Place}
use Rattle.lk_tables.specs.declared.heads.Place.TheVariants.{Undef, Absolute, Common, Within}
use Rattle.lk_tables.specs.declared.heads.Symbol.{Symbol}
use Rattle.lk_tables.specs.Binding.{Bindings, is_discarded}
use Rattle.lk_tables.specs.Files.{File, file_at, is_frame_at, is_visible, no_file, no_symbol, section_no, symbol_at, symbol_no, writes}
use Rattle.lk_tables.specs.FixedSymbols.{frame_start_no}
use Rattle.lk_tables.specs.FixedSymbols.{frame_start_no}
use Rattle.lk_tables.specs.Ranks.{file_of, is_linker_rank, no_rank, symbol_of_rank}
use Rattle.lk_tables.specs.Symbols.{is_common}
use Rattle.lk_tables.specs.Targets.{bound, bound_by, defined_by, definition, is_unbound, is_undefined, offset_in, rank_at}
use Rattle.sec_graph.specs.Prevailing.{PrevailingStand, StandsIfPrevailing, is_nobody, names}

-- a symbol is undefined and has to be defined, if it is not WEAK
unbound_is : (x : Bound) (s : Symbol) → is_unbound x s ≡ (is_nobody x && not (s.binding == STB_WEAK))
unbound_is Nobody s = refl
unbound_is (InSection section offset) s = refl
unbound_is (Number n) s = refl
unbound_is (Linker n) s = refl

and_true : (x y : Bool) → y ≡ true → (x && y) ≡ x
and_true true y is = is
and_true false y is = refl

-- what is defined in a section stands for nothing if that was discarded
nobody_if : (gone written start : Bool) (section offset value : ℕ) →
    is_nobody (if gone then Nobody else (if written then InSection section offset else (if start then Linker frame_start_no else Number value))) ≡ gone
nobody_if true written start section offset value = refl
nobody_if false true start section offset value = refl
nobody_if false false true section offset value = refl
nobody_if false false false section offset value = refl

nobody_by : (files : List File) (b : Bindings) (place : Place) (f i : ℕ) (s : Symbol) → is_common place ≡ false →
    is_nobody (defined_by files b place f i s) ≡ is_discarded files b.discarded f place
nobody_by files b Undef f i s plain = refl
nobody_by files b Absolute f i s plain = refl
nobody_by files b Common f i s plain = cc
nobody_by files b (Within k) f i s plain =
    nobody_if (is_discarded files b.discarded f (Within k)) (writes (file_at files f) k) (is_frame_at (file_at files f) k && s.value == 0)
    (section_no files f k) (offset_in s) s.value

-- what a rank names that is one of a file's symbols, or of the linker's own
named : (found : Bound) (none linker : Bool) (n : ℕ) → none ≡ false → (linker ≡ false → is_nobody found ≡ false) →
    is_nobody (if none then Nobody else (if linker then Linker n else found)) ≡ false
named found true linker n some own = cc
named found false true n some own = refl
named found false false n some own = own refl

module _ (files : List File) (b : Bindings) where
  abbrev rank_of_symbol : (f i : ℕ) → ℕ
  rank_of_symbol f i = rank_at b (symbol_no files f i)

  abbrev symbol_in : (f i : ℕ) → Symbol
  symbol_in f i = symbol_at (file_at files f) i

  nobody_defined : (f i : ℕ) → is_common (symbol_in f i).place ≡ false → is_nobody (definition files b f i) ≡ is_discarded files b.discarded f (symbol_in f i).place
  unfolding definition
  nobody_defined f i plain = nobody_by files b (symbol_in f i).place f i (symbol_in f i) plain

  nobody_named : (rank : ℕ) → (rank == no_rank) ≡ false → (is_linker_rank rank ≡ false → is_nobody (definition files b (file_of rank) (symbol_of_rank rank)) ≡ false) →
      is_nobody (bound_by files b rank) ≡ false
  unfolding bound_by
  nobody_named rank some own = named (definition files b (file_of rank) (symbol_of_rank rank)) (rank == no_rank) (is_linker_rank rank) (symbol_of_rank rank) some own

  local_bound : (f i : ℕ) → is_visible (symbol_in f i) ≡ false → bound files b f i ≡ definition files b f i
  unfolding bound
  local_bound f i local =
      cond-true ((symbol_in f i).binding == STB_LOCAL) (definition files b f i) (bound_by files b (rank_of_symbol f i)) (not-false ((symbol_in f i).binding == STB_LOCAL) local)

  visible_bound : (f i : ℕ) → is_visible (symbol_in f i) ≡ true → bound files b f i ≡ bound_by files b (rank_of_symbol f i)
  unfolding bound
  visible_bound f i visible =
      cond-false ((symbol_in f i).binding == STB_LOCAL) (definition files b f i) (bound_by files b (rank_of_symbol f i)) (not-true ((symbol_in f i).binding == STB_LOCAL) visible)

  -- a rank that names symbol i of file f
  defined_at : (rank f i : ℕ) → names rank f i ≡ true → definition files b (file_of rank) (symbol_of_rank rank) ≡ definition files b f i
  defined_at rank f i is =
      let both = and_parts _ _ is in
      ap (λ g. definition files b g (symbol_of_rank rank)) (eqb-true (file_of rank) f both.0) ∙ ap (definition files b f) (eqb-true (symbol_of_rank rank) i both.1)

  -- a symbol whose section was not discarded, and a COMMON one that is bound to something
  pub stands_within : (f i : ℕ) → is_common (symbol_in f i).place ≡ false → is_discarded files b.discarded f (symbol_in f i).place ≡ false → StandsIfPrevailing files b f i
  stands_within f i plain kept = λ some is.
      nobody_named (rank_of_symbol f i) some (λ other. ap is_nobody (defined_at (rank_of_symbol f i) f i is) ∙ nobody_defined f i plain ∙ kept)

  pub stands_bound : (f i : ℕ) → is_nobody (bound files b f i) ≡ false → StandsIfPrevailing files b f i
  stands_bound f i stands = λ some is. elim (cases_Bool (is_visible (symbol_in f i))) [
    | inl visible ↦ ap is_nobody (sym (visible_bound f i visible)) ∙ stands
    | inr local ↦
        nobody_named (rank_of_symbol f i) some (λ other. ap is_nobody (defined_at (rank_of_symbol f i) f i is ∙ sym (local_bound f i local)) ∙ stands)
  ]

  -- what a rank names that names nothing in the tables is a number
  past_symbol : (f i : ℕ) → symbol_in f i ≡ no_symbol → is_nobody (definition files b f i) ≡ false
  unfolding definition
  past_symbol f i none = ap (λ (s : Symbol). is_nobody (defined_by files b s.place f i s)) none

  past_file : (f i : ℕ) → length files ≤ f → symbol_in f i ≡ no_symbol
  past_file f i past = ap (λ (x : File). symbol_at x i) (get_or_past files f no_file past) ∙ get_or_past no_file.head.symbols i no_symbol (omega arith)

  -- the name of what prevails stands for something
  pub prevailing : (rank : ℕ) → PrevailingStand files b → (rank == no_rank) ≡ false → rank_of_symbol (file_of rank) (symbol_of_rank rank) ≡ rank →
      is_nobody (bound_by files b rank) ≡ false
  prevailing rank stand some prevails =
      let f = file_of rank in
      let i = symbol_of_rank rank in
      let same : names rank f i ≡ true = and_from _ _ (eq-eqb f f refl) (eq-eqb i i refl) in
      elim (cases_lt f (length files)) [
        | inr past ↦ nobody_named rank some (λ other. past_symbol f i (past_file f i past))
        | inl lt ↦ elim (cases_lt i (length (file_at files f).head.symbols)) [
          | inr past ↦ nobody_named rank some (λ other. past_symbol f i (get_or_past (file_at files f).head.symbols i no_symbol past))
          | inl below ↦
              let P : ℕ → Type 0 = λ r. (r == no_rank) ≡ false → names r f i ≡ true → is_nobody (bound_by files b r) ≡ false in
              subst P prevails (stand f i lt below) some same
        ]
      ]

  -- whether a symbol is undefined and has to be defined
  pub weak_stands : (f i : ℕ) → ((symbol_in f i).binding == STB_WEAK) ≡ true → is_undefined files b f i ≡ false
  unfolding is_undefined
  weak_stands f i weak = unbound_is (bound files b f i) (symbol_in f i) ∙ and_right _ _ (not_from_true _ weak)

  strong_is : (f i : ℕ) → ((symbol_in f i).binding == STB_WEAK) ≡ false → is_undefined files b f i ≡ is_nobody (bound files b f i)
  unfolding is_undefined
  strong_is f i strong = unbound_is (bound files b f i) (symbol_in f i) ∙ and_true _ _ (not_from_false _ strong)

  pub local_is : (f i : ℕ) → ((symbol_in f i).binding == STB_WEAK) ≡ false → is_visible (symbol_in f i) ≡ false → is_common (symbol_in f i).place ≡ false →
      is_undefined files b f i ≡ is_discarded files b.discarded f (symbol_in f i).place
  local_is f i strong local plain = strong_is f i strong ∙ ap is_nobody (local_bound f i local) ∙ nobody_defined f i plain

  pub unbound_name : (f i : ℕ) → ((symbol_in f i).binding == STB_WEAK) ≡ false → is_visible (symbol_in f i) ≡ true → rank_of_symbol f i ≡ no_rank →
      is_undefined files b f i ≡ true
  unfolding bound_by
  unbound_name f i strong visible none =
      strong_is f i strong ∙ ap is_nobody (visible_bound f i visible ∙ ap (bound_by files b) none)

  pub bound_name : (f i : ℕ) → ((symbol_in f i).binding == STB_WEAK) ≡ false → is_visible (symbol_in f i) ≡ true →
      is_nobody (bound_by files b (rank_of_symbol f i)) ≡ false → is_undefined files b f i ≡ false
  bound_name f i strong visible stands = strong_is f i strong ∙ ap is_nobody (visible_bound f i visible) ∙ stands
