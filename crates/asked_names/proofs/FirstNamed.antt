-- A name is bound to what the first symbol is bound to that has it.
use Rattle.std.proofs.Common.{◌≡◌, ℕ, ◌^◌, ◌<◌, ◌==◌, ◌&&◌, not, min, Bool, true, false, List, [], ◌∷◌, length, flat_map, Some, None, refl, sym, ap, ◌∙◌, subst, arith}
use Rattle.std.specs.Prelude.{All, Option, if◌then◌else◌}
use Rattle.std.specs.List.{range_with_len}
use Rattle.std.specs.Str.{bytes_eq}
use Rattle.std.proofs.lemmas.Bool.{and_parts, cond-false, cond-true, eq-eqb, both_ways}
use Rattle.std.proofs.lemmas.List.Elements.{All-head, All-tail}
use Rattle.lk_base.specs.declared.abi.TheConstants.{STB_LOCAL}
use Rattle.lk_tables.specs.declared.bounds.Bound.{Bound}
use Rattle.lk_tables.specs.declared.bounds.Bound.TheVariants.{Linker, Nobody}
use Rattle.lk_tables.specs.Binding.{Bindings, Offer, bound_rank, class_of, is_discarded, is_offer, least_rank, live_rank, offer_at, offered_bindings, offers, offers_in, rank_bound}
use Rattle.lk_tables.specs.BoundNames.{IsBindingOf, bindings, linked_rank, or_linker, rank_of_linker, with_linker}
use Rattle.lk_tables.specs.Files.{AreFew, File, file_at, is_visible, symbol_at, symbol_name, symbol_no}
use Rattle.lk_tables.specs.LinkerSymbols.{linker_no}
use Rattle.lk_tables.specs.Ranks.{file_of, is_linker_rank, no_rank, rank_of, symbol_of_rank}
use Rattle.lk_tables.specs.Symbols.{is_undef}
use Rattle.lk_tables.specs.Targets.{bound, bound_by, definition, rank_at}
use Rattle.lk_tables.proofs.BoundHas.{each_flat, each_if, few_numbers, offered_is, one_if, rank_is}
use Rattle.lk_tables.proofs.LinkerNumbers.{IfNumber, linker_few, linker_named, same_no}
use Rattle.asked_names.specs.AskedNames.{HasName, has_name, is_named_so, name_bound, section_bound, section_named}
use Rattle.asked_names.proofs.NameBounds.{or_same}

not_local : (b : Bool) → not b ≡ true → b ≡ false
not_local false is = refl
not_local true is = cc

module _ (files : List File) (gone : List Bool) (entry : List ℕ) where
  abbrev own : Bindings
  own = bindings files gone entry

  abbrev offered : Bindings
  offered = offered_bindings files gone entry

  gone_is : own.discarded ≡ gone
  unfolding bindings with_linker offered_bindings
  gone_is = refl

  same_number : (name : List ℕ) → linker_no files own name ≡ linker_no files offered name
  unfolding bindings
  same_number name = same_no files offered entry name

  -- the rank of a symbol that other files see, of a file that takes part
  symbol_rank : (f i : ℕ) → f < length files → i < length (file_at files f).head.symbols → (file_at files f).live ≡ true →
      ((symbol_at (file_at files f) i).binding == STB_LOCAL) ≡ false →
      rank_at own (symbol_no files f i) ≡ or_linker files own (symbol_name (file_at files f) i) (bound_rank files own.discarded (symbol_name (file_at files f) i))
  unfolding linked_rank live_rank rank_bound or_linker
  symbol_rank f i lt below live seen =
      let name = symbol_name (file_at files f) i in
      let is_local = (symbol_at (file_at files f) i).binding == STB_LOCAL in
      let rank = rank_at offered (symbol_no files f i) in
      let found : rank ≡ bound_rank files gone name =
      offered_is files gone entry f i lt below
      ∙ cond-true (file_at files f).live (if is_local then no_rank else bound_rank files gone name) no_rank live
      ∙ cond-false is_local no_rank (bound_rank files gone name) seen in
      rank_is files gone entry f i lt below
      ∙ cond-true (file_at files f).live (if is_local then no_rank else or_linker files offered name rank) no_rank live
      ∙ cond-false is_local no_rank (or_linker files offered name rank) seen
      ∙ ap (or_linker files offered name) (found ∙ ap (λ g. bound_rank files g name) (sym gone_is))
      ∙ or_same (bound_rank files own.discarded name) (linker_no files offered name) (linker_no files own name) (sym (same_number name))

  symbol_so : (f i : ℕ) (name : List ℕ) → f < length files → HasName (file_at files f) i name → bound files own f i ≡ name_bound files own name
  unfolding bound name_bound
  symbol_so f i name lt has =
      let is_local = (symbol_at (file_at files f) i).binding == STB_LOCAL in
      let seen : is_local ≡ false = not_local is_local has.visible in
      cond-false is_local (definition files own f i) (bound_by files own (rank_at own (symbol_no files f i))) seen
      ∙ ap (bound_by files own) (symbol_rank f i lt has.inside has.live seen)
      ∙ ap (λ t. bound_by files own (or_linker files own t (bound_rank files own.discarded t))) has.named

pub symbol_bound : (files : List File) (b : Bindings) (f i : ℕ) (name : List ℕ) → IsBindingOf files b → f < length files → HasName (file_at files f) i name →
    bound files b f i ≡ name_bound files b name
symbol_bound files b f i name (gone, entry, is) lt has =
    let R : Bindings → Type 0 = λ n. bound files n f i ≡ name_bound files n name in
    subst R (sym is) (symbol_so files gone entry f i name lt has)

-- where no symbol has the name, none offers it
Other : List ℕ → Offer → Type 0
Other name o = bytes_eq o.name name ≡ false

unnamed : (live seen same : Bool) → (live && (seen && same)) ≡ false → live ≡ true → seen ≡ true → same ≡ false
unnamed true true same none on visible = none
unnamed false seen same none on visible = cc
unnamed true false same none on visible = cc

abbrev pub NoneHas : List File → List ℕ → Type 0
NoneHas files name = (f i : ℕ) → f < length files → i < length (file_at files f).head.symbols → has_name (file_at files f) i name ≡ false

none_offers : (files : List File) (gone : List Bool) (name : List ℕ) → NoneHas files name → All (Other name) (offers files gone)
unfolding offers offers_in offer_at Other
none_offers files gone name none =
    each_flat (Other name) (offers_in files gone) 0 (length files) (λ f lt.
    each_if (Other name) (file_at files f).live (flat_map (offer_at files gone f) (range_with_len 0 (length (file_at files f).head.symbols))) (λ live.
    each_flat (Other name) (offer_at files gone f) 0 (length (file_at files f).head.symbols) (λ i below.
    let s = symbol_at (file_at files f) i in
    one_if (Other name) (is_offer s && not (is_discarded files gone f s.place))
    (record { name = symbol_name (file_at files f) i; rank = rank_of (class_of s) f i })
    (λ offers. let seen = and_parts (is_visible s) (not (is_undef s.place)) (and_parts (is_offer s) (not (is_discarded files gone f s.place)) offers).0 in
    unnamed (file_at files f).live (is_visible s) (bytes_eq (symbol_name (file_at files f) i) name) (none f i (omega (arith, lt)) (omega (arith, below))) live seen.0))))

least_other : (name : List ℕ) (os : List Offer) → All (Other name) os → least_rank name os ≡ no_rank
unfolding least_rank Other
least_other name [] all = refl
least_other name (o ∷ os) all =
    cond-false (bytes_eq o.name name) (min o.rank (least_rank name os)) (least_rank name os) (All-head (Other name) o os all)
    ∙ least_other name os (All-tail (Other name) o os all)

-- and it stands in no section
none_bound : (files : List File) (b : Bindings) → section_bound (bound_by files b no_rank) ≡ []
unfolding bound_by
none_bound files b =
    ap section_bound (cond-true (no_rank == no_rank) Nobody
    (if is_linker_rank no_rank then Linker (symbol_of_rank no_rank) else definition files b (file_of no_rank) (symbol_of_rank no_rank))
    (eq-eqb no_rank no_rank refl))

linker_nowhere : (files : List File) (b : Bindings) (o : Option ℕ) → IfNumber (λ n. n < 2 ^ 31) o → section_bound (bound_by files b (rank_of_linker o)) ≡ []
linker_nowhere files b None few = none_bound files b
linker_nowhere files b (Some n) few = ap section_bound (linker_named files b n few)

pub nowhere : (files : List File) (b : Bindings) (name : List ℕ) → AreFew files → NoneHas files name → section_named files b name ≡ []
unfolding name_bound or_linker bound_rank
nowhere files b name few none =
    let o = linker_no files b name in
    ap (λ rank. section_bound (bound_by files b (if rank == no_rank then rank_of_linker o else rank)))
    (least_other name (offers files b.discarded) (none_offers files b.discarded name none))
    ∙ ap (λ rank. section_bound (bound_by files b rank)) (cond-true (no_rank == no_rank) (rank_of_linker o) no_rank (eq-eqb no_rank no_rank refl))
    ∙ linker_nowhere files b o (few_numbers files o few (linker_few files b name))
