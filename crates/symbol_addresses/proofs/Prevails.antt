-- The symbol that a name is bound to prevails: its own name is bound to it.
use Rattle.std.proofs.Common.{◌≡◌, ◌≢◌, ℕ, ◌<◌, ◌≤◌, ◌^◌, ◌==◌, ◌&&◌, Bool, true, false, List, [], ◌∷◌, length, flat_map, min, not, refl, sym, ap, ◌∙◌, ◌⊎◌, subst, arith, inl, inr, Some, None}
use Rattle.std.specs.Prelude.{Option, if◌then◌else◌}
use Rattle.std.specs.List.{All, range_with_len}
use Rattle.std.specs.Str.{bytes_eq}
use Rattle.std.proofs.lemmas.Bool.{and_parts, cases_lt, cond_both, eq-eqb, not-true, not_from_false, true≢false}
use Rattle.std.proofs.lemmas.List.Elements.{All-head, All-tail}
use Rattle.std.proofs.lemmas.Slice.Eq.{bytes_eq-Decides}
use Rattle.lk_base.specs.declared.abi.TheConstants.{STB_LOCAL}
use Rattle.lk_tables.specs.Binding.{Bindings, Offer, bound_rank, class_of, is_discarded, is_offer, least_rank, live_rank, offer_at, offered_bindings, offers, offers_in, rank_bound}
use Rattle.lk_tables.specs.BoundNames.{IsBindingOf, bindings, linked_rank, or_linker, rank_of_linker}
use Rattle.lk_tables.specs.Files.{AreFew, File, file_at, is_visible, symbol_at, symbol_name, symbol_no}
use Rattle.lk_tables.specs.LinkerSymbols.{linker_no}
use Rattle.lk_tables.specs.Ranks.{class_of_rank, file_of, is_linker_rank, linker_class, linker_rank, no_rank, rank_of, symbol_of_rank}
use Rattle.lk_tables.specs.Targets.{rank_at}
use Rattle.lk_tables.proofs.BoundHas.{class_few, each_flat, each_if, few_numbers, offered_is, one_if, rank_is}
use Rattle.lk_tables.proofs.FirstNumbers.{first_within}
use Rattle.lk_tables.proofs.LinkerNumbers.{IfNumber, linker_few}
use Rattle.lk_tables.proofs.RankParts.{file_is, symbol_is}

-- symbol i of file f is there, in a file that takes part, and other files see it
pub record IsSeen (files : List File) (f i : ℕ) : Type 0 where
  pub file : f < length files
  pub symbol : i < length (file_at files f).head.symbols
  pub live : (file_at files f).live ≡ true
  pub visible : is_visible (symbol_at (file_at files f) i) ≡ true

-- and it has a name
record HasName (files : List File) (name : List ℕ) (f i : ℕ) : Type 0 where
  pub seen : IsSeen files f i
  pub named : symbol_name (file_at files f) i ≡ name

-- so of what a rank names
abbrev RankHasName : List File → List ℕ → ℕ → Type 0
RankHasName files name rank = HasName files name (file_of rank) (symbol_of_rank rank)

rank_named : (files : List File) (name : List ℕ) (class f i : ℕ) → class ≤ 2 → f < 2 ^ 24 → i < 2 ^ 32 → HasName files name f i →
    RankHasName files name (rank_of class f i)
rank_named files name class f i few file symbol has =
    let rank = rank_of class f i in
    let P : ℕ → Type 0 = λ j. HasName files name f j in
    let Q : ℕ → Type 0 = λ g. HasName files name g (symbol_of_rank rank) in
    subst Q (sym (file_is class f i few file symbol)) (subst P (sym (symbol_is class f i symbol)) has)

abbrev OfferNamed : List File → Offer → Type 0
OfferNamed files o = RankHasName files o.name o.rank

offers_named : (files : List File) (gone : List Bool) → AreFew files → All (OfferNamed files) (offers files gone)
unfolding offers offers_in offer_at
offers_named files gone few =
    each_flat (OfferNamed files) (offers_in files gone) 0 (length files) (λ f lt.
    each_if (OfferNamed files) (file_at files f).live (flat_map (offer_at files gone f) (range_with_len 0 (length (file_at files f).head.symbols))) (λ live.
    each_flat (OfferNamed files) (offer_at files gone f) 0 (length (file_at files f).head.symbols) (λ i below.
    let s = symbol_at (file_at files f) i in
    one_if (OfferNamed files) (is_offer s && not (is_discarded files gone f s.place))
    (record { name = symbol_name (file_at files f) i; rank = rank_of (class_of s) f i })
    (λ offered. rank_named files (symbol_name (file_at files f) i) (class_of s) f i (class_few s) (omega (arith, few.file_count, lt))
    (omega (arith, below, few.symbol_count, first_within files f (omega (arith, lt))))
    (record {
      seen = record { file = omega (arith, lt); symbol = omega (arith, below); live = live; visible = (and_parts _ _ (and_parts _ _ offered).0).0 };
      named = refl;
    })))))

-- the least rank on offer for a name is that of a symbol of this name, if there is one
abbrev NoneOrNamed : List File → List ℕ → ℕ → Type 0
NoneOrNamed files name rank = (rank ≡ no_rank) ⊎ RankHasName files name rank

min_named : (files : List File) (name : List ℕ) (x y : ℕ) → NoneOrNamed files name x → NoneOrNamed files name y → NoneOrNamed files name (min x y)
min_named files name x y one other = elim (cases_lt x y) [
  | inl lt ↦ let e : x ≡ min x y = omega (arith, lt) in subst (NoneOrNamed files name) e one
  | inr le ↦ let e : y ≡ min x y = omega (arith, le) in subst (NoneOrNamed files name) e other
]

least_named : (files : List File) (name : List ℕ) (os : List Offer) → All (OfferNamed files) os → NoneOrNamed files name (least_rank name os)
unfolding least_rank
least_named files name [] all = inl refl
least_named files name (o ∷ os) all =
    let later = least_named files name os (All-tail (OfferNamed files) o os all) in
    cond_both (bytes_eq o.name name) (min o.rank (least_rank name os)) (least_rank name os) (NoneOrNamed files name)
    (λ same. min_named files name o.rank (least_rank name os)
    (inr (subst (λ (text : List ℕ). RankHasName files text o.rank) ((bytes_eq-Decides o.name name).0 same) (All-head (OfferNamed files) o os all))) later)
    (λ other. later)

-- what stands for symbols of files that take part which others see, and no rank for others
shown : (live local : Bool) (x : ℕ) → live ≡ true → local ≡ false → (if live then (if local then no_rank else x) else no_rank) ≡ x
shown true false x seen visible = refl
shown true true x seen visible = cc
shown false local x seen visible = cc

shown_from : (live local : Bool) (x : ℕ) → (if live then (if local then no_rank else x) else no_rank) ≢ no_rank → (live ≡ true) × (local ≡ false)
shown_from true false x some = (refl, refl)
shown_from true true x some = absurd (some refl)
shown_from false local x some = absurd (some refl)

-- a rank that is not one of the linker's symbols is what files offer
linker_class_is : (n : ℕ) → n < 2 ^ 31 → class_of_rank (linker_rank n) ≡ linker_class
linker_class_is n few = omega (arith, few)

offered_by : (none : Bool) (x : ℕ) (o : Option ℕ) → IfNumber (λ n. n < 2 ^ 31) o → (if none then rank_of_linker o else x) ≢ no_rank →
    is_linker_rank (if none then rank_of_linker o else x) ≡ false → (if none then rank_of_linker o else x) ≡ x
offered_by false x o few some other = refl
offered_by true x None few some other = absurd (some refl)
offered_by true x (Some n) few some other = absurd (true≢false (sym (eq-eqb (class_of_rank (linker_rank n)) linker_class (linker_class_is n few)) ∙ other))

-- a symbol that is bound to one of a file: both are seen, and the names of both are bound to the second
pub record IsResolved (files : List File) (b : Bindings) (f i : ℕ) : Type 0 where
  pub own : IsSeen files f i
  pub to : IsSeen files (file_of (rank_at b (symbol_no files f i))) (symbol_of_rank (rank_at b (symbol_no files f i)))
  pub same : rank_at b (symbol_no files (file_of (rank_at b (symbol_no files f i))) (symbol_of_rank (rank_at b (symbol_no files f i)))) ≡ rank_at b (symbol_no files f i)

module _ (files : List File) (gone : List Bool) (entry : List ℕ) (few : AreFew files) where
  abbrev offered : Bindings
  offered = offered_bindings files gone entry

  abbrev rank_in : (f i : ℕ) → ℕ
  rank_in f i = rank_at (bindings files gone entry) (symbol_no files f i)

  -- what the name of a symbol that is seen is bound to
  abbrev name_rank : List ℕ → ℕ
  name_rank name = or_linker files offered name (bound_rank files gone name)

  offered_rank : (f i : ℕ) → IsSeen files f i → rank_at offered (symbol_no files f i) ≡ bound_rank files gone (symbol_name (file_at files f) i)
  unfolding live_rank rank_bound
  offered_rank f i seen =
      offered_is files gone entry f i seen.file seen.symbol
      ∙ shown (file_at files f).live ((symbol_at (file_at files f) i).binding == STB_LOCAL) (bound_rank files gone (symbol_name (file_at files f) i)) seen.live (not-true _ seen.visible)

  seen_rank : (f i : ℕ) → IsSeen files f i → rank_in f i ≡ name_rank (symbol_name (file_at files f) i)
  unfolding linked_rank
  seen_rank f i seen =
      let name = symbol_name (file_at files f) i in
      rank_is files gone entry f i seen.file seen.symbol
      ∙ shown (file_at files f).live ((symbol_at (file_at files f) i).binding == STB_LOCAL) (or_linker files offered name (rank_at offered (symbol_no files f i))) seen.live (not-true _ seen.visible)
      ∙ ap (or_linker files offered name) (offered_rank f i seen)

  seen_from : (f i : ℕ) → f < length files → i < length (file_at files f).head.symbols → rank_in f i ≢ no_rank → IsSeen files f i
  unfolding linked_rank
  seen_from f i lt below some =
      let name = symbol_name (file_at files f) i in
      let both = shown_from (file_at files f).live ((symbol_at (file_at files f) i).binding == STB_LOCAL) (or_linker files offered name (rank_at offered (symbol_no files f i)))
      (λ none. some (rank_is files gone entry f i lt below ∙ none)) in
      record { file = lt; symbol = below; live = both.0; visible = not_from_false _ both.1 }

  name_offered : (name : List ℕ) → name_rank name ≢ no_rank → is_linker_rank (name_rank name) ≡ false → name_rank name ≡ bound_rank files gone name
  unfolding or_linker
  name_offered name some other =
      offered_by (bound_rank files gone name == no_rank) (bound_rank files gone name) (linker_no files offered name)
      (few_numbers files (linker_no files offered name) few (linker_few files offered name)) some other

  rank_has_name : (name : List ℕ) → bound_rank files gone name ≢ no_rank → RankHasName files name (bound_rank files gone name)
  unfolding bound_rank
  rank_has_name name some = elim (least_named files name (offers files gone) (offers_named files gone few)) [
    | inl none ↦ absurd (some none)
    | inr has ↦ has
  ]

  resolved : (f i : ℕ) → f < length files → i < length (file_at files f).head.symbols → rank_in f i ≢ no_rank → is_linker_rank (rank_in f i) ≡ false →
      IsResolved files (bindings files gone entry) f i
  resolved f i lt below some other =
      let name = symbol_name (file_at files f) i in
      let own = seen_from f i lt below some in
      let by_name = seen_rank f i own in
      let by_offer = by_name ∙ name_offered name (λ none. some (by_name ∙ none)) (ap is_linker_rank (sym by_name) ∙ other) in
      let has : RankHasName files name (rank_in f i) = subst (RankHasName files name) (sym by_offer) (rank_has_name name (λ none. some (by_offer ∙ none))) in
      record {
        own = own;
        to = has.seen;
        same = seen_rank (file_of (rank_in f i)) (symbol_of_rank (rank_in f i)) has.seen ∙ ap name_rank has.named ∙ sym by_name;
      }

pub is_resolved : (files : List File) (b : Bindings) (f i : ℕ) → IsBindingOf files b → AreFew files → f < length files → i < length (file_at files f).head.symbols →
    rank_at b (symbol_no files f i) ≢ no_rank → is_linker_rank (rank_at b (symbol_no files f i)) ≡ false → IsResolved files b f i
is_resolved files b f i (gone, entry, is) few lt below =
    let R : Bindings → Type 0 = λ n. rank_at n (symbol_no files f i) ≢ no_rank → is_linker_rank (rank_at n (symbol_no files f i)) ≡ false → IsResolved files n f i in
    subst R (sym is) (resolved files gone entry few f i lt below)
