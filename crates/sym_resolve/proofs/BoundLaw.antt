-- What a name is bound to, by the law: an offer of a file, or the linker's symbol of the name.
use Rattle.std.proofs.Common.{◌≡◌, ◌≢◌, ℕ, ◌^◌, ◌<◌, ◌≤◌, ◌==◌, ◌⊎◌, Bool, List, length, All, Contains, sym, ap, ◌∙◌, subst, inl, inr, ⊎_elim, arith}
use Rattle.std.proofs.lemmas.Bool.{cases_Bool, cond-true, cond-false, eqb-true, eqb-false, not-true}
use Rattle.lk_base.specs.declared.abi.TheConstants.{STB_LOCAL}
use Rattle.lk_tables.specs.Binding.{Offer, bound_rank, class_of, live_rank, offer_at, offered_bindings, offers, offers_in, rank_bound}
use Rattle.lk_tables.specs.BoundNames.{bindings, linked_rank, or_linker, rank_of_linker}
use Rattle.lk_tables.specs.Files.{File, file_at, symbol_at, symbol_name, symbol_no, symbol_total}
use Rattle.lk_tables.specs.LinkerSymbols.{linker_no}
use Rattle.lk_tables.specs.Ranks.{no_rank, rank_of}
use Rattle.lk_tables.specs.Targets.{rank_at}
use Rattle.lk_tables.proofs.BoundHas.{class_few, offered_is, one_if, rank_is}
use Rattle.lk_tables.proofs.FirstNumbers.{first_within}
use Rattle.name_numbers.proofs.LeastClaims.{least_most}
use Rattle.sym_resolve.specs.Law.{EachIsBound, IsBound, IsOffered}
use Rattle.sym_resolve.proofs.Ends.{least_below, least_offered, offer}
use Rattle.sym_resolve.proofs.Walks.{all_symbols, live_within}

-- the rank of an offer of the name, or none; and no offer of the name has a smaller one
pub record IsLeast (all : List Offer) (name : List ℕ) (rank : ℕ) : Type 0 where
  pub offered : (rank ≡ no_rank) ⊎ Contains all (offer name rank)
  pub least : (o : Offer) → Contains all o → o.name ≡ name → rank ≤ o.rank

pub least_law : (files : List File) (gone : List Bool) (name : List ℕ) → IsLeast (offers files gone) name (bound_rank files gone name)
unfolding bound_rank
least_law files gone name = record {
  offered = least_offered name (offers files gone);
  least = λ o has same. least_below name (offers files gone) o has same;
}

pub offered_from : (all : List Offer) (name : List ℕ) (rank : ℕ) → rank < no_rank → IsLeast all name rank → IsOffered all name rank
offered_from all name rank some law = record {
  offered = ⊎_elim (λ (none : rank ≡ no_rank). absurd (omega arith)) (λ (has : Contains all (offer name rank)). has) law.offered;
  least = law.least;
}

pub least_from : (all : List Offer) (name : List ℕ) (rank : ℕ) → IsOffered all name rank → IsLeast all name rank
least_from all name rank law = record { offered = inr law.offered; least = law.least }

-- no offer has the rank of nobody
offer_below : (class f i : ℕ) → class ≤ 2 → f < 2 ^ 24 → i < 2 ^ 31 → rank_of class f i < no_rank
offer_below class f i few many less = omega arith

offers_below : (files : List File) (gone : List Bool) → length files < 2 ^ 24 → symbol_total files < 2 ^ 31 → All (λ o. o.rank < no_rank) (offers files gone)
unfolding offers offers_in offer_at
offers_below files gone many few =
    all_symbols (λ (o : Offer). o.rank < no_rank) files (offer_at files gone)
    (λ f i live lt. one_if (λ (o : Offer). o.rank < no_rank) _ _ (λ is.
    let within = live_within files f live in
    let s = symbol_at (file_at files f) i in
    offer_below (class_of s) f i (class_few s) (omega arith) (omega (arith, first_within files f within))))

bound_most : (files : List File) (gone : List Bool) (name : List ℕ) → bound_rank files gone name ≤ no_rank
unfolding bound_rank
bound_most files gone name = least_most name (offers files gone)

-- what a name is bound to, by the law
pub bound_law : (files : List File) (gone : List Bool) (entry name : List ℕ) → length files < 2 ^ 24 → symbol_total files < 2 ^ 31 →
    IsBound files gone entry name (or_linker files (offered_bindings files gone entry) name (bound_rank files gone name))
unfolding or_linker
bound_law files gone entry name many few =
    let rank = bound_rank files gone name in
    let own = rank_of_linker (linker_no files (offered_bindings files gone entry) name) in
    let P : ℕ → Type 0 = IsBound files gone entry name in
    let law = least_law files gone name in
    elim (cases_Bool (rank == no_rank)) [
      | inl none ↦
          let e : rank ≡ no_rank = eqb-true rank no_rank none in
          inr (record {
            unoffered = λ o (k, lt, is) same.
                let high = law.least o (k, lt, is) same in
                let Q : Offer → Type 0 = λ x. x.rank < no_rank in
                let low : o.rank < no_rank = subst Q is (offers_below files gone many few k o lt) in
                omega (arith, high, low, e);
            own = cond-true (rank == no_rank) own rank none;
          })
      | inr some ↦
          let other : rank ≢ no_rank = eqb-false rank no_rank some in
          let less : rank < no_rank = omega (arith, bound_most files gone name, other) in
          subst P (sym (cond-false (rank == no_rank) own rank some)) (inl (offered_from (offers files gone) name rank less law))
    ]

-- each rank of the table
pub each_bound : (files : List File) (gone : List Bool) (entry : List ℕ) → length files < 2 ^ 24 → symbol_total files < 2 ^ 31 →
    EachIsBound files gone entry (bindings files gone entry)
unfolding linked_rank live_rank rank_bound
each_bound files gone entry many few f i live lt seen =
    let s = symbol_at (file_at files f) i in
    let name = symbol_name (file_at files f) i in
    let b = offered_bindings files gone entry in
    let local = not-true (s.binding == STB_LOCAL) seen in
    let within = live_within files f live in
    let offered : rank_at b (symbol_no files f i) ≡ bound_rank files gone name =
    offered_is files gone entry f i within lt
    ∙ cond-true (file_at files f).live (rank_bound files gone f i) no_rank live
    ∙ cond-false (s.binding == STB_LOCAL) no_rank (bound_rank files gone name) local in
    let at : rank_at (bindings files gone entry) (symbol_no files f i) ≡ or_linker files b name (bound_rank files gone name) =
    rank_is files gone entry f i within lt
    ∙ cond-true (file_at files f).live _ no_rank live
    ∙ cond-false (s.binding == STB_LOCAL) no_rank _ local
    ∙ ap (or_linker files b name) offered in
    let P : ℕ → Type 0 = IsBound files gone entry name in
    subst P (sym at) (bound_law files gone entry name many few)
