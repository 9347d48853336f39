-- What holds of the cuts of a section holds once they are laid.
use Rattle.std.proofs.Common.{ℕ, ◌+◌, ◌<◌, ◌≤◌, List, [], ◌∷◌, ◌++◌, All, inl, inr}
use Rattle.std.proofs.lemmas.List.Elements.{All-nil, All-head, All-tail, All-cons}
use Rattle.lk_tables.specs.Relocations.{value_len}
use Rattle.lk_tables.specs.declared.objects.Reloc.{Reloc}
use Rattle.link_sections.specs.Calls.{IsOwnCall}
use Rattle.link_sections.specs.Cuts.{Cut}
use Rattle.layout.specs.Cutting.{kept_at, laid_cut, laid_cuts}
use Rattle.layout.proofs.LaidCuts.{laid_are, laid_rest}
use Rattle.layout.proofs.OwnCalls.{IsMet}

-- what holds of each cut holds of it once it is laid
rest_hold : (P : Cut → Type 0) (start : ℕ) → ((before : List Cut) (c : Cut) → P c → P (laid_cut start before c)) → (before cuts : List Cut) → All P cuts
    → All P (laid_rest start before cuts)
rest_hold P start step before [] all = All-nil P
rest_hold P start step before (c ∷ cs) all =
    All-cons P (laid_cut start before c) (laid_rest start (before ++ laid_cut start before c ∷ []) cs) (step before c (All-head P c cs all))
    (rest_hold P start step (before ++ laid_cut start before c ∷ []) cs (All-tail P c cs all))

pub laid_hold : (P : Cut → Type 0) (start : ℕ) (cuts : List Cut) → ((before : List Cut) (c : Cut) → P c → P (laid_cut start before c)) → All P cuts → All P (laid_cuts start cuts)
laid_hold P start cuts step all = rw (laid_are start cuts) (rest_hold P start step [] cuts all)

-- it stands where it stood, and a call keeps what it kept
pub still_within : (size start : ℕ) (before : List Cut) (c : Cut) → c.at + c.whole ≤ size → (laid_cut start before c).at + (laid_cut start before c).whole ≤ size
unfolding laid_cut
still_within size start before c is = is

pub still_some : (start : ℕ) (before : List Cut) (c : Cut) → 0 < c.whole → 0 < (laid_cut start before c).whole
unfolding laid_cut
still_some start before c is = is

still_after : (end start : ℕ) (before : List Cut) (c : Cut) → end ≤ c.at → end ≤ (laid_cut start before c).at
unfolding laid_cut
still_after end start before c is = is

still_own : (r : Reloc) (start : ℕ) (before : List Cut) (c : Cut) → IsOwnCall c r → IsOwnCall (laid_cut start before c) r
unfolding laid_cut kept_at
still_own r start before c is = record { call = is.call; at = is.at; plain = is.plain; whole = is.whole; kept = rw is.plain is.kept }

pub still_met : (contents : List ℕ) (r : Reloc) (start : ℕ) (before : List Cut) (c : Cut) → IsMet contents r c → IsMet contents r (laid_cut start before c)
still_met contents r start before c (inl is) = inl (still_within r.offset start before c is)
still_met contents r start before c (inr (inl is)) = inr (inl (still_after (r.offset + value_len contents r) start before c is))
still_met contents r start before c (inr (inr is)) = inr (inr (still_own r start before c is))
