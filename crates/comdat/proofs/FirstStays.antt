-- Of the COMDAT groups of one signature the first stays.
use Rattle.std.proofs.Common.{◌≡◌, ℕ, zero, suc, ◌+◌, ◌<◌, ◌≤◌, ◌&&◌, Bool, true, false, List, Contains, refl, sym, ◌∙◌, ⊎_elim, arith, nat_lt}
use Rattle.std.specs.Str.{bytes_eq}
use Rattle.std.proofs.lemmas.Bool.{cases_Bool, cases_lt, and_parts, and_from, both_ways, ltb-true, lt-ltb}
use Rattle.std.proofs.lemmas.Slice.Eq.{bytes_eq-Decides}
use Rattle.lk_base.proofs.Membership.{any_from}
use Rattle.comdat.specs.Discarded.{Comdat, goes, rank}
use Rattle.comdat.specs.Law.{HasKept, KeepsFirst}
use Rattle.comdat.proofs.GroupLists.{any_of}

-- one of the same signature that stands before
pub record IsBefore (groups : List Comdat) (g : Comdat) : Type 0 where
  pub one : Comdat
  pub listed : Contains groups one
  pub same : one.signature ≡ g.signature
  pub less : rank one < rank g

abbrev beats : Comdat → Comdat → Bool
beats g h = bytes_eq h.signature g.signature && nat_lt (rank h) (rank g)

pub goes_before : (groups : List Comdat) (g : Comdat) → goes groups g ≡ true → IsBefore groups g
unfolding goes
goes_before groups g is =
    let found = any_of (beats g) groups is in
    let h : Comdat = found.0 in
    let both = and_parts (bytes_eq h.signature g.signature) (nat_lt (rank h) (rank g)) found.1.1 in
    let d = bytes_eq-Decides h.signature g.signature in
    record { one = h; listed = found.1.0; same = d.0 both.0; less = ltb-true (rank h) (rank g) both.1 }

pub before_goes : (groups : List Comdat) (g h : Comdat) → Contains groups h → h.signature ≡ g.signature → rank h < rank g → goes groups g ≡ true
unfolding goes
before_goes groups g h has same less =
    let d = bytes_eq-Decides h.signature g.signature in
    any_from (beats g) groups h has (and_from (bytes_eq h.signature g.signature) (nat_lt (rank h) (rank g)) (d.1 same) (lt-ltb (rank h) (rank g) less))

kept_below : (groups : List Comdat) (n : ℕ) (g : Comdat) → rank g < n → Contains groups g → HasKept groups g
kept_below groups zero g lt has = absurd (omega arith)
kept_below groups (suc n) g lt has = ⊎_elim
    (λ (is : goes groups g ≡ true).
    let before = goes_before groups g is in
    let less = before.less in
    let rest = kept_below groups n before.one (omega arith) before.listed in
    record { one = rest.one; listed = rest.listed; same = rest.same ∙ before.same; stays = rest.stays })
    (λ (stays : goes groups g ≡ false). record { one = g; listed = has; same = refl; stays = stays })
    (cases_Bool (goes groups g))

pub keeps_first : (groups : List Comdat) → KeepsFirst groups
keeps_first groups = record {
  kept = λ g has. kept_below groups (rank g + 1) g (omega arith) has;
  first = λ g h has also same stays. ⊎_elim
      (λ (less : rank h < rank g). absurd (both_ways (goes groups g) stays (before_goes groups g h also (sym same) less)))
      (λ (le : rank g ≤ rank h). le)
      (cases_lt (rank h) (rank g));
}
