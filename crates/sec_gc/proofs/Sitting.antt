-- What the words that steps find are to callers.
use Rattle.std.proofs.Common.{◌≡◌, ℕ, zero, suc, ◌≤◌, ◌==◌, not, refl, sym, ap, ◌∙◌, subst, arith}
use Rattle.lk_tables.specs.Reach.{IsReached}
use Rattle.sec_gc.specs.Marks.{MarksView, SeatView, SitsAt, after_look, after_split, after_swap, joined, newcomer, word_of}

-- a word is 0 or 1
bit_swapped : (found : ℕ) → found ≤ 1 → found ≡ word_of (not (found == 0))
bit_swapped zero low = refl
bit_swapped (suc zero) low = refl
bit_swapped (suc (suc n)) low = absurd (omega (arith, low))

bit_looked : (found : ℕ) → found ≤ 1 → found ≡ word_of (found == 1)
bit_looked zero low = refl
bit_looked (suc zero) low = refl
bit_looked (suc (suc n)) low = absurd (omega (arith, low))

pub swapped_bit : (s s' : SeatView) (section found : ℕ) → found ≤ 1 → s' ≡ after_swap s section found → s' ≡ after_swap s section (word_of (not (found == 0)))
swapped_bit s s' section found low is = is ∙ ap (after_swap s section) (bit_swapped found low)

pub looked_bit : (s s' : SeatView) (section found : ℕ) → found ≤ 1 → s' ≡ after_look s section found → s' ≡ after_look s section (word_of (found == 1))
looked_bit s s' section found low is = is ∙ ap (after_look s section) (bit_looked found low)

-- the seat speaks of the marks' roots and ends
pub within_at : (m : MarksView) (s : SeatView) (f : ℕ) → SitsAt m s → IsReached s.roots s.ends f → IsReached m.roots m.ends f
within_at m s f sits within = subst (λ e. IsReached m.roots e f) sits.ends (subst (λ l. IsReached l s.ends f) sits.roots within)

-- a seat stays one of its marks', whatever it does
pub sits_looked : (m : MarksView) (s s' : SeatView) (section found : ℕ) → SitsAt m s → s' ≡ after_look s section found → SitsAt m s'
sits_looked m s s' section found sits is = subst (SitsAt m) (sym is) (record { table = sits.table; roots = sits.roots; ends = sits.ends })

pub sits_split : (m : MarksView) (s s' : SeatView) → SitsAt m s → s' ≡ after_split s → SitsAt m s'
sits_split m s s' sits is = subst (SitsAt m) (sym is) (record { table = sits.table; roots = sits.roots; ends = sits.ends })

pub sits_newcomer : (m : MarksView) (s s' : SeatView) → SitsAt m s → s' ≡ newcomer s → SitsAt m s'
sits_newcomer m s s' sits is = subst (SitsAt m) (sym is) (record { table = sits.table; roots = sits.roots; ends = sits.ends })

pub sits_joined : (m : MarksView) (s other s' : SeatView) → SitsAt m s → s' ≡ joined s other → SitsAt m s'
sits_joined m s other s' sits is = subst (SitsAt m) (sym is) (record { table = sits.table; roots = sits.roots; ends = sits.ends })
