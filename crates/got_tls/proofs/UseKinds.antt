-- A kind of relocation has a use exactly if its value is computed from the table.
use Rattle.std.proofs.Common.{◌≡◌, ℕ, ◌==◌, ◌&&◌, ◌||◌, not, Bool, true, false, if◌then◌else◌, Some, None, List, [], ◌∷◌, map, refl, sym, ap, ◌∙◌}
use Rattle.std.specs.Prelude.{is_some}
use Rattle.std.specs.List.{list_all}
use Rattle.std.proofs.lemmas.Bool.{and_parts, eqb-true, false≢true}
use Rattle.lk_base.specs.RelocKinds.{Line, goes_by_got, is_among, is_got_distance, is_linked, kind_in, kind_of, lines}
use Rattle.lk_base.specs.declared.abi.TheConstants.{R_RISCV_GOT_HI20, R_RISCV_TLS_GD_HI20, R_RISCV_TLS_GOT_HI20}
use Rattle.link_sections.specs.declared.got.GotUse.{GotUse}
use Rattle.link_sections.specs.declared.got.GotUse.TheVariants.{Address, GeneralDynamic, ThreadOffset}
use Rattle.link_sections.specs.GotEntries.{use_of}

-- of a line
abbrev same : (a b : Bool) → Bool
same true b = b
same false b = not b

is_same : (a b : Bool) → same a b ≡ true → a ≡ b
is_same true true is = refl
is_same true false is = cc
is_same false true is = cc
is_same false false is = refl

abbrev fits : Line → Bool
fits l = same (is_some (use_of l.number)) (is_got_distance l.kind.calculation)

by_line : (ls : List Line) (n : ℕ) → list_all fits ls ≡ true → (is_among (map (λ (l : Line). l.number) ls) n ≡ false → is_some (use_of n) ≡ false)
    → is_some (use_of n) ≡ is_got_distance (kind_in ls n).calculation
by_line [] n all none = none refl
by_line (l ∷ ls) n all none =
    let both = and_parts (fits l) (list_all fits ls) all in
    by (l.number == n) refl both.0 none (λ more. by_line ls n both.1 more)
  where
    by : (t : Bool) → (l.number == n) ≡ t → fits l ≡ true → ((t || is_among (map (λ (x : Line). x.number) ls) n) ≡ false → is_some (use_of n) ≡ false)
        → ((is_among (map (λ (x : Line). x.number) ls) n ≡ false → is_some (use_of n) ≡ false) → is_some (use_of n) ≡ is_got_distance (kind_in ls n).calculation)
        → is_some (use_of n) ≡ is_got_distance (if t then l.kind else kind_in ls n).calculation
    by true is fit none rest = ap (λ m. is_some (use_of m)) (sym (eqb-true l.number n is)) ∙ is_same (is_some (use_of l.number)) (is_got_distance l.kind.calculation) fit
    by false is fit none rest = rest none

all_fit : list_all fits lines ≡ true
unfolding use_of
all_fit = refl

linked_got : is_linked R_RISCV_GOT_HI20 ≡ true
unfolding is_linked
linked_got = refl

linked_tls_got : is_linked R_RISCV_TLS_GOT_HI20 ≡ true
unfolding is_linked
linked_tls_got = refl

linked_tls_gd : is_linked R_RISCV_TLS_GD_HI20 ≡ true
unfolding is_linked
linked_tls_gd = refl

-- what has no line has no use
unlinked : (n : ℕ) → is_linked n ≡ false → is_some (use_of n) ≡ false
unfolding use_of
unlinked n none = by (n == R_RISCV_GOT_HI20) refl (n == R_RISCV_TLS_GOT_HI20) refl (n == R_RISCV_TLS_GD_HI20) refl
  where
    no : (m : ℕ) → (n == m) ≡ true → is_linked m ≡ true → true ≡ false
    no m same linked = sym linked ∙ ap is_linked (sym (eqb-true n m same)) ∙ none

    by : (a : Bool) → (n == R_RISCV_GOT_HI20) ≡ a → (b : Bool) → (n == R_RISCV_TLS_GOT_HI20) ≡ b → (c : Bool) → (n == R_RISCV_TLS_GD_HI20) ≡ c
        → is_some (if a then Some Address else (if b then Some ThreadOffset else (if c then Some GeneralDynamic else None))) ≡ false
    by true one b two c three = no R_RISCV_GOT_HI20 one linked_got
    by false one true two c three = no R_RISCV_TLS_GOT_HI20 two linked_tls_got
    by false one false two true three = no R_RISCV_TLS_GD_HI20 three linked_tls_gd
    by false one false two false three = refl

unlinked_is : (n : ℕ) → is_among (map (λ (l : Line). l.number) lines) n ≡ false → is_linked n ≡ false
unfolding is_linked
unlinked_is n none = none

pub uses_are : (n : ℕ) → is_some (use_of n) ≡ goes_by_got n
unfolding goes_by_got kind_of
uses_are n = by_line lines n all_fit (λ none. unlinked n (unlinked_is n none))
