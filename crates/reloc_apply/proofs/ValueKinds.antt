-- Which kinds give a value.
use Rattle.std.proofs.Common.{◌≡◌, ℕ, Bool, true, false, not, ◌&&◌, ◌||◌, ◌==◌, if◌then◌else◌, List, [], ◌∷◌, refl, sym, ap, ◌∙◌, Some, None, Option, is_some}
use Rattle.std.specs.Prelude.{ℤ, option_and_then}
use Rattle.std.specs.List.{list_all}
use Rattle.std.proofs.lemmas.Bool.{and_parts, eqb-true}
use Rattle.lk_base.specs.RelocKinds.{is_among, is_partner, is_upper, kind_of, puts_value}
use Rattle.lk_base.specs.declared.abi.TheConstants.{R_RISCV_GOT_HI20, R_RISCV_PCREL_HI20, R_RISCV_TLS_GD_HI20, R_RISCV_TLS_GOT_HI20}
use Rattle.lk_base.specs.declared.relocations.Calculation.{Calculation}
use Rattle.lk_base.specs.declared.relocations.Calculation.TheVariants.{Nothing, Hint, Padding, Address, Distance, Partner, GotDistance, ThreadOffset, Increase, Decrease}
use Rattle.reloc_apply.specs.Values.{computed}

-- a test that each of some numbers passes
pub among_each : (test : ℕ → Bool) (numbers : List ℕ) (n : ℕ) → list_all test numbers ≡ true → is_among numbers n ≡ true → test n ≡ true
among_each test [] n all is = let none : ⊥ = cc in absurd none
among_each test (m ∷ ms) n all is =
    let both = and_parts (test m) (list_all test ms) all in
    one_of (m == n) refl both.0 is (λ more. among_each test ms n both.1 more)
  where
    one_of : (b : Bool) → (m == n) ≡ b → test m ≡ true → (b || is_among ms n) ≡ true → (is_among ms n ≡ true → test n ≡ true) → test n ≡ true
    one_of true e first any rest = ap test (sym (eqb-true m n e)) ∙ first
    one_of false e first any rest = rest any

-- the calculation is done from its own symbol
abbrev pub is_direct : Calculation → Bool
is_direct Address = true
is_direct Distance = true
is_direct GotDistance = true
is_direct ThreadOffset = true
is_direct Increase = true
is_direct Decrease = true
is_direct _ = false

-- it gives no value, or is done from its own symbol or by its partner
abbrev pub is_done : Calculation → Bool
is_done c = not (puts_value c) || (is_direct c || is_partner c)

pub each_done : (c : Calculation) → is_done c ≡ true
each_done Nothing = refl
each_done Hint = refl
each_done Padding = refl
each_done Address = refl
each_done Distance = refl
each_done Partner = refl
each_done GotDistance = refl
each_done ThreadOffset = refl
each_done Increase = refl
each_done Decrease = refl

-- an upper part is done from its own symbol
pub upper_direct : (n : ℕ) → is_upper n ≡ true → is_direct (kind_of n).calculation ≡ true
unfolding is_upper kind_of
upper_direct n upper = among_each (λ m. is_direct (kind_of m).calculation) (R_RISCV_GOT_HI20 ∷ R_RISCV_TLS_GOT_HI20 ∷ R_RISCV_TLS_GD_HI20 ∷ R_RISCV_PCREL_HI20 ∷ []) n refl upper

pub direct_some : (c : Calculation) (x y z u v : ℤ) → is_direct c ≡ true → is_some (computed c x y z u v) ≡ true
direct_some Nothing x y z u v is = cc
direct_some Hint x y z u v is = cc
direct_some Padding x y z u v is = cc
direct_some Address x y z u v is = refl
direct_some Distance x y z u v is = refl
direct_some Partner x y z u v is = cc
direct_some GotDistance x y z u v is = refl
direct_some ThreadOffset x y z u v is = refl
direct_some Increase x y z u v is = refl
direct_some Decrease x y z u v is = refl

by_partner : {X : Type 0} (o : Option X) (give : X → Option ℤ) → ((p : X) → o ≡ Some p → is_some (give p) ≡ true) → is_some (option_and_then give o) ≡ is_some o
by_partner None give each = refl
by_partner (Some p) give each = each p refl

-- a value stands exactly where the kind gives one, and a lower part has a partner
pub some_by : {X : Type 0} (c : Calculation) (x y z u v : ℤ) (o : Option X) (give : X → Option ℤ) → is_done c ≡ true → ((p : X) → o ≡ Some p → is_some (give p) ≡ true) →
    is_some (if is_partner c then option_and_then give o else computed c x y z u v) ≡ (puts_value c && (not (is_partner c) || is_some o))
some_by Nothing x y z u v o give done each = refl
some_by Hint x y z u v o give done each = refl
some_by Padding x y z u v o give done each = refl
some_by Address x y z u v o give done each = refl
some_by Distance x y z u v o give done each = refl
some_by Partner x y z u v o give done each = by_partner o give each
some_by GotDistance x y z u v o give done each = refl
some_by ThreadOffset x y z u v o give done each = refl
some_by Increase x y z u v o give done each = refl
some_by Decrease x y z u v o give done each = refl

pub none_by : (c : Calculation) (x y z u v : ℤ) (o : Option ℤ) → puts_value c ≡ false → (if is_partner c then o else computed c x y z u v) ≡ None
none_by Nothing x y z u v o none = refl
none_by Hint x y z u v o none = refl
none_by Padding x y z u v o none = refl
none_by Address x y z u v o none = cc
none_by Distance x y z u v o none = cc
none_by Partner x y z u v o none = cc
none_by GotDistance x y z u v o none = cc
none_by ThreadOffset x y z u v o none = cc
none_by Increase x y z u v o none = cc
none_by Decrease x y z u v o none = cc
