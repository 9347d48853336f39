-- The class of a section.
use Rattle.std.proofs.Common.{◌≡◌, ◌≢◌, ℕ, ◌&&◌, not, Bool, true, false, refl, sym, ◌∙◌}
use Rattle.std.proofs.lemmas.Bool.{eqb-true, false≢true}
use Rattle.lk_base.specs.declared.abi.TheConstants.{SHT_NOBITS}
use Rattle.lk_tables.specs.declared.classes.Class.{Class}
use Rattle.lk_tables.specs.declared.classes.Class.TheVariants.{R, Rx, TlsBits, TlsNobits, RwBits, RwNobits}
use Rattle.lk_tables.specs.Classes.{is_in, is_nobits, is_tls, may_execute, may_write}

abbrev bools_in : Class → (t w x n : Bool) → Bool
bools_in R t w x n = not t && not w && not x
bools_in Rx t w x n = not t && not w && x
bools_in TlsBits t w x n = t && not n
bools_in TlsNobits t w x n = t && n
bools_in RwBits t w x n = not t && w && not n
bools_in RwNobits t w x n = not t && w && n

abbrev bools_of : (t w x n : Bool) → Class
bools_of true w x true = TlsNobits
bools_of true w x false = TlsBits
bools_of false true x true = RwNobits
bools_of false true x false = RwBits
bools_of false false true n = Rx
bools_of false false false n = R

bools_class : (c : Class) (t w x n : Bool) → bools_in c t w x n ≡ true → bools_of t w x n ≡ c
bools_class R true w x true is = absurd (false≢true is)
bools_class R true w x false is = absurd (false≢true is)
bools_class R false true x true is = absurd (false≢true is)
bools_class R false true x false is = absurd (false≢true is)
bools_class R false false true n is = absurd (false≢true is)
bools_class R false false false n is = refl
bools_class Rx true w x true is = absurd (false≢true is)
bools_class Rx true w x false is = absurd (false≢true is)
bools_class Rx false true x true is = absurd (false≢true is)
bools_class Rx false true x false is = absurd (false≢true is)
bools_class Rx false false true n is = refl
bools_class Rx false false false n is = absurd (false≢true is)
bools_class TlsBits true w x true is = absurd (false≢true is)
bools_class TlsBits true w x false is = refl
bools_class TlsBits false true x true is = absurd (false≢true is)
bools_class TlsBits false true x false is = absurd (false≢true is)
bools_class TlsBits false false true n is = absurd (false≢true is)
bools_class TlsBits false false false n is = absurd (false≢true is)
bools_class TlsNobits true w x true is = refl
bools_class TlsNobits true w x false is = absurd (false≢true is)
bools_class TlsNobits false true x true is = absurd (false≢true is)
bools_class TlsNobits false true x false is = absurd (false≢true is)
bools_class TlsNobits false false true n is = absurd (false≢true is)
bools_class TlsNobits false false false n is = absurd (false≢true is)
bools_class RwBits true w x true is = absurd (false≢true is)
bools_class RwBits true w x false is = absurd (false≢true is)
bools_class RwBits false true x true is = absurd (false≢true is)
bools_class RwBits false true x false is = refl
bools_class RwBits false false true n is = absurd (false≢true is)
bools_class RwBits false false false n is = absurd (false≢true is)
bools_class RwNobits true w x true is = absurd (false≢true is)
bools_class RwNobits true w x false is = absurd (false≢true is)
bools_class RwNobits false true x true is = refl
bools_class RwNobits false true x false is = absurd (false≢true is)
bools_class RwNobits false false true n is = absurd (false≢true is)
bools_class RwNobits false false false n is = absurd (false≢true is)

in_bools : (c : Class) (sh_type flags : ℕ) → is_in c sh_type flags ≡ bools_in c (is_tls flags) (may_write flags) (may_execute flags) (is_nobits sh_type)
unfolding is_in
in_bools R sh_type flags = refl
in_bools Rx sh_type flags = refl
in_bools TlsBits sh_type flags = refl
in_bools TlsNobits sh_type flags = refl
in_bools RwBits sh_type flags = refl
in_bools RwNobits sh_type flags = refl

-- a section is of one class alone
pub one_class : (c d : Class) (sh_type flags : ℕ) → is_in c sh_type flags ≡ true → is_in d sh_type flags ≡ true → c ≡ d
one_class c d sh_type flags one other =
    sym (bools_class c (is_tls flags) (may_write flags) (may_execute flags) (is_nobits sh_type) (sym (in_bools c sh_type flags) ∙ one))
    ∙ bools_class d (is_tls flags) (may_write flags) (may_execute flags) (is_nobits sh_type) (sym (in_bools d sh_type flags) ∙ other)

some_bools : (t w x n : Bool) → (c : Class) × (bools_in c t w x n ≡ true)
some_bools true w x true = (TlsNobits, refl)
some_bools true w x false = (TlsBits, refl)
some_bools false true x true = (RwNobits, refl)
some_bools false true x false = (RwBits, refl)
some_bools false false true n = (Rx, refl)
some_bools false false false n = (R, refl)

pub class_some : (sh_type flags : ℕ) → (c : Class) × (is_in c sh_type flags ≡ true)
class_some sh_type flags =
    let some = some_bools (is_tls flags) (may_write flags) (may_execute flags) (is_nobits sh_type) in
    (some.0, in_bools some.0 sh_type flags ∙ some.1)

-- one with bytes in the file
abbrev pub HasBits : Class → Type 0
HasBits R = Unit {0}
HasBits Rx = Unit {0}
HasBits TlsBits = Unit {0}
HasBits TlsNobits = ⊥
HasBits RwBits = Unit {0}
HasBits RwNobits = ⊥

no_bits : (t n : Bool) → (t && n) ≡ true → n ≡ true
no_bits true n is = is
no_bits false n is = absurd (false≢true is)

pub class_bits : (c : Class) (sh_type flags : ℕ) → is_in c sh_type flags ≡ true → sh_type ≢ SHT_NOBITS → HasBits c
class_bits R sh_type flags is bits = tt
class_bits Rx sh_type flags is bits = tt
class_bits TlsBits sh_type flags is bits = tt
class_bits TlsNobits sh_type flags is bits =
    bits (eqb-true sh_type SHT_NOBITS (no_bits (is_tls flags) (is_nobits sh_type) (sym (in_bools TlsNobits sh_type flags) ∙ is)))
class_bits RwBits sh_type flags is bits = tt
class_bits RwNobits sh_type flags is bits =
    bits (eqb-true sh_type SHT_NOBITS (last (not (is_tls flags)) (may_write flags) (is_nobits sh_type) (sym (in_bools RwNobits sh_type flags) ∙ is)))
  where
    last : (t w n : Bool) → (t && w && n) ≡ true → n ≡ true
    last true true n is = is
    last true false n is = absurd (false≢true is)
    last false w n is = absurd (false≢true is)
