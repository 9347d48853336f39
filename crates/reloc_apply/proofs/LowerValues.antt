-- A lower part puts a value into its place.
use Rattle.std.proofs.Common.{◌≡◌, ℕ, true, refl, Option, Some, None}
use Rattle.std.specs.Prelude.{IfSome, IsTrue}
use Rattle.lk_base.specs.RelocKinds.{HasValue, has_value, is_lower, is_partner, kind_of, puts_value}
use Rattle.lk_base.specs.declared.relocations.Calculation.{Calculation}
use Rattle.lk_base.specs.declared.relocations.Calculation.TheVariants.{Nothing, Hint, Padding, Address, Distance, Partner, GotDistance, ThreadOffset, Increase, Decrease}

partner_puts : (c : Calculation) → is_partner c ≡ true → IsTrue (puts_value c)
partner_puts Nothing is = cc
partner_puts Hint is = cc
partner_puts Padding is = cc
partner_puts Address is = cc
partner_puts Distance is = cc
partner_puts Partner is = refl
partner_puts GotDistance is = cc
partner_puts ThreadOffset is = cc
partner_puts Increase is = cc
partner_puts Decrease is = cc

pub lower_has : (kind : ℕ) → is_lower kind ≡ true → HasValue kind
unfolding is_lower has_value
lower_has kind is = partner_puts (kind_of kind).calculation is

-- what holds anyway holds of what an option has
pub of_any : {X : Type 0} (o : Option X) (P : Type 0) → P → IfSome o (λ _. P)
of_any None P p = tt
of_any (Some x) P p = p
