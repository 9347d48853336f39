use Rattle.std.proofs.Common.{◌≡◌, ◌<◌, ◌^◌, drop, ℕ, List}
use Rattle.lk_tables.specs.OutputNames.{number_of}
use Rattle.lk_tables.proofs.output_names.number_of.Given as goal

pub record Read (number index : ℕ) (digits : List ℕ) : Type 0 where
  pub small : number < 10 ^ index
  pub value : number_of (drop index digits) number ≡ number_of digits 0

abbrev pub invariant-loop-digit : goal.invariant-loop-digit
invariant-loop-digit l = Read l.number l.digit-index l.digits
