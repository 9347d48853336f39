use Rattle.std.proofs.Common.{◌≡◌, ◌<◌, ◌^◌, ℕ, List}
use Rattle.symbol_table.specs.NameKeys.{key_to}
use Rattle.symbol_table.proofs.name_keys.key_of.Given as goal

pub record Read (name : List ℕ) (at key : ℕ) : Type 0 where
  pub small : key < 256 ^ at
  pub value : key ≡ key_to name at

abbrev pub invariant-loop-at : goal.invariant-loop-at
invariant-loop-at l = Read l.name l.at l.key
