-- The sections of a file that is added to a link are few.
use Rattle.std.proofs.Common.{◌≡◌, ℕ, ◌≤◌, ◌^◌, List, length, arith, Option, Some, None, Ok}
use Rattle.std.specs.Prelude.{IfSome}
use Rattle.lk_tables.specs.declared.heads.Head.{Head}
use Rattle.lk_tables.specs.Gathering.{head_or_none}
use Rattle.lk_tables.specs.Heads.{head_of, head_view}
use Rattle.lk_tables.proofs.SoundHead.{head_of_is}

pub few_added : (b : List ℕ) (head : Option Head) → IfSome head (λ h. head_of b ≡ Ok (head_view h)) → length (head_or_none head).sections ≤ 2 ^ 28
few_added b None is = omega arith
few_added b (Some head) is = (head_of_is b (head_view head) is).few
