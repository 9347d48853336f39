-- Names that two strong offers define: the least of the first offers, with the next offer after it.
use Rattle.std.specs.Prelude.{ℕ, Bool, ◌&&◌, ◌==◌, nat_lt, if◌then◌else◌, Option, Some, None, List, [], ◌∷◌}
use Rattle.claim_core.specs.declared.events.Event.{Event}
use Rattle.lk_base.specs.declared.defects.Defect.{Defect}
use Rattle.lk_base.specs.declared.kinds.TheConstants.{DUPLICATE}
use Rattle.lk_tables.specs.Ranks.{no_rank, class_of_rank, file_of, symbol_of_rank}
use Rattle.sym_resolve.specs.declared.duplicates.Clash.{Clash}
use Rattle.sym_resolve.specs.Claims.{rank_at}

abbrev pub clash : ℕ → ℕ → Clash
clash first next = record { first = first; next = next }

abbrev pub no_clash : Clash
no_clash = clash no_rank no_rank

-- a strong offer after the least of its word clashes with it
abbrev pub is_clash : List ℕ → Event → Bool
is_clash row e = nat_lt (rank_at row e.word) e.rank && class_of_rank e.rank == 0

-- the clash of which the first offer is least; of those of one word the first that is met
abbrev pub lesser_clash : List ℕ → Clash → Event → Clash
lesser_clash row best e = if is_clash row e && nat_lt (rank_at row e.word) best.first then clash (rank_at row e.word) e.rank else best

abbrev pub least_clash : List ℕ → Clash → List Event → Clash
least_clash row best [] = best
least_clash row best (e ∷ es) = least_clash row (lesser_clash row best e) es

-- the defect that reports it
abbrev pub defect_of : Clash → Option Defect
defect_of c = if c.first == no_rank then None else Some (record {
  kind = DUPLICATE;
  file = file_of c.first;
  section = 0;
  place = symbol_of_rank c.first;
  symbol = symbol_of_rank c.first;
  other = file_of c.next;
})
