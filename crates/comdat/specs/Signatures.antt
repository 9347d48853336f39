-- The signatures of COMDAT groups, in the order of the groups.
use Rattle.std.specs.Prelude.{ℕ, List, [], map, slice_index_or}
use Rattle.comdat.specs.Discarded.{Comdat}

abbrev pub no_comdat : Comdat
no_comdat = record { file = 0; section = 0; signature = []; members = [] }

-- group j of a list
abbrev pub group_at : List Comdat → ℕ → Comdat
group_at groups j = slice_index_or groups j no_comdat

abbrev pub signatures : List Comdat → List (List ℕ)
signatures groups = map (λ g. g.signature) groups
