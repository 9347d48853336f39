-- The cuts of the sections from one on and before another, as rows.
use Rattle.std.specs.Prelude.{◌≡◌, ℕ, ◌-◌, List, map}
use Rattle.std.specs.List.{All, range_with_len}
use Rattle.lk_tables.specs.Files.{File}
use Rattle.lk_tables.specs.Sites.{relocs_of}
use Rattle.link_sections.specs.declared.cuts.Cut.{Cut as HeldCut}
use Rattle.link_sections.specs.Cuts.{Cut}
use Rattle.link_sections.specs.CutsView.{AreCuts, cut_views}
use Rattle.output_sections.specs.declared.rows.Row.{Row}
use Rattle.relax.specs.declared.calls.Call.{Call}
use Rattle.relax.specs.CallSizes.{cuts_by, place_in, size_in}

-- the cuts of section n
abbrev pub cuts_at : List File → List Row → List (List Call) → (z : List ℕ) → (n : ℕ) → List Cut
cuts_at files ms calls z n = cuts_by (size_in calls z (place_in ms n)) (relocs_of files n)

pub record AreCutRows (files : List File) (ms : List Row) (calls : List (List Call)) (z : List ℕ) (a b : ℕ) (rows : List (List HeldCut)) : Type 0 where
  pub views : map cut_views rows ≡ map (cuts_at files ms calls z) (range_with_len a (b - a))
  pub sound : All AreCuts rows
