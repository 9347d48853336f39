-- Laws of Link's own words, which hold at every end of a run.
use Rattle.std.proofs.Common.{◌≡◌, ℕ, ◌<◌, ◌^◌, Bool, true, false, List, [], ◌∷◌, length, map, refl, ap, ◌∙◌, arith}
use Rattle.std.specs.Prelude.{Some, if◌then◌else◌}
use Rattle.std.specs.List.{range_with_len, sum}
use Rattle.std.proofs.lemmas.List.FromFn.{length-map-range_with_len}
use Rattle.comdat.specs.Discarded.{discarded}
use Rattle.file_live.specs.Live.{IsLive}
use Rattle.file_live.specs.Order.{StandsAnywhere}
use Rattle.file_live.proofs.AnyOrder.{stands_anywhere}
use Rattle.file_live.proofs.Asking.{asked_within}
use Rattle.file_live.proofs.Pulling.{pull_within}
use Rattle.file_live.proofs.Rounds.{live_of_least}
use Rattle.lk_base.specs.declared.defects.Defect.{Defect}
use Rattle.lk_base.specs.Limits.{standard}
use Rattle.lk_tables.specs.Files.{File, symbol_total}
use Rattle.sym_resolve.specs.Law.{IsLawful}
use Rattle.sym_resolve.proofs.Lawful.{lawful}
use Rattle.link_command.specs.Command.{CommandView}
use Rattle.link_passes.specs.Given.{contents_for}
use Rattle.link_driver.specs.Laws.{AreCounted, AreLeast, with_workers}
use Rattle.link_driver.specs.Certificates.{why_text}
use Rattle.link_passes.specs.Passes.{bound_names}
use Rattle.link_driver.specs.Link.{defects_in, executable_in, line_of_defect, link, link_with, map_in, report_in, say_in}
use Rattle.link_passes.specs.Sources.{Source, files_in, has_body, headed, heads_in, live_in, opened, opened_files, sources, with_body}
use Rattle.link_passes.proofs.Opened.{how_many}

-- a body adds no symbol
abbrev symbols_of : File → ℕ
symbols_of file = length file.head.symbols

same_symbols : (on : Bool) (file : File) → symbols_of (if on then with_body file else file) ≡ symbols_of file
same_symbols true file = refl
same_symbols false file = refl

counts_same : (ss : List Source) (live : List Bool) (fs : List ℕ) → map symbols_of (map (opened ss live) fs) ≡ map symbols_of (map (headed ss) fs)
counts_same ss live [] = refl
counts_same ss live (f ∷ fs) =
    ap (λ n. n ∷ map symbols_of (map (opened ss live) fs)) (same_symbols (has_body ss live f) (headed ss f))
    ∙ ap (λ ns. symbols_of (headed ss f) ∷ ns) (counts_same ss live fs)

total_same : (undefined : List (List ℕ)) (ss : List Source) → symbol_total (files_in undefined ss) ≡ symbol_total (heads_in ss)
unfolding opened_files heads_in
total_same undefined ss = ap sum (counts_same ss (live_in undefined ss) (range_with_len 0 (length ss)))

file_count : (undefined : List (List ℕ)) (ss : List Source) → length (files_in undefined ss) ≡ length ss
unfolding opened_files
file_count undefined ss = length-map-range_with_len (opened ss (live_in undefined ss)) 0 (length ss)

pub few_files : (undefined : List (List ℕ)) (ss : List Source) → AreCounted ss → length (files_in undefined ss) < 2 ^ 24
few_files undefined ss few = omega (arith, file_count undefined ss, few.files)

pub few_symbols : (undefined : List (List ℕ)) (ss : List Source) → AreCounted ss → symbol_total (files_in undefined ss) < 2 ^ 31
few_symbols undefined ss few = omega (arith, total_same undefined ss, few.symbols)

module _ (undefined : List (List ℕ)) (ss : List Source) (few : AreCounted ss) where
  few_heads : length (heads_in ss) < 2 ^ 24
  few_heads = omega (arith, how_many ss, few.files)

  few_named : symbol_total (heads_in ss) < 2 ^ 31
  few_named = omega (arith, few.symbols)

  -- the files that take part are the least closed set
  pub least_files : IsLive undefined (heads_in ss) (live_in undefined ss)
  unfolding live_in
  least_files =
      live_of_least undefined (heads_in ss) (pull_within (heads_in ss) few_heads few_named) (asked_within undefined (heads_in ss) few_heads few_named)

  -- whichever way the objects stand among the archives
  pub any_place : StandsAnywhere undefined (heads_in ss)
  any_place = stands_anywhere undefined (heads_in ss) few_heads few_named

  -- each name is bound to its least offer
  pub least_offers : (entry : List ℕ) → IsLawful (files_in undefined ss) (discarded (files_in undefined ss)) entry (bound_names (files_in undefined ss) entry)
  unfolding bound_names
  least_offers entry =
      lawful (files_in undefined ss) (discarded (files_in undefined ss)) (few_files undefined ss few) (few_symbols undefined ss few) entry

pub are_least : (asked : CommandView) (ss : List Source) → AreCounted ss → AreLeast asked ss
are_least asked ss few = record { taking_part = least_files asked.undefined ss few; anywhere = any_place asked.undefined ss few; bound = least_offers asked.undefined ss few asked.entry }

-- no definition of Link reads the number of workers
same_line : (asked : CommandView) (inputs : List (List ℕ)) (n : ℕ) (ds : List Defect) → link_with (with_workers n asked) inputs ds ≡ link_with asked inputs ds
unfolding executable_in map_in say_in report_in why_text line_of_defect
same_line asked inputs n [] = refl
same_line asked inputs n (d ∷ ds) = refl

pub link_of_any : (asked : CommandView) (given : List (List ℕ)) (n : ℕ) → link (Some (with_workers n asked)) given ≡ link (Some asked) given
unfolding link defects_in
link_of_any asked given n =
    same_line asked (contents_for asked given) n (defects_in standard asked (sources standard (contents_for asked given)))
