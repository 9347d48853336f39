-- What is said of a link of generated objects. The form is the project's own.
use Rattle.std.specs.Prelude.{ℕ, ◌-◌, not, Bool, Option, List, ◌++◌, codes, decimal, filter, flat_map, length}
use Rattle.std.specs.List.{range_with_len}
use Rattle.lk_base.specs.declared.abi.TheConstants.{IMAGE_BASE}
use Rattle.link_sections.specs.Cuts.{Cut}
use Rattle.link_sections.specs.LaidOut.{LaidOut, cuts_at}
use Rattle.link_sections.specs.Leaders.{leader_at}
use Rattle.link_sections.specs.PoolViews.{PoolView}
use Rattle.lk_tables.specs.Files.{File, section_total}
use Rattle.map_file.specs.MapText.{is_other}

-- the calls of a section that keep less than their eight bytes: its cuts that are no alignments
abbrev pub short_calls : List Cut → List Cut
short_calls cuts = filter (λ (c : Cut). not c.is_align) cuts

-- how many sections are kept
abbrev pub kept_count : (kept : List Bool) → ℕ
kept_count kept = length (filter (λ one. one) kept)

-- in whose places others are written
abbrev pub folded_count : (leaders : List (Option ℕ)) → ℕ
folded_count leaders = length (filter (λ n. is_other (leader_at leaders n) n) (range_with_len 0 (length leaders)))

-- how many calls are shortened
abbrev pub relaxed_count : List File → LaidOut → ℕ
relaxed_count files laid = length (flat_map (λ n. short_calls (cuts_at laid n)) (range_with_len 0 (section_total files)))

-- how many pieces all pools have
abbrev pub piece_total : LaidOut → ℕ
piece_total laid = length (flat_map (λ (p : PoolView). p.pieces) laid.merging.pools)

-- bytes in memory, from the headers on
abbrev pub image_size : LaidOut → ℕ
image_size laid = laid.bounds.image_end - IMAGE_BASE

-- a word and a number
abbrev pub counted : (word : List ℕ) → ℕ → List ℕ
counted word n = word ++ decimal n

-- the line about so many objects
unfoldable pub report_text : List File → (kept : List Bool) → (leaders : List (Option ℕ)) → LaidOut → (objects : ℕ) → List ℕ
report_text files kept leaders laid objects =
    counted (codes "objects ") objects ++ (counted (codes " kept ") (kept_count kept) ++ (counted (codes " folded ") (folded_count leaders)
    ++ (counted (codes " relaxed ") (relaxed_count files laid) ++ (counted (codes " pieces ") (piece_total laid)
    ++ (counted (codes " image ") (image_size laid) ++ codes "\n")))))
