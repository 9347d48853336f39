-- Why a section is kept, and why two are not folded, as text.
use Rattle.std.specs.Prelude.{ℕ, ◌||◌, ◌==◌, not, Bool, Option, Some, None, is_some, if◌then◌else◌, List, [], ◌∷◌, ◌++◌, length, flat_map, codes, decimal, slice_get, slice_index_or}
use Rattle.lk_base.specs.Lines.{escaped}
use Rattle.lk_tables.specs.Binding.{Bindings}
use Rattle.lk_tables.specs.Files.{File}
use Rattle.lk_tables.specs.Sites.{place_of as site_of}
use Rattle.asked_names.specs.AskedNames.{named_sections}
use Rattle.link_command.specs.Command.{CommandView}
use Rattle.link_sections.specs.FoldItems.{FoldItem, sections_of}
use Rattle.link_sections.specs.InputSections.{input_at}
use Rattle.link_sections.specs.Merging.{pools_of}
use Rattle.icf_part.specs.Folding.{item_at}
use Rattle.icf_part.specs.Signatures.{place_of}
use Rattle.sec_gc.specs.Roots.{roots}
use Rattle.sec_graph.specs.Foldable.{items}
use Rattle.sec_graph.specs.WalkEdges.{walk_edges}
use Rattle.why_chain.specs.declared.chains.ApartEnd.{ApartEnd}
use Rattle.why_chain.specs.declared.chains.ApartEnd.TheVariants as ends
use Rattle.why_chain.specs.declared.pairs.Pair.{Pair}
use Rattle.why_chain.specs.Aparts.{Chain, apart_chain, next_pair, two_items}
use Rattle.why_chain.specs.Walks.{live_chain}

-- a word and one name, or two, as a line
abbrev pub name_line : (word name : List ℕ) → List ℕ
name_line word name = word ++ escaped name ++ codes "\n"

abbrev pub names_line : (word one two : List ℕ) → List ℕ
names_line word one two = word ++ escaped one ++ codes " " ++ escaped two ++ codes "\n"

-- the section in which a name stands
abbrev pub section_of : List File → Bindings → (name : List ℕ) → Option ℕ
section_of files b name = slice_get (named_sections files b (name ∷ [])) 0

-- a walk from a root to a section, whatever is kept
abbrev pub walk_to : List File → Bindings → (undefined : List (List ℕ)) → (section : ℕ) → Option (List ℕ)
walk_to files b undefined section = live_chain (roots files b undefined) (walk_edges files b) section

-- where section n stands, after a space: its file as lines show it, and its index
unfoldable pub spot_text : (names : List (List ℕ)) → List File → (n : ℕ) → List ℕ
spot_text names files n = codes " " ++ escaped (slice_index_or names (site_of files n).file []) ++ codes " " ++ decimal (site_of files n).index

module _ (names : List (List ℕ)) (files : List File) (b : Bindings) where
  -- a word and a section as a line
  unfoldable pub section_line : (word : List ℕ) → (n : ℕ) → List ℕ
  section_line word n = word ++ spot_text names files n ++ codes " " ++ escaped (input_at files b n).name ++ codes "\n"

  -- the sections of a walk
  abbrev pub walk_lines : List ℕ → List ℕ
  walk_lines [] = []
  walk_lines (first ∷ rest) = section_line (codes "root") first ++ flat_map (section_line (codes "to")) rest

  -- why the section of a name is kept
  abbrev pub lines_of_walk : (name : List ℕ) → Option (List ℕ) → List ℕ
  lines_of_walk name None = name_line (codes "dead ") name
  lines_of_walk name (Some walk) = name_line (codes "live ") name ++ walk_lines walk

  abbrev pub lines_of_target : (undefined : List (List ℕ)) → (name : List ℕ) → Option ℕ → List ℕ
  lines_of_target undefined name None = name_line (codes "unknown ") name
  lines_of_target undefined name (Some section) = lines_of_walk name (walk_to files b undefined section)

  abbrev pub live_text : (undefined : List (List ℕ)) → Option (List ℕ) → List ℕ
  live_text undefined None = []
  live_text undefined (Some name) = lines_of_target undefined name (section_of files b name)

-- how the last pair differs
abbrev pub end_line : ApartEnd → List ℕ
end_line ends.Key = codes "differ key\n"
end_line (ends.Target k) = codes "differ target " ++ decimal k ++ codes "\n"

module _ (names : List (List ℕ)) (files : List File) (foldable : List FoldItem) where
  -- the two of a pair, after a word
  unfoldable pub pair_line : (word : List ℕ) → Pair → List ℕ
  pair_line word p = word ++ spot_text names files (item_at foldable p.one).section ++ spot_text names files (item_at foldable p.two).section ++ codes "\n"

  -- a pair that is met through relocation k, and those that are met from one on
  abbrev pub met_line : (k : ℕ) → Pair → List ℕ
  met_line k p = codes "via " ++ decimal k ++ pair_line (codes " pair") p

  abbrev pub via_line : (rest : Pair → List ℕ) → (k : ℕ) → Option Pair → List ℕ
  via_line rest k None = []
  via_line rest k (Some q) = met_line k q ++ rest q

  abbrev pub via_lines : (vias : List ℕ) → Pair → List ℕ
  via_lines [] p = []
  via_lines (k ∷ ks) p = via_line (via_lines ks) k (next_pair foldable p k)

  -- why two items are not folded, where two names stand in them
  abbrev pub lines_of_chain : (one two : List ℕ) → Pair → Option Chain → List ℕ
  lines_of_chain one two p None = names_line (codes "same ") one two
  lines_of_chain one two p (Some c) = names_line (codes "apart ") one two ++ pair_line (codes "pair") p ++ via_lines c.vias p ++ end_line c.last

  abbrev pub lines_of_pair : (one two : List ℕ) → Pair → List ℕ
  lines_of_pair one two p = lines_of_chain one two p (apart_chain foldable p.one p.two)

  -- why two sections are not folded
  abbrev pub lines_of_items : (one two : List ℕ) → Option ℕ → Option ℕ → List ℕ
  lines_of_items one two None q = name_line (codes "unfoldable ") one
  lines_of_items one two (Some a) None = name_line (codes "unfoldable ") two
  lines_of_items one two (Some a) (Some c) = lines_of_pair one two (two_items a c)

  abbrev pub lines_of_both : (one two : List ℕ) → (s t : ℕ) → List ℕ
  lines_of_both one two s t = lines_of_items one two (place_of (sections_of foldable) s) (place_of (sections_of foldable) t)

  abbrev pub lines_of_sections : (one two : List ℕ) → Option ℕ → Option ℕ → List ℕ
  lines_of_sections one two None t = name_line (codes "unknown ") one
  lines_of_sections one two (Some s) None = name_line (codes "unknown ") two
  lines_of_sections one two (Some s) (Some t) = lines_of_both one two s t

module _ (names : List (List ℕ)) (files : List File) (b : Bindings) (kept barred : List Bool) where
  -- why the sections of two names are not folded
  abbrev pub text_of_both : (one two : List ℕ) → List ℕ
  text_of_both one two =
      lines_of_sections names files (items files b (pools_of files kept).merged kept barred) one two (section_of files b one) (section_of files b two)

  abbrev pub apart_text : (asked : List (List ℕ)) → List ℕ
  apart_text (one ∷ two ∷ []) = text_of_both one two
  apart_text asked = []

-- a text that says why is asked for
abbrev pub asks_why : CommandView → Bool
asks_why asked = is_some asked.why_live || not (length asked.why_apart == 0)

-- what is said to what is asked for, if these sections are kept, and these are to be folded with no other
unfoldable pub why_text : CommandView → (names : List (List ℕ)) → List File → Bindings → (kept barred : List Bool) → List ℕ
why_text asked names files b kept barred =
    if asks_why asked then live_text names files b asked.undefined asked.why_live ++ apart_text names files b kept barred asked.why_apart else []
