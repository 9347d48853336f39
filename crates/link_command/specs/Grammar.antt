-- The command line of rvld, as a value of the kit's clap: its options, and the words that it takes.
use Rattle.std.specs.Prelude.{◌≡◌, ◌⊎◌, ℕ, List, [], ◌∷◌, Option, Some, None, codes, pos}
use Rattle.clap.specs.Lexer.{usize_max}
use Rattle.clap.specs.Words.{App, IsSignedIn, Kinds, Row, Rule, Text, fault_of, found_of, matches_of, new_app, new_rule, one_of, rows_of, with_rule, without_minus}
use Rattle.clap.specs.declared.builder.ArgAction.TheVariants.{Set, SetTrue}
use Rattle.clap.specs.declared.builder.value_parser.ValueParser.TheVariants.{Signed}
use Rattle.clap.specs.declared.parser.ArgMatches.{ArgMatches}

-- `-o`, `--output FILE`: the executable
abbrev pub output_rule : Rule
output_rule = record (new_rule (codes "output")) {
  short = Some 111;
  long = Some (codes "output");
  action = Some Set;
  defaults = codes "a.out" ∷ [];
}

-- `--Map FILE`: the map file
abbrev pub map_rule : Rule
map_rule = record (new_rule (codes "map")) {
  long = Some (codes "Map");
  action = Some Set;
}

-- `-e`, `--entry NAME`: the symbol at which the executable begins
abbrev pub entry_rule : Rule
entry_rule = record (new_rule (codes "entry")) {
  short = Some 101;
  long = Some (codes "entry");
  action = Some Set;
  defaults = codes "_start" ∷ [];
}

-- `--threads N`: the number of workers
abbrev pub threads_rule : Rule
threads_rule = record (new_rule (codes "threads")) {
  long = Some (codes "threads");
  parser = Some (Signed (pos 1) (pos 64));
  action = Some Set;
  defaults = codes "4" ∷ [];
}

-- `--gc-sections`: sections that nothing refers to are left out
abbrev pub gc_rule : Rule
gc_rule = record (new_rule (codes "gc-sections")) {
  long = Some (codes "gc-sections");
  action = Some SetTrue;
}

-- `--icf MODE`: which equal code is folded, `none`, `all` or `safe`
abbrev pub icf_rule : Rule
icf_rule = record (new_rule (codes "icf")) {
  long = Some (codes "icf");
  action = Some Set;
  defaults = codes "none" ∷ [];
}

-- `--no-relax`: calls keep their bytes
abbrev pub relax_rule : Rule
relax_rule = record (new_rule (codes "no-relax")) {
  long = Some (codes "no-relax");
  action = Some SetTrue;
}

-- `-s`, `--strip-all`: no symbol table
abbrev pub strip_rule : Rule
strip_rule = record (new_rule (codes "strip-all")) {
  short = Some 115;
  long = Some (codes "strip-all");
  action = Some SetTrue;
}

-- `--undefined NAMES`: names that are asked for as by an undefined symbol, between commas
abbrev pub undefined_rule : Rule
undefined_rule = record (new_rule (codes "undefined")) {
  long = Some (codes "undefined");
  action = Some Set;
}

-- `--keep-unique NAMES`: names whose sections are folded with no other, between commas
abbrev pub unique_rule : Rule
unique_rule = record (new_rule (codes "keep-unique")) {
  long = Some (codes "keep-unique");
  action = Some Set;
}

-- `--why-live NAME`: why the section in which a name stands is kept
abbrev pub why_live_rule : Rule
why_live_rule = record (new_rule (codes "why-live")) {
  long = Some (codes "why-live");
  action = Some Set;
}

-- `--why-apart A,B`: why the sections in which two names stand are not folded
abbrev pub why_apart_rule : Rule
why_apart_rule = record (new_rule (codes "why-apart")) {
  long = Some (codes "why-apart");
  action = Some Set;
}

-- `--self-input N`: so many generated objects in place of files
abbrev pub generated_rule : Rule
generated_rule = record (new_rule (codes "self-input")) {
  long = Some (codes "self-input");
  parser = Some (Signed (pos 1) (pos 65536));
  action = Some Set;
}

-- `FILES..`: the inputs
abbrev pub files_rule : Rule
files_rule = record (new_rule (codes "files")) {
  range = Some (record { start_inclusive = 1; end_inclusive = usize_max });
}

-- the command
unfoldable pub rvld_app : App
rvld_app = with_rule (with_rule (with_rule (with_rule (with_rule (with_rule (with_rule (with_rule (with_rule (with_rule (with_rule (with_rule (with_rule (with_rule (new_app (codes "rvld"))
    output_rule) map_rule) entry_rule) threads_rule) gc_rule) icf_rule) relax_rule) strip_rule) undefined_rule) unique_rule) why_live_rule) why_apart_rule) generated_rule) files_rule

-- the rows of a parse
abbrev pub rows_in : ArgMatches → List Row
rows_in matches = rows_of (found_of matches)

-- rows are taken where there is no fault
abbrev pub without_fault : List Row → Kinds → Option (List Row)
without_fault rows [] = Some rows
without_fault rows (kind ∷ kinds) = None

-- the rows that clap gives for these words, where it finds no fault in them
unfoldable pub taken : List Text → Option (List Row)
taken words = without_fault (matches_of rvld_app words) (fault_of rvld_app words)

-- the rows have a number for the option of this id, and it lies in this range
abbrev pub HasNumber : (id : List ℕ) (least most : ℕ) → List Row → Type 0
HasNumber id least most rows = (text : List ℕ) × (one_of id rows ≡ Some (without_minus text))
    × IsSignedIn (pos least) (pos most) text

-- the rows have a number of workers that lies in its range
abbrev pub HasThreads : List Row → Type 0
HasThreads rows = HasNumber (codes "threads") 1 64 rows

-- the rows have no number of generated objects, or one that lies in its range
abbrev pub HasGenerated : List Row → Type 0
HasGenerated rows = (one_of (codes "self-input") rows ≡ None) ⊎ HasNumber (codes "self-input") 1 65536 rows
