-- What a command asks for, as a function of its words.
use Rattle.std.specs.Prelude.{true, false, ◌==◌, ◌&&◌, ◌||◌, ℕ, Bool, not, List, [], Option, Some, None, is_some, if◌then◌else◌, codes, length, map, option_and_then, option_map, string_bytes, String, unwrap_or, ◌<◌, ◌≤◌, ◌∷◌}
use Rattle.std.specs.List.{list_all}
use Rattle.std.specs.Option.{option_map_or}
use Rattle.std.specs.Global.{Global, Vec}
use Rattle.std.specs.Str.{bytes_eq}
use Rattle.std.specs.Str.Parse.{digits_value, without_leading_plus}
use Rattle.clap.specs.Words.{Row, all_of, first_of, one_of}
use Rattle.link_command.specs.declared.command.Command.{Command}
use Rattle.link_command.specs.declared.command.IcfMode.{IcfMode}
use Rattle.link_command.specs.declared.command.IcfMode.TheVariants.{Off, All, Safe}
use Rattle.link_command.specs.declared.command.Wanted.{Wanted}
use Rattle.link_command.specs.declared.command.Wanted.TheVariants.{Files, Generated}
use Rattle.link_command.specs.Grammar.{taken}

-- what a command asks for: the names of the executable and of the map, the entry symbol, the number of
-- workers, whether sections that nothing refers to are left out, which equal code is folded, whether calls are relaxed, whether symbols are
-- left out, the names that are asked for as by an undefined symbol, the names whose sections are folded with no other, the name of which it is said
-- why its section is kept, the two names of which it is said why their sections are not folded, and what is linked: so many generated objects, or
-- the files of these names
pub record CommandView : Type 0 where
  pub output : List ℕ
  pub map : Option (List ℕ)
  pub entry : List ℕ
  pub threads : ℕ
  pub gc : Bool
  pub icf : IcfMode
  pub relax : Bool
  pub strip : Bool
  pub undefined : List (List ℕ)
  pub unique : List (List ℕ)
  pub why_live : Option (List ℕ)
  pub why_apart : List (List ℕ)
  pub generated : Option ℕ
  pub inputs : List (List ℕ)

-- the bytes of each word
abbrev pub texts_of : List (String Global) → List (List ℕ)
texts_of words = map (λ word. string_bytes word) words

-- the names of the files that are linked
abbrev pub names_of : Wanted → List (List ℕ)
names_of (Files names) = texts_of names.items
names_of (Generated n) = []

-- how many generated objects are linked
abbrev pub generated_of : Wanted → Option ℕ
generated_of (Files names) = None
generated_of (Generated n) = Some n

-- there is something to link: some files, or from 1 to 65536 generated objects
abbrev pub IsWanted : Wanted → Type 0
IsWanted (Files names) = 0 < length names.items
IsWanted (Generated n) = (1 ≤ n) × (n ≤ 65536)

-- whether equal code is folded, and whether only sections are that nothing but calls and jumps refers to
abbrev pub folds : IcfMode → Bool
folds Off = false
folds All = true
folds Safe = true

abbrev pub is_safe : IcfMode → Bool
is_safe Off = false
is_safe All = false
is_safe Safe = true

-- the bytes of each name
abbrev pub lists_of : List (Vec ℕ) → List (List ℕ)
lists_of names = map (λ name. name.items) names

abbrev pub command_view : Command → CommandView
command_view command = record {
  output = string_bytes command.output;
  map = option_map (λ name. string_bytes name) command.map;
  entry = string_bytes command.entry;
  threads = command.threads;
  gc = command.gc;
  icf = command.icf;
  relax = command.relax;
  strip = command.strip;
  undefined = lists_of command.undefined.items;
  unique = lists_of command.unique.items;
  why_live = option_map (λ name. string_bytes name) command.why_live;
  why_apart = lists_of command.why_apart.items;
  generated = generated_of command.inputs;
  inputs = names_of command.inputs;
}

-- the text of an option
abbrev pub text_of : List ℕ → List Row → List ℕ
text_of id rows = unwrap_or (first_of id rows) []

-- the number that `u32` reads from a text
abbrev pub number_of : List ℕ → ℕ
number_of text = digits_value 10 (without_leading_plus text)

-- a flag is on where its text is `true`
abbrev pub is_on : List ℕ → List Row → Bool
is_on id rows = bytes_eq (text_of id rows) (codes "true")

-- the number of workers
abbrev pub workers_in : List Row → ℕ
workers_in rows = option_map_or number_of (one_of (codes "threads") rows) 0

-- how many generated objects are asked for
abbrev pub generated_in : List Row → Option ℕ
generated_in rows = option_map number_of (one_of (codes "self-input") rows)

-- the names of the inputs, in the order of the command
abbrev pub inputs_in : List Row → List (List ℕ)
inputs_in rows = unwrap_or (all_of (codes "files") rows) []

-- what stands between the commas of a text, before the first and after the last of them
abbrev pub comma : ℕ
comma = 44

abbrev pub begun_by : (byte : ℕ) → List (List ℕ) → List (List ℕ)
begun_by byte [] = []
begun_by byte (part ∷ parts) = (byte ∷ part) ∷ parts

abbrev pub parts_of : List ℕ → List (List ℕ)
parts_of [] = [] ∷ []
parts_of (b ∷ bs) = if b == comma then [] ∷ parts_of bs else begun_by b (parts_of bs)

-- the names of an option, none where it is not given
abbrev pub listed_in : List ℕ → List Row → List (List ℕ)
listed_in id rows = option_map_or parts_of (first_of id rows) []

-- the mode of a text that is one
abbrev pub mode_of : List ℕ → IcfMode
mode_of text = if bytes_eq text (codes "all") then All else (if bytes_eq text (codes "safe") then Safe else Off)

-- what clap's rows for the words ask for
abbrev pub read_from : List Row → CommandView
read_from rows = record {
  output = text_of (codes "output") rows;
  map = first_of (codes "map") rows;
  entry = text_of (codes "entry") rows;
  threads = workers_in rows;
  gc = is_on (codes "gc-sections") rows;
  icf = mode_of (text_of (codes "icf") rows);
  relax = not (is_on (codes "no-relax") rows);
  strip = is_on (codes "strip-all") rows;
  undefined = listed_in (codes "undefined") rows;
  unique = listed_in (codes "keep-unique") rows;
  why_live = first_of (codes "why-live") rows;
  why_apart = listed_in (codes "why-apart") rows;
  generated = generated_in rows;
  inputs = inputs_in rows;
}

-- files are given, or generated objects, and not both
abbrev pub has_inputs : CommandView → Bool
has_inputs asked = if is_some asked.generated then length asked.inputs == 0 else not (length asked.inputs == 0)

-- the map has another name than the executable
abbrev pub is_apart : (map : Option (List ℕ)) → (output : List ℕ) → Bool
is_apart None output = true
is_apart (Some map) output = not (bytes_eq map output)

-- no name is empty
abbrev pub are_named : List (List ℕ) → Bool
are_named names = list_all (λ name. not (length name == 0)) names

-- a name is not empty, if there is one; there are two names, neither empty, or none
abbrev pub is_named : Option (List ℕ) → Bool
is_named None = true
is_named (Some name) = not (length name == 0)

abbrev pub are_two : List (List ℕ) → Bool
are_two names = length names == 0 || (length names == 2 && are_named names)

-- the command has one kind of input, an entry, two names for its two files, no empty name in its lists, and names for what is asked of them
abbrev pub is_linkable : CommandView → Bool
is_linkable asked = has_inputs asked && (not (length asked.entry == 0) && (is_apart asked.map asked.output
    && (are_named asked.undefined && (are_named asked.unique
    && (is_named asked.why_live && are_two asked.why_apart)))))

-- the mode of folding is one of the three that there are
abbrev pub is_mode : List ℕ → Bool
is_mode text = bytes_eq text (codes "none") || (bytes_eq text (codes "all") || bytes_eq text (codes "safe"))

abbrev pub tested : (mode : List ℕ) → CommandView → Option CommandView
tested mode asked = if is_mode mode && is_linkable asked then Some asked else None

-- the accepted commands: those that clap takes and that can be linked
unfoldable pub command_of_words : List (List ℕ) → Option CommandView
command_of_words words = option_and_then (λ rows. tested (text_of (codes "icf") rows) (read_from rows)) (taken words)
