-- Keys as lists of their texts and their places; and those of runs of files, one after the other.
use Rattle.std.specs.Prelude.{◌≡◌, ℕ, ◌-◌, List, [], ◌++◌, map, flat_map}
use Rattle.std.specs.List.{range_with_len}
use Rattle.lk_tables.specs.Files.{File}
use Rattle.name_numbers.specs.declared.keys.Keys.{Keys}
use Rattle.name_numbers.specs.declared.keys.Listed.{Listed}
use Rattle.name_numbers.specs.Keys.{KeyView, firsts_in, keys_in, place_of_key, text_of_key}
use Rattle.name_numbers.specs.Texts.{lent_texts}

-- the lists are of these keys
pub record AreKeys (list : List KeyView) (columns : Keys) : Type 0 where
  pub texts : lent_texts columns.texts.items ≡ map text_of_key list
  pub symbols : columns.symbols.items ≡ map place_of_key list

-- these keys come after those that were there
abbrev pub Appends : List KeyView → (old new : Keys) → Type 0
Appends more old new = (list : List KeyView) → AreKeys list old → AreKeys (list ++ more) new

-- what is listed, list by list
abbrev pub texts_of : Listed → List (List ℕ)
texts_of listed = lent_texts listed.keys.texts.items

abbrev pub symbols_of : Listed → List ℕ
symbols_of listed = listed.keys.symbols.items

abbrev pub firsts_of : Listed → List ℕ
firsts_of listed = listed.firsts.items

pub record IsEmpty (listed : Listed) : Type 0 where
  pub texts : texts_of listed ≡ []
  pub symbols : symbols_of listed ≡ []
  pub firsts : firsts_of listed ≡ []

-- the keys of the files from one on and before another, and the first of its span for each of their symbols
pub record HasKeys (files : List File) (from to : ℕ) (listed : Listed) : Type 0 where
  pub own : AreKeys (flat_map (keys_in files) (range_with_len from (to - from))) listed.keys
  pub firsts : firsts_of listed ≡ flat_map (firsts_in files) (range_with_len from (to - from))

-- these keys and firsts in several runs, one after the other
pub record AreRuns (files : List File) (from to : ℕ) (runs : List Listed) : Type 0 where
  pub texts : flat_map texts_of runs ≡ flat_map (λ f. map text_of_key (keys_in files f)) (range_with_len from (to - from))
  pub symbols : flat_map symbols_of runs ≡ flat_map (λ f. map place_of_key (keys_in files f)) (range_with_len from (to - from))
  pub firsts : flat_map firsts_of runs ≡ flat_map (firsts_in files) (range_with_len from (to - from))

-- one run after what was there, and all of them
pub record Joins (run old new : Listed) : Type 0 where
  pub texts : texts_of new ≡ texts_of old ++ texts_of run
  pub symbols : symbols_of new ≡ symbols_of old ++ symbols_of run
  pub firsts : firsts_of new ≡ firsts_of old ++ firsts_of run

pub record IsJoin (runs : List Listed) (whole : Listed) : Type 0 where
  pub texts : texts_of whole ≡ flat_map texts_of runs
  pub symbols : symbols_of whole ≡ flat_map symbols_of runs
  pub firsts : firsts_of whole ≡ flat_map firsts_of runs
