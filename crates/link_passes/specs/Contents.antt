-- The inputs, and the files of a link, as lists.
use Rattle.std.specs.Prelude.{ℕ, List, map, string_bytes}
use Rattle.std.specs.Global.{Vec}
use Rattle.link_passes.specs.declared.inputs.Inputs.{Inputs}
use Rattle.link_passes.specs.declared.sources.Source.{Source as LentSource}
use Rattle.link_passes.specs.Sources.{Source}

-- the bytes of each buffer
abbrev pub contents_of : List (Vec ℕ) → List (List ℕ)
contents_of buffers = map (λ buffer. buffer.items) buffers

-- the names of the inputs, and their bytes
abbrev pub input_names : Inputs → List (List ℕ)
input_names inputs = map (λ file. string_bytes file.0) inputs.files.items

abbrev pub input_contents : Inputs → List (List ℕ)
input_contents inputs = map (λ file. file.1.items) inputs.files.items

abbrev pub source_view : LentSource → Source
source_view s = record { input = s.input; label = s.label; member = s.member; archive = s.archive; bytes = s.bytes.now; flaw = s.flaw }

abbrev pub sources_of : List LentSource → List Source
sources_of list = map source_view list

-- the names by which files are shown
abbrev pub names_of : List (Vec ℕ) → List (List ℕ)
names_of names = map (λ name. name.items) names
