-- The numbers of output sections that are noted by their names and classes.
use Rattle.std.specs.Prelude.{◌≡◌, ℕ, ◌==◌, ◌&&◌, Bool, Option, List}
use Rattle.std.specs.Borrow.{Bor}
use Rattle.std.specs.HashMap.{HashMap, get_by}
use Rattle.std.specs.Str.{bytes_eq}
use Rattle.lk_tables.specs.Classes.{class_no}
use Rattle.link_sections.specs.LaidOut.{OutputSection}
use Rattle.symbol_table.specs.declared.outputs.Outputs.{Outputs}
use Rattle.symbol_table.specs.Outputs.{first_passing}

abbrev pub HeldKey : Type 0
HeldKey = Bor (List ℕ) × ℕ

-- what is noted of a name and a class
unfoldable pub noted : {S : Type 0} → HashMap HeldKey ℕ S → (name : List ℕ) → (class : ℕ) → Option ℕ
noted known name class = get_by (λ k. bytes_eq name k.0.now && class == k.1) known

-- by name and class the number of each output section
abbrev pub output_numbers : Outputs → (name : List ℕ) → (class : ℕ) → Option ℕ
output_numbers outputs = noted outputs.known

abbrev pub has : (name : List ℕ) → (class : ℕ) → OutputSection → Bool
has name class o = class_no o.class == class && bytes_eq name o.name

-- of each name and class the number of the first such output section, where the first of all has this number
abbrev pub AreNoted : (number : ℕ) → List OutputSection → (List ℕ → ℕ → Option ℕ) → Type 0
AreNoted number outputs of = (name : List ℕ) (class : ℕ) → of name class ≡ first_passing (has name class) number outputs
