-- The line of a defect, and names as lines show them. The forms are the project's own.
use Rattle.std.specs.Prelude.{◌≡◌, ℕ, ◌<◌, All, ◌/◌, ◌%◌, ◌==◌, ◌&&◌, Bool, not, if◌then◌else◌, nat_le, List, [], ◌∷◌, ◌++◌, codes, slice_index}
use Rattle.std.specs.Fmt.{decimal}
use Rattle.std.specs.List.{AllPass, flat_map}
use Rattle.lk_base.specs.Kinds.{code_of, names_other_file, word_of}
use Rattle.lk_base.specs.declared.defects.Defect.{Defect}
use Rattle.lk_base.specs.declared.kinds.DefectKind.{DefectKind}
use Rattle.lk_base.specs.declared.numbers.TheConstants.{NO_FILE}

-- a byte that stands for itself: 0x21 to 0x7e, but not the percent sign
abbrev pub is_plain : ℕ → Bool
is_plain byte = nat_le 0x21 byte && (nat_le byte 0x7e && not (byte == 0x25))

-- an upper-case hexadecimal digit
abbrev pub hex_digit : ℕ → ℕ
hex_digit digit = slice_index (codes "0123456789ABCDEF") digit

-- a byte as a line shows it: itself, or a percent sign and two hexadecimal digits
abbrev pub escaped_byte : ℕ → List ℕ
escaped_byte byte =
    if is_plain byte then byte ∷ [] else codes "%" ++ hex_digit (byte / 16) ∷ hex_digit (byte % 16) ∷ []

-- a name as a line shows it
abbrev pub escaped : List ℕ → List ℕ
escaped name = flat_map escaped_byte name

-- the name is known from what is shown: no other name of bytes is shown so
pub record IsRecoverable (name : List ℕ) : Type 0 where
  pub alone : (other : List ℕ) → All (λ b. b < 256) other → escaped other ≡ escaped name → other ≡ name

-- how a line starts
abbrev pub title_of : DefectKind → List ℕ
title_of kind = codes "rvld: " ++ code_of kind ++ codes " " ++ word_of kind

-- the file's name, or a dash if there is no file
abbrev pub shown_file : ℕ → List ℕ → List ℕ
shown_file number file = if number == NO_FILE then codes "-" else escaped file

-- the other file's name for a duplicate, and a number for each other kind
abbrev pub shown_other : Defect → List ℕ → List ℕ
shown_other defect other = if names_other_file defect.kind then escaped other else decimal defect.other

-- the line without its newline
abbrev pub line_text : Defect → List ℕ → List ℕ → List ℕ → List ℕ
line_text defect file name other = title_of defect.kind
    ++ codes " file=" ++ shown_file defect.file file
    ++ codes " section=" ++ decimal defect.section
    ++ codes " place=" ++ decimal defect.place
    ++ codes " name=" ++ escaped name
    ++ codes " other=" ++ shown_other defect other

-- the whole line
abbrev pub defect_line : Defect → List ℕ → List ℕ → List ℕ → List ℕ
defect_line defect file name other = line_text defect file name other ++ codes "\n"

-- a byte that a terminal shows: 0x20 to 0x7e
abbrev pub is_shown : ℕ → Bool
is_shown byte = nat_le 0x20 byte && nat_le byte 0x7e

-- one line: bytes that a terminal shows, and a newline at the end
pub record IsOneLine (line : List ℕ) : Type 0 where
  pub text : List ℕ
  pub ends : line ≡ text ++ codes "\n"
  pub shown : AllPass is_shown text
