-- How a defect's kind is shown.
use Rattle.std.specs.Prelude.{ℕ, Bool, true, false, List, codes}
use Rattle.lk_base.specs.declared.kinds.DefectKind.{DefectKind}
use Rattle.lk_base.specs.declared.kinds.DefectKind.TheVariants.{F01, F02, F03, F04, F05, F06, F07, F08, F09, F10, F11, F12, F13, F14, F15, F16, F17, F18, F19, F20, F21, F22, F23, F24, F25, F26, F27}

-- the kind's code: the letter F and two digits
abbrev pub code_of : DefectKind → List ℕ
code_of F01 = codes "F01"
code_of F02 = codes "F02"
code_of F03 = codes "F03"
code_of F04 = codes "F04"
code_of F05 = codes "F05"
code_of F06 = codes "F06"
code_of F07 = codes "F07"
code_of F08 = codes "F08"
code_of F09 = codes "F09"
code_of F10 = codes "F10"
code_of F11 = codes "F11"
code_of F12 = codes "F12"
code_of F13 = codes "F13"
code_of F14 = codes "F14"
code_of F15 = codes "F15"
code_of F16 = codes "F16"
code_of F17 = codes "F17"
code_of F18 = codes "F18"
code_of F19 = codes "F19"
code_of F20 = codes "F20"
code_of F21 = codes "F21"
code_of F22 = codes "F22"
code_of F23 = codes "F23"
code_of F24 = codes "F24"
code_of F25 = codes "F25"
code_of F26 = codes "F26"
code_of F27 = codes "F27"

-- the kind's word
abbrev pub word_of : DefectKind → List ℕ
word_of F01 = codes "NotObject"
word_of F02 = codes "BadHeader"
word_of F03 = codes "Outside"
word_of F04 = codes "BadSection"
word_of F05 = codes "Compressed"
word_of F06 = codes "BadArchive"
word_of F07 = codes "Thin"
word_of F08 = codes "Limit"
word_of F09 = codes "BadSymbol"
word_of F10 = codes "BadName"
word_of F11 = codes "BadReloc"
word_of F12 = codes "RelocKind"
word_of F13 = codes "BadGroup"
word_of F14 = codes "BadUleb"
word_of F15 = codes "BadAlignment"
word_of F16 = codes "FlagsClash"
word_of F17 = codes "Ifunc"
word_of F18 = codes "BsdName"
word_of F19 = codes "BadFrame"
word_of F20 = codes "Duplicate"
word_of F21 = codes "NoEntry"
word_of F22 = codes "Undefined"
word_of F23 = codes "TooBig"
word_of F24 = codes "Range"
word_of F25 = codes "Odd"
word_of F26 = codes "NoPartner"
word_of F27 = codes "NopsShort"

-- the line shows the name of the defect's symbol
abbrev pub names_symbol : DefectKind → Bool
names_symbol F20 = true
names_symbol F22 = true
names_symbol F24 = true
names_symbol F25 = true
names_symbol F26 = true
names_symbol _ = false

-- the line shows the entry symbol's name
abbrev pub names_entry : DefectKind → Bool
names_entry F21 = true
names_entry _ = false

-- the line shows the name of another file
abbrev pub names_other_file : DefectKind → Bool
names_other_file F20 = true
names_other_file _ = false
