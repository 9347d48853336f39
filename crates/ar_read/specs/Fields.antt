-- One header of an archive (System V ar format): 60 bytes of text, which are a name of 16 bytes, date 12, uid 6, gid 6,
-- mode 8, size 10, and the bytes 60 0a. Spaces fill a field up. Date, uid, gid and mode are not read.
use Rattle.std.specs.Prelude.{ℕ, ◌+◌, ◌-◌, ◌*◌, ◌==◌, Bool, not, ◌&&◌, nat_lt, List, [], ◌∷◌, length, take, drop, slice_index, ◌≡◌, Option, Some, None, if◌then◌else◌}
use Rattle.std.specs.Char.{is_ascii_digit}
use Rattle.std.specs.List.{list_all, suffix_len}
use Rattle.lk_base.specs.declared.kinds.DefectKind.TheVariants.{F06}
use Rattle.lk_tables.specs.Checks.{Check, ◌says◌, flaw_at, NoneBroken}
use Rattle.lk_tables.specs.Names.{span}
use Rattle.ar_read.specs.declared.format.TheConstants.{AR_FMAG_AT, AR_FMAG_FIRST, AR_FMAG_SECOND, AR_HDR_LEN, AR_NAME_LEN, AR_SIZE_AT, AR_SIZE_LEN, DIGIT_0, SPACE}
use Rattle.ar_read.specs.declared.headers.ArHead.{ArHead}

abbrev pub is_space : ℕ → Bool
is_space byte = byte == SPACE

-- a field without the spaces at its end
unfoldable pub trimmed : List ℕ → List ℕ
trimmed field = take (length field - suffix_len is_space field) field

-- one or more decimal digits, and nothing else
unfoldable pub is_decimal : List ℕ → Bool
is_decimal text = nat_lt 0 (length text) && list_all is_ascii_digit text

-- the number that decimal digits write, after those of n and alone
abbrev pub number_after : ℕ → List ℕ → ℕ
number_after n [] = n
number_after n (digit ∷ digits) = number_after (10 * n + (digit - DIGIT_0)) digits

unfoldable pub number : List ℕ → ℕ
number digits = number_after 0 digits

-- the number that a text writes, if it is one
unfoldable pub decimal : List ℕ → Option ℕ
decimal text = if is_decimal text then Some (number text) else None

-- fields of the header at an offset
unfoldable pub name_text : List ℕ → ℕ → List ℕ
name_text b at = trimmed (take AR_NAME_LEN (drop at b))

unfoldable pub size_text : List ℕ → ℕ → List ℕ
size_text b at = trimmed (take AR_SIZE_LEN (drop (at + AR_SIZE_AT) b))

abbrev pub size : List ℕ → ℕ → ℕ
size b at = number (size_text b at)

-- a header cut off, without the bytes 60 0a at its end, whose size is no number, or whose data end past the file
unfoldable pub form_checks : List ℕ → ℕ → List Check
form_checks b at =
    (nat_lt (length b) (at + AR_HDR_LEN) says flaw_at F06 0 at)
    ∷ (not (slice_index b (at + AR_FMAG_AT) == AR_FMAG_FIRST && slice_index b (at + AR_FMAG_AT + 1) == AR_FMAG_SECOND) says flaw_at F06 0 at)
    ∷ (not (is_decimal (size_text b at)) says flaw_at F06 0 at)
    ∷ (nat_lt (length b) (at + AR_HDR_LEN + size b at) says flaw_at F06 0 at)
    ∷ []

-- what the header says: its name, and the data after it
unfoldable pub head_of : List ℕ → ℕ → ArHead
head_of b at = record { name = span at (length (name_text b at)); body = span (at + AR_HDR_LEN) (size b at) }

-- a sound header stands there, and says this
pub record HeaderAt (b : List ℕ) (at : ℕ) (head : ArHead) : Type 0 where
  pub fields : head ≡ head_of b at
  pub sound : NoneBroken (form_checks b at)
