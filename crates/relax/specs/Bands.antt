-- Calls of which the bytes between their points alone decide the size: even if no call lost any they reach their targets, or even if each lost
-- as many as it can they do not; and the others, which are open.
use Rattle.std.specs.Prelude.{◌≡◌, ℕ, ◌+◌, ◌-◌, ◌*◌, ◌<◌, ◌&&◌, min, not, Bool, true, false, if◌then◌else◌, List, [], ◌∷◌, ◌++◌, length, flat_map, set}
use Rattle.std.specs.List.{All, list_any, range_with_len}
use Rattle.relax.specs.declared.bands.Banded.{Banded}
use Rattle.relax.specs.declared.bands.Open.{Open}
use Rattle.relax.specs.declared.calls.Call.{Call}
use Rattle.relax.specs.declared.jumps.Jump.{Jump}
use Rattle.output_sections.specs.declared.rows.Row.{Row}
use Rattle.relax.specs.CallSizes.{call_no}
use Rattle.relax.specs.Jumps.{AreBelow, AreLawful, IsJump, allows, jump_at, jump_bytes, size_at}
use Rattle.relax.specs.Points.{IsLowJump, jump_of}

-- the bytes between the points of a jump: if no call loses any, and if each call there loses six
abbrev pub span_of : Jump → ℕ
span_of j = j.high.place - j.low.place

abbrev pub least_span : Jump → ℕ
least_span j = span_of j - 6 * (j.high.call - j.low.call + 1)

unfoldable pub is_near : Jump → Bool
is_near j = allows j.least j.forwards (span_of j)

unfoldable pub is_far : Jump → Bool
is_far j = not (allows 4 j.forwards (least_span j))

abbrev pub is_open : Jump → Bool
is_open j = not (is_near j) && not (is_far j)

-- the size from which rounds begin
abbrev pub first_size : Jump → ℕ
first_size j = if is_far j then 8 else j.least

abbrev pub open_if : (call : ℕ) → Jump → List Open
open_if call j = if is_open j then record { call = call; jump = j } ∷ [] else []

-- an open call among so many
pub record IsOpenOf (count : ℕ) (o : Open) : Type 0 where
  pub call : o.call < count
  pub jump : IsJump count o.jump

-- twice a size, in a number of eight bits
abbrev pub twice : ℕ → ℕ
twice size = min (size + size) 255

-- an open call does not allow its distance
unfoldable pub is_late : List ℕ → Open → Bool
is_late z o = not (allows (size_at z o.call) o.jump.forwards (jump_bytes z o.jump))

-- sizes of a round, in which those of late calls are twice what they were
abbrev pub raised_from : (z : List ℕ) → List Open → (now : List ℕ) → List ℕ
raised_from z [] now = now
raised_from z (o ∷ os) now = raised_from z os (if is_late z o then set now o.call (twice (size_at z o.call)) else now)

module _ (ms : List Row) (rows : List (List Call)) where
  -- call k as a jump
  abbrev pub jump_no : (k : ℕ) → Jump
  jump_no k = jump_of ms rows (call_no rows k)

  abbrev pub size_row : (k : ℕ) → List ℕ
  size_row k = first_size (jump_no k) ∷ []

  abbrev pub open_row : (k : ℕ) → List Open
  open_row k = open_if k (jump_no k)

  -- what is known of the calls from one on and before another
  pub record HasBands (a b : ℕ) (x : Banded) : Type 0 where
    pub sizes : x.sizes.items ≡ flat_map size_row (range_with_len a (b - a))
    pub opens : x.opens.items ≡ flat_map open_row (range_with_len a (b - a))
    pub low : (k : ℕ) → a + k < b → IsLowJump (jump_no (a + k))

  -- what is known of them in parts, one after the other
  pub record AreBands (a b : ℕ) (xs : List Banded) : Type 0 where
    pub sizes : flat_map (λ (x : Banded). x.sizes.items) xs ≡ flat_map size_row (range_with_len a (b - a))
    pub opens : flat_map (λ (x : Banded). x.opens.items) xs ≡ flat_map open_row (range_with_len a (b - a))
    pub low : (k : ℕ) → a + k < b → IsLowJump (jump_no (a + k))

-- one part after what was there, and all of them
pub record Joins (part old new : Banded) : Type 0 where
  pub sizes : new.sizes.items ≡ old.sizes.items ++ part.sizes.items
  pub opens : new.opens.items ≡ old.opens.items ++ part.opens.items

pub record IsJoin (parts : List Banded) (whole : Banded) : Type 0 where
  pub sizes : whole.sizes.items ≡ flat_map (λ (x : Banded). x.sizes.items) parts
  pub opens : whole.opens.items ≡ flat_map (λ (x : Banded). x.opens.items) parts

-- sizes while they rise: lawful, below all safe ones, and eight where a call is far
pub record AreRaised (jumps : List Jump) (z : List ℕ) : Type 0 where
  pub lawful : AreLawful jumps z
  pub below : AreBelow jumps z
  pub far : (k : ℕ) → k < length jumps → is_far (jump_at jumps k) ≡ true → size_at z k ≡ 8

-- the open calls of these jumps, and sizes that may rise
pub record IsBanded (jumps : List Jump) (opens : List Open) (z : List ℕ) : Type 0 where
  pub are : (k : ℕ) → k < length jumps → IsJump (length jumps) (jump_at jumps k)
  pub each : All (λ o. (o.call < length jumps) × (o.jump ≡ jump_at jumps o.call)) opens
  pub all : (p : ℕ → Bool) → list_any (λ o. p o.call) opens ≡ false → (k : ℕ) → k < length jumps → is_open (jump_at jumps k) ≡ true → p k ≡ false
  pub raised : AreRaised jumps z
