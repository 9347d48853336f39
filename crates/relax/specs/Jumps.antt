-- Calls by the distances that they reach: each is a jump between two points, and the bytes between these grow with the sizes of the calls
-- there (RISC-V ELF psABI, "Function Call Relaxation").
use Rattle.std.specs.Prelude.{◌≡◌, ℕ, ◌+◌, ◌-◌, ◌*◌, ◌^◌, ◌<◌, ◌≤◌, ◌⊎◌, ◌==◌, nat_le, Bool, true, false, if◌then◌else◌, min, List, length, take, map, slice_index_or}
use Rattle.std.specs.List.{list_any, range_with_len, sum_by}
use Rattle.relax.specs.declared.jumps.Jump.{Jump}
use Rattle.relax.specs.declared.jumps.Point.{Point}

-- how far a call of a size reaches: `jal` has 21 bits, `c.j` has 12
abbrev pub reach : (size : ℕ) → (forwards : Bool) → ℕ
reach size forwards = if size == 4 then (if forwards then 1048574 else 1048576) else (if forwards then 2046 else 2048)

abbrev pub is_small : (size : ℕ) → Bool
is_small size = if size == 2 then true else size == 4

-- whether a size allows a distance: eight bytes allow each
unfoldable pub allows : (size : ℕ) → (forwards : Bool) → (bytes : ℕ) → Bool
allows size forwards bytes = if is_small size then nat_le bytes (reach size forwards) else true

abbrev pub size_at : List ℕ → (call : ℕ) → ℕ
size_at sizes call = slice_index_or sizes call 8

-- how many bytes the calls before a point lose: those of all calls before one, and of that one as far as the point is in it
abbrev pub lost_upto : List ℕ → (call : ℕ) → ℕ
lost_upto sizes call = sum_by (λ size. 8 - size) (take call sizes)

abbrev pub lost_in : (depth size : ℕ) → ℕ
lost_in depth size = min depth 8 - min depth size

unfoldable pub lost_before : List ℕ → Point → ℕ
lost_before sizes p = lost_upto sizes p.call + lost_in p.depth (size_at sizes p.call)

-- the bytes between the two points of a jump
unfoldable pub jump_bytes : List ℕ → Jump → ℕ
jump_bytes sizes j = (j.high.place + lost_before sizes j.low) - (j.low.place + lost_before sizes j.high)

-- one point is not after another
abbrev pub IsOrdered : Jump → Type 0
IsOrdered j = (j.low.call < j.high.call) ⊎ ((j.low.call ≡ j.high.call) × (j.low.depth ≤ j.high.depth))

-- a jump among so many calls
pub record IsJump (count : ℕ) (j : Jump) : Type 0 where
  pub ordered : IsOrdered j
  pub within : j.high.call ≤ count
  pub least : (j.least ≡ 2) ⊎ (j.least ≡ 4)
  pub low : j.low.place < 2 ^ 100
  pub high : j.high.place < 2 ^ 100

abbrev pub no_point : Point
no_point = record { place = 0; call = 0; depth = 0 }

abbrev pub no_jump : Jump
no_jump = record { low = no_point; high = no_point; forwards = true; least = 4 }

module _ (jumps : List Jump) where
  abbrev pub jump_at : (k : ℕ) → Jump
  jump_at k = slice_index_or jumps k no_jump

  -- the size of a jump is one that it may have, and allows its bytes
  abbrev pub IsLawful : (k size : ℕ) → Type 0
  IsLawful k size = ((jump_at k).least ≤ size) × ((size ≡ 2) ⊎ ((size ≡ 4) ⊎ (size ≡ 8)))

  abbrev pub is_allowed : List ℕ → (k : ℕ) → Bool
  is_allowed sizes k = allows (size_at sizes k) (jump_at k).forwards (jump_bytes sizes (jump_at k))

  pub record AreLawful (sizes : List ℕ) : Type 0 where
    pub count : length sizes ≡ length jumps
    pub each : (k : ℕ) → k < length jumps → IsLawful k (size_at sizes k)

  pub record AreSafe (sizes : List ℕ) : Type 0 where
    pub lawful : AreLawful sizes
    pub allowed : (k : ℕ) → k < length jumps → is_allowed sizes k ≡ true

  -- no size is above that of any safe sizes
  abbrev pub AreBelow : List ℕ → Type 0
  AreBelow sizes = (safe : List ℕ) → AreSafe safe → (k : ℕ) → k < length jumps → size_at sizes k ≤ size_at safe k

  -- the sizes of the next round: those that do not allow their bytes are raised
  abbrev pub raised_size : List ℕ → (k : ℕ) → ℕ
  raised_size sizes k = if is_allowed sizes k then size_at sizes k else 2 * size_at sizes k

  abbrev pub raised : List ℕ → List ℕ
  raised sizes = map (raised_size sizes) (range_with_len 0 (length jumps))

  abbrev pub some_rises : List ℕ → (count : ℕ) → Bool
  some_rises sizes count = list_any (λ k. if is_allowed sizes k then false else true) (range_with_len 0 count)

  abbrev pub least_of : List ℕ
  least_of = map (λ j. j.least) jumps

-- how many bytes all calls lose
abbrev pub all_lost : List ℕ → ℕ
all_lost sizes = sum_by (λ size. 8 - size) sizes

-- the sums of what the calls before each lose, and of what all lose
abbrev pub lost_sums : List ℕ → List ℕ
lost_sums sizes = map (lost_upto sizes) (range_with_len 0 (length sizes + 1))
