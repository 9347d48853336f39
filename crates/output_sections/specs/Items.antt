-- What has a place of its own in an executable, in the order of the command: the sections that are their own leaders, the pools of merged pieces,
-- each at the place of its first section, and last the linker's global offset table (RISC-V ELF psABI, "Global Offset Table").
use Rattle.std.specs.Prelude.{◌≡◌, ℕ, ◌+◌, ◌*◌, ◌^◌, ◌<◌, ◌≤◌, ◌==◌, true, if◌then◌else◌, Option, Some, List, [], ◌∷◌, ◌++◌, length, flat_map, codes, All, slice_index_or}
use Rattle.std.specs.Int.{is_power_of_two}
use Rattle.std.specs.List.{range_with_len}
use Rattle.lk_base.specs.declared.abi.TheConstants.{ALIGN_MAX, NOBITS_MAX, SHF_ALLOC, SHF_WRITE, SHT_PROGBITS}
use Rattle.lk_tables.specs.Binding.{Bindings}
use Rattle.lk_tables.specs.Files.{File, section_total}
use Rattle.link_sections.specs.declared.members.Content.{Content}
use Rattle.link_sections.specs.declared.members.Content.TheVariants.{Section, Pool as IsPool, Got}
use Rattle.link_sections.specs.declared.pools.Pool.{Pool}
use Rattle.link_sections.specs.InputSections.{InputSection, input_at, may_stay_at}
use Rattle.link_sections.specs.Leaders.{leader_at, leads}

-- what it is, and its name, type, flags, bytes and alignment; the bytes are those before relaxation
pub record Item : Type 0 where
  pub content : Content
  pub name : List ℕ
  pub sh_type : ℕ
  pub flags : ℕ
  pub size : ℕ
  pub align : ℕ

-- section n, as its header says it
abbrev pub section_item : (n : ℕ) → InputSection → Item
section_item n s = record { content = Section n; name = s.name; sh_type = s.sh_type; flags = s.flags; size = s.size; align = s.align }

-- pool p has the name, flags and alignment of its first section
abbrev pub pool_item : (p size : ℕ) → InputSection → Item
pool_item p size s = record { content = IsPool p; name = s.name; sh_type = SHT_PROGBITS; flags = s.flags; size = size; align = s.align }

-- the table of the linker has words of eight bytes
abbrev pub got_item : (words : ℕ) → Item
got_item words = record { content = Got; name = codes ".got"; sh_type = SHT_PROGBITS; flags = SHF_WRITE + SHF_ALLOC; size = 8 * words; align = 8 }

-- the pool whose first section is n, of pools that are numbered from p on
unfoldable pub pool_at : (p : ℕ) → List Pool → (n : ℕ) → InputSection → List Item
pool_at p [] n s = []
pool_at p (pool ∷ pools) n s = if pool.first == n then pool_item p pool.size s ∷ [] else pool_at (p + 1) pools n s

-- section n, if it is its own leader
unfoldable pub own_item : (leaders : List (Option ℕ)) → (n : ℕ) → InputSection → List Item
own_item leaders n s = if leads leaders n then section_item n s ∷ [] else []

module _ (files : List File) (b : Bindings) (pools : List Pool) where
  -- the section of a number if it is its own leader, and the pool whose first section it is
  unfoldable pub items_at : (leaders : List (Option ℕ)) → (n : ℕ) → List Item
  items_at leaders n = own_item leaders n (input_at files b n) ++ pool_at 0 pools n (input_at files b n)

  unfoldable pub items : (got_words : ℕ) → (leaders : List (Option ℕ)) → List Item
  items got_words leaders = flat_map (items_at leaders) (range_with_len 0 (section_total files)) ++ got_item got_words ∷ []

-- the first pool of which the first section is not before section n is pool number `next`
pub record IsNext (pools : List Pool) (n next : ℕ) : Type 0 where
  pub within : next ≤ length pools
  pub past : (i : ℕ) (d : Pool) → i < next → (slice_index_or pools i d).first < n
  pub later : (i : ℕ) (d : Pool) → next ≤ i → i < length pools → n ≤ (slice_index_or pools i d).first

-- a section number of a section that may stay
pub record IsStaying (files : List File) (b : Bindings) (n : ℕ) : Type 0 where
  pub number : n < section_total files
  pub stays : may_stay_at files b n ≡ true

-- a leader, or none, for each section number; a leader is a section that may stay and is its own leader
pub record AreLeaders (files : List File) (b : Bindings) (leaders : List (Option ℕ)) : Type 0 where
  pub count : length leaders ≡ section_total files
  pub stay : (n m : ℕ) → leader_at leaders n ≡ Some m → IsStaying files b m
  pub own : (n m : ℕ) → leader_at leaders n ≡ Some m → leads leaders m ≡ true

-- each pool's first section may stay
abbrev pub HaveFirsts : List File → Bindings → List Pool → Type 0
HaveFirsts files b pools = All (λ p. IsStaying files b p.first) pools

-- a size and an alignment that can be, which is a power of two; a section is no greater than a section may be
pub record IsSized (item : Item) : Type 0 where
  pub some : 1 ≤ item.align
  pub power : is_power_of_two item.align ≡ true
  pub aligned : item.align ≤ ALIGN_MAX
  pub sized : item.size < 2 ^ 60
  pub small : (n : ℕ) → item.content ≡ Section n → item.size ≤ NOBITS_MAX
