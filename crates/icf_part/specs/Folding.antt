-- Which sections are folded: those that the greatest congruence pairs.
use Rattle.std.specs.Prelude.{◌≡◌, ◌⊎◌, ℕ, ◌<◌, ◌≤◌, ◌==◌, ℤ, pos, Bool, false, Option, Some, None, List, [], length, map, flat_map, slice_index, slice_index_or, Contains}
use Rattle.std.specs.List.{filter, range_with_len}
use Rattle.lk_base.specs.declared.abi.TheConstants.{R_RISCV_NONE, SHT_NULL}
use Rattle.link_sections.specs.declared.targets.Target.{Target}
use Rattle.link_sections.specs.declared.targets.Target.TheVariants.{Section}
use Rattle.link_sections.specs.declared.fold_items.FoldReloc.{FoldReloc}
use Rattle.link_sections.specs.FoldItems.{FoldFrame, FoldItem}

-- a relocation without what it stands for
pub record Site : Type 0 where
  pub offset : ℕ
  pub kind : ℕ
  pub addend : ℤ
  pub is_section_symbol : Bool

-- what must be equal of two items, whatever is folded: so many of the sites are of their own relocations, and those of their frames follow
pub record Key : Type 0 where
  pub bytes : List ℕ
  pub flags : ℕ
  pub sh_type : ℕ
  pub align : ℕ
  pub output : List ℕ
  pub own : ℕ
  pub frames : List FoldFrame
  pub sites : List Site

abbrev pub site_of : FoldReloc → Site
site_of r = record { offset = r.offset; kind = r.kind; addend = r.addend; is_section_symbol = r.is_section_symbol }

abbrev pub key_of : FoldItem → Key
key_of i = record {
  bytes = i.bytes;
  flags = i.flags;
  sh_type = i.sh_type;
  align = i.align;
  output = i.output;
  own = i.own;
  frames = i.frames;
  sites = map site_of i.relocs;
}

abbrev pub no_item : FoldItem
no_item = record { section = 0; bytes = []; flags = 0; sh_type = SHT_NULL; align = 0; output = []; own = 0; frames = []; relocs = [] }

abbrev pub no_reloc : FoldReloc
no_reloc = record { offset = 0; kind = R_RISCV_NONE; addend = pos 0; is_section_symbol = false; target = None }

-- item a of the list, and what its relocation k stands for
abbrev pub item_at : List FoldItem → (a : ℕ) → FoldItem
item_at items a = slice_index_or items a no_item

abbrev pub target_at : FoldItem → (k : ℕ) → Option Target
target_at i k = (slice_index_or i.relocs k no_reloc).target

-- two items by their places in the list
pub record Pair : Type 0 where
  pub one : ℕ
  pub two : ℕ

abbrev pub pair : ℕ → ℕ → Pair
pair a b = record { one = a; two = b }

-- two targets are the sections of a pair, with one offset and one rest
pub record ArePaired (items : List FoldItem) (pairs : List Pair) (t u : Option Target) : Type 0 where
  pub a : ℕ
  pub b : ℕ
  pub offset : ℕ
  pub rest : ℤ
  pub listed : Contains pairs (pair a b)
  pub one : t ≡ Some (Section (item_at items a).section offset rest)
  pub two : u ≡ Some (Section (item_at items b).section offset rest)

abbrev pub Matches : List FoldItem → List Pair → (t u : Option Target) → Type 0
Matches items pairs t u = (t ≡ u) ⊎ ArePaired items pairs t u

-- two items have one key, and what their relocations stand for is equal or paired
pub record Fits (items : List FoldItem) (pairs : List Pair) (a b : ℕ) : Type 0 where
  pub one : a < length items
  pub two : b < length items
  pub key : key_of (item_at items a) ≡ key_of (item_at items b)
  pub targets : (k : ℕ) → k < length (item_at items a).relocs → Matches items pairs (target_at (item_at items a) k) (target_at (item_at items b) k)

-- a list of pairs that all fit one another
pub record IsCongruence (items : List FoldItem) (pairs : List Pair) : Type 0 where
  pub fits : (a b : ℕ) → Contains pairs (pair a b) → Fits items pairs a b

-- some congruence has the two
pub record AreFolded (items : List FoldItem) (a b : ℕ) : Type 0 where
  pub pairs : List Pair
  pub congruence : IsCongruence items pairs
  pub listed : Contains pairs (pair a b)

-- b is a, or is folded with it
abbrev pub StandsFor : List FoldItem → (b a : ℕ) → Type 0
StandsFor items b a = (b ≡ a) ⊎ AreFolded items b a

-- the least item that stands for a
pub record IsLeader (items : List FoldItem) (a leader : ℕ) : Type 0 where
  pub within : leader < length items
  pub own : StandsFor items leader a
  pub least : (b : ℕ) → StandsFor items b a → leader ≤ b

-- each item has its leader
pub record AreLeaders (items : List FoldItem) (leaders : List ℕ) : Type 0 where
  pub count : length leaders ≡ length items
  pub each : (a : ℕ) → a < length items → IsLeader items a (slice_index leaders a)

-- the pairs of items that have one leader
abbrev pub fellows : (leaders : List ℕ) → (a : ℕ) → List ℕ
fellows leaders a = filter (λ b. slice_index leaders b == slice_index leaders a) (range_with_len 0 (length leaders))

unfoldable pub classes : (leaders : List ℕ) → List Pair
classes leaders = flat_map (λ a. map (pair a) (fellows leaders a)) (range_with_len 0 (length leaders))

-- each congruence pairs only what has one leader
abbrev pub HoldsAll : List FoldItem → (leaders : List ℕ) → Type 0
HoldsAll items leaders = (pairs : List Pair) (a b : ℕ) → IsCongruence items pairs → Contains pairs (pair a b) → slice_index leaders a ≡ slice_index leaders b
