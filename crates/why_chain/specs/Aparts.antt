-- Why two items are not folded: pairs of items, each met through one relocation of both of the pair before, up to a pair that differs.
use Rattle.std.specs.Prelude.{◌≡◌, ◌⊎◌, ℕ, ◌*◌, ◌≤◌, ◌==◌, ◌&&◌, ◌||◌, not, nat_lt, Bool, true, false, Option, Some, None, is_some, option_map, find, if◌then◌else◌, List, [], ◌∷◌, ◌++◌, length, map, flat_map}
use Rattle.std.specs.List.{range_with_len}
use Rattle.std.specs.Ordering.{int_eq}
use Rattle.link_sections.specs.declared.targets.Target.{Target}
use Rattle.link_sections.specs.declared.targets.Target.TheVariants.{Section}
use Rattle.link_sections.specs.FoldItems.{FoldItem, sections_of}
use Rattle.icf_part.specs.Folding.{item_at, key_of, target_at}
use Rattle.icf_part.specs.Leaders.{same_key, same_target}
use Rattle.icf_part.specs.Signatures.{place_of}
use Rattle.why_chain.specs.declared.chains.ApartChain.{ApartChain}
use Rattle.why_chain.specs.declared.chains.ApartEnd.{ApartEnd}
use Rattle.why_chain.specs.declared.chains.ApartEnd.TheVariants as ends
use Rattle.why_chain.specs.declared.pairs.Pair.{Pair}
use Rattle.why_chain.specs.ShortLists.{ComesBefore, short_lists}

-- two items by their places in the list
abbrev pub two_items : ℕ → ℕ → Pair
two_items a b = record { one = a; two = b }

abbrev pub both_placed : Option ℕ → Option ℕ → Option Pair
both_placed (Some a) (Some b) = Some (two_items a b)
both_placed a b = None

-- the items of the sections in which two targets stand, if they stand there at one offset and with one rest
abbrev pub items_of : (sections : List ℕ) → (t u : Option Target) → Option Pair
items_of sections (Some (Section s offset rest)) (Some (Section t other more)) =
    if offset == other && int_eq rest more then both_placed (place_of sections s) (place_of sections t) else None
items_of sections t u = None

module _ (items : List FoldItem) where
  -- what relocation k of an item stands for
  abbrev pub target_of : (a k : ℕ) → Option Target
  target_of a k = target_at (item_at items a) k

  -- the pair to which relocation k of both leads
  abbrev pub next_pair : Pair → (k : ℕ) → Option Pair
  next_pair p k = items_of (sections_of items) (target_of p.one k) (target_of p.two k)

  -- the targets of relocation k are equal, or lead to a pair
  abbrev pub can_match : Pair → (k : ℕ) → Bool
  can_match p k = same_target (target_of p.one k) (target_of p.two k) || is_some (next_pair p k)

  abbrev pub no_match : Pair → (k : ℕ) → Bool
  no_match p k = not (can_match p k)

  -- the two have one key
  abbrev pub are_alike : Pair → Bool
  are_alike p = same_key (key_of (item_at items p.one)) (key_of (item_at items p.two))

  abbrev pub reloc_count : Pair → ℕ
  reloc_count p = length (item_at items p.one).relocs

  -- why no congruence has a pair: the keys differ; or, if they don't, no targets of relocation k can match
  abbrev pub is_end : Pair → ApartEnd → Bool
  is_end p ends.Key = not (are_alike p)
  is_end p (ends.Target k) = are_alike p && (nat_lt k (reloc_count p) && no_match p k)

  -- the first such reason, if there is one
  unfoldable pub first_target : Pair → Option ApartEnd
  first_target p = option_map ends.Target (find (no_match p) (range_with_len 0 (reloc_count p)))

  unfoldable pub first_end : Pair → Option ApartEnd
  first_end p = if are_alike p then first_target p else Some ends.Key

-- through which relocations the pairs are met, and how the last pair differs
pub record Chain : Type 0 where
  pub vias : List ℕ
  pub last : ApartEnd

abbrev pub chain : List ℕ → ApartEnd → Chain
chain vias last = record { vias = vias; last = last }

abbrev pub chain_view : ApartChain → Chain
chain_view c = chain c.vias.items c.last

abbrev pub leads_on : (Pair → Bool) → Option Pair → Bool
leads_on rest None = false
leads_on rest (Some p) = rest p

-- from a pair on each next one is met through the next relocation, and the last differs so
abbrev pub is_apart_by : List FoldItem → (last : ApartEnd) → (vias : List ℕ) → Pair → Bool
is_apart_by items last [] p = is_end items p last
is_apart_by items last (k ∷ ks) p = leads_on (is_apart_by items last ks) (next_pair items p k)

abbrev pub is_apart : List FoldItem → Pair → Chain → Bool
is_apart items p c = is_apart_by items c.last c.vias p

-- all chains of at most as many pairs as there are, shorter ones first and then by their numbers
abbrev pub number_end : List FoldItem → ℕ
number_end items = length (flat_map (λ (i : FoldItem). i.relocs) items)

abbrev pub all_ends : (n : ℕ) → List ApartEnd
all_ends n = ends.Key ∷ map ends.Target (range_with_len 0 n)

abbrev pub chains_by : (n : ℕ) → (vias : List ℕ) → List Chain
chains_by n vias = map (chain vias) (all_ends n)

unfoldable pub all_chains : List FoldItem → List Chain
all_chains items = flat_map (chains_by (number_end items)) (short_lists (number_end items) (length items * length items))

-- the first of them that shows that two items are apart
unfoldable pub apart_chain : List FoldItem → (a b : ℕ) → Option Chain
apart_chain items a b = find (is_apart items (two_items a b)) (all_chains items)

-- the numbers of a chain: its relocations, the last one too
abbrev pub end_number : ApartEnd → List ℕ
end_number ends.Key = []
end_number (ends.Target k) = k ∷ []

abbrev pub numbers_of : Chain → List ℕ
numbers_of c = c.vias ++ end_number c.last

-- a chain than which none has fewer pairs, and of those with as many none has numbers that come before its own
pub record IsLeastApart (items : List FoldItem) (a b : ℕ) (c : Chain) : Type 0 where
  pub apart : is_apart items (two_items a b) c ≡ true
  pub shortest : (other : Chain) → is_apart items (two_items a b) other ≡ true → length c.vias ≤ length other.vias
  pub least : (other : Chain) → is_apart items (two_items a b) other ≡ true → length other.vias ≡ length c.vias
      → (other ≡ c) ⊎ ComesBefore (numbers_of c) (numbers_of other)
