-- What the members of a layout have in the file goes up: the bytes of sections, the pieces of pools, the linker's table.
use Rattle.std.proofs.Common.{◌≡◌, ℕ, suc, ◌+◌, ◌-◌, ◌<◌, ◌≤◌, true, false, Bool, List, [], ◌∷◌, length, flat_map, slice_index_or, refl, sym, arith, subst}
use Rattle.std.specs.Prelude.{if◌then◌else◌}
use Rattle.std.specs.List.{All}
use Rattle.std.proofs.lemmas.List.Elements.{All-nil, All-cons, All-head, All-tail}
use Rattle.lk_base.specs.declared.abi.TheConstants.{IMAGE_BASE}
use Rattle.lk_tables.specs.Files.{File}
use Rattle.link_sections.specs.declared.members.Content.{Content}
use Rattle.link_sections.specs.declared.members.Content.TheVariants.{Section, Pool, Got}
use Rattle.link_sections.specs.declared.members.Member.{Member}
use Rattle.link_sections.specs.declared.pieces.Piece.{Piece as HeldPiece}
use Rattle.link_sections.specs.declared.views.View.{View}
use Rattle.link_sections.specs.Addresses.{no_pool}
use Rattle.link_sections.specs.PoolViews.{piece_text}
use Rattle.link_sections.specs.Pools.{IsPile}
use Rattle.link_sections.specs.Views.{binding_in, files_in, laid_in, leaders_in}
use Rattle.elf_out.proofs.OneByOne.{GoUp, up_append, up_from, up_to}
use Rattle.reloc_apply.proofs.MemberFacts.{sized}
use Rattle.reloc_apply.proofs.PoolSteps.{held, none, part_pieces, pool_is, text_short}
use Rattle.reloc_apply.proofs.TableSteps.{table_size}
use Rattle.reloc_apply.specs.Image.{Piece, piece}
use Rattle.reloc_apply.specs.Relocated.{content_pieces, has_bits, member_pieces, pool_pieces, relocated_pieces, section_bytes, table_bytes}
use Rattle.reloc_apply.specs.Standing.{AreStacked}
use Rattle.reloc_apply.specs.Founds.{AreOneAfterOther}

-- members one after the other, without the first
rest_in_order : (m : Member) (ms : List Member) → AreOneAfterOther (m ∷ ms) → AreOneAfterOther ms
rest_in_order m ms order = λ i d lt.
    let e : suc i + 1 ≡ suc (i + 1) = omega arith in
    let P : ℕ → Type 0 = λ k. (slice_index_or ms i d).start + (slice_index_or ms i d).size ≤ (slice_index_or (m ∷ ms) k d).start in
    subst P e (order (suc i) d (omega (arith, lt)))

-- all those after a member start at its end or later
later : (end : ℕ) (ms : List Member) → AreOneAfterOther ms → ((d : Member) → 0 < length ms → end ≤ (slice_index_or ms 0 d).start)
    → All (λ m. end ≤ m.start) ms
later end [] order first = All-nil (λ (m : Member). end ≤ m.start)
later end (m ∷ ms) order first =
    let own : end ≤ m.start = first m (omega arith) in
    All-cons (λ (k : Member). end ≤ k.start) m ms own
    (later end ms (rest_in_order m ms order) (λ d some. let next : m.start + m.size ≤ (slice_index_or ms 0 d).start = order 0 d (omega (arith, some)) in omega (arith, own, next)))

all_later : (m : Member) (ms : List Member) → AreOneAfterOther (m ∷ ms) → All (λ k. m.start + m.size ≤ k.start) ms
all_later m ms order =
    later (m.start + m.size) ms (rest_in_order m ms order) (λ d some. order 0 d (omega (arith, some)))

-- the pieces of a pool
rest_stacked : (p : HeldPiece) (ps : List HeldPiece) → AreStacked (p ∷ ps) → AreStacked ps
rest_stacked p ps order = λ i d lt.
    let e : suc i + 1 ≡ suc (i + 1) = omega arith in
    let P : ℕ → Type 0 = λ k. (slice_index_or ps i d).position + (slice_index_or ps i d).text.len ≤ (slice_index_or (p ∷ ps) k d).position in
    subst P e (order (suc i) d (omega (arith, lt)))

pile_up : (files : List File) (at from size : ℕ) (ps : List HeldPiece) → All (λ (p : HeldPiece). p.position + p.text.len ≤ size) ps → AreStacked ps
    → ((d : HeldPiece) → 0 < length ps → from ≤ (slice_index_or ps 0 d).position) → from ≤ size
    → GoUp (at + from) (at + size) (flat_map (part_pieces files at) ps)
pile_up files at from size [] inside order first le = omega (arith, le)
pile_up files at from size (p ∷ ps) inside order first le =
    let own : from ≤ p.position = first p (omega arith) in
    let end : p.position + p.text.len ≤ size = All-head (λ (q : HeldPiece). q.position + q.text.len ≤ size) p ps inside in
    let rest : GoUp (at + (p.position + p.text.len)) (at + size) (flat_map (part_pieces files at) ps) =
    pile_up files at (p.position + p.text.len) size ps (All-tail (λ (q : HeldPiece). q.position + q.text.len ≤ size) p ps inside)
    (rest_stacked p ps order) (λ d some. order 0 d (omega (arith, some))) end in (
      omega (arith, own),
      up_from (at + (p.position + p.text.len)) (at + p.position + length (piece_text files p)) (at + size) (flat_map (part_pieces files at) ps)
          (omega (arith, text_short files p)) rest,
    )

-- a section has bytes in the file, or not
section_up : (at end : ℕ) (bytes : List ℕ) (bits : Bool) → at ≤ end → (bits ≡ true → at + length bytes ≤ end) → GoUp at end (if bits then piece at bytes ∷ [] else [])
section_up at end bytes true le fits = (omega arith, fits refl)
section_up at end bytes false le fits = le

-- what each member has lies between its start and its end, so all of it goes up
abbrev pub MemberUp : (f : Member → List Piece) → Member → Type 0
MemberUp f m = GoUp (m.start - IMAGE_BASE) (m.start + m.size - IMAGE_BASE) (f m)

members_up : (f : Member → List Piece) (ms : List Member) (from end : ℕ) → All (MemberUp f) ms → AreOneAfterOther ms → All (λ m. from ≤ m.start) ms
    → All (λ m. m.start + m.size ≤ end) ms → from ≤ end → GoUp (from - IMAGE_BASE) (end - IMAGE_BASE) (flat_map f ms)
members_up f [] from end each order above inside le = omega (arith, le)
members_up f (m ∷ ms) from end each order above inside le =
    let own : from ≤ m.start = All-head (λ (k : Member). from ≤ k.start) m ms above in
    let last : m.start + m.size ≤ end = All-head (λ (k : Member). k.start + k.size ≤ end) m ms inside in
    let here : GoUp (m.start - IMAGE_BASE) (m.start + m.size - IMAGE_BASE) (f m) = All-head (MemberUp f) m ms each in
    up_append (from - IMAGE_BASE) (m.start + m.size - IMAGE_BASE) (end - IMAGE_BASE) (f m) (flat_map f ms)
    (up_from (m.start - IMAGE_BASE) (from - IMAGE_BASE) (m.start + m.size - IMAGE_BASE) (f m) (omega (arith, own)) here)
    (members_up f ms (m.start + m.size) end (All-tail (MemberUp f) m ms each) (rest_in_order m ms order) (all_later m ms order)
    (All-tail (λ (k : Member). k.start + k.size ≤ end) m ms inside) last)

module _ (v : View) where
  abbrev pool_size : ℕ → ℕ
  pool_size p = (slice_index_or (laid_in v).merging.pools p no_pool).size

  pool_up : (at end p : ℕ) → p < length (laid_in v).merging.pools → at + pool_size p ≤ end
      → GoUp at end (pool_pieces (files_in v) (binding_in v) (leaders_in v) (laid_in v) at p)
  pool_up at end p lt room =
      let is = pool_is v p lt in
      let number = is.number in
      let same = is.size in
      let size : ℕ = (slice_index_or v.pools.now.pools.items p none).size in
      let pile : IsPile (slice_index_or v.pools.now.pools.items p none) (held v p) = v.pools.now.piled p none number in
      let parts : List Piece = flat_map (part_pieces (files_in v) at) (held v p) in
      let up : GoUp (at + 0) (at + size) parts = pile_up (files_in v) at 0 size (held v p) pile.inside pile.order (λ d some. omega arith) (omega arith) in
      subst (GoUp at end) (sym (is.pieces at))
      (up_from (at + 0) at end parts (omega arith) (up_to (at + 0) (at + size) end parts (omega (arith, same, room)) up))

  content_up : (at end : ℕ) (c : Content) → at ≤ end
      → ((n : ℕ) → c ≡ Section n → has_bits (files_in v) (binding_in v) (leaders_in v) (laid_in v) n ≡ true
      → at + length (section_bytes (files_in v) (binding_in v) (leaders_in v) (laid_in v) n) ≤ end)
      → ((p : ℕ) → c ≡ Pool p → (p < length (laid_in v).merging.pools) × (at + pool_size p ≤ end))
      → (c ≡ Got → at + length (table_bytes (files_in v) (binding_in v) (leaders_in v) (laid_in v)) ≤ end)
      → GoUp at end (content_pieces (files_in v) (binding_in v) (leaders_in v) (laid_in v) at c)
  unfolding content_pieces
  content_up at end (Section n) le section pool table =
      section_up at end (section_bytes (files_in v) (binding_in v) (leaders_in v) (laid_in v) n)
      (has_bits (files_in v) (binding_in v) (leaders_in v) (laid_in v) n) le (section n refl)
  content_up at end (Pool p) le section pool table = let is = pool p refl in pool_up at end p is.0 is.1
  content_up at end Got le section pool table = (omega arith, table refl)

  pub member_up : All (MemberUp (member_pieces (files_in v) (binding_in v) (leaders_in v) (laid_in v))) (laid_in v).members
  unfolding member_pieces
  member_up = λ i d lt.
      let m : Member = slice_index_or (laid_in v).members i d in
      let low = v.sound.low i d lt in
      content_up (m.start - IMAGE_BASE) (m.start + m.size - IMAGE_BASE) m.content (omega (arith, low))
      (λ n is bits. let long = sized v i d lt n is bits in omega (arith, low, long))
      (λ p is. let pool = v.sound.pools i d lt p is in let size = pool.size in (pool.number, omega (arith, low, size)))
      (λ is. let table = v.sound.table i d lt is in let size = table.size in
      omega (arith, low, size, table_size (files_in v) (binding_in v) (leaders_in v) (laid_in v)))

  -- all of it, from an address on at which no member starts before
  pub laid_up : (from : ℕ) → All (λ m. from ≤ m.start) (laid_in v).members → from ≤ (laid_in v).bounds.file_end
      → GoUp (from - IMAGE_BASE) ((laid_in v).bounds.file_end - IMAGE_BASE) (relocated_pieces (files_in v) (binding_in v) (leaders_in v) (laid_in v))
  unfolding relocated_pieces
  laid_up from above le =
      members_up (member_pieces (files_in v) (binding_in v) (leaders_in v) (laid_in v)) (laid_in v).members from (laid_in v).bounds.file_end
      member_up v.sound.order above v.sound.inside le
