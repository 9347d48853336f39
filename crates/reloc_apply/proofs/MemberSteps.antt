-- The members that meet a block; those before and after change nothing in it.
use Rattle.std.proofs.Common.{◌≡◌, ◌⊎◌, inl, inr, ℕ, ◌+◌, ◌-◌, ◌<◌, ◌≤◌, Bool, true, false, List, [], ◌∷◌, length, flat_map, get_or, min, max, refl, sym, ap, ◌∙◌, arith, subst, Option, Some, None}
use Rattle.std.specs.Prelude.{if◌then◌else◌}
use Rattle.std.proofs.lemmas.Bool.{le-ltb}
use Rattle.std.specs.List.{range_with_len}
use Rattle.lk_base.specs.declared.abi.TheConstants.{IMAGE_BASE}
use Rattle.lk_tables.specs.declared.objects.Reloc.{Reloc}
use Rattle.lk_tables.specs.Binding.{Bindings}
use Rattle.lk_tables.specs.Files.{File, no_reloc}
use Rattle.lk_tables.specs.Sites.{relocs_of}
use Rattle.link_sections.specs.declared.members.Content.{Content}
use Rattle.link_sections.specs.declared.members.Content.TheVariants.{Section, Pool, Got}
use Rattle.link_sections.specs.declared.members.Member.{Member}
use Rattle.link_sections.specs.declared.views.View.{View}
use Rattle.link_sections.specs.Addresses.{no_pool}
use Rattle.link_sections.specs.LaidOut.{LaidOut, start_at}
use Rattle.link_sections.specs.Sound.{IsSound}
use Rattle.link_sections.specs.Views.{binding_in, files_in, laid_in, leaders_in}
use Rattle.reloc_apply.specs.Founds.{no_member}
use Rattle.reloc_apply.specs.Image.{piece}
use Rattle.reloc_apply.specs.Relocated.{content_pieces, has_bits, is_laid, defects_at, member_pieces, pool_pieces, reloc_at, section_bytes, section_touching, table_bytes, touches, width_at, written_in}
use Rattle.reloc_apply.specs.Values.{offset_of}
use Rattle.reloc_apply.proofs.MemberFacts.{bytes_size, member, written}
use Rattle.reloc_apply.proofs.PieceWalks.{AreAway, IsBeside, piece_away}
use Rattle.reloc_apply.proofs.PoolSteps.{none as no_held_pool, pool_away, pool_is}
use Rattle.reloc_apply.proofs.SoundLists.{AllSound}
use Rattle.reloc_apply.proofs.TableSteps.{table_size}
use Rattle.reloc_apply.proofs.TouchingSteps.{none_from}

module _ (files : List File) (b : Bindings) (leaders : List (Option ℕ)) (laid : LaidOut) where
  -- a pool that is away from some bytes has no piece among them
  abbrev pub PoolsLie : Type 0
  PoolsLie = (p from len at : ℕ) → p < length laid.merging.pools → IsBeside from len at (at + (get_or laid.merging.pools p no_pool).size) →
      AreAway from len (pool_pieces files b leaders laid at p)

-- so it is of a link's pools
pub pools_lie : (view : View) → PoolsLie (files_in view) (binding_in view) (leaders_in view) (laid_in view)
pools_lie view = λ p from len at lt beside.
    pool_away view p from len at lt (view.pools.now.piled p no_held_pool (pool_is view p lt).number) beside

module _ (files : List File) (b : Bindings) (leaders : List (Option ℕ)) (laid : LaidOut) (sound : IsSound files b leaders laid) (all : AllSound files) where
  -- a member that ends before some bytes, or starts after them
  abbrev pub IsAway : (from len : ℕ) → Member → Type 0
  IsAway from len m = IsBeside from len (m.start - IMAGE_BASE) (m.start - IMAGE_BASE + m.size)

  bits_away : (d : Bool) (from len k n : ℕ) → k < length laid.members → IsAway from len (member files b leaders laid k) →
      (member files b leaders laid k).content ≡ Section n → has_bits files b leaders laid n ≡ d →
      AreAway from len (if d then piece ((member files b leaders laid k).start - IMAGE_BASE) (section_bytes files b leaders laid n) ∷ [] else [])
  bits_away false from len k n lt away is bits = λ u q le less. refl
  bits_away true from len k n lt away is bits =
      let own = ap (written_in files b leaders laid) is ∙ ap (λ d. if d then Some n else None) bits in
      let size = bytes_size files b leaders laid k n sound all (written files b leaders laid k n sound lt own) in
      let P : ℕ → Type 0 = λ s. IsBeside from len ((member files b leaders laid k).start - IMAGE_BASE) ((member files b leaders laid k).start - IMAGE_BASE + s) in
      piece_away from len ((member files b leaders laid k).start - IMAGE_BASE) (section_bytes files b leaders laid n) (subst P (sym size) away)

  content_away : PoolsLie files b leaders laid → (from len k : ℕ) (content : Content) → k < length laid.members → IsAway from len (member files b leaders laid k) →
      (member files b leaders laid k).content ≡ content → AreAway from len (content_pieces files b leaders laid ((member files b leaders laid k).start - IMAGE_BASE) content)
  unfolding content_pieces
  content_away lie from len k (Section n) lt away is = bits_away (has_bits files b leaders laid n) from len k n lt away is refl
  content_away lie from len k (Pool p) lt away is =
      let own = sound.pools k no_member lt p is in
      let at = (member files b leaders laid k).start - IMAGE_BASE in
      let P : ℕ → Type 0 = λ s. IsBeside from len at (at + s) in
      lie p from len at own.number (subst P own.size away)
  content_away lie from len k Got lt away is =
      let own = sound.table k no_member lt is in
      let at = (member files b leaders laid k).start - IMAGE_BASE in
      let P : ℕ → Type 0 = λ s. IsBeside from len at (at + s) in
      piece_away from len at (table_bytes files b leaders laid) (subst P (own.size ∙ sym (table_size files b leaders laid)) away)

  pub member_away : PoolsLie files b leaders laid → (from len k : ℕ) → k < length laid.members → IsAway from len (member files b leaders laid k) →
      AreAway from len (member_pieces files b leaders laid (member files b leaders laid k))
  unfolding member_pieces
  member_away lie from len k lt away = content_away lie from len k (member files b leaders laid k).content lt away refl

  low_start : (k : ℕ) → k < length laid.members → IMAGE_BASE ≤ (member files b leaders laid k).start
  low_start k lt = let low = sound.low k no_member lt in omega (arith, low)

  pub ends_first : (from len k : ℕ) → k < length laid.members → (member files b leaders laid k).start + (member files b leaders laid k).size ≤ IMAGE_BASE + from → IsAway from len (member files b leaders laid k)
  ends_first from len k lt end = λ q le less. inr (omega (arith, low_start k lt, end, le))

  pub begins_last : (from len k : ℕ) → k < length laid.members → IMAGE_BASE + (from + len) ≤ (member files b leaders laid k).start → IsAway from len (member files b leaders laid k)
  begins_last from len k lt begin = λ q le less. inl (omega (arith, low_start k lt, begin, less))

  -- a member that is away from some bytes has no relocation that touches them
  touches_none : (from len n : ℕ) (r : Reloc) →
      (start_at laid n - IMAGE_BASE + offset_of files b leaders laid n r + width_at files b leaders laid n r ≤ from) ⊎ (from + len ≤ start_at laid n - IMAGE_BASE + offset_of files b leaders laid n r) →
      touches files b leaders laid from len n r ≡ false
  unfolding touches
  touches_none from len n r side =
      let at : ℕ = start_at laid n - IMAGE_BASE + offset_of files b leaders laid n r in
      le-ltb (max at from) (min (at + width_at files b leaders laid n r) (from + len)) (elim side [
        | inl low ↦ omega (arith, low)
        | inr high ↦ omega (arith, high)
      ])

  quiet_by : (d : Bool) (from len n : ℕ) → ((i : ℕ) → i < length (relocs_of files n) → touches files b leaders laid from len n (get_or (relocs_of files n) i no_reloc) ≡ false) →
      (if d then flat_map (λ k. if touches files b leaders laid from len n (reloc_at files b leaders laid n k) then defects_at files b leaders laid n k else []) (range_with_len 0 (length (relocs_of files n))) else []) ≡ []
  quiet_by false from len n none = refl
  quiet_by true from len n none =
      none_from (λ k. if touches files b leaders laid from len n (reloc_at files b leaders laid n k) then defects_at files b leaders laid n k else []) 0 (length (relocs_of files n))
      (λ i le lt. ap (λ t. if t then defects_at files b leaders laid n i else []) (none i (omega (arith, lt))))

  touching_none : (from len n : ℕ) → ((i : ℕ) → i < length (relocs_of files n) → touches files b leaders laid from len n (get_or (relocs_of files n) i no_reloc) ≡ false) →
      section_touching files b leaders laid from len n ≡ []
  unfolding section_touching
  touching_none from len n none = quiet_by (is_laid files b leaders laid n) from len n none

  pub quiet_first : (from len k n : ℕ) → k < length laid.members → written_in files b leaders laid (member files b leaders laid k).content ≡ Some n →
      (member files b leaders laid k).start + (member files b leaders laid k).size ≤ IMAGE_BASE + from → section_touching files b leaders laid from len n ≡ []
  quiet_first from len k n lt is end =
      let own = written files b leaders laid k n sound lt is in
      touching_none from len n (λ i less.
      let within = own.section.relocs i no_reloc less in
      let start = own.section.start in
      touches_none from len n (get_or (relocs_of files n) i no_reloc) (inl (omega (arith, low_start k lt, end, within, start))))

  pub quiet_last : (from len k n : ℕ) → k < length laid.members → written_in files b leaders laid (member files b leaders laid k).content ≡ Some n →
      IMAGE_BASE + (from + len) ≤ (member files b leaders laid k).start → section_touching files b leaders laid from len n ≡ []
  quiet_last from len k n lt is begin =
      let own = written files b leaders laid k n sound lt is in
      touching_none from len n (λ i less.
      let start = own.section.start in
      touches_none from len n (get_or (relocs_of files n) i no_reloc) (inr (omega (arith, low_start k lt, begin, start))))
