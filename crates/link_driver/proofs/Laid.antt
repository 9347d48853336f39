-- What is known of a layout that was made over the least safe sizes.
use Rattle.std.proofs.Common.{◌≡◌, ℕ, ◌+◌, ◌<◌, ◌≤◌, ◌%◌, ◌==◌, ◌&&◌, ◌||◌, Bool, true, false, cond, Option, List, [], ◌∷◌, length, map, get_or, filter, refl, sym, ap, ◌∙◌, subst, arith, inl, inr, nat_lt}
use Rattle.std.specs.Prelude.{All, nat_le}
use Rattle.std.proofs.lemmas.Bool.{and_parts, cases_lt, eqb-true, ltb-true, or_cases}
use Rattle.std.proofs.lemmas.List.{get_or_default, get_or_past}
use Rattle.std.proofs.lemmas.List.Elements.{All-nil, All-cons}
use Rattle.std.proofs.lemmas.List.FromFn.{get_or-map-range_with_len, length-map-range_with_len}
use Rattle.lk_base.specs.declared.defects.Defect.{Defect}
use Rattle.lk_base.specs.declared.limits.Limits.{Limits}
use Rattle.lk_tables.specs.declared.objects.Reloc.{Reloc}
use Rattle.lk_tables.specs.declared.section_places.SectionPlace.{SectionPlace}
use Rattle.lk_tables.specs.declared.tables.Tables.{Tables}
use Rattle.lk_tables.specs.Binding.{Bindings, first_phase}
use Rattle.lk_tables.specs.BoundNames.{IsBindingOf}
use Rattle.lk_tables.specs.Files.{AreFew, File, no_reloc, section_total}
use Rattle.lk_tables.specs.Sites.{place_of, relocs_of}
use Rattle.lk_tables.specs.TablesView.{files_of}
use Rattle.link_sections.specs.declared.got.GotEntry.{GotEntry}
use Rattle.link_sections.specs.declared.members.Content.TheVariants.{Section}
use Rattle.link_sections.specs.declared.members.Member.{Member as LaidMember}
use Rattle.link_sections.specs.declared.pools.Pool.{Pool}
use Rattle.link_sections.specs.declared.pools.Pools.{Pools}
use Rattle.link_sections.specs.Calls.{call_size, is_call}
use Rattle.link_sections.specs.Cuts.{Cut}
use Rattle.link_sections.specs.InputSections.{input_at}
use Rattle.link_sections.specs.LaidOut.{LaidOut, cuts_at, start_at, with_contents}
use Rattle.link_sections.specs.Leaders.{leads}
use Rattle.link_sections.specs.PoolViews.{PoolsView, pools_view}
use Rattle.link_sections.specs.Sound.{IsSound}
use Rattle.layout.specs.Cutting.{is_short, laid_cuts, short_defect, short_defects}
use Rattle.output_sections.specs.Items.{AreLeaders, HaveFirsts, IsStaying, Item, items}
use Rattle.layout.specs.Layout.{FrameSizes, bounds_of, cut_defects, cuts_of as laid_cuts_of, laid_by, laid_of, layout_defects, layout_of, limit_defects, no_trail, trail_of}
use Rattle.output_sections.specs.Order.{members_in, orders_of}
use Rattle.layout.specs.Spots.{HaveAlignments}
use Rattle.layout.proofs.Sounds.{none_at}
use Rattle.output_sections.proofs.ItemFacts.{stays_of}
use Rattle.output_sections.proofs.Sized.{all_sound, modest}
use Rattle.layout.proofs.Trails.{all_members, trail_members}
use Rattle.relax.specs.declared.calls.Call.{Call}
use Rattle.output_sections.specs.declared.rows.Row.{Row}
use Rattle.relax.specs.CallSizes.{IsLeastSafe, all_calls, all_cuts, bytes_at, call_no, call_rows, calls_of, cuts_by, cuts_of, file_of, is_safe, is_size, least_sizes, place_in, rd_at, reloc_of, row_at, size_in}
use Rattle.relax.specs.Jumps.{size_at}
use Rattle.relax.specs.Placing.{IsOneSize}
use Rattle.reloc_apply.specs.Relocated.{reloc_defects}
use Rattle.link_passes.specs.Leaders.{AreAlike}
use Rattle.link_driver.specs.Reach.{CallsReach}
use Rattle.link_driver.proofs.Defects.{none_defect}
use Rattle.link_driver.specs.Code.{HaveOwnCuts}
use Rattle.link_driver.proofs.Given.{IsGiven}
use Rattle.link_driver.proofs.LayoutRows.{IsItem, first_of, items_are, no_pool}
use Rattle.link_driver.proofs.OwnCuts.{cuts_fit, own_cuts}
use Rattle.link_driver.proofs.Reached.{reached}
use Rattle.link_driver.proofs.ShortRegister.{short_register}
use Rattle.link_driver.proofs.Shortened.{cuts_before, placed_call, row_is, safe_fits, short_call}

-- safe sizes are one for each call, each of two, four or eight bytes
safe_count : (ms : List Row) (rows : List (List Call)) (z : List ℕ) → is_safe ms rows z ≡ true → length z ≡ length (all_calls rows)
unfolding is_safe
safe_count ms rows z is = eqb-true (length z) (length (all_calls rows)) (and_parts (length z == length (all_calls rows)) _ is).0

one_size : (least s : ℕ) → is_size least s ≡ true → IsOneSize s
one_size least s is = elim (or_cases (s == 2) (s == 4 || s == 8) (and_parts (nat_le least s) (s == 2 || (s == 4 || s == 8)) is).1) [
  | inl two ↦ inl (eqb-true s 2 two)
  | inr more ↦ elim (or_cases (s == 4) (s == 8) more) [ inl four ↦ inr (inl (eqb-true s 4 four)) | inr eight ↦ inr (inr (eqb-true s 8 eight)) ]
]

pub safe_sizes : (ms : List Row) (rows : List (List Call)) (z : List ℕ) → is_safe ms rows z ≡ true → All IsOneSize z
safe_sizes ms rows z is k d lt =
    let own = one_size (call_no rows k).least (size_at z k) (safe_fits ms rows z k is (omega (arith, lt, safe_count ms rows z is))).0 in
    subst IsOneSize (get_or_default z k 8 d lt) own

-- no alignment is short
none_filtered : (place : SectionPlace) (cs : List Cut) → short_defects place cs ≡ [] → All (λ c. is_short c ≡ false) cs
none_filtered place [] none = All-nil (λ (c : Cut). is_short c ≡ false)
none_filtered place (c ∷ cs) none = by (is_short c) refl none (λ rest. none_filtered place cs rest)
  where
    by : (t : Bool) → is_short c ≡ t → map (short_defect place) (cond t (c ∷ filter is_short cs) (filter is_short cs)) ≡ [] → (short_defects place cs ≡ [] → All (λ x. is_short x ≡ false) cs)
        → All (λ x. is_short x ≡ false) (c ∷ cs)
    by true short none rest = cc
    by false fine none rest = All-cons (λ (x : Cut). is_short x ≡ false) c cs fine (rest none)

no_phase : (xs ys : List Defect) → first_phase (xs ∷ ys ∷ []) ≡ [] → xs ≡ []
no_phase [] ys none = refl
no_phase (x ∷ xs) ys none = cc

no_short : (limits : Limits) (files : List File) (laid : LaidOut) → layout_defects limits files laid ≡ [] → cut_defects files laid.cuts (section_total files) ≡ []
unfolding layout_defects
no_short limits files laid none = no_phase (cut_defects files laid.cuts (section_total files)) (limit_defects limits laid) none

-- each item has an alignment
all_aligned : (tables : Tables) (b : Bindings) (pools : List Pool) (words : ℕ) (leaders : List (Option ℕ)) → AreFew (files_of tables) → IsBindingOf (files_of tables) b → AreLeaders (files_of tables) b leaders
    → HaveFirsts (files_of tables) b pools → All (λ (item : Item). 1 ≤ item.align) (items (files_of tables) b pools words leaders)
all_aligned tables b pools words leaders few bound are firsts k d lt =
    one (get_or (items files b pools words leaders) k d) ((items_are files b pools words leaders few.section_count_is).all k d lt)
  where
    files : List File
    files = files_of tables

    aligned : (n : ℕ) → IsStaying files b n → 1 ≤ (input_at files b n).align
    aligned n stays = (modest files b bound (all_sound tables) n stays).some

    one : (item : Item) → IsItem files b pools words leaders item → 1 ≤ item.align
    one item (inl own) =
        let a = aligned own.section (stays_of files b leaders own.section are own.leader) in
        omega (arith, a, ap (λ (x : Item). x.align) own.is)
    one item (inr (inl pool)) =
        let a = aligned (first_of pools pool.pool) (firsts pool.pool no_pool pool.number) in
        omega (arith, a, ap (λ (x : Item). x.align) pool.is)
    one item (inr (inr table)) = omega (arith, ap (λ (x : Item). x.align) table)

-- where a layout has its members, and its cuts
laid_members : (files : List File) (b : Bindings) (pools : List Pool) (words : ℕ) (leaders : List (Option ℕ)) (sizes : List (List Cut)) (fs : FrameSizes) (view : PoolsView) (table : List GotEntry)
    → (with_contents (layout_of files b pools words leaders sizes fs) view table).members ≡ all_members sizes (orders_of (items files b pools words leaders)) (bounds_of sizes (orders_of (items files b pools words leaders)) fs)
unfolding with_contents layout_of laid_of laid_by
laid_members files b pools words leaders sizes fs view table =
    let its = items files b pools words leaders in
    trail_members sizes its (orders_of its) (bounds_of sizes (orders_of its) fs) (section_total files) (length pools)

cuts_here : (leaders : List (Option ℕ)) (sizes : List (List Cut)) (starts : List ℕ) (n : ℕ) → leads leaders n ≡ true → laid_cuts_of leaders sizes starts n ≡ laid_cuts (get_or starts n 0) (get_or sizes n [])
unfolding laid_cuts_of
cuts_here leaders sizes starts n is = rw is refl

pub laid_cuts_are : (files : List File) (b : Bindings) (pools : List Pool) (words : ℕ) (leaders : List (Option ℕ)) (sizes : List (List Cut)) (fs : FrameSizes) (view : PoolsView) (table : List GotEntry) (n : ℕ) → n < section_total files → leads leaders n ≡ true
    → cuts_at (with_contents (layout_of files b pools words leaders sizes fs) view table) n ≡ laid_cuts (start_at (with_contents (layout_of files b pools words leaders sizes fs) view table) n) (get_or sizes n [])
unfolding with_contents layout_of laid_of laid_by
laid_cuts_are files b pools words leaders sizes fs view table n lt leader =
    let its = items files b pools words leaders in
    let starts = (trail_of sizes its (orders_of its) (bounds_of sizes (orders_of its) fs) (no_trail (section_total files) (length pools))).stands.starts in
    get_or-map-range_with_len (laid_cuts_of leaders sizes starts) 0 (section_total files) n n [] lt (omega arith) ∙ cuts_here leaders sizes starts n leader

same_cuts : (l : LaidOut) (view : PoolsView) (table : List GotEntry) → (with_contents l view table).cuts ≡ l.cuts
unfolding with_contents
same_cuts l view table = refl

same_members : (l : LaidOut) (view : PoolsView) (table : List GotEntry) → (with_contents l view table).members ≡ l.members
unfolding with_contents
same_members l view table = refl

same_merging : (l : LaidOut) (view : PoolsView) (table : List GotEntry) → (with_contents l view table).merging ≡ view
unfolding with_contents
same_merging l view table = refl

module _ (tables : Tables) (b : Bindings) (pools : List Pool) (words : ℕ) (leaders : List (Option ℕ)) (view : PoolsView) (table : List GotEntry) (limits : Limits) (sizes : List (List Cut)) (fs : FrameSizes)
    (few : AreFew (files_of tables)) (bound : IsBindingOf (files_of tables) b) (are : AreLeaders (files_of tables) b leaders) (alike : AreAlike (files_of tables) b leaders)
    (firsts : HaveFirsts (files_of tables) b pools)
    (sound : IsSound (files_of tables) b leaders (with_contents (layout_of (files_of tables) b pools words leaders sizes fs) view table))
    (aligned : HaveAlignments (files_of tables) b (layout_of (files_of tables) b pools words leaders sizes fs))
    (none : layout_defects limits (files_of tables) (layout_of (files_of tables) b pools words leaders sizes fs) ≡ []) where
  abbrev files : List File
  files = files_of tables

  abbrev plain : LaidOut
  plain = layout_of (files_of tables) b pools words leaders sizes fs

  abbrev laid : LaidOut
  laid = with_contents (layout_of (files_of tables) b pools words leaders sizes fs) view table

  abbrev ms : List Row
  ms = members_in (orders_of (items (files_of tables) b pools words leaders))

  abbrev rows : Bool → List (List Call)
  rows on = call_rows (files_of tables) b view.merged leaders (members_in (orders_of (items (files_of tables) b pools words leaders))) on

  short_at : (n : ℕ) → n < section_total files → All (λ c. is_short c ≡ false) (cuts_at laid n)
  short_at n lt =
      let e : 0 + n ≡ n = omega arith in
      let all = none_at (λ m. short_defects (place_of files m) (get_or plain.cuts m [])) 0 (section_total files) n (no_short limits files plain none) lt in
      none_filtered (place_of files n) (cuts_at laid n)
      (ap (λ l. short_defects (place_of files n) (get_or l n [])) (same_cuts plain view table) ∙ ap (λ m. short_defects (place_of files m) (get_or plain.cuts m [])) (sym e) ∙ all)

  is_given : (z : List ℕ) → is_safe ms (rows true) z ≡ true → sizes ≡ all_cuts files ms (rows true) z → IsGiven tables b pools view.merged words leaders laid sizes z
  is_given z safe sizes_are = record {
    few = few;
    bound = bound;
    are = are;
    alike = alike;
    safe = safe;
    ones = safe_sizes ms (rows true) z safe;
    sizes_are = sizes_are;
    bounds = bounds_of sizes (orders_of (items files b pools words leaders)) fs;
    placed = laid_members files b pools words leaders sizes fs view table;
    cuts = λ n lt leader. laid_cuts_are files b pools words leaders sizes fs view table n lt leader;
    sound = sound;
    aligned = subst (All (λ (m : LaidMember). (n : ℕ) → m.content ≡ Section n → m.start % (input_at files b n).align ≡ 0)) (sym (same_members plain view table)) aligned.members;
    short = λ n lt leader. short_at n lt;
    some = all_aligned tables b pools words leaders few bound are firsts;
  }

  -- with relaxation
  calls_on : (z : List ℕ) → is_safe ms (rows true) z ≡ true → sizes ≡ all_cuts files ms (rows true) z → CallsReach files b leaders laid
  calls_on z safe sizes_are n lt leader k d k_low short =
      let same : get_or (relocs_of files n) k d ≡ reloc_of files n k = get_or_default (relocs_of files n) k d no_reloc k_low in
      let P : Reloc → Type 0 = λ r. (before : Reloc) → reloc_defects files b leaders laid n before r ≡ [] in
      let r : Reloc = reloc_of files n k in
      let test : (is_call r.kind && nat_lt (call_size (cuts_at laid n) r.offset) 8) ≡ true = ap (λ (x : Reloc). is_call x.kind && nat_lt (call_size (cuts_at laid n) x.offset) 8) (sym same) ∙ short in
      let parts = and_parts (is_call r.kind) (nat_lt (call_size (cuts_at laid n) r.offset) 8) test in
      let small = ltb-true (call_size (cuts_at laid n) r.offset) 8 parts.1 in
      let is = reached tables b pools view.merged words leaders laid sizes z (is_given z safe sizes_are) n k lt leader k_low parts.0 small in
      subst P (sym same) (none_defect files b leaders laid n k view.merged (ap (λ (v : PoolsView). v.merged) (same_merging plain view table)) is parts.0)

  count_rows : length (rows false) ≡ length ms
  unfolding call_rows
  count_rows = length-map-range_with_len (calls_of files b view.merged leaders ms false) 0 (length ms)

  -- without it no call is shortened
  off_none : (z : List ℕ) → sizes ≡ all_cuts files ms (rows false) z → (n o : ℕ) → n < section_total files → leads leaders n ≡ true → call_size (cuts_at laid n) o < 8 → ⊥
  off_none z sizes_are n o lt leader small =
      let sz : ℕ → ℕ = size_in (rows false) z (place_in ms n) in
      let cuts : cuts_at laid n ≡ laid_cuts (start_at laid n) (cuts_by sz (relocs_of files n)) =
      laid_cuts_are files b pools words leaders sizes fs view table n lt leader
      ∙ ap (λ (l : List (List Cut)). laid_cuts (start_at laid n) (get_or l n [])) sizes_are
      ∙ ap (laid_cuts (start_at laid n)) (cuts_before files ms (rows false) z n lt) in
      let found = short_call sz (relocs_of files n) (start_at laid n) o (omega (arith, small, ap (λ l. call_size l o) cuts)) in
      let placed = placed_call (rows false) z (place_in ms n) found.reloc found.small in
      let low = placed.low in
      absurd (omega (arith, low, ap length (no_row (place_in ms n))))
    where
      no_row : (i : ℕ) → row_at (rows false) i ≡ []
      no_row i = elim (cases_lt i (length ms)) [
        | inl less ↦ row_is files b view.merged leaders ms false i less
        | inr past ↦ get_or_past (rows false) i [] (omega (arith, past, count_rows))
      ]

  calls_off : (z : List ℕ) → sizes ≡ all_cuts files ms (rows false) z → CallsReach files b leaders laid
  calls_off z sizes_are n lt leader k d k_low short =
      let r : Reloc = get_or (relocs_of files n) k d in
      let parts = and_parts (is_call r.kind) (nat_lt (call_size (cuts_at laid n) r.offset) 8) short in
      absurd (off_none z sizes_are n r.offset lt leader (ltb-true (call_size (cuts_at laid n) r.offset) 8 parts.1))

  -- a call of two bytes has no register
  pub registers : (on : Bool) (z : List ℕ) → is_safe ms (rows on) z ≡ true → sizes ≡ all_cuts files ms (rows on) z → (n k : ℕ) → n < section_total files → leads leaders n ≡ true → k < length (relocs_of files n)
      → is_call (reloc_of files n k).kind ≡ true → call_size (cuts_at laid n) (reloc_of files n k).offset ≡ 2 → rd_at (file_of files n).bytes (bytes_at files n k + 4) ≡ 0
  registers true z safe sizes_are n k lt leader k_low call two =
      short_register tables b pools view.merged words leaders laid sizes z (is_given z safe sizes_are) n k lt leader k_low call two
  registers false z safe sizes_are n k lt leader k_low call two = absurd (off_none z sizes_are n (reloc_of files n k).offset lt leader (omega (arith, two)))

  by_on : (on : Bool) (z : List ℕ) → is_safe ms (rows on) z ≡ true → sizes ≡ all_cuts files ms (rows on) z → CallsReach files b leaders laid
  by_on true z safe sizes_are = calls_on z safe sizes_are
  by_on false z safe sizes_are = calls_off z sizes_are

-- where the cuts of its sections are
pub own_cuts_of : (tables : Tables) (b : Bindings) (held : Pools) (words : ℕ) (leaders : List (Option ℕ)) (table : List GotEntry) (limits : Limits) (sizes : List (List Cut)) (fs : FrameSizes) (on : Bool) (laid : LaidOut)
    → AreFew (files_of tables) → IsBindingOf (files_of tables) b → AreLeaders (files_of tables) b leaders → AreAlike (files_of tables) b leaders → HaveFirsts (files_of tables) b held.pools.items
    → sizes ≡ cuts_of (files_of tables) b (pools_view (files_of tables) held).merged leaders (members_in (orders_of (items (files_of tables) b held.pools.items words leaders))) on
    → IsLeastSafe (files_of tables) b (pools_view (files_of tables) held).merged leaders (members_in (orders_of (items (files_of tables) b held.pools.items words leaders))) on
    → laid ≡ layout_of (files_of tables) b held.pools.items words leaders sizes fs
    → IsSound (files_of tables) b leaders (with_contents laid (pools_view (files_of tables) held) table) → HaveAlignments (files_of tables) b laid
    → layout_defects limits (files_of tables) laid ≡ []
    → HaveOwnCuts (files_of tables) leaders (with_contents laid (pools_view (files_of tables) held) table)
unfolding cuts_of
own_cuts_of tables b held words leaders table limits sizes fs on _ few bound are alike firsts sizes_are least laid_is sound aligned none =
    let files = files_of tables in
    let view = pools_view files held in
    let pools = held.pools.items in
    let ms : List Row = members_in (orders_of (items files b pools words leaders)) in
    let rows : List (List Call) = call_rows files b view.merged leaders ms on in
    let z : List ℕ = least_sizes ms rows in
    let L : LaidOut → Type 0 = λ l. HaveOwnCuts files leaders (with_contents l view table) in
    let U : LaidOut → Type 0 = λ l. IsSound files b leaders (with_contents l view table) in
    subst L (sym laid_is)
    (own_cuts files b leaders (with_contents (layout_of files b pools words leaders sizes fs) view table) sizes (λ n. size_in rows z (place_in ms n))
    (cuts_fit tables sizes ms rows z (safe_sizes ms rows z least.safe) sizes_are) (λ n lt. ap (λ (l : List (List Cut)). get_or l n []) sizes_are ∙ cuts_before files ms rows z n lt)
    (subst U laid_is sound) (λ n lt leader. laid_cuts_are files b pools words leaders sizes fs view table n lt leader)
    (registers tables b pools words leaders view table limits sizes fs few bound are alike firsts (subst U laid_is sound) (subst (HaveAlignments files b) laid_is aligned)
    (subst (λ l. layout_defects limits files l ≡ []) laid_is none) on z least.safe sizes_are))

pub prove_calls_reach : (tables : Tables) (b : Bindings) (held : Pools) (words : ℕ) (leaders : List (Option ℕ)) (table : List GotEntry) (limits : Limits) (sizes : List (List Cut)) (fs : FrameSizes) (on : Bool) (laid : LaidOut)
    → AreFew (files_of tables) → IsBindingOf (files_of tables) b → AreLeaders (files_of tables) b leaders → AreAlike (files_of tables) b leaders → HaveFirsts (files_of tables) b held.pools.items
    → sizes ≡ cuts_of (files_of tables) b (pools_view (files_of tables) held).merged leaders (members_in (orders_of (items (files_of tables) b held.pools.items words leaders))) on
    → IsLeastSafe (files_of tables) b (pools_view (files_of tables) held).merged leaders (members_in (orders_of (items (files_of tables) b held.pools.items words leaders))) on
    → laid ≡ layout_of (files_of tables) b held.pools.items words leaders sizes fs
    → IsSound (files_of tables) b leaders (with_contents laid (pools_view (files_of tables) held) table) → HaveAlignments (files_of tables) b laid
    → layout_defects limits (files_of tables) laid ≡ []
    → CallsReach (files_of tables) b leaders (with_contents laid (pools_view (files_of tables) held) table)
unfolding cuts_of
prove_calls_reach tables b held words leaders table limits sizes fs on _ few bound are alike firsts sizes_are least laid_is sound aligned none =
    let files = files_of tables in
    let view = pools_view files held in
    let pools = held.pools.items in
    let ms : List Row = members_in (orders_of (items files b pools words leaders)) in
    let rows : List (List Call) = call_rows files b view.merged leaders ms on in
    let L : LaidOut → Type 0 = λ l. CallsReach files b leaders (with_contents l view table) in
    let U : LaidOut → Type 0 = λ l. IsSound files b leaders (with_contents l view table) in
    subst L (sym laid_is) (by_on tables b pools words leaders view table limits sizes fs few bound are alike firsts (subst U laid_is sound) (subst (HaveAlignments files b) laid_is aligned)
    (subst (λ l. layout_defects limits files l ≡ []) laid_is none) on (least_sizes ms rows) least.safe sizes_are)
