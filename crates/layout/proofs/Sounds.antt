-- A layout that is not refused is sound.
use Rattle.std.proofs.Common.{◌≡◌, ◌≢◌, ℕ, zero, suc, ◌+◌, ◌-◌, ◌*◌, ◌^◌, ◌<◌, ◌≤◌, nat_lt, nat_le, Bool, true, false, if◌then◌else◌, Option, List, [], ◌∷◌, ◌++◌, get_or, length, map, flat_map, refl, ap, sym, ◌∙◌, All, inl, inr, subst, arith}
use Rattle.std.specs.List.{range_with_len}
use Rattle.std.proofs.lemmas.Bool.{cases_lt}
use Rattle.std.proofs.lemmas.Bool.Decides.{nat_tests}
use Rattle.std.proofs.lemmas.List.{length-replicate}
use Rattle.std.proofs.lemmas.List.Elements.{All-nil, All-cons}
use Rattle.std.proofs.Math.ListN.{get_or-eq_default}
use Rattle.lk_base.specs.declared.abi.TheConstants.{EHDR_SIZE, IMAGE_BASE, SHT_NOBITS}
use Rattle.lk_base.specs.declared.defects.Defect.{Defect}
use Rattle.lk_base.specs.declared.limits.Limits.{Limits}
use Rattle.lk_base.specs.Limits.{IsWithinStandard}
use Rattle.lk_tables.specs.Relocations.{value_len}
use Rattle.lk_tables.specs.declared.objects.Reloc.{Reloc}
use Rattle.lk_tables.specs.Binding.{Bindings, first_phase}
use Rattle.lk_tables.specs.Files.{File, section_total}
use Rattle.lk_tables.specs.Sites.{contents_at, place_of, relocs_of}
use Rattle.link_sections.specs.declared.layouts.Bounds.{Bounds}
use Rattle.link_sections.specs.declared.got.GotEntry.{GotEntry}
use Rattle.link_sections.specs.declared.members.Content.{Content}
use Rattle.link_sections.specs.declared.members.Content.TheVariants.{Section, Pool as IsPool, Got}
use Rattle.link_sections.specs.declared.members.Member.{Member}
use Rattle.link_sections.specs.declared.pools.Pool.{Pool}
use Rattle.link_sections.specs.Cuts.{AreApart, Cut, new_offset}
use Rattle.link_sections.specs.InputSections.{input_at}
use Rattle.link_sections.specs.Addresses.{no_pool}
use Rattle.link_sections.specs.Calls.{width_in}
use Rattle.link_sections.specs.GotEntries.{word_count}
use Rattle.link_sections.specs.LaidOut.{LaidOut, cuts_at, start_at, with_contents}
use Rattle.link_sections.specs.Leaders.{leads}
use Rattle.link_sections.specs.PoolViews.{PoolsView}
use Rattle.link_sections.specs.Pools.{AreRising as AreRisingPools}
use Rattle.link_sections.specs.Sound.{HaveFrameRoom, IsGotMember, IsPoolMember, IsSectionMember, IsSound, is_listed, is_pool, is_table}
use Rattle.layout.specs.Cutting.{laid_cuts, short_defects}
use Rattle.output_sections.specs.Items.{AreLeaders, HaveFirsts, IsSized, Item, items}
use Rattle.layout.specs.Layout.{AreSmall, FitSizes, FrameSizes, IsWithin, Trail, all_cuts, all_weight, bounds_of, cut_defects, cuts_of, laid_by, laid_of, layout_defects, layout_of, limit_defects, no_trail, trail_of}
use Rattle.output_sections.specs.Order.{Orders, orders_of}
use Rattle.layout.specs.Spots.{AreRising}
use Rattle.layout.specs.Walk.{Stands, all_put}
use Rattle.layout.proofs.Chain.{AreBounds, bounds_are}
use Rattle.layout.proofs.FrameSpots.{spots}
use Rattle.layout.proofs.Inside.{IsBeside, members_beside, members_inside, members_order, order_at}
use Rattle.output_sections.proofs.ItemFacts.{stays_of}
use Rattle.layout.proofs.ItemFacts.{ready_of}
use Rattle.layout.proofs.LaidCuts.{laid_apart}
use Rattle.layout.proofs.LaidHold.{laid_hold, still_met, still_some, still_within}
use Rattle.layout.proofs.Listed.{all_listed, pools_listed, table_is_listed, has_member}
use Rattle.layout.proofs.Marks.{HasRoom, found_at, in_members, stand_at, stands_once}
use Rattle.layout.proofs.MemberFacts.{IsMade, all_made, part_all}
use Rattle.layout.proofs.OwnCalls.{IsMet, width_lies}
use Rattle.layout.proofs.RelocsLie.{lies_of}
use Rattle.layout.proofs.Rising.{AllFit, all_fit, class_moves, rising}
use Rattle.layout.proofs.RowsOfCuts.{defects_are, map_at, row_defects}
use Rattle.output_sections.proofs.Sized.{AllSound}
use Rattle.layout.proofs.SizeBounds.{apart_at, nothing_apart}
use Rattle.layout.proofs.Trails.{AllStand, IsLow, all_members, all_stands, places_low, trail_low, trail_members, trail_places, trail_stands}

-- no phase has a defect
no_phase : (xs ys : List Defect) → first_phase (xs ∷ ys ∷ []) ≡ [] → (xs ≡ []) × (ys ≡ [])
no_phase [] [] none = (refl, refl)
no_phase [] (y ∷ ys) none = cc
no_phase (x ∷ xs) ys none = cc

no_defects : (limits : Limits) (files : List File) (laid : LaidOut) → layout_defects limits files laid ≡ []
    → (cut_defects files laid.cuts (section_total files) ≡ []) × (limit_defects limits laid ≡ [])
unfolding layout_defects
no_defects limits files laid none = no_phase (cut_defects files laid.cuts (section_total files)) (limit_defects limits laid) none

pub no_append : (xs ys : List Defect) → xs ++ ys ≡ [] → (xs ≡ []) × (ys ≡ [])
no_append [] ys none = (refl, none)
no_append (x ∷ xs) ys none = cc

pub none_at : (f : ℕ → List Defect) (a n k : ℕ) → flat_map f (range_with_len a n) ≡ [] → k < n → f (a + k) ≡ []
none_at f a zero k none lt = absurd (omega (arith, lt))
none_at f a (suc n) zero none lt =
    let e : a ≡ a + 0 = omega arith in
    subst (λ m. f m ≡ []) e (no_append (f a) (flat_map f (range_with_len (a + 1) n)) none).0
none_at f a (suc n) (suc k) none lt =
    let e : (a + 1) + k ≡ a + suc k = omega arith in
    subst (λ m. f m ≡ []) e (none_at f (a + 1) n k (no_append (f a) (flat_map f (range_with_len (a + 1) n)) none).1 (omega (arith, lt)))

-- the limits
limit_by : (p q : Bool) (d e : Defect) → (if p then d ∷ [] else if q then e ∷ [] else []) ≡ [] → (p ≡ false) × (q ≡ false)
limit_by true q d e none = cc
limit_by false true d e none = cc
limit_by false false d e none = (refl, refl)

limits_hold : (limits : Limits) (laid : LaidOut) → limit_defects limits laid ≡ [] → (length laid.outputs ≤ limits.outputs) × (laid.bounds.image_end - IMAGE_BASE < limits.image)
unfolding limit_defects
limits_hold limits laid none =
    let both = limit_by (nat_lt limits.outputs (length laid.outputs)) (nat_le limits.image (laid.bounds.image_end - IMAGE_BASE)) _ _ none in
    let few = both.0 in
    let small = both.1 in
    (grind (arith, nat_tests), grind (arith, nat_tests))

pub within_limits : (limits : Limits) (laid : LaidOut) → limit_defects limits laid ≡ [] → IsWithin limits laid
within_limits limits laid none = let both = limits_hold limits laid none in record { outputs = both.0; image = both.1 }

-- the cuts of one section
pub cuts_here : (leaders : List (Option ℕ)) (sizes : List (List Cut)) (starts : List ℕ) (n : ℕ) → leads leaders n ≡ true
    → cuts_of leaders sizes starts n ≡ laid_cuts (get_or starts n 0) (get_or sizes n [])
unfolding cuts_of
cuts_here leaders sizes starts n is = rw is refl

row_apart : (files : List File) (leaders : List (Option ℕ)) (sizes : List (List Cut)) (starts : List ℕ) (n : ℕ) → All AreApart sizes
    → short_defects (place_of files n) (cuts_of leaders sizes starts n) ≡ [] → AreApart (cuts_of leaders sizes starts n)
unfolding cuts_of
row_apart files leaders sizes starts n apart none = by (leads leaders n) none
  where
    by : (b : Bool) → short_defects (place_of files n) (if b then laid_cuts (get_or starts n 0) (get_or sizes n []) else []) ≡ []
        → AreApart (if b then laid_cuts (get_or starts n 0) (get_or sizes n []) else [])
    by true none = laid_apart (place_of files n) (get_or starts n 0) (get_or sizes n []) (apart_at sizes n apart) none
    by false none = nothing_apart

all_range : (f : ℕ → List Cut) (a n : ℕ) → ((k : ℕ) → k < n → AreApart (f (a + k))) → All AreApart (map f (range_with_len a n))
all_range f a zero each = All-nil AreApart
all_range f a (suc n) each =
    let e : a + 0 ≡ a = omega arith in
    All-cons AreApart (f a) (map f (range_with_len (a + 1) n)) (subst (λ k. AreApart (f k)) e (each 0 (omega arith)))
    (all_range f (a + 1) n (λ k lt. let s : a + suc k ≡ (a + 1) + k = omega arith in subst (λ m. AreApart (f m)) s (each (suc k) (omega (arith, lt)))))

-- a member that is a section
section_member : (files : List File) (b : Bindings) (pools : List Pool) (words : ℕ) (leaders : List (Option ℕ)) (sizes : List (List Cut)) (laid : LaidOut) (n : ℕ) (m : Member)
    → AllSound files → AreLeaders files b leaders → FitSizes files b sizes → IsMade files b pools words leaders sizes m → m.content ≡ Section n → start_at laid n ≡ m.start
    → cuts_at laid n ≡ laid_cuts m.start (get_or sizes n []) → AreApart (cuts_at laid n) → IsSectionMember files b leaders laid n m
section_member files b pools words leaders sizes laid n m sound are fit made is start cuts apart =
    let own = made.leads_is n is in
    let stays = stays_of files b leaders n are own in
    let size : ℕ = (input_at files b n).size in
    let plain : List Cut = get_or sizes n [] in
    let c : List Cut = laid_cuts m.start plain in
    let now : AreApart c = subst AreApart cuts apart in
    let sized : m.size ≡ new_offset c size = made.sized n is in
    let within : All (λ (x : Cut). x.at + x.whole ≤ size) c =
    laid_hold (λ x. x.at + x.whole ≤ size) m.start plain (still_within size m.start) (fit.within n stays.number) in
    let some : All (λ (x : Cut). 0 < x.whole) c = laid_hold (λ x. 0 < x.whole) m.start plain (still_some m.start) (fit.some n stays.number) in
    let lies = lies_of files b n sound stays.number in
    record {
      number = stays.number;
      stays = stays.stays;
      own = own;
      start = sym start;
      size = sized ∙ ap (λ l. new_offset l size) (sym cuts);
      cuts = subst (λ (l : List Cut). All (λ (x : Cut). x.at + x.whole ≤ size) l) (sym cuts) within;
      relocs = λ k d lt.
          let r : Reloc = get_or (relocs_of files n) k d in
          let contents = contents_at files n in
          let met : 0 < value_len contents r → All (IsMet contents r) c =
          λ wide. laid_hold (IsMet contents r) m.start plain (still_met contents r m.start) (fit.clear n stays.number k d lt wide) in
          let most = width_lies contents c size r now some (lies k d lt) met in
          let same : new_offset (cuts_at laid n) r.offset + width_in contents (cuts_at laid n) r ≡ new_offset c r.offset + width_in contents c r =
          ap (λ l. new_offset l r.offset + width_in contents l r) cuts in
          omega (arith, most, same, sized);
    }

-- where a layout has its members
abbrev pub standing : LaidOut → Stands
standing laid = record { starts = laid.starts; pools = laid.pools; got = laid.got }

found_all : (sizes : List (List Cut)) (o : Orders) (b : Bounds) (s : Stands) (it : Content) → HasRoom it s → in_members it (all_stands sizes o b) ≤ 1
    → All (λ (m : Member). m.content ≡ it → stand_at it (all_put (all_stands sizes o b) s) ≡ m.start) (all_members sizes o b)
found_all sizes o b s it room once =
    part_all (λ (m : Member). m.content ≡ it → stand_at it (all_put (all_stands sizes o b) s) ≡ m.start) sizes o b
    (λ k d lt same. found_at it (all_stands sizes o b) s k d lt same once room)

-- each section that is its own leader and has bytes in its file is one of these members
abbrev pub AreListed : List File → Bindings → List (Option ℕ) → List Member → Type 0
AreListed files b leaders members = (n : ℕ) → n < section_total files → leads leaders n ≡ true → (input_at files b n).sh_type ≢ SHT_NOBITS
    → 0 < (input_at files b n).size → is_listed n members ≡ true

-- what the pools and the table have, once they are known
pub record HasContents (pools : List Pool) (words : ℕ) (laid : LaidOut) : Type 0 where
  pub count : length laid.merging.pools ≡ length pools
  pub sizes : (p : ℕ) (d : Pool) → p < length pools → (get_or laid.merging.pools p no_pool).size ≡ (get_or pools p d).size
  pub counted : words ≡ word_count laid.table

-- what a layout has of its walk
pub record IsWalk (files : List File) (pools : ℕ) (leaders : List (Option ℕ)) (sizes : List (List Cut)) (o : Orders) (laid : LaidOut) : Type 0 where
  pub members : laid.members ≡ all_members sizes o laid.bounds
  pub stands : standing laid ≡ all_put (all_stands sizes o laid.bounds) (no_trail (section_total files) pools).stands
  pub low : AllStand (λ start. start + 2 ^ 30 < 2 ^ 63) (standing laid)
  pub places : All IsLow laid.places
  pub cuts : laid.cuts ≡ all_cuts leaders sizes laid.starts (section_total files)

-- what is known of the items of a link, and of their walk
pub record IsPlaced (files : List File) (b : Bindings) (pools : List Pool) (words : ℕ) (leaders : List (Option ℕ)) (sizes : List (List Cut)) (o : Orders) (bounds : Bounds) : Type 0 where
  pub made : All (IsMade files b pools words leaders sizes) (all_members sizes o bounds)
  pub once : (it : Content) → in_members it (all_stands sizes o bounds) ≤ 1
  pub listed : AreListed files b leaders (all_members sizes o bounds)
  pub pool_members : (p : ℕ) (d : Pool) → p < length pools → 0 < (get_or pools p d).size → has_member (is_pool p) (all_members sizes o bounds) ≡ true
  pub table_member : 0 < words → has_member is_table (all_members sizes o bounds) ≡ true

room_at : (starts : List ℕ) (n : ℕ) → All (λ start. start + 2 ^ 30 < 2 ^ 63) starts → get_or starts n 0 + 2 ^ 62 < 2 ^ 64
room_at starts n low =
    elim (cases_lt n (length starts)) [
      | inl lt ↦ omega (arith, low n 0 lt)
      | inr past ↦ omega (arith, get_or-eq_default starts 0 past)
    ]

-- the unwind records of a layout of which this is known
pub frame_room : (sizes : List (List Cut)) (o : Orders) (fs : FrameSizes) (laid : LaidOut) → AllFit sizes o → AreBounds sizes o fs laid.bounds → AreRising laid.bounds
    → laid.members ≡ all_members sizes o laid.bounds → HaveFrameRoom laid
frame_room sizes o fs laid fit is up members =
    let moves = class_moves sizes o fs laid.bounds fit is in
    let apart : All (IsBeside laid.bounds) laid.members = subst (All (IsBeside laid.bounds)) (sym members) (members_beside sizes o fs laid.bounds fit is up) in
    elim (spots sizes o fs laid.bounds is) [
      | inl last ↦ record {
        from = omega (arith, up.first, moves.r.least, last.first);
        header = omega (arith, last.header);
        between = last.between;
        frames = omega (arith, last.frames);
        inside = omega (arith, last.end, up.file_least);
        above = λ has. omega (arith, moves.r.least, last.first);
        none = λ has. let wrong : true ≡ false = sym last.has ∙ has in cc;
        apart = apart;
      }
      | inr none ↦ record {
        from = omega (arith, none.header);
        header = omega (arith, none.header, none.header_end);
        between = omega (arith, none.header_end, none.frames);
        frames = omega (arith, none.frames, none.frames_end);
        inside = omega (arith, none.frames_end, up.first, up.r, up.file_least);
        above = λ has. let wrong : false ≡ true = sym none.has ∙ has in cc;
        none = λ has. none.frames_end;
        apart = apart;
      }
    ]

module _ (limits : Limits) (files : List File) (b : Bindings) (pools : List Pool) (words : ℕ) (leaders : List (Option ℕ)) (sizes : List (List Cut)) (o : Orders)
    (fs : FrameSizes) (laid : LaidOut) (rows : AllFit sizes o) (is : AreBounds sizes o fs laid.bounds) (up : AreRising laid.bounds)
    (placed : IsPlaced files b pools words leaders sizes o laid.bounds) (walk : IsWalk files (length pools) leaders sizes o laid)
    (contents : HasContents pools words laid) (none : layout_defects limits files laid ≡ []) where
  -- each member stands where the layout says
  stands_here : (it : Content) → HasRoom it (no_trail (section_total files) (length pools)).stands
      → All (λ (m : Member). m.content ≡ it → stand_at it (standing laid) ≡ m.start) (all_members sizes o laid.bounds)
  stands_here it room = λ k d lt same.
      ap (stand_at it) walk.stands ∙ found_all sizes o laid.bounds (no_trail (section_total files) (length pools)).stands it room (placed.once it) k d lt same

  -- the cuts of each section
  abbrev cut_row : ℕ → List Cut
  cut_row n = cuts_of leaders sizes laid.starts n

  cuts_are_at : (n : ℕ) → n < section_total files → cuts_at laid n ≡ cut_row n
  cuts_are_at n lt = let e : 0 + n ≡ n = omega arith in ap (λ l. get_or l n []) walk.cuts ∙ map_at cut_row 0 (section_total files) n lt ∙ ap cut_row e

  row_is_apart : All AreApart sizes → (n : ℕ) → n < section_total files → AreApart (cut_row n)
  row_is_apart apart n lt =
      let total : ℕ = section_total files in
      let e : 0 + n ≡ n = omega arith in
      let short : flat_map (row_defects files cut_row) (range_with_len 0 total) ≡ [] =
      sym (ap (λ l. cut_defects files l total) walk.cuts ∙ defects_are files cut_row total) ∙ (no_defects limits files laid none).0 in
      row_apart files leaders sizes laid.starts n apart (subst (λ m. row_defects files cut_row m ≡ []) e (none_at (row_defects files cut_row) 0 total n short lt))

  all_sections : AllSound files → AreLeaders files b leaders → FitSizes files b sizes → All AreApart sizes
      → All (λ m. (n : ℕ) → m.content ≡ Section n → IsSectionMember files b leaders laid n m) (all_members sizes o laid.bounds)
  all_sections sound are fit apart = λ k d lt n same.
      let m : Member = get_or (all_members sizes o laid.bounds) k d in
      let own = (placed.made k d lt).leads_is n same in
      let number = (stays_of files b leaders n are own).number in
      let start : get_or laid.starts n 0 ≡ m.start = stands_here (Section n) (omega (arith, number, length-replicate {A = ℕ} (section_total files) 0)) k d lt same in
      let here : cut_row n ≡ laid_cuts m.start (get_or sizes n []) =
      cuts_here leaders sizes laid.starts n own ∙ ap (λ a. laid_cuts a (get_or sizes n [])) start in
      section_member files b pools words leaders sizes laid n m sound are fit (placed.made k d lt) same start (cuts_are_at n number ∙ here)
      (subst AreApart (sym (cuts_are_at n number)) (row_is_apart apart n number))

  all_pools : All (λ m. (p : ℕ) → m.content ≡ IsPool p → IsPoolMember laid p m) (all_members sizes o laid.bounds)
  all_pools = λ k d lt p same.
      let made = placed.made k d lt in
      let number : p < length pools = made.pool p same in
      let none : Pool = record { first = 0; size = 0 } in
      record {
        number = omega (arith, number, contents.count);
        start = sym (stands_here (IsPool p) (omega (arith, number, length-replicate {A = ℕ} (length pools) 0)) k d lt same);
        size = made.pooled p same none ∙ sym (contents.sizes p none number);
      }

  all_table : All (λ m. m.content ≡ Got → IsGotMember laid m) (all_members sizes o laid.bounds)
  all_table = λ k d lt same. record {
    start = sym (stands_here Got tt k d lt same);
    size = (placed.made k d lt).table same ∙ ap (λ n. 8 * n) contents.counted;
  }

  pool_listed : (p : ℕ) → p < length laid.merging.pools → 0 < (get_or laid.merging.pools p no_pool).size → has_member (is_pool p) (all_members sizes o laid.bounds) ≡ true
  pool_listed p lt some =
      let number : p < length pools = omega (arith, lt, contents.count) in
      let none : Pool = record { first = 0; size = 0 } in
      placed.pool_members p none number (omega (arith, some, contents.sizes p none number))

  pub sound_walk : AllSound files → AreLeaders files b leaders → FitSizes files b sizes → All AreApart sizes → IsWithinStandard limits → IsSound files b leaders laid
  sound_walk sound are fit apart few =
      let total : ℕ = section_total files in
      let limit = limits_hold limits laid (no_defects limits files laid none).1 in
      let inside = members_inside sizes o fs laid.bounds rows is up in
      let order = members_order sizes o fs laid.bounds rows is up in
      let same = sym walk.members in
      let e : (k : ℕ) → 0 + k ≡ k = λ k. omega arith in
      record {
        sections = subst (All (λ m. (n : ℕ) → m.content ≡ Section n → IsSectionMember files b leaders laid n m)) same (all_sections sound are fit apart);
        listed = subst (AreListed files b leaders) same placed.listed;
        pools = subst (All (λ m. (p : ℕ) → m.content ≡ IsPool p → IsPoolMember laid p m)) same all_pools;
        pools_listed = λ p lt some. subst (λ l. has_member (is_pool p) l ≡ true) same (pool_listed p lt some);
        table = subst (All (λ m. m.content ≡ Got → IsGotMember laid m)) same all_table;
        table_listed = λ some. subst (λ l. has_member is_table l ≡ true) same (placed.table_member (omega (arith, some, contents.counted)));
        low = subst (All (λ (m : Member). IMAGE_BASE + EHDR_SIZE ≤ m.start)) same (λ k d lt. omega (arith, (inside k d lt).first, up.first));
        above = subst (All (λ (m : Member). laid.bounds.headers_end ≤ m.start)) same (λ k d lt. (inside k d lt).first);
        inside = subst (All (λ (m : Member). m.start + m.size ≤ laid.bounds.file_end)) same (λ k d lt. (inside k d lt).last);
        order = λ i d lt.
            let ms : List Member = all_members sizes o laid.bounds in
            let count : length laid.members ≡ length ms = ap length walk.members in
            let first : (get_or laid.members i d).start + (get_or laid.members i d).size ≡ (get_or ms i d).start + (get_or ms i d).size =
            ap (λ l. (get_or l i d).start + (get_or l i d).size) walk.members in
            let next : (get_or laid.members (i + 1) d).start ≡ (get_or ms (i + 1) d).start = ap (λ l. (get_or l (i + 1) d).start) walk.members in
            omega (arith, order_at laid.bounds.headers_end ms order i d (omega (arith, lt, count)), first, next);
        headers = omega (arith, up.first, up.r, up.file_least);
        small = omega (arith, limit.1, few.image, up.image_least);
        few = omega (arith, limit.0, few.outputs);
        room = λ n. omega (arith, room_at laid.starts n walk.low.starts);
        pool_room = λ p. room_at laid.pools p walk.low.pools;
        table_room = omega (arith, walk.low.got);
        pointer_room = omega (arith, up.bits, up.nobits, up.room);
        place_room = λ k d lt. omega (arith, walk.places k d lt);
        apart = subst (All AreApart) (sym walk.cuts) (all_range cut_row 0 total (λ k lt. subst (λ m. AreApart (cut_row m)) (sym (e k)) (row_is_apart apart k lt)));
        frames = frame_room sizes o fs laid rows is up walk.members;
      }

-- the layout of a link is one
module _ (files : List File) (b : Bindings) (pools : List Pool) (words : ℕ) (leaders : List (Option ℕ)) (sizes : List (List Cut)) (merging : PoolsView) (table : List GotEntry) where
  walk_laid : (parts : List Item) (o : Orders) (fs : FrameSizes) (bounds : Bounds) → AllFit sizes o → AreBounds sizes o fs bounds → AreRising bounds
      → IsWalk files (length pools) leaders sizes o
      (with_contents (laid_by leaders sizes (section_total files) bounds (trail_of sizes parts o bounds (no_trail (section_total files) (length pools)))) merging table)
  unfolding laid_by with_contents
  walk_laid parts o fs bounds rows is up =
      let low = trail_low sizes parts o fs bounds (section_total files) (length pools) rows is up in
      record {
        members = trail_members sizes parts o bounds (section_total files) (length pools);
        stands = trail_stands sizes parts o bounds (no_trail (section_total files) (length pools));
        low = record { starts = low.starts; pools = low.pools; got = low.got };
        places = subst (All IsLow) (sym (trail_places sizes parts o bounds (section_total files) (length pools))) (places_low sizes parts o fs bounds rows is up);
        cuts = refl;
      }

  bounds_in : (bounds : Bounds) (t : Trail) → (with_contents (laid_by leaders sizes (section_total files) bounds t) merging table).bounds ≡ bounds
  unfolding laid_by with_contents
  bounds_in bounds t = refl

  -- limits and cuts do not turn on what stands in pools and table
  same_defects : (limits : Limits) (laid : LaidOut) → layout_defects limits files (with_contents laid merging table) ≡ layout_defects limits files laid
  unfolding layout_defects limit_defects with_contents
  same_defects limits laid = refl

  contents_of : (laid : LaidOut) → length merging.pools ≡ length pools
      → ((p : ℕ) (d : Pool) → p < length pools → (get_or merging.pools p no_pool).size ≡ (get_or pools p d).size) → words ≡ word_count table
      → HasContents pools words (with_contents laid merging table)
  unfolding with_contents
  contents_of laid count same is = record { count = count; sizes = same; counted = is }

  placed_link : (bounds : Bounds) → AreRisingPools pools → HaveFirsts files b pools → IsPlaced files b pools words leaders sizes (orders_of (items files b pools words leaders)) bounds
  placed_link bounds rise firsts = record {
    made = all_made files b pools words leaders sizes bounds;
    once = stands_once files b pools words leaders sizes bounds;
    listed = all_listed files b pools words leaders sizes bounds;
    pool_members = λ p d lt some. pools_listed files b pools words leaders sizes bounds p d lt rise (firsts p d lt).number some;
    table_member = table_is_listed files b pools words leaders sizes bounds;
  }

  pub sound_laid : (limits : Limits) (fs : FrameSizes) → AllSound files → AreLeaders files b leaders → AreRisingPools pools → HaveFirsts files b pools → FitSizes files b sizes → All AreApart sizes
      → All IsSized (items files b pools words leaders) → all_weight (orders_of (items files b pools words leaders)) + 2 ^ 60 + 2 ^ 59 + 2 ^ 45 < 2 ^ 63 → AreSmall fs → length merging.pools ≡ length pools
      → ((p : ℕ) (d : Pool) → p < length pools → (get_or merging.pools p no_pool).size ≡ (get_or pools p d).size) → words ≡ word_count table → IsWithinStandard limits
      → layout_defects limits files (layout_of files b pools words leaders sizes fs) ≡ []
      → IsSound files b leaders (with_contents (layout_of files b pools words leaders sizes fs) merging table)
  unfolding layout_of laid_of
  sound_laid limits fs sound are rise firsts fit apart sized room small count same_sizes counted few none =
      let parts : List Item = items files b pools words leaders in
      let o : Orders = orders_of parts in
      let bounds : Bounds = bounds_of sizes o fs in
      let t : Trail = trail_of sizes parts o bounds (no_trail (section_total files) (length pools)) in
      let by_walk : LaidOut = laid_by leaders sizes (section_total files) bounds t in
      let laid : LaidOut = with_contents by_walk merging table in
      let ready = ready_of files b pools words leaders sizes are fit sized in
      let rows : AllFit sizes o = all_fit sizes (section_total files) (length pools) o apart ready in
      let is : AreBounds sizes o fs bounds = bounds_are sizes o fs in
      let up : AreRising bounds = rising sizes o fs bounds rows room small is in
      let same : laid.bounds ≡ bounds = bounds_in bounds t in
      sound_walk limits files b pools words leaders sizes o fs laid rows (subst (AreBounds sizes o fs) (sym same) is) (subst AreRising (sym same) up)
      (placed_link laid.bounds rise firsts) (walk_laid parts o fs bounds rows is up) (contents_of by_walk count same_sizes counted) (same_defects limits by_walk ∙ none)
      sound are fit apart few
