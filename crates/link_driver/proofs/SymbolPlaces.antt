-- Each symbol of the symbol table stands in the section whose number its entry has.
use Rattle.std.proofs.Common.{◌≡◌, ℕ, zero, suc, ◌+◌, ◌-◌, ◌<◌, ◌≤◌, ◌^◌, ◌==◌, ◌&&◌, not, Bool, true, false, if◌then◌else◌, Option, Some, None, List, [], ◌∷◌, get_or, length, flat_map, refl, sym, ap, ap₂, ◌∙◌, subst, arith, pos}
use Rattle.std.specs.Prelude.{All, cond, find, is_some, unwrap_or}
use Rattle.std.specs.List.{range_with_len, slice_get}
use Rattle.std.specs.Str.{bytes_eq}
use Rattle.std.proofs.lemmas.Bool.{and_parts, eqb-true}
use Rattle.std.proofs.lemmas.List.Elements.{All-nil, All-head, All-tail}
use Rattle.std.proofs.lemmas.List.FromFn.{get_or-map-range_with_len}
use Rattle.lk_base.specs.declared.abi.TheConstants.{STB_LOCAL}
use Rattle.lk_tables.specs.declared.bounds.Bound.{Bound}
use Rattle.lk_tables.specs.declared.bounds.Bound.TheVariants.{InSection, Number, Linker, Nobody}
use Rattle.lk_tables.specs.declared.commons.BoundCommon.{BoundCommon}
use Rattle.lk_tables.specs.declared.heads.Place.{Place}
use Rattle.lk_tables.specs.declared.heads.Place.TheVariants.{Undef, Absolute, Common, Within}
use Rattle.lk_tables.specs.declared.heads.Symbol.{Symbol}
use Rattle.lk_tables.specs.declared.section_places.SectionPlace.{SectionPlace}
use Rattle.lk_tables.specs.declared.tables.Tables.{Tables}
use Rattle.lk_tables.specs.Binding.{Bindings, bound_common_at, bound_commons_in, class_of, demands, greatest_align, greatest_size, is_discarded, is_offer, offered_bindings, rank_bound}
use Rattle.lk_tables.specs.BoundNames.{IsBindingOf, bindings, with_linker}
use Rattle.lk_tables.specs.Classes.{is_in}
use Rattle.lk_tables.specs.Files.{AreFew, File, common_no, file_at, first_section, is_frame_at, is_visible, section_no, section_total, symbol_at, symbol_name, symbol_no, writes}
use Rattle.lk_tables.specs.FixedSymbols.{frame_start_no}
use Rattle.lk_tables.specs.OutputNames.{output_name}
use Rattle.lk_tables.specs.Ranks.{file_of, is_linker_rank, no_rank, rank_of, symbol_of_rank}
use Rattle.lk_tables.specs.Sites.{place_of}
use Rattle.lk_tables.specs.Symbols.{is_common}
use Rattle.lk_tables.specs.TablesView.{files_of}
use Rattle.lk_tables.specs.Targets.{bound, bound_by, commons_at, defined_by, definition, offset_in, rank_at, room_of, unwritten}
use Rattle.lk_tables.proofs.BoundHas.{class_few, each_flat, each_if, either, one_if}
use Rattle.lk_tables.proofs.BoundWithin.{common_below}
use Rattle.lk_tables.proofs.FirstNumbers.{first_within, section_more}
use Rattle.lk_tables.proofs.LiveFiles.{counted}
use Rattle.lk_tables.proofs.Owners.{IsOwner, place_is, written_within}
use Rattle.link_sections.specs.declared.pools.Pool.{Pool}
use Rattle.link_sections.specs.declared.got.GotEntry.{GotEntry}
use Rattle.link_sections.specs.Addresses.{address_of, byte_address, symbol_address, target_address}
use Rattle.link_sections.specs.Cuts.{AreApart, new_offset}
use Rattle.link_sections.specs.InputSections.{InputSection, input_at, input_of}
use Rattle.link_sections.specs.LaidOut.{LaidOut, OutputSection, address_in, cuts_at, start_at, with_contents}
use Rattle.link_sections.specs.Leaders.{is_kept, leader_at, leader_of, leads}
use Rattle.link_sections.specs.PieceTargets.{in_section}
use Rattle.link_sections.specs.declared.pools.Pools.{Pools}
use Rattle.link_sections.specs.PoolViews.{Merged, PoolsView, is_merged, merged_at, merged_views, pools_view}
use Rattle.link_sections.specs.Sound.{IsSound}
use Rattle.link_sections.proofs.CutSums.{new_rises}
use Rattle.output_sections.specs.Items.{AreLeaders, section_item}
use Rattle.layout.specs.Holding.{AreHeld, Holds, IsHeld, takes}
use Rattle.layout.proofs.SizeBounds.{apart_at}
use Rattle.symbol_table.specs.declared.symbols.TablePlace.{TablePlace}
use Rattle.symbol_table.specs.declared.symbols.TablePlace.TheVariants.{Output}
use Rattle.symbol_table.specs.Outputs.{first_passing, place_in, place_or}
use Rattle.symbol_table.specs.SymbolTable.{TableSymbol, entry_by, entry_of, is_taken, own_symbol, section_in, size_in, table_value}
use Rattle.link_passes.specs.Leaders.{AreAlike, GoWithLeaders}
use Rattle.link_driver.specs.Symbols.{HasItsSection, HasNumber, IsListed, StandsIn, SymbolsStand}
use Rattle.link_driver.proofs.TargetsLie.{LiesIn, bound_lies}

-- the first that passes a test, and its number
record IsFirst (test : OutputSection → Bool) (from number : ℕ) (os : List OutputSection) (found : Option OutputSection) : Type 0 where
  output : OutputSection
  is : found ≡ Some output
  there : slice_get os (number - from) ≡ Some output
  low : from ≤ number

first_at : (test : OutputSection → Bool) (from number : ℕ) (os : List OutputSection) → first_passing test from os ≡ Some number → IsFirst test from number os (find test os)
first_at test from number [] is = let none : ⊥ = cc in absurd none
first_at test from number (o ∷ os) is = by (test o) is (first_at test (from + 1) number os)
  where
    by : (t : Bool) → (if t then Some from else first_passing test (from + 1) os) ≡ Some number
        → (first_passing test (from + 1) os ≡ Some number → IsFirst test (from + 1) number os (find test os)) → IsFirst test from number (o ∷ os) (cond t (Some o) (find test os))
    by true is later =
        let same : from ≡ number = ap (λ k. unwrap_or k from) is in
        let none : number - from ≡ 0 = omega (arith, same) in
        record { output = o; is = refl; there = ap (slice_get (o ∷ os)) none; low = omega (arith, same) }
    by false is later =
        let more = later is in
        let next : number - from ≡ suc (number - (from + 1)) = omega (arith, more.low) in
        record { output = more.output; is = more.is; there = ap (slice_get (o ∷ os)) next ∙ more.there; low = omega (arith, more.low) }

found_first : (test : OutputSection → Bool) (from : ℕ) (os : List OutputSection) (o : OutputSection) → find test os ≡ Some o → (number : ℕ) × (first_passing test from os ≡ Some number)
found_first test from [] o is = let none : ⊥ = cc in absurd none
found_first test from (x ∷ xs) o is = by (test x) is (found_first test (from + 1) xs o)
  where
    by : (t : Bool) → cond t (Some x) (find test xs) ≡ Some o → (find test xs ≡ Some o → (number : ℕ) × (first_passing test (from + 1) xs ≡ Some number))
        → (number : ℕ) × ((if t then Some from else first_passing test (from + 1) xs) ≡ Some number)
    by true is later = (from, refl)
    by false is later = later is

has_members : (x y : OutputSection) → Some x ≡ Some y → 0 < x.count → 0 < y.count
has_members x y is some = let same : x ≡ y = cc in subst (λ (o : OutputSection). 0 < o.count) same some

find_same : (p q : OutputSection → Bool) (os : List OutputSection) → ((o : OutputSection) → p o ≡ q o) → find p os ≡ find q os
find_same p q [] same = refl
find_same p q (o ∷ os) same = ap₂ (λ (t : Bool) (r : Option OutputSection). cond t (Some o) r) (same o) (find_same p q os same)

numbered : (o : Option ℕ) (number : ℕ) → place_or o ≡ Output number → o ≡ Some number
numbered None number is = cc
numbered (Some k) number is = let same : k ≡ number = cc in ap Some same

place_is_first : (laid : LaidOut) (s : InputSection) (n number : ℕ) → place_in laid s ≡ Output number → first_passing (takes (section_item n s)) 1 laid.outputs ≡ Some number
unfolding place_in
place_is_first laid s n number is = numbered (first_passing (takes (section_item n s)) 1 laid.outputs) number is

file_is : (class f i : ℕ) → class ≤ 2 → f < 2 ^ 24 → i < 2 ^ 32 → file_of (rank_of class f i) ≡ f
file_is class f i few file symbol = omega arith

symbol_is : (class f i : ℕ) → i < 2 ^ 32 → symbol_of_rank (rank_of class f i) ≡ i
symbol_is class f i symbol = omega arith

-- a section of a file
abbrev Owned : List File → (f : ℕ) → Bound → Type 0
Owned files f (InSection section offset) = IsOwner files section f
Owned files f (Number n) = Unit {0}
Owned files f (Linker n) = Unit {0}
Owned files f Nobody = Unit {0}

module _ (files : List File) (b : Bindings) where
  abbrev IsRoomOf : ℕ → BoundCommon → Type 0
  IsRoomOf f c = IsOwner files c.section f

  rooms_are : (gone : List Bool) (f : ℕ) → f < length files → All (IsRoomOf f) (bound_commons_in files gone f)
  unfolding bound_commons_in bound_common_at
  rooms_are gone f lt =
      let file = file_at files f in
      each_if (IsRoomOf f) file.live (flat_map (bound_common_at files gone f) (range_with_len 0 (length file.head.symbols))) (λ live.
      each_flat (IsRoomOf f) (bound_common_at files gone f) 0 (length file.head.symbols) (λ i less.
      let wanted : Bool = rank_bound files gone f i == rank_of 1 f i in
      one_if (IsRoomOf f) (is_common (symbol_at file i).place && wanted)
      (record { file = f; symbol = i; section = common_no files f i; size = greatest_size (symbol_name file i) (demands files); align = greatest_align (symbol_name file i) (demands files) })
      (λ is. let both = and_parts (is_common (symbol_at file i).place) wanted is in
      record {
        file = lt;
        from = omega arith;
        below = omega (arith, section_more files f lt, counted file live, common_below file i (omega (arith, less)) both.0);
      })))

  commons_are : (f : ℕ) → IsBindingOf files b → f < length files → All (IsRoomOf f) (commons_at b.commons f)
  unfolding bindings with_linker offered_bindings
  commons_are f (gone, entry, is) lt =
      let P : List BoundCommon → Type 0 = λ cs. All (IsRoomOf f) cs in
      let own : commons_at b.commons f ≡ bound_commons_in files gone f =
      ap (λ (n : Bindings). commons_at n.commons f) is ∙ get_or-map-range_with_len (bound_commons_in files gone) 0 (length files) f f [] lt (omega arith) in
      subst P (sym own) (rooms_are gone f lt)

  room_owned : (f : ℕ) (p : BoundCommon → Bool) (cs : List BoundCommon) → All (IsRoomOf f) cs → Owned files f (room_of (find p cs))
  room_owned f p [] all = tt
  room_owned f p (c ∷ cs) all =
      either (λ o. Owned files f (room_of o)) (p c) (Some c) (find p cs) (All-head (IsRoomOf f) c cs all) (room_owned f p cs (All-tail (IsRoomOf f) c cs all))

  written_owned : (f i k : ℕ) (d : Bool) → f < length files → (file_at files f).live ≡ true → writes (file_at files f) k ≡ d
      → Owned files f (if d then InSection (section_no files f k) (offset_in (symbol_at (file_at files f) i)) else unwritten (file_at files f) k (symbol_at (file_at files f) i))
  written_owned f i k true lt live written = record {
    file = lt;
    from = omega arith;
    below = omega (arith, section_more files f lt, counted (file_at files f) live, written_within (file_at files f) k written);
  }
  written_owned f i k false lt live written =
      let s : Symbol = symbol_at (file_at files f) i in
      either (Owned files f) (is_frame_at (file_at files f) k && s.value == 0) (Linker frame_start_no) (Number s.value) tt tt

  defined_owned : (f i : ℕ) (place : Place) → IsBindingOf files b → f < length files → (file_at files f).live ≡ true
      → Owned files f (defined_by files b place f i (symbol_at (file_at files f) i))
  defined_owned f i Undef is lt live = tt
  defined_owned f i Absolute is lt live = tt
  defined_owned f i Common is lt live = room_owned f (λ c. c.symbol == i) (commons_at b.commons f) (commons_are f is lt)
  defined_owned f i (Within k) is lt live =
      either (Owned files f) (is_discarded files b.discarded f (Within k)) Nobody
      (if writes (file_at files f) k then InSection (section_no files f k) (offset_in (symbol_at (file_at files f) i)) else unwritten (file_at files f) k (symbol_at (file_at files f) i)) tt
      (written_owned f i k (writes (file_at files f) k) lt live refl)

  definition_owned : (f i : ℕ) → IsBindingOf files b → f < length files → (file_at files f).live ≡ true → Owned files f (definition files b f i)
  unfolding definition
  definition_owned f i is lt live = defined_owned f i (symbol_at (file_at files f) i).place is lt live

  -- a symbol to which its name is bound is its own definition
  named_by : (rank n offset : ℕ) → bound_by files b rank ≡ InSection n offset → definition files b (file_of rank) (symbol_of_rank rank) ≡ InSection n offset
  unfolding bound_by
  named_by rank n offset is = by (rank == no_rank) (is_linker_rank rank) is
    where
      by : (p q : Bool) → (if p then Nobody else (if q then Linker (symbol_of_rank rank) else definition files b (file_of rank) (symbol_of_rank rank))) ≡ InSection n offset
          → definition files b (file_of rank) (symbol_of_rank rank) ≡ InSection n offset
      by true q is = let none : ⊥ = cc in absurd none
      by false true is = let none : ⊥ = cc in absurd none
      by false false is = is

  taken_is : (f i n offset : ℕ) → AreFew files → f < length files → i < length (file_at files f).head.symbols → is_taken files b f i ≡ true → bound files b f i ≡ InSection n offset
      → definition files b f i ≡ InSection n offset
  unfolding bound is_taken
  taken_is f i n offset few lt below taken is = by ((symbol_at (file_at files f) i).binding == STB_LOCAL) is
    where
      by : (t : Bool) → (if t then definition files b f i else bound_by files b (rank_at b (symbol_no files f i))) ≡ InSection n offset → definition files b f i ≡ InSection n offset
      by true is = is
      by false is =
          let s : Symbol = symbol_at (file_at files f) i in
          let class : ℕ = class_of s in
          let own : ℕ = rank_of class f i in
          let rank : ℕ = rank_at b (symbol_no files f i) in
          let same : rank ≡ own = eqb-true rank own (and_parts (is_offer s) (rank == own) taken).1 in
          let low : i < 2 ^ 32 = omega (arith, below, first_within files f lt, few.symbol_count) in
          let file : file_of rank ≡ f = ap file_of same ∙ file_is class f i (class_few s) (omega (arith, lt, few.file_count)) low in
          let symbol : symbol_of_rank rank ≡ i = ap symbol_of_rank same ∙ symbol_is class f i low in
          sym (ap₂ (λ (x y : ℕ). definition files b x y) file symbol) ∙ named_by rank n offset is

  section_is : (f n : ℕ) → IsOwner files n f → section_in files b f n ≡ input_at files b n
  section_is f n own =
      let index : n - section_no files f 0 ≡ n - first_section files f = omega arith in
      ap (input_of files b f) index ∙ sym (ap (λ (p : SectionPlace). input_of files b p.file p.index) (place_is files n f own))

  pub taken_section : (f i n offset : ℕ) → IsBindingOf files b → AreFew files → f < length files → (file_at files f).live ≡ true → i < length (file_at files f).head.symbols
      → is_taken files b f i ≡ true → bound files b f i ≡ InSection n offset → section_in files b f n ≡ input_at files b n
  taken_section f i n offset is few lt live below taken bound_is =
      section_is f n (subst (Owned files f) (taken_is f i n offset few lt below taken bound_is) (definition_owned f i is lt live))

-- the entry of such a symbol
module _ (files : List File) (b : Bindings) (kept : List Bool) (leaders : List (Option ℕ)) (laid : LaidOut) where
  record IsEntry (f i n offset : ℕ) (t : TableSymbol) : Type 0 where
    taken : is_taken files b f i ≡ true
    stays : is_kept kept n ≡ true
    value : t.value ≡ table_value files b kept leaders laid f i
    section : t.section ≡ place_in laid (section_in files b f n)

  one_of : (v w : Bool) (x t : TableSymbol) → (if v then (if w then x ∷ [] else []) else []) ≡ t ∷ [] → (w ≡ true) × (x ≡ t)
  one_of true true x t is = (refl, cc)
  one_of true false x t is = let none : ⊥ = cc in absurd none
  one_of false w x t is = let none : ⊥ = cc in absurd none

  entry_is : (f i n offset : ℕ) (t : TableSymbol) → bound files b f i ≡ InSection n offset → entry_of files b kept leaders laid f i ≡ t ∷ [] → IsEntry f i n offset t
  unfolding entry_of entry_by
  entry_is f i n offset t bound_is is =
      let s : Symbol = symbol_at (file_at files f) i in
      let own : TableSymbol = own_symbol files b kept leaders laid f i (size_in files b kept leaders laid f n offset s) (place_in laid (section_in files b f n)) in
      let whole : (if is_visible s then (if is_taken files b f i && is_kept kept n then own ∷ [] else []) else []) ≡ t ∷ [] =
      sym (ap (λ o. if is_visible s then entry_by files b kept leaders laid o f i else []) bound_is) ∙ is in
      let both = one_of (is_visible s) (is_taken files b f i && is_kept kept n) own t whole in
      let tests = and_parts (is_taken files b f i) (is_kept kept n) both.0 in
      record {
        taken = tests.0;
        stays = tests.1;
        value = sym (ap (λ (x : TableSymbol). x.value) both.1);
        section = sym (ap (λ (x : TableSymbol). x.section) both.1);
      }

  none_merged : (o : Option Merged) → is_some o ≡ false → o ≡ None
  none_merged None is = refl
  none_merged (Some m) is = let none : ⊥ = cc in absurd none

  -- where it stands: at its offset in the section that is written in the place of its own
  address_is : (f i n offset m : ℕ) → (file_at files f).live ≡ true → bound files b f i ≡ InSection n offset → is_merged laid.merging.merged n ≡ false → leader_at leaders n ≡ Some m
      → symbol_address files b leaders laid f i ≡ start_at laid m + new_offset (cuts_at laid m) offset
  unfolding symbol_address byte_address address_in
  address_is f i n offset m live bound_is other led =
      let leader : leader_of leaders n ≡ m = ap (λ o. unwrap_or o n) led in
      ap (λ t. if t then address_of files b leaders laid (bound files b f i) else 0) live ∙ ap (address_of files b leaders laid) bound_is
      ∙ ap (λ k. target_address files b leaders laid (in_section k n offset (pos 0))) (none_merged (merged_at laid.merging.merged n) other)
      ∙ ap (λ k. start_at laid k + new_offset (cuts_at laid k) offset) leader

-- so it stands in the section of its entry
module _ (tables : Tables) (b : Bindings) (kept : List Bool) (leaders : List (Option ℕ)) (laid : LaidOut) where
  abbrev files : List File
  files = files_of tables

  abbrev AreSectionsHeld : Type 0
  AreSectionsHeld = (n : ℕ) → n < section_total files → leads leaders n ≡ true
      → IsHeld laid.outputs (section_item n (input_at files b n)) (start_at laid n) (new_offset (cuts_at laid n) (input_at files b n).size)

  -- it goes where the section goes that is written in its place
  same_output : (n m : ℕ) → GoWithLeaders files b kept laid.merging.merged leaders → leader_at leaders n ≡ Some m
      → find (takes (section_item n (input_at files b n))) laid.outputs ≡ find (takes (section_item m (input_at files b m))) laid.outputs
  same_output n m go led =
      let s : InputSection = input_at files b n in
      let l : InputSection = input_at files b m in
      find_same (takes (section_item n s)) (takes (section_item m l)) laid.outputs (λ x.
      ap (λ name. is_in x.class s.sh_type s.flags && bytes_eq name x.name) (go.output n m led)
      ∙ ap (λ sort. is_in x.class sort s.flags && bytes_eq (output_name l.name) x.name) (go.sh_type n m led)
      ∙ ap (λ flags. is_in x.class l.sh_type flags && bytes_eq (output_name l.name) x.name) (go.flags n m led))

  named_at : (n m : ℕ) → AreLeaders files b leaders → AreAlike files b leaders → GoWithLeaders files b kept laid.merging.merged leaders → AreSectionsHeld → leader_at leaders n ≡ Some m
      → 0 < (input_at files b n).size → (t : TableSymbol) → t.section ≡ place_in laid (input_at files b n) → HasNumber laid t
  unfolding place_in
  named_at n m lead alike go held led some t is =
      let s : InputSection = input_at files b n in
      let l : InputSection = input_at files b m in
      let here = held m (lead.stay n m led).number (lead.own n m led) in
      let bytes : 0 < l.size = omega (arith, some, alike n m led) in
      let there = here.there bytes in
      let found : find (takes (section_item n s)) laid.outputs ≡ Some there.0 = same_output n m go led ∙ there.1.0 in
      let number = found_first (takes (section_item n s)) 1 laid.outputs there.0 found in
      let first = first_at (takes (section_item n s)) 1 number.0 laid.outputs number.1 in
      record {
        number = number.0;
        output = first.output;
        section = is ∙ ap place_or number.1;
        header = first.there;
        members = has_members there.0 first.output (sym found ∙ first.is) there.1.1;
      }

  stands_at : (f i n offset m number : ℕ) → IsBindingOf files b → AreLeaders files b leaders → AreAlike files b leaders → GoWithLeaders files b kept laid.merging.merged leaders
      → IsSound files b leaders laid → AreSectionsHeld → f < length files → (file_at files f).live ≡ true → bound files b f i ≡ InSection n offset → is_merged laid.merging.merged n ≡ false
      → leader_at leaders n ≡ Some m → place_in laid (input_at files b n) ≡ Output number → StandsIn laid number (symbol_address files b leaders laid f i)
  stands_at f i n offset m number is lead alike go sound held lt live bound_is other led place =
      let s : InputSection = input_at files b n in
      let l : InputSection = input_at files b m in
      let first = first_at (takes (section_item n s)) 1 number laid.outputs (place_is_first laid s n number place) in
      let o : OutputSection = first.output in
      let same = same_output n m go led in
      let here = held m (lead.stay n m led).number (lead.own n m led) in
      let lies : offset ≤ s.size = subst (LiesIn files b) bound_is (bound_lies tables b f i is tables.few lt live) in
      let rises : new_offset (cuts_at laid m) offset ≤ new_offset (cuts_at laid m) l.size =
      new_rises (cuts_at laid m) offset l.size (apart_at laid.cuts m sound.apart) (omega (arith, lies, alike n m led)) in
      let at = address_is files b kept leaders laid f i n offset m live bound_is other led in
      record {
        output = o;
        counted = first.low;
        header = first.there;
        from = λ some. let h : Holds (start_at laid m) (new_offset (cuts_at laid m) l.size) o = here.within o (sym same ∙ first.is) some in omega (arith, at, h.from);
        to = λ some. let h : Holds (start_at laid m) (new_offset (cuts_at laid m) l.size) o = here.within o (sym same ∙ first.is) some in omega (arith, at, h.to, rises);
      }

  -- its entry has the section of the output section to which its section goes
  section_at_is : (f i n : ℕ) (t : TableSymbol) → IsBindingOf files b → IsListed files b kept leaders laid f i n t → t.section ≡ place_in laid (input_at files b n)
  section_at_is f i n t is has =
      let own = entry_is files b kept leaders laid f i n has.offset t has.target has.entry in
      own.section ∙ ap (place_in laid) (taken_section files b f i n has.offset is tables.few has.file has.live has.symbol own.taken has.target)

  symbols_stand : IsBindingOf files b → AreLeaders files b leaders → AreAlike files b leaders → GoWithLeaders files b kept laid.merging.merged leaders
      → IsSound files b leaders laid → AreSectionsHeld → SymbolsStand files b kept leaders laid
  symbols_stand is lead alike go sound held = record {
    stand = λ f i n number t has section.
        let own = entry_is files b kept leaders laid f i n has.offset t has.target has.entry in
        let place : place_in laid (input_at files b n) ≡ Output number = sym (section_at_is f i n t is has) ∙ section in
        let led = go.led n own.stays has.apart in
        record { value = own.value; stands = stands_at f i n has.offset led.0 number is lead alike go sound held has.file has.live has.target has.apart led.1 place };
    named = λ f i n t has some.
        let own = entry_is files b kept leaders laid f i n has.offset t has.target has.entry in
        let led = go.led n own.stays has.apart in
        named_at n led.0 lead alike go held led.1 some t (section_at_is f i n t is has);
  }

-- what is held of a layout is held of it with what stands in pools and table
held_with : (files : List File) (b : Bindings) (pools : List Pool) (words : ℕ) (leaders : List (Option ℕ)) (l : LaidOut) (merging : PoolsView) (table : List GotEntry)
    → AreHeld files b pools words leaders l → AreHeld files b pools words leaders (with_contents l merging table)
unfolding with_contents
held_with files b pools words leaders l merging table held = record { sections = held.sections; merged = held.merged; table = held.table }

merged_is : (files : List File) (pools : Pools) (l : LaidOut) (table : List GotEntry) → merged_views pools ≡ (with_contents l (pools_view files pools) table).merging.merged
unfolding with_contents pools_view
merged_is files pools l table = refl

pub laid_symbols : (tables : Tables) (b : Bindings) (kept : List Bool) (pools : Pools) (words : ℕ) (leaders : List (Option ℕ)) (l : LaidOut) (table : List GotEntry)
    → IsBindingOf (files_of tables) b → AreLeaders (files_of tables) b leaders → AreAlike (files_of tables) b leaders
    → GoWithLeaders (files_of tables) b kept (merged_views pools) leaders → IsSound (files_of tables) b leaders (with_contents l (pools_view (files_of tables) pools) table)
    → AreHeld (files_of tables) b pools.pools.items words leaders l → SymbolsStand (files_of tables) b kept leaders (with_contents l (pools_view (files_of tables) pools) table)
laid_symbols tables b kept pools words leaders l table is lead alike go sound held =
    let files = files_of tables in
    let laid : LaidOut = with_contents l (pools_view files pools) table in
    symbols_stand tables b kept leaders laid is lead alike (subst (λ m. GoWithLeaders files b kept m leaders) (merged_is files pools l table) go) sound
    (held_with files b pools.pools.items words leaders l (pools_view files pools) table held).sections
