-- The defects of each phase are in order.
use Rattle.std.proofs.Common.{◌≡◌, ℕ, zero, suc, ◌+◌, ◌-◌, ◌<◌, ◌≤◌, ◌⊎◌, ◌^◌, ◌==◌, ◌&&◌, not, nat_lt, min, Bool, true, false, Option, Some, None, List, [], ◌∷◌, ◌++◌, flat_map, length, map, refl, sym, ap, ◌∙◌, subst, inl, inr, ⊎_elim, arith}
use Rattle.std.specs.Prelude.{bit_and, filter, find, if◌then◌else◌, Result, Ok, Err}
use Rattle.std.specs.List.{AllByRecursion, range_with_len}
use Rattle.std.specs.Str.{bytes_eq}
use Rattle.std.proofs.lemmas.Bool.{cases_lt}
use Rattle.std.proofs.lemmas.List.{get_or_past}
use Rattle.lk_base.specs.declared.defects.Defect.{Defect}
use Rattle.lk_base.specs.declared.defects.Flaw.{Flaw}
use Rattle.lk_base.specs.declared.limits.Limits.{Limits}
use Rattle.lk_base.specs.declared.abi.TheConstants.{EF_RISCV_FLOAT_ABI}
use Rattle.lk_base.specs.declared.kinds.TheConstants.{FLAGS_CLASH, UNDEFINED}
use Rattle.lk_base.specs.RelocKinds.{names_a_symbol}
use Rattle.lk_tables.specs.FileHeader.{section_count}
use Rattle.lk_tables.specs.Targets.{is_undefined}
use Rattle.lk_base.specs.Defects.{count_defect, count_defects}
use Rattle.link_sections.specs.Merging.{piece_count}
use Rattle.lk_base.proofs.StableOrder.{rises_order}
use Rattle.lk_tables.specs.declared.objects.Reloc.{Reloc}
use Rattle.lk_tables.specs.Binding.{Bindings, FloatAbi, Offer, is_discarded, is_offer, no_entry, clash_of, clashes_with_first, class_of, duplicate_defects, duplicate_of, duplicates_of, flag_defects, float_abi_at, float_abis, is_strong, offer_at, offers, offers_in}
use Rattle.lk_tables.specs.BoundNames.{bindings, entry_defects}
use Rattle.lk_tables.specs.Files.{File, file_at, first_section, no_file, relocs_at, section_total, symbol_at, symbol_name, symbol_total}
use Rattle.lk_tables.specs.Heads.{head_of}
use Rattle.lk_tables.specs.Objects.{parts_of, relocs_for, relocs_in}
use Rattle.lk_tables.specs.Bodies.{rela_of}
use Rattle.lk_tables.specs.Ranks.{file_of, no_rank, rank_of, symbol_of_rank}
use Rattle.lk_tables.specs.Relocations.{in_order, rela_count, reloc, relocs_of as relocs_by}
use Rattle.lk_tables.specs.Sites.{IsPlaceOf, place_of}
use Rattle.lk_tables.specs.Walks.{over_file, over_live, over_section, reloc_defect}
use Rattle.lk_tables.proofs.FirstNumbers.{first_within, section_more, section_upto}
use Rattle.lk_tables.proofs.Owners.{place_of_number}
use Rattle.sec_graph.specs.Undefined.{is_needed, undefined_at, undefined_defects}
use Rattle.link_passes.specs.Defects.{body_defects, body_defects_at, body_of, flawed, flaws, head_defects, head_defects_at, opening_defects, reading_defects}
use Rattle.link_passes.specs.Passes.{piece_defects}
use Rattle.link_passes.specs.Sources.{Source, files_in, has_body, headed, heads_in, live_in, opened, opened_files, source_at, with_body}
use Rattle.link_passes.proofs.Rising.{AreBelow, Up, all_append, all_map, all_weaker, number_walk, one_all, one_up, up_append, up_if, up_map, up_walk}
use Rattle.link_driver.proofs.DefectOrder.{IsWide, NotAfter, Ordered, all_flat, all_if, all_same, later_file, later_place, later_section, read_all, then_wide, up_filter, up_from_rises, wide_ordered}

-- a defect of this file
abbrev pub OfFile : ℕ → Defect → Type 0
OfFile f e = e.file ≡ f

files_apart : (n j k : ℕ) (d e : Defect) → AreBelow n j k → OfFile j d → OfFile k e → NotAfter d e
files_apart n j k d e lt here there = later_file e d (omega (arith, lt.0, here, there))

flaws_file : {A : Type 0} (f : ℕ) (r : Result A Flaw) → AllByRecursion (OfFile f) (flaws f r)
flaws_file f (Ok value) = tt
flaws_file f (Err flaw) = (refl, tt)

flaws_up : {A : Type 0} (f : ℕ) (r : Result A Flaw) → Ordered (flaws f r)
flaws_up f (Ok value) = tt
flaws_up f (Err flaw) = (tt, tt)

flawed_file : (s : Source) (f : ℕ) (o : Option Flaw) → AllByRecursion (OfFile f) (flawed s f o)
flawed_file s f (Some flaw) = (refl, tt)
flawed_file s f None = all_if (OfFile f) s.archive [] (flaws f (head_of s.bytes)) tt (flaws_file f (head_of s.bytes))

flawed_up : (s : Source) (f : ℕ) (o : Option Flaw) → Ordered (flawed s f o)
flawed_up s f (Some flaw) = (tt, tt)
flawed_up s f None = up_if NotAfter s.archive [] (flaws f (head_of s.bytes)) tt (flaws_up f (head_of s.bytes))

head_file : (s : Source) (f : ℕ) → AllByRecursion (OfFile f) (head_defects s f)
unfolding head_defects
head_file s f = flawed_file s f s.flaw

head_up : (s : Source) (f : ℕ) → Ordered (head_defects s f)
unfolding head_defects
head_up s f = flawed_up s f s.flaw

body_file : (ss : List Source) (live : List Bool) (f : ℕ) → AllByRecursion (OfFile f) (body_defects_at ss live f)
unfolding body_defects
body_file ss live f =
    let own = flaws f (body_of (source_at ss f).bytes) in
    all_if (OfFile f) (has_body ss live f) own [] (flaws_file f (body_of (source_at ss f).bytes)) tt

body_up : (ss : List Source) (live : List Bool) (f : ℕ) → Ordered (body_defects_at ss live f)
unfolding body_defects
body_up ss live f =
    let own = flaws f (body_of (source_at ss f).bytes) in
    up_if NotAfter (has_body ss live f) own [] (flaws_up f (body_of (source_at ss f).bytes)) tt

counts_wide : (limit count : ℕ) → AllByRecursion IsWide (count_defects limit count)
counts_wide limit count = one_all IsWide (nat_lt limit count) (count_defect count) refl

pub reading_ordered : (limits : Limits) (ss : List Source) → Ordered (reading_defects limits ss)
unfolding reading_defects
reading_ordered limits ss =
    let n = min (length ss) limits.files in
    let files = count_defects limits.files (length ss) in
    let symbols = count_defects limits.symbols (symbol_total (heads_in ss)) in
    then_wide (flat_map (head_defects_at ss) (range_with_len 0 n)) (files ++ symbols)
    (number_walk n NotAfter OfFile (files_apart n) (head_defects_at ss) (λ f. head_file (source_at ss f) f) (λ f. head_up (source_at ss f) f))
    (all_append IsWide files symbols (counts_wide limits.files (length ss)) (counts_wide limits.symbols (symbol_total (heads_in ss))))

pub opening_ordered : (limits : Limits) (undefined : List (List ℕ)) (ss : List Source) → Ordered (opening_defects limits undefined ss)
unfolding opening_defects
opening_ordered limits undefined ss =
    let n = length ss in
    let live = live_in undefined ss in
    then_wide (flat_map (body_defects_at ss live) (range_with_len 0 n)) (count_defects limits.sections (section_total (files_in undefined ss)))
    (number_walk n NotAfter OfFile (files_apart n) (body_defects_at ss live) (body_file ss live) (body_up ss live))
    (counts_wide limits.sections (section_total (files_in undefined ss)))

pub pieces_ordered : (limits : Limits) (files : List File) → Ordered (piece_defects limits files)
unfolding piece_defects
pieces_ordered limits files =
    let n = min (piece_count files) (2 ^ 64 - 1) in
    wide_ordered (count_defects limits.pieces n) (counts_wide limits.pieces n)

pub entry_ordered : (files : List File) (gone : List Bool) (entry : List ℕ) → Ordered (entry_defects files gone entry)
unfolding entry_defects
entry_ordered files gone entry = one_up NotAfter ((bindings files gone entry).entry == no_rank) no_entry

-- float ABIs
abbrev AbisUp : (x y : FloatAbi) → Type 0
AbisUp x y = x.file < y.file

abbrev AbiOf : ℕ → FloatAbi → Type 0
AbiOf f a = a.file ≡ f

abi_of : (files : List File) (f : ℕ) → AllByRecursion (AbiOf f) (float_abi_at files f)
unfolding float_abi_at
abi_of files f = one_all (AbiOf f) (file_at files f).live (record { file = f; abi = bit_and (file_at files f).head.flags EF_RISCV_FLOAT_ABI }) refl

abi_up : (files : List File) (f : ℕ) → Up AbisUp (float_abi_at files f)
unfolding float_abi_at
abi_up files f = one_up AbisUp (file_at files f).live (record { file = f; abi = bit_and (file_at files f).head.flags EF_RISCV_FLOAT_ABI })

abis_up : (files : List File) → Up AbisUp (float_abis files)
abis_up files =
    number_walk (length files) AbisUp AbiOf (λ j k x y lt here there. omega (arith, lt.0, here, there)) (float_abi_at files) (abi_of files) (abi_up files)

unless_all : {X : Type 0} (P : X → Type 0) (off : Bool) (x : X) → P x → AllByRecursion P (if off then [] else x ∷ [])
unless_all P true x here = tt
unless_all P false x here = (here, tt)

unless_up : {X : Type 0} (R : X → X → Type 0) (off : Bool) (x : X) → Up R (if off then [] else x ∷ [])
unless_up R true x = tt
unless_up R false x = (tt, tt)

abbrev clash : ℕ → FloatAbi → Defect
clash first own = record { kind = FLAGS_CLASH; file = own.file; section = 0; place = own.abi; symbol = 0; other = first }

clash_file : (first : ℕ) (a : FloatAbi) → AllByRecursion (OfFile a.file) (clash_of first a)
clash_file first a = unless_all (OfFile a.file) (a.abi == first) (clash first a) refl

clash_up : (first : ℕ) (a : FloatAbi) → Ordered (clash_of first a)
clash_up first a = unless_up NotAfter (a.abi == first) (clash first a)

clashes_ordered : (abis : List FloatAbi) → Up AbisUp abis → Ordered (clashes_with_first abis)
clashes_ordered [] up = tt
clashes_ordered (first ∷ rest) up =
    up_walk AbisUp NotAfter (λ a. OfFile a.file) (λ x y d e lt here there. later_file e d (omega (arith, lt, here, there)))
    (clash_of first.abi) (clash_file first.abi) (clash_up first.abi) rest up.1

pub flags_ordered : (files : List File) → Ordered (flag_defects files)
unfolding flag_defects
flags_ordered files = clashes_ordered (float_abis files) (abis_up files)

-- names that are defined twice
abbrev OffersUp : (o p : Offer) → Type 0
OffersUp o p = (file_of o.rank < file_of p.rank) ⊎ ((file_of o.rank ≡ file_of p.rank) × (symbol_of_rank o.rank ≤ symbol_of_rank p.rank))

record OfOffer (o : Offer) (e : Defect) : Type 0 where
  file : e.file ≡ file_of o.rank
  section : e.section ≡ 0
  place : e.place ≡ symbol_of_rank o.rank

offers_apart : (o p : Offer) (d e : Defect) → OffersUp o p → OfOffer o d → OfOffer p e → NotAfter d e
offers_apart o p d e (inl lt) here there = later_file e d (omega (arith, lt, here.file, there.file))
offers_apart o p d e (inr up) here there =
    later_place e d (omega (arith, up.0, here.file, there.file)) (omega (arith, here.section, there.section)) (omega (arith, up.1, here.place, there.place))

duplicate_offer : (o : Offer) (next : Option Offer) → AllByRecursion (OfOffer o) (duplicate_of o next)
duplicate_offer o None = tt
duplicate_offer o (Some next) = (record { file = refl; section = refl; place = refl }, tt)

duplicate_up : (o : Offer) (next : Option Offer) → Ordered (duplicate_of o next)
duplicate_up o None = tt
duplicate_up o (Some next) = (tt, tt)

duplicates_later : (o : Offer) (d : Defect) (os : List Offer) → AllByRecursion (OffersUp o) os → OfOffer o d → AllByRecursion (NotAfter d) (duplicates_of os)
duplicates_later o d [] up here = tt
duplicates_later o d (p ∷ os) up here =
    let next = find (λ q. bytes_eq q.name p.name) os in
    all_append (NotAfter d) (duplicate_of p next) (duplicates_of os)
    (all_weaker (OfOffer p) (NotAfter d) (duplicate_of p next) (λ e there. offers_apart o p d e up.0 here there) (duplicate_offer p next))
    (duplicates_later o d os up.1 here)

duplicates_ordered : (os : List Offer) → Up OffersUp os → Ordered (duplicates_of os)
duplicates_ordered [] up = tt
duplicates_ordered (o ∷ os) up =
    let next = find (λ q. bytes_eq q.name o.name) os in
    up_append NotAfter (duplicate_of o next) (duplicates_of os) (duplicate_up o next) (duplicates_ordered os up.1)
    (all_weaker (OfOffer o) (λ d. AllByRecursion (NotAfter d) (duplicates_of os)) (duplicate_of o next) (λ d here. duplicates_later o d os up.0 here) (duplicate_offer o next))

file_back : (class f i : ℕ) → f < 2 ^ 24 → i < 2 ^ 31 → file_of (rank_of class f i) ≡ f
file_back class f i many few = omega arith

symbol_back : (class f i : ℕ) → i < 2 ^ 31 → symbol_of_rank (rank_of class f i) ≡ i
symbol_back class f i few = omega arith

-- an offer of symbol i of file f, if these are numbers of one
record OfSymbol (f i : ℕ) (o : Offer) : Type 0 where
  class : ℕ
  rank : o.rank ≡ rank_of class f i

record OfFilesOffer (files : List File) (f : ℕ) (o : Offer) : Type 0 where
  symbol : ℕ
  within : symbol < length (file_at files f).head.symbols
  own : OfSymbol f symbol o

module _ (files : List File) (gone : List Bool) (many : length files < 2 ^ 24) (few : symbol_total files < 2 ^ 31) where
  small : (f i : ℕ) → f < length files → i < length (file_at files f).head.symbols → i < 2 ^ 31
  small f i lt within = omega (arith, within, first_within files f lt, few)

  symbols_apart : (f : ℕ) → f < length files → (i j : ℕ) (o p : Offer) → AreBelow (length (file_at files f).head.symbols) i j → OfSymbol f i o → OfSymbol f j p → OffersUp o p
  symbols_apart f lt i j o p up here there =
      let first : i < 2 ^ 31 = small f i lt (omega (arith, up.0, up.1)) in
      let next : j < 2 ^ 31 = small f j lt up.1 in
      let fo = ap file_of here.rank ∙ file_back here.class f i (omega (arith, lt, many)) first in
      let fp = ap file_of there.rank ∙ file_back there.class f j (omega (arith, lt, many)) next in
      let so = ap symbol_of_rank here.rank ∙ symbol_back here.class f i first in
      let sp = ap symbol_of_rank there.rank ∙ symbol_back there.class f j next in
      inr (fo ∙ sym fp, omega (arith, so, sp, up.0))

  files_offers_apart : (f g : ℕ) (o p : Offer) → AreBelow (length files) f g → OfFilesOffer files f o → OfFilesOffer files g p → OffersUp o p
  files_offers_apart f g o p up here there =
      let first = small f here.symbol (omega (arith, up.0, up.1)) here.within in
      let next = small g there.symbol up.1 there.within in
      let fo = ap file_of here.own.rank ∙ file_back here.own.class f here.symbol (omega (arith, up.0, up.1, many)) first in
      let fp = ap file_of there.own.rank ∙ file_back there.own.class g there.symbol (omega (arith, up.1, many)) next in
      inl (omega (arith, fo, fp, up.0))

  abbrev offer_of : (f i : ℕ) → Offer
  offer_of f i =
      record { name = symbol_name (file_at files f) i; rank = rank_of (class_of (symbol_at (file_at files f) i)) f i }

  abbrev offers_it : (f i : ℕ) → Bool
  offers_it f i = is_offer (symbol_at (file_at files f) i) && not (is_discarded files gone f (symbol_at (file_at files f) i).place)

  offer_symbol : (f i : ℕ) → AllByRecursion (OfSymbol f i) (offer_at files gone f i)
  unfolding offer_at
  offer_symbol f i = one_all (OfSymbol f i) (offers_it f i) (offer_of f i) (record { class = class_of (symbol_at (file_at files f) i); rank = refl })

  offer_up : (f i : ℕ) → Up OffersUp (offer_at files gone f i)
  unfolding offer_at
  offer_up f i = one_up OffersUp (offers_it f i) (offer_of f i)

  -- of a file, for the numbers of files; of others nothing is said
  abbrev symbol_offers : (f : ℕ) → List Offer
  symbol_offers f = flat_map (offer_at files gone f) (range_with_len 0 (length (file_at files f).head.symbols))

  abbrev OfFileIf : (f : ℕ) → Offer → Type 0
  OfFileIf f o = f < length files → OfFilesOffer files f o

  within_offers : (f count i : ℕ) → i + count ≤ length (file_at files f).head.symbols → AllByRecursion (OfFileIf f) (flat_map (offer_at files gone f) (range_with_len i count))
  within_offers f zero i le = tt
  within_offers f (suc count) i le =
      all_append (OfFileIf f) (offer_at files gone f i) (flat_map (offer_at files gone f) (range_with_len (i + 1) count))
      (all_weaker (OfSymbol f i) (OfFileIf f) (offer_at files gone f i) (λ o own lt. record { symbol = i; within = omega (arith, le); own = own }) (offer_symbol f i))
      (within_offers f count (i + 1) (omega (arith, le)))

  file_offers : (f : ℕ) → AllByRecursion (OfFileIf f) (offers_in files gone f)
  unfolding offers_in
  file_offers f =
      all_if (OfFileIf f) (file_at files f).live (symbol_offers f) [] (within_offers f (length (file_at files f).head.symbols) 0 (omega arith)) tt

  -- numbers of symbols of a file
  symbols_up : (f : ℕ) → f < length files → Up OffersUp (symbol_offers f)
  symbols_up f lt =
      number_walk (length (file_at files f).head.symbols) OffersUp (OfSymbol f) (symbols_apart f lt) (offer_at files gone f) (offer_symbol f) (offer_up f)

  offers_in_up : (f : ℕ) → f < length files → Up OffersUp (offers_in files gone f)
  unfolding offers_in
  offers_in_up f lt = up_if OffersUp (file_at files f).live (symbol_offers f) [] (symbols_up f lt) tt

  -- past the last file there are none
  past_offers : (f : ℕ) → length files ≤ f → Up OffersUp (offers_in files gone f)
  unfolding offers_in
  past_offers f past =
      let P : File → Type 0 = λ file. Up OffersUp (if file.live then flat_map (offer_at files gone f) (range_with_len 0 (length file.head.symbols)) else []) in
      subst P (sym (get_or_past files f no_file past)) tt

  each_offers_up : (f : ℕ) → Up OffersUp (offers_in files gone f)
  each_offers_up f = ⊎_elim (λ (lt : f < length files). offers_in_up f lt) (λ (past : length files ≤ f). past_offers f past) (cases_lt f (length files))

  offers_up : Up OffersUp (offers files gone)
  unfolding offers
  offers_up =
      number_walk (length files) OffersUp OfFileIf (λ f g o p up here there. files_offers_apart f g o p up (here (omega (arith, up.0, up.1))) (there up.1))
      (offers_in files gone) file_offers each_offers_up

  pub duplicates_ordered_in : Ordered (duplicate_defects files gone)
  unfolding duplicate_defects
  duplicates_ordered_in = duplicates_ordered (filter is_strong (offers files gone)) (up_filter OffersUp is_strong (offers files gone) offers_up)

-- relocations in order of offset
abbrev pub RelocsUp : (p q : Reloc) → Type 0
RelocsUp p q = p.offset ≤ q.offset

abbrev pub AreInOrder : File → Type 0
AreInOrder file = (k : ℕ) → Up RelocsUp (relocs_at file k)

relocs_by_up : (b : List ℕ) (r : ℕ) → Up RelocsUp (relocs_by b r)
relocs_by_up b r =
    let key : ℕ → ℕ = λ j. (reloc b r j).offset in
    up_map (λ i j. key i ≤ key j) RelocsUp (reloc b r) (λ i j le. le) (in_order b r) (up_from_rises key (in_order b r) (rises_order key (range_with_len 0 (rela_count b r))))

relocs_in_up : (b : List ℕ) (o : Option ℕ) → Up RelocsUp (relocs_in b o)
relocs_in_up b None = tt
relocs_in_up b (Some r) = relocs_by_up b r

body_in_order : (file : File) → AreInOrder (with_body file)
unfolding parts_of
body_in_order file k =
    let b = file.bytes in
    read_all (Up RelocsUp) (map (relocs_for b) (range_with_len 0 (section_count b))) k []
    (all_map (Up RelocsUp) (relocs_for b) (range_with_len 0 (section_count b)) (all_same (λ j. Up RelocsUp (relocs_for b j)) (range_with_len 0 (section_count b)) (λ j. relocs_in_up b (rela_of b j)))) tt

opened_in_order : (ss : List Source) (live : List Bool) (f : ℕ) → AreInOrder (opened ss live f)
opened_in_order ss live f = by_body (has_body ss live f)
  where
    by_body : (on : Bool) → AreInOrder (if on then with_body (headed ss f) else headed ss f)
    by_body true = body_in_order (headed ss f)
    by_body false = λ k. tt

pub files_in_order : (undefined : List (List ℕ)) (ss : List Source) (f : ℕ) → AreInOrder (file_at (files_in undefined ss) f)
unfolding opened_files
files_in_order undefined ss f =
    let live = live_in undefined ss in
    read_all AreInOrder (map (opened ss live) (range_with_len 0 (length ss))) f no_file
    (all_map AreInOrder (opened ss live) (range_with_len 0 (length ss)) (all_same (λ g. AreInOrder (opened ss live g)) (range_with_len 0 (length ss)) (opened_in_order ss live)))
    (λ k. tt)

-- of a section of a file
pub record OfSection (f k : ℕ) (e : Defect) : Type 0 where
  pub file : e.file ≡ f
  pub section : e.section ≡ k

pub record OfReloc (f k : ℕ) (r : Reloc) (e : Defect) : Type 0 where
  pub own : OfSection f k e
  pub place : e.place ≡ r.offset

sections_apart : (f n j k : ℕ) (d e : Defect) → AreBelow n j k → OfSection f j d → OfSection f k e → NotAfter d e
sections_apart f n j k d e lt here there = later_section e d (omega (arith, here.file, there.file)) (omega (arith, lt.0, here.section, there.section))

pub relocs_apart : (f k : ℕ) (p q : Reloc) (d e : Defect) → RelocsUp p q → OfReloc f k p d → OfReloc f k q e → NotAfter d e
relocs_apart f k p q d e up here there =
    later_place e d (omega (arith, here.own.file, there.own.file)) (omega (arith, here.own.section, there.own.section)) (omega (arith, up, here.place, there.place))

-- a walk over the relocations of one section
module _ (f k : ℕ) (give : Reloc → List Defect) (each : (r : Reloc) → AllByRecursion (OfReloc f k r) (give r)) (own : (r : Reloc) → Ordered (give r)) where
  pub relocs_walk : (rs : List Reloc) → Up RelocsUp rs → Ordered (flat_map give rs)
  relocs_walk rs up = up_walk RelocsUp NotAfter (OfReloc f k) (relocs_apart f k) give each own rs up

  pub relocs_section : (rs : List Reloc) → AllByRecursion (OfSection f k) (flat_map give rs)
  relocs_section rs = all_flat (OfSection f k) give rs (λ r. all_weaker (OfReloc f k r) (OfSection f k) (give r) (λ e of. of.own) (each r))

module _ (files : List File) (b : Bindings) (kept : List Bool) (rise : (f : ℕ) → AreInOrder (file_at files f)) where
  abbrev undefined_test : (f k : ℕ) → Reloc → Bool
  undefined_test f k r = is_needed files b kept f k r && (names_a_symbol r.kind && is_undefined files b f r.symbol)

  undefined_of : (f k : ℕ) (r : Reloc) → AllByRecursion (OfReloc f k r) (undefined_at files b kept f k r)
  unfolding undefined_at
  undefined_of f k r =
      one_all (OfReloc f k r) (undefined_test f k r) (reloc_defect UNDEFINED f k r 0) (record { own = record { file = refl; section = refl }; place = refl })

  undefined_up : (f k : ℕ) (r : Reloc) → Ordered (undefined_at files b kept f k r)
  unfolding undefined_at
  undefined_up f k r = one_up NotAfter (undefined_test f k r) (reloc_defect UNDEFINED f k r 0)

  abbrev sections_of : (f : ℕ) → List Defect
  sections_of f = flat_map (over_section files (undefined_at files b kept) f) (range_with_len 0 (length (file_at files f).head.sections))

  section_own : (f k : ℕ) → AllByRecursion (OfSection f k) (over_section files (undefined_at files b kept) f k)
  section_own f k = relocs_section f k (undefined_at files b kept f k) (undefined_of f k) (undefined_up f k) (relocs_at (file_at files f) k)

  section_up : (f k : ℕ) → Ordered (over_section files (undefined_at files b kept) f k)
  section_up f k = relocs_walk f k (undefined_at files b kept f k) (undefined_of f k) (undefined_up f k) (relocs_at (file_at files f) k) (rise f k)

  undefined_file : (f : ℕ) → AllByRecursion (OfFile f) (over_file files (over_section files (undefined_at files b kept)) f)
  unfolding over_file
  undefined_file f =
      let numbers = range_with_len 0 (length (file_at files f).head.sections) in
      let give = over_section files (undefined_at files b kept) f in
      all_if (OfFile f) (file_at files f).live (sections_of f) []
      (all_flat (OfFile f) give numbers (λ k. all_weaker (OfSection f k) (OfFile f) (give k) (λ e of. of.file) (section_own f k))) tt

  undefined_file_up : (f : ℕ) → Ordered (over_file files (over_section files (undefined_at files b kept)) f)
  unfolding over_file
  undefined_file_up f =
      let n = length (file_at files f).head.sections in
      up_if NotAfter (file_at files f).live (sections_of f) []
      (number_walk n NotAfter (OfSection f) (sections_apart f n) (over_section files (undefined_at files b kept) f) (section_own f) (section_up f)) tt

  pub undefined_ordered : Ordered (undefined_defects files b kept)
  unfolding over_live
  undefined_ordered =
      number_walk (length files) NotAfter OfFile (files_apart (length files)) (over_file files (over_section files (undefined_at files b kept))) undefined_file undefined_file_up

-- sections by their numbers
record OfNumber (files : List File) (n : ℕ) (e : Defect) : Type 0 where
  own : OfSection (place_of files n).file (place_of files n).index e

numbers_apart : (files : List File) (j k : ℕ) (d e : Defect) → AreBelow (section_total files) j k → OfNumber files j d → OfNumber files k e → NotAfter d e
numbers_apart files j k d e lt here there =
    let p = place_of files j in
    let q = place_of files k in
    let first : IsPlaceOf files j p = place_of_number files j (omega (arith, lt.0, lt.1)) in
    let next : IsPlaceOf files k q = place_of_number files k lt.1 in
    ⊎_elim
    (λ (less : p.file < q.file). later_file e d (omega (arith, less, here.own.file, there.own.file)))
    (λ (most : q.file ≤ p.file). ⊎_elim
    (λ (more : q.file < p.file).
    let wrong : ⊥ = omega (arith, section_more files q.file next.file, section_upto files (q.file + 1) p.file (omega (arith, more)), next.index, first.number, next.number, lt.0) in
    absurd wrong)
    (λ (least : p.file ≤ q.file).
    let same : p.file ≡ q.file = omega (arith, most, least) in
    let start = ap (first_section files) same in
    later_section e d (omega (arith, same, here.own.file, there.own.file)) (omega (arith, start, first.number, next.number, lt.0, here.own.section, there.own.section)))
    (cases_lt q.file p.file))
    (cases_lt p.file q.file)

-- a walk over the sections by their numbers
module _ (files : List File) (give : ℕ → List Defect) (each : (n : ℕ) → AllByRecursion (OfSection (place_of files n).file (place_of files n).index) (give n))
    (own : (n : ℕ) → Ordered (give n)) where
  pub sections_walk : Ordered (flat_map give (range_with_len 0 (section_total files)))
  sections_walk =
      number_walk (section_total files) NotAfter (OfNumber files) (numbers_apart files) give
      (λ n. all_weaker (OfSection (place_of files n).file (place_of files n).index) (OfNumber files n) (give n) (λ e of. record { own = of }) (each n)) own
