-- The sections of names whose start or end symbols are bound to: which are asked for, and what pairs lead to them.
use Rattle.std.proofs.Common.{◌≡◌, ℕ, ◌+◌, ◌*◌, ◌<◌, ◌≤◌, ◌==◌, ◌&&◌, Bool, true, false, Option, Some, None, is_some, List, [], ◌∷◌, ◌++◌, length, map, flat_map, All, refl, sym, ap, ◌∙◌, subst, arith, inl, inr}
use Rattle.std.specs.Prelude.{◌-ℤ◌, pos, not, filter, find, if◌then◌else◌, cond}
use Rattle.std.specs.List.{range_with_len}
use Rattle.std.specs.Borrow.{Bor}
use Rattle.std.specs.Map.{lookup}
use Rattle.std.specs.Str.{bytes_eq}
use Rattle.std.proofs.lemmas.Bool.{cases_Bool, cases_lt, cond-true, cond-false, eq-eqb, eqb-true, leb-true}
use Rattle.std.proofs.lemmas.Slice.Eq.{bytes_eq-Decides}
use Rattle.std.proofs.lemmas.List.{get_or_past}
use Rattle.std.proofs.lemmas.List.Elements.{All-nil, filter-append}
use Rattle.indexmap.specs.IndexMap.{IndexMap}
use Rattle.lk_base.specs.RelocKinds.{goes_by_got}
use Rattle.lk_base.specs.declared.abi.TheConstants.{STB_LOCAL, STB_WEAK}
use Rattle.lk_base.proofs.Membership.{in_range}
use Rattle.lk_tables.specs.declared.bounds.Bound.{Bound}
use Rattle.lk_tables.specs.declared.bounds.Bound.TheVariants.{InSection, Number, Linker, Nobody}
use Rattle.lk_tables.specs.declared.bounds.Spot.{Spot}
use Rattle.lk_tables.specs.declared.bounds.Spot.TheVariants as targets
use Rattle.lk_tables.specs.declared.commons.BoundCommon.{BoundCommon}
use Rattle.lk_tables.specs.declared.heads.Place.{Place}
use Rattle.lk_tables.specs.declared.heads.Place.TheVariants.{Undef, Absolute, Common, Within}
use Rattle.lk_tables.specs.declared.heads.Symbol.{Symbol}
use Rattle.lk_tables.specs.declared.objects.Reloc.{Reloc}
use Rattle.lk_tables.specs.BoundNames.{IsBindingOf}
use Rattle.lk_tables.specs.Binding.{Bindings, is_discarded}
use Rattle.lk_tables.specs.Files.{AreFew, File, file_at, is_frame_at, is_section_symbol, no_symbol, section_no, section_total, symbol_at, symbol_no, writes}
use Rattle.lk_tables.specs.InputSections.{input_at, may_stay_at}
use Rattle.lk_tables.specs.LinkerSymbols.{bound_section, fixed_count, frame_start_no, is_bound_no, is_named, linker_no}
use Rattle.lk_tables.specs.Targets.{bound, bound_by, clamped, commons_at, defined_by, definition, offset_in, rank_at, room_of, size_of, spot_by, unwritten}
use Rattle.lk_tables.proofs.BoundHas.{OfDefinitions, bound_has, each_flat, each_if, either, one_if}
use Rattle.lk_tables.proofs.LinkerNumbers.{IfNumber, linker_few}
use Rattle.link_sections.proofs.OwnLeaders.{same_number}
use Rattle.sec_graph.specs.declared.pairs.Pair.{Pair}
use Rattle.sec_graph.specs.Graph.{pair, pairs_from}
use Rattle.sec_graph.specs.NamedSections.{AreNoted, IsKnown, asked, asked_at, asked_by, asked_in, named_at, noted, pair_if}
use Rattle.sec_graph.proofs.ListParts.{all_if, head_if, part_of}

-- equal names, by the test
same_name : (a c : List ℕ) → bytes_eq a c ≡ true → a ≡ c
same_name a c is = (bytes_eq-Decides a c).0 is

test_name : (a c : List ℕ) → a ≡ c → bytes_eq a c ≡ true
test_name a c is = (bytes_eq-Decides a c).1 is

-- the numbers that symbols are bound to are the linker's
IsFew : List File → Bound → Type 0
IsFew files (InSection section offset) = Unit {0}
IsFew files (Number n) = Unit {0}
IsFew files (Linker n) = n < fixed_count + 2 * section_total files
IsFew files Nobody = Unit {0}

few_of : (files : List File) (n : ℕ) (o : Option ℕ) → o ≡ Some n → IfNumber (λ k. k < fixed_count + 2 * section_total files) o → IsFew files (Linker n)
unfolding IsFew
few_of files n None is few = let no : ⊥ = cc in absurd no
few_of files n (Some k) is few = let same : k ≡ n = ap value is in omega (arith, few, same)
  where
    value : Option ℕ → ℕ
    value (Some x) = x
    value None = 0

-- those that definitions of files are bound to, too
room_few : (files : List File) (o : Option BoundCommon) → IsFew files (room_of o)
unfolding IsFew
room_few files None = tt
room_few files (Some c) = tt

defined_few : (files : List File) (b : Bindings) (place : Place) (f i : ℕ) (s : Symbol) → IsFew files (defined_by files b place f i s)
unfolding IsFew
defined_few files b Undef f i s = tt
defined_few files b Absolute f i s = tt
defined_few files b Common f i s = room_few files (find (λ (c : BoundCommon). c.symbol == i) (commons_at b.commons f))
defined_few files b (Within k) f i s =
    either (IsFew files) (is_discarded files b.discarded f (Within k)) Nobody (if writes (file_at files f) k then InSection (section_no files f k) (offset_in s) else unwritten (file_at files f) k s) tt
    (either (IsFew files) (writes (file_at files f) k) (InSection (section_no files f k) (offset_in s)) (unwritten (file_at files f) k s) tt
    (either (IsFew files) (is_frame_at (file_at files f) k && s.value == 0) (Linker frame_start_no) (Number s.value) (omega arith) tt))

definitions_few : (files : List File) (b : Bindings) → OfDefinitions files b (IsFew files)
unfolding definition
definitions_few files b f i lt live = defined_few files b (symbol_at (file_at files f) i).place f i (symbol_at (file_at files f) i)

bound_few : (files : List File) (b : Bindings) (f i : ℕ) → IsBindingOf files b → AreFew files → f < length files → (file_at files f).live ≡ true → IsFew files (bound files b f i)
unfolding IsFew
bound_few files b f i is few lt live =
    bound_has files b (IsFew files) f i is few tt (λ name n found. few_of files n (linker_no files b name) found (linker_few files b name))
    (definitions_few files b) lt live

-- so what is asked for are numbers of the link's sections
asked_below : (files : List File) (found : Bound) → IsFew files found → All (λ n. n < section_total files) (asked_by found)
unfolding IsFew
asked_below files (InSection section offset) few = All-nil (λ n. n < section_total files)
asked_below files (Number n) few = All-nil (λ n. n < section_total files)
asked_below files (Linker n) few =
    one_if (λ n. n < section_total files) (is_bound_no n) (bound_section n) (λ is. let low = leb-true fixed_count n is in omega (arith, few, low))
asked_below files Nobody few = All-nil (λ n. n < section_total files)

pub asked_within : (files : List File) (b : Bindings) → IsBindingOf files b → AreFew files → All (λ n. n < section_total files) (asked files b)
unfolding asked_in asked_at
asked_within files b is few =
    let P : ℕ → Type 0 = λ n. n < section_total files in
    each_flat P (asked_in files b) 0 (length files) (λ f lt.
    each_if P (file_at files f).live (flat_map (asked_at files b f) (range_with_len 0 (length (file_at files f).head.symbols))) (λ live.
    each_flat P (asked_at files b f) 0 (length (file_at files f).head.symbols) (λ i below.
    asked_below files (bound files b f i) (bound_few files b f i is few (omega (arith, lt)) live))))

-- a symbol past the end of its table is bound to no number of the linker's
past_number : (files : List File) (b : Bindings) (f i : ℕ) → length (file_at files f).head.symbols ≤ i → bound files b f i ≡ Number 0
unfolding bound definition
past_number files b f i le =
    let none : symbol_at (file_at files f) i ≡ no_symbol = get_or_past (file_at files f).head.symbols i no_symbol le in
    let other = bound_by files b (rank_at b (symbol_no files f i)) in
    ap (λ (s : Symbol). if s.binding == STB_LOCAL then defined_by files b s.place f i s else other) none
    ∙ cond-true (STB_LOCAL == STB_LOCAL) (Number 0) other (eq-eqb STB_LOCAL STB_LOCAL refl)

-- what a relocation of a file asks for is known
pub asked_known : (files : List File) (b : Bindings) (P : ℕ → Type 0) (f i n : ℕ) → All P (asked files b) → f < length files → (file_at files f).live ≡ true →
    bound files b f i ≡ Linker n → is_bound_no n ≡ true → P (bound_section n)
unfolding asked_in asked_at
asked_known files b P f i n all lt live is named = elim (cases_lt i (length (file_at files f).head.symbols)) [
  | inl below ↦
      let of_file = part_of P (asked_in files b) (range_with_len 0 (length files)) f all (in_range (length files) f lt) in
      let symbols = length (file_at files f).head.symbols in
      let of_live = all_if P (file_at files f).live (flat_map (asked_at files b f) (range_with_len 0 symbols)) live of_file in
      let of_one = part_of P (asked_at files b f) (range_with_len 0 symbols) i of_live (in_range symbols i below) in
      let Q : Bound → Type 0 = λ found. All P (asked_by found) in
      head_if P (is_bound_no n) (bound_section n) named (subst Q is of_one)
  | inr past ↦ absurd (no_linker n (sym (past_number files b f i past) ∙ is))
]
  where
    no_linker : (n : ℕ) → Number 0 ≡ Linker n → ⊥
    no_linker n e = cc

-- the symbol of a relocation that stands for a number of the linker's
pub linker_bound : (found : Bound) (file : File) (s : Symbol) (r : Reloc) (n : ℕ) → spot_by found file s r ≡ targets.Linker n → found ≡ Linker n
linker_bound (InSection section offset) file s r n is = absurd (no_section (is_section_symbol s && not (goes_by_got r.kind)) is)
  where
    no_section : (d : Bool) → (if d then targets.Section section (clamped (size_of file s.place) r.addend) (r.addend -ℤ pos (clamped (size_of file s.place) r.addend))
        else targets.Section section offset r.addend) ≡ targets.Linker n → ⊥
    no_section true e = cc
    no_section false e = cc
linker_bound (Number m) file s r n is = let no : ⊥ = cc in absurd no
linker_bound (Linker m) file s r n is = ap Linker (ap number is)
  where
    number : Spot → ℕ
    number (targets.Linker k) = k
    number (targets.Section section offset rest) = 0
    number (targets.Number k) = 0
    number targets.Zero = 0
    number targets.Unbound = 0
linker_bound Nobody file s r n is = absurd (none (s.binding == STB_WEAK) is)
  where
    none : (d : Bool) → (if d then targets.Zero else targets.Unbound) ≡ targets.Linker n → ⊥
    none true e = cc
    none false e = cc

-- a text that is lent
abbrev lent : List ℕ → Bor (List ℕ)
lent text = record { ref_ptr = (0, 0); now = text }

some_if : (d : Bool) (n : ℕ) (o : Option ℕ) → is_some o ≡ true → is_some (cond d (Some n) o) ≡ true
some_if true n o is = refl
some_if false n o is = is

abbrev no_pairs : List Pair
no_pairs = []

same_either : (d : Bool) → (if d then no_pairs else no_pairs) ≡ no_pairs
same_either true = refl
same_either false = refl

module _ (files : List File) (b : Bindings) {S : Type 0} where
  -- nothing is noted yet, and one name more
  pub none_noted : (names : IndexMap (Bor (List ℕ)) ℕ S) → names.entries ≡ [] → AreNoted files b names
  none_noted names none = λ name n is.
      let P : List (Bor (List ℕ) × ℕ) → Type 0 = λ l. lookup (λ k. bytes_eq name k.now) l ≡ Some n in
      let no : None ≡ Some n = subst P none is in
      let never : ⊥ = cc in
      absurd never

  abbrev Updated : (old new : IndexMap (Bor (List ℕ)) ℕ S) → (name : List ℕ) → (section : ℕ) → Type 0
  Updated old new name section = (q : Bor (List ℕ)) → noted new q.now ≡ cond (bytes_eq name q.now) (Some section) (noted old q.now)

  pub noted_more : (old new : IndexMap (Bor (List ℕ)) ℕ S) (name : List ℕ) (section : ℕ) → AreNoted files b old → Updated old new name section →
      (input_at files b section).name ≡ name → AreNoted files b new
  noted_more old new name section held updated own = λ text n is. elim (cases_Bool (bytes_eq name text)) [
    | inl same ↦
        let e = sym (updated (lent text) ∙ cond-true (bytes_eq name text) (Some section) (noted old text) same) ∙ is in
        ap (λ k. (input_at files b k).name) (sym (same_number section n e)) ∙ own ∙ same_name name text same
    | inr other ↦ held text n (sym (updated (lent text) ∙ cond-false (bytes_eq name text) (Some section) (noted old text) other) ∙ is)
  ]

  -- what is known stays so, and the section itself is
  pub known_more : (old new : IndexMap (Bor (List ℕ)) ℕ S) (name : List ℕ) (section n : ℕ) → Updated old new name section → IsKnown files b old n → IsKnown files b new n
  known_more old new name section n updated held =
      let text = (input_at files b n).name in
      (held.0, ap is_some (updated (lent text)) ∙ some_if (bytes_eq name text) section (noted old text) held.1)

  pub known_own : (old new : IndexMap (Bor (List ℕ)) ℕ S) (name : List ℕ) (section : ℕ) → Updated old new name section → section < section_total files →
      (input_at files b section).name ≡ name → IsKnown files b new section
  known_own old new name section updated lt own =
      let text = (input_at files b section).name in
      (lt, ap is_some (updated (lent text) ∙ cond-true (bytes_eq name text) (Some section) (noted old text) (test_name name text (sym own))))

  -- pairs to the sections of a name
  one_pair : (names : IndexMap (Bor (List ℕ)) ℕ S) (name : List ℕ) (n section : ℕ) → AreNoted files b names → noted names name ≡ Some n → (d : Bool) → may_stay_at files b section ≡ d →
      (rest : List Pair) (list : List ℕ) → map (λ (p : Pair). p.to) rest ≡ list →
      map (λ (p : Pair). p.to) (pairs_from n (if d then pair_if (noted names (input_at files b section).name) section else []) ++ rest)
      ≡ (if d && bytes_eq (input_at files b section).name name then section ∷ list else list)
  one_pair names name n section are is false stays rest list later = later
  one_pair names name n section are is true stays rest list later = by (noted names (input_at files b section).name) refl
    where
      by : (o : Option ℕ) → noted names (input_at files b section).name ≡ o →
          map (λ (p : Pair). p.to) (pairs_from n (pair_if o section) ++ rest) ≡ (if bytes_eq (input_at files b section).name name then section ∷ list else list)
      by None none = elim (cases_Bool (bytes_eq (input_at files b section).name name)) [
        | inl same ↦
            let e : None ≡ Some n = sym none ∙ ap (noted names) (same_name (input_at files b section).name name same) ∙ is in
            let no : ⊥ = cc in
            absurd no
        | inr other ↦ later ∙ sym (cond-false (bytes_eq (input_at files b section).name name) (section ∷ list) list other)
      ]
      by (Some m) found = elim (cases_Bool (m == n)) [
        | inl same ↦
            let e : (input_at files b section).name ≡ name =
            sym (are (input_at files b section).name m found) ∙ ap (λ k. (input_at files b k).name) (eqb-true m n same) ∙ are name n is in
            ap (λ l. map (λ (p : Pair). p.to) (l ++ rest)) (cond-true (m == n) (pair m section ∷ []) [] same)
            ∙ ap (λ l. section ∷ l) later
            ∙ sym (cond-true (bytes_eq (input_at files b section).name name) (section ∷ list) list (test_name (input_at files b section).name name e))
        | inr apart ↦ elim (cases_Bool (bytes_eq (input_at files b section).name name)) [
          | inl same ↦
              let e : Some m ≡ Some n = sym found ∙ ap (noted names) (same_name (input_at files b section).name name same) ∙ is in
              let yes : (m == n) ≡ true = eq-eqb m n (same_number m n e) in
              let no : ⊥ = cc in
              absurd no
          | inr other ↦
              ap (λ l. map (λ (p : Pair). p.to) (l ++ rest)) (cond-false (m == n) (pair m section ∷ []) [] apart)
              ∙ later ∙ sym (cond-false (bytes_eq (input_at files b section).name name) (section ∷ list) list other)
        ]
      ]

  pub named_lists : (names : IndexMap (Bor (List ℕ)) ℕ S) (name : List ℕ) (n : ℕ) (ns : List ℕ) → AreNoted files b names → noted names name ≡ Some n →
      map (λ (p : Pair). p.to) (pairs_from n (flat_map (named_at files b names) ns)) ≡ filter (is_named files b name) ns
  unfolding named_at is_named
  named_lists names name n [] are is = refl
  named_lists names name n (section ∷ ns) are is =
      ap (map (λ (p : Pair). p.to)) (filter-append (λ (p : Pair). p.from == n) (named_at files b names section) (flat_map (named_at files b names) ns))
      ∙ one_pair names name n section are is (may_stay_at files b section) refl (pairs_from n (flat_map (named_at files b names) ns)) (filter (is_named files b name) ns)
      (named_lists names name n ns are is)

  -- without a name there are no pairs
  none_at : (names : IndexMap (Bor (List ℕ)) ℕ S) (section : ℕ) → names.entries ≡ [] → named_at files b names section ≡ []
  unfolding named_at
  none_at names section none =
      let text = (input_at files b section).name in
      ap (λ l. if may_stay_at files b section then pair_if (lookup (λ k. bytes_eq text k.now) l) section else []) none ∙ same_either (may_stay_at files b section)

  pub none_named : (names : IndexMap (Bor (List ℕ)) ℕ S) (ns : List ℕ) → names.entries ≡ [] → flat_map (named_at files b names) ns ≡ []
  none_named names [] none = refl
  none_named names (n ∷ ns) none = ap (λ l. l ++ flat_map (named_at files b names) ns) (none_at names n none) ∙ none_named names ns none
