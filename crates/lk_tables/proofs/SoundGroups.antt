-- What holds of the groups of a body in which no check is broken.
use Rattle.std.proofs.Common.{◌≡◌, ◌≢◌, ℕ, ◌+◌, ◌<◌, ◌≤◌, Bool, true, false, not, ◌||◌, ◌==◌, nat_lt, length, get_or, List, [], ◌∷◌, map, sym, ap, ◌∙◌, arith, subst}
use Rattle.std.specs.Prelude.{Ok}
use Rattle.std.specs.List.{All, AllByRecursion, AllPairs, filter, list_any, range_with_len}
use Rattle.std.proofs.lemmas.Bool.{cond_both, and_parts, or_parts, ltb-true}
use Rattle.std.proofs.lemmas.Bool.Decides.{nat_tests}
use Rattle.std.proofs.lemmas.List.{get_or-map, length-map}
use Rattle.std.proofs.lemmas.List.Elements.{All-from_recursion, All-filter, All-map, filter_passes}
use Rattle.std.proofs.lemmas.List.FromFn.{length-range_with_len, get_or-range_with_len}
use Rattle.std.proofs.lemmas.List.Kept.{AllPairs-filter}
use Rattle.lk_base.proofs.Ranges.{each_below}
use Rattle.lk_tables.specs.declared.heads.Place.{Place}
use Rattle.lk_tables.specs.declared.heads.Place.TheVariants.{Undef, Absolute, Common, Within}
use Rattle.lk_tables.specs.declared.heads.Section.{Section}
use Rattle.lk_tables.specs.declared.heads.Symbol.{Symbol}
use Rattle.lk_tables.specs.Checks.{passes, NoneBroken}
use Rattle.lk_tables.specs.FileHeader.{section_count}
use Rattle.lk_tables.specs.Groups.{is_group, members_of, has_member, is_taken_before, is_bad_member, is_bad_group, is_bad_group_header, is_uneven_group, is_bad_flag, is_unsigned, flag_word, group_checks, name_by, signature_by}
use Rattle.lk_tables.specs.Heads.{HeadView, HeadOf}
use Rattle.lk_tables.specs.Inside.{IsNameWithin, IsPlaceWithin, IsHeadInside, IsGroupWithin, IsGroupBefore}
use Rattle.lk_tables.specs.Objects.{group_of}
use Rattle.lk_tables.specs.Sections.{section_of}
use Rattle.lk_tables.specs.Symbols.{symtab_of, symbol_of, symbol_count, is_section_symbol}
use Rattle.lk_tables.proofs.BodyFacts.{symbol_at, length_symbols, sections_are, symbols_are}
use Rattle.lk_tables.proofs.HeadFacts.{section_at}
use Rattle.lk_tables.proofs.Passing.{none_from_ok}
use Rattle.lk_tables.proofs.SoundHead.{second_false, not_false}

none_of : {X : Type 0} (p : X → Bool) (xs : List X) → list_any p xs ≡ false → AllByRecursion (λ x. p x ≡ false) xs
none_of p [] e = tt
none_of p (x ∷ xs) e = let parts = or_parts (p x) (list_any p xs) e in (parts.0, none_of p xs parts.1)

pub all_none : {X : Type 0} (p : X → Bool) (xs : List X) → list_any p xs ≡ false → All (λ x. p x ≡ false) xs
all_none p xs e = All-from_recursion (λ x. p x ≡ false) xs (none_of p xs e)

-- a member that can be
pub record IsMember (b : List ℕ) (i k : ℕ) : Type 0 where
  pub low : 0 < k
  pub high : k < section_count b
  pub fresh : is_taken_before b i k ≡ false

pub is_member : (b : List ℕ) (i k : ℕ) → is_bad_member b i k ≡ false → IsMember b i k
unfolding is_bad_member
is_member b i k e =
    let p = or_parts (k == 0) (not (nat_lt k (section_count b)) || (k == i || is_taken_before b i k)) e in
    let q = or_parts (not (nat_lt k (section_count b))) (k == i || is_taken_before b i k) p.1 in
    let r = or_parts (k == i) (is_taken_before b i k) q.1 in
    record { low = grind (arith, nat_tests, p.0); high = ltb-true k (section_count b) (not_false _ q.0); fresh = r.1 }

-- a group that has passed
pub record IsSoundGroup (b : List ℕ) (i : ℕ) : Type 0 where
  pub signature : (section_of b i).info < symbol_count b
  pub members : All (IsMember b i) (members_of b i)

pub group_at : (b : List ℕ) (i : ℕ) → is_group b i ≡ true → passes (group_checks b i) ≡ Ok tt → IsSoundGroup b i
unfolding group_checks is_bad_group is_bad_group_header is_unsigned
group_at b i is e =
    let s = section_of b i in
    let lines : NoneBroken (group_checks b i) = none_from_ok (group_checks b i) (tt {0}) (tt {0}) e in
    let sound = second_false (is_group b i) (is_bad_group b i) lines.0 is in
    let p = or_parts (is_bad_group_header b i s) (list_any (is_bad_member b i) (members_of b i)) sound in
    let q = or_parts (is_uneven_group s) (is_bad_flag (flag_word b i) || is_unsigned (symtab_of b) (symbol_count b) s) p.0 in
    let r = or_parts (is_bad_flag (flag_word b i)) (is_unsigned (symtab_of b) (symbol_count b) s) q.1 in
    let u = or_parts (symtab_of b == 0) (not (s.link == symtab_of b) || not (nat_lt s.info (symbol_count b))) r.1 in
    let v = or_parts (not (s.link == symtab_of b)) (not (nat_lt s.info (symbol_count b))) u.1 in
    record {
      signature = ltb-true s.info (symbol_count b) (not_false _ v.1);
      members = λ k d lt. is_member b i (get_or (members_of b i) k d) (all_none (is_bad_member b i) (members_of b i) p.1 k d lt);
    }

-- the signature stands in the file
name_within : (b : List ℕ) (count : ℕ) (place : Place) → IsPlaceWithin count place →
    ((k : ℕ) → k < count → IsNameWithin (length b) (section_of b k).name) → IsNameWithin (length b) (name_by b place)
unfolding name_by
name_within b count Undef within named = omega arith
name_within b count Absolute within named = omega arith
name_within b count Common within named = omega arith
name_within b count (Within k) within named = named k within.1

signature_within : (b : List ℕ) (s : Symbol) → IsNameWithin (length b) (name_by b s.place) → IsNameWithin (length b) s.name →
    IsNameWithin (length b) (signature_by b s)
unfolding signature_by
signature_within b s section name =
    cond_both (is_section_symbol s) (name_by b s.place) s.name (IsNameWithin (length b)) (λ e. section) (λ e. name)

signature_inside : (b : List ℕ) (head : HeadView) (k : ℕ) → HeadOf b head → IsHeadInside b head → k < symbol_count b →
    IsNameWithin (length b) (signature_by b (symbol_of b k))
signature_inside b head k is inside lt =
    let listed : length head.symbols ≡ symbol_count b = ap length (symbols_are b head is) ∙ length_symbols b in
    let d = symbol_of b k in
    let high : k < length head.symbols = omega (arith, listed) in
    let at = symbol_at b head.symbols k d (symbols_are b head is) high in
    let section : (j : ℕ) → j < length head.sections → IsNameWithin (length b) (section_of b j).name =
    λ j below.
    let t = section_of b j in
    subst (λ (s : Section). IsNameWithin (length b) s.name) (section_at b head.sections j t (sections_are b head is) below) (inside.section_names j t below) in
    let place : IsPlaceWithin (length head.sections) (symbol_of b k).place =
    subst (λ (s : Symbol). IsPlaceWithin (length head.sections) s.place) at (inside.places k d high) in
    let name : IsNameWithin (length b) (symbol_of b k).name =
    subst (λ (s : Symbol). IsNameWithin (length b) s.name) at (inside.symbol_names k d high) in
    signature_within b (symbol_of b k) (name_within b (length head.sections) (symbol_of b k).place place section) name

-- one group
group_within : (b : List ℕ) (head : HeadView) (i : ℕ) → HeadOf b head → IsHeadInside b head → i < section_count b → is_group b i ≡ true →
    IsSoundGroup b i → IsGroupWithin b (length head.sections) (group_of b i)
unfolding is_group
group_within b head i is inside high group sound =
    let counted = inside.counted in
    let low : 0 < i = ltb-true 0 i (and_parts (nat_lt 0 i) _ group).0 in
    record {
      section = (low, omega (arith, counted));
      members = λ k d lt. let m = sound.members k d lt in (m.low, omega (arith, counted, m.high));
      signature = signature_inside b head (section_of b i).info is inside sound.signature;
    }

-- two groups have no member in common
apart_at : (b : List ℕ) (j i k : ℕ) → j < i → is_group b j ≡ true → is_taken_before b i k ≡ false → All (λ m. m ≢ k) (members_of b j)
unfolding is_taken_before has_member
apart_at b j i k lt group fresh =
    let len : length (range_with_len 0 i) ≡ i = length-range_with_len 0 i in
    let same : get_or (range_with_len 0 i) j 0 ≡ j = omega (arith, get_or-range_with_len 0 i j 0 lt) in
    let here : has_member b k j ≡ false =
    subst (λ (x : ℕ). has_member b k x ≡ false) same (all_none (has_member b k) (range_with_len 0 i) fresh j 0 (omega (arith, len))) in
    let none = all_none (λ m. m == k) (members_of b j) (second_false (is_group b j) (list_any (λ m. m == k) (members_of b j)) here group) in
    λ n d high e.
    let no : ⊥ = grind (arith, nat_tests, none n d high, e) in no

group_before : (b : List ℕ) (j i : ℕ) → j < i → is_group b j ≡ true → IsSoundGroup b i → IsGroupBefore (group_of b j) (group_of b i)
group_before b j i lt group sound = record {
  section = lt;
  members = λ k d high. apart_at b j i (get_or (members_of b i) k d) lt group (sound.members k d high).fresh;
}

-- all groups
rising : (n : ℕ) → AllPairs (λ x y. x < y) (range_with_len 0 n)
rising n i j d lt high =
    let len : length (range_with_len 0 n) ≡ n = length-range_with_len 0 n in
    let first : get_or (range_with_len 0 n) i d ≡ 0 + i = get_or-range_with_len 0 n i d (omega (arith, len)) in
    let second : get_or (range_with_len 0 n) j d ≡ 0 + j = get_or-range_with_len 0 n j d (omega (arith, len)) in
    omega (arith, len, first, second)

pub pairs_map : {Y : Type 0} (R : Y → Y → Type 0) (f : ℕ → Y) (xs : List ℕ) → AllPairs (λ x y. R (f x) (f y)) xs → AllPairs R (map f xs)
pairs_map R f xs all i j d lt high =
    let len : length (map f xs) ≡ length xs = length-map xs f in
    let first : get_or (map f xs) i d ≡ f (get_or xs i 0) = get_or-map f xs i 0 d (omega (arith, len)) in
    let second : get_or (map f xs) j d ≡ f (get_or xs j 0) = get_or-map f xs j 0 d (omega (arith, len)) in
    subst (λ y. R y (get_or (map f xs) j d)) (sym first) (subst (R (f (get_or xs i 0))) (sym second) (all i j 0 lt (omega (arith, len))))

pub groups_within : (b : List ℕ) (head : HeadView) (n : ℕ) → HeadOf b head → IsHeadInside b head → n ≤ section_count b →
    ((i : ℕ) → i < n → is_group b i ≡ true → IsSoundGroup b i) → All (IsGroupWithin b (length head.sections)) (map (group_of b) (filter (is_group b) (range_with_len 0 n)))
groups_within b head n is inside le sound =
    let ks = filter (is_group b) (range_with_len 0 n) in
    let low = All-filter (is_group b) (λ k. k < n) (range_with_len 0 n) (each_below n) in
    let group = filter_passes (is_group b) (range_with_len 0 n) in
    All-map (IsGroupWithin b (length head.sections)) (group_of b) ks (λ k d lt.
    group_within b head (get_or ks k d) is inside (omega (arith, low k d lt)) (group k d lt) (sound (get_or ks k d) (low k d lt) (group k d lt)))

pub groups_apart : (b : List ℕ) (n : ℕ) → ((i : ℕ) → i < n → is_group b i ≡ true → IsSoundGroup b i)
    → AllPairs IsGroupBefore (map (group_of b) (filter (is_group b) (range_with_len 0 n)))
groups_apart b n sound =
    let ks = filter (is_group b) (range_with_len 0 n) in
    let low = All-filter (is_group b) (λ k. k < n) (range_with_len 0 n) (each_below n) in
    let group = filter_passes (is_group b) (range_with_len 0 n) in
    let rises = AllPairs-filter (λ x y. x < y) (is_group b) (range_with_len 0 n) (rising n) in
    pairs_map IsGroupBefore (group_of b) ks (λ i j d lt high.
    group_before b (get_or ks i d) (get_or ks j d) (rises i j d lt high) (group i d (omega (arith, lt, high)))
    (sound (get_or ks j d) (low j d high) (group j d high)))
