-- The members that the command asks for.
use Rattle.std.proofs.Common.{◌≡◌, ℕ, ◌^◌, ◌<◌, ◌==◌, true, Vec, Global, List, [], ◌∷◌, length, get_or, All, Contains, refl, sym, ap, ◌∙◌, subst, arith}
use Rattle.std.specs.Prelude.{slice_index_or}
use Rattle.std.proofs.lemmas.List.{get_or_default, get_or-map}
use Rattle.std.proofs.lemmas.List.Elements.{All-head, Contains-get_or}
use Rattle.std.proofs.lemmas.Bool.{and_parts, and_from, eqb-true, eq-eqb}
use Rattle.lk_tables.specs.Files.{File, symbol_total}
use Rattle.lk_tables.specs.Ranks.{class_of_rank, file_of}
use Rattle.name_numbers.proofs.Walks.{all_range, in_range}
use Rattle.file_live.specs.declared.claims.TheConstants.{MEMBER_CLASS}
use Rattle.file_live.specs.Live.{early, is_asked, is_of_member}
use Rattle.file_live.specs.Pulls.{asked_at, asked_members, lists_of, member_for}
use Rattle.file_live.proofs.Pulling.{all_option, in_option, offered_within}
use Rattle.file_live.proofs.Rounds.{asked_name}

-- what holds of each member whose offer of a name that is asked for is the first holds of those that are listed
pub asked_all : (P : ℕ → Type 0) (undefined : List (List ℕ)) (files : List File) →
    ((name : List ℕ) (g : ℕ) → Contains undefined name → is_of_member g (early files name) ≡ true → P g) → All P (asked_members undefined files)
unfolding asked_members member_for
asked_all P undefined files each =
    all_range P (asked_at undefined files) 0 (length undefined) (λ n low high.
    let name : List ℕ = slice_index_or undefined n [] in
    let rank = early files name in
    let lt : n < length undefined = omega arith in
    all_option P (class_of_rank rank == MEMBER_CLASS) (file_of rank) (λ own.
    each name (file_of rank) (Contains-get_or undefined n [] lt)
    (and_from (class_of_rank rank == MEMBER_CLASS) (file_of rank == file_of rank) own (eq-eqb (file_of rank) (file_of rank) refl))))

-- and each such member is listed
pub asked_has : (undefined : List (List ℕ)) (files : List File) (name : List ℕ) (g : ℕ) → Contains undefined name →
    is_of_member g (early files name) ≡ true → Contains (asked_members undefined files) g
unfolding asked_members member_for
asked_has undefined files name g has first =
    let n : ℕ = has.0 in
    let lt = has.1 in
    let at = get_or_default undefined n [] name lt ∙ has.2 in
    let P : List ℕ → Type 0 = λ t. is_of_member g (early files t) ≡ true in
    let rank = early files (slice_index_or undefined n []) in
    let both = and_parts (class_of_rank rank == MEMBER_CLASS) (file_of rank == g) (subst P (sym at) first) in
    in_range (asked_at undefined files) 0 (length undefined) n g (omega arith) (omega arith)
    (in_option (class_of_rank rank == MEMBER_CLASS) (file_of rank) g both.0 (eqb-true (file_of rank) g both.1))

-- each is one of the table's
pub asked_within : (undefined : List (List ℕ)) (files : List File) → length files < 2 ^ 24 → symbol_total files < 2 ^ 31 → (g : ℕ) →
    is_asked undefined files g ≡ true → g < length files
asked_within undefined files few small g is =
    let name = asked_name undefined files g is in
    offered_within files few small name.text g name.first

-- the same of one name, by its place
pub at_within : (undefined : List (List ℕ)) (files : List File) → length files < 2 ^ 24 → symbol_total files < 2 ^ 31 → (n g : ℕ) →
    g ∷ [] ≡ asked_at undefined files n → g < length files
unfolding member_for
at_within undefined files few small n g is =
    let name : List ℕ = slice_index_or undefined n [] in
    let rank = early files name in
    let P : ℕ → Type 0 = λ h. h < length files in
    let Q : List ℕ → Type 0 = λ l. All P l in
    All-head P g [] (subst Q (sym is)
    (all_option P (class_of_rank rank == MEMBER_CLASS) (file_of rank) (λ own.
    offered_within files few small name (file_of rank)
    (and_from (class_of_rank rank == MEMBER_CLASS) (file_of rank == file_of rank) own (eq-eqb (file_of rank) (file_of rank) refl)))))

-- a name, as it is read
pub name_read : (names : List (Vec ℕ Global)) (n : ℕ) (name : Vec ℕ Global) → n < length names → name ≡ get_or names n name →
    name.items ≡ slice_index_or (lists_of names) n []
name_read names n name lt is = ap (λ (v : Vec ℕ Global). v.items) is ∙ sym (get_or-map (λ (v : Vec ℕ Global). v.items) names n name [] lt)
