-- The files that take part, found in rounds: as many rounds as there are files find all.
use Rattle.std.proofs.Common.{◌≡◌, ℕ, zero, suc, ◌+◌, ◌<◌, ◌≤◌, ◌⊎◌, ◌&&◌, not, nat_lt, Bool, true, false, List, [], length, get_or, Contains, refl, sym, ◌∙◌, subst, inl, inr, ⊎_elim, arith}
use Rattle.std.specs.List.{range_with_len, list_any}
use Rattle.std.proofs.lemmas.List.{get_or_default, get_or_past}
use Rattle.std.proofs.lemmas.List.Elements.{Contains-get_or}
use Rattle.std.proofs.lemmas.List.FromFn.{length-range_with_len, length-map-range_with_len, get_or-map-range_with_len, fill_by_all}
use Rattle.std.proofs.lemmas.List.Folds.{Any-from_list_any, list_any_at}
use Rattle.std.proofs.lemmas.Bool.{cases_lt, and_parts, and_from, or_left, or_right, or_cases, lt-ltb, ltb-true, not-true, not_from_false, both_ways}
use Rattle.std.specs.Cmp.{both_ways as same_tests}
use Rattle.lk_tables.specs.Files.{File, file_at}
use Rattle.file_live.specs.Live.{pulls, live_in, is_live, live_of, early, is_asked, is_command, is_of_member, IsClosedSet, IsLive}
use Rattle.lk_base.proofs.Ranges.{range_read}

-- how many of a range pass a test
abbrev one : Bool → ℕ
one true = 1
one false = 0

abbrev passing : (ℕ → Bool) → (a n : ℕ) → ℕ
passing p a zero = 0
passing p a (suc n) = one (p a) + passing p (a + 1) n

one_le : (b c : Bool) → (b ≡ true → c ≡ true) → one b ≤ one c
one_le false c also = omega arith
one_le true true also = omega arith
one_le true false also = absurd (both_ways false refl (also refl))

one_same : (b c : Bool) → one c ≤ one b → c ≡ true → b ≡ true
one_same true c le is = refl
one_same false true le is = absurd (omega arith)
one_same false false le is = absurd cc

passing_most : (p : ℕ → Bool) (a n : ℕ) → passing p a n ≤ n
passing_most p a zero = omega arith
passing_most p a (suc n) = let most = passing_most p (a + 1) n in let few = one_le (p a) true (λ is. refl) in omega arith

passing_le : (p q : ℕ → Bool) (a n : ℕ) → ((f : ℕ) → p f ≡ true → q f ≡ true) → passing p a n ≤ passing q a n
passing_le p q a zero also = omega arith
passing_le p q a (suc n) also = let later = passing_le p q (a + 1) n also in let here = one_le (p a) (q a) (also a) in omega arith

-- where no more pass the wider test, the same do
passing_same : (p q : ℕ → Bool) (a n : ℕ) → ((f : ℕ) → p f ≡ true → q f ≡ true) → passing q a n ≤ passing p a n → (f : ℕ) → a ≤ f → f < a + n → q f ≡ true → p f ≡ true
passing_same p q a zero also le f low high is = absurd (omega arith)
passing_same p q a (suc n) also le f low high is =
    let later = passing_le p q (a + 1) n also in
    let here = one_le (p a) (q a) (also a) in
    ⊎_elim
    (λ (first : f < a + 1).
    let e : a ≡ f = omega arith in
    let P : ℕ → Type 0 = λ k. q k ≡ true → p k ≡ true in
    subst P e (one_same (p a) (q a) (omega arith)) is)
    (λ (more : a + 1 ≤ f). passing_same p q (a + 1) n also (omega arith) f more (omega arith) is)
    (cases_lt f (a + 1))

-- one more round
pub live_more : (undefined : List (List ℕ)) (files : List File) (n f : ℕ) → live_in undefined files n f ≡ true → live_in undefined files (suc n) f ≡ true
unfolding live_in
live_more undefined files n f is = or_left (live_in undefined files n f) (list_any (λ e. live_in undefined files n e && pulls files e f) (range_with_len 0 (length files))) is

pub live_by : (undefined : List (List ℕ)) (files : List File) (n e f : ℕ) → e < length files → live_in undefined files n e ≡ true → pulls files e f ≡ true → live_in undefined files (suc n) f ≡ true
unfolding live_in
live_by undefined files n e f lt is pulled =
    let test : ℕ → Bool = λ k. live_in undefined files n k && pulls files k f in
    let r = range_with_len 0 (length files) in
    let at : get_or r e 0 ≡ e = range_read (length files) e 0 lt in
    let P : ℕ → Type 0 = λ k. test k ≡ true in
    or_right (live_in undefined files n f) (list_any test r)
    (list_any_at test r e 0 (omega (arith, length-range_with_len 0 (length files))) (subst P (sym at) (and_from (live_in undefined files n e) (pulls files e f) is pulled)))

pub live_cases : (X : Type 0) (undefined : List (List ℕ)) (files : List File) (n f : ℕ) → live_in undefined files (suc n) f ≡ true → (live_in undefined files n f ≡ true → X) → ((e : ℕ) → e < length files → live_in undefined files n e ≡ true → pulls files e f ≡ true → X) → X
unfolding live_in
live_cases X undefined files n f is before pulled =
    let test : ℕ → Bool = λ k. live_in undefined files n k && pulls files k f in
    let r = range_with_len 0 (length files) in
    ⊎_elim before
    (λ (some : list_any test r ≡ true).
    let any = Any-from_list_any test r some in
    let k : ℕ = any.0 in
    let e : ℕ = any.1 in
    let short = any.2 in
    let lt : k < length files = omega (arith, length-range_with_len 0 (length files)) in
    let at : e ≡ k = sym any.3 ∙ range_read (length files) k e lt in
    let both = and_parts (live_in undefined files n e) (pulls files e f) any.4 in
    pulled e (omega arith) both.0 both.1)
    (or_cases (live_in undefined files n f) (list_any test r) is)

-- a round that adds nothing
abbrev IsLast : (undefined : List (List ℕ)) → List File → ℕ → Type 0
IsLast undefined files n = (f : ℕ) → f < length files → live_in undefined files (suc n) f ≡ true → live_in undefined files n f ≡ true

last_next : (undefined : List (List ℕ)) (files : List File) (n : ℕ) → IsLast undefined files n → IsLast undefined files (suc n)
last_next undefined files n last f lt is =
    live_cases (live_in undefined files (suc n) f ≡ true) undefined files (suc n) f is (λ same. same)
    (λ e within live pulled. live_by undefined files n e f within (last e within live) pulled)

last_if : (undefined : List (List ℕ)) (files : List File) (n : ℕ) → passing (live_in undefined files (suc n)) 0 (length files) ≤ passing (live_in undefined files n) 0 (length files) → IsLast undefined files n
last_if undefined files n le f lt is =
    passing_same (live_in undefined files n) (live_in undefined files (suc n)) 0 (length files) (live_more undefined files n) le f (omega arith) (omega arith) is

grows : (undefined : List (List ℕ)) (files : List File) (n : ℕ) → IsLast undefined files n ⊎ (n < passing (live_in undefined files (suc n)) 0 (length files))
grows undefined files zero = ⊎_elim
    (λ (more : passing (live_in undefined files 0) 0 (length files) < passing (live_in undefined files 1) 0 (length files)). inr (omega arith))
    (λ (le : passing (live_in undefined files 1) 0 (length files) ≤ passing (live_in undefined files 0) 0 (length files)). inl (last_if undefined files 0 le))
    (cases_lt (passing (live_in undefined files 0) 0 (length files)) (passing (live_in undefined files 1) 0 (length files)))
grows undefined files (suc n) = ⊎_elim
    (λ (last : IsLast undefined files n). inl (last_next undefined files n last))
    (λ (so_far : n < passing (live_in undefined files (suc n)) 0 (length files)). ⊎_elim
    (λ (more : passing (live_in undefined files (suc n)) 0 (length files) < passing (live_in undefined files (suc (suc n))) 0 (length files)). inr (omega arith))
    (λ (le : passing (live_in undefined files (suc (suc n))) 0 (length files) ≤ passing (live_in undefined files (suc n)) 0 (length files)). inl (last_if undefined files (suc n) le))
    (cases_lt (passing (live_in undefined files (suc n)) 0 (length files)) (passing (live_in undefined files (suc (suc n))) 0 (length files))))
    (grows undefined files n)

all_found : (undefined : List (List ℕ)) (files : List File) → IsLast undefined files (length files)
all_found undefined files = ⊎_elim
    (λ (last : IsLast undefined files (length files)). last)
    (λ (more : length files < passing (live_in undefined files (suc (length files))) 0 (length files)). absurd (omega (arith, passing_most (live_in undefined files (suc (length files))) 0 (length files))))
    (grows undefined files (length files))

-- a name that the command asks for, whose first offer is of a member
pub record AskedName (undefined : List (List ℕ)) (files : List File) (g : ℕ) : Type 0 where
  pub text : List ℕ
  pub listed : Contains undefined text
  pub first : is_of_member g (early files text) ≡ true

pub asked_name : (undefined : List (List ℕ)) (files : List File) (g : ℕ) → is_asked undefined files g ≡ true → AskedName undefined files g
unfolding is_asked
asked_name undefined files g is =
    let any = Any-from_list_any (λ name. is_of_member g (early files name)) undefined is in
    let at = any.3 in
    let short = any.2 in
    record {
      text = any.1;
      listed = let P : List ℕ → Type 0 = λ t. Contains undefined t in
          subst P at (Contains-get_or undefined any.0 any.1 short);
      first = any.4;
    }

pub asked_by : (undefined : List (List ℕ)) (files : List File) (name : List ℕ) (g : ℕ) → Contains undefined name → is_of_member g (early files name) ≡ true → is_asked undefined files g ≡ true
unfolding is_asked
asked_by undefined files name g has first =
    let k : ℕ = has.0 in
    let at = get_or_default undefined k [] name has.1 ∙ has.2 in
    let P : List ℕ → Type 0 = λ t. is_of_member g (early files t) ≡ true in
    list_any_at (λ t. is_of_member g (early files t)) undefined k [] has.1 (subst P (sym at) first)

-- no round leaves a closed set
live_inside : (undefined : List (List ℕ)) (files : List File) (s : ℕ → Bool) → IsClosedSet undefined files s → (n f : ℕ) → live_in undefined files n f ≡ true → s f ≡ true
unfolding live_in
live_inside undefined files s closed zero f is =
    ⊎_elim
    (λ (own : is_command files f ≡ true).
    let both = and_parts (nat_lt f (length files)) (not (file_at files f).member) own in
    closed.commands f (ltb-true f (length files) both.0) (not-true (file_at files f).member both.1))
    (λ (asked : is_asked undefined files f ≡ true).
    let name = asked_name undefined files f asked in
    closed.asked name.text f name.listed name.first)
    (or_cases (is_command files f) (is_asked undefined files f) is)
live_inside undefined files s closed (suc n) f is =
    live_cases (s f ≡ true) undefined files n f is (live_inside undefined files s closed n f) (λ e lt live pulled. closed.pulled e f (live_inside undefined files s closed n e live) pulled)

pub commands_live : (undefined : List (List ℕ)) (files : List File) (n f : ℕ) → f < length files → (file_at files f).member ≡ false → live_in undefined files n f ≡ true
unfolding live_in
commands_live undefined files zero f lt own =
    or_left (is_command files f) (is_asked undefined files f)
    (and_from (nat_lt f (length files)) (not (file_at files f).member) (lt-ltb f (length files) lt) (not_from_false (file_at files f).member own))
commands_live undefined files (suc n) f lt own = live_more undefined files n f (commands_live undefined files n f lt own)

pub asked_live : (undefined : List (List ℕ)) (files : List File) (n f : ℕ) → is_asked undefined files f ≡ true → live_in undefined files n f ≡ true
unfolding live_in
asked_live undefined files zero f is = or_right (is_command files f) (is_asked undefined files f) is
asked_live undefined files (suc n) f is = live_more undefined files n f (asked_live undefined files n f is)

pub live_at : (undefined : List (List ℕ)) (files : List File) (f : ℕ) → f < length files → get_or (live_of undefined files) f false ≡ live_in undefined files (length files) f
unfolding live_of is_live
live_at undefined files f lt = get_or-map-range_with_len (is_live undefined files) 0 (length files) f f false lt (omega arith)

length-live : (undefined : List (List ℕ)) (files : List File) → length (live_of undefined files) ≡ length files
unfolding live_of
length-live undefined files = length-map-range_with_len (is_live undefined files) 0 (length files)

marked_within : (live : List Bool) (f : ℕ) → get_or live f false ≡ true → f < length live
marked_within live f is = ⊎_elim
    (λ (lt : f < length live). lt)
    (λ (past : length live ≤ f). absurd (both_ways (get_or live f false) (get_or_past live f false past) is))
    (cases_lt f (length live))

-- the definition is the least closed set
pub live_of_least : (undefined : List (List ℕ)) (files : List File) → ((f g : ℕ) → pulls files f g ≡ true → g < length files) →
    ((g : ℕ) → is_asked undefined files g ≡ true → g < length files) → IsLive undefined files (live_of undefined files)
live_of_least undefined files within among =
    let inside : (f : ℕ) → get_or (live_of undefined files) f false ≡ true → f < length files = λ f is. let lt = marked_within (live_of undefined files) f is in omega (arith, length-live undefined files) in
    record {
      wide = length-live undefined files;
      closed = record {
        commands = λ f lt own. live_at undefined files f lt ∙ commands_live undefined files (length files) f lt own;
        asked = λ name g has first.
            let asked = asked_by undefined files name g has first in
            let lt = among g asked in
            live_at undefined files g lt ∙ asked_live undefined files (length files) g asked;
        pulled = λ f g is pulled.
            let lt = within f g pulled in
            let from = inside f is in
            live_at undefined files g lt ∙ all_found undefined files g lt (live_by undefined files (length files) f g from (sym (live_at undefined files f from) ∙ is) pulled);
      };
      least = λ s closed g is. live_inside undefined files s closed (length files) g (sym (live_at undefined files g (inside g is)) ∙ is);
    }

-- there is one such list
pub live_once : (undefined : List (List ℕ)) (files : List File) (a b : List Bool) → IsLive undefined files a → IsLive undefined files b → a ≡ b
live_once undefined files a b x y =
    let mark : ℕ → Bool = λ f. get_or b f false in
    fill_by_all mark a (length files) false x.wide
    (λ k lt. same_tests (get_or a k false) (get_or b k false) (x.least (λ f. get_or b f false) y.closed k) (y.least (λ f. get_or a f false) x.closed k))
    ∙ sym (fill_by_all mark b (length files) false y.wide (λ k lt. refl))
