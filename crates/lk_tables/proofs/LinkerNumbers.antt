-- The numbers of the linker's symbols are few, and what a rank of one names.
use Rattle.std.proofs.Common.{◌≡◌, ℕ, zero, suc, ◌+◌, ◌-◌, ◌*◌, ◌%◌, ◌<◌, ◌≤◌, ◌^◌, ◌==◌, Bool, true, false, cond, List, refl, sym, ap, ◌∙◌, subst, arith, Some, None, nat_lt, ltb-true}
use Rattle.std.specs.Prelude.{Option, option_map, find, if◌then◌else◌}
use Rattle.std.specs.List.{range_with_len}
use Rattle.std.specs.Str.{bytes_eq}
use Rattle.std.proofs.lemmas.Bool.{and_parts, cond-false, cond-true, eq-eqb, ne_eqb}
use Rattle.std.proofs.lemmas.Slice.Eq.{bytes_eq-Decides}
use Rattle.lk_tables.specs.declared.bounds.Bound.TheVariants.{Linker, Nobody}
use Rattle.lk_tables.specs.Binding.{Bindings}
use Rattle.lk_tables.specs.BoundNames.{with_linker}
use Rattle.lk_tables.specs.Files.{File, section_total}
use Rattle.lk_tables.specs.InputSections.{input_at, input_of, may_stay, may_stay_at}
use Rattle.lk_tables.specs.LinkerSymbols.{bound_no, bound_section, either, first_if, first_named, fixed_count, fixed_if, fixed_no, identifier_after, is_named, is_stop_no, linker_no, named_count, start_no, start_prefix, stop_no, stop_prefix}
use Rattle.lk_tables.specs.Ranks.{class_of_rank, file_of, is_linker_rank, linker_class, linker_rank, no_rank, symbol_of_rank}
use Rattle.lk_tables.specs.Targets.{bound_by, definition}

-- of a number that is there
abbrev pub IfNumber : (ℕ → Type 0) → Option ℕ → Type 0
IfNumber P None = Unit {0}
IfNumber P (Some n) = P n

abbrev Below : ℕ → ℕ → Type 0
Below most n = n < most

either_is : (P : ℕ → Type 0) (one other : Option ℕ) → IfNumber P one → IfNumber P other → IfNumber P (either one other)
either_is P None other first second = second
either_is P (Some n) other first second = first

mapped_is : (P Q : ℕ → Type 0) (g : ℕ → ℕ) (o : Option ℕ) → ((n : ℕ) → P n → Q (g n)) → IfNumber P o → IfNumber Q (option_map g o)
mapped_is P Q g None each is = tt
mapped_is P Q g (Some n) each is = each n is

tested_is : (P : ℕ → Type 0) (test : Bool) (n : ℕ) → (test ≡ true → P n) → IfNumber P (if test then Some n else None)
tested_is P true n is = is refl
tested_is P false n is = tt

found_is : (P : ℕ → Type 0) (p : ℕ → Bool) (from n : ℕ) → ((k : ℕ) → k < from + n → p k ≡ true → P k) → IfNumber P (find p (range_with_len from n))
found_is P p from zero each = tt
found_is P p from (suc n) each =
    one_of (p from) (each from (omega arith)) (found_is P p (from + 1) n (λ k lt. each k (omega (arith, lt))))
  where
    one_of : (b : Bool) → (b ≡ true → P from) → IfNumber P (find p (range_with_len (from + 1) n)) →
        IfNumber P (cond b (Some from) (find p (range_with_len (from + 1) n)))
    one_of true here later = here refl
    one_of false here later = later

fixed_few : (name : List ℕ) → IfNumber (Below named_count) (fixed_if name)
fixed_few name = tested_is (Below named_count) (nat_lt (fixed_no name) named_count) (fixed_no name) (λ is. ltb-true (fixed_no name) named_count is)

pub first_few : (files : List File) (b : Bindings) (text : Option (List ℕ)) → IfNumber (Below (section_total files)) (first_if files b text)
unfolding first_named
first_few files b None = tt
first_few files b (Some text) =
    found_is (Below (section_total files)) (is_named files b text) 0 (section_total files) (λ k lt is. omega (arith, lt))

-- all are below this one
abbrev last_no : List File → ℕ
last_no files = fixed_count + 2 * section_total files

pub linker_few : (files : List File) (b : Bindings) (name : List ℕ) → IfNumber (Below (last_no files)) (linker_no files b name)
unfolding linker_no bound_no
linker_few files b name =
    let some = section_total files in
    let start = first_if files b (identifier_after start_prefix name) in
    let stop = first_if files b (identifier_after stop_prefix name) in
    either_is (Below (last_no files)) (fixed_if name) (either (option_map (λ n. start_no n) start) (option_map (λ n. stop_no n) stop))
    (mapped_same (fixed_if name) (fixed_few name))
    (either_is (Below (last_no files)) (option_map (λ n. start_no n) start) (option_map (λ n. stop_no n) stop)
    (mapped_is (Below some) (Below (last_no files)) (λ n. start_no n) start (λ n lt. omega (arith, lt)) (first_few files b (identifier_after start_prefix name)))
    (mapped_is (Below some) (Below (last_no files)) (λ n. stop_no n) stop (λ n lt. omega (arith, lt)) (first_few files b (identifier_after stop_prefix name))))
  where
    mapped_same : (o : Option ℕ) → IfNumber (Below named_count) o → IfNumber (Below (last_no files)) o
    mapped_same None is = tt
    mapped_same (Some n) is = omega (arith, is)

-- the rank of a number names the linker's symbol of it
pub linker_named : (files : List File) (b : Bindings) (n : ℕ) → n < 2 ^ 31 → bound_by files b (linker_rank n) ≡ Linker n
unfolding bound_by
linker_named files b n few =
    let rank = linker_rank n in
    let other = definition files b (file_of rank) (symbol_of_rank rank) in
    let some : (rank == no_rank) ≡ false = ne_eqb rank no_rank (λ same. omega (arith, few, same)) in
    let class : class_of_rank rank ≡ 4 = omega (arith, few) in
    let number : symbol_of_rank rank ≡ n = omega (arith, few) in
    cond-false (rank == no_rank) Nobody (if is_linker_rank rank then Linker (symbol_of_rank rank) else other) some
    ∙ cond-true (is_linker_rank rank) (Linker (symbol_of_rank rank)) other (eq-eqb (class_of_rank rank) linker_class class)
    ∙ ap Linker number

-- which numbers there are is decided by what may stay, and not by what names are bound to
pub same_no : (files : List File) (b : Bindings) (entry name : List ℕ) → linker_no files (with_linker files b entry) name ≡ linker_no files b name
unfolding linker_no bound_no first_named is_named may_stay input_of with_linker
same_no files b entry name = refl

-- the first section that has a name may be kept, and has the name
pub first_is : (files : List File) (b : Bindings) (text : List ℕ) (n : ℕ) → first_named files b text ≡ Some n →
    (may_stay_at files b n ≡ true) × ((input_at files b n).name ≡ text)
unfolding first_named is_named
first_is files b text n is =
    let P : Option ℕ → Type 0 = IfNumber (λ k. is_named files b text k ≡ true) in
    let found : is_named files b text n ≡ true =
    subst P is (found_is (λ k. is_named files b text k ≡ true) (is_named files b text) 0 (section_total files) (λ k lt passes. passes)) in
    let both = and_parts (may_stay_at files b n) (bytes_eq (input_at files b n).name text) found in
    (both.0, (bytes_eq-Decides (input_at files b n).name text).0 both.1)

start_says : (n : ℕ) → (bound_section (start_no n) ≡ n) × (is_stop_no (start_no n) ≡ false)
start_says n = (omega arith, ne_eqb ((start_no n - fixed_count) % 2) 1 (λ same. omega (arith, same)))

stop_says : (n : ℕ) → (bound_section (stop_no n) ≡ n) × (is_stop_no (stop_no n) ≡ true)
stop_says n = (omega arith, eq-eqb ((stop_no n - fixed_count) % 2) 1 (omega arith))

abbrev prefix_of : (stop : Bool) → List ℕ
prefix_of stop = if stop then stop_prefix else start_prefix

-- a name that has this number is that of the start, or of the end, of the sections of an identifier of C, and the number names the first
pub record NamesEdge (files : List File) (b : Bindings) (name : List ℕ) (number : ℕ) : Type 0 where
  pub text : List ℕ
  pub follows : identifier_after (if is_stop_no number then stop_prefix else start_prefix) name ≡ Some text
  pub first : first_named files b text ≡ Some (bound_section number)

edge_at : (files : List File) (b : Bindings) (name text : List ℕ) (stop : Bool) (g : ℕ → ℕ) → ((n : ℕ) → (bound_section (g n) ≡ n) × (is_stop_no (g n) ≡ stop)) →
    identifier_after (prefix_of stop) name ≡ Some text → (o : Option ℕ) → first_named files b text ≡ o → IfNumber (NamesEdge files b name) (option_map g o)
edge_at files b name text stop g says follows None is = tt
edge_at files b name text stop g says follows (Some n) is =
    let P : Bool → Type 0 = λ s. identifier_after (prefix_of s) name ≡ Some text in
    record { text = text; follows = subst P (sym (says n).1) follows; first = is ∙ ap (λ k. Some k) (sym (says n).0) }

edge_by : (files : List File) (b : Bindings) (name : List ℕ) (stop : Bool) (g : ℕ → ℕ) → ((n : ℕ) → (bound_section (g n) ≡ n) × (is_stop_no (g n) ≡ stop)) →
    (o : Option (List ℕ)) → identifier_after (prefix_of stop) name ≡ o → IfNumber (NamesEdge files b name) (option_map g (first_if files b o))
edge_by files b name stop g says None is = tt
edge_by files b name stop g says (Some text) is = edge_at files b name text stop g says is (first_named files b text) refl

-- so of each number past those that are no section's
pub edge_law : (files : List File) (b : Bindings) (name : List ℕ) (number : ℕ) → linker_no files b name ≡ Some number → fixed_count ≤ number → NamesEdge files b name number
unfolding linker_no bound_no
edge_law files b name number is late =
    let Q : ℕ → Type 0 = λ n. fixed_count ≤ n → NamesEdge files b name n in
    let start = option_map (λ n. start_no n) (first_if files b (identifier_after start_prefix name)) in
    let stop = option_map (λ n. stop_no n) (first_if files b (identifier_after stop_prefix name)) in
    let P : Option ℕ → Type 0 = IfNumber Q in
    let all = either_is Q (fixed_if name) (either start stop) (not_fixed (fixed_if name) (fixed_few name))
    (either_is Q start stop
    (always start (edge_by files b name false (λ n. start_no n) start_says (identifier_after start_prefix name) refl))
    (always stop (edge_by files b name true (λ n. stop_no n) stop_says (identifier_after stop_prefix name) refl))) in
    let law : Q number = subst P is all in law late
  where
    not_fixed : (o : Option ℕ) → IfNumber (Below named_count) o → IfNumber (λ n. fixed_count ≤ n → NamesEdge files b name n) o
    not_fixed None below = tt
    not_fixed (Some n) below = λ more. absurd (omega (arith, below, more))

    always : (o : Option ℕ) → IfNumber (NamesEdge files b name) o → IfNumber (λ n. fixed_count ≤ n → NamesEdge files b name n) o
    always None edge = tt
    always (Some n) edge = λ more. edge
