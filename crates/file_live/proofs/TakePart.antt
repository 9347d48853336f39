-- The files that the search marks are those that take part.
use Rattle.std.proofs.Common.{◌≡◌, ℕ, ◌^◌, ◌<◌, ◌≤◌, not, Bool, true, false, List, [], length, get_or, replicate, All, Contains, sym, ◌∙◌, subst, ⊎_elim, arith}
use Rattle.std.proofs.lemmas.List.{get_or_past, get_or-replicate, length-replicate}
use Rattle.std.proofs.lemmas.List.Elements.{All-append, All-contains, All-from_get_or, Contains-append_left, Contains-append_right, Contains-get_or}
use Rattle.std.proofs.lemmas.Bool.{cases_lt, not-true, not_from_false}
use Rattle.lk_tables.specs.Files.{File, file_at, symbol_total}
use Rattle.lk_tables.specs.Reach.{ends_at, IsReach}
use Rattle.lk_tables.proofs.BoundHas.{one_if}
use Rattle.name_numbers.proofs.Walks.{all_range, in_range, in_if}
use Rattle.file_live.specs.Live.{live_of, pulls, IsClosedSet, IsLive}
use Rattle.file_live.specs.Pulls.{asked_members, ends, command_at, commands, first_files}
use Rattle.file_live.proofs.Pulling.{offered_within, pulled_is, pulled_has, puller_within, pull_within, length_ends, ends_read}
use Rattle.file_live.proofs.Asking.{asked_all, asked_has, asked_within}
use Rattle.file_live.proofs.Rounds.{live_of_least, live_once}

abbrev IsCommand : List File → ℕ → Type 0
IsCommand files f = (f < length files) × ((file_at files f).member ≡ false)

pub command_is : (files : List File) (f : ℕ) → Contains (commands files) f → IsCommand files f
unfolding commands
command_is files f has =
    All-contains (IsCommand files) (commands files) f
    (all_range (IsCommand files) (command_at files) 0 (length files) (λ g low high.
    one_if (IsCommand files) (not (file_at files g).member) g (λ own. (omega arith, not-true (file_at files g).member own))))
    has

command_there : (files : List File) (f : ℕ) → f < length files → (file_at files f).member ≡ false → Contains (commands files) f
unfolding commands
command_there files f lt own =
    in_range (command_at files) 0 (length files) f f (omega arith) (omega arith) (in_if (not (file_at files f).member) f (not_from_false (file_at files f).member own))

pub commands_within : (files : List File) (n : ℕ) → n ≡ length files → All (λ f. f < n) (commands files)
commands_within files n same =
    All-from_get_or (λ (f : ℕ). f < n) (commands files) 0 (λ k lt. let is = command_is files (get_or (commands files) k 0) (Contains-get_or (commands files) k 0 lt) in let low = is.0 in omega arith)

-- the ends of a file are the members that it pulls
end_is : (files : List File) (f g : ℕ) → Contains (ends_at (ends files) f) g → pulls files f g ≡ true
end_is files f g has = ⊎_elim
    (λ (lt : f < length files). let P : List ℕ → Type 0 = λ l. Contains l g in pulled_is files f g (subst P (ends_read files f lt) has))
    (λ (past : length files ≤ f).
    let P : List ℕ → Type 0 = λ l. Contains l g in
    let none = subst P (get_or_past (ends files) f [] (omega (arith, length_ends files))) has in
    let lt = none.1 in
    absurd (omega arith))
    (cases_lt f (length files))

pub ends_within : (files : List File) → length files < 2 ^ 24 → symbol_total files < 2 ^ 31 → (f : ℕ) → All (λ g. g < length (ends files)) (ends_at (ends files) f)
ends_within files few small f =
    All-from_get_or (λ (g : ℕ). g < length (ends files)) (ends_at (ends files) f) 0 (λ j lt.
    let g = get_or (ends_at (ends files) f) j 0 in
    omega (arith, length_ends files, pull_within files few small f g (end_is files f g (Contains-get_or (ends_at (ends files) f) j 0 lt))))

-- where the search begins
pub first_within : (undefined : List (List ℕ)) (files : List File) → length files < 2 ^ 24 → symbol_total files < 2 ^ 31 → (n : ℕ) → n ≡ length files →
    All (λ f. f < n) (first_files undefined files)
first_within undefined files few small n same =
    let P : ℕ → Type 0 = λ f. f < n in
    All-append P (commands files) (asked_members undefined files) (commands_within files n same)
    (asked_all P undefined files (λ name g has first. let lt = offered_within files few small name g first in omega arith))

firsts_in : (undefined : List (List ℕ)) (files : List File) (s : ℕ → Bool) → IsClosedSet undefined files s → (f : ℕ) →
    Contains (first_files undefined files) f → s f ≡ true
firsts_in undefined files s closed f has =
    let P : ℕ → Type 0 = λ g. s g ≡ true in
    All-contains P (first_files undefined files) f
    (All-append P (commands files) (asked_members undefined files)
    (All-from_get_or P (commands files) 0 (λ k lt.
    let g = get_or (commands files) k 0 in
    let c = command_is files g (Contains-get_or (commands files) k 0 lt) in
    closed.commands g c.0 c.1))
    (asked_all P undefined files closed.asked)) has

pub live_marked : (undefined : List (List ℕ)) (files : List File) (seen : List Bool) → IsReach (first_files undefined files) (ends files) seen →
    IsLive undefined files seen
live_marked undefined files seen r = record {
  wide = r.wide ∙ length_ends files;
  closed = record {
    commands = λ f lt own. r.closed.rooted f (Contains-append_left (commands files) (asked_members undefined files) f (command_there files f lt own));
    asked = λ name g has first.
        r.closed.rooted g (Contains-append_right (commands files) (asked_members undefined files) g (asked_has undefined files name g has first));
    pulled = λ f g is pulled.
        let P : List ℕ → Type 0 = λ l. Contains l g in
        r.closed.followed f g is (subst P (sym (ends_read files f (puller_within files f g pulled))) (pulled_has files f g pulled));
  };
  least = λ s closed g is. r.least s (record {
    rooted = firsts_in undefined files s closed;
    followed = λ f h live has. closed.pulled f h live (end_is files f h has);
  }) g is;
}

pub live_is : (undefined : List (List ℕ)) (files : List File) (seen : List Bool) → length files < 2 ^ 24 → symbol_total files < 2 ^ 31 →
    IsLive undefined files seen → seen ≡ live_of undefined files
live_is undefined files seen few small is =
    live_once undefined files seen (live_of undefined files) is (live_of_least undefined files (pull_within files few small) (asked_within undefined files few small))

-- where no file is a member, all take part
within_replicate : (n f : ℕ) → get_or (replicate n true) f false ≡ true → f < n
within_replicate n f is = ⊎_elim
    (λ (lt : f < n). lt)
    (λ (past : n ≤ f).
    let none : get_or (replicate n true) f false ≡ false = get_or_past (replicate n true) f false (omega (arith, past, length-replicate n true)) in
    absurd cc)
    (cases_lt f n)

pub all_commands : (undefined : List (List ℕ)) (files : List File) → length files < 2 ^ 24 → symbol_total files < 2 ^ 31 →
    ((f : ℕ) → f < length files → (file_at files f).member ≡ false) → IsLive undefined files (replicate (length files) true)
all_commands undefined files few small own = record {
  wide = length-replicate (length files) true;
  closed = record {
    commands = λ f lt is. get_or-replicate (length files) f true false lt;
    asked = λ name g has first. get_or-replicate (length files) g true false (offered_within files few small name g first);
    pulled = λ f g is pulled. get_or-replicate (length files) g true false (pull_within files few small f g pulled);
  };
  least = λ s closed g is. let lt = within_replicate (length files) g is in closed.commands g lt (own g lt);
}
