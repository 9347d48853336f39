-- An archive may stand anywhere among the objects of a command: the same files take part.
use Rattle.std.proofs.Common.{◌≡◌, ℕ, zero, suc, ◌^◌, ◌<◌, ◌≤◌, not, nat_lt, true, false, List, length, sym, ap, ◌∙◌, subst, ⊎_elim, arith}
use Rattle.std.specs.Str.{bytes_eq}
use Rattle.std.proofs.lemmas.Bool.{cases_lt, and_parts, or_cases, not-true}
use Rattle.std.specs.Cmp.{both_ways}
use Rattle.lk_tables.specs.Files.{File, file_at, symbol_at, symbol_name, symbol_total}
use Rattle.lk_tables.specs.Binding.{is_offer}
use Rattle.lk_tables.proofs.FirstNumbers.{first_within}
use Rattle.file_live.specs.Live.{asks, early, is_of_member, pulls, live_in, is_asked, is_command}
use Rattle.file_live.specs.Order.{IsMoved, StandsAnywhere}
use Rattle.file_live.proofs.FirstMembers.{IsFew, IsFirstMember, first_of, of_first}
use Rattle.file_live.proofs.Pulling.{puller, pulls_at}
use Rattle.file_live.proofs.Rounds.{asked_by, asked_live, asked_name, commands_live, live_at, live_by, live_cases, live_more}

pub few_files : (files : List File) → length files < 2 ^ 24 → symbol_total files < 2 ^ 31 → IsFew files
few_files files few small = record { count = few; symbols = λ f lt. omega (arith, first_within files f lt) }

-- a file of the other order
was_at : (files moved : List File) (to from : ℕ → ℕ) → IsMoved files moved to from → (f : ℕ) → f < length files → file_at files (from f) ≡ file_at moved f
was_at files moved to from m f lt = m.same (from f) (m.outside f lt) ∙ ap (file_at moved) (m.there f lt)

moved_few : (files moved : List File) (to from : ℕ → ℕ) → IsMoved files moved to from → IsFew files → IsFew moved
moved_few files moved to from m few =
    let P : File → Type 0 = λ x. length x.head.symbols < 2 ^ 31 in
    record {
      count = omega (arith, m.long, few.count);
      symbols = λ f lt. let within : f < length files = omega (arith, m.long) in
          subst P (was_at files moved to from m f within) (few.symbols (from f) (m.outside f within));
    }

-- the way back
moved_back : (files moved : List File) (to from : ℕ → ℕ) → IsMoved files moved to from → IsMoved moved files from to
moved_back files moved to from m =
    let within : (f : ℕ) → f < length moved → f < length files = λ f lt. omega (arith, m.long) in
    record {
      long = sym m.long;
      inside = λ f lt. omega (arith, m.long, m.outside f (within f lt));
      outside = λ f lt. omega (arith, m.long, m.inside f (within f lt));
      back = λ f lt. m.there f (within f lt);
      there = λ f lt. m.back f (within f lt);
      same = λ f lt. sym (was_at files moved to from m f (within f lt));
      members = λ f g le lt own also.
          let here = within g lt in
          let there : f < length files = omega arith in
          let x = ap (λ (y : File). y.member) (was_at files moved to from m f there) ∙ own in
          let z = ap (λ (y : File). y.member) (was_at files moved to from m g here) ∙ also in
          ⊎_elim
          (λ (less : from g < from f).
          let turned = m.members (from g) (from f) (omega arith) (m.outside f there) z x in
          let same : f ≡ g = omega (arith, m.there f there, m.there g here) in
          omega (arith, ap from same))
          (λ (ge : from f ≤ from g). ge)
          (cases_lt (from g) (from f));
    }

-- the first member that offers a name is the same
first_moved : (files moved : List File) (to from : ℕ → ℕ) → IsMoved files moved to from → (name : List ℕ) (g : ℕ) →
    IsFirstMember files name g → IsFirstMember moved name (to g)
first_moved files moved to from m name g p =
    let e : file_at files g ≡ file_at moved (to g) = m.same g p.lt in
    let M : File → Type 0 = λ x. x.member ≡ true in
    let I : ℕ → File → Type 0 = λ i x. i < length x.head.symbols in
    let O : ℕ → File → Type 0 = λ i x. is_offer (symbol_at x i) ≡ true in
    let N : ℕ → File → Type 0 = λ i x. bytes_eq (symbol_name x i) name ≡ true in
    record {
      lt = omega (arith, m.long, m.inside g p.lt);
      member = subst M e p.member;
      symbol = p.symbol;
      inside = subst (I p.symbol) e p.inside;
      offer = subst (O p.symbol) e p.offer;
      named = subst (N p.symbol) e p.named;
      first = λ f i lt inside offer named.
          let within : f < length files = omega (arith, m.long) in
          let was : file_at moved f ≡ file_at files (from f) = sym (was_at files moved to from m f within) in
          let stands = m.outside f within in
          let later = p.first (from f) i stands (subst (I i) was inside) (subst (O i) was offer) (subst (N i) was named) in
          let kept = m.members g (from f) later.1 stands p.member later.0 in
          (subst M (sym was) later.0, omega (arith, m.there f within));
    }

member_moved : (files moved : List File) (to from : ℕ → ℕ) → IsMoved files moved to from → IsFew files → (name : List ℕ) (g : ℕ) →
    is_of_member g (early files name) ≡ true → is_of_member (to g) (early moved name) ≡ true
member_moved files moved to from m few name g is =
    of_first moved name (to g) (moved_few files moved to from m few) (first_moved files moved to from m name g (first_of files name g few is))

pull_moved : (files moved : List File) (to from : ℕ → ℕ) → IsMoved files moved to from → IsFew files → (f g : ℕ) → f < length files →
    pulls files f g ≡ true → pulls moved (to f) (to g) ≡ true
pull_moved files moved to from m few f g lt is =
    let p = puller files f g is in
    let e : file_at files f ≡ file_at moved (to f) = m.same f lt in
    let I : File → Type 0 = λ x. p.symbol < length x.head.symbols in
    let A : File → Type 0 = λ x. asks (symbol_at x p.symbol) ≡ true in
    let F : File → Type 0 = λ x. is_of_member (to g) (early moved (symbol_name x p.symbol)) ≡ true in
    pulls_at moved (to f) (to g) (record {
      symbol = p.symbol;
      inside = subst I e p.inside;
      asking = subst A e p.asking;
      member = subst F e (member_moved files moved to from m few (symbol_name (file_at files f) p.symbol) g p.member);
    })

command_moved : (undefined : List (List ℕ)) (files moved : List File) (to from : ℕ → ℕ) → IsMoved files moved to from → (f : ℕ) → f < length files →
    is_command files f ≡ true → live_in undefined moved zero (to f) ≡ true
command_moved undefined files moved to from m f lt own =
    let both = and_parts (nat_lt f (length files)) (not (file_at files f).member) own in
    let M : File → Type 0 = λ x. x.member ≡ false in
    commands_live undefined moved zero (to f) (omega (arith, m.long, m.inside f lt)) (subst M (m.same f lt) (not-true (file_at files f).member both.1))

asked_moved : (undefined : List (List ℕ)) (files moved : List File) (to from : ℕ → ℕ) → IsMoved files moved to from → IsFew files → (f : ℕ) →
    is_asked undefined files f ≡ true → live_in undefined moved zero (to f) ≡ true
asked_moved undefined files moved to from m few f asked =
    let name = asked_name undefined files f asked in
    asked_live undefined moved zero (to f)
    (asked_by undefined moved name.text (to f) name.listed (member_moved files moved to from m few name.text f name.first))

live_moved : (undefined : List (List ℕ)) (files moved : List File) (to from : ℕ → ℕ) → IsMoved files moved to from → IsFew files → (n f : ℕ) → f < length files →
    live_in undefined files n f ≡ true → live_in undefined moved n (to f) ≡ true
unfolding live_in
live_moved undefined files moved to from m few zero f lt is = ⊎_elim
    (λ (own : is_command files f ≡ true). command_moved undefined files moved to from m f lt own)
    (λ (asked : is_asked undefined files f ≡ true). asked_moved undefined files moved to from m few f asked)
    (or_cases (is_command files f) (is_asked undefined files f) is)
live_moved undefined files moved to from m few (suc n) f lt is =
    live_cases (live_in undefined moved (suc n) (to f) ≡ true) undefined files n f is
    (λ before. live_more undefined moved n (to f) (live_moved undefined files moved to from m few n f lt before))
    (λ e within live pulled.
    live_by undefined moved n (to e) (to f) (omega (arith, m.long, m.inside e within))
    (live_moved undefined files moved to from m few n e within live) (pull_moved files moved to from m few e f within pulled))

pub stands_anywhere : (undefined : List (List ℕ)) (files : List File) → length files < 2 ^ 24 → symbol_total files < 2 ^ 31 → StandsAnywhere undefined files
stands_anywhere undefined files count small moved to from m f lt =
    let few = few_files files count small in
    let n = length files in
    let back : live_in undefined moved n (to f) ≡ true → live_in undefined files n f ≡ true = λ is.
    let P : ℕ → Type 0 = λ k. live_in undefined files n k ≡ true in
    subst P (m.back f lt)
    (live_moved undefined moved files from to (moved_back files moved to from m) (moved_few files moved to from m few) n (to f)
    (omega (arith, m.long, m.inside f lt)) is) in
    live_at undefined files f lt
    ∙ both_ways (live_in undefined files n f) (live_in undefined moved n (to f)) (live_moved undefined files moved to from m few n f lt) back
    ∙ ap (λ k. live_in undefined moved k (to f)) m.long
    ∙ sym (live_at undefined moved (to f) (omega (arith, m.long, m.inside f lt)))
