-- The headers one after another: what is known after some of them, and what the answer says of the archive.
use Rattle.std.proofs.Common.{append-nil, ◌≡◌, ℕ, ◌+◌, ◌<◌, ◌≤◌, Bool, true, false, cond, List, [], ◌∷◌, ◌++◌, length, Option, Some, None, refl, sym, ap, ◌∙◌, subst, arith}
use Rattle.std.specs.Prelude.{All, MatchOption, Result, Ok, Err, find, IfOk}
use Rattle.std.specs.List.{range_with_len, filter_map, cons_option}
use Rattle.std.specs.Option.{option_map, option_or}
use Rattle.std.proofs.lemmas.List.Elements.{All-append, All-cons, All-nil, filter_map-append}
use Rattle.lk_base.specs.declared.defects.Flaw.{Flaw}
use Rattle.lk_tables.specs.declared.spans.Span.{Span}
use Rattle.lk_tables.specs.Checks.{checked, passes, from_on, NoneBroken, IsFirstBroken}
use Rattle.lk_tables.proofs.Passing.{step_passes, step_fails, all_pass, checked_failed, checked_passed, checked_value, ok_from_none, none_from_ok, err_from_first}
use Rattle.lk_tables.proofs.Ranges.{find_more}
use Rattle.lk_base.proofs.Loops.{range_more}
use Rattle.ar_read.specs.declared.archive.Member.{Member}
use Rattle.ar_read.specs.declared.entries.Entry.{Entry}
use Rattle.ar_read.specs.declared.headers.ArHead.{ArHead}
use Rattle.ar_read.specs.Fields.{head_of, form_checks, HeaderAt}
use Rattle.ar_read.specs.Names.{is_long_names}
use Rattle.ar_read.specs.declared.format.TheConstants.{SARMAG}
use Rattle.ar_read.specs.Archives.{place, next, count, kind_at, table_before, checks_at, header_checks, member_at, member_of, members_of, entry_at, archive_checks, archive_of, ArOf, ArFlaw}
use Rattle.ar_read.proofs.Places.{place_next, count_has, count_is, below_count, above_count}

-- some headers have passed: the next one stands at `at`, and these are the table and the members so far
pub record Walked (b : List ℕ) (at : ℕ) (table : Option Span) (members : List Member) : Type 0 where
  pub headers : ℕ
  pub few : headers ≤ count b
  pub here : at ≡ place b headers
  pub so_far : passes (from_on (header_checks b) headers (count b)) ≡ passes (from_on (header_checks b) 0 (count b))
  pub table_is : table ≡ table_before b headers
  pub members_are : members ≡ members_of b headers

pub begun : (b : List ℕ) (list : List Member) → list ≡ [] → Walked b SARMAG None list
unfolding place table_before members_of
begun b list is = record { headers = 0; few = omega arith; here = refl; so_far = refl; table_is = refl; members_are = is }

map_or : (f : ℕ → Span) (r : Option ℕ) (t : Bool) (j : ℕ) → option_map f (option_or r (cond t (Some j) None)) ≡ option_or (option_map f r) (cond t (Some (f j)) None)
map_or f None true j = refl
map_or f None false j = refl
map_or f (Some k) t j = refl

table_more : (b : List ℕ) (j : ℕ) → table_before b (j + 1) ≡ option_or (table_before b j) (cond (is_long_names (kind_at b (place b j))) (Some (head_of b (place b j)).body) None)
unfolding table_before
table_more b j =
    let f : ℕ → Span = λ k. (head_of b (place b k)).body in
    let p : ℕ → Bool = λ k. is_long_names (kind_at b (place b k)) in
    ap (option_map f) (find_more p j) ∙ map_or f (find p (range_with_len 0 j)) (p j) j

members_more : (b : List ℕ) (j : ℕ) → members_of b (j + 1) ≡ members_of b j ++ cons_option (member_of b j) []
unfolding members_of
members_more b j =
    ap (filter_map (member_of b)) (range_more j) ∙ filter_map-append (member_of b) (range_with_len 0 j) (j ∷ [])

entry_next : (b : List ℕ) (table : Option Span) (at : ℕ) → (entry_at b table at).next ≡ next b at
unfolding entry_at
entry_next b table at = refl

entry_table : (b : List ℕ) (table : Option Span) (at : ℕ) → (entry_at b table at).table ≡ option_or table (cond (is_long_names (kind_at b at)) (Some (head_of b at).body) None)
unfolding entry_at
entry_table b table at = refl

entry_member : (b : List ℕ) (table : Option Span) (at : ℕ) → (entry_at b table at).member ≡ member_at b table at
unfolding entry_at
entry_member b table at = refl

-- one header more
pub walk_on : (b : List ℕ) (at : ℕ) (table : Option Span) (old new : List Member) (entry : Entry) → Walked b at table old → at < length b →
    checked (checks_at b table at) (entry_at b table at) ≡ Ok entry → new ≡ old ++ cons_option entry.member [] → Walked b entry.next entry.table new
walk_on b at table old new entry w lt ok push =
    let j = w.headers in
    let inside : place b j < length b = omega (arith, w.here) in
    let low : j < count b = below_count b j inside in
    let there : checked (header_checks b j) (entry_at b (table_before b j) (place b j)) ≡ Ok entry = rw (w.here, w.table_is) at ok in
    let is : entry ≡ entry_at b (table_before b j) (place b j) = checked_value (header_checks b j) (entry_at b (table_before b j) (place b j)) entry there in
    record {
      headers = j + 1;
      few = omega arith;
      here = ap (λ e. e.next) is ∙ entry_next b (table_before b j) (place b j) ∙ sym (place_next b j);
      so_far = step_passes (header_checks b) j (count b) (entry_at b (table_before b j) (place b j)) entry
          (passes (from_on (header_checks b) 0 (count b))) low w.so_far there;
      table_is = ap (λ e. e.table) is ∙ entry_table b (table_before b j) (place b j) ∙ sym (table_more b j);
      members_are = push ∙ ap (λ xs. xs ++ cons_option entry.member []) w.members_are
          ∙ ap (λ m. members_of b j ++ cons_option m []) (ap (λ e. e.member) is ∙ entry_member b (table_before b j) (place b j))
          ∙ sym (members_more b j);
    }

-- a header that is broken
pub walk_fails : (b : List ℕ) (at : ℕ) (table : Option Span) (old : List Member) (flaw : Flaw) → Walked b at table old → at < length b →
    checked (checks_at b table at) (entry_at b table at) ≡ Err flaw → checked (from_on (header_checks b) 0 (count b)) (members_of b (count b)) ≡ Err flaw
walk_fails b at table old flaw w lt bad =
    let j = w.headers in
    let inside : place b j < length b = omega (arith, w.here) in
    let there : checked (header_checks b j) (entry_at b (table_before b j) (place b j)) ≡ Err flaw = rw (w.here, w.table_is) at bad in
    checked_failed (from_on (header_checks b) 0 (count b)) tt (members_of b (count b)) flaw
    (step_fails (header_checks b) j (count b) (entry_at b (table_before b j) (place b j)) flaw
    (passes (from_on (header_checks b) 0 (count b))) (below_count b j inside) w.so_far there)

-- after the last header
pub walk_ends : (b : List ℕ) (at : ℕ) (table : Option Span) (list : List Member) → Walked b at table list → length b ≤ at →
    checked (from_on (header_checks b) 0 (count b)) (members_of b (count b)) ≡ Ok list
walk_ends b at table list w over =
    let j = w.headers in
    let past : length b ≤ place b j = omega (arith, w.here) in
    let high : count b ≤ j = above_count b j past in
    let same : j ≡ count b = omega (arith, w.few) in
    let passed = all_pass (header_checks b) j (count b) (passes (from_on (header_checks b) 0 (count b))) high w.so_far in
    checked_passed (from_on (header_checks b) 0 (count b)) tt (members_of b (count b)) tt passed
    ∙ ap Ok (sym (w.members_are ∙ ap (members_of b) same))

pub archive_from : (b : List ℕ) (list : List Member) → list ≡ members_of b (count b) → NoneBroken (archive_checks b (count b)) → ArOf b list
archive_from b list is sound = record { headers = count b; all = count_has b; sound = sound; members_are = is }

pub read_as : (b : List ℕ) (list : List Member) → ArOf b list → archive_of b ≡ Ok list
unfolding archive_of
read_as b list h =
    let same : h.headers ≡ count b = count_is b h.headers h.all in
    let sound : NoneBroken (archive_checks b (count b)) = subst (λ (n : ℕ). NoneBroken (archive_checks b n)) same h.sound in
    ok_from_none (archive_checks b (count b)) (members_of b (count b)) sound ∙ ap Ok (sym (h.members_are ∙ ap (members_of b) same))

pub flaw_from : (b : List ℕ) (flaw : Flaw) → IsFirstBroken (archive_checks b (count b)) flaw → ArFlaw b flaw
flaw_from b flaw h = record { headers = count b; all = count_has b; first = h }

pub refused_as : (b : List ℕ) (flaw : Flaw) → ArFlaw b flaw → archive_of b ≡ Err flaw
unfolding archive_of
refused_as b flaw h =
    let same : h.headers ≡ count b = count_is b h.headers h.all in
    let first : IsFirstBroken (archive_checks b (count b)) flaw = subst (λ (n : ℕ). IsFirstBroken (archive_checks b n) flaw) same h.first in
    err_from_first (archive_checks b (count b)) (members_of b (count b)) flaw first

pub header_from : (b : List ℕ) (at : ℕ) (r : Result ArHead Flaw) → r ≡ checked (form_checks b at) (head_of b at) → IfOk r (λ head. HeaderAt b at head)
header_from b at (Ok head) is =
    record { fields = checked_value (form_checks b at) (head_of b at) head (sym is); sound = none_from_ok (form_checks b at) (head_of b at) head (sym is) }
header_from b at (Err flaw) is = tt

-- one member more, if there is one
pub all_more : (P : Member → Type 0) (old new : List Member) (member : Option Member) → All P old → MatchOption member (Unit {0}) P →
    new ≡ old ++ cons_option member [] → All P new
all_more P old new None all more push = subst (All P) (sym (push ∙ append-nil old)) all
all_more P old new (Some member) all more push = subst (All P) (sym push) (All-append P old (member ∷ []) all (All-cons P member [] more (All-nil P)))
