-- One header: its own checks, then those of its name, then what it gives.
use Rattle.std.proofs.Common.{length, ◌≤◌, ◌≡◌, ℕ, ◌+◌, cond, List, Option, Some, None, sym, ap, ◌∙◌}
use Rattle.std.specs.Prelude.{MatchOption, Ok, Err}
use Rattle.std.specs.Option.{option_map, option_or}
use Rattle.lk_base.specs.declared.defects.Flaw.{Flaw}
use Rattle.lk_tables.specs.declared.spans.Span.{Span}
use Rattle.lk_tables.specs.Checks.{checked}
use Rattle.lk_tables.proofs.Passing.{first_fails, second_decides, checked_failed, checked_passed, checked_value}
use Rattle.ar_read.specs.declared.archive.Member.{Member}
use Rattle.ar_read.specs.declared.entries.Entry.{Entry}
use Rattle.ar_read.specs.declared.headers.ArHead.{ArHead}
use Rattle.ar_read.specs.Fields.{form_checks, head_of}
use Rattle.ar_read.specs.Names.{name_checks, name_of, is_long_names}
use Rattle.ar_read.specs.Archives.{even, named, kind_at, checks_at, member_at, entry_at, LiesIn}

-- the header is broken
pub head_fails : (b : List ℕ) (table : Option Span) (at : ℕ) (flaw : Flaw) → Err flaw ≡ checked (form_checks b at) (head_of b at) →
    Err flaw ≡ checked (checks_at b table at) (entry_at b table at)
unfolding checks_at
head_fails b table at flaw e =
    sym (first_fails (form_checks b at) (name_checks b table at (kind_at b at)) (entry_at b table at) flaw
    (checked_failed (form_checks b at) (head_of b at) tt flaw (sym e)))

-- its name is
pub name_fails : (b : List ℕ) (table : Option Span) (at : ℕ) (head : ArHead) (flaw : Flaw) → Ok head ≡ checked (form_checks b at) (head_of b at) →
    Err flaw ≡ checked (name_checks b table at (kind_at b at)) (name_of b table at (kind_at b at)) → Err flaw ≡ checked (checks_at b table at) (entry_at b table at)
unfolding checks_at
name_fails b table at head flaw sound e =
    sym (second_decides (form_checks b at) (name_checks b table at (kind_at b at)) (entry_at b table at)
    (checked_passed (form_checks b at) (head_of b at) tt head (sym sound))
    ∙ checked_failed (name_checks b table at (kind_at b at)) (name_of b table at (kind_at b at)) (entry_at b table at) flaw (sym e))

abbrev entry_of : Option Member → Option Span → ℕ → Entry
entry_of member table next = record { member = member; table = table; next = next }

same_fields : (x y : Entry) → x.member ≡ y.member → x.table ≡ y.table → x.next ≡ y.next → x ≡ y
same_fields x y member table next =
    ap (λ k. entry_of k x.table x.next) member ∙ ap (λ k. entry_of y.member k x.next) table ∙ ap (λ k. entry_of y.member y.table k) next

same_entry : (b : List ℕ) (table : Option Span) (at : ℕ) (head : ArHead) (name : Option Span) (entry : Entry) → head ≡ head_of b at → name ≡ name_of b table at (kind_at b at) →
    entry.member ≡ option_map (named head.body) name → entry.table ≡ option_or table (cond (is_long_names (kind_at b at)) (Some head.body) None) →
    entry.next ≡ even (head.body.from + head.body.len) → entry ≡ entry_at b table at
unfolding entry_at member_at head_of
same_entry b table at head name entry head_is name_is member_is table_is next_is =
    let body = ap (λ h. h.body) head_is in
    let member : entry.member ≡ option_map (named (head_of b at).body) (name_of b table at (kind_at b at)) =
    member_is ∙ ap (λ y. option_map (named y) name) body ∙ ap (option_map (named (head_of b at).body)) name_is in
    let later : entry.table ≡ option_or table (cond (is_long_names (kind_at b at)) (Some (head_of b at).body) None) =
    table_is ∙ ap (λ y. option_or table (cond (is_long_names (kind_at b at)) (Some y) None)) body in
    let onward : entry.next ≡ even ((head_of b at).body.from + (head_of b at).body.len) =
    next_is ∙ ap (λ y. even (y.from + y.len)) body in
    same_fields entry (entry_at b table at) member later onward

-- both are sound
pub entry_reads : (b : List ℕ) (table : Option Span) (at : ℕ) (head : ArHead) (name : Option Span) (entry : Entry) → Ok head ≡ checked (form_checks b at) (head_of b at) →
    Ok name ≡ checked (name_checks b table at (kind_at b at)) (name_of b table at (kind_at b at)) →
    entry.member ≡ option_map (named head.body) name → entry.table ≡ option_or table (cond (is_long_names (kind_at b at)) (Some head.body) None) →
    entry.next ≡ even (head.body.from + head.body.len) → Ok entry ≡ checked (checks_at b table at) (entry_at b table at)
unfolding checks_at
entry_reads b table at head name entry sound named_so member_is table_is next_is =
    let head_is = checked_value (form_checks b at) (head_of b at) head (sym sound) in
    let name_is = checked_value (name_checks b table at (kind_at b at)) (name_of b table at (kind_at b at)) name (sym named_so) in
    ap Ok (same_entry b table at head name entry head_is name_is member_is table_is next_is)
    ∙ sym (second_decides (form_checks b at) (name_checks b table at (kind_at b at)) (entry_at b table at)
    (checked_passed (form_checks b at) (head_of b at) tt head (sym sound))
    ∙ checked_passed (name_checks b table at (kind_at b at)) (name_of b table at (kind_at b at)) (entry_at b table at) name (sym named_so))

-- if its name and data lie in the file, so does the member
pub lies_in : (b : List ℕ) (body : Span) (name : Option Span) → body.from + body.len ≤ length b → MatchOption name (Unit {0}) (λ s. s.from + s.len ≤ length b) →
    MatchOption (option_map (named body) name) (Unit {0}) (LiesIn (length b))
lies_in b body None inside named_in = tt
lies_in b body (Some name) inside named_in = (named_in, inside)
