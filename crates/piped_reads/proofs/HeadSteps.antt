-- The heads of members, one after another.
use Rattle.std.proofs.Common.{◌≡◌, ℕ, suc, ◌+◌, ◌<◌, ◌≤◌, Bool, true, false, List, [], ◌∷◌, ◌++◌, length, drop, get_or, refl, sym, ap, ◌∙◌, subst, arith, append_assoc, Option, Some, None, Result, Ok, Err}
use Rattle.std.specs.Prelude.{if◌then◌else◌}
use Rattle.std.specs.Option.{option_map}
use Rattle.std.proofs.Math.Seq.{drop-cons}
use Rattle.std.proofs.lemmas.List.{append-nil, drop_all, map-append}
use Rattle.ar_read.specs.declared.archive.Member.{Member}
use Rattle.elf_read.specs.Magic.{is_elf}
use Rattle.lk_base.specs.declared.defects.Flaw.{Flaw}
use Rattle.lk_base.specs.declared.defects.ReadFault.{ReadFault}
use Rattle.lk_base.specs.declared.defects.ReadFault.TheVariants as faults
use Rattle.lk_tables.specs.Checks.{Fails}
use Rattle.lk_tables.specs.Heads.{HeadView, head_of, head_view}
use Rattle.lk_tables.specs.Names.{text_of}
use Rattle.lk_tables.specs.declared.heads.Head.{Head}
use Rattle.piped_reads.specs.declared.files.PipedFlaw.{PipedFlaw}
use Rattle.piped_reads.specs.Readings.{head_before, heads_from, heads_seen, member_head, read_before, some_head}
use Rattle.piped_reads.specs.Stops.{StopsSo, stop_at}

abbrev pub Heads : Type 0
Heads = Result (List (Option HeadView)) PipedFlaw

-- heads before those that are left
abbrev pub after_heads : List (Option HeadView) → Heads → Heads
after_heads prefix (Ok rest) = Ok (prefix ++ rest)
after_heads prefix (Err flaw) = Err flaw

after_none : (rest : Heads) → after_heads [] rest ≡ rest
after_none (Ok rest) = refl
after_none (Err flaw) = refl

pub no_heads : (heads : List (Option Head)) (rest : Heads) → heads ≡ [] → after_heads (heads_seen heads) rest ≡ rest
no_heads heads rest none = ap (λ (l : List (Option Head)). after_heads (heads_seen l) rest) none ∙ after_none rest

one_more : (prefix : List (Option HeadView)) (head : Option HeadView) (rest : Heads) → after_heads (prefix ++ head ∷ []) rest ≡ after_heads prefix (head_before head rest)
one_more prefix head (Ok rest) = ap (λ (l : List (Option HeadView)). Ok l) (append_assoc prefix (head ∷ []) rest)
one_more prefix head (Err flaw) = refl

-- the heads from a member on
from_here : (b : List ℕ) (members : List Member) (place : ℕ) (d : Member) → place < length members
    → heads_from b place (drop place members) ≡ read_before place (member_head b (get_or members place d)) (heads_from b (place + 1) (drop (place + 1) members))
from_here b members place d lt =
    let on : suc place ≡ place + 1 = omega arith in
    ap (heads_from b place) (drop-cons members place d lt)
    ∙ ap (λ (k : ℕ). read_before place (member_head b (get_or members place d)) (heads_from b (place + 1) (drop k members))) on

pub next_head : (b : List ℕ) (members : List Member) (place : ℕ) (d : Member) (head : Option Head) (heads more : List (Option Head)) (whole : Heads)
    → place < length members → member_head b (get_or members place d) ≡ Ok (option_map head_view head) → more ≡ heads ++ head ∷ []
    → after_heads (heads_seen heads) (heads_from b place (drop place members)) ≡ whole
    → after_heads (heads_seen more) (heads_from b (place + 1) (drop (place + 1) members)) ≡ whole
next_head b members place d head heads more whole lt is push held =
    let rest : Heads = heads_from b (place + 1) (drop (place + 1) members) in
    ap (λ (l : List (Option Head)). after_heads (heads_seen l) rest) push
    ∙ ap (λ (l : List (Option HeadView)). after_heads l rest) (map-append (option_map head_view) heads (head ∷ []))
    ∙ one_more (heads_seen heads) (option_map head_view head) rest
    ∙ ap (λ (r : Result (Option HeadView) Flaw). after_heads (heads_seen heads) (read_before place r rest)) (sym is)
    ∙ ap (after_heads (heads_seen heads)) (sym (from_here b members place d lt))
    ∙ held

pub stops_here : (b : List ℕ) (members : List Member) (place : ℕ) (d : Member) (fault : ReadFault) (heads : List (Option Head)) (whole : Heads)
    → place < length members → Fails fault (member_head b (get_or members place d))
    → after_heads (heads_seen heads) (heads_from b place (drop place members)) ≡ whole
    → StopsSo (stop_at place fault) whole
stops_here b members place d (faults.Bad flaw) heads whole lt is held =
    let rest : Heads = heads_from b (place + 1) (drop (place + 1) members) in
    sym held ∙ ap (after_heads (heads_seen heads)) (from_here b members place d lt)
    ∙ ap (λ (r : Result (Option HeadView) Flaw). after_heads (heads_seen heads) (read_before place r rest)) is
stops_here b members place d faults.Memory heads whole lt is held = tt

pub all_heads : (b : List ℕ) (members : List Member) (place : ℕ) (heads : List (Option Head)) (whole : Heads) → length members ≤ place
    → after_heads (heads_seen heads) (heads_from b place (drop place members)) ≡ whole → whole ≡ Ok (heads_seen heads)
all_heads b members place heads whole over held =
    sym held ∙ ap (λ (l : List Member). after_heads (heads_seen heads) (heads_from b place l)) (drop_all place members over)
    ∙ ap (λ (l : List (Option HeadView)). Ok l) (append-nil (heads_seen heads))

-- the head of one member
fails_some : (fault : ReadFault) (r : Result HeadView Flaw) → Fails fault r → Fails fault (some_head r)
fails_some (faults.Bad flaw) r is = ap some_head is
fails_some faults.Memory r is = tt

chosen : {X : Type 0} (b : Bool) (x y : X) → b ≡ true → x ≡ (if b then x else y)
chosen true x y e = refl
chosen false x y e = cc

pub member_read : (b : List ℕ) (member : Member) (text : List ℕ) (elf : Bool) (head : Head) → text ≡ text_of b member.body → elf ≡ is_elf text → elf ≡ true → head_of text ≡ Ok (head_view head)
    → member_head b member ≡ Ok (Some (head_view head))
unfolding member_head
member_read b member text elf head cut asked yes' read =
    let elf_is : is_elf (text_of b member.body) ≡ true = ap is_elf (sym cut) ∙ sym asked ∙ yes' in
    sym (chosen (is_elf (text_of b member.body)) (some_head (head_of (text_of b member.body))) (Ok None) elf_is)
    ∙ ap some_head (ap head_of (sym cut) ∙ read)

pub member_fails : (b : List ℕ) (member : Member) (text : List ℕ) (elf : Bool) (fault : ReadFault) → text ≡ text_of b member.body → elf ≡ is_elf text → elf ≡ true → Fails fault (head_of text)
    → Fails fault (member_head b member)
unfolding member_head
member_fails b member text elf fault cut asked yes' fails =
    let elf_is : is_elf (text_of b member.body) ≡ true = ap is_elf (sym cut) ∙ sym asked ∙ yes' in
    let there : Fails fault (head_of (text_of b member.body)) = subst (λ (t : List ℕ). Fails fault (head_of t)) cut fails in
    subst (Fails fault) (chosen (is_elf (text_of b member.body)) (some_head (head_of (text_of b member.body))) (Ok None) elf_is) (fails_some fault (head_of (text_of b member.body)) there)
