-- Each run of a class stands in the output section that is made of it, and this is the first of its name in its class.
use Rattle.std.proofs.Common.{◌≡◌, ℕ, suc, ◌+◌, ◌-◌, ◌^◌, ◌<◌, ◌≤◌, ◌&&◌, not, Bool, true, false, if◌then◌else◌, Option, Some, List, [], ◌∷◌, ◌++◌, get_or, length, All, refl, ap, sym, ◌∙◌, subst, append_assoc, arith}
use Rattle.std.specs.Prelude.{cond, find, slice_get, unwrap_or}
use Rattle.std.specs.Str.{bytes_eq}
use Rattle.std.proofs.lemmas.Bool.{and_from, and_parts}
use Rattle.std.proofs.lemmas.List.Elements.{All-nil, All-head, All-tail, All-cons, All-append}
use Rattle.std.proofs.lemmas.Slice.Eq.{bytes_eq-Decides}
use Rattle.lk_base.specs.Arithmetic.{up}
use Rattle.lk_base.proofs.Multiples.{up_least}
use Rattle.lk_tables.specs.declared.classes.Class.{Class}
use Rattle.lk_tables.specs.declared.classes.Class.TheVariants.{R, Rx, TlsBits, TlsNobits, RwBits, RwNobits}
use Rattle.lk_tables.specs.Classes.{is_in, is_nobits, is_tls, may_execute, may_write}
use Rattle.lk_tables.specs.OutputNames.{output_name}
use Rattle.link_sections.specs.declared.members.Content.{Content}
use Rattle.link_sections.specs.declared.members.Member.{Member}
use Rattle.link_sections.specs.Cuts.{Cut, new_offset}
use Rattle.link_sections.specs.LaidOut.{OutputSection}
use Rattle.output_sections.specs.declared.rows.Row.{Row}
use Rattle.output_sections.specs.Items.{Item}
use Rattle.output_sections.specs.Order.{head_of, is_of}
use Rattle.layout.specs.declared.walk.Cursor.{Cursor}
use Rattle.layout.specs.Cutting.{laid_cuts}
use Rattle.layout.specs.Holding.{Holds, IsHeld, takes}
use Rattle.layout.specs.Walk.{after, cuts_in, first_name, is_empty, member_at, members_from, members_still, name_of_item, past, section_in, section_of, sections_along, size_at, stands_along, stands_in, start_of, still}
use Rattle.layout.proofs.Cursors.{RowFits, past_least}
use Rattle.layout.proofs.Groups.{AreGroups, each_two, first_group}
use Rattle.layout.proofs.Inside.{none_each}
use Rattle.layout.proofs.OwnRows.{IsRow}
use Rattle.layout.proofs.Runs.{EachRun}

-- no output section takes an item; or none that has members
abbrev pub Other : Item → List OutputSection → Type 0
Other item outputs = All (λ x. takes item x ≡ true → ⊥) outputs

abbrev pub Few : Item → List OutputSection → Type 0
Few item outputs = All (λ x. takes item x ≡ true → x.count ≡ 0) outputs

pub few_other : (item : Item) (outputs : List OutputSection) → Other item outputs → Few item outputs
few_other item outputs other = λ k d lt taken. absurd (other k d lt taken)

found_by : (t : Bool) (x o : OutputSection) (rest : Option OutputSection) → cond t (Some x) rest ≡ Some o → (t ≡ true → x.count ≡ 0) → (rest ≡ Some o → o.count ≡ 0) → o.count ≡ 0
found_by true x o rest is here later =
    let same : x ≡ o = ap (λ k. unwrap_or k x) is in
    sym (ap (λ (k : OutputSection). k.count) same) ∙ here refl
found_by false x o rest is here later = later is

few_found : (item : Item) (outputs : List OutputSection) (o : OutputSection) → Few item outputs → find (takes item) outputs ≡ Some o → o.count ≡ 0
few_found item [] o few is = let none : ⊥ = cc in absurd none
few_found item (x ∷ outputs) o few is =
    found_by (takes item x) x o (find (takes item) outputs) is (All-head (λ (k : OutputSection). takes item k ≡ true → k.count ≡ 0) x outputs few)
    (few_found item outputs o (All-tail (λ (k : OutputSection). takes item k ≡ true → k.count ≡ 0) x outputs few))

-- an item without bytes that no output section with members takes
held_none : (item : Item) (outputs : List OutputSection) (start size : ℕ) → item.size ≡ 0 → Few item outputs → IsHeld outputs item start size
held_none item outputs start size none few = record {
  there = λ some. absurd (omega (arith, some, none));
  within = λ o is counted. absurd (omega (arith, counted, few_found item outputs o few is));
}

-- one in the first of its output sections
held_first : (item : Item) (s : OutputSection) (outputs : List OutputSection) (start size : ℕ) → takes item s ≡ true → 0 < s.count → s.address ≤ start
    → start + size ≤ s.address + s.size → IsHeld (s ∷ outputs) item start size
held_first item s outputs start size taken counted from to =
    let found : find (takes item) (s ∷ outputs) ≡ Some s = ap (λ t. cond t (Some s) (find (takes item) outputs)) taken in
    record {
      there = λ some. (s, (found, counted));
      within = λ o is some.
          let same : s ≡ o = ap (λ k. unwrap_or k s) (sym found ∙ is) in
          subst (Holds start size) same (record { from = from; to = to });
    }

-- those that do not take it change nothing
skip_by : (t : Bool) (x : OutputSection) (rest : Option OutputSection) → (t ≡ true → ⊥) → cond t (Some x) rest ≡ rest
skip_by true x rest other = absurd (other refl)
skip_by false x rest other = refl

skip_find : (item : Item) (xs ys : List OutputSection) → Other item xs → find (takes item) (xs ++ ys) ≡ find (takes item) ys
skip_find item [] ys other = refl
skip_find item (x ∷ xs) ys other =
    skip_by (takes item x) x (find (takes item) (xs ++ ys)) (All-head (λ (k : OutputSection). takes item k ≡ true → ⊥) x xs other)
    ∙ skip_find item xs ys (All-tail (λ (k : OutputSection). takes item k ≡ true → ⊥) x xs other)

pub skip : (item : Item) (xs ys : List OutputSection) (start size : ℕ) → Other item xs → IsHeld ys item start size → IsHeld (xs ++ ys) item start size
skip item xs ys start size other held =
    let same = skip_find item xs ys other in
    record {
      there = λ some. let found = held.there some in (found.0, (same ∙ found.1.0, found.1.1));
      within = λ o is counted. held.within o (sym same ∙ is) counted;
    }

-- what a class has is of no other
abbrev kind_by : (t w x n : Bool) → Class
kind_by t w x n = if t then (if n then TlsNobits else TlsBits) else if w then (if n then RwNobits else RwBits) else if x then Rx else R

abbrev pub kind_of : (sh_type flags : ℕ) → Class
kind_of sh_type flags = kind_by (is_tls flags) (may_write flags) (may_execute flags) (is_nobits sh_type)

kind_r : (t w x n : Bool) → (not t && not w && not x) ≡ true → kind_by t w x n ≡ R
kind_r true w x n is = cc
kind_r false true x n is = cc
kind_r false false true n is = cc
kind_r false false false n is = refl

kind_rx : (t w x n : Bool) → (not t && not w && x) ≡ true → kind_by t w x n ≡ Rx
kind_rx true w x n is = cc
kind_rx false true x n is = cc
kind_rx false false true n is = refl
kind_rx false false false n is = cc

kind_tls : (t w x n : Bool) → (t && not n) ≡ true → kind_by t w x n ≡ TlsBits
kind_tls true w x true is = cc
kind_tls true w x false is = refl
kind_tls false w x n is = cc

kind_tls_nobits : (t w x n : Bool) → (t && n) ≡ true → kind_by t w x n ≡ TlsNobits
kind_tls_nobits true w x true is = refl
kind_tls_nobits true w x false is = cc
kind_tls_nobits false w x n is = cc

kind_rw : (t w x n : Bool) → (not t && w && not n) ≡ true → kind_by t w x n ≡ RwBits
kind_rw true w x n is = cc
kind_rw false false x n is = cc
kind_rw false true x true is = cc
kind_rw false true x false is = refl

kind_rw_nobits : (t w x n : Bool) → (not t && w && n) ≡ true → kind_by t w x n ≡ RwNobits
kind_rw_nobits true w x n is = cc
kind_rw_nobits false false x n is = cc
kind_rw_nobits false true x true is = refl
kind_rw_nobits false true x false is = cc

kind_is : (class : Class) (sh_type flags : ℕ) → is_in class sh_type flags ≡ true → kind_of sh_type flags ≡ class
unfolding is_in
kind_is R sh_type flags is = kind_r (is_tls flags) (may_write flags) (may_execute flags) (is_nobits sh_type) is
kind_is Rx sh_type flags is = kind_rx (is_tls flags) (may_write flags) (may_execute flags) (is_nobits sh_type) is
kind_is TlsBits sh_type flags is = kind_tls (is_tls flags) (may_write flags) (may_execute flags) (is_nobits sh_type) is
kind_is TlsNobits sh_type flags is = kind_tls_nobits (is_tls flags) (may_write flags) (may_execute flags) (is_nobits sh_type) is
kind_is RwBits sh_type flags is = kind_rw (is_tls flags) (may_write flags) (may_execute flags) (is_nobits sh_type) is
kind_is RwNobits sh_type flags is = kind_rw_nobits (is_tls flags) (may_write flags) (may_execute flags) (is_nobits sh_type) is

-- and each has one
has_kind_by : (P : Class → Type 0) (t w x n : Bool) → ((not t && not w && not x) ≡ true → P R) → ((not t && not w && x) ≡ true → P Rx) → ((t && not n) ≡ true → P TlsBits)
    → ((t && n) ≡ true → P TlsNobits) → ((not t && w && not n) ≡ true → P RwBits) → ((not t && w && n) ≡ true → P RwNobits) → P (kind_by t w x n)
has_kind_by P true w x true r rx tls tls_nobits_members rw_bits nobits_members = tls_nobits_members refl
has_kind_by P true w x false r rx tls tls_nobits_members rw_bits nobits_members = tls refl
has_kind_by P false true x true r rx tls tls_nobits_members rw_bits nobits_members = nobits_members refl
has_kind_by P false true x false r rx tls tls_nobits_members rw_bits nobits_members = rw_bits refl
has_kind_by P false false true n r rx tls tls_nobits_members rw_bits nobits_members = rx refl
has_kind_by P false false false n r rx tls tls_nobits_members rw_bits nobits_members = r refl

pub has_kind : (sh_type flags : ℕ) → is_in (kind_of sh_type flags) sh_type flags ≡ true
unfolding is_in
has_kind sh_type flags =
    has_kind_by (λ class. is_in class sh_type flags ≡ true) (is_tls flags) (may_write flags) (may_execute flags) (is_nobits sh_type)
    (λ is. is) (λ is. is) (λ is. is) (λ is. is) (λ is. is) (λ is. is)

pub other_class : (own other : Class) (item : Item) (outputs : List OutputSection) → (other ≡ own → ⊥) → is_of own item ≡ true → All (λ (x : OutputSection). x.class ≡ other) outputs
    → Other item outputs
other_class own other item outputs differ is all = λ k d lt taken.
    let x : OutputSection = get_or outputs k d in
    let in_it : is_in x.class item.sh_type item.flags ≡ true = (and_parts (is_in x.class item.sh_type item.flags) (bytes_eq (output_name item.name) x.name) taken).0 in
    differ (sym (all k d lt) ∙ sym (kind_is x.class item.sh_type item.flags in_it) ∙ kind_is own item.sh_type item.flags is)

-- the output sections of a class are of it
class_by : (e : Bool) (class : Class) (x : OutputSection) → x.class ≡ class → All (λ (o : OutputSection). o.class ≡ class) (if e then [] else x ∷ [])
class_by true class x is = All-nil (λ (o : OutputSection). o.class ≡ class)
class_by false class x is = All-cons (λ (o : OutputSection). o.class ≡ class) x [] is (All-nil (λ (o : OutputSection). o.class ≡ class))

class_in : (sizes : List (List Cut)) (parts : List Item) (class : Class) (c : Cursor) (o : List Row) → All (λ (x : OutputSection). x.class ≡ class) (section_in sizes parts class c o)
unfolding section_in section_of
class_in sizes parts class c o = class_by (is_empty o) class _ refl

pub class_along : (sizes : List (List Cut)) (parts : List Item) (class : Class) (c : Cursor) (os : List (List Row))
    → All (λ (x : OutputSection). x.class ≡ class) (sections_along sizes parts class c os)
class_along sizes parts class c [] = All-nil (λ (x : OutputSection). x.class ≡ class)
class_along sizes parts class c (o ∷ os) =
    All-append (λ (x : OutputSection). x.class ≡ class) (section_in sizes parts class c o) (sections_along sizes parts class (after sizes c o) os)
    (class_in sizes parts class c o) (class_along sizes parts class (after sizes c o) os)

-- the members of an output section that is not empty stand in it
from_members : (sizes : List (List Cut)) (P : Row → Type 0) (Q : Member → Type 0) (from to : ℕ)
    → ((at : ℕ) (row : Row) → P row → from ≤ at → at + size_at sizes at row ≤ to → Q (member_at sizes at row))
    → (c : ℕ) (rows : List Row) → from ≤ c → past sizes c rows ≤ to → All (RowFits sizes) rows → All P rows → All Q (members_from sizes c rows)
from_members sizes P Q from to each c [] le end fit all = All-nil Q
from_members sizes P Q from to each c (row ∷ rows) le end fit all =
    let at : ℕ = up c row.align in
    let here : c ≤ at = up_least c row.align (All-head (RowFits sizes) row rows fit).some in
    let e : ℕ = at + size_at sizes at row in
    let more : e ≤ past sizes e rows = past_least sizes e rows (All-tail (RowFits sizes) row rows fit) in
    All-cons Q (member_at sizes at row) (members_from sizes e rows) (each at row (All-head P row rows all) (omega (arith, le, here)) (omega (arith, more, end)))
    (from_members sizes P Q from to each e rows (omega (arith, le, here)) end (All-tail (RowFits sizes) row rows fit) (All-tail P row rows all))

pub from_still : (P : Row → Type 0) (Q : Member → Type 0) → (start : ℕ) → ((row : Row) → P row → Q (still start row)) → (rows : List Row) → All P rows → All Q (members_still start rows)
from_still P Q start each [] all = All-nil Q
from_still P Q start each (row ∷ rows) all =
    All-cons Q (still start row) (members_still start rows) (each row (All-head P row rows all)) (from_still P Q start each rows (All-tail P row rows all))

-- what holds of what each row is holds of what each member is
module _ (sizes : List (List Cut)) (P : Content → Type 0) where
  content_from : (c : ℕ) (rows : List Row) → All (λ (row : Row). P row.content) rows → All (λ (m : Member). P m.content) (members_from sizes c rows)
  content_from c [] all = All-nil (λ (m : Member). P m.content)
  content_from c (row ∷ rows) all =
      let at : ℕ = up c row.align in
      All-cons (λ (m : Member). P m.content) (member_at sizes at row) (members_from sizes (at + size_at sizes at row) rows) (All-head (λ (x : Row). P x.content) row rows all)
      (content_from (at + size_at sizes at row) rows (All-tail (λ (x : Row). P x.content) row rows all))

  content_by : (e : Bool) (start : ℕ) (rows : List Row) → All (λ (row : Row). P row.content) rows
      → All (λ (m : Member). P m.content) (if e then members_still start rows else members_from sizes start rows)
  content_by true start rows all = from_still (λ (row : Row). P row.content) (λ (m : Member). P m.content) start (λ row is. is) rows all
  content_by false start rows all = content_from start rows all

  content_in : (c : Cursor) (o : List Row) → All (λ (row : Row). P row.content) o → All (λ (m : Member). P m.content) (stands_in sizes c o)
  unfolding stands_in
  content_in c o all = content_by (is_empty o) (start_of c o) o all

  pub content_along : (c : Cursor) (os : List (List Row)) → EachRun (λ (row : Row). P row.content) os → All (λ (m : Member). P m.content) (stands_along sizes c os)
  content_along c [] all = All-nil (λ (m : Member). P m.content)
  content_along c (o ∷ os) all =
      All-append (λ (m : Member). P m.content) (stands_in sizes c o) (stands_along sizes (after sizes c o) os) (content_in c o all.0) (content_along (after sizes c o) os all.1)

-- where a member stands, with the bytes of its item that stay there; `own` gives each item by what it is
abbrev pub IsHeldIn : List (List Cut) → (Content → Item) → List OutputSection → Member → Type 0
IsHeldIn sizes own outputs m = IsHeld outputs (own m.content) m.start (new_offset (laid_cuts m.start (cuts_in sizes m.content)) (own m.content).size)

-- a class
module _ (sizes : List (List Cut)) (parts : List Item) (own : Content → Item) (class : Class) where
  abbrev pub IsOwn : Row → Type 0
  IsOwn row = IsRow class parts (own row.content) row

  -- the output section of a run has the name of each item in it, and no other name
  takes_own : (first : Row) (rows : List Row) (item : Item) (row : Row) (start end : ℕ) → IsOwn first → IsRow class parts item row → row.group ≡ first.group
      → takes item (section_of parts class (first ∷ rows) start end) ≡ true
  unfolding section_of
  takes_own first rows item row start end head is same =
      let name : List ℕ = name_of_item (slice_get parts first.number) in
      let named : name ≡ output_name item.name = ap name_of_item head.number ∙ sym head.named ∙ ap (λ g. name_of_item (slice_get parts g)) (sym same) ∙ is.named in
      and_from (is_in class item.sh_type item.flags) (bytes_eq (output_name item.name) name) is.in_class ((bytes_eq-Decides (output_name item.name) name).1 (sym named))

  takes_other : (first : Row) (rows : List Row) (item : Item) (row : Row) (start end : ℕ) → IsOwn first → IsRow class parts item row → (first.group ≡ row.group → ⊥)
      → takes item (section_of parts class (first ∷ rows) start end) ≡ true → ⊥
  unfolding section_of
  takes_other first rows item row start end head is differ taken =
      let name : List ℕ = name_of_item (slice_get parts first.number) in
      let named : name ≡ output_name item.name =
      sym ((bytes_eq-Decides (output_name item.name) name).0 (and_parts (is_in class item.sh_type item.flags) (bytes_eq (output_name item.name) name) taken).1) in
      let same : output_name (own first.content).name ≡ output_name item.name = sym (ap name_of_item head.number) ∙ named in
      differ (head.group ∙ ap (λ n. (head_of class parts n).group) same ∙ sym is.group)

  counted : (first : Row) (rows : List Row) (start end : ℕ) → 0 < (section_of parts class (first ∷ rows) start end).count
  unfolding section_of
  counted first rows start end = omega arith

  edges : (rows : List Row) (start end : ℕ) → start ≤ end
      → ((section_of parts class rows start end).address ≡ start) × ((section_of parts class rows start end).address + (section_of parts class rows start end).size ≡ end)
  unfolding section_of
  edges rows start end le = (refl, omega (arith, le))

  other_in : (c : Cursor) (o : List Row) (item : Item) (row : Row) → All IsOwn o → IsRow class parts item row → All (λ (r : Row). r.group ≡ row.group → ⊥) o
      → Other item (section_in sizes parts class c o)
  unfolding section_in is_empty
  other_in c [] item row all is apart = All-nil (λ (x : OutputSection). takes item x ≡ true → ⊥)
  other_in c (first ∷ rows) item row all is apart =
      by (is_empty (first ∷ rows)) (section_of parts class (first ∷ rows) (start_of c (first ∷ rows)) (past sizes (start_of c (first ∷ rows)) (first ∷ rows)))
      (takes_other first rows item row (start_of c (first ∷ rows)) (past sizes (start_of c (first ∷ rows)) (first ∷ rows)) (All-head IsOwn first rows all) is
      (All-head (λ (r : Row). r.group ≡ row.group → ⊥) first rows apart))
    where
      by : (e : Bool) (s : OutputSection) → (takes item s ≡ true → ⊥) → Other item (if e then [] else s ∷ [])
      by true s other = All-nil (λ (x : OutputSection). takes item x ≡ true → ⊥)
      by false s other = All-cons (λ (x : OutputSection). takes item x ≡ true → ⊥) s [] other (All-nil (λ (x : OutputSection). takes item x ≡ true → ⊥))

  other_along : (c : Cursor) (os : List (List Row)) (item : Item) (row : Row) → EachRun IsOwn os → IsRow class parts item row → EachRun (λ (r : Row). r.group ≡ row.group → ⊥) os
      → Other item (sections_along sizes parts class c os)
  other_along c [] item row all is apart = All-nil (λ (x : OutputSection). takes item x ≡ true → ⊥)
  other_along c (o ∷ os) item row all is apart =
      All-append (λ (x : OutputSection). takes item x ≡ true → ⊥) (section_in sizes parts class c o) (sections_along sizes parts class (after sizes c o) os)
      (other_in c o item row all.0 is apart.0) (other_along (after sizes c o) os item row all.1 is apart.1)

  held_one : (later : List OutputSection) (at : ℕ) (row : Row) (s : OutputSection) → IsOwn row → takes (own row.content) s ≡ true → 0 < s.count → s.address ≤ at
      → at + size_at sizes at row ≤ s.address + s.size → IsHeldIn sizes own (s ∷ later) (member_at sizes at row)
  unfolding size_at
  held_one later at row s is taken some from to =
      let room : new_offset (laid_cuts at (cuts_in sizes row.content)) row.size ≡ new_offset (laid_cuts at (cuts_in sizes row.content)) (own row.content).size =
      ap (λ n. new_offset (laid_cuts at (cuts_in sizes row.content)) n) is.size in
      held_first (own row.content) s later at (new_offset (laid_cuts at (cuts_in sizes row.content)) (own row.content).size) taken some from (omega (arith, to, room))

  -- a run with bytes
  held_from : (c : Cursor) (first : Row) (rows : List Row) (later : List OutputSection) → All IsOwn (first ∷ rows) → All (RowFits sizes) (first ∷ rows)
      → All (λ (r : Row). r.group ≡ first.group) (first ∷ rows)
      → All (IsHeldIn sizes own (section_of parts class (first ∷ rows) (start_of c (first ∷ rows)) (past sizes (start_of c (first ∷ rows)) (first ∷ rows)) ∷ later))
      (members_from sizes (start_of c (first ∷ rows)) (first ∷ rows))
  held_from c first rows later all fit same =
      let start : ℕ = start_of c (first ∷ rows) in
      let end : ℕ = past sizes start (first ∷ rows) in
      let s : OutputSection = section_of parts class (first ∷ rows) start end in
      let le : start ≤ end = past_least sizes start (first ∷ rows) fit in
      let ends = edges (first ∷ rows) start end le in
      from_members sizes (λ (r : Row). IsOwn r × (r.group ≡ first.group)) (IsHeldIn sizes own (s ∷ later)) start end
      (λ at row is from to. held_one later at row s is.0 (takes_own first rows (own row.content) row start end (All-head IsOwn first rows all) is.0 is.1) (counted first rows start end)
      (omega (arith, from, ends.0)) (omega (arith, to, ends.1)))
      start (first ∷ rows) (omega arith) (omega arith) fit (λ k d lt. (all k d lt, same k d lt))

  held_in : (c : Cursor) (o : List Row) (later : List OutputSection) → All IsOwn o → All (RowFits sizes) o → All (λ (r : Row). r.group ≡ first_group o) o
      → All (λ (r : Row). Few (own r.content) later) o → All (IsHeldIn sizes own (section_in sizes parts class c o ++ later)) (stands_in sizes c o)
  unfolding section_in stands_in is_empty
  held_in c [] later all fit same few = All-nil (IsHeldIn sizes own later)
  held_in c (first ∷ rows) later all fit same few = by (is_empty (first ∷ rows)) refl
    where
      start : ℕ
      start = start_of c (first ∷ rows)

      s : OutputSection
      s = section_of parts class (first ∷ rows) (start_of c (first ∷ rows)) (past sizes (start_of c (first ∷ rows)) (first ∷ rows))

      by : (e : Bool) → is_empty (first ∷ rows) ≡ e
          → All (IsHeldIn sizes own ((if e then [] else s ∷ []) ++ later)) (if e then members_still start (first ∷ rows) else members_from sizes start (first ∷ rows))
      by true is =
          from_still (λ (r : Row). (IsOwn r × (r.size ≡ 0)) × Few (own r.content) later) (IsHeldIn sizes own later) start
          (λ row known. held_none (own row.content) later start (new_offset (laid_cuts start (cuts_in sizes row.content)) (own row.content).size) (sym known.0.0.size ∙ known.0.1) known.1)
          (first ∷ rows) (λ k d lt. ((all k d lt, none_each (first ∷ rows) is k d lt), few k d lt))
      by false is = held_from c first rows later all fit same

  -- a class, before others of which none with members takes an item of it
  pub held_along : (c : Cursor) (os : List (List Row)) (later : List OutputSection) → EachRun IsOwn os → EachRun (RowFits sizes) os → AreGroups os
      → ((item : Item) → is_of class item ≡ true → Few item later) → All (IsHeldIn sizes own (sections_along sizes parts class c os ++ later)) (stands_along sizes c os)
  held_along c [] later all fit groups few = All-nil (IsHeldIn sizes own later)
  held_along c (o ∷ os) later all fit groups few =
      let here : List OutputSection = section_in sizes parts class c o in
      let rest : List OutputSection = sections_along sizes parts class (after sizes c o) os in
      let joined : here ++ (rest ++ later) ≡ (here ++ rest) ++ later = sym (append_assoc here rest later) in
      let before : All (λ (m : Member). Other (own m.content) here) (stands_along sizes (after sizes c o) os) =
      content_along sizes (λ it. Other (own it) here) (after sizes c o) os
      (each_two IsOwn (λ (r : Row). r.group ≡ first_group o → ⊥) (λ (r : Row). Other (own r.content) here) os
      (λ row is differ. other_in c o (own row.content) row all.0 is (λ k d lt own_group. differ (sym own_group ∙ groups.0 k d lt))) all.1 groups.1.0) in
      let first : All (IsHeldIn sizes own (here ++ (rest ++ later))) (stands_in sizes c o) =
      held_in c o (rest ++ later) all.0 fit.0 groups.0 (λ k d lt.
      let row : Row = get_or o k d in
      let apart : EachRun (λ (r : Row). r.group ≡ row.group → ⊥) os =
      each_two IsOwn (λ (r : Row). r.group ≡ first_group o → ⊥) (λ (r : Row). r.group ≡ row.group → ⊥) os (λ r _ differ same. differ (same ∙ groups.0 k d lt)) all.1 groups.1.0 in
      All-append (λ (x : OutputSection). takes (own row.content) x ≡ true → x.count ≡ 0) rest later
      (few_other (own row.content) rest (other_along (after sizes c o) os (own row.content) row all.1 (all.0 k d lt) apart)) (few (own row.content) (all.0 k d lt).in_class)) in
      let more : All (IsHeldIn sizes own (rest ++ later)) (stands_along sizes (after sizes c o) os) = held_along (after sizes c o) os later all.1 fit.1 groups.1.1 few in
      All-append (IsHeldIn sizes own ((here ++ rest) ++ later)) (stands_in sizes c o) (stands_along sizes (after sizes c o) os)
      (subst (λ l. All (IsHeldIn sizes own l) (stands_in sizes c o)) joined first)
      (λ k d lt. subst (λ l. IsHeldIn sizes own l (get_or (stands_along sizes (after sizes c o) os) k d)) joined
      (skip (own (get_or (stands_along sizes (after sizes c o) os) k d).content) here (rest ++ later) _ _ (before k d lt) (more k d lt)))
