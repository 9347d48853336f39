-- One record after the earlier ones: whether it is broken, and what is read of it.
use Rattle.std.proofs.Common.{◌≡◌, ℕ, ◌+◌, ◌<◌, ◌≤◌, Bool, true, false, nat_lt, not, cond, ◌&&◌, ◌||◌, List, Option, Some, None, refl, sym, ap, ◌∙◌, arith}
use Rattle.std.specs.Prelude.{is_some}
use Rattle.std.proofs.lemmas.Bool.{or_from, or_left, or_right, and_left}
use Rattle.std.proofs.lemmas.Bool.Decides.{nat_tests}
use Rattle.std.specs.Cmp.Derive.{both_true}
use Rattle.lk_tables.specs.declared.objects.Reloc.{Reloc}
use Rattle.eh_frame.specs.declared.format.TheConstants.{FDE_LEN_MIN}
use Rattle.lk_tables.specs.Records.{RecordView, start_of, len_at, end_at, is_cie, cie_before, cie_of, relocs_in, first_of, record_of}
use Rattle.eh_frame.specs.RecordChecks.{is_pc_begin, is_bad_length, is_bad_fde, is_bad_record}

-- what was read of a Length
none_by : (b : Bool) (n : ℕ) → None ≡ cond b None (Some n) → b ≡ true
none_by true n e = refl
none_by false n e = cc

some_by : (b : Bool) (n len : ℕ) → Some len ≡ cond b None (Some n) → (b ≡ false) × (len ≡ n)
some_by true n len e = cc
some_by false n len e = (refl, cc)

pub no_length : (c : List ℕ) (at : ℕ) → None ≡ cond (is_bad_length c at) None (Some (len_at c at)) → is_bad_length c at ≡ true
no_length c at e = none_by (is_bad_length c at) (len_at c at) e

pub some_length : (c : List ℕ) (at len : ℕ) → Some len ≡ cond (is_bad_length c at) None (Some (len_at c at)) → (is_bad_length c at ≡ false) × (len ≡ len_at c at)
some_length c at len e = some_by (is_bad_length c at) (len_at c at) len e

-- an FDE that is broken
pub short_fde : (c : List ℕ) (relocs : List Reloc) (j at len : ℕ) (o : Option ℕ) → at ≡ start_of c j → len ≡ len_at c at → len < FDE_LEN_MIN →
    None ≡ cond (is_bad_fde c relocs j) None o
unfolding is_bad_fde
short_fde c relocs j at len o here is lt =
    let long : len_at c (start_of c j) ≡ len = sym (is ∙ ap (len_at c) here) in
    let low : nat_lt (len_at c (start_of c j)) FDE_LEN_MIN ≡ true = grind (arith, nat_tests) in
    let rest = not (is_some (cie_before c j)) || not (is_pc_begin (start_of c j) (first_of (relocs_in relocs (start_of c j) (end_at c (start_of c j))))) in
    sym (ap (λ b. cond b None o) (or_left (nat_lt (len_at c (start_of c j)) FDE_LEN_MIN) rest low))

begin_at : (c : List ℕ) (relocs own : List Reloc) (j at : ℕ) (b : Bool) → at ≡ start_of c j → own ≡ relocs_in relocs at (end_at c at) → b ≡ is_pc_begin at (first_of own) →
    is_pc_begin (start_of c j) (first_of (relocs_in relocs (start_of c j) (end_at c (start_of c j)))) ≡ b
begin_at c relocs own j at b here parts is =
    sym (is ∙ ap (λ l. is_pc_begin at (first_of l)) parts ∙ ap (λ k. is_pc_begin k (first_of (relocs_in relocs k (end_at c k)))) here)

pub other_begin : (c : List ℕ) (relocs own : List Reloc) (j at : ℕ) (b : Bool) (o : Option ℕ) → at ≡ start_of c j → own ≡ relocs_in relocs at (end_at c at) →
    b ≡ is_pc_begin at (first_of own) → b ≡ false → None ≡ cond (is_bad_fde c relocs j) None o
unfolding is_bad_fde
other_begin c relocs own j at b o here parts is bad =
    let begin = is_pc_begin (start_of c j) (first_of (relocs_in relocs (start_of c j) (end_at c (start_of c j)))) in
    let wrong : not begin ≡ true = ap not (begin_at c relocs own j at b here parts is ∙ bad) in
    let either = or_right (not (is_some (cie_before c j))) (not begin) wrong in
    let all = or_right (nat_lt (len_at c (start_of c j)) FDE_LEN_MIN) (not (is_some (cie_before c j)) || not begin) either in
    sym (ap (λ b. cond b None o) all)

fde_by : (a p : Bool) (o : Option ℕ) → a ≡ false → p ≡ true → o ≡ cond (a || (not (is_some o) || not p)) None o
fde_by true p o e f = cc
fde_by false false o e f = cc
fde_by false true None e f = refl
fde_by false true (Some n) e f = refl

pub fde_is : (c : List ℕ) (relocs own : List Reloc) (j at len : ℕ) (b : Bool) (o : Option ℕ) → at ≡ start_of c j → len ≡ len_at c at → FDE_LEN_MIN ≤ len →
    own ≡ relocs_in relocs at (end_at c at) → b ≡ is_pc_begin at (first_of own) → b ≡ true → o ≡ cie_before c j →
    o ≡ cond (is_bad_fde c relocs j) None (cie_before c j)
unfolding is_bad_fde
fde_is c relocs own j at len b o here is le parts begins good found =
    let long : len_at c (start_of c j) ≡ len = sym (is ∙ ap (len_at c) here) in
    let high : nat_lt (len_at c (start_of c j)) FDE_LEN_MIN ≡ false = grind (arith, nat_tests) in
    let begin = is_pc_begin (start_of c j) (first_of (relocs_in relocs (start_of c j) (end_at c (start_of c j)))) in
    found ∙ fde_by (nat_lt (len_at c (start_of c j)) FDE_LEN_MIN) begin (cie_before c j) high (begin_at c relocs own j at b here parts begins ∙ good)

-- what was read of an FDE
bad_by : (a p : Bool) (o : Option ℕ) → None ≡ cond (a || (not (is_some o) || not p)) None o → (a || (not (is_some o) || not p)) ≡ true
bad_by true p o e = refl
bad_by false p None e = refl
bad_by false true (Some n) e = cc
bad_by false false (Some n) e = refl

good_by : (b : Bool) (o : Option ℕ) (n : ℕ) → Some n ≡ cond b None o → (b ≡ false) × (o ≡ Some n)
good_by true o n e = cc
good_by false o n e = (refl, sym e)

pub no_fde : (c : List ℕ) (relocs : List Reloc) (j : ℕ) → None ≡ cond (is_bad_fde c relocs j) None (cie_before c j) → is_bad_fde c relocs j ≡ true
unfolding is_bad_fde
no_fde c relocs j e =
    bad_by (nat_lt (len_at c (start_of c j)) FDE_LEN_MIN) (is_pc_begin (start_of c j) (first_of (relocs_in relocs (start_of c j) (end_at c (start_of c j))))) (cie_before c j) e

pub some_fde : (c : List ℕ) (relocs : List Reloc) (j n : ℕ) → Some n ≡ cond (is_bad_fde c relocs j) None (cie_before c j) →
    (is_bad_fde c relocs j ≡ false) × (cie_before c j ≡ Some n)
some_fde c relocs j n e = good_by (is_bad_fde c relocs j) (cie_before c j) n e

-- whether a record is broken
pub bad_length : (c : List ℕ) (relocs : List Reloc) (j at : ℕ) → at ≡ start_of c j → is_bad_length c at ≡ true → false ≡ not (is_bad_record c relocs j)
unfolding is_bad_record
bad_length c relocs j at here bad =
    let is : is_bad_length c (start_of c j) ≡ true = sym (ap (is_bad_length c) here) ∙ bad in
    sym (ap not (or_left (is_bad_length c (start_of c j)) (not (is_cie c (start_of c j)) && is_bad_fde c relocs j) is))

pub bad_fde : (c : List ℕ) (relocs : List Reloc) (j at : ℕ) → at ≡ start_of c j → is_cie c at ≡ false → is_bad_fde c relocs j ≡ true → false ≡ not (is_bad_record c relocs j)
unfolding is_bad_record
bad_fde c relocs j at here other bad =
    let cie : not (is_cie c (start_of c j)) ≡ true = ap not (sym (ap (is_cie c) here) ∙ other) in
    let both : (not (is_cie c (start_of c j)) && is_bad_fde c relocs j) ≡ true = both_true cie bad in
    sym (ap not (or_right (is_bad_length c (start_of c j)) (not (is_cie c (start_of c j)) && is_bad_fde c relocs j) both))

pub sound_cie : (c : List ℕ) (relocs : List Reloc) (j at : ℕ) → at ≡ start_of c j → is_bad_length c at ≡ false → is_cie c at ≡ true → true ≡ not (is_bad_record c relocs j)
unfolding is_bad_record
sound_cie c relocs j at here long cie =
    let is : is_bad_length c (start_of c j) ≡ false = sym (ap (is_bad_length c) here) ∙ long in
    let own : not (is_cie c (start_of c j)) ≡ false = ap not (sym (ap (is_cie c) here) ∙ cie) in
    sym (ap not (or_from (is_bad_length c (start_of c j)) (not (is_cie c (start_of c j)) && is_bad_fde c relocs j) is
    (and_left (not (is_cie c (start_of c j))) (is_bad_fde c relocs j) own)))

pub sound_fde : (c : List ℕ) (relocs : List Reloc) (j at : ℕ) → at ≡ start_of c j → is_bad_length c at ≡ false → is_cie c at ≡ false → is_bad_fde c relocs j ≡ false →
    true ≡ not (is_bad_record c relocs j)
unfolding is_bad_record
sound_fde c relocs j at here long other good =
    let is : is_bad_length c (start_of c j) ≡ false = sym (ap (is_bad_length c) here) ∙ long in
    let cie : not (is_cie c (start_of c j)) ≡ true = ap not (sym (ap (is_cie c) here) ∙ other) in
    let rest : (not (is_cie c (start_of c j)) && is_bad_fde c relocs j) ≡ false = ap (λ b. b && is_bad_fde c relocs j) cie ∙ good in
    sym (ap not (or_from (is_bad_length c (start_of c j)) (not (is_cie c (start_of c j)) && is_bad_fde c relocs j) is rest))

-- what is read of a record
abbrev view : ℕ → ℕ → Option ℕ → List Reloc → RecordView
view from len cie relocs = record { from = from; len = len; cie = cie; relocs = relocs }

record_with : (c : List ℕ) (relocs own : List Reloc) (j at len : ℕ) (o : Option ℕ) (v : RecordView) → at ≡ start_of c j → len ≡ len_at c at → o ≡ cie_of c j →
    own ≡ relocs_in relocs at (at + 4 + len) → v ≡ view at len o own → v ≡ record_of c relocs j
unfolding record_of
record_with c relocs own j at len o v here long cie parts is =
    let long_is : len ≡ len_at c (start_of c j) = long ∙ ap (len_at c) here in
    let parts_are : own ≡ relocs_in relocs (start_of c j) (end_at c (start_of c j)) =
    parts ∙ ap (λ n. relocs_in relocs at (at + 4 + n)) long ∙ ap (λ k. relocs_in relocs k (end_at c k)) here in
    is ∙ ap (λ n. view n len o own) here ∙ ap (λ n. view (start_of c j) n o own) long_is ∙ ap (λ x. view (start_of c j) (len_at c (start_of c j)) x own) cie
    ∙ ap (λ l. view (start_of c j) (len_at c (start_of c j)) (cie_of c j) l) parts_are

pub cie_read : (c : List ℕ) (relocs own : List Reloc) (j at len : ℕ) (v : RecordView) → at ≡ start_of c j → len ≡ len_at c at → is_cie c at ≡ true →
    own ≡ relocs_in relocs at (at + 4 + len) → v ≡ record { from = at; len = len; cie = None; relocs = own } → v ≡ record_of c relocs j
cie_read c relocs own j at len v here long cie parts is =
    let own_kind : is_cie c (start_of c j) ≡ true = sym (ap (is_cie c) here) ∙ cie in
    record_with c relocs own j at len None v here long (sym (ap (λ b. cond b None (cie_before c j)) own_kind)) parts is

pub fde_read : (c : List ℕ) (relocs own : List Reloc) (j at len n : ℕ) (v : RecordView) → at ≡ start_of c j → len ≡ len_at c at → is_cie c at ≡ false →
    cie_before c j ≡ Some n → own ≡ relocs_in relocs at (at + 4 + len) → v ≡ record { from = at; len = len; cie = Some n; relocs = own } → v ≡ record_of c relocs j
fde_read c relocs own j at len n v here long other found parts is =
    let own_kind : is_cie c (start_of c j) ≡ false = sym (ap (is_cie c) here) ∙ other in
    record_with c relocs own j at len (Some n) v here long (sym (ap (λ b. cond b None (cie_before c j)) own_kind ∙ found)) parts is

-- the relocations that lie in it
pub own_relocs : (c : List ℕ) (relocs own slice : List Reloc) (at len : ℕ) → slice ≡ own → own ≡ relocs_in relocs at (at + 4 + len) → len ≡ len_at c at →
    slice ≡ relocs_in relocs at (end_at c at)
own_relocs c relocs own slice at len is parts long = is ∙ parts ∙ ap (λ n. relocs_in relocs at (at + 4 + n)) long
