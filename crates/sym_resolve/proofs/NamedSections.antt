-- Sections by their names: what one section adds to a look-up, and to a search.
use Rattle.std.proofs.Common.{◌≡◌, ℕ, ◌+◌, ◌<◌, ◌^◌, ◌&&◌, Bool, true, false, if◌then◌else◌, Option, Some, None, Result, Ok, Err, OnOk, List, [], ◌∷◌, length, take, drop, refl, sym, ap, ◌∙◌, subst, arith, inl, inr}
use Rattle.std.specs.Prelude.{find, IfSome}
use Rattle.std.specs.Borrow.{Bor}
use Rattle.std.specs.List.{range_with_len}
use Rattle.std.specs.Option.{option_or}
use Rattle.std.specs.Str.{bytes_eq}
use Rattle.std.proofs.lemmas.Bool.{cases_Bool}
use Rattle.std.proofs.lemmas.List.Folds.{find-append}
use Rattle.std.proofs.lemmas.Slice.Eq.{bytes_eq-Decides}
use Rattle.lk_base.proofs.Loops.{range_more}
use Rattle.lk_tables.specs.Binding.{Bindings}
use Rattle.lk_tables.specs.Files.{AreFew, File, section_total}
use Rattle.lk_tables.specs.LinkerSymbols.{first_named, identifier_after, is_c_identifier, text_if}
use Rattle.lk_tables.proofs.LinkerNumbers.{IfNumber, first_few}

pub or_none : (o : Option ℕ) → o ≡ option_or o None
or_none None = refl
or_none (Some n) = refl

-- a section that is not to be noted has none of these names; one that is has its own
abbrev name_by : (may : Bool) (name : List ℕ) → Option (List ℕ)
name_by may name = if may && is_c_identifier name then Some name else None

abbrev number_by : (may : Bool) (name text : List ℕ) (n : ℕ) → Option ℕ
number_by may name text n = if may && bytes_eq name text then Some n else None

some_if : (b : Bool) (name own : List ℕ) → Some own ≡ (if b then Some name else None) → (b ≡ true) × (own ≡ name)
some_if true name own is = (refl, ap (λ (o : Option (List ℕ)). cond_name o) is)
  where
    cond_name : Option (List ℕ) → List ℕ
    cond_name None = own
    cond_name (Some t) = t
some_if false name own is = cc

none_if : (b : Bool) (name : List ℕ) → None ≡ (if b then Some name else None) → b ≡ false
none_if true name is = cc
none_if false name is = refl

pub number_none : (may : Bool) (name text : List ℕ) (n : ℕ) → None ≡ name_by may name → is_c_identifier text ≡ true → number_by may name text n ≡ None
number_none false name text n is c = refl
number_none true name text n is c = elim (cases_Bool (bytes_eq name text)) [
  | inl same ↦
      let e : name ≡ text = (bytes_eq-Decides name text).0 same in
      let no : is_c_identifier text ≡ false = ap is_c_identifier (sym e) ∙ none_if (is_c_identifier name) name is in
      let never : ⊥ = cc in
      absurd never
  | inr other ↦ ap (λ b. if b then Some n else None) other
]

pub number_some : (may : Bool) (name own text : List ℕ) (n : ℕ) → Some own ≡ name_by may name → (if bytes_eq own text then Some n else None) ≡ number_by may name text n
number_some false name own text n is = cc
number_some true name own text n is = ap (λ t. if bytes_eq t text then Some n else None) (some_if (is_c_identifier name) name own is).1

-- a search over one number more
pub find_more : (p : ℕ → Bool) (n : ℕ) → option_or (find p (range_with_len 0 n)) (if p n then Some n else None) ≡ find p (range_with_len 0 (n + 1))
find_more p n = sym (find-append p (range_with_len 0 n) (n ∷ [])) ∙ ap (find p) (sym (range_more n))

pub on_ok : {A E : Type 0} {P Q : Type 0} (r : Result A E) → (P → Q) → OnOk r P → OnOk r Q
on_ok (Ok x) more has = more has
on_ok (Err e) more has = tt

-- what follows a prefix is an identifier of C
pub identifier_is : (prefix name : List ℕ) (r : Option (Bor (List ℕ))) → text_if r ≡ identifier_after prefix name → IfSome r (λ t. is_c_identifier t.now ≡ true)
unfolding identifier_after
identifier_is prefix name None is = tt
identifier_is prefix name (Some t) is =
    let rest = drop (length prefix) name in
    let same = bytes_eq (take (length prefix) name) prefix in
    let found = some_if (same && is_c_identifier rest) rest t.now is in
    ap is_c_identifier found.1 ∙ and_true same (is_c_identifier rest) found.0
  where
    and_true : (a b : Bool) → (a && b) ≡ true → b ≡ true
    and_true true b e = e
    and_true false b e = cc

-- a section that is found is one of the link's
pub first_below : (files : List File) (b : Bindings) (text : List ℕ) (n : ℕ) → AreFew files → Some n ≡ first_named files b text → n < 2 ^ 28
first_below files b text n few is =
    let P : Option ℕ → Type 0 = IfNumber (λ k. k < section_total files) in
    let below : n < section_total files = subst P (sym is) (first_few files b (Some text)) in
    omega (arith, below, few.section_count_is)
