-- One entry more in the linker's table, and how many words it has at most.
use Rattle.std.proofs.Common.{◌≡◌, ℕ, zero, suc, ◌+◌, ◌*◌, ◌<◌, ◌≤◌, ◌==◌, ◌&&◌, Bool, true, false, cond, List, [], ◌∷◌, ◌++◌, length, take, get_or, refl, sym, ap, ◌∙◌, arith, inl, inr, ltb}
use Rattle.std.specs.Prelude.{Option, Some, None, is_some, option_map, find, All, count_by}
use Rattle.std.specs.List.{sum_by}
use Rattle.std.specs.HashMap.{HashMap, get}
use Rattle.std.specs.Map.{lookup}
use Rattle.std.specs.Option.{option_or}
use Rattle.std.proofs.lemmas.Bool.{and_from, and_parts, cases_Bool, cases_lt, eq-eqb, eqb-true, false≢true, le-ltb, lt-ltb}
use Rattle.std.proofs.lemmas.List.{get_or_append_left, length-append, take_all}
use Rattle.std.proofs.Math.Seq.{get_or-append_seam}
use Rattle.std.proofs.lemmas.List.Elements.{All-head, All-tail, All-append}
use Rattle.std.proofs.lemmas.List.Folds.{find-append}
use Rattle.std.proofs.lemmas.List.Quantifiers.{all_pairs_push}
use Rattle.std.proofs.lemmas.List.Sums.{sum_by-cons, sum_by_more, sum_by_push}
use Rattle.link_sections.specs.contracts.got.GotUsePartialEq.TheImpl.{ghosts}
use Rattle.link_sections.specs.declared.got.GotEntry.{GotEntry}
use Rattle.link_sections.specs.declared.got.GotUse.{GotUse}
use Rattle.link_sections.specs.declared.got.GotUse.TheVariants.{Address, ThreadOffset, GeneralDynamic}
use Rattle.link_sections.specs.GotEntries.{AreNumbered, AreUnlike, entry_of, eq_keys, is_entry, same_use, word_count, word_of, words_of}
use Rattle.link_sections.proofs.MergedAt.{some_map}

-- uses that are the same are equal
pub same_equal : (a b : GotUse) → same_use a b ≡ true → a ≡ b
same_equal Address Address e = refl
same_equal Address ThreadOffset e = cc
same_equal Address GeneralDynamic e = cc
same_equal ThreadOffset Address e = cc
same_equal ThreadOffset ThreadOffset e = refl
same_equal ThreadOffset GeneralDynamic e = cc
same_equal GeneralDynamic Address e = cc
same_equal GeneralDynamic ThreadOffset e = cc
same_equal GeneralDynamic GeneralDynamic e = refl

pub same_itself : (a : GotUse) → same_use a a ≡ true
same_itself Address = refl
same_itself ThreadOffset = refl
same_itself GeneralDynamic = refl

pub record IsOf (key : ℕ) (usage : GotUse) (e : GotEntry) : Type 0 where
  pub key_is : e.key ≡ key
  pub use_is : e.usage ≡ usage

pub entry_is : (key : ℕ) (usage : GotUse) (e : GotEntry) → is_entry key usage e ≡ true → IsOf key usage e
entry_is key usage e is =
    let both = and_parts (e.key == key) (same_use e.usage usage) is in
    record { key_is = eqb-true e.key key both.0; use_is = same_equal e.usage usage both.1 }

pub own_entry : (e : GotEntry) → is_entry e.key e.usage e ≡ true
own_entry e = and_from (e.key == e.key) (same_use e.usage e.usage) (eq-eqb e.key e.key refl) (same_itself e.usage)

-- none passes where none is found
passes_step : (p : GotEntry → Bool) (e : GotEntry) (es : List GotEntry) (d : GotEntry) →
    (find p es ≡ None → (k : ℕ) (d : GotEntry) → k < length es → p (get_or es k d) ≡ false) → (b : Bool) → p e ≡ b → cond b (Some e) (find p es) ≡ None →
    (k : ℕ) → k < length (e ∷ es) → p (get_or (e ∷ es) k d) ≡ false
passes_step p e es d rest true is none k lt = let wrong : ⊥ = cc in absurd wrong
passes_step p e es d rest false is none zero lt = is
passes_step p e es d rest false is none (suc k) lt = rest none k d (omega arith)

found_passes : (p : GotEntry → Bool) (es : List GotEntry) → find p es ≡ None → (k : ℕ) (d : GotEntry) → k < length es → p (get_or es k d) ≡ false
found_passes p [] none k d lt = absurd (omega arith)
found_passes p (e ∷ es) none k d lt = passes_step p e es d (found_passes p es) (p e) refl none k lt

none_of : {X : Type 0} (o : Option X) → is_some o ≡ false → o ≡ None
none_of None e = refl
none_of (Some x) e = cc

pub has_word : (es : List GotEntry) (key : ℕ) (usage : GotUse) → is_some (word_of es key usage) ≡ is_some (entry_of es key usage)
has_word es key usage = some_map (λ (e : GotEntry). e.word) (entry_of es key usage)

-- the words of an entry that is added follow all others
word_so_far : (es : List GotEntry) → AreNumbered es → (i : ℕ) (d : GotEntry) → i < length es →
    (get_or es i d).word ≡ sum_by (λ (e : GotEntry). words_of e.usage) (take i es)
word_so_far es numbered zero d lt = numbered.first d lt
word_so_far es numbered (suc i) d lt =
    let g : GotEntry → ℕ = λ e. words_of e.usage in
    let one : suc i ≡ i + 1 = omega arith in
    ap (λ k. (get_or es k d).word) one ∙ numbered.next i d (omega arith)
    ∙ ap (λ n. n + words_of (get_or es i d).usage) (word_so_far es numbered i d (omega arith))
    ∙ sym (sum_by_more g es i d (omega arith)) ∙ ap (λ k. sum_by g (take k es)) (sym one)

pub count_more : (es : List GotEntry) (e : GotEntry) → word_count (es ++ e ∷ []) ≡ word_count es + words_of e.usage
unfolding word_count
count_more es e = sum_by_push (λ (x : GotEntry). words_of x.usage) es e

pub numbered_more : (es : List GotEntry) (e : GotEntry) → AreNumbered es → e.word ≡ word_count es → AreNumbered (es ++ e ∷ [])
unfolding word_count
numbered_more es e numbered is =
    let g : GotEntry → ℕ = λ x. words_of x.usage in
    let total = length-append es (e ∷ []) in
    let last : (d : GotEntry) → get_or (es ++ e ∷ []) (length es) d ≡ e = λ d. get_or-append_seam es e [] d in
    let left : (i : ℕ) (d : GotEntry) → i < length es → get_or (es ++ e ∷ []) i d ≡ get_or es i d = λ i d lt. get_or_append_left es (e ∷ []) d i lt in
    record {
      first = λ d lt. elim (cases_lt 0 (length es)) [
        | inl some ↦ ap (λ (x : GotEntry). x.word) (left 0 d some) ∙ numbered.first d some
        | inr none ↦
            let here : 0 ≡ length es = omega arith in
            let empty : sum_by g es ≡ 0 = ap (sum_by g) (sym (take_all (length es) es (omega arith))) ∙ ap (λ n. sum_by g (take n es)) (sym here) in
            ap (λ n. (get_or (es ++ e ∷ []) n d).word) here ∙ ap (λ (x : GotEntry). x.word) (last d) ∙ is ∙ empty
      ];
      next = λ i d lt. elim (cases_lt (i + 1) (length es)) [
        | inl low ↦
            ap (λ (x : GotEntry). x.word) (left (i + 1) d low) ∙ numbered.next i d low
            ∙ sym (ap (λ (x : GotEntry). x.word + words_of x.usage) (left i d (omega arith)))
        | inr high ↦
            let here : i + 1 ≡ length es = omega (arith, total) in
            let all : sum_by g es ≡ sum_by g (take (i + 1) es) = ap (sum_by g) (sym (take_all (i + 1) es (omega (arith, here)))) in
            ap (λ n. (get_or (es ++ e ∷ []) n d).word) here ∙ ap (λ (x : GotEntry). x.word) (last d) ∙ is ∙ all
            ∙ sum_by_more g es i d (omega (arith, here))
            ∙ ap (λ n. n + words_of (get_or es i d).usage) (sym (word_so_far es numbered i d (omega (arith, here))))
            ∙ sym (ap (λ (x : GotEntry). x.word + words_of x.usage) (left i d (omega (arith, here))))
      ];
    }

-- the new one is like no other
like_back : (e x : GotEntry) → is_entry e.key e.usage x ≡ false → is_entry x.key x.usage e ≡ false
like_back e x other = elim (cases_Bool (is_entry x.key x.usage e)) [
  | inl same ↦
      let is = entry_is x.key x.usage e same in
      let P : GotEntry → Bool = λ y. is_entry e.key e.usage y in
      let own = and_from (x.key == e.key) (same_use x.usage e.usage) (eq-eqb x.key e.key (sym is.key_is)) (ap (λ u. same_use x.usage u) is.use_is ∙ same_itself x.usage) in
      absurd (false≢true (sym other ∙ own))
  | inr differ ↦ differ
]

pub unlike_more : (es : List GotEntry) (e : GotEntry) → AreUnlike es → is_some (entry_of es e.key e.usage) ≡ false → AreUnlike (es ++ e ∷ [])
unfolding entry_of
unlike_more es e unlike none =
    all_pairs_push (λ (a : GotEntry) (b : GotEntry). is_entry a.key a.usage b ≡ false) es e unlike
    (λ k d lt. like_back e (get_or es k d) (found_passes (is_entry e.key e.usage) es (none_of (find (is_entry e.key e.usage) es) none) k d lt))

pub low_more : (es : List GotEntry) (e : GotEntry) (n : ℕ) → All (λ (x : GotEntry). x.key < n) es → e.key < n → All (λ (x : GotEntry). x.key < n) (es ++ e ∷ [])
low_more es e n low lt = All-append (λ (x : GotEntry). x.key < n) es (e ∷ []) low (λ k d less. one k d less)
  where
    one : (k : ℕ) (d : GotEntry) → k < length (e ∷ []) → (get_or (e ∷ []) k d).key < n
    one zero d less = lt
    one (suc k) d less = absurd (omega arith)

-- where an entry is found once it is added
found_at : (old : Option ℕ) (b c : Bool) (e : GotEntry) (o : Option GotEntry) → option_map (λ (x : GotEntry). x.word) o ≡ old → b ≡ c → (c ≡ true → o ≡ None) →
    cond b (Some e.word) old ≡ option_map (λ (x : GotEntry). x.word) (option_or o (cond c (Some e) None))
found_at old true true e o is same none = ap (λ q. option_map (λ (x : GotEntry). x.word) (option_or q (Some e))) (sym (none refl))
found_at old false false e None is same none = sym is
found_at old false false e (Some x) is same none = sym is
found_at old true false e o is same none = cc
found_at old false true e o is same none = cc

none_same : (es : List GotEntry) (e : GotEntry) (key : ℕ) (usage : GotUse) → is_some (entry_of es e.key e.usage) ≡ false → is_entry key usage e ≡ true →
    entry_of es key usage ≡ None
none_same es e key usage none own =
    let is = entry_is key usage e own in
    ap (λ k. entry_of es k usage) (sym is.key_is) ∙ ap (λ u. entry_of es e.key u) (sym is.use_is) ∙ none_of (entry_of es e.key e.usage) none

pub found_more : (es : List GotEntry) (e : GotEntry) (key : ℕ) (usage : GotUse) (old new : Option ℕ) → is_some (entry_of es e.key e.usage) ≡ false → old ≡ word_of es key usage →
    new ≡ cond (eq_keys (e.key, e.usage) (key, usage)) (Some e.word) old → new ≡ word_of (es ++ e ∷ []) key usage
unfolding entry_of
found_more es e key usage old new none was is =
    let p : GotEntry → Bool = is_entry key usage in
    is ∙ found_at old (eq_keys (e.key, e.usage) (key, usage)) (p e) e (find p es) (sym was) refl (λ own. none_same es e key usage none own)
    ∙ ap (option_map (λ (x : GotEntry). x.word)) (sym (find-append p es (e ∷ [])))

-- each key has at most one entry for each use, of four words together
abbrev one_if : Bool → ℕ
one_if b = cond b 1 0

none_counted : (p : GotEntry → Bool) (es : List GotEntry) → All (λ e. p e ≡ false) es → count_by p es ≡ 0
none_counted p [] all = refl
none_counted p (e ∷ es) all =
    let here = All-head (λ x. p x ≡ false) e es all in
    let rest = none_counted p es (All-tail (λ x. p x ≡ false) e es all) in
    let first : one_if (p e) ≡ 0 = ap one_if here in
    omega (arith, sum_by-cons (λ x. cond (p x) 1 0) e es, first, rest)

unlike_tail : (e : GotEntry) (es : List GotEntry) → AreUnlike (e ∷ es) → AreUnlike es
unlike_tail e es unlike = λ i j d less lt. unlike (suc i) (suc j) d (omega arith) (omega arith)

one_most : (key : ℕ) (usage : GotUse) (es : List GotEntry) → AreUnlike es → count_by (is_entry key usage) es ≤ 1
one_most key usage [] unlike = omega arith
one_most key usage (e ∷ es) unlike =
    let p : GotEntry → Bool = is_entry key usage in
    let rest = one_most key usage es (unlike_tail e es unlike) in
    let more = sum_by-cons (λ x. cond (p x) 1 0) e es in
    elim (cases_Bool (p e)) [
      | inl own ↦
          let is = entry_is key usage e own in
          let later : All (λ x. p x ≡ false) es = λ k d lt.
          ap (λ n. is_entry n usage (get_or es k d)) (sym is.key_is) ∙ ap (λ u. is_entry e.key u (get_or es k d)) (sym is.use_is)
          ∙ unlike 0 (suc k) d (omega arith) (omega arith) in
          let first : one_if (p e) ≡ 1 = ap one_if own in
          omega (arith, more, first, none_counted p es later)
      | inr other ↦
          let first : one_if (p e) ≡ 0 = ap one_if other in
          omega (arith, more, first, rest)
    ]

abbrev at_key : (key : ℕ) → GotEntry → ℕ
at_key key e = cond (e.key == key) (words_of e.usage) 0

abbrev counted : (key : ℕ) → GotUse → List GotEntry → ℕ
counted key usage es = count_by (is_entry key usage) es

one_words : (b : Bool) (u : GotUse) → cond b (words_of u) 0
    ≡ cond (b && same_use u Address) 1 0 + cond (b && same_use u ThreadOffset) 1 0 + 2 * cond (b && same_use u GeneralDynamic) 1 0
one_words true Address = refl
one_words true ThreadOffset = refl
one_words true GeneralDynamic = refl
one_words false u = refl

words_at : (key : ℕ) (es : List GotEntry) → sum_by (at_key key) es ≡ counted key Address es + counted key ThreadOffset es + 2 * counted key GeneralDynamic es
words_at key [] = refl
words_at key (e ∷ es) =
    let step : (u : GotUse) → counted key u (e ∷ es) ≡ cond (is_entry key u e) 1 0 + counted key u es = λ u. sum_by-cons (λ x. cond (is_entry key u x) 1 0) e es in
    omega (arith, sum_by-cons (at_key key) e es, words_at key es, step Address, step ThreadOffset, step GeneralDynamic, one_words (e.key == key) e.usage)

four_most : (key : ℕ) (es : List GotEntry) → AreUnlike es → sum_by (at_key key) es ≤ 4
four_most key es unlike =
    omega (arith, words_at key es, one_most key Address es unlike, one_most key ThreadOffset es unlike, one_most key GeneralDynamic es unlike)

abbrev below : (n : ℕ) → GotEntry → ℕ
below n e = cond (ltb e.key n) (words_of e.usage) 0

one_below : (n : ℕ) (e : GotEntry) → below (suc n) e ≤ below n e + at_key n e
one_below n e = elim (cases_lt e.key n) [
  | inl low ↦ omega (arith, ap (λ b. cond b (words_of e.usage) 0) (lt-ltb e.key n low), ap (λ b. cond b (words_of e.usage) 0) (lt-ltb e.key (suc n) (omega arith)))
  | inr high ↦ elim (cases_lt n e.key) [
    | inl past ↦ omega (arith, ap (λ b. cond b (words_of e.usage) 0) (le-ltb e.key (suc n) (omega arith)))
    | inr upto ↦ omega (arith, ap (λ b. cond b (words_of e.usage) 0) (eq-eqb e.key n (omega arith)), ap (λ b. cond b (words_of e.usage) 0) (lt-ltb e.key (suc n) (omega arith)))
  ]
]

below_more : (n : ℕ) (es : List GotEntry) → sum_by (below (suc n)) es ≤ sum_by (below n) es + sum_by (at_key n) es
below_more n [] = omega arith
below_more n (e ∷ es) =
    omega (arith, sum_by-cons (below (suc n)) e es, sum_by-cons (below n) e es, sum_by-cons (at_key n) e es, one_below n e, below_more n es)

none_below : (es : List GotEntry) → sum_by (below 0) es ≡ 0
none_below [] = refl
none_below (e ∷ es) = omega (arith, sum_by-cons (below 0) e es, none_below es, ap (λ b. cond b (words_of e.usage) 0) (le-ltb e.key 0 (omega arith)))

below_most : (n : ℕ) (es : List GotEntry) → AreUnlike es → sum_by (below n) es ≤ 4 * n
below_most zero es unlike = omega (arith, none_below es)
below_most (suc n) es unlike = omega (arith, below_more n es, four_most n es unlike, below_most n es unlike)

all_below : (n : ℕ) (es : List GotEntry) → All (λ (e : GotEntry). e.key < n) es → sum_by (λ (e : GotEntry). words_of e.usage) es ≡ sum_by (below n) es
all_below n [] low = refl
all_below n (e ∷ es) low =
    let here = All-head (λ (x : GotEntry). x.key < n) e es low in
    omega (
      arith,
      sum_by-cons (λ (x : GotEntry). words_of x.usage) e es,
      sum_by-cons (below n) e es,
      all_below n es (All-tail (λ (x : GotEntry). x.key < n) e es low),
      ap (λ b. cond b (words_of e.usage) 0) (lt-ltb e.key n here),
    )

pub few_words : (n : ℕ) (es : List GotEntry) → AreUnlike es → All (λ (e : GotEntry). e.key < n) es → word_count es ≤ 4 * n
unfolding word_count
few_words n es unlike low = omega (arith, all_below n es low, below_most n es unlike)

pub words_most : (u : GotUse) → words_of u ≤ 2
words_most Address = omega arith
words_most ThreadOffset = omega arith
words_most GeneralDynamic = omega arith

-- by a test of keys that is the same
lookup_alike : (p q : ℕ × GotUse → Bool) (entries : List ((ℕ × GotUse) × ℕ)) → ((k : ℕ × GotUse) → p k ≡ q k) → lookup p entries ≡ lookup q entries
lookup_alike p q [] each = refl
lookup_alike p q (e ∷ es) each = ap (λ b. cond b (Some e.1) (lookup p es)) (each e.0) ∙ ap (λ l. cond (q e.0) (Some e.1) l) (lookup_alike p q es each)

pub derived_use : (a b : GotUse) → ghosts.eq a b ≡ same_use a b
derived_use Address Address = refl
derived_use Address ThreadOffset = refl
derived_use Address GeneralDynamic = refl
derived_use ThreadOffset Address = refl
derived_use ThreadOffset ThreadOffset = refl
derived_use ThreadOffset GeneralDynamic = refl
derived_use GeneralDynamic Address = refl
derived_use GeneralDynamic ThreadOffset = refl
derived_use GeneralDynamic GeneralDynamic = refl

abbrev pub derived_keys : ℕ × GotUse → ℕ × GotUse → Bool
derived_keys a b = a.0 == b.0 && ghosts.eq a.1 b.1

derived_is : (a b : ℕ × GotUse) → derived_keys a b ≡ eq_keys a b
derived_is a b = ap (λ s. a.0 == b.0 && s) (derived_use a.1 b.1)

pub set_alike : {S : Type 0} (old new : HashMap (ℕ × GotUse) ℕ S) (key q : ℕ × GotUse) (value : ℕ) →
    get derived_keys new q ≡ cond (derived_keys key q) (Some value) (get derived_keys old q) → get eq_keys new q ≡ cond (eq_keys key q) (Some value) (get eq_keys old q)
set_alike old new key q value is =
    sym (lookup_alike (derived_keys q) (eq_keys q) new.entries (derived_is q)) ∙ is
    ∙ ap (λ b. cond b (Some value) (get derived_keys old q)) (derived_is key q)
    ∙ ap (λ o. cond (eq_keys key q) (Some value) o) (lookup_alike (derived_keys q) (eq_keys q) old.entries (derived_is q))
