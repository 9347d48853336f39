-- All of folding together, over plain lists.
use Rattle.std.proofs.Common.{◌≡◌, ℕ, ◌+◌, ◌-◌, ◌<◌, ◌≤◌, ◌==◌, All, List, ◌∷◌, length, drop, get_or, map, refl, sym, ap, ◌∙◌, subst, inl, inr, arith}
use Rattle.std.specs.List.Sorted.{IsStrictlyIncreasing}
use Rattle.std.proofs.lemmas.Bool.{cases_lt, eq-eqb}
use Rattle.std.proofs.lemmas.List.{length-map}
use Rattle.link_sections.specs.FoldItems.{FoldItem, sections_of}
use Rattle.name_numbers.specs.Texts.{text_numbers}
use Rattle.icf_part.specs.Chosen.{AreContents}
use Rattle.icf_part.specs.Counts.{key_count, leader_count}
use Rattle.icf_part.specs.Folding.{AreLeaders, HoldsAll, IsCongruence, classes, item_at}
use Rattle.icf_part.specs.Leaders.{leaders_of}
use Rattle.icf_part.specs.Numbered.{AreEnds, AreFirsts, IsNumbering, IsRefined, IsRefining, IsStable, key}
use Rattle.icf_part.specs.Signatures.{AreRows, all_places, bytes_of, key_at, key_words, output_of, rest_at}
use Rattle.icf_part.proofs.Counting.{counted, most}
use Rattle.icf_part.proofs.LeadersOf.{leaders_are, leaders_at_most, leaders_own, leaders_within}
use Rattle.icf_part.proofs.PlacesWide.{places_wide}
use Rattle.icf_part.proofs.NumberedRows.{numbering, numbers_wide}
use Rattle.icf_part.proofs.Refined.{ends_of, firsts_of, keys_counted, keys_fewer, one_number, one_text, refining_first, refining_last, stable_fits, stable_leads}
use Rattle.icf_part.proofs.Targets.{sections_wide}

pub all_sections : (views : List FoldItem) (sections : List ℕ) → sections ≡ sections_of views → length sections ≡ length views
all_sections views sections is = ap length is ∙ sections_wide views

pub all_ends : (views : List FoldItem) (ends : List (List ℕ)) → ends ≡ all_places views → length ends ≡ length views
all_ends views ends is = ap length is ∙ places_wide views

pub all_numbers : (f : FoldItem → List ℕ) (views : List FoldItem) (list : List ℕ) → list ≡ text_numbers (map f views) → length list ≡ length views
all_numbers f views list is = ap length is ∙ numbers_wide (map f views) ∙ length-map views f

-- the numbers of keys
renumbered : (v w : ℕ → List ℕ) (n : ℕ) (c : List ℕ) → ((a b : ℕ) → a < n → b < n → v a ≡ v b → w a ≡ w b) → ((a b : ℕ) → a < n → b < n → w a ≡ w b → v a ≡ v b) →
    IsNumbering v n c → IsNumbering w n c
renumbered v w n c there back is = record {
  wide = is.wide;
  tells = λ a b la lb e. there a b la lb (is.tells a b la lb e);
  same = λ a b la lb e. is.same a b la lb (back a b la lb e);
  within = is.within;
  own = λ a la. there (get_or c a 0) a (is.within a la) la (is.own a la);
  least = λ a b la lb e. is.least a b la lb (back b a lb la e);
}

-- words that differ in the number of the contents alone
other_number : (x y m n : ℕ) (o p : ℕ) (i j : FoldItem) → m ≡ n → key_words x o i ≡ key_words y p j → key_words m o i ≡ key_words n p j
unfolding key_words
other_number x y m n o p i j e same = ap (λ k. k ∷ drop 1 (key_words x o i)) e ∙ ap (λ l. n ∷ drop 1 l) same

first_number : (x y o p : ℕ) (i j : FoldItem) → key_words x o i ≡ key_words y p j → x ≡ y
unfolding key_words
first_number x y o p i j same = ap (λ l. get_or l 0 0) same

pub key_numbers : (views : List FoldItem) (n : ℕ) (bytes outputs : List ℕ) (rows : List (List ℕ)) (keys : List ℕ) → n ≡ length views →
    AreContents views bytes → outputs ≡ text_numbers (map output_of views) → AreRows (key_at views bytes outputs) n rows → keys ≡ text_numbers rows →
    IsNumbering (key views) n keys
key_numbers views n bytes outputs rows keys wide contents eo are is =
    let own = text_numbers (map bytes_of views) in
    let Q : List ℕ → Type 0 = λ o. AreRows (key_at views bytes o) n rows in
    let outs = text_numbers (map output_of views) in
    renumbered (key_at views bytes outs) (key views) n keys
    (λ a b la lb e.
    let one : a < length views = omega (arith, la, wide) in
    let two : b < length views = omega (arith, lb, wide) in
    let i = item_at views a in
    let j = item_at views b in
    let number = first_number (get_or bytes a 0) (get_or bytes b 0) (get_or outs a 0) (get_or outs b 0) i j e in
    other_number (get_or bytes a 0) (get_or bytes b 0) (get_or own a 0) (get_or own b 0) (get_or outs a 0) (get_or outs b 0) i j
    (one_number bytes_of views a b one two (contents.tells a b one two number)) e)
    (λ a b la lb e.
    let one : a < length views = omega (arith, la, wide) in
    let two : b < length views = omega (arith, lb, wide) in
    let i = item_at views a in
    let j = item_at views b in
    let number = first_number (get_or own a 0) (get_or own b 0) (get_or outs a 0) (get_or outs b 0) i j e in
    other_number (get_or own a 0) (get_or own b 0) (get_or bytes a 0) (get_or bytes b 0) (get_or outs a 0) (get_or outs b 0) i j
    (contents.same a b one two (one_text bytes_of views a b one two number)) e)
    (numbering (key_at views bytes outs) n rows (subst Q eo are) keys is)

-- the first classes
pub record AreFirst (views : List FoldItem) (keys start : List ℕ) : Type 0 where
  pub by_key : IsNumbering (key views) (length views) keys
  pub by_rest : IsNumbering (rest_at views keys (all_places views)) (length views) start

pub first_classes : (views : List FoldItem) (n : ℕ) (keys lent : List ℕ) (ends rows : List (List ℕ)) (start : List ℕ) → n ≡ length views →
    IsNumbering (key views) n keys → lent ≡ keys → ends ≡ all_places views → AreRows (rest_at views lent ends) n rows → start ≡ text_numbers rows → AreFirst views keys start
first_classes views n keys lent ends rows start wide by same is are numbers =
    let P : List ℕ → Type 0 = λ k. AreRows (rest_at views k ends) n rows in
    let Q : List (List ℕ) → Type 0 = λ e. AreRows (rest_at views keys e) n rows in
    let R : ℕ → Type 0 = λ k. IsNumbering (key views) k keys in
    let S : ℕ → Type 0 = λ k. IsNumbering (rest_at views keys (all_places views)) k start in
    record {
      by_key = subst R wide by;
      by_rest = subst S wide (numbering (rest_at views keys (all_places views)) n rows (subst Q is (subst P same are)) start numbers);
    }

pub first_firsts : (views : List FoldItem) (keys start : List ℕ) (ends : List (List ℕ)) → ends ≡ all_places views → AreFirst views keys start → AreFirsts (length ends) start
first_firsts views keys start ends is first =
    let P : List (List ℕ) → Type 0 = λ e. AreFirsts (length e) start in
    let Q : ℕ → Type 0 = λ n. AreFirsts n start in
    subst P (sym is) (subst Q (sym (places_wide views)) (firsts_of (rest_at views keys (all_places views)) (length views) start first.by_rest))

pub first_ends : (views : List FoldItem) (keys start : List ℕ) (ends : List (List ℕ)) → ends ≡ all_places views → AreFirst views keys start → AreEnds ends start
first_ends views keys start ends is first =
    let P : List (List ℕ) → Type 0 = λ e. AreEnds e start in
    subst P (sym is) (ends_of views keys start first.by_rest)

-- the first classes are no fewer than those of equal keys
pub start_fewer : (views : List FoldItem) (keys start : List ℕ) → AreFirst views keys start → leader_count keys ≤ leader_count start
start_fewer views keys start first = keys_fewer views keys start first.by_key first.by_rest

-- so many classes were split from those of equal keys on: those of the first classes, and then those of turns
pub all_steps : (views : List FoldItem) (keys start last : List ℕ) (old mid new : ℕ) → AreFirst views keys start → mid ≡ old + (leader_count start - leader_count keys) →
    new + leader_count start ≡ mid + leader_count last → new + key_count views ≡ old + leader_count last
all_steps views keys start last old mid new are one two =
    let le = start_fewer views keys start are in
    omega (arith, one, two, le, keys_counted views keys are.by_key)

-- the last ones
pub record IsFolded (views : List FoldItem) (l : List ℕ) : Type 0 where
  pub value : l ≡ leaders_of views
  pub leaders : AreLeaders views l
  pub congruence : IsCongruence views (classes l)
  pub greatest : HoldsAll views l
  pub places : All (λ p. p < length views) l
  pub own : (a : ℕ) → get_or l (get_or l a 0) 0 ≡ get_or l a 0
  pub least : (a : ℕ) → get_or l a 0 ≤ a

-- at most one less than there are items
pub few_steps : (views : List FoldItem) (keys start last : List ℕ) (old new : ℕ) → AreFirst views keys start → IsFolded views last →
    new + key_count views ≡ old + leader_count last → new ≤ old + (length views - 1)
few_steps views keys start last old new are folded steps =
    let wide = folded.leaders.count in
    let high = most (λ a. get_or last a 0 == a) (length last) in
    elim (cases_lt 0 (length views)) [
      | inl some ↦
          let firsts = firsts_of (key views) (length views) keys are.by_key in
          let low = firsts.least 0 0 some some refl in
          let count = counted (λ a. get_or keys a 0 == a) (length keys) 0 (omega (arith, firsts.wide, some)) (eq-eqb (get_or keys 0 0) 0 (omega (arith, low))) in
          let same = keys_counted views keys are.by_key in
          omega (arith, some, count, same, steps, wide, high)
      | inr empty ↦ omega (arith, empty, steps, wide, high)
    ]

pub folded_by : (views : List FoldItem) (last : List ℕ) → AreLeaders views last → IsCongruence views (classes last) → HoldsAll views last → IsFolded views last
folded_by views last are congruence holds = record {
  value = leaders_are views last are;
  leaders = are;
  congruence = congruence;
  greatest = holds;
  places = leaders_within views last are;
  own = leaders_own views last are holds;
  least = leaders_at_most views last are;
}

last_folded : (views : List FoldItem) (last : List ℕ) → AreFirsts (length views) last → IsRefining views last →
    IsStable (all_places views) last → IsFolded views last
last_folded views last firsts refined stable =
    folded_by views last (stable_leads views last firsts refined stable) (stable_fits views last refined stable) refined.outer

pub folded : (views : List FoldItem) (keys start last : List ℕ) (ends : List (List ℕ)) → IsStrictlyIncreasing (sections_of views) →
    ends ≡ all_places views → AreFirst views keys start → IsRefined ends start last → IsFolded views last
folded views keys start last ends order is first refined =
    let P : List (List ℕ) → Type 0 = λ e. IsRefined e start last in
    let by = subst P is refined in
    let Q : ℕ → Type 0 = λ n. AreFirsts n last in
    last_folded views last (subst Q (places_wide views) by.firsts) (refining_last views order start last (refining_first views order keys start first.by_key first.by_rest) by) by.stable
