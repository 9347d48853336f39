-- What closed marks are.
use Rattle.std.proofs.Common.{◌≡◌, ℕ, zero, suc, ◌+◌, ◌<◌, ◌≤◌, ◌==◌, Bool, true, false, List, [], ◌∷◌, ◌++◌, length, map, take, get_or, All, Contains, sym, ap, ◌∙◌, subst, ⊎_elim, arith}
use Rattle.std.proofs.lemmas.List.{length-map, length-take-le, get_or-map, get_or-take, get_or_past, map_more}
use Rattle.std.proofs.lemmas.List.Elements.{All-contains}
use Rattle.std.proofs.lemmas.Bool.{both_ways, cases_lt, cases_Bool, eq-eqb, eqb-true}
use mathlib.Core.Option.{some, some-injective, some-ne-none}
use lib.ListN.{get_elem?}
use Rattle.atomic_table.specs.Table.{State}
use Rattle.lk_tables.specs.Reach.{mark}
use Rattle.sec_gc.specs.declared.rule.View.{View}
use Rattle.sec_gc.specs.Marks.{MarksView, SeatView, IsClosing, times, word_of}
use Rattle.sec_gc.specs.Rule.{is_live, wins_of, Kept}
use Rattle.seat_views.proofs.Totals.{one_of_total}

-- the marks of the first words
abbrev pub marks_of : ℕ → List ℕ → List Bool
marks_of n ws = map (λ word. word == 1) (take n ws)

-- what a closed table gives at a place is the word there
pub read_at : (xs : List ℕ) (i n : ℕ) → get_elem? xs i ≡ some n → get_or xs i 0 ≡ n
read_at [] i n e = absurd (some-ne-none n (sym e))
read_at (x ∷ xs) zero n e = some-injective x n e
read_at (x ∷ xs) (suc i) n e = read_at xs i n e

-- the mark of one word more
pub marks_more : (ws : List ℕ) (i n : ℕ) → get_or ws i 0 ≡ n → i < length ws → marks_of i ws ++ (n == 1) ∷ [] ≡ marks_of (i + 1) ws
marks_more ws i n is lt =
    ap (λ k. marks_of i ws ++ (k == 1) ∷ []) (sym is) ∙ sym (map_more (λ word. word == 1) ws i 0 lt)

wide_marks : (n : ℕ) (ws : List ℕ) → n ≤ length ws → length (marks_of n ws) ≡ n
wide_marks n ws le = length-map (take n ws) (λ word. word == 1) ∙ length-take-le n ws le

mark_is : (n : ℕ) (ws : List ℕ) (f : ℕ) → n ≤ length ws → f < n → mark (marks_of n ws) f ≡ (get_or ws f 0 == 1)
mark_is n ws f le lt =
    let long = length-take-le n ws le in
    get_or-map (λ word. word == 1) (take n ws) f 0 false (omega (arith, long, lt)) ∙ ap (λ word. word == 1) (get_or-take n ws f 0 lt)

no_mark_past : (n : ℕ) (ws : List ℕ) (f : ℕ) → n ≤ length ws → n ≤ f → mark (marks_of n ws) f ≡ false
no_mark_past n ws f le past = let wide = wide_marks n ws le in get_or_past (marks_of n ws) f false (omega (arith, wide, past))

-- what is marked has the word 1
marked_word : (n : ℕ) (ws : List ℕ) (f : ℕ) → n ≤ length ws → mark (marks_of n ws) f ≡ true → get_or ws f 0 ≡ 1
marked_word n ws f le is = ⊎_elim
    (λ (lt : f < n). eqb-true (get_or ws f 0) 1 (sym (mark_is n ws f le lt) ∙ is))
    (λ (past : n ≤ f). absurd (both_ways (mark (marks_of n ws) f) (no_mark_past n ws f le past) is))
    (cases_lt f n)

-- no word past those of the sections is 1
none_past : (roots : List ℕ) (ends : List (List ℕ)) (st : State (Unit {0}) View) (f : ℕ) → Kept roots ends st → All (λ r. r < length ends) roots → get_or st.words f 0 ≡ 1 → f < length ends
none_past roots ends st f kept rooted one = ⊎_elim
    (λ (lt : f < length ends). lt)
    (λ (past : length ends ≤ f). ⊎_elim
    (λ (some : 0 < length ends). let wide = kept.wide in let none = get_or_past st.words f 0 (omega (arith, wide, past, some)) in absurd (omega (arith, none, one)))
    (λ (empty : length ends ≤ 0).
    let wrong : false ≡ true = kept.inside f one (λ _. false) (record { rooted = λ g has. let low = All-contains (λ r. r < length ends) roots g rooted has in absurd (omega (arith, low, empty)); followed = λ a b is has. is }) in
    absurd cc)
    (cases_lt 0 (length ends)))
    (cases_lt f (length ends))

-- the table's last state keeps the rule, and has the view of the seat that closes it
pub ending : (m : MarksView) (s : SeatView) (v : View) (id : ℕ) (st : State (Unit {0}) View) (ws : List ℕ) → s.seen ≡ v.seen → s.won ≡ v.won → Kept m.roots m.ends st
    → get_elem? st.views id ≡ some v → v.live ≡ true → st.words ≡ ws → All (λ r. r < length m.ends) m.roots → IsClosing m s (marks_of (length m.ends) ws)
ending m s v id st ws seen won kept at live same rooted =
    let n : ℕ = length m.ends in
    let long = kept.wide in
    let words : length st.words ≡ length ws = ap length same in
    let le : n ≤ length ws = omega (arith, long, words) in
    let is_word : (f : ℕ) → get_or st.words f 0 ≡ get_or ws f 0 = λ f. ap (λ l. get_or l f 0) same in
    let is_marked : (f : ℕ) → get_or ws f 0 ≡ 1 → mark (marks_of n ws) f ≡ true = λ f one. mark_is n ws f le (none_past m.roots m.ends st f kept rooted (is_word f ∙ one)) ∙ eq-eqb (get_or ws f 0) 1 one in
    let fits = kept.each id v at live in record {
      count = wide_marks n ws le;
      within = λ f is. kept.inside f (is_word f ∙ marked_word n ws f le is);
      seen = λ f has. is_marked f (sym (is_word f) ∙ fits.marked f (subst (λ l. Contains l f) seen has));
      won = λ f.
          let most = one_of_total is_live (wins_of f) st.views id v at live in
          let all = kept.wins f in
          let word = is_word f in
          let low = kept.bits f in
          let own : times f s.won ≡ times f v.won = ap (times f) won in
          ⊎_elim
          (λ (is : mark (marks_of n ws) f ≡ true). let one : word_of (mark (marks_of n ws) f) ≡ 1 = ap word_of is in omega (arith, one, most, all, low, own))
          (λ (is : mark (marks_of n ws) f ≡ false).
          let none : word_of (mark (marks_of n ws) f) ≡ 0 = ap word_of is in
          ⊎_elim
          (λ (less : get_or ws f 0 < 1). omega (arith, none, most, all, word, less, own))
          (λ (more : 1 ≤ get_or ws f 0). absurd (both_ways (mark (marks_of n ws) f) is (is_marked f (omega (arith, word, low, more)))))
          (cases_lt (get_or ws f 0) 1))
          (cases_Bool (mark (marks_of n ws) f));
    }
