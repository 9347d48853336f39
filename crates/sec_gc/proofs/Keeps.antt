-- Each step on marks keeps their rule.
use Rattle.std.proofs.Common.{◌≡◌, ◌≢◌, ℕ, zero, suc, ◌+◌, ◌<◌, ◌≤◌, true, List, [], ◌++◌, length, max, get_or, set, replicate, All, Contains, refl, sym, ap, ◌∙◌, subst, ⊎_elim, arith}
use Rattle.std.proofs.lemmas.List.{length-set, length-replicate, get_or-replicate, get_or-set_same, get_or-set_other, get_or_past, set-get_or}
use Rattle.std.proofs.lemmas.List.Elements.{All-contains, Contains-append_cases, Contains-push_cases}
use Rattle.std.proofs.lemmas.Bool.{cases_eq, cases_lt}
use mathlib.Core.Option.{none, some}
use lib.ListN.{get_elem?}
use Rattle.atomic_table.specs.Table.{State, step, keeps, opening, Allows, Splits, Joins}
use Rattle.sec_gc.specs.declared.rule.View.{View}
use Rattle.lk_tables.specs.Reach.{ends_at, IsReached}
use Rattle.sec_gc.specs.Marks.{MayMark, seen_at, times, won_at}
use Rattle.sec_gc.specs.Rule.{is_live, share_of, wins_of, Seated, Fits, Kept, TellsSwap, TellsLook, IsSeated, founder, view_after_swap, view_after_look, view_after_split, view_split, view_joined, view_spent}
use Rattle.sec_gc.proofs.Searching.{ends_within}
use Rattle.sec_gc.proofs.Wins.{times_append, won_else, won_here}
use Rattle.seat_views.specs.Views.{total_of}
use Rattle.seat_views.proofs.EachViews.{each_first, each_join, each_split, each_step}
use Rattle.seat_views.proofs.Places.{other_view}
use Rattle.seat_views.proofs.Totals.{one_of_total, total_join, total_split, total_step}
use Rattle.seat_views.proofs.Wholes.{whole_first, whole_join, whole_split, whole_step}

abbrev Table : Type 0
Table = State (Unit {0}) View

-- a mark that is set is there, and the others are as they were
set_marks : (ws : List ℕ) (section f : ℕ) (P : ℕ → Type 0) → section < length ws → (f ≡ section → P 1) → (f ≢ section → P (get_or ws f 0)) → P (get_or (set ws section 1) f 0)
set_marks ws section f P here own other = ⊎_elim
    (λ (at : f ≡ section). let same : get_or (set ws section 1) f 0 ≡ 1 = ap (λ k. get_or (set ws section 1) k 0) at ∙ get_or-set_same ws section 1 0 here in subst P (sym same) (own at))
    (λ (ne : f ≢ section). subst P (sym (get_or-set_other ws section f 1 0 ne)) (other ne))
    (cases_eq f section)

-- the words of a new table
abbrev no_marks : ℕ → List ℕ
no_marks n = replicate n 0

-- how often all live views have won a section after one of them changed
abbrev total_of_new : List View → ℕ → View → ℕ → ℕ
total_of_new views id w g = total_of is_live (wins_of g) (set views id w)

module _ (roots : List ℕ) (ends : List (List ℕ)) where
  fits_marked : (ws : List ℕ) (section : ℕ) (v : View) → section < length ws → Fits roots ends ws v → Fits roots ends (set ws section 1) v
  fits_marked ws section v here f = record {
    one_roots = f.one_roots;
    one_ends = f.one_ends;
    marked = λ g has. set_marks ws section g (λ n. n ≡ 1) here (λ _. refl) (λ _. f.marked g has);
  }

  fits_swapped : (ws : List ℕ) (section found : ℕ) (v : View) → section < length ws → Fits roots ends ws v → Fits roots ends (set ws section 1) (view_after_swap v section found)
  fits_swapped ws section found v here f = record {
    one_roots = f.one_roots;
    one_ends = f.one_ends;
    marked = λ g has. set_marks ws section g (λ n. n ≡ 1) here (λ _. refl) (λ ne. ⊎_elim
        (λ (old : Contains v.seen g). f.marked g old)
        (λ (new : section ≡ g). absurd (ne (sym new)))
        (Contains-push_cases v.seen section g has));
  }

  -- what a look finds is seen if it is a mark
  looked_marked : (ws seen : List ℕ) (section found : ℕ) → get_or ws section 0 ≡ found → found ≤ 1 → ((g : ℕ) → Contains seen g → get_or ws g 0 ≡ 1)
      → (g : ℕ) → Contains (seen ++ seen_at section found) g → get_or ws g 0 ≡ 1
  looked_marked ws seen section zero is low marked g has = ⊎_elim
      (λ (old : Contains seen g). marked g old)
      (λ (new : Contains [] g). let lt = new.1 in absurd (omega (arith, lt)))
      (Contains-append_cases seen [] g has)
  looked_marked ws seen section (suc n) is low marked g has = ⊎_elim
      (λ (old : Contains seen g). marked g old)
      (λ (new : section ≡ g). subst (λ k. get_or ws k 0 ≡ 1) new (omega (arith, is, low)))
      (Contains-push_cases seen section g has)

  fits_looked : (ws : List ℕ) (section : ℕ) (v : View) → get_or ws section 0 ≤ 1 → Fits roots ends ws v → Fits roots ends ws (view_after_look v section (get_or ws section 0))
  fits_looked ws section v low f = record {
    one_roots = f.one_roots;
    one_ends = f.one_ends;
    marked = looked_marked ws v.seen section (get_or ws section 0) refl low f.marked;
  }

  pub swap_keeps : (slots id section : ℕ) (me : Seated) → section < length ends → me.0.live ≡ true
      → MayMark me.0.roots me.0.ends me.0.seen section
      → Allows (Kept roots ends) slots id me section (λ _. 1) (TellsSwap (step slots section 1 0 none) me)
  swap_keeps slots id section me lt live may s r wide at small =
      let x : ℕ = get_or s.words section 0 in
      let here : section < length s.words = omega (arith, r.wide) in
      let v = me.0 in
      let w : View = view_after_swap v section x in
      let low = r.bits section in
      let f = r.each id v at live in
      let in_reach : IsReached roots ends section = ⊎_elim
      (λ (root : Contains v.roots section). λ set closed. closed.rooted section (subst (λ l. Contains l section) f.one_roots root))
      (λ (led : (from : ℕ) × Contains v.seen from × Contains (ends_at v.ends from) section). λ set closed.
      closed.followed led.0 section (r.inside led.0 (f.marked led.0 led.1) set closed) (subst (λ e. Contains (ends_at e led.0) section) f.one_ends led.2))
      may in
      let wins : (g : ℕ) → total_of_new s.views id w g ≡ get_or (set s.words section 1) g 0 = λ g.
      let total = total_step is_live (wins_of g) s.views id v w (times g (won_at section x)) at live live (times_append g v.won (won_at section x)) in
      let was = r.wins g in
      set_marks s.words section g (λ n. total_of_new s.views id w g ≡ n) here
      (λ same. let own = subst (λ k. get_or s.words k 0 + times k (won_at section x) ≡ 1) (sym same) (won_here section x low) in omega (arith, total, was, own))
      (λ ne. let none = won_else section x g ne in omega (arith, total, was, none)) in
      let most = one_of_total is_live (wins_of section) s.views id v at live in
      let all = r.wins section in (
        w,
        keeps,
        tt,
        record {
          wide = length-set s.words section 1 ∙ r.wide;
          bits = λ g. set_marks s.words section g (λ n. n ≤ 1) here (λ _. omega arith) (λ _. r.bits g);
          inside = λ g. set_marks s.words section g (λ n. n ≡ 1 → IsReached roots ends g) here (λ same _. subst (IsReached roots ends) (sym same) in_reach) (λ _. r.inside g);
          each = each_step is_live (Fits roots ends s.words) (Fits roots ends (set s.words section 1)) s.views id w (λ u. fits_marked s.words section u here) (λ _. fits_swapped s.words section x v here f) r.each;
          wins = wins;
          shares = whole_step is_live share_of s.views id v w at live live refl r.shares;
        },
        record {
          view = refl;
          slots = refl;
          bit = low;
          once = λ none. omega (arith, most, all, none);
          within = subst (λ e. IsReached v.roots e section) (sym f.one_ends) (subst (λ l. IsReached l ends section) (sym f.one_roots) in_reach);
        },
      )

  -- a look writes the word as it was
  pub look_keeps : (slots id section : ℕ) (me : Seated) → me.0.live ≡ true → Allows (Kept roots ends) slots id me section (λ n. n) (TellsLook (step slots section 0 0 none) me)
  look_keeps slots id section me live s r wide at small =
      let x : ℕ = get_or s.words section 0 in
      let v = me.0 in
      let w : View = view_after_look v section x in
      let f = r.each id v at live in
      let Holds : List ℕ → Type 0 = λ ws. Kept roots ends (record { words = ws; homes = s.homes; views = set s.views id w }) in (
        w,
        keeps,
        tt,
        subst Holds (sym (set-get_or s.words section 0)) (record {
          wide = r.wide;
          bits = r.bits;
          inside = r.inside;
          each = each_step is_live (Fits roots ends s.words) (Fits roots ends s.words) s.views id w (λ u fits. fits) (λ _. fits_looked s.words section v (r.bits section) f) r.each;
          wins = λ g. let total = total_step is_live (wins_of g) s.views id v w 0 at live live (omega arith) in let was = r.wins g in omega (arith, total, was);
          shares = whole_step is_live share_of s.views id v w at live live refl r.shares;
        }),
        record {
          view = refl;
          slots = refl;
          bit = r.bits section;
          known = λ has. f.marked section has;
          within = λ is. subst (λ e. IsReached v.roots e section) (sym f.one_ends) (subst (λ l. IsReached l ends section) (sym f.one_roots) (r.inside section is));
        },
      )

  pub split_keeps : (id : ℕ) (v : View) → v.live ≡ true → Splits (Kept roots ends) id v (view_after_split v) (view_split v)
  split_keeps id v live s r at = record {
    wide = r.wide;
    bits = r.bits;
    inside = r.inside;
    each = each_split is_live (Fits roots ends s.words) s.views id (view_after_split v) (view_split v)
        (λ on. let f = r.each id v at on in record { one_roots = f.one_roots; one_ends = f.one_ends; marked = f.marked })
        (λ on. let f = r.each id v at on in record { one_roots = f.one_roots; one_ends = f.one_ends; marked = f.marked }) r.each;
    wins = λ g. total_split is_live (wins_of g) s.views id v (view_after_split v) (view_split v) at live live live (omega arith) ∙ r.wins g;
    shares = whole_split is_live share_of s.views id v (view_after_split v) (view_split v) at live live live refl refl r.shares;
  }

  fits_joined : (ws : List ℕ) (v w : View) → Fits roots ends ws v → Fits roots ends ws w → Fits roots ends ws (view_joined v w)
  fits_joined ws v w f g = record {
    one_roots = f.one_roots;
    one_ends = f.one_ends;
    marked = λ h has. ⊎_elim (λ (mine : Contains v.seen h). f.marked h mine) (λ (other : Contains w.seen h). g.marked h other) (Contains-append_cases v.seen w.seen h has);
  }

  pub join_keeps : (id other : ℕ) (v w : View) → v.live ≡ true → w.live ≡ true → Joins (Kept roots ends) id v other w (view_joined v w) view_spent
  join_keeps id other v w live alive s r at ne there =
      let both : View = view_joined v w in
      let theirs : get_elem? s.views other ≡ some w = other_view s.views id other both w ne there in record {
        wide = r.wide;
        bits = r.bits;
        inside = r.inside;
        each = each_join is_live (Fits roots ends s.words) s.views id other both view_spent (λ _. fits_joined s.words v w (r.each id v at live) (r.each other w theirs alive)) refl r.each;
        wins = λ g. total_join is_live (wins_of g) s.views id other v w both view_spent at live there alive live refl (times_append g v.won w.won) ∙ r.wins g;
        shares = whole_join is_live share_of s.views id other v w both view_spent at live there theirs alive live refl refl r.shares;
      }

  no_mark : (n f : ℕ) → get_or (no_marks n) f 0 ≡ 0
  no_mark n f = ⊎_elim
      (λ (lt : f < n). get_or-replicate n f 0 0 lt)
      (λ (past : n ≤ f). get_or_past (no_marks n) f 0 (omega (arith, length-replicate {A = ℕ} n 0)))
      (cases_lt f n)

  pub opening_keeps : (words : List ℕ) → words ≡ replicate (max (length ends) 1) 0 → Kept roots ends (opening words [] (founder roots ends))
  opening_keeps words is =
      let n : ℕ = max (length ends) 1 in
      let unmarked : (f : ℕ) → get_or words f 0 ≡ 0 = λ f. ap (λ l. get_or l f 0) is ∙ no_mark n f in
      record {
        wide = ap length is ∙ length-replicate {A = ℕ} n 0;
        bits = λ f. let none = unmarked f in omega (arith, none);
        inside = λ f one. let none = unmarked f in absurd (omega (arith, none, one));
        each = each_first is_live (Fits roots ends words) (founder roots ends) (record { one_roots = refl; one_ends = refl; marked = λ f has. let lt = has.1 in absurd (omega (arith, lt)) });
        wins = λ f. sym (unmarked f);
        shares = whole_first is_live share_of (founder roots ends) refl refl;
      }

-- what a seat may mark is a section
pub may_inside : (roots : List ℕ) (ends : List (List ℕ)) (seen : List ℕ) (section : ℕ) → All (λ r. r < length ends) roots → All (All (λ g. g < length ends)) ends → MayMark roots ends seen section → section < length ends
may_inside roots ends seen section rooted within may = ⊎_elim
    (λ (root : Contains roots section). All-contains (λ r. r < length ends) roots section rooted root)
    (λ (led : (from : ℕ) × Contains seen from × Contains (ends_at ends from) section). All-contains (λ g. g < length ends) (ends_at ends led.0) section (ends_within ends within led.0) led.2)
    may

-- a seat stays one that callers have
pub seated_swapped : (slots section : ℕ) (m m' : Seated) (found : ℕ) → IsSeated m → TellsSwap (step slots section 1 0 none) m found m' → IsSeated m'
seated_swapped slots section m m' found seated says = record { live = subst (λ (v : View). v.live ≡ true) (sym says.view) seated.live; slots = says.slots ∙ seated.slots }

pub seated_looked : (slots section : ℕ) (m m' : Seated) (found : ℕ) → IsSeated m → TellsLook (step slots section 0 0 none) m found m' → IsSeated m'
seated_looked slots section m m' found seated says = record { live = subst (λ (v : View). v.live ≡ true) (sym says.view) seated.live; slots = says.slots ∙ seated.slots }

pub seated_split : (m m' : Seated) → IsSeated m → m' ≡ (view_after_split m.0, m.1) → IsSeated m'
seated_split m m' seated same =
    let after : IsSeated (view_after_split m.0, m.1) = record { live = seated.live; slots = seated.slots } in
    subst IsSeated (sym same) after

pub seated_joined : (m w m' : Seated) → IsSeated m → m' ≡ (view_joined m.0 w.0, m.1) → IsSeated m'
seated_joined m w m' seated same =
    let after : IsSeated (view_joined m.0 w.0, m.1) = record { live = seated.live; slots = seated.slots } in
    subst IsSeated (sym same) after
