-- The shares of all live seats stay the whole table at a step, a split and a join, and no seat comes beside them.
use Rattle.std.proofs.Common.{◌≡◌, ℕ, zero, suc, ◌+◌, ◌-◌, ◌*◌, ◌^◌, ◌<◌, ◌≤◌, Bool, true, false, List, [], ◌∷◌, ◌++◌, length, set, All, refl, sym, ap, ◌∙◌, subst, ⊎_elim, arith, length-append, if◌then◌else◌, pow-suc}
use Rattle.std.proofs.lemmas.List.Elements.{All-append, All-head, All-tail}
use Rattle.std.proofs.lemmas.Bool.{cases_lt}
use Rattle.std.proofs.lemmas.Nat.{pow_pos}
use mathlib.Core.Option.{some}
use lib.ListN.{get_elem?}
use Rattle.atomic_table.proofs.Lists.{at_last}
use Rattle.seat_views.specs.Shares.{AreWhole, IsShare, half_of, halved, parts_in}
use Rattle.seat_views.specs.Views.{EachView, counted, total_of}
use Rattle.seat_views.proofs.EachViews.{each_first, each_join, each_split, each_step}
use Rattle.seat_views.proofs.Totals.{total_more, total_set, total_twice}

abbrev Within : ℕ → List ℕ → Type 0
Within depth parts = All (λ k. k ≤ depth) parts

within_more : (depth : ℕ) (parts : List ℕ) → Within depth parts → Within (suc depth) parts
within_more depth parts most k d lt = let le = most k d lt in omega (arith, le)

-- of parts that are half as large there are twice as many
parts_twice : (depth : ℕ) (parts : List ℕ) → Within depth parts → parts_in (suc depth) parts ≡ 2 * parts_in depth parts
parts_twice depth [] most = refl
parts_twice depth (k ∷ parts) most =
    let le : k ≤ depth = All-head (λ n. n ≤ depth) k parts most in
    let one : suc depth - k ≡ suc (depth - k) = omega (arith, le) in
    let here : 2 ^ (suc depth - k) ≡ 2 ^ (depth - k) * 2 = ap (λ n. 2 ^ n) one ∙ pow-suc 2 (depth - k) in
    let rest = parts_twice depth parts (All-tail (λ n. n ≤ depth) k parts most) in
    omega (arith, here, rest)

parts_append : (depth : ℕ) (parts more : List ℕ) → parts_in depth (parts ++ more) ≡ parts_in depth parts + parts_in depth more
parts_append depth [] more = omega arith
parts_append depth (k ∷ parts) more = let rest = parts_append depth parts more in omega (arith, rest)

-- a share that is cut
parts_cut : (depth : ℕ) (parts : List ℕ) → 0 < length parts → Within depth parts → parts_in (suc depth) (halved parts) + parts_in (suc depth) (half_of parts) ≡ 2 * parts_in depth parts
parts_cut depth [] one most = absurd (omega (arith, one))
parts_cut depth (k ∷ parts) one most =
    let same : suc depth - suc k ≡ depth - k = omega arith in
    let here : 2 ^ (suc depth - suc k) ≡ 2 ^ (depth - k) = ap (λ n. 2 ^ n) same in
    let rest = parts_twice depth parts (All-tail (λ n. n ≤ depth) k parts most) in
    omega (arith, here, rest)

some_halved : (parts : List ℕ) → 0 < length parts → 0 < length (halved parts)
some_halved [] one = one
some_halved (k ∷ parts) one = omega arith

some_half : (parts : List ℕ) → 0 < length parts → 0 < length (half_of parts)
some_half [] one = one
some_half (k ∷ parts) one = omega arith

within_halved : (depth : ℕ) (parts : List ℕ) → Within depth parts → Within (suc depth) (halved parts)
within_halved depth [] most n d lt = absurd (omega (arith, lt))
within_halved depth (k ∷ parts) most zero d lt = let le : k ≤ depth = All-head (λ n. n ≤ depth) k parts most in omega (arith, le)
within_halved depth (k ∷ parts) most (suc n) d lt = within_more depth parts (All-tail (λ m. m ≤ depth) k parts most) n d (omega (arith, lt))

within_half : (depth : ℕ) (parts : List ℕ) → Within depth parts → Within (suc depth) (half_of parts)
within_half depth [] most n d lt = absurd (omega (arith, lt))
within_half depth (k ∷ parts) most zero d lt = let le : k ≤ depth = All-head (λ n. n ≤ depth) k parts most in omega (arith, le)
within_half depth (k ∷ parts) most (suc n) d lt = absurd (omega (arith, lt))

share_deeper : (depth : ℕ) (share : List ℕ) → IsShare depth share → IsShare (suc depth) share
share_deeper depth share is = record { some = is.some; most = within_more depth share is.most }

first_within : Within 0 (0 ∷ [])
first_within zero d lt = omega arith
first_within (suc k) d lt = absurd (omega (arith, lt))

parts_some : (depth : ℕ) (parts : List ℕ) → 0 < length parts → 0 < parts_in depth parts
parts_some depth [] one = absurd (omega (arith, one))
parts_some depth (k ∷ parts) one = let more = pow_pos (depth - k) in omega (arith, more)

module _ {V : Type 0} (live : V → Bool) (share : V → List ℕ) where
  abbrev Has : ℕ → V → Type 0
  Has depth v = IsShare depth (share v)

  abbrev parts_of : ℕ → V → ℕ
  parts_of depth v = parts_in depth (share v)

  -- what a live view counts
  counts : (depth : ℕ) (v : V) → live v ≡ true → counted live (parts_of depth) v ≡ parts_of depth v
  counts depth v lives = ap (λ (b : Bool). if b then parts_of depth v else 0) lives

  -- what a spent one does
  spends : (depth : ℕ) (v : V) → live v ≡ false → counted live (parts_of depth) v ≡ 0
  spends depth v gone = ap (λ (b : Bool). if b then parts_of depth v else 0) gone

  deeper : (depth : ℕ) (views : List V) → EachView live (Has depth) views → total_of live (parts_of (suc depth)) views ≡ 2 * total_of live (parts_of depth) views
  deeper depth views each = total_twice live (parts_of depth) (parts_of (suc depth)) views (λ seat v at lives. parts_twice depth (share v) (each seat v at lives).most)

  -- a new table has one seat
  pub whole_first : (v : V) → live v ≡ true → share v ≡ 0 ∷ [] → AreWhole live share (v ∷ [])
  whole_first v lives is =
      let has : Has 0 v = subst (IsShare 0) (sym is) (record { some = omega arith; most = first_within }) in
      let own = counts 0 v lives ∙ ap (parts_in 0) is in
      record {
        depth = 0;
        each = each_first live (Has 0) v has;
        whole = omega (arith, own);
      }

  -- a step leaves the seat its share
  pub whole_step : (views : List V) (id : ℕ) (v w : V) → get_elem? views id ≡ some v → live v ≡ true → live w ≡ true → share w ≡ share v → AreWhole live share views → AreWhole live share (set views id w)
  whole_step views id v w at lives alive same all =
      let d = all.depth in
      let has = all.each id v at lives in
      let set_is = total_set live (parts_of d) views id v w at in
      let was = counts d v lives in
      let now = counts d w alive ∙ ap (parts_in d) same in
      let total = all.whole in
      record {
        depth = d;
        each = each_step live (Has d) (Has d) views id w (λ u is. is) (λ _. subst (IsShare d) (sym same) has) all.each;
        whole = omega (arith, set_is, was, now, total);
      }

  -- a split cuts a part in two
  pub whole_split : (views : List V) (id : ℕ) (v left right : V) → get_elem? views id ≡ some v → live v ≡ true → live left ≡ true → live right ≡ true → share left ≡ halved (share v) → share right ≡ half_of (share v)
      → AreWhole live share views → AreWhole live share (set views id left ++ right ∷ [])
  whole_split views id v left right at lives on_left on_right is_left is_right all =
      let d = all.depth in
      let has = all.each id v at lives in
      let set_is = total_set live (parts_of (suc d)) views id v left at in
      let more = total_more live (parts_of (suc d)) (set views id left) right in
      let twice = deeper d views all.each in
      let was = counts (suc d) v lives ∙ parts_twice d (share v) has.most in
      let one = counts (suc d) left on_left ∙ ap (parts_in (suc d)) is_left in
      let two = counts (suc d) right on_right ∙ ap (parts_in (suc d)) is_right in
      let cut = parts_cut d (share v) has.some has.most in
      let total = all.whole in
      let power : 2 ^ suc d ≡ 2 ^ d * 2 = pow-suc 2 d in
      let Deep : List ℕ → Type 0 = IsShare (suc d) in
      record {
        depth = suc d;
        each = each_split live (Has (suc d)) views id left right
            (λ _. subst Deep (sym is_left) (record { some = some_halved (share v) has.some; most = within_halved d (share v) has.most }))
            (λ _. subst Deep (sym is_right) (record { some = some_half (share v) has.some; most = within_half d (share v) has.most }))
            (λ seat u there on. share_deeper d (share u) (all.each seat u there on));
        whole = omega (arith, set_is, more, twice, was, one, two, cut, total, power);
      }

  -- a join adds the other's parts
  pub whole_join : (views : List V) (id other : ℕ) (v w both spent : V) → get_elem? views id ≡ some v → live v ≡ true → get_elem? (set views id both) other ≡ some w → get_elem? views other ≡ some w → live w ≡ true
      → live both ≡ true → live spent ≡ false → share both ≡ share v ++ share w → AreWhole live share views → AreWhole live share (set (set views id both) other spent)
  whole_join views id other v w both spent at lives there theirs alive on gone is all =
      let d = all.depth in
      let mine = all.each id v at lives in
      let others = all.each other w theirs alive in
      let set_is = total_set live (parts_of d) views id v both at in
      let spent_is = total_set live (parts_of d) (set views id both) other w spent there in
      let was = counts d v lives in
      let also = counts d w alive in
      let none = spends d spent gone in
      let now = counts d both on ∙ ap (parts_in d) is ∙ parts_append d (share v) (share w) in
      let total = all.whole in
      let one : 0 < length (share v ++ share w) = omega (arith, length-append (share v) (share w), mine.some) in
      record {
        depth = d;
        each = each_join live (Has d) views id other both spent
            (λ _. subst (IsShare d) (sym is) (record { some = one; most = All-append (λ k. k ≤ d) (share v) (share w) mine.most others.most })) gone all.each;
        whole = omega (arith, set_is, spent_is, was, also, none, now, total);
      }

  -- a whole of 2 ^ depth parts, and the same in smaller ones
  abbrev AtDepth : ℕ → List V → Type 0
  AtDepth depth views = EachView live (Has depth) views × (total_of live (parts_of depth) views ≡ 2 ^ depth)

  one_deeper : (depth : ℕ) (views : List V) → AtDepth depth views → AtDepth (suc depth) views
  one_deeper depth views at =
      let twice = deeper depth views at.0 in
      let power : 2 ^ suc depth ≡ 2 ^ depth * 2 = pow-suc 2 depth in
      let total = at.1 in
      ((λ seat v there lives. share_deeper depth (share v) (at.0 seat v there lives)), omega (arith, twice, power, total))

  at_depth : (depth more deep : ℕ) (views : List V) → deep ≡ more + depth → AtDepth depth views → AtDepth deep views
  at_depth depth zero deep views is at = let same : depth ≡ deep = omega (arith, is) in subst (λ d. AtDepth d views) same at
  at_depth depth (suc more) deep views is at =
      let same : suc (more + depth) ≡ deep = omega (arith, is) in
      subst (λ d. AtDepth d views) same (one_deeper (more + depth) views (at_depth depth more (more + depth) views refl at))

  -- a view beside a whole that is live and has a share is too much
  too_many : (depth : ℕ) (views : List V) (w : V) → total_of live (parts_of depth) views ≡ 2 ^ depth → total_of live (parts_of depth) (views ++ w ∷ []) ≡ 2 ^ depth
      → live w ≡ true → Has depth w → ⊥
  too_many depth views w old new alive has =
      let more = total_more live (parts_of depth) views w in
      let own = counts depth w alive in
      let one = parts_some depth (share w) has.some in
      omega (arith, old, new, more, own, one)

  last_share : (depth : ℕ) (views : List V) (w : V) → live w ≡ true → EachView live (Has depth) (views ++ w ∷ []) → Has depth w
  last_share depth views w alive each = each (length views) w (at_last views w (length views) refl) alive

  -- No live seat comes to a table but by a split
  pub none_comes : (views : List V) (w : V) → AreWhole live share views → live w ≡ true → AreWhole live share (views ++ w ∷ []) → ⊥
  none_comes views w old alive new = ⊎_elim
      (λ (less : old.depth < new.depth).
      let deep = at_depth old.depth (new.depth - old.depth) new.depth views (omega (arith, less)) (old.each, old.whole) in
      too_many new.depth views w deep.1 new.whole alive (last_share new.depth views w alive new.each))
      (λ (more : new.depth ≤ old.depth).
      let deep = at_depth new.depth (old.depth - new.depth) old.depth (views ++ w ∷ []) (omega (arith, more)) (new.each, new.whole) in
      too_many old.depth views w old.whole deep.1 alive (last_share old.depth views w alive deep.0))
      (cases_lt old.depth new.depth)
