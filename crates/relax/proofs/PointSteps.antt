-- Points of members: their places, and the calls before them.
use Rattle.std.proofs.Common.{◌≡◌, ℕ, zero, suc, ◌+◌, ◌-◌, ◌<◌, ◌≤◌, ◌⊎◌, ◌==◌, Bool, true, false, cond, List, [], ◌∷◌, ◌++◌, length, map, flat_map, get_or, min, refl, sym, ap, ◌∙◌, subst, arith, inl, inr}
use Rattle.std.specs.Prelude.{if◌then◌else◌, nat_le, nat_lt, All}
use Rattle.std.specs.List.{range_with_len, sum_by}
use Rattle.std.proofs.lemmas.Bool.{cases_Bool, cases_lt, eqb-false, eqb-true, le-leb, le-ltb, lt-leb, lt-ltb}
use Rattle.std.proofs.lemmas.List.{get_or_past, get_or_default}
use Rattle.std.proofs.lemmas.List.Elements.{All-append, All-nil}
use Rattle.std.proofs.lemmas.List.Sums.{prefix_len-le-length, sum_by-cons, sum_by_push}
use Rattle.std.proofs.lemmas.List.FromFn.{fill_by_all, get_or-map-range_with_len}
use Rattle.lk_base.proofs.Loops.{count_step, range_more}
use Rattle.link_sections.specs.Cuts.{Cut, kept_before, new_offset, whole_before}
use Rattle.relax.specs.declared.calls.Call.{Call}
use Rattle.relax.specs.declared.jumps.Mark.{Mark}
use Rattle.relax.specs.declared.jumps.Point.{Point}
use Rattle.output_sections.specs.declared.rows.Row.{Row}
use Rattle.relax.specs.CallSizes.{all_calls, distance, first_call, goes_forwards, member_at, room, row_at, sized, upper_offset, upper_place}
use Rattle.relax.specs.Jumps.{IsOrdered, jump_bytes, lost_before, lost_in, lost_upto, size_at}
use Rattle.relax.specs.Points.{AreSoundRows, Follow, depth_in, ended, ends_by, jump_of, mark_at, no_call, point_at, point_in, rooms_before, start_of, whole_room}
use Rattle.relax.proofs.LeastSizes.{upto_more}

pub ended_most : (row : List Call) (o : ℕ) → ended row o ≤ length row
ended_most row o = prefix_len-le-length (ends_by o) row

-- how many calls stand before a member's, one member on, and of all
pub first_more : (rows : List (List Call)) (i : ℕ) → first_call rows (i + 1) ≡ first_call rows i + length (row_at rows i)
unfolding first_call
first_more rows i = count_step (row_at rows) i

flat_mapped : {X Y : Type 0} (f : X → List Y) (xs : List X) → flat_map (λ row. row) (map f xs) ≡ flat_map f xs
flat_mapped f [] = refl
flat_mapped f (x ∷ xs) = ap (λ l. f x ++ l) (flat_mapped f xs)

rows_all : (rows : List (List Call)) → flat_map (row_at rows) (range_with_len 0 (length rows)) ≡ all_calls rows
rows_all rows =
    sym (flat_mapped (row_at rows) (range_with_len 0 (length rows)))
    ∙ ap (flat_map (λ row. row)) (sym (fill_by_all (row_at rows) rows (length rows) [] refl (λ k lt. refl)))

pub first_upto : (rows : List (List Call)) (i n : ℕ) → first_call rows i ≤ first_call rows (i + n)
first_upto rows i zero = let e : i + 0 ≡ i = omega arith in omega (arith, ap (first_call rows) e)
first_upto rows i (suc n) =
    let e : i + suc n ≡ (i + n) + 1 = omega arith in
    omega (arith, ap (first_call rows) e, first_more rows (i + n), first_upto rows i n)

pub first_most : (rows : List (List Call)) (i : ℕ) → i < length rows → first_call rows i + length (row_at rows i) ≤ length (all_calls rows)
unfolding first_call
first_most rows i lt =
    let n = length rows - (i + 1) in
    let e : (i + 1) + n ≡ length rows = omega (arith, lt) in
    omega (arith, first_more rows i, first_upto rows (i + 1) n, ap (first_call rows) e, ap length (rows_all rows))

-- what the calls of a row that follow one another have before an offset
none_yet : (z : List ℕ) (m from size o : ℕ) (row : List Call) → Follow from size row → o ≤ from → (whole_before (sized z m row) o ≡ 0) × (kept_before (sized z m row) o ≡ 0)
none_yet z m from size o [] is le = (refl, refl)
none_yet z m from size o (c ∷ cs) is le =
    let low = is.0 in
    let rest = none_yet z (m + 1) (c.offset + 8) size o cs is.2 (omega (arith, low, le)) in
    let w = rest.0 in
    let k = rest.1 in
    let past : o - c.offset ≡ 0 = omega (arith, low, le) in
    let cut : Cut = record { at = c.offset; whole = 8; kept = size_at z m; is_align = false } in
    let mw : min (o - c.offset) 8 ≡ 0 = omega (arith, past) in
    let mk : min (o - c.offset) (size_at z m) ≡ 0 = omega (arith, past) in
    let head = sum_by-cons (λ (x : Cut). min (o - x.at) x.whole) cut (sized z (m + 1) cs) in
    let held = sum_by-cons (λ (x : Cut). min (o - x.at) x.kept) cut (sized z (m + 1) cs) in
    (omega (arith, head, w, mw), omega (arith, held, k, mk))

-- no more than there is
whole_low : (z : List ℕ) (m from size o : ℕ) (row : List Call) → Follow from size row → from ≤ o → whole_before (sized z m row) o + from ≤ o
whole_low z m from size o [] is le = omega (arith, le)
whole_low z m from size o (c ∷ cs) is le =
    let low = is.0 in
    let cut : Cut = record { at = c.offset; whole = 8; kept = size_at z m; is_align = false } in
    let head = sum_by-cons (λ (x : Cut). min (o - x.at) x.whole) cut (sized z (m + 1) cs) in
    elim (cases_lt o (c.offset + 8)) [
      | inl short ↦
          let none = (none_yet z (m + 1) (c.offset + 8) size o cs is.2 (omega (arith, short))).0 in
          let part : min (o - c.offset) 8 ≤ o - c.offset = omega arith in
          omega (arith, head, none, part, low, le)
      | inr long ↦
          let rest = whole_low z (m + 1) (c.offset + 8) size o cs is.2 long in
          let part : min (o - c.offset) 8 ≤ 8 = omega arith in
          omega (arith, head, rest, part, low)
    ]

-- what is left of them, by the number that ended and the depth in the next
abbrev lost_by : List ℕ → (call depth : ℕ) → ℕ
lost_by z call depth = lost_upto z call + lost_in depth (size_at z call)

row_sums : (z : List ℕ) (m from size o : ℕ) (row : List Call) → Follow from size row → m + length row ≤ length z → ((k : ℕ) → size_at z k ≤ 8) →
    kept_before (sized z m row) o + lost_by z (m + ended row o) (depth_in row (ended row o) o) ≡ whole_before (sized z m row) o + lost_upto z m
row_sums z m from size o [] is le few =
    let none : o - o ≡ 0 = omega arith in
    let here : m + 0 ≡ m = omega arith in
    omega (arith, ap (lost_upto z) here, none, few (m + 0))
row_sums z m from size o (c ∷ cs) is le few =
    let low = is.0 in
    let cut : Cut = record { at = c.offset; whole = 8; kept = size_at z m; is_align = false } in
    let head = sum_by-cons (λ (x : Cut). min (o - x.at) x.whole) cut (sized z (m + 1) cs) in
    let held = sum_by-cons (λ (x : Cut). min (o - x.at) x.kept) cut (sized z (m + 1) cs) in
    let most = few m in
    elim (cases_lt o (c.offset + 8)) [
      | inl short ↦
          let n0 : ended (c ∷ cs) o ≡ 0 = ap (λ b. cond b (1 + ended cs o) 0) (lt-leb (c.offset + 8) o short) in
          let rest = none_yet z (m + 1) (c.offset + 8) size o cs is.2 (omega (arith, short)) in
          let w = rest.0 in
          let k = rest.1 in
          let at : lost_by z (m + ended (c ∷ cs) o) (depth_in (c ∷ cs) (ended (c ∷ cs) o) o) ≡ lost_by z (m + 0) (o - c.offset) =
          ap (λ n. lost_by z (m + n) (depth_in (c ∷ cs) n o)) n0 in
          let here : m + 0 ≡ m = omega arith in
          let same : lost_by z (m + 0) (o - c.offset) ≡ lost_by z m (o - c.offset) = ap (λ n. lost_by z n (o - c.offset)) here in
          omega (arith, head, held, w, k, at, same, most)
      | inr long ↦
          let n1 : ended (c ∷ cs) o ≡ 1 + ended cs o = ap (λ b. cond b (1 + ended cs o) 0) (le-leb (c.offset + 8) o long) in
          let suc_is : 1 + ended cs o ≡ suc (ended cs o) = omega arith in
          let at : lost_by z (m + ended (c ∷ cs) o) (depth_in (c ∷ cs) (ended (c ∷ cs) o) o) ≡ lost_by z (m + suc (ended cs o)) (depth_in cs (ended cs o) o) =
          ap (λ n. lost_by z (m + n) (depth_in (c ∷ cs) n o)) (n1 ∙ suc_is) in
          let next : m + suc (ended cs o) ≡ (m + 1) + ended cs o = omega arith in
          let same : lost_by z (m + suc (ended cs o)) (depth_in cs (ended cs o) o) ≡ lost_by z ((m + 1) + ended cs o) (depth_in cs (ended cs o) o) =
          ap (λ n. lost_by z n (depth_in cs (ended cs o) o)) next in
          let rest = row_sums z (m + 1) (c.offset + 8) size o cs is.2 (omega (arith, le)) few in
          let one = upto_more z m (omega (arith, le)) in
          let w : min (o - c.offset) 8 ≡ 8 = omega (arith, long) in
          let k : min (o - c.offset) (size_at z m) ≡ size_at z m = omega (arith, long, most) in
          omega (arith, head, held, at, same, rest, one, w, k, most)
    ]

-- so an offset loses what the calls before it lose
pub offset_sum : (z : List ℕ) (m size o : ℕ) (row : List Call) → Follow 0 size row → m + length row ≤ length z → ((k : ℕ) → size_at z k ≤ 8) →
    new_offset (sized z m row) o + lost_by z (m + ended row o) (depth_in row (ended row o) o) ≡ o + lost_upto z m
unfolding new_offset
offset_sum z m size o row is le few =
    let sums = row_sums z m 0 size o row is le few in
    let low = whole_low z m 0 size o row is (omega arith) in
    omega (arith, sums, low)

-- at the end of a section all its calls ended
all_ended : (from size : ℕ) (row : List Call) → Follow from size row → ended row size ≡ length row
all_ended from size [] is = refl
all_ended from size (c ∷ cs) is =
    let fits = is.1 in
    ap (λ b. cond b (1 + ended cs size) 0) (le-leb (c.offset + 8) size fits) ∙ ap (λ n. 1 + n) (all_ended (c.offset + 8) size cs is.2) ∙ omega arith

past_depth : (row : List Call) (o n : ℕ) → length row ≤ n → depth_in row n o ≡ 0
past_depth row o n past = ap (λ (c : Call). o - c.offset) (get_or_past row n (no_call o) past) ∙ omega arith

pub end_sum : (z : List ℕ) (m size : ℕ) (row : List Call) → Follow 0 size row → m + length row ≤ length z → ((k : ℕ) → size_at z k ≤ 8) →
    new_offset (sized z m row) size + lost_upto z (m + length row) ≡ size + lost_upto z m
end_sum z m size row is le few =
    let sum = offset_sum z m size size row is le few in
    let n = all_ended 0 size row is in
    let d : depth_in row (ended row size) size ≡ 0 = past_depth row size (ended row size) (omega (arith, n)) in
    let at : lost_by z (m + ended row size) (depth_in row (ended row size) size) ≡ lost_by z (m + length row) 0 =
    ap (λ k. lost_by z (m + k) (depth_in row (ended row size) size)) n ∙ ap (λ k. lost_by z (m + length row) k) d in
    omega (arith, sum, at, few (m + length row))

module _ (ms : List Row) (rows : List (List Call)) (z : List ℕ) (sound : AreSoundRows ms rows) (count : length z ≡ length (all_calls rows)) (few : (k : ℕ) → size_at z k ≤ 8) where
  row_within : (i : ℕ) → i < length ms → first_call rows i + length (row_at rows i) ≤ length z
  row_within i lt = omega (arith, first_most rows i (omega (arith, lt, sound.count)), count)

  room_more : (i : ℕ) → i < length ms → room ms rows z i + lost_upto z (first_call rows (i + 1)) ≡ whole_room ms i + lost_upto z (first_call rows i)
  unfolding upper_offset
  room_more i lt =
      let sum = end_sum z (first_call rows i) (member_at ms i).size (row_at rows i) (sound.apart i lt) (row_within i lt) few in
      omega (arith, sum, ap (lost_upto z) (first_more rows i))

  first_none : first_call rows 0 ≡ 0
  unfolding first_call
  first_none = refl

  sum_range : (f : ℕ → ℕ) (i : ℕ) → sum_by f (range_with_len 0 (i + 1)) ≡ sum_by f (range_with_len 0 i) + f i
  sum_range f i = ap (sum_by f) (range_more i) ∙ sum_by_push f (range_with_len 0 i) i

  rooms_sum : (i : ℕ) → i ≤ length ms → sum_by (room ms rows z) (range_with_len 0 i) + lost_upto z (first_call rows i) ≡ rooms_before ms i
  rooms_sum zero le = let e : lost_upto z (first_call rows 0) ≡ 0 = ap (lost_upto z) first_none in omega (arith, e)
  rooms_sum (suc i) le =
      let e : suc i ≡ i + 1 = omega arith in
      let a = sum_range (room ms rows z) i in
      let b = sum_range (whole_room ms) i in
      let c = room_more i (omega (arith, le)) in
      let rest = rooms_sum i (omega (arith, le)) in
      ap (λ n. sum_by (room ms rows z) (range_with_len 0 n) + lost_upto z (first_call rows n)) e
      ∙ omega (arith, a, b, c, rest)
      ∙ ap (rooms_before ms) (sym e)

  -- the upper place of an offset is that of its point, without what is lost before it
  pub place_sum : (i o : ℕ) → i < length ms → upper_place ms rows z i o + lost_before z (point_at ms rows i o) ≡ (point_at ms rows i o).place
  unfolding upper_place upper_offset point_at point_in mark_at lost_before
  place_sum i o lt =
      let sum = offset_sum z (first_call rows i) (member_at ms i).size o (row_at rows i) (sound.apart i lt) (row_within i lt) few in
      let before = rooms_sum i (omega (arith, lt)) in
      omega (arith, sum, before)

  -- so the distance of a call is that of its jump
  difference : (b : Bool) (c : Call) → c.from < length ms → c.to < length ms →
      (if b then upper_place ms rows z c.to c.target - upper_place ms rows z c.from c.offset else upper_place ms rows z c.from c.offset - upper_place ms rows z c.to c.target)
      ≡ ((if b then point_at ms rows c.to c.target else point_at ms rows c.from c.offset).place
      + lost_before z (if b then point_at ms rows c.from c.offset else point_at ms rows c.to c.target))
      - ((if b then point_at ms rows c.from c.offset else point_at ms rows c.to c.target).place
      + lost_before z (if b then point_at ms rows c.to c.target else point_at ms rows c.from c.offset))
  difference true c from to = omega (arith, place_sum c.from c.offset from, place_sum c.to c.target to)
  difference false c from to = omega (arith, place_sum c.from c.offset from, place_sum c.to c.target to)

  pub distance_is : (c : Call) → c.from < length ms → c.to < length ms → distance ms rows z c ≡ jump_bytes z (jump_of ms rows c)
  unfolding distance jump_bytes jump_of
  distance_is c from to = difference (goes_forwards c) c from to

-- points in order
ended_rises : (row : List Call) (x y : ℕ) → x ≤ y → ended row x ≤ ended row y
ended_rises [] x y le = omega arith
ended_rises (c ∷ cs) x y le = elim (cases_lt x (c.offset + 8)) [
  | inl short ↦
      let n0 : ended (c ∷ cs) x ≡ 0 = ap (λ b. cond b (1 + ended cs x) 0) (lt-leb (c.offset + 8) x short) in
      omega (arith, n0)
  | inr long ↦
      let n1 : ended (c ∷ cs) x ≡ 1 + ended cs x = ap (λ b. cond b (1 + ended cs x) 0) (le-leb (c.offset + 8) x long) in
      let n2 : ended (c ∷ cs) y ≡ 1 + ended cs y = ap (λ b. cond b (1 + ended cs y) 0) (le-leb (c.offset + 8) y (omega (arith, long, le))) in
      omega (arith, n1, n2, ended_rises cs x y le)
]

depth_rises : (row : List Call) (n x y : ℕ) → x ≤ y → depth_in row n x ≤ depth_in row n y
depth_rises row n x y le = elim (cases_lt n (length row)) [
  | inl lt ↦
      let same = ap (λ (c : Call). c.offset) (get_or_default row n (no_call x) (no_call y) lt) in
      omega (arith, same, le)
  | inr past ↦ omega (arith, past_depth row x n past)
]

abbrev AreOrdered : Point → Point → Type 0
AreOrdered p q = (p.call < q.call) ⊎ ((p.call ≡ q.call) × (p.depth ≤ q.depth))

same_row : (ms : List Row) (rows : List (List Call)) (i x y : ℕ) → x ≤ y → AreOrdered (point_at ms rows i x) (point_at ms rows i y)
unfolding point_at point_in
same_row ms rows i x y le =
    let row = row_at rows i in
    let up = ended_rises row x y le in
    elim (cases_lt (ended row x) (ended row y)) [
      | inl less ↦ inl (omega (arith, less))
      | inr upto ↦
          let same : ended row x ≡ ended row y = omega (arith, up, upto) in
          inr (omega (arith, same), omega (arith, depth_rises row (ended row x) x y le, ap (λ n. depth_in row n y) same))
    ]

later_row : (ms : List Row) (rows : List (List Call)) (i j x y : ℕ) → i < j → AreOrdered (point_at ms rows i x) (point_at ms rows j y)
unfolding point_at point_in mark_at
later_row ms rows i j x y lt =
    let row = row_at rows i in
    let n = j - (i + 1) in
    let e : (i + 1) + n ≡ j = omega (arith, lt) in
    let up = first_upto rows (i + 1) n in
    let next = first_more rows i in
    let most = ended_most row x in
    let j_is = ap (first_call rows) e in
    elim (cases_lt (ended row x) (length row)) [
      | inl less ↦ inl (omega (arith, less, up, next, j_is))
      | inr past ↦
          let d = past_depth row x (ended row x) past in
          elim (cases_lt (first_call rows i + ended row x) (first_call rows j + ended (row_at rows j) y)) [
            | inl before ↦ inl before
            | inr upto ↦ inr (omega (arith, upto, most, up, next, j_is), omega (arith, d))
          ]
    ]

forwards_cases : (c : Call) → (((goes_forwards c ≡ true) × ((c.from < c.to) ⊎ ((c.from ≡ c.to) × (c.offset ≤ c.target))))
    ⊎ ((goes_forwards c ≡ false) × ((c.to < c.from) ⊎ ((c.to ≡ c.from) × (c.target ≤ c.offset)))))
forwards_cases c = elim (cases_Bool (c.from == c.to)) [
  | inl same ↦
      let e = eqb-true c.from c.to same in
      elim (cases_lt c.target c.offset) [
        | inl back ↦ inr (ap (λ b. if b then nat_le c.offset c.target else nat_lt c.from c.to) same ∙ lt-leb c.offset c.target back, inr (sym e, omega (arith, back)))
        | inr on ↦ inl (ap (λ b. if b then nat_le c.offset c.target else nat_lt c.from c.to) same ∙ le-leb c.offset c.target on, inr (e, on))
      ]
  | inr other ↦
      let differ = eqb-false c.from c.to other in
      elim (cases_lt c.from c.to) [
        | inl before ↦ inl (ap (λ b. if b then nat_le c.offset c.target else nat_lt c.from c.to) other ∙ lt-ltb c.from c.to before, inl before)
        | inr upto ↦
            let after : c.to < c.from = elim (cases_lt c.to c.from) [ inl less ↦ less | inr le ↦ absurd (differ (omega (arith, upto, le))) ] in
            inr (ap (λ b. if b then nat_le c.offset c.target else nat_lt c.from c.to) other ∙ le-ltb c.from c.to upto, inl after)
      ]
]

either_order : (ms : List Row) (rows : List (List Call)) (i j x y : ℕ) → (i < j) ⊎ ((i ≡ j) × (x ≤ y)) → AreOrdered (point_at ms rows i x) (point_at ms rows j y)
either_order ms rows i j x y is = elim is [
  | inl before ↦ later_row ms rows i j x y before
  | inr (same, le) ↦ subst (λ k. AreOrdered (point_at ms rows i x) (point_at ms rows k y)) same (same_row ms rows i x y le)
]

pub jump_ordered : (ms : List Row) (rows : List (List Call)) (c : Call) → IsOrdered (jump_of ms rows c)
unfolding jump_of
jump_ordered ms rows c =
    let P : Bool → Type 0 = λ b. AreOrdered (if b then point_at ms rows c.from c.offset else point_at ms rows c.to c.target) (if b then point_at ms rows c.to c.target else point_at ms rows c.from c.offset) in
    elim (forwards_cases c) [
      | inl (yes_is, order) ↦ subst P (sym yes_is) (either_order ms rows c.from c.to c.offset c.target order)
      | inr (no_is, order) ↦ subst P (sym no_is) (either_order ms rows c.to c.from c.target c.offset order)
    ]

pub point_within : (ms : List Row) (rows : List (List Call)) (i o : ℕ) → i < length rows → (point_at ms rows i o).call ≤ length (all_calls rows)
unfolding point_at point_in mark_at
point_within ms rows i o lt = omega (arith, first_most rows i lt, ended_most (row_at rows i) o)

pub mark_is : (ms : List Row) (rows : List (List Call)) (marks : List Mark) (i : ℕ) (d : Mark) → marks ≡ map (mark_at ms rows) (range_with_len 0 (length ms)) → i < length ms →
    get_or marks i d ≡ mark_at ms rows i
mark_is ms rows marks i d is lt = ap (λ l. get_or l i d) is ∙ get_or-map-range_with_len (mark_at ms rows) 0 (length ms) i i d lt (omega arith)

pub first_low : (ms : List Row) (rows : List (List Call)) (m : Mark) (i : ℕ) → m ≡ mark_at ms rows i → i < length rows → m.first + length (row_at rows i) ≤ length (all_calls rows)
unfolding mark_at
first_low ms rows m i is lt = omega (arith, first_most rows i lt, ap (λ (x : Mark). x.first) is)

-- each call of all
all_flat : {X : Type 0} (P : X → Type 0) (rows : List (List X)) → ((i : ℕ) → i < length rows → All P (get_or rows i [])) → All P (flat_map (λ row. row) rows)
all_flat P [] each = All-nil P
all_flat P (row ∷ rows) each = All-append P row (flat_map (λ r. r) rows) (each 0 (omega arith)) (all_flat P rows (λ i lt. each (suc i) (omega (arith, lt))))

pub record IsWithin (count : ℕ) (c : Call) : Type 0 where
  pub from : c.from < count
  pub to : c.to < count
  pub least : (c.least ≡ 2) ⊎ (c.least ≡ 4)

pub calls_within : (ms : List Row) (rows : List (List Call)) → AreSoundRows ms rows → All (IsWithin (length ms)) (all_calls rows)
calls_within ms rows sound =
    all_flat (IsWithin (length ms)) rows (λ i lt k d less.
    let is = sound.each i (omega (arith, lt, sound.count)) k d less in
    record { from = omega (arith, lt, sound.count, is.from); to = is.to; least = is.least })

-- the first call of a mark
pub mark_first : (ms : List Row) (rows : List (List Call)) (m : Mark) (i : ℕ) → m ≡ mark_at ms rows i → m.first ≡ first_call rows i
unfolding mark_at
mark_first ms rows m i is = ap (λ (x : Mark). x.first) is

-- at the start of a member no call ended
ended_none : (row : List Call) → ended row 0 ≡ 0
ended_none [] = refl
ended_none (c ∷ cs) = ap (λ b. cond b (1 + ended cs 0) 0) (lt-leb (c.offset + 8) 0 (omega arith))

abbrev one_point : (place call depth : ℕ) → Point
one_point place call depth = record { place = place; call = call; depth = depth }

pub start_is : (row : List Call) (m : Mark) → start_of m ≡ point_in row m 0
unfolding point_in
start_is row m =
    let place : m.start ≡ m.start + 0 = omega arith in
    let call : m.first ≡ m.first + ended row 0 = omega (arith, ended_none row) in
    let depth : 0 ≡ depth_in row (ended row 0) 0 = omega arith in
    ap (λ n. one_point n m.first 0) place ∙ ap (λ n. one_point (m.start + 0) n 0) call ∙ ap (one_point (m.start + 0) (m.first + ended row 0)) depth
