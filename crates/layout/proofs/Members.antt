-- Where the members of a class stand: within it, one after the other.
use Rattle.std.proofs.Common.{◌≡◌, ℕ, ◌+◌, ◌<◌, ◌≤◌, List, [], ◌∷◌, ◌++◌, Bool, true, false, refl, All, append_assoc, if◌then◌else◌, arith}
use Rattle.std.proofs.lemmas.List.Elements.{All-nil, All-head, All-tail, All-cons, All-append}
use Rattle.lk_base.specs.declared.abi.TheConstants.{ALIGN_MAX}
use Rattle.lk_base.specs.Arithmetic.{up}
use Rattle.lk_base.proofs.Multiples.{up_least}
use Rattle.link_sections.specs.declared.members.Member.{Member}
use Rattle.link_sections.specs.Cuts.{Cut}
use Rattle.output_sections.specs.declared.rows.Row.{Row}
use Rattle.layout.specs.declared.walk.Cursor.{Cursor}
use Rattle.layout.specs.Spots.{AreInOrder}
use Rattle.layout.specs.Walk.{after, cursor_at, end_along, is_empty, member_at, members_along, members_from, members_in, members_still, past, size_at, stands_along, stands_in, start_of, still}
use Rattle.layout.proofs.Cursors.{Moves, RowFits, after_moves, least_along, past_least, start_least, start_most}
use Rattle.layout.proofs.Runs.{EachRun}

-- a member within two addresses
pub record Within (from to : ℕ) (m : Member) : Type 0 where
  pub first : from ≤ m.start
  pub last : m.start + m.size ≤ to

-- one that may have no byte, and stands where an output section would start
pub record Near (from to : ℕ) (m : Member) : Type 0 where
  pub first : from ≤ m.start
  pub low : m.start < to + ALIGN_MAX

within_from : (sizes : List (List Cut)) (from to c : ℕ) (rows : List Row) → from ≤ c → past sizes c rows ≤ to → All (RowFits sizes) rows
    → All (Within from to) (members_from sizes c rows)
within_from sizes from to c [] le end all = All-nil (Within from to)
within_from sizes from to c (row ∷ rows) le end all =
    let here : c ≤ up c row.align = up_least c row.align (All-head (RowFits sizes) row rows all).some in
    let e : ℕ = up c row.align + size_at sizes (up c row.align) row in
    let more : e ≤ past sizes e rows = past_least sizes e rows (All-tail (RowFits sizes) row rows all) in
    All-cons (Within from to) (member_at sizes (up c row.align) row) (members_from sizes e rows)
    (record { first = omega arith; last = omega arith })
    (within_from sizes from to e rows (omega arith) end (All-tail (RowFits sizes) row rows all))

near_within : (from to : ℕ) (ms : List Member) → All (Within from to) ms → All (Near from to) ms
near_within from to ms all = λ k d lt. record { first = (all k d lt).first; low = omega (arith, (all k d lt).last) }

near_still : (from to start : ℕ) (rows : List Row) → from ≤ start → start < to + ALIGN_MAX → All (Near from to) (members_still start rows)
near_still from to start [] le near = All-nil (Near from to)
near_still from to start (row ∷ rows) le near =
    All-cons (Near from to) (still start row) (members_still start rows) (record { first = le; low = near }) (near_still from to start rows le near)

in_by : (b : Bool) (sizes : List (List Cut)) (from to : ℕ) (c : Cursor) (rows : List Row) → is_empty rows ≡ b → c.extra ≤ ALIGN_MAX → from ≤ c.at
    → (if b then c else cursor_at (past sizes (start_of c rows) rows)).at ≤ to → All (RowFits sizes) rows
    → All (Near from to) (if b then members_still (start_of c rows) rows else members_from sizes (start_of c rows) rows)
    × All (Within from to) (if b then [] else members_from sizes (start_of c rows) rows)
in_by true sizes from to c rows e extra le end all =
    let least : c.at ≤ start_of c rows = start_least c rows in
    let most : start_of c rows < c.at + ALIGN_MAX = start_most sizes c rows extra all in
    (near_still from to (start_of c rows) rows (omega arith) (omega arith), All-nil (Within from to))
in_by false sizes from to c rows e extra le end all =
    let least : c.at ≤ start_of c rows = start_least c rows in
    let within = within_from sizes from to (start_of c rows) rows (omega arith) end all in
    (near_within from to (members_from sizes (start_of c rows) rows) within, within)

both_in : (sizes : List (List Cut)) (from to : ℕ) (c : Cursor) (rows : List Row) → c.extra ≤ ALIGN_MAX → from ≤ c.at → (after sizes c rows).at ≤ to → All (RowFits sizes) rows
    → All (Near from to) (stands_in sizes c rows) × All (Within from to) (members_in sizes c rows)
unfolding stands_in members_in after
both_in sizes from to c rows extra le end all = in_by (is_empty rows) sizes from to c rows refl extra le end all

pub both_along : (sizes : List (List Cut)) (from to : ℕ) (c : Cursor) (os : List (List Row)) → c.extra ≤ ALIGN_MAX → from ≤ c.at → (end_along sizes c os).at ≤ to
    → EachRun (RowFits sizes) os → All (Near from to) (stands_along sizes c os) × All (Within from to) (members_along sizes c os)
both_along sizes from to c [] extra le end all = (All-nil (Near from to), All-nil (Within from to))
both_along sizes from to c (o ∷ os) extra le end all =
    let moves : Moves c (after sizes c o) _ = after_moves sizes c o extra all.0 in
    let later : (after sizes c o).at ≤ (end_along sizes (after sizes c o) os).at = least_along sizes (after sizes c o) os moves.extra all.1 in
    let one = both_in sizes from to c o extra le (omega arith) all.0 in
    let more = both_along sizes from to (after sizes c o) os moves.extra (omega (arith, moves.least)) end all.1 in (
      All-append (Near from to) (stands_in sizes c o) (stands_along sizes (after sizes c o) os) one.0 more.0,
      All-append (Within from to) (members_in sizes c o) (members_along sizes (after sizes c o) os) one.1 more.1,
    )

-- one after the other
order_from : (sizes : List (List Cut)) (from c : ℕ) (rows : List Row) (later : List Member) → from ≤ c → All (RowFits sizes) rows
    → ((f : ℕ) → f ≤ past sizes c rows → AreInOrder f later) → AreInOrder from (members_from sizes c rows ++ later)
order_from sizes from c [] later le all k = k from le
order_from sizes from c (row ∷ rows) later le all k =
    let here : c ≤ up c row.align = up_least c row.align (All-head (RowFits sizes) row rows all).some in
    let e : ℕ = up c row.align + size_at sizes (up c row.align) row in
    (omega arith, order_from sizes e e rows later (omega arith) (All-tail (RowFits sizes) row rows all) k)

order_by : (b : Bool) (sizes : List (List Cut)) (from : ℕ) (c : Cursor) (rows : List Row) (later : List Member) → is_empty rows ≡ b → from ≤ c.at → All (RowFits sizes) rows
    → ((f : ℕ) → f ≤ (if b then c else cursor_at (past sizes (start_of c rows) rows)).at → AreInOrder f later)
    → AreInOrder from ((if b then [] else members_from sizes (start_of c rows) rows) ++ later)
order_by true sizes from c rows later e le all k = k from le
order_by false sizes from c rows later e le all k =
    let least : c.at ≤ start_of c rows = start_least c rows in
    order_from sizes from (start_of c rows) rows later (omega arith) all k

order_in : (sizes : List (List Cut)) (from : ℕ) (c : Cursor) (rows : List Row) (later : List Member) → from ≤ c.at → All (RowFits sizes) rows
    → ((f : ℕ) → f ≤ (after sizes c rows).at → AreInOrder f later) → AreInOrder from (members_in sizes c rows ++ later)
unfolding members_in after
order_in sizes from c rows later le all k = order_by (is_empty rows) sizes from c rows later refl le all k

pub order_along : (sizes : List (List Cut)) (from : ℕ) (c : Cursor) (os : List (List Row)) (later : List Member) → from ≤ c.at → EachRun (RowFits sizes) os
    → ((f : ℕ) → f ≤ (end_along sizes c os).at → AreInOrder f later) → AreInOrder from (members_along sizes c os ++ later)
order_along sizes from c [] later le all k = k from le
order_along sizes from c (o ∷ os) later le all k =
    rw (append_assoc (members_in sizes c o) (members_along sizes (after sizes c o) os) later)
    (order_in sizes from c o _ le all.0 (λ f follows. order_along sizes f (after sizes c o) os later follows all.1 k))
