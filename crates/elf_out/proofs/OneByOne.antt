-- Pieces of a file one after the other: each stands whole in it.
use Rattle.std.proofs.Common.{◌≡◌, ℕ, ◌+◌, ◌-◌, ◌<◌, ◌≤◌, ◌⊎◌, List, [], ◌∷◌, ◌++◌, length, take, drop, slice_index, slice_index_or, refl, ap, ◌∙◌, arith, inl, inr}
use Rattle.std.specs.List.{All}
use Rattle.std.proofs.lemmas.Bool.Decides.{nat_tests}
use Rattle.std.proofs.lemmas.List.{ext_get_or, get_or-take, get_or-drop, length-take-le, length-drop}
use Rattle.std.proofs.lemmas.List.Elements.{All-nil, All-head, All-tail, All-cons}
use Rattle.elf_out.specs.Standing.{Stands}
use Rattle.elf_out.proofs.Laying.{image_byte, image_length}
use Rattle.reloc_apply.specs.Image.{Piece, byte_over, image, over, piece}

-- from one file offset to another: each piece ends before the next one starts
abbrev pub GoUp : (from to : ℕ) → List Piece → Type 0
GoUp from to [] = from ≤ to
GoUp from to (p ∷ ps) = (from ≤ p.at) × GoUp (p.at + length p.bytes) to ps

pub up_from : (from less to : ℕ) (ps : List Piece) → less ≤ from → GoUp from to ps → GoUp less to ps
up_from from less to [] le up = omega (arith, le, up)
up_from from less to (p ∷ ps) le up = let own : from ≤ p.at = up.0 in (omega (arith, own, le), up.1)

pub up_to : (from to more : ℕ) (ps : List Piece) → to ≤ more → GoUp from to ps → GoUp from more ps
up_to from to more [] le up = omega (arith, le, up)
up_to from to more (p ∷ ps) le up = (up.0, up_to (p.at + length p.bytes) to more ps le up.1)

pub up_append : (from middle to : ℕ) (ps qs : List Piece) → GoUp from middle ps → GoUp middle to qs → GoUp from to (ps ++ qs)
up_append from middle to [] qs first second = up_from middle from to qs first second
up_append from middle to (p ∷ ps) qs first second = (first.0, up_append (p.at + length p.bytes) middle to ps qs first.1 second)

pub up_within : (from to : ℕ) (ps : List Piece) → GoUp from to ps → from ≤ to
up_within from to [] up = up
up_within from to (p ∷ ps) up =
    let own : from ≤ p.at = up.0 in
    let rest : p.at + length p.bytes ≤ to = up_within (p.at + length p.bytes) to ps up.1 in
    omega (arith, own, rest)

-- a piece that starts after a place is nothing there, and one that has it is its byte
before_piece : (at : ℕ) (bytes : List ℕ) (u place : ℕ) → place < at → over (piece at bytes) u place ≡ u
before_piece at bytes u place lt = grind (arith, nat_tests)

pub in_piece : (at : ℕ) (bytes : List ℕ) (u place : ℕ) → at ≤ place → place < at + length bytes → over (piece at bytes) u place ≡ slice_index bytes (place - at)
in_piece at bytes u place le lt = grind (arith, nat_tests)

past_piece : (at : ℕ) (bytes : List ℕ) (u place : ℕ) → at + length bytes ≤ place → over (piece at bytes) u place ≡ u
past_piece at bytes u place le = grind (arith, nat_tests)

-- nothing is written before the first of them
silent : (from to place u : ℕ) (ps : List Piece) → GoUp from to ps → place < from → byte_over u ps place ≡ u
silent from to place u [] up lt = refl
silent from to place u (p ∷ ps) up lt =
    let own : from ≤ p.at = up.0 in
    let before : place < p.at = omega (arith, own, lt) in
    ap (λ v. byte_over v ps place) (before_piece p.at p.bytes u place before)
    ∙ silent (p.at + length p.bytes) to place u ps up.1 (omega (arith, before))

-- at each place of a piece they leave its byte
abbrev pub Shows : List Piece → Piece → Type 0
Shows ps p = (u place : ℕ) → p.at ≤ place → place < p.at + length p.bytes → byte_over u ps place ≡ slice_index p.bytes (place - p.at)

shows_first : (p : Piece) (ps : List Piece) (to : ℕ) → GoUp (p.at + length p.bytes) to ps → Shows (p ∷ ps) p
shows_first p ps to up = λ u place le lt.
    silent (p.at + length p.bytes) to place (over p u place) ps up lt ∙ in_piece p.at p.bytes u place le lt

pub shows_more : (k : Piece) (ps : List Piece) (p : Piece) → Shows ps p → Shows (k ∷ ps) p
shows_more k ps p shown = λ u place le lt. shown (over k u place) place le lt

each_shows : (from to : ℕ) (ps : List Piece) → GoUp from to ps → All (Shows ps) ps
each_shows from to [] up = All-nil (Shows [])
each_shows from to (p ∷ ps) up =
    All-cons (Shows (p ∷ ps)) p ps (shows_first p ps to up.1)
    (λ i d lt. shows_more p ps (slice_index_or ps i d) (each_shows (p.at + length p.bytes) to ps up.1 i d lt))

-- each starts where the first may, or later
pub each_starts : (from to : ℕ) (ps : List Piece) → GoUp from to ps → All (λ p. from ≤ p.at) ps
each_starts from to [] up = All-nil (λ (p : Piece). from ≤ p.at)
each_starts from to (p ∷ ps) up =
    let own : from ≤ p.at = up.0 in
    let rest = each_starts (p.at + length p.bytes) to ps up.1 in
    All-cons (λ (q : Piece). from ≤ q.at) p ps own (λ i d lt. omega (arith, rest i d lt, own))

pub each_ends : (from to : ℕ) (ps : List Piece) → GoUp from to ps → All (λ p. p.at + length p.bytes ≤ to) ps
each_ends from to [] up = All-nil (λ (p : Piece). p.at + length p.bytes ≤ to)
each_ends from to (p ∷ ps) up =
    All-cons (λ (q : Piece). q.at + length q.bytes ≤ to) p ps (up_within (p.at + length p.bytes) to ps up.1)
    (each_ends (p.at + length p.bytes) to ps up.1)

-- a piece whose bytes they leave stands whole in a file that does not end before it
pub stands : (ps : List Piece) (size : ℕ) (p : Piece) → Shows ps p → p.at + length p.bytes ≤ size → Stands (image ps size) p
stands ps size p shown inside =
    let n = length p.bytes in
    let rest : length (drop p.at (image ps size)) ≡ size - p.at = length-drop p.at (image ps size) ∙ ap (λ k. k - p.at) (image_length ps size) in
    let wide : length (take n (drop p.at (image ps size))) ≡ n = length-take-le n (drop p.at (image ps size)) (omega (arith, rest, inside)) in
    ext_get_or 0 (take n (drop p.at (image ps size))) p.bytes wide
    (λ i lt. let within : i < n = omega (arith, wide, lt) in
    let back : p.at + i - p.at ≡ i = omega arith in
    get_or-take n (drop p.at (image ps size)) i 0 within ∙ get_or-drop p.at (image ps size) i 0
    ∙ image_byte ps size (p.at + i) (omega (arith, within, inside))
    ∙ shown 0 (p.at + i) (omega arith) (omega (arith, within)) ∙ ap (slice_index p.bytes) back)

-- in a file of some pieces and of others that go up each of these does, wherever the first ones end
shows_after : (before ps : List Piece) (p : Piece) → Shows ps p → Shows (before ++ ps) p
shows_after [] ps p shown = shown
shows_after (k ∷ before) ps p shown = shows_more k (before ++ ps) p (shows_after before ps p shown)

pub others_stand : (before : List Piece) (from size : ℕ) (ps : List Piece) → GoUp from size ps → All (Stands (image (before ++ ps) size)) ps
others_stand before from size ps up = λ i d lt.
    stands (before ++ ps) size (slice_index_or ps i d) (shows_after before ps (slice_index_or ps i d) (each_shows from size ps up i d lt)) (each_ends from size ps up i d lt)

-- and so does one that has no byte in common with those after it
abbrev pub IsAway : (p q : Piece) → Type 0
IsAway p q = (p.at + length p.bytes ≤ q.at) ⊎ (q.at + length q.bytes ≤ p.at)

away_piece : (at : ℕ) (bytes : List ℕ) (q : Piece) (u place : ℕ) → IsAway (piece at bytes) q → at ≤ place → place < at + length bytes → over q u place ≡ u
away_piece at bytes q u place (inl before) le lt = before_piece q.at q.bytes u place (omega (arith, before, lt))
away_piece at bytes q u place (inr after) le lt = past_piece q.at q.bytes u place (omega (arith, after, le))

away_all : (p : Piece) (ps : List Piece) (u place : ℕ) → All (IsAway p) ps → p.at ≤ place → place < p.at + length p.bytes → byte_over u ps place ≡ u
away_all p [] u place away le lt = refl
away_all p (q ∷ ps) u place away le lt =
    ap (λ v. byte_over v ps place) (away_piece p.at p.bytes q u place (All-head (IsAway p) q ps away) le lt)
    ∙ away_all p ps u place (All-tail (IsAway p) q ps away) le lt

pub shows_alone : (p : Piece) (ps : List Piece) → All (IsAway p) ps → Shows (p ∷ ps) p
shows_alone p ps away = λ u place le lt. away_all p ps (over p u place) place away le lt ∙ in_piece p.at p.bytes u place le lt
