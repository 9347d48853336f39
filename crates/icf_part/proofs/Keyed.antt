-- The items of a list, each after its label.
use Rattle.std.proofs.Common.{◌≡◌, ℕ, ◌/◌, ◌%◌, ◌<◌, ◌^◌, List, map, get_or, Contains, ap, ◌∙◌, subst, arith}
use Rattle.std.specs.Prelude.{All}
use Rattle.std.proofs.lemmas.List.Elements.{All-contains}
use Rattle.lk_base.proofs.Membership.{from_map, in_map}
use Rattle.icf_part.specs.Classes.{AreSplit, word}

abbrev pub keyed : (labels list : List ℕ) → List ℕ
keyed labels list = map (λ a. word (get_or labels a 0) a) list

of_keyed : (n : ℕ) (labels list : List ℕ) (a : ℕ) → n < 2 ^ 31 → a < n → All (λ x. x < n) list → Contains (keyed labels list) (word (get_or labels a 0) a) → Contains list a
of_keyed n labels list a few la within has =
    let found = from_map (λ x. word (get_or labels x 0) x) list (word (get_or labels a 0) a) has in
    let lx : found.x < n = All-contains (λ x. x < n) list found.x within found.listed in
    let is = found.is in
    let same : found.x ≡ a = omega (arith, is, lx, la, few) in
    let P : ℕ → Type 0 = Contains list in
    subst P same found.listed

pub keyed_told : (n : ℕ) (labels list keys : List ℕ) → n < 2 ^ 31 → All (λ x. x < n) list → ((w : ℕ) → Contains keys w → Contains (keyed labels list) w) → (w : ℕ) → Contains keys w →
    (w % 2 ^ 32 < n) × (get_or labels (w % 2 ^ 32) 0 ≡ w / 2 ^ 32)
keyed_told n labels list keys few within only w has =
    let found = from_map (λ x. word (get_or labels x 0) x) list w (only w has) in
    let lx : found.x < n = All-contains (λ x. x < n) list found.x within found.listed in
    let is = found.is in
    let low : w % 2 ^ 32 ≡ found.x = omega (arith, is, lx, few) in
    let high : get_or labels found.x 0 ≡ w / 2 ^ 32 = omega (arith, is, lx, few) in
    (omega (arith, low, lx), ap (λ x. get_or labels x 0) low ∙ high)

pub keyed_split : (n : ℕ) (list keys old new : List ℕ) → n < 2 ^ 31 → All (λ x. x < n) list → ((w : ℕ) → Contains (keyed old list) w → Contains keys w) →
    ((w : ℕ) → Contains keys w → Contains (keyed old list) w) → AreSplit n (λ a. Contains keys (word (get_or old a 0) a)) old new → AreSplit n (λ a. Contains list a) old new
keyed_split n list keys old new few within all only split =
    let key : ℕ → ℕ = λ a. word (get_or old a 0) a in
    let there : (a : ℕ) → Contains list a → Contains keys (key a) = λ a has. all (key a) (in_map key list a has) in
    let back : (a : ℕ) → a < n → Contains keys (key a) → Contains list a = λ a la has. of_keyed n old list a few la within (only (key a) has) in
    record {
      apart = λ a b la lb e has. back b lb (split.apart a b la lb e (there a has));
      together = λ a b la lb one two e. split.together a b la lb (λ has. there b (one (back a la has))) (λ has. there a (two (back b lb has))) e;
    }
