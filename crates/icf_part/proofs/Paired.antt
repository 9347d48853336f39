-- The pairs of items that have one leader.
use Rattle.std.proofs.Common.{◌≡◌, ℕ, ◌<◌, ◌==◌, Bool, true, List, length, map, get_or, Contains, sym, ap, ◌∙◌, arith}
use Rattle.std.specs.List.{range_with_len}
use Rattle.std.proofs.lemmas.Bool.{eq-eqb, eqb-true}
use Rattle.std.proofs.lemmas.List.Elements.{All-contains, filter_passes}
use Rattle.lk_base.proofs.Membership.{from_filter, from_flat, from_map, from_range, in_filter, in_flat, in_map, in_range}
use Rattle.icf_part.specs.Folding.{Pair, pair, fellows, classes}

pub classes_have : (leaders : List ℕ) (a b : ℕ) → a < length leaders → b < length leaders → get_or leaders a 0 ≡ get_or leaders b 0 → Contains (classes leaders) (pair a b)
unfolding classes
classes_have leaders a b la lb e =
    let n = length leaders in
    let test : ℕ → Bool = λ k. get_or leaders k 0 == get_or leaders a 0 in
    in_flat (λ k. map (pair k) (fellows leaders k)) (range_with_len 0 n) a (pair a b) (in_range n a la)
    (in_map (pair a) (fellows leaders a) b (in_filter test (range_with_len 0 n) b (in_range n b lb) (eq-eqb (get_or leaders b 0) (get_or leaders a 0) (sym e))))

-- what a pair of the classes says
pub record IsClassPair (leaders : List ℕ) (a b : ℕ) : Type 0 where
  pub one : a < length leaders
  pub two : b < length leaders
  pub same : get_or leaders a 0 ≡ get_or leaders b 0

pub classes_tell : (leaders : List ℕ) (a b : ℕ) → Contains (classes leaders) (pair a b) → IsClassPair leaders a b
unfolding classes
classes_tell leaders a b has =
    let n = length leaders in
    let part = from_flat (λ k. map (pair k) (fellows leaders k)) (range_with_len 0 n) (pair a b) has in
    let k = part.x in
    let test : ℕ → Bool = λ j. get_or leaders j 0 == get_or leaders k 0 in
    let fellow = from_map (pair k) (fellows leaders k) (pair a b) part.part in
    let one : k ≡ a = ap (λ (p : Pair). p.one) fellow.is in
    let two : fellow.x ≡ b = ap (λ (p : Pair). p.two) fellow.is in
    let inside = from_range n k part.listed in
    let also = from_range n fellow.x (from_filter test (range_with_len 0 n) fellow.x fellow.listed) in
    let passes = All-contains (λ j. test j ≡ true) (fellows leaders k) fellow.x (filter_passes test (range_with_len 0 n)) fellow.listed in
    let equal = eqb-true (get_or leaders fellow.x 0) (get_or leaders k 0) passes in
    record {
      one = omega (arith, one, inside);
      two = omega (arith, two, also);
      same = ap (λ j. get_or leaders j 0) (sym one) ∙ sym equal ∙ ap (λ j. get_or leaders j 0) two;
    }
