-- What holds of each line of the table of kinds, and of no line, holds of each number's kind.
use Rattle.std.proofs.Common.{◌≡◌, ℕ, ◌≤◌, Bool, true, false, nat_le, ◌==◌, ◌&&◌, ◌||◌, not, if◌then◌else◌, IsTrue, List, [], ◌∷◌, refl, arith}
use Rattle.std.proofs.lemmas.Bool.Decides.{nat_tests}
use Rattle.lk_base.specs.RelocKinds.{FillsField, Kind, Line, HasValue, fills_field, has_value, is_uleb, kind_in, kind_of, lines, puts_value, unknown}

abbrev pub all_pass : (Kind → Bool) → List Line → Bool
all_pass test [] = true
all_pass test (l ∷ ls) = test l.kind && all_pass test ls

first : (a b : Bool) → IsTrue (a && b) → IsTrue a
first true b h = refl
first false b h = h

second : (a b : Bool) → IsTrue (a && b) → IsTrue b
second true b h = h
second false b h = cc

by_line : (test : Kind → Bool) (ls : List Line) (n : ℕ) → IsTrue (test unknown) → IsTrue (all_pass test ls) → IsTrue (test (kind_in ls n))
by_line test [] n none all = none
by_line test (l ∷ ls) n none all =
    by_test (l.number == n) (first (test l.kind) (all_pass test ls) all) (by_line test ls n none (second (test l.kind) (all_pass test ls) all))
  where
    by_test : (b : Bool) → IsTrue (test l.kind) → IsTrue (test (kind_in ls n)) → IsTrue (test (if b then l.kind else kind_in ls n))
    by_test true here later = here
    by_test false here later = later

-- a test that each line passes, and what stands for no line does, too
pub each_kind : (test : Kind → Bool) (n : ℕ) → IsTrue (test unknown) → IsTrue (all_pass test lines) → IsTrue (test (kind_of n))
unfolding kind_of
each_kind test n none all = by_line test lines n none all

few : (w : ℕ) → IsTrue (nat_le w 8) → w ≤ 8
few w h = grind (arith, nat_tests)

pub width_few : (n : ℕ) → (kind_of n).width ≤ 8
width_few n = few (kind_of n).width (each_kind (λ k. nat_le k.width 8) n refl refl)

some : (b : Bool) (w : ℕ) → IsTrue b → IsTrue (not b || nat_le 1 w) → 1 ≤ w
some true w there h = grind (arith, nat_tests)
some false w there h = cc

-- a value is put into one byte at least
pub width_some : (n : ℕ) → HasValue n → 1 ≤ (kind_of n).width
unfolding has_value
width_some n there =
    some (puts_value (kind_of n).calculation) (kind_of n).width there
    (each_kind (λ k. not (puts_value k.calculation) || nat_le 1 k.width) n refl refl)

-- what fills a field has a value, and a value that is put into no ULEB128 number fills a field
pub has_value_if : (n : ℕ) → FillsField n → HasValue n
unfolding fills_field
has_value_if n fills = first (has_value n) (not (is_uleb n)) fills

both : (a b : Bool) → IsTrue a → b ≡ false → IsTrue (a && not b)
both true b h e = rw e refl
both false b h e = h

pub fills_if : (n : ℕ) → HasValue n → is_uleb n ≡ false → FillsField n
unfolding fills_field
fills_if n has other = both (has_value n) (is_uleb n) has other
