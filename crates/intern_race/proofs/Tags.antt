-- Texts that have other tags are unequal.
use Rattle.std.proofs.Common.{◌≡◌, ◌≢◌, ℕ, ◌<◌, true, false, List, [], length, get_or, sym, ap, ◌∙◌, arith}
use Rattle.std.specs.Prelude.{◌==◌, ◌&&◌, nat_lt, not}
use Rattle.std.specs.Str.{bytes_eq}
use Rattle.std.proofs.lemmas.Bool.{and_parts, eqb-false, false_from_ne_true, ltb-true, not-true}
use Rattle.std.proofs.lemmas.Slice.Eq.{bytes_eq-Decides}
use Rattle.intern_race.specs.Hash.{hash_of, tag_of}
use Rattle.intern_race.specs.Texts.{AreTags, tag_at, text_at}

pub told_apart : (texts : List (List ℕ)) (tags : List ℕ) (n i tag : ℕ) → AreTags texts tags → tag ≡ tag_at texts i → (nat_lt n (length tags) && not (get_or tags n 0 == tag)) ≡ true
    → false ≡ bytes_eq (text_at texts n) (text_at texts i)
told_apart texts tags n i tag are own is =
    let parts = and_parts (nat_lt n (length tags)) (not (get_or tags n 0 == tag)) is in
    let within : n < length tags = ltb-true n (length tags) parts.0 in
    let other : get_or tags n 0 ≢ tag = eqb-false (get_or tags n 0) tag (not-true (get_or tags n 0 == tag) parts.1) in
    let d = bytes_eq-Decides (text_at texts n) (text_at texts i) in
    sym (false_from_ne_true (bytes_eq (text_at texts n) (text_at texts i))
    (λ (equal : bytes_eq (text_at texts n) (text_at texts i) ≡ true). absurd (other (are n within ∙ ap (λ t. tag_of (hash_of t)) (d.0 equal) ∙ sym own))))

pub no_tags : (texts : List (List ℕ)) (tags : List ℕ) → tags ≡ [] → AreTags texts tags
no_tags texts tags none i lt = let long = ap length none in absurd (omega (arith, long, lt))
