-- What is reported is one line.
use Rattle.std.proofs.Common.{◌≡◌, ℕ, ◌<◌, Bool, true, false, ◌&&◌, List, [], ◌∷◌, ◌++◌, All, codes, refl, ap, sym, subst, arith}
use Rattle.std.specs.List.{list_all}
use Rattle.std.proofs.lemmas.List.Sums.{AllPass-from_list_all, list_all-from_AllPass}
use Rattle.lk_base.specs.Lines.{IsOneLine, escaped, is_shown}
use Rattle.lk_base.proofs.ShownBytes.{shown-append, shown-escaped}
use Rattle.link_driver.specs.Link.{about}
use Rattle.link_driver.specs.OneLine.{is_line}

not_both : false ≡ true → ⊥
not_both h = cc

both_of : (p q : Bool) → (p && q) ≡ true → (p ≡ true) × (q ≡ true)
both_of true q h = (refl, h)
both_of false q h = absurd (not_both h)

and_of : (p q : Bool) → p ≡ true → q ≡ true → (p && q) ≡ true
and_of true q hp hq = hq
and_of false q hp hq = hp

record Text (line : List ℕ) : Type 0 where
  text : List ℕ
  ends : line ≡ text ++ codes "\n"
  shown : list_all is_shown text ≡ true

text_of : (line : List ℕ) → is_line line ≡ true → Text line
text_of [] h = absurd (not_both h)
text_of (b ∷ []) h =
    let is : b ≡ 10 = grind arith in
    record { text = []; ends = ap (λ x. x ∷ []) is; shown = refl }
text_of (b ∷ c ∷ rest) h =
    let both = both_of (is_shown b) (is_line (c ∷ rest)) h in
    let more = text_of (c ∷ rest) both.1 in
    record {
      text = b ∷ more.text;
      ends = ap (λ xs. b ∷ xs) more.ends;
      shown = and_of (is_shown b) (list_all is_shown more.text) both.0 more.shown;
    }

pub one_line : (line : List ℕ) → is_line line ≡ true → IsOneLine line
one_line line h =
    let found = text_of line h in
    record { text = found.text; ends = found.ends; shown = AllPass-from_list_all is_shown found.text found.shown }

-- a text that is shown, and a newline
ends_as_line : (text : List ℕ) → list_all is_shown text ≡ true → is_line (text ++ 10 ∷ []) ≡ true
ends_as_line [] h = refl
ends_as_line (b ∷ []) h = and_of (is_shown b) true (both_of (is_shown b) true h).0 refl
ends_as_line (b ∷ c ∷ rest) h =
    let both = both_of (is_shown b) (list_all is_shown (c ∷ rest)) h in
    and_of (is_shown b) (is_line (c ∷ rest ++ 10 ∷ [])) both.0 (ends_as_line (c ∷ rest) both.1)

pub is_line_of : (line : List ℕ) → IsOneLine line → is_line line ≡ true
is_line_of line one =
    subst (λ xs. is_line xs ≡ true) (sym one.ends) (ends_as_line one.text (list_all-from_AllPass is_shown one.text one.shown))

pub about_is_line : (text name : List ℕ) → list_all is_shown text ≡ true → All (λ b. b < 256) name → is_line (about text name) ≡ true
about_is_line text name shown bytes = ends_as_line (text ++ escaped name) (shown-append text (escaped name) shown (shown-escaped name bytes))
