-- Going back from a place of the queue to its first.
use Rattle.std.proofs.Common.{◌≡◌, ℕ, ◌<◌, List, [], ◌∷◌, ◌++◌, length, get_or, reverse, sym, ap, ◌∙◌, append_assoc, append-nil}
use Rattle.std.proofs.lemmas.List.{reverse-append}
use Rattle.why_chain.specs.Visits.{AreWords}

-- the numbers so far, from the last on, and what leads to the place that is reached, are what leads to the first place
abbrev pub IsBack : (numbers froms : List ℕ) (place at : ℕ) (list : List ℕ) → Type 0
IsBack numbers froms place at list = (word : ℕ → List ℕ) → AreWords numbers froms word → word place ≡ word at ++ reverse list

pub back_starts : (numbers froms : List ℕ) (place : ℕ) → IsBack numbers froms place place []
back_starts numbers froms place = λ word are. sym (append-nil (word place))

pub back_more : (numbers froms : List ℕ) (place at : ℕ) (list more : List ℕ) → 0 < at → at < length froms → IsBack numbers froms place at list →
    more ≡ list ++ get_or numbers at 0 ∷ [] → IsBack numbers froms place (get_or froms at 0) more
back_more numbers froms place at list more pos less held is = λ word are.
    held word are ∙ ap (λ (w : List ℕ). w ++ reverse list) (are.next at pos less)
    ∙ append_assoc (word (get_or froms at 0)) (get_or numbers at 0 ∷ []) (reverse list)
    ∙ ap (λ (w : List ℕ). word (get_or froms at 0) ++ w) (sym (ap reverse is ∙ reverse-append list (get_or numbers at 0 ∷ [])))

pub back_ends : (numbers froms : List ℕ) (place at : ℕ) (list : List ℕ) → at ≡ 0 → IsBack numbers froms place at list → (word : ℕ → List ℕ) → AreWords numbers froms word → reverse list ≡ word place
back_ends numbers froms place at list none held word are =
    sym (held word are ∙ ap (λ (w : List ℕ). w ++ reverse list) (ap word none ∙ are.first))
