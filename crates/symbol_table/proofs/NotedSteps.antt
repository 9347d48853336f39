-- The numbers of output sections, noted from the last one on.
use Rattle.std.proofs.Common.{◌≡◌, ℕ, suc, ◌+◌, ◌-◌, ◌<◌, ◌≤◌, ◌==◌, ◌&&◌, Bool, true, false, Option, Some, List, [], ◌∷◌, length, map, drop, get_or, ⊎_elim, refl, sym, ap, ◌∙◌, subst, arith}
use Rattle.std.specs.Prelude.{if◌then◌else◌}
use Rattle.std.specs.HashMap.{HashMap}
use Rattle.std.specs.Map.{lookup}
use Rattle.std.specs.Str.{bytes_eq}
use Rattle.std.proofs.Math.Seq.{drop-cons, drop-length}
use Rattle.std.proofs.lemmas.Bool.{cases_Bool}
use Rattle.std.proofs.lemmas.Slice.Eq.{bytes_eq-Decides}
use Rattle.link_sections.specs.declared.layouts.OutputSection.{OutputSection as HeldSection}
use Rattle.link_sections.specs.LaidOut.{OutputSection, output_view}
use Rattle.symbol_table.specs.Noted.{AreNoted, HeldKey, has, noted}
use Rattle.symbol_table.specs.Outputs.{first_passing}

turned : (a b : Bool) → (a && b) ≡ (b && a)
turned true true = refl
turned true false = refl
turned false true = refl
turned false false = refl

-- two names are equal, the one to the other and the other to the one
alike : (s t : List ℕ) → bytes_eq s t ≡ bytes_eq t s
alike s t = ⊎_elim
    (λ (is : bytes_eq s t ≡ true). is ∙ sym ((bytes_eq-Decides t s).1 (sym ((bytes_eq-Decides s t).0 is))))
    (λ (no : bytes_eq s t ≡ false). ⊎_elim
    (λ (back : bytes_eq t s ≡ true). (bytes_eq-Decides s t).1 (sym ((bytes_eq-Decides t s).0 back)) ∙ sym back)
    (λ (none : bytes_eq t s ≡ false). no ∙ sym none)
    (cases_Bool (bytes_eq t s)))
    (cases_Bool (bytes_eq s t))

-- a key has the name first, and an output section is asked for its class first
pub by_class_first : (own name : List ℕ) (k class : ℕ) → (bytes_eq own name && k == class) ≡ (k == class && bytes_eq name own)
by_class_first own name k class = turned (bytes_eq own name) (k == class) ∙ ap (λ t. k == class && t) (alike own name)

pub none_noted : {S : Type 0} (known : HashMap HeldKey ℕ S) (list : List HeldSection) → known.entries ≡ [] → AreNoted (length list + 1) (map output_view (drop (length list) list)) (noted known)
unfolding noted
none_noted known list is = λ name class.
    ap (λ (es : List (HeldKey × ℕ)). lookup (λ k. bytes_eq name k.0.now && class == k.1) es) is
    ∙ ap (λ (os : List HeldSection). first_passing (has name class) (length list + 1) (map output_view os)) (sym (drop-length list))

pub more_noted : (list : List HeldSection) (left : ℕ) (d : HeldSection) (old new : List ℕ → ℕ → Option ℕ) → 0 < left → left ≤ length list
    → AreNoted (left + 1) (map output_view (drop left list)) old
    → ((name : List ℕ) (class : ℕ) → new name class ≡ (if has name class (output_view (get_or list (left - 1) d)) then Some left else old name class))
    → AreNoted (left - 1 + 1) (map output_view (drop (left - 1) list)) new
more_noted list left d old new some le held told = λ name class.
    let o : OutputSection = output_view (get_or list (left - 1) d) in
    let own : left - 1 + 1 ≡ left = omega (arith, some) in
    let next : suc (left - 1) ≡ left = omega (arith, some) in
    told name class
    ∙ ap (λ n. if has name class o then Some left else n) (held name class)
    ∙ ap (λ n. if has name class o then Some n else first_passing (has name class) (n + 1) (map output_view (drop left list))) (sym own)
    ∙ ap (λ k. first_passing (has name class) (left - 1 + 1) (o ∷ map output_view (drop k list))) (sym next)
    ∙ ap (λ (os : List HeldSection). first_passing (has name class) (left - 1 + 1) (map output_view os)) (sym (drop-cons list (left - 1) d (omega (arith, some, le))))

pub all_noted : (list : List HeldSection) (left : ℕ) (of : List ℕ → ℕ → Option ℕ) → left ≡ 0 → AreNoted (left + 1) (map output_view (drop left list)) of → AreNoted 1 (map output_view list) of
all_noted list left of none held =
    let P : ℕ → Type 0 = λ n. AreNoted (n + 1) (map output_view (drop n list)) of in
    subst P none held
