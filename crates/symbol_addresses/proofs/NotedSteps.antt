-- What is noted of the names of output sections, one output section more.
use Rattle.std.proofs.Common.{◌≡◌, ℕ, zero, suc, ◌+◌, ◌<◌, Bor, length, map, take, get_or, arith, Bool, true, false, Option, Some, None, List, [], ◌∷◌, ◌++◌, refl, sym, ap, ◌∙◌, inl, inr}
use Rattle.std.specs.Prelude.{if◌then◌else◌, option_map, find, reverse}
use Rattle.std.specs.HashMap.{HashMap}
use Rattle.std.specs.Map.{lookup}
use Rattle.std.specs.Option.{option_map_or, option_or}
use Rattle.std.specs.Str.{bytes_eq}
use Rattle.std.proofs.lemmas.Bool.{cases_Bool}
use Rattle.std.proofs.lemmas.List.{reverse-append}
use Rattle.std.proofs.lemmas.List.Folds.{find-append}
use Rattle.std.proofs.lemmas.Slice.Eq.{bytes_eq-Decides}
use Rattle.link_sections.specs.Addresses.{has_name}
use Rattle.link_sections.specs.declared.layouts.OutputPlace.{OutputPlace as HeldPlace}
use Rattle.link_sections.specs.LaidOut.{OutputPlace, place_view}
use Rattle.symbol_addresses.specs.declared.places.Extent.{Extent}
use Rattle.symbol_addresses.specs.Noted.{AreExtents, grown, noted}

abbrev start_of : Option Extent → Option ℕ
start_of o = option_map (λ (e : Extent). e.start) o

abbrev end_of : Option Extent → Option ℕ
end_of o = option_map (λ (e : Extent). e.end) o

abbrev first_of : Option OutputPlace → Option ℕ
first_of o = option_map (λ (p : OutputPlace). p.start) o

abbrev last_of : Option OutputPlace → Option ℕ
last_of o = option_map (λ (p : OutputPlace). p.end) o

-- an output section of a name that others may have
start_grown : (e : Option Extent) (o : Option OutputPlace) (p : OutputPlace) → start_of e ≡ first_of o → start_of (Some (grown e p)) ≡ first_of (option_or o (Some p))
start_grown None None p is = refl
start_grown None (Some q) p is = cc
start_grown (Some e) None p is = cc
start_grown (Some e) (Some q) p is = is

one_or_none : (b : Bool) (p : OutputPlace) (o : Option OutputPlace) → b ≡ false → option_or o (if b then Some p else None) ≡ o
one_or_none true p o is = cc
one_or_none false p None is = refl
one_or_none false p (Some q) is = refl

module _ (places : List OutputPlace) (p : OutputPlace) (old new : List ℕ → Option Extent) (name : List ℕ) where
  first_more : AreExtents places old → new name ≡ (if bytes_eq p.name name then Some (grown (old p.name) p) else old name) →
      start_of (new name) ≡ first_of (find (has_name name) (places ++ p ∷ []))
  first_more held is = elim (cases_Bool (bytes_eq p.name name)) [
    | inl same ↦
        let own : p.name ≡ name = (bytes_eq-Decides p.name name).0 same in
        ap start_of (is ∙ ap (λ b. if b then Some (grown (old p.name) p) else old name) same)
        ∙ ap (λ n. start_of (Some (grown (old n) p))) own
        ∙ start_grown (old name) (find (has_name name) places) p (held.starts name)
        ∙ ap (λ b. first_of (option_or (find (has_name name) places) (if b then Some p else None))) (sym same)
        ∙ ap first_of (sym (find-append (has_name name) places (p ∷ [])))
    | inr other ↦
        ap start_of (is ∙ ap (λ b. if b then Some (grown (old p.name) p) else old name) other)
        ∙ held.starts name
        ∙ ap first_of (sym (one_or_none (bytes_eq p.name name) p (find (has_name name) places) other))
        ∙ ap first_of (sym (find-append (has_name name) places (p ∷ [])))
  ]

  last_more : AreExtents places old → new name ≡ (if bytes_eq p.name name then Some (grown (old p.name) p) else old name) →
      end_of (new name) ≡ last_of (find (has_name name) (reverse (places ++ p ∷ [])))
  last_more held is =
      let turned : last_of (find (has_name name) (reverse (places ++ p ∷ []))) ≡ last_of (if bytes_eq p.name name then Some p else find (has_name name) (reverse places)) =
      ap (λ ps. last_of (find (has_name name) ps)) (reverse-append places (p ∷ [])) in
      elim (cases_Bool (bytes_eq p.name name)) [
        | inl same ↦
            ap end_of (is ∙ ap (λ b. if b then Some (grown (old p.name) p) else old name) same)
            ∙ ap (λ b. last_of (if b then Some p else find (has_name name) (reverse places))) (sym same)
            ∙ sym turned
        | inr other ↦
            ap end_of (is ∙ ap (λ b. if b then Some (grown (old p.name) p) else old name) other)
            ∙ held.ends name
            ∙ ap (λ b. last_of (if b then Some p else find (has_name name) (reverse places))) (sym other)
            ∙ sym turned
      ]

pub extents_more : (places : List OutputPlace) (p : OutputPlace) (old new : List ℕ → Option Extent) → AreExtents places old →
    ((name : List ℕ) → new name ≡ (if bytes_eq p.name name then Some (grown (old p.name) p) else old name)) → AreExtents (places ++ p ∷ []) new
extents_more places p old new held is = record {
  starts = λ name. first_more places p old new name held (is name);
  ends = λ name. last_more places p old new name held (is name);
}

-- the ends of an extent that is looked up
pub start_is : (e : Option Extent) (o : Option OutputPlace) (without : ℕ) → start_of e ≡ first_of o →
    option_map_or (λ (x : Extent). x.start) e without ≡ option_map_or (λ (p : OutputPlace). p.start) o without
start_is None None without is = refl
start_is None (Some q) without is = cc
start_is (Some e) None without is = cc
start_is (Some e) (Some q) without is = ap (λ (x : Option ℕ). option_map_or (λ n. n) x without) is

pub end_is : (e : Option Extent) (o : Option OutputPlace) (without : ℕ) → end_of e ≡ last_of o →
    option_map_or (λ (x : Extent). x.end) e without ≡ option_map_or (λ (p : OutputPlace). p.end) o without
end_is None None without is = refl
end_is None (Some q) without is = cc
end_is (Some e) None without is = cc
end_is (Some e) (Some q) without is = ap (λ (x : Option ℕ). option_map_or (λ n. n) x without) is

-- nothing is noted at first
pub none_noted : {S : Type 0} (known : HashMap (Bor (List ℕ)) Extent S) → known.entries ≡ [] → AreExtents [] (noted known)
unfolding noted
none_noted known is = record {
  starts = λ name. ap (λ (es : List (Bor (List ℕ) × Extent)). start_of (lookup (λ k. bytes_eq name k.now) es)) is;
  ends = λ name. ap (λ (es : List (Bor (List ℕ) × Extent)). end_of (lookup (λ k. bytes_eq name k.now) es)) is;
}

-- one more of a list
pub view_more : (places : List HeldPlace) (i : ℕ) (d : HeldPlace) → i < length places →
    map place_view (take (i + 1) places) ≡ map place_view (take i places) ++ place_view (get_or places i d) ∷ []
view_more [] i d lt = absurd (omega (arith, lt))
view_more (p ∷ ps) zero d lt = refl
view_more (p ∷ ps) (suc i) d lt =
    let on : suc i + 1 ≡ suc (i + 1) = omega arith in
    ap (λ n. map place_view (take n (p ∷ ps))) on ∙ ap (λ l. place_view p ∷ l) (view_more ps i d (omega (arith, lt)))
