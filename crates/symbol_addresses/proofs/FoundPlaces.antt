-- The first of a list of output sections, as they are held and as plain records.
use Rattle.std.proofs.Common.{◌≡◌, ℕ, ◌+◌, ◌<◌, ◌^◌, Bool, true, false, cond, Option, Some, List, [], ◌∷◌, ◌++◌, map, refl, sym, ap, ◌∙◌}
use Rattle.std.specs.Prelude.{option_map, find, reverse}
use Rattle.std.specs.List.{All}
use Rattle.std.proofs.lemmas.List.{reverse-append}
use Rattle.std.proofs.lemmas.List.Elements.{All-head, All-tail}
use Rattle.link_sections.specs.declared.layouts.OutputPlace.{OutputPlace as HeldPlace}
use Rattle.link_sections.specs.Addresses.{rw_place, start_or}
use Rattle.link_sections.specs.LaidOut.{LaidOut, OutputPlace, place_view}
use Rattle.symbol_addresses.specs.Extents.{HasRoom}

-- one of two that may be there
view_either : (b : Bool) (x : HeldPlace) (o : Option HeldPlace) (v : Option OutputPlace) → option_map place_view o ≡ v →
    option_map place_view (cond b (Some x) o) ≡ cond b (Some (place_view x)) v
view_either true x o v is = refl
view_either false x o v is = is

pub view_found : (p : OutputPlace → Bool) (xs : List HeldPlace) → option_map place_view (find (λ x. p (place_view x)) xs) ≡ find p (map place_view xs)
view_found p [] = refl
view_found p (x ∷ xs) = view_either (p (place_view x)) x (find (λ y. p (place_view y)) xs) (find p (map place_view xs)) (view_found p xs)

map_append : (xs ys : List HeldPlace) → map place_view (xs ++ ys) ≡ map place_view xs ++ map place_view ys
map_append [] ys = refl
map_append (x ∷ xs) ys = ap (λ l. place_view x ∷ l) (map_append xs ys)

pub view_reverse : (xs : List HeldPlace) → map place_view (reverse xs) ≡ reverse (map place_view xs)
view_reverse [] = refl
view_reverse (x ∷ xs) =
    ap (map place_view) (reverse-append (x ∷ []) xs) ∙ map_append (reverse xs) (x ∷ []) ∙ ap (λ l. l ++ place_view x ∷ []) (view_reverse xs)
    ∙ sym (reverse-append (place_view x ∷ []) (map place_view xs))

-- an output section that is found has room after its start
start_either : (b : Bool) (x : OutputPlace) (o : Option OutputPlace) (without : ℕ) → x.start + 2 ^ 31 < 2 ^ 64 → start_or without o + 2 ^ 31 < 2 ^ 64 →
    start_or without (cond b (Some x) o) + 2 ^ 31 < 2 ^ 64
start_either true x o without one other = one
start_either false x o without one other = other

start_found : (p : OutputPlace → Bool) (xs : List OutputPlace) (without : ℕ) → without + 2 ^ 31 < 2 ^ 64 → All (λ (x : OutputPlace). x.start + 2 ^ 31 < 2 ^ 64) xs →
    start_or without (find p xs) + 2 ^ 31 < 2 ^ 64
start_found p [] without low all = low
start_found p (x ∷ xs) without low all =
    let P : OutputPlace → Type 0 = λ y. y.start + 2 ^ 31 < 2 ^ 64 in
    start_either (p x) x (find p xs) without (All-head P x xs all) (start_found p xs without low (All-tail P x xs all))

pub pointer_few : (laid : LaidOut) (name : List ℕ) → HasRoom laid → start_or laid.bounds.tls_bits_end (rw_place laid name) + 2 ^ 31 < 2 ^ 64
unfolding rw_place
pointer_few laid name room = start_found _ laid.places laid.bounds.tls_bits_end room.pointer room.places
