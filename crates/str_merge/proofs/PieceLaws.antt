-- The pieces of a section that is merged are together its bytes.
use Rattle.std.proofs.Common.{◌≡◌, ℕ, zero, suc, ◌+◌, ◌-◌, ◌*◌, ◌/◌, ◌%◌, ◌<◌, ◌&&◌, ◌||◌, ◌==◌, Bool, true, false, not, bit_and, List, [], ◌∷◌, ◌++◌, length, map, get_or, take, drop, refl, sym, ap, ◌∙◌, subst, arith, append_assoc}
use Rattle.std.specs.Prelude.{flat_map, if◌then◌else◌}
use Rattle.std.specs.List.{range_with_len}
use Rattle.std.proofs.Math.Nat.{div-add-mod'}
use Rattle.std.proofs.Math.Seq.{take-add}
use Rattle.std.proofs.lemmas.Bool.{eqb-true, eqb-false, and_parts}
use Rattle.std.proofs.lemmas.List.{append-nil, length-drop, take_all}
use Rattle.std.proofs.lemmas.List.FromFn.{get_or-map-range_with_len, length-map-range_with_len}
use Rattle.lk_base.specs.declared.abi.TheConstants.{SHF_MERGE, SHF_WRITE, SHT_PROGBITS}
use Rattle.lk_base.proofs.Loops.{flat_step}
use Rattle.lk_tables.specs.Files.{File, relocs_at, section_at}
use Rattle.link_sections.specs.MergeSections.{contents, elements, has_strings, is_ended, is_mergeable, is_whole, is_zero_char, pieces_in, section_pieces, strings_from}
use Rattle.str_merge.proofs.CutTexts.{element_of}

-- lists, one after the other
abbrev pub together : List (List ℕ) → List ℕ
together lists = flat_map (λ list. list) lists

flat_of_map : (f : ℕ → List ℕ) (ks : List ℕ) → flat_map (λ list. list) (map f ks) ≡ flat_map f ks
flat_of_map f [] = refl
flat_of_map f (k ∷ ks) = ap (λ l. f k ++ l) (flat_of_map f ks)

first_elements : (size n : ℕ) (bytes : List ℕ) → flat_map (element_of size bytes) (range_with_len 0 n) ≡ take (n * size) bytes
first_elements size zero bytes = let none : 0 * size ≡ 0 = omega arith in ap (λ k. take k bytes) (sym none)
first_elements size (suc n) bytes =
    let one : n + 1 ≡ suc n = omega arith in
    let more : n * size + size ≡ suc n * size = omega arith in
    let P : ℕ → Type 0 = λ m. flat_map (element_of size bytes) (range_with_len 0 m) ≡ take (suc n * size) bytes in
    subst P one (sym (flat_step (element_of size bytes) n (flat_map (element_of size bytes) (range_with_len 0 n)) (flat_map (element_of size bytes) (range_with_len 0 n) ++ element_of size bytes n) refl refl)
    ∙ ap (λ l. l ++ element_of size bytes n) (first_elements size n bytes) ∙ sym (take-add (n * size) size bytes) ∙ ap (λ k. take k bytes) more)

elements_together : (size : ℕ) (bytes : List ℕ) → length bytes % size ≡ 0 → together (elements size bytes) ≡ bytes
unfolding elements
elements_together size bytes even =
    let n = length bytes / size in
    let whole = div-add-mod' (length bytes) size in
    flat_of_map (element_of size bytes) (range_with_len 0 n) ∙ first_elements size n bytes ∙ take_all (n * size) bytes (omega (arith, whole, even))

-- the last of some characters is zero
abbrev Ends : (begun : List ℕ) → List (List ℕ) → Type 0
Ends begun [] = begun ≡ []
Ends begun (char ∷ []) = is_zero_char char ≡ true
Ends begun (char ∷ next ∷ chars) = Ends begun (next ∷ chars)

ends_any : (begun other : List ℕ) (char : List ℕ) (chars : List (List ℕ)) → Ends begun (char ∷ chars) → Ends other (char ∷ chars)
ends_any begun other char [] ends = ends
ends_any begun other char (next ∷ chars) ends = ends_any begun other next chars ends

strings_together : (begun : List ℕ) (chars : List (List ℕ)) → Ends begun chars → together (strings_from begun chars) ≡ begun ++ together chars
strings_together begun [] none = sym (append-nil begun ∙ none)
strings_together begun (char ∷ []) ends =
    ap (λ b. together (if b then (begun ++ char) ∷ [] else [])) ends ∙ append_assoc begun char []
strings_together begun (char ∷ next ∷ chars) ends =
    both_together (is_zero_char char) begun char (strings_from [] (next ∷ chars)) (strings_from (begun ++ char) (next ∷ chars)) (together (next ∷ chars))
    (strings_together [] (next ∷ chars) (ends_any begun [] next chars ends))
    (strings_together (begun ++ char) (next ∷ chars) (ends_any begun (begun ++ char) next chars ends))
  where
    both_together : (b : Bool) (begun char : List ℕ) (fresh going : List (List ℕ)) (rest : List ℕ) → together fresh ≡ [] ++ rest → together going ≡ (begun ++ char) ++ rest →
        together (if b then (begun ++ char) ∷ fresh else going) ≡ begun ++ (char ++ rest)
    both_together true begun char fresh going rest new same = ap (λ l. (begun ++ char) ++ l) new ∙ append_assoc begun char rest
    both_together false begun char fresh going rest new same = same ∙ append_assoc begun char rest

-- from the last character
ends_last : (begun : List ℕ) (chars : List (List ℕ)) (n : ℕ) → length chars ≡ suc n → is_zero_char (get_or chars n []) ≡ true → Ends begun chars
ends_last begun [] n count last = absurd (omega (arith, count))
ends_last begun (char ∷ []) n count last =
    let first : n ≡ 0 = omega (arith, count) in
    let P : ℕ → Type 0 = λ k. is_zero_char (get_or (char ∷ []) k []) ≡ true in subst P first last
ends_last begun (char ∷ next ∷ chars) zero count last = absurd (omega (arith, count))
ends_last begun (char ∷ next ∷ chars) (suc n) count last = ends_last begun (next ∷ chars) n (omega (arith, count)) last

last_element : (size n : ℕ) (bytes : List ℕ) → length bytes ≡ n * size + size → element_of size bytes n ≡ drop (length bytes - size) bytes
last_element size n bytes long =
    let at : n * size ≡ length bytes - size = omega (arith, long) in
    take_all size (drop (n * size) bytes) (omega (arith, long, length-drop (n * size) bytes)) ∙ ap (λ k. drop k bytes) at

not_false : (b : Bool) → not b ≡ true → b ≡ false
not_false true e = cc
not_false false e = refl

some_elements : (len size n : ℕ) → len ≡ n * size → 0 < len → 0 < n
some_elements len size zero is some = absurd (omega (arith, is, some))
some_elements len size (suc n) is some = omega arith

last_length : (len size n : ℕ) → len ≡ n * size → 0 < n → len ≡ (n - 1) * size + size
last_length len size zero is some = absurd (omega (arith, some))
last_length len size (suc n) is some =
    let one : suc n - 1 ≡ n = omega arith in
    let more : suc n * size ≡ n * size + size = omega arith in
    is ∙ more ∙ ap (λ m. m * size + size) (sym one)

-- whole elements, of which the last is zero if they are characters
whole_elements : (size : ℕ) (bytes : List ℕ) → is_whole size bytes ≡ true → (length bytes % size ≡ 0) × (0 < length bytes / size)
unfolding is_whole
whole_elements size bytes e =
    let p = and_parts (not (length bytes == 0)) (not (size == 0) && length bytes % size == 0) e in
    let q = and_parts (not (size == 0)) (length bytes % size == 0) p.1 in
    let even : length bytes % size ≡ 0 = eqb-true (length bytes % size) 0 q.1 in
    let some = eqb-false (length bytes) 0 (not_false (length bytes == 0) p.0) in
    let whole = div-add-mod' (length bytes) size in
    (even, some_elements (length bytes) size (length bytes / size) (omega (arith, whole, even)) (omega (arith, some)))

elements_end_zero : (size : ℕ) (bytes : List ℕ) → is_whole size bytes ≡ true → is_ended size bytes ≡ true → Ends [] (elements size bytes)
unfolding is_ended elements
elements_end_zero size bytes whole ended =
    let n = length bytes / size in
    let w = whole_elements size bytes whole in
    let some = w.1 in
    let even = w.0 in
    let list = map (element_of size bytes) (range_with_len 0 n) in
    let count : length list ≡ n = length-map-range_with_len (element_of size bytes) 0 n in
    let less : n ≡ suc (n - 1) = omega arith in
    let split = div-add-mod' (length bytes) size in
    let long : length bytes ≡ (n - 1) * size + size = last_length (length bytes) size n (omega (arith, split, even)) some in
    let zero_last = (and_parts (size == 1 || (size == 2 || size == 4)) (is_zero_char (drop (length bytes - size) bytes)) ended).1 in
    ends_last [] list (n - 1) (count ∙ less)
    (ap is_zero_char (get_or-map-range_with_len (element_of size bytes) 0 n (n - 1) (n - 1) [] (omega arith) (omega arith) ∙ last_element size (n - 1) bytes long) ∙ zero_last)

section_together : (b : Bool) (size : ℕ) (bytes : List ℕ) → is_whole size bytes ≡ true → (not b || is_ended size bytes) ≡ true →
    together (if b then strings_from [] (elements size bytes) else elements size bytes) ≡ bytes
section_together true size bytes whole ended =
    strings_together [] (elements size bytes) (elements_end_zero size bytes whole ended) ∙ elements_together size bytes (whole_elements size bytes whole).0
section_together false size bytes whole ended = elements_together size bytes (whole_elements size bytes whole).0

-- a section that is merged has bytes
some_bytes : (size : ℕ) (bytes : List ℕ) → is_whole size bytes ≡ true → 0 < length bytes
unfolding is_whole
some_bytes size bytes e =
    let p = and_parts (not (length bytes == 0)) (not (size == 0) && length bytes % size == 0) e in
    let some = eqb-false (length bytes) 0 (not_false (length bytes == 0) p.0) in
    omega (arith, some)

pub some_contents : (file : File) (k : ℕ) → is_mergeable file k ≡ true → 0 < length (contents file k)
unfolding is_mergeable
some_contents file k merges =
    let s = section_at file k in
    let bytes = contents file k in
    let ended = not (has_strings file k) || is_ended s.entsize bytes in
    let whole = is_whole s.entsize bytes in
    let last = and_parts whole ended (and_parts (length (relocs_at file k) == 0) (whole && ended) (and_parts (bit_and s.flags SHF_WRITE == 0) (length (relocs_at file k) == 0 && (whole && ended))
    (and_parts (s.sh_type == SHT_PROGBITS) (bit_and s.flags SHF_WRITE == 0 && (length (relocs_at file k) == 0 && (whole && ended)))
    (and_parts (not (bit_and s.flags SHF_MERGE == 0)) (s.sh_type == SHT_PROGBITS && (bit_and s.flags SHF_WRITE == 0 && (length (relocs_at file k) == 0 && (whole && ended)))) merges).1).1).1).1 in
    some_bytes s.entsize bytes last.0

pub pieces_together : (file : File) (k : ℕ) → is_mergeable file k ≡ true → together (pieces_in file k) ≡ contents file k
unfolding is_mergeable section_pieces contents
pieces_together file k merges =
    let s = section_at file k in
    let bytes = contents file k in
    let ended = not (has_strings file k) || is_ended s.entsize bytes in
    let whole = is_whole s.entsize bytes in
    let last = and_parts whole ended (and_parts (length (relocs_at file k) == 0) (whole && ended) (and_parts (bit_and s.flags SHF_WRITE == 0) (length (relocs_at file k) == 0 && (whole && ended))
    (and_parts (s.sh_type == SHT_PROGBITS) (bit_and s.flags SHF_WRITE == 0 && (length (relocs_at file k) == 0 && (whole && ended)))
    (and_parts (not (bit_and s.flags SHF_MERGE == 0)) (s.sh_type == SHT_PROGBITS && (bit_and s.flags SHF_WRITE == 0 && (length (relocs_at file k) == 0 && (whole && ended)))) merges).1).1).1).1 in
    section_together (has_strings file k) s.entsize bytes last.0 last.1
