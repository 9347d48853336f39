-- The symbols of an object, made one after the other.
use Rattle.std.proofs.Common.{◌≡◌, ℕ, ◌+◌, ◌-◌, ◌*◌, ◌<◌, List, [], ◌∷◌, ◌++◌, length, map, append_assoc, refl, ap, sym, ◌∙◌}
use Rattle.std.proofs.lemmas.List.{map-append}
use Rattle.std.specs.List.{range_with_len}
use Rattle.std.specs.Prelude.{decimal}
use Rattle.lk_base.proofs.Loops.{range_at}
use Rattle.link_gen.specs.declared.symbols.Symbol.{Symbol as Line}
use Rattle.link_gen.specs.Contents.{symbol_view}
use Rattle.link_gen.specs.Elf.{Symbol}
use Rattle.link_gen.specs.Generated.{ret, called, f_code, function, g_code, named_symbols, start, undefined}
use Rattle.link_gen.proofs.Lengths.{ret_length, g_length}

-- one symbol more
pub one_more : (old new : List Line) (s : Line) (view : Symbol) (before : List Symbol) → new ≡ old ++ s ∷ [] → symbol_view s ≡ view
    → map symbol_view old ≡ before → map symbol_view new ≡ before ++ view ∷ []
one_more old new s view before e is was =
    ap (map symbol_view) e ∙ map-append symbol_view old (s ∷ []) ∙ ap (λ l. l ++ symbol_view s ∷ []) was ∙ ap (λ v. before ++ v ∷ []) is

-- the symbols of other objects, one more
pub called_step : (old new : List Line) (s : Line) (i n : ℕ) (whole : List Symbol) → new ≡ old ++ s ∷ [] → symbol_view s ≡ undefined i → i < n
    → map symbol_view old ++ map undefined (range_with_len i (n - i)) ≡ whole
    → map symbol_view new ++ map undefined (range_with_len (i + 1) (n - (i + 1))) ≡ whole
called_step old new s i n whole e is lt held =
    let rest : List Symbol = map undefined (range_with_len (i + 1) (n - (i + 1))) in
    ap (λ l. l ++ rest) (one_more old new s (undefined i) (map symbol_view old) e is refl)
    ∙ append_assoc (map symbol_view old) (undefined i ∷ []) rest ∙ ap (λ l. map symbol_view old ++ map undefined l) (sym (range_at i n lt)) ∙ held

pub symbols_are : (k n count : ℕ) (s0 s1 s2 s3 s4 s5 : List Line) (f g d : Line) (size : ℕ) → s0 ≡ []
    → map symbol_view s1 ≡ map symbol_view s0 ++ start k (1 + count) → s2 ≡ s1 ++ f ∷ [] → s3 ≡ s2 ++ g ∷ [] → s4 ≡ s3 ++ d ∷ []
    → map symbol_view s5 ≡ map symbol_view s4 ++ map undefined (range_with_len (2 * k + 1) count)
    → count ≡ length (called k n) → called k n ≡ range_with_len (2 * k + 1) count → size ≡ length (f_code (1 + count))
    → symbol_view f ≡ function (102 ∷ decimal k) 1 size → symbol_view g ≡ function (103 ∷ decimal k) 3 8
    → symbol_view d ≡ function (100 ∷ decimal k) 4 4 → map symbol_view s5 ≡ named_symbols k n
unfolding named_symbols
symbols_are k n count s0 s1 s2 s3 s4 s5 f g d size e0 e1 e2 e3 e4 e5 count_is called_is size_is f_is g_is d_is =
    let begun : List Symbol = start k (1 + count) in
    let first : map symbol_view s1 ≡ begun = e1 ∙ ap (λ l. map symbol_view l ++ begun) e0 in
    let f_view : Symbol = function (102 ∷ decimal k) 1 (length (f_code (1 + count))) in
    let g_view : Symbol = function (103 ∷ decimal k) 3 (length (g_code k)) in
    let d_view : Symbol = function (100 ∷ decimal k) 4 (length ret) in
    let second : map symbol_view s2 ≡ begun ++ f_view ∷ [] =
    one_more s1 s2 f f_view begun e2 (f_is ∙ ap (function (102 ∷ decimal k) 1) size_is) first in
    let third : map symbol_view s3 ≡ (begun ++ f_view ∷ []) ++ g_view ∷ [] =
    one_more s2 s3 g g_view (begun ++ f_view ∷ []) e3 (g_is ∙ ap (function (103 ∷ decimal k) 3) (g_length k)) second in
    let fourth : map symbol_view s4 ≡ ((begun ++ f_view ∷ []) ++ g_view ∷ []) ++ d_view ∷ [] =
    one_more s3 s4 d d_view ((begun ++ f_view ∷ []) ++ g_view ∷ []) e4 (d_is ∙ ap (function (100 ∷ decimal k) 4) ret_length) third in
    let others : List Symbol = map undefined (range_with_len (2 * k + 1) count) in
    e5 ∙ ap (λ l. l ++ others) fourth ∙ append_assoc ((begun ++ f_view ∷ []) ++ g_view ∷ []) (d_view ∷ []) others
    ∙ append_assoc (begun ++ f_view ∷ []) (g_view ∷ []) (d_view ∷ others) ∙ append_assoc begun (f_view ∷ []) (g_view ∷ d_view ∷ others)
    ∙ ap (λ l. begun ++ (f_view ∷ g_view ∷ d_view ∷ map undefined l)) (sym called_is)
    ∙ ap (λ m. start k (1 + m) ++ (function (102 ∷ decimal k) 1 (length (f_code (1 + m))) ∷ g_view ∷ d_view ∷ map undefined (called k n))) count_is
