-- A whole object, and the objects one after the other.
use Rattle.std.proofs.Common.{◌≡◌, ℕ, ◌+◌, List, [], ◌∷◌, ◌++◌, length, append_assoc, ap, ◌∙◌}
use Rattle.std.proofs.lemmas.List.{map-append}
use Rattle.std.specs.Global.{Global, Vec}
use Rattle.std.specs.Prelude.{String, string_bytes}
use Rattle.link_gen.specs.Elf.{Section, Symbol, laid, object_header, object_of, section_headers, zeros}
use Rattle.link_gen.specs.Generated.{called, generated, named_symbols, object, object_name, objects_in, sections_with}

pub whole : (flags table count : ℕ) (sections : List Section) (o0 o1 o2 o3 o4 : List ℕ) → o0 ≡ [] → table ≡ 64 + length (laid sections)
    → count ≡ 1 + length sections → o1 ≡ o0 ++ object_header table flags count → o2 ≡ o1 ++ laid sections → o3 ≡ o2 ++ zeros 64
    → o4 ≡ o3 ++ section_headers 1 64 sections → o4 ≡ object_of flags sections
unfolding object_of
whole flags table count sections o0 o1 o2 o3 o4 e0 table_is count_is e1 e2 e3 e4 =
    let header : List ℕ = object_header table flags count in
    let headers : List ℕ = section_headers 1 64 sections in
    let first : o1 ≡ header = e1 ∙ ap (λ l. l ++ header) e0 in
    e4 ∙ ap (λ l. l ++ headers) (e3 ∙ ap (λ l. l ++ zeros 64) (e2 ∙ ap (λ l. l ++ laid sections) first))
    ∙ append_assoc (header ++ laid sections) (zeros 64) headers ∙ append_assoc header (laid sections) (zeros 64 ++ headers)
    ∙ ap (λ t. object_header t flags count ++ (laid sections ++ (zeros 64 ++ headers))) table_is
    ∙ ap (λ m. object_header (64 + length (laid sections)) flags m ++ (laid sections ++ (zeros 64 ++ headers))) count_is

pub object_is : (k n count : ℕ) (bytes : List ℕ) (sections : List Section) (symbols : List Symbol) → bytes ≡ object_of 5 sections
    → sections ≡ sections_with k (1 + count) symbols → symbols ≡ named_symbols k n → count ≡ length (called k n) → bytes ≡ object k n
unfolding object
object_is k n count bytes sections symbols bytes_are sections_are symbols_are count_is =
    bytes_are ∙ ap (object_of 5) (sections_are ∙ ap (sections_with k (1 + count)) symbols_are
    ∙ ap (λ m. sections_with k (1 + m) (named_symbols k n)) count_is)

pub listed : (old new : List (String Global × Vec ℕ)) (name : String Global) (bytes : Vec ℕ) (n k : ℕ) → new ≡ old ++ (name, bytes) ∷ []
    → string_bytes name ≡ object_name k → bytes.items ≡ object k n → objects_in new ≡ objects_in old ++ generated n k ∷ []
listed old new name bytes n k e named held =
    ap objects_in e ∙ map-append (λ (o : String Global × Vec ℕ). (string_bytes o.0, o.1.items)) old ((name, bytes) ∷ [])
    ∙ ap (λ x. objects_in old ++ (x, bytes.items) ∷ []) named ∙ ap (λ x. objects_in old ++ (object_name k, x) ∷ []) held
