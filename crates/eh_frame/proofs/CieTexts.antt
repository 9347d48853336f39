-- The bytes of CIEs are equal where the CIEs say the same.
use Rattle.std.proofs.Common.{◌≡◌, ℕ, suc, ◌<◌, ◌^◌, ℤ, Option, Some, None, List, [], ◌∷◌, ◌++◌, length, flat_map, get_or, drop, refl, sym, ap, ◌∙◌, arith, append_assoc}
use Rattle.std.specs.Int.{w64, to_le_bytes, from_le_bytes}
use Rattle.std.specs.List.{All}
use Rattle.std.specs.Str.{bytes_eq}
use Rattle.std.proofs.lemmas.Bool.Decides.{Decides-like, same_from_decides}
use Rattle.std.proofs.lemmas.List.{length-append}
use Rattle.std.proofs.lemmas.Nat.{from_le_bytes-to_le_bytes_8}
use Rattle.std.proofs.lemmas.Slice.Eq.{bytes_eq-Decides}
use Rattle.link_sections.specs.declared.targets.Target.{Target}
use Rattle.link_sections.specs.declared.targets.Target.TheVariants.{Section, Piece, Number, Zero, Linker, Unbound}
use Rattle.link_sections.proofs.SameTargets.{one_piece, one_section, signed_told, signed_wide, split_same}
use Rattle.eh_frame.specs.declared.cies.CieReloc.{CieReloc}
use Rattle.eh_frame.specs.Plan.{CieKey, IsFit, cie_text, reloc_words, same_cie, signed_words, target_words, words_bytes}
use Rattle.eh_frame.proofs.CieKeys.{cie_Decides, key_from, reloc_from}

-- a number before other bytes
wide : (w v : ℕ) (x y : List ℕ) → w < 2 ^ 64 → v < 2 ^ 64 → to_le_bytes w64 w ++ x ≡ to_le_bytes w64 v ++ y → (w ≡ v) × (x ≡ y)
wide w v x y fits also e =
    let both = split_same (to_le_bytes w64 w) (to_le_bytes w64 v) x y refl e in
    (sym (from_le_bytes-to_le_bytes_8 w fits) ∙ ap (from_le_bytes w64) both.0 ∙ from_le_bytes-to_le_bytes_8 v also, both.1)

some_bytes : (w : ℕ) (x : List ℕ) → 0 < length (to_le_bytes w64 w ++ x)
some_bytes w x = let eight : length (to_le_bytes w64 w) ≡ 8 = refl in omega (arith, eight, length-append (to_le_bytes w64 w) x)

first_fits : (w : ℕ) (ws : List ℕ) → All (λ n. n < 2 ^ 64) (w ∷ ws) → w < 2 ^ 64
first_fits w ws fit = fit 0 0 (omega arith)

others_fit : (w : ℕ) (ws : List ℕ) → All (λ n. n < 2 ^ 64) (w ∷ ws) → All (λ n. n < 2 ^ 64) ws
others_fit w ws fit = λ k d lt. fit (suc k) d (omega arith)

words_told : (ws vs : List ℕ) → All (λ n. n < 2 ^ 64) ws → All (λ n. n < 2 ^ 64) vs → words_bytes ws ≡ words_bytes vs → ws ≡ vs
unfolding words_bytes
words_told [] [] fit also e = refl
words_told [] (v ∷ vs) fit also e = absurd (omega (arith, ap length e, some_bytes v (words_bytes vs)))
words_told (w ∷ ws) [] fit also e = absurd (omega (arith, ap length e, some_bytes w (words_bytes ws)))
words_told (w ∷ ws) (v ∷ vs) fit also e =
    let both = wide w v (words_bytes ws) (words_bytes vs) (first_fits w ws fit) (first_fits v vs also) e in
    ap (λ k. k ∷ ws) both.0 ∙ ap (λ l. v ∷ l) (words_told ws vs (others_fit w ws fit) (others_fit v vs also) both.1)

target_wide : (t : Option Target) → length (target_words t) ≡ 6
target_wide None = refl
target_wide (Some (Section s o r)) = omega (arith, signed_wide r)
target_wide (Some (Piece m k o r)) = omega (arith, signed_wide r)
target_wide (Some (Number n)) = refl
target_wide (Some Zero) = refl
target_wide (Some (Linker n)) = refl
target_wide (Some Unbound) = refl

section_told : (s o : ℕ) (r : ℤ) (t p : ℕ) (q : ℤ) → target_words (Some (Section s o r)) ≡ target_words (Some (Section t p q)) → Some (Section s o r) ≡ Some (Section t p q)
section_told s o r t p q e =
    one_section s o r t p q (ap (λ l. get_or l 1 0) e) (ap (λ l. get_or l 2 0) e) (signed_told r q (ap (drop 4) e))

piece_told : (s m o : ℕ) (r : ℤ) (t n p : ℕ) (q : ℤ) → target_words (Some (Piece s m o r)) ≡ target_words (Some (Piece t n p q)) → Some (Piece s m o r) ≡ Some (Piece t n p q)
piece_told s m o r t n p q e =
    one_piece s m o r t n p q (ap (λ l. get_or l 1 0) e) (ap (λ l. get_or l 2 0) e) (ap (λ l. get_or l 3 0) e) (signed_told r q (ap (drop 4) e))

not_none : (t : Target) → 0 < get_or (target_words (Some t)) 0 0
not_none (Section s o r) = omega arith
not_none (Piece m k o r) = omega arith
not_none (Number n) = omega arith
not_none Zero = omega arith
not_none (Linker n) = omega arith
not_none Unbound = omega arith

some_told : (t u : Target) → target_words (Some t) ≡ target_words (Some u) → Some t ≡ Some u
some_told (Section s o r) (Section t p q) e = section_told s o r t p q e
some_told (Piece s m o r) (Piece t n p q) e = piece_told s m o r t n p q e
some_told (Number m) (Number n) e = ap (λ k. Some (Number k)) (ap (λ l. get_or l 1 0) e)
some_told Zero Zero e = refl
some_told (Linker m) (Linker n) e = ap (λ k. Some (Linker k)) (ap (λ l. get_or l 1 0) e)
some_told Unbound Unbound e = refl
some_told t u e = absurd (omega (arith, ap (λ l. get_or l 0 0) e))

target_told : (t u : Option Target) → target_words t ≡ target_words u → t ≡ u
target_told None None e = refl
target_told None (Some u) e = absurd (omega (arith, not_none u, ap (λ l. get_or l 0 0) e))
target_told (Some t) None e = absurd (omega (arith, not_none t, ap (λ l. get_or l 0 0) e))
target_told (Some t) (Some u) e = some_told t u e

reloc_wide : (r : CieReloc) → length (reloc_words r) ≡ 10
unfolding reloc_words
reloc_wide r = omega (arith, length-append (target_words r.target) (signed_words r.addend), target_wide r.target, signed_wide r.addend)

reloc_told : (r q : CieReloc) → reloc_words r ≡ reloc_words q → r ≡ q
unfolding reloc_words
reloc_told r q e =
    let rest = split_same (target_words r.target) (target_words q.target) (signed_words r.addend) (signed_words q.addend)
    (target_wide r.target ∙ sym (target_wide q.target)) (ap (drop 2) e) in
    reloc_from r q (ap (λ l. get_or l 0 0) e) (ap (λ l. get_or l 1 0) e) (target_told r.target q.target rest.0) (signed_told r.addend q.addend rest.1)

relocs_told : (rs qs : List CieReloc) → flat_map reloc_words rs ≡ flat_map reloc_words qs → rs ≡ qs
relocs_told [] [] e = refl
relocs_told [] (q ∷ qs) e = absurd (omega (arith, ap length e, length-append (reloc_words q) (flat_map reloc_words qs), reloc_wide q))
relocs_told (r ∷ rs) [] e = absurd (omega (arith, ap length e, length-append (reloc_words r) (flat_map reloc_words rs), reloc_wide r))
relocs_told (r ∷ rs) (q ∷ qs) e =
    let one = split_same (reloc_words r) (reloc_words q) (flat_map reloc_words rs) (flat_map reloc_words qs) (reloc_wide r ∙ sym (reloc_wide q)) e in
    ap (λ x. x ∷ rs) (reloc_told r q one.0) ∙ ap (λ l. q ∷ l) (relocs_told rs qs one.1)

text_told : (c d : CieKey) → IsFit c → IsFit d → cie_text c ≡ cie_text d → c ≡ d
unfolding cie_text
text_told c d fit also e =
    let v = flat_map reloc_words c.relocs in
    let w = flat_map reloc_words d.relocs in
    let one = wide (length c.bytes) (length d.bytes) (c.bytes ++ words_bytes v) (d.bytes ++ words_bytes w) fit.len also.len e in
    let two = split_same c.bytes d.bytes (words_bytes v) (words_bytes w) one.0 one.1 in
    key_from c d two.0 (relocs_told c.relocs d.relocs (words_told v w fit.words also.words two.1))

-- equal bytes are those of CIEs that say the same
pub same_text : (c d : CieKey) → IsFit c → IsFit d → bytes_eq (cie_text c) (cie_text d) ≡ same_cie d c
same_text c d fit also =
    same_from_decides (bytes_eq (cie_text c) (cie_text d)) (same_cie d c)
    (Decides-like (bytes_eq (cie_text c) (cie_text d)) (λ e. sym (text_told c d fit also e)) (λ e. ap cie_text (sym e)) (bytes_eq-Decides (cie_text c) (cie_text d)))
    (cie_Decides d c)

-- the bytes put together
pub text_from : (c : CieKey) (bytes words none one two three : List ℕ) (n : ℕ) → none ≡ [] → one ≡ none ++ to_le_bytes w64 n → two ≡ one ++ bytes →
    three ≡ two ++ words_bytes words → n ≡ length bytes → bytes ≡ c.bytes → words ≡ flat_map reloc_words c.relocs → three ≡ cie_text c
unfolding cie_text
text_from c bytes words none one two three n nil e f g count is are =
    let first : one ≡ to_le_bytes w64 n = e ∙ ap (λ l. l ++ to_le_bytes w64 n) nil in
    g ∙ ap (λ l. l ++ words_bytes words) (f ∙ ap (λ l. l ++ bytes) (first ∙ ap (to_le_bytes w64) count))
    ∙ append_assoc (to_le_bytes w64 (length bytes)) bytes (words_bytes words)
    ∙ ap (λ l. to_le_bytes w64 (length l) ++ (l ++ words_bytes words)) is
    ∙ ap (λ l. to_le_bytes w64 (length c.bytes) ++ (c.bytes ++ words_bytes l)) are
