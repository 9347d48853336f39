-- What is compared of unwind records: equal words are of equal records.
use Rattle.std.proofs.Common.{◌≡◌, ℕ, List, [], ◌∷◌, ◌++◌, length, flat_map, get_or, drop, refl, sym, ap, ◌∙◌, arith, append_assoc}
use Rattle.link_sections.specs.FoldItems.{FoldFrame}
use Rattle.link_sections.proofs.SameTargets.{signed_told, signed_wide, split_same}
use Rattle.icf_part.specs.Signatures.{frame_words, signed_words}
use Rattle.icf_part.proofs.Deciding.{frame_from}

-- parts of known lengths, one after the other
three_apart : (s t a b c d x y : List ℕ) → length s ≡ length t → length a ≡ length b → length c ≡ length d → (s ++ (a ++ c)) ++ x ≡ (t ++ (b ++ d)) ++ y →
    (s ≡ t) × ((a ≡ b) × ((c ≡ d) × (x ≡ y)))
three_apart s t a b c d x y first second third same =
    let one = split_same s t ((a ++ c) ++ x) ((b ++ d) ++ y) first (sym (append_assoc s (a ++ c) x) ∙ same ∙ append_assoc t (b ++ d) y) in
    let two = split_same a b (c ++ x) (d ++ y) second (sym (append_assoc a c x) ∙ one.1 ∙ append_assoc b d y) in
    let three = split_same c d x y third two.1 in
    (one.0, (two.0, (three.0, three.1)))

frame_apart : (f g : FoldFrame) (x y : List ℕ) → frame_words f ++ x ≡ frame_words g ++ y → (f ≡ g) × (x ≡ y)
unfolding frame_words
frame_apart f g x y same =
    let parts = three_apart (signed_words f.rest) (signed_words g.rest) f.bytes g.bytes f.cie g.cie x y (signed_wide f.rest ∙ sym (signed_wide g.rest))
    (ap (λ l. get_or l 0 0) same) (ap (λ l. get_or l 1 0) same) (ap (drop 5) same) in (
      frame_from f g parts.1.0 parts.1.1.0 (ap (λ l. get_or l 2 0) same) (signed_told f.rest g.rest parts.0) (ap (λ l. get_or l 3 0) same) (ap (λ l. get_or l 4 0) same),
      parts.1.1.1,
    )

-- equally many of them, one after the other, before other words
pub frames_apart : (fs gs : List FoldFrame) (x y : List ℕ) → length fs ≡ length gs → flat_map frame_words fs ++ x ≡ flat_map frame_words gs ++ y → (fs ≡ gs) × (x ≡ y)
frames_apart [] [] x y wide same = (refl, same)
frames_apart [] (g ∷ gs) x y wide same = absurd (omega (arith, wide))
frames_apart (f ∷ fs) [] x y wide same = absurd (omega (arith, wide))
frames_apart (f ∷ fs) (g ∷ gs) x y wide same =
    let one = frame_apart f g (flat_map frame_words fs ++ x) (flat_map frame_words gs ++ y)
    (sym (append_assoc (frame_words f) (flat_map frame_words fs) x) ∙ same ∙ append_assoc (frame_words g) (flat_map frame_words gs) y) in
    let rest = frames_apart fs gs x y (omega (arith, wide)) one.1 in
    (ap (λ h. h ∷ fs) one.0 ∙ ap (λ l. g ∷ l) rest.0, rest.1)
