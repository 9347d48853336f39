-- Heads that were read before a link looks for them serve as those that it reads.
use Rattle.std.proofs.Common.{◌≡◌, ℕ, zero, suc, ◌+◌, ◌-◌, ◌<◌, ◌≤◌, List, [], ◌∷◌, ◌++◌, length, flat_map, refl, sym, ap, ◌∙◌, subst, arith, append_assoc, Option, Some, Ok}
use Rattle.std.specs.Prelude.{IfSome}
use Rattle.std.specs.List.{range_with_len}
use Rattle.std.specs.Global.{Vec}
use Rattle.std.proofs.lemmas.List.{append-nil, get_or_at, length_push}
use Rattle.lk_tables.specs.declared.heads.Head.{Head}
use Rattle.work_split.specs.Shares.{EachFrom, IsShare}
use Rattle.link_passes.specs.Defects.{head_defects, head_defects_at}
use Rattle.link_passes.specs.Known.{AreHeads}
use Rattle.link_passes.specs.Reading.{IsHeadAt, IsHeadOf}
use Rattle.link_passes.specs.Sources.{Source, no_source, source_at}

-- as many as files
pub as_many : (ss : List Source) (heads : List (Option Head)) → AreHeads ss heads → length heads ≡ length ss
as_many [] [] are = refl
as_many [] (head ∷ heads) are = absurd are
as_many (s ∷ ss) [] are = absurd are
as_many (s ∷ ss) (head ∷ heads) are = ap suc (as_many ss heads are.1)

-- each by its number
each_head : (front ss : List Source) (heads : List (Option Head)) → AreHeads ss heads → EachFrom (IsHeadAt (front ++ ss)) (length front) (length (front ++ ss)) heads
each_head front [] [] are = ap (λ (l : List Source). length l) (sym (append-nil front))
each_head front [] (head ∷ heads) are = absurd are
each_head front (s ∷ ss) [] are = absurd are
each_head front (s ∷ ss) (head ∷ heads) are =
    let at : source_at (front ++ s ∷ ss) (length front) ≡ s = get_or_at front s ss no_source (length front) refl in
    let P : List Source × ℕ → Type 0 = λ p. EachFrom (IsHeadAt p.0) p.1 (length p.0) heads in
    let joined : (front ++ s ∷ []) ++ ss ≡ front ++ s ∷ ss = append_assoc front (s ∷ []) ss in
    let longer : length (front ++ s ∷ []) ≡ length front + 1 = length_push front s in (
      subst (λ (x : Source). IsHeadOf x head) (sym at) are.0.head_is,
      subst P (λ i. (joined i, longer i)) (each_head (front ++ s ∷ []) ss heads are.1),
    )

-- none has a defect
sound_at : (ss : List Source) (heads : List (Option Head)) (k f : ℕ) → AreHeads ss heads → k < length ss → head_defects (source_at ss k) f ≡ []
sound_at [] heads k f are lt = absurd (omega (arith, lt))
sound_at (s ∷ ss) [] k f are lt = absurd are
sound_at (s ∷ ss) (head ∷ heads) zero f are lt = are.0.sound f
sound_at (s ∷ ss) (head ∷ heads) (suc k) f are lt = sound_at ss heads k f are.1 (omega (arith, lt))

none_from : {X : Type 0} (f : ℕ → List X) (a n : ℕ) → ((k : ℕ) → a ≤ k → k < a + n → f k ≡ []) → flat_map f (range_with_len a n) ≡ []
none_from f a zero none = refl
none_from f a (suc n) none =
    ap (λ l. l ++ flat_map f (range_with_len (a + 1) n)) (none a (omega arith) (omega arith))
    ∙ none_from f (a + 1) n (λ k low high. none k (omega (arith, low)) (omega (arith, high)))

pub known_share : (ss : List Source) (list : Vec (Option Head)) (count : ℕ) → AreHeads ss list.items → length list.items ≡ count → IsShare (head_defects_at ss) (IsHeadAt ss) 0 count (Ok list)
known_share ss list count are long =
    let n : length ss ≡ count = sym (as_many ss list.items are) ∙ long in
    let from_none : count - 0 ≡ count = omega arith in
    record {
      goes = ap (λ (k : ℕ). flat_map (head_defects_at ss) (range_with_len 0 k)) from_none
          ∙ none_from (head_defects_at ss) 0 count (λ k low high. sound_at ss list.items k k are (omega (arith, high, n)));
      each = subst (λ (k : ℕ). EachFrom (IsHeadAt ss) 0 k list.items) n (each_head [] ss list.items are);
    }

-- of heads that are known
pub known_heads_of : (known : Option (Vec (Option Head))) (list : Vec (Option Head)) (ss : List Source) → known ≡ Some list → IfSome known (λ l. AreHeads ss l.items) → AreHeads ss list.items
known_heads_of known list ss is are = subst (λ (o : Option (Vec (Option Head))). IfSome o (λ l. AreHeads ss l.items)) is are
