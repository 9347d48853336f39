use Rattle.std.proofs.Common.{◌≡◌, [], ◌∷◌, ◌++◌, flat_map, length, take}
use Rattle.icf_part.specs.Signatures.{rest_words_of}
use Rattle.icf_part.proofs.rests.put_rest.Given as goal

abbrev pub invariant-loop-k : goal.invariant-loop-k
invariant-loop-k l = l.words.items ≡ (l.key ∷ length l.ends ∷ []) ++ flat_map (rest_words_of l.sections) (take l.k l.item.relocs.items)
