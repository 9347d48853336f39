use Rattle.std.proofs.Common.{◌≡◌, map}
use Rattle.std.specs.List.{range_with_len}
use Rattle.name_numbers.specs.Keys.{key_views, key_of}
use Rattle.name_numbers.specs.Texts.{text_at}
use Rattle.name_numbers.proofs.texts.keys_of_texts.Given as goal

abbrev pub invariant-loop-i : goal.invariant-loop-i
invariant-loop-i l = key_views l.keys.items ≡ map (λ i. key_of (text_at l.texts i) i) (range_with_len 0 l.i)
