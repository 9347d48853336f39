use Rattle.std.proofs.Common.{◌≡◌, List, length, drop, sym, ◌∙◌, subst, arith}
use Rattle.std.specs.List.Sorted.{IsPermutation}
use Rattle.std.proofs.lemmas.List.{take_at}
use Rattle.std.proofs.lemmas.List.Sorted.{All-permutation, Contains-permutation, IsPermutation-sym}
use Rattle.name_numbers.specs.declared.sorting.Key.{Key}
use Rattle.name_numbers.specs.Keys.{KeyView, key_views}
use Rattle.intern_race.specs.Hash.{hash_of}
use Rattle.name_numbers.specs.Texts.{text_keys}
use Rattle.name_numbers.proofs.TextPlaces.{text_keys_moved, text_keys_hashed, text_key_is, text_keys_once, texts_marked}
use Rattle.name_numbers.proofs.texts.number_by_order.Goals as goal

pub mark_keys-requires-clause-right_hashes : goal.mark_keys-requires-clause-right_hashes
mark_keys-requires-clause-right_hashes g c =
    let texts = c.args.texts.now in
    let start = c.in_ok-keys.keys.items in
    let sorted = c.sort_keys.new.list in
    let len : length sorted ≡ c.in_ok-keys.keys.len = c.sort_keys.ensures.len ∙ c.as_mut_slice.ensures.len in
    let P : List Key → Type 0 = λ l. IsPermutation l sorted in
    let moved = text_keys_moved texts start sorted c.as_slice.result.now c.in_ok-keys.ensures (subst P c.as_mut_slice.ensures.value c.sort_keys.ensures.permutation) (c.as_slice.ensures.value ∙ take_at sorted (drop (length sorted) start) c.in_ok-keys.keys.len len) in
    All-permutation (λ (v : KeyView). v.hash ≡ hash_of v.text) (text_keys texts) (key_views c.as_slice.result.now) moved (text_keys_hashed texts)

pub mark_keys-requires-clause-within : goal.mark_keys-requires-clause-within
mark_keys-requires-clause-within g c v has =
    let texts = c.args.texts.now in
    let start = c.in_ok-keys.keys.items in
    let sorted = c.sort_keys.new.list in
    let len : length sorted ≡ c.in_ok-keys.keys.len = c.sort_keys.ensures.len ∙ c.as_mut_slice.ensures.len in
    let P : List Key → Type 0 = λ l. IsPermutation l sorted in
    let moved = text_keys_moved texts start sorted c.as_slice.result.now c.in_ok-keys.ensures (subst P c.as_mut_slice.ensures.value c.sort_keys.ensures.permutation) (c.as_slice.ensures.value ∙ take_at sorted (drop (length sorted) start) c.in_ok-keys.keys.len len) in
    let back = Contains-permutation (key_views c.as_slice.result.now) (text_keys texts) v (IsPermutation-sym (text_keys texts) (key_views c.as_slice.result.now) moved) has in
    let within = (text_key_is texts v back).within in
    let wide : length c.as_mut_slice-2.result.now ≡ length texts = c.as_mut_slice-2.ensures.len ∙ c.in_ok-numbers.ensures.len ∙ c.len.ensures in
    omega arith

pub mark_keys-requires-clause-once : goal.mark_keys-requires-clause-once
mark_keys-requires-clause-once g c v w has also e =
    let texts = c.args.texts.now in
    let start = c.in_ok-keys.keys.items in
    let sorted = c.sort_keys.new.list in
    let len : length sorted ≡ c.in_ok-keys.keys.len = c.sort_keys.ensures.len ∙ c.as_mut_slice.ensures.len in
    let P : List Key → Type 0 = λ l. IsPermutation l sorted in
    let moved = text_keys_moved texts start sorted c.as_slice.result.now c.in_ok-keys.ensures (subst P c.as_mut_slice.ensures.value c.sort_keys.ensures.permutation) (c.as_slice.ensures.value ∙ take_at sorted (drop (length sorted) start) c.in_ok-keys.keys.len len) in
    let back = IsPermutation-sym (text_keys texts) (key_views c.as_slice.result.now) moved in
    text_keys_once texts v w (Contains-permutation (key_views c.as_slice.result.now) (text_keys texts) v back has) (Contains-permutation (key_views c.as_slice.result.now) (text_keys texts) w back also) e

pub returns : goal.returns
returns g c =
    let texts = c.args.texts.now in
    let start = c.in_ok-keys.keys.items in
    let sorted = c.sort_keys.new.list in
    let len : length sorted ≡ c.in_ok-keys.keys.len = c.sort_keys.ensures.len ∙ c.as_mut_slice.ensures.len in
    let P : List Key → Type 0 = λ l. IsPermutation l sorted in
    let moved = text_keys_moved texts start sorted c.as_slice.result.now c.in_ok-keys.ensures (subst P c.as_mut_slice.ensures.value c.sort_keys.ensures.permutation) (c.as_slice.ensures.value ∙ take_at sorted (drop (length sorted) start) c.in_ok-keys.keys.len len) in
    let old = c.in_ok-numbers.numbers.items in
    let ns = c.mark_keys.new.firsts in
    let wide : length ns ≡ c.in_ok-numbers.numbers.len = c.mark_keys.ensures.wide ∙ c.as_mut_slice-2.ensures.len in
    let lent : length c.as_mut_slice-2.result.now ≡ length texts = c.as_mut_slice-2.ensures.len ∙ c.in_ok-numbers.ensures.len ∙ c.len.ensures in
    take_at ns (drop (length ns) old) c.in_ok-numbers.numbers.len wide
    ∙ texts_marked texts c.as_slice.result.now c.as_mut_slice-2.result.now ns moved lent c.mark_keys.ensures
