-- What a record's Length says where it is sound.
use Rattle.std.proofs.Common.{◌≡◌, ℕ, ◌+◌, ◌≤◌, false, ◌||◌, ◌==◌, nat_lt, List, length, ltb-false}
use Rattle.std.proofs.lemmas.Bool.{or_parts}
use Rattle.lk_tables.specs.Records.{end_at, len_at}
use Rattle.eh_frame.specs.declared.format.TheConstants.{EXTENDED_LENGTH}
use Rattle.eh_frame.specs.RecordChecks.{is_bad_length}

pub whole_from : (c : List ℕ) (at : ℕ) → is_bad_length c at ≡ false → (at + 4 ≤ length c) × (4 ≤ len_at c at) × (end_at c at ≤ length c)
unfolding is_bad_length
whole_from c at e =
    let one = or_parts (nat_lt (length c) (at + 4)) (len_at c at == EXTENDED_LENGTH || (nat_lt (len_at c at) 4 || nat_lt (length c) (end_at c at))) e in
    let two = or_parts (len_at c at == EXTENDED_LENGTH) (nat_lt (len_at c at) 4 || nat_lt (length c) (end_at c at)) one.1 in
    let three = or_parts (nat_lt (len_at c at) 4) (nat_lt (length c) (end_at c at)) two.1 in
    (ltb-false _ _ one.0, ltb-false _ _ three.0, ltb-false _ _ three.1)
