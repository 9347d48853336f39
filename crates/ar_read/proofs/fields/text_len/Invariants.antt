use Rattle.std.proofs.Common.{◌≡◌, ◌+◌, ◌-◌, ◌≤◌, length, take}
use Rattle.std.specs.List.{suffix_len}
use Rattle.ar_read.specs.Fields.{is_space}
use Rattle.ar_read.proofs.fields.text_len.Given as goal

-- the spaces at the end are those passed, and those at the end of what is left
abbrev pub invariant-loop-len : goal.invariant-loop-len
invariant-loop-len l = record {
  within : l.len ≤ length l.field;
  spaces : suffix_len is_space l.field ≡ (length l.field - l.len) + suffix_len is_space (take l.len l.field);
}

abbrev pub decreases-loop-len : goal.decreases-loop-len
decreases-loop-len l = l.len
