use Rattle.std.proofs.Common.{◌≡◌, ◌<◌, ◌^◌, drop}
use Rattle.ar_read.specs.Fields.{number_after}
use Rattle.ar_read.proofs.fields.number.Given as goal

-- the digits that are left, after the number so far, write the whole
abbrev pub invariant-loop-digit : goal.invariant-loop-digit
invariant-loop-digit l = record {
  so_far : number_after l.number (drop l.digit-index l.digits) ≡ number_after 0 l.digits;
  below : l.number < 10 ^ l.digit-index;
}
