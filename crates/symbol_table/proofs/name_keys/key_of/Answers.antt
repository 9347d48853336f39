use Rattle.std.proofs.Common.{◌≡◌, ℕ, ◌+◌, ◌*◌, ◌<◌, sym, ap, ◌∙◌, arith}
use Rattle.lk_base.proofs.ShownBytes.{bytes_from}
use Rattle.symbol_table.specs.NameKeys.{key_to}
use Rattle.symbol_table.proofs.NameKeys.{byte_small, key_all, key_first, key_more, key_room, next_small}
use Rattle.symbol_table.proofs.name_keys.key_of.Goals as goal

pub loop-at-init : goal.loop-at-init
loop-at-init c = record { small = omega arith; value = sym (key_first c.args.name.now) }

pub overflow_mul-key : goal.overflow_mul-key
overflow_mul-key c = omega (arith, key_room c.loop-at.at c.loop-at.key c.loop-at-test.true c.loop-at.invariant.small)

pub overflow_add-key : goal.overflow_add-key
overflow_add-key c =
    let small = byte_small c.args.name.now (bytes_from c.args.name.now c.type_inv.name) c.loop-at.at in
    omega (arith, key_room c.loop-at.at c.loop-at.key c.loop-at-test.true c.loop-at.invariant.small, small, c.byte_at.ensures)

pub loop-at-preserved : goal.loop-at-preserved
loop-at-preserved c =
    let name = c.args.name.now in
    let small = byte_small name (bytes_from name c.type_inv.name) c.loop-at.at in
    let byte : c.byte_at.result < 256 = omega (arith, small, c.byte_at.ensures) in
    record {
      small = next_small c.loop-at.at c.loop-at.key c.byte_at.result byte c.loop-at.invariant.small;
      value = ap (λ k. 256 * k + c.byte_at.result) c.loop-at.invariant.value ∙ ap (λ b. 256 * key_to name c.loop-at.at + b) c.byte_at.ensures ∙ sym (key_more name c.loop-at.at);
    }

pub returns-clause-bytes : goal.returns-clause-bytes
returns-clause-bytes c = bytes_from c.args.name.now c.type_inv.name

pub returns-clause-value : goal.returns-clause-value
returns-clause-value c =
    let all : c.loop-at.at ≡ 8 = omega arith in
    key_all c.args.name.now c.loop-at.at c.loop-at.key all c.loop-at.invariant.value
