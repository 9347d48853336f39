use Rattle.std.proofs.Common.{sym, arith}
use Rattle.symbol_table.proofs.NameKeys.{key_greater, key_less}
use Rattle.symbol_table.proofs.name_keys.order_of.Goals as goal

pub returns-then-key-other_key : goal.returns-then-key-other_key
returns-then-key-other_key c =
    sym (key_less c.args.name.now c.args.other.now c.requires.own_bytes c.requires.others_bytes
    (omega (arith, c.if-key-other_key.true, c.requires.own, c.requires.others)))

pub returns-then-other_key-key : goal.returns-then-other_key-key
returns-then-other_key-key c =
    sym (key_greater c.args.name.now c.args.other.now c.requires.own_bytes c.requires.others_bytes
    (omega (arith, c.if-other_key-key.true, c.requires.own, c.requires.others)))
