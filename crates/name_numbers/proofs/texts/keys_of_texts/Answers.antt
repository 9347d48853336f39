use Rattle.std.proofs.Common.{refl, arith}
use Rattle.name_numbers.proofs.TextPlaces.{text_key_next, text_keys_all}
use Rattle.name_numbers.proofs.texts.keys_of_texts.Goals as goal

pub loop-i-preserved : goal.loop-i-preserved
loop-i-preserved c =
    text_key_next c.args.texts.now c.loop-i.i _ c.loop-i.keys.items c.push.new.self.items
    c.text-text.ensures c.hash_of.ensures refl c.in_ok-push.ensures.items c.loop-i.invariant

pub returns : goal.returns
returns c = text_keys_all c.args.texts.now c.loop-i.i c.loop-i.keys.items (omega arith) c.loop-i.invariant
