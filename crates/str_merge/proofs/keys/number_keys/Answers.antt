use Rattle.std.proofs.Common.{◌≡◌, ℕ, Option, Some, ap, ◌∙◌, arith, [], ◌∷◌, ◌++◌, get_or, unwrap_or}
use Rattle.std.specs.Prelude.{if◌then◌else◌}
use Rattle.indexmap.specs.IndexMap.{get}
use Rattle.lk_base.proofs.Loops.{map_step}
use Rattle.str_merge.proofs.ListSteps.{by_index}
use Rattle.str_merge.specs.Keys.{eq_keys, key_numbers}
use Rattle.str_merge.proofs.KeyMaps.{first_key, key_number, no_key, noted_more, number_is}
use Rattle.str_merge.proofs.keys.number_keys.Goals as goal

pub loop-i-preserved : goal.loop-i-preserved
loop-i-preserved c =
    let keys = c.args.keys.now in
    let i = c.loop-i.i in
    let first : c.in_ok-number.number ≡ key_number keys i =
    c.in_ok-number.ensures.value ∙ ap (λ (x : Option ℕ). unwrap_or x i) (c.loop-i.invariant.known (get_or keys i no_key)) ∙ number_is keys i no_key (omega arith) in
    record {
      known = λ q. c.in_ok-number.ensures.notes q
          ∙ ap (λ n. if eq_keys (get_or keys i no_key) q then Some n else get eq_keys c.loop-i.known q) first
          ∙ ap (λ (o : Option ℕ). if eq_keys (get_or keys i no_key) q then Some (key_number keys i) else o) (c.loop-i.invariant.known q)
          ∙ noted_more keys i no_key q (omega arith);
      numbers = map_step (key_number keys) i c.loop-i.numbers.items c.push.new.self.items c.loop-i.invariant.numbers
          (c.in_ok-push.ensures.items ∙ ap (λ n. c.loop-i.numbers.items ++ n ∷ []) first);
    }

pub returns : goal.returns
unfolding key_numbers
returns c =
    let keys = c.args.keys.now in
    c.loop-i.invariant.numbers ∙ by_index (first_key keys) keys no_key c.loop-i.i (omega arith)
