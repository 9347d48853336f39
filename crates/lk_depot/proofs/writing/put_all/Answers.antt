use Rattle.std.proofs.Common.{refl, sym, ◌∙◌, ap, arith}
use Rattle.std.proofs.lemmas.List.{take_rest, length-drop}
use Rattle.lk_depot.specs.Files.{added_if_seen}
use Rattle.lk_depot.proofs.NamedMaps.{added_if_seen_nothing}
use Rattle.lk_depot.proofs.Prefixes.{added_if_seen_goes_on}
use Rattle.lk_depot.proofs.writing.put_all.Goals as goal

pub loop-done-init : goal.loop-done-init
loop-done-init g c = record {
  within = omega arith;
  files = sym (added_if_seen_nothing c.args.name.now _);
  kinds = refl;
  begun = refl;
  unread = refl;
  later = omega arith;
}

pub loop-done-preserved : goal.loop-done-preserved
loop-done-preserved g c = record {
  within = omega (arith, simp (take_rest, length-drop) at c.in_ok-done.ensures.most);
  files = c.in_ok-done.ensures.files ∙ ap (added_if_seen c.args.name.now _) c.loop-done.invariant.files
      ∙ added_if_seen_goes_on c.args.name.now c.args.bytes.now c.loop-done.done c.in_ok-done.field-0 _;
  kinds = c.in_ok-done.ensures.kinds ∙ c.loop-done.invariant.kinds;
  begun = c.in_ok-done.ensures.begun ∙ c.loop-done.invariant.begun;
  unread = c.in_ok-done.ensures.unread ∙ c.loop-done.invariant.unread;
  later = omega (arith, c.in_ok-done.ensures.cause.later);
}
