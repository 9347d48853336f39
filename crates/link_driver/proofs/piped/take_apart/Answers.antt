use Rattle.std.proofs.Common.{◌∙◌, ap, refl, arith}
use Rattle.ar_read.specs.Archives.{is_archive}
use Rattle.std.specs.Vec.Iter.{into_iter_items}
use Rattle.work_split.proofs.Sharing.{taken_more}
use Rattle.lk_tables.proofs.Putting.{given_all}
use Rattle.link_driver.proofs.KnownHeads.{all_heads_known, next_contents, next_heads}
use Rattle.link_driver.proofs.piped.take_apart.Goals as goal

pub loop-file-preserved : goal.loop-file-preserved
loop-file-preserved c =
    let before = c.loop-file.invariant in
    let next = c.in-Some.ensures.steps.0 in
    let items = into_iter_items c.loop-file.file-iterator in
    let rest = into_iter_items c.next.new.self in (
      tt,
      tt,
      taken_more c.loop-file.yielded items rest c.args.piped.files.items c.in-Some.file before.2 next,
      next_contents c.loop-file.yielded c.in-Some.file c.loop-file.contents.items c.push.new.self.items c.in-Some.file.bytes c.in_ok-push.ensures.items refl before.3,
      next_heads c.loop-file.yielded items rest c.args.piped.files.items c.in-Some.file c.loop-file.heads.items c.push_heads.new.list.items _ _ _ before.2 next c.requires
          c.in_ok-push_heads.ensures (c.is_archive.ensures ∙ ap is_archive c.as_slice.ensures.value) c.is_sound-sound.ensures before.4,
    )

pub returns-clause-heads : goal.returns-clause-heads
returns-clause-heads c =
    let before = c.loop-file.invariant in
    let counts = c.loop-file.file-iterator.rest.ok.0 in
    let none = c.in-None.ensures.steps.0 in
    all_heads_known c.loop-file.yielded c.args.piped.files.items c.loop-file.heads.items c.loop-file.sound
    (given_all c.loop-file.yielded (into_iter_items c.loop-file.file-iterator) c.args.piped.files.items before.2 (omega arith)) before.4
