use Rattle.std.proofs.Common.{◌<◌, arith, length}
use Rattle.link_sections.specs.Views.{binding_in, files_in, laid_in, leaders_in}
use Rattle.reloc_apply.specs.Founds.{no_member}
use Rattle.reloc_apply.specs.Relocated.{member_pieces, relocated_pieces}
use Rattle.reloc_apply.proofs.MemberSteps.{begins_last, ends_first, member_away, pools_lie}
use Rattle.reloc_apply.proofs.PieceWalks.{walk_end, walk_next, walk_start}
use Rattle.reloc_apply.proofs.SoundLists.{all_sound}
use Rattle.reloc_apply.proofs.relocated.write_block.Goals as goal

pub loop-k-init : goal.loop-k-init
loop-k-init c =
    let view = c.args.view.now in
    let len = length c.args.block.now in
    walk_start (member_pieces (files_in view) (binding_in view) (leaders_in view) (laid_in view)) no_member (laid_in view).members c.args.from c.members_past-k.result c.args.block.now
    c.members_past-k.ensures.bound (λ j lt.
    let within : j < length (laid_in view).members = omega (arith, lt, c.members_past-k.ensures.bound) in
    member_away (files_in view) (binding_in view) (leaders_in view) (laid_in view) view.sound (all_sound view.tables.now) (pools_lie view) c.args.from len j within
    (ends_first (files_in view) (binding_in view) (leaders_in view) (laid_in view) view.sound (all_sound view.tables.now) c.args.from len j within (c.members_past-k.ensures.before j lt)))

pub loop-k-preserved : goal.loop-k-preserved
loop-k-preserved c =
    let view = c.args.view.now in
    walk_next (member_pieces (files_in view) (binding_in view) (leaders_in view) (laid_in view)) no_member (laid_in view).members c.args.from c.loop-k.k c.args.block.now
    c.loop-k.block c.write_member.new.block (omega (arith, c.members_before-last.ensures.bound)) c.loop-k.invariant c.write_member.ensures

pub returns : goal.returns
unfolding relocated_pieces
returns c =
    let view = c.args.view.now in
    let len = length c.args.block.now in
    walk_end (member_pieces (files_in view) (binding_in view) (leaders_in view) (laid_in view)) no_member (laid_in view).members c.args.from c.loop-k.k c.args.block.now
    c.loop-k.block (λ j le lt.
    member_away (files_in view) (binding_in view) (leaders_in view) (laid_in view) view.sound (all_sound view.tables.now) (pools_lie view) c.args.from len j lt
    (begins_last (files_in view) (binding_in view) (leaders_in view) (laid_in view) view.sound (all_sound view.tables.now) c.args.from len j lt
    (c.members_before-last.ensures.after j (omega (arith, le)) lt))) c.loop-k.invariant
