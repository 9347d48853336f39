use Rattle.std.proofs.Common.{◌++◌, flat_map, arith}
use Rattle.link_sections.specs.FoldItems.{frame_views, item_view}
use Rattle.icf_part.specs.Signatures.{frame_words, head_words, key_words, site_words}
use Rattle.icf_part.proofs.Collected.{flat_more, flat_all}
use Rattle.icf_part.proofs.keys.put_key.Goals as goal

pub loop-k-preserved : goal.loop-k-preserved
loop-k-preserved c =
    let i = c.args.item.now in
    flat_more site_words (head_words c.args.bytes c.args.output (item_view i) ++ flat_map frame_words (frame_views i.frames.items)) i.relocs.items c.loop-k.k c.index.result.now
    c.loop-k.words.items c.push_site.new.words.items (omega (arith, c.loop-k-test.true, c.len-k-end.ensures)) c.index.ensures c.loop-k.invariant c.in_ok-push_site.ensures

pub returns : goal.returns
unfolding key_words
returns c =
    let i = c.args.item.now in
    flat_all site_words (head_words c.args.bytes c.args.output (item_view i) ++ flat_map frame_words (frame_views i.frames.items)) i.relocs.items c.loop-k.k
    c.loop-k.words.items (omega arith) c.loop-k.invariant
