use Rattle.link_gen.specs.Contents.{contents_of}
use Rattle.link_gen.proofs.Lengths.{padded_pushed}
use Rattle.link_gen.proofs.generator.push_padded.Goals as goal

pub returns : goal.returns
returns c =
    padded_pushed (contents_of c.args.section.now.contents c.args.object.now) c.contents_size-size.result c.up.result c.args.out.now.items
    c.push_contents.new.out.items c.push_zeros.new.out.items c.contents_size-size.ensures.value c.up.ensures.value c.in_ok-push_contents.ensures
    c.in_ok-push_zeros.ensures
