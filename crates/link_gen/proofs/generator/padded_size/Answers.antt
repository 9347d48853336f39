use Rattle.link_gen.specs.Contents.{contents_of}
use Rattle.link_gen.proofs.Lengths.{padded_length}
use Rattle.link_gen.proofs.generator.padded_size.Goals as goal

pub returns-clause-value : goal.returns-clause-value
returns-clause-value c =
    padded_length (contents_of c.args.section.now.contents c.args.object.now) c.contents_size.result c.up.result c.contents_size.ensures.value
    c.up.ensures.value c.up.ensures.least
