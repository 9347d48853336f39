use Rattle.std.proofs.Common.{ap, ◌∙◌, map}
use Rattle.link_gen.specs.Contents.{sections_in, symbol_view}
use Rattle.link_gen.proofs.Whole.{object_is}
use Rattle.link_gen.proofs.generator.object.Goals as goal

pub returns : goal.returns
returns c =
    object_is c.args.k c.args.n c.called_count.result c.in_ok-bytes.bytes.items (sections_in c.object_with-object.result)
    (map symbol_view c.deref.result.now) c.in_ok-bytes.ensures c.object_with-object.ensures.sections
    (ap (map symbol_view) c.deref.ensures.value ∙ c.in_ok-symbols.ensures.value) c.called_count.ensures.count
