use Rattle.std.proofs.Common.{ap, sym, ◌∙◌, arith}
use Rattle.std.specs.Global.{Vec}
use Rattle.lk_tables.specs.declared.objects.Reloc.{Reloc}
use Rattle.eh_frame.proofs.HeadObject.{list_in}
use Rattle.eh_frame.proofs.sections.list_at.Goals as goal

pub returns : goal.returns
returns c =
    c.as_slice.ensures.value ∙ ap (λ (v : Vec Reloc). v.items) c.index-lists-number.is
    ∙ sym (list_in c.args.lists.now c.args.number _ (omega arith))
