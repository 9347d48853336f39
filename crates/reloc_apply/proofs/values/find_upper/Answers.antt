use Rattle.std.proofs.Common.{◌∙◌, ◌==◌, List, ap, find}
use Rattle.lk_tables.specs.declared.objects.Reloc.{Reloc}
use Rattle.lk_tables.specs.Sites.{relocs_of}
use Rattle.link_sections.specs.Views.{files_in}
use Rattle.reloc_apply.proofs.UpperParts.{upper_found}
use Rattle.reloc_apply.proofs.values.find_upper.Goals as goal

pub returns : goal.returns
returns c =
    c.find_at.ensures
    ∙ ap (λ (list : List Reloc). find (λ r. r.offset == c.args.offset) list) c.uppers_in.ensures.value
    ∙ upper_found c.args.offset (relocs_of (files_in c.args.view.now) c.args.site.section)
