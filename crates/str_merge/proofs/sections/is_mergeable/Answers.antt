use Rattle.std.proofs.Common.{◌∙◌, sym}
use Rattle.lk_tables.specs.FileView.{file_view}
use Rattle.str_merge.proofs.PieceLaws.{pieces_together}
use Rattle.str_merge.proofs.sections.is_mergeable.Goals as goal

pub returns-clause-law : goal.returns-clause-law
returns-clause-law c = λ merges. pieces_together (file_view c.args.file.now) c.args.index (sym c.passes.ensures ∙ merges)
