use Rattle.std.proofs.Common.{ap, sym, ◌∙◌}
use Rattle.lk_base.proofs.Membership.{any_through}
use Rattle.lk_tables.specs.FileView.{file_view}
use Rattle.relax.specs.Unrelaxed.{relaxes, some_relaxes}
use Rattle.relax.proofs.unrelaxed.some_relaxes.Goals as goal

pub returns : goal.returns
returns c = c.one_relaxes.ensures ∙ sym (any_through relaxes file_view c.files.result.now) ∙ ap some_relaxes c.files.ensures
