use Rattle.std.proofs.Common.{◌≡◌, ◌*◌, ◌≤◌, ◌^◌}
use Rattle.lk_tables.specs.FileView.{file_views}
use Rattle.lk_tables.specs.Files.{first_section}
use Rattle.lk_tables.specs.Gathering.{with_objects}
use Rattle.link_passes.proofs.sections.count_sections.Given as goal

abbrev pub invariant-loop-f : goal.invariant-loop-f
invariant-loop-f l = record {
  total : l.total ≡ first_section (with_objects (file_views l.files) l.objects) l.f;
  few : l.total ≤ l.f * 2 ^ 28;
}
