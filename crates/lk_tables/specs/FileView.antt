-- A file of a link as a plain record.
use Rattle.std.specs.Prelude.{List, Option, Some, None, is_some, map}
use Rattle.lk_tables.specs.declared.files.File.{File as LentFile}
use Rattle.lk_tables.specs.declared.objects.Object.{Object}
use Rattle.lk_tables.specs.Files.{File, no_object}
use Rattle.lk_tables.specs.Heads.{head_view}
use Rattle.lk_tables.specs.Objects.{ObjectView, object_view}

abbrev pub object_of_file : Option Object → ObjectView
object_of_file None = no_object
object_of_file (Some object) = object_view object

abbrev pub file_view : LentFile → File
file_view file = record {
  live = is_some file.object;
  member = file.member;
  bytes = file.bytes.now;
  head = head_view file.head;
  object = object_of_file file.object;
}

abbrev pub file_views : List LentFile → List File
file_views files = map file_view files
