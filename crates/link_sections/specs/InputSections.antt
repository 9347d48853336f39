-- What may go into an executable, by section number.
pub use Rattle.lk_tables.specs.InputSections.{InputSection, section_input, room_input, common_of, is_own, common_in, input_at, may_stay_at, all_kept}
unfoldable pub use Rattle.lk_tables.specs.InputSections.{input_of, may_stay}
