use Rattle.std.proofs.Common.{◌≡◌, length, get_or, map, [], ◌∷◌, ◌++◌, sym, ap, ◌∙◌, arith}
use Rattle.std.specs.List.{list_any}
use Rattle.std.proofs.lemmas.Bool.{ne_eqb}
use Rattle.std.proofs.lemmas.List.{map-append}
use Rattle.lk_base.specs.declared.abi.TheConstants.{SHT_GROUP}
use Rattle.std.proofs.lemmas.List.FromFn.{length-map-range_with_len}
use Rattle.lk_tables.specs.FileHeader.{section_count}
use Rattle.lk_tables.specs.Groups.{is_taken_before, is_bad_member, members_of}
use Rattle.lk_tables.specs.Objects.{group_view}
use Rattle.lk_tables.specs.Sections.{section_of}
use Rattle.lk_tables.proofs.SoundGroups.{all_none, is_member}
use Rattle.elf_read.specs.Groups.{groups_before, with_marked}
use Rattle.elf_read.proofs.GroupLists.{group_inside, untyped_group, typed_group, taken_kept, groups_kept, taken_put, groups_put}
use Rattle.elf_read.proofs.groups.read_group.Goals as goal

pub returns-then-section-ne-SHT_GROUP-clause-taken : goal.returns-then-section-ne-SHT_GROUP-clause-taken
returns-then-section-ne-SHT_GROUP-clause-taken c =
    let b = c.args.file.now.bytes.now in
    let sort = rw c.section-section.ensures at c.if-section-ne-SHT_GROUP.true in
    c.requires.taken ∙ taken_kept b c.args.index (untyped_group b c.args.index (ne_eqb (section_of b c.args.index).sh_type SHT_GROUP sort))

pub returns-then-section-ne-SHT_GROUP-clause-groups : goal.returns-then-section-ne-SHT_GROUP-clause-groups
returns-then-section-ne-SHT_GROUP-clause-groups c =
    let b = c.args.file.now.bytes.now in
    let sort = rw c.section-section.ensures at c.if-section-ne-SHT_GROUP.true in
    c.requires.groups ∙ groups_kept b c.args.index (untyped_group b c.args.index (ne_eqb (section_of b c.args.index).sh_type SHT_GROUP sort))

pub is_bad_header-requires-clause-within : goal.is_bad_header-requires-clause-within
is_bad_header-requires-clause-within c =
    let k = c.args.file.now in
    let sort = rw c.section-section.ensures at c.if-section-ne-SHT_GROUP.false in
    rw c.section-section.ensures (group_inside k.bytes.now c.args.index k.passed c.requires.low (omega (arith, k.counted, c.requires.index)) sort)

pub read_members-requires-clause-within : goal.read_members-requires-clause-within
read_members-requires-clause-within c =
    let k = c.args.file.now in
    let sort = rw c.section-section.ensures at c.if-section-ne-SHT_GROUP.false in
    rw c.section-section.ensures (group_inside k.bytes.now c.args.index k.passed c.requires.low (omega (arith, k.counted, c.requires.index)) sort)

pub mark-requires : goal.mark-requires
mark-requires c =
    let b = c.args.file.now.bytes.now in
    let ms = c.as_slice-2.result.now in
    let len : length c.args.taken.now ≡ section_count b = ap length c.requires.taken ∙ length-map-range_with_len (is_taken_before b c.args.index) 0 (section_count b) in
    let bad = is_bad_member b c.args.index in
    let none = ap (list_any bad) (c.as_slice-2.ensures.value ∙ sym c.as_slice.ensures.value) ∙ sym c.has_bad_member.ensures ∙ c.if-has_bad_member.false in
    λ k d lt.
    let m = is_member b c.args.index (get_or ms k d) (all_none bad ms none k d lt) in
    omega (arith, m.high, len)

pub group_in-requires-clause-within : goal.group_in-requires-clause-within
group_in-requires-clause-within c =
    let k = c.args.file.now in
    let sort = rw c.section-section.ensures at c.if-section-ne-SHT_GROUP.false in
    rw c.section-section.ensures (group_inside k.bytes.now c.args.index k.passed c.requires.low (omega (arith, k.counted, c.requires.index)) sort)

pub returns-clause-taken : goal.returns-clause-taken
returns-clause-taken c =
    let b = c.args.file.now.bytes.now in
    let sort = rw c.section-section.ensures at c.if-section-ne-SHT_GROUP.false in
    let group = typed_group b c.args.index c.requires.low sort in
    c.mark.ensures ∙ ap (with_marked c.args.taken.now) (c.as_slice-2.ensures.value ∙ c.in_ok-members.ensures)
    ∙ ap (λ marks. with_marked marks (members_of b c.args.index)) c.requires.taken ∙ taken_put b c.args.index group

pub returns-clause-groups : goal.returns-clause-groups
returns-clause-groups c =
    let b = c.args.file.now.bytes.now in
    let sort = rw c.section-section.ensures at c.if-section-ne-SHT_GROUP.false in
    let group = typed_group b c.args.index c.requires.low sort in
    ap (map group_view) c.in_ok-push.ensures.items ∙ map-append group_view c.args.groups.now.items (c.group_in.result ∷ [])
    ∙ ap (λ gs. gs ++ (group_view c.group_in.result ∷ [])) c.requires.groups
    ∙ ap (λ g. groups_before b c.args.index ++ (g ∷ [])) c.group_in.ensures ∙ groups_put b c.args.index group
