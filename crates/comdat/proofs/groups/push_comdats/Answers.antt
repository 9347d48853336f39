use Rattle.std.proofs.Common.{◌≡◌, ◌∷◌, [], ◌++◌, ◌+◌, ◌<◌, List, length, map, take, get_or, refl, sym, ap, ◌∙◌, subst, arith}
use Rattle.std.specs.Prelude.{flat_map}
use Rattle.std.proofs.lemmas.List.{get_or-map, length-map, map_push}
use Rattle.lk_tables.specs.FileView.{file_view}
use Rattle.lk_tables.specs.Names.{text_of}
use Rattle.lk_tables.specs.Objects.{GroupView, group_view}
use Rattle.comdat.specs.declared.groups.ComdatGroup.{ComdatGroup}
use Rattle.comdat.specs.Comdats.{comdat_view, comdat_views}
use Rattle.comdat.specs.Discarded.{comdat_of}
use Rattle.comdat.proofs.GroupLists.{comdat_next, comdat_skip, comdats_all, made}
use Rattle.comdat.proofs.groups.push_comdats.Goals as goal
use Rattle.comdat.proofs.groups.push_comdats.Goals.{then-group+in_ok-push, else-group}

pub loop-group-preserved : goal.loop-group-preserved
loop-group-preserved c =
    let b = c.args.file.now.bytes.now in
    let f = c.args.number in
    let lent = c.groups-group-items.result.now in
    let i = c.loop-group.group-index in
    let base = comdat_views c.args.list.now.items in
    let old = comdat_views c.loop-group.list.items in
    let groups : List GroupView = map group_view lent in
    let g : GroupView = group_view c.group-item.result in
    let lt : i < length groups = omega (arith, length-map lent group_view) in
    let read : get_or groups i g ≡ g = get_or-map group_view lent i c.group-item.result g c.loop-group-test.true ∙ ap group_view (sym c.group-item.is) in
    let P : List ComdatGroup → Type 0 = λ list. comdat_views list ≡ base ++ flat_map (comdat_of b f) (take (i + 1) groups) in
    elim c.if-group.branch [
      | then-group+in_ok-push w ↦
          let text = w.text_of.ensures ∙ ap (λ x. text_of x c.group-item.result.signature) w.bytes.ensures in
          let push = ap comdat_views w.in_ok-push.ensures.items ∙ map_push comdat_view c.loop-group.list.items _
          ∙ ap (λ m. old ++ made f g.section w.text_of.result.now m ∷ []) w.as_slice.ensures.value in
          subst P (sym (ap (λ v. v.items) w.list-is)) (comdat_next b f groups i g g base old (comdat_views w.push.new.self.items) w.text_of.result.now lt read w.if-group.true text push c.loop-group.invariant)
      | else-group w ↦ subst P (sym (ap (λ v. v.items) w.list-is)) (comdat_skip b f groups i g g base old lt read w.if-group.false c.loop-group.invariant)
    ]

pub returns : goal.returns
returns c = comdats_all c.args.file.now.object (file_view c.args.file.now) c.args.number c.loop-group.group-index (map group_view c.groups-group-items.result.now) (comdat_views c.args.list.now.items) (comdat_views c.loop-group.list.items)
    refl refl c.groups-group-items.ensures (omega (arith, length-map c.groups-group-items.result.now group_view)) c.loop-group.invariant
