use Rattle.std.proofs.Common.{ℕ, Option, Some, ◌∙◌, ap, sym, subst, arith, List, [], map, take, get_or}
use Rattle.std.specs.Prelude.{if◌then◌else◌}
use Rattle.std.specs.Str.{bytes_eq}
use Rattle.lk_tables.specs.declared.classes.Class.TheVariants.{R}
use Rattle.link_sections.specs.declared.layouts.OutputPlace.{OutputPlace as HeldPlace}
use Rattle.link_sections.specs.LaidOut.{OutputPlace, place_view}
use Rattle.symbol_addresses.specs.declared.places.Extent.{Extent}
use Rattle.symbol_addresses.specs.Noted.{AreExtents, grown, noted}
use Rattle.symbol_addresses.proofs.NotedSteps.{extents_more, none_noted, view_more}
use Rattle.symbol_addresses.proofs.extents.Extents.of.Goals as goal

-- what is noted of a name once one more output section is there
abbrev told : (List ℕ → Option Extent) → OutputPlace → (name : List ℕ) → Option Extent
told old p name = if bytes_eq p.name name then Some (grown (old p.name) p) else old name

pub loop-place-init : goal.loop-place-init
loop-place-init c = none_noted c.new-known.result c.new-known.ensures.empty

pub loop-place-preserved : goal.loop-place-preserved
loop-place-preserved c =
    let places = c.args.layout.now.places.items in
    let i = c.loop-place.place-index in
    let same = c.deref-place-items.ensures.value in
    let P : List OutputPlace → Type 0 = λ ps. AreExtents ps (noted c.note.new.known) in
    let none : HeldPlace = record { name = record { ref_ptr = (0, 0); now = [] }; class = R; start = 0; end = 0 } in
    subst P (sym (view_more places i none (omega (arith, c.loop-place-test.true, c.deref-place-items.ensures.len))))
    (extents_more (map place_view (take i places)) (place_view (get_or places i none)) (noted c.loop-place.known) (noted c.note.new.known) c.loop-place.invariant
    (λ name. c.in_ok-note.ensures name ∙ ap (λ (ps : List HeldPlace). told (noted c.loop-place.known) (place_view (get_or ps i none)) name) same))
