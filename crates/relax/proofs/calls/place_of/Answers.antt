use Rattle.std.proofs.Common.{◌≤◌, ◌<◌, ap, sym, ◌∙◌, arith, rules, length}
use Rattle.std.proofs.lemmas.List.FromFn.{length-map-range_with_len}
use Rattle.lk_tables.specs.Files.{section_total}
use Rattle.lk_tables.specs.TablesView.{files_of}
use Rattle.relax.specs.CallSizes.{place_in}
use Rattle.relax.proofs.Places.{no_place, place_at}
use Rattle.relax.proofs.calls.place_of.Goals as goal

pub returns-in-Some : goal.returns-in-Some
returns-in-Some c =
    let scene = c.args.scene.now in
    let lt : c.args.section < length scene.places.now = search rules in
    c.in-Some.ensures.lookup.1 ∙ place_at scene.members.now scene.places.now c.args.section (section_total (files_of scene.tables.now)) _ scene.placed lt

pub returns-in-None : goal.returns-in-None
returns-in-None c =
    let scene = c.args.scene.now in
    let total = section_total (files_of scene.tables.now) in
    let past : length scene.places.now ≤ c.args.section = search rules in
    let few = ap length scene.placed ∙ length-map-range_with_len (place_in scene.members.now) 0 total in
    sym (no_place scene.members.now c.args.section total scene.within (omega (arith, past, few)))
