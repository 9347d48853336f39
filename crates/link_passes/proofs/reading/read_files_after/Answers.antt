use Rattle.std.proofs.Common.{◌∙◌, arith}
use Rattle.std.proofs.lemmas.List.{length-map}
use Rattle.lk_tables.specs.TablesView.{heads_of}
use Rattle.link_command.specs.Command.{lists_of}
use Rattle.link_passes.specs.Contents.{source_view, sources_of}
use Rattle.link_passes.proofs.FileFacts.{each_headed}
use Rattle.link_passes.proofs.Handing.{least_is, live_is, on_ok}
use Rattle.link_passes.proofs.InsideTables.{heads_on, inside_on}
use Rattle.link_passes.proofs.reading.read_files_after.Goals as goal

pub read_bodies-requires-clause-live : goal.read_bodies-requires-clause-live
read_bodies-requires-clause-live g c = λ κs bound.
    let ss = sources_of c.args.sources.now in
    c.as_slice.ensures.value ∙ c.in_ok-live.ensures.live
    ∙ live_is (lists_of c.args.undefined.now) ss (heads_of c.number_for_members.new.heads) (c.number_for_members.ensures ∙ c.in_ok-heads.ensures.heads)

pub read_bodies-requires-clause-headed : goal.read_bodies-requires-clause-headed
read_bodies-requires-clause-headed g c = λ κs bound f lt has.
    let n = length-map c.args.sources.now source_view in
    let few = c.in_ok-heads.ensures.few in
    each_headed c.args.limits.now c.args.sources.now c.as_slice.result.now c.in_ok-heads.ensures.goes (omega (arith, n, few)) f (omega (arith, n, lt)) has

pub returns-clause-taking_part : goal.returns-clause-taking_part
returns-clause-taking_part g c =
    on_ok c.read_bodies.result
    (least_is (lists_of c.args.undefined.now) (sources_of c.args.sources.now) (heads_of c.number_for_members.new.heads) c.in_ok-live.live.items
    (c.number_for_members.ensures ∙ c.in_ok-heads.ensures.heads) c.in_ok-live.ensures.live c.in_ok-live.ensures.least)

pub returns-clause-inside : goal.returns-clause-inside
returns-clause-inside g c = inside_on c.read_bodies.result

pub returns-clause-heads_inside : goal.returns-clause-heads_inside
returns-clause-heads_inside g c =
    let n = length-map c.args.sources.now source_view in
    let few = c.in_ok-heads.ensures.few in
    heads_on c.args.limits.now c.args.sources.now (lists_of c.args.undefined.now) c.in_ok-heads.ensures.goes (omega (arith, n, few)) c.read_bodies.result c.read_bodies.ensures.tables
