use Rattle.std.proofs.Common.{◌∙◌, ◌+◌, ◌<◌, ◌≤◌, ◌++◌, append_assoc, drop, get_or, length, refl, rules, sym, ap}
use Rattle.std.proofs.lemmas.List.{append-nil}
use Rattle.lk_tables.specs.TablesView.{files_of}
use Rattle.link_sections.specs.FoldItems.{item_views}
use Rattle.link_driver.specs.Certificates.{met_line, via_lines}
use Rattle.link_passes.specs.Contents.{names_of}
use Rattle.link_driver.proofs.Certifying.{vias_end, vias_none, vias_on}
use Rattle.link_driver.proofs.certificate_lines.push_vias.Goals as goal

pub loop-i-init : goal.loop-i-init
loop-i-init c = record { one = c.requires.one; two = c.requires.two; rest = refl }

pub loop-i-preserved : goal.loop-i-preserved
loop-i-preserved c =
    let names = names_of c.args.names.now in
    let files = files_of c.args.tables.now in
    let views = item_views c.args.items.now in
    let vias = c.args.vias.now in
    let i = c.loop-i.i in
    let text = c.loop-i.text.items in
    let next = c.in-Some.next in
    let less : i < length vias = search rules in
    let line = met_line names files views (get_or vias i 0) next in
    let rest = via_lines names files views (drop (i + 1) vias) next in
    record {
      one = c.in-Some.ensures.within.0;
      two = c.in-Some.ensures.within.1;
      rest = ap (λ l. l ++ rest) c.in_ok-push_via.ensures ∙ append_assoc text line rest
          ∙ ap (λ l. text ++ l) (sym (vias_on names files views vias i c.loop-i.pair next less (sym c.in-Some.ensures.pair))) ∙ c.loop-i.invariant.rest;
    }

pub returns-in_default : goal.returns-in_default
returns-in_default c =
    let vias = c.args.vias.now in
    let text = c.loop-i.text.items in
    let less : c.loop-i.i < length vias = search rules in
    sym (append-nil text)
    ∙ ap (λ l. text ++ l) (sym (vias_none (names_of c.args.names.now) (files_of c.args.tables.now) (item_views c.args.items.now) vias c.loop-i.i c.loop-i.pair less (sym c.in_default.ensures.pair)))
    ∙ c.loop-i.invariant.rest

pub returns : goal.returns
returns c =
    let vias = c.args.vias.now in
    let text = c.loop-i.text.items in
    let past : length vias ≤ c.loop-i.i = search rules in
    sym (append-nil text)
    ∙ ap (λ l. text ++ l) (sym (vias_end (names_of c.args.names.now) (files_of c.args.tables.now) (item_views c.args.items.now) vias c.loop-i.i c.loop-i.pair past))
    ∙ c.loop-i.invariant.rest
