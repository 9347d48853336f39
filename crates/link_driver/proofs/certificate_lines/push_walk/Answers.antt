use Rattle.std.proofs.Common.{◌≡◌, ◌∙◌, ◌<◌, ◌++◌, append_assoc, arith, codes, drop, flat_map, get_or, length, sym, ap}
use Rattle.std.proofs.lemmas.List.{append-nil}
use Rattle.lk_tables.specs.BindingView.{binding_view}
use Rattle.lk_tables.specs.TablesView.{files_of}
use Rattle.link_driver.specs.Certificates.{section_line}
use Rattle.link_passes.specs.Contents.{names_of}
use Rattle.link_driver.proofs.Certifying.{walk_first, walk_none}
use Rattle.link_driver.proofs.certificate_lines.push_walk.Goals as goal

pub returns-then-walk-eq0 : goal.returns-then-walk-eq0
returns-then-walk-eq0 c =
    let walk = c.args.walk.now in
    let none : length walk ≡ 0 = omega (arith, c.if-walk-eq0.true) in
    sym (append-nil c.args.text.now.items)
    ∙ ap (λ l. c.args.text.now.items ++ l) (sym (walk_none (names_of c.args.names.now) (files_of c.args.tables.now) (binding_view c.args.binding.now) walk none))

pub loop-i-init : goal.loop-i-init
loop-i-init c =
    let names = names_of c.args.names.now in
    let files = files_of c.args.tables.now in
    let b = binding_view c.args.binding.now in
    let walk = c.args.walk.now in
    let old = c.args.text.now.items in
    let rest = flat_map (section_line names files b (codes "to")) (drop 1 walk) in
    let some : 0 < length walk = omega (arith, c.if-walk-eq0.false) in
    ap (λ l. l ++ rest) c.in_ok-push_section.ensures ∙ append_assoc old (section_line names files b (codes "root") (get_or walk 0 0)) rest
    ∙ ap (λ l. old ++ l) (sym (walk_first names files b walk some))
