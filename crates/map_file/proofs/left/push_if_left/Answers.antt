use Rattle.std.proofs.Common.{◌≡◌, true, false, rules, sym, ◌∙◌}
use Rattle.map_file.proofs.LeftLines.{line_added, none_added}
use Rattle.map_file.proofs.left.push_if_left.Goals as goal

pub returns-then-not-is_left : goal.returns-then-not-is_left
returns-then-not-is_left c =
    let is : c.is_left.result ≡ false = search rules in
    none_added c.args.view.now c.args.left c.args.section c.args.text.now.items (sym c.is_left.ensures ∙ is)

pub returns : goal.returns
returns c =
    let is : c.is_left.result ≡ true = search rules in
    line_added c.args.view.now c.args.left c.args.section c.args.place c.args.text.now.items c.push_section.new.text.items c.word_of.result.now
    (sym c.is_left.ensures ∙ is) c.requires.place c.word_of.ensures c.in_ok-push_section.ensures
