-- Each option in turn.
use Rattle.std.proofs.Common.{◌∙◌, ap₂}
use Rattle.std.proofs.lemmas.Result.{IfOk-weaker}
use Rattle.clap.specs.Words.{with_rule}
use Rattle.link_command.specs.Grammar.{rvld_app}
use Rattle.link_command.proofs.grammar.command_line.Goals as goal

pub returns : goal.returns
unfolding rvld_app
returns c =
    let one = c.in_ok-arg.ensures.shape c.output_option.ensures.local ∙ ap₂ with_rule c.new.ensures.app c.output_option.ensures.rule in
    let two = c.in_ok-arg-2.ensures.shape c.map_option.ensures.local ∙ ap₂ with_rule one c.map_option.ensures.rule in
    let three = c.in_ok-arg-3.ensures.shape c.entry_option.ensures.local ∙ ap₂ with_rule two c.entry_option.ensures.rule in
    let four = c.in_ok-arg-4.ensures.shape c.threads_option.ensures.local ∙ ap₂ with_rule three c.threads_option.ensures.rule in
    let five = c.in_ok-arg-5.ensures.shape c.gc_option.ensures.local ∙ ap₂ with_rule four c.gc_option.ensures.rule in
    let six = c.in_ok-arg-6.ensures.shape c.icf_option.ensures.local ∙ ap₂ with_rule five c.icf_option.ensures.rule in
    let seven = c.in_ok-arg-7.ensures.shape c.relax_option.ensures.local ∙ ap₂ with_rule six c.relax_option.ensures.rule in
    let eight = c.in_ok-arg-8.ensures.shape c.strip_option.ensures.local ∙ ap₂ with_rule seven c.strip_option.ensures.rule in
    let nine = c.in_ok-arg-9.ensures.shape c.undefined_option.ensures.local ∙ ap₂ with_rule eight c.undefined_option.ensures.rule in
    let ten = c.in_ok-arg-10.ensures.shape c.unique_option.ensures.local ∙ ap₂ with_rule nine c.unique_option.ensures.rule in
    let eleven = c.in_ok-arg-11.ensures.shape c.why_live_option.ensures.local ∙ ap₂ with_rule ten c.why_live_option.ensures.rule in
    let twelve = c.in_ok-arg-12.ensures.shape c.why_apart_option.ensures.local ∙ ap₂ with_rule eleven c.why_apart_option.ensures.rule in
    let thirteen = c.in_ok-arg-13.ensures.shape c.generated_option.ensures.local ∙ ap₂ with_rule twelve c.generated_option.ensures.rule in
    IfOk-weaker c.arg-14.result _ _ (λ m h. h.shape c.files_argument.ensures.local ∙ ap₂ with_rule thirteen c.files_argument.ensures.rule) c.arg-14.ensures
