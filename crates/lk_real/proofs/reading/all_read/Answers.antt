use Rattle.std.proofs.Common.{◌≡◌, ◌++◌, ◌∷◌, [], true, is_ok, rules}
use Rattle.work_split.proofs.Sharing.{taken_more}
use Rattle.lk_real.proofs.ReadSteps.{file_more, file_unread}
use Rattle.lk_real.proofs.reading.all_read.Goals as goal

pub loop-file-preserved : goal.loop-file-preserved
loop-file-preserved c =
    let before = c.loop-file.invariant in
    let ok : is_ok c.push.result ≡ true = c.if-is_err.ensures.negation in
    let grown : c.push.new.self.items ≡ c.loop-file.contents.items ++ c.in-Some-file.bytes ∷ [] = rw ok at c.push.ensures.items in (
      tt,
      tt,
      taken_more c.loop-file.yielded _ _ c.args.files.items c.in-Some.file before.2 c.in-Some.ensures.steps.0,
      file_more c.loop-file.yielded c.loop-file.contents.items c.push.new.self.items c.in-Some.file c.in-Some-file.bytes before.3 (search rules) grown,
    )

pub returns-in_default-file : goal.returns-in_default-file
returns-in_default-file c =
    let before = c.loop-file.invariant in
    file_unread c.loop-file.yielded _ _ c.args.files.items c.loop-file.contents.items c.in-Some.file c.len-in_default-file.result before.2 c.in-Some.ensures.steps.0 (search rules) before.3 (search rules)
