use Rattle.std.proofs.Common.{◌≡◌, ℕ, ◌<◌, ◌≤◌, false, sym, ap, ◌∙◌, subst, ⊎_elim, arith}
use Rattle.std.proofs.lemmas.Bool.{cases_lt}
use Rattle.lk_tables.specs.FileView.{file_views}
use Rattle.lk_tables.specs.Files.{File, file_at}
use Rattle.lk_tables.proofs.FirstNumbers.{file_read}
use Rattle.file_live.proofs.live_files.has_member.Goals as goal

pub loop-f-preserved : goal.loop-f-preserved
loop-f-preserved c =
    let files = file_views c.args.files.now in
    let f = c.loop-f.f in
    let own : (file_at files f).member ≡ false = ap (λ (x : File). x.member) (sym (file_read c.args.files.now f c.index-files-f.result c.loop-f-test.true c.index-files-f.is)) ∙ sym c.is_member.ensures ∙ c.if-is_member.false in
    λ g lt. ⊎_elim
    (λ (low : g < f). c.loop-f.invariant g low)
    (λ (high : f ≤ g). let same : f ≡ g = omega (arith, lt, high) in let P : ℕ → Type 0 = λ k. (file_at files k).member ≡ false in subst P same own)
    (cases_lt g f)
