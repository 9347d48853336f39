use Rattle.std.proofs.Common.{◌≡◌, ℕ, ◌<◌, false}
use Rattle.eh_frame.specs.Sections.{is_rela_for}
use Rattle.eh_frame.proofs.sections.rela_of.Given as goal

-- none so far is one
abbrev pub invariant-loop-rela : goal.invariant-loop-rela
invariant-loop-rela l = (k : ℕ) → k < l.rela → is_rela_for l.sections l.section k ≡ false
