use Rattle.std.proofs.Common.{◌≡◌, ◌==◌, true, if◌then◌else◌, sym, ap, ◌∙◌}
use Rattle.std.proofs.lemmas.Bool.{cond-true, cond-false, not-true}
use Rattle.lk_base.specs.declared.abi.TheConstants.{STB_LOCAL}
use Rattle.lk_tables.specs.Files.{File, file_at, is_visible, symbol_at}
use Rattle.lk_tables.specs.NameNumbers.{name_number}
use Rattle.lk_tables.specs.Ranks.{no_rank}
use Rattle.lk_tables.specs.TablesView.{files_of}
use Rattle.sym_resolve.specs.Claims.{rank_at, rank_by}
use Rattle.name_numbers.proofs.NameWords.{word_read}
use Rattle.sym_resolve.proofs.ranks.symbol_rank.Goals as goal

pub returns : goal.returns
unfolding rank_by
returns c =
    let files = files_of c.args.tables.now in
    let f = c.args.f in
    let i = c.args.i in
    let s = symbol_at (file_at files f) i in
    let row = c.args.least.now in
    let own : c.symbol.result ≡ s = c.symbol.ensures ∙ ap (λ (x : File). symbol_at x i) c.file-file.ensures in
    let live : (file_at files f).live ≡ true = ap (λ (x : File). x.live) (sym c.file-file.ensures) ∙ sym c.if-not-is_live.ensures in
    let other = not-true (s.binding == STB_LOCAL) (ap is_visible (sym own) ∙ sym c.if-not-is_visible.ensures) in
    c.rank_at.ensures ∙ ap (rank_at row) (word_read files c.args.names.now f i c.number.result c.number.ensures c.requires.numbered c.requires.file c.requires.symbol)
    ∙ sym (cond-true (file_at files f).live (if s.binding == STB_LOCAL then no_rank else rank_at row (name_number files f i)) no_rank live
    ∙ cond-false (s.binding == STB_LOCAL) no_rank (rank_at row (name_number files f i)) other)
